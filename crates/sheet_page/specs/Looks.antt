-- How the lines of a page are drawn.
use Rattle.std.specs.Prelude.{ℕ, List, [], false, true, codes}
use Rattle.std.specs.Fmt.{decimal}
use Rattle.sheet_plan.specs.LineKinds.{Look, look_of}
use Rattle.sheet_plan.specs.declared.sheet.Mark.{Mark}
use Rattle.sheet_plan.specs.declared.sheet.Mark.TheVariants as mark
use Rattle.sheet_page.specs.Chains.{pattern}
use Rattle.sheet_page.specs.Pens.{wide_of, narrow_of}
use Rattle.sheet_page.specs.declared.page.Pen.{Pen}
use Rattle.sheet_page.specs.declared.page.Pen.TheVariants.{Thin, Strong, Visible, Chain}
use Rattle.sheet_page.specs.declared.pens.Pens.{Pens}

-- lines of a view: visible ones wide and with round ends, all others narrow; hidden paths have dashes of their own
abbrev pub mark_look : Pens → Mark → Look
mark_look pens mark.Solid = record { class = (look_of mark.Solid).class; width = decimal (wide_of pens); round = true; dashes = [] }
mark_look pens mark.Dashed = record { class = (look_of mark.Dashed).class; width = decimal (narrow_of pens); round = false; dashes = [] }
mark_look pens mark.Chain = record { class = (look_of mark.Chain).class; width = decimal (narrow_of pens); round = false; dashes = pattern pens }
mark_look pens mark.Hatch = record { class = (look_of mark.Hatch).class; width = decimal (narrow_of pens); round = false; dashes = [] }

-- lines of title blocks, which are as wide on each page; a visible line of no view is drawn as one of a view, and a chain line as the trace of a cut
abbrev pub thin_look : Look
thin_look = record { class = codes "thin"; width = codes "25"; round = false; dashes = [] }

abbrev pub strong_look : Look
strong_look = record { class = codes "strong"; width = codes "35"; round = true; dashes = [] }

-- the class of a rule
abbrev pub rule_class : Pen → List ℕ
rule_class Thin = thin_look.class
rule_class Strong = strong_look.class
rule_class Visible = (look_of mark.Solid).class
rule_class Chain = (look_of mark.Chain).class
