-- The lines that tell of views whose visible lines are near one another.
use Rattle.std.specs.Prelude.{ℕ, zero, suc, ◌+◌, List, [], ◌∷◌, ◌++◌, codes}
use Rattle.std.specs.Fmt.{decimal}
use Rattle.job_file.specs.declared.job.Scale.{Scale}
use Rattle.near_lines.specs.Scales.{nearness_of}
use Rattle.near_lines.specs.Sides.{sides_in}
use Rattle.near_lines.specs.declared.scales.Nearness.{Nearness}
use Rattle.near_lines.specs.declared.scales.Nearness.TheVariants.{Apart, ApartAt, Close}
use Rattle.near_lines.specs.declared.sides.Side.{Side}
use Rattle.sheet_page.specs.declared.page.Item.{Item}
use Rattle.sheet_page.specs.declared.page.Item.TheVariants as item
use Rattle.svg_page.specs.Texts.{◌⊕◌}

-- the sides of what stands on a page under this number, if it is a visible path of this view
abbrev pub sides_of : ℕ → ℕ → Item → List Side
sides_of view number (item.Path path) = sides_in view number path
sides_of view number other = []

-- those of all that stands there from this number on
abbrev pub sides_from : ℕ → ℕ → List Item → List Side
sides_from view number [] = []
sides_from view number (i ∷ items) = sides_of view number i ++ sides_from view (number + 1) items

-- what is said of a view's visible lines, if they are near one another
abbrev pub near_text : ℕ → Nearness → List ℕ
near_text view Apart = []
near_text view (ApartAt s) =
    codes "view " ⊕ decimal view ⊕ codes ": lines within 0.5 mm of one another: a scale of " ⊕ decimal s.num ⊕ codes ":" ⊕ decimal s.den ⊕ codes " shows them apart\n"
near_text view Close = codes "view " ⊕ decimal view ⊕ codes ": lines within 0.5 mm of one another: pieces detail shows them apart\n"

-- the line of a view, on a page of this scale
abbrev pub near_line : Scale → List Item → ℕ → List ℕ
near_line scale items view = near_text view (nearness_of scale (sides_from view 0 items))

-- those of the first so many views
abbrev pub near_lines : Scale → List Item → ℕ → List ℕ
near_lines scale items zero = []
near_lines scale items (suc n) = near_lines scale items n ++ near_line scale items n
