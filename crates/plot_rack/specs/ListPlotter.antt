-- What a piece list stands for, as a plotter.
use Rattle.std.specs.Prelude.{ℤ, List, Option, codes}
use Rattle.sheet_plan.specs.declared.sheet.Stroke.{Stroke}
use Rattle.plot_rack.specs.Lists.{list_of}
use Rattle.plot_rack.specs.Plotters.{Plot}
use Rattle.plot_rack.specs.declared.list.ListPlotter.{ListPlotter}

-- one with this page and these strokes
abbrev pub piece_list : Option (ℤ × ℤ) → List Stroke → Plot
piece_list page strokes = record { suffix = codes "pieces"; page = page; strokes = strokes; paper = list_of }

abbrev pub plot_of : ListPlotter → Plot
plot_of list = piece_list list.page list.strokes.items
