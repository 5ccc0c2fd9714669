-- What a text for pen plotters stands for, as a plotter.
use Rattle.std.specs.Prelude.{ℤ, List, Option, codes}
use Rattle.sheet_plan.specs.declared.sheet.Stroke.{Stroke}
use Rattle.plot_rack.specs.Hpgl.{hpgl_of}
use Rattle.plot_rack.specs.Plotters.{Plot}
use Rattle.plot_rack.specs.declared.hpgl.HpglPlotter.{HpglPlotter}

-- one with this page and these strokes
abbrev pub hpgl : Option (ℤ × ℤ) → List Stroke → Plot
hpgl page strokes = record { suffix = codes "hpgl"; page = page; strokes = strokes; paper = hpgl_of }

abbrev pub plot_of : HpglPlotter → Plot
plot_of plotter = hpgl plotter.page plotter.strokes.items
