-- What a text for CAD programs stands for, as a plotter.
use Rattle.std.specs.Prelude.{ℤ, List, Option, codes}
use Rattle.sheet_plan.specs.declared.sheet.Stroke.{Stroke}
use Rattle.plot_rack.specs.Dxf.{dxf_of}
use Rattle.plot_rack.specs.Plotters.{Plot}
use Rattle.plot_rack.specs.declared.dxf.DxfPlotter.{DxfPlotter}

-- one with this page and these strokes
abbrev pub dxf : Option (ℤ × ℤ) → List Stroke → Plot
dxf page strokes = record { suffix = codes "dxf"; page = page; strokes = strokes; paper = dxf_of }

abbrev pub plot_of : DxfPlotter → Plot
plot_of plotter = dxf plotter.page plotter.strokes.items
