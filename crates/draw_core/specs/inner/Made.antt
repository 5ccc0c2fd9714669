-- The files that are made of a drawing before the first is kept.
use Rattle.std.specs.Prelude.{◌≡◌, ℕ, List, [], ◌∷◌, map, slice_get, Some, unwrap_or}
use Rattle.plot_rack.specs.Plotters.{Plot, text_of}
use Rattle.draw_core.specs.Outputs.{File, plot_name, place_of}
use Rattle.draw_core.specs.declared.outputs.Output.{Output}

-- the name and the bytes
abbrev pub file_seen : Output → File
file_seen output = (output.name, output.bytes.items)

-- the file of a plotter that has drawn, beside a drawing with this name
abbrev pub file_of_plot : List ℕ → Plot → File
file_of_plot out plot = (plot_name out plot.suffix, unwrap_or (text_of plot) [])

-- the files of a drawing with this name and text, and of these boxes, each with its place
pub record AreOutputs {B : Type 0} (plot_of : B → Plot) (out text : List ℕ) (boxes : List B) (outputs : List Output) : Type 0 where
  pub files : map file_seen outputs ≡ (out, text) ∷ map (λ b. file_of_plot out (plot_of b)) boxes
  pub places : (i : ℕ) (output : Output) → slice_get outputs i ≡ Some output → place_of output.target ≡ Some i
