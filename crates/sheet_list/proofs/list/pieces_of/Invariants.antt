use Rattle.std.proofs.Common.{◌≡◌, Some, take}
use Rattle.plot_rack.specs.ListPlotter.{piece_list, plot_of}
use Rattle.sheet_list.proofs.list.pieces_of.Given as goal

-- the strokes so far stand on the page
abbrev pub invariant-loop-stroke : goal.invariant-loop-stroke
invariant-loop-stroke l = plot_of l.list ≡ piece_list (Some (l.width, l.height)) (take l.stroke-index l.strokes)
