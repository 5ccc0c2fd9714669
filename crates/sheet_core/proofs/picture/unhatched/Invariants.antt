use Rattle.std.proofs.Common.{◌≡◌, take}
use Rattle.sheet_core.specs.Pages.{unhatched}
use Rattle.sheet_core.proofs.picture.unhatched.Given as goal

-- the strokes so far that are no hatch lines
abbrev pub invariant-loop-stroke : goal.invariant-loop-stroke
invariant-loop-stroke l = l.kept.items ≡ unhatched (take l.stroke-index l.strokes)
