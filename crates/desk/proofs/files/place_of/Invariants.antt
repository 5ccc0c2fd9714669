use Rattle.std.proofs.Common.{◌≡◌, None, take}
use Rattle.desk.specs.Files.{named_at}
use Rattle.desk.proofs.files.place_of.Given as goal

-- none so far has the name
abbrev pub invariant-loop-i : goal.invariant-loop-i
invariant-loop-i g l = named_at (take l.i l.named) l.name ≡ None
