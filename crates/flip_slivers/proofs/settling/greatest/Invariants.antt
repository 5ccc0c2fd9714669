use Rattle.flip_slivers.proofs.SettlingLemmas.{IsGreatestOfFirst}
use Rattle.flip_slivers.proofs.settling.greatest.Given as goal

abbrev pub invariant-loop-x : goal.invariant-loop-x
invariant-loop-x l = IsGreatestOfFirst l.surface l.x-index l.most
