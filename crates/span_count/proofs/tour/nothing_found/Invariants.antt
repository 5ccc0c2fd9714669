use Rattle.std.proofs.Common.{◌≡◌, vec_len}
use Rattle.span_count.proofs.tour.nothing_found.Given as goal

-- one of each for each edge so far
abbrev pub invariant-loop-edge : goal.invariant-loop-edge
invariant-loop-edge l = record { entries : vec_len l.entries ≡ l.edge-index; ends : vec_len l.ends ≡ l.edge-index }
