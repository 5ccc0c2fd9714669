use Rattle.std.proofs.Common.{◌≡◌, ◌+◌, ◌≤◌, length}
use Rattle.std.specs.Prelude.{IfSome}
use Rattle.geometry.specs.Parts.{part_of}
use Rattle.solid_mesh.specs.inner.Searches.{Searched, IsOfPlaces}
use Rattle.solid_mesh.proofs.search.search_edge.Given as goal

abbrev pub invariant-loop-end : goal.invariant-loop-end
invariant-loop-end l = record {
  low : l.end ≤ length l.subtrees;
  searched : Searched (part_of l.soup) l.halves (IsOfPlaces (part_of l.soup) l.halves l.edge l.placed l.end (length l.subtrees)) l.initial.found l.found;
  here : IfSome l.found.first (λ m. m.edge ≡ l.edge);
  boxes : l.found.meter.boxes + l.end ≤ l.initial.found.meter.boxes + length l.subtrees;
  pairs : l.found.meter.pairs + l.end ≤ l.initial.found.meter.pairs + length l.subtrees;
}

abbrev pub decreases-loop-end : goal.decreases-loop-end
decreases-loop-end l = l.end
