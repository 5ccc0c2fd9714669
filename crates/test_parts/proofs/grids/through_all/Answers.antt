use Rattle.std.proofs.Common.{◌≡◌, ℕ, List, ap, sym, subst, arith}
use Rattle.cross_find.specs.Sights.{SightState}
use Rattle.cross_find.specs.SolidSights.{state_of}
use Rattle.edge_pick.specs.Picked.{IsPicked}
use Rattle.edge_pick.specs.declared.Picked.{Picked}
use Rattle.geometry.specs.Parts.{Part}
use Rattle.lattice.specs.Triple.{Triple}
use Rattle.span_count.specs.Bounds.{IsBound}
use Rattle.span_count.specs.Finders.{IsPickedIn}
use Rattle.test_parts.proofs.grids.through_all.Goals as goal

-- picked of what is seen
picked_in : (x : SightState) (d : Triple) (fraction : ℕ) (s : Part) (halves : List ℕ) (p : Picked) (n : ℕ) → x ≡ record { part = s; halves = halves; direction = d; tests = n } → IsPicked d fraction s halves p → IsPickedIn x p
picked_in x d fraction s halves p n e h = (fraction, subst (λ (y : SightState). IsPicked y.direction fraction y.part y.halves p) (sym e) h)

pub spans_counted-requires-clause-finder : goal.spans_counted-requires-clause-finder
spans_counted-requires-clause-finder c = c.new.ensures.law (state_of c.new-sight.result) (picked_in _ _ _ _ _ _ _ c.new-sight.ensures c.in_ok-picked.ensures)

pub spans_counted-requires-clause-room : goal.spans_counted-requires-clause-room
spans_counted-requires-clause-room c = (
  c.bound-most.result,
  subst (λ (y : SightState). IsBound y.part y.halves c.in_ok-picked.picked c.bound-most.result) (sym c.new-sight.ensures) c.bound-most.ensures.bound,
  let none = ap (λ (y : SightState). y.tests) c.new-sight.ensures in omega (arith, c.bound-most.ensures.size, none),
)
