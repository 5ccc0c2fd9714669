use Rattle.std.proofs.Common.{◌≡◌, ℕ, ◌<◌, Some, None}
use Rattle.std.specs.Prelude.{slice_get}
use Rattle.flip_slivers.specs.inner.Partners.{ArePartners, IsAlone}
use Rattle.flip_slivers.proofs.pairs.find_partners.Given as goal

abbrev pub invariant-loop-place : goal.invariant-loop-place
invariant-loop-place l = record {
  partners : ArePartners l.triangles l.partners.items;
  others : (k : ℕ) → k < l.place → slice_get l.partners.items k ≡ Some None → IsAlone l.triangles l.partners.items k;
}
