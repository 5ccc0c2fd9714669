use Rattle.std.proofs.Common.{◌≡◌, subst, arith, to_z, of_z, ◌≤◌, ◌^◌, unsigned_abs}
use Rattle.std.specs.Int.{w64}
use Rattle.std.specs.Prelude.{ℤ, pos, ◌+ℤ◌, ◌-ℤ◌, ◌*ℤ◌, ◌≤ℤ◌, ◌<ℤ◌}
use Rattle.std.proofs.lemmas.Int.{ints}
use Rattle.meeting.proofs.BoxAxes.{read}
use Rattle.solid_mesh.proofs.BoundLemmas.{difference_read}
use Rattle.solid_mesh.proofs.PassingLemmas.{left_by_sum}
use Rattle.solid_mesh.proofs.passing.is_left.Goals as goal

pub returns : goal.returns
returns c test u v in_u in_v =
    let s = c.args in
    let r = c.requires in
    let left = c.least_product-to_left.result in
    let right = c.least_product-not_to_right.result in
    let over_u : right ≤ℤ ((s.from_v -ℤ s.to_v) *ℤ (u -ℤ s.from_u)) =
    subst (λ (z : ℤ). right ≤ℤ z) (λ i. difference_read s.from_v s.to_v r.from_v r.to_v i *ℤ (u -ℤ read s.from_u r.from_u i)) (c.least_product-not_to_right.ensures.least u in_u) in
    let over_v : left ≤ℤ ((s.to_u -ℤ s.from_u) *ℤ (v -ℤ s.from_v)) =
    subst (λ (z : ℤ). left ≤ℤ z) (λ i. difference_read s.to_u s.from_u r.to_u r.from_u i *ℤ (v -ℤ read s.from_v r.from_v i)) (c.least_product-to_left.ensures.least v in_v) in
    let sum : to_z w64 (of_z w64 (to_z w64 (of_z w64 left) +ℤ to_z w64 (of_z w64 right))) ≡ left +ℤ right = whole left right c.least_product-to_left.ensures.size c.least_product-not_to_right.ensures.size in
    let more : pos 0 <ℤ to_z w64 (of_z w64 (to_z w64 (of_z w64 left) +ℤ to_z w64 (of_z w64 right))) = omega (arith, ints) in
    left_by_sum s.from_u s.to_u s.from_v s.to_v u v left right over_v over_u (subst (λ (z : ℤ). pos 0 <ℤ z) sum more)
  where
    whole : (l r : ℤ) → unsigned_abs l ≤ 2 ^ 54 → unsigned_abs r ≤ 2 ^ 54 → to_z w64 (of_z w64 (to_z w64 (of_z w64 l) +ℤ to_z w64 (of_z w64 r))) ≡ l +ℤ r
    whole l r h g = omega (arith, ints)
