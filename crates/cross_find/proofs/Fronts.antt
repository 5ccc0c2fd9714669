-- Next to an end of an edge a face that is not edge-on is nearer exactly where four linear values say so.
use Rattle.std.proofs.Common.{◌≡◌, inl, inr, sym, subst}
use Rattle.std.specs.Prelude.{ℤ, pos, ◌<ℤ◌, ◌≤ℤ◌}
use Rattle.std.proofs.lemmas.Int.{by_lt_z}
use Rattle.integers.proofs.Comparisons.{zero_between, positive_not_negative, positive_not_zero, negative_not_zero, less_not_at_most}
use Rattle.lattice.specs.declared.points.Corner.{Corner}
use Rattle.lattice.specs.Triple.{Triple}
use Rattle.lattice.specs.Points.{point_of}
use Rattle.geometry.specs.Faces.{FaceHides, facing_of, share_point}
use Rattle.hiding_laws.specs.Values.{value_at, side_of, depth_of, IsBehind}
use Rattle.hiding_laws.proofs.Values.{side-share, depth-share}
use Rattle.hiding_laws.proofs.Hiding.{hides-front, hides-turned}
use Rattle.cross_find.specs.Ends.{HoldsNext, HidesFrom, IsNotBelow, IsAbove}
use Rattle.cross_find.proofs.Next.{next_map, next_both, above_next, not_below_next, above_of_next, not_below_of_next}

-- a side's value that is at least 0 at the end, and not 0 there and below 0 at the other end
pub not_below : (here there : ℤ) → pos 0 ≤ℤ here → ((here ≡ pos 0) × (there <ℤ pos 0) → ⊥) → IsNotBelow here there
not_below here there least stays =
    by_lt_z (pos 0) here (λ positive. inl positive)
    (λ most. let none = zero_between here least most in inr (none, by_lt_z there (pos 0) (λ below. absurd (stays (none, below))) (λ more. more)))

pub inside_of : (here there : ℤ) → IsNotBelow here there → here <ℤ pos 0 → ⊥
inside_of here there (inl h) below = positive_not_negative here h below
inside_of here there (inr h) below = negative_not_zero here below h.0

pub stays_of : (here there : ℤ) → IsNotBelow here there → (here ≡ pos 0) × (there <ℤ pos 0) → ⊥
stays_of here there (inl h) leaves = positive_not_zero here h leaves.0
stays_of here there (inr h) leaves = less_not_at_most there (pos 0) leaves.1 h.1

-- the order of the corners does not count
pub from_turned : (d : Triple) (a b c o q : Corner) → HidesFrom d a b c o q → HidesFrom d a c b o q
from_turned d a b c o q =
    next_map (λ k l. FaceHides d a b c (share_point o q k l)) (λ k l. FaceHides d a c b (share_point o q k l)) (λ k l hk hl h. hides-turned d a b c (share_point o q k l) h)

module _ (d : Triple) (a b c o q : Corner) (front : pos 0 <ℤ facing_of d a b c) where
  abbrev Behind : ℤ → ℤ → Type 0
  Behind k l = IsBehind d a b c (share_point o q k l)

  abbrev side_here : Corner → Corner → ℤ
  side_here k l = side_of d k l (point_of o)

  abbrev side_there : Corner → Corner → ℤ
  side_there k l = side_of d k l (point_of q)

  abbrev depth_here : ℤ
  depth_here = depth_of a b c (point_of o)

  abbrev depth_there : ℤ
  depth_there = depth_of a b c (point_of q)

  -- a side's value is at least 0, and the depth is above 0
  abbrev OnSide : Corner → Corner → ℤ → ℤ → Type 0
  OnSide i j k l = pos 0 ≤ℤ value_at (side_here i j) (side_there i j) k l

  abbrev Deep : ℤ → ℤ → Type 0
  Deep k l = pos 0 <ℤ value_at depth_here depth_there k l

  behind_next : HidesFrom d a b c o q → HoldsNext Behind
  behind_next = next_map (λ k l. FaceHides d a b c (share_point o q k l)) Behind (λ k l hk hl h. (hides-front d a b c (share_point o q k l) hl front).0 h)

  pub side_next : (i j : Corner) → ((k l : ℤ) → Behind k l → pos 0 ≤ℤ side_of d i j (share_point o q k l)) → HidesFrom d a b c o q → IsNotBelow (side_here i j) (side_there i j)
  side_next i j least h = not_below_of_next (side_here i j) (side_there i j)
      (next_map Behind (OnSide i j) (λ k l hk hl behind. subst (λ (x : ℤ). pos 0 ≤ℤ x) (side-share d o q k l i j) (least k l behind)) (behind_next h))

  pub depth_next : HidesFrom d a b c o q → IsAbove depth_here depth_there
  depth_next h = above_of_next depth_here depth_there
      (next_map Behind Deep (λ k l hk hl behind. subst (λ (x : ℤ). pos 0 <ℤ x) (depth-share d o q k l a b c) behind.depth) (behind_next h))

  pub hides_from : IsNotBelow (side_here a b) (side_there a b) → IsNotBelow (side_here b c) (side_there b c) → IsNotBelow (side_here c a) (side_there c a) → IsAbove depth_here depth_there → HidesFrom d a b c o q
  hides_from ab bc ca deep =
      next_map (λ k l. (OnSide a b k l × OnSide b c k l) × (OnSide c a k l × Deep k l)) (λ k l. FaceHides d a b c (share_point o q k l))
      (λ k l hk hl h. (hides-front d a b c (share_point o q k l) hl front).1 (record {
        ab = subst (λ (x : ℤ). pos 0 ≤ℤ x) (sym (side-share d o q k l a b)) h.0.0;
        bc = subst (λ (x : ℤ). pos 0 ≤ℤ x) (sym (side-share d o q k l b c)) h.0.1;
        ca = subst (λ (x : ℤ). pos 0 ≤ℤ x) (sym (side-share d o q k l c a)) h.1.0;
        depth = subst (λ (x : ℤ). pos 0 <ℤ x) (sym (depth-share d o q k l a b c)) h.1.1;
      }))
      (next_both (λ k l. OnSide a b k l × OnSide b c k l) (λ k l. OnSide c a k l × Deep k l)
      (next_both (OnSide a b) (OnSide b c) (not_below_next (side_here a b) (side_there a b) ab) (not_below_next (side_here b c) (side_there b c) bc))
      (next_both (OnSide c a) Deep (not_below_next (side_here c a) (side_there c a) ca) (above_next depth_here depth_there deep)))
