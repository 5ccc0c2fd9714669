-- Heights that are read from coordinates, and values in a cut view.
use Rattle.std.proofs.Common.{◌≡◌, ◌⊎◌, inl, inr, Bool, false, ap, ◌∙◌, arith}
use Rattle.std.specs.Prelude.{ℤ, pos, neg_ℤ, ◌-ℤ◌, ◌<ℤ◌, ◌≤ℤ◌}
use Rattle.std.proofs.lemmas.Int.{ints, by_lt_z}
use Rattle.lattice.specs.declared.points.Axis.{Axis}
use Rattle.lattice.specs.declared.points.Corner.{Corner}
use Rattle.lattice.specs.Triple.{dot}
use Rattle.lattice.specs.Points.{of_corner}
use Rattle.lattice.specs.Cuts.{Plane, unit_of, side_of, toward_of, level_of}
use Rattle.span_slow.proofs.Axes.{dot_negated}

-- seen from the low side, heights go against the axis
pub down_low : (q : Plane) (k : Corner) (axis : Axis) (at along : ℤ) → q.from_high ≡ false → axis ≡ q.axis → at ≡ q.at → along ≡ dot (unit_of axis) (of_corner k)
    → along -ℤ at ≡ level_of q -ℤ dot (toward_of q) (of_corner k)
down_low q k axis at along low same place value =
    let level : level_of q ≡ neg_ℤ q.at = ap (λ (b : Bool). level_of (record { axis = q.axis; at = q.at; from_high = b })) low in
    let height : dot (toward_of q) (of_corner k) ≡ pos 0 -ℤ dot (unit_of q.axis) (of_corner k) =
    ap (λ (b : Bool). dot (side_of q.axis b) (of_corner k)) low ∙ dot_negated (unit_of q.axis) (of_corner k) in
    let read : along ≡ dot (unit_of q.axis) (of_corner k) = value ∙ ap (λ (a : Axis). dot (unit_of a) (of_corner k)) same in
    go along at q.at (level_of q) (dot (toward_of q) (of_corner k)) (dot (unit_of q.axis) (of_corner k)) level height read place
  where
    go : (along at place level height u : ℤ) → level ≡ neg_ℤ place → height ≡ pos 0 -ℤ u → along ≡ u → at ≡ place → along -ℤ at ≡ level -ℤ height
    go along at place level height u e f g h = omega (arith, ints)

-- ---- a value that is not positive at an end
pub none_positive : (f g : ℤ) → ¬ ((pos 0 <ℤ f) ⊎ (pos 0 <ℤ g)) → (f ≤ℤ pos 0) × (g ≤ℤ pos 0)
none_positive f g none = (by_lt_z (pos 0) f (λ h. absurd (none (inl h))) (λ h. h), by_lt_z (pos 0) g (λ h. absurd (none (inr h))) (λ h. h))
