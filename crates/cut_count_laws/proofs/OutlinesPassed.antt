-- An outline of a cut view has changed a count before a valid place exactly where it is seen to cross between a near place and that one.
use Rattle.std.proofs.Common.{◌≡◌, ◌≢◌, ◌⊎◌, inl, inr, Bool, true, false, cond, sym, ap, ◌∙◌, arith, unsigned_abs}
use Rattle.std.specs.Prelude.{ℤ, pos, ◌-ℤ◌, ◌*ℤ◌, ◌<ℤ◌}
use Rattle.std.specs.Int.Signed.{lt_z}
use Rattle.std.proofs.lemmas.Bool.{false_from_ne_true}
use Rattle.std.proofs.lemmas.Int.{ints}
use Rattle.integers.proofs.Comparisons.{times_zero, times_one}
use Rattle.lattice.specs.declared.points.Corner.{Corner}
use Rattle.lattice.specs.Triple.{Triple, dot}
use Rattle.lattice.proofs.Vectors.{dot_somewhere}
use Rattle.lattice.specs.Points.{Point, point_of}
use Rattle.lattice.specs.Cuts.{Plane, toward_of, IsBeyond, IsBeforePlane}
use Rattle.geometry.specs.Cuts.{over_of, crossing_of}
use Rattle.geometry.specs.Parts.{Part, Edge}
use Rattle.geometry.specs.Views.{face_sign}
use Rattle.geometry.proofs.Borders.{side_of_corner, over_before}
use Rattle.geometry.proofs.Shares.{edge_turned}
use Rattle.hiding_laws.specs.Values.{side_of}
use Rattle.hiding_laws.proofs.CutPlanes.{cut-somewhere}
use Rattle.hiding_laws.proofs.Decisions.{same_or}
use Rattle.hiding_laws.proofs.Screens.{turn_of}
use Rattle.geometry.specs.Counts.{Side, to_left, to_right}
use Rattle.geometry.specs.Shares.{mark, PassesNearer, denominator_of, numerator_of, height_numerator_of}
use Rattle.hiding_laws.specs.inner.Tallies.{IsTally}
use Rattle.hiding_laws.specs.inner.Tallies.{yes, no}
use Rattle.hiding_laws.proofs.Changed.{IsCrossedBefore}
use Rattle.hiding_laws.proofs.CornerLaws.{IsBelow, IsNear}
use Rattle.hiding_laws.proofs.Seen.{on, scale, scale_pos}
use Rattle.hiding_laws.proofs.SeenCrossings.{crossed_of_passed, passes_of_crossed, product_is, square_is, less_at, before_of_scaled}
use Rattle.hiding_laws.proofs.Shares.{Crosses}
use Rattle.cut_count_laws.specs.CutEnds.{cut_end, part_change, IsCrossedBeyond}
use Rattle.cut_count_laws.specs.CutShares.{cut_change_of, PassesInCut, CutChanges}
use Rattle.cut_count_laws.proofs.CutLaws.{HasCutChanged}
use Rattle.cut_count_laws.proofs.CutLaws.HasCutChanged.{passed, not_passed}
use Rattle.cut_count_laws.proofs.CutPlaces.{beyond_between}
use Rattle.cut_count_laws.proofs.Laws.{IsValid}

-- ---- nothing is left
not_less : (x : ℤ) → pos 0 <ℤ x → lt_z x (pos 0) ≡ false
not_less x h = false_from_ne_true (lt_z x (pos 0)) (λ e. clash x e h)
  where
    clash : (x : ℤ) → lt_z x (pos 0) ≡ true → pos 0 <ℤ x → ⊥
    clash x e h = omega (arith, ints)

-- a corner that is before the plane is no end of what is left
end_before : (c : Plane) (x y : Corner) → IsBeforePlane c (point_of x) → cut_end c x y ≡ crossing_of c x y
end_before c x y h = ap (λ (b : Bool). cond b (point_of x) (crossing_of c x y)) (not_less (over_of c x) (over_before c x h))

no_difference : (x y : ℤ) → x ≡ y → x -ℤ y ≡ pos 0
no_difference x y e = omega (arith, ints)

-- an outline that is all before the plane changes nothing
part_gone : (k : Side) (c : Plane) (a b x y : Corner) → IsBeforePlane c (point_of x) → IsBeforePlane c (point_of y) → part_change k c a b x y ≡ pos 0
part_gone k c a b x y before before' =
    no_difference (mark k (side_of (toward_of c) a b (cut_end c x y))) (mark k (side_of (toward_of c) a b (cut_end c y x)))
    (ap (λ (p : Point). mark k (side_of (toward_of c) a b p))
    (end_before c x y before ∙ edge_turned x y (unsigned_abs (over_of c y)) (unsigned_abs (over_of c x)) ∙ sym (end_before c y x before')))

cut_gone : (k : Side) (c : Plane) {s : Part} (e o : Edge s) → IsBeforePlane c (point_of o.a) → IsBeforePlane c (point_of o.b) → cut_change_of k c e o ≡ pos 0
cut_gone k c e o before before' =
    ap (λ v. (face_sign (toward_of c) o.left -ℤ face_sign (toward_of c) o.right) *ℤ v) (part_gone k c e.a e.b o.a o.b before before')
    ∙ times_zero (face_sign (toward_of c) o.left -ℤ face_sign (toward_of c) o.right)

-- ---- what is seen to cross
module _ (c : Plane) {s : Part} (e o : Edge s) (k i j n m : ℤ) (near : IsNear k i j) (small : IsBelow k (turn_of (on (toward_of c) e.b) (on (toward_of c) o.a) (on (toward_of c) o.b)))
    (start : IsBeyond c (point_of e.a)) (valid : IsValid c e n m) where
  abbrev d : Triple
  d = toward_of c

  abbrev IsCrossed : Type 0
  IsCrossed = Crosses (on d e.a) (on d e.b) (on d o.a) (on d o.b) i j n m

  there : IsCrossed → PassesNearer d e o × IsCrossedBefore d e o n m
  there x = (
    passes_of_crossed d (cut-somewhere c) e o k i j n m near small valid.after valid.before x,
    before_of_scaled (scale d) (dot d d) (numerator_of d e o) (denominator_of d e o) (height_numerator_of e o) (scale_pos d) (dot_somewhere d (cut-somewhere c)) n m
        (less_at _ _ _ _ (ap (λ v. v *ℤ m) (product_is d e o)) (ap (λ v. n *ℤ v) (square_is d e o)) x.before),
  )

  -- where it crosses is beyond the plane
  beyond_there : IsCrossed → IsCrossedBeyond c e o
  beyond_there x =
      let p = there x in
      beyond_between c e.a e.b n m (numerator_of d e o *ℤ denominator_of d e o) (denominator_of d e o *ℤ denominator_of d e o) valid.after start valid.beyond p.0.after p.1

  -- nothing is left of it, or it passes
  left_or : IsCrossed → ((k : Side) → cut_change_of k c e o ≡ pos 0) ⊎ PassesInCut c e o
  left_or x = by (side_of_corner c o.a) (side_of_corner c o.b)
    where
      passing : IsBeyond c (point_of o.a) ⊎ IsBeyond c (point_of o.b) → PassesInCut c e o
      passing l = record { passes = (there x).0; beyond = beyond_there x; left = l }

      by : IsBeyond c (point_of o.a) ⊎ IsBeforePlane c (point_of o.a) → IsBeyond c (point_of o.b) ⊎ IsBeforePlane c (point_of o.b) → ((k : Side) → cut_change_of k c e o ≡ pos 0) ⊎ PassesInCut c e o
      by (inl l) b = inr (passing (inl l))
      by (inr b) (inl l) = inr (passing (inr l))
      by (inr b) (inr b') = inl (λ k. cut_gone k c e o b b')

  -- what it has changed by the place
  pub cut_changed_is : (k : Side) {z x : ℤ} → HasCutChanged k c e o n m z → IsTally IsCrossed x → z ≡ cut_change_of k c e o *ℤ x
  cut_changed_is k (passed p q) (yes h) = times_one (cut_change_of k c e o)
  cut_changed_is side (passed p q) (no h) = absurd (h (crossed_of_passed d (cut-somewhere c) e o k i j n m near small valid.after valid.before (p.passes, q)))
  cut_changed_is k (not_passed f) (no h) = sym (times_zero (cut_change_of k c e o))
  cut_changed_is side (not_passed f) (yes h) = by (left_or h)
    where
      by : ((k : Side) → cut_change_of k c e o ≡ pos 0) ⊎ PassesInCut c e o → pos 0 ≡ cut_change_of side c e o *ℤ pos 1
      by (inl none) = sym (none side) ∙ times_one (cut_change_of side c e o)
      by (inr p) = absurd (f (p, (there h).1))

  -- what changes nothing before the place is no crossing that counts
  pub cut_unchanged : (k : Side) {x : ℤ} → ¬ (CutChanges c e o × IsCrossedBefore d e o n m) → IsTally IsCrossed x → cut_change_of k c e o *ℤ x ≡ pos 0
  cut_unchanged k f (no h) = times_zero (cut_change_of k c e o)
  cut_unchanged side f (yes h) = by (left_or h) (same_or (cut_change_of side c e o) (pos 0))
    where
      some : (k : Side) → cut_change_of k c e o ≢ pos 0 → (cut_change_of to_left c e o ≢ pos 0) ⊎ (cut_change_of to_right c e o ≢ pos 0)
      some to_left g = inl g
      some to_right g = inr g

      product : cut_change_of side c e o ≡ pos 0 → cut_change_of side c e o *ℤ pos 1 ≡ pos 0
      product z = sym (times_one (cut_change_of side c e o)) ∙ z

      by : ((k : Side) → cut_change_of k c e o ≡ pos 0) ⊎ PassesInCut c e o → (cut_change_of side c e o ≡ pos 0) ⊎ ¬ (cut_change_of side c e o ≡ pos 0) → cut_change_of side c e o *ℤ pos 1 ≡ pos 0
      by (inl none) z = product (none side)
      by (inr p) (inl z) = product z
      by (inr p) (inr g) = absurd (f (record { passes = p; some = some side g }, (there h).1))
