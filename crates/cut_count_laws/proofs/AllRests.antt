-- Between two clear places of an edge a count changes by the outlines and the borders that cross nearer: what is left of the other sides cancels in pairs.
use Rattle.std.proofs.Common.{◌≡◌, ℕ, zero, suc, ◌+◌, ◌*◌, ◌/◌, ◌%◌, ◌<◌, Some, length, slice_get, sym, ap, subst, ◌∙◌, arith}
use Rattle.std.specs.Prelude.{ℤ, pos, ◌+ℤ◌, ◌-ℤ◌, ◌*ℤ◌}
use Rattle.std.proofs.lemmas.Int.{ints}
use Rattle.lattice.specs.declared.points.Corner.{Corner}
use Rattle.lattice.specs.Cuts.{toward_of}
use Rattle.geometry.specs.Cuts.{start_corner, end_corner}
use Rattle.geometry.specs.Parts.{Part, Face, start_of, end_of}
use Rattle.geometry.specs.Views.{face_sign}
use Rattle.geometry.proofs.Listed.{same_element}
use Rattle.geometry.specs.Shares.{mark}
use Rattle.hiding_laws.specs.Values.{side_of}
use Rattle.hiding_laws.specs.inner.Tallies.{IsTally}
use Rattle.hiding_laws.proofs.MeshCounts.{face_of}
use Rattle.hiding_laws.proofs.MeshOfPart.{count, starts_at, ends_at, twin_of, twin_within, twin_starts, twin_ends, twin_back, twin_apart, face_of_half}
use Rattle.hiding_laws.proofs.OneFace.{reverse_tally}
use Rattle.hiding_laws.proofs.Seen.{on}
use Rattle.hiding_laws.proofs.Shares.{Crosses}
use Rattle.hiding_laws.proofs.Sides.{same_tally}
use Rattle.cut_count_laws.specs.CutEnds.{cut_end, part_change}
use Rattle.cut_count_laws.proofs.Laws.{RestLaw, AllRestsLaw}
use Rattle.cut_count_laws.proofs.TwinSums.{twin_sums}

-- ---- the corners of a side by its number
module _ {s : Part} (f : Face s) where
  start_at : (side : ℕ) → slice_get s.corners (start_of f.tri side) ≡ Some (start_corner f side)
  start_at zero = f.at_a
  start_at (suc zero) = f.at_b
  start_at (suc (suc side)) = f.at_c

  end_at : (side : ℕ) → slice_get s.corners (end_of f.tri side) ≡ Some (end_corner f side)
  end_at zero = f.at_b
  end_at (suc zero) = f.at_c
  end_at (suc (suc side)) = f.at_a

whole_side : (h : ℕ) → 3 * (h / 3) + h % 3 ≡ h
whole_side h = omega arith

first_side : (t : ℕ) → 3 * t + 0 ≡ 3 * t
first_side t = omega arith

side_below : (h : ℕ) → h % 3 < 3
side_below h = omega arith

turned : (x y : ℤ) → y -ℤ x ≡ pos 0 -ℤ (x -ℤ y)
turned x y = omega (arith, ints)

pub all_rests : RestLaw → AllRestsLaw
all_rests rest k c s sound in_range e n m n' m' sign before after border own change crossing turn good was is borders owns signs changes crosses =
    twin_sums (length s.triangles) twin sign before after (λ t. own t *ℤ border t) change crossing
    (twin_within s sound.closed) (twin_back s sound.closed) (twin_apart s sound.closed in_range) same_signs opposite alike each
  where
    twin : ℕ → ℕ
    twin h = twin_of s sound.closed h

    face : (h : ℕ) → h < count s → Face s
    face h l = face_of_half s sound.closed in_range h l

    starts : (h : ℕ) → h < count s → Corner
    starts h l = start_corner (face h l) (h % 3)

    ends : (h : ℕ) → h < count s → Corner
    ends h l = end_corner (face h l) (h % 3)

    -- a side's numbers, by its own number
    change_at : (h : ℕ) (l : h < count s) → change h ≡ part_change k c e.a e.b (starts h l) (ends h l)
    change_at h l = ap change (sym (whole_side h)) ∙ changes (face h l) (h % 3) (side_below h)

    crosses_at : (h : ℕ) (l : h < count s)
        → IsTally (Crosses (on (toward_of c) e.a) (on (toward_of c) e.b) (on (toward_of c) (starts h l)) (on (toward_of c) (ends h l)) n m n' m') (crossing h)
    crosses_at h l =
        subst (λ i. IsTally (Crosses (on (toward_of c) e.a) (on (toward_of c) e.b) (on (toward_of c) (starts h l)) (on (toward_of c) (ends h l)) n m n' m') (crossing i))
        (whole_side h) (crosses (face h l) (h % 3) (side_below h))

    -- its twin goes back
    twin_starts_at : (h : ℕ) (l : h < count s) → starts (twin h) (twin_within s sound.closed h l) ≡ ends h l
    twin_starts_at h l =
        same_element s.corners (starts_at s (twin h)) (ends_at s h) _ _ (twin_starts s sound.closed h l)
        (start_at (face (twin h) (twin_within s sound.closed h l)) (twin h % 3)) (end_at (face h l) (h % 3))

    twin_ends_at : (h : ℕ) (l : h < count s) → ends (twin h) (twin_within s sound.closed h l) ≡ starts h l
    twin_ends_at h l =
        same_element s.corners (ends_at s (twin h)) (starts_at s h) _ _ (twin_ends s sound.closed h l)
        (end_at (face (twin h) (twin_within s sound.closed h l)) (twin h % 3)) (start_at (face h l) (h % 3))

    opposite : (h : ℕ) → h < count s → change (twin h) ≡ pos 0 -ℤ change h
    opposite h l =
        change_at (twin h) (twin_within s sound.closed h l)
        ∙ (λ t. part_change k c e.a e.b (twin_starts_at h l t) (twin_ends_at h l t))
        ∙ turned (mark k (side_of (toward_of c) e.a e.b (cut_end c (starts h l) (ends h l)))) (mark k (side_of (toward_of c) e.a e.b (cut_end c (ends h l) (starts h l))))
        ∙ ap (λ v. pos 0 -ℤ v) (sym (change_at h l))

    alike : (h : ℕ) → h < count s → crossing (twin h) ≡ crossing h
    alike h l =
        let back = subst (λ (w : Corner). IsTally (Crosses (on (toward_of c) e.a) (on (toward_of c) e.b) (on (toward_of c) (ends h l)) (on (toward_of c) w) n m n' m') (crossing (twin h))) (twin_ends_at h l)
        (subst (λ (w : Corner). IsTally (Crosses (on (toward_of c) e.a) (on (toward_of c) e.b) (on (toward_of c) w) (on (toward_of c) (ends (twin h) (twin_within s sound.closed h l))) n m n' m') (crossing (twin h))) (twin_starts_at h l)
        (crosses_at (twin h) (twin_within s sound.closed h l))) in
        same_tally (reverse_tally _ _ _ _ n m n' m' back) (crosses_at h l)

    -- each triangle by the law of one
    triangle : (t : ℕ) → t < length s.triangles → Face s
    triangle t l = face_of s in_range t l

    first_sign : (t : ℕ) (l : t < length s.triangles) → sign (3 * t) ≡ face_sign (toward_of c) (triangle t l)
    first_sign t l = ap sign (sym (first_side t)) ∙ signs (triangle t l) 0 (omega arith)

    same_signs : (t : ℕ) → t < length s.triangles → (sign (3 * t + 1) ≡ sign (3 * t)) × (sign (3 * t + 2) ≡ sign (3 * t))
    same_signs t l = (
      signs (triangle t l) 1 (omega arith) ∙ sym (first_sign t l),
      signs (triangle t l) 2 (omega arith) ∙ sym (first_sign t l),
    )

    first_change : (t : ℕ) (l : t < length s.triangles) → change (3 * t) ≡ part_change k c e.a e.b (triangle t l).a (triangle t l).b
    first_change t l = ap change (sym (first_side t)) ∙ changes (triangle t l) 0 (omega arith)

    first_crosses : (t : ℕ) (l : t < length s.triangles)
        → IsTally (Crosses (on (toward_of c) e.a) (on (toward_of c) e.b) (on (toward_of c) (triangle t l).a) (on (toward_of c) (triangle t l).b) n m n' m') (crossing (3 * t))
    first_crosses t l =
        subst (λ i. IsTally (Crosses (on (toward_of c) e.a) (on (toward_of c) e.b) (on (toward_of c) (triangle t l).a) (on (toward_of c) (triangle t l).b) n m n' m') (crossing i))
        (first_side t) (crosses (triangle t l) 0 (omega arith))

    each : (t : ℕ) → t < length s.triangles → after t -ℤ before t
        ≡ sign (3 * t) *ℤ ((((change (3 * t) *ℤ crossing (3 * t)) +ℤ (change (3 * t + 1) *ℤ crossing (3 * t + 1))) +ℤ (change (3 * t + 2) *ℤ crossing (3 * t + 2))) -ℤ (own t *ℤ border t))
    each t l =
        rest k c s e (triangle t l) n m n' m' (before t) (after t) (crossing (3 * t)) (crossing (3 * t + 1)) (crossing (3 * t + 2)) (border t) (own t)
        turn (good (triangle t l)) (was (triangle t l)) (is (triangle t l)) (first_crosses t l) (crosses (triangle t l) 1 (omega arith)) (crosses (triangle t l) 2 (omega arith))
        (borders (triangle t l)) (owns (triangle t l))
        ∙ (λ i. sym (first_sign t l) i
        *ℤ ((((sym (first_change t l) i *ℤ crossing (3 * t)) +ℤ (sym (changes (triangle t l) 1 (omega arith)) i *ℤ crossing (3 * t + 1)))
        +ℤ (sym (changes (triangle t l) 2 (omega arith)) i *ℤ crossing (3 * t + 2))) -ℤ (own t *ℤ border t)))
