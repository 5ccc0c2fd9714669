-- Faces on one side of the plane of a cut: those before it hide nothing, and those beyond it hide as in the plain view.
use Rattle.std.proofs.Common.{◌≡◌, ℕ, ◌+◌, ◌<◌, List, [], ◌∷◌, None, refl, sym, subst, arith}
use Rattle.std.specs.Prelude.{ℤ, pos, ◌+ℤ◌, ◌-ℤ◌, ◌*ℤ◌, ◌<ℤ◌, ◌≤ℤ◌}
use Rattle.std.proofs.lemmas.Int.{ints}
use Rattle.std.proofs.lemmas.List.{append-nil}
use Rattle.integers.proofs.Absolutes.{natural_not_negative}
use Rattle.integers.proofs.Comparisons.{not_negative_of_positive}
use Rattle.integers.proofs.Ring.{var, con, ◌⊕◌, ◌⊖◌, ◌⊗◌, ring}
use Rattle.integers.proofs.Signs.{mul_nonneg}
use Rattle.lattice.specs.declared.points.Corner.{Corner}
use Rattle.lattice.specs.Points.{Point, point_of}
use Rattle.lattice.specs.Cuts.{Plane, toward_of, IsBeyond, IsBeforePlane}
use Rattle.geometry.specs.Faces.{face_sum, share_point, IsPointOfFace, FaceHides}
use Rattle.geometry.specs.Parts.{Part, Face, Edge}
use Rattle.geometry.specs.Cuts.{over_of, FaceHidesInCut}
use Rattle.geometry.proofs.Borders.{face_rise, rise_beyond, over_before, over_beyond}
use Rattle.hiding_laws.proofs.CutPlanes.{ordinary-in-plain}
use Rattle.exact_frac.specs.declared.Frac.{Frac}
use Rattle.intervals.specs.declared.interval.Interval.{Interval}
use Rattle.span_slow.specs.inner.Hidden.{AreAdded}
use Rattle.span_slow.specs.inner.CutHidden.{IsOrdinaryBeyond, AreAddedBeyond}
use Rattle.span_slow.proofs.Where.{where_none, added_one}

-- no point of the face is beyond the plane
before_all : (c : Plane) (a b k : Corner) → IsBeforePlane c (point_of a) → IsBeforePlane c (point_of b) → IsBeforePlane c (point_of k) → (p : Point) → IsPointOfFace a b k p → ¬ IsBeyond c p
before_all c a b k at_a at_b at_k p (i, j, n, some, is) beyond =
    clash _ _ (rise_beyond c (face_sum a b k i j n) (subst (IsBeyond c) is beyond)) (face_rise c a b k i j n) (sum _ _ _
    (mul_nonneg (pos i) _ (natural_not_negative i) (not_negative_of_positive _ (over_before c a at_a)))
    (mul_nonneg (pos j) _ (natural_not_negative j) (not_negative_of_positive _ (over_before c b at_b)))
    (mul_nonneg (pos n) _ (natural_not_negative n) (not_negative_of_positive _ (over_before c k at_k))))
  where
    sum : (x y z : ℤ) → pos 0 ≤ℤ x → pos 0 ≤ℤ y → pos 0 ≤ℤ z → pos 0 ≤ℤ ((x +ℤ y) +ℤ z)
    sum x y z p q r = omega (arith, ints)

    clash : (x y : ℤ) → x <ℤ pos 0 → x ≡ y → pos 0 ≤ℤ y → ⊥
    clash x y h e g = omega (arith, ints)

-- so none of its points hides one
pub nothing_hidden : (c : Plane) {s : Part} (e : Edge s) (f : Face s) (a b k : Corner) → f.a ≡ a → f.b ≡ b → f.c ≡ k
    → IsBeforePlane c (point_of a) → IsBeforePlane c (point_of b) → IsBeforePlane c (point_of k) → (old : List (Interval Frac)) → AreAddedBeyond c e (FaceHidesInCut c f) old old
nothing_hidden c {s} e f a b k of_a of_b of_k at_a at_b at_k old =
    added_one (IsOrdinaryBeyond c s) e (FaceHidesInCut c f) old old None
    (where_none (IsOrdinaryBeyond c s) e (FaceHidesInCut c f) (λ n m hn hm ordinary hides.
    before_all c f.a f.b f.c (moved f.a a of_a at_a) (moved f.b b of_b at_b) (moved f.c k of_k at_k) hides.point hides.on_face hides.beyond))
    (sym (append-nil old))
  where
    moved : (x y : Corner) → x ≡ y → IsBeforePlane c (point_of y) → IsBeforePlane c (point_of x)
    moved x y e h = subst (λ (z : Corner). IsBeforePlane c (point_of z)) (sym e) h

-- ---- beyond it
minus_one : (x : ℤ) → x <ℤ pos 0 → pos 0 ≤ℤ (pos 0 -ℤ (x +ℤ pos 1))
minus_one x h = omega (arith, ints)

-- every point of the face is beyond the plane
beyond_all : (c : Plane) (a b k : Corner) → IsBeyond c (point_of a) → IsBeyond c (point_of b) → IsBeyond c (point_of k) → (p : Point) → IsPointOfFace a b k p → IsBeyond c p
beyond_all c a b k at_a at_b at_k p (i, j, n, some, is) =
    subst (IsBeyond c) (sym is) (below _ _ (less i j n _ _ _ some (face_rise c a b k i j n) (weight i _ at_i) (weight j _ at_j) (weight n _ at_n)))
  where
    at_i : over_of c a <ℤ pos 0
    at_i = over_beyond c a at_a

    at_j : over_of c b <ℤ pos 0
    at_j = over_beyond c b at_b

    at_n : over_of c k <ℤ pos 0
    at_n = over_beyond c k at_k

    weight : (n : ℕ) (x : ℤ) → x <ℤ pos 0 → ((pos n *ℤ x) +ℤ pos n) ≤ℤ pos 0
    weight n x h = turned _ _ (ring (pos n ∷ x ∷ []) (var 0 ⊗ (con (pos 0) ⊖ (var 1 ⊕ con (pos 1)))) (con (pos 0) ⊖ ((var 0 ⊗ var 1) ⊕ var 0)) refl) (mul_nonneg (pos n) _ (natural_not_negative n) (minus_one x h))
      where
        turned : (x y : ℤ) → x ≡ pos 0 -ℤ y → pos 0 ≤ℤ x → y ≤ℤ pos 0
        turned x y e g = omega (arith, ints)

    less : (i j n : ℕ) (x y z : ℤ) {r : ℤ} → 0 < i + j + n → r ≡ (x +ℤ y) +ℤ z → (x +ℤ pos i) ≤ℤ pos 0 → (y +ℤ pos j) ≤ℤ pos 0 → (z +ℤ pos n) ≤ℤ pos 0 → r <ℤ pos 0
    less i j n x y z {r} some e p q t = omega (arith, ints)

    below : (x y : ℤ) → (x -ℤ y) <ℤ pos 0 → x <ℤ y
    below x y h = omega (arith, ints)

-- so it hides the same points of an edge beyond the plane as in the plain view
pub hidden_alike : (c : Plane) {s : Part} (e : Edge s) (f : Face s) (a b k : Corner) → f.a ≡ a → f.b ≡ b → f.c ≡ k
    → IsBeyond c (point_of a) → IsBeyond c (point_of b) → IsBeyond c (point_of k) → (old new : List (Interval Frac))
    → AreAdded (toward_of c) e (FaceHides (toward_of c) f.a f.b f.c) old new → AreAddedBeyond c e (FaceHidesInCut c f) old new
hidden_alike c {s} e f a b k of_a of_b of_k at_a at_b at_k old new h = record {
  added = h.added;
  all = h.all;
  right = record {
    stretches = h.right.stretches;
    ends = λ j x within. let (first, second) = h.right.ends j x within in ((λ o. first (ordinary-in-plain c s _ o.0)), (λ o. second (ordinary-in-plain c s _ o.0)));
    exactly = λ n m least most ordinary.
        let both = h.right.exactly n m least most (ordinary-in-plain c s (share_point e.a e.b n m) ordinary.0) in
        ((λ hides. both.0 (plain _ hides)), (λ within. cut _ (both.1 within)));
  };
}
  where
    moved : (x y : Corner) → x ≡ y → IsBeyond c (point_of y) → IsBeyond c (point_of x)
    moved x y e h = subst (λ (z : Corner). IsBeyond c (point_of z)) (sym e) h

    plain : (p : Point) → FaceHidesInCut c f p → FaceHides (toward_of c) f.a f.b f.c p
    plain p hides = record { point = hides.point; on_face = hides.on_face; same_sight = hides.same_sight; nearer = hides.nearer }

    cut : (p : Point) → FaceHides (toward_of c) f.a f.b f.c p → FaceHidesInCut c f p
    cut p hides = record {
      point = hides.point;
      on_face = hides.on_face;
      beyond = beyond_all c f.a f.b f.c (moved f.a a of_a at_a) (moved f.b b of_b at_b) (moved f.c k of_k at_k) hides.point hides.on_face;
      same_sight = hides.same_sight;
      nearer = hides.nearer;
    }
