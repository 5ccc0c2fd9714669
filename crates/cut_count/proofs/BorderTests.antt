-- A border that is tested along an edge: whether it is ahead, by its marks and a turn, and where it is found, for the face with its number.
use Rattle.std.proofs.Common.{◌≡◌, ◌≢◌, ◌⊎◌, inl, inr, ◌↔◌, ℕ, ◌≤◌, ◌<◌, ◌^◌, zero, suc, refl, sym, subst, ap, ◌∙◌, FitsSigned, to_z, of_z, arith}
use Rattle.std.specs.Prelude.{ℤ, pos, negsuc, ◌-ℤ◌, ◌*ℤ◌, ◌<ℤ◌, unsigned_abs, Bool, IsTrue, Some, None}
use Rattle.std.specs.Int.{w8, w128}
use Rattle.std.proofs.lemmas.Int.{ints, to_z-of_z}
use Rattle.integers.proofs.Comparisons.{gap_of_same, at_most_of_less}
use Rattle.integers.proofs.Ring.{same_of_gap}
use Rattle.integers.proofs.Worth.{known, pass}
use Rattle.exact_frac.specs.declared.Frac.{Frac}
use Rattle.intervals.specs.declared.interval.Interval.{Interval}
use Rattle.lattice.specs.declared.points.Corner.{Corner}
use Rattle.lattice.specs.Triple.{Triple}
use Rattle.lattice.specs.Points.{Point, of_spot}
use Rattle.lattice.specs.Cuts.{Plane, toward_of}
use Rattle.geometry.specs.Faces.{facing_of}
use Rattle.geometry.specs.Parts.{Part, Face, Edge}
use Rattle.geometry.specs.Places.{IsPlace, IsEarlier}
use Rattle.geometry.specs.Views.{face_sign}
use Rattle.geometry.proofs.PlaceOrder.{between_value, between_inner, between_last}
use Rattle.hiding_laws.specs.Values.{side_of}
use Rattle.geometry.specs.Counts.{Side, to_left, to_right}
use Rattle.geometry.specs.Shares.{mark}
use Rattle.cross_find.proofs.Signs.{sign_small}
use Rattle.cut_plane.specs.declared.segments.Segment.{Segment}
use Rattle.cut_plane.specs.Loops.{IsSegmentOf, IsBorderLine}
use Rattle.cut_plane.proofs.FaceCorners.{have_same}
use Rattle.cut_plane.specs.Crossings.{IsShort, IsCrossingOf}
use Rattle.cut_plane.specs.Beyond.{IsStretch}
use Rattle.cut_count_laws.specs.CutEnds.{mark_change}
use Rattle.cut_count_laws.proofs.FaceBorders.{border_at}
use Rattle.cut_count.specs.declared.found.Share.{Share}
use Rattle.cut_count.specs.inner.Borders.{IsAhead, ahead_turn, IsShareOf, IsFoundOr}

-- ---- marks
mark_is : (k : Side) (z : ℤ) → (mark k z ≡ pos 0) ⊎ (mark k z ≡ pos 1)
mark_is to_left (pos zero) = inl refl
mark_is to_left (pos (suc n)) = inr refl
mark_is to_left (negsuc n) = inl refl
mark_is to_right (pos n) = inr refl
mark_is to_right (negsuc n) = inl refl

less_marks : (x y : ℤ) → (x ≡ pos 0) ⊎ (x ≡ pos 1) → (y ≡ pos 0) ⊎ (y ≡ pos 1) → x <ℤ y → (x ≡ pos 0) × (y ≡ pos 1)
less_marks x y (inl p) (inr q) less = (p, q)
less_marks x y (inl p) (inl q) less = absurd (no x y p q less)
  where
    no : (x y : ℤ) → x ≡ pos 0 → y ≡ pos 0 → x <ℤ y → ⊥
    no x y p q less = omega (arith, ints)
less_marks x y (inr p) (inl q) less = absurd (no x y p q less)
  where
    no : (x y : ℤ) → x ≡ pos 1 → y ≡ pos 0 → x <ℤ y → ⊥
    no x y p q less = omega (arith, ints)
less_marks x y (inr p) (inr q) less = absurd (no x y p q less)
  where
    no : (x y : ℤ) → x ≡ pos 1 → y ≡ pos 1 → x <ℤ y → ⊥
    no x y p q less = omega (arith, ints)

marks_less : (x y : ℤ) → x ≡ pos 0 → y ≡ pos 1 → x <ℤ y
marks_less x y p q = omega (arith, ints)

marks_differ : (x y : ℤ) → x ≡ y → x ≡ pos 0 → y ≡ pos 1 → ⊥
marks_differ x y e p q = omega (arith, ints)

-- as it is passed on
pub mark_read : (k : Side) (m z v : ℤ) → unsigned_abs m ≤ 1 → m ≡ mark k (to_z w128 (of_z w128 z)) → FitsSigned w128 z → z ≡ v → to_z w8 (of_z w8 m) ≡ mark k v
mark_read k m z v small is fits e = (pass w8 (known m 1 small) tt).is ∙ is ∙ ap (mark k) (to_z-of_z w128 z fits ∙ e)

-- m and n are the marks of the two ends
module _ (k : Side) (d : Triple) (a b : Corner) (p q : Point) (m n : ℤ) (x : m ≡ mark k (side_of d a b p)) (y : n ≡ mark k (side_of d a b q)) where
  -- ---- ahead
  module _ (at_b : Bool) where
    -- the marks differ, and the turn has the sign of what they change
    pub ahead_is : (turn : ℤ) (told : Bool) → turn ≡ ahead_turn at_b d a b p q
        → IsTrue told ↔ (((m <ℤ n) × (pos 0 <ℤ turn)) ⊎ ((n <ℤ m) × (turn <ℤ pos 0))) → IsTrue told ↔ IsAhead k at_b d a b p q
    ahead_is turn told t tells = ((λ h. there (tells.0 h)), (λ h. tells.1 (back h)))
      where
        m_is : (m ≡ pos 0) ⊎ (m ≡ pos 1)
        m_is = subst (λ (v : ℤ). (v ≡ pos 0) ⊎ (v ≡ pos 1)) (sym x) (mark_is k (side_of d a b p))

        n_is : (n ≡ pos 0) ⊎ (n ≡ pos 1)
        n_is = subst (λ (v : ℤ). (v ≡ pos 0) ⊎ (v ≡ pos 1)) (sym y) (mark_is k (side_of d a b q))

        there : ((m <ℤ n) × (pos 0 <ℤ turn)) ⊎ ((n <ℤ m) × (turn <ℤ pos 0)) → IsAhead k at_b d a b p q
        there (inl (less, up)) =
            let r = less_marks m n m_is n_is less in
            inl (sym x ∙ r.0, sym y ∙ r.1, subst (λ (v : ℤ). pos 0 <ℤ v) t up)
        there (inr (less, down)) =
            let r = less_marks n m n_is m_is less in
            inr (sym x ∙ r.1, sym y ∙ r.0, subst (λ (v : ℤ). v <ℤ pos 0) t down)

        back : IsAhead k at_b d a b p q → ((m <ℤ n) × (pos 0 <ℤ turn)) ⊎ ((n <ℤ m) × (turn <ℤ pos 0))
        back (inl (g, h, up)) = inl (marks_less m n (x ∙ g) (y ∙ h), subst (λ (v : ℤ). pos 0 <ℤ v) (sym t) up)
        back (inr (g, h, down)) = inr (marks_less n m (y ∙ h) (x ∙ g), subst (λ (v : ℤ). v <ℤ pos 0) (sym t) down)

    -- with equal marks it isn't
    pub none_ahead : m ≡ n → ¬ IsAhead k at_b d a b p q
    none_ahead e (inl (g, h, up)) = marks_differ m n e (x ∙ g) (y ∙ h)
    none_ahead e (inr (g, h, down)) = marks_differ n m (sym e) (y ∙ h) (x ∙ g)

  -- ---- what they change
  pub changed : m ≢ n → mark_change k d a b p q ≢ pos 0
  changed h e = h (x ∙ same_of_gap (mark k (side_of d a b p)) (mark k (side_of d a b q)) e ∙ sym y)

  pub unchanged : m ≡ n → mark_change k d a b p q ≡ pos 0
  unchanged e = gap_of_same (mark k (side_of d a b p)) (mark k (side_of d a b q)) (sym x ∙ e ∙ y)

-- along an edge with these corners
module _ (k : Side) (c : Plane) {s : Part} (e : Edge s) (a b : Corner) (at_a : e.a ≡ a) (at_b : e.b ≡ b) (p q : Point) (m n : ℤ)
    (x : m ≡ mark k (side_of (toward_of c) a b p)) (y : n ≡ mark k (side_of (toward_of c) a b q)) where
  change_at : mark_change k (toward_of c) a b p q ≡ mark_change k (toward_of c) e.a e.b p q
  change_at = λ i. mark_change k (toward_of c) (sym at_a i) (sym at_b i) p q

  pub changed_at : m ≢ n → mark_change k (toward_of c) e.a e.b p q ≢ pos 0
  changed_at h e = changed k (toward_of c) a b p q m n x y h (change_at ∙ e)

  pub unchanged_at : m ≡ n → mark_change k (toward_of c) e.a e.b p q ≡ pos 0
  unchanged_at h = sym change_at ∙ unchanged k (toward_of c) a b p q m n x y h

  pub share_is : (f : Face s) (sign : ℤ) (share : Share) → sign ≡ face_sign (toward_of c) f → IsTrue share.turns ↔ (m ≢ n) → share.own ≡ pos 0 -ℤ (sign *ℤ (m -ℤ n)) → IsShareOf k c e f p q share
  share_is f sign share z turns own = record {
    own = own ∙ (λ i. pos 0 -ℤ (z i *ℤ (x i -ℤ y i))) ∙ ap (λ (v : ℤ). pos 0 -ℤ (face_sign (toward_of c) f *ℤ v)) change_at;
    turns = ((λ t. changed_at (turns.0 t)), (λ h. turns.1 (λ same. h (unchanged_at same))));
  }

-- the sign of a face
pub face_sign_small : (d : Triple) {s : Part} (f : Face s) (z : ℤ) → z ≡ face_sign d f → unsigned_abs z ≤ 1
face_sign_small d f z e = subst (λ (v : ℤ). unsigned_abs v ≤ 1) (sym e) (sign_small (facing_of d f.a f.b f.c))

-- ---- found
-- the segment is that of each face with its number
abbrev pub segment_of_face : (c : Plane) {s : Part} (x : Segment) → IsSegmentOf c s x → (f : Face s) → f.number ≡ x.tri → IsSegmentOf c s x
segment_of_face c x at f number =
    let same = have_same at.face f (at.number ∙ sym number) in
    record {
      face = f;
      number = number;
      border = border_at c f at.face same.a same.b same.c (of_spot x.a) (of_spot x.b) at.border;
      line = subst (λ (k : Corner). IsBorderLine c f.a f.b k x.line) same.c (subst (λ (k : Corner). IsBorderLine c f.a k at.face.c x.line) same.b (subst (λ (k : Corner). IsBorderLine c k at.face.b at.face.c x.line) same.a at.line));
    }

within_place : (m : ℕ) → m ≤ 2 ^ 66 → m < 2 ^ 69
within_place m h = omega arith

pub place_of_short : (r : Frac) → IsShort r → IsPlace r
place_of_short r h = record { least = h.least; most = h.most; small = within_place (unsigned_abs r.den) h.small }

module _ (c : Plane) {s : Part} (e : Edge s) (f : Face s) (part : Interval Frac) (p q : Point) where
  -- it crosses the edge nowhere
  pub found_nowhere : IsStretch part → IsCrossingOf c f e None → IsFoundOr c e f part p q None
  found_nowhere stretch none n m up between changes crosses =
      let r = none.all n m up (at_most_of_less (pos 0) n (between_inner part.from part.to n m up between stretch.from_place.least)) (at_most_of_less n m (between_last part.from part.to n m up between stretch.to_place.most)) crosses in
      nothing r.0 r.1
    where
      nothing : (r : Frac) → None ≡ Some r → ⊥
      nothing r h = cc

  -- it crosses it elsewhere
  pub found_beside : (r : Frac) → IsStretch part → IsCrossingOf c f e (Some r) → ¬ (IsEarlier part.from r × IsEarlier r part.to) → IsFoundOr c e f part p q None
  found_beside r stretch some beside n m up between changes crosses =
      let t = some.all n m up (at_most_of_less (pos 0) n (between_inner part.from part.to n m up between stretch.from_place.least)) (at_most_of_less n m (between_last part.from part.to n m up between stretch.to_place.most)) crosses in
      let same = subst (λ (x : Frac). n *ℤ x.den ≡ x.num *ℤ m) (sym (one t.0 t.1)) t.2 in
      beside (between_value part.from part.to n m r.num r.den up r.positive same between)
    where
      one : (x : Frac) → Some r ≡ Some x → r ≡ x
      one x h = cc
