-- When a border changes a count along an edge: what is found of its segment tells it.
use Rattle.std.proofs.Common.{◌≡◌, ◌⊎◌, inl, inr, Option, Some, None, [], ◌∷◌, refl, sym, subst, ap, ◌∙◌}
use Rattle.std.specs.Prelude.{◌≢◌, ℤ, pos, ◌+ℤ◌, ◌-ℤ◌, ◌*ℤ◌, ◌<ℤ◌}
use Rattle.integers.proofs.Comparisons.{positive_at, positive_of_more, at_most_of_less, less_of_gap}
use Rattle.integers.proofs.Ring.{var, con, ◌⊕◌, ◌⊖◌, ◌⊗◌, ring, by_one, gap_of_less}
use Rattle.integers.proofs.Signs.{mul_pos, pos_of_mul}
use Rattle.exact_frac.specs.declared.Frac.{Frac}
use Rattle.lattice.specs.declared.points.Corner.{Corner}
use Rattle.lattice.specs.Triple.{Triple, cross, det}
use Rattle.lattice.specs.Points.{Point, point_of, of_spot}
use Rattle.lattice.specs.Cuts.{Plane, toward_of, IsBeyond}
use Rattle.geometry.specs.Cuts.{border, IsBorderOf, IsSeenOverInCut}
use Rattle.geometry.specs.Faces.{difference, normal, share_point, IsPointOfFace}
use Rattle.geometry.specs.Parts.{Part, Face, Edge}
use Rattle.hiding_laws.specs.Values.{side_of, value_at}
use Rattle.hiding_laws.specs.CutValues.{below_of}
use Rattle.hiding_laws.proofs.CutPlanes.{below-beyond, below-share}
use Rattle.geometry.specs.Counts.{Side, to_left, to_right}
use Rattle.geometry.specs.Shares.{mark}
use Rattle.cut_plane.specs.declared.segments.Segment.{Segment}
use Rattle.cut_plane.specs.Loops.{IsSegmentOf}
use Rattle.cut_plane.proofs.FaceCorners.{HaveSame, have_same}
use Rattle.cut_plane.specs.Crossings.{CrossesAt, IsCrossingOf}
use Rattle.cut_count_laws.specs.BorderShares.{HasSectionLeft, IsTurnedBy, IsBorderTaken, border_change_of}
use Rattle.cut_count_laws.proofs.FaceBorders.{one_first, one_second}
use Rattle.cut_count.specs.Crossings.{BorderChanges}
use Rattle.cut_count.specs.inner.Borders.{IsInnerBeyond}
use Rattle.cut_count.proofs.BorderTurns.{one_turned, turned_back, segment_border}
use Rattle.cut_count.proofs.SectionLefts.{one_left}

-- ---- one place in other terms
module _ (n m x y : ℤ) (m_pos : pos 0 <ℤ m) (y_pos : pos 0 <ℤ y) (same : n *ℤ y ≡ x *ℤ m) where
  after_at : pos 0 <ℤ n → pos 0 <ℤ x
  after_at h = pos_of_mul m x m_pos (positive_at _ _ (ring (m ∷ x ∷ []) (var 0 ⊗ var 1) (var 1 ⊗ var 0) refl ∙ sym same) (mul_pos n y h y_pos))

  before_at : n <ℤ m → x <ℤ y
  before_at h = less_of_gap x y (pos_of_mul m (y -ℤ x) m_pos (positive_at _ _
      (by_one _ _ (n *ℤ y) (x *ℤ m) (pos 1) (ring (n ∷ m ∷ x ∷ y ∷ []) ((var 1 ⊗ (var 3 ⊖ var 2)) ⊖ ((var 1 ⊖ var 0) ⊗ var 3)) (((var 0 ⊗ var 3) ⊖ (var 2 ⊗ var 1)) ⊗ con (pos 1)) refl) same)
      (mul_pos (m -ℤ n) y (gap_of_less n m h) y_pos)))

  value_alike : (f g : ℤ) → m *ℤ value_at f g x y ≡ y *ℤ value_at f g n m
  value_alike f g = by_one _ _ (n *ℤ y) (x *ℤ m) (f -ℤ g)
      (ring (n ∷ m ∷ x ∷ y ∷ f ∷ g ∷ [])
      ((var 1 ⊗ (((var 3 ⊖ var 2) ⊗ var 4) ⊕ (var 2 ⊗ var 5))) ⊖ (var 3 ⊗ (((var 1 ⊖ var 0) ⊗ var 4) ⊕ (var 0 ⊗ var 5))))
      (((var 0 ⊗ var 3) ⊖ (var 2 ⊗ var 1)) ⊗ (var 4 ⊖ var 5)) refl) same

  beyond_at : (c : Plane) (a b : Corner) → IsBeyond c (share_point a b n m) → IsBeyond c (share_point a b x y)
  beyond_at c a b h =
      (below-beyond c (share_point a b x y)).1 (positive_at _ _ (below-share c a b x y)
      (pos_of_mul m _ m_pos (positive_at _ _ (value_alike (below_of c (point_of a)) (below_of c (point_of b)))
      (mul_pos y _ y_pos (positive_at _ _ (sym (below-share c a b n m)) ((below-beyond c (share_point a b n m)).0 h))))))

-- ---- faces with one number
crosses_alike : (c : Plane) {s : Part} (f g : Face s) → HaveSame f g → (e : Edge s) (n m : ℤ) → CrossesAt c f e n m → CrossesAt c g e n m
crosses_alike c {s = s} f g same e n m crosses = record { passes = under crosses.passes; turns = subst (λ (t : Triple). det (toward_of c) (difference e.a e.b) (cross (toward_of c) t) ≡ pos 0 → ⊥) way crosses.turns }
  where
    way : normal f.a f.b f.c ≡ normal g.a g.b g.c
    way = λ i. normal (same.a i) (same.b i) (same.c i)

    on : (r : Point) → IsPointOfFace f.a f.b f.c r → IsPointOfFace g.a g.b g.c r
    on r there = subst (λ (k : Corner). IsPointOfFace g.a g.b k r) same.c (subst (λ (k : Corner). IsPointOfFace g.a k f.c r) same.b (subst (λ (k : Corner). IsPointOfFace k f.b f.c r) same.a there))

    under : IsSeenOverInCut c (border f) (share_point e.a e.b n m) → IsSeenOverInCut c (border g) (share_point e.a e.b n m)
    under (r, on_border, sight) = (r, (on r on_border.0, on_border.1), sight)

-- ---- the ends of a border
module _ (c : Plane) {s : Part} (f : Face s) where
  abbrev EndsOf : Point → Point → Type 0
  EndsOf p q = IsBorderOf c f p q ⊎ IsBorderOf c f q p

  -- in one order or in the other
  same_ends : (p q v w : Point) → EndsOf p q → EndsOf v w → ((v ≡ p) × (w ≡ q)) ⊎ ((v ≡ q) × (w ≡ p))
  same_ends p q v w (inl h) (inl g) = inl (one_first c f v w p q g h, one_second c f v w p q g h)
  same_ends p q v w (inl h) (inr g) = inr (one_second c f w v p q g h, one_first c f w v p q g h)
  same_ends p q v w (inr h) (inl g) = inr (one_first c f v w q p g h, one_second c f v w q p g h)
  same_ends p q v w (inr h) (inr g) = inl (one_second c f w v q p g h, one_first c f w v q p g h)

  module _ (e : Edge s) where
    no_change : (t x y : ℤ) → x ≡ y → t *ℤ (x -ℤ y) ≡ pos 0
    no_change t x y e = by_one _ _ x y t (ring (t ∷ x ∷ y ∷ []) ((var 0 ⊗ (var 1 ⊖ var 2)) ⊖ con (pos 0)) ((var 1 ⊖ var 2) ⊗ var 0) refl) e

    abbrev at_side : Point → ℤ
    at_side p = side_of (toward_of c) e.a e.b p

    -- ends with one mark each change nothing
    unchanged_by : (k : Side) (p q : Point) → mark k (at_side p) ≡ mark k (at_side q) → (v w : Point) → ((v ≡ p) × (w ≡ q)) ⊎ ((v ≡ q) × (w ≡ p)) → (t : ℤ) → border_change_of k c e v w t ≡ pos 0
    unchanged_by k p q same v w (inl h) t = no_change (pos 1 -ℤ t) _ _ (ap (λ (r : Point). mark k (at_side r)) h.0 ∙ same ∙ ap (λ (r : Point). mark k (at_side r)) (sym h.1))
    unchanged_by k p q same v w (inr h) t = no_change (pos 1 -ℤ t) _ _ (ap (λ (r : Point). mark k (at_side r)) h.0 ∙ sym same ∙ ap (λ (r : Point). mark k (at_side r)) (sym h.1))

    pub unchanged : (p q : Point) → EndsOf p q → mark to_left (at_side p) ≡ mark to_left (at_side q) → mark to_right (at_side p) ≡ mark to_right (at_side q)
        → (n m left right : ℤ) → ¬ BorderChanges c e f n m left right
    unchanged p q ends on_left on_right n m left right x = by x.some
      where
        order : ((x.p ≡ p) × (x.q ≡ q)) ⊎ ((x.p ≡ q) × (x.q ≡ p))
        order = same_ends p q x.p x.q ends x.taken.ends

        by : (left ≢ pos 0) ⊎ (right ≢ pos 0) → ⊥
        by (inl some) = some (x.left_is ∙ unchanged_by to_left p q on_left x.p x.q order x.turned)
        by (inr some) = some (x.right_is ∙ unchanged_by to_right p q on_right x.p x.q order x.turned)

    -- ---- the border as it is taken
    module _ (p q : Point) (ends : EndsOf p q) (section : HasSectionLeft c s p q) (t : ℤ) (turned : IsTurnedBy c f p q t) where
      -- the changes are those
      one_change : (k : Side) (v w : Point) → IsBorderTaken c f v w → (u : ℤ) → IsTurnedBy c f v w u → border_change_of k c e v w u ≡ border_change_of k c e p q t
      one_change k v w taken u turned_too = by (same_ends p q v w ends taken.ends)
        where
          by : ((v ≡ p) × (w ≡ q)) ⊎ ((v ≡ q) × (w ≡ p)) → border_change_of k c e v w u ≡ border_change_of k c e p q t
          by (inl h) = let one = one_turned c f p q ends u t (subst (λ (r : Point). IsTurnedBy c f r q u) h.0 (subst (λ (r : Point). IsTurnedBy c f v r u) h.1 turned_too)) turned in
              λ i. border_change_of k c e (h.0 i) (h.1 i) (one i)
          by (inr h) = absurd (one_left c s p q section (subst (λ (r : Point). HasSectionLeft c s r p) h.0 (subst (λ (r : Point). HasSectionLeft c s v r) h.1 taken.left)))

      pub nothing_changed : border_change_of to_left c e p q t ≡ pos 0 → border_change_of to_right c e p q t ≡ pos 0 → (n m left right : ℤ) → ¬ BorderChanges c e f n m left right
      nothing_changed on_left on_right n m left right x = by x.some
        where
          by : (left ≢ pos 0) ⊎ (right ≢ pos 0) → ⊥
          by (inl some) = some (x.left_is ∙ one_change to_left x.p x.q x.taken x.turned x.turned_by ∙ on_left)
          by (inr some) = some (x.right_is ∙ one_change to_right x.p x.q x.taken x.turned x.turned_by ∙ on_right)

      pub changes_there : (r : Frac) → CrossesAt c f e r.num r.den → IsInnerBeyond c e.a e.b r → (left right : ℤ) → left ≡ border_change_of to_left c e p q t → right ≡ border_change_of to_right c e p q t
          → (left ≢ pos 0) ⊎ (right ≢ pos 0) → BorderChanges c e f r.num r.den left right
      changes_there r crosses inner left right left_is right_is some = record {
        crossed = record { after = inner.after; before = inner.before; beyond = inner.beyond; crosses = crosses };
        p = p;
        q = q;
        taken = record { ends = ends; left = section };
        turned = t;
        turned_by = turned;
        left_is = left_is;
        right_is = right_is;
        some = some;
      }

-- ---- where it crosses
abbrev Inner : Plane → Corner → Corner → Option Frac → Type 0
Inner c a b None = ⊥
Inner c a b (Some z) = IsInnerBeyond c a b z

abbrev IsNothing : Option Frac → Type 0
IsNothing None = Unit {0}
IsNothing (Some z) = ⊥

none-not-some : {r : Frac} → None ≡ Some r → ⊥
none-not-some e = subst IsNothing e cc

module _ (c : Plane) (s : Part) (x : Segment) (at : IsSegmentOf c s x) (f : Face s) (number : f.number ≡ x.tri) (e : Edge s) where
  same : HaveSame f at.face
  same = have_same f at.face (number ∙ sym at.number)

  place_of : (found : Option Frac) → IsCrossingOf c at.face e found → (n m left right : ℤ) → BorderChanges c e f n m left right → (r : Frac) × (found ≡ Some r) × (n *ℤ r.den ≡ r.num *ℤ m)
  place_of found crossing n m left right y =
      let h = y.crossed in
      crossing.all n m (positive_of_more n m h.after h.before) (at_most_of_less _ _ h.after) (at_most_of_less _ _ h.before) (crosses_alike c f at.face same e n m h.crosses)

  pub nowhere : IsCrossingOf c at.face e None → (n m left right : ℤ) → ¬ BorderChanges c e f n m left right
  nowhere crossing n m left right y = none (place_of None crossing n m left right y)
    where
      none : (r : Frac) × (None ≡ Some r) × (n *ℤ r.den ≡ r.num *ℤ m) → ⊥
      none (r, found, value) = none-not-some found

  pub outside : (r : Frac) → IsCrossingOf c at.face e (Some r) → ¬ IsInnerBeyond c e.a e.b r → (n m left right : ℤ) → ¬ BorderChanges c e f n m left right
  outside r crossing out n m left right y = by (place_of (Some r) crossing n m left right y)
    where
      by : (z : Frac) × (Some r ≡ Some z) × (n *ℤ z.den ≡ z.num *ℤ m) → ⊥
      by (z, found, value) =
          let h = y.crossed in
          let m_pos = positive_of_more n m h.after h.before in
          let there : IsInnerBeyond c e.a e.b z = record {
            after = after_at n m z.num z.den m_pos z.positive value h.after;
            before = before_at n m z.num z.den m_pos z.positive value h.before;
            beyond = beyond_at n m z.num z.den m_pos z.positive value c e.a e.b h.beyond;
          } in
          out (subst (Inner c e.a e.b) (sym found) there)

  pub crosses_there : (r : Frac) → IsCrossingOf c at.face e (Some r) → CrossesAt c f e r.num r.den
  crosses_there r crossing = crosses_alike c at.face f (have_same at.face f (at.number ∙ sym number)) e r.num r.den crossing.found_is.1

  pub segment_ends : IsBorderOf c f (of_spot x.a) (of_spot x.b)
  segment_ends = segment_border c s x at f number

-- ---- a border that is taken
-- the border goes between p and q, with the section on the left of the way from p to q, and by so much it changes the counts
pub record IsTaken (c : Plane) {s : Part} (e : Edge s) (f : Face s) (left right : ℤ) : Type 0 where
  pub p : Point
  pub q : Point
  pub ends : IsBorderOf c f p q ⊎ IsBorderOf c f q p
  pub section : HasSectionLeft c s p q
  pub t : ℤ
  pub turned : IsTurnedBy c f p q t
  pub left_is : left ≡ border_change_of to_left c e p q t
  pub right_is : right ≡ border_change_of to_right c e p q t

module _ (c : Plane) {s : Part} (e : Edge s) (f : Face s) (p q : Point) (ends : IsBorderOf c f p q) (t : ℤ) (turned : IsTurnedBy c f p q t)
    (from to : ℤ) (from_is : from ≡ side_of (toward_of c) e.a e.b p) (to_is : to ≡ side_of (toward_of c) e.a e.b q) (u left right : ℤ) where
  -- the way that its segment goes
  pub taken_along : HasSectionLeft c s p q → u ≡ pos 1 -ℤ t → left ≡ u *ℤ (mark to_left from -ℤ mark to_left to) → right ≡ u *ℤ (mark to_right from -ℤ mark to_right to) → IsTaken c e f left right
  taken_along section u_is l r = record {
    p = p;
    q = q;
    ends = inl ends;
    section = section;
    t = t;
    turned = turned;
    left_is = l ∙ (λ i. u_is i *ℤ (mark to_left (from_is i) -ℤ mark to_left (to_is i)));
    right_is = r ∙ (λ i. u_is i *ℤ (mark to_right (from_is i) -ℤ mark to_right (to_is i)));
  }

  -- the other way
  pub taken_back : HasSectionLeft c s q p → u ≡ pos 1 +ℤ t → left ≡ u *ℤ (mark to_left to -ℤ mark to_left from) → right ≡ u *ℤ (mark to_right to -ℤ mark to_right from) → IsTaken c e f left right
  taken_back section u_is l r = record {
    p = q;
    q = p;
    ends = inr ends;
    section = section;
    t = pos 0 -ℤ t;
    turned = turned_back c f p q turned;
    left_is = l ∙ (λ i. (u_is ∙ twice t) i *ℤ (mark to_left (to_is i) -ℤ mark to_left (from_is i)));
    right_is = r ∙ (λ i. (u_is ∙ twice t) i *ℤ (mark to_right (to_is i) -ℤ mark to_right (from_is i)));
  }
    where
      twice : (t : ℤ) → pos 1 +ℤ t ≡ pos 1 -ℤ (pos 0 -ℤ t)
      twice t = ring (t ∷ []) (con (pos 1) ⊕ var 0) (con (pos 1) ⊖ (con (pos 0) ⊖ var 0)) refl

module _ (c : Plane) {s : Part} (e : Edge s) (f : Face s) (left right : ℤ) (h : IsTaken c e f left right) where
  pub none_taken : left ≡ pos 0 → right ≡ pos 0 → (n m l r : ℤ) → ¬ BorderChanges c e f n m l r
  none_taken no_left no_right = nothing_changed c f e h.p h.q h.ends h.section h.t h.turned (sym h.left_is ∙ no_left) (sym h.right_is ∙ no_right)

  pub taken_there : (r : Frac) → CrossesAt c f e r.num r.den → IsInnerBeyond c e.a e.b r → (l m : ℤ) → l ≡ left → m ≡ right → (l ≢ pos 0) ⊎ (m ≢ pos 0) → BorderChanges c e f r.num r.den l m
  taken_there r crosses inner l m l_is m_is some = changes_there c f e h.p h.q h.ends h.section h.t h.turned r crosses inner l m (l_is ∙ h.left_is) (m_is ∙ h.right_is) some
