-- A border goes on in one triangle, and comes from one; where it leaves the one it enters the other.
use Rattle.std.proofs.Common.{◌≡◌, ℕ, zero, suc, ◌+◌, ◌*◌, ◌/◌, ◌%◌, ◌<◌, length, refl, sym, subst, ap, ◌∙◌, arith}
use Rattle.std.proofs.lemmas.Option.{slice_get_within}
use Rattle.lattice.specs.declared.points.Corner.{Corner}
use Rattle.lattice.specs.declared.soup.Tri.{Tri}
use Rattle.lattice.specs.Points.{Point, point_of, of_spot}
use Rattle.lattice.specs.Cuts.{Plane, IsBeyond, IsBeforePlane}
use Rattle.geometry.specs.Parts.{Part, Face, IsHalf, IsTwin, HasNoSideTwice, start_of, end_of}
use Rattle.geometry.specs.Cuts.{IsBorderOf, GoesBeyond, crossing_of, start_corner, end_corner}
use Rattle.geometry.proofs.Listed.{same_element}
use Rattle.geometry.proofs.Borders.{not_both_sides}
use Rattle.cut_plane.specs.declared.segments.Segment.{Segment}
use Rattle.cut_plane.specs.Loops.{IsSegmentOf}
use Rattle.cut_plane.specs.inner.Walks.{IsCrossedAt, Follows}
use Rattle.cut_plane.proofs.FaceCorners.{same_start, same_end, crossed_by}

-- ---- one side of a face goes beyond the plane, and one comes back
module _ (c : Plane) {s : Part} (f : Face s) where
  apart : (k : Corner) → IsBeyond c (point_of k) → IsBeforePlane c (point_of k) → ⊥
  apart k = not_both_sides c (point_of k)

  pub one_goes : (m n : ℕ) → m < 3 → n < 3 → GoesBeyond c (start_corner f m) (end_corner f m) → GoesBeyond c (start_corner f n) (end_corner f n) → m ≡ n
  one_goes zero zero hm hn p q = refl
  one_goes zero (suc zero) hm hn p q = absurd (apart f.b p.1 q.0)
  one_goes zero (suc (suc n)) hm hn p q = absurd (apart f.a q.1 p.0)
  one_goes (suc zero) zero hm hn p q = absurd (apart f.b q.1 p.0)
  one_goes (suc zero) (suc zero) hm hn p q = refl
  one_goes (suc zero) (suc (suc n)) hm hn p q = absurd (apart f.c p.1 q.0)
  one_goes (suc (suc m)) zero hm hn p q = absurd (apart f.a p.1 q.0)
  one_goes (suc (suc m)) (suc zero) hm hn p q = absurd (apart f.c q.1 p.0)
  one_goes (suc (suc m)) (suc (suc n)) hm hn p q = omega arith

  pub one_returns : (m n : ℕ) → m < 3 → n < 3 → GoesBeyond c (end_corner f m) (start_corner f m) → GoesBeyond c (end_corner f n) (start_corner f n) → m ≡ n
  one_returns zero zero hm hn p q = refl
  one_returns zero (suc zero) hm hn p q = absurd (apart f.b q.1 p.0)
  one_returns zero (suc (suc n)) hm hn p q = absurd (apart f.a p.1 q.0)
  one_returns (suc zero) zero hm hn p q = absurd (apart f.b p.1 q.0)
  one_returns (suc zero) (suc zero) hm hn p q = refl
  one_returns (suc zero) (suc (suc n)) hm hn p q = absurd (apart f.c q.1 p.0)
  one_returns (suc (suc m)) zero hm hn p q = absurd (apart f.a q.1 p.0)
  one_returns (suc (suc m)) (suc zero) hm hn p q = absurd (apart f.c p.1 q.0)
  one_returns (suc (suc m)) (suc (suc n)) hm hn p q = omega arith

  -- a face has one border
  pub one_border : (p q p' q' : Point) → IsBorderOf c f p q → IsBorderOf c f p' q' → (p ≡ p') × (q ≡ q')
  one_border p q p' q' h h' = (
    h.from ∙ (λ i. crossing_of c (start_corner f (goes i)) (end_corner f (goes i))) ∙ sym h'.from,
    h.to ∙ (λ i. crossing_of c (end_corner f (returns i)) (start_corner f (returns i))) ∙ sym h'.to,
  )
    where
      goes : h.first ≡ h'.first
      goes = one_goes h.first h'.first h.first_side h'.first_side h.goes h'.goes

      returns : h.second ≡ h'.second
      returns = one_returns h.second h'.second h.second_side h'.second_side h.returns h'.returns

module _ (c : Plane) (s : Part) where
  -- ---- faces with one number
  goes_same : (f g : Face s) → f.number ≡ g.number → (n : ℕ) → GoesBeyond c (start_corner f n) (end_corner f n) → GoesBeyond c (start_corner g n) (end_corner g n)
  goes_same f g e n h = subst (λ (p : Corner). GoesBeyond c p (end_corner g n)) (same_start f g e n) (subst (λ (q : Corner). GoesBeyond c (start_corner f n) q) (same_end f g e n) h)

  returns_same : (f g : Face s) → f.number ≡ g.number → (n : ℕ) → GoesBeyond c (end_corner f n) (start_corner f n) → GoesBeyond c (end_corner g n) (start_corner g n)
  returns_same f g e n h = subst (λ (p : Corner). GoesBeyond c p (start_corner g n)) (same_end f g e n) (subst (λ (q : Corner). GoesBeyond c (end_corner f n) q) (same_start f g e n) h)

  -- ---- where the border enters a triangle
  abbrev pub EntersAt : ℕ → Point → Type 0
  EntersAt j p = (g : Face s) (into : ℕ) → g.number ≡ j → into < 3 → GoesBeyond c (start_corner g into) (end_corner g into) → crossing_of c (start_corner g into) (end_corner g into) ≡ p

  pub segment_enters : (x : Segment) (p : Point) → IsSegmentOf c s x → EntersAt x.tri p → of_spot x.a ≡ p
  segment_enters x p h enters = h.border.from ∙ enters h.face h.border.first h.number h.border.first_side h.border.goes

  -- from a segment to the next triangle
  pub segment_leaves : (x : Segment) (j : ℕ) → IsSegmentOf c s x → Follows c s x.tri j → EntersAt j (of_spot x.b)
  segment_leaves x j h follows g into number side goes =
      let same = number ∙ sym follows.to_number in
      let here = h.number ∙ sym follows.from_number in
      let one = one_goes c follows.to into follows.into side follows.into_side (goes_same g follows.to same into goes) follows.goes in
      let other = one_returns c follows.from h.border.second follows.out h.border.second_side follows.out_side (returns_same h.face follows.from here h.border.second h.border.returns) follows.returns in
      (λ i. crossing_of c (same_start g follows.to same into i) (same_end g follows.to same into i))
      ∙ (λ i. crossing_of c (start_corner follows.to (one i)) (end_corner follows.to (one i)))
      ∙ (λ i. crossing_of c (follows.same_start i) (follows.same_end i))
      ∙ (λ i. crossing_of c (end_corner follows.from (sym other i)) (start_corner follows.from (sym other i)))
      ∙ (λ i. crossing_of c (sym (same_end h.face follows.from here h.border.second) i) (sym (same_start h.face follows.from here h.border.second) i))
      ∙ sym h.border.to

  -- ---- triangles with a border
  pub segment_crossed : (x : Segment) → IsSegmentOf c s x → IsCrossedAt c s x.tri
  segment_crossed x h = (h.face, h.number, crossed_by c h.face h.border.first h.border.goes)

  pub next_crossed : (i j : ℕ) → Follows c s i j → IsCrossedAt c s j
  next_crossed i j h = (h.to, h.to_number, crossed_by c h.to h.into h.goes)

  pub crossed_within : (i : ℕ) → IsCrossedAt c s i → i < length s.triangles
  crossed_within i (f, number, crossed) = let h = slice_get_within s.triangles f.number f.tri f.listed in omega (arith, number)

  -- ---- a triangle follows one other
  module _ (once : HasNoSideTwice s) where
    ends_of_half : (half m n k l : ℕ) → IsHalf s half m n → IsHalf s half k l → (m ≡ k) × (n ≡ l)
    ends_of_half half m n k l h g =
        let tri = same_element s.triangles (half / 3) (half / 3) h.tri g.tri refl h.at g.at in
        (sym h.start ∙ ap (λ (t : Tri). start_of t (half % 3)) tri ∙ g.start, sym h.end ∙ ap (λ (t : Tri). end_of t (half % 3)) tri ∙ g.end)

    one_twin : (h k o : ℕ) → IsTwin s h o → IsTwin s k o → h ≡ k
    one_twin h k o p q =
        let same = ends_of_half o p.n p.m q.n q.m p.returns q.returns in
        once h k q.m q.n (subst (λ (m : ℕ). IsHalf s h m q.n) same.1 (subst (λ (n : ℕ). IsHalf s h p.m n) same.0 p.goes)) q.goes

    pub one_follows : (i k j : ℕ) → Follows c s i j → Follows c s k j → i ≡ k
    one_follows i k j p q =
        let same = q.to_number ∙ sym p.to_number in
        let into = one_goes c p.to q.into p.into q.into_side p.into_side (goes_same q.to p.to same q.into q.goes) p.goes in
        third i k p.out q.out p.out_side q.out_side (one_twin (3 * i + p.out) (3 * k + q.out) (3 * j + p.into) p.twin (subst (λ (n : ℕ). IsTwin s (3 * k + q.out) (3 * j + n)) into q.twin))
      where
        third : (i k m n : ℕ) → m < 3 → n < 3 → 3 * i + m ≡ 3 * k + n → i ≡ k
        third i k m n hm hn e = omega arith
