-- Faces with one number have the same corners; the side at which a border ends is where it goes on in the next triangle.
use Rattle.std.proofs.Common.{◌≡◌, ℕ, zero, suc, ◌+◌, ◌*◌, ◌/◌, ◌%◌, ◌<◌, ◌⊎◌, inl, inr, All, length, Some, slice_get, refl, sym, subst, ap, ◌∙◌, arith}
use Rattle.lattice.specs.declared.points.Corner.{Corner}
use Rattle.lattice.specs.declared.soup.Tri.{Tri}
use Rattle.lattice.specs.Triangles.{IsBelow}
use Rattle.lattice.specs.Points.{point_of}
use Rattle.lattice.specs.Cuts.{Plane, IsBeyond, IsBeforePlane}
use Rattle.geometry.specs.Parts.{Part, Face, IsTwin, start_of, end_of}
use Rattle.geometry.specs.Cuts.{start_corner, end_corner, GoesBeyond, crossing_of, IsCrossed}
use Rattle.geometry.proofs.Listed.{same_element, face_at}
use Rattle.geometry.proofs.Borders.{not_both_sides}
use Rattle.cut_plane.specs.declared.segments.Corners.{Corners}
use Rattle.cut_plane.specs.declared.segments.Segment.{Segment}
use Rattle.cut_plane.specs.inner.Borders.{HasCorners, IsFaceAt, corner_from, corner_to, CrossesBySides, IsOnOneSide, IsSegmentAt, LeadsOver}
use Rattle.cut_plane.specs.Loops.{IsBorderLine, IsSegmentOf}
use Rattle.cut_plane.specs.inner.Walks.{IsCrossedAt, Follows}

half_at : (i n : ℕ) → n < 3 → ((3 * i + n) / 3 ≡ i) × ((3 * i + n) % 3 ≡ n)
half_at i n h = (omega arith, omega arith)

module _ {s : Part} where
  -- ---- one number
  pub record HaveSame (f g : Face s) : Type 0 where
    pub tri : f.tri ≡ g.tri
    pub a : f.a ≡ g.a
    pub b : f.b ≡ g.b
    pub c : f.c ≡ g.c

  pub have_same : (f g : Face s) → f.number ≡ g.number → HaveSame f g
  have_same f g e =
      let tri = same_element s.triangles f.number g.number f.tri g.tri e f.listed g.listed in
      record {
        tri = tri;
        a = same_element s.corners f.tri.a g.tri.a f.a g.a (ap (λ (t : Tri). t.a) tri) f.at_a g.at_a;
        b = same_element s.corners f.tri.b g.tri.b f.b g.b (ap (λ (t : Tri). t.b) tri) f.at_b g.at_b;
        c = same_element s.corners f.tri.c g.tri.c f.c g.c (ap (λ (t : Tri). t.c) tri) f.at_c g.at_c;
      }

  pub same_start : (f g : Face s) → f.number ≡ g.number → (n : ℕ) → start_corner f n ≡ start_corner g n
  same_start f g e zero = (have_same f g e).a
  same_start f g e (suc zero) = (have_same f g e).b
  same_start f g e (suc (suc n)) = (have_same f g e).c

  pub same_end : (f g : Face s) → f.number ≡ g.number → (n : ℕ) → end_corner f n ≡ end_corner g n
  same_end f g e zero = (have_same f g e).b
  same_end f g e (suc zero) = (have_same f g e).c
  same_end f g e (suc (suc n)) = (have_same f g e).a

  -- ---- corners by their numbers
  at_start : (f : Face s) (n : ℕ) → slice_get s.corners (start_of f.tri n) ≡ Some (start_corner f n)
  at_start f zero = f.at_a
  at_start f (suc zero) = f.at_b
  at_start f (suc (suc n)) = f.at_c

  at_end : (f : Face s) (n : ℕ) → slice_get s.corners (end_of f.tri n) ≡ Some (end_corner f n)
  at_end f zero = f.at_b
  at_end f (suc zero) = f.at_c
  at_end f (suc (suc n)) = f.at_a

  -- ---- given corners
  from_is : (f : Face s) (x : Corners) → HasCorners f x → (n : ℕ) → corner_from x n ≡ start_corner f n
  from_is f x h zero = sym h.a
  from_is f x h (suc zero) = sym h.b
  from_is f x h (suc (suc n)) = sym h.c

  to_is : (f : Face s) (x : Corners) → HasCorners f x → (n : ℕ) → corner_to x n ≡ end_corner f n
  to_is f x h zero = sym h.b
  to_is f x h (suc zero) = sym h.c
  to_is f x h (suc (suc n)) = sym h.a

  goes_at : (c : Plane) (f : Face s) (x : Corners) → HasCorners f x → (first second : ℕ) → CrossesBySides c x first second → GoesBeyond c (start_corner f first) (end_corner f first)
  goes_at c f x at first second h =
      subst (λ (p : Corner). GoesBeyond c p (end_corner f first)) (from_is f x at first) (subst (λ (q : Corner). GoesBeyond c (corner_from x first) q) (to_is f x at first) h.goes)

  pub returns_at : (c : Plane) (f : Face s) (x : Corners) → HasCorners f x → (first second : ℕ) → CrossesBySides c x first second → GoesBeyond c (end_corner f second) (start_corner f second)
  returns_at c f x at first second h =
      subst (λ (p : Corner). GoesBeyond c p (start_corner f second)) (to_is f x at second) (subst (λ (q : Corner). GoesBeyond c (corner_to x second) q) (from_is f x at second) h.returns)

  -- ---- a side that crosses the plane
  pub crossed_by : (c : Plane) (f : Face s) (n : ℕ) → GoesBeyond c (start_corner f n) (end_corner f n) → IsCrossed c f
  crossed_by c f zero h = record { before = inl h.0; beyond = inr (inl h.1) }
  crossed_by c f (suc zero) h = record { before = inr (inl h.0); beyond = inr (inr h.1) }
  crossed_by c f (suc (suc n)) h = record { before = inr (inr h.0); beyond = inl h.1 }

  pub crossed_at : (c : Plane) (tri : ℕ) (x : Corners) (first second : ℕ) → IsFaceAt s tri x → CrossesBySides c x first second → IsCrossedAt c s tri
  crossed_at c tri x first second at h = (at.face, at.number, crossed_by c at.face first (goes_at c at.face x at.corners first second h))

  -- a triangle with corners on both sides isn't on one side
  pub crossed_apart : (c : Plane) (tri : ℕ) (x : Corners) → IsFaceAt s tri x → IsCrossedAt c s tri → ¬ IsOnOneSide c x
  crossed_apart c tri x at (g, number, h) side = by side
    where
      same : HaveSame at.face g
      same = have_same at.face g (at.number ∙ sym number)

      before : (k l : Corner) → k ≡ l → IsBeforePlane c (point_of k) → IsBeyond c (point_of l) → ⊥
      before k l e p q = not_both_sides c (point_of l) q (subst (λ (m : Corner). IsBeforePlane c (point_of m)) e p)

      a : x.a ≡ g.a
      a = sym at.corners.a ∙ same.a

      b : x.b ≡ g.b
      b = sym at.corners.b ∙ same.b

      d : x.c ≡ g.c
      d = sym at.corners.c ∙ same.c

      by : IsOnOneSide c x → ⊥
      by (inl k) = none h.beyond
        where
          none : IsBeyond c (point_of g.a) ⊎ IsBeyond c (point_of g.b) ⊎ IsBeyond c (point_of g.c) → ⊥
          none (inl q) = before x.a g.a a k.0 q
          none (inr (inl q)) = before x.b g.b b k.1 q
          none (inr (inr q)) = before x.c g.c d k.2 q
      by (inr k) = none h.before
        where
          none : IsBeforePlane c (point_of g.a) ⊎ IsBeforePlane c (point_of g.b) ⊎ IsBeforePlane c (point_of g.c) → ⊥
          none (inl q) = before g.a x.a (sym a) q k.0
          none (inr (inl q)) = before g.b x.b (sym b) q k.1
          none (inr (inr q)) = before g.c x.c (sym d) q k.2

  -- ---- the segment
  pub segment_is : (c : Plane) (tri : ℕ) (x : Corners) (first second : ℕ) (y : Segment) → IsFaceAt s tri x → CrossesBySides c x first second → IsSegmentAt c tri x first second y → IsSegmentOf c s y
  segment_is c tri x first second y at h is =
      let f = at.face in
      let k = from_is f x at.corners in
      let l = to_is f x at.corners in
      record {
        face = f;
        number = at.number ∙ sym is.number;
        border = record {
          first = first;
          second = second;
          first_side = h.first_side;
          second_side = h.second_side;
          goes = goes_at c f x at.corners first second h;
          returns = returns_at c f x at.corners first second h;
          from = is.from ∙ (λ i. crossing_of c (k first i) (l first i));
          to = is.to ∙ (λ i. crossing_of c (l second i) (k second i));
        };
        line = subst (λ p. IsBorderLine c p f.b f.c y.line) (sym at.corners.a) (subst (λ p. IsBorderLine c x.a p f.c y.line) (sym at.corners.b) (subst (λ p. IsBorderLine c x.a x.b p y.line) (sym at.corners.c) is.line));
      }

  -- ---- the next triangle
  pub follows_across : (c : Plane) → All (IsBelow (length s.corners)) s.triangles → (f : Face s) (out next : ℕ) → out < 3 → GoesBeyond c (end_corner f out) (start_corner f out) → LeadsOver s f.number out next → Follows c s f.number next
  follows_across c in_range f out next side returns h =
      let g = face_at s in_range h.twin.returns.tri (h.other / 3) h.twin.returns.at in
      let into = h.other % 3 in
      let at = half_at f.number out side in
      let tri : f.tri ≡ h.twin.goes.tri = same_element s.triangles f.number ((3 * f.number + out) / 3) f.tri h.twin.goes.tri (sym at.0) f.listed h.twin.goes.at in
      let start : start_of f.tri out ≡ h.twin.m = (λ i. start_of (tri i) (sym at.1 i)) ∙ h.twin.goes.start in
      let end : end_of f.tri out ≡ h.twin.n = (λ i. end_of (tri i) (sym at.1 i)) ∙ h.twin.goes.end in
      let first : start_corner g into ≡ end_corner f out = same_element s.corners (start_of g.tri into) (end_of f.tri out) (start_corner g into) (end_corner f out) (h.twin.returns.start ∙ sym end) (at_start g into) (at_end f out) in
      let second : end_corner g into ≡ start_corner f out = same_element s.corners (end_of g.tri into) (start_of f.tri out) (end_corner g into) (start_corner f out) (h.twin.returns.end ∙ sym start) (at_end g into) (at_start f out) in
      let whole : h.other ≡ 3 * next + into = omega (arith, h.there) in
      record {
        from = f;
        to = g;
        from_number = refl;
        to_number = sym h.there;
        out = out;
        into = into;
        out_side = side;
        into_side = omega arith;
        returns = returns;
        goes = subst (λ (p : Corner). GoesBeyond c p (end_corner g into)) (sym first) (subst (λ (q : Corner). GoesBeyond c (end_corner f out) q) (sym second) returns);
        same_start = first;
        same_end = second;
        twin = subst (λ (n : ℕ). IsTwin s (3 * f.number + out) n) whole h.twin;
      }
