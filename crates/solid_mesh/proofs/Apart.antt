-- Sides that meet triangles in another point than a shared corner, and edges that meet faces so.
use Rattle.std.proofs.Common.{◌≡◌, ℕ, ◌+◌, ◌*◌, ◌/◌, ◌%◌, ◌<◌, ◌⊎◌, inl, inr, Bool, true, false, List, All, Contains, length, slice_get, Some, refl, sym, subst, ap, ◌∙◌, arith}
use Rattle.std.specs.Prelude.{ℤ, ◌*ℤ◌}
use Rattle.std.specs.Ordering.{int_eq}
use Rattle.std.proofs.lemmas.Bool.{cases_order, true≢false, cases_eq}
use Rattle.std.proofs.lemmas.Bool.Decides.{Decides-int_eq}
use Rattle.std.proofs.lemmas.Option.{slice_get_read, get_or_from_slice_get}
use Rattle.lattice.specs.declared.points.Corner.{Corner}
use Rattle.lattice.specs.declared.soup.Tri.{Tri}
use Rattle.lattice.specs.Triangles.{IsBelow}
use Rattle.lattice.specs.Points.{Point, point_of, AreOnePoint}
use Rattle.geometry.specs.Faces.{IsPointOfEdge}
use Rattle.geometry.specs.Parts.{Part, Face, Edge, IsHalf, IsClosed, IsCornerOf, AreEdges, start_of, end_of}
use Rattle.geometry.specs.Sound.{MeetsFace, IsAtSharedCorner, MeetInSharedCorners, MeetsElsewhere}
use Rattle.geometry.proofs.EachEdge.{flat_face}
use Rattle.geometry.proofs.Listed.{same_element, face_at}
use Rattle.geometry.proofs.Shares.{edge_turned}
use Rattle.solid_mesh.specs.Faults.{MeetsAt}
use Rattle.solid_mesh.specs.Meetings.{Side, MeetApart}
use Rattle.solid_mesh.specs.inner.Meetings.{HasNoMeeting}
use Rattle.solid_mesh.specs.inner.Searches.{AtHalf}
use Rattle.solid_mesh.proofs.DoubleLemmas.{HasSideBetween, side_between, half_of, starts_at_corner, ends_at_corner}
use Rattle.solid_mesh.proofs.EdgeLemmas.{edge_along}
use Rattle.solid_mesh.proofs.HalfLemmas.{start_of_half}
use Rattle.solid_mesh.proofs.Readings.{Reading, reading, same_reading}

abbrev pub side_of_edge : {s : Part} (e : Edge s) → Side s e.half
side_of_edge e = record { m = e.m; n = e.n; p = e.a; q = e.b; goes = e.goes; at_m = e.at_m; at_n = e.at_n }

-- the ends of a half are corners of its triangle
half_ends : (s : Part) (half m n : ℕ) → IsHalf s half m n → (f : Face s) → f.number ≡ half / 3 → IsCornerOf f.tri m × IsCornerOf f.tri n
half_ends s half m n h f number =
    let tri : h.tri ≡ f.tri = same_element s.triangles (half / 3) f.number h.tri f.tri (sym number) h.at f.listed in (
      subst (λ (t : Tri). IsCornerOf t m) tri (subst (IsCornerOf h.tri) h.start (starts_at_corner h.tri (half % 3))),
      subst (λ (t : Tri). IsCornerOf t n) tri (subst (IsCornerOf h.tri) h.end (ends_at_corner h.tri (half % 3))),
    )

-- ---- what can be decided
either_number : (x y : ℤ) → (x ≡ y) ⊎ (x ≡ y → ⊥)
either_number x y = by (int_eq x y) refl
  where
    by : (b : Bool) → int_eq x y ≡ b → (x ≡ y) ⊎ (x ≡ y → ⊥)
    by true e = inl ((Decides-int_eq x y).0 e)
    by false e = inr (λ h. true≢false (sym ((Decides-int_eq x y).1 h) ∙ e))

either_point : (p q : Point) → AreOnePoint p q ⊎ (AreOnePoint p q → ⊥)
either_point p q = by (either_number (p.x *ℤ q.w) (q.x *ℤ p.w)) (either_number (p.y *ℤ q.w) (q.y *ℤ p.w)) (either_number (p.z *ℤ q.w) (q.z *ℤ p.w))
  where
    by : (p.x *ℤ q.w ≡ q.x *ℤ p.w) ⊎ (p.x *ℤ q.w ≡ q.x *ℤ p.w → ⊥) → (p.y *ℤ q.w ≡ q.y *ℤ p.w) ⊎ (p.y *ℤ q.w ≡ q.y *ℤ p.w → ⊥)
        → (p.z *ℤ q.w ≡ q.z *ℤ p.w) ⊎ (p.z *ℤ q.w ≡ q.z *ℤ p.w → ⊥) → AreOnePoint p q ⊎ (AreOnePoint p q → ⊥)
    by (inl x) (inl y) (inl z) = inl (record { x = x; y = y; z = z })
    by (inr x) y z = inr (λ h. x h.x)
    by (inl x) (inr y) z = inr (λ h. y h.y)
    by (inl x) (inl y) (inr z) = inr (λ h. z h.z)

either_corner : (t : Tri) (n : ℕ) → IsCornerOf t n ⊎ (IsCornerOf t n → ⊥)
either_corner t n = by (cases_eq t.a n) (cases_eq t.b n) (cases_eq t.c n)
  where
    by : (t.a ≡ n) ⊎ (t.a ≡ n → ⊥) → (t.b ≡ n) ⊎ (t.b ≡ n → ⊥) → (t.c ≡ n) ⊎ (t.c ≡ n → ⊥) → IsCornerOf t n ⊎ (IsCornerOf t n → ⊥)
    by (inl e) y z = inl (inl e)
    by (inr x) (inl e) z = inl (inr (inl e))
    by (inr x) (inr y) (inl e) = inl (inr (inr e))
    by (inr x) (inr y) (inr z) = inr (λ h. elim h [ inl e ↦ x e | inr (inl e) ↦ y e | inr (inr e) ↦ z e ])

module _ (s : Part) (closed : IsClosed s) where
  -- the ends of an edge are different corners
  ends_apart : (e : Edge s) → e.m ≡ e.n → ⊥
  ends_apart e h =
      let tri : e.left.tri ≡ e.goes.tri = same_element s.triangles e.left.number (e.half / 3) e.left.tri e.goes.tri e.on_left e.left.listed e.goes.at in
      closed.none_flat e.left (flat_face s e.left (e.half % 3)
      (ap (λ (t : Tri). start_of t (e.half % 3)) tri ∙ e.goes.start ∙ h ∙ sym e.goes.end ∙ sym (ap (λ (t : Tri). end_of t (e.half % 3)) tri)))

  -- a face with both corners of an edge is one of its two
  one_of_two : (e : Edge s) (f : Face s) → IsCornerOf f.tri e.m → IsCornerOf f.tri e.n → (f.number ≡ e.left.number) ⊎ (f.number ≡ e.right.number)
  one_of_two e f at_m at_n = by (side_between f.tri e.m e.n (ends_apart e) at_m at_n)
    where
      by : HasSideBetween f.tri e.m e.n → (f.number ≡ e.left.number) ⊎ (f.number ≡ e.right.number)
      by (side, less, inl (start, end)) =
          let g = half_of s f.tri f.number side (3 * f.number + side) f.listed less refl in
          let there : IsHalf s (3 * f.number + side) e.m e.n = record { tri = g.tri; at = g.at; start = g.start ∙ start; end = g.end ∙ end } in
          let same : 3 * f.number + side ≡ e.half = closed.once (3 * f.number + side) e.half e.m e.n there e.goes in
          inl (omega (arith, same, less, e.on_left))
      by (side, less, inr (start, end)) =
          let g = half_of s f.tri f.number side (3 * f.number + side) f.listed less refl in
          let back : IsHalf s (3 * f.number + side) e.n e.m = record { tri = g.tri; at = g.at; start = g.start ∙ start; end = g.end ∙ end } in
          let same : 3 * f.number + side ≡ e.other = closed.once (3 * f.number + side) e.other e.n e.m back e.returns in
          inr (omega (arith, same, less, e.on_right))

  pub elsewhere_of_apart : (e : Edge s) (tri : ℕ) → MeetApart s e.half tri → (f : Face s) × (f.number ≡ tri) × MeetsElsewhere e f
  elsewhere_of_apart e tri h =
      let f = h.face in
      let same : reading h.side f ≡ reading (side_of_edge e) f = same_reading s e.half h.side (side_of_edge e) f f refl in
      let not_side : IsCornerOf f.tri e.m × IsCornerOf f.tri e.n → ⊥ = subst (λ (r : Reading). IsCornerOf r.tri r.m × IsCornerOf r.tri r.n → ⊥) same h.not_side in
      let apart : (k : ℕ) (c : Corner) → slice_get s.corners k ≡ Some c → (e.m ≡ k) ⊎ (e.n ≡ k) → IsCornerOf f.tri k → AreOnePoint (point_of c) h.point → ⊥ =
      subst (λ (r : Reading). (k : ℕ) (c : Corner) → slice_get s.corners k ≡ Some c → (r.m ≡ k) ⊎ (r.n ≡ k) → IsCornerOf r.tri k → AreOnePoint (point_of c) h.point → ⊥) same h.apart in
      let meets : MeetsFace e f h.point = record {
        not_left = λ number. not_side (half_ends s e.half e.m e.n e.goes f (number ∙ e.on_left));
        not_right = λ number. let back = half_ends s e.other e.n e.m e.returns f (number ∙ e.on_right) in not_side (back.1, back.0);
        on_edge = subst (λ (r : Reading). IsPointOfEdge r.p r.q h.point) same h.on_side;
        on_face = h.on_face;
      } in
      (f, h.numbered, (h.point, meets, λ at. apart at.number at.corner at.at at.of_edge at.of_face at.here))

  pub apart_of_elsewhere : (e : Edge s) (f : Face s) → MeetsElsewhere e f → MeetApart s e.half f.number
  apart_of_elsewhere e f (q, meets, off) = record {
    side = side_of_edge e;
    face = f;
    numbered = refl;
    not_side = λ (at_m, at_n). elim (one_of_two e f at_m at_n) [ inl left ↦ meets.not_left left | inr right ↦ meets.not_right right ];
    point = q;
    on_side = meets.on_edge;
    on_face = meets.on_face;
    apart = λ k c at of_edge of_face here. off (record { number = k; corner = c; at = at; of_edge = of_edge; of_face = of_face; here = here });
  }

  pub apart_of_meets : (halves : List ℕ) (i t : ℕ) → MeetsAt s halves i t → AtHalf (MeetApart s) halves (i, t)
  apart_of_meets halves i t (e, f, numbered, number, elsewhere) = (e.half, numbered, subst (MeetApart s e.half) number (apart_of_elsewhere e f elsewhere))

  -- ---- from the other end
  turned_apart : (half tri : ℕ) (h : MeetApart s half tri) (other : ℕ) → IsHalf s other h.side.n h.side.m → MeetApart s other tri
  turned_apart half tri h other back = record {
    side = record { m = h.side.n; n = h.side.m; p = h.side.q; q = h.side.p; goes = back; at_m = h.side.at_n; at_n = h.side.at_m };
    face = h.face;
    numbered = h.numbered;
    not_side = λ (at_m, at_n). h.not_side (at_n, at_m);
    point = h.point;
    on_side = turned h.side.p h.side.q h.point h.on_side;
    on_face = h.on_face;
    apart = λ k c at of_edge. h.apart k c at (swap k of_edge);
  }
    where
      turned : (p q : Corner) (x : Point) → IsPointOfEdge p q x → IsPointOfEdge q p x
      turned p q x (i, j, some, e) = (j, i, omega arith, e ∙ edge_turned p q i j)

      swap : (k : ℕ) → (h.side.n ≡ k) ⊎ (h.side.m ≡ k) → (h.side.m ≡ k) ⊎ (h.side.n ≡ k)
      swap k (inl is) = inr is
      swap k (inr is) = inl is

  module _ (in_range : All (IsBelow (length s.corners)) s.triangles) (halves : List ℕ) (edges : AreEdges s halves) where
    pub meets_of_apart : (i t half : ℕ) → slice_get halves i ≡ Some half → i < length halves → MeetApart s half t → MeetsAt s halves i t
    meets_of_apart i t half at within h =
        let there : Contains halves half = (i, within, get_or_from_slice_get halves i half half at) in
        let (other, twin, less) = (edges.exactly half).0 there in
        let found = edge_along s in_range halves i half other twin.m twin.n at twin.goes twin.returns in
        let same : half ≡ found.edge.half = same_element halves i i half found.edge.half refl at found.numbered in
        let (f, number, elsewhere) = elsewhere_of_apart found.edge t (subst (λ (k : ℕ). MeetApart s k t) same h) in
        (found.edge, f, found.numbered, number, elsewhere)

    -- each half is an edge's, or its reverse is
    pub none_meets : ((p : ℕ × ℕ) → AtHalf (MeetApart s) halves p → ⊥) → HasNoMeeting s
    none_meets none half tri h = by (closed.returns half h.side.m h.side.n h.side.goes)
      where
        listed : (k other m n : ℕ) → IsHalf s k m n → IsHalf s other n m → k < other → MeetApart s k tri → ⊥
        listed k other m n goes back less meets =
            let (i, within, is) = (edges.exactly k).1 (other, record { m = m; n = n; goes = goes; returns = back }, less) in
            none (i, tri) (k, slice_get_read halves (length halves) i k refl within (sym is), meets)

        by : (other : ℕ) × IsHalf s other h.side.n h.side.m → ⊥
        by (other, back) = elim (cases_order half other) [
          | inl e ↦
              let there : IsHalf s half h.side.n h.side.m = subst (λ (k : ℕ). IsHalf s k h.side.n h.side.m) (sym e) back in
              let ends : h.side.m ≡ h.side.n = sym (start_of_half s half h.side.goes) ∙ start_of_half s half there in
              let f = face_at s in_range h.side.goes.tri (half / 3) h.side.goes.at in
              closed.none_flat f (flat_face s f (half % 3) (h.side.goes.start ∙ ends ∙ sym h.side.goes.end))
          | inr (inl less) ↦ listed half other h.side.m h.side.n h.side.goes back less h
          | inr (inr less) ↦ listed other half h.side.n h.side.m back h.side.goes less (turned_apart half tri h other back)
        ]

  -- ---- where no side meets a triangle apart, all meet in shared corners
  pub shared_only : HasNoMeeting s → MeetInSharedCorners s
  shared_only none e f q meets = by (either_corner f.tri e.m) (either_corner f.tri e.n) (either_point (point_of e.a) q) (either_point (point_of e.b) q)
    where
      at_end : (k : IsAtSharedCorner e f q) → (IsCornerOf f.tri e.m × AreOnePoint (point_of e.a) q) ⊎ (IsCornerOf f.tri e.n × AreOnePoint (point_of e.b) q)
      at_end k = elim k.of_edge [
        | inl is ↦
            let same : k.corner ≡ e.a = same_element s.corners k.number e.m k.corner e.a (sym is) k.at e.at_m in
            inl (subst (IsCornerOf f.tri) (sym is) k.of_face, subst (λ (c : Corner). AreOnePoint (point_of c) q) same k.here)
        | inr is ↦
            let same : k.corner ≡ e.b = same_element s.corners k.number e.n k.corner e.b (sym is) k.at e.at_n in
            inr (subst (IsCornerOf f.tri) (sym is) k.of_face, subst (λ (c : Corner). AreOnePoint (point_of c) q) same k.here)
      ]

      elsewhere : (IsAtSharedCorner e f q → ⊥) → ⊥
      elsewhere off = none e.half f.number (apart_of_elsewhere e f (q, meets, off))

      at_first : IsCornerOf f.tri e.m → AreOnePoint (point_of e.a) q → IsAtSharedCorner e f q
      at_first of_face here = record { number = e.m; corner = e.a; at = e.at_m; of_edge = inl refl; of_face = of_face; here = here }

      at_second : IsCornerOf f.tri e.n → AreOnePoint (point_of e.b) q → IsAtSharedCorner e f q
      at_second of_face here = record { number = e.n; corner = e.b; at = e.at_n; of_edge = inr refl; of_face = of_face; here = here }

      neither : (IsCornerOf f.tri e.m → AreOnePoint (point_of e.a) q → ⊥) → (IsCornerOf f.tri e.n → AreOnePoint (point_of e.b) q → ⊥) → IsAtSharedCorner e f q
      neither first second = absurd (elsewhere (λ k. elim (at_end k) [ inl h ↦ first h.0 h.1 | inr h ↦ second h.0 h.1 ]))

      by : IsCornerOf f.tri e.m ⊎ (IsCornerOf f.tri e.m → ⊥) → IsCornerOf f.tri e.n ⊎ (IsCornerOf f.tri e.n → ⊥)
          → AreOnePoint (point_of e.a) q ⊎ (AreOnePoint (point_of e.a) q → ⊥) → AreOnePoint (point_of e.b) q ⊎ (AreOnePoint (point_of e.b) q → ⊥) → IsAtSharedCorner e f q
      by (inl m) n (inl a) b = at_first m a
      by (inl m) (inl n) (inr a) (inl b) = at_second n b
      by (inl m) (inl n) (inr a) (inr b) = neither (λ x y. a y) (λ x y. b y)
      by (inl m) (inr n) (inr a) b = neither (λ x y. a y) (λ x y. n x)
      by (inr m) (inl n) a (inl b) = at_second n b
      by (inr m) (inl n) a (inr b) = neither (λ x y. m x) (λ x y. b y)
      by (inr m) (inr n) a b = neither (λ x y. m x) (λ x y. n x)
