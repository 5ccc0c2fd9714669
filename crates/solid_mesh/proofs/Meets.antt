-- Where a side and a triangle meet, by the corners that were read.
use Rattle.std.proofs.Common.{◌≡◌, ℕ, ◌*◌, ◌/◌, ◌%◌, ◌<◌, ◌⊎◌, inl, inr, Bool, All, length, get_or, slice_get, Some, refl, sym, subst, ap, ◌∙◌, arith}
use Rattle.std.specs.Prelude.{◌↔◌, IsTrue}
use Rattle.std.proofs.lemmas.Option.{slice_get_read}
use Rattle.geometry.proofs.FacePoints.{face_point-round, edge_point-turned}
use Rattle.integers.proofs.Logic.{↔-trans}
use Rattle.lattice.specs.declared.points.Corner.{Corner}
use Rattle.lattice.specs.declared.soup.Tri.{Tri}
use Rattle.lattice.specs.Triangles.{IsBelow}
use Rattle.lattice.specs.Points.{Point, point_of, AreOnePoint}
use Rattle.geometry.specs.Faces.{IsPointOfEdge, IsPointOfFace}
use Rattle.geometry.specs.Parts.{Part, Face, IsCornerOf, start_of, end_of}
use Rattle.geometry.proofs.Listed.{same_element, face_at}
use Rattle.meeting.specs.Boxes.{CoordinatesMeet, BoxesMeet}
use Rattle.meeting.specs.Touching.{Touch, TouchBeyond}
use Rattle.meeting.proofs.TouchingBoxes.{boxes-of-touch}
use Rattle.solid_mesh.specs.Meetings.{Side, MeetApart, HaveCommonBox, HaveCommonX}
use Rattle.solid_mesh.specs.inner.Pairs.{AreAt, MeetBeyond, IsTurn, IsTurnedTo}
use Rattle.solid_mesh.proofs.Readings.{Reading, reading, same_reading, side_there}

-- where they meet apart, their boxes meet, and where these do, their ranges of x
pub box_of_apart : (s : Part) (half tri : ℕ) → MeetApart s half tri → HaveCommonBox s half tri
box_of_apart s half tri h = record {
  side = h.side;
  face = h.face;
  numbered = h.numbered;
  meet = boxes-of-touch h.face.a h.face.b h.face.c h.side.p h.side.q (record { point = h.point; on_edge = h.on_side; on_face = h.on_face });
}

pub x_of_box : (s : Part) (half tri : ℕ) → HaveCommonBox s half tri → HaveCommonX s half tri
x_of_box s half tri h = record { side = h.side; face = h.face; numbered = h.numbered; meet = h.meet.x }

-- what a side and a triangle that meet apart are known for, by their corners
pub record ApartAs (s : Part) (r : Reading) : Type 0 where
  pub point : Point
  pub not_side : IsCornerOf r.tri r.m × IsCornerOf r.tri r.n → ⊥
  pub on_side : IsPointOfEdge r.p r.q point
  pub on_face : IsPointOfFace r.a r.b r.c point
  pub apart : (k : ℕ) (c : Corner) → slice_get s.corners k ≡ Some c → (r.m ≡ k) ⊎ (r.n ≡ k) → IsCornerOf r.tri k → AreOnePoint (point_of c) point → ⊥

module _ (s : Part) (half tri : ℕ) (e : Side s half) (f : Face s) (number : f.number ≡ tri) where
  same_as : (other : Side s half) (g : Face s) → g.number ≡ tri → reading other g ≡ reading e f
  same_as other g is = same_reading s half other e g f (is ∙ sym number)

  pub box_here : BoxesMeet f.a f.b f.c e.p e.q ↔ HaveCommonBox s half tri
  box_here = (
    λ h. record { side = e; face = f; numbered = number; meet = h },
    λ h. subst (λ (r : Reading). BoxesMeet r.a r.b r.c r.p r.q) (same_as h.side h.face h.numbered) h.meet,
  )

  pub x_here : CoordinatesMeet f.a.x f.b.x f.c.x e.p.x e.q.x ↔ HaveCommonX s half tri
  x_here = (
    λ h. record { side = e; face = f; numbered = number; meet = h },
    λ h. subst (λ (r : Reading). CoordinatesMeet r.a.x r.b.x r.c.x r.p.x r.q.x) (same_as h.side h.face h.numbered) h.meet,
  )

  pub apart_here : MeetApart s half tri → ApartAs s (reading e f)
  apart_here h = subst (ApartAs s) (same_as h.side h.face h.numbered)
      (record { point = h.point; not_side = h.not_side; on_side = h.on_side; on_face = h.on_face; apart = h.apart })

  abbrev pub touch_of_apart : MeetApart s half tri → Touch f.a f.b f.c e.p e.q
  touch_of_apart h = let g = apart_here h in record { point = g.point; on_edge = g.on_side; on_face = g.on_face }

  pub apart_from : (h : MeetApart s half tri) (k : ℕ) (c : Corner) → slice_get s.corners k ≡ Some c → (e.m ≡ k) ⊎ (e.n ≡ k) → IsCornerOf f.tri k → AreOnePoint (point_of c) (touch_of_apart h).point → ⊥
  apart_from h = (apart_here h).apart

  -- the triangle has neither end
  pub apart-none : (IsCornerOf f.tri e.m → ⊥) → (IsCornerOf f.tri e.n → ⊥) → Touch f.a f.b f.c e.p e.q ↔ MeetApart s half tri
  apart-none no_m no_n = (
    λ t. record {
      side = e;
      face = f;
      numbered = number;
      not_side = λ (at_m, at_n). no_m at_m;
      point = t.point;
      on_side = t.on_edge;
      on_face = t.on_face;
      apart = λ k c at ends of_face here. elim ends [ inl is ↦ no_m (subst (IsCornerOf f.tri) (sym is) of_face) | inr is ↦ no_n (subst (IsCornerOf f.tri) (sym is) of_face) ];
    },
    λ h. let g = apart_here h in record { point = g.point; on_edge = g.on_side; on_face = g.on_face },
  )

  -- it has the first end
  pub apart-first : IsCornerOf f.tri e.m → (IsCornerOf f.tri e.n → ⊥) → MeetBeyond f.a f.b f.c e.p e.q ↔ MeetApart s half tri
  apart-first has_m no_n = (
    λ t. record {
      side = e;
      face = f;
      numbered = number;
      not_side = λ (at_m, at_n). no_n at_n;
      point = t.point;
      on_side = t.on_edge;
      on_face = t.on_face;
      apart = λ k c at ends of_face here. elim ends [
        | inl is ↦ t.off (subst (λ (x : Corner). AreOnePoint (point_of x) t.point) (same_element s.corners k e.m c e.p (sym is) at e.at_m) here)
        | inr is ↦ no_n (subst (IsCornerOf f.tri) (sym is) of_face)
      ];
    },
    λ h. let g = apart_here h in record { point = g.point; on_edge = g.on_side; on_face = g.on_face; off = g.apart e.m e.p e.at_m (inl refl) has_m },
  )

  -- it has the second end
  pub apart-second : (IsCornerOf f.tri e.m → ⊥) → IsCornerOf f.tri e.n → MeetBeyond f.a f.b f.c e.q e.p ↔ MeetApart s half tri
  apart-second no_m has_n = (
    λ t. record {
      side = e;
      face = f;
      numbered = number;
      not_side = λ (at_m, at_n). no_m at_m;
      point = t.point;
      on_side = edge_point-turned e.q e.p t.point t.on_edge;
      on_face = t.on_face;
      apart = λ k c at ends of_face here. elim ends [
        | inl is ↦ no_m (subst (IsCornerOf f.tri) (sym is) of_face)
        | inr is ↦ t.off (subst (λ (x : Corner). AreOnePoint (point_of x) t.point) (same_element s.corners k e.n c e.q (sym is) at e.at_n) here)
      ];
    },
    λ h. let g = apart_here h in record { point = g.point; on_edge = edge_point-turned e.p e.q g.point g.on_side; on_face = g.on_face; off = g.apart e.n e.q e.at_n (inr refl) has_n },
  )

  -- it has both
  pub apart-both : IsCornerOf f.tri e.m → IsCornerOf f.tri e.n → MeetApart s half tri → ⊥
  apart-both has_m has_n h = let g = apart_here h in g.not_side (has_m, has_n)

-- ---- the corners of a triangle
pub corners_read : (s : Part) (t : Tri) → IsBelow (length s.corners) t → (a b c : Corner) → a ≡ get_or s.corners t.a a → b ≡ get_or s.corners t.b b → c ≡ get_or s.corners t.c c → AreAt s t a b c
corners_read s t below a b c at_a at_b at_c = record {
  at_a = slice_get_read s.corners (length s.corners) t.a a refl below.a at_a;
  at_b = slice_get_read s.corners (length s.corners) t.b b refl below.b at_b;
  at_c = slice_get_read s.corners (length s.corners) t.c c refl below.c at_c;
}

pub turned_below : (n : ℕ) (t u : Tri) → IsTurn t u → IsBelow n t → IsBelow n u
turned_below n t u (inl e) h = subst (IsBelow n) (sym e) h
turned_below n t u (inr (inl e)) h = subst (IsBelow n) (sym e) (record { a = h.b; b = h.c; c = h.a })
turned_below n t u (inr (inr e)) h = subst (IsBelow n) (sym e) (record { a = h.c; b = h.a; c = h.b })

-- ---- a triangle that begins at another of its corners
module _ (s : Part) (t u : Tri) (a b c x y z : Corner) (at : AreAt s t a b c) (there : AreAt s u x y z) where
  corner_at : (k l : ℕ) (v w : Corner) → k ≡ l → slice_get s.corners k ≡ Some v → slice_get s.corners l ≡ Some w → v ≡ w
  corner_at k l v w e p q = same_element s.corners k l v w e p q

  -- what holds of the corners in any turn
  turned_corners : IsTurn t u → ((x ≡ a) × (y ≡ b) × (z ≡ c)) ⊎ ((x ≡ b) × (y ≡ c) × (z ≡ a)) ⊎ ((x ≡ c) × (y ≡ a) × (z ≡ b))
  turned_corners (inl e) = inl (
    corner_at u.a t.a x a (ap (λ (v : Tri). v.a) e) there.at_a at.at_a,
    corner_at u.b t.b y b (ap (λ (v : Tri). v.b) e) there.at_b at.at_b,
    corner_at u.c t.c z c (ap (λ (v : Tri). v.c) e) there.at_c at.at_c,
  )
  turned_corners (inr (inl e)) = inr (inl (
    corner_at u.a t.b x b (ap (λ (v : Tri). v.a) e) there.at_a at.at_b,
    corner_at u.b t.c y c (ap (λ (v : Tri). v.b) e) there.at_b at.at_c,
    corner_at u.c t.a z a (ap (λ (v : Tri). v.c) e) there.at_c at.at_a,
  ))
  turned_corners (inr (inr e)) = inr (inr (
    corner_at u.a t.c x c (ap (λ (v : Tri). v.a) e) there.at_a at.at_c,
    corner_at u.b t.a y a (ap (λ (v : Tri). v.b) e) there.at_b at.at_a,
    corner_at u.c t.b z b (ap (λ (v : Tri). v.c) e) there.at_c at.at_b,
  ))

  -- what stays as it is where the corners go round holds of both
  turned_both : (P : Corner → Corner → Corner → Type 0) → ((k l m : Corner) → P k l m → P l m k) → IsTurn t u → P a b c ↔ P x y z
  turned_both P round turn = by (turned_corners turn)
    where
      moved : (k l m : Corner) → x ≡ k → y ≡ l → z ≡ m → P k l m ↔ P x y z
      moved k l m e f g = (
        λ h. subst (λ (v : Corner). P v y z) (sym e) (subst (λ (v : Corner). P k v z) (sym f) (subst (λ (v : Corner). P k l v) (sym g) h)),
        λ h. subst (λ (v : Corner). P k l v) g (subst (λ (v : Corner). P k v z) f (subst (λ (v : Corner). P v y z) e h)),
      )

      by : ((x ≡ a) × (y ≡ b) × (z ≡ c)) ⊎ ((x ≡ b) × (y ≡ c) × (z ≡ a)) ⊎ ((x ≡ c) × (y ≡ a) × (z ≡ b)) → P a b c ↔ P x y z
      by (inl (e, f, g)) = moved a b c e f g
      by (inr (inl (e, f, g))) = ↔-trans (λ h. round a b c h, λ h. round c a b (round b c a h)) (moved b c a e f g)
      by (inr (inr (e, f, g))) = ↔-trans (λ h. round b c a (round a b c h), λ h. round c a b h) (moved c a b e f g)

  pub turned_beyond : (corner : ℕ) (p q : Corner) → IsTurnedTo t corner u → IsCornerOf t corner → slice_get s.corners corner ≡ Some p → TouchBeyond x y z q ↔ MeetBeyond a b c p q
  turned_beyond corner p q turned has at_p =
      let first : x ≡ p = corner_at u.a corner x p (turned.first has) there.at_a at_p in
      let faces = λ (k : Point). turned_both (λ l m n. IsPointOfFace l m n k) (λ l m n h. face_point-round l m n k h) turned.turn in (
        λ h. record {
          point = h.point;
          on_edge = subst (λ (v : Corner). IsPointOfEdge v q h.point) first h.on_edge;
          on_face = (faces h.point).1 h.on_face;
          off = subst (λ (v : Corner). AreOnePoint (point_of v) h.point → ⊥) first h.off;
        },
        λ h. record {
          point = h.point;
          on_edge = subst (λ (v : Corner). IsPointOfEdge v q h.point) (sym first) h.on_edge;
          on_face = (faces h.point).0 h.on_face;
          off = subst (λ (v : Corner). AreOnePoint (point_of v) h.point → ⊥) (sym first) h.off;
        },
      )

-- ---- a side and a triangle whose numbers were read
module _ (s : Part) (in_range : All (IsBelow (length s.corners)) s.triangles) (half : ℕ) (within : half < 3 * length s.triangles) (t : Tri) (t_read : t ≡ get_or s.triangles (half / 3) t)
    (m n : ℕ) (start : m ≡ start_of t (half % 3)) (end : n ≡ end_of t (half % 3)) (tri : ℕ) (tri_within : tri < length s.triangles) (u : Tri) (u_read : u ≡ get_or s.triangles tri u) where
  below_third : (k n : ℕ) → k < 3 * n → k / 3 < n
  below_third k n h = omega (arith, h)

  at : slice_get s.triangles (half / 3) ≡ Some t
  at = slice_get_read s.triangles (length s.triangles) (half / 3) t refl (below_third half (length s.triangles) within) t_read

  listed : slice_get s.triangles tri ≡ Some u
  listed = slice_get_read s.triangles (length s.triangles) tri u refl tri_within u_read

  abbrev e : Side s half
  e = side_there s in_range half t at m n start end

  abbrev f : Face s
  f = face_at s in_range u tri listed

  corners_there : AreAt s u f.a f.b f.c
  corners_there = record { at_a = f.at_a; at_b = f.at_b; at_c = f.at_c }

  pub read-none : (r : Bool) → ((a b c p q : Corner) → AreAt s u a b c → slice_get s.corners m ≡ Some p → slice_get s.corners n ≡ Some q → IsTrue r ↔ Touch a b c p q)
      → (IsCornerOf u m → ⊥) → (IsCornerOf u n → ⊥) → IsTrue r ↔ MeetApart s half tri
  read-none r is no_m no_n = ↔-trans (is f.a f.b f.c e.p e.q corners_there e.at_m e.at_n) (apart-none s half tri e f refl no_m no_n)

  pub read-first : (r : Bool) → ((a b c p q : Corner) → AreAt s u a b c → slice_get s.corners m ≡ Some p → slice_get s.corners n ≡ Some q → IsTrue r ↔ MeetBeyond a b c p q)
      → IsCornerOf u m → (IsCornerOf u n → ⊥) → IsTrue r ↔ MeetApart s half tri
  read-first r is has_m no_n = ↔-trans (is f.a f.b f.c e.p e.q corners_there e.at_m e.at_n) (apart-first s half tri e f refl has_m no_n)

  pub read-second : (r : Bool) → ((a b c p q : Corner) → AreAt s u a b c → slice_get s.corners n ≡ Some p → slice_get s.corners m ≡ Some q → IsTrue r ↔ MeetBeyond a b c p q)
      → (IsCornerOf u m → ⊥) → IsCornerOf u n → IsTrue r ↔ MeetApart s half tri
  read-second r is no_m has_n = ↔-trans (is f.a f.b f.c e.q e.p corners_there e.at_n e.at_m) (apart-second s half tri e f refl no_m has_n)

  pub read-both : IsCornerOf u m → IsCornerOf u n → MeetApart s half tri → ⊥
  read-both has_m has_n = apart-both s half tri e f refl has_m has_n
