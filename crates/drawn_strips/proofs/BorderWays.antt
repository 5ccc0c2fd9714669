-- The border of a face: its line runs at right angles to the normal and to the direction, and each of its points is on a segment.
use Rattle.std.proofs.Common.{◌≡◌, ℕ, ◌+◌, ◌<◌, ◌⊎◌, inl, inr, Contains, [], ◌∷◌, refl, sym, subst, ap, ◌∙◌, arith, unsigned_abs, List}
use Rattle.std.specs.Prelude.{ℤ, pos, ◌-ℤ◌, ◌*ℤ◌, ◌<ℤ◌}
use Rattle.std.proofs.lemmas.Int.{ints}
use Rattle.std.proofs.lemmas.List.Elements.{All-contains}
use Rattle.integers.proofs.Ring.{var, con, ◌⊗◌, ring}
use Rattle.integers.proofs.Signs.{zero_of_times}
use Rattle.lattice.specs.declared.lines.Line.{Line}
use Rattle.lattice.specs.declared.points.Corner.{Corner}
use Rattle.lattice.specs.Triple.{Triple, dot, cross, right_axis, up_axis, IsZero}
use Rattle.lattice.specs.Points.{Point, IsPoint, point_of, scaled}
use Rattle.lattice.specs.Lines.{IsOnLine}
use Rattle.lattice.specs.Cuts.{Plane, toward_of, IsOnPlane, IsBeyond, IsBeforePlane}
use Rattle.geometry.specs.Faces.{normal, IsFlat, IsPointOfFace}
use Rattle.geometry.specs.Parts.{Part, Face}
use Rattle.geometry.specs.Cuts.{over_of, crossing_of, IsOnBorder, IsCrossed, border, step_of}
use Rattle.geometry.proofs.Borders.{side_of_corner, over_beyond, over_before}
use Rattle.geometry.proofs.StepLines.{RunsAlong}
use Rattle.line_merge.proofs.Lists.{contains_map}
use Rattle.cut_plane.specs.declared.segments.Segment.{Segment}
use Rattle.cut_plane.specs.Loops.{IsSegmentOf, AreBorders}
use Rattle.cut_plane.proofs.FaceCorners.{have_same}
use Rattle.cut_plane.proofs.LoneCorners.{IsAlone, before, beyond}
use Rattle.cut_plane.proofs.FaceBorders.{not_all_before, not_all_beyond}
use Rattle.cut_plane.proofs.Roots.{Apex, apex_of, some_border, first_end, second_end}
use Rattle.cut_plane.proofs.Steps.{border_gap}

-- ---- a border runs at right angles to the normal and the direction
-- a border seen as a point goes nowhere
no_way : (u g x y v w : ℤ) → 0 < unsigned_abs u → (x *ℤ w) -ℤ (y *ℤ v) ≡ u *ℤ (pos 2 *ℤ g) → y *ℤ v ≡ x *ℤ w → g ≡ pos 0
no_way u g x y v w far is same = twice g (zero_of_times u (pos 2 *ℤ g) far (sym is ∙ none (x *ℤ w) (y *ℤ v) same))
  where
    none : (a b : ℤ) → b ≡ a → a -ℤ b ≡ pos 0
    none a b e = omega (arith, ints)

    twice : (g : ℤ) → pos 2 *ℤ g ≡ pos 0 → g ≡ pos 0
    twice g e = omega (arith, ints)

module _ (c : Plane) {s : Part} (f : Face s) (whole : ¬ IsFlat f.a f.b f.c) (l : Line) (on_line : (r : Point) → IsPointOfFace f.a f.b f.c r → IsOnPlane c r → IsOnLine (toward_of c) l r) where
  abbrev d : Triple
  d = toward_of c

  far_of : (k m n : Corner) → IsAlone c k m n → 0 < unsigned_abs (over_of c k)
  far_of k m n (before up p q) = size (over_of c k) up
    where
      size : (z : ℤ) → pos 0 <ℤ z → 0 < unsigned_abs z
      size z h = omega (arith, ints)
  far_of k m n (beyond down p q) = size (over_of c k) down
    where
      size : (z : ℤ) → z <ℤ pos 0 → 0 < unsigned_abs z
      size z h = omega (arith, ints)

  crossing_there : (k m : Corner) → 0 < unsigned_abs (over_of c k) → IsPoint (crossing_of c k m)
  crossing_there k m far = go (unsigned_abs (over_of c m)) (unsigned_abs (over_of c k)) far
    where
      go : (i j : ℕ) → 0 < j → pos 0 <ℤ pos (i + j)
      go i j h = omega (arith, ints)

  pub border_runs_along : (r : Point) → IsOnBorder c f r → RunsAlong d l (step_of c (border f))
  border_runs_along r on = record {
    from = crossing_of c x.k x.l;
    to = crossing_of c x.k x.t;
    from_there = crossing_there x.k x.l far;
    to_there = crossing_there x.k x.t far;
    apart = λ sight. some_border c x.k x.l x.t x.alone not_flat (no_step (right_axis d) sight.across) (no_step (up_axis d) sight.upward);
    first = on_line (crossing_of c x.k x.l) (x.on_face (crossing_of c x.k x.l) first.0) first.1;
    second = on_line (crossing_of c x.k x.t) (x.on_face (crossing_of c x.k x.t) second.0) second.1;
    times = over_of c x.k *ℤ pos 2;
    across = step (right_axis d);
    upward = step (up_axis d);
  }
    where
      x : Apex c f
      x = apex_of c f r on

      far : 0 < unsigned_abs (over_of c x.k)
      far = far_of x.k x.l x.t x.alone

      first : IsPointOfFace x.k x.l x.t (crossing_of c x.k x.l) × IsOnPlane c (crossing_of c x.k x.l)
      first = first_end c x.k x.l x.t x.alone

      second : IsPointOfFace x.k x.l x.t (crossing_of c x.k x.t) × IsOnPlane c (crossing_of c x.k x.t)
      second = second_end c x.k x.l x.t x.alone

      not_flat : ¬ IsFlat x.k x.l x.t
      not_flat flat = whole (subst IsZero x.same_normal flat)

      no_step : (a : Triple) → dot a (scaled (crossing_of c x.k x.l)) *ℤ (crossing_of c x.k x.t).w ≡ dot a (scaled (crossing_of c x.k x.t)) *ℤ (crossing_of c x.k x.l).w
          → dot a (cross d (normal x.k x.l x.t)) ≡ pos 0
      no_step a same =
          no_way (over_of c x.k) (dot a (cross d (normal x.k x.l x.t))) (dot a (scaled (crossing_of c x.k x.t))) (dot a (scaled (crossing_of c x.k x.l)))
          (crossing_of c x.k x.t).w (crossing_of c x.k x.l).w far (border_gap c x.k x.l x.t x.alone a) same

      grouped : (u g : ℤ) → u *ℤ (pos 2 *ℤ g) ≡ (u *ℤ pos 2) *ℤ g
      grouped u g = ring (u ∷ g ∷ []) (var 0 ⊗ (con (pos 2) ⊗ var 1)) ((var 0 ⊗ con (pos 2)) ⊗ var 1) refl

      step : (a : Triple) → (dot a (scaled (crossing_of c x.k x.t)) *ℤ (crossing_of c x.k x.l).w) -ℤ (dot a (scaled (crossing_of c x.k x.l)) *ℤ (crossing_of c x.k x.t).w)
          ≡ (over_of c x.k *ℤ pos 2) *ℤ dot a (cross d (normal f.a f.b f.c))
      step a =
          border_gap c x.k x.l x.t x.alone a
          ∙ grouped (over_of c x.k) (dot a (cross d (normal x.k x.l x.t)))
          ∙ ap (λ n. (over_of c x.k *ℤ pos 2) *ℤ dot a (cross d n)) x.same_normal

-- ---- a face with a point on the plane has corners on both sides
abbrev Side : Plane → Corner → Type 0
Side c k = IsBeyond c (point_of k) ⊎ IsBeforePlane c (point_of k)

module _ (c : Plane) {s : Part} (f : Face s) (r : Point) (on : IsOnBorder c f r) where
  pub crossed_of_point : IsCrossed c f
  crossed_of_point = record {
    before = some_before (side_of_corner c f.a) (side_of_corner c f.b) (side_of_corner c f.c);
    beyond = some_beyond (side_of_corner c f.a) (side_of_corner c f.b) (side_of_corner c f.c);
  }
    where
      some_before : Side c f.a → Side c f.b → Side c f.c → IsBeforePlane c (point_of f.a) ⊎ IsBeforePlane c (point_of f.b) ⊎ IsBeforePlane c (point_of f.c)
      some_before (inr h) v w = inl h
      some_before (inl g) (inr h) w = inr (inl h)
      some_before (inl g) (inl k) (inr h) = inr (inr h)
      some_before (inl g) (inl k) (inl h) = absurd (not_all_beyond c f.a f.b f.c r on.0 on.1 (over_beyond c f.a g) (over_beyond c f.b k) (over_beyond c f.c h))

      some_beyond : Side c f.a → Side c f.b → Side c f.c → IsBeyond c (point_of f.a) ⊎ IsBeyond c (point_of f.b) ⊎ IsBeyond c (point_of f.c)
      some_beyond (inl h) v w = inl h
      some_beyond (inr g) (inl h) w = inr (inl h)
      some_beyond (inr g) (inr k) (inl h) = inr (inr h)
      some_beyond (inr g) (inr k) (inr h) = absurd (not_all_before c f.a f.b f.c r on.0 on.1 (over_before c f.a g) (over_before c f.b k) (over_before c f.c h))

-- and so a segment
pub segment_of_point : (c : Plane) (s : Part) (segments : List Segment) (places : List ℕ) → AreBorders c s segments places → (f : Face s) (r : Point) → IsOnBorder c f r
    → (x : Segment) × Contains segments x × (h : IsSegmentOf c s x) × IsOnBorder c h.face r
segment_of_point c s segments places borders f r on =
    let (x, listed, same) = contains_map (λ (x : Segment). x.tri) segments f.number (borders.all f (crossed_of_point c f r on)) in
    let h = All-contains (IsSegmentOf c s) segments x borders.each listed in
    let corners = have_same f h.face (sym same ∙ sym h.number) in
    let on_face = subst (λ k. IsPointOfFace k h.face.b h.face.c r) corners.a (subst (λ l. IsPointOfFace f.a l h.face.c r) corners.b (subst (λ m. IsPointOfFace f.a f.b m r) corners.c on.0)) in
    (x, listed, h, (on_face, on.1))
