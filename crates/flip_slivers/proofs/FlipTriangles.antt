-- One flip: each point of the sliver or its neighbour is near one of the two new triangles, and each point of these is near the neighbour.
use Rattle.std.proofs.Common.{ℕ, ◌⊎◌, inl, inr, List, refl, sym, subst}
use Rattle.lattice.specs.declared.points.Corner.{Corner}
use Rattle.lattice.specs.declared.soup.Tri.{Tri}
use Rattle.lattice.specs.Points.{Point}
use Rattle.geometry.specs.Faces.{IsPointOfFace}
use Rattle.geometry.proofs.FacePoints.{face_point-round}
use Rattle.geometry.proofs.Listed.{same_element}
use Rattle.flip_slivers.specs.declared.bounded.Bounded.{Bounded}
use Rattle.flip_slivers.specs.Near.{AreNear}
use Rattle.flip_slivers.specs.Heights.{Placed}
use Rattle.flip_slivers.specs.Flips.{tri, IsRound, first_of, second_of, IsRise, IsFlip}
use Rattle.flip_slivers.proofs.Feet.{IsFoot}
use Rattle.flip_slivers.proofs.FootFaces.{IsNearFace}
use Rattle.flip_slivers.proofs.Slivers.{foot-of_sliver}
use Rattle.flip_slivers.proofs.FlipFaces.{from_sliver, from_neighbour, from_first, from_second}

-- a point is on the triangle between these corners
pub record IsOn (corners : List Corner) (t : Tri) (p : Point) : Type 0 where
  pub placed : Placed corners t
  pub on_face : IsPointOfFace placed.a placed.b placed.c p

-- a point of the triangle is near p
abbrev pub IsNearTriangle : List Corner → ℕ → Tri → Point → Type 0
IsNearTriangle corners r t p = (q : Point) × IsOn corners t q × AreNear r p q

module _ (corners : List Corner) where
  -- its corners are the ones that are known
  on_placed : (t : Tri) (placed : Placed corners t) (p : Point) → IsOn corners t p → IsPointOfFace placed.a placed.b placed.c p
  on_placed t placed p h =
      subst (λ (c : Corner). IsPointOfFace placed.a placed.b c p) (same_element corners t.c t.c h.placed.c placed.c refl h.placed.at_c placed.at_c)
      (subst (λ (b : Corner). IsPointOfFace placed.a b h.placed.c p) (same_element corners t.b t.b h.placed.b placed.b refl h.placed.at_b placed.at_b)
      (subst (λ (a : Corner). IsPointOfFace a h.placed.b h.placed.c p) (same_element corners t.a t.a h.placed.a placed.a refl h.placed.at_a placed.at_a) h.on_face))

  near_placed : (r : ℕ) (t : Tri) (placed : Placed corners t) (p : Point) → IsNearFace r placed.a placed.b placed.c p → IsNearTriangle corners r t p
  near_placed r t placed p (q, on, near) = (q, record { placed = placed; on_face = on }, near)

  -- the triangle turned, and turned back
  on_turned : (t u : Tri) (p : Point) → IsRound t u → IsOn corners t p → IsOn corners u p
  on_turned t u p (inl e) h = subst (λ (v : Tri). IsOn corners v p) (sym e) h
  on_turned t u p (inr (inl e)) h = subst (λ (v : Tri). IsOn corners v p) (sym e) (record {
    placed = record { a = h.placed.b; b = h.placed.c; c = h.placed.a; at_a = h.placed.at_b; at_b = h.placed.at_c; at_c = h.placed.at_a };
    on_face = face_point-round h.placed.a h.placed.b h.placed.c p h.on_face;
  })
  on_turned t u p (inr (inr e)) h = subst (λ (v : Tri). IsOn corners v p) (sym e) (record {
    placed = record { a = h.placed.c; b = h.placed.a; c = h.placed.b; at_a = h.placed.at_c; at_b = h.placed.at_a; at_c = h.placed.at_b };
    on_face = face_point-round h.placed.b h.placed.c h.placed.a p (face_point-round h.placed.a h.placed.b h.placed.c p h.on_face);
  })

  on_turned_back : (t u : Tri) (p : Point) → IsRound t u → IsOn corners u p → IsOn corners t p
  on_turned_back t u p (inl e) h = subst (λ (v : Tri). IsOn corners v p) e h
  on_turned_back t u p (inr (inl e)) h = on_turned (tri t.b t.c t.a) t p (inr (inr refl)) (subst (λ (v : Tri). IsOn corners v p) e h)
  on_turned_back t u p (inr (inr e)) h = on_turned (tri t.c t.a t.b) t p (inr (inl refl)) (subst (λ (v : Tri). IsOn corners v p) e h)

  -- the rise compares the first of the new triangles
  place_of_first : (s t u v : Tri) → IsRise corners s t u v → Placed corners u
  place_of_first s t u v (inl (h, _)) = h.other_height.placed
  place_of_first s t u v (inr (h, _)) = h.other_height.placed

module _ (corners : List Corner) (most : ℕ) (old new : List Bounded) (x : IsFlip corners most old new) where
  sliver : Placed corners (tri x.a x.b x.c)
  sliver = x.is_sliver.height.placed

  far : Placed corners (first_of x.a x.b x.c x.d)
  far = place_of_first corners x.sliver.tri x.neighbour.tri (first_of x.a x.b x.c x.d) (second_of x.a x.b x.c x.d) x.rises

  abbrev first : Placed corners (first_of x.a x.b x.c x.d)
  first = record { a = sliver.a; b = far.b; c = sliver.c; at_a = sliver.at_a; at_b = far.at_b; at_c = sliver.at_c }

  abbrev second : Placed corners (second_of x.a x.b x.c x.d)
  second = record { a = far.b; b = sliver.b; c = sliver.c; at_a = far.at_b; at_b = sliver.at_b; at_c = sliver.at_c }

  abbrev neighbour : Placed corners (tri x.b x.a x.d)
  neighbour = record { a = sliver.b; b = sliver.a; c = far.b; at_a = sliver.at_b; at_b = sliver.at_a; at_c = far.at_b }

  foot : (m : ℕ) × (n : ℕ) × IsFoot sliver.a sliver.b sliver.c m n x.rise
  unfolding sliver
  foot =
      foot-of_sliver sliver.a sliver.b sliver.c x.area x.side x.rise x.is_sliver.height.is_area x.is_sliver.on_longest x.is_sliver.height.is_side.second x.is_sliver.height.is_side.third x.is_sliver.long
      x.is_rise.enough

  either : (p : Point) → IsNearFace x.rise sliver.a far.b sliver.c p ⊎ IsNearFace x.rise far.b sliver.b sliver.c p
      → IsNearTriangle corners x.rise (first_of x.a x.b x.c x.d) p ⊎ IsNearTriangle corners x.rise (second_of x.a x.b x.c x.d) p
  either p (inl h) = inl (near_placed corners x.rise (first_of x.a x.b x.c x.d) first p h)
  either p (inr h) = inr (near_placed corners x.rise (second_of x.a x.b x.c x.d) second p h)

  pub sliver_near : (p : Point) → IsOn corners x.sliver.tri p → IsNearTriangle corners x.rise (first_of x.a x.b x.c x.d) p ⊎ IsNearTriangle corners x.rise (second_of x.a x.b x.c x.d) p
  sliver_near p on =
      either p (from_sliver sliver.a sliver.b sliver.c far.b foot.0 foot.1 x.rise foot.2 p
      (on_placed corners (tri x.a x.b x.c) sliver p (on_turned corners x.sliver.tri (tri x.a x.b x.c) p x.is_sliver.turned on)))

  pub neighbour_near : (p : Point) → IsOn corners x.neighbour.tri p → IsNearTriangle corners x.rise (first_of x.a x.b x.c x.d) p ⊎ IsNearTriangle corners x.rise (second_of x.a x.b x.c x.d) p
  neighbour_near p on =
      either p (from_neighbour sliver.a sliver.b sliver.c far.b foot.0 foot.1 x.rise foot.2 p
      (on_placed corners (tri x.b x.a x.d) neighbour p (on_turned corners x.neighbour.tri (tri x.b x.a x.d) p x.is_sliver.beside on)))

  back : (p : Point) → IsNearFace x.rise sliver.b sliver.a far.b p → IsNearTriangle corners x.rise x.neighbour.tri p
  back p (q, on, near) = (q, on_turned_back corners x.neighbour.tri (tri x.b x.a x.d) q x.is_sliver.beside (record { placed = neighbour; on_face = on }), near)

  pub first_near : (p : Point) → IsOn corners (first_of x.a x.b x.c x.d) p → IsNearTriangle corners x.rise x.neighbour.tri p
  first_near p on = back p (from_first sliver.a sliver.b sliver.c far.b foot.0 foot.1 x.rise foot.2 p (on_placed corners (first_of x.a x.b x.c x.d) first p on))

  pub second_near : (p : Point) → IsOn corners (second_of x.a x.b x.c x.d) p → IsNearTriangle corners x.rise x.neighbour.tri p
  second_near p on = back p (from_second sliver.a sliver.b sliver.c far.b foot.0 foot.1 x.rise foot.2 p (on_placed corners (second_of x.a x.b x.c x.d) second p on))

  -- the new triangles have their corners
  pub first_placed : Placed corners (first_of x.a x.b x.c x.d)
  first_placed = first

  pub second_placed : Placed corners (second_of x.a x.b x.c x.d)
  second_placed = second
