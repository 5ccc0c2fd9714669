-- Whether an odd number of borders crosses an edge's line before its second end: by the segments as they are told, and by the triangles.
use Rattle.std.proofs.Common.{◌≡◌, ◌⊎◌, inl, inr, ℕ, Bool, true, false, cond, List, [], ◌∷◌, refl, sym, ap, ◌∙◌, arith}
use Rattle.std.specs.Prelude.{ℤ, pos, ◌+ℤ◌, ◌-ℤ◌, ◌*ℤ◌, ◌<ℤ◌}
use Rattle.std.specs.Bool.{Decides}
use Rattle.std.specs.Int.Signed.{lt_z}
use Rattle.std.proofs.lemmas.Bool.{false≢true}
use Rattle.std.proofs.lemmas.Int.{ints}
use Rattle.integers.proofs.Logic.{same_tests}
use Rattle.integers.proofs.Orders.{lt_z_of_less}
use Rattle.integers.proofs.Ring.{var, con, ◌⊕◌, ◌⊖◌, ◌⊗◌, ring}
use Rattle.lattice.specs.declared.points.Corner.{Corner}
use Rattle.lattice.specs.declared.soup.Tri.{Tri}
use Rattle.lattice.specs.Triple.{Triple, dot, right_axis, up_axis}
use Rattle.lattice.specs.Points.{Point, of_spot, point_of, scaled, across_of, upward_of}
use Rattle.lattice.specs.Cuts.{Plane, toward_of}
use Rattle.lattice.proofs.OnLines.{dot_difference}
use Rattle.lattice.proofs.SightLines.{right_axis-is}
use Rattle.lattice.proofs.Vectors.{letters, dots}
use Rattle.geometry.specs.Faces.{difference, share_point}
use Rattle.geometry.specs.Parts.{Part, Edge}
use Rattle.hiding_laws.specs.Values.{offset, side_of}
use Rattle.geometry.specs.Counts.{Side, to_left, to_right}
use Rattle.geometry.specs.Shares.{mark}
use Rattle.cut_plane.specs.declared.segments.Segment.{Segment}
use Rattle.cut_plane.specs.Loops.{AreBorders}
use Rattle.cut_plane.proofs.Planes.{turns}
use Rattle.cut_plane.proofs.Sights.{Sight, sight_of, turn_of, counts, corner_at}
use Rattle.cut_plane.proofs.Steps.{seen_det}
use Rattle.cut_plane.proofs.Tested.{less_of}
use Rattle.cut_plane.proofs.Xors.{odd_in, is_odd, odd_decides, odd_count}
use Rattle.cut_count_laws.specs.BorderShares.{way_turn}
use Rattle.cut_count_laws.proofs.CutLaws.{is_behind, border_behind}
use Rattle.cut_count_laws.proofs.Laws.{HasCornersInRange}
use Rattle.cut_count_laws.proofs.Rays.{is_marked, is_ahead, of_border}
use Rattle.cut_count_laws.proofs.SectionChanges.{of_ends, of_uncrossed}
use Rattle.cut_count_laws.proofs.SectionSegments.{odd_of_segments}
use Rattle.cut_count_laws.proofs.SectionSums.{worth}
use Rattle.cut_count_laws.proofs.Wedges.{same_sign}
use Rattle.cut_count.specs.inner.Borders.{IsAhead, ahead_turn}
use Rattle.cut_count.specs.inner.Walks.{IsOddAhead}
use Rattle.cut_count_laws.proofs.BorderPlaces.{mark-is}

-- ---- marks and turns as they are seen

pub signs : (w x y : ℤ) → pos 0 <ℤ w → x ≡ w *ℤ y → (lt_z (pos 0) x ≡ lt_z (pos 0) y) × (lt_z x (pos 0) ≡ lt_z y (pos 0))
signs w x y there e = same_sign (pos 1) x w y (omega (arith, ints)) there (ring (x ∷ []) (con (pos 1) ⊗ var 0) (var 0) refl ∙ e)

marked_alike : (k : Side) (w x y : ℤ) → pos 0 <ℤ w → x ≡ w *ℤ y → is_marked k x ≡ is_marked k y
marked_alike to_left w x y there e = (signs w x y there e).0
marked_alike to_right w x y there e = ap (λ v. cond v false true) (signs w x y there e).1

module _ (d : Triple) (a b : Corner) where
  abbrev A : Sight
  A = sight_of d (point_of a)

  abbrev B : Sight
  B = sight_of d (point_of b)

  abbrev scale : ℤ
  scale = dot (right_axis d) (right_axis d)

  offset_product : (k : Corner) (r : Triple) (x : Point) → dot r (offset k x) ≡ dot r (scaled x) -ℤ (x.w *ℤ dot r (scaled (point_of k)))
  offset_product k r x =
      ring (r.x ∷ r.y ∷ r.z ∷ x.x ∷ x.y ∷ x.z ∷ x.w ∷ k.x ∷ k.y ∷ k.z ∷ [])
      (dots (letters 0) (record { x = var 3 ⊖ (var 6 ⊗ var 7); y = var 4 ⊖ (var 6 ⊗ var 8); z = var 5 ⊖ (var 6 ⊗ var 9) }))
      (dots (letters 0) (letters 3) ⊖ (var 6 ⊗ dots (letters 0) (letters 7))) refl

  side_turn : (x : Point) → turn_of A B (sight_of d x) ≡ scale *ℤ side_of d a b x
  side_turn x =
      ring (A.u ∷ A.v ∷ B.u ∷ B.v ∷ across_of d x ∷ upward_of d x ∷ x.w ∷ [])
      (turns (record { u = var 0; v = var 1; w = con (pos 1) }) (record { u = var 2; v = var 3; w = con (pos 1) }) (record { u = var 4; v = var 5; w = var 6 }))
      (((var 5 ⊖ (var 6 ⊗ var 1)) ⊗ (var 2 ⊖ var 0)) ⊖ ((var 4 ⊖ (var 6 ⊗ var 0)) ⊗ (var 3 ⊖ var 1))) refl
      ∙ sym (λ t. (offset_product a (up_axis d) x t *ℤ dot_difference (right_axis d) a b t) -ℤ (offset_product a (right_axis d) x t *ℤ dot_difference (up_axis d) a b t))
      ∙ seen_det d (right_axis d) (difference a b) (offset a x) (right_axis-is d).level

  pub mark_at : (k : Side) (x : Point) → mark k (side_of d a b x) ≡ worth (is_marked k (turn_of A B (sight_of d x)))
  mark_at k x = mark-is k (side_of d a b x) ∙ sym (ap worth (marked_alike k scale _ _ (right_axis-is d).square (side_turn x)))

  -- a corner is to the left of the way from p to q as it is seen
  pub corner_turn : (p q : Point) (k : Corner) → turn_of (sight_of d p) (sight_of d q) (sight_of d (point_of k)) ≡ scale *ℤ way_turn d p q k
  corner_turn p q k =
      (let t = sight_of d (point_of k) in
      ring (across_of d p ∷ upward_of d p ∷ p.w ∷ across_of d q ∷ upward_of d q ∷ q.w ∷ t.u ∷ t.v ∷ [])
      (turns (record { u = var 0; v = var 1; w = var 2 }) (record { u = var 3; v = var 4; w = var 5 }) (record { u = var 6; v = var 7; w = con (pos 1) }))
      (((var 4 ⊖ (var 5 ⊗ var 7)) ⊗ (var 0 ⊖ (var 2 ⊗ var 6))) ⊖ ((var 3 ⊖ (var 5 ⊗ var 6)) ⊗ (var 1 ⊖ (var 2 ⊗ var 7)))) refl)
      ∙ sym (λ t. (offset_product k (up_axis d) q t *ℤ offset_product k (right_axis d) p t) -ℤ (offset_product k (right_axis d) q t *ℤ offset_product k (up_axis d) p t))
      ∙ seen_det d (right_axis d) (offset k p) (offset k q) (right_axis-is d).level

-- the place 1 / 1 is the second corner
second_corner : (a b : Corner) → share_point a b (pos 1) (pos 1) ≡ point_of b
second_corner a b = λ t. record { x = one a.x b.x t; y = one a.y b.y t; z = one a.z b.z t; w = pos 1 }
  where
    one : (x y : ℤ) → ((pos 1 -ℤ pos 1) *ℤ x) +ℤ (pos 1 *ℤ y) ≡ y
    one x y = ring (x ∷ y ∷ []) (((con (pos 1) ⊖ con (pos 1)) ⊗ var 0) ⊕ (con (pos 1) ⊗ var 1)) (var 1) refl

-- ---- the test of a segment
-- before a sight is after its negative
abbrev turned : Sight → Sight
turned t = record { u = pos 0 -ℤ t.u; v = pos 0 -ℤ t.v; w = pos 0 -ℤ t.w }

ahead_turned : (k : Side) (p q t a b : Sight) → is_ahead k p q (turned t) a b ≡ is_behind k p q t a b
ahead_turned k p q t a b =
    ap (counts (is_marked k (turn_of p q a)) (is_marked k (turn_of p q b)))
    (ring (a.u ∷ a.v ∷ a.w ∷ b.u ∷ b.v ∷ b.w ∷ t.u ∷ t.v ∷ t.w ∷ [])
    (turns (record { u = var 0; v = var 1; w = var 2 }) (record { u = var 3; v = var 4; w = var 5 }) (record { u = con (pos 0) ⊖ var 6; v = con (pos 0) ⊖ var 7; w = con (pos 0) ⊖ var 8 }))
    (con (pos 0) ⊖ turns (record { u = var 0; v = var 1; w = var 2 }) (record { u = var 3; v = var 4; w = var 5 }) (record { u = var 6; v = var 7; w = var 8 })) refl)

-- what a test by marks says
worth_true : (b : Bool) → worth b ≡ pos 1 → b ≡ true
worth_true true h = refl
worth_true false h = absurd (omega (arith, ints))

worth_false : (b : Bool) → worth b ≡ pos 0 → b ≡ false
worth_false false h = refl
worth_false true h = absurd (omega (arith, ints))

abbrev pub IsCounted : ℤ → ℤ → ℤ → Type 0
IsCounted x y z = ((x ≡ pos 0) × (y ≡ pos 1) × (pos 0 <ℤ z)) ⊎ ((x ≡ pos 1) × (y ≡ pos 0) × (z <ℤ pos 0))

pub counts_decides : (v w : Bool) (x y z z' : ℤ) → x ≡ worth v → y ≡ worth w → (lt_z (pos 0) z' ≡ lt_z (pos 0) z) × (lt_z z' (pos 0) ≡ lt_z z (pos 0)) → Decides (counts v w z') (IsCounted x y z)
counts_decides v w x y z z' e g same = (there v w e g, back)
  where
    there : (v w : Bool) → x ≡ worth v → y ≡ worth w → counts v w z' ≡ true → IsCounted x y z
    there false false e g h = absurd (false≢true h)
    there true true e g h = absurd (false≢true h)
    there false true e g h = inl (e, g, less_of (pos 0) z (sym same.0 ∙ h))
    there true false e g h = inr (e, g, less_of z (pos 0) (sym same.1 ∙ h))

    back : IsCounted x y z → counts v w z' ≡ true
    back (inl (p, q, r)) = (λ i. counts (worth_false v (sym e ∙ p) i) (worth_true w (sym g ∙ q) i) z') ∙ same.0 ∙ lt_z_of_less (pos 0) z r
    back (inr (p, q, r)) = (λ i. counts (worth_true v (sym e ∙ p) i) (worth_false w (sym g ∙ q) i) z') ∙ same.1 ∙ lt_z_of_less z (pos 0) r

module _ (k : Side) (c : Plane) (s : Part) (in_range : HasCornersInRange s) (o : Corner) (e : Edge s) (segments : List Segment) (starts : List ℕ) (borders : AreBorders c s segments starts) where
  abbrev d : Triple
  d = toward_of c

  abbrev P : Sight
  P = sight_of d (point_of e.a)

  abbrev Q : Sight
  Q = sight_of d (point_of e.b)

  abbrev T : Sight
  T = sight_of d (share_point e.a e.b (pos 1) (pos 1))

  abbrev behind : Sight → Sight → Bool
  behind = is_ahead k P Q (turned T)

  -- the segment crosses the edge's line before the second end
  abbrev segment_behind : Segment → Bool
  segment_behind x = behind (sight_of d (of_spot x.a)) (sight_of d (of_spot x.b))

  turn_end : (p q : Point) → turn_of (sight_of d p) (sight_of d q) (turned T) ≡ dot (right_axis d) (right_axis d) *ℤ ahead_turn true d e.a e.b p q
  turn_end p q =
      (let a = sight_of d p in let b = sight_of d q in
      ring (a.u ∷ a.v ∷ a.w ∷ b.u ∷ b.v ∷ b.w ∷ T.u ∷ T.v ∷ T.w ∷ [])
      (turns (record { u = var 0; v = var 1; w = var 2 }) (record { u = var 3; v = var 4; w = var 5 }) (record { u = con (pos 0) ⊖ var 6; v = con (pos 0) ⊖ var 7; w = con (pos 0) ⊖ var 8 }))
      (con (pos 0) ⊖ turns (record { u = var 0; v = var 1; w = var 2 }) (record { u = var 3; v = var 4; w = var 5 }) (record { u = var 6; v = var 7; w = var 8 })) refl)
      ∙ (λ t. pos 0 -ℤ turn_of (sight_of d p) (sight_of d q) (sight_of d (second_corner e.a e.b t)))
      ∙ ap (λ z. pos 0 -ℤ z) (corner_turn d e.a e.b p q e.b)
      ∙ opposite (dot (right_axis d) (right_axis d)) (way_turn d p q e.b)
    where
      opposite : (x y : ℤ) → pos 0 -ℤ (x *ℤ y) ≡ x *ℤ (pos 0 -ℤ y)
      opposite x y = ring (x ∷ y ∷ []) (con (pos 0) ⊖ (var 0 ⊗ var 1)) (var 0 ⊗ (con (pos 0) ⊖ var 1)) refl

  segment_decides : (x : Segment) → Decides (segment_behind x) (IsAhead k true d e.a e.b (of_spot x.a) (of_spot x.b))
  segment_decides x =
      let p = of_spot x.a in let q = of_spot x.b in
      counts_decides _ _ (mark k (side_of d e.a e.b p)) (mark k (side_of d e.a e.b q)) (ahead_turn true d e.a e.b p q) (turn_of (sight_of d p) (sight_of d q) (turned T))
      (mark_at d e.a e.b k p) (mark_at d e.a e.b k q)
      (signs (dot (right_axis d) (right_axis d)) _ _ (right_axis-is d).square (turn_end p q))

  odd_by_triangles : odd_in segment_behind segments ≡ odd_in (border_behind k c s o e (pos 1) (pos 1)) s.triangles
  odd_by_triangles =
      odd_of_segments c s in_range o (of_border behind c) (λ f uncrossed. of_uncrossed k P Q (turned T) c f uncrossed) segments starts borders segment_behind
      (λ x at. sym (of_ends k P Q (turned T) c at.face (of_spot x.a) (of_spot x.b) at.border))
      ∙ (λ i. odd_in (λ (t : Tri). of_border (λ x y. ahead_turned k P Q T x y i) c (corner_at s o t.a) (corner_at s o t.b) (corner_at s o t.c)) s.triangles)

  -- whether an odd number is ahead of the second end
  pub odd_behind : (odd : Bool) → IsOddAhead k true d e.a e.b segments odd → odd ≡ odd_in (border_behind k c s o e (pos 1) (pos 1)) s.triangles
  odd_behind odd (n, count, is) =
      same_tests odd (is_odd n) (λ h. (odd_decides n).1 (is.0 h)) (λ h. is.1 ((odd_decides n).0 h))
      ∙ odd_count (λ (x : Segment). IsAhead k true d e.a e.b (of_spot x.a) (of_spot x.b)) segment_behind segments n (λ x in_list. segment_decides x) count
      ∙ odd_by_triangles
