-- Along an edge in a cut view the counts change, from its first end on, by what is left of the outlines that pass nearer, and by the borders that the edge passes.
use Rattle.std.proofs.Common.{◌≡◌, ◌≢◌, ◌⊎◌, inl, inr, ℕ, zero, suc, ◌+◌, ◌*◌, ◌/◌, ◌%◌, ◌<◌, ◌≤◌, Bool, true, false, List, [], ◌∷◌, Contains, Some, length, get_or, slice_get, nat_lt, sum, refl, sym, ap, subst, ◌∙◌, arith, unsigned_abs}
use Rattle.std.specs.Prelude.{ℤ, pos, ◌+ℤ◌, ◌-ℤ◌, ◌*ℤ◌, ◌≤ℤ◌}
use Rattle.std.specs.List.{AllZip}
use Rattle.std.proofs.lemmas.Bool.{false_from_ne_true}
use Rattle.std.proofs.lemmas.Int.{ints}
use Rattle.std.proofs.lemmas.Option.{slice_get-get_or, get_or_from_slice_get, slice_get_within}
use Rattle.integers.proofs.Comparisons.{positive_of_more}
use Rattle.integers.proofs.Ring.{var, con, ◌⊖◌, ◌⊗◌, ring}
use Rattle.lattice.specs.declared.points.Corner.{Corner}
use Rattle.lattice.specs.declared.soup.Tri.{Tri}
use Rattle.lattice.specs.Triple.{Triple}
use Rattle.lattice.specs.Points.{Point, point_of}
use Rattle.lattice.specs.Cuts.{Plane, toward_of, IsBeyond}
use Rattle.geometry.specs.Cuts.{start_corner, end_corner, IsBorderOf, IsCrossed, IsInSection, FaceHidesInCut}
use Rattle.geometry.specs.Faces.{facing_of, share_point, IsPointOfFace}
use Rattle.geometry.specs.Parts.{Part, Face, Edge, IsNumbered, start_of, end_of}
use Rattle.geometry.specs.Sound.{IsSound}
use Rattle.geometry.specs.Views.{face_sign, IsEndOn}
use Rattle.geometry.proofs.Borders.{border_of_crossed, crossed_of_border}
use Rattle.geometry.proofs.Listed.{same_element}
use Rattle.hiding_laws.proofs.CutPlanes.{cut-somewhere}
use Rattle.hiding_laws.proofs.Screens.{turn_of}
use Rattle.geometry.specs.Counts.{Side, StandsOn}
use Rattle.geometry.specs.Covers.{IsOneWhere}
use Rattle.hiding_laws.specs.Sums.{total}
use Rattle.hiding_laws.specs.inner.Tallies.{IsTally}
use Rattle.hiding_laws.proofs.Changed.{IsCrossedBefore}
use Rattle.hiding_laws.proofs.CornerLaws.{IsBelow, IsNear}
use Rattle.hiding_laws.proofs.EdgePasses.{passes}
use Rattle.hiding_laws.proofs.EdgeShares.{lower_true, edges_total}
use Rattle.hiding_laws.proofs.HalfFaces.{edge_of, starts_seen, ends_seen}
use Rattle.hiding_laws.proofs.ListSums.{IsIn, listed_sum, different, place_in, zip_in, sum_at, tally_of_count}
use Rattle.hiding_laws.proofs.MeshCounts.{face_of, one_tally, tally, tally_is, crosses_or, first_before}
use Rattle.hiding_laws.proofs.MeshOfPart.{count, mesh_of, is_mesh, triangle_at, triangle-at, starts_at, ends_at, twin_of, sign_seen, face_sign_seen}
use Rattle.hiding_laws.proofs.NearFaces.{above_mesh, above_all, wider}
use Rattle.hiding_laws.proofs.Seen.{on}
use Rattle.hiding_laws.proofs.Shares.{Crosses}
use Rattle.hiding_laws.proofs.Sides.{tally_of}
use Rattle.hiding_laws.proofs.Sums.{sum_less, sum_zero}
use Rattle.hiding_laws.proofs.SumsBelow.{sum_below, keep}
use Rattle.cut_plane.proofs.Sights.{corner_at}
use Rattle.cut_plane.proofs.Xors.{xor, odd_in, odd_in-places}
use Rattle.cut_count_laws.specs.CutCounts.{IsCutCounted, HasCutCounted, AreCutCounted}
use Rattle.cut_count_laws.specs.CutEnds.{part_change}
use Rattle.cut_count_laws.specs.CutShares.{cut_change_of, CutChanges}
use Rattle.cut_count_laws.proofs.BordersPassed.{last_turn, border_is}
use Rattle.cut_count_laws.proofs.ClearRests.{clear_valid}
use Rattle.cut_count_laws.proofs.CutLaws.{HasCutChanged, HasEachOutline, border_passed, HasBorderChanged, HasEachBorder, AreCutCovers}
use Rattle.cut_count_laws.proofs.CutLaws.HasBorderChanged.{passed, not_passed}
use Rattle.cut_count_laws.proofs.FaceBorders.{one_first, one_second, one_change, crossed_or, some_change, some_crossing, border_at, change_at, crosses_at, number_of, number_is}
use Rattle.cut_count_laws.proofs.AllRests.{all_rests}
use Rattle.cut_count_laws.proofs.Laws.{HasCornersInRange, AreInTurn, IsPassed, IsValid, AllRestsLaw, RayLaw, NearLaw, IsNextPlace}
use Rattle.cut_count_laws.proofs.NearRests.{near_rests}
use Rattle.cut_count_laws.proofs.RestLaw.{rest_law}
use Rattle.cut_count_laws.proofs.SectionRays.{ray}
use Rattle.cut_count_laws.proofs.ValidRest.{valid_rest}
use Rattle.cut_count_laws.proofs.OutlinesPassed.{cut_changed_is, cut_unchanged}
use Rattle.cut_count_laws.proofs.Rays.{border_ahead}
use Rattle.cut_count_laws.proofs.Rests.{RestCounts, HasBorderChange, BorderCrosses}
use Rattle.cut_count_laws.proofs.SectionPassed.{ahead_of_passed, one_decided, listed_below, odd_listed}
use Rattle.cut_count_laws.proofs.SectionSums.{worth}

-- ---- near places

at_most : (k l : ℕ) → k ≤ l → pos k ≤ℤ pos l
at_most k l h = omega (arith, ints)

near_first : (k : ℕ) → 0 < k → IsNear (pos k) (pos 1) (pos (suc k))
near_first k h = record { after = omega (arith, ints); before = omega (arith, ints); near = omega (arith, ints) }

-- ---- faces by their triangles
module _ {s : Part} (f : Face s) where
  start_at : (side : ℕ) → slice_get s.corners (start_of f.tri side) ≡ Some (start_corner f side)
  start_at zero = f.at_a
  start_at (suc zero) = f.at_b
  start_at (suc (suc side)) = f.at_c

  end_at : (side : ℕ) → slice_get s.corners (end_of f.tri side) ≡ Some (end_corner f side)
  end_at zero = f.at_b
  end_at (suc zero) = f.at_c
  end_at (suc (suc side)) = f.at_a

  whole_third : (t side : ℕ) → side < 3 → (3 * t + side) / 3 ≡ t
  whole_third t side h = omega arith

  whole_side : (t side : ℕ) → side < 3 → (3 * t + side) % 3 ≡ side
  whole_side t side h = omega arith

module _ (k : Side) (c : Plane) {s : Part} (e : Edge s) (p : Point) where
  -- what is counted of a face is counted of each with the same triangle
  same_counted : (f g : Face s) → g.tri ≡ f.tri → IsCutCounted k c e p g → IsCutCounted k c e p f
  same_counted f g same x =
      let a : g.a ≡ f.a = same_element s.corners g.tri.a f.tri.a g.a f.a (ap (λ (t : Tri). t.a) same) g.at_a f.at_a in
      let b : g.b ≡ f.b = same_element s.corners g.tri.b f.tri.b g.b f.b (ap (λ (t : Tri). t.b) same) g.at_b f.at_b in
      let l : g.c ≡ f.c = same_element s.corners g.tri.c f.tri.c g.c f.c (ap (λ (t : Tri). t.c) same) g.at_c f.at_c in
      let moved = λ (X : Corner → Corner → Corner → Type 0) (y : X g.a g.b g.c). subst (λ (z : Corner). X z f.b f.c) a (subst (λ (z : Corner). X g.a z f.c) b (subst (λ (z : Corner). X g.a g.b z) l y)) in
      let h : FaceHidesInCut c g p = x.hides in
      record {
        turned = moved (λ u v w. facing_of (toward_of c) u v w ≢ pos 0) x.turned;
        hides = record { point = h.point; on_face = moved (λ u v w. IsPointOfFace u v w h.point) h.on_face; beyond = h.beyond; same_sight = h.same_sight; nearer = h.nearer };
        reaches = moved (λ u v w. StandsOn k (toward_of c) e.a e.b u ⊎ StandsOn k (toward_of c) e.a e.b v ⊎ StandsOn k (toward_of c) e.a e.b w) x.reaches;
      }

-- ---- what a border has changed
changed_by : (k : Side) (c : Plane) {s : Part} (o : Corner) (e : Edge s) (f : Face s) (n m own z : ℤ) → HasBorderChanged k c o e f n m z → HasBorderChange k c e f own
    → z ≡ pos 0 -ℤ (face_sign (toward_of c) f *ℤ (own *ℤ worth (border_passed k c s o e n m f.tri)))
changed_by k c {s} o e f n m own z (passed change is has) own_is =
    (λ t. pos 0 -ℤ (face_sign (toward_of c) f *ℤ ((one_change c f k e has own_is ∙ once own ∙ ap (λ b. own *ℤ worth b) (sym is)) t)))
  where
    once : (x : ℤ) → x ≡ x *ℤ pos 1
    once x = omega (arith, ints)
changed_by k c {s} o e f n m own z (not_passed is) own_is =
    sym ((λ t. pos 0 -ℤ (face_sign (toward_of c) f *ℤ (own *ℤ worth (is t)))) ∙ nothing (face_sign (toward_of c) f) own)
  where
    nothing : (x y : ℤ) → pos 0 -ℤ (x *ℤ (y *ℤ pos 0)) ≡ pos 0
    nothing x y = ring (x ∷ y ∷ []) (con (pos 0) ⊖ (var 0 ⊗ (var 1 ⊗ con (pos 0)))) (con (pos 0)) refl

-- ---- the law
rests : AllRestsLaw
rests = all_rests rest_law

near_law : NearLaw
near_law = near_rests

rays : RayLaw
rays = ray

module _ (c : Plane) (s : Part) (sound : IsSound s) (in_range : HasCornersInRange s) where
  abbrev d : Triple
  d = toward_of c

  -- a spare corner stands for what no triangle has
  module _ (k : Side) (spare : Corner) (e : Edge s) (start : IsBeyond c (point_of e.a)) (n m : ℤ) (valid : IsValid c e n m) where
    abbrev T : Point
    T = share_point e.a e.b n m

    -- ---- numbers of faces
    abbrev IsLastTurn : Face s → ℤ → Type 0
    IsLastTurn f x = (p q : Point) → IsBorderOf c f p q → x ≡ last_turn c e p q

    some_last : (f : Face s) → (x : ℤ) × IsLastTurn f x
    some_last f = by (crossed_or c f)
      where
        by : IsCrossed c f ⊎ ¬ IsCrossed c f → (x : ℤ) × IsLastTurn f x
        by (inl h) =
            let r = border_of_crossed c f h in
            (last_turn c e r.0 r.1, λ p q b. λ t. last_turn c e (one_first c f r.0 r.1 p q r.2 b t) (one_second c f r.0 r.1 p q r.2 b t))
        by (inr h) = (pos 0, λ p q b. absurd (h (crossed_of_border c f p q b)))

    move_last : (f g : Face s) → g.a ≡ f.a → g.b ≡ f.b → g.c ≡ f.c → (x : ℤ) → IsLastTurn g x → IsLastTurn f x
    move_last f g a b l x h p q border = h p q (border_at c g f (sym a) (sym b) (sym l) p q border)

    last_bound : (z : ℕ) × ((i : ℕ) → i < length s.triangles → IsBelow (pos z) (number_of in_range IsLastTurn move_last some_last i))
    last_bound = above_all (number_of in_range IsLastTurn move_last some_last) (length s.triangles)

    abbrev own : ℕ → ℤ
    own t = number_of in_range (λ f x. HasBorderChange k c e f x) (λ f g a b l x h. change_at c f g a b l k e h) (λ f. some_change c f k e) t

    own_is : (f : Face s) → HasBorderChange k c e f (own f.number)
    own_is f = number_is in_range (λ f x. HasBorderChange k c e f x) (λ f g a b l x h. change_at c f g a b l k e h) (λ f. some_change c f k e) f

    -- ---- sides by their numbers
    abbrev from : ℕ → Corner
    from h = corner_at s e.a (starts_at s h)

    abbrev to : ℕ → Corner
    to h = corner_at s e.a (ends_at s h)

    abbrev change : ℕ → ℤ
    change h = part_change k c e.a e.b (from h) (to h)

    abbrev sign : ℕ → ℤ
    sign h = sign_seen d s (h / 3)

    module _ (f : Face s) (side : ℕ) (l : side < 3) where
      from_at : from (3 * f.number + side) ≡ start_corner f side
      from_at =
          (λ t. corner_at s e.a (start_of (triangle_at s (whole_third f f.number side l t)) (whole_side f f.number side l t)))
          ∙ ap (λ (t : Tri). corner_at s e.a (start_of t side)) (triangle-at d s f)
          ∙ get_or_from_slice_get s.corners (start_of f.tri side) (start_corner f side) e.a (start_at f side)

      to_at : to (3 * f.number + side) ≡ end_corner f side
      to_at =
          (λ t. corner_at s e.a (end_of (triangle_at s (whole_third f f.number side l t)) (whole_side f f.number side l t)))
          ∙ ap (λ (t : Tri). corner_at s e.a (end_of t side)) (triangle-at d s f)
          ∙ get_or_from_slice_get s.corners (end_of f.tri side) (end_corner f side) e.a (end_at f side)

      sign_at : sign (3 * f.number + side) ≡ face_sign d f
      sign_at = ap (sign_seen d s) (whole_third f f.number side l) ∙ face_sign_seen d s f

    -- ---- from a near place on
    module _ (z : ℕ) (large : suc (unsigned_abs m) ≤ z) (above : (h : ℕ) → h < count s → IsBelow (pos z) (turn_of (on d e.b) ((mesh_of d s sound.closed).from h) ((mesh_of d s sound.closed).to h)))
        (last : (f : Face s) (p q : Point) → IsBorderOf c f p q → IsBelow (pos z) (last_turn c e p q)) (place : IsNextPlace c e (pos 1) (pos (suc z))) where
      abbrev divisor : ℤ
      divisor = pos (suc z)

      near : IsNear (pos z) (pos 1) divisor
      near = near_first z (some z (unsigned_abs m) large)
        where
          some : (z m : ℕ) → suc m ≤ z → 0 < z
          some z m h = omega arith

      abbrev border : ℕ → ℤ
      border t = number_of in_range (λ f x. IsTally (BorderCrosses c e f (pos 1) divisor n m) x)
          (λ f g a b l x h. tally_of (crosses_at c f g a b l e (pos 1) divisor n m) (crosses_at c g f (sym a) (sym b) (sym l) e (pos 1) divisor n m) h)
          (λ f. some_crossing c f e (pos 1) divisor n m) t

      border_tally : (f : Face s) → IsTally (BorderCrosses c e f (pos 1) divisor n m) (border f.number)
      border_tally f = number_is in_range (λ f x. IsTally (BorderCrosses c e f (pos 1) divisor n m) x)
          (λ f g a b l x h. tally_of (crosses_at c f g a b l e (pos 1) divisor n m) (crosses_at c g f (sym a) (sym b) (sym l) e (pos 1) divisor n m) h)
          (λ f. some_crossing c f e (pos 1) divisor n m) f

      abbrev crossing : ℕ → ℤ
      crossing h = tally (crosses_or (on d e.a) (on d e.b) (on d (from h)) (on d (to h)) (pos 1) divisor n m)

      crossing_is : (h : ℕ) → IsTally (Crosses (on d e.a) (on d e.b) (on d (from h)) (on d (to h)) (pos 1) divisor n m) (crossing h)
      crossing_is h = tally_is (crosses_or (on d e.a) (on d e.b) (on d (from h)) (on d (to h)) (pos 1) divisor n m)

      crossing_at : (f : Face s) (side : ℕ) → side < 3 → IsTally (Crosses (on d e.a) (on d e.b) (on d (start_corner f side)) (on d (end_corner f side)) (pos 1) divisor n m) (crossing (3 * f.number + side))
      crossing_at f side l =
          subst (λ (w : Corner). IsTally (Crosses (on d e.a) (on d e.b) (on d (start_corner f side)) (on d w) (pos 1) divisor n m) (crossing (3 * f.number + side))) (to_at f side l)
          (subst (λ (w : Corner). IsTally (Crosses (on d e.a) (on d e.b) (on d w) (on d (to (3 * f.number + side))) (pos 1) divisor n m) (crossing (3 * f.number + side))) (from_at f side l)
          (crossing_is (3 * f.number + side)))

      -- ---- the faces
      abbrev share : ℕ → ℤ
      share h = keep (nat_lt h (twin_of s sound.closed h)) (((sign h -ℤ sign (twin_of s sound.closed h)) *ℤ change h) *ℤ crossing h)

      abbrev border_share : ℕ → ℤ
      border_share t = sign (3 * t) *ℤ (own t *ℤ border t)

      turn : AreInTurn (pos 1) divisor n m
      turn = record { after = near.after; before = near.before; after' = valid.after; before' = valid.before; order = first_before z n m large valid.after }

      good : (f : Face s) → IsPassed c e f (pos 1) divisor n m
      good f = record { clear = place.clear f; clear' = clear_valid c s sound in_range e f n m valid; passes = passes d (cut-somewhere c) s sound e f }

      counted_here : (f : Face s) → HasCutCounted k c e T f.tri → IsCutCounted k c e T f
      counted_here f (g, same, x) = same_counted k c e T f g same x

      after_tally : (f : Face s) {x : ℤ} → IsTally (HasCutCounted k c e T f.tri) x → IsTally (RestCounts k c e f n m) x
      after_tally f h = let v = valid_rest k c s sound in_range e f n m valid in tally_of (λ x. v.1 (counted_here f x)) (λ x. (f, refl, v.0 x)) h

      before_tally : (covers : List ℕ) → AreCutCovers k c e false covers → (f : Face s) → IsTally (RestCounts k c e f (pos 1) divisor) (pos (get_or covers f.number 0))
      before_tally covers next f =
          let same = place.counts k f in
          let there : f.number < length covers = subst (λ j. f.number < j) (sym next.long) (slice_get_within s.triangles f.number f.tri f.listed) in
          tally_of same.1 same.0 (one_tally (get_or covers f.number 0) (next.each f.number (get_or covers f.number 0) (slice_get-get_or covers f.number 0 there) f refl))

      faces_rise : (covers : List ℕ) → AreCutCovers k c e false covers → (all : ℕ) → (are : AreCutCounted k c e T all)
          → pos are.faces -ℤ pos (sum covers) ≡ sum_below share (count s) -ℤ sum_below border_share (length s.triangles)
      faces_rise covers next all are =
          let r = tally_of_count s.triangles are.faces are.counted in
          (λ t. r.sum t -ℤ (sum_at covers ∙ ap (sum_below (λ i. pos (get_or covers i 0))) next.long) t)
          ∙ rests k c s sound in_range e (pos 1) divisor n m sign (λ i. pos (get_or covers i 0)) r.tally border own change crossing turn
          (λ f some. good f) (before_tally covers next) (λ f. after_tally f (r.each f.number f.tri f.listed)) border_tally own_is
          (λ f side l. sign_at f side l) (λ f side l. λ t. part_change k c e.a e.b (from_at f side l t) (to_at f side l t)) crossing_at

      -- ---- the outlines
      abbrev IsLower : ℕ → Type 0
      IsLower h = h < twin_of s sound.closed h

      abbrev edge : (h : ℕ) → h < count s → Edge s
      edge h l = edge_of d (cut-somewhere c) s sound in_range h l

      module _ (h : ℕ) (l : h < count s) where
        abbrev o : Edge s
        o = edge h l

        from_is : from h ≡ o.a
        from_is = get_or_from_slice_get s.corners (starts_at s h) o.a e.a o.at_m

        to_is : to h ≡ o.b
        to_is = get_or_from_slice_get s.corners (ends_at s h) o.b e.a o.at_n

        small : IsBelow (pos z) (turn_of (on d e.b) (on d o.a) (on d o.b))
        small =
            subst (λ w. IsBelow (pos z) (turn_of (on d e.b) w (on d o.b))) (starts_seen d (cut-somewhere c) s sound in_range h l)
            (subst (λ w. IsBelow (pos z) (turn_of (on d e.b) ((mesh_of d s sound.closed).from h) w)) (ends_seen d (cut-somewhere c) s sound in_range h l) (above h l))

        crossed_is : IsTally (Crosses (on d e.a) (on d e.b) (on d o.a) (on d o.b) (pos 1) divisor n m) (crossing h)
        crossed_is =
            subst (λ (w : Corner). IsTally (Crosses (on d e.a) (on d e.b) (on d o.a) (on d w) (pos 1) divisor n m) (crossing h)) to_is
            (subst (λ (w : Corner). IsTally (Crosses (on d e.a) (on d e.b) (on d w) (on d (to h)) (pos 1) divisor n m) (crossing h)) from_is (crossing_is h))

        share_is : IsLower h → share h ≡ cut_change_of k c e o *ℤ crossing h
        share_is low = λ t. keep (lower_true h (twin_of s sound.closed h) low t)
            (((face_sign_seen d s o.left t -ℤ face_sign_seen d s o.right t) *ℤ part_change k c e.a e.b (from_is t) (to_is t)) *ℤ crossing h)

        none_changed : IsLower h → ¬ (CutChanges c e o × IsCrossedBefore d e o n m) → share h ≡ pos 0
        none_changed low none = share_is low ∙ cut_unchanged c e o (pos z) (pos 1) divisor n m near small start valid k none crossed_is

        has_changed : (x : ℤ) → IsLower h → HasCutChanged k c e o n m x → x ≡ share h
        has_changed x low has = cut_changed_is c e o (pos z) (pos 1) divisor n m near small start valid k has crossed_is ∙ sym (share_is low)

      not_lower : (h : ℕ) → nat_lt h (twin_of s sound.closed h) ≡ false → share h ≡ pos 0
      not_lower h f = ap (λ b. keep b (((sign h -ℤ sign (twin_of s sound.closed h)) *ℤ change h) *ℤ crossing h)) f

      outlines_total : {halves numbers : List ℕ} → HasEachOutline c e n m halves numbers → {A : Type 0} (value : A → ℤ) (changes : List A)
          → AllZip (λ i x. (o : Edge s) → IsNumbered halves i o → HasCutChanged k c e o n m (value x)) numbers changes → sum_below share (count s) ≡ total value changes
      outlines_total {halves} {numbers} outlines value changes all =
          edges_total d (cut-somewhere c) s sound in_range share not_lower (λ o. CutChanges c e o × IsCrossedBefore d e o n m) none_changed
          (λ o x. HasCutChanged k c e o n m x) (λ h l x low has. has_changed h l x low has) halves outlines.edges numbers outlines.within outlines.once
          (λ i o at x. outlines.whole i o at x.0 x.1) value changes all

      -- ---- the borders
      border_by : (f : Face s) → border_share f.number ≡ face_sign d f *ℤ (own f.number *ℤ worth (border_passed k c s spare e n m f.tri))
      border_by f = λ t. first_sign t *ℤ border_is k c spare e f (pos z) (pos 1) divisor n m near (last f) start valid (own f.number) (border f.number) (own_is f) (border_tally f) t
        where
          first_side : (t : ℕ) → 3 * t ≡ 3 * t + 0
          first_side t = omega arith

          first_sign : sign (3 * f.number) ≡ face_sign d f
          first_sign = ap sign (first_side f.number) ∙ sign_at f 0 (omega arith)

      negative : ℕ → ℤ
      negative t = pos 0 -ℤ border_share t

      borders_total : {numbers : List ℕ} → HasEachBorder s (border_passed k c s spare e n m) numbers → {A : Type 0} (value : A → ℤ) (borders : List A)
          → AllZip (λ i x. (f : Face s) → f.number ≡ i → HasBorderChanged k c spare e f n m (value x)) numbers borders → sum_below negative (length s.triangles) ≡ total value borders
      unfolding negative
      borders_total {numbers} each {A} value borders all =
          listed_sum value (length s.triangles) negative numbers borders (different numbers each.once)
          (zip_in (λ i x. (f : Face s) → f.number ≡ i → HasBorderChanged k c spare e f n m (value x)) (λ i x. (i < length s.triangles) × (value x ≡ negative i)) numbers borders one all) elsewhere
        where
          one : (i : ℕ) (x : A) → IsIn i numbers → ((f : Face s) → f.number ≡ i → HasBorderChanged k c spare e f n m (value x)) → (i < length s.triangles) × (value x ≡ negative i)
          one i x there has =
              let l = listed_below (length s.triangles) numbers each.within i there in
              let f = face_of s in_range i l in
              (l, changed_by k c spare e f n m (own i) (value x) (has f refl) (own_is f) ∙ ap (λ v. pos 0 -ℤ v) (sym (border_by f)))

          elsewhere : (i : ℕ) → i < length s.triangles → ¬ IsIn i numbers → negative i ≡ pos 0
          elsewhere i l out =
              let f = face_of s in_range i l in
              ap (λ v. pos 0 -ℤ v) (border_by f)
              ∙ (λ t. pos 0 -ℤ (face_sign d f *ℤ (own i *ℤ worth (false_from_ne_true (border_passed k c s spare e n m f.tri) (λ is. out (place_in numbers i (each.whole f is))) t))))
              ∙ nothing (face_sign d f) (own i)
            where
              nothing : (x y : ℤ) → pos 0 -ℤ (x *ℤ (y *ℤ pos 0)) ≡ pos 0
              nothing x y = ring (x ∷ y ∷ []) (con (pos 0) ⊖ (var 0 ⊗ (var 1 ⊗ con (pos 0)))) (con (pos 0)) refl

      -- how many faces are counted
      faces_are : {halves numbers : List ℕ} → HasEachOutline c e n m halves numbers → {A : Type 0} (value : A → ℤ) (changes : List A)
          → AllZip (λ i x. (o : Edge s) → IsNumbered halves i o → HasCutChanged k c e o n m (value x)) numbers changes
          → {triangles : List ℕ} → HasEachBorder s (border_passed k c s spare e n m) triangles → {B : Type 0} (share : B → ℤ) (borders : List B)
          → AllZip (λ i x. (f : Face s) → f.number ≡ i → HasBorderChanged k c spare e f n m (share x)) triangles borders
          → (covers : List ℕ) → AreCutCovers k c e false covers → (all : ℕ) (are : AreCutCounted k c e T all)
          → pos are.faces ≡ (pos (sum covers) +ℤ total value changes) +ℤ total share borders
      unfolding negative
      faces_are outlines value changes has each own_share borders has' covers next all are =
          together (pos are.faces) (pos (sum covers)) (sum_below share (count s)) (sum_below border_share (length s.triangles)) (total value changes) (total own_share borders)
          (faces_rise covers next all are) (outlines_total outlines value changes has)
          (ap (λ v. v -ℤ sum_below border_share (length s.triangles)) (sym (sum_zero (length s.triangles))) ∙ sum_less (λ t. pos 0) border_share (length s.triangles) ∙ borders_total each own_share borders has')
        where
          together : (f c s b x y : ℤ) → f -ℤ c ≡ s -ℤ b → s ≡ x → pos 0 -ℤ b ≡ y → f ≡ (c +ℤ x) +ℤ y
          together f c s b x y h e g = omega (arith, ints)

    -- ---- the section
    section_is : ¬ IsEndOn d e → {triangles : List ℕ} → HasEachBorder s (border_passed k c s spare e n m) triangles → {B : Type 0} (turns : B → Bool) (borders : List B)
        → AllZip (λ i x. (f : Face s) → f.number ≡ i → border_passed k c s spare e n m f.tri ≡ turns x) triangles borders → (section : ℕ) → IsOneWhere (IsInSection c s T) section
        → pos section ≡ worth (xor (odd_in (border_ahead k c s spare e (pos 0) (pos 1)) s.triangles) (odd_in turns borders))
    section_is across {triangles} each {B} turns borders has section inside =
        one_decided (odd_in (border_ahead k c s spare e n m) s.triangles) section (rays k c s sound.closed in_range spare e n m across (positive_of_more n m valid.after valid.before) valid.free) inside
        ∙ ap worth (ahead_of_passed k c s spare e n m ∙ ap (xor (odd_in (border_ahead k c s spare e (pos 0) (pos 1)) s.triangles)) passed_odd)
      where
        passes_at : ℕ → Bool
        passes_at i = border_passed k c s spare e n m (triangle_at s i)

        at_face : (f : Face s) → passes_at f.number ≡ border_passed k c s spare e n m f.tri
        at_face f = ap (border_passed k c s spare e n m) (triangle-at d s f)

        whole : (i : ℕ) → i < length s.triangles → passes_at i ≡ true → Contains triangles i
        whole i l is = let f = face_of s in_range i l in each.whole f (sym (at_face f) ∙ is)

        one : (i : ℕ) (x : B) → IsIn i triangles → ((f : Face s) → f.number ≡ i → border_passed k c s spare e n m f.tri ≡ turns x) → passes_at i ≡ turns x
        one i x there same =
            let f = face_of s in_range i (listed_below (length s.triangles) triangles each.within i there) in
            at_face f ∙ same f refl

        passed_odd : odd_in (border_passed k c s spare e n m) s.triangles ≡ odd_in turns borders
        passed_odd =
            odd_in-places (border_passed k c s spare e n m) (record { a = 0; b = 0; c = 0 }) s.triangles
            ∙ odd_listed passes_at (length s.triangles) triangles each.within each.once whole turns borders
            (zip_in (λ i x. (f : Face s) → f.number ≡ i → border_passed k c s spare e n m f.tri ≡ turns x) (λ i x. passes_at i ≡ turns x) triangles borders one has)

    -- ---- a near place
    abbrev HasNear : ℕ → Type 0
    HasNear z =
        (suc (unsigned_abs m) ≤ z) × ((h : ℕ) → h < count s → IsBelow (pos z) (turn_of (on d e.b) ((mesh_of d s sound.closed).from h) ((mesh_of d s sound.closed).to h)))
        × ((f : Face s) (p q : Point) → IsBorderOf c f p q → IsBelow (pos z) (last_turn c e p q)) × IsNextPlace c e (pos 1) (pos (suc z))

    some_near : (z : ℕ) × HasNear z
    some_near =
        let sides = above_mesh (on d e.b) (mesh_of d s sound.closed) (is_mesh d s sound.closed in_range) (suc (unsigned_abs m) + last_bound.0) in
        let next = near_law c s e sides.0 in
        let large : suc (unsigned_abs m) ≤ next.0 = first (suc (unsigned_abs m)) last_bound.0 sides.0 next.0 sides.1 next.1 in (
          next.0,
          (
            large,
            (λ h l. wider (pos sides.0) (pos next.0) _ (at_most sides.0 next.0 next.1) (sides.2.sides h l)),
            (λ f p q b. wider (pos last_bound.0) (pos next.0) _ (at_most last_bound.0 next.0 (second (suc (unsigned_abs m)) last_bound.0 sides.0 next.0 sides.1 next.1))
                (subst (λ x. IsBelow (pos last_bound.0) x) (number_is in_range IsLastTurn move_last some_last f p q b) (last_bound.1 f.number (slice_get_within s.triangles f.number f.tri f.listed)))),
            next.2 (pos 1) (pos (suc next.0)) (near_first next.0 (some (unsigned_abs m) next.0 large)),
          ),
        )
      where
        first : (x y z w : ℕ) → x + y ≤ z → z ≤ w → x ≤ w
        first x y z w h g = omega arith

        second : (x y z w : ℕ) → x + y ≤ z → z ≤ w → y ≤ w
        second x y z w h g = omega arith

        some : (x w : ℕ) → suc x ≤ w → 0 < w
        some x w h = omega arith

    -- ---- both
    -- A count is what is counted next to the first end, with the section there, and what has changed: by a list of outlines that has each one which
    -- changes a count before the place, by a list of triangles that has each one whose border is passed, and by the section, which turns with each border that is passed.
    pub count_in_cut : ¬ IsEndOn d e → {halves numbers : List ℕ} → HasEachOutline c e n m halves numbers → {A : Type 0} (value : A → ℤ) (changes : List A)
        → AllZip (λ i x. (o : Edge s) → IsNumbered halves i o → HasCutChanged k c e o n m (value x)) numbers changes
        → {triangles : List ℕ} → HasEachBorder s (border_passed k c s spare e n m) triangles → {B : Type 0} (changed : B → ℤ) (turns : B → Bool) (borders : List B)
        → AllZip (λ i x. (f : Face s) → f.number ≡ i → HasBorderChanged k c spare e f n m (changed x) × (border_passed k c s spare e n m f.tri ≡ turns x)) triangles borders
        → (covers : List ℕ) → AreCutCovers k c e false covers → (all : ℕ) → AreCutCounted k c e T all
        → (let start = odd_in (border_ahead k c s spare e (pos 0) (pos 1)) s.triangles in
        pos all ≡ (((pos (sum covers) +ℤ worth start) +ℤ total value changes) +ℤ total changed borders) +ℤ (worth (xor start (odd_in turns borders)) -ℤ worth start))
    count_in_cut across outlines value changes has {triangles} each {B} changed turns borders has' covers next all are =
        let (z, (large, above, last, place)) = some_near in
        together (pos all) (pos are.faces) (pos are.section) (pos (sum covers)) (total value changes) (total changed borders) _ _
        (ap (λ (i : ℕ). pos i) are.together ∙ split are.faces are.section)
        (faces_are z large above last place outlines value changes has each changed borders
        (zip_in _ (λ i x. (f : Face s) → f.number ≡ i → HasBorderChanged k c spare e f n m (changed x)) triangles borders (λ i x there h f e. (h f e).0) has') covers next all are)
        (section_is across each turns borders
        (zip_in _ (λ i x. (f : Face s) → f.number ≡ i → border_passed k c s spare e n m f.tri ≡ turns x) triangles borders (λ i x there h f e. (h f e).1) has') are.section are.inside)
      where
        split : (x y : ℕ) → pos (x + y) ≡ pos x +ℤ pos y
        split x y = omega (arith, ints)

        together : (a f i c x y w v : ℤ) → a ≡ f +ℤ i → f ≡ (c +ℤ x) +ℤ y → i ≡ w → a ≡ (((c +ℤ v) +ℤ x) +ℤ y) +ℤ (w -ℤ v)
        together a f i c x y w v h g e = omega (arith, ints)
