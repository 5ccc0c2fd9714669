-- From next to an edge's first end to next to its second, the faces that are counted change by what the outlines change along the edge.
use Rattle.std.proofs.Common.{◌≡◌, ◌≢◌, ◌⊎◌, inl, inr, ℕ, ◌+◌, ◌*◌, ◌<◌, Bool, true, false, List, [], ◌∷◌, All, AllPairs, Contains, length, get_or, nat_lt, sum, refl, sym, ap, subst, ◌∙◌, arith}
use Rattle.std.specs.Prelude.{ℤ, pos, ◌+ℤ◌, ◌-ℤ◌, ◌*ℤ◌, ◌<ℤ◌}
use Rattle.std.specs.List.{AllZip}
use Rattle.std.proofs.lemmas.Int.{ints}
use Rattle.std.proofs.lemmas.Option.{slice_get-get_or}
use Rattle.lattice.proofs.Vectors.{dot_somewhere}
use Rattle.integers.proofs.Ring.{var, con, ◌⊖◌, ◌⊗◌, ring, less_by}
use Rattle.integers.proofs.Signs.{mul_pos}
use Rattle.lattice.specs.Triangles.{IsBelow as IsTriBelow}
use Rattle.lattice.specs.Triple.{Triple, dot, IsZero}
use Rattle.geometry.specs.Faces.{share_point}
use Rattle.geometry.specs.Parts.{Part, Face, Edge, AreEdges, IsNumbered}
use Rattle.geometry.specs.Sound.{IsSound}
use Rattle.geometry.specs.Views.{face_sign, IsOrdinary}
use Rattle.hiding_laws.proofs.Screens.{Screen, turn_of}
use Rattle.hiding_laws.proofs.Decisions.{same_or, less_or}
use Rattle.geometry.specs.Counts.{Side, AreCounted}
use Rattle.geometry.specs.inner.CountsNext.{AreCovers}
use Rattle.geometry.specs.Covers.{IsCountedNext, IsOneWhere}
use Rattle.hiding_laws.proofs.Changed.{IsCrossedBefore, HasChanged, HasChangedAlong}
use Rattle.geometry.specs.Shares.{denominator_of as denominator_between, numerator_of as numerator_between, height_numerator_of as height_numerator_between, change_of as change_between, PassesNearer, Changes}
use Rattle.hiding_laws.proofs.Changed.HasChanged.{passed, not_passed}
use Rattle.hiding_laws.proofs.Changed.HasChangedAlong.{along, not_along}
use Rattle.geometry.specs.Turns.{other_side}
use Rattle.hiding_laws.proofs.CornerLaws.{IsBelow}
use Rattle.hiding_laws.proofs.Meshes.{Mesh}
use Rattle.hiding_laws.specs.inner.Tallies.{IsTally}
use Rattle.hiding_laws.proofs.Shares.{Crosses, change_of, Adds, IsClear, Passes}
use Rattle.hiding_laws.specs.Sums.{total}
use Rattle.hiding_laws.proofs.SumsBelow.{sum_below, keep}
use Rattle.hiding_laws.proofs.CornerFaces.{divisor, near}
use Rattle.hiding_laws.proofs.CountAlong.{some_change, count_listed, no_changes}
use Rattle.geometry.proofs.EachEdge.{turned_edge}
use Rattle.hiding_laws.proofs.Decided.{next_turned}
use Rattle.hiding_laws.proofs.EdgeBack.{adds_back, clear_back, before_far}
use Rattle.hiding_laws.proofs.EdgePasses.{passes}
use Rattle.hiding_laws.proofs.EdgeShares.{lower_true, edges_total}
use Rattle.hiding_laws.proofs.FineMesh.{IsFineMesh, fine_mesh, suits_first, suits_second, above_of_suits}
use Rattle.hiding_laws.proofs.HalfFaces.{edge_of, starts_seen, ends_seen}
use Rattle.hiding_laws.proofs.ListSums.{sum_at}
use Rattle.hiding_laws.proofs.MeshCounts.{three_or, face_of, at_mesh, at_face, one_tally, tally, tally_is, crosses_or}
use Rattle.hiding_laws.proofs.MeshOfPart.{count, mesh_of, is_mesh, twin_of, face_sign_seen}
use Rattle.hiding_laws.proofs.NearFaces.{next_of_adds, adds_of_next}
use Rattle.hiding_laws.proofs.NearPlace.{IsAbove, clear_face_near}
use Rattle.hiding_laws.proofs.Seen.{on, scale, scale_pos}
use Rattle.hiding_laws.proofs.SeenCrossings.{product_is, square_is, less_at, before_of_scaled, scaled_of_before, changed_is}
use Rattle.hiding_laws.proofs.Sides.{tally_of}
use Rattle.hiding_laws.proofs.Twins.{all_faces}

-- ---- a place near to the second end
abbrev far : ℕ → ℤ
far k = divisor k -ℤ pos 1

far_after : (k : ℕ) → pos 0 <ℤ far k
far_after k = omega (arith, ints)

far_before : (k : ℕ) → far k <ℤ divisor k
far_before k = omega (arith, ints)

-- what passes nearer over the edge is crossed before a place that is near to the second end
module _ (d : Triple) (somewhere : ¬ IsZero d) {s : Part} (e o : Edge s) (k : ℕ) (small : IsBelow (pos k) (turn_of (on d e.a) (on d o.a) (on d o.b))) where
  crossed_far : PassesNearer d e o → IsCrossedBefore d e o (far k) (divisor k)
  crossed_far p =
      let long = dot_somewhere d somewhere in
      let R = numerator_between d e o in
      let K = denominator_between d e o in
      let D = height_numerator_between e o in
      let before = scaled_of_before (scale d) (dot d d) R K D (scale_pos d) long (pos 1) (pos 1) (once (R *ℤ K) (K *ℤ K) p.before) in
      before_of_scaled (scale d) (dot d d) R K D (scale_pos d) long (far k) (divisor k)
      (less_at _ _ _ _ (ap (λ v. v *ℤ divisor k) (product_is d e o)) (ap (λ v. far k *ℤ v) (square_is d e o))
      (before_far (on d e.a) (on d e.b) (on d o.a) (on d o.b) (pos k) (pos 1) (divisor k) refl refl (near k) small
      (less_at _ _ _ _ (sym (product_is d e o)) (sym (square_is d e o)) (back _ _ before))))
    where
      once : (x y : ℤ) → x <ℤ y → (x *ℤ pos 1) <ℤ (pos 1 *ℤ y)
      once x y h = omega (arith, ints)

      back : (x y : ℤ) → (x *ℤ pos 1) <ℤ (pos 1 *ℤ y) → x <ℤ y
      back x y h = omega (arith, ints)

  -- so what is changed along the edge is changed before there
  changed_far : (c : Side) {z : ℤ} → HasChangedAlong c d e o z → HasChanged c d e o (far k) (divisor k) z
  changed_far c (along p) = passed p (crossed_far p)
  changed_far c (not_along n) = not_passed (λ h. n h.0)

-- ---- an edge that changes neither count
module _ (d : Triple) {s : Part} (e o : Edge s) where
  passes_or : PassesNearer d e o ⊎ ¬ PassesNearer d e o
  passes_or = three_or (λ p q r. record { after = p; before = q; nearer = r }) (λ x. x.after) (λ x. x.before) (λ x. x.nearer) (less_or _ _) (less_or _ _) (less_or _ _)

  pub unchanged_along : (c : Side) → ¬ Changes d e o → HasChangedAlong c d e o (pos 0)
  unchanged_along c none = by passes_or
    where
      by : PassesNearer d e o ⊎ ¬ PassesNearer d e o → HasChangedAlong c d e o (pos 0)
      by (inr n) = not_along n
      by (inl p) = elim (same_or (change_between c d e o) (pos 0)) [
        | inl z ↦ subst (λ (x : ℤ). HasChangedAlong c d e o x) z (along p)
        | inr f ↦ absurd (none record { passes = p; some = some_change d e o c f })
      ]

-- ---- the law
module _ (d : Triple) (directed : ¬ IsZero d) (s : Part) (sound : IsSound s) (in_range : All (IsTriBelow (length s.corners)) s.triangles) (c : Side) (e : Edge s) where
  abbrev mesh : Mesh
  mesh = mesh_of d s sound.closed

  abbrev P : Screen
  P = on d e.a

  abbrev Q : Screen
  Q = on d e.b

  abbrev face : (t : ℕ) → t < length s.triangles → Face s
  face t l = face_of s in_range t l

  module _ (k : ℕ) (fine : IsFineMesh P Q P mesh (pos k)) where
    abbrev first_of : ℕ → Screen
    first_of t = mesh.from (3 * t)

    abbrev second_of : ℕ → Screen
    second_of t = mesh.from (3 * t + 1)

    abbrev third_of : ℕ → Screen
    third_of t = mesh.from (3 * t + 2)

    above_first : (t : ℕ) → t < length s.triangles → IsAbove Q (first_of t) (second_of t) (third_of t) (pos k)
    above_first t l = above_of_suits P Q _ _ _ (pos k) (pos 1) (divisor k) (suits_first mesh (is_mesh d s sound.closed in_range) t l P Q P (pos k) fine (pos 1) (divisor k) (near k))

    above_second : (t : ℕ) → t < length s.triangles → IsAbove P (first_of t) (second_of t) (third_of t) (pos k)
    above_second t l = above_of_suits P P _ _ _ (pos k) (pos 1) (divisor k) (suits_second mesh (is_mesh d s sound.closed in_range) t l P Q P (pos k) fine (pos 1) (divisor k) (near k))

    -- ---- what the faces add at the two places
    item_is : (at_b : Bool) (covers : List ℕ) (h : AreCovers c d e at_b covers) (t : ℕ) (l : t < length s.triangles) → IsOneWhere (IsCountedNext c d e at_b (face t l)) (get_or covers t 0)
    item_is at_b covers h t l = h.each t (get_or covers t 0) (slice_get-get_or covers t 0 (subst (λ n. t < n) (sym h.long) l)) (face t l) refl

    before_tally : (covers : List ℕ) → AreCovers c d e false covers → (t : ℕ) → t < length s.triangles
        → IsTally (Adds c P Q (first_of t) (second_of t) (third_of t) (pos 1) (divisor k)) (pos (get_or covers t 0))
    before_tally covers h t l =
        let low = at_face d s (face t l) (λ a b g. IsAbove Q a b g (pos k)) (above_first t l) in
        at_mesh d s (face t l) (λ a b g. IsTally (Adds c P Q a b g (pos 1) (divisor k)) (pos (get_or covers t 0)))
        (tally_of (adds_of_next c d e (face t l) (pos k) (divisor k) (near k) low) (next_of_adds c d e (face t l) (pos k) (divisor k) (near k) low) (one_tally _ (item_is false covers h t l)))

    after_tally : (covers : List ℕ) → AreCovers c d e true covers → (t : ℕ) → t < length s.triangles
        → IsTally (Adds c P Q (first_of t) (second_of t) (third_of t) (far k) (divisor k)) (pos (get_or covers t 0))
    after_tally covers h t l =
        let f = face t l in
        let low = at_face d s f (λ a b g. IsAbove P a b g (pos k)) (above_second t l) in
        let turned = next_turned d c e f in
        let back = adds_back P Q c (on d f.a) (on d f.b) (on d f.c) (pos 1) (divisor k) in
        at_mesh d s f (λ a b g. IsTally (Adds c P Q a b g (far k) (divisor k)) (pos (get_or covers t 0)))
        (tally_of (λ x. back.0 (adds_of_next (other_side c) d (turned_edge e) f (pos k) (divisor k) (near k) low (turned.0 x)))
        (λ x. turned.1 (next_of_adds (other_side c) d (turned_edge e) f (pos k) (divisor k) (near k) low (back.1 x))) (one_tally _ (item_is true covers h t l)))

    abbrev AreGood : ℕ → Type 0
    AreGood t =
        IsClear P Q (first_of t) (second_of t) (third_of t) (pos 1) (divisor k) × IsClear P Q (first_of t) (second_of t) (third_of t) (far k) (divisor k) × Passes P Q (first_of t) (second_of t) (third_of t)

    good : (t : ℕ) → t < length s.triangles → AreGood t
    good t l = (
      clear_face_near P Q _ _ _ (pos k) (pos 1) (divisor k) refl refl (near k) (above_first t l),
      clear_back P Q _ _ _ (pos 1) (divisor k) (clear_face_near Q P _ _ _ (pos k) (pos 1) (divisor k) refl refl (near k) (above_second t l)),
      at_mesh d s (face t l) (λ a b g. Passes P Q a b g) (passes d directed s sound e (face t l)),
    )

    -- ---- what the sides change between them
    abbrev IsCrossed : ℕ → Type 0
    IsCrossed h = Crosses P Q (mesh.from h) (mesh.to h) (pos 1) (divisor k) (far k) (divisor k)

    abbrev crossing : ℕ → ℤ
    crossing h = tally (crosses_or P Q (mesh.from h) (mesh.to h) (pos 1) (divisor k) (far k) (divisor k))

    abbrev share : ℕ → ℤ
    share h = keep (nat_lt h (mesh.twin h)) (change_of c (mesh.sign h -ℤ mesh.sign (mesh.twin h)) P Q (mesh.from h) (mesh.to h) *ℤ crossing h)

    rises : (covers covers' : List ℕ) → AreCovers c d e false covers → AreCovers c d e true covers' → pos (sum covers') -ℤ pos (sum covers) ≡ sum_below share (count s)
    rises covers covers' h h' =
        (λ t. (sum_at covers' ∙ ap (sum_below (λ i. pos (get_or covers' i 0))) h'.long) t -ℤ (sum_at covers ∙ ap (sum_below (λ i. pos (get_or covers i 0))) h.long) t)
        ∙ all_faces c P Q mesh (pos 1) (divisor k) (far k) (divisor k) (λ i. pos (get_or covers i 0)) (λ i. pos (get_or covers' i 0)) crossing refl refl (is_mesh d s sound.closed in_range)
        (near k).after (near k).before (far_after k) (far_before k) order
        (λ t l some. good t l) (before_tally covers h) (after_tally covers' h')
        (λ i l. tally_is (crosses_or P Q (mesh.from i) (mesh.to i) (pos 1) (divisor k) (far k) (divisor k)))
      where
        some : 0 < length s.triangles → 0 < count s
        some h = omega arith

        wide : (k : ℕ) → pos 1 <ℤ pos k → (pos 0 <ℤ (divisor k -ℤ pos 2)) × (pos 0 <ℤ divisor k)
        wide k h = (omega (arith, ints), omega (arith, ints))

        order : (pos 1 *ℤ divisor k) <ℤ (far k *ℤ divisor k)
        order =
            let w = wide k (fine.turns 0 (some sound.some)).0.large in
            less_by _ _ _ (ring (divisor k ∷ []) (((var 0 ⊖ con (pos 1)) ⊗ var 0) ⊖ (con (pos 1) ⊗ var 0)) ((var 0 ⊖ con (pos 2)) ⊗ var 0) refl) (mul_pos (divisor k -ℤ pos 2) (divisor k) w.0 w.1)

    module _ (h : ℕ) (l : h < count s) where
      abbrev o : Edge s
      o = edge_of d directed s sound in_range h l

      from_is : mesh.from h ≡ on d o.a
      from_is = starts_seen d directed s sound in_range h l

      to_is : mesh.to h ≡ on d o.b
      to_is = ends_seen d directed s sound in_range h l

      small : IsBelow (pos k) (turn_of Q (on d o.a) (on d o.b))
      small = subst (λ w. IsBelow (pos k) (turn_of Q w (on d o.b))) from_is (subst (λ w. IsBelow (pos k) (turn_of Q (mesh.from h) w)) to_is (fine.sides h l).0.turn)

      small_back : IsBelow (pos k) (turn_of P (on d o.a) (on d o.b))
      small_back = subst (λ w. IsBelow (pos k) (turn_of P w (on d o.b))) from_is (subst (λ w. IsBelow (pos k) (turn_of P (mesh.from h) w)) to_is (fine.sides h l).1.turn)

      crossed_is : IsTally (Crosses P Q (on d o.a) (on d o.b) (pos 1) (divisor k) (far k) (divisor k)) (crossing h)
      crossed_is =
          subst (λ w. IsTally (Crosses P Q w (on d o.b) (pos 1) (divisor k) (far k) (divisor k)) (crossing h)) from_is
          (subst (λ w. IsTally (Crosses P Q (mesh.from h) w (pos 1) (divisor k) (far k) (divisor k)) (crossing h)) to_is
          (tally_is (crosses_or P Q (mesh.from h) (mesh.to h) (pos 1) (divisor k) (far k) (divisor k))))

      share_is : h < twin_of s sound.closed h → share h ≡ change_of c (face_sign d o.left -ℤ face_sign d o.right) P Q (on d o.a) (on d o.b) *ℤ crossing h
      share_is low = λ t. keep (lower_true h (twin_of s sound.closed h) low t) (change_of c (face_sign_seen d s o.left t -ℤ face_sign_seen d s o.right t) P Q (from_is t) (to_is t) *ℤ crossing h)

      has_changed : (z : ℤ) → h < twin_of s sound.closed h → HasChangedAlong c d e o z → z ≡ share h
      has_changed z low x =
          changed_is d directed e o (pos k) (pos 1) (divisor k) (far k) (divisor k) (near k) small (far_after k) (far_before k) c (changed_far d directed e o k small_back c x) crossed_is
          ∙ sym (share_is low)

      none_changed : h < twin_of s sound.closed h → ¬ Changes d e o → share h ≡ pos 0
      none_changed low none = share_is low ∙ no_changes c d directed e o (pos k) (pos 1) (divisor k) (far k) (divisor k) (near k) small (far_after k) (far_before k) none crossed_is

    not_lower : (h : ℕ) → nat_lt h (twin_of s sound.closed h) ≡ false → share h ≡ pos 0
    not_lower h f = ap (λ b. keep b (change_of c (mesh.sign h -ℤ mesh.sign (mesh.twin h)) P Q (mesh.from h) (mesh.to h) *ℤ crossing h)) f

  -- ---- a list of edges that has each one which changes a count
  module _ (halves : List ℕ) (edges : AreEdges s halves) (numbers : List ℕ) (listed : All (λ i. i < length halves) numbers) (once : AllPairs ◌≢◌ numbers)
      (whole : (i : ℕ) (o : Edge s) → IsNumbered halves i o → Changes d e o → Contains numbers i)
      {A : Type 0} (value : A → ℤ) (changes : List A) (has : AllZip (λ i x. (o : Edge s) → IsNumbered halves i o → HasChangedAlong c d e o (value x)) numbers changes)
      (covers covers' : List ℕ) (next : AreCovers c d e false covers) (next' : AreCovers c d e true covers') where
    -- the faces counted next to the second end are those counted next to the first, and the changes
    pub next_along : pos (sum covers') ≡ pos (sum covers) +ℤ total value changes
    next_along =
        let r = fine_mesh P Q P mesh in
        moved (pos (sum covers')) (pos (sum covers)) (total value changes)
        (rises r.0 r.1 covers covers' next next'
        ∙ edges_total d directed s sound in_range (share r.0 r.1) (not_lower r.0 r.1) (Changes d e) (none_changed r.0 r.1) (λ o z. HasChangedAlong c d e o z) (has_changed r.0 r.1)
        halves edges numbers listed once whole value changes has)
      where
        moved : (x y z : ℤ) → x -ℤ y ≡ z → x ≡ y +ℤ z
        moved x y z h = omega (arith, ints)

    -- a count, from what is counted next to the second end: without the changes along the whole edge, and with those before the place
    pub count_from_end : (n m : ℤ) → pos 0 <ℤ n → n <ℤ m → IsOrdinary d s (share_point e.a e.b n m)
        → {B : Type 0} (before : B → ℤ) (changes' : List B) → AllZip (λ i x. (o : Edge s) → IsNumbered halves i o → HasChanged c d e o n m (before x)) numbers changes'
        → (all : ℕ) → AreCounted c d e (share_point e.a e.b n m) all → pos all ≡ (pos (sum covers') -ℤ total value changes) +ℤ total before changes'
    count_from_end n m after short ordinary before changes' has' all are =
        count_listed d directed s sound in_range c e n m after short ordinary halves edges numbers listed once whole before changes' has' covers next.long next.each all are
        ∙ moved (pos (sum covers')) (pos (sum covers)) (total value changes) (total before changes') next_along
      where
        moved : (x y z w : ℤ) → x ≡ y +ℤ z → y +ℤ w ≡ (x -ℤ z) +ℤ w
        moved x y z w h = omega (arith, ints)
