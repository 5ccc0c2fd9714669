-- Along an edge of a sound part the counts change, from its first end on, by what the outlines change that pass nearer (Appel 1967).
use Rattle.std.proofs.Common.{◌≡◌, ◌≢◌, ◌⊎◌, inl, inr, ℕ, ◌<◌, ◌≤◌, List, [], ◌∷◌, All, AllPairs, Contains, Some, length, slice_get, nat_lt, sum, false, refl, sym, ap, subst, ◌∙◌, arith, unsigned_abs, suc}
use Rattle.std.specs.Prelude.{ℤ, pos, ◌+ℤ◌, ◌-ℤ◌, ◌*ℤ◌, ◌<ℤ◌}
use Rattle.std.specs.List.{AllZip}
use Rattle.std.proofs.lemmas.Int.{ints}
use Rattle.std.proofs.lemmas.List.Kept.{AllPairs-from_increasing}
use Rattle.integers.proofs.Ring.{var, con, ◌⊖◌, ◌⊗◌, ring}
use Rattle.lattice.specs.Triangles.{IsBelow as IsTriBelow}
use Rattle.lattice.specs.Triple.{Triple, IsZero}
use Rattle.geometry.specs.Faces.{share_point}
use Rattle.geometry.specs.Parts.{Part, Face, Edge, AreEdges, IsNumbered}
use Rattle.geometry.specs.Views.{face_sign, IsOutline, IsOrdinary, AreOutlines}
use Rattle.geometry.specs.Sound.{IsSound}
use Rattle.hiding_laws.proofs.Screens.{turn_of}
use Rattle.hiding_laws.proofs.Decisions.{same_or}
use Rattle.geometry.specs.Counts.{Side, to_left, to_right, orientation_of, AreCounted}
use Rattle.geometry.specs.Covers.{IsCountedNext, IsOneWhere}
use Rattle.hiding_laws.proofs.Changed.{HasChanged}
use Rattle.geometry.specs.Shares.{mark, change_of as change_between, Changes}
use Rattle.hiding_laws.proofs.CornerLaws.{IsBelow, IsNear}
use Rattle.hiding_laws.specs.inner.Tallies.{IsTally}
use Rattle.hiding_laws.specs.inner.Tallies.{yes, no}
use Rattle.hiding_laws.proofs.Shares.{Crosses, change_of}
use Rattle.hiding_laws.specs.Sums.{total}
use Rattle.hiding_laws.proofs.SumsBelow.{sum_below, keep}
use Rattle.hiding_laws.proofs.MeshOfPart.{count, is_mesh, twin_of, face_sign_seen}
use Rattle.hiding_laws.proofs.Seen.{on}
use Rattle.hiding_laws.proofs.SeenCrossings.{change_is, changed_is, passes_of_crossed}
use Rattle.hiding_laws.proofs.NearFaces.{IsAboveMesh, above_mesh}
use Rattle.hiding_laws.proofs.EdgeShares.{lower_true, edges_total}
use Rattle.hiding_laws.proofs.HalfFaces.{edge_of, starts_seen, ends_seen}
use Rattle.hiding_laws.proofs.MeshCounts.{mesh, near, crossing, crossing_is, change, share, count_rises}

-- an edge that changes a count is an outline
pub outline_of : (d : Triple) {s : Part} (e o : Edge s) → Changes d e o → IsOutline d o
outline_of d e o x same = by x.some
  where
    none : (p q y : ℤ) → p ≡ q → (p -ℤ q) *ℤ y ≡ pos 0
    none p q y e = ap (λ v. (v -ℤ q) *ℤ y) e ∙ ring (q ∷ y ∷ []) ((var 0 ⊖ var 0) ⊗ var 1) (con (pos 0)) refl

    by : (change_between to_left d e o ≢ pos 0) ⊎ (change_between to_right d e o ≢ pos 0) → ⊥
    by (inl f) = f (none (face_sign d o.left) (face_sign d o.right) (mark to_left (orientation_of d e.a e.b o.a) -ℤ mark to_left (orientation_of d e.a e.b o.b)) same)
    by (inr f) = f (none (face_sign d o.left) (face_sign d o.right) (mark to_right (orientation_of d e.a e.b o.a) -ℤ mark to_right (orientation_of d e.a e.b o.b)) same)

-- a count that is changed is one of the two
pub some_change : (d : Triple) {s : Part} (e o : Edge s) (c : Side) → change_between c d e o ≢ pos 0 → (change_between to_left d e o ≢ pos 0) ⊎ (change_between to_right d e o ≢ pos 0)
some_change d e o to_left f = inl f
some_change d e o to_right f = inr f

-- what changes nothing is no crossing that counts
module _ (c : Side) (d : Triple) (directed : ¬ IsZero d) {s : Part} (e o : Edge s) (k i j n m : ℤ) (near_place : IsNear k i j) (small : IsBelow k (turn_of (on d e.b) (on d o.a) (on d o.b)))
    (after : pos 0 <ℤ n) (before : n <ℤ m) (none : ¬ Changes d e o) where
  abbrev changed_seen : ℤ
  changed_seen = change_of c (face_sign d o.left -ℤ face_sign d o.right) (on d e.a) (on d e.b) (on d o.a) (on d o.b)

  pub no_changes : {x : ℤ} → IsTally (Crosses (on d e.a) (on d e.b) (on d o.a) (on d o.b) i j n m) x → changed_seen *ℤ x ≡ pos 0
  no_changes (no f) = no_crossing changed_seen
    where
      no_crossing : (x : ℤ) → x *ℤ pos 0 ≡ pos 0
      no_crossing x = omega (arith, ints)
  no_changes (yes f) =
      elim (same_or (change_between c d e o) (pos 0)) [
        | inl z ↦ no_product changed_seen (pos 1) (change_is d directed e o k i j n m near_place small after before c ∙ z)
        | inr g ↦ absurd (none record { passes = passes_of_crossed d directed e o k i j n m near_place small after before f; some = some_change d e o c g })
      ]
    where
      no_product : (x y : ℤ) → x ≡ pos 0 → x *ℤ y ≡ pos 0
      no_product x y f = ap (λ v. v *ℤ y) f ∙ nothing y
        where
          nothing : (y : ℤ) → pos 0 *ℤ y ≡ pos 0
          nothing y = omega (arith, ints)

module _ (d : Triple) (directed : ¬ IsZero d) (s : Part) (sound : IsSound s) (in_range : All (IsTriBelow (length s.corners)) s.triangles) where
  module _ (c : Side) (e : Edge s) (n m : ℤ) (after : pos 0 <ℤ n) (before : n <ℤ m) (ordinary : IsOrdinary d s (share_point e.a e.b n m)) (k : ℕ)
      (above : IsAboveMesh (on d e.b) (mesh d directed s sound in_range c e) (pos k)) (large : suc (unsigned_abs m) ≤ k) where
    abbrev edge : (h : ℕ) → h < count s → Edge s
    edge h i = edge_of d directed s sound in_range h i

    abbrev crossed : ℕ → ℤ
    crossed h = crossing d directed s sound in_range c e k above n m large after before ordinary h

    abbrev shared : ℕ → ℤ
    shared h = share d directed s sound in_range c e k above n m large after before ordinary h

    -- ---- one pair of twins
    module _ (h : ℕ) (i : h < count s) where
      abbrev o : Edge s
      o = edge h i

      abbrev changed : ℤ
      changed = change_of c (face_sign d o.left -ℤ face_sign d o.right) (on d e.a) (on d e.b) (on d o.a) (on d o.b)

      abbrev IsCrossed : Type 0
      IsCrossed = Crosses (on d e.a) (on d e.b) (on d o.a) (on d o.b) (pos 1) (pos (suc k)) n m

      small : IsBelow (pos k) (turn_of (on d e.b) (on d o.a) (on d o.b))
      small =
          subst (λ w. IsBelow (pos k) (turn_of (on d e.b) w (on d o.b))) (starts_seen d directed s sound in_range h i)
          (subst (λ w. IsBelow (pos k) (turn_of (on d e.b) ((mesh d directed s sound in_range c e).from h) w)) (ends_seen d directed s sound in_range h i) (above.sides h i))

      crossed_is : IsTally IsCrossed (crossed h)
      crossed_is =
          subst (λ w. IsTally (Crosses (on d e.a) (on d e.b) w (on d o.b) (pos 1) (pos (suc k)) n m) (crossed h)) (starts_seen d directed s sound in_range h i)
          (subst (λ w. IsTally (Crosses (on d e.a) (on d e.b) ((mesh d directed s sound in_range c e).from h) w (pos 1) (pos (suc k)) n m) (crossed h)) (ends_seen d directed s sound in_range h i)
          (crossing_is d directed s sound in_range c e k above n m large after before ordinary h))

      -- the share of a half that is lower than its twin
      shared_is : h < twin_of s sound.closed h → shared h ≡ changed *ℤ crossed h
      shared_is low =
          (λ t. keep (lower_true h (twin_of s sound.closed h) low t)
          (change_of c (face_sign_seen d s o.left t -ℤ face_sign_seen d s o.right t) (on d e.a) (on d e.b) (starts_seen d directed s sound in_range h i t) (ends_seen d directed s sound in_range h i t) *ℤ crossed h))

      has_changed : {z : ℤ} → h < twin_of s sound.closed h → HasChanged c d e o n m z → z ≡ shared h
      has_changed low x =
          changed_is d directed e o (pos k) (pos 1) (pos (suc k)) n m (near d directed s sound in_range c e k above n m large after before ordinary) small after before c x crossed_is
          ∙ sym (shared_is low)

      -- where it changes nothing, its share is 0
      none_changed : h < twin_of s sound.closed h → ¬ Changes d e o → shared h ≡ pos 0
      none_changed low none =
          shared_is low ∙ no_changes c d directed e o (pos k) (pos 1) (pos (suc k)) n m (near d directed s sound in_range c e k above n m large after before ordinary) small after before none crossed_is

    not_lower_half : (h : ℕ) → nat_lt h (twin_of s sound.closed h) ≡ false → shared h ≡ pos 0
    not_lower_half h f = ap (λ b. keep b (change d directed s sound in_range c e k above n m large after before ordinary h)) f

    -- a list of edges that has each one that changes one of the counts
    shared_total : (halves : List ℕ) → AreEdges s halves → (numbers : List ℕ) → All (λ i. i < length halves) numbers → AllPairs ◌≢◌ numbers
        → ((i : ℕ) (o : Edge s) → IsNumbered halves i o → Changes d e o → Contains numbers i)
        → {A : Type 0} (value : A → ℤ) (changes : List A) → AllZip (λ i x. (o : Edge s) → IsNumbered halves i o → HasChanged c d e o n m (value x)) numbers changes → sum_below shared (count s) ≡ total value changes
    shared_total halves edges numbers listed once whole value changes all =
        edges_total d directed s sound in_range shared not_lower_half (Changes d e) none_changed (λ o z. HasChanged c d e o n m z) (λ h l z low x. has_changed h l low x) halves edges numbers listed once whole value changes all

  -- ---- the law
  module _ (c : Side) (e : Edge s) (n m : ℤ) (after : pos 0 <ℤ n) (before : n <ℤ m) (ordinary : IsOrdinary d s (share_point e.a e.b n m))
      (halves : List ℕ) where
    -- a count is what is counted next to the first end, and the changes by the edges of a list that has each one which changes a count
    pub count_listed : AreEdges s halves → (numbers : List ℕ) → All (λ i. i < length halves) numbers → AllPairs ◌≢◌ numbers → ((i : ℕ) (o : Edge s) → IsNumbered halves i o → Changes d e o → Contains numbers i)
        → {A : Type 0} (value : A → ℤ) (changes : List A) → AllZip (λ i x. (o : Edge s) → IsNumbered halves i o → HasChanged c d e o n m (value x)) numbers changes
        → (covers : List ℕ) → length covers ≡ length s.triangles
        → ((i x : ℕ) → slice_get covers i ≡ Some x → (f : Face s) → f.number ≡ i → IsOneWhere (IsCountedNext c d e false f) x)
        → (all : ℕ) → AreCounted c d e (share_point e.a e.b n m) all → pos all ≡ pos (sum covers) +ℤ total value changes
    count_listed edges numbers listed once whole value changes has covers long next all are =
        let r = above_mesh (on d e.b) (mesh d directed s sound in_range c e) (is_mesh d s sound.closed in_range) (suc (unsigned_abs m)) in
        moved (pos all) (pos (sum covers)) _
        (count_rises d directed s sound in_range c e r.0 r.2 n m r.1 after before ordinary covers long next all are
        ∙ shared_total c e n m after before ordinary r.0 r.2 r.1 halves edges numbers listed once whole value changes has)
      where
        moved : (x y z : ℤ) → x -ℤ y ≡ z → x ≡ y +ℤ z
        moved x y z h = omega (arith, ints)

    -- the same with all outlines
    pub count_along : (numbers : List ℕ) → AreOutlines d s halves numbers
        → (changes : List ℤ) → AllZip (λ i z. (o : Edge s) → IsNumbered halves i o → HasChanged c d e o n m z) numbers changes
        → (covers : List ℕ) → length covers ≡ length s.triangles
        → ((i x : ℕ) → slice_get covers i ≡ Some x → (f : Face s) → f.number ≡ i → IsOneWhere (IsCountedNext c d e false f) x)
        → (all : ℕ) → AreCounted c d e (share_point e.a e.b n m) all → pos all ≡ pos (sum covers) +ℤ total (λ z. z) changes
    count_along numbers outlines changes has covers long next all are =
        count_listed outlines.edges numbers outlines.within
        (λ i j x g h. apart _ _ (AllPairs-from_increasing numbers outlines.ascending i j x g h))
        (λ i o at x. (outlines.exactly i o at).1 (outline_of d e o x)) (λ z. z) changes has covers long next all are
      where
        apart : (i j : ℕ) → i < j → i ≢ j
        apart i j h e = omega arith
