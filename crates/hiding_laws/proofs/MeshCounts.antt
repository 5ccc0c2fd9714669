-- Along an edge of a sound part a count rises, from next to the edge's first end to an ordinary point, by the shares of the sides that are seen to cross.
use Rattle.std.proofs.Common.{◌≡◌, ◌⊎◌, inl, inr, ℕ, suc, ◌+◌, ◌*◌, ◌<◌, ◌≤◌, List, [], ◌∷◌, All, Some, length, get_or, slice_get, nat_lt, sum, refl, sym, ap, subst, ◌∙◌, arith, unsigned_abs}
use Rattle.std.specs.Prelude.{ℤ, pos, negsuc, ◌-ℤ◌, ◌*ℤ◌, ◌≤ℤ◌, ◌<ℤ◌, false}
use Rattle.std.proofs.lemmas.Int.{ints}
use Rattle.std.proofs.lemmas.Option.{slice_get-get_or}
use Rattle.integers.proofs.Lists.{some_element}
use Rattle.integers.proofs.Ring.{var, con, ◌⊕◌, ◌⊖◌, ◌⊗◌, ring, less_by}
use Rattle.integers.proofs.Signs.{mul_nonneg}
use Rattle.lattice.specs.declared.points.Corner.{Corner}
use Rattle.lattice.specs.declared.soup.Tri.{Tri}
use Rattle.lattice.specs.Triangles.{IsBelow}
use Rattle.lattice.specs.Triple.{Triple, IsZero}
use Rattle.geometry.specs.Faces.{share_point}
use Rattle.geometry.specs.Parts.{Part, Face, Edge}
use Rattle.geometry.specs.Views.{IsOrdinary}
use Rattle.geometry.specs.Sound.{IsSound}
use Rattle.geometry.proofs.Listed.{same_element, face_at}
use Rattle.hiding_laws.proofs.Screens.{Screen}
use Rattle.hiding_laws.proofs.Decisions.{less_or}
use Rattle.geometry.specs.Counts.{Side, HasCounted, AreCounted}
use Rattle.geometry.specs.Covers.{IsCountedNext, IsOneWhere}
use Rattle.hiding_laws.specs.inner.Tallies.{IsTally}
use Rattle.hiding_laws.specs.inner.Tallies.{yes, no}
use Rattle.hiding_laws.proofs.Shares.{Crosses, change_of, Adds, IsClear, Passes}
use Rattle.hiding_laws.proofs.SumsBelow.{sum_below, keep}
use Rattle.hiding_laws.proofs.Meshes.{Mesh}
use Rattle.hiding_laws.proofs.CornerLaws.{IsNear}
use Rattle.hiding_laws.proofs.Signs.{sum_pos_left}
use Rattle.hiding_laws.proofs.Sides.{tally_of}
use Rattle.hiding_laws.proofs.Twins.{all_faces}
use Rattle.hiding_laws.proofs.MeshOfPart.{mesh_of, is_mesh, corner_seen, starts_at, first_seen, second_seen, third_seen}
use Rattle.hiding_laws.proofs.Seen.{on, adds_of_counted, counted_of_adds}
use Rattle.hiding_laws.proofs.NearPlace.{IsAbove, clear_face_near}
use Rattle.hiding_laws.proofs.NearFaces.{IsAboveMesh, next_of_adds, adds_of_next}
use Rattle.hiding_laws.proofs.ClearPlaces.{clear_ordinary}
use Rattle.hiding_laws.proofs.EdgePasses.{passes}
use Rattle.hiding_laws.proofs.ListSums.{tally_of_count, sum_at}

-- ---- faces by their numbers
-- what holds of a face's corners holds of those of the mesh
module _ (d : Triple) (s : Part) (f : Face s) (X : Screen → Screen → Screen → Type 0) where
  abbrev A : Screen
  A = corner_seen d s (starts_at s (3 * f.number))

  abbrev B : Screen
  B = corner_seen d s (starts_at s (3 * f.number + 1))

  abbrev C : Screen
  C = corner_seen d s (starts_at s (3 * f.number + 2))

  pub at_mesh : X (on d f.a) (on d f.b) (on d f.c) → X A B C
  at_mesh x = subst (λ w. X w B C) (sym (first_seen d s f)) (subst (λ w. X (on d f.a) w C) (sym (second_seen d s f)) (subst (λ w. X (on d f.a) (on d f.b) w) (sym (third_seen d s f)) x))

  pub at_face : X A B C → X (on d f.a) (on d f.b) (on d f.c)
  at_face x = subst (λ w. X (on d f.a) (on d f.b) w) (third_seen d s f) (subst (λ w. X (on d f.a) w C) (second_seen d s f) (subst (λ w. X w B C) (first_seen d s f) x))

module _ (s : Part) (in_range : All (IsBelow (length s.corners)) s.triangles) where
  -- the face with a number
  abbrev pub face_of : (t : ℕ) → t < length s.triangles → Face s
  face_of t l = let x = some_element s.triangles t l in face_at s in_range x.0 t x.1

-- ---- tallies
pub one_tally : {P : Type 0} (n : ℕ) → IsOneWhere P n → IsTally P (pos n)
one_tally {P} n (inl (e, p)) = subst (λ m. IsTally P (pos m)) (sym e) (yes p)
one_tally {P} n (inr (e, p)) = subst (λ m. IsTally P (pos m)) (sym e) (no p)

abbrev pub tally : {P : Type 0} → P ⊎ ¬ P → ℤ
tally (inl p) = pos 1
tally (inr n) = pos 0

pub tally_is : {P : Type 0} (c : P ⊎ ¬ P) → IsTally P (tally c)
tally_is (inl p) = yes p
tally_is (inr n) = no n

-- what three decided things make up is decided
pub three_or : {P Q R X : Type 0} → (P → Q → R → X) → (X → P) → (X → Q) → (X → R) → P ⊎ ¬ P → Q ⊎ ¬ Q → R ⊎ ¬ R → X ⊎ ¬ X
three_or make f g h (inl p) (inl q) (inl r) = inl (make p q r)
three_or make f g h (inr n) q r = inr (λ x. n (f x))
three_or make f g h (inl p) (inr n) r = inr (λ x. n (g x))
three_or make f g h (inl p) (inl q) (inr n) = inr (λ x. n (h x))

-- it is decided whether a side is seen to cross
pub crosses_or : (p q a b : Screen) (n m n' m' : ℤ) → Crosses p q a b n m n' m' ⊎ ¬ Crosses p q a b n m n' m'
crosses_or p q a b n m n' m' =
    three_or (λ f g h. record { after = f; before = g; nearer = h }) (λ x. x.after) (λ x. x.before) (λ x. x.nearer) (less_or _ _) (less_or _ _) (less_or _ _)

-- ---- places
-- 1 / (k + 1) is a near place, and before n / m, where k is above m
near_first : (k : ℕ) (m : ℤ) → suc (unsigned_abs m) ≤ k → IsNear (pos k) (pos 1) (pos (suc k))
near_first k m h = record { after = omega (arith, ints); before = omega (arith, ints); near = omega (arith, ints) }

pub first_before : (k : ℕ) (n m : ℤ) → suc (unsigned_abs m) ≤ k → pos 0 <ℤ n → (pos 1 *ℤ m) <ℤ (n *ℤ pos (suc k))
first_before k n m h after =
    less_by _ _ _ (ring (n ∷ m ∷ pos (suc k) ∷ []) ((var 0 ⊗ var 2) ⊖ (con (pos 1) ⊗ var 1)) ((var 2 ⊖ var 1) ⊕ ((var 0 ⊖ con (pos 1)) ⊗ var 2)) refl)
    (sum_pos_left _ _ (above m h) (mul_nonneg (n -ℤ pos 1) (pos (suc k)) (one_less n after) (natural (suc k))))
  where
    above : (m : ℤ) → suc (unsigned_abs m) ≤ k → pos 0 <ℤ (pos (suc k) -ℤ m)
    above (pos m) h = omega (arith, ints)
    above (negsuc m) h = omega (arith, ints)

    one_less : (n : ℤ) → pos 0 <ℤ n → pos 0 ≤ℤ (n -ℤ pos 1)
    one_less n h = omega (arith, ints)

    natural : (n : ℕ) → pos 0 ≤ℤ pos n
    natural n = omega (arith, ints)

module _ (d : Triple) (directed : ¬ IsZero d) (s : Part) (sound : IsSound s) (in_range : All (IsBelow (length s.corners)) s.triangles) (c : Side) (e : Edge s) where
  abbrev pub mesh : Mesh
  mesh = mesh_of d s sound.closed

  abbrev P : Screen
  P = on d e.a

  abbrev Q : Screen
  Q = on d e.b

  abbrev face : (t : ℕ) → t < length s.triangles → Face s
  face t l = face_of s in_range t l

  module _ (n m : ℤ) where
    -- ---- at a place
    module _ (f : Face s) where
      abbrev AddsHere : Type 0
      AddsHere = Adds c P Q (on d f.a) (on d f.b) (on d f.c) n m

      counted_adds : HasCounted c d e (share_point e.a e.b n m) f.tri → AddsHere
      counted_adds (g, same, x) =
          let a : g.a ≡ f.a = same_element s.corners g.tri.a f.tri.a g.a f.a (ap (λ (t : Tri). t.a) same) g.at_a f.at_a in
          let b : g.b ≡ f.b = same_element s.corners g.tri.b f.tri.b g.b f.b (ap (λ (t : Tri). t.b) same) g.at_b f.at_b in
          let c' : g.c ≡ f.c = same_element s.corners g.tri.c f.tri.c g.c f.c (ap (λ (t : Tri). t.c) same) g.at_c f.at_c in
          subst (λ (w : Corner). Adds c P Q (on d f.a) (on d f.b) (on d w) n m) c'
          (subst (λ (w : Corner). Adds c P Q (on d f.a) (on d w) (on d g.c) n m) b
          (subst (λ (w : Corner). Adds c P Q (on d w) (on d g.b) (on d g.c) n m) a (adds_of_counted c d e g n m x)))

      adds_counted : AddsHere → HasCounted c d e (share_point e.a e.b n m) f.tri
      adds_counted x = (f, refl, counted_of_adds c d e f n m x)

    abbrev MeshAdds : ℕ → Type 0
    MeshAdds t = Adds c P Q (mesh.from (3 * t)) (mesh.from (3 * t + 1)) (mesh.from (3 * t + 2)) n m

    after_tally : {z : ℤ} (t : ℕ) (l : t < length s.triangles) → IsTally (HasCounted c d e (share_point e.a e.b n m) (face t l).tri) z → IsTally (MeshAdds t) z
    after_tally {z = z} t l x = at_mesh d s (face t l) (λ a b g. IsTally (Adds c P Q a b g n m) z) (tally_of (counted_adds (face t l)) (adds_counted (face t l)) x)

  -- ---- from next to the first end
  module _ (k : ℕ) (above : IsAboveMesh Q mesh (pos k)) (n m : ℤ) (large : suc (unsigned_abs m) ≤ k) (after : pos 0 <ℤ n) (before : n <ℤ m)
      (ordinary : IsOrdinary d s (share_point e.a e.b n m)) where
    -- the near place is 1 / divisor
    abbrev pub divisor : ℤ
    divisor = pos (suc k)

    pub near : IsNear (pos k) (pos 1) divisor
    near = near_first k m large

    above_face : (t : ℕ) (i : t < length s.triangles) → IsAbove Q (on d (face t i).a) (on d (face t i).b) (on d (face t i).c) (pos k)
    above_face t i = at_face d s (face t i) (λ a b g. IsAbove Q a b g (pos k)) (above.faces t i)

    before_tally : (t x : ℕ) (i : t < length s.triangles) → IsOneWhere (IsCountedNext c d e false (face t i)) x → IsTally (MeshAdds (pos 1) divisor t) (pos x)
    before_tally t x i h =
        at_mesh d s (face t i) (λ a b g. IsTally (Adds c P Q a b g (pos 1) divisor) (pos x))
        (tally_of (adds_of_next c d e (face t i) (pos k) divisor near (above_face t i)) (next_of_adds c d e (face t i) (pos k) divisor near (above_face t i)) (one_tally x h))

    -- 1 for a side that is seen to cross, else 0
    abbrev pub crossing : ℕ → ℤ
    crossing h = tally (crosses_or P Q (mesh.from h) (mesh.to h) (pos 1) divisor n m)

    pub crossing_is : (h : ℕ) → IsTally (Crosses P Q (mesh.from h) (mesh.to h) (pos 1) divisor n m) (crossing h)
    crossing_is h = tally_is (crosses_or P Q (mesh.from h) (mesh.to h) (pos 1) divisor n m)

    -- what the pair of a side and its twin changes, if it is seen to cross
    abbrev pub change : ℕ → ℤ
    change h = change_of c (mesh.sign h -ℤ mesh.sign (mesh.twin h)) P Q (mesh.from h) (mesh.to h) *ℤ crossing h

    -- each pair once
    abbrev pub share : ℕ → ℤ
    share h = keep (nat_lt h (mesh.twin h)) (change h)

    abbrev AreGood : ℕ → Type 0
    AreGood t =
        IsClear P Q (mesh.from (3 * t)) (mesh.from (3 * t + 1)) (mesh.from (3 * t + 2)) (pos 1) divisor
        × IsClear P Q (mesh.from (3 * t)) (mesh.from (3 * t + 1)) (mesh.from (3 * t + 2)) n m
        × Passes P Q (mesh.from (3 * t)) (mesh.from (3 * t + 1)) (mesh.from (3 * t + 2))

    good : (t : ℕ) → t < length s.triangles → AreGood t
    good t i = (
      clear_face_near P Q _ _ _ (pos k) (pos 1) divisor refl refl near (above.faces t i),
      at_mesh d s (face t i) (λ a b g. IsClear P Q a b g n m) (clear_ordinary d sound.closed in_range e n m after before ordinary (face t i)),
      at_mesh d s (face t i) (λ a b g. Passes P Q a b g) (passes d directed s sound e (face t i)),
    )

    pub count_rises : (covers : List ℕ) → length covers ≡ length s.triangles
        → ((i x : ℕ) → slice_get covers i ≡ Some x → (f : Face s) → f.number ≡ i → IsOneWhere (IsCountedNext c d e false f) x)
        → (count : ℕ) → AreCounted c d e (share_point e.a e.b n m) count → pos count -ℤ pos (sum covers) ≡ sum_below share (3 * length s.triangles)
    count_rises covers long next count all =
        let r = tally_of_count s.triangles count all in
        (λ t. r.sum t -ℤ (sum_at covers ∙ ap (sum_below start) long) t)
        ∙ all_faces c P Q mesh (pos 1) divisor n m start r.tally crossing refl refl (is_mesh d s sound.closed in_range)
        near.after near.before after before (first_before k n m large after) (λ t i some. good t i)
        (λ t i. before_tally t (get_or covers t 0) i (next t (get_or covers t 0) (slice_get-get_or covers t 0 (short t i)) (face t i) refl))
        (λ t i. after_tally n m t i (r.each t (face t i).tri (face t i).listed))
        (λ h i. crossing_is h)
      where
        start : ℕ → ℤ
        start i = pos (get_or covers i 0)

        short : (t : ℕ) → t < length s.triangles → t < length covers
        short t i = subst (λ j. t < j) (sym long) i
