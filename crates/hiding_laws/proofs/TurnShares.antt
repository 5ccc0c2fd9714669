-- In a turn about a corner the pair of a side and its twin changes a count by the share of their edge.
use Rattle.std.proofs.Common.{◌≡◌, ◌≢◌, ◌⊎◌, inl, inr, ℕ, ◌<◌, List, [], ◌∷◌, All, AllPairs, Contains, length, nat_lt, false, refl, sym, ap, subst, ◌∙◌}
use Rattle.std.specs.Prelude.{ℤ, pos, ◌-ℤ◌, ◌*ℤ◌}
use Rattle.std.specs.List.{AllZip}
use Rattle.integers.proofs.Ring.{var, con, ◌⊖◌, ◌⊗◌, ring}
use Rattle.lattice.specs.Triangles.{IsBelow as IsTriBelow}
use Rattle.lattice.specs.Triple.{Triple, IsZero}
use Rattle.geometry.specs.Parts.{Part, Edge, AreEdges, IsNumbered}
use Rattle.geometry.specs.Sound.{IsSound}
use Rattle.geometry.specs.Views.{face_sign, IsOutline}
use Rattle.hiding_laws.proofs.Screens.{Screen, SideCovers}
use Rattle.hiding_laws.proofs.Decisions.{same_or}
use Rattle.geometry.specs.Counts.{Side}
use Rattle.geometry.specs.Covers.{IsOneWhere}
use Rattle.geometry.specs.Turns.{Way, perturbed, IsNearerOver, PassesEnd, HasTurned}
use Rattle.geometry.specs.Turns.HasTurned.{over, not_over}
use Rattle.hiding_laws.proofs.CornerLaws.{way, EndPasses, IsFineTurn}
use Rattle.hiding_laws.proofs.Meshes.{Mesh}
use Rattle.hiding_laws.specs.inner.Tallies.{IsTally}
use Rattle.hiding_laws.specs.Sums.{total}
use Rattle.hiding_laws.proofs.SumsBelow.{sum_below, keep}
use Rattle.hiding_laws.proofs.CornerEnds.{own_first, own_second, end_or, end_seen, covers_of_over, over_of_covers}
use Rattle.hiding_laws.proofs.EdgePasses.{same_or_not}
use Rattle.hiding_laws.proofs.EdgeShares.{lower_true, edges_total}
use Rattle.hiding_laws.proofs.FineMesh.{IsFineMesh}
use Rattle.hiding_laws.proofs.HalfFaces.{edge_of, starts_seen, ends_seen}
use Rattle.hiding_laws.proofs.MeshCounts.{tally, tally_is, one_tally}
use Rattle.hiding_laws.proofs.MeshOfPart.{count, mesh_of, twin_of, corner_seen, corner-seen, face_sign_seen}
use Rattle.hiding_laws.proofs.OneFace.{none_tally}
use Rattle.hiding_laws.proofs.Seen.{on}
use Rattle.hiding_laws.proofs.Sides.{tally_of, same_tally}

-- ---- the corner is the first end of e; the turn goes from q to r, as they are seen
module _ (d : Triple) (directed : ¬ IsZero d) (s : Part) (sound : IsSound s) (in_range : All (IsTriBelow (length s.corners)) s.triangles) (e : Edge s) (c c' : Side) (q r : Screen) (k : ℕ) where
  abbrev O : Screen
  O = on d e.a

  abbrev pub mesh : Mesh
  mesh = mesh_of d s sound.closed

  abbrev X : Way
  X = perturbed c (pos k) (way O q)

  abbrev Y : Way
  Y = perturbed c' (pos k) (way O r)

  -- 1 for an end of a side that the turn passes, else 0
  abbrev pub starts : ℕ → ℤ
  starts h = tally (end_or O (mesh.from h) (mesh.to h) (mesh.from h) X Y refl)

  abbrev pub ends : ℕ → ℤ
  ends h = tally (end_or O (mesh.from h) (mesh.to h) (mesh.to h) X Y refl)

  pub starts_is : (h : ℕ) → IsTally (EndPasses O (mesh.from h) (mesh.to h) (mesh.from h) X Y) (starts h)
  starts_is h = tally_is (end_or O (mesh.from h) (mesh.to h) (mesh.from h) X Y refl)

  pub ends_is : (h : ℕ) → IsTally (EndPasses O (mesh.from h) (mesh.to h) (mesh.to h) X Y) (ends h)
  ends_is h = tally_is (end_or O (mesh.from h) (mesh.to h) (mesh.to h) X Y refl)

  -- what a side and its twin change, each pair once
  abbrev pub share : ℕ → ℤ
  share h = keep (nat_lt h (mesh.twin h)) ((mesh.sign h -ℤ mesh.sign (mesh.twin h)) *ℤ (ends h -ℤ starts h))

  module _ (fine : IsFineMesh O q r mesh (pos k)) where
    -- ---- one pair
    module _ (h : ℕ) (l : h < count s) where
      abbrev o : Edge s
      o = edge_of d directed s sound in_range h l

      from_is : mesh.from h ≡ on d o.a
      from_is = starts_seen d directed s sound in_range h l

      to_is : mesh.to h ≡ on d o.b
      to_is = ends_seen d directed s sound in_range h l

      abbrev HasTurnedHere : ℤ → Type 0
      HasTurnedHere z = HasTurned d e.m e.a c (way O q) c' (way O r) o z

      shared_is : h < twin_of s sound.closed h → share h ≡ (face_sign d o.left -ℤ face_sign d o.right) *ℤ (ends h -ℤ starts h)
      shared_is low = λ t. keep (lower_true h (twin_of s sound.closed h) low t) ((face_sign_seen d s o.left t -ℤ face_sign_seen d s o.right t) *ℤ (ends h -ℤ starts h))

      -- where the edge passes over the corner
      module _ (p : IsNearerOver d e.m e.a o) where
        covers : SideCovers (mesh.from h) (mesh.to h) O
        covers = subst (λ w. SideCovers w (mesh.to h) O) (sym from_is) (subst (λ w. SideCovers (on d o.a) w O) (sym to_is) (covers_of_over d o e.m e.a p))

        fine_start : IsFineTurn (pos k) (way O q) (way O (on d o.a)) (way O r)
        fine_start = subst (λ w. IsFineTurn (pos k) (way O q) (way O w) (way O r)) from_is (fine.turns h l).0

        fine_end : IsFineTurn (pos k) (way O q) (way O (on d o.b)) (way O r)
        fine_end = subst (λ w. IsFineTurn (pos k) (way O q) (way O w) (way O r)) to_is (fine.turns h l).1

        first_is : (first : ℕ) → IsOneWhere (PassesEnd d e.a c (way O q) c' (way O r) o.a) first → pos first ≡ starts h
        first_is first t =
            let x = end_seen d e.a o.a c c' (way O q) (way O r) (mesh.from h) (mesh.to h) (pos k) fine_start covers in
            same_tally (subst (λ w. IsTally (EndPasses O (mesh.from h) (mesh.to h) w X Y) (pos first)) (sym from_is) (tally_of x.0 x.1 (one_tally first t))) (starts_is h)

        second_is : (second : ℕ) → IsOneWhere (PassesEnd d e.a c (way O q) c' (way O r) o.b) second → pos second ≡ ends h
        second_is second t =
            let x = end_seen d e.a o.b c c' (way O q) (way O r) (mesh.from h) (mesh.to h) (pos k) fine_end covers in
            same_tally (subst (λ w. IsTally (EndPasses O (mesh.from h) (mesh.to h) w X Y) (pos second)) (sym to_is) (tally_of x.0 x.1 (one_tally second t))) (ends_is h)

      -- where it does not, no end is passed
      quiet : ¬ IsNearerOver d e.m e.a o → (¬ EndPasses O (mesh.from h) (mesh.to h) (mesh.from h) X Y) × (¬ EndPasses O (mesh.from h) (mesh.to h) (mesh.to h) X Y)
      quiet n = by (same_or_not o.m e.m) (same_or_not o.n e.m)
        where
          at_corner : (m : ℕ) → m ≡ e.m → corner_seen d s m ≡ O
          at_corner m same = ap (corner_seen d s) same ∙ corner-seen d s e.m e.a e.at_m

          by : (o.m ≡ e.m) ⊎ ¬ (o.m ≡ e.m) → (o.n ≡ e.m) ⊎ ¬ (o.n ≡ e.m) → (¬ EndPasses O (mesh.from h) (mesh.to h) (mesh.from h) X Y) × (¬ EndPasses O (mesh.from h) (mesh.to h) (mesh.to h) X Y)
          by (inl f) g = own_first O (mesh.from h) (mesh.to h) X Y refl (at_corner o.m f)
          by (inr f) (inl g) = own_second O (mesh.from h) (mesh.to h) X Y refl (at_corner o.n g)
          by (inr f) (inr g) =
              let none = λ (v : SideCovers (mesh.from h) (mesh.to h) O). n (over_of_covers d o e.m e.a f g (subst (λ w. SideCovers (on d o.a) w O) to_is (subst (λ w. SideCovers w (mesh.to h) O) from_is v))) in
              (λ v. none v.0, λ v. none v.0)

      none_passed : h < twin_of s sound.closed h → ¬ IsNearerOver d e.m e.a o → share h ≡ pos 0
      none_passed low n =
          let x = quiet n in
          shared_is low ∙ (λ t. (face_sign d o.left -ℤ face_sign d o.right) *ℤ (none_tally x.1 (ends_is h) t -ℤ none_tally x.0 (starts_is h) t)) ∙ nothing (face_sign d o.left -ℤ face_sign d o.right)
        where
          nothing : (x : ℤ) → x *ℤ (pos 0 -ℤ pos 0) ≡ pos 0
          nothing x = ring (x ∷ []) (var 0 ⊗ (con (pos 0) ⊖ con (pos 0))) (con (pos 0)) refl

      has_turned : {z : ℤ} → h < twin_of s sound.closed h → HasTurnedHere z → z ≡ share h
      has_turned low (over p first second f g) = (λ t. (face_sign d o.left -ℤ face_sign d o.right) *ℤ (second_is p second g t -ℤ first_is p first f t)) ∙ sym (shared_is low)
      has_turned low (not_over n) = sym (none_passed low n)

      -- an edge that is not an outline changes nothing
      no_outline : h < twin_of s sound.closed h → face_sign d o.left ≡ face_sign d o.right → share h ≡ pos 0
      no_outline low same = shared_is low ∙ none (face_sign d o.left) (face_sign d o.right) (ends h -ℤ starts h) same
        where
          none : (p q y : ℤ) → p ≡ q → (p -ℤ q) *ℤ y ≡ pos 0
          none p q y e = ap (λ v. (v -ℤ q) *ℤ y) e ∙ ring (q ∷ y ∷ []) ((var 0 ⊖ var 0) ⊗ var 1) (con (pos 0)) refl

      -- nor does one that is no outline or does not pass over the corner
      none_turned : h < twin_of s sound.closed h → ¬ (IsOutline d o × IsNearerOver d e.m e.a o) → share h ≡ pos 0
      none_turned low n = elim (same_or (face_sign d o.left) (face_sign d o.right)) [ inl same ↦ no_outline low same | inr outline ↦ none_passed low (λ p. n (outline, p)) ]

    not_lower : (h : ℕ) → nat_lt h (twin_of s sound.closed h) ≡ false → share h ≡ pos 0
    not_lower h f = ap (λ b. keep b ((mesh.sign h -ℤ mesh.sign (mesh.twin h)) *ℤ (ends h -ℤ starts h))) f

    -- a list of edges that has each outline which passes over the corner
    pub shared_total : (halves : List ℕ) → AreEdges s halves → (numbers : List ℕ) → All (λ i. i < length halves) numbers → AllPairs ◌≢◌ numbers
        → ((i : ℕ) (o : Edge s) → IsNumbered halves i o → IsOutline d o → IsNearerOver d e.m e.a o → Contains numbers i)
        → {A : Type 0} (value : A → ℤ) (changes : List A)
        → AllZip (λ i x. (o : Edge s) → IsNumbered halves i o → HasTurned d e.m e.a c (way O q) c' (way O r) o (value x)) numbers changes → sum_below share (count s) ≡ total value changes
    shared_total halves edges numbers listed once whole value changes all =
        edges_total d directed s sound in_range share not_lower (λ o. IsOutline d o × IsNearerOver d e.m e.a o) none_turned
        (λ o z. HasTurned d e.m e.a c (way O q) c' (way O r) o z) (λ h l z low x. has_turned h l low x) halves edges numbers listed once
        (λ i o at x. whole i o at x.0 x.1) value changes all
