-- A point of an edge has its two counts in a cut view, as it is decided of each face whether it is counted there; and they are few.
use Rattle.std.proofs.Common.{◌≡◌, ◌≢◌, ◌⊎◌, inl, inr, ℕ, suc, ◌+◌, ◌<◌, ◌≤◌, ◌^◌, Bool, true, false, List, [], ◌∷◌, Contains, length, refl, sym, ap, subst, ◌∙◌, arith}
use Rattle.std.specs.Prelude.{ℤ, pos, ◌-ℤ◌, ◌<ℤ◌, ◌≤ℤ◌}
use Rattle.std.specs.Bool.{Decides}
use Rattle.std.proofs.lemmas.Bool.{false≢true}
use Rattle.std.proofs.lemmas.Int.{ints, by_lt_z}
use Rattle.integers.proofs.Lists.{Contains-later}
use Rattle.lattice.specs.declared.points.Corner.{Corner}
use Rattle.lattice.specs.declared.soup.Tri.{Tri}
use Rattle.lattice.specs.Triple.{Triple}
use Rattle.lattice.specs.Points.{Point, IsPoint}
use Rattle.lattice.specs.Cuts.{Plane, toward_of}
use Rattle.geometry.specs.Cuts.{IsCount, IsInSection, FaceHidesInCut}
use Rattle.geometry.specs.Cuts.IsCount.{nothing, counted, skipped}
use Rattle.geometry.specs.Faces.{facing_of, IsPointOfFace}
use Rattle.geometry.specs.Parts.{Part, Face, Edge}
use Rattle.geometry.proofs.Listed.{same_element}
use Rattle.hiding_laws.specs.CutValues.{HidesInCut, under_of}
use Rattle.hiding_laws.proofs.CutFronts.{hides-in-cut}
use Rattle.hiding_laws.proofs.Decisions.{same_or, less_or, either_or, alike_or}
use Rattle.hiding_laws.proofs.Hiding.{front_or}
use Rattle.hiding_laws.proofs.Values.{facing-turned}
use Rattle.geometry.specs.Counts.{Side, to_left, to_right, StandsOn, ReachesTo}
use Rattle.geometry.specs.Covers.{IsOneWhere}
use Rattle.cut_plane.proofs.Sections.{face_of, section_decides}
use Rattle.span_count.proofs.Lists.{count_few}
use Rattle.hiding_laws.proofs.CutCorners.{cut_hides_by_corners}
use Rattle.cut_count_laws.specs.CutCounts.{IsCutCounted, HasCutCounted, AreCutCounted}
use Rattle.cut_count_laws.proofs.Laws.{HasCornersInRange}
use Rattle.cut_count_laws.proofs.AddsDecided.{both_or}

-- ---- counts of a list
module _ {A : Type 0} (P : A → Type 0) where
  -- it is enough that it is decided of each element
  count_within : (xs : List A) → ((x : A) → Contains xs x → P x ⊎ ¬ P x) → (n : ℕ) × IsCount A P xs n
  count_within [] decide = (0, nothing)
  count_within (x ∷ xs) decide =
      let rest = count_within xs (λ y there. decide y (Contains-later x xs y there)) in
      elim (decide x (0, omega arith, refl)) as (λ _. (n : ℕ) × IsCount A P (x ∷ xs) n) [
        | inl p ↦ (suc rest.0, counted x xs rest.0 p rest.1)
        | inr p ↦ (rest.0, skipped x xs rest.0 p rest.1)
      ]

-- ---- a face at a point
module _ (c : Plane) (p : Point) (point : IsPoint p) where
  abbrev d : Triple
  d = toward_of c

  front_in_cut_or : (i j l : Corner) → pos 0 <ℤ facing_of d i j l → HidesInCut c i j l p ⊎ ¬ HidesInCut c i j l p
  front_in_cut_or i j l front =
      let exact = hides-in-cut c i j l p point front in
      alike_or _ _ exact.1 exact.0 (both_or _ _ (front_or d p point i j l front) (less_or (pos 0) (under_of c i j l p)))

  hides_in_cut_or : {s : Part} (f : Face s) → facing_of d f.a f.b f.c ≢ pos 0 → FaceHidesInCut c f p ⊎ ¬ FaceHidesInCut c f p
  hides_in_cut_or f turned =
      by_lt_z (pos 0) (facing_of d f.a f.b f.c)
      (λ h. let same = cut_hides_by_corners c f f.a f.b f.c p (inl (refl, refl, refl)) in alike_or _ _ same.1 same.0 (front_in_cut_or f.a f.b f.c h))
      (λ h. let same = cut_hides_by_corners c f f.a f.c f.b p (inr (refl, refl, refl)) in alike_or _ _ same.1 same.0 (front_in_cut_or f.a f.c f.b (other _ _ (facing-turned d f.a f.b f.c) h turned)))
    where
      other : (x y : ℤ) → x ≡ pos 0 -ℤ y → y ≤ℤ pos 0 → ¬ (y ≡ pos 0) → pos 0 <ℤ x
      other x y e h n = omega (arith, ints)

module _ (k : Side) (c : Plane) {s : Part} (e : Edge s) where
  stands_or : (k : Side) (a b l : Corner) → StandsOn k (toward_of c) a b l ⊎ ¬ StandsOn k (toward_of c) a b l
  stands_or to_left a b l = less_or _ _
  stands_or to_right a b l = less_or _ _

  reaches_or : (f : Face s) → ReachesTo k (toward_of c) e f ⊎ ¬ ReachesTo k (toward_of c) e f
  reaches_or f = either_or _ _ (stands_or k e.a e.b f.a) (either_or _ _ (stands_or k e.a e.b f.b) (stands_or k e.a e.b f.c))

  module _ (p : Point) (point : IsPoint p) where
    counted_or : (f : Face s) → IsCutCounted k c e p f ⊎ ¬ IsCutCounted k c e p f
    counted_or f = by (same_or (facing_of (toward_of c) f.a f.b f.c) (pos 0)) (reaches_or f)
      where
        at : facing_of (toward_of c) f.a f.b f.c ≢ pos 0 → ReachesTo k (toward_of c) e f → (FaceHidesInCut c f p ⊎ ¬ FaceHidesInCut c f p) → IsCutCounted k c e p f ⊎ ¬ IsCutCounted k c e p f
        at turned reaches (inl hides) = inl (record { turned = turned; hides = hides; reaches = reaches })
        at turned reaches (inr n) = inr (λ h. n h.hides)

        by : ((facing_of (toward_of c) f.a f.b f.c ≡ pos 0) ⊎ ¬ (facing_of (toward_of c) f.a f.b f.c ≡ pos 0)) → (ReachesTo k (toward_of c) e f ⊎ ¬ ReachesTo k (toward_of c) e f) → IsCutCounted k c e p f ⊎ ¬ IsCutCounted k c e p f
        by (inl level) r = inr (λ h. h.turned level)
        by (inr turned) (inr n) = inr (λ h. n h.reaches)
        by (inr turned) (inl reaches) = at turned reaches (hides_in_cut_or c p point f turned)

    -- what is counted of a face is counted of each with the same triangle
    same_counted : (f g : Face s) → g.tri ≡ f.tri → IsCutCounted k c e p g → IsCutCounted k c e p f
    same_counted f g same x =
        let a : g.a ≡ f.a = same_element s.corners g.tri.a f.tri.a g.a f.a (ap (λ (t : Tri). t.a) same) g.at_a f.at_a in
        let b : g.b ≡ f.b = same_element s.corners g.tri.b f.tri.b g.b f.b (ap (λ (t : Tri). t.b) same) g.at_b f.at_b in
        let l : g.c ≡ f.c = same_element s.corners g.tri.c f.tri.c g.c f.c (ap (λ (t : Tri). t.c) same) g.at_c f.at_c in
        let moved = λ (X : Corner → Corner → Corner → Type 0) (y : X g.a g.b g.c). subst (λ (z : Corner). X z f.b f.c) a (subst (λ (z : Corner). X g.a z f.c) b (subst (λ (z : Corner). X g.a g.b z) l y)) in
        let h : FaceHidesInCut c g p = x.hides in
        record {
          turned = moved (λ u v w. facing_of (toward_of c) u v w ≢ pos 0) x.turned;
          hides = record { point = h.point; on_face = moved (λ u v w. IsPointOfFace u v w h.point) h.on_face; beyond = h.beyond; same_sight = h.same_sight; nearer = h.nearer };
          reaches = moved (λ u v w. StandsOn k (toward_of c) e.a e.b u ⊎ StandsOn k (toward_of c) e.a e.b v ⊎ StandsOn k (toward_of c) e.a e.b w) x.reaches;
        }

    module _ (in_range : HasCornersInRange s) where
      has_counted_or : (t : Tri) → Contains s.triangles t → HasCutCounted k c e p t ⊎ ¬ HasCutCounted k c e p t
      has_counted_or t there =
          let (f, is) = face_of s in_range t there in
          alike_or (IsCutCounted k c e p f) (HasCutCounted k c e p t) (λ x. (f, is, x)) (λ h. same_counted f h.0 (h.1 ∙ sym is) h.2) (counted_or f)

      section_one : (n : ℕ) × IsOneWhere (IsInSection c s p) n
      section_one = by _ (section_decides c s in_range e.a p point)
        where
          by : (b : Bool) → Decides b (IsInSection c s p) → (n : ℕ) × IsOneWhere (IsInSection c s p) n
          by true decides = (1, inl (refl, decides.0 refl))
          by false decides = (0, inr (refl, λ h. false≢true (decides.1 h)))

      -- the point has its count
      pub counts_in_cut : (n : ℕ) × AreCutCounted k c e p n
      counts_in_cut =
          let faces = count_within (HasCutCounted k c e p) s.triangles has_counted_or in
          let section = section_one in
          (faces.0 + section.0, record { faces = faces.0; section = section.0; counted = faces.1; inside = section.1; together = refl })

-- at most one more than the part has triangles
pub counts_in_cut_few : (k : Side) (c : Plane) {s : Part} (e : Edge s) (p : Point) (n : ℕ) → AreCutCounted k c e p n → length s.triangles ≤ 20000 → n < 2 ^ 32
counts_in_cut_few k c {s} e p n are few = by n are.faces are.section (length s.triangles) are.together (count_few s.triangles are.faces are.counted) few are.inside
  where
    by : (n f i t : ℕ) → n ≡ f + i → f ≤ t → t ≤ 20000 → IsOneWhere (IsInSection c s p) i → n < 2 ^ 32
    by n f i t e h l (inl (one, within)) = omega arith
    by n f i t e h l (inr (none, outside)) = omega arith
