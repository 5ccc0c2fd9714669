-- The first triangle with a directed side of an earlier one.
use Rattle.std.proofs.Common.{◌≡◌, ℕ, zero, suc, ◌*◌, ◌/◌, ◌%◌, ◌<◌, ◌≤◌, ◌⊎◌, inl, inr, All, length, get_or, refl, sym, subst, ap, ◌∙◌, arith}
use Rattle.std.specs.List.{IsDistinct}
use Rattle.std.proofs.lemmas.Bool.{cases_lt}
use Rattle.std.proofs.lemmas.Option.{slice_get-get_or}
use Rattle.lattice.specs.declared.soup.Tri.{Tri}
use Rattle.lattice.specs.Triangles.{IsBelow}
use Rattle.geometry.specs.Faces.{IsFlat}
use Rattle.geometry.specs.Parts.{Part, Face, HasNoFlatTriangle, start_of}
use Rattle.geometry.proofs.EachEdge.{flat_face}
use Rattle.geometry.proofs.Listed.{face_at}
use Rattle.solid_mesh.specs.declared.faults.MeshFault.TheVariants.{SameWay}
use Rattle.solid_mesh.specs.declared.sides.DirectedSide.{DirectedSide}
use Rattle.solid_mesh.specs.Faults.{ShareSide, SharesEarlier, HasFault}
use Rattle.solid_mesh.specs.inner.Halves.{triangle_at, start_at, end_at, side_at, first_sides}
use Rattle.solid_mesh.proofs.FirstFound.{first_is_least}
use Rattle.solid_mesh.proofs.HalfLemmas.{half_between}
use Rattle.solid_mesh.proofs.SideLemmas.{same_side, sides_apart, one_side}

-- the sides of a triangle that isn't flat begin at different corners
pub starts_differ : (s : Part) (f : Face s) → (IsFlat f.a f.b f.c → ⊥) → (i j : ℕ) → i < j → j < 3 → start_of f.tri i ≡ start_of f.tri j → ⊥
starts_differ s f sound zero zero less within e = omega arith
starts_differ s f sound zero (suc zero) less within e = sound (flat_face s f 0 e)
starts_differ s f sound zero (suc (suc j)) less within e = sound (flat_face s f 2 (sym e))
starts_differ s f sound (suc zero) zero less within e = omega arith
starts_differ s f sound (suc zero) (suc zero) less within e = omega arith
starts_differ s f sound (suc zero) (suc (suc j)) less within e = sound (flat_face s f 1 e)
starts_differ s f sound (suc (suc i)) j less within e = omega arith

-- two halves with one side are of two triangles that share it
pub share_side : (s : Part) (half other : ℕ) → half < 3 * length s.triangles → other < 3 * length s.triangles → side_at s.triangles half ≡ side_at s.triangles other → ShareSide s (half / 3) (other / 3)
share_side s half other h g e = record {
  half = half;
  other = other;
  m = start_at s.triangles other;
  n = end_at s.triangles other;
  goes = half_between s half _ _ h (ap (λ (x : DirectedSide). x.from) e) (ap (λ (x : DirectedSide). x.to) e);
  goes_too = half_between s other _ _ g refl refl;
  of_first = refl;
  of_second = refl;
}

-- the lesser of two triangles shares a side, if either does
pub still_shares : (s : Part) (first now second half : ℕ) → half / 3 ≡ second → now ≤ first → (now < first → ShareSide s now (half / 3)) → (first < second → ShareSide s first second) → now < second → ShareSide s now second
still_shares s first now second half third low here before less = by (cases_lt now first)
  where
    by : ((now < first) ⊎ (first ≤ now)) → ShareSide s now second
    by (inl lower) = subst (ShareSide s now) third (here lower)
    by (inr more) = let same : first ≡ now = omega arith in subst (λ i. ShareSide s i second) same (before (omega arith))

module _ (s : Part) (in_range : All (IsBelow (length s.corners)) s.triangles) (none_flat : HasNoFlatTriangle s) where
  -- a lower half with the same side is of an earlier triangle
  pub earlier_triangle : (half other : ℕ) → other < half → half < 3 * length s.triangles → side_at s.triangles other ≡ side_at s.triangles half → other / 3 < half / 3
  earlier_triangle half other less within e = by (cases_lt (other / 3) (half / 3))
    where
      by : ((other / 3 < half / 3) ⊎ (half / 3 ≤ other / 3)) → other / 3 < half / 3
      by (inl lower) = lower
      by (inr same) =
          let one : other / 3 ≡ half / 3 = omega arith in
          let first : other % 3 < half % 3 = omega arith in
          let none : Tri = record { a = 0; b = 0; c = 0 } in
          let f = face_at s in_range (triangle_at s.triangles half) (half / 3) (slice_get-get_or s.triangles (half / 3) none (omega arith)) in
          absurd (starts_differ s f (none_flat f) (other % 3) (half % 3) first (omega arith)
          (ap (λ (k : ℕ). start_of (get_or s.triangles k none) (other % 3)) (sym one) ∙ ap (λ (x : DirectedSide). x.from) e))

  -- the second triangle is the one at whose half a side first occurs again; the first is the least of those that share a side with it
  pub same_way : (half : ℕ) → half < 3 * length s.triangles → IsDistinct same_side (first_sides s.triangles half)
      → ((other : ℕ) × (other < half) × (side_at s.triangles other ≡ side_at s.triangles half))
      → (first : ℕ) → ((i : ℕ) → SharesEarlier s (half / 3) i → first ≤ i) → (first < half / 3 → ShareSide s first (half / 3)) → HasFault s (SameWay first (half / 3))
  same_way half within distinct (other, less, e) first least shares =
      let before : other / 3 < half / 3 = earlier_triangle half other less within e in
      let low : first ≤ other / 3 = least (other / 3) (before, share_side s other half (omega arith) within e) in
      let there : SharesEarlier s (half / 3) first = (omega arith, shares (omega arith)) in (
        none_flat,
        first_is_least (λ j. (i : ℕ) × SharesEarlier s j i) (half / 3) (first, there) (λ j lower (i, (before, share)).
            sides_apart s.triangles half distinct share.half share.other (omega (arith, share.of_first, share.of_second)) (omega (arith, share.of_second))
            (one_side s share.half share.other share.m share.n share.goes share.goes_too)),
        record { holds = there; least = least },
      )
