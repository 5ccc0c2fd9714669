-- The spans of edges, added up.
use Rattle.std.proofs.Common.{◌≡◌, ℕ, ◌+◌, ◌<◌, List, [], ◌∷◌, ◌++◌, length, take, get_or, refl, subst, arith}
use Rattle.std.specs.Prelude.{sum}
use Rattle.std.specs.List.{AllZip}
use Rattle.std.proofs.lemmas.Grind.{get_or_default_zero}
use Rattle.std.proofs.lemmas.List.Sums.{sum_by_push}
use Rattle.integers.proofs.Lists.{front_more}
use Rattle.lattice.specs.Triple.{Triple}
use Rattle.geometry.specs.Parts.{Part, Edge, IsNumbered}
use Rattle.solid_mesh.specs.declared.solid.Solid.{Solid}
use Rattle.solid_mesh.specs.Solids.{solid_part, edge_halves}
use Rattle.solid_mesh.proofs.Facts.{edge_there}
use Rattle.span_count.proofs.Lists.{all_zip_push}
use Rattle.out_grid.specs.Bounds.{IsSpanAt}
use Rattle.out_grid.specs.Cells.{Raster}
use Rattle.out_grid.specs.inner.Courses.{Course, IsCourse, span_of}
use Rattle.out_grid.specs.inner.Places.{IsCourseOf}
use Rattle.out_grid.proofs.Spans.{has_span}

-- the course of an edge of the solid has its span
pub span_at : (d : Triple) (r : Raster) (solid : Solid) (number : ℕ) (c : Course) → IsCourse c → number < length (edge_halves solid)
    → ((e : Edge (solid_part solid)) → IsNumbered (edge_halves solid) number e → IsCourseOf d r e.a e.b c) → IsSpanAt d r (solid_part solid) (edge_halves solid) number (span_of c)
span_at d r solid number c course within along =
    let there = edge_there solid number within in
    record { edge = there.0; numbered = there.1; is_span = has_span d r (there.0).a (there.0).b c course (along there.0 there.1) }

-- the spans of some edges, and their sum
abbrev pub IsSumOfSpans : Triple → Raster → Part → List ℕ → List ℕ → ℕ → Type 0
IsSumOfSpans d r s halves edges total = (spans : List ℕ) × AllZip (IsSpanAt d r s halves) edges spans × (total ≡ sum spans)

module _ (d : Triple) (r : Raster) (s : Part) (halves : List ℕ) where
  pub spans_none : IsSumOfSpans d r s halves [] 0
  spans_none = ([], tt, refl)

  pub spans_more : (edges : List ℕ) (k here old new : ℕ) → k < length edges → IsSumOfSpans d r s halves (take k edges) old → IsSpanAt d r s halves (get_or edges k 0) here
      → new ≡ old + here → IsSumOfSpans d r s halves (take (k + 1) edges) new
  spans_more edges k here old new within (spans, are, total_is) more grown =
      let edge = get_or edges k 0 in (
        spans ++ here ∷ [],
        subst (λ (xs : List ℕ). AllZip (IsSpanAt d r s halves) xs (spans ++ here ∷ [])) (front_more edges k edge within (get_or_default_zero edges k edge within))
            (all_zip_push (IsSpanAt d r s halves) (take k edges) spans edge here are more),
        omega (arith, sum_by_push (λ (x : ℕ). x) spans here, total_is, grown),
      )
