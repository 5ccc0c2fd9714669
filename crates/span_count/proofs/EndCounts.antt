-- The triangles at the ends of edges, added up.
use Rattle.std.proofs.Common.{◌≡◌, ℕ, ◌+◌, ◌<◌, List, [], ◌∷◌, ◌++◌, length, take, get_or, refl, sym, subst, arith}
use Rattle.std.specs.Prelude.{sum}
use Rattle.std.specs.List.{AllZip}
use Rattle.std.proofs.lemmas.Grind.{get_or_default_zero}
use Rattle.std.proofs.lemmas.List.Sums.{sum_by_push}
use Rattle.geometry.specs.Parts.{Part}
use Rattle.solid_mesh.specs.declared.solid.Edge.{Edge}
use Rattle.solid_mesh.specs.Solids.{AreTrianglesAt, IsEdgeAt}
use Rattle.span_count.specs.Bounds.{IsEndCount}
use Rattle.integers.proofs.Lists.{front_more}
use Rattle.span_count.proofs.Lists.{all_zip_push}

-- so many triangles are at a corner
abbrev pub IsCountAt : Part → ℕ → ℕ → Type 0
IsCountAt s corner count = (triangles : List ℕ) × AreTrianglesAt s corner triangles × (count ≡ length triangles)

pub end_count : (s : Part) (halves : List ℕ) (number : ℕ) (given : Edge) (m n count : ℕ) → IsEdgeAt s halves number given → IsCountAt s given.a m → IsCountAt s given.b n
    → count ≡ m + n → IsEndCount s halves number count
end_count s halves number given m n count at (first, at_a, m_is) (second, at_b, n_is) count_is = record {
  edge = at.edge;
  numbered = at.numbered;
  at_first = first;
  at_second = second;
  first = subst (λ (corner : ℕ). AreTrianglesAt s corner first) (sym at.numbers.a) at_a;
  second = subst (λ (corner : ℕ). AreTrianglesAt s corner second) (sym at.numbers.b) at_b;
  count_is = omega (arith, m_is, n_is, count_is);
}

-- the counts of some edges, and their sum
abbrev pub IsSumOfEnds : Part → List ℕ → List ℕ → ℕ → Type 0
IsSumOfEnds s halves edges total = (ends : List ℕ) × AllZip (IsEndCount s halves) edges ends × (total ≡ sum ends)

pub ends_none : (s : Part) (halves : List ℕ) → IsSumOfEnds s halves [] 0
ends_none s halves = ([], tt, refl)

pub ends_more : (s : Part) (halves edges : List ℕ) (k here old new : ℕ) → k < length edges → IsSumOfEnds s halves (take k edges) old
    → IsEndCount s halves (get_or edges k 0) here → new ≡ old + here → IsSumOfEnds s halves (take (k + 1) edges) new
ends_more s halves edges k here old new within (ends, counted, total_is) more grown =
    let edge = get_or edges k 0 in (
      ends ++ here ∷ [],
      subst (λ (xs : List ℕ). AllZip (IsEndCount s halves) xs (ends ++ here ∷ [])) (front_more edges k edge within (get_or_default_zero edges k edge within))
          (all_zip_push (IsEndCount s halves) (take k edges) ends edge here counted more),
      omega (arith, sum_by_push (λ (x : ℕ). x) ends here, total_is, grown),
    )
