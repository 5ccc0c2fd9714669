-- The spans of edges, added up one after another.
use Rattle.std.proofs.Common.{◌≡◌, ℕ, ◌+◌, ◌-◌, ◌/◌, ◌<◌, ◌≤◌, List, length, get_or, take, sum, ap, ◌∙◌, arith}
use Rattle.std.proofs.lemmas.List.Elements.{length_all_zip, AllZip-get_or}
use Rattle.std.proofs.lemmas.List.{take_more}
use Rattle.std.proofs.lemmas.List.Sums.{sum_by_push, sum_by-take-le}
use Rattle.std.specs.List.{AllZip}
use Rattle.lattice.specs.Triple.{Triple}
use Rattle.geometry.specs.Parts.{Part, Edge, IsNumbered}
use Rattle.out_grid.specs.Bounds.{IsSpanAt}
use Rattle.out_grid.specs.Cells.{Raster}
use Rattle.out_grid.specs.inner.Courses.{Course, IsCourse, first_column, last_column, span_of}
use Rattle.out_grid.specs.inner.Places.{IsCourseOf, IsInside}
use Rattle.out_grid.proofs.Spans.{span_is}

front_more : (xs : List ℕ) (k : ℕ) → k < length xs → sum (take (k + 1) xs) ≡ sum (take k xs) + get_or xs k 0
front_more xs k h = ap (λ (ys : List ℕ). sum ys) (take_more xs k 0 h) ∙ sum_by_push (λ (x : ℕ). x) (take k xs) (get_or xs k 0)

pub front_below : (xs : List ℕ) (k : ℕ) → sum (take k xs) ≤ sum xs
front_below xs k = sum_by-take-le (λ (x : ℕ). x) xs k

-- at most 255 columns and 255 rows after the first
pub span_small : (c : Course) (n : ℕ) → IsInside n c → n ≤ 256 → span_of c ≤ 511
span_small c n h few = small (first_column c) (last_column c) (c.from_v / c.height) (c.to_v / c.height) h.last h.from h.to
  where
    small : (a b x y : ℕ) → b < n → x < n → y < n → (b - a) + ((x - y) + (y - x)) + 1 ≤ 511
    small a b x y hb hx hy = omega arith

module _ (d : Triple) (r : Raster) (s : Part) (halves xs spans : List ℕ) (zip : AllZip (IsSpanAt d r s halves) xs spans) (k : ℕ) (inside : k < length xs)
    (c : Course) (is : IsCourse c) (of : (e : Edge s) → IsNumbered halves (get_or xs k 0) e → IsCourseOf d r e.a e.b c) where
  this : get_or spans k 0 ≡ span_of c
  this =
      let h = AllZip-get_or (IsSpanAt d r s halves) xs spans k 0 0 zip inside in
      span_is d r h.edge.a h.edge.b c is (of h.edge h.numbered) (get_or spans k 0) h.is_span

  -- with its span, those before are a front of the spans
  pub counted_more : sum (take (k + 1) spans) ≡ sum (take k spans) + span_of c
  counted_more =
      let long = length_all_zip (IsSpanAt d r s halves) xs spans zip in
      front_more spans k (omega (arith, long, inside)) ∙ ap (λ (n : ℕ). sum (take k spans) + n) this

  pub counted_in_all : sum (take k spans) + span_of c ≤ sum spans
  counted_in_all = let all = front_below spans (k + 1) in omega (arith, all, counted_more)
