-- The sums of the numbers of views, over lists that grow by one.
use Rattle.std.proofs.Common.{◌≡◌, ℕ, ◌+◌, ◌*◌, ◌<◌, ◌≤◌, ◌^◌, List, [], ◌∷◌, ◌++◌, length, take, get_or, refl, ap, ◌∙◌, arith}
use Rattle.job_file.specs.declared.view.JobView.{JobView}
use Rattle.lattice.specs.declared.pieces.Crease.{Crease}
use Rattle.line_merge.proofs.Zips.{zip_more}
use Rattle.solid_mesh.specs.declared.solid.Solid.{Solid}
use Rattle.drawing.specs.Numbers.{sum_of, SumsViews}
use Rattle.view_lines.specs.Numbers.{no_numbers, plus, CountsView, AreBelow}
use Rattle.view_lines.specs.declared.numbers.ViewNumbers.{ViewNumbers}

-- each of the numbers is at most a limit
pub record AreAtMost (limit : ℕ) (n : ViewNumbers) : Type 0 where
  pub edges : n.edges ≤ limit
  pub runs : n.runs ≤ limit
  pub bound : n.bound ≤ limit
  pub tests : n.tests ≤ limit
  pub cut_bound : n.cut_bound ≤ limit
  pub cut_tests : n.cut_tests ≤ limit
  pub cell_bound : n.cell_bound ≤ limit
  pub cells : n.cells ≤ limit

pub below_of : (k : ℕ) (n : ViewNumbers) → k ≤ 12 → AreAtMost (2 ^ 48 * k) n → AreBelow (2 ^ 63) n
below_of k n few h = record {
  edges = omega (arith, h.edges);
  runs = omega (arith, h.runs);
  bound = omega (arith, h.bound);
  tests = omega (arith, h.tests);
  cut_bound = omega (arith, h.cut_bound);
  cut_tests = omega (arith, h.cut_tests);
  cell_bound = omega (arith, h.cell_bound);
  cells = omega (arith, h.cells);
}

pub wider : (n : ViewNumbers) → AreBelow (2 ^ 48) n → AreBelow (2 ^ 63) n
wider n h = record {
  edges = omega (arith, h.edges);
  runs = omega (arith, h.runs);
  bound = omega (arith, h.bound);
  tests = omega (arith, h.tests);
  cut_bound = omega (arith, h.cut_bound);
  cut_tests = omega (arith, h.cut_tests);
  cell_bound = omega (arith, h.cell_bound);
  cells = omega (arith, h.cells);
}

pub at_most_plus : (k : ℕ) (m n : ViewNumbers) → AreAtMost (2 ^ 48 * k) m → AreBelow (2 ^ 48) n → AreAtMost (2 ^ 48 * (k + 1)) (plus m n)
at_most_plus k m n h g = record {
  edges = omega (arith, h.edges, g.edges);
  runs = omega (arith, h.runs, g.runs);
  bound = omega (arith, h.bound, g.bound);
  tests = omega (arith, h.tests, g.tests);
  cut_bound = omega (arith, h.cut_bound, g.cut_bound);
  cut_tests = omega (arith, h.cut_tests, g.cut_tests);
  cell_bound = omega (arith, h.cell_bound, g.cell_bound);
  cells = omega (arith, h.cells, g.cells);
}

-- ---- sums
same_numbers : (m n : ViewNumbers) → m.edges ≡ n.edges → m.runs ≡ n.runs → m.bound ≡ n.bound → m.tests ≡ n.tests
    → m.cut_bound ≡ n.cut_bound → m.cut_tests ≡ n.cut_tests → m.cell_bound ≡ n.cell_bound → m.cells ≡ n.cells → m ≡ n
same_numbers m n edges runs bound tests cut_bound cut_tests cell_bound cells =
    λ i. record { edges = edges i; runs = runs i; bound = bound i; tests = tests i; cut_bound = cut_bound i; cut_tests = cut_tests i; cell_bound = cell_bound i; cells = cells i }

plus_none : (n : ViewNumbers) → plus no_numbers n ≡ plus n no_numbers
plus_none n = same_numbers (plus no_numbers n) (plus n no_numbers) (omega arith) (omega arith) (omega arith) (omega arith) (omega arith) (omega arith) (omega arith) (omega arith)

plus_plus : (a b c : ViewNumbers) → plus (plus a b) c ≡ plus a (plus b c)
plus_plus a b c = same_numbers (plus (plus a b) c) (plus a (plus b c)) (omega arith) (omega arith) (omega arith) (omega arith) (omega arith) (omega arith) (omega arith) (omega arith)

sum_push : (xs : List ViewNumbers) (x : ViewNumbers) → plus (sum_of xs) x ≡ sum_of (xs ++ x ∷ [])
sum_push [] x = plus_none x
sum_push (y ∷ ys) x = plus_plus y (sum_of ys) x ∙ ap (plus y) (sum_push ys x)

module _ (solid : Solid) (crease : Crease) where
  pub sums_none : SumsViews solid crease [] no_numbers
  sums_none = record { each = []; counted = tt; sum = refl }

  pub sums_more : (asked : List JobView) (k : ℕ) (view : JobView) (old here : ViewNumbers) → k < length asked → view ≡ get_or asked k view
      → SumsViews solid crease (take k asked) old → CountsView solid crease view.spec here → SumsViews solid crease (take (k + 1) asked) (plus old here)
  sums_more asked k view old here within is sums counted = record {
    each = sums.each ++ here ∷ [];
    counted = zip_more (λ v. CountsView solid crease v.spec) asked sums.each k view here within is sums.counted counted;
    sum = ap (λ (n : ViewNumbers). plus n here) sums.sum ∙ sum_push sums.each here;
  }
