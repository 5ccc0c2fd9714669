-- How many cells the boxes of triangles have: added up one after another, and where there is one column.
use Rattle.std.proofs.Common.{◌≡◌, ◌⊎◌, inl, inr, ℕ, zero, suc, ◌+◌, ◌-◌, ◌*◌, ◌/◌, ◌%◌, ◌<◌, ◌≤◌, ◌^◌, List, [], ◌∷◌, All, Some, length, take, get_or, slice_get, refl, sym, ap, subst, ◌∙◌, arith}
use Rattle.std.specs.Prelude.{min, max}
use Rattle.std.specs.List.{sum_by}
use Rattle.std.proofs.Math.Nat.{mul-le-mul_right, mul-le-mul_left, pow-succ'}
use Rattle.std.proofs.Math.Seq.{take-length}
use Rattle.std.proofs.lemmas.Bool.{cases_lt}
use Rattle.std.proofs.lemmas.List.{get_or_past}
use Rattle.std.proofs.lemmas.List.Sums.{sum_by_push, sum_by-cons, sum_by-take-le}
use Rattle.std.proofs.lemmas.Option.{slice_get_within, get_or_from_slice_get}
use Rattle.integers.proofs.Lists.{front_more}
use Rattle.lattice.specs.declared.soup.Tri.{Tri}
use Rattle.out_grid.specs.inner.Triangles.{reach_of, box_size, box_sizes, AreRoomy}

-- ---- products
pub rows_more : (k rows : ℕ) → (k + 1) * rows ≡ (k * rows) + rows
rows_more k rows = omega arith

pub rows_rise : (k l rows : ℕ) → k ≤ l → k * rows ≤ l * rows
rows_rise k l rows h = mul-le-mul_right rows h

pub product_some : (a b : ℕ) → 1 ≤ (a + 1) * (b + 1)
product_some a b = omega (arith, rows_more a (b + 1))

pub box_small : (a b : ℕ) → a < 256 → b < 256 → (a + 1) * (b + 1) ≤ 65536
box_small a b h k = let l = rows_rise (a + 1) 256 (b + 1) (omega (arith, h)) in omega (arith, l, k)

-- the rows of the columns so far, of those from the first to the last
pub columns_none : (first rows : ℕ) → (first - first) * rows ≡ 0
columns_none first rows = let none : first - first ≡ 0 = omega arith in omega (arith, ap (λ (k : ℕ). k * rows) none)

pub columns_more : (first column rows : ℕ) → first ≤ column → ((column + 1) - first) * rows ≡ ((column - first) * rows) + rows
columns_more first column rows from =
    let one : (column + 1) - first ≡ (column - first) + 1 = omega (arith, from) in
    ap (λ (k : ℕ). k * rows) one ∙ rows_more (column - first) rows

pub columns_within : (first column last rows : ℕ) → column ≤ last → ((column - first) * rows) + rows ≤ ((last - first) + 1) * rows
columns_within first column last rows to =
    let l = rows_rise ((column - first) + 1) ((last - first) + 1) rows (omega (arith, to)) in
    omega (arith, l, rows_more (column - first) rows)

pub columns_all : (first column last rows : ℕ) → first ≤ last → column ≡ last + 1 → (column - first) * rows ≡ ((last - first) + 1) * rows
columns_all first column last rows some end = let all : column - first ≡ (last - first) + 1 = omega (arith, some, end) in ap (λ (k : ℕ). k * rows) all

-- the box between the least and the greatest columns and rows
pub box_is : (t : Tri) (n : ℕ) (cells : List ℕ) (first last low high : ℕ)
    → last ≡ max (max (get_or cells t.a 0 / n) (get_or cells t.b 0 / n)) (get_or cells t.c 0 / n) → first ≡ min (min (get_or cells t.a 0 / n) (get_or cells t.b 0 / n)) (get_or cells t.c 0 / n)
    → high ≡ max (max (get_or cells t.a 0 % n) (get_or cells t.b 0 % n)) (get_or cells t.c 0 % n) → low ≡ min (min (get_or cells t.a 0 % n) (get_or cells t.b 0 % n)) (get_or cells t.c 0 % n)
    → ((last - first) + 1) * ((high - low) + 1) ≡ box_size n cells t
box_is t n cells first last low high e f g h =
    ap (λ (m : ℕ). m * ((high - low) + 1)) (reach (get_or cells t.a 0 / n) (get_or cells t.b 0 / n) (get_or cells t.c 0 / n) first last e f)
    ∙ ap (λ (m : ℕ). reach_of (get_or cells t.a 0 / n) (get_or cells t.b 0 / n) (get_or cells t.c 0 / n) * m) (reach (get_or cells t.a 0 % n) (get_or cells t.b 0 % n) (get_or cells t.c 0 % n) low high g h)
  where
    reach : (a b c least greatest : ℕ) → greatest ≡ max (max a b) c → least ≡ min (min a b) c → (greatest - least) + 1 ≡ reach_of a b c
    reach a b c least greatest p q = ap (λ (m : ℕ). (m - least) + 1) p ∙ ap (λ (m : ℕ). (max (max a b) c - m) + 1) q

-- ---- one triangle more
module _ (n : ℕ) (cells : List ℕ) (triangles : List Tri) where
  pub sizes_more : (k : ℕ) (t : Tri) → slice_get triangles k ≡ Some t → box_sizes n cells (take (k + 1) triangles) ≡ box_sizes n cells (take k triangles) + box_size n cells t
  sizes_more k t at =
      ap (sum_by (box_size n cells)) (sym (front_more triangles k t (slice_get_within triangles k t at) (get_or_from_slice_get triangles k t t at)))
      ∙ sum_by_push (box_size n cells) (take k triangles) t

  pub sizes_front : (k : ℕ) → box_sizes n cells (take k triangles) ≤ box_sizes n cells triangles
  sizes_front k = sum_by-take-le (box_size n cells) triangles k

  pub sizes_all : (k : ℕ) → k ≡ length triangles → box_sizes n cells (take k triangles) ≡ box_sizes n cells triangles
  sizes_all k e = ap (λ (m : ℕ). box_sizes n cells (take m triangles)) e ∙ ap (box_sizes n cells) (take-length triangles)

-- ---- one column
-- all corners are in one cell
module _ (cells : List ℕ) (within : All (λ cell. cell < 1 * 1) cells) where
  in_first : (i : ℕ) → get_or cells i 0 ≡ 0
  in_first i = by (cases_lt i (length cells))
    where
      by : (i < length cells) ⊎ (length cells ≤ i) → get_or cells i 0 ≡ 0
      by (inl l) = let below = within i 0 l in omega (arith, below)
      by (inr l) = get_or_past cells i 0 l

  one_cell : (a b c : ℕ) → a ≡ 0 → b ≡ 0 → c ≡ 0 → reach_of (a / 1) (b / 1) (c / 1) * reach_of (a % 1) (b % 1) (c % 1) ≡ 1
  one_cell zero zero zero d e f = refl
  one_cell (suc a) b c d e f = absurd (omega (arith, d))
  one_cell a (suc b) c d e f = absurd (omega (arith, e))
  one_cell a b (suc c) d e f = absurd (omega (arith, f))

  one_each : (triangles : List Tri) → box_sizes 1 cells triangles ≡ length triangles
  one_each [] = refl
  one_each (t ∷ ts) =
      let here : box_size 1 cells t ≡ 1 = one_cell (get_or cells t.a 0) (get_or cells t.b 0) (get_or cells t.c 0) (in_first t.a) (in_first t.b) (in_first t.c) in
      omega (arith, sum_by-cons (box_size 1 cells) t ts, here, one_each ts)

pub roomy_in_one : (n : ℕ) (cells : List ℕ) (triangles : List Tri) → n ≡ 1 → All (λ cell. cell < n * n) cells → AreRoomy n cells triangles
roomy_in_one n cells triangles e within =
    subst (λ (m : ℕ). AreRoomy m cells triangles) (sym e) (let all = one_each cells (subst (λ (m : ℕ). All (λ cell. cell < m * m) cells) e within) triangles in omega (arith, all))

-- ---- how often cells are made larger
-- so many steps at each of eight times, of which k are left
pub record AreLeft (columns steps at_first each : ℕ) : Type 0 where
  pub k : ℕ
  pub few : k ≤ 8
  pub columns_at_most : columns ≤ 2 ^ k
  pub steps_at_most : steps ≤ at_first + (8 - k) * each

pub left_first : (columns steps at_first each : ℕ) → columns ≤ 256 → steps ≤ at_first → AreLeft columns steps at_first each
left_first columns steps at_first each few most = record { k = 8; few = omega arith; columns_at_most = few; steps_at_most = omega (arith, most) }

halved_power : (columns power : ℕ) → columns ≤ 2 * power → (columns + 1) / 2 ≤ power
halved_power columns power h = omega (arith, h)

-- one time more
one_time_more : (k each : ℕ) → suc k ≤ 8 → (8 - k) * each ≡ ((8 - suc k) * each) + each
one_time_more k each few = by (8 - suc k) (8 - k) (omega (arith, few))
  where
    by : (m l : ℕ) → l ≡ m + 1 → l * each ≡ (m * each) + each
    by m l e = ap (λ (j : ℕ). j * each) e ∙ rows_more m each

module _ (columns steps at_first each : ℕ) (left : AreLeft columns steps at_first each) where
  -- after any time there were eight times at most
  pub left_within : steps ≤ at_first + 8 * each
  left_within = let l = rows_rise (8 - left.k) 8 each (omega arith) in omega (arith, l, left.steps_at_most)

  pub left_more : 1 < columns → (next more : ℕ) → next ≡ (columns + 1) / 2 → more ≤ steps + each → AreLeft next more at_first each
  left_more above next more is grown = by left.k left.few left.columns_at_most left.steps_at_most
    where
      by : (k : ℕ) → k ≤ 8 → columns ≤ 2 ^ k → steps ≤ at_first + (8 - k) * each → AreLeft next more at_first each
      by zero few below most = absurd (omega (arith, above, below))
      by (suc k) few below most = record {
        k = k;
        few = omega (arith, few);
        columns_at_most = subst (λ (m : ℕ). m ≤ 2 ^ k) (sym is) (halved_power columns (2 ^ k) (subst (λ (m : ℕ). columns ≤ m) (pow-succ' 2 k) below));
        steps_at_most = omega (arith, one_time_more k each few, most, grown);
      }

  -- the last time nothing is made larger
  pub left_looked : 1 < columns → (more : ℕ) → more ≤ steps + each → more ≤ at_first + 8 * each
  left_looked above more grown = by left.k left.few left.columns_at_most left.steps_at_most
    where
      by : (k : ℕ) → k ≤ 8 → columns ≤ 2 ^ k → steps ≤ at_first + (8 - k) * each → more ≤ at_first + 8 * each
      by zero few below most = absurd (omega (arith, above, below))
      by (suc k) few below most = let l = rows_rise (8 - k) 8 each (omega arith) in omega (arith, one_time_more k each few, most, grown, l)

-- fewer columns have fewer cells
pub fewer_cells : (columns all : ℕ) → 1 ≤ columns → columns * columns ≤ all → ((columns + 1) / 2) * ((columns + 1) / 2) ≤ all
fewer_cells columns all some h =
    let half : (columns + 1) / 2 ≤ columns = omega (arith, some) in
    let a = mul-le-mul_right ((columns + 1) / 2) half in
    let b = mul-le-mul_left columns half in
    omega (arith, a, b, h)
