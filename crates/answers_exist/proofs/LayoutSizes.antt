-- How large the numbers of a layout are.
use Rattle.std.proofs.Common.{◌≡◌, ◌⊎◌, inl, inr, ℕ, zero, suc, ◌+◌, ◌*◌, ◌/◌, ◌<◌, ◌≤◌, ◌^◌, Bool, true, false, if◌then◌else◌, List, [], ◌∷◌, All, length, take, Option, Some, None, refl, arith, mul-le-mul}
use Rattle.std.specs.Prelude.{ℤ, pos, ◌+ℤ◌, ◌-ℤ◌, ◌*ℤ◌, ◌≤ℤ◌, ◌<ℤ◌, unsigned_abs, nat_le}
use Rattle.std.specs.Int.{int_max}
use Rattle.std.proofs.lemmas.Bool.{leb-true, cases_lt}
use Rattle.std.proofs.lemmas.Int.{ints, clamps}
use Rattle.std.proofs.lemmas.List.Elements.{All-nil, All-cons}
use Rattle.std.proofs.Math.Nat.{div-le_self}
use Rattle.integers.proofs.Comparisons.{twice_positive}
use Rattle.integers.proofs.Floors.{floor_of-is}
use Rattle.integers.proofs.Sizes.{abs_times}
use Rattle.lattice.specs.Points.{of_dir}
use Rattle.lattice.specs.Triple.{right_axis, up_axis}
use Rattle.job_file.specs.declared.view.JobView.{JobView}
use Rattle.job_file.specs.declared.view.Principal.{Principal}
use Rattle.job_file.specs.declared.view.Principal.TheVariants.{Front, Back, Left, Right, Above, Below}
use Rattle.sheet_plan.specs.declared.bounds.Extent.{Extent}
use Rattle.sheet_plan.specs.Layout.{gap, margin, cell_of, shape_of, shapes_of, is_in_row, is_in_column, is_lower, lower_part_of, greatest, total, row_stride, column_stride, lower_strides, sum_below, cell_x, cell_y}
use Rattle.sheet_plan.specs.Numbers.{root_up_to, root_of, shortening_of, square_of, Measure, sheet_length}
use Rattle.sheet_plan.specs.inner.Sizes.{IsSmall, IsStride}
use Rattle.sheet_plan.proofs.CellNames.{in_grid}
use Rattle.sheet_plan.proofs.Ordered.{length_ordered}
use Rattle.sheet_plan.proofs.Rounding.{rounded_size, power_bounds, divisor_bounds}

-- ---- lengths on a sheet
root_by : (n m : ℕ) (b : Bool) → nat_le (suc m * suc m) n ≡ b → root_up_to n m * root_up_to n m ≤ n → (if b then suc m else root_up_to n m) * (if b then suc m else root_up_to n m) ≤ n
root_by n m true e below = leb-true (suc m * suc m) n e
root_by n m false e below = below

root_below : (n m : ℕ) → root_up_to n m * root_up_to n m ≤ n
root_below n zero = omega arith
root_below n (suc m) = root_by n m (nat_le (suc m * suc m) n) refl (root_below n m)

root_small : (n : ℕ) → n ≤ 10 ^ 18 → root_of n ≤ 10 ^ 9
unfolding root_of
root_small n h = by (cases_lt (10 ^ 9) (root_up_to n n))
  where
    by : (10 ^ 9 < root_up_to n n) ⊎ (root_up_to n n ≤ 10 ^ 9) → root_up_to n n ≤ 10 ^ 9
    by (inl large) = let square = root_below n n in let more : 10 ^ 9 + 1 ≤ root_up_to n n = omega (arith, large) in let least : (10 ^ 9 + 1) * (10 ^ 9 + 1) ≤ root_up_to n n * root_up_to n n = mul-le-mul more more in absurd (omega (arith, square, least, h))
    by (inr small) = small

shortening_small : (q : ℕ) → shortening_of q ≤ 10 ^ 9
shortening_small q = root_small (10 ^ 18 / q) (div-le_self (10 ^ 18) q)

factor_small : (num s : ℕ) → num ≤ 50 → s ≤ 10 ^ 9 → unsigned_abs (pos (100 * num * s)) ≤ 2 ^ 43
factor_small num s h k = let first : 100 * num ≤ 100 * 50 = omega (arith, h) in let product : 100 * num * s ≤ 100 * 50 * 10 ^ 9 = mul-le-mul first k in omega (arith, product)

divisor_positive : (n : ℕ) → 10 ^ 9 ≤ n → pos 0 <ℤ (pos n *ℤ pos 1)
divisor_positive n h = omega (arith, ints, h)

divisor_least : (n : ℕ) → 10 ^ 9 ≤ n → 10 ^ 9 ≤ unsigned_abs (pos n *ℤ pos 1)
divisor_least n h = omega (arith, ints, h)

twice_small : (f n : ℤ) → unsigned_abs f ≤ 2 ^ 43 → unsigned_abs n < 2 ^ 29 → unsigned_abs (pos 2 *ℤ (f *ℤ n)) ≤ 2 ^ 75
twice_small f n h k = let product = abs_times f n (2 ^ 43) (2 ^ 29) h (omega (arith, k)) in let twice = abs_times (pos 2) (f *ℤ n) 2 (2 ^ 43 * 2 ^ 29) (omega arith) product in omega (arith, twice)

module _ (m : Measure) (num_most : m.num ≤ 50) (den_least : 1 ≤ m.den) (den_most : m.den ≤ 100) (few : m.decimals ≤ 6) where
  length_small : (q : ℕ) (n : ℤ) → unsigned_abs n < 2 ^ 29 → unsigned_abs (sheet_length m q n (pos 1)) ≤ 2 ^ 45
  length_small q n h =
      let f : ℤ = pos (100 * m.num * shortening_of q) in
      let divisor = (divisor_bounds m.den (10 ^ (9 + m.decimals)) den_least den_most (power_bounds m.decimals few)).least in
      let positive = divisor_positive (m.den * 10 ^ (9 + m.decimals)) divisor in
      rounded_size (sheet_length m q n (pos 1)) (pos 2 *ℤ (f *ℤ n)) (pos (m.den * 10 ^ (9 + m.decimals)) *ℤ pos 1) positive (divisor_least (m.den * 10 ^ (9 + m.decimals)) divisor)
      (twice_small f n (factor_small m.num (shortening_of q) num_most (shortening_small q)) h) (floor_of-is _ _ (twice_positive _ positive))

  gap_small : (a b : ℤ) → unsigned_abs a ≤ 2 ^ 45 → unsigned_abs b ≤ 2 ^ 45 → (b -ℤ a) ≤ℤ pos (2 ^ 46)
  gap_small a b h k = omega (arith, ints, h, k)

  gap_least : (a b : ℤ) → a ≤ℤ b → pos 0 ≤ℤ (b -ℤ a)
  gap_least a b h = omega (arith, ints, h)

  -- ---- shapes

  pub shape_small : (third : Bool) (v : JobView) (e : Extent) → IsSmall (shape_of third m v e)
  shape_small third v e =
      let r = square_of (right_axis (of_dir e.d)) in
      let u = square_of (up_axis (of_dir e.d)) in
      let left = length_small r e.u_min e.u_min_in_range in
      let right = length_small r e.u_max e.u_max_in_range in
      let low = length_small u e.v_min e.v_min_in_range in
      let top = length_small u e.v_max e.v_max_in_range in
      record {
        cell = in_grid third v.named;
        left = left;
        top = top;
        width_least = gap_least (sheet_length m r e.u_min (pos 1)) (sheet_length m r e.u_max (pos 1)) (length_ordered m r e.u_min e.u_max den_least den_most few e.across);
        width_greatest = gap_small (sheet_length m r e.u_min (pos 1)) (sheet_length m r e.u_max (pos 1)) left right;
        height_least = gap_least (sheet_length m u e.v_min (pos 1)) (sheet_length m u e.v_max (pos 1)) (length_ordered m u e.v_min e.v_max den_least den_most few e.upward);
        height_greatest = gap_small (sheet_length m u e.v_min (pos 1)) (sheet_length m u e.v_max (pos 1)) low top;
      }

  pub shapes_small : (third : Bool) (vs : List JobView) (es : List Extent) → All IsSmall (shapes_of third m vs es)
  shapes_small third [] es = All-nil IsSmall
  shapes_small third (v ∷ vs) [] = All-nil IsSmall
  shapes_small third (v ∷ vs) (e ∷ es) = All-cons IsSmall (shape_of third m v e) (shapes_of third m vs es) (shape_small third v e) (shapes_small third vs es)

-- ---- strides
-- what is so of all functions and lists of things of which P is true
abbrev ForLists : {C : Type 0} → (C → Type 0) → ((C → ℤ) → List C → Type 0) → Type 0
ForLists {C} P Q = (f : C → ℤ) (xs : List C) → ((x : C) → P x → IsStride (f x)) → All P xs → Q f xs

greater_stride : (a b : ℤ) → IsStride a → IsStride b → IsStride (int_max a b)
greater_stride a b h k = record { least = omega (arith, ints, clamps, h.least, k.least); greatest = omega (arith, ints, clamps, h.greatest, k.greatest) }

greatest_stride : ForLists IsSmall (λ f xs. IsStride (greatest f xs))
greatest_stride f [] each small = record { least = omega (arith, ints); greatest = omega (arith, ints) }
greatest_stride f (x ∷ xs) each small = greater_stride (f x) (greatest f xs) (each x (small 0 x (omega arith))) (greatest_stride f xs each (λ k d less. small (suc k) d (omega (arith, less))))

-- n numbers of such a size
record IsSum (n : ℕ) (z : ℤ) : Type 0 where
  least : pos 0 ≤ℤ z
  most : z ≤ℤ pos (n * 2 ^ 47)

no_sum : IsSum 0 (pos 0)
no_sum = record { least = omega (arith, ints); most = omega (arith, ints) }

first_sum : (n : ℕ) (a z : ℤ) → IsStride a → IsSum n z → IsSum (suc n) (a +ℤ z)
first_sum n a z h k = record { least = omega (arith, ints, h.least, k.least); most = omega (arith, ints, h.greatest, k.most) }

last_sum : (n : ℕ) (a z : ℤ) → IsStride a → IsSum n z → IsSum (suc n) (z +ℤ a)
last_sum n a z h k = record { least = omega (arith, ints, h.least, k.least); most = omega (arith, ints, h.greatest, k.most) }

total_sum : ForLists IsSmall (λ f xs. IsSum (length xs) (total f xs))
total_sum f [] each small = no_sum
total_sum f (x ∷ xs) each small = first_sum (length xs) (f x) (total f xs) (each x (small 0 x (omega arith))) (total_sum f xs each (λ k d less. small (suc k) d (omega (arith, less))))

below_sum : (f : ℕ → ℤ) → ((k : ℕ) → IsStride (f k)) → (n : ℕ) → IsSum n (sum_below f n)
below_sum f each zero = no_sum
below_sum f each (suc n) = last_sum n (f n) (sum_below f n) (each n) (below_sum f each n)

stride_if : (stands : Bool) (z : ℤ) → pos 0 ≤ℤ z → z ≤ℤ pos (2 ^ 46) → IsStride (if stands then z +ℤ gap else pos 0)
stride_if true z h k = record { least = omega (arith, ints, h); greatest = omega (arith, ints, k) }
stride_if false z h k = record { least = omega (arith, ints); greatest = omega (arith, ints) }

-- ---- where cells are
abbrev IsPlaceNumber : ℤ → Type 0
IsPlaceNumber z = unsigned_abs z < 2 ^ 53

margin_small : (n : ℕ) (z : ℤ) → n ≤ 12 → IsSum n z → IsPlaceNumber (margin +ℤ z)
margin_small n z h k = omega (arith, ints, h, k.least, k.most)

abbrev ForList : {C : Type 0} → (C → Type 0) → (List C → Type 0) → Type 0
ForList {C} P Q = (xs : List C) → All P xs → Q xs

rows_small : ForList IsSmall (λ shapes. (row : ℕ) → IsStride (row_stride shapes row))
rows_small shapes small row = greatest_stride _ shapes (λ s h. stride_if (is_in_row row s.cell) s.height h.height_least h.height_greatest) small

columns_small : ForList IsSmall (λ shapes. (column : ℕ) → IsStride (column_stride shapes column))
columns_small shapes small column = greatest_stride _ shapes (λ s h. stride_if (is_in_column column s.cell) s.width h.width_least h.width_greatest) small

lower_small : ForList IsSmall (λ shapes. IsSum (length shapes) (lower_strides shapes))
lower_small shapes small = total_sum lower_part_of shapes (λ s h. stride_if (is_lower s.cell) s.width h.width_least h.width_greatest) small

column_place : ForList IsSmall (λ shapes. (column : ℕ) → column ≤ 12 → IsPlaceNumber (margin +ℤ sum_below (column_stride shapes) column))
column_place shapes small column h = margin_small column _ h (below_sum (column_stride shapes) (columns_small shapes small) column)

row_place : ForList IsSmall (λ shapes. (row : ℕ) → row ≤ 12 → IsPlaceNumber (margin +ℤ sum_below (row_stride shapes) row))
row_place shapes small row h = margin_small row _ h (below_sum (row_stride shapes) (rows_small shapes small) row)

-- how far from the left and from above the i-th view's cell is
pub x_small : ForList IsSmall (λ shapes. (third : Bool) (named : Option Principal) (i : ℕ) → length (take i shapes) ≤ 12 → All IsSmall (take i shapes) → IsPlaceNumber (cell_x shapes i (cell_of third named)))
x_small shapes small third None i few taken = margin_small _ _ few (lower_small (take i shapes) taken)
x_small shapes small third (Some Front) i few taken = column_place shapes small 1 (omega arith)
x_small shapes small third (Some Back) i few taken = column_place shapes small 3 (omega arith)
x_small shapes small false (Some Above) i few taken = column_place shapes small 1 (omega arith)
x_small shapes small true (Some Above) i few taken = column_place shapes small 1 (omega arith)
x_small shapes small false (Some Below) i few taken = column_place shapes small 1 (omega arith)
x_small shapes small true (Some Below) i few taken = column_place shapes small 1 (omega arith)
x_small shapes small false (Some Left) i few taken = column_place shapes small 2 (omega arith)
x_small shapes small true (Some Left) i few taken = column_place shapes small 0 (omega arith)
x_small shapes small false (Some Right) i few taken = column_place shapes small 0 (omega arith)
x_small shapes small true (Some Right) i few taken = column_place shapes small 2 (omega arith)

pub y_small : ForList IsSmall (λ shapes. (third : Bool) (named : Option Principal) → IsPlaceNumber (cell_y shapes (cell_of third named)))
y_small shapes small third None = row_place shapes small 3 (omega arith)
y_small shapes small third (Some Front) = row_place shapes small 1 (omega arith)
y_small shapes small third (Some Back) = row_place shapes small 1 (omega arith)
y_small shapes small false (Some Above) = row_place shapes small 2 (omega arith)
y_small shapes small true (Some Above) = row_place shapes small 0 (omega arith)
y_small shapes small false (Some Below) = row_place shapes small 0 (omega arith)
y_small shapes small true (Some Below) = row_place shapes small 2 (omega arith)
y_small shapes small false (Some Left) = row_place shapes small 1 (omega arith)
y_small shapes small true (Some Left) = row_place shapes small 1 (omega arith)
y_small shapes small false (Some Right) = row_place shapes small 1 (omega arith)
y_small shapes small true (Some Right) = row_place shapes small 1 (omega arith)
