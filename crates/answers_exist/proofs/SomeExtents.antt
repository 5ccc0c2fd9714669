-- A part with a corner reaches so far in each view.
use Rattle.std.proofs.Common.{◌≡◌, ◌⊎◌, inl, inr, zero, suc, ◌<◌, ◌≤◌, ◌^◌, Bool, true, false, ◌&&◌, if◌then◌else◌, List, [], ◌∷◌, All, Any, refl, subst, arith}
use Rattle.std.specs.Prelude.{ℤ, pos, negsuc, neg_ℤ, ◌-ℤ◌, ◌≤ℤ◌, unsigned_abs}
use Rattle.std.specs.Ordering.{int_eq}
use Rattle.std.proofs.lemmas.Int.{ints}
use Rattle.std.proofs.lemmas.List.Elements.{All-nil, All-cons, All-weaker}
use Rattle.integers.proofs.Worth.{below_of}
use Rattle.lattice.specs.declared.pieces.ViewSpec.{ViewSpec}
use Rattle.lattice.specs.declared.pieces.ViewSpec.TheVariants.{Plain, Section}
use Rattle.lattice.specs.declared.points.Axis.{Axis}
use Rattle.lattice.specs.declared.points.Axis.TheVariants.{X, Y, Z}
use Rattle.lattice.specs.declared.points.Corner.{Corner}
use Rattle.lattice.specs.declared.points.Dir.{Dir}
use Rattle.lattice.specs.Cuts.{side_of}
use Rattle.lattice.specs.Points.{of_dir, of_corner, point_of, across_of, upward_of}
use Rattle.lattice.specs.Triple.{Triple, dot, right_axis, up_axis, IsWithin}
use Rattle.lattice.proofs.VectorSizes.{dot_reads, cross_within, wider}
use Rattle.job_file.specs.declared.view.JobView.{JobView}
use Rattle.job_file.specs.Seen.{direction_seen}
use Rattle.sheet_plan.specs.declared.bounds.Extent.{Extent}
use Rattle.sheet_plan.specs.Extents.{IsLeast, IsGreatest, IsExtent, AreExtents}
use Rattle.answers_exist.proofs.Decided.{Sign, sign_of}

-- ---- the least and the greatest value
ordered_by : (m n : ℤ) → Sign (n -ℤ m) → (m ≤ℤ n) ⊎ (n ≤ℤ m)
ordered_by m n (inl less) = inr (omega (arith, ints, less))
ordered_by m n (inr (inl same)) = inl (omega (arith, ints, same))
ordered_by m n (inr (inr more)) = inl (omega (arith, ints, more))

at_most_or_least : (m n : ℤ) → (m ≤ℤ n) ⊎ (n ≤ℤ m)
at_most_or_least m n = ordered_by m n (sign_of (n -ℤ m))

turned : (m n : ℤ) → (m ≤ℤ n) ⊎ (n ≤ℤ m) → (n ≤ℤ m) ⊎ (m ≤ℤ n)
turned m n (inl h) = inr h
turned m n (inr h) = inl h

at_most_itself : (m : ℤ) → m ≤ℤ m
at_most_itself m = omega (arith, ints)

at_most_both : (a b c : ℤ) → a ≤ℤ b → b ≤ℤ c → a ≤ℤ c
at_most_both a b c h k = omega (arith, ints, h, k)

module _ {A : Type 0} (R : ℤ → ℤ → Type 0) (itself : (m : ℤ) → R m m) (both : (a b c : ℤ) → R a b → R b c → R a c) (either : (m n : ℤ) → R m n ⊎ R n m) (f : A → ℤ) where
  -- a value of f, which all others are so related to
  abbrev Extreme : List A → Type 0
  Extreme xs = (m : ℤ) × (Any (λ x. f x ≡ m) xs × All (λ x. R m (f x)) xs)

  behind : (x : A) (xs : List A) (m : ℤ) → Any (λ y. f y ≡ m) xs → Any (λ y. f y ≡ m) (x ∷ xs)
  behind x xs m (k, y, less, e, p) = (suc k, y, omega (arith, less), e, p)

  extreme : (x : A) (xs : List A) → Extreme (x ∷ xs)
  extreme x [] = (f x, ((0, x, omega arith, refl, refl), All-cons (λ y. R (f x) (f y)) x [] (itself (f x)) (All-nil (λ y. R (f x) (f y)))))
  extreme x (y ∷ ys) = by (extreme y ys)
    where
      at : (m : ℤ) → Any (λ z. f z ≡ m) (y ∷ ys) → All (λ z. R m (f z)) (y ∷ ys) → R (f x) m ⊎ R m (f x) → Extreme (x ∷ y ∷ ys)
      at m reached bound (inl h) =
          (f x, ((0, x, omega arith, refl, refl), All-cons (λ z. R (f x) (f z)) x (y ∷ ys) (itself (f x)) (All-weaker (λ z. R m (f z)) (λ z. R (f x) (f z)) (λ z k. both (f x) m (f z) h k) (y ∷ ys) bound)))
      at m reached bound (inr h) = (m, (behind x (y ∷ ys) m reached, All-cons (λ z. R m (f z)) x (y ∷ ys) h bound))

      by : Extreme (y ∷ ys) → Extreme (x ∷ y ∷ ys)
      by (m, (reached, bound)) = at m reached bound (either (f x) m)

module _ {A : Type 0} (f : A → ℤ) (x : A) (xs : List A) where
  some_least : (m : ℤ) × IsLeast f (x ∷ xs) m
  some_least = let (m, (reached, bound)) = extreme (λ a b. a ≤ℤ b) at_most_itself at_most_both at_most_or_least f x xs in (m, record { reached = reached; bound = bound })

  some_greatest : (m : ℤ) × IsGreatest f (x ∷ xs) m
  some_greatest =
      let (m, (reached, bound)) = extreme (λ a b. b ≤ℤ a) at_most_itself (λ a b c h k. at_most_both c b a k h) (λ a b. turned a b (at_most_or_least a b)) f x xs in
      (m, record { reached = reached; bound = bound })

module _ {A : Type 0} (f : A → ℤ) (xs : List A) where
  least_first : (m n : ℤ) → IsLeast f xs m → IsGreatest f xs n → m ≤ℤ n
  least_first m n a b =
      let (k, x, less, e, p) = b.reached in
      subst (λ (z : ℤ). m ≤ℤ z) p (subst (λ y. m ≤ℤ f y) e (a.bound k x less))

  value_such : (P : ℤ → Type 0) → ((x : A) → P (f x)) → (m : ℤ) → Any (λ x. f x ≡ m) xs → P m
  value_such P each m (k, x, less, e, p) = subst P p (each x)

-- ---- the directions of views
side_direction : (axis : Axis) (high : Bool) → (d : Dir) × (of_dir d ≡ side_of axis high)
side_direction X true = (record { x = pos 1; y = pos 0; z = pos 0; x_in_range = omega arith; y_in_range = omega arith; z_in_range = omega arith; not_zero = omega arith }, refl)
side_direction X false = (record { x = negsuc 0; y = pos 0; z = pos 0; x_in_range = omega arith; y_in_range = omega arith; z_in_range = omega arith; not_zero = omega arith }, refl)
side_direction Y true = (record { x = pos 0; y = pos 1; z = pos 0; x_in_range = omega arith; y_in_range = omega arith; z_in_range = omega arith; not_zero = omega arith }, refl)
side_direction Y false = (record { x = pos 0; y = negsuc 0; z = pos 0; x_in_range = omega arith; y_in_range = omega arith; z_in_range = omega arith; not_zero = omega arith }, refl)
side_direction Z true = (record { x = pos 0; y = pos 0; z = pos 1; x_in_range = omega arith; y_in_range = omega arith; z_in_range = omega arith; not_zero = omega arith }, refl)
side_direction Z false = (record { x = pos 0; y = pos 0; z = negsuc 0; x_in_range = omega arith; y_in_range = omega arith; z_in_range = omega arith; not_zero = omega arith }, refl)

some_direction : (spec : ViewSpec) → (d : Dir) × (of_dir d ≡ direction_seen spec)
some_direction (Plain d) = (d, refl)
some_direction (Section c) = side_direction c.axis c.from_high

-- ---- sizes
turned_size : (z : ℤ) → unsigned_abs z ≤ 9 → unsigned_abs (neg_ℤ z) ≤ 9
turned_size (pos zero) h = omega arith
turned_size (pos (suc n)) h = omega (arith, h)
turned_size (negsuc n) h = omega (arith, h)

right_by : (d : Triple) (b : Bool) → IsWithin 9 d → IsWithin 9 (if b then record { x = pos 1; y = pos 0; z = pos 0 } else record { x = neg_ℤ d.y; y = d.x; z = pos 0 })
right_by d true h = record { x = omega arith; y = omega arith; z = omega arith }
right_by d false h = record { x = turned_size d.y h.y; y = h.x; z = omega arith }

right_within : (d : Triple) → IsWithin 9 d → IsWithin 9 (right_axis d)
right_within d h = right_by d (int_eq d.x (pos 0) && int_eq d.y (pos 0)) h

up_within : (d : Triple) → IsWithin 9 d → IsWithin 162 (up_axis d)
up_within d h = cross_within 9 9 d (right_axis d) h (right_within d h)

dir_within : (d : Dir) → IsWithin 9 (of_dir d)
dir_within d = record { x = d.x_in_range; y = d.y_in_range; z = d.z_in_range }

reach_size : (axis : Triple) (c : Corner) → IsWithin 162 axis → unsigned_abs (dot axis (of_corner c)) < 2 ^ 29
reach_size axis c h = below_of (2 ^ 29) (dot_reads 162 (2 ^ 20) axis (of_corner c) h (record { x = c.x_in_range; y = c.y_in_range; z = c.z_in_range })) tt

-- ---- extents
module _ (c : Corner) (cs : List Corner) where
  extent_from : (d : Dir) → (e : Extent) × IsExtent (of_dir d) (c ∷ cs) e
  extent_from d =
      let t = of_dir d in
      let across = λ (k : Corner). across_of t (point_of k) in
      let upward = λ (k : Corner). upward_of t (point_of k) in
      let across_small = λ (k : Corner). reach_size (right_axis t) k (wider (right_axis t) (right_within t (dir_within d))) in
      let upward_small = λ (k : Corner). reach_size (up_axis t) k (up_within t (dir_within d)) in
      let Small = λ (z : ℤ). unsigned_abs z < 2 ^ 29 in
      let (left, leftmost) = some_least across c cs in
      let (right, rightmost) = some_greatest across c cs in
      let (low, lowest) = some_least upward c cs in
      let (top, topmost) = some_greatest upward c cs in (
        record {
          d = d;
          u_min = left;
          u_max = right;
          v_min = low;
          v_max = top;
          across = least_first across (c ∷ cs) left right leftmost rightmost;
          upward = least_first upward (c ∷ cs) low top lowest topmost;
          u_min_in_range = value_such across (c ∷ cs) Small across_small left leftmost.reached;
          u_max_in_range = value_such across (c ∷ cs) Small across_small right rightmost.reached;
          v_min_in_range = value_such upward (c ∷ cs) Small upward_small low lowest.reached;
          v_max_in_range = value_such upward (c ∷ cs) Small upward_small top topmost.reached;
        },
        record { direction = refl; leftmost = leftmost; rightmost = rightmost; lowest = lowest; topmost = topmost },
      )

  some_extent : (spec : ViewSpec) → (e : Extent) × IsExtent (direction_seen spec) (c ∷ cs) e
  some_extent spec = let (d, same) = some_direction spec in subst (λ (t : Triple). (e : Extent) × IsExtent t (c ∷ cs) e) same (extent_from d)

  -- the corners reach so far in each of the views
  pub some_extents : (views : List JobView) → (extents : List Extent) × AreExtents (c ∷ cs) views extents
  some_extents [] = ([], tt)
  some_extents (v ∷ vs) = let (e, first) = some_extent v.spec in let (es, others) = some_extents vs in (e ∷ es, (first, others))
