-- Whether an odd number of segments are to the right of a point, counted one by one.
use Rattle.std.proofs.Common.{◌≡◌, ◌↔◌, ℕ, suc, ◌%◌, Bool, true, false, not, List, [], ◌∷◌, ◌++◌, refl, arith}
use Rattle.std.specs.Prelude.{IsTrue}
use Rattle.lattice.specs.Triple.{Triple}
use Rattle.lattice.specs.Points.{Point}
use Rattle.geometry.specs.Cuts.{IsCount, nothing}
use Rattle.cut_plane.specs.declared.segments.Segment.{Segment}
use Rattle.cut_plane.specs.Sides.{IsRightOf}
use Rattle.cut_plane.proofs.Counting.{count_push, count_pass}
use Rattle.cut_plane.proofs.Lists.{not_true}

pub record IsOddCount (d : Triple) (p : Point) (xs : List Segment) (odd : Bool) : Type 0 where
  pub n : ℕ
  pub count : IsCount Segment (λ x. IsRightOf d x p) xs n
  pub told : IsTrue odd ↔ (n % 2 ≡ 1)

module _ (d : Triple) (p : Point) where
  pub odd_none : IsOddCount d p [] false
  odd_none = record { n = 0; count = nothing; told = ((λ h. cc), (λ h. absurd (omega arith))) }

  -- one more segment to the right
  pub odd_more : (xs : List Segment) (x : Segment) (odd : Bool) → IsOddCount d p xs odd → IsRightOf d x p → IsOddCount d p (xs ++ x ∷ []) (not odd)
  odd_more xs x odd h right = record { n = suc h.n; count = count_push xs x h.n h.count right; told = by odd h.told }
    where
      by : (odd : Bool) → IsTrue odd ↔ (h.n % 2 ≡ 1) → IsTrue (not odd) ↔ (suc h.n % 2 ≡ 1)
      by true told = let e = told.0 refl in ((λ t. cc), (λ k. absurd (omega arith)))
      by false told = ((λ t. flips h.n (λ e. not_true false refl (told.1 e))), (λ k. refl))
        where
          flips : (n : ℕ) → ¬ (n % 2 ≡ 1) → suc n % 2 ≡ 1
          flips n h = omega arith

  -- one that is not
  pub odd_same : (xs : List Segment) (x : Segment) (odd : Bool) → IsOddCount d p xs odd → ¬ IsRightOf d x p → IsOddCount d p (xs ++ x ∷ []) odd
  odd_same xs x odd h other = record { n = h.n; count = count_pass xs x h.n h.count other; told = h.told }
