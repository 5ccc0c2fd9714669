-- The borders that cross an edge, and whether an odd number are ahead of an end of it, one segment after the other.
use Rattle.std.proofs.Common.{◌≡◌, ◌↔◌, ℕ, suc, ◌%◌, Bool, true, false, List, [], ◌∷◌, ◌++◌, Option, Some, None, refl, sym, subst, ◌∙◌, arith}
use Rattle.std.specs.Prelude.{IsTrue}
use Rattle.intervals.specs.declared.interval.Interval.{Interval}
use Rattle.exact_frac.specs.declared.Frac.{Frac}
use Rattle.lattice.specs.declared.points.Corner.{Corner}
use Rattle.lattice.specs.Triple.{Triple}
use Rattle.lattice.specs.Points.{of_spot}
use Rattle.lattice.specs.Cuts.{Plane}
use Rattle.geometry.specs.Cuts.{nothing}
use Rattle.geometry.specs.Parts.{Part, Edge}
use Rattle.geometry.specs.Counts.{Side}
use Rattle.cut_plane.specs.declared.segments.Segment.{Segment}
use Rattle.cut_plane.proofs.Counting.{count_push, count_pass}
use Rattle.cut_plane.proofs.Lists.{not_true}
use Rattle.cut_plane.proofs.Xors.{xor, xor-none}
use Rattle.span_count.proofs.Lists.{all_zip_push}
use Rattle.span_count.proofs.Sums.{some_push, none_push}
use Rattle.cut_count.specs.declared.found.CrossingBorder.{CrossingBorder}
use Rattle.cut_count.specs.inner.Borders.{IsAhead}
use Rattle.cut_count.specs.inner.Walks.{IsBorderAnswer, AreFound, IsOddAhead}

-- ---- those that are found
module _ (c : Plane) {s : Part} (e : Edge s) (part : Interval Frac) where
  pub found_first : (found : List CrossingBorder) → found ≡ [] → AreFound c e part [] found
  found_first found none = record { answers = []; each = tt; all = none }

  pub found_more : (segments : List Segment) (x : Segment) (found more : List CrossingBorder) (y : CrossingBorder) (answer : Option CrossingBorder) → answer ≡ Some y → more ≡ found ++ y ∷ []
      → IsBorderAnswer c e part x answer → AreFound c e part segments found → AreFound c e part (segments ++ x ∷ []) more
  found_more segments x found more y answer is grown here h = record {
    answers = h.answers ++ Some y ∷ [];
    each = all_zip_push (IsBorderAnswer c e part) segments h.answers x (Some y) h.each (subst (λ (o : Option CrossingBorder). IsBorderAnswer c e part x o) is here);
    all = grown ∙ some_push h.answers found y h.all;
  }

  pub found_same : (segments : List Segment) (x : Segment) (found more : List CrossingBorder) (answer : Option CrossingBorder) → answer ≡ None → more ≡ found
      → IsBorderAnswer c e part x answer → AreFound c e part segments found → AreFound c e part (segments ++ x ∷ []) more
  found_same segments x found more answer is grown here h = record {
    answers = h.answers ++ None ∷ [];
    each = all_zip_push (IsBorderAnswer c e part) segments h.answers x None h.each (subst (λ (o : Option CrossingBorder). IsBorderAnswer c e part x o) is here);
    all = grown ∙ none_push h.answers found h.all;
  }

-- ---- those that are ahead
module _ (k : Side) (at_b : Bool) (d : Triple) (a b : Corner) where
  abbrev Ahead : Segment → Type 0
  Ahead x = IsAhead k at_b d a b (of_spot x.a) (of_spot x.b)

  pub odd_first : IsOddAhead k at_b d a b [] false
  odd_first = (0, nothing, ((λ h. cc), (λ h. absurd (omega arith))))

  pub odd_more : (segments : List Segment) (x : Segment) (odd here next : Bool) → IsTrue here ↔ Ahead x → next ≡ xor odd here
      → IsOddAhead k at_b d a b segments odd → IsOddAhead k at_b d a b (segments ++ x ∷ []) next
  odd_more segments x odd true next ahead is (n, count, told) = (suc n, count_push segments x n count (ahead.0 refl), subst (λ (v : Bool). IsTrue v ↔ (suc n % 2 ≡ 1)) (sym is) (by odd told))
    where
      by : (v : Bool) → IsTrue v ↔ (n % 2 ≡ 1) → IsTrue (xor v true) ↔ (suc n % 2 ≡ 1)
      by true told = let e = told.0 refl in ((λ t. cc), (λ h. absurd (omega arith)))
      by false told = ((λ t. flips n (λ e. not_true false refl (told.1 e))), (λ h. refl))
        where
          flips : (n : ℕ) → ¬ (n % 2 ≡ 1) → suc n % 2 ≡ 1
          flips n h = omega arith
  odd_more segments x odd false next ahead is (n, count, told) =
      (n, count_pass segments x n count (λ h. not_true false refl (ahead.1 h)), subst (λ (v : Bool). IsTrue v ↔ (n % 2 ≡ 1)) (sym (is ∙ xor-none odd)) told)
