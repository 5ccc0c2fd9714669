-- Where two lists first do not belong together, going through both at once.
use Rattle.std.proofs.Common.{◌≡◌, ℕ, ◌+◌, ◌<◌, ◌≤◌, ◌⊎◌, inl, inr, List, [], ◌∷◌, ◌++◌, length, take, slice_get, get_or, Option, Some, None, sym, ap, subst, ◌∙◌, arith}
use Rattle.std.specs.Prelude.{min}
use Rattle.std.proofs.Math.Nat.{min-le_left, min-le_right, min-eq_left, min-eq_right}
use Rattle.std.proofs.lemmas.Bool.{cases_lt}
use Rattle.std.specs.List.{AllZip}
use Rattle.std.proofs.lemmas.List.{take_more, take_all}
use Rattle.std.proofs.lemmas.Option.{slice_get_past, slice_get-get_or}
use Rattle.integers.proofs.Lists.{some_element}
use Rattle.lattice.specs.declared.pieces.Piece.{Piece}
use Rattle.lattice.specs.Triple.{Triple}
use Rattle.line_merge.proofs.Zips.{zip_more}
use Rattle.piece_verify.specs.Stands.{StandsFor, AgreeAt}
use Rattle.piece_verify.specs.declared.line.Entry.{Entry}
use Rattle.piece_verify.specs.inner.Comparing.{IsFirstUnlike}

longer : (m n k : ℕ) → k ≤ m → k ≤ n → m ≤ k → (m ≡ n → ⊥) → k < n
longer m n k in_first in_second no_more differ = by (cases_lt k n)
  where
    by : (k < n) ⊎ (n ≤ k) → k < n
    by (inl less) = less
    by (inr at_most) = absurd (differ (omega (arith, in_first, in_second, no_more, at_most)))

-- the lesser of two numbers
pub record IsLesser (k m n : ℕ) : Type 0 where
  pub first : k ≤ m
  pub second : k ≤ n
  pub one : (m ≤ k) ⊎ (n ≤ k)

abbrev pub lesser : (k m n : ℕ) → k ≡ min m n → IsLesser k m n
lesser k m n is = record {
  first = subst (λ (x : ℕ). x ≤ m) (sym is) (min-le_left m n);
  second = subst (λ (x : ℕ). x ≤ n) (sym is) (min-le_right m n);
  one = by (cases_lt m n);
}
  where
    by : (m < n) ⊎ (n ≤ m) → (m ≤ k) ⊎ (n ≤ k)
    by (inl less) = let low : m ≤ n = omega (arith, less) in let e : k ≡ m = is ∙ min-eq_left low in inl (omega (arith, e))
    by (inr at_most) = let e : k ≡ n = is ∙ min-eq_right at_most in inr (omega (arith, e))

module _ (d : Triple) (given : List Entry) (pieces : List Piece) where
  -- one more of each
  pub more : (k : ℕ) (e : Entry) (l : Piece) → k < length given → k < length pieces → e ≡ get_or given k e → l ≡ get_or pieces k l
      → AllZip (StandsFor d) (take k given) (take k pieces) → StandsFor d e l → AllZip (StandsFor d) (take (k + 1) given) (take (k + 1) pieces)
  more k e l in_given in_pieces is_e is_l so_far stands =
      subst (λ (ps : List Piece). AllZip (StandsFor d) (take (k + 1) given) ps)
      (ap (λ (x : Piece). take k pieces ++ x ∷ []) is_l ∙ sym (take_more pieces k l in_pieces))
      (zip_more (StandsFor d) given (take k pieces) k e l in_given is_e so_far stands)

  at_given : (k : ℕ) (e : Entry) → k < length given → e ≡ get_or given k e → slice_get given k ≡ Some e
  at_given k e within is = slice_get-get_or given k e within ∙ ap Some (sym is)

  at_pieces : (k : ℕ) (l : Piece) → k < length pieces → l ≡ get_or pieces k l → slice_get pieces k ≡ Some l
  at_pieces k l within is = slice_get-get_or pieces k l within ∙ ap Some (sym is)

  -- the first two that do not belong together
  pub unlike : (k : ℕ) (e : Entry) (l : Piece) → k < length given → k < length pieces → e ≡ get_or given k e → l ≡ get_or pieces k l
      → AllZip (StandsFor d) (take k given) (take k pieces) → ¬ StandsFor d e l → IsFirstUnlike d given pieces k
  unlike k e l in_given in_pieces is_e is_l so_far never = record {
    within = omega (arith, in_given);
    agrees = so_far;
    lacks = λ agree. never (subst (λ (o : Option Entry). AgreeAt d o (Some l)) (at_given k e in_given is_e) (subst (λ (o : Option Piece). AgreeAt d (slice_get given k) o) (at_pieces k l in_pieces is_l) agree));
  }

  -- all of both
  pub alike : (k : ℕ) → length given ≡ length pieces → length given ≤ k → AllZip (StandsFor d) (take k given) (take k pieces) → AllZip (StandsFor d) given pieces
  alike k same past so_far =
      subst (λ (es : List Entry). AllZip (StandsFor d) es pieces) (take_all k given past)
      (subst (λ (ps : List Piece). AllZip (StandsFor d) (take k given) ps) (take_all k pieces (omega (arith, past, same))) so_far)

  -- one of them ends
  pub ended : (k : ℕ) → k ≤ length given → k ≤ length pieces → (length given ≤ k) ⊎ (length pieces ≤ k) → (length given ≡ length pieces → ⊥)
      → AllZip (StandsFor d) (take k given) (take k pieces) → IsFirstUnlike d given pieces k
  ended k in_given in_pieces past differ so_far = record { within = in_given; agrees = so_far; lacks = by past }
    where
      by : (length given ≤ k) ⊎ (length pieces ≤ k) → ¬ AgreeAt d (slice_get given k) (slice_get pieces k)
      by (inl no_more) agree =
          let (l, is) = some_element pieces k (longer (length given) (length pieces) k in_given in_pieces no_more differ) in
          subst (λ (o : Option Piece). AgreeAt d None o) is (subst (λ (o : Option Entry). AgreeAt d o (slice_get pieces k)) (slice_get_past given k no_more) agree)
      by (inr no_more) agree =
          let (e, is) = some_element given k (longer (length pieces) (length given) k in_pieces in_given no_more (λ same. differ (sym same))) in
          subst (λ (o : Option Entry). AgreeAt d o None) is (subst (λ (o : Option Piece). AgreeAt d (slice_get given k) o) (slice_get_past pieces k no_more) agree)
