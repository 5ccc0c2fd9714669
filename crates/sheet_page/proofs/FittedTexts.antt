-- A text that was fitted is the one that the definition names.
use Rattle.std.proofs.Common.{◌≡◌, ◌⊎◌, ℕ, zero, suc, ◌+◌, ◌*◌, ◌<◌, ◌≤◌, Bool, true, false, List, [], ◌∷◌, ◌++◌, length, take, inl, inr, refl, sym, ap, subst, ◌∙◌, arith, mul-le-mul_right}
use Rattle.std.specs.Prelude.{nat_le, if◌then◌else◌, encode_utf8_all, codes}
use Rattle.std.specs.Str.{chars}
use Rattle.std.proofs.lemmas.Bool.{leb-true, leb-false, cases_lt}
use Rattle.std.proofs.lemmas.List.{take_all}
use Rattle.text_fit.specs.Fits.{Fits, size_in, with_points, least_of, IsCutTo, IsCut, IsFitted}
use Rattle.text_fit.specs.Widths.{chars_width, text_width}
use Rattle.text_fit.specs.declared.fit.Fitted.{Fitted}
use Rattle.text_fit.specs.declared.fit.Room.{Room}
use Rattle.sheet_page.specs.Labels.{cut_within, fitted_in}

width_of_both : (xs ys : List ℕ) → chars_width (xs ++ ys) ≡ chars_width xs + chars_width ys
width_of_both [] ys = omega arith
width_of_both (x ∷ xs) ys = omega (arith, width_of_both xs ys)

-- where a text fits with three points behind it, the points fit
points_fit : (room size n : ℕ) (text : List ℕ) → Fits room size (chars_width (with_points n text)) → Fits room size (chars_width (codes "..."))
points_fit room size n text fits =
    let more : chars_width (codes "...") ≤ chars_width (with_points n text) = omega (arith, width_of_both (take n (chars text)) (codes "...")) in
    omega (arith, fits, mul-le-mul_right size more)

not_fitting : (room size width : ℕ) → 1000 * room < width * size → ¬ Fits room size width
not_fitting room size width over = λ fits. omega (arith, over, fits)

module _ (room size : ℕ) (text : List ℕ) where
  cut_to_nothing : (n : ℕ) → ¬ Fits room size (chars_width (codes "...")) → cut_within room size text n ≡ []
  cut_to_nothing zero none = go (nat_le (chars_width (with_points zero text) * size) (1000 * room)) refl
    where
      go : (b : Bool) → nat_le (chars_width (with_points zero text) * size) (1000 * room) ≡ b → (if b then encode_utf8_all (with_points zero text) else []) ≡ []
      go true h = absurd (none (points_fit room size zero text (leb-true _ _ h)))
      go false h = refl
  cut_to_nothing (suc n) none = go (cut_to_nothing n none) (nat_le (chars_width (with_points (suc n) text) * size) (1000 * room)) refl
    where
      go : cut_within room size text n ≡ [] → (b : Bool) → nat_le (chars_width (with_points (suc n) text) * size) (1000 * room) ≡ b
          → (if b then encode_utf8_all (with_points (suc n) text) else cut_within room size text n) ≡ []
      go fewer true h = absurd (none (points_fit room size (suc n) text (leb-true _ _ h)))
      go fewer false h = fewer

  cut_is : (cut : List ℕ) (n m : ℕ) → n ≤ m → m ≤ length (chars text) → IsCutTo room size text cut n → cut ≡ cut_within room size text m
  cut_is cut n zero few last k = go (nat_le (chars_width (with_points zero text) * size) (1000 * room)) refl
    where
      none : n ≡ zero
      none = omega (arith, few)

      go : (b : Bool) → nat_le (chars_width (with_points zero text) * size) (1000 * room) ≡ b → cut ≡ (if b then encode_utf8_all (with_points zero text) else [])
      go true h = k.shown ∙ ap (λ (i : ℕ). encode_utf8_all (with_points i text)) none
      go false h = absurd (not_fitting room size _ (leb-false _ _ h) (subst (λ (i : ℕ). Fits room size (chars_width (with_points i text))) none k.fits))
  cut_is cut n (suc m) few last k = go (λ less. cut_is cut n m (omega (arith, less)) (omega (arith, last)) k) (nat_le (chars_width (with_points (suc m) text) * size) (1000 * room)) refl
    where
      all : suc m ≤ n → n ≡ suc m
      all h = omega (arith, few, h)

      kept : (n < suc m) ⊎ (suc m ≤ n) → Fits room size (chars_width (with_points (suc m) text)) → cut ≡ encode_utf8_all (with_points (suc m) text)
      kept (inl less) fits = absurd (k.longest (suc m) less last fits)
      kept (inr rest) fits = k.shown ∙ ap (λ (i : ℕ). encode_utf8_all (with_points i text)) (all rest)

      less_kept : (n < suc m → cut ≡ cut_within room size text m) → (n < suc m) ⊎ (suc m ≤ n) → ¬ Fits room size (chars_width (with_points (suc m) text)) → cut ≡ cut_within room size text m
      less_kept fewer (inl less) over = fewer less
      less_kept fewer (inr rest) over = absurd (over (subst (λ (i : ℕ). Fits room size (chars_width (with_points i text))) (all rest) k.fits))

      go : (n < suc m → cut ≡ cut_within room size text m) → (b : Bool) → nat_le (chars_width (with_points (suc m) text) * size) (1000 * room) ≡ b
          → cut ≡ (if b then encode_utf8_all (with_points (suc m) text) else cut_within room size text m)
      go fewer true h = kept (cases_lt n (suc m)) (leb-true _ _ h)
      go fewer false h = less_kept fewer (cases_lt n (suc m)) (not_fitting room size _ (leb-false _ _ h))

  -- no more characters are kept than there are
  cut_of_all : (cut : List ℕ) (n : ℕ) → IsCutTo room size text cut n → cut ≡ cut_within room size text (length (chars text))
  cut_of_all cut n k = by (cases_lt (length (chars text)) n)
    where
      by : (length (chars text) < n) ⊎ (n ≤ length (chars text)) → cut ≡ cut_within room size text (length (chars text))
      by (inl long) =
          let same : with_points n text ≡ with_points (length (chars text)) text =
          ap (λ (cs : List ℕ). cs ++ codes "...") (take_all n (chars text) (omega (arith, long)) ∙ sym (take_all (length (chars text)) (chars text) (omega arith))) in
          cut_is cut (length (chars text)) (length (chars text)) (omega arith) (omega arith) (record {
            shown = k.shown ∙ ap encode_utf8_all same;
            fits = subst (λ (cs : List ℕ). Fits room size (chars_width cs)) same k.fits;
            longest = λ more after last. absurd (omega (arith, after, last));
          })
      by (inr short) = cut_is cut n (length (chars text)) short (omega arith) k

  cut_is_within : (cut : List ℕ) → IsCut room size text cut → cut ≡ cut_within room size text (length (chars text))
  cut_is_within cut (inl none) = none.1 ∙ sym (cut_to_nothing (length (chars text)) none.0)
  cut_is_within cut (inr k) = cut_of_all cut k.0 k.1

pub is_fitted_in : (room : Room) (text : List ℕ) (f : Fitted) → IsFitted room text f → f ≡ fitted_in room text
unfolding fitted_in
is_fitted_in room text f is = go (nat_le (least_of room) (size_in room.width room.most (text_width text))) refl
  where
    go : (b : Bool) → nat_le (least_of room) (size_in room.width room.most (text_width text)) ≡ b
        → f ≡ (if b then record { size = size_in room.width room.most (text_width text); text = text } else record { size = least_of room; text = cut_within room.width (least_of room) text (length (chars text)) })
    go true h = let whole = is.whole (leb-true _ _ h) in λ i. record { size = whole.0 i; text = whole.1 i }
    go false h =
        let over = leb-false _ _ h in
        let cut = is.cut (omega (arith, over)) in
        let shown = cut_is_within room.width (least_of room) text f.text cut.1 in
        λ i. record { size = cut.0 i; text = shown i }

-- its letters are no larger than the most
pub no_larger : (room : Room) (text : List ℕ) (f : Fitted) → IsFitted room text f → f.size ≤ room.most
no_larger room text f is = by (cases_lt (size_in room.width room.most (text_width text)) (least_of room))
  where
    by : (size_in room.width room.most (text_width text) < least_of room) ⊎ (least_of room ≤ size_in room.width room.most (text_width text)) → f.size ≤ room.most
    by (inl small) = let cut = is.cut small in omega (arith, cut.0)
    by (inr enough) = let whole = is.whole enough in omega (arith, whole.0)
