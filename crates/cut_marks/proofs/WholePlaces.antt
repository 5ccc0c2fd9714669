-- The place in a heading is never cut.
use Rattle.std.proofs.Common.{◌≡◌, inl, inr, ℕ, zero, suc, ◌-◌, ◌*◌, ◌/◌, ◌≤◌, max, min, Bool, true, false, List, [], ◌∷◌, ◌++◌, length, take, refl, sym, ap, subst, ◌∙◌, arith, append_assoc, div-mul-le_self, mul-le-mul_right}
use Rattle.std.specs.Prelude.{nat_le, ◌||◌, if◌then◌else◌, encode_utf8_all, codes}
use Rattle.std.specs.Str.{chars, IsUtf8}
use Rattle.std.proofs.lemmas.Bool.{leb-true, leb-false}
use Rattle.std.proofs.lemmas.Str.{chars-append, chars-encodes, encodes-append}
use Rattle.dec_text.specs.declared.number.Length.{Length}
use Rattle.sheet_page.specs.Labels.{cut_within, fitted_in}
use Rattle.svg_page.specs.Texts.{◌⊕◌}
use Rattle.text_fit.specs.Fits.{size_in, with_points}
use Rattle.text_fit.specs.Widths.{chars_width, text_width}
use Rattle.text_fit.specs.declared.fit.Fitted.{Fitted}
use Rattle.cut_marks.specs.HeadingTexts.{bare_text, fits_least, front_text, has_room, title_text}
use Rattle.cut_marks.specs.Items.{room_of, HasPlaceWhole, fitted_heading}
use Rattle.cut_marks.specs.declared.figures.Heading.{Heading}

-- ---- the first characters of a text that begins with another
taken : (front rest : List ℕ) (n : ℕ) → length front ≤ n → take n (front ++ rest) ≡ front ++ take (n - length front) rest
taken [] rest n h = ap (λ (k : ℕ). take k rest) (omega arith)
taken (c ∷ front) rest zero h = absurd (omega (arith, h))
taken (c ∷ front) rest (suc n) h =
    let same : n - length front ≡ suc n - suc (length front) = omega arith in
    ap (λ (cs : List ℕ). c ∷ cs) (taken front rest n (omega (arith, h))) ∙ ap (λ (k : ℕ). c ∷ front ++ take k rest) same

points_are : chars (codes "...") ≡ codes "..."
unfolding chars
points_are = refl

-- a text begins with a front
abbrev BeginsWith : List ℕ → List ℕ → Type 0
BeginsWith front text = (rest : List ℕ) × (text ≡ front ++ rest)

spelled : (front : List ℕ) → IsUtf8 front → encode_utf8_all (chars front) ≡ front
spelled front utf8 = ap encode_utf8_all (sym (ap chars utf8.1.1) ∙ chars-encodes utf8.0 utf8.1.0) ∙ utf8.1.1

module _ (front behind : List ℕ) (utf8 : IsUtf8 front) where
  both : chars (front ++ behind) ≡ chars front ++ chars behind
  both = chars-append front behind utf8

  -- so many characters, or more, and three points
  kept_front : (n : ℕ) → length (chars front) ≤ n → BeginsWith front (encode_utf8_all (with_points n (front ++ behind)))
  kept_front n enough =
      let more = take (n - length (chars front)) (chars behind) in
      let same : with_points n (front ++ behind) ≡ chars front ++ (more ++ codes "...") =
      ap (λ (cs : List ℕ). take n cs ++ codes "...") both ∙ ap (λ (cs : List ℕ). cs ++ codes "...") (taken (chars front) (chars behind) n enough) ∙ append_assoc (chars front) more (codes "...") in (
        encode_utf8_all (more ++ codes "..."),
        ap encode_utf8_all same ∙ encodes-append (chars front) (more ++ codes "...") ∙ ap (λ (text : List ℕ). text ++ encode_utf8_all (more ++ codes "...")) (spelled front utf8),
      )

  -- where they fit, no fewer are kept
  cut_behind : (room size n : ℕ) → length (chars front) ≤ n → chars_width (with_points (length (chars front)) (front ++ behind)) * size ≤ 1000 * room
      → BeginsWith front (cut_within room size (front ++ behind) n)
  cut_behind room size zero enough fits = go (nat_le (chars_width (with_points zero (front ++ behind)) * size) (1000 * room)) refl
    where
      none : length (chars front) ≡ zero
      none = omega (arith, enough)

      go : (b : Bool) → nat_le (chars_width (with_points zero (front ++ behind)) * size) (1000 * room) ≡ b → BeginsWith front (if b then encode_utf8_all (with_points zero (front ++ behind)) else [])
      go true h = kept_front zero enough
      go false h = absurd (omega (arith, leb-false _ _ h, subst (λ (i : ℕ). chars_width (with_points i (front ++ behind)) * size ≤ 1000 * room) none fits))
  cut_behind room size (suc n) enough fits = go (λ less. cut_behind room size n less fits) (nat_le (chars_width (with_points (suc n) (front ++ behind)) * size) (1000 * room)) refl
    where
      last : nat_le (length (chars front)) n ≡ false → length (chars front) ≡ suc n
      last h = omega (arith, enough, leb-false _ _ h)

      less : (length (chars front) ≤ n → BeginsWith front (cut_within room size (front ++ behind) n)) → (b : Bool) → nat_le (length (chars front)) n ≡ b
          → nat_le (chars_width (with_points (suc n) (front ++ behind)) * size) (1000 * room) ≡ false → BeginsWith front (cut_within room size (front ++ behind) n)
      less fewer true h over = fewer (leb-true _ _ h)
      less fewer false h over = absurd (omega (arith, leb-false _ _ over, subst (λ (i : ℕ). chars_width (with_points i (front ++ behind)) * size ≤ 1000 * room) (last h) fits))

      go : (length (chars front) ≤ n → BeginsWith front (cut_within room size (front ++ behind) n)) → (b : Bool)
          → nat_le (chars_width (with_points (suc n) (front ++ behind)) * size) (1000 * room) ≡ b
          → BeginsWith front (if b then encode_utf8_all (with_points (suc n) (front ++ behind)) else cut_within room size (front ++ behind) n)
      go fewer true h = kept_front (suc n) enough
      go fewer false h = less fewer (nat_le (length (chars front)) n) refl h

-- ---- what fits in the least letters
least_fits : (room width : ℕ) → 180 ≤ 1000 * room / max 1 width → width * 180 ≤ 1000 * room
least_fits room width h = omega (arith, mul-le-mul_right (max 1 width) h, div-mul-le_self (1000 * room) (max 1 width), wider)
  where
    wider : width * 180 ≤ 180 * max 1 width
    wider = omega arith

module _ (h : Heading) where
  shown_whole : (text : List ℕ) → fits_least h text ≡ true → (fitted_in (room_of h) text).text ≡ text
  unfolding fitted_in
  shown_whole text fits = go (nat_le (min 180 500) (size_in h.room 500 (text_width text))) refl
    where
      enough : 180 ≤ size_in h.room 500 (text_width text)
      enough = omega (arith, leb-true _ _ fits)

      go : (b : Bool) → nat_le (min 180 500) (size_in h.room 500 (text_width text)) ≡ b
          → (if◌then◌else◌ {A = Fitted} b (record { size = size_in h.room 500 (text_width text); text = text }) (record { size = min 180 500; text = cut_within h.room (min 180 500) text (length (chars text)) })).text ≡ text
      go true e = refl
      go false e = absurd (omega (arith, leb-false _ _ e, enough))

  -- the text behind a front is cut, and not the front, if three points have room there
  front_shown : (front behind : List ℕ) → IsUtf8 front → fits_least h (front ⊕ codes "...") ≡ true → BeginsWith front (fitted_in (room_of h) (front ++ behind)).text
  unfolding fitted_in
  front_shown front behind utf8 fits = go (nat_le (min 180 500) (size_in h.room 500 (text_width (front ++ behind)))) refl
    where
      n : ℕ
      n = length (chars front)

      same : with_points n (front ++ behind) ≡ chars front ++ codes "..."
      same =
          ap (λ (cs : List ℕ). take n cs ++ codes "...") (both front behind utf8) ∙ ap (λ (cs : List ℕ). cs ++ codes "...") (taken (chars front) (chars behind) n (omega arith))
          ∙ append_assoc (chars front) (take (n - n) (chars behind)) (codes "...") ∙ ap (λ (k : ℕ). chars front ++ (take k (chars behind) ++ codes "...")) (nothing n)
        where
          nothing : (k : ℕ) → k - k ≡ 0
          nothing k = omega arith

      points : chars (front ++ codes "...") ≡ chars front ++ codes "..."
      points = chars-append front (codes "...") utf8 ∙ ap (λ (cs : List ℕ). chars front ++ cs) points_are

      within : chars_width (with_points n (front ++ behind)) * 180 ≤ 1000 * h.room
      within = subst (λ (cs : List ℕ). chars_width cs * 180 ≤ 1000 * h.room) (points ∙ sym same) (least_fits h.room (text_width (front ++ codes "...")) (leb-true _ _ fits))

      long : n ≤ length (chars (front ++ behind))
      long = subst (λ (cs : List ℕ). n ≤ length cs) (sym (both front behind utf8)) (longer (chars front) (chars behind))
        where
          longer : (xs ys : List ℕ) → length xs ≤ length (xs ++ ys)
          longer [] ys = omega arith
          longer (x ∷ xs) ys = omega (arith, longer xs ys)

      go : (b : Bool) → nat_le (min 180 500) (size_in h.room 500 (text_width (front ++ behind))) ≡ b
          → BeginsWith front (if◌then◌else◌ {A = Fitted} b (record { size = size_in h.room 500 (text_width (front ++ behind)); text = front ++ behind })
          (record { size = min 180 500; text = cut_within h.room (min 180 500) (front ++ behind) (length (chars (front ++ behind))) })).text
      go true e = (behind, refl)
      go false e = cut_behind front behind utf8 h.room 180 (length (chars (front ++ behind))) long within

module _ (decimals : ℕ) (unit : Length) (h : Heading) (title : List ℕ) (utf8 : IsUtf8 (front_text decimals unit h)) where
  abbrev front : List ℕ
  front = front_text decimals unit h

  abbrev behind : List ℕ
  behind = title_text h.has_section title

  roomy : has_room h front (front ++ behind) ≡ true → BeginsWith front (fitted_in (room_of h) (front ++ behind)).text
  roomy room = go (fits_least h (front ++ behind)) refl room
    where
      go : (b : Bool) → fits_least h (front ++ behind) ≡ b → b || fits_least h (front ⊕ codes "...") ≡ true → BeginsWith front (fitted_in (room_of h) (front ++ behind)).text
      go true whole r = (behind, shown_whole h (front ++ behind) whole)
      go false cut r = front_shown h front behind utf8 r

  without : (b : Bool) → fits_least h front ≡ b → HasPlaceWhole decimals unit h title (fitted_in (room_of h) (if b then front else bare_text h title)).text
  without true fits = inl ([], shown_whole h front fits ∙ sym (append_none front))
    where
      append_none : (xs : List ℕ) → xs ++ [] ≡ xs
      append_none [] = refl
      append_none (x ∷ xs) = ap (λ (ys : List ℕ). x ∷ ys) (append_none xs)
  without false over = inr (over, refl)

  pub place_whole : HasPlaceWhole decimals unit h title (fitted_heading decimals unit h title).text
  place_whole = go (has_room h front (front ++ behind)) refl
    where
      go : (b : Bool) → has_room h front (front ++ behind) ≡ b
          → HasPlaceWhole decimals unit h title (fitted_in (room_of h) (if b then front ++ behind else (if fits_least h front then front else bare_text h title))).text
      go true room = inl (roomy room)
      go false narrow = without (fits_least h front) refl
