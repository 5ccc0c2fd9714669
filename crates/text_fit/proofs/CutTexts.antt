-- Texts that are cut to their places.
use Rattle.std.proofs.Common.{◌≡◌, ℕ, zero, suc, ◌+◌, ◌-◌, ◌*◌, ◌/◌, ◌<◌, ◌≤◌, Bool, true, false, ◌&&◌, List, [], ◌∷◌, ◌++◌, take, inl, inr, refl, sym, ap, subst, ◌∙◌, arith, div-mul-le_self, mul-le-mul_right}
use Rattle.std.specs.Prelude.{encode_utf8_all, codes}
use lib.Utf8.{encode}
use Rattle.std.specs.Str.{chars, all_scalars, IsUtf8}
use Rattle.std.proofs.lemmas.Nat.{le-div}
use Rattle.std.proofs.lemmas.Str.{chars-nil, chars-encodes, encodes-append}
use Rattle.text_fit.specs.Fits.{Fits, IsCut, with_points}
use Rattle.text_fit.specs.Widths.{chars_width, text_width}
use Rattle.text_fit.specs.inner.Kept.{AreKept}
use Rattle.text_fit.proofs.KeptChars.{width_of_both, width_of_points}

within : (room size width : ℕ) → width ≤ 1000 * room / size → Fits room size width
within room size width h = omega (arith, mul-le-mul_right size h, div-mul-le_self (1000 * room) size)

over : (room size width : ℕ) → 0 < size → 1000 * room / size < width → ¬ Fits room size width
over room size width some h = λ fits. omega (arith, h, le-div width (1000 * room) size some fits)

points_behind : (n : ℕ) (text : List ℕ) → chars_width (with_points n text) ≡ chars_width (take n (chars text)) + 834
points_behind n text = width_of_both (take n (chars text)) (codes "...") ∙ ap (λ (w : ℕ). chars_width (take n (chars text)) + w) width_of_points

bytes_of_points : encode_utf8_all (codes "...") ≡ codes "..."
unfolding encode
bytes_of_points = refl

-- not even the points fit
pub cut_to_nothing : (room size : ℕ) (text cut : List ℕ) → 0 < size → 1000 * room / size < 834 → cut ≡ [] → IsCut room size text cut
cut_to_nothing room size text cut some small empty =
    inl (over room size (chars_width (codes "...")) some (omega (arith, small, width_of_points)), empty)

-- what is kept, and the points
pub cut_to_kept : (room size n : ℕ) (text kept cut : List ℕ) → 0 < size → 834 ≤ 1000 * room / size → kept ≡ encode_utf8_all (take n (chars text)) → cut ≡ kept ++ codes "..." → AreKept (1000 * room / size - 834) (chars text) n → IsCut room size text cut
cut_to_kept room size n text kept cut some enough bytes points known = inr (
  n,
  record {
    shown = points ∙ ap (λ (front : List ℕ). front ++ codes "...") bytes
        ∙ sym (encodes-append (take n (chars text)) (codes "...") ∙ ap (λ (behind : List ℕ). encode_utf8_all (take n (chars text)) ++ behind) bytes_of_points);
    fits = within room size (chars_width (with_points n text)) (omega (arith, enough, known.fits, points_behind n text));
    longest = λ more after last. over room size (chars_width (with_points more text)) some (omega (arith, known.longest more after last, points_behind more text));
  },
)

with_one : (b : Bool) (xs ys : List ℕ) → (all_scalars xs ≡ true → all_scalars ys ≡ true) → b && all_scalars xs ≡ true → b && all_scalars ys ≡ true
with_one true xs ys others h = others h
with_one false xs ys others h = h

scalars_kept : (cs : List ℕ) (n : ℕ) → all_scalars cs ≡ true → all_scalars (take n cs ++ codes "...") ≡ true
scalars_kept cs zero h = refl
scalars_kept [] (suc n) h = refl
scalars_kept (c ∷ cs) (suc n) h = with_one (lib.Utf8.scalar c) cs (take n cs ++ codes "...") (scalars_kept cs n) h

-- a cut text is inside its place
pub cut_inside : (room size : ℕ) (text cut : List ℕ) → IsUtf8 text → IsCut room size text cut → Fits room size (text_width cut)
cut_inside room size text cut utf8 (inl none) = subst (λ (cs : List ℕ). Fits room size (text_width cs)) (sym none.1) (subst (λ (w : ℕ). w * size ≤ 1000 * room) (sym (ap chars_width chars-nil)) (omega arith))
cut_inside room size text cut utf8 (inr k) =
    let n = k.0 in
    let whole = sym (ap chars utf8.1.1) ∙ chars-encodes utf8.0 utf8.1.0 in
    let all = scalars_kept (chars text) n (ap all_scalars whole ∙ utf8.1.0) in
    let same = ap chars k.1.shown ∙ chars-encodes (with_points n text) all in
    subst (λ (cs : List ℕ). Fits room size (chars_width cs)) (sym same) k.1.fits
