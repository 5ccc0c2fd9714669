-- The beginning of a text that is no wider than a place.
use Rattle.std.specs.Prelude.{◌≡◌, ℕ, ◌<◌, ◌≤◌, List, length, take, encode_utf8_all}
use Rattle.std.specs.Str.{chars}
use Rattle.text_fit.specs.Widths.{chars_width}

-- the first n characters are no wider than this, and more are wider
pub record AreKept (width : ℕ) (cs : List ℕ) (n : ℕ) : Type 0 where
  pub fits : chars_width (take n cs) ≤ width
  pub longest : (more : ℕ) → n < more → more ≤ length cs → width < chars_width (take more cs)

abbrev pub IsKept : ℕ → List ℕ → List ℕ → Type 0
IsKept width text kept = (n : ℕ) × (kept ≡ encode_utf8_all (take n (chars text))) × AreKept width (chars text) n
