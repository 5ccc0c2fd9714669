-- What numbers and words say, read part by part.
use Rattle.std.proofs.Common.{◌≡◌, ℕ, ◌<◌, ◌≤◌, ◌^◌, zero, suc, true, List, [], ◌∷◌, length, get_or, String, string_bytes, ap, arith}
use Rattle.std.specs.Prelude.{ℤ, ◌<ℤ◌, int_lt, ◌&&◌, unsigned_abs}
use Rattle.std.proofs.lemmas.Bool.{and_parts, leb-true}
use Rattle.std.proofs.lemmas.Int.{ints}
use Rattle.std.specs.declared.alloc.Global.{Global}
use Rattle.draw_words.specs.Seen.{texts}
use Rattle.detail_view.specs.Words.{is_near, is_span, word_at}

-- ---- windows
pub less : (a b : ℤ) → int_lt a b ≡ true → a <ℤ b
less a b e = omega (arith, ints)

pub near : (z : ℤ) → is_near z ≡ true → unsigned_abs z ≤ 2 ^ 40
near z e = leb-true (unsigned_abs z) (2 ^ 40) e

pub record IsSpan (from to : ℤ) : Type 0 where
  pub rises : from <ℤ to
  pub from_near : unsigned_abs from ≤ 2 ^ 40
  pub to_near : unsigned_abs to ≤ 2 ^ 40

abbrev pub span_facts : (from to : ℤ) → is_span from to ≡ true → IsSpan from to
span_facts from to h =
    let a = and_parts (int_lt from to && is_near from) (is_near to) h in
    let b = and_parts (int_lt from to) (is_near from) a.0 in
    record { rises = less from to b.0; from_near = near from b.1; to_near = near to a.1 }

-- ---- words
pub word_found : (words : List (String Global)) (i : ℕ) (x : String Global) → i < length words → x ≡ get_or words i x → string_bytes x ≡ word_at (texts words) i
word_found [] i x h e = absurd (omega (arith, h))
word_found (w ∷ words) zero x h e = ap string_bytes e
word_found (w ∷ words) (suc i) x h e = word_found words i x (omega (arith, h)) e
