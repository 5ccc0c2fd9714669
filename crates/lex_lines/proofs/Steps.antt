-- One byte of the pass over a text.
use Rattle.std.proofs.Common.{◌≡◌, ℕ, ◌+◌, Bool, true, false, not, ◌&&◌, ◌||◌, cond, List, [], ◌∷◌, refl, sym, ◌∙◌}
use Rattle.std.proofs.lemmas.Bool.{not-false}
use Rattle.lex_lines.specs.declared.token.Token.{Token}
use Rattle.lex_lines.specs.Bytes.{is_blank, is_feed, is_gap, is_hash}
use Rattle.lex_lines.specs.Scan.{between, comment, inside, ends_run, comment_after, line_after, outside, tokens_from}

abbrev pub token : ℕ → ℕ → ℕ → Token
token start end line = record { from = start; to = end; line = line }

-- ---- tests of a byte
or_second : (a b : Bool) → b ≡ true → (a || b) ≡ true
or_second true b e = refl
or_second false b e = e

or_first : (a b : Bool) → a ≡ true → (a || b) ≡ true
or_first a b e = rw e refl

pub feed_ends : (comments : Bool) (byte : ℕ) → is_feed byte ≡ true → ends_run comments byte ≡ true
feed_ends comments byte e = or_first (is_gap byte) (comments && is_hash byte) (or_second (is_blank byte) (is_feed byte) e)

flip : (f e : Bool) → (f ≡ true → e ≡ true) → e ≡ false → f ≡ false
flip true e h k = sym (h refl) ∙ k
flip false e h k = refl

pub run_no_feed : (comments : Bool) (byte : ℕ) → ends_run comments byte ≡ false → is_feed byte ≡ false
run_no_feed comments byte e = flip (is_feed byte) (ends_run comments byte) (feed_ends comments byte) e

and_none : (feed gap mark : Bool) → (gap || mark) ≡ false → (not feed && (false || mark)) ≡ false
and_none feed true mark e = let k : true ≡ false = e in cc
and_none true false mark e = refl
and_none false false mark e = e

pub no_comment_after : (comments : Bool) (byte : ℕ) → ends_run comments byte ≡ false → comment_after comments false byte ≡ false
no_comment_after comments byte e = and_none (is_feed byte) (is_gap byte) (comments && is_hash byte) e

same_cond : (b : Bool) (xs : List Token) → cond b xs xs ≡ xs
same_cond true xs = refl
same_cond false xs = refl

-- ---- outside of tokens
pub between_step : (comments : Bool) (byte : ℕ) (bytes : List ℕ) (place line : ℕ) → ends_run comments byte ≡ true → tokens_from comments (byte ∷ bytes) place line between ≡ tokens_from comments bytes (place + 1) (line_after line byte) (outside (comment_after comments false byte))
between_step comments byte bytes place line e = rw e refl

pub comment_step : (comments : Bool) (byte : ℕ) (bytes : List ℕ) (place line : ℕ) → tokens_from comments (byte ∷ bytes) place line comment ≡ tokens_from comments bytes (place + 1) (line_after line byte) (outside (comment_after comments true byte))
comment_step comments byte bytes place line = rw (same_cond (ends_run comments byte) []) refl

pub outside_step : (comments k : Bool) (byte : ℕ) (bytes : List ℕ) (place line : ℕ) → (not k && not (ends_run comments byte)) ≡ false → tokens_from comments (byte ∷ bytes) place line (outside k) ≡ tokens_from comments bytes (place + 1) (line_after line byte) (outside (comment_after comments k byte))
outside_step comments true byte bytes place line e = comment_step comments byte bytes place line
outside_step comments false byte bytes place line e = between_step comments byte bytes place line (not-false (ends_run comments byte) e)

-- ---- within a token
pub begin_step : (comments : Bool) (byte : ℕ) (bytes : List ℕ) (place line : ℕ) → ends_run comments byte ≡ false → tokens_from comments (byte ∷ bytes) place line between ≡ tokens_from comments bytes (place + 1) line (inside place)
begin_step comments byte bytes place line e = rw (e, run_no_feed comments byte e) refl

pub run_step : (comments : Bool) (byte : ℕ) (bytes : List ℕ) (place line start : ℕ) → ends_run comments byte ≡ false → tokens_from comments (byte ∷ bytes) place line (inside start) ≡ tokens_from comments bytes (place + 1) line (inside start)
run_step comments byte bytes place line start e = rw (e, run_no_feed comments byte e) refl

pub end_step : (comments : Bool) (byte : ℕ) (bytes : List ℕ) (place line start : ℕ) → ends_run comments byte ≡ true → tokens_from comments (byte ∷ bytes) place line (inside start) ≡ token start place line ∷ tokens_from comments (byte ∷ bytes) place line between
end_step comments byte bytes place line start e = rw e refl
