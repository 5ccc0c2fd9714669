-- The pass over a text finds its tokens.
use Rattle.std.proofs.Common.{◌≡◌, ℕ, ◌+◌, ◌<◌, ◌≤◌, suc, Bool, true, false, cond, ◌⊎◌, inl, inr, List, [], ◌∷◌, length, drop, get_or, refl, sym, ◌∙◌, subst, add-one, arith}
use Rattle.std.proofs.lemmas.Bool.{cases_lt}
use Rattle.std.proofs.lemmas.List.{drop_all}
use Rattle.std.proofs.lemmas.List.Elements.{All-nil, All-cons, All-weaker, Contains-append_right}
use Rattle.std.proofs.lemmas.List.Kept.{AllPairs-cons}
use Rattle.std.proofs.lemmas.List.Sums.{count_by_more_yes, count_by_more_no}
use Rattle.std.proofs.lemmas.Option.{slice_get-get_or}
use Rattle.std.proofs.Math.Seq.{drop-cons}
use Rattle.std.specs.Prelude.{Some, slice_get, All, AllPairs, Contains}
use Rattle.lex_lines.specs.declared.token.Token.{Token}
use Rattle.lex_lines.specs.Bytes.{is_feed}
use Rattle.lex_lines.specs.Places.{IsTokenByte, IsToken, AreTokens, line_at}
use Rattle.lex_lines.specs.inner.Cursors.{left_at, IsCursor}
use Rattle.lex_lines.specs.Scan.{Standing, between, comment, inside, ends_run, comment_after, line_after, outside, tokens_from}
use Rattle.lex_lines.proofs.Comments.{Commented, commented_after}
use Rattle.lex_lines.proofs.Steps.{token, run_no_feed, no_comment_after, between_step, comment_step, begin_step, run_step, end_step}
use Rattle.lex_lines.proofs.TokenBytes.{token_byte, end_byte, comment_byte, no_byte, IsBegun, ended_token, begun_more, begun_one, same_token, none_within, none_here}

-- ---- the bytes from a place on
-- the byte at the place, and what is behind it
record IsAt (bytes : List ℕ) (place byte : ℕ) (rest : List ℕ) : Type 0 where
  within : place < length bytes
  here : slice_get bytes place ≡ Some byte
  value : get_or bytes place 0 ≡ byte
  behind : drop (place + 1) bytes ≡ rest

no_cons : {P : Type 0} → (byte : ℕ) (rest : List ℕ) → [] ≡ byte ∷ rest → P
no_cons byte rest e = cc

is_within : (bytes : List ℕ) (place byte : ℕ) (rest : List ℕ) → drop place bytes ≡ byte ∷ rest → (place < length bytes) ⊎ (length bytes ≤ place) → place < length bytes
is_within bytes place byte rest e (inl lt) = lt
is_within bytes place byte rest e (inr ge) = no_cons byte rest (sym (drop_all place bytes ge) ∙ e)

at_split : (bytes : List ℕ) (place byte : ℕ) (rest : List ℕ) → place < length bytes → drop place bytes ≡ byte ∷ rest → IsAt bytes place byte rest
at_split bytes place byte rest h e =
    let both : get_or bytes place 0 ∷ drop (suc place) bytes ≡ byte ∷ rest = sym (drop-cons bytes place 0 h) ∙ e in
    let value : get_or bytes place 0 ≡ byte = cc in
    let tail : drop (suc place) bytes ≡ rest = cc in
    record { within = h; here = rw (← value) (slice_get-get_or bytes place 0 h); value = value; behind = rw add-one tail }

is_at : (bytes : List ℕ) (place byte : ℕ) (rest : List ℕ) → drop place bytes ≡ byte ∷ rest → IsAt bytes place byte rest
is_at bytes place byte rest e = at_split bytes place byte rest (is_within bytes place byte rest e (cases_lt place (length bytes))) e

is_past : (bytes : List ℕ) (place : ℕ) → drop place bytes ≡ [] → (place < length bytes) ⊎ (length bytes ≤ place) → length bytes ≤ place
is_past bytes place e (inl lt) = no_cons (get_or bytes place 0) (drop (suc place) bytes) (sym e ∙ drop-cons bytes place 0 lt)
is_past bytes place e (inr ge) = ge

past : (bytes : List ℕ) (place : ℕ) → drop place bytes ≡ [] → length bytes ≤ place
past bytes place e = is_past bytes place e (cases_lt place (length bytes))

line_step : (bytes : List ℕ) (place byte : ℕ) (rest : List ℕ) → IsAt bytes place byte rest → (v : Bool) → is_feed byte ≡ v → line_at bytes (place + 1) ≡ cond v (line_at bytes place + 1) (line_at bytes place)
line_step bytes place byte rest a true e = rw (count_by_more_yes is_feed bytes place 0 a.within (rw a.value e)) (omega arith)
line_step bytes place byte rest a false e = rw (count_by_more_no is_feed bytes place 0 a.within (rw a.value e)) refl

line_next : (bytes : List ℕ) (place byte line : ℕ) (rest : List ℕ) → IsAt bytes place byte rest → line ≡ line_at bytes place → line_after line byte ≡ line_at bytes (place + 1)
line_next bytes place byte line rest a e = rw (line_step bytes place byte rest a (is_feed byte) refl, e) refl

-- ---- right tokens
-- all tokens that begin at a place or behind it, in order
record AreFrom (comments : Bool) (bytes : List ℕ) (low : ℕ) (tokens : List Token) : Type 0 where
  each : All (IsToken comments bytes) tokens
  ascending : AllPairs (λ t u. t.to ≤ u.from) tokens
  from_on : All (λ t. low ≤ t.from) tokens
  complete : (t : Token) → IsToken comments bytes t → low ≤ t.from → Contains tokens t

-- there is none
are_none : (comments : Bool) (bytes : List ℕ) (low : ℕ) → length bytes ≤ low → AreFrom comments bytes low []
are_none comments bytes low h = record {
  each = All-nil (IsToken comments bytes);
  ascending = λ i j d a b. absurd (omega (arith, b));
  from_on = All-nil (λ (t : Token). low ≤ t.from);
  complete = λ t k le. absurd (no_byte comments bytes t.from (omega (arith, h, le)) (k.bytes_of t.from (omega arith) k.some));
}

-- none begins where no byte is a token's
later_or : (comments : Bool) (bytes : List ℕ) (place : ℕ) (t : Token) → ¬ IsTokenByte comments bytes place → IsToken comments bytes t → place ≤ t.from → (t.from < place + 1) ⊎ (place + 1 ≤ t.from) → place + 1 ≤ t.from
later_or comments bytes place t e k low (inl lt) = absurd (none_here comments bytes place t e k (omega arith))
later_or comments bytes place t e k low (inr ge) = ge

from_next : (comments : Bool) (bytes : List ℕ) (place : ℕ) (tokens : List Token) → ¬ IsTokenByte comments bytes place → AreFrom comments bytes (place + 1) tokens → AreFrom comments bytes place tokens
from_next comments bytes place tokens e r = record {
  each = r.each;
  ascending = r.ascending;
  from_on = All-weaker (λ (t : Token). place + 1 ≤ t.from) (λ (t : Token). place ≤ t.from) (λ t h. omega (arith, h)) tokens r.from_on;
  complete = λ t k low. r.complete t k (later_or comments bytes place t e k low (cases_lt t.from (place + 1)));
}

-- a run that ends here stands before them
contains_tail : (t u : Token) (tokens : List Token) → Contains tokens t → Contains (u ∷ tokens) t
contains_tail t u tokens h = Contains-append_right (u ∷ []) tokens t h

contains_head : (t u : Token) (tokens : List Token) → t ≡ u → Contains (u ∷ tokens) t
contains_head t u tokens e = (0, omega arith, sym e)

token_or : (comments : Bool) (bytes : List ℕ) (start place line : ℕ) (tokens : List Token) → IsBegun comments bytes start place line → ¬ IsTokenByte comments bytes place → AreFrom comments bytes place tokens → (t : Token) → IsToken comments bytes t → start ≤ t.from → (start < t.from) ⊎ (t.from ≤ start) → (t.from < place) ⊎ (place ≤ t.from) → Contains (token start place line ∷ tokens) t
token_or comments bytes start place line tokens b e r t k low (inr le) _ = contains_head t (token start place line) tokens (same_token comments bytes start place line t b e k (omega arith))
token_or comments bytes start place line tokens b e r t k low (inl lt) (inl high) = absurd (none_within comments bytes start place line t b k lt high)
token_or comments bytes start place line tokens b e r t k low (inl lt) (inr ge) = contains_tail t (token start place line) tokens (r.complete t k ge)

with_token : (comments : Bool) (bytes : List ℕ) (start place line : ℕ) (tokens : List Token) → IsBegun comments bytes start place line → ¬ IsTokenByte comments bytes place → AreFrom comments bytes place tokens → AreFrom comments bytes start (token start place line ∷ tokens)
with_token comments bytes start place line tokens b e r = record {
  each = All-cons (IsToken comments bytes) (token start place line) tokens (ended_token comments bytes start place line b e) r.each;
  ascending = AllPairs-cons (λ (t u : Token). t.to ≤ u.from) (token start place line) tokens r.from_on r.ascending;
  from_on = All-cons (λ (t : Token). start ≤ t.from) (token start place line) tokens (omega arith) (All-weaker (λ (t : Token). place ≤ t.from) (λ (t : Token). start ≤ t.from) (λ t h. let s : start < place = b.some in omega (arith, h, s)) tokens r.from_on);
  complete = λ t k low. token_or comments bytes start place line tokens b e r t k low (cases_lt start t.from) (cases_lt t.from place);
}

-- ---- where the pass stands
record IsBetween (comments : Bool) (bytes : List ℕ) (place : ℕ) : Type 0 where
  plain : Commented comments bytes place false
  before : (i : ℕ) → i + 1 ≡ place → ¬ IsTokenByte comments bytes i

record IsWithin (comments : Bool) (bytes : List ℕ) (place line start : ℕ) : Type 0 where
  plain : Commented comments bytes place false
  begun : IsBegun comments bytes start place line

abbrev Stands : Bool → List ℕ → ℕ → ℕ → Standing → Type 0
Stands comments bytes place line between = IsBetween comments bytes place
Stands comments bytes place line comment = Commented comments bytes place true
Stands comments bytes place line (inside start) = IsWithin comments bytes place line start

abbrev lowest : ℕ → Standing → ℕ
lowest place between = place
lowest place comment = place
lowest place (inside start) = start

not_before : (comments : Bool) (bytes : List ℕ) (place i : ℕ) → ¬ IsTokenByte comments bytes place → i ≡ place → ¬ IsTokenByte comments bytes i
not_before comments bytes place i e f k = e (subst (λ (n : ℕ). IsTokenByte comments bytes n) f k)

-- behind a byte that is no token's
stands_outside : (comments : Bool) (bytes : List ℕ) (place line : ℕ) (k : Bool) → ¬ IsTokenByte comments bytes place → Commented comments bytes (place + 1) k → Stands comments bytes (place + 1) line (outside k)
stands_outside comments bytes place line true e h = h
stands_outside comments bytes place line false e h = record { plain = h; before = λ i f. not_before comments bytes place i e (omega (arith, f)) }

-- the tokens of the rest, wherever the pass stands
abbrev RestIsRight : Bool → List ℕ → List ℕ → ℕ → Type 0
RestIsRight comments bytes rest place =
    (line : ℕ) (standing : Standing) → line ≡ line_at bytes place → Stands comments bytes place line standing → AreFrom comments bytes (lowest place standing) (tokens_from comments rest place line standing)

outside_right : (comments : Bool) (bytes rest : List ℕ) (place line : ℕ) (k : Bool) → RestIsRight comments bytes rest place → line ≡ line_at bytes place → Stands comments bytes place line (outside k) → AreFrom comments bytes place (tokens_from comments rest place line (outside k))
outside_right comments bytes rest place line true more e h = more line comment e h
outside_right comments bytes rest place line false more e h = more line between e h

-- a byte that is no token's
pass_over : (comments : Bool) (bytes : List ℕ) (place byte line : ℕ) (rest : List ℕ) (k : Bool) → IsAt bytes place byte rest → line ≡ line_at bytes place → RestIsRight comments bytes rest (place + 1) → ¬ IsTokenByte comments bytes place → Commented comments bytes place k → AreFrom comments bytes place (tokens_from comments rest (place + 1) (line_after line byte) (outside (comment_after comments k byte)))
pass_over comments bytes place byte line rest k a e more none h =
    from_next comments bytes place _ none (outside_right comments bytes rest (place + 1) (line_after line byte) (comment_after comments k byte) more (line_next bytes place byte line rest a e) (stands_outside comments bytes place (line_after line byte) (comment_after comments k byte) none (commented_after comments bytes place byte k a.here h)))

-- behind a byte that is a token's
still_plain : (comments : Bool) (bytes : List ℕ) (place byte : ℕ) → slice_get bytes place ≡ Some byte → ends_run comments byte ≡ false → Commented comments bytes place false → Commented comments bytes (place + 1) false
still_plain comments bytes place byte here e h = let k : Commented comments bytes (place + 1) (comment_after comments false byte) = commented_after comments bytes place byte false here h in rw (no_comment_after comments byte e) at k

same_line : (bytes : List ℕ) (place byte line : ℕ) (rest : List ℕ) (comments : Bool) → IsAt bytes place byte rest → ends_run comments byte ≡ false → line ≡ line_at bytes place → line ≡ line_at bytes (place + 1)
same_line bytes place byte line rest comments a e f = f ∙ sym (line_step bytes place byte rest a false (run_no_feed comments byte e))

-- ---- one byte of the pass
step_between : (comments : Bool) (bytes : List ℕ) (place byte line : ℕ) (rest : List ℕ) → IsAt bytes place byte rest → line ≡ line_at bytes place → RestIsRight comments bytes rest (place + 1) → IsBetween comments bytes place → (v : Bool) → ends_run comments byte ≡ v → AreFrom comments bytes place (tokens_from comments (byte ∷ rest) place line between)
step_between comments bytes place byte line rest a e more b true f =
    subst (AreFrom comments bytes place) (sym (between_step comments byte rest place line f)) (pass_over comments bytes place byte line rest false a e more (end_byte comments bytes place byte a.here f) b.plain)
step_between comments bytes place byte line rest a e more b false f =
    let solid = token_byte comments bytes place byte a.here b.plain f in
    subst (AreFrom comments bytes place) (sym (begin_step comments byte rest place line f)) (more line (inside place) (same_line bytes place byte line rest comments a f e) (record { plain = still_plain comments bytes place byte a.here f b.plain; begun = begun_one comments bytes place line b.before solid e }))

step_comment : (comments : Bool) (bytes : List ℕ) (place byte line : ℕ) (rest : List ℕ) → IsAt bytes place byte rest → line ≡ line_at bytes place → RestIsRight comments bytes rest (place + 1) → Commented comments bytes place true → AreFrom comments bytes place (tokens_from comments (byte ∷ rest) place line comment)
step_comment comments bytes place byte line rest a e more h =
    subst (AreFrom comments bytes place) (sym (comment_step comments byte rest place line)) (pass_over comments bytes place byte line rest true a e more (comment_byte comments bytes place h) h)

step_inside : (comments : Bool) (bytes : List ℕ) (place byte line start : ℕ) (rest : List ℕ) → IsAt bytes place byte rest → line ≡ line_at bytes place → RestIsRight comments bytes rest (place + 1) → IsWithin comments bytes place line start → (v : Bool) → ends_run comments byte ≡ v → AreFrom comments bytes start (tokens_from comments (byte ∷ rest) place line (inside start))
step_inside comments bytes place byte line start rest a e more w true f =
    let none = end_byte comments bytes place byte a.here f in
    let behind = subst (AreFrom comments bytes place) (sym (between_step comments byte rest place line f)) (pass_over comments bytes place byte line rest false a e more none w.plain) in
    subst (AreFrom comments bytes start) (sym (end_step comments byte rest place line start f)) (with_token comments bytes start place line _ w.begun none behind)
step_inside comments bytes place byte line start rest a e more w false f =
    let solid = token_byte comments bytes place byte a.here w.plain f in
    subst (AreFrom comments bytes start) (sym (run_step comments byte rest place line start f)) (more line (inside start) (same_line bytes place byte line rest comments a f e) (record { plain = still_plain comments bytes place byte a.here f w.plain; begun = begun_more comments bytes start place line w.begun solid }))

step : (comments : Bool) (bytes : List ℕ) (place byte : ℕ) (rest : List ℕ) → IsAt bytes place byte rest → RestIsRight comments bytes rest (place + 1) → RestIsRight comments bytes (byte ∷ rest) place
step comments bytes place byte rest a more line between e s = step_between comments bytes place byte line rest a e more s (ends_run comments byte) refl
step comments bytes place byte rest a more line comment e s = step_comment comments bytes place byte line rest a e more s
step comments bytes place byte rest a more line (inside start) e s = step_inside comments bytes place byte line start rest a e more s (ends_run comments byte) refl

at_end : (comments : Bool) (bytes : List ℕ) (place : ℕ) → length bytes ≤ place → RestIsRight comments bytes [] place
at_end comments bytes place h line between e s = are_none comments bytes place h
at_end comments bytes place h line comment e s = are_none comments bytes place h
at_end comments bytes place h line (inside start) e s = with_token comments bytes start place line [] s.begun (no_byte comments bytes place h) (are_none comments bytes place h)

rest_right : (comments : Bool) (bytes rest : List ℕ) (place : ℕ) → drop place bytes ≡ rest → RestIsRight comments bytes rest place
rest_right comments bytes [] place e = at_end comments bytes place (past bytes place e)
rest_right comments bytes (byte ∷ rest) place e = let a = is_at bytes place byte rest e in step comments bytes place byte rest a (rest_right comments bytes rest (place + 1) a.behind)

-- ---- the whole text
no_hash_before : (comments : Bool) (bytes : List ℕ) → Commented comments bytes 0 false
no_hash_before comments bytes on k = let h : k.hash < 0 = k.before in omega arith

at_start : (comments : Bool) (bytes : List ℕ) → AreFrom comments bytes 0 (left_at comments bytes 0 1)
at_start comments bytes = rest_right comments bytes bytes 0 refl 1 between refl (record { plain = no_hash_before comments bytes; before = λ i e. absurd (omega (arith, e)) })

pub are_tokens : (comments : Bool) (bytes : List ℕ) → AreTokens comments bytes (left_at comments bytes 0 1)
are_tokens comments bytes = let r = at_start comments bytes in record {
  each = r.each;
  ascending = r.ascending;
  complete = λ t k. r.complete t k (omega arith);
}

pub cursor_at_start : (comments : Bool) (bytes : List ℕ) → length bytes ≤ 16777216 → IsCursor comments bytes 0 1
cursor_at_start comments bytes h = record { short = h; within = omega arith; lines = omega arith; tokens = (at_start comments bytes).each }
