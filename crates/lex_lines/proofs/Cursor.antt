-- How far the pass goes: to a token's end, and to a line's.
use Rattle.std.proofs.Common.{◌≡◌, ℕ, ◌+◌, ◌<◌, ◌≤◌, ◌-◌, suc, Bool, true, false, cond, List, [], ◌∷◌, ◌++◌, length, take, drop, get_or, slice_index, filter, refl, sym, ◌∙◌, arith, drop-drop, length-drop}
use Rattle.std.proofs.Math.Numerals.{one-add}
use Rattle.std.specs.Prelude.{nat_lt}
use Rattle.std.specs.List.{position_or_len}
use Rattle.std.proofs.lemmas.Bool.{lt-ltb, le-ltb}
use Rattle.std.proofs.lemmas.List.Elements.{filter-append, All-rest, All-same, All-head, All-filter}
use Rattle.std.proofs.lemmas.List.{take_all}
use Rattle.std.proofs.Math.Seq.{drop-cons}
use Rattle.lex_lines.specs.Places.{IsToken}
use Rattle.lex_lines.specs.declared.token.Token.{Token}
use Rattle.lex_lines.specs.Bytes.{is_feed}
use Rattle.lex_lines.specs.Scan.{Standing, between, comment, inside, ends_run, line_after, finish, after, ended, tokens_from}
use Rattle.lex_lines.specs.inner.Cursors.{left_at, IsCursor}
use Rattle.lex_lines.proofs.Steps.{token, feed_ends, begin_step, run_step, end_step}

-- ---- the end of a token
far : (p k end : ℕ) → end ≡ p + (1 + k) → end ≡ (p + 1) + k
far p k end e = omega (arith, e)

at_place : (p end : ℕ) → end ≡ p + 0 → end ≡ p
at_place p end e = omega (arith, e)

stay : (comments : Bool) (bytes : List ℕ) (place line k end : ℕ) → k ≡ 0 → end ≡ place + k → tokens_from comments bytes place line between ≡ tokens_from comments (drop k bytes) end line between
stay comments bytes place line k end z e =
    let same : end ≡ place = at_place place end (rw z at e) in
    rw (z, same) refl

stay_token : (start place line end : ℕ) (xs ys : List Token) → end ≡ place → xs ≡ ys → token start place line ∷ xs ≡ token start end line ∷ ys
stay_token start place line end xs ys e f = rw (e, f) refl

go_on : (byte : ℕ) (bytes : List ℕ) (k j : ℕ) → k ≡ 1 + j → drop k (byte ∷ bytes) ≡ drop j bytes
go_on byte bytes k j e = rw (e, one-add) refl

first_passes : (p : ℕ → Bool) (byte : ℕ) (bytes : List ℕ) → p byte ≡ true → position_or_len p (byte ∷ bytes) ≡ 0
first_passes p byte bytes h = rw h refl

first_fails : (p : ℕ → Bool) (byte : ℕ) (bytes : List ℕ) → p byte ≡ false → position_or_len p (byte ∷ bytes) ≡ 1 + position_or_len p bytes
first_fails p byte bytes h = rw h refl

run_cons : (comments : Bool) (byte : ℕ) (bytes : List ℕ) (place line start end : ℕ) → ((end : ℕ) → end ≡ (place + 1) + position_or_len (λ b. ends_run comments b) bytes → tokens_from comments bytes (place + 1) line (inside start) ≡ token start end line ∷ tokens_from comments (drop (position_or_len (λ b. ends_run comments b) bytes) bytes) end line between) → end ≡ place + position_or_len (λ b. ends_run comments b) (byte ∷ bytes) → (v : Bool) → ends_run comments byte ≡ v → tokens_from comments (byte ∷ bytes) place line (inside start) ≡ token start end line ∷ tokens_from comments (drop (position_or_len (λ b. ends_run comments b) (byte ∷ bytes)) (byte ∷ bytes)) end line between
run_cons comments byte bytes place line start end more e true h =
    let z = first_passes (λ b. ends_run comments b) byte bytes h in
    end_step comments byte bytes place line start h ∙ stay_token start place line end _ _ (at_place place end (rw z at e)) (stay comments (byte ∷ bytes) place line _ end z e)
run_cons comments byte bytes place line start end more e false h =
    let one = first_fails (λ b. ends_run comments b) byte bytes h in
    run_step comments byte bytes place line start h ∙ rw (go_on byte bytes _ _ one) (more end (far place _ end (rw one at e)))

pub run : (comments : Bool) (bytes : List ℕ) (place line start end : ℕ) → end ≡ place + position_or_len (λ b. ends_run comments b) bytes → tokens_from comments bytes place line (inside start) ≡ token start end line ∷ tokens_from comments (drop (position_or_len (λ b. ends_run comments b) bytes) bytes) end line between
run comments [] place line start end e = rw (at_place place end e) refl
run comments (byte ∷ bytes) place line start end e =
    run_cons comments byte bytes place line start end (λ far. run comments bytes (place + 1) line start far) e (ends_run comments byte) refl

-- ---- the end of a line
-- the tests of a token's line
abbrev pub behind : ℕ → Token → Bool
behind line t = nat_lt line t.line

no_later : (n : ℕ) → nat_lt n n ≡ false
no_later n = le-ltb n n (omega arith)

finish_here : (place line : ℕ) (standing : Standing) → filter (behind line) (finish place line standing) ≡ []
finish_here place line between = refl
finish_here place line comment = refl
finish_here place line (inside start) = rw (no_later line) refl

finish_later : (place n line : ℕ) → n < line → (standing : Standing) → filter (behind n) (finish place line standing) ≡ finish place line standing
finish_later place n line h between = refl
finish_later place n line h comment = refl
finish_later place n line h (inside start) = rw (lt-ltb n line h) refl

filter_cond : (test : Token → Bool) (b : Bool) (xs ys : List Token) → filter test xs ≡ ys → filter test (cond b xs []) ≡ cond b ys []
filter_cond test true xs ys e = e
filter_cond test false xs ys e = refl

none : (b : Bool) → cond b (let xs : List Token = [] in xs) [] ≡ []
none true = refl
none false = refl

no_feed_line : (line byte : ℕ) → is_feed byte ≡ false → line_after line byte ≡ line
no_feed_line line byte e = rw e refl

feed_line : (line byte : ℕ) → is_feed byte ≡ true → line_after line byte ≡ line + 1
feed_line line byte e = rw e refl

line_after-le : (n line byte : ℕ) → n < line → (v : Bool) → is_feed byte ≡ v → n < line_after line byte
line_after-le n line byte h true e = rw e (omega arith)
line_after-le n line byte h false e = rw e h

cong_append : {a b c d : List Token} → a ≡ b → c ≡ d → a ++ c ≡ b ++ d
cong_append e f = cc

-- all lines from here on are later ones
all_later : (comments : Bool) (bytes : List ℕ) (place n line : ℕ) → n < line → (standing : Standing) → filter (behind n) (tokens_from comments bytes place line standing) ≡ tokens_from comments bytes place line standing
all_later comments [] place n line h standing = finish_later place n line h standing
all_later comments (byte ∷ bytes) place n line h standing =
    let first : filter (behind n) (ended comments byte place line standing) ≡ ended comments byte place line standing = filter_cond (behind n) (ends_run comments byte) (finish place line standing) (finish place line standing) (finish_later place n line h standing) in
    let more = all_later comments bytes (place + 1) n (line_after line byte) (line_after-le n line byte h (is_feed byte) refl) (after comments byte place standing) in
    filter-append (behind n) (ended comments byte place line standing) _ ∙ cong_append first more

-- a line feed ends each comment and each token
at_feed : (comments : Bool) (byte place : ℕ) → is_feed byte ≡ true → (standing : Standing) → after comments byte place standing ≡ between
at_feed comments byte place e between = rw (feed_ends comments byte e, e) refl
at_feed comments byte place e comment = rw e refl
at_feed comments byte place e (inside start) = rw (feed_ends comments byte e, e) refl

feed_between : (comments : Bool) (byte : ℕ) (bytes : List ℕ) (place line : ℕ) → is_feed byte ≡ true → tokens_from comments (byte ∷ bytes) place line between ≡ tokens_from comments bytes (place + 1) (line + 1) between
feed_between comments byte bytes place line e = rw (feed_ends comments byte e, e) refl

-- the tokens that end here are of this line
ended_here : (comments : Bool) (byte : ℕ) (place line : ℕ) (standing : Standing) (rest : List Token) → filter (behind line) (ended comments byte place line standing ++ rest) ≡ filter (behind line) rest
ended_here comments byte place line standing rest =
    let gone : filter (behind line) (ended comments byte place line standing) ≡ [] = filter_cond (behind line) (ends_run comments byte) (finish place line standing) [] (finish_here place line standing) ∙ none (ends_run comments byte) in
    filter-append (behind line) (ended comments byte place line standing) rest ∙ rw gone refl

line_cons : (comments : Bool) (byte : ℕ) (bytes : List ℕ) (place line end : ℕ) (standing : Standing) → ((end : ℕ) (next : Standing) → end ≡ (place + 1) + position_or_len is_feed bytes → filter (behind line) (tokens_from comments bytes (place + 1) line next) ≡ tokens_from comments (drop (position_or_len is_feed bytes) bytes) end line between) → end ≡ place + position_or_len is_feed (byte ∷ bytes) → (v : Bool) → is_feed byte ≡ v → filter (behind line) (tokens_from comments (byte ∷ bytes) place line standing) ≡ tokens_from comments (drop (position_or_len is_feed (byte ∷ bytes)) (byte ∷ bytes)) end line between
line_cons comments byte bytes place line end standing more e true h =
    let kept : filter (behind line) (tokens_from comments bytes (place + 1) (line + 1) between) ≡ tokens_from comments bytes (place + 1) (line + 1) between = all_later comments bytes (place + 1) line (line + 1) (omega arith) between in
    ended_here comments byte place line standing _ ∙ rw (at_feed comments byte place h standing, feed_line line byte h) (kept ∙ sym (feed_between comments byte bytes place line h) ∙ stay comments (byte ∷ bytes) place line _ end (first_passes is_feed byte bytes h) e)
line_cons comments byte bytes place line end standing more e false h =
    let one = first_fails is_feed byte bytes h in
    ended_here comments byte place line standing _ ∙ rw (no_feed_line line byte h, go_on byte bytes _ _ one) (more end (after comments byte place standing) (far place _ end (rw one at e)))

pub line_rest : (comments : Bool) (bytes : List ℕ) (place line end : ℕ) (standing : Standing) → end ≡ place + position_or_len is_feed bytes → filter (behind line) (tokens_from comments bytes place line standing) ≡ tokens_from comments (drop (position_or_len is_feed bytes) bytes) end line between
line_rest comments [] place line end standing e = finish_here place line standing
line_rest comments (byte ∷ bytes) place line end standing e =
    line_cons comments byte bytes place line end standing (λ end next. line_rest comments bytes (place + 1) line end next) e (is_feed byte) refl

-- ---- by places in the text
drop_further : (n k : ℕ) (xs : List ℕ) → drop k (drop n xs) ≡ drop (n + k) xs
drop_further n k xs = drop-drop k n xs

begun : (comments : Bool) (start line byte : ℕ) (bytes rest : List ℕ) → rest ≡ byte ∷ bytes → ends_run comments byte ≡ false → tokens_from comments rest start line between ≡ tokens_from comments rest start line (inside start)
begun comments start line byte bytes rest e h = rw e (begin_step comments byte bytes start line h ∙ sym (run_step comments byte bytes start line start h))

-- the bytes from a place on, as a slice has them
tail_whole : (n : ℕ) (xs : List ℕ) → take (length xs - n) (drop n xs) ≡ drop n xs
tail_whole n xs = let e : length (drop n xs) ≤ length xs - n = rw length-drop (omega arith) in take_all (length xs - n) (drop n xs) e

-- the token that begins at the place
taken : (comments : Bool) (text : List ℕ) (start line k : ℕ) → start < length text → ends_run comments (slice_index text start) ≡ false → k ≡ position_or_len (λ b. ends_run comments b) (take (length text - start) (drop start text)) → left_at comments text start line ≡ token start (start + k) line ∷ left_at comments text (start + k) line
taken comments text start line k h solid e =
    let cons : drop start text ≡ get_or text start 0 ∷ drop (suc start) text = drop-cons text start 0 h in
    let e' : k ≡ position_or_len (λ b. ends_run comments b) (drop start text) = rw tail_whole at e in
    let go = run comments (drop start text) start line start (start + k) (rw (← e') refl) in
    let first : left_at comments text start line ≡ tokens_from comments (drop start text) start line (inside start) = begun comments start line (get_or text start 0) (drop (suc start) text) (drop start text) cons solid in
    first ∙ go ∙ rw (← e', drop_further) refl

pub first_token : (comments : Bool) (text : List ℕ) (place line start later k : ℕ) → left_at comments text place line ≡ left_at comments text start later → start < length text → ends_run comments (slice_index text start) ≡ false → k ≡ position_or_len (λ b. ends_run comments b) (take (length text - start) (drop start text)) → left_at comments text place line ≡ token start (start + k) later ∷ left_at comments text (start + k) later
first_token comments text place line start later k same h solid e = same ∙ taken comments text start later k h solid e

-- the tokens of later lines
pub skipped : (comments : Bool) (text : List ℕ) (place line k : ℕ) → k ≡ position_or_len is_feed (take (length text - place) (drop place text)) → left_at comments text (place + k) line ≡ filter (behind line) (left_at comments text place line)
skipped comments text place line k e =
    let e' : k ≡ position_or_len is_feed (drop place text) = rw tail_whole at e in
    sym (line_rest comments (drop place text) place line (place + k) between (rw (← e') refl) ∙ rw (← e', drop_further) refl)

-- ---- the cursor stays one
pub past_token : (comments : Bool) (text : List ℕ) (place line end later : ℕ) (t : Token) → IsCursor comments text place line → end ≤ length text → later ≤ end + 1 → left_at comments text place line ≡ t ∷ left_at comments text end later → IsCursor comments text end later
past_token comments text place line end later t c within lines e = record {
  short = c.short;
  within = within;
  lines = lines;
  tokens = All-rest (IsToken comments text) t (left_at comments text end later) (left_at comments text place line) e c.tokens;
}

pub past_line : (comments : Bool) (text : List ℕ) (place line end : ℕ) → IsCursor comments text place line → place ≤ end → end ≤ length text → left_at comments text end line ≡ filter (behind line) (left_at comments text place line) → IsCursor comments text end line
past_line comments text place line end c on within e = record {
  short = c.short;
  within = within;
  lines = let k : line ≤ place + 1 = c.lines in omega arith;
  tokens = All-same (IsToken comments text) (left_at comments text end line) (filter (behind line) (left_at comments text place line)) e (All-filter (behind line) (IsToken comments text) (left_at comments text place line) c.tokens);
}

pub head_token : (comments : Bool) (text : List ℕ) (place line : ℕ) (t : Token) (rest : List Token) → IsCursor comments text place line → left_at comments text place line ≡ t ∷ rest → IsToken comments text t
head_token comments text place line t rest c e = All-head (IsToken comments text) t rest (All-same (IsToken comments text) (t ∷ rest) (left_at comments text place line) (sym e) c.tokens)
