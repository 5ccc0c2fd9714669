-- Which bytes are a token's, and which runs of them are tokens.
use Rattle.std.proofs.Common.{◌≡◌, ℕ, ◌+◌, ◌-◌, ◌<◌, ◌≤◌, Bool, true, false, ◌&&◌, ◌||◌, ◌⊎◌, inl, inr, List, length, refl, sym, ◌∙◌, subst, arith}
use Rattle.std.proofs.lemmas.Bool.{cases_lt, or_parts}
use Rattle.std.proofs.lemmas.Option.{slice_get_within}
use Rattle.std.specs.Prelude.{Some, slice_get}
use Rattle.lex_lines.specs.declared.token.Token.{Token}
use Rattle.lex_lines.specs.Bytes.{is_gap, is_hash}
use Rattle.lex_lines.specs.Places.{IsTokenByte, IsToken, line_at}
use Rattle.lex_lines.specs.Scan.{ends_run}
use Rattle.lex_lines.proofs.Comments.{Commented, one_byte, false_true, in_cases, behind_in, hash_in}
use Rattle.lex_lines.proofs.Steps.{token}

-- ---- one byte
and_second : (a b : Bool) → a ≡ true → (a && b) ≡ false → b ≡ false
and_second true b e f = f
and_second false b e f = false_true false e refl

pub token_byte : (comments : Bool) (bytes : List ℕ) (place byte : ℕ) → slice_get bytes place ≡ Some byte → Commented comments bytes place false → ends_run comments byte ≡ false → IsTokenByte comments bytes place
token_byte comments bytes place byte here h e =
    let parts = or_parts (is_gap byte) (comments && is_hash byte) e in
    record {
      byte = byte;
      at = here;
      no_gap = parts.0;
      no_comment = λ on k. elim (in_cases bytes place byte here k) [ inl is ↦ false_true (is_hash byte) is (and_second comments (is_hash byte) on parts.1) | inr behind ↦ h on behind ];
    }

gap_or_hash : (gap comments hash : Bool) → (gap || (comments && hash)) ≡ true → (gap ≡ true) ⊎ ((comments ≡ true) × (hash ≡ true))
gap_or_hash true comments hash e = inl refl
gap_or_hash false true hash e = inr (refl, e)
gap_or_hash false false hash e = false_true false e refl

ends_cases : (comments : Bool) (bytes : List ℕ) (place byte : ℕ) → slice_get bytes place ≡ Some byte → IsTokenByte comments bytes place → (is_gap byte ≡ true) ⊎ ((comments ≡ true) × (is_hash byte ≡ true)) → ⊥
ends_cases comments bytes place byte here k (inl gap) = false_true (is_gap byte) gap (rw (one_byte bytes place byte k.byte here k.at) k.no_gap)
ends_cases comments bytes place byte here k (inr h) = k.no_comment h.0 (hash_in bytes place byte here h.1)

pub end_byte : (comments : Bool) (bytes : List ℕ) (place byte : ℕ) → slice_get bytes place ≡ Some byte → ends_run comments byte ≡ true → ¬ IsTokenByte comments bytes place
end_byte comments bytes place byte here e k = ends_cases comments bytes place byte here k (gap_or_hash (is_gap byte) comments (is_hash byte) e)

pub comment_byte : (comments : Bool) (bytes : List ℕ) (place : ℕ) → Commented comments bytes place true → ¬ IsTokenByte comments bytes place
comment_byte comments bytes place h k = k.no_comment h.0 (behind_in bytes place h.1)

pub no_byte : (comments : Bool) (bytes : List ℕ) (place : ℕ) → length bytes ≤ place → ¬ IsTokenByte comments bytes place
no_byte comments bytes place past k = let h : place < length bytes = slice_get_within bytes place k.byte k.at in omega arith

-- ---- a run that begins at a place
-- the bytes from the start to before the place are a token's, and the one before the start is not
pub record IsBegun (comments : Bool) (bytes : List ℕ) (start place line : ℕ) : Type 0 where
  pub some : start < place
  pub bytes_of : (i : ℕ) → start ≤ i → i < place → IsTokenByte comments bytes i
  pub before : (i : ℕ) → i + 1 ≡ start → ¬ IsTokenByte comments bytes i
  pub line_is : line ≡ line_at bytes start

abbrev pub ended_token : (comments : Bool) (bytes : List ℕ) (start place line : ℕ) → IsBegun comments bytes start place line → ¬ IsTokenByte comments bytes place → IsToken comments bytes (token start place line)
ended_token comments bytes start place line b e = record { some = b.some; bytes_of = b.bytes_of; before = b.before; after = e; line = b.line_is }

begun_at : (comments : Bool) (bytes : List ℕ) (start place i : ℕ) → ((i : ℕ) → start ≤ i → i < place → IsTokenByte comments bytes i) → IsTokenByte comments bytes place → start ≤ i → (i < place) ⊎ (place ≤ i) → i < place + 1 → IsTokenByte comments bytes i
begun_at comments bytes start place i h k low (inl lt) high = h i low lt
begun_at comments bytes start place i h k low (inr ge) high = let e : place ≡ i = omega arith in subst (λ (n : ℕ). IsTokenByte comments bytes n) e k

pub begun_more : (comments : Bool) (bytes : List ℕ) (start place line : ℕ) → IsBegun comments bytes start place line → IsTokenByte comments bytes place → IsBegun comments bytes start (place + 1) line
begun_more comments bytes start place line b k = record {
  some = let h : start < place = b.some in omega arith;
  bytes_of = λ i low high. begun_at comments bytes start place i b.bytes_of k low (cases_lt i place) high;
  before = b.before;
  line_is = b.line_is;
}

pub begun_one : (comments : Bool) (bytes : List ℕ) (place line : ℕ) → ((i : ℕ) → i + 1 ≡ place → ¬ IsTokenByte comments bytes i) → IsTokenByte comments bytes place → line ≡ line_at bytes place → IsBegun comments bytes place (place + 1) line
begun_one comments bytes place line before k e = record {
  some = omega arith;
  bytes_of = λ i low high. let e : place ≡ i = omega (arith, low, high) in subst (λ (n : ℕ). IsTokenByte comments bytes n) e k;
  before = before;
  line_is = e;
}

-- ---- only one token begins at a place
same_fields : (t : Token) (start end line : ℕ) → t.from ≡ start → t.to ≡ end → t.line ≡ line → t ≡ token start end line
same_fields t start end line e f g = rw (← e, ← f, ← g) refl

-- two runs from one place: neither ends before the other
end_no_sooner : (comments : Bool) (bytes : List ℕ) (start a b : ℕ) → start < a → ((i : ℕ) → start ≤ i → i < b → IsTokenByte comments bytes i) → ¬ IsTokenByte comments bytes a → b ≤ a
end_no_sooner comments bytes start a b h all e = elim (cases_lt a b) [ inl lt ↦ absurd (e (all a (omega arith) lt)) | inr ge ↦ ge ]

pub same_token : (comments : Bool) (bytes : List ℕ) (start place line : ℕ) (t : Token) → IsBegun comments bytes start place line → ¬ IsTokenByte comments bytes place → IsToken comments bytes t → t.from ≡ start → t ≡ token start place line
same_token comments bytes start place line t b e k f =
    let some : start < t.to = rw (← f) k.some in
    let all : (i : ℕ) → start ≤ i → i < t.to → IsTokenByte comments bytes i = rw f at k.bytes_of in
    let one : place ≤ t.to = end_no_sooner comments bytes start t.to place some b.bytes_of k.after in
    let two : t.to ≤ place = end_no_sooner comments bytes start place t.to b.some all e in
    same_fields t start place line f (omega arith) (k.line ∙ rw f (sym b.line_is))

-- no token begins within a run
pub none_within : (comments : Bool) (bytes : List ℕ) (start place line : ℕ) (t : Token) → IsBegun comments bytes start place line → IsToken comments bytes t → start < t.from → t.from < place → ⊥
none_within comments bytes start place line t b k low high =
    k.before (t.from - 1) (omega arith) (b.bytes_of (t.from - 1) (omega arith) (omega arith))

-- no token begins where no byte is a token's
pub none_here : (comments : Bool) (bytes : List ℕ) (place : ℕ) (t : Token) → ¬ IsTokenByte comments bytes place → IsToken comments bytes t → t.from ≡ place → ⊥
none_here comments bytes place t e k f = e (k.bytes_of place (omega (arith, f)) (let h : t.from < t.to = k.some in omega (arith, f)))
