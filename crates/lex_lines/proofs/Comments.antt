-- Comments, byte by byte.
use Rattle.std.proofs.Common.{◌≡◌, ℕ, ◌+◌, ◌<◌, ◌≤◌, Bool, true, false, not, ◌&&◌, ◌||◌, ◌⊎◌, inl, inr, List, refl, sym, ◌∙◌, arith}
use Rattle.std.proofs.lemmas.Bool.{cases_lt}
use Rattle.std.specs.Prelude.{Some, slice_get}
use Rattle.lex_lines.specs.Bytes.{is_feed, is_hash}
use Rattle.lex_lines.specs.Places.{IsInComment}
use Rattle.lex_lines.specs.Scan.{comment_after}

-- a `#` stands before the place on its line
pub record IsBehindHash (bytes : List ℕ) (place : ℕ) : Type 0 where
  pub hash : ℕ
  pub byte : ℕ
  pub at : slice_get bytes hash ≡ Some byte
  pub is : is_hash byte ≡ true
  pub before : hash < place
  pub same_line : (i other : ℕ) → hash ≤ i → i < place → slice_get bytes i ≡ Some other → is_feed other ≡ false

-- ---- an element by its place
pub one_byte : (bytes : List ℕ) (i a b : ℕ) → slice_get bytes i ≡ Some a → slice_get bytes i ≡ Some b → a ≡ b
one_byte bytes i a b e f = let k : Some a ≡ Some b = sym e ∙ f in cc

same_test : (p : ℕ → Bool) (bytes : List ℕ) (i j a b : ℕ) (v : Bool) → i ≡ j → slice_get bytes i ≡ Some a → slice_get bytes j ≡ Some b → p b ≡ v → p a ≡ v
same_test p bytes i j a b v e at here h = rw (one_byte bytes j a b (rw e at at) here) h

pub false_true : {P : Type 0} → (b : Bool) → b ≡ true → b ≡ false → P
false_true b e f = let k : true ≡ false = sym e ∙ f in cc

last : (i p : ℕ) → i < p + 1 → (i < p) ⊎ (i ≡ p)
last i p h = elim (cases_lt i p) [ inl lt ↦ inl lt | inr le ↦ inr (omega arith) ]

-- ---- one byte further
line_kept : (bytes : List ℕ) (place byte hash i other : ℕ) → ((i other : ℕ) → hash ≤ i → i < place → slice_get bytes i ≡ Some other → is_feed other ≡ false) → slice_get bytes place ≡ Some byte → is_feed byte ≡ false → hash ≤ i → slice_get bytes i ≡ Some other → (i < place) ⊎ (i ≡ place) → is_feed other ≡ false
line_kept bytes place byte hash i other before here plain low at (inl lt) = before i other low lt at
line_kept bytes place byte hash i other before here plain low at (inr e) = same_test is_feed bytes i place other byte false e at here plain

pub in_to_behind : (bytes : List ℕ) (place byte : ℕ) → slice_get bytes place ≡ Some byte → is_feed byte ≡ false → IsInComment bytes place → IsBehindHash bytes (place + 1)
in_to_behind bytes place byte here plain k = record {
  hash = k.hash;
  byte = k.byte;
  at = k.at;
  is = k.is;
  before = let h : k.hash ≤ place = k.before in omega arith;
  same_line = λ i other low high at. line_kept bytes place byte k.hash i other k.same_line here plain low at (last i place high);
}

pub behind_to_in : (bytes : List ℕ) (place : ℕ) → IsBehindHash bytes (place + 1) → IsInComment bytes place
behind_to_in bytes place k = record {
  hash = k.hash;
  byte = k.byte;
  at = k.at;
  is = k.is;
  before = let h : k.hash < place + 1 = k.before in omega arith;
  same_line = λ i other low high at. k.same_line i other low (let h : i < place = high in omega arith) at;
}

pub behind_in : (bytes : List ℕ) (place : ℕ) → IsBehindHash bytes place → IsInComment bytes place
behind_in bytes place k = record {
  hash = k.hash;
  byte = k.byte;
  at = k.at;
  is = k.is;
  before = let h : k.hash < place = k.before in omega arith;
  same_line = k.same_line;
}

pub no_feed_behind : (bytes : List ℕ) (place byte : ℕ) → slice_get bytes place ≡ Some byte → IsBehindHash bytes (place + 1) → is_feed byte ≡ false
no_feed_behind bytes place byte here k = k.same_line place byte (let h : k.hash < place + 1 = k.before in omega arith) (omega arith) here

pub hash_in : (bytes : List ℕ) (place byte : ℕ) → slice_get bytes place ≡ Some byte → is_hash byte ≡ true → IsInComment bytes place
hash_in bytes place byte here is = record {
  hash = place;
  byte = byte;
  at = here;
  is = is;
  before = omega arith;
  same_line = λ i other low high at. absurd (omega (arith, low, high));
}

in_cases_at : (bytes : List ℕ) (place byte : ℕ) → slice_get bytes place ≡ Some byte → (k : IsInComment bytes place) → (k.hash < place) ⊎ (k.hash ≡ place) → (is_hash byte ≡ true) ⊎ IsBehindHash bytes place
in_cases_at bytes place byte here k (inl lt) = inr (record { hash = k.hash; byte = k.byte; at = k.at; is = k.is; before = lt; same_line = k.same_line })
in_cases_at bytes place byte here k (inr e) = inl (same_test is_hash bytes place k.hash byte k.byte true (sym e) here k.at k.is)

-- the byte in a comment begins it, or stands behind its `#`
pub in_cases : (bytes : List ℕ) (place byte : ℕ) → slice_get bytes place ≡ Some byte → IsInComment bytes place → (is_hash byte ≡ true) ⊎ IsBehindHash bytes place
in_cases bytes place byte here k = in_cases_at bytes place byte here k (last k.hash place (let h : k.hash ≤ place = k.before in omega arith))

-- ---- whether the pass is in a comment
abbrev pub Commented : Bool → List ℕ → ℕ → Bool → Type 0
Commented comments bytes place true = (comments ≡ true) × IsBehindHash bytes place
Commented comments bytes place false = comments ≡ true → ¬ IsBehindHash bytes place

none_behind : (comments : Bool) (bytes : List ℕ) (place byte : ℕ) → slice_get bytes place ≡ Some byte → is_hash byte ≡ false → Commented comments bytes place false → Commented comments bytes (place + 1) false
none_behind comments bytes place byte here plain h on k = elim (in_cases bytes place byte here (behind_to_in bytes place k)) [ inl is ↦ false_true (is_hash byte) is plain | inr behind ↦ h on behind ]

on_line : (comments : Bool) (bytes : List ℕ) (place byte : ℕ) (k : Bool) → slice_get bytes place ≡ Some byte → is_feed byte ≡ false → Commented comments bytes place k → (hash : Bool) → is_hash byte ≡ hash → Commented comments bytes (place + 1) (k || (comments && hash))
on_line comments bytes place byte true here plain h hash is = (h.0, in_to_behind bytes place byte here plain (behind_in bytes place h.1))
on_line true bytes place byte false here plain h true is = (refl, in_to_behind bytes place byte here plain (hash_in bytes place byte here is))
on_line true bytes place byte false here plain h false is = none_behind true bytes place byte here is h
on_line false bytes place byte false here plain h hash is = λ on k. false_true false on refl

at_byte : (comments : Bool) (bytes : List ℕ) (place byte : ℕ) (k : Bool) → slice_get bytes place ≡ Some byte → Commented comments bytes place k → (feed : Bool) → is_feed byte ≡ feed → Commented comments bytes (place + 1) (not feed && (k || (comments && is_hash byte)))
at_byte comments bytes place byte k here h true e = λ on behind. false_true (is_feed byte) e (no_feed_behind bytes place byte here behind)
at_byte comments bytes place byte k here h false e = on_line comments bytes place byte k here e h (is_hash byte) refl

pub commented_after : (comments : Bool) (bytes : List ℕ) (place byte : ℕ) (k : Bool) → slice_get bytes place ≡ Some byte → Commented comments bytes place k → Commented comments bytes (place + 1) (comment_after comments k byte)
commented_after comments bytes place byte k here h = at_byte comments bytes place byte k here h (is_feed byte) refl
