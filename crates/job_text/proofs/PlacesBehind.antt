-- The place behind one byte more.
use Rattle.std.proofs.Common.{◌≡◌, ℕ, ◌+◌, Bool, true, false, cond, List, [], ◌∷◌, ◌++◌, All, length, inl, inr, refl, sym, ap, ◌∙◌, arith, append-nil, append_assoc, length-append}
use Rattle.std.specs.Prelude.{◌≢◌, filter}
use Rattle.std.proofs.lemmas.Bool.{false≢true}
use Rattle.std.proofs.lemmas.Bool.Decides.{nat_tests}
use Rattle.std.proofs.lemmas.List.Elements.{All-nil, All-push, All-head, All-tail, filter-append}
use Rattle.toml_parser.specs.Lexical.{line_feed}
use Rattle.job_text.specs.declared.place.TextPlace.{TextPlace}
use Rattle.job_text.specs.Places.{is_line_feed, begins_character, IsTextPlaceAfter}

not_feed : (byte : ℕ) → byte ≢ line_feed → is_line_feed byte ≡ false
not_feed byte other = grind (arith, nat_tests)

-- a line has no line feed in it
no_feeds : (here : List ℕ) → All (λ byte. byte ≢ line_feed) here → length (filter is_line_feed here) ≡ 0
no_feeds [] h = refl
no_feeds (byte ∷ here) h = rw (not_feed byte (All-head (λ byte. byte ≢ line_feed) byte here h)) (no_feeds here (All-tail (λ byte. byte ≢ line_feed) byte here h))

-- how many bytes of a kind there are with one more
one_more : (p : ℕ → Bool) (text : List ℕ) (byte : ℕ) → length (filter p (text ++ byte ∷ [])) ≡ cond (p byte) (length (filter p text) + 1) (length (filter p text))
one_more p text byte = ap length (filter-append p text (byte ∷ [])) ∙ by (p byte)
  where
    by : (b : Bool) → length (filter p text ++ cond b (byte ∷ []) []) ≡ cond b (length (filter p text) + 1) (length (filter p text))
    by true = length-append (filter p text) (byte ∷ [])
    by false = ap length (append-nil (filter p text))

pub place_none : (place : TextPlace) → place.line ≡ 1 → place.column ≡ 1 → IsTextPlaceAfter [] place
place_none place l c = record { before = []; here = []; parts = refl; whole = inl refl; one_line = All-nil (λ byte. byte ≢ line_feed); line = l; column = c }

pub place_more : (text : List ℕ) (place next : TextPlace) (byte : ℕ) → IsTextPlaceAfter text place → next.line ≡ cond (is_line_feed byte) (place.line + 1) place.line
    → next.column ≡ cond (is_line_feed byte) 1 (cond (begins_character byte) (place.column + 1) place.column) → IsTextPlaceAfter (text ++ byte ∷ []) next
place_more text place next byte h l c = by (is_line_feed byte) refl l c
  where
    feeds : length (filter is_line_feed text) ≡ length (filter is_line_feed h.before)
    feeds = ap (λ t. length (filter is_line_feed t)) h.parts ∙ ap length (filter-append is_line_feed h.before h.here) ∙ length-append (filter is_line_feed h.before) (filter is_line_feed h.here)
        ∙ ap (λ n. length (filter is_line_feed h.before) + n) (no_feeds h.here h.one_line) ∙ no_more (length (filter is_line_feed h.before))
      where
        no_more : (n : ℕ) → n + 0 ≡ n
        no_more n = omega arith

    by : (b : Bool) → is_line_feed byte ≡ b → next.line ≡ cond b (place.line + 1) place.line → next.column ≡ cond b 1 (cond (begins_character byte) (place.column + 1) place.column)
        → IsTextPlaceAfter (text ++ byte ∷ []) next
    by true is l c = record {
      before = text ++ byte ∷ [];
      here = [];
      parts = sym (append-nil (text ++ byte ∷ []));
      whole = inr (text, ap (λ x. text ++ x ∷ []) (same byte is));
      one_line = All-nil (λ byte. byte ≢ line_feed);
      line = lines (length (filter is_line_feed text)) (length (filter is_line_feed h.before)) (length (filter is_line_feed (text ++ byte ∷ []))) feeds (one_more is_line_feed text byte ∙ ap (λ b. cond b (length (filter is_line_feed text) + 1) (length (filter is_line_feed text))) is) h.line l;
      column = c;
    }
      where
        same : (byte : ℕ) → is_line_feed byte ≡ true → byte ≡ line_feed
        same byte is = grind (arith, nat_tests)

        lines : (n m k : ℕ) → n ≡ m → k ≡ n + 1 → place.line ≡ 1 + m → next.line ≡ place.line + 1 → next.line ≡ 1 + k
        lines n m k e f p q = omega arith
    by false is l c = record {
      before = h.before;
      here = h.here ++ byte ∷ [];
      parts = ap (λ t. t ++ byte ∷ []) h.parts ∙ append_assoc h.before h.here (byte ∷ []);
      whole = h.whole;
      one_line = All-push (λ byte. byte ≢ line_feed) h.here byte h.one_line (apart byte is);
      line = l ∙ h.line;
      column = columns (begins_character byte) (length (filter begins_character h.here)) (length (filter begins_character (h.here ++ byte ∷ []))) (one_more begins_character h.here byte) h.column c;
    }
      where
        apart : (byte : ℕ) → is_line_feed byte ≡ false → byte ≢ line_feed
        apart byte is e = absurd (false≢true (sym is ∙ ap is_line_feed e))

        columns : (b : Bool) (n k : ℕ) → k ≡ cond b (n + 1) n → place.column ≡ 1 + n → next.column ≡ cond b (place.column + 1) place.column → next.column ≡ 1 + k
        columns true n k e p q = omega arith
        columns false n k e p q = omega arith
