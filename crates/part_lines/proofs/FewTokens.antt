-- A text has no more tokens than bytes, and one.
use Rattle.std.proofs.Common.{◌≤◌, ◌+◌, ℕ, Bool, true, false, List, [], ◌∷◌, length, cond, arith}
use Rattle.lex_lines.specs.Scan.{Standing, between, comment, inside, finish, ended, ends_run, tokens_from, tokens_of, line_after, after}

one_finished : (place line : ℕ) (s : Standing) → length (finish place line s) ≤ 1
one_finished place line between = omega arith
one_finished place line comment = omega arith
one_finished place line (inside from) = omega arith

one_ended : (comments : Bool) (byte place line : ℕ) (s : Standing) → length (ended comments byte place line s) ≤ 1
one_ended comments byte place line s = by (ends_run comments byte)
  where
    by : (b : Bool) → length (cond b (finish place line s) []) ≤ 1
    by true = one_finished place line s
    by false = omega arith

few_from : (comments : Bool) (bytes : List ℕ) (place line : ℕ) (s : Standing) → length (tokens_from comments bytes place line s) ≤ length bytes + 1
few_from comments [] place line s = one_finished place line s
few_from comments (byte ∷ bytes) place line s = grind (arith, one_ended comments byte place line s, few_from comments bytes (place + 1) (line_after line byte) (after comments byte place s))

pub few_tokens : (comments : Bool) (text : List ℕ) → length (tokens_of comments text) ≤ length text + 1
few_tokens comments text = few_from comments text 0 1 between
