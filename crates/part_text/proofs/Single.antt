-- Steps that make one thing of the tokens.
use Rattle.std.proofs.Common.{◌≡◌, inl, inr, ℕ, zero, suc, ◌<◌, ◌≤◌, ℤ, List, [], ◌∷◌, sym, ap, subst, ◌∙◌, arith, Ok, Err}
use Rattle.dec_text.specs.Numbers.{magnitude_of}
use Rattle.dec_text.specs.declared.number.Length.{Length}
use Rattle.dec_text.proofs.Parts.{one_value, one_units}
use Rattle.lex_lines.specs.declared.token.Token.{Token}
use Rattle.weld.specs.declared.fault.PartKind.{PartKind}
use Rattle.weld.specs.declared.fault.Want.{Want}
use Rattle.weld.specs.declared.fault.Want.TheVariants as want
use Rattle.part_text.specs.Steps.{Reading, Step, StepGives, Fails, After, ◌then◌, Times, Computes}
use Rattle.part_text.specs.Words.{text_of, NextToken, Units}
use Rattle.part_text.specs.Vertices.{end, Coordinate, Vertex, SkipLine}

-- ---- steps
-- what two steps make of the same tokens is one thing
pub record AreSame {X : Type 0} (step other : Step X) : Type 0 where
  pub one : (tokens : List Token) (r s : Reading X) → step tokens r → other tokens s → r ≡ s

-- the step makes one thing of the tokens
abbrev pub IsSingle : {X : Type 0} → Step X → Type 0
IsSingle step = AreSame step step

pub one_computed : {X : Type 0} (f : List Token → Reading X) → IsSingle (Computes f)
one_computed f = record { one = λ tokens r s e h. e ∙ sym h }

pub one_given : {X : Type 0} (x : X) → IsSingle (StepGives x)
one_given x = record { one = λ tokens r s e h. e ∙ sym h }

pub one_failed : {X : Type 0} (line : ℕ) (kind : PartKind) → IsSingle (Fails {X = X} line kind)
one_failed line kind = record { one = λ tokens r s e h. e ∙ sym h }

same_after : {X Y : Type 0} (next after : X → Step Y) → ((x : X) → AreSame (next x) (after x)) → (made : Reading X) (r s : Reading Y) → After next made r → After after made s → r ≡ s
same_after next after n (Ok (x, tokens)) r s p q = (n x).one tokens r s p q
same_after next after n (Err fault) r s p q = p ∙ sym q

same_then_at : {X Y : Type 0} (first other : Step X) (next after : X → Step Y) → AreSame first other → ((x : X) → AreSame (next x) (after x)) → (tokens : List Token) (r s : Reading Y) → (first then next) tokens r → (other then after) tokens s → r ≡ s
same_then_at first other next after f n tokens r s (made, a, p) (second, b, q) = same_after next after n made r s p (subst (λ m. After after m s) (sym (f.one tokens made second a b)) q)

pub same_then : {X Y : Type 0} {first other : Step X} {next after : X → Step Y} → AreSame first other → ((x : X) → AreSame (next x) (after x)) → AreSame (first then next) (other then after)
same_then {X} {Y} {first} {other} {next} {after} f n = record { one = same_then_at first other next after f n }

pub one_then : {X Y : Type 0} {first : Step X} {next : X → Step Y} → IsSingle first → ((x : X) → IsSingle (next x)) → IsSingle (first then next)
one_then f n = same_then f n

pub one_times : {X : Type 0} (n : ℕ) (step : Step X) → IsSingle step → IsSingle (Times n step)
one_times zero step h = one_given []
one_times (suc n) step h = one_then h (λ x. one_then (one_times n step h) (λ xs. one_given (x ∷ xs)))

-- ---- tokens
next_at : (line : ℕ) (what : Want) (tokens : List Token) (r s : Reading Token) → NextToken line what tokens r → NextToken line what tokens s → r ≡ s
next_at line what [] r s e h = e ∙ sym h
next_at line what (t ∷ tokens) r s e h = e ∙ sym h

pub one_next : (line : ℕ) (what : Want) → IsSingle (NextToken line what)
one_next line what = record { one = next_at line what }

-- ---- units
both_sizes : {P : Type 0} (small large : ℕ) → small ≡ large → small ≤ 1048576 → 1048576 < large → P
both_sizes small large e h k = absurd (omega arith)

units_at : (decimals : ℕ) (unit : Length) (text : List ℕ) (line : ℕ) (tokens : List Token) (r s : Reading ℤ) → Units decimals unit text line tokens r → Units decimals unit text line tokens s → r ≡ s
units_at decimals unit text line tokens r s (inl (n, a, e)) (inl (m, b, h)) = e ∙ ap (λ (z : ℤ). Ok (z, tokens)) (one_units decimals unit text n m) ∙ sym h
units_at decimals unit text line tokens r s (inl (n, a, e)) (inr (inl (m, b, h))) = both_sizes (magnitude_of decimals unit n) (magnitude_of decimals unit m) (one_value decimals unit text n m) a b
units_at decimals unit text line tokens r s (inl (n, a, e)) (inr (inr (never, h))) = absurd (never n)
units_at decimals unit text line tokens r s (inr (inl (n, a, e))) (inl (m, b, h)) = both_sizes (magnitude_of decimals unit m) (magnitude_of decimals unit n) (one_value decimals unit text m n) b a
units_at decimals unit text line tokens r s (inr (inl (n, a, e))) (inr (inl (m, b, h))) = e ∙ sym h
units_at decimals unit text line tokens r s (inr (inl (n, a, e))) (inr (inr (never, h))) = absurd (never n)
units_at decimals unit text line tokens r s (inr (inr (never, e))) (inl (m, b, h)) = absurd (never m)
units_at decimals unit text line tokens r s (inr (inr (never, e))) (inr (inl (m, b, h))) = absurd (never m)
units_at decimals unit text line tokens r s (inr (inr (never, e))) (inr (inr (none, h))) = e ∙ sym h

one_units_of : (decimals : ℕ) (unit : Length) (text : List ℕ) (line : ℕ) → IsSingle (Units decimals unit text line)
one_units_of decimals unit text line = record { one = units_at decimals unit text line }

-- ---- vertices and lines
one_coordinate : (decimals : ℕ) (unit : Length) (bytes : List ℕ) → IsSingle (Coordinate decimals unit bytes)
one_coordinate decimals unit bytes = one_then (one_next (end bytes) want.Coordinate) (λ t. one_units_of decimals unit (text_of bytes t) t.line)

pub one_vertex : (decimals : ℕ) (unit : Length) (bytes : List ℕ) → IsSingle (Vertex decimals unit bytes)
one_vertex decimals unit bytes =
    let c = one_coordinate decimals unit bytes in
    one_then c (λ x. one_then c (λ y. one_then c (λ z. one_given (record { x = x; y = y; z = z }))))

pub one_skip : (line : ℕ) → IsSingle (SkipLine line)
one_skip line = one_computed _
