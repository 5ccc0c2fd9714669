-- What a count makes, from what the code found.
use Rattle.std.proofs.Common.{◌≡◌, ℕ, List, Option, Some, None, Ok, Err, refl, sym, subst}
use Rattle.lex_lines.specs.declared.token.Token.{Token}
use Rattle.weld.specs.declared.fault.PartKind.TheVariants.{BadNumber}
use Rattle.part_text.specs.Steps.{fault_at}
use Rattle.off_reader.specs.Counts.{CountOf}

pub counted : (count : Option ℕ) (n line : ℕ) (left : List Token) → count ≡ Some n → CountOf count line left (Ok ((n, line), left))
counted count n line left e = subst (λ (c : Option ℕ). CountOf c line left (Ok ((n, line), left))) (sym e) refl

pub not_counted : (count : Option ℕ) (line : ℕ) (left : List Token) → count ≡ None → CountOf count line left (Err (fault_at line BadNumber))
not_counted count line left e = subst (λ (c : Option ℕ). CountOf c line left (Err (fault_at line BadNumber))) (sym e) refl
