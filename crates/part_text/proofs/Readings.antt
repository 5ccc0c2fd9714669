-- What single steps make, from what the calls of the code say.
use Rattle.std.proofs.Common.{◌≡◌, ℕ, List, length, Ok, Err, ap, subst}
use Rattle.std.specs.Prelude.{Result}
use Rattle.std.specs.Result.{IsErrAnd}
use Rattle.lex_lines.specs.declared.token.Token.{Token}
use Rattle.lex_lines.specs.Places.{line_at}
use Rattle.weld.specs.declared.fault.PartFault.{PartFault}
use Rattle.weld.specs.declared.fault.Want.{Want}
use Rattle.part_text.specs.Steps.{Reading}
use Rattle.part_text.specs.Made.{made}
use Rattle.part_text.specs.Words.{NextToken}

pub next_of : (text bytes : List ℕ) (want : Want) (tokens : List Token) (r : Reading Token) → text ≡ bytes → NextToken (line_at text (length text)) want tokens r → NextToken (line_at bytes (length bytes)) want tokens r
next_of text bytes want tokens r e h = subst (λ (b : List ℕ). NextToken (line_at b (length b)) want tokens r) e h

-- a fault that is handed on
pub handed_on : {A X : Type 0} (view : A → X) (result : Result A PartFault) (left : List Token) (fault : PartFault) → IsErrAnd result (λ e. e ≡ fault) → made view result left ≡ Err fault
handed_on view (Ok a) left fault h = elim h [ ]
handed_on view (Err e) left fault h = ap (λ (f : PartFault). Err f) h
