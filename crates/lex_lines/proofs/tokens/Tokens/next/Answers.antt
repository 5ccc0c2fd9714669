use Rattle.std.proofs.Common.{◌+◌, ◌≤◌, length, arith, rules}
use Rattle.lex_lines.proofs.Cursor.{first_token, past_token, head_token}
use Rattle.lex_lines.proofs.tokens.Tokens.next.Goals as goal

pub invariant_of-self-2 : goal.invariant_of-self-2
invariant_of-self-2 c =
    let found = first_token c.self.inside.comments c.self.inside.bytes.now c.self.inside.place c.self.inside.line c.in-Some.start.place c.in-Some.start.line c.run_length.result c.in-Some.ensures.same c.in-Some.ensures.within c.in-Some.ensures.solid c.run_length.ensures.place in
    let within : c.in-Some.start.place + c.run_length.result ≤ length c.self.inside.bytes.now = search rules in
    past_token _ _ c.self.inside.place c.self.inside.line _ _ _ c.self.invariant within (omega (arith, c.in-Some.ensures.lines)) found

pub returns-clause-left : goal.returns-clause-left
returns-clause-left c =
    let found = first_token c.self.inside.comments c.self.inside.bytes.now c.self.inside.place c.self.inside.line c.in-Some.start.place c.in-Some.start.line c.run_length.result c.in-Some.ensures.same c.in-Some.ensures.within c.in-Some.ensures.solid c.run_length.ensures.place in
    rw (← c.self.view_is) found

pub returns-clause-token : goal.returns-clause-token
returns-clause-token c =
    let found = first_token c.self.inside.comments c.self.inside.bytes.now c.self.inside.place c.self.inside.line c.in-Some.start.place c.in-Some.start.line c.run_length.result c.in-Some.ensures.same c.in-Some.ensures.within c.in-Some.ensures.solid c.run_length.ensures.place in
    rw (← c.self.view_is) (head_token _ _ c.self.inside.place c.self.inside.line _ _ c.self.invariant found)
