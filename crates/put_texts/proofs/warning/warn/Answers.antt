use Rattle.std.proofs.Common.{subst, List, ℕ}
use Rattle.desk.specs.Files.{AppendsFront}
use Rattle.put_texts.proofs.Warnings.{added}
use Rattle.put_texts.proofs.warning.warn.Goals as goal

pub returns-clause-front : goal.returns-clause-front
returns-clause-front g c told =
    let state = g.D.Desk.state in
    subst (λ (line : List ℕ). AppendsFront (state c.args.desk.now).warned (state c.warn-unheard.new.self).warned line) c.as_bytes.ensures.value
    (added c.warn-unheard.result _ _ _ (c.warn-unheard.ensures.appends told))
