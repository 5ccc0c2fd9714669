use Rattle.std.proofs.Common.{inl, Result, sym, subst}
use Rattle.std.specs.Prelude.{IfErr}
use Rattle.std.specs.Result.{result_err}
use Rattle.geometry.specs.Parts.{part_of}
use Rattle.mend_core.specs.Mending.{IsOfMending, Mends}
use Rattle.mend_core.specs.Run.{IsOfNamed, MendsPart, TakesPart}
use Rattle.mend_core.specs.Seen.{made_seen}
use Rattle.mend_core.specs.declared.made.Mended.{Mended}
use Rattle.mend_core.proofs.Asked.{mend_counts, mend_not_missing, mend_of_named, mend_told}
use Rattle.mend_words.specs.Seen.{named_seen}
use Rattle.part_input.specs.Faults.{CountsReads}
use Rattle.part_input.specs.Steps.{GivesInput, IsMissing}
use Rattle.part_input.specs.declared.fault.Fault.{Fault}
use Rattle.part_input.proofs.Chains.{gives_next, missing_first, refused_first}
use Rattle.mend_core.proofs.take.take.Goals as goal

-- the part is refused as it is read
pub returns-in-Err-clause-answer : goal.returns-in-Err-clause-answer
returns-in-Err-clause-answer g c = λ told.
    let named = named_seen c.args.request.now in
    refused_first (TakesPart (g.D.Desk.state c.args.desk.now).files named) (Mends named.limit) c.in-Err.refusal.fault (c.in-Err.ensures.answer told)

pub returns-in-Err-clause-sample : goal.returns-in-Err-clause-sample
returns-in-Err-clause-sample g c = λ sample files.
    let named = named_seen c.args.request.now in
    refused_first (TakesPart files named) (Mends named.limit) c.in-Err.refusal.fault (c.in-Err.ensures.sample sample files)

pub returns-in-Err-clause-of_named : goal.returns-in-Err-clause-of_named
returns-in-Err-clause-of_named g c = inl c.in-Err.ensures.of_soup

pub returns-in-Err-clause-missing : goal.returns-in-Err-clause-missing
returns-in-Err-clause-missing g c = λ steady.
    let named = named_seen c.args.request.now in
    missing_first (TakesPart (g.D.Desk.state c.args.desk.now).files named) (Mends named.limit) c.in-Err.refusal.fault (c.in-Err.ensures.missing steady)

-- it was read, and is mended
pub returns-in-Ok-clause-answer : goal.returns-in-Ok-clause-answer
returns-in-Ok-clause-answer g c = λ told.
    let named = named_seen c.args.request.now in
    let files = (g.D.Desk.state c.args.desk.now).files in
    let P : Result Mended Fault → Type 0 = GivesInput made_seen (MendsPart files named) in
    subst P (sym c.without_hint.ensures.same)
    (gives_next (TakesPart files named) (Mends named.limit) (part_of c.in-Ok.soup) (c.in-Ok.ensures.answer told) made_seen c.mended.result c.mended.ensures.answer)

pub returns-in-Ok-clause-sample : goal.returns-in-Ok-clause-sample
returns-in-Ok-clause-sample g c = λ sample files.
    let named = named_seen c.args.request.now in
    let P : Result Mended Fault → Type 0 = GivesInput made_seen (MendsPart files named) in
    subst P (sym c.without_hint.ensures.same)
    (gives_next (TakesPart files named) (Mends named.limit) (part_of c.in-Ok.soup) (c.in-Ok.ensures.sample sample files) made_seen c.mended.result c.mended.ensures.answer)

pub returns-in-Ok-clause-of_named : goal.returns-in-Ok-clause-of_named
returns-in-Ok-clause-of_named g c =
    let named = named_seen c.args.request.now in
    let P : Result Mended Fault → Type 0 = λ r. IfErr r (IsOfNamed named) in
    subst P (sym c.without_hint.ensures.same)
    (mend_of_named named (part_of c.in-Ok.soup) c.in-Ok.ensures.sample made_seen c.mended.result c.mended.ensures.of_mending c.mended.ensures.answer)

pub returns-in-Ok-clause-told : goal.returns-in-Ok-clause-told
returns-in-Ok-clause-told g c =
    let P : Result Mended Fault → Type 0 = λ r. IfErr r IsOfMending in
    mend_told (named_seen c.args.request.now) (g.D.Desk.state c.args.desk.now) c.without_hint.result (subst P (sym c.without_hint.ensures.same) c.mended.ensures.of_mending) c.without_hint.ensures.hint

pub returns-in-Ok-clause-reads : goal.returns-in-Ok-clause-reads
returns-in-Ok-clause-reads g c =
    let old = (g.D.Desk.state c.args.desk.now).read_faults in
    let new = (g.D.Desk.state c.take_soup.new.desk).read_faults in
    let P : Result Mended Fault → Type 0 = λ r. CountsReads (result_err r) old new in
    subst P (sym c.without_hint.ensures.same) (mend_counts c.mended.result old new c.mended.ensures.of_mending c.in-Ok.ensures.reads)

pub returns-in-Ok-clause-missing : goal.returns-in-Ok-clause-missing
returns-in-Ok-clause-missing g c = λ steady.
    let steps = MendsPart (g.D.Desk.state c.args.desk.now).files (named_seen c.args.request.now) in
    let P : Result Mended Fault → Type 0 = λ r. IfErr r (IsMissing steps) in
    subst P (sym c.without_hint.ensures.same) (mend_not_missing steps c.mended.result c.mended.ensures.of_mending)
