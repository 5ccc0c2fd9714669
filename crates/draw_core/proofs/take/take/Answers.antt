use Rattle.std.proofs.Common.{Option, map, subst}
use Rattle.std.specs.Prelude.{IfSome}
use Rattle.draw_words.specs.Names.{Named}
use Rattle.draw_words.specs.Seen.{named_seen, texts}
use Rattle.part_input.proofs.Chains.{gives_next}
use Rattle.part_input.specs.Sheets.{NamesNoFile}
use Rattle.draw_core.specs.Run.{NamesFiles, DrawsFiles}
use Rattle.draw_core.specs.inner.Taken.{drawn_of}
use Rattle.draw_core.proofs.take.take.Goals as goal

pub returns-in-Ok-clause-no_file : goal.returns-in-Ok-clause-no_file
returns-in-Ok-clause-no_file g c = λ alone files.
    let named = named_seen c.in-Ok.named in
    let suffixes = (map (λ b. ((goal.Plotter-dyn g (b.vtable, b.value)).plot b.value).suffix) c.args.extras.items) in
    let none = subst (λ (o : Option Named). IfSome o (λ named. NamesNoFile named.job named.part)) c.in-Ok.ensures.names alone in
    gives_next (NamesFiles (texts c.args.words.now)) (DrawsFiles suffixes files) named c.in-Ok.ensures.names drawn_of c.take_files.result (c.take_files.ensures.no_file none files)
