use Rattle.std.proofs.Common.{List, map, subst, string_bytes}
use Rattle.draw_core.specs.inner.Made.{file_seen}
use Rattle.draw_core.specs.Outputs.{LeavesAll}
use Rattle.draw_core.specs.declared.outputs.Output.{Output}
use Rattle.draw_core.proofs.run.write_drawing.Goals as goal

pub returns-clause-files : goal.returns-clause-files
returns-clause-files g c = λ told all chosen.
    let old = (g.D.Desk.state c.args.desk.now).files in
    let new = (g.D.Desk.state c.write_all-fault.new.desk).files in
    record {
      files = map file_seen c.in-Ok.made.outputs.items;
      are_files = c.in-Ok.ensures.files.files all chosen;
      leaves = subst (λ (outputs : List Output). LeavesAll c.write_all-fault.result old new (map file_seen outputs)) c.deref.ensures.value (c.write_all-fault.ensures.files told);
    }

pub returns-clause-said : goal.returns-clause-said
returns-clause-said g c = λ told. (string_bytes c.in-Ok.made.summary.text, c.in-Ok.ensures.summary, c.write_all-fault.ensures.said told)
