use Rattle.desk.proofs.Places.{put_at, put_last, kept}
use Rattle.desk.proofs.memory.put.Goals as goal

pub returns-in-Some-clause-ok : goal.returns-in-Some-clause-ok
returns-in-Some-clause-ok c =
    kept c.args.files.now.items _ c.args.name.now c.args.bytes.now _ c.in_ok-bytes.ensures.items
    (put_at c.args.files.now.items c.args.name.now c.in-Some.i c.index_mut.result.now c.in_ok-bytes.bytes
    (rw c.deref.ensures.value at c.in-Some.ensures.found) c.index_mut.ensures.value)

pub returns-in_ok-push-in-None-clause-ok : goal.returns-in_ok-push-in-None-clause-ok
returns-in_ok-push-in-None-clause-ok c =
    kept c.args.files.now.items c.push.new.self.items c.args.name.now c.args.bytes.now _ c.in_ok-bytes.ensures.items
    (put_last c.args.files.now.items c.push.new.self.items c.args.name.now c.in_ok-new-in-None.field-0 c.in_ok-bytes.bytes
    (rw c.deref.ensures.value at c.in-None.ensures.missing) c.in_ok-new-in-None.ensures.same c.in_ok-push-in-None.ensures.items)
