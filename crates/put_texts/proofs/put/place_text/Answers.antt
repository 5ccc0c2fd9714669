use Rattle.std.proofs.Common.{sym, subst}
use Rattle.std.specs.Prelude.{IfSome}
use Rattle.put_texts.specs.Order.{IsFaultAt}
use Rattle.put_texts.specs.Puts.{IsPlaced, fault_put, one_text, way_seen}
use Rattle.put_texts.specs.declared.put.Way.{Way}
use Rattle.put_texts.proofs.Putting.{kept_placed, said_placed}
use Rattle.put_texts.proofs.put.place_text.Goals as goal

pub returns-in-Aloud-clause-placed : goal.returns-in-Aloud-clause-placed
returns-in-Aloud-clause-placed g c =
    let faults = g.F.RunFault.faults in
    let its = g.F.RunFault.unwritten_of c.args.target in
    let old = g.D.Desk.state c.args.desk.now in
    let new = g.D.Desk.state c.say_text.new.desk in
    let fault = fault_put c.say_text.result in
    let did = c.say_text.ensures in
    let is = subst (λ f. IfSome fault (IsFaultAt faults f)) c.unwritten.ensures.fault did.fault in
    let P : Way → Type 0 = λ way. IsPlaced faults (one_text (way_seen way) its c.args.bytes.now) fault old new in
    subst P (sym c.in-Aloud.is) (said_placed faults its c.args.bytes.now old new fault is did.writes did.steady did.firm did.said did.changes)

pub returns-in-Under-clause-placed : goal.returns-in-Under-clause-placed
returns-in-Under-clause-placed g c =
    let faults = g.F.RunFault.faults in
    let its = g.F.RunFault.unwritten_of c.args.target in
    let old = g.D.Desk.state c.args.desk.now in
    let new = g.D.Desk.state c.keep_text.new.desk in
    let fault = fault_put c.keep_text.result in
    let did = c.keep_text.ensures in
    let is = subst (λ f. IfSome fault (IsFaultAt faults f)) c.unwritten-in-Under.ensures.fault did.fault in
    let P : Way → Type 0 = λ way. IsPlaced faults (one_text (way_seen way) its c.args.bytes.now) fault old new in
    subst P (sym c.in-Under.is) (kept_placed faults its c.args.bytes.now old new fault is did.writes did.steady did.firm c.in-Under.name.now did.files did.changes)
