use Rattle.std.proofs.Common.{◌≡◌, Some, refl, inr}
use Rattle.desk.specs.MemoryDesk.{state_of}
use Rattle.desk.proofs.Fetches.{found, not_refused, some_and}
use Rattle.desk.proofs.memory.MemoryDeskDesk.fetch.Goals as goal

pub returns-in-Some-clause-fails : goal.returns-in-Some-clause-fails
returns-in-Some-clause-fails c =
    let held : (state_of c.args.self.now).files c.args.name.now ≡ Some c.in-Some.bytes.now =
    found _ (state_of c.count_call.new.self) _ _ c.count_call.ensures.counted c.in-Some.ensures in
    not_refused _ _ c.if-count_call.ensures.fails.1 held

pub returns-in-Some-clause-taken : goal.returns-in-Some-clause-taken
returns-in-Some-clause-taken c =
    let held : (state_of c.args.self.now).files c.args.name.now ≡ Some c.in-Some.bytes.now =
    found _ (state_of c.count_call.new.self) _ _ c.count_call.ensures.counted c.in-Some.ensures in
    some_and _ _ _ held (c.copy_from.ensures.count, c.copy_from.ensures.front)

pub returns-in-None-clause-fails : goal.returns-in-None-clause-fails
returns-in-None-clause-fails c =
    ((λ fails. inr (found (state_of c.args.self.now) (state_of c.count_call.new.self) _ _ c.count_call.ensures.counted c.in-None.ensures)), λ refused. refl)
