use Rattle.std.proofs.Common.{◌≡◌, ◌≢◌, ◌+◌, ℕ, [], ◌∷◌, length, length-append, subst, sym, ◌∙◌, ap, arith, rules, Err, Result}
use Rattle.piece_verify.specs.Lists.{IsFaultLine}
use Rattle.piece_verify.specs.declared.list.ListFault.{ListFault}
use Rattle.piece_verify.specs.declared.list.ListError.{ListError}
use Rattle.piece_verify.specs.declared.list.PieceList.{PieceList}
use Rattle.piece_verify.proofs.Reading.{one_more, all_read, first_fault, later_fault, shorter_entry, empty_rest, some_rest, one_list, no_list}
use Rattle.piece_verify.proofs.list.read_list.Goals as goal

line_of : (e : ListError) (n : ℕ) (f : ListFault) → e ≡ ListError.List (record { line = n }) → ◌≡◌ {A = Result PieceList ListError} (Err e) (Err (ListError.List f)) → n ≡ f.line
line_of e n f is same =
    let inner : e ≡ ListError.List f = cc in
    let faults : ListError.List (record { line = n }) ≡ ListError.List f = sym is ∙ inner in
    let records : ◌≡◌ {A = ListFault} (record { line = n }) f = cc in
    ap (λ (f : ListFault). f.line) records

pub returns-in_default-clause-fault : goal.returns-in_default-clause-fault
returns-in_default-clause-fault c = λ f e. subst (IsFaultLine c.args.bytes.now) (line_of c.fault.result 1 f c.fault.ensures e) (first_fault c.args.bytes.now c.in_default.ensures)

pub returns-in_default-read_entry-clause-fault : goal.returns-in_default-read_entry-clause-fault
returns-in_default-read_entry-clause-fault c = λ f e.
    let size : c.len.result ≡ length c.loop-rest.entries.items = search rules in
    let some : c.loop-rest.rest.now ≢ [] = some_rest c.loop-rest.rest.now (search rules) in
    subst (IsFaultLine c.args.bytes.now) (ap (λ (n : ℕ). n + 2) (sym size) ∙ line_of c.fault-in_default-read_entry.result (c.len.result + 2) f
    c.fault-in_default-read_entry.ensures e)
    (later_fault c.args.bytes.now c.loop-rest.entries.items c.loop-rest.least c.loop-rest.rest.now c.loop-rest.invariant.read some c.in_default-read_entry.ensures)

pub loop-rest-preserved : goal.loop-rest-preserved
loop-rest-preserved c =
    let less = shorter_entry c.loop-rest.least c.loop-rest.rest.now c.in-Some-read_entry.entry c.in-Some-read_entry.behind.now c.in-Some-read_entry.ensures in
    let more : length c.push.new.self.items ≡ length c.loop-rest.entries.items + 1 =
    rw (c.in_ok-push.ensures.items) (length-append c.loop-rest.entries.items (c.in-Some-read_entry.entry ∷ [])) in
    record {
      read =
          rw c.in_ok-push.ensures.items
          (one_more c.args.bytes.now c.loop-rest.entries.items c.loop-rest.least c.loop-rest.rest.now c.in-Some-read_entry.entry c.in-Some-read_entry.behind.now
          c.loop-rest.invariant.read c.in-Some-read_entry.ensures);
      room = omega (arith, less, more, c.loop-rest.invariant.room);
    }

pub returns-clause-list : goal.returns-clause-list
returns-clause-list c =
    let none : c.loop-rest.rest.now ≡ [] = empty_rest c.loop-rest.rest.now (search rules) in
    all_read c.args.bytes.now c.loop-rest.entries.items c.loop-rest.least (rw none at c.loop-rest.invariant.read)

pub returns-clause-entries : goal.returns-clause-entries
returns-clause-entries c = λ others l.
    let none : c.loop-rest.rest.now ≡ [] = empty_rest c.loop-rest.rest.now (search rules) in
    let read = all_read c.args.bytes.now c.loop-rest.entries.items c.loop-rest.least (rw none at c.loop-rest.invariant.read) in
    one_list c.args.bytes.now read.0 others c.loop-rest.entries.items read.1 l read.2

pub returns-in_default-read_entry-clause-refused : goal.returns-in_default-read_entry-clause-refused
returns-in_default-read_entry-clause-refused c = λ f e strokes l.
    let some : c.loop-rest.rest.now ≢ [] = some_rest c.loop-rest.rest.now (search rules) in
    no_list c.args.bytes.now _
    (later_fault c.args.bytes.now c.loop-rest.entries.items c.loop-rest.least c.loop-rest.rest.now c.loop-rest.invariant.read some c.in_default-read_entry.ensures) strokes l
