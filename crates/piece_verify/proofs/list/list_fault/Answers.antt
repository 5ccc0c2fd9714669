use Rattle.std.proofs.Common.{◌≡◌, ◌≢◌, [], ◌∷◌, ◌++◌, length, length-append, refl, subst, sym, ap, arith, rules}
use Rattle.plot_rack.specs.Lists.{page_line}
use Rattle.piece_verify.specs.Lists.{IsFaultLine}
use Rattle.piece_verify.proofs.Reading.{started, one_more, all_read, first_fault, later_fault, shorter_entry, empty_rest, some_rest}
use Rattle.piece_verify.proofs.list.list_fault.Goals as goal

pub returns-in_default-clause-fault : goal.returns-in_default-clause-fault
returns-in_default-clause-fault c = first_fault c.args.bytes.now c.in_default.ensures

pub loop-rest-init : goal.loop-rest-init
loop-rest-init c =
    let text = c.args.bytes.now in
    let rest = c.in-Some.rest.now in
    let page = c.in-Some.ensures in
    let whole : length text ≡ length (page_line page.page ++ rest) = ap length page.written in
    record {
      read = ([], started text rest page, refl);
      room = omega (arith, c.requires, whole, length-append (page_line page.page) rest);
    }

pub returns-in_default-read_entry-clause-fault : goal.returns-in_default-read_entry-clause-fault
returns-in_default-read_entry-clause-fault c =
    let text = c.args.bytes.now in
    let rest = c.loop-rest.rest.now in
    let (entries, read, count) = c.loop-rest.invariant.read in
    let some : rest ≢ [] = some_rest rest (search rules) in
    subst (IsFaultLine text) (sym count) (later_fault text entries c.loop-rest.least rest read some c.in_default-read_entry.ensures)

pub loop-rest-preserved : goal.loop-rest-preserved
loop-rest-preserved c =
    let text = c.args.bytes.now in
    let rest = c.loop-rest.rest.now in
    let entry = c.in-Some-read_entry.entry in
    let behind = c.in-Some-read_entry.behind.now in
    let (entries, read, count) = c.loop-rest.invariant.read in
    let less = shorter_entry c.loop-rest.least rest entry behind c.in-Some-read_entry.ensures in
    let more = length-append entries (entry ∷ []) in
    record {
      read = (entries ++ entry ∷ [], one_more text entries c.loop-rest.least rest entry behind read c.in-Some-read_entry.ensures, omega (arith, count, more));
      room = omega (arith, less, c.loop-rest.invariant.room);
    }

pub returns-clause-list : goal.returns-clause-list
returns-clause-list c =
    let text = c.args.bytes.now in
    let none : c.loop-rest.rest.now ≡ [] = empty_rest c.loop-rest.rest.now (search rules) in
    let (entries, read, count) = c.loop-rest.invariant.read in
    let (strokes, is_list, each) = all_read text entries c.loop-rest.least (rw none at read) in
    (strokes, is_list)
