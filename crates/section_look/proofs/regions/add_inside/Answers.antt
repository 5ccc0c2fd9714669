use Rattle.std.proofs.Common.{List, [], take, append-nil, sym, subst, Vec, Global}
use Rattle.std.proofs.lemmas.List.{take_all}
use Rattle.lattice.specs.Points.{of_dir}
use Rattle.cut_plane.specs.declared.segments.Segment.{Segment}
use Rattle.section_look.specs.Regions.{none, lists_of}
use Rattle.section_look.specs.inner.Parts.{AreAddedIfIn, IsAddedIfIn}
use Rattle.section_look.proofs.Lists.{lists_take_more}
use Rattle.section_look.proofs.Nested.{inside_more}
use Rattle.section_look.proofs.regions.add_inside.Goals as goal

pub loop-other-init : goal.loop-other-init
loop-other-init c = record { added = []; grown = sym (append-nil (lists_of c.args.loops.now.items)); right = none }

pub loop-other-preserved : goal.loop-other-preserved
loop-other-preserved c =
    let d = of_dir c.args.d.now in
    let outer_loop = c.args.outer.now in
    let xs = c.args.others.now in
    let i = c.loop-other.other-index in
    let v = c.other-item.result in
    let start = lists_of c.args.loops.now.items in
    let old = lists_of c.loop-other.loops.items in
    let new = lists_of c.add_if_inside.new.loops.items in
    subst (λ (ls : List (List Segment)). AreAddedIfIn d outer_loop ls start new) (sym (lists_take_more xs i v c.loop-other-test.true c.other-item.is))
    (inside_more d outer_loop (lists_of (take i xs)) start old new v.items c.loop-other.invariant (subst (λ (zs : List Segment). IsAddedIfIn d outer_loop zs old new) c.deref.ensures.value c.in_ok-add_if_inside.ensures))

pub returns : goal.returns
returns c =
    subst (λ (vs : List (Vec Segment Global)). AreAddedIfIn (of_dir c.args.d.now) c.args.outer.now (lists_of vs) (lists_of c.args.loops.now.items) (lists_of c.loop-other.loops.items)) (take_all c.loop-other.other-index c.args.others.now c.loop-other-test.false)
    c.loop-other.invariant
