use Rattle.std.proofs.Common.{◌≡◌, ℕ, ◌+◌, ◌≤◌, List, length, Vec, Global, vec_len, Some, None, slice_get, sym, subst, ◌∙◌, arith}
use Rattle.std.proofs.lemmas.List.{take_all}
use Rattle.std.proofs.lemmas.Option.{slice_get_within}
use Rattle.lattice.specs.Cuts.{plane_of}
use Rattle.solid_mesh.specs.Solids.{solid_part, edge_halves}
use Rattle.cross_find.specs.declared.meter.Crossing.{Crossing}
use Rattle.span_count.proofs.Lists.{none_past}
use Rattle.cut_count.proofs.OutlineWalks.{AreAdded, AreAddedSoFar, CrossSays, added_none, added_some, added_nothing}
use Rattle.cut_count.proofs.outlines.add_outlines.Goals as goal
use Rattle.cut_count.proofs.outlines.add_outlines.Goals.{in-Some-cut_cross+in_ok-push, in_default-cut_cross}

pub loop-outline-init : goal.loop-outline-init
loop-outline-init g c =
    added_none (plane_of c.args.section.now.cut) (solid_part c.args.solid.now) (edge_halves c.args.solid.now) c.args.edge (g.F.Finder.list_along c.args.finder.now c.args.edge) c.args.crossings.now.items
    (vec_len c.args.crossings.now) c.args.meter.now.tests

pub cut_cross-requires-clause-room : goal.cut_cross-requires-clause-room
cut_cross-requires-clause-room g c =
    let within = slice_get_within (g.F.Finder.list_along c.args.finder.now c.args.edge) c.loop-outline.i c.in-Some.outline (sym c.along.ensures ∙ c.in-Some.is) in
    omega (arith, c.requires.room, c.loop-outline.invariant.tested, within)

pub loop-outline-preserved : goal.loop-outline-preserved
loop-outline-preserved g c =
    let plane = plane_of c.args.section.now.cut in
    let s = solid_part c.args.solid.now in
    let halves = edge_halves c.args.solid.now in
    let edge = c.args.edge in
    let list = g.F.Finder.list_along c.args.finder.now edge in
    let old = c.args.crossings.now in
    let tests = c.args.meter.now.tests in
    let i = c.loop-outline.i in
    let now = c.loop-outline.meter.tests in
    let v = c.loop-outline.crossings in
    let known = c.loop-outline.invariant in
    let o = c.in-Some.outline in
    let at : slice_get list i ≡ Some o = sym c.along.ensures ∙ c.in-Some.is in
    let new = c.cut_cross.new.meter.tests in
    let Added : Vec Crossing Global → Type 0 = λ w. AreAddedSoFar plane s halves edge list old.items (vec_len old) tests (i + 1) new w.items (vec_len w) in
    elim c.match-cut_cross.branch [
      | in-Some-cut_cross+in_ok-push w ↦
          let x = w.in-Some-cut_cross.crossing in
          let says : CrossSays plane s halves edge list old.items (vec_len old) tests o (Some x) = subst (CrossSays plane s halves edge list old.items (vec_len old) tests o) w.in-Some-cut_cross.is c.cut_cross.ensures.answer in
          let long : vec_len w.push.new.self ≤ vec_len v + 1 = omega (arith, w.in_ok-push.ensures.len) in
          subst Added (sym w.crossings-is)
          (added_some plane s halves edge list old.items (vec_len old) tests i now v.items (vec_len v) known o at new c.cut_cross.ensures.counted x says w.push.new.self.items (vec_len w.push.new.self) w.in_ok-push.ensures.items long)
      | in_default-cut_cross w ↦
          let says : CrossSays plane s halves edge list old.items (vec_len old) tests o None = subst (CrossSays plane s halves edge list old.items (vec_len old) tests o) w.in_default-cut_cross.is c.cut_cross.ensures.answer in
          subst Added (sym w.crossings-is)
          (added_nothing plane s halves edge list old.items (vec_len old) tests i now v.items (vec_len v) known o at new c.cut_cross.ensures.counted says)
    ]

pub returns-clause-added : goal.returns-clause-added
returns-clause-added g c e here =
    let plane = plane_of c.args.section.now.cut in
    let halves = edge_halves c.args.solid.now in
    let list = g.F.Finder.list_along c.args.finder.now c.args.edge in
    let past : length list ≤ c.loop-outline.i = none_past list c.loop-outline.i (sym c.along.ensures ∙ c.in_default.is) in
    let all : AreAdded plane e halves list c.args.crossings.now.items c.loop-outline.crossings.items =
    subst (λ (os : List ℕ). AreAdded plane e halves os c.args.crossings.now.items c.loop-outline.crossings.items) (take_all c.loop-outline.i list past) (c.loop-outline.invariant.added e here) in
    (all.here, all.all, all.right)

just_tests : (tests first i all : ℕ) → tests ≡ first + i → i ≤ all → all ≤ i → tests ≡ first + all
just_tests tests first i all e p q = omega arith

pub returns-clause-all_tested : goal.returns-clause-all_tested
returns-clause-all_tested g c =
    let list = g.F.Finder.list_along c.args.finder.now c.args.edge in
    let past : length list ≤ c.loop-outline.i = none_past list c.loop-outline.i (sym c.along.ensures ∙ c.in_default.is) in
    just_tests c.loop-outline.meter.tests c.args.meter.now.tests c.loop-outline.i (length list) c.loop-outline.invariant.tested c.loop-outline.invariant.within past
