use Rattle.std.proofs.Common.{◌≡◌, ◌++◌, ◌∷◌, ℕ, Bool, length, take, get_or, List, [], sym, subst, ap, ◌∙◌, arith}
use Rattle.std.proofs.lemmas.Grind.{common_steps}
use Rattle.std.proofs.lemmas.List.{take_all}
use Rattle.integers.proofs.Lists.{front_more}
use Rattle.job_file.specs.declared.view.JobView.{JobView}
use Rattle.lattice.specs.declared.cuts.Cut.{Cut}
use Rattle.geometry.specs.Parts.{Part}
use Rattle.sheet_layout.specs.declared.sides.Sides.{Sides}
use Rattle.solid_mesh.specs.Solids.{solid_part}
use Rattle.job_file.specs.ShownCuts.{cuts_in}
use Rattle.cut_marks.specs.Marks.{IsMarked, AreMarked}
use Rattle.cut_marks.specs.Marks.AreMarked.{none, more}
use Rattle.cut_marks.specs.declared.views.ViewMarks.{ViewMarks}
use Rattle.cut_marks.proofs.Apart.{marked_apart}
use Rattle.cut_marks.proofs.Counted.{few_cuts}
use Rattle.cut_marks.proofs.InReach.{marked_in_reach}
use Rattle.cut_marks.proofs.job_marks.marks.Goals as goal

pub loop-view-init : goal.loop-view-init
loop-view-init c = subst (AreMarked c.args.sheet.now c.args.sides.now c.args.shrunk (solid_part c.args.solid.now) (cuts_in c.args.views.now) []) (sym c.new-marks.ensures.items) none

pub view_marks-requires-clause-few : goal.view_marks-requires-clause-few
view_marks-requires-clause-few c =
    let few = few_cuts c.args.views.now in
    let same = ap (λ (cs : List Cut). length cs) (c.deref.ensures.value ∙ c.in_ok-cuts.ensures) in
    omega (arith, few, c.requires.few, same)

pub view_marks-requires-clause-fewer : goal.view_marks-requires-clause-fewer
view_marks-requires-clause-fewer c = omega (arith, c.count_below-number.ensures.size, c.loop-view-test.true, c.requires.few)

pub loop-view-preserved : goal.loop-view-preserved
loop-view-preserved c =
    let sheet = c.args.sheet.now in
    let sides : List Sides = c.args.sides.now in
    let shrunk : Bool = c.args.shrunk in
    let s : Part = solid_part c.args.solid.now in
    let views : List JobView = c.args.views.now in
    let all : List Cut = cuts_in views in
    let k : ℕ = c.loop-view.view in
    let x : JobView = c.index-views-view.result in
    let m : ViewMarks = c.in_ok-view_marks.field-0 in
    let long : k ≡ length (take k views) = grind (arith, common_steps, c.loop-view-test.true) in
    let raw : IsMarked sheet sides shrunk s c.deref.result.now k c.count_below-number.result (get_or views k x).spec m = c.in_ok-view_marks.ensures in
    let of_view = subst (λ (v : JobView). IsMarked sheet sides shrunk s c.deref.result.now k c.count_below-number.result v.spec m) (sym c.index-views-view.is) raw in
    let of_cuts = subst (λ (cs : List Cut). IsMarked sheet sides shrunk s cs k c.count_below-number.result x.spec m) (c.deref.ensures.value ∙ c.in_ok-cuts.ensures) of_view in
    let counted = subst (λ (n : ℕ). IsMarked sheet sides shrunk s all k n x.spec m) c.count_below-number.ensures.value of_cuts in
    let numbered = subst (λ (n : ℕ). IsMarked sheet sides shrunk s all n (length (cuts_in (take k views))) x.spec m) long counted in
    subst (λ (vs : List JobView). AreMarked sheet sides shrunk s all vs c.push.new.self.items) (front_more views k x c.loop-view-test.true (sym c.index-views-view.is))
    (subst (AreMarked sheet sides shrunk s all (take k views ++ x ∷ [])) (sym c.in_ok-push.ensures.items) (more (take k views) x c.loop-view.marks.items m c.loop-view.invariant numbered))

all_marked : goal.returns-clause-marked
all_marked c =
    subst (λ (vs : List JobView). AreMarked c.args.sheet.now c.args.sides.now c.args.shrunk (solid_part c.args.solid.now) (cuts_in c.args.views.now) vs c.loop-view.marks.items)
    (take_all c.loop-view.view c.args.views.now c.loop-view-test.false) c.loop-view.invariant

pub returns-clause-marked : goal.returns-clause-marked
returns-clause-marked c = all_marked c

pub returns-clause-in_reach : goal.returns-clause-in_reach
returns-clause-in_reach c = marked_in_reach c.args.sheet.now c.args.sides.now c.args.shrunk (solid_part c.args.solid.now) (cuts_in c.args.views.now) c.args.views.now c.loop-view.marks.items (all_marked c)

pub returns-clause-none_touch : goal.returns-clause-none_touch
returns-clause-none_touch c = marked_apart c.args.sheet.now c.args.sides.now c.args.shrunk (solid_part c.args.solid.now) (cuts_in c.args.views.now) c.args.views.now c.loop-view.marks.items (all_marked c)
