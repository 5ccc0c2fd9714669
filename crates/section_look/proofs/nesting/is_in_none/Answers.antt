use Rattle.std.proofs.Common.{List, take, sym, subst, refl, Vec, Global}
use Rattle.std.specs.List.{All}
use Rattle.std.proofs.lemmas.List.{take_all}
use Rattle.std.proofs.lemmas.List.Elements.{All-map, All-more}
use Rattle.lattice.specs.Points.{of_dir}
use Rattle.cut_plane.proofs.Lists.{not_true}
use Rattle.cut_plane.specs.declared.segments.Segment.{Segment}
use Rattle.section_look.specs.Regions.{IsIn}
use Rattle.section_look.proofs.Lists.{all_at}
use Rattle.section_look.proofs.nesting.is_in_none.Goals as goal

pub returns-then-is_in : goal.returns-then-is_in
returns-then-is_in c =
    let P = λ (other : List Segment). ¬ IsIn (of_dir c.args.d.now) c.args.inner.now other in
    let i = c.loop-other.other-index in
    let v = c.other-item.result in (
      (λ h. absurd (cc)),
      (λ all. absurd (all_at P c.args.others.now i v c.loop-other-test.true c.other-item.is all (subst (IsIn (of_dir c.args.d.now) c.args.inner.now) c.deref.ensures.value (c.is_in.ensures.0 c.if-is_in.true)))),
    )

pub loop-other-preserved : goal.loop-other-preserved
loop-other-preserved c =
    let P = λ (v : Vec Segment Global). ¬ IsIn (of_dir c.args.d.now) c.args.inner.now v.items in
    let v = c.other-item.result in
    All-more P c.args.others.now c.loop-other.other-index v c.loop-other-test.true c.loop-other.invariant
    (subst P c.other-item.is (λ h. not_true c.is_in.result c.if-is_in.false (c.is_in.ensures.1 (subst (IsIn (of_dir c.args.d.now) c.args.inner.now) (sym c.deref.ensures.value) h))))

pub returns : goal.returns
returns c =
    let P = λ (other : List Segment). ¬ IsIn (of_dir c.args.d.now) c.args.inner.now other in (
      (λ h. All-map P (λ (v : Vec Segment Global). v.items) c.args.others.now (subst (λ (vs : List (Vec Segment Global)). All (λ v. P v.items) vs) (take_all c.loop-other.other-index c.args.others.now c.loop-other-test.false) c.loop-other.invariant)),
      (λ all. refl),
    )
