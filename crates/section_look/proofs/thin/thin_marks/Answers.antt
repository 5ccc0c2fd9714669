use Rattle.std.proofs.Common.{List, Bool, take, ◌+◌, sym, subst}
use Rattle.std.specs.List.{AllZip}
use Rattle.std.proofs.lemmas.List.{take_all}
use Rattle.lattice.specs.Cuts.{plane_of}
use Rattle.line_merge.proofs.Zips.{zip_more}
use Rattle.section_look.specs.Thin.{IsMarked}
use Rattle.section_look.specs.declared.regions.Region.{Region}
use Rattle.section_look.proofs.thin.thin_marks.Goals as goal

pub loop-region-preserved : goal.loop-region-preserved
loop-region-preserved c place at =
    let R = IsMarked c.args.sheet.now place (plane_of c.args.cut.now) c.args.spacing in
    let xs = c.args.regions.now in
    let i = c.loop-region.region-index in
    subst (λ (ys : List Bool). AllZip R (take (i + 1) xs) ys) (sym {A = List Bool} c.in_ok-push.ensures.items)
    (zip_more R xs c.loop-region.marks.items i c.region-item.result _ c.loop-region-test.true c.region-item.is (c.loop-region.invariant place at) (c.in_ok-is_thin.ensures place at))

pub returns : goal.returns
returns c place at =
    subst (λ (xs : List Region). AllZip (IsMarked c.args.sheet.now place (plane_of c.args.cut.now) c.args.spacing) xs c.loop-region.marks.items) (take_all c.loop-region.region-index c.args.regions.now c.loop-region-test.false) (c.loop-region.invariant place at)
