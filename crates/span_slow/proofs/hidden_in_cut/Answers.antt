use Rattle.std.proofs.Common.{List, sym, subst}
use Rattle.lattice.specs.Cuts.{Plane, plane_of}
use Rattle.solid_mesh.specs.Solids.{solid_part}
use Rattle.geometry.specs.Cuts.{IsHiddenInCut}
use Rattle.exact_frac.specs.declared.Frac.{Frac}
use Rattle.intervals.specs.declared.interval.Interval.{Interval}
use Rattle.span_slow.specs.inner.CutHidden.{AreWhereBeyond, IsHiddenByFaces}
use Rattle.span_slow.proofs.CutHides.{hidden_in_cut}
use Rattle.span_slow.proofs.hidden_in_cut.Goals as goal

pub returns : goal.returns
returns c e numbered at_a at_b =
    let s = solid_part c.args.solid.now in
    let q = plane_of c.args.section.now.cut in
    let faces = c.in_ok-hidden.hidden.items in
    let section = c.in_ok-within.within.items in
    let by_faces : AreWhereBeyond q e (IsHiddenByFaces q s) faces =
    subst (λ (p : Plane). AreWhereBeyond p e (IsHiddenByFaces p s) faces) c.requires.plane (c.in_ok-hidden.ensures e at_a at_b) in
    subst (λ (xs : List (Interval Frac)). AreWhereBeyond q e (IsHiddenInCut q s) xs) (sym c.in_ok-append.ensures.items)
    (hidden_in_cut q e faces section by_faces (c.in_ok-within.ensures e numbered))
