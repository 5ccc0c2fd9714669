use Rattle.std.proofs.Common.{rules, refl, subst, FitsSigned}
use Rattle.std.specs.Int.{w64}
use Rattle.std.proofs.lemmas.Int.{to_z-of_z}
use Rattle.lattice.specs.Points.{point_of, scaled}
use Rattle.lattice.specs.Triple.{Triple, dot}
use Rattle.solid_mesh.specs.Solids.{solid_part}
use Rattle.sheet_plan.specs.Extents.{IsLeast, IsGreatest}
use Rattle.sheet_plan.proofs.extents.extent.Goals as goal

pub returns : goal.returns
returns c =
    let left : FitsSigned w64 c.reach_along-across.result.least = search rules in
    let right : FitsSigned w64 c.reach_along-across.result.greatest = search rules in
    let bottom : FitsSigned w64 c.reach_along-upward.result.least = search rules in
    let top : FitsSigned w64 c.reach_along-upward.result.greatest = search rules in
    let corners = (solid_part c.args.solid.now).corners in
    let Left : Triple → Type 0 = λ r. IsLeast (λ k. dot r (scaled (point_of k))) corners c.reach_along-across.result.least in
    let Right : Triple → Type 0 = λ r. IsGreatest (λ k. dot r (scaled (point_of k))) corners c.reach_along-across.result.greatest in
    let Bottom : Triple → Type 0 = λ r. IsLeast (λ k. dot r (scaled (point_of k))) corners c.reach_along-upward.result.least in
    let Top : Triple → Type 0 = λ r. IsGreatest (λ k. dot r (scaled (point_of k))) corners c.reach_along-upward.result.greatest in
    record {
      direction = refl;
      leftmost = simp to_z-of_z (subst Left c.right.ensures.axis c.reach_along-across.ensures.least);
      rightmost = simp to_z-of_z (subst Right c.right.ensures.axis c.reach_along-across.ensures.greatest);
      lowest = simp to_z-of_z (subst Bottom c.up.ensures.axis c.reach_along-upward.ensures.least);
      topmost = simp to_z-of_z (subst Top c.up.ensures.axis c.reach_along-upward.ensures.greatest);
    }
