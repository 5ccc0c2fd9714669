use Rattle.std.proofs.Common.{rules, FitsSigned, ◌≤◌, ◌^◌, refl, sym, subst, arith, unsigned_abs}
use Rattle.std.specs.Int.{w32, w64}
use Rattle.std.specs.Prelude.{ℤ}
use Rattle.std.proofs.lemmas.Int.{to_z-of_z, fits_signed_from_abs}
use Rattle.std.proofs.lemmas.Grind.{merely}
use Rattle.lattice.specs.Cuts.{plane_of}
use Rattle.lattice.specs.Lines.{IsOnLine}
use Rattle.lattice.specs.Points.{Point, of_dir, of_spot, point_of, OnOneSight}
use Rattle.solid_mesh.specs.Solids.{solid_part}
use Rattle.drawn_strips.proofs.TraceMade.{AreMoved, are_moved, seen_apart, trace_made}
use Rattle.drawn_strips.proofs.trace_strips.trace_strip.Goals as goal

small : (n : ℤ) → unsigned_abs n ≤ 2 ^ 20 → FitsSigned w32 n
small n h = fits_signed_from_abs w32 n (omega (arith, h))

pub through-requires : goal.through-requires
through-requires c =
    let wide : FitsSigned w64 c.at.result = search rules in
    let narrow : FitsSigned w32 c.at.result = small c.at.result c.at.ensures.size in
    let there : FitsSigned w32 c.coordinate.result = search rules in
    let s = solid_part c.args.solid.now in
    let m : AreMoved (plane_of c.args.cut.now) s.corners c.args.sight c.args.ends.now.first c.args.ends.now.last c.moved-from.result c.moved-to.result =
    are_moved _ _ _ c.axis.result c.args.run _ _ _ _ c.at.result c.coordinate.result c.axis.ensures c.requires.third c.at.ensures.place c.coordinate.ensures.value c.requires.first c.requires.last
    (simp to_z-of_z at c.moved-from.ensures.there) c.moved-from.ensures.else_where (simp to_z-of_z at c.moved-to.ensures.there) c.moved-to.ensures.else_where in
    seen_apart (of_dir c.args.d.now) s (plane_of c.args.cut.now) c.args.sight c.requires.has _ _ _ _ m

pub invariant_of-result : goal.invariant_of-result
invariant_of-result c =
    let wide : FitsSigned w64 c.at.result = search rules in
    let narrow : FitsSigned w32 c.at.result = small c.at.result c.at.ensures.size in
    let there : FitsSigned w32 c.coordinate.result = search rules in
    let s = solid_part c.args.solid.now in
    let d = of_dir c.args.d.now in
    let m : AreMoved (plane_of c.args.cut.now) s.corners c.args.sight c.args.ends.now.first c.args.ends.now.last c.moved-from.result c.moved-to.result =
    are_moved _ _ _ c.axis.result c.args.run _ _ _ _ c.at.result c.coordinate.result c.axis.ensures c.requires.third c.at.ensures.place c.coordinate.ensures.value c.requires.first c.requires.last
    (simp to_z-of_z at c.moved-from.ensures.there) c.moved-from.ensures.else_where (simp to_z-of_z at c.moved-to.ensures.there) c.moved-to.ensures.else_where in
    let apart = seen_apart d s (plane_of c.args.cut.now) c.args.sight c.requires.has _ _ _ _ m in
    record {
      seen = merely (
        c.args.d.now,
        record {
          first = subst (IsOnLine d c.through.result) (sym c.at-2.ensures) c.through.ensures.first;
          second = subst (IsOnLine d c.through.result) (sym c.at-3.ensures) c.through.ensures.second;
          apart = subst (λ (p : Point). ¬ OnOneSight d p (of_spot c.at-3.result)) (sym c.at-2.ensures)
              (subst (λ (q : Point). ¬ OnOneSight d (point_of c.moved-from.result) q) (sym c.at-3.ensures) apart);
        },
      );
    }

pub returns : goal.returns
returns c =
    let wide : FitsSigned w64 c.at.result = search rules in
    let narrow : FitsSigned w32 c.at.result = small c.at.result c.at.ensures.size in
    let there : FitsSigned w32 c.coordinate.result = search rules in
    let s = solid_part c.args.solid.now in
    let m : AreMoved (plane_of c.args.cut.now) s.corners c.args.sight c.args.ends.now.first c.args.ends.now.last c.moved-from.result c.moved-to.result =
    are_moved _ _ _ c.axis.result c.args.run _ _ _ _ c.at.result c.coordinate.result c.axis.ensures c.requires.third c.at.ensures.place c.coordinate.ensures.value c.requires.first c.requires.last
    (simp to_z-of_z at c.moved-from.ensures.there) c.moved-from.ensures.else_where (simp to_z-of_z at c.moved-to.ensures.there) c.moved-to.ensures.else_where in
    trace_made (of_dir c.args.d.now) s (plane_of c.args.cut.now) c.args.sight c.requires.has _ _ _ _ m _ c.at-2.ensures c.at-3.ensures c.through.ensures.first c.through.ensures.second refl
