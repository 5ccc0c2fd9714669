use Rattle.std.proofs.Common.{rules, FitsSigned}
use Rattle.std.specs.Int.{w64}
use Rattle.std.proofs.lemmas.Int.{to_z-of_z}
use Rattle.std.proofs.lemmas.Option.{IfSome_then}
use Rattle.lattice.specs.Points.{of_dir}
use Rattle.detail_pieces.proofs.Kept.{part_of, unseen_first, unseen_second}
use Rattle.detail_pieces.proofs.clipping.part_in.Goals as goal

pub returns-in-Some-clause-some : goal.returns-in-Some-clause-some
returns-in-Some-clause-some c =
    let o = c.args.window.now in
    let u1_fits : FitsSigned w64 o.u1 = search rules in
    let u2_fits : FitsSigned w64 o.u2 = search rules in
    let v1_fits : FitsSigned w64 o.v1 = search rules in
    let v2_fits : FitsSigned w64 o.v2 = search rules in
    let one = simp to_z-of_z at c.in-Some.ensures.some in
    IfSome_then c.between-in-Some.result (simp to_z-of_z at c.between-in-Some.ensures.some) (λ x k. part_of (of_dir c.args.d.now) o c.args.strip.now c.in-Some.part x one k)

pub returns-in-Some-clause-none : goal.returns-in-Some-clause-none
returns-in-Some-clause-none c none =
    let o = c.args.window.now in
    let u1_fits : FitsSigned w64 o.u1 = search rules in
    let u2_fits : FitsSigned w64 o.u2 = search rules in
    let v1_fits : FitsSigned w64 o.v1 = search rules in
    let v2_fits : FitsSigned w64 o.v2 = search rules in
    unseen_second (of_dir c.args.d.now) o c.args.strip.now c.in-Some.part (simp to_z-of_z at c.in-Some.ensures.some) ((simp to_z-of_z at c.between-in-Some.ensures.none) none)

pub returns-in-None-clause-none : goal.returns-in-None-clause-none
returns-in-None-clause-none c none =
    let o = c.args.window.now in
    let u1_fits : FitsSigned w64 o.u1 = search rules in
    let u2_fits : FitsSigned w64 o.u2 = search rules in
    unseen_first (of_dir c.args.d.now) o c.args.strip.now ((simp to_z-of_z at c.in-None.ensures.none) none)
