use Rattle.std.proofs.Common.{refl}
use Rattle.std.specs.Int.{w64}
use Rattle.std.proofs.lemmas.Int.{to_z-of_z}
use Rattle.std.proofs.lemmas.Option.{IfSome_then}
use Rattle.lattice.specs.Points.{of_dir}
use Rattle.detail_pieces.proofs.Kept.{left_between, out_first, out_second}
use Rattle.detail_pieces.proofs.clipping.between.Goals as goal

pub returns-in-Some-clause-some : goal.returns-in-Some-clause-some
returns-in-Some-clause-some c =
    let a = c.args in
    IfSome_then c.left_of-in-Some.result c.left_of-in-Some.ensures.some
    (λ x k. left_between (of_dir a.d.now) a.axis a.least a.most _ _ refl (to_z-of_z w64 a.least c.ranges.least) refl refl (to_z-of_z w64 a.most c.ranges.most) refl
    a.strip.now c.in-Some.part x c.in-Some.ensures.some k)

pub returns-in-Some-clause-none : goal.returns-in-Some-clause-none
returns-in-Some-clause-none c none =
    let a = c.args in
    out_second (of_dir a.d.now) a.axis a.least a.most _ _ refl (to_z-of_z w64 a.least c.ranges.least) refl refl (to_z-of_z w64 a.most c.ranges.most) refl
    a.strip.now c.in-Some.part c.in-Some.ensures.some (c.left_of-in-Some.ensures.none none)

pub returns-in-None-clause-none : goal.returns-in-None-clause-none
returns-in-None-clause-none c none =
    let a = c.args in
    out_first (of_dir a.d.now) a.axis a.least a.most _ refl (to_z-of_z w64 a.least c.ranges.least) refl a.strip.now (c.in-None.ensures.none none)
