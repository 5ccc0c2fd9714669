use Rattle.std.proofs.Common.{◌≡◌, ◌∙◌, arith, to_z, of_z}
use Rattle.std.specs.Int.{w32, int_min, int_max}
use Rattle.std.proofs.lemmas.Int.{ints}
use Rattle.integers.proofs.Logic.{↔-trans}
use Rattle.meeting.proofs.Ranges.{coordinates-by-ranges}
use Rattle.meeting.proofs.boxes.coordinates_meet.Goals as goal

pub returns : goal.returns
returns c =
    let s = c.args in
    let a : to_z w32 (of_z w32 s.a) ≡ s.a = omega (arith, ints) in
    let b : to_z w32 (of_z w32 s.b) ≡ s.b = omega (arith, ints) in
    let d : to_z w32 (of_z w32 s.c) ≡ s.c = omega (arith, ints) in
    let p : to_z w32 (of_z w32 s.p) ≡ s.p = omega (arith, ints) in
    let q : to_z w32 (of_z w32 s.q) ≡ s.q = omega (arith, ints) in
    let t = c.triangle_range.ensures in
    let e = c.edge_range.ensures in
    ↔-trans c.ranges_meet.ensures
    (coordinates-by-ranges s.a s.b s.c s.p s.q c.triangle_range.result c.edge_range.result
    (record { from = t.from ∙ (λ i. int_min (int_min (a i) (b i)) (d i)); to = t.to ∙ (λ i. int_max (int_max (a i) (b i)) (d i)) })
    (record { from = e.from ∙ (λ i. int_min (p i) (q i)); to = e.to ∙ (λ i. int_max (p i) (q i)) }))
