use Rattle.std.proofs.Common.{◌≡◌, inl, inr, rules, FitsSigned, unsigned_abs}
use Rattle.std.specs.Int.{w64}
use Rattle.std.specs.Prelude.{◌-ℤ◌}
use Rattle.std.proofs.lemmas.Int.{to_z-of_z}
use Rattle.section_look.proofs.Squares.{near_by_sizes, far_by_size}
use Rattle.section_look.proofs.points.are_near.Goals as goal
use Rattle.section_look.proofs.points.are_near.Goals.{then-across-gt215-via-then-across-gt215, then-across-gt215-via-else-across-gt215+then-down-gt215}

pub returns-then-across-gt215 : goal.returns-then-across-gt215
returns-then-across-gt215 c =
    let a = c.args.a.now in
    let b = c.args.b.now in
    let ax : FitsSigned w64 a.x = search rules in
    let ay : FitsSigned w64 a.y = search rules in
    let bx : FitsSigned w64 b.x = search rules in
    let by : FitsSigned w64 b.y = search rules in
    let e : c.abs_diff-across.result ≡ unsigned_abs (b.x -ℤ a.x) = simp to_z-of_z at c.abs_diff-across.ensures in
    let f : c.abs_diff-down.result ≡ unsigned_abs (b.y -ℤ a.y) = simp to_z-of_z at c.abs_diff-down.ensures in
    let far = far_by_size (b.x -ℤ a.x) (b.y -ℤ a.y) c.abs_diff-across.result c.abs_diff-down.result e f in
    elim c.then-across-gt215.branch [
      | then-across-gt215-via-then-across-gt215 w ↦ ((λ h. absurd (cc)), (λ near. absurd (far (inl w.if-across-gt215.true) near)))
      | then-across-gt215-via-else-across-gt215+then-down-gt215 w ↦ ((λ h. absurd (cc)), (λ near. absurd (far (inr w.if-down-gt215.true) near)))
    ]

pub returns : goal.returns
returns c =
    let a = c.args.a.now in
    let b = c.args.b.now in
    let ax : FitsSigned w64 a.x = search rules in
    let ay : FitsSigned w64 a.y = search rules in
    let bx : FitsSigned w64 b.x = search rules in
    let by : FitsSigned w64 b.y = search rules in
    let e : c.abs_diff-across.result ≡ unsigned_abs (b.x -ℤ a.x) = simp to_z-of_z at c.abs_diff-across.ensures in
    let f : c.abs_diff-down.result ≡ unsigned_abs (b.y -ℤ a.y) = simp to_z-of_z at c.abs_diff-down.ensures in
    let h = near_by_sizes (b.x -ℤ a.x) (b.y -ℤ a.y) c.abs_diff-across.result c.abs_diff-down.result e f in
    ((λ t. h.1 (c.is_within.ensures.0 t)), (λ near. c.is_within.ensures.1 (h.0 near)))
