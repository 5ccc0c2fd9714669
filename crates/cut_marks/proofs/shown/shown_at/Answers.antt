use Rattle.std.proofs.Common.{ℕ, length, ◌<◌, ◌≡◌, subst, FitsSigned, arith}
use Rattle.std.specs.Int.{w64}
use Rattle.std.specs.Prelude.{ℤ}
use Rattle.std.proofs.lemmas.Int.{ints, to_z-of_z}
use Rattle.integers.proofs.Lists.{some_element}
use Rattle.lattice.specs.Points.{Point, of_spot, point_of}
use Rattle.lattice.specs.declared.points.Corner.{Corner}
use Rattle.sheet_plan.specs.declared.sheet.Sheet.{Sheet}
use Rattle.sheet_plan.specs.declared.sheet.Spread.{Spread}
use Rattle.sheet_plan.specs.Sheets.{IsPlaceOf, IsShownAt}
use Rattle.cut_marks.proofs.Sizes.{IsNear, shown_near}
use Rattle.cut_marks.proofs.shown.shown_at.Goals as goal

-- wherever the view stands, the point is shown near
near : (sheet : Sheet) (view : ℕ) (k : Corner) (p : Point) (x y : ℤ) → view < length sheet.places.items → p ≡ point_of k
    → ((place : Spread) → IsPlaceOf sheet view place → IsShownAt sheet place p x y) → IsNear x y
near sheet view k p x y within same shown =
    let (place, stands) = some_element sheet.places.items view within in
    shown_near sheet place k x y (subst (λ (q : Point). IsShownAt sheet place q x y) same (shown place stands))

pub invariant_of-result : goal.invariant_of-result
invariant_of-result c =
    let n = near c.args.sheet.now c.args.view c.args.corner.now (of_spot c.at.result) c.point-x.result.0 c.point-x.result.1 c.requires c.at.ensures c.point-x.ensures in
    let x : FitsSigned w64 c.point-x.result.0 = omega (arith, ints, n.across) in
    let y : FitsSigned w64 c.point-x.result.1 = omega (arith, ints, n.down) in
    record { x_in_range = simp to_z-of_z n.across; y_in_range = simp to_z-of_z n.down }

pub returns : goal.returns
returns c = λ place stands.
    let n = near c.args.sheet.now c.args.view c.args.corner.now (of_spot c.at.result) c.point-x.result.0 c.point-x.result.1 c.requires c.at.ensures c.point-x.ensures in
    let x : FitsSigned w64 c.point-x.result.0 = omega (arith, ints, n.across) in
    let y : FitsSigned w64 c.point-x.result.1 = omega (arith, ints, n.down) in
    simp to_z-of_z (subst (λ (p : Point). IsShownAt c.args.sheet.now place p c.point-x.result.0 c.point-x.result.1) c.at.ensures (c.point-x.ensures place stands))
