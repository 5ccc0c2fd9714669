use Rattle.std.proofs.Common.{◌≡◌, true, sym, subst, ◌∙◌, rules, ℤ, FitsSigned}
use Rattle.std.specs.Prelude.{pos, ◌≤ℤ◌}
use Rattle.std.specs.Int.{w64}
use Rattle.std.proofs.lemmas.Int.{to_z-of_z}
use Rattle.covered_paths.specs.declared.extent.Extent.{Extent}
use Rattle.covered_paths.specs.inner.Boxes.{extent_of, is_missed}
use Rattle.covered_paths.proofs.Outside.{none_near}
use Rattle.covered_paths.proofs.drawn.is_start_near_line.Goals as goal

pub returns-then-is_missed : goal.returns-then-is_missed
returns-then-is_missed c =
    let leg = c.args.leg.now in
    let line = c.args.other.now in
    let x_near = leg.x1_near in
    let y_near = leg.y1_near in
    let far = c.far_of-far.ensures in
    let fits : FitsSigned w64 c.far_of-far.result = search rules in
    let across : FitsSigned w64 leg.x1 = search rules in
    let down : FitsSigned w64 leg.y1 = search rules in
    let missed = simp to_z-of_z at c.is_missed.ensures in
    sym
    (none_near _ (subst (λ (z : ℤ). pos 0 ≤ℤ z) far.value far.not_negative) leg line.legs.items
    (subst (λ (z : ℤ). is_missed z leg.x1 leg.y1 (extent_of line.legs.items) ≡ true) far.value
    (subst (λ (e : Extent). is_missed c.far_of-far.result leg.x1 leg.y1 e ≡ true) line.around (sym missed ∙ c.if-is_missed.true))))
