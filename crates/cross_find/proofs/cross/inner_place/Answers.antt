use Rattle.std.proofs.Common.{◌≡◌, refl, sym, subst, ◌∙◌, arith}
use Rattle.std.specs.Prelude.{pos, ◌-ℤ◌, ◌*ℤ◌, ◌≤ℤ◌}
use Rattle.std.proofs.lemmas.Int.{ints}
use Rattle.cross_find.specs.Lines.{IsInner}
use Rattle.cross_find.proofs.Passes.{match_map, forward_of_inner, inner_of_forward, inner_turned, inner_back, place_by, turned_same}
use Rattle.cross_find.proofs.cross.inner_place.Goals as goal

pub returns-then-x-gt0 : goal.returns-then-x-gt0
returns-then-x-gt0 c =
    let x = c.args.x.now in
    let least : pos 0 ≤ℤ x.denominator = omega (arith, ints, c.if-x-gt0.true) in
    match_map c.place_within.result (λ none inner. none (forward_of_inner x.denominator x.numerator least inner))
    (λ r h. (inner_of_forward x.denominator x.numerator h.0, place_by x.denominator x.numerator x.denominator x.numerator r refl h.1 h.2 h.0.after h.0.before x.denominator_small))
    c.place_within.ensures

pub returns-else-x-gt0 : goal.returns-else-x-gt0
returns-else-x-gt0 c =
    let x = c.args.x.now in
    let t = c.turned.result in
    let is = c.turned.ensures in
    let least : pos 0 ≤ℤ t.denominator = omega (arith, ints, c.if-x-gt0.false, is.denominator) in
    let same : IsInner (pos 0 -ℤ x.denominator) (pos 0 -ℤ x.numerator) ≡ IsInner t.denominator t.numerator = sym (λ i. IsInner (is.denominator i) (is.numerator i)) in
    match_map c.place_within-else-x-gt0.result
    (λ none inner. none (forward_of_inner t.denominator t.numerator least (subst (λ (T : Type 0). T) same (inner_turned x.denominator x.numerator inner))))
    (λ r h. (
      inner_back x.denominator x.numerator (subst (λ (T : Type 0). T) (sym same) (inner_of_forward t.denominator t.numerator h.0)),
      place_by x.denominator x.numerator t.denominator t.numerator r ((λ i. is.numerator i *ℤ x.denominator) ∙ turned_same x.denominator x.numerator ∙ sym (λ i. x.numerator *ℤ is.denominator i)) h.1 h.2 h.0.after h.0.before t.denominator_small,
    ))
    c.place_within-else-x-gt0.ensures
