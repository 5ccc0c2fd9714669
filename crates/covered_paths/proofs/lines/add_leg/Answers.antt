use Rattle.std.proofs.Common.{◌≡◌, ◌≤◌, ◌^◌, ◌++◌, List, ◌∷◌, [], Bool, false, refl, map, ℤ, unsigned_abs, sym, ap, subst, ◌∙◌, rules, FitsSigned, to_z, of_z}
use Rattle.std.specs.Prelude.{cond}
use Rattle.std.specs.Int.{w64}
use Rattle.std.proofs.lemmas.Int.{to_z-of_z}
use Rattle.covered_paths.specs.Covering.{is_one}
use Rattle.covered_paths.specs.Sheets.{Ends, ends_of}
use Rattle.covered_paths.specs.declared.legs.Leg.{Leg}
use Rattle.covered_paths.proofs.OnSheet.{across_small, down_small}
use Rattle.covered_paths.proofs.lines.add_leg.Goals as goal

pushed : (legs : List Leg) (s : Leg) → map ends_of (legs ++ s ∷ []) ≡ map ends_of legs ++ ends_of s ∷ []
pushed [] s = refl
pushed (t ∷ ts) s = ap (λ (rest : List Ends). ends_of t ∷ rest) (pushed ts s)

small : (z : ℤ) → unsigned_abs z ≤ 2 ^ 17 → unsigned_abs (to_z w64 (of_z w64 z)) ≤ 2 ^ 17
small z h = let fits : FitsSigned w64 z = search rules in subst (λ (u : ℤ). unsigned_abs u ≤ 2 ^ 17) (sym (to_z-of_z w64 z fits)) h

pub leg_between-requires-clause-x1_near : goal.leg_between-requires-clause-x1_near
leg_between-requires-clause-x1_near c = small c.args.from.now.x (across_small c.args.from.now c.requires.from)

pub leg_between-requires-clause-y1_near : goal.leg_between-requires-clause-y1_near
leg_between-requires-clause-y1_near c = small c.args.from.now.y (down_small c.args.from.now c.requires.from)

pub leg_between-requires-clause-x2_near : goal.leg_between-requires-clause-x2_near
leg_between-requires-clause-x2_near c = small c.args.to.now.x (across_small c.args.to.now c.requires.to)

pub leg_between-requires-clause-y2_near : goal.leg_between-requires-clause-y2_near
leg_between-requires-clause-y2_near c = small c.args.to.now.y (down_small c.args.to.now c.requires.to)

pub returns : goal.returns
returns c =
    let from = c.args.from.now in
    let to = c.args.to.now in
    let x1_near = across_small from c.requires.from in
    let y1_near = down_small from c.requires.from in
    let x2_near = across_small to c.requires.to in
    let y2_near = down_small to c.requires.to in
    let f1 : FitsSigned w64 from.x = search rules in
    let f2 : FitsSigned w64 from.y = search rules in
    let f3 : FitsSigned w64 to.x = search rules in
    let f4 : FitsSigned w64 to.y = search rules in
    let apart = simp to_z-of_z at c.is_one.ensures in
    let ends = simp to_z-of_z at c.leg_between.ensures in
    let two : is_one from.x from.y to.x to.y ≡ false = sym apart ∙ c.if-is_one.false in
    let last : Ends = record { x1 = from.x; y1 = from.y; x2 = to.x; y2 = to.y } in
    ap (map ends_of) c.in_ok-push.ensures.items
    ∙ pushed c.args.legs.now.items c.leg_between.result
    ∙ ap (λ (e : Ends). map ends_of c.args.legs.now.items ++ e ∷ []) (λ i. record { x1 = ends.x1 i; y1 = ends.y1 i; x2 = ends.x2 i; y2 = ends.y2 i })
    ∙ sym (ap (λ (b : Bool). map ends_of c.args.legs.now.items ++ cond b [] (last ∷ [])) two)
