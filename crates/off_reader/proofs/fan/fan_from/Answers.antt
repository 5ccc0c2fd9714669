use Rattle.std.proofs.Common.{◌≡◌, ℕ, ◌+◌, List, ◌∷◌, [], ◌++◌, take, slice_get, Some, sym, ap, ◌∙◌, arith}
use Rattle.std.proofs.lemmas.List.{take_all}
use Rattle.lattice.specs.declared.soup.Tri.{Tri}
use Rattle.off_reader.specs.Fans.{turned, fan_of}
use Rattle.off_reader.proofs.Around.{taken, at_fan_from, long_fan_from}
use Rattle.off_reader.proofs.FanNumbers.{triangle}
use Rattle.off_reader.proofs.fan.fan_from.Goals as goal

-- a list of the first triangles, with the next one behind it
one_more : (all : List Tri) (k : ℕ) (t : Tri) → slice_get all k ≡ Some t → (before now : List Tri) → before ≡ take k all → now ≡ before ++ t ∷ [] → now ≡ take (k + 1) all
one_more all k t at before now e pushed = pushed ∙ ap (λ (xs : List Tri). xs ++ t ∷ []) e ∙ sym (taken all k t at)

pub loop-i-init : goal.loop-i-init
loop-i-init c = c.new-triangles.ensures.items

pub loop-i-preserved : goal.loop-i-preserved
loop-i-preserved c =
    let numbers = c.args.numbers.now in
    let first = c.number_at.result in
    let second = c.number_at-in-loop-i.result in
    let third = c.number_at-in-loop-i-2.result in
    let here = at_fan_from triangle numbers c.args.j c.loop-i.i first second third c.requires.place (omega (arith, c.loop-i-test.true)) c.number_at.ensures c.number_at-in-loop-i.ensures c.number_at-in-loop-i-2.ensures in
    one_more (fan_of triangle (turned c.args.j numbers)) c.loop-i.i (triangle first second third) here c.loop-i.triangles.items c.push.new.self.items c.loop-i.invariant c.in_ok-push.ensures.items

pub returns : goal.returns
returns c =
    let numbers = c.args.numbers.now in
    let long = long_fan_from triangle numbers c.args.j c.requires.some c.requires.place in
    c.loop-i.invariant ∙ take_all c.loop-i.i (fan_of triangle (turned c.args.j numbers)) (omega (arith, long, c.loop-i-test.false))
