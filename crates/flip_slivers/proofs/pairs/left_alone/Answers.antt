use Rattle.std.proofs.Common.{◌≡◌, ◌<◌, ◌+◌, List, ◌++◌, length, drop, get_or, None, ap, ◌∙◌, arith, Vec, Global}
use Rattle.lattice.specs.declared.soup.Tri.{Tri}
use Rattle.flip_slivers.specs.Pairs.{alone}
use Rattle.flip_slivers.proofs.PairLemmas.{alone_kept, alone_dropped, all_alone, tested_none, tested_some}
use Rattle.flip_slivers.proofs.pairs.left_alone.Goals as goal
use Rattle.flip_slivers.proofs.pairs.left_alone.Goals.{then-is_none+in_ok-push, else-is_none}

left_items : (v w : Vec Tri Global) → v ≡ w → v.items ≡ w.items
left_items v w e = ap (λ (u : Vec Tri Global). u.items) e

pub loop-place-preserved : goal.loop-place-preserved
loop-place-preserved c =
    let ts = c.args.triangles.now in
    let ps = c.args.partners.now in
    let i = c.loop-place.place in
    let rest = alone (drop (i + 1) ts) (drop (i + 1) ps) in
    let also : i < length ps = omega (arith, c.requires.for_each, c.loop-place-test.true) in
    elim c.if-is_none.branch as (λ _. c.if-is_none.left.items ++ rest ≡ alone ts ps) [
      | then-is_none+in_ok-push w ↦
          ap (λ (left : List Tri). left ++ rest) (left_items c.if-is_none.left w.push.new.self w.left-is ∙ w.in_ok-push.ensures.items)
          ∙ alone_kept ts ps i _ c.loop-place.left.items (alone ts ps) c.loop-place-test.true also (tested_none (get_or ps i None) c.is_none.result c.is_none.ensures w.if-is_none.true) c.loop-place.invariant
      | else-is_none w ↦
          ap (λ (left : List Tri). left ++ rest) (left_items c.if-is_none.left c.loop-place.left w.left-is)
          ∙ (let (j, some) = tested_some (get_or ps i None) c.is_none.result c.is_none.ensures w.if-is_none.false in
          alone_dropped ts ps i (record { a = 0; b = 0; c = 0 }) j c.loop-place.left.items (alone ts ps) c.loop-place-test.true also some c.loop-place.invariant)
    ]

pub returns : goal.returns
returns c = all_alone c.args.triangles.now c.args.partners.now c.loop-place.place c.loop-place.left.items _ c.loop-place-test.false c.loop-place.invariant
