use Rattle.std.proofs.Common.{inr, List, ◌++◌, map, take, refl, sym, subst, append-nil}
use Rattle.std.proofs.lemmas.List.{take_all}
use Rattle.lattice.specs.declared.pieces.Strip.{Strip}
use Rattle.view_lines.specs.inner.Sources.{Origin, ArePlaced}
use Rattle.view_lines.proofs.PlacedSources.{origins_more}
use Rattle.view_lines.proofs.sources.place_others.Goals as goal

pub loop-strip-init : goal.loop-strip-init
loop-strip-init c d solid all placed = subst (λ (xs : List Origin). ArePlaced d solid c.args.table.now.keys xs c.args.placed.now.items) (sym (append-nil all)) placed

pub loop-strip-preserved : goal.loop-strip-preserved
loop-strip-preserved c d solid all placed =
    let others = c.args.others.now in
    let k = c.loop-strip.strip-index in
    let so_far : List Origin = all ++ map inr (take k others) in
    subst (λ (xs : List Origin). ArePlaced d solid c.place.new.table.keys xs c.place.new.placed.items) (origins_more inr all others k c.strip-item.result c.loop-strip-test.true c.strip-item.is)
    (c.in_ok-place.ensures d solid so_far (record { a = refl; b = refl; c = refl }) (c.loop-strip.invariant d solid all placed))

pub returns : goal.returns
returns c d solid all placed =
    subst (λ (xs : List Strip). ArePlaced d solid c.loop-strip.table.keys (all ++ map inr xs) c.loop-strip.placed.items) (take_all c.loop-strip.strip-index c.args.others.now c.loop-strip-test.false)
    (c.loop-strip.invariant d solid all placed)
