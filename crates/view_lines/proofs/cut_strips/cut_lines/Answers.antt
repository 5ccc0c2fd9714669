use Rattle.std.proofs.Common.{◌∙◌, List, ap, sym, subst}
use Rattle.lattice.specs.Creases.{fraction_of}
use Rattle.lattice.specs.Cuts.{Plane, plane_of, toward_of}
use Rattle.lattice.specs.Triple.{Triple}
use Rattle.cut_plane.specs.Loops.{AreBorders}
use Rattle.edge_pick.specs.Picked.{IsPicked}
use Rattle.geometry.specs.Pieces.{AreInOrder}
use Rattle.geometry.specs.Scenes.{AreRightInCut}
use Rattle.solid_mesh.specs.Solids.{solid_part, edge_halves}
use Rattle.solid_mesh.proofs.Facts.{in_range, sound}
use Rattle.span_count.specs.declared.span.EdgeSpans.{EdgeSpans}
use Rattle.hatch_fill.specs.Hatching.{IsHatching}
use Rattle.view_lines.specs.Counts.{AreCountsBeyond}
use Rattle.view_lines.specs.Numbers.{CountsCut}
use Rattle.view_lines.proofs.cut_strips.cut_lines.Goals as goal

pub counts_beyond-requires-clause-borders : goal.counts_beyond-requires-clause-borders
counts_beyond-requires-clause-borders c =
    let section = c.in_ok-section.section in
    subst (λ (p : Plane). AreBorders p (solid_part c.args.solid.now) section.segments.items section.loops.items) (sym c.in_ok-section.ensures.cut) c.in_ok-section.ensures.borders

pub counts_beyond-requires-clause-picked : goal.counts_beyond-requires-clause-picked
counts_beyond-requires-clause-picked c =
    let solid = c.args.solid.now in
    subst (λ (v : Triple). IsPicked v (fraction_of c.args.crease) (solid_part solid) (edge_halves solid) c.in_ok-picked.picked) c.dir.ensures c.in_ok-picked.ensures

pub cut_pieces-requires-clause-borders : goal.cut_pieces-requires-clause-borders
cut_pieces-requires-clause-borders c =
    let section = c.in_ok-section.section in
    subst (λ (p : Plane). AreBorders p (solid_part c.args.solid.now) section.segments.items section.loops.items) (sym c.in_ok-section.ensures.cut) c.in_ok-section.ensures.borders

pub cut_pieces-requires-clause-counts : goal.cut_pieces-requires-clause-counts
cut_pieces-requires-clause-counts c =
    let fraction = fraction_of c.args.crease in
    (fraction, subst (λ (xs : List EdgeSpans). AreCountsBeyond (plane_of c.in_ok-section.section.cut) fraction c.args.solid.now xs) (sym c.deref.ensures.value) c.in_ok-entries.ensures.right)

pub returns-clause-right : goal.returns-clause-right
returns-clause-right c =
    let solid = c.args.solid.now in
    let fraction = fraction_of c.args.crease in
    subst (λ (p : Plane). AreRightInCut p fraction (solid_part solid) c.in_ok-pieces.pieces.items) c.in_ok-section.ensures.cut
    (c.in_ok-pieces.ensures.right fraction
    (subst (λ (xs : List EdgeSpans). AreCountsBeyond (plane_of c.in_ok-section.section.cut) fraction solid xs) (sym c.deref.ensures.value) c.in_ok-entries.ensures.right))

pub returns-clause-order : goal.returns-clause-order
returns-clause-order c = subst (λ (p : Plane). AreInOrder (toward_of p) c.in_ok-pieces.pieces.items) c.in_ok-section.ensures.cut c.in_ok-pieces.ensures.order

pub returns-clause-hatched : goal.returns-clause-hatched
returns-clause-hatched c =
    let solid = c.args.solid.now in
    let section = c.in_ok-section.section in
    subst (λ (p : Plane). IsHatching p (solid_part solid) c.args.spacing c.in_ok-hatches.hatches.items) c.in_ok-section.ensures.cut
    (c.in_ok-hatches.ensures (solid_part solid) (sound solid) (in_range solid)
    (subst (λ (p : Plane). AreBorders p (solid_part solid) section.segments.items section.loops.items) (sym c.in_ok-section.ensures.cut) c.in_ok-section.ensures.borders))

pub returns-clause-counts : goal.returns-clause-counts
returns-clause-counts c =
    subst (λ (p : Plane). AreCountsBeyond p (fraction_of c.args.crease) c.args.solid.now c.in_ok-entries.field-0.entries.items) c.in_ok-section.ensures.cut c.in_ok-entries.ensures.right

pub returns-clause-counted : goal.returns-clause-counted
returns-clause-counted c =
    let solid = c.args.solid.now in
    let section = c.in_ok-section.section in
    let picked = c.in_ok-picked.picked in (
      section,
      (c.in_ok-section.ensures.cut, c.in_ok-section.ensures.borders),
      picked,
      subst (λ (v : Triple). IsPicked v (fraction_of c.args.crease) (solid_part solid) (edge_halves solid) picked) (c.dir.ensures ∙ ap toward_of c.in_ok-section.ensures.cut) c.in_ok-picked.ensures,
      subst (λ (p : Plane). CountsCut p solid section picked c.in_ok-entries.field-0.numbers) c.in_ok-section.ensures.cut c.in_ok-entries.ensures.counted,
    )
