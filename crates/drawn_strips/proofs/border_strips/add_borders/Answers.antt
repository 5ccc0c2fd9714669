use Rattle.std.proofs.Common.{List, Contains, [], ◌∷◌, ◌++◌, sym, subst, ap, ◌∙◌, append-nil}
use Rattle.std.specs.List.{AllZip}
use Rattle.std.proofs.lemmas.List.{append_assoc, take_all}
use Rattle.std.proofs.lemmas.List.Elements.{All-contains, Contains-get_or}
use Rattle.lattice.specs.Cuts.{plane_of}
use Rattle.lattice.specs.declared.pieces.Strip.{Strip}
use Rattle.line_merge.proofs.Zips.{zip_more}
use Rattle.cut_plane.specs.declared.segments.Segment.{Segment}
use Rattle.cut_plane.specs.Loops.{IsSegmentOf}
use Rattle.drawn_strips.specs.Strips.{IsBorderStrip}
use Rattle.drawn_strips.proofs.border_strips.add_borders.Goals as goal

pub loop-segment-init : goal.loop-segment-init
loop-segment-init c = ([], sym (append-nil c.args.strips.now.items), tt)

pub border_strip-requires : goal.border_strip-requires
border_strip-requires c =
    let (s, closed, borders) = c.requires in
    let plane = plane_of c.args.section.now.cut in
    let segments = c.deref-segment-items.result.now in
    let listed = Contains-get_or segments c.loop-segment.segment-index c.segment-item.result c.loop-segment-test.true in (
      plane,
      s,
      closed,
      All-contains (IsSegmentOf plane s) c.args.section.now.segments.items c.segment-item.result borders.each
          (subst (λ (xs : List Segment). Contains xs c.segment-item.result) c.deref-segment-items.ensures.value (subst (Contains segments) (sym c.segment-item.is) listed)),
    )

pub loop-segment-preserved : goal.loop-segment-preserved
loop-segment-preserved c =
    let x = c.segment-item.result in
    let y = c.border_strip.result in
    let (here, added, zip) = c.loop-segment.invariant in (
      here ++ y ∷ [],
      ◌∙◌ {A = List Strip} c.in_ok-push.ensures.items (◌∙◌ {A = List Strip} (ap (λ (ys : List Strip). ys ++ y ∷ []) added) (append_assoc c.args.strips.now.items here (y ∷ []))),
      zip_more IsBorderStrip c.deref-segment-items.result.now here c.loop-segment.segment-index x y c.loop-segment-test.true c.segment-item.is zip c.border_strip.ensures,
    )

pub returns : goal.returns
returns c =
    let (here, added, zip) = c.loop-segment.invariant in (
      here,
      added,
      subst (λ (xs : List Segment). AllZip IsBorderStrip xs here) (take_all c.loop-segment.segment-index c.deref-segment-items.result.now c.loop-segment-test.false ∙ c.deref-segment-items.ensures.value) zip,
    )
