use Rattle.std.proofs.Common.{List, Contains, [], ◌∷◌, ◌++◌, sym, subst, ap, ◌∙◌, append-nil}
use Rattle.std.specs.List.{AllZip}
use Rattle.std.proofs.lemmas.List.{append_assoc, take_all}
use Rattle.std.proofs.lemmas.List.Elements.{All-contains, Contains-get_or}
use Rattle.lattice.specs.declared.pieces.Strip.{Strip}
use Rattle.lattice.specs.Points.{of_dir}
use Rattle.line_merge.proofs.Zips.{zip_more}
use Rattle.lattice.specs.declared.spans.Span.{Span}
use Rattle.geometry.specs.Places.{IsEarlier}
use Rattle.drawn_strips.specs.Strips.{IsStripOf}
use Rattle.drawn_strips.proofs.edge_strips.add_strips.Goals as goal

pub loop-span-init : goal.loop-span-init
loop-span-init c = ([], sym (append-nil c.args.strips.now.items), λ e n. tt)

pub strip_of-requires-clause-ordered : goal.strip_of-requires-clause-ordered
strip_of-requires-clause-ordered c =
    let spans = c.args.spans.now in
    let listed = Contains-get_or spans c.loop-span.span-index c.span-item.result c.loop-span-test.true in
    All-contains (λ (x : Span). IsEarlier x.from x.to) spans c.span-item.result c.requires.ordered (subst (Contains spans) (sym c.span-item.is) listed)

pub loop-span-preserved : goal.loop-span-preserved
loop-span-preserved c =
    let d = of_dir c.args.d.now in
    let x = c.span-item.result in
    let y = c.strip_of.result in
    let (here, added, zip) = c.loop-span.invariant in (
      here ++ y ∷ [],
      ◌∙◌ {A = List Strip} c.in_ok-push.ensures.items (◌∙◌ {A = List Strip} (ap (λ (ys : List Strip). ys ++ y ∷ []) added) (append_assoc c.args.strips.now.items here (y ∷ []))),
      λ e n. zip_more (IsStripOf d e) c.args.spans.now here c.loop-span.span-index x y c.loop-span-test.true c.span-item.is (zip e n) (c.strip_of.ensures e n),
    )

pub returns : goal.returns
returns c =
    let (here, added, zip) = c.loop-span.invariant in
    (here, added, λ e n. subst (λ (xs : List Span). AllZip (IsStripOf (of_dir c.args.d.now) e) xs here) (take_all c.loop-span.span-index c.args.spans.now c.loop-span-test.false) (zip e n))
