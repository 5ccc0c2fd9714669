use Rattle.std.proofs.Common.{List, map, sym, subst}
use Rattle.std.specs.List.{All}
use Rattle.lattice.specs.Points.{of_dir}
use Rattle.lattice.specs.Lines.{AreStripEnds}
use Rattle.line_merge.specs.declared.numbering.Listed.{Listed}
use Rattle.line_merge.specs.declared.numbering.Numbered.{Numbered}
use Rattle.line_merge.specs.inner.Numbering.{listed_strip}
use Rattle.line_merge.specs.inner.Pieces.{AreUpToLine}
use Rattle.line_merge.proofs.Regrouped.{listed_ends, taken_listed, merged_listed}
use Rattle.line_merge.proofs.by_line.merge.Goals as goal

pub take_listed-requires-clause-ends : goal.take_listed-requires-clause-ends
take_listed-requires-clause-ends c =
    let d = of_dir c.args.d.now in
    subst (λ (xs : List Listed). All (λ (x : Numbered). AreStripEnds d x.strip.line x.strip.a x.strip.b) (map listed_strip xs)) (sym c.deref.ensures.value)
    (listed_ends d c.args.strips.now c.in_ok-listed.listed.items c.in_ok-listed.ensures c.requires)

pub pieces-requires : goal.pieces-requires
pieces-requires c =
    let d = of_dir c.args.d.now in
    let lines = c.in_ok-lines.lines in
    let (others, moved, taken) = taken_listed d c.args.strips.now c.in_ok-listed.listed.items c.in_ok-listed.ensures c.requires lines
    (subst (λ (xs : List Listed). AreUpToLine d (map listed_strip xs) lines.pieces.items lines.here.items lines.line) c.deref.ensures.value c.in_ok-lines.ensures) in
    (c.in_ok-listed.ensures.number, others, taken)

pub returns : goal.returns
returns c =
    let d = of_dir c.args.d.now in
    let lines = c.in_ok-lines.lines in
    merged_listed d c.args.strips.now c.in_ok-listed.listed.items c.in_ok-listed.ensures c.requires lines
    (subst (λ (xs : List Listed). AreUpToLine d (map listed_strip xs) lines.pieces.items lines.here.items lines.line) c.deref.ensures.value c.in_ok-lines.ensures)
    c.in_ok-pieces.pieces.items c.in_ok-pieces.ensures
