use Rattle.std.proofs.Common.{◌≡◌, ◌≤◌, List, [], ◌∷◌, ◌++◌, map, take, get_or, sym, subst, ap, ◌∙◌, arith}
use Rattle.std.proofs.lemmas.List.{get_or_default, length-map}
use Rattle.std.proofs.lemmas.List.Elements.{All-take}
use Rattle.std.proofs.Math.Seq.{take-length}
use Rattle.lattice.specs.Points.{of_dir}
use Rattle.lattice.specs.Lines.{AreStripEnds}
use Rattle.lattice.specs.Triple.{Triple}
use Rattle.line_merge.specs.declared.numbering.Listed.{Listed}
use Rattle.line_merge.specs.declared.numbering.Numbered.{Numbered}
use Rattle.line_merge.specs.inner.Numbering.{listed_strip}
use Rattle.line_merge.specs.inner.Pieces.{AreUpToLine}
use Rattle.line_merge.proofs.ByLine.{all_last, one_more_listed}
use Rattle.line_merge.proofs.by_line.take_listed.Goals as goal

abbrev HasEnds : Triple → Numbered → Type 0
HasEnds d x = AreStripEnds d x.strip.line x.strip.a x.strip.b

pub loop-x-init : goal.loop-x-init
loop-x-init c = ((c.new-lines.ensures.taken c.args.d.now (λ l. 0)).up_to, λ j e later less. omega (arith, c.new-lines.ensures.first))

pub take_one-requires : goal.take_one-requires
take_one-requires c =
    let d = of_dir c.args.d.now in
    let given = map listed_strip c.args.listed.now in
    let k = c.loop-x.x-index in
    all_last d (take k given) c.loop-x.lines.pieces.items c.loop-x.lines.here.items c.loop-x.lines.line c.loop-x.invariant.0 (HasEnds d) (All-take (HasEnds d) k given c.requires.ends)

pub loop-x-preserved : goal.loop-x-preserved
loop-x-preserved c =
    let d = of_dir c.args.d.now in
    let listed = c.args.listed.now in
    let k = c.loop-x.x-index in
    let x = c.x-item.result in
    let y = c.listed_strip.result in
    let within = c.loop-x-test.true in
    let is = c.x-item.is in
    let line : y.line ≡ x.line = ap (λ (z : Numbered). z.line) c.listed_strip.ensures in
    let forth : c.loop-x.lines.line ≤ x.line = subst (λ (y : Listed). c.loop-x.lines.line ≤ y.line) (sym is) (c.loop-x.invariant.1 k x (omega arith) within) in (
      subst (λ (given : List Numbered). AreUpToLine d given c.take_one.new.self.pieces.items c.take_one.new.self.here.items c.take_one.new.self.line)
          (ap (λ (z : Numbered). take k (map listed_strip listed) ++ z ∷ []) c.listed_strip.ensures ∙ sym (one_more_listed listed k x within is))
          (c.in_ok-take_one.ensures.taken (take k (map listed_strip listed)) (omega (arith, forth, line)) c.loop-x.invariant.0),
      λ j e later less.
          let up : x.line ≤ (get_or listed j e).line =
          subst (λ (y : Listed). y.line ≤ (get_or listed j e).line) (sym (get_or_default listed k x e within) ∙ sym is) (c.requires.ascending k j e (omega (arith, later)) less) in
          omega (arith, up, line, c.in_ok-take_one.ensures.line),
    )

pub returns : goal.returns
returns c =
    let d = of_dir c.args.d.now in
    let given = map listed_strip c.args.listed.now in
    let k = c.loop-x.x-index in
    let all : take k given ≡ given =
    ap (λ n. take n given) (omega (arith, c.loop-x-test.false, c.loop-x.auto.x-index-end, length-map c.args.listed.now listed_strip)) ∙ take-length given in
    subst (λ (xs : List Numbered). AreUpToLine d xs c.loop-x.lines.pieces.items c.loop-x.lines.here.items c.loop-x.lines.line) all c.loop-x.invariant.0
