use Rattle.std.proofs.Common.{sym, inl, inr, None}
use Rattle.std.proofs.lemmas.List.{append-nil}
use Rattle.lattice.specs.declared.points.Corner.{Corner}
use Rattle.lattice.specs.Cuts.{plane_of, toward_of}
use Rattle.hiding_laws.specs.Values.{WideSideHides}
use Rattle.span_slow.specs.inner.CutHidden.{IsOrdinaryBeyond, AreAddedBeyond, PairHides}
use Rattle.span_slow.proofs.CutFronts.{none_beyond}
use Rattle.span_slow.proofs.CutPairs.{pairs_added}
use Rattle.span_slow.proofs.Numbered.{on_ok}
use Rattle.span_slow.proofs.Where.{added_one}
use Rattle.span_slow.proofs.cut_faces.add_pairs.Goals as goal

pub returns : goal.returns
returns c s sound in_range e at_a at_b f p q r side =
    let z = plane_of c.args.edge.now.cut in
    let k = c.args.k.now in
    let l = c.args.l.now in
    let i = c.args.a.now in
    let j = c.args.b.now in
    let g = c.args.c.now in
    let old = c.args.hidden.now.items in
    let first = c.add.new.hidden.items in
    let second = c.add-2.new.hidden.items in
    let third = c.add-3.new.hidden.items in
    on_ok c.add-3.result (λ all. pairs_added z e k l i j g old first second third
    (added_one (IsOrdinaryBeyond z s) e (PairHides z k l i j) old first c.pair_interval.result (c.pair_interval.ensures s sound in_range e at_a at_b f side (inl (inl (sym p, sym q)))) c.in_ok-add.ensures)
    (added_one (IsOrdinaryBeyond z s) e (PairHides z k l j g) first second c.pair_interval-2.result (c.pair_interval-2.ensures s sound in_range e at_a at_b f side (inr (inl (inl (sym q, sym r))))) c.in_ok-add-2.ensures)
    (added_one (IsOrdinaryBeyond z s) e (PairHides z k l g i) second third c.pair_interval-3.result (c.pair_interval-3.ensures s sound in_range e at_a at_b f side (inr (inr (inl (sym r, sym p))))) all)) c.add-3.ensures

pub returns-then-not-may_hide : goal.returns-then-not-may_hide
returns-then-not-may_hide c s sound in_range e at_a at_b f p q r side =
    let z = plane_of c.args.edge.now.cut in
    let d = toward_of z in
    let k = c.args.k.now in
    let l = c.args.l.now in
    let i = c.args.a.now in
    let j = c.args.b.now in
    let g = c.args.c.now in
    let old = c.args.hidden.now.items in
    let none : (m n : Corner) → AreAddedBeyond z e (PairHides z k l m n) old old = λ m n.
    added_one (IsOrdinaryBeyond z s) e (PairHides z k l m n) old old None
    (none_beyond z s e (PairHides z k l m n) (WideSideHides d k l) (λ p h. h.0) (c.may_hide.ensures s sound in_range e at_a at_b f side c.if-not-may_hide.true))
    (sym (append-nil old)) in
    pairs_added z e k l i j g old old old old (none i j) (none j g) (none g i)
