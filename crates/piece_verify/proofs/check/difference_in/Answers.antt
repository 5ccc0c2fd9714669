use Rattle.std.proofs.Common.{List, sym, subst, ◌∙◌, arith}
use Rattle.lattice.specs.Points.{of_dir}
use Rattle.lattice.specs.declared.pieces.Piece.{Piece}
use Rattle.piece_verify.specs.Checked.{IsRightList}
use Rattle.piece_verify.proofs.Verdicts.{judged, as_few}
use Rattle.piece_verify.proofs.check.difference_in.Goals as goal

pub difference_of-requires : goal.difference_of-requires
difference_of-requires c =
    let few = as_few c.args.view c.args.entries.now c.deref.result.now (c.deref.ensures.value ∙ c.in_ok-given.ensures) in
    omega (arith, few, c.requires.few)

pub returns : goal.returns
returns c = λ asked is_view.
    judged c.args.solid.now c.args.job.now c.args.view c.args.entries.now c.deref.result.now (c.deref.ensures.value ∙ c.in_ok-given.ensures)
    (of_dir c.view_dir.result) asked (c.view_dir.ensures asked is_view) c.deref-2.result.now
    (subst (IsRightList c.args.solid.now c.args.job.now asked.spec) (sym {A = List Piece} c.deref-2.ensures.value) (c.in_ok-pieces.ensures asked is_view)) c.difference_of.result c.difference_of.ensures
