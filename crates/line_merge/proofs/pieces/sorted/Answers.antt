use Rattle.std.proofs.Common.{◌≡◌, rules, is_lt}
use Rattle.std.proofs.lemmas.Fn.{always_returns_same}
use Rattle.std.proofs.lemmas.List.Sorted.{ranks_by}
use Rattle.lattice.specs.declared.pieces.Piece.{Piece}
use Rattle.lattice.specs.Points.{of_dir}
use Rattle.line_merge.specs.inner.Pieces.{piece_order}
use Rattle.line_merge.proofs.Sights.{piece_order_total}
use Rattle.line_merge.proofs.pieces.sorted.Goals as goal

pub returns-clause-sorted : goal.returns-clause-sorted
returns-clause-sorted c =
    let d = of_dir c.args.d.now in
    c.sort_unstable_by.ensures.sorted (λ (x y : Piece). is_lt (piece_order d x y)) (ranks_by (piece_order_total d) (λ (l : Piece). l))
    (always_returns_same _ (λ a r. is_lt r ≡ is_lt (piece_order d a.0.now a.1.0.now)) _ (λ a r q k. search rules))
