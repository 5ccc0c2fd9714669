use Rattle.std.proofs.Common.{◌≡◌, ◌<◌, List, [], ◌∷◌, ◌++◌, sym, subst, ap, ◌∙◌, arith}
use Rattle.lattice.specs.Points.{of_dir}
use Rattle.lattice.specs.declared.pieces.Piece.{Piece}
use Rattle.line_merge.specs.declared.by_line.LineMerge.{LineMerge}
use Rattle.line_merge.specs.declared.numbering.Numbered.{Numbered}
use Rattle.line_merge.specs.inner.Pieces.{ArePiecesOf, AreUpToLine}
use Rattle.line_merge.proofs.ByLine.{one_more, next_line}
use Rattle.line_merge.proofs.by_line.LineMerge.take_one.Goals.{then-x-self+in_ok-add_pieces, else-x-self}
use Rattle.line_merge.proofs.by_line.LineMerge.take_one.Goals as goal

pub returns-clause-taken : goal.returns-clause-taken
returns-clause-taken c = elim c.if-x-self.branch [
  | then-x-self+in_ok-add_pieces w ↦ λ given up h.
      let d = of_dir c.args.d.now in
      let x = c.args.x in
      let old = c.args.self.now in
      let (others, grown, right) = w.in_ok-add_pieces.ensures in
      let later : old.line < x.line = omega (arith, up, w.if-x-self.true) in
      let pushed : c.push.new.self.items ≡ x ∷ [] =
      c.in_ok-push.ensures.items ∙ ap (λ (m : LineMerge). m.here.items ++ x ∷ []) w.self-is ∙ ap (λ (l : List Numbered). l ++ x ∷ []) w.clear.ensures.items in
      let here : AreUpToLine d (given ++ x ∷ []) (old.pieces.items ++ others) (x ∷ []) x.line =
      next_line d given old.pieces.items old.here.items old.line h others (subst (λ (xs : List Numbered). ArePiecesOf d xs others) w.deref.ensures.value right) x later in
      subst (λ n. AreUpToLine d (given ++ x ∷ []) c.if-x-self.self.pieces.items c.push.new.self.items n) (sym (ap (λ (m : LineMerge). m.line) w.self-is))
      (subst (λ (l : List Numbered). AreUpToLine d (given ++ x ∷ []) c.if-x-self.self.pieces.items l x.line) (sym pushed)
      (subst (λ (ls : List Piece). AreUpToLine d (given ++ x ∷ []) ls (x ∷ []) x.line) (sym {A = List Piece} (ap (λ (m : LineMerge). m.pieces.items) w.self-is ∙ grown)) here))
  | else-x-self w ↦ λ given up h.
      let d = of_dir c.args.d.now in
      let x = c.args.x in
      let old = c.args.self.now in
      let same : x.line ≡ old.line = omega (arith, w.if-x-self.false) in
      let pushed : c.push.new.self.items ≡ old.here.items ++ x ∷ [] = c.in_ok-push.ensures.items ∙ ap (λ (m : LineMerge). m.here.items ++ x ∷ []) w.self-is in
      let here : AreUpToLine d (given ++ x ∷ []) old.pieces.items (old.here.items ++ x ∷ []) x.line = one_more d given old.pieces.items old.here.items old.line h x same in
      subst (λ n. AreUpToLine d (given ++ x ∷ []) c.if-x-self.self.pieces.items c.push.new.self.items n) (same ∙ sym (ap (λ (m : LineMerge). m.line) w.self-is))
      (subst (λ (l : List Numbered). AreUpToLine d (given ++ x ∷ []) c.if-x-self.self.pieces.items l x.line) (sym pushed)
      (subst (λ (ls : List Piece). AreUpToLine d (given ++ x ∷ []) ls (old.here.items ++ x ∷ []) x.line) (sym {A = List Piece} (ap (λ (m : LineMerge). m.pieces.items) w.self-is)) here))
]
