use Rattle.std.proofs.Common.{List, [], ◌∷◌, ◌++◌, take, ◌+◌, sym, subst, ap, ◌∙◌, Vec, Global, ◌≡◌, refl, arith}
use Rattle.std.proofs.lemmas.List.{take_all, take_more}
use Rattle.std.proofs.lemmas.List.Elements.{All-push}
use Rattle.lattice.specs.declared.pieces.Strip.{Strip}
use Rattle.lattice.specs.Points.{of_dir}
use Rattle.lattice.specs.Lines.{AreStripEnds}
use Rattle.line_merge.specs.Merging.{AreStrips}
use Rattle.detail_pieces.proofs.Kept.{ArePartsIn, parts_none, parts_more, parts_unseen, clipped_of}
use Rattle.detail_pieces.proofs.clipping.clip.Goals.{in-Some+in_ok-push, in_default}
use Rattle.detail_pieces.proofs.clipping.clip.Goals as goal

pub loop-strip-init : goal.loop-strip-init
loop-strip-init c =
    let Kept : List Strip → Type 0 = λ xs. ArePartsIn (of_dir c.args.d.now) c.args.window.now [] xs × AreStrips (of_dir c.args.d.now) xs in
    subst Kept (sym c.new-clipped.ensures.items) (parts_none (of_dir c.args.d.now) c.args.window.now, λ k s h. absurd (omega (arith, h)))

pub loop-strip-preserved : goal.loop-strip-preserved
loop-strip-preserved c =
    let d = of_dir c.args.d.now in
    let o = c.args.window.now in
    let strips = c.args.strips.now in
    let k = c.loop-strip.strip-index in
    let s = c.strip-item.result in
    let Kept : List Strip → List Strip → Type 0 = λ xs ys. ArePartsIn d o xs ys × AreStrips d ys in
    let more : take (k + 1) strips ≡ take k strips ++ s ∷ [] = take_more strips k s c.loop-strip-test.true ∙ ap (λ (x : Strip). take k strips ++ x ∷ []) (sym c.strip-item.is) in
    elim c.match-part_in.branch [
      | in-Some+in_ok-push w ↦
          let t = w.in-Some.part in
          let items = sym {A = List Strip} (◌∙◌ {A = List Strip} (ap (λ (v : Vec Strip Global). v.items) w.clipped-is) w.in_ok-push.ensures.items) in
          subst (λ (xs : List Strip). Kept xs c.match-part_in.clipped.items) (sym more)
          (subst (λ (ys : List Strip). Kept (take k strips ++ s ∷ []) ys) items (
            parts_more d o (take k strips) c.loop-strip.clipped.items s t c.loop-strip.invariant.0 w.in-Some.ensures.some,
            All-push (λ x. AreStripEnds d x.line x.a x.b) c.loop-strip.clipped.items t c.loop-strip.invariant.1 w.in-Some.ensures.some.proper,
          ))
      | in_default w ↦
          let items = sym {A = List Strip} (ap (λ (v : Vec Strip Global). v.items) w.clipped-is) in
          subst (λ (xs : List Strip). Kept xs c.match-part_in.clipped.items) (sym more)
          (subst (λ (ys : List Strip). Kept (take k strips ++ s ∷ []) ys) items (
            parts_unseen d o (take k strips) c.loop-strip.clipped.items s c.loop-strip.invariant.0 (w.in_default.ensures.none refl),
            c.loop-strip.invariant.1,
          ))
    ]

pub returns : goal.returns
returns c =
    let d = of_dir c.args.d.now in
    clipped_of d c.args.window.now c.args.strips.now c.loop-strip.clipped.items
    (subst (λ (xs : List Strip). ArePartsIn d c.args.window.now xs c.loop-strip.clipped.items) (take_all c.loop-strip.strip-index c.args.strips.now c.loop-strip-test.false) c.loop-strip.invariant.0)
    c.loop-strip.invariant.1
