use Rattle.std.proofs.Common.{◌≡◌, ◌++◌, ◌%◌, ℕ, Bool, not, List, [], ◌∷◌, take, sym, subst, ap, ◌∙◌}
use Rattle.std.proofs.lemmas.List.{take_more, take_all}
use Rattle.lattice.specs.Triple.{Triple}
use Rattle.lattice.specs.Points.{Point, of_dir, of_spot}
use Rattle.cut_plane.specs.declared.segments.Segment.{Segment}
use Rattle.cut_plane.proofs.Lists.{not_true}
use Rattle.cut_plane.proofs.Odd.{IsOddCount, odd_none, odd_more, odd_same}
use Rattle.section_look.proofs.Lists.{count_same}
use Rattle.section_look.proofs.nesting.encloses.Goals as goal
use Rattle.section_look.proofs.nesting.encloses.Goals.{then-is_right_of, else-is_right_of}

pub loop-segment-init : goal.loop-segment-init
loop-segment-init c = odd_none (of_dir c.args.d.now) (of_spot c.args.p.now)

-- the same count by other names
renamed : (d : Triple) (p : Point) (xs ys : List Segment) (odd more : Bool) → ys ≡ xs → more ≡ odd → IsOddCount d p xs odd → IsOddCount d p ys more
renamed d p xs ys odd more e f h = subst (λ (b : Bool). IsOddCount d p ys b) (sym f) (subst (λ (zs : List Segment). IsOddCount d p zs odd) (sym e) h)

pub loop-segment-preserved : goal.loop-segment-preserved
loop-segment-preserved c =
    let d = of_dir c.args.d.now in
    let p = of_spot c.args.p.now in
    let items = c.args.loop_segments.now in
    let i = c.loop-segment.segment-index in
    let x = c.segment-item.result in
    let odd = c.loop-segment.odd in
    let more = take_more items i x c.loop-segment-test.true ∙ ap (λ (y : Segment). take i items ++ y ∷ []) (sym c.segment-item.is) in
    elim c.if-is_right_of.branch [
      | then-is_right_of w ↦
          renamed d p (take i items ++ x ∷ []) _ (not odd) c.if-is_right_of.odd more w.odd-is (odd_more d p (take i items) x odd c.loop-segment.invariant (c.is_right_of.ensures.0 w.if-is_right_of.true))
      | else-is_right_of w ↦
          renamed d p (take i items ++ x ∷ []) _ odd c.if-is_right_of.odd more w.odd-is (odd_same d p (take i items) x odd c.loop-segment.invariant (λ right. not_true c.is_right_of.result w.if-is_right_of.false (c.is_right_of.ensures.1 right)))
    ]

pub returns : goal.returns
returns c =
    let d = of_dir c.args.d.now in
    let p = of_spot c.args.p.now in
    let odd = c.loop-segment.odd in
    let xs = c.args.loop_segments.now in
    let count = subst (λ (ys : List Segment). IsOddCount d p ys odd) (take_all c.loop-segment.segment-index xs c.loop-segment-test.false) c.loop-segment.invariant in (
      (λ t. (count.n, count.count, count.told.0 t)),
      (λ h. count.told.1 (subst (λ (n : ℕ). n % 2 ≡ 1) (count_same xs h.0 count.n h.1 count.count) h.2)),
    )
