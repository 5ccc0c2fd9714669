use Rattle.std.proofs.Common.{◌≡◌, ◌++◌, Bool, not, List, [], ◌∷◌, take, sym, subst, ap, ◌∙◌}
use Rattle.std.proofs.lemmas.List.{take_more, take_all}
use Rattle.lattice.specs.Triple.{Triple}
use Rattle.lattice.specs.Points.{Point, of_dir, of_spot}
use Rattle.lattice.specs.Cuts.{plane_of}
use Rattle.cut_plane.specs.declared.segments.Segment.{Segment}
use Rattle.cut_plane.proofs.Odd.{IsOddCount, odd_none, odd_more, odd_same}
use Rattle.cut_plane.proofs.Parities.{in_section}
use Rattle.cut_plane.proofs.parity.inside.Goals as goal
use Rattle.cut_plane.proofs.Lists.{not_true}
use Rattle.cut_plane.proofs.parity.inside.Goals.{then-is_right_of, else-is_right_of}

pub loop-segment-init : goal.loop-segment-init
loop-segment-init c = odd_none (of_dir c.dir-d.result) (of_spot c.args.p.now)

-- the same count by other names
renamed : (d : Triple) (p : Point) (xs ys : List Segment) (odd more : Bool) → ys ≡ xs → more ≡ odd → IsOddCount d p xs odd → IsOddCount d p ys more
renamed d p xs ys odd more e f h = subst (λ (b : Bool). IsOddCount d p ys b) (sym f) (subst (λ (zs : List Segment). IsOddCount d p zs odd) (sym e) h)

pub loop-segment-preserved : goal.loop-segment-preserved
loop-segment-preserved c =
    let d = of_dir c.dir-d.result in
    let p = of_spot c.args.p.now in
    let items = c.as_slice-segment-items.result.now in
    let i = c.loop-segment.segment-index in
    let x = c.segment-item.result in
    let odd = c.loop-segment.odd in
    let more = take_more items i x c.loop-segment-test.true ∙ ap (λ (y : Segment). take i items ++ y ∷ []) (sym c.segment-item.is) in
    elim c.if-is_right_of.branch [
      | then-is_right_of w ↦
          renamed d p (take i items ++ x ∷ []) _ (not odd) c.if-is_right_of.odd more w.odd-is (odd_more d p (take i items) x odd c.loop-segment.invariant (c.is_right_of.ensures.0 w.if-is_right_of.true))
      | else-is_right_of w ↦
          renamed d p (take i items ++ x ∷ []) _ odd c.if-is_right_of.odd more w.odd-is (odd_same d p (take i items) x odd c.loop-segment.invariant (λ right. not_true c.is_right_of.result w.if-is_right_of.false (c.is_right_of.ensures.1 right)))
    ]

pub returns : goal.returns
returns c s borders =
    let section = c.args.section.now in
    let plane = plane_of section.cut in
    let p = of_spot c.args.p.now in
    let odd = c.loop-segment.odd in
    let all = take_all c.loop-segment.segment-index c.as_slice-segment-items.result.now c.loop-segment-test.false ∙ c.as_slice-segment-items.ensures.value in
    let count = subst (λ (d : Triple). IsOddCount d p section.segments.items odd) c.dir-d.ensures (subst (λ (xs : List Segment). IsOddCount (of_dir c.dir-d.result) p xs odd) all c.loop-segment.invariant) in
    let told = in_section plane s section.segments.items section.loops.items borders p c.args.p.now.positive count.n count.count in
    ((λ t. told.0 (count.told.0 t)), (λ h. count.told.1 (told.1 h)))
