use Rattle.std.proofs.Common.{◌≡◌, ◌*◌, ℕ, List, ◌++◌, map, flat_map, ap, sym, ◌∙◌, arith}
use Rattle.std.proofs.lemmas.List.{map-append}
use Rattle.lattice.specs.Points.{of_corner}
use Rattle.lattice.specs.Triple.{Triple}
use Rattle.sample_part.specs.Boxes.{below, cube_corners}
use Rattle.sample_part.specs.inner.Cubes.{cube_at}
use Rattle.sample_part.proofs.Numbered.{listed_more, corners_by_number}
use Rattle.sample_part.proofs.sample.all_corners.Goals as goal

pub loop-number-preserved : goal.loop-number-preserved
loop-number-preserved c =
    let f : ℕ → List Triple = λ k. cube_corners (cube_at c.args.n k) in
    ap (map of_corner) c.in_ok-extend_from_slice.ensures.items ∙ map-append of_corner c.loop-number.corners.items c.corners.result
    ∙ ap (λ (x : List Triple). x ++ map of_corner c.corners.result) c.loop-number.invariant
    ∙ ap (λ (x : List Triple). flat_map f (below c.loop-number.number) ++ x) (c.corners.ensures ∙ ap cube_corners c.numbered.ensures)
    ∙ sym (listed_more f c.loop-number.number)

pub returns : goal.returns
returns c =
    let n = c.args.n in
    let f : ℕ → List Triple = λ k. cube_corners (cube_at n k) in
    let all : c.loop-number.number ≡ n * n * n = omega (arith, c.loop-number-test.false, c.loop-number.auto.number-end, c.count-number-end.ensures.value) in
    c.loop-number.invariant ∙ ap (λ (k : ℕ). flat_map f (below k)) all ∙ sym (corners_by_number n c.requires.least c.requires.greatest)
