-- How many cuts views show.
use Rattle.std.proofs.Common.{◌≡◌, ℕ, ◌+◌, ◌<◌, ◌≤◌, List, [], ◌∷◌, length, take, get_or, sym, ap, ◌∙◌, append-nil, length-append, arith}
use Rattle.std.proofs.lemmas.Grind.{flat_map-append}
use Rattle.integers.proofs.Lists.{front_more}
use Rattle.job_file.specs.declared.view.JobView.{JobView}
use Rattle.lattice.specs.declared.cuts.Cut.{Cut}
use Rattle.lattice.specs.declared.pieces.ViewSpec.{ViewSpec}
use Rattle.lattice.specs.declared.pieces.ViewSpec.TheVariants.{Plain, Section}
use Rattle.lattice.specs.ShownCuts.{cuts_of}
use Rattle.job_file.specs.ShownCuts.{cuts_in}

one_at_most : (spec : ViewSpec) → length (cuts_of spec) ≤ 1
one_at_most (Plain d) = omega arith
one_at_most (Section c) = omega arith

-- no more than there are views
pub few_cuts : (views : List JobView) → length (cuts_in views) ≤ length views
few_cuts [] = omega arith
few_cuts (v ∷ vs) = omega (arith, few_cuts vs, one_at_most v.spec, length-append (cuts_of v.spec) (cuts_in vs))

-- with one view more, its own
pub one_more : (views : List JobView) (k : ℕ) (x : JobView) → k < length views → get_or views k x ≡ x
    → length (cuts_in (take (k + 1) views)) ≡ length (cuts_in (take k views)) + length (cuts_of x.spec)
one_more views k x within at =
    ap (λ (vs : List JobView). length (cuts_in vs)) (sym (front_more views k x within at))
    ∙ ap length (flat_map-append (λ (v : JobView). cuts_of v.spec) (take k views) (x ∷ []))
    ∙ length-append (cuts_in (take k views)) (cuts_in (x ∷ []))
    ∙ ap (λ (zs : List Cut). length (cuts_in (take k views)) + length zs) (append-nil (cuts_of x.spec))
