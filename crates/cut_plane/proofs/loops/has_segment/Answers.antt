use Rattle.std.proofs.Common.{◌≡◌, ◌⊎◌, inl, inr, ℕ, ◌<◌, ◌≤◌, ◌+◌, true, false, refl, subst, arith}
use Rattle.std.proofs.lemmas.Bool.{cases_lt}
use Rattle.lattice.specs.Cuts.{plane_of}
use Rattle.solid_mesh.specs.Solids.{solid_part}
use Rattle.cut_plane.specs.inner.Walks.{IsCrossedAt}
use Rattle.cut_plane.proofs.Following.{crossed_within}
use Rattle.cut_plane.proofs.loops.has_segment.Goals as goal

never : false ≡ true → ⊥
never e = cc

-- what holds below a number and at it holds below the next one
one_more : (P : ℕ → Type 0) (n k : ℕ) → ((j : ℕ) → j < n → P j) → P n → k < n + 1 → P k
one_more P n k below at less = by (cases_lt k n)
  where
    by : (k < n) ⊎ (n ≤ k) → P k
    by (inl h) = below k h
    by (inr h) = subst P (omega (arith, less, h)) at

pub loop-tri-init : goal.loop-tri-init
loop-tri-init c = λ k less at. omega (arith, less)

pub returns-then-is_crossed : goal.returns-then-is_crossed
returns-then-is_crossed c = (λ e. let (face, number, crossed) = c.is_crossed.ensures.0 c.if-is_crossed.true in (face, crossed), λ h. refl)

pub loop-tri-preserved : goal.loop-tri-preserved
loop-tri-preserved c = λ k less.
    one_more (λ i. ¬ IsCrossedAt (plane_of c.args.cut.now) (solid_part c.args.solid.now) i) c.loop-tri.tri k c.loop-tri.invariant (λ at. never (c.if-is_crossed.ensures.1 at)) less

pub returns : goal.returns
returns c = (
  λ e. absurd (never e),
  λ (face, crossed).
      let h = crossed_within (plane_of c.args.cut.now) (solid_part c.args.solid.now) face.number (face, refl, crossed) in
      absurd (c.loop-tri.invariant face.number (omega (arith, h, c.loop-tri-test.false, c.triangles-tri-end.ensures.count)) (face, refl, crossed)),
)
