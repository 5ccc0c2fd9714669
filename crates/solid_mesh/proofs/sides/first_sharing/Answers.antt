use Rattle.std.proofs.Common.{◌≡◌, ℕ, ◌+◌, ◌*◌, ◌/◌, ◌%◌, ◌<◌, ◌≤◌, length, ap, ◌∙◌, arith, below_more}
use Rattle.geometry.specs.Parts.{part_of}
use Rattle.solid_mesh.specs.inner.Halves.{side_at}
use Rattle.solid_mesh.proofs.SideLemmas.{one_side}
use Rattle.solid_mesh.proofs.Sharing.{still_shares}
use Rattle.solid_mesh.proofs.sides.first_sharing.Goals as goal

pub loop-side-preserved : goal.loop-side-preserved
loop-side-preserved c = record {
  least = below_more (λ k. (other : ℕ) → other < length c.args.sides.now.keys → side_at c.args.soup.now.triangles.items other ≡ side_at c.args.soup.now.triangles.items (3 * c.args.second + k) → c.earlier-first.result ≤ other / 3) c.loop-side.side
      (λ k h other within e. let old = c.loop-side.invariant.least k h other within e in omega arith)
      c.earlier-first.ensures.least;
  shares =
      still_shares (part_of c.args.soup.now) c.loop-side.first c.earlier-first.result c.args.second (3 * c.args.second + c.loop-side.side) (omega arith) c.earlier-first.ensures.low c.earlier-first.ensures.shares
      c.loop-side.invariant.shares;
}

pub returns-clause-least : goal.returns-clause-least
returns-clause-least c i (before, share) =
    let s = part_of c.args.soup.now in
    let half : share.other ≡ 3 * c.args.second + share.other % 3 = omega (arith, share.of_second) in
    let same : side_at s.triangles share.half ≡ side_at s.triangles (3 * c.args.second + share.other % 3) =
    one_side s share.half share.other share.m share.n share.goes share.goes_too ∙ ap (side_at s.triangles) half in
    let low = c.loop-side.invariant.least (share.other % 3) (omega arith) share.half (omega (arith, c.requires.earlier, share.of_first)) same in
    omega (arith, share.of_first)
