use Rattle.std.proofs.Common.{◌≡◌, ◌*◌, length, sym, subst, ap, ◌∙◌, arith}
use Rattle.std.specs.List.{IsDistinct}
use Rattle.geometry.specs.Parts.{part_of}
use Rattle.solid_mesh.specs.inner.Halves.{sides_of, first_sides}
use Rattle.solid_mesh.proofs.SideLemmas.{same_side, by_count, count_of, found_some, more_sides, same_sides, sides_once}
use Rattle.solid_mesh.proofs.Sharing.{same_way}
use Rattle.solid_mesh.proofs.sides.index_sides.Goals as goal

pub first_sharing-first-requires-clause-sides : goal.first_sharing-first-requires-clause-sides
first_sharing-first-requires-clause-sides c =
    let s = part_of c.args.soup.now in
    by_count s.triangles c.loop-half.half c.insert.new.self.keys
    (same_sides s c.loop-half.half c.loop-half.sides.keys c.side_at.result c.loop-half.invariant.in_order c.insert.new.self.keys c.in_ok-insert.ensures.keys (sym c.in_ok-insert.ensures.added ∙ c.if-not-branch.true))

pub first_sharing-first-requires-clause-earlier : goal.first_sharing-first-requires-clause-earlier
first_sharing-first-requires-clause-earlier c =
    let s = part_of c.args.soup.now in
    omega (
      arith,
      count_of s.triangles c.loop-half.half c.insert.new.self.keys
          (same_sides s c.loop-half.half c.loop-half.sides.keys c.side_at.result c.loop-half.invariant.in_order c.insert.new.self.keys c.in_ok-insert.ensures.keys (sym c.in_ok-insert.ensures.added ∙ c.if-not-branch.true)),
    )

pub first_sharing-first-requires-clause-halves : goal.first_sharing-first-requires-clause-halves
first_sharing-first-requires-clause-halves c =
    let s = part_of c.args.soup.now in
    omega (
      arith,
      c.args.soup.now.triangles.ok.0,
      count_of s.triangles c.loop-half.half c.insert.new.self.keys
          (same_sides s c.loop-half.half c.loop-half.sides.keys c.side_at.result c.loop-half.invariant.in_order c.insert.new.self.keys c.in_ok-insert.ensures.keys (sym c.in_ok-insert.ensures.added ∙ c.if-not-branch.true)),
    )

pub returns-then-not-branch-clause-refused : goal.returns-then-not-branch-clause-refused
returns-then-not-branch-clause-refused c =
    let s = part_of c.args.soup.now in
    let keys = c.loop-half.sides.keys in
    let (other, less, same) = found_some s c.loop-half.half keys c.side_at.result (by_count s.triangles c.loop-half.half keys c.loop-half.invariant.in_order) c.side_at.ensures (sym c.in_ok-insert.ensures.added ∙ c.if-not-branch.true) in
    same_way s c.args.soup.now.in_range c.requires.none_flat c.loop-half.half (omega (arith, c.args.soup.now.triangles.ok.0)) (subst (IsDistinct same_side) c.loop-half.invariant.in_order c.loop-half.invariant.distinct)
    (other, omega (arith, count_of s.triangles c.loop-half.half keys c.loop-half.invariant.in_order), same) c.first_sharing-first.result c.first_sharing-first.ensures.least c.first_sharing-first.ensures.shares

pub loop-half-preserved : goal.loop-half-preserved
loop-half-preserved c =
    let s = part_of c.args.soup.now in
    record {
      in_order = more_sides s c.loop-half.half c.loop-half.sides.keys c.side_at.result c.loop-half.invariant.in_order c.side_at.ensures c.insert.new.self.keys c.in_ok-insert.ensures.keys (sym c.in_ok-insert.ensures.added ∙ c.if-not-branch.false);
      distinct = c.insert.ensures.unique;
    }

-- all halves were gone through
all_sides : (c : goal.After-loop-half) → c.loop-half.sides.keys ≡ sides_of c.args.soup.now.triangles.items
all_sides c =
    let all : c.loop-half.half ≡ 3 * length c.args.soup.now.triangles.items = omega (arith, c.args.soup.now.triangles.ok.0) in
    c.loop-half.invariant.in_order ∙ ap (first_sides c.args.soup.now.triangles.items) all

pub returns-clause-sides : goal.returns-clause-sides
returns-clause-sides c = all_sides c

pub returns-clause-once : goal.returns-clause-once
returns-clause-once c = sides_once (part_of c.args.soup.now) (subst (IsDistinct same_side) (all_sides c) c.loop-half.invariant.distinct)
