use Rattle.std.proofs.Common.{◌≡◌, ◌⊎◌, ℕ, inl, inr, refl, sym, ◌∙◌, true≢false, arith}
use Rattle.std.specs.Prelude.{◌≢◌, pos, ◌<ℤ◌}
use Rattle.std.proofs.lemmas.Int.{ints}
use Rattle.lattice.specs.Cuts.{plane_of}
use Rattle.lattice.specs.Points.{of_dir}
use Rattle.geometry.specs.Counts.{Side, to_left, to_right, orientation_of}
use Rattle.geometry.specs.Covers.{IsOneWhere}
use Rattle.geometry.specs.Parts.{Face, Edge, IsNumbered}
use Rattle.solid_mesh.specs.Solids.{solid_part, edge_halves}
use Rattle.cut_count_laws.specs.CutCovers.{IsCutCoveredNext}
use Rattle.cut_count.specs.inner.Rests.{SideReaches}
use Rattle.cut_count.proofs.NextCounted.{not_near, nothing_left, near, over_passed}
use Rattle.cut_count.proofs.cover.cut_cover.Goals as goal
use Rattle.cut_count.proofs.cover.cut_cover.Goals.{then-not-hides_at-via-then-not-hides_at, then-not-hides_at-via-else-not-hides_at+then-not-is_left_at}

pub returns-then-k-gt0-clause-left : goal.returns-then-k-gt0-clause-left
returns-then-k-gt0-clause-left c e f at_e at_f =
    let t = c.corners_of-t.result in
    let (x, y, z) = c.corners_of-t.ensures f at_f in
    let i : pos 0 <ℤ c.over-i.result = omega (arith, ints) in
    let j : pos 0 <ℤ c.over-j.result = omega (arith, ints) in
    let k : pos 0 <ℤ c.over-k.result = omega (arith, ints) in
    nothing_left to_left (plane_of c.args.section.now.cut) e e.a e.b refl refl f c.args.end.at_b t.a t.b t.c x y z
    c.over-i.result c.over-j.result c.over-k.result c.over-i.ensures.value c.over-j.ensures.value c.over-k.ensures.value i j k

pub returns-then-k-gt0-clause-right : goal.returns-then-k-gt0-clause-right
returns-then-k-gt0-clause-right c e f at_e at_f =
    let t = c.corners_of-t.result in
    let (x, y, z) = c.corners_of-t.ensures f at_f in
    let i : pos 0 <ℤ c.over-i.result = omega (arith, ints) in
    let j : pos 0 <ℤ c.over-j.result = omega (arith, ints) in
    let k : pos 0 <ℤ c.over-k.result = omega (arith, ints) in
    nothing_left to_right (plane_of c.args.section.now.cut) e e.a e.b refl refl f c.args.end.at_b t.a t.b t.c x y z
    c.over-i.result c.over-j.result c.over-k.result c.over-i.ensures.value c.over-j.ensures.value c.over-k.ensures.value i j k

pub returns-then-not-hides_at-clause-left : goal.returns-then-not-hides_at-clause-left
returns-then-not-hides_at-clause-left c e f at_e at_f =
    let t = c.corners_of-t.result in
    let (a, b) = c.ends.ensures e at_e in
    let (x, y, z) = c.corners_of-t.ensures f at_f in
    not_near to_left (plane_of c.args.section.now.cut) e c.ends.result.0 c.ends.result.1 a b f c.args.end.at_b t.a t.b t.c x y z (of_dir c.dir-d.result) c.dir-d.ensures
    (elim c.then-not-hides_at.branch [
      | then-not-hides_at-via-then-not-hides_at w ↦ inl (λ h. true≢false (sym (c.hides_at.ensures.1 h) ∙ w.if-not-hides_at.true))
      | then-not-hides_at-via-else-not-hides_at+then-not-is_left_at w ↦ inr (λ h. true≢false (sym (w.is_left_at.ensures.1 h) ∙ w.if-not-is_left_at.true))
    ])

pub returns-then-not-hides_at-clause-right : goal.returns-then-not-hides_at-clause-right
returns-then-not-hides_at-clause-right c e f at_e at_f =
    let t = c.corners_of-t.result in
    let (a, b) = c.ends.ensures e at_e in
    let (x, y, z) = c.corners_of-t.ensures f at_f in
    not_near to_right (plane_of c.args.section.now.cut) e c.ends.result.0 c.ends.result.1 a b f c.args.end.at_b t.a t.b t.c x y z (of_dir c.dir-d.result) c.dir-d.ensures
    (elim c.then-not-hides_at.branch [
      | then-not-hides_at-via-then-not-hides_at w ↦ inl (λ h. true≢false (sym (c.hides_at.ensures.1 h) ∙ w.if-not-hides_at.true))
      | then-not-hides_at-via-else-not-hides_at+then-not-is_left_at w ↦ inr (λ h. true≢false (sym (w.is_left_at.ensures.1 h) ∙ w.if-not-is_left_at.true))
    ])

-- what is counted on a side next to the end, by the sides of the triangle that reach to it there
counted : (c : goal.After-joined) (k : Side) (e : Edge (solid_part c.args.solid.now)) (f : Face (solid_part c.args.solid.now)) → IsNumbered (edge_halves c.args.solid.now) c.args.end.edge e → f.number ≡ c.args.tri → (l m n i : ℕ)
    → IsOneWhere (SideReaches k c.placed-x.result c.placed-y.result) l → IsOneWhere (SideReaches k c.placed-y.result c.placed-z.result) m → IsOneWhere (SideReaches k c.placed-z.result c.placed-x.result) n
    → IsOneWhere ((l ≢ 0) ⊎ (m ≢ 0) ⊎ (n ≢ 0)) i → IsOneWhere (IsCutCoveredNext k (plane_of c.args.section.now.cut) e c.args.end.at_b f) i
counted c k e f at_e at_f l m n i first second third one =
    let t = c.corners_of-t.result in
    let a = c.ends.result.0 in
    let b = c.ends.result.1 in
    let (is_a, is_b) = c.ends.ensures e at_e in
    let (is_x, is_y, is_z) = c.corners_of-t.ensures f at_f in
    let over_x = c.placed-x.ensures.over ∙ over_passed c.over-i.result c.over-i.ensures.size ∙ c.over-i.ensures.value in
    let over_y = c.placed-y.ensures.over ∙ over_passed c.over-j.result c.over-j.ensures.size ∙ c.over-j.ensures.value in
    let over_z = c.placed-z.ensures.over ∙ over_passed c.over-k.result c.over-k.ensures.size ∙ c.over-k.ensures.value in
    let turn_x = c.placed-x.ensures.turn ∙ (λ i. orientation_of (c.dir-d.ensures i) a b t.a) in
    let turn_y = c.placed-y.ensures.turn ∙ (λ i. orientation_of (c.dir-d.ensures i) a b t.b) in
    let turn_z = c.placed-z.ensures.turn ∙ (λ i. orientation_of (c.dir-d.ensures i) a b t.c) in
    near k (plane_of c.args.section.now.cut) e a b is_a is_b f c.args.end.at_b t.a t.b t.c is_x is_y is_z c.placed-x.result c.placed-y.result c.placed-z.result (over_x, turn_x) (over_y, turn_y) (over_z, turn_z)
    l m n first second third (of_dir c.dir-d.result) c.dir-d.ensures (c.hides_at.ensures.0 c.if-not-hides_at.false) (c.is_left_at.ensures.0 c.if-not-is_left_at.false) i one

pub returns-clause-left : goal.returns-clause-left
returns-clause-left c e f at_e at_f =
    counted c to_left e f at_e at_f c.side_reach.result.0 c.side_reach-2.result.0 c.side_reach-3.result.0 c.joined.result.0 c.side_reach.ensures.left c.side_reach-2.ensures.left c.side_reach-3.ensures.left c.joined.ensures.left

pub returns-clause-right : goal.returns-clause-right
returns-clause-right c e f at_e at_f =
    counted c to_right e f at_e at_f c.side_reach.result.1 c.side_reach-2.result.1 c.side_reach-3.result.1 c.joined.result.1 c.side_reach.ensures.right c.side_reach-2.ensures.right c.side_reach-3.ensures.right c.joined.ensures.right
