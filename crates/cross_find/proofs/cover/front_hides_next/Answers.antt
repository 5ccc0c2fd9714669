use Rattle.std.proofs.Common.{true≢false, sym, subst, ◌∙◌, arith}
use Rattle.std.specs.Prelude.{ℤ, pos, ◌<ℤ◌, ◌≤ℤ◌}
use Rattle.std.proofs.lemmas.Int.{ints}
use Rattle.lattice.specs.Points.{of_dir}
use Rattle.cross_find.proofs.Fronts.{side_next, depth_next, hides_from, not_below, inside_of, stays_of}
use Rattle.cross_find.proofs.Passed.{passed}
use Rattle.cross_find.proofs.cover.front_hides_next.Goals as goal
use Rattle.cross_find.proofs.cover.front_hides_next.Goals.{then-leaves-via-then-leaves, then-leaves-via-else-leaves+then-leaves-2, then-leaves-via-else-leaves+else-leaves-2+then-leaves-3}

pub returns-then-ab-lt0 : goal.returns-then-ab-lt0
returns-then-ab-lt0 c =
    let d = of_dir c.args.d.now in
    let t = c.args.t.now in
    let below : c.side-ab.result <ℤ pos 0 = omega (arith, ints) in (
      (λ h. absurd (true≢false (sym h))),
      (λ h. absurd (inside_of _ _ (side_next d t.a t.b t.c c.args.o.now c.args.q.now c.requires t.a t.b (λ k l b. b.ab) h) (subst (λ (x : ℤ). x <ℤ pos 0) c.side-ab.ensures.value below))),
    )

pub returns-then-bc-lt0 : goal.returns-then-bc-lt0
returns-then-bc-lt0 c =
    let d = of_dir c.args.d.now in
    let t = c.args.t.now in
    let below : c.side-bc.result <ℤ pos 0 = omega (arith, ints) in (
      (λ h. absurd (true≢false (sym h))),
      (λ h. absurd (inside_of _ _ (side_next d t.a t.b t.c c.args.o.now c.args.q.now c.requires t.b t.c (λ k l b. b.bc) h) (subst (λ (x : ℤ). x <ℤ pos 0) c.side-bc.ensures.value below))),
    )

pub returns-then-ca-lt0 : goal.returns-then-ca-lt0
returns-then-ca-lt0 c =
    let d = of_dir c.args.d.now in
    let t = c.args.t.now in
    let below : c.side-ca.result <ℤ pos 0 = omega (arith, ints) in (
      (λ h. absurd (true≢false (sym h))),
      (λ h. absurd (inside_of _ _ (side_next d t.a t.b t.c c.args.o.now c.args.q.now c.requires t.c t.a (λ k l b. b.ca) h) (subst (λ (x : ℤ). x <ℤ pos 0) c.side-ca.ensures.value below))),
    )

pub returns-then-leaves : goal.returns-then-leaves
returns-then-leaves c =
    let d = of_dir c.args.d.now in
    let t = c.args.t.now in
    let o = c.args.o.now in
    let q = c.args.q.now in
    let ab = sym c.side-ab.ensures.value ∙ sym (passed c.side-ab.result c.side-ab.ensures.size) in
    let bc = sym c.side-bc.ensures.value ∙ sym (passed c.side-bc.result c.side-bc.ensures.size) in
    let ca = sym c.side-ca.ensures.value ∙ sym (passed c.side-ca.result c.side-ca.ensures.size) in (
      (λ h. absurd (true≢false (sym h))),
      (λ h. absurd (elim c.then-leaves.branch [
        | then-leaves-via-then-leaves w ↦ let l = c.leaves.ensures.0 w.if-leaves.true in stays_of _ _ (side_next d t.a t.b t.c o q c.requires t.a t.b (λ k l b. b.ab) h) (ab ∙ l.0, l.1)
        | then-leaves-via-else-leaves+then-leaves-2 w ↦ let l = w.leaves-else-leaves.ensures.0 w.if-leaves-2.true in stays_of _ _ (side_next d t.a t.b t.c o q c.requires t.b t.c (λ k l b. b.bc) h) (bc ∙ l.0, l.1)
        | then-leaves-via-else-leaves+else-leaves-2+then-leaves-3 w ↦ let l = w.leaves-else-leaves-2.ensures.0 w.if-leaves-3.true in stays_of _ _ (side_next d t.a t.b t.c o q c.requires t.c t.a (λ k l b. b.ca) h) (ca ∙ l.0, l.1)
      ])),
    )

pub returns : goal.returns
returns c =
    let d = of_dir c.args.d.now in
    let t = c.args.t.now in
    let o = c.args.o.now in
    let q = c.args.q.now in
    let ab_least : pos 0 ≤ℤ c.side-ab.result = omega (arith, ints) in
    let ab = not_below _ _ (subst (λ (x : ℤ). pos 0 ≤ℤ x) c.side-ab.ensures.value ab_least)
    (λ l. true≢false (sym (c.leaves.ensures.1 (passed c.side-ab.result c.side-ab.ensures.size ∙ c.side-ab.ensures.value ∙ l.0, l.1)) ∙ c.if-leaves.false)) in
    let bc_least : pos 0 ≤ℤ c.side-bc.result = omega (arith, ints) in
    let bc = not_below _ _ (subst (λ (x : ℤ). pos 0 ≤ℤ x) c.side-bc.ensures.value bc_least)
    (λ l. true≢false (sym (c.leaves-else-leaves.ensures.1 (passed c.side-bc.result c.side-bc.ensures.size ∙ c.side-bc.ensures.value ∙ l.0, l.1)) ∙ c.if-leaves-2.false)) in
    let ca_least : pos 0 ≤ℤ c.side-ca.result = omega (arith, ints) in
    let ca = not_below _ _ (subst (λ (x : ℤ). pos 0 ≤ℤ x) c.side-ca.ensures.value ca_least)
    (λ l. true≢false (sym (c.leaves-else-leaves-2.ensures.1 (passed c.side-ca.result c.side-ca.ensures.size ∙ c.side-ca.ensures.value ∙ l.0, l.1)) ∙ c.if-leaves-3.false)) in (
      (λ h. hides_from d t.a t.b t.c o q c.requires ab bc ca (c.is_behind.ensures.0 h)),
      (λ h. c.is_behind.ensures.1 (depth_next d t.a t.b t.c o q c.requires h)),
    )
