use Rattle.std.proofs.Common.{◌≡◌, true≢false, sym, subst, ◌∙◌, arith}
use Rattle.std.specs.Prelude.{ℤ, pos, ◌-ℤ◌, ◌<ℤ◌}
use Rattle.std.proofs.lemmas.Int.{ints}
use Rattle.lattice.specs.Points.{of_dir}
use Rattle.geometry.specs.Faces.{facing_of}
use Rattle.hiding_laws.proofs.Values.{facing-turned}
use Rattle.cross_find.proofs.Fronts.{from_turned}
use Rattle.cross_find.proofs.Apart.{never_apart}
use Rattle.cross_find.proofs.cover.hides_next.Goals as goal

-- what is below 0 is above 0 the other way
turned : (x y : ℤ) → y ≡ pos 0 -ℤ x → x <ℤ pos 0 → pos 0 <ℤ y
turned x y e h = omega (arith, ints)

none : (x : ℤ) → x <ℤ pos 0 → x ≡ pos 0 → ⊥
none x h e = omega (arith, ints)

pub returns-then-is_apart : goal.returns-then-is_apart
returns-then-is_apart c =
    let d = of_dir c.args.d.now in
    let t = c.args.t.now in (
      (λ h. absurd (true≢false (sym h))),
      (λ h. absurd (never_apart d t.a t.b t.c c.args.o.now c.args.q.now h.0 (c.is_apart.ensures c.if-is_apart.true) h.1)),
    )

pub front_hides_next-requires-then-facing-lt0 : goal.front_hides_next-requires-then-facing-lt0
front_hides_next-requires-then-facing-lt0 c =
    let d = of_dir c.args.d.now in
    let t = c.args.t.now in
    let back : c.orientation_of-facing.result <ℤ pos 0 = omega (arith, ints) in
    turned (facing_of d t.a t.b t.c) (facing_of d t.a t.c t.b) (facing-turned d t.a t.b t.c) (subst (λ (x : ℤ). x <ℤ pos 0) c.orientation_of-facing.ensures.value back)

pub returns-then-facing-lt0 : goal.returns-then-facing-lt0
returns-then-facing-lt0 c =
    let d = of_dir c.args.d.now in
    let t = c.args.t.now in
    let o = c.args.o.now in
    let q = c.args.q.now in
    let back : c.orientation_of-facing.result <ℤ pos 0 = omega (arith, ints) in (
      (λ h. (none (facing_of d t.a t.b t.c) (subst (λ (x : ℤ). x <ℤ pos 0) c.orientation_of-facing.ensures.value back), from_turned d t.a t.c t.b o q (c.front_hides_next-then-facing-lt0.ensures.0 h))),
      (λ h. c.front_hides_next-then-facing-lt0.ensures.1 (from_turned d t.a t.b t.c o q h.1)),
    )

pub returns-else-facing-lt0 : goal.returns-else-facing-lt0
returns-else-facing-lt0 c =
    let d = of_dir c.args.d.now in
    let t = c.args.t.now in
    let none : c.orientation_of-facing.result ≡ pos 0 = omega (arith, ints) in (
      (λ h. absurd (true≢false (sym h))),
      (λ h. absurd (h.0 (sym c.orientation_of-facing.ensures.value ∙ none))),
    )
