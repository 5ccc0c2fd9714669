use Rattle.std.proofs.Common.{◌≡◌, ◌↔◌, subst, arith}
use Rattle.std.specs.Prelude.{pos, IsTrue}
use Rattle.std.proofs.lemmas.Int.{ints, to_z-of_z}
use Rattle.cross_find.specs.Ends.{AreBeside}
use Rattle.cross_find.proofs.cover.is_beside.Goals as goal

pub returns-then-component-eq0 : goal.returns-then-component-eq0
returns-then-component-eq0 c =
    let none : c.args.component ≡ pos 0 = omega (arith, ints) in
    let o = to_z-of_z _ c.args.o c.ranges.o in
    let a = to_z-of_z _ c.args.a c.ranges.a in
    let b = to_z-of_z _ c.args.b c.ranges.b in
    let e = to_z-of_z _ c.args.c c.ranges.c in
    let signs = subst (λ (T : Type 0). IsTrue c.are_beside.result ↔ T) (λ i. AreBeside (o i) (a i) (b i) (e i)) c.are_beside.ensures in
    (λ h. (none, signs.0 h), λ h. signs.1 h.1)
