use Rattle.std.proofs.Common.{◌≡◌, ◌≤◌, ◌+◌, ℤ, ◌∙◌, sym, subst, to_z, of_z, unsigned_abs}
use Rattle.std.specs.Prelude.{◌-ℤ◌}
use Rattle.std.specs.Int.{w8}
use Rattle.integers.proofs.Worth.{Reads, known, fits, pass, minus, size_of}
use Rattle.cross_find.proofs.Signs.{sign_small}
use Rattle.cross_find.proofs.cross.turn_of.Goals as goal

-- the difference of two signs
reads : (a b x y : ℤ) → a ≡ x → b ≡ y → unsigned_abs x ≤ 1 → unsigned_abs y ≤ 1 → Reads (to_z w8 (of_z w8 a) -ℤ to_z w8 (of_z w8 b)) (a -ℤ b) (1 + 1)
reads a b x y first second h k =
    minus (pass w8 (known a 1 (subst (λ (z : ℤ). unsigned_abs z ≤ 1) (sym first) h)) tt) (pass w8 (known b 1 (subst (λ (z : ℤ). unsigned_abs z ≤ 1) (sym second) k)) tt)

pub overflow_sub-result : goal.overflow_sub-result
overflow_sub-result c =
    let e = c.edge-numbers.ensures.edge in
    fits w8 (reads c.sign.result c.sign-2.result _ _ (c.sign.ensures e.edge.left e.numbers.left) (c.sign-2.ensures e.edge.right e.numbers.right) (sign_small _) (sign_small _)) tt

pub returns-clause-size : goal.returns-clause-size
returns-clause-size c =
    let e = c.edge-numbers.ensures.edge in
    size_of 2 (pass w8 (reads c.sign.result c.sign-2.result _ _ (c.sign.ensures e.edge.left e.numbers.left) (c.sign-2.ensures e.edge.right e.numbers.right) (sign_small _) (sign_small _)) tt) tt

pub returns-clause-value : goal.returns-clause-value
returns-clause-value c o numbered =
    let e = c.edge-numbers.ensures.edge in
    let n = c.edge-numbers.ensures.each o numbered in
    (pass w8 (reads c.sign.result c.sign-2.result _ _ (c.sign.ensures e.edge.left e.numbers.left) (c.sign-2.ensures e.edge.right e.numbers.right) (sign_small _) (sign_small _)) tt).is
    ∙ (λ i. c.sign.ensures o.left n.left i -ℤ c.sign-2.ensures o.right n.right i)
