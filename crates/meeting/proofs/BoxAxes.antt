-- Boxes by their three axes.
use Rattle.std.proofs.Common.{◌≡◌, ◌≤◌, ◌^◌, subst, to_z, of_z, arith}
use Rattle.std.specs.Prelude.{◌↔◌, ℤ, unsigned_abs}
use Rattle.std.specs.Int.{w32}
use Rattle.std.proofs.lemmas.Int.{ints}
use Rattle.lattice.specs.declared.points.Corner.{Corner}
use Rattle.meeting.specs.Boxes.{CoordinatesMeet, BoxesMeet}

pub by_axes : (a b c p q : Corner) → BoxesMeet a b c p q ↔ (CoordinatesMeet a.x b.x c.x p.x q.x × CoordinatesMeet a.y b.y c.y p.y q.y × CoordinatesMeet a.z b.z c.z p.z q.z)
by_axes a b c p q = (λ h. (h.x, h.y, h.z), λ h. record { x = h.0; y = h.1; z = h.2 })

-- a coordinate as the machine reads it
abbrev machine : ℤ → ℤ
machine z = to_z w32 (of_z w32 z)

pub read : (z : ℤ) → unsigned_abs z ≤ 2 ^ 20 → to_z w32 (of_z w32 z) ≡ z
read z h = omega (arith, ints)

pub along : {X : Type 0} (f : Corner → ℤ) → ((k : Corner) → unsigned_abs (f k) ≤ 2 ^ 20) → (a b c p q : Corner)
    → X ↔ CoordinatesMeet (machine (f a)) (machine (f b)) (machine (f c)) (machine (f p)) (machine (f q)) → X ↔ CoordinatesMeet (f a) (f b) (f c) (f p) (f q)
along {X} f small a b c p q h =
    let is = λ (k : Corner). read (f k) (small k) in
    subst (λ (z : ℤ). X ↔ CoordinatesMeet z (f b) (f c) (f p) (f q)) (is a)
    (subst (λ (z : ℤ). X ↔ CoordinatesMeet (machine (f a)) z (f c) (f p) (f q)) (is b)
    (subst (λ (z : ℤ). X ↔ CoordinatesMeet (machine (f a)) (machine (f b)) z (f p) (f q)) (is c)
    (subst (λ (z : ℤ). X ↔ CoordinatesMeet (machine (f a)) (machine (f b)) (machine (f c)) z (f q)) (is p)
    (subst (λ (z : ℤ). X ↔ CoordinatesMeet (machine (f a)) (machine (f b)) (machine (f c)) (machine (f p)) z) (is q) h))))
