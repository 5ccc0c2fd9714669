-- What is proved about counts along an edge.
use Rattle.std.specs.Prelude.{◌≡◌, ℕ, ◌+◌, ◌*◌, ◌<◌, nat_lt, ℤ, pos, ◌+ℤ◌, ◌-ℤ◌, ◌*ℤ◌, ◌<ℤ◌}
use Rattle.hiding_laws.proofs.Screens.{Screen, area_of}
use Rattle.geometry.specs.Counts.{Side}
use Rattle.hiding_laws.specs.inner.Tallies.{IsTally}
use Rattle.hiding_laws.proofs.Shares.{Crosses, change_of, CountsAt, IsClear, IsUnpierced, IsSign, Adds, Passes}
use Rattle.hiding_laws.proofs.SumsBelow.{sum_below, keep}
use Rattle.hiding_laws.proofs.Meshes.{Mesh, IsMesh}

-- between two ordinary places of an edge, what a face adds to a count changes by the shares of its sides that cross between them
abbrev pub OneFaceLaw : Type 0
OneFaceLaw = (k : Side) (p q a b c : Screen) (sign n m n' m' before after ab bc ca : ℤ)
    → p.w ≡ pos 1 → q.w ≡ pos 1 → IsSign (area_of a b c) sign → ¬ (area_of a b c ≡ pos 0)
    → (n *ℤ m') <ℤ (n' *ℤ m) → IsClear p q a b c n m → IsClear p q a b c n' m'
    → IsUnpierced p q a b c
    → IsTally (CountsAt k p q a b c n m) before → IsTally (CountsAt k p q a b c n' m') after
    → IsTally (Crosses p q a b n m n' m') ab → IsTally (Crosses p q b c n m n' m') bc → IsTally (Crosses p q c a n m n' m') ca
    → after -ℤ before ≡ ((change_of k sign p q a b *ℤ ab) +ℤ (change_of k sign p q b c *ℤ bc)) +ℤ (change_of k sign p q c a *ℤ ca)

-- what a pair of twin sides changes together: nothing where both triangles have one sign
abbrev pub TwinsLaw : Type 0
TwinsLaw = (k : Side) (p q a b : Screen) (sign sign' n m n' m' there back : ℤ)
    → IsTally (Crosses p q a b n m n' m') there → IsTally (Crosses p q b a n m n' m') back
    → (change_of k sign p q a b *ℤ there) +ℤ (change_of k sign' p q b a *ℤ back) ≡ change_of k (sign -ℤ sign') p q a b *ℤ there

-- between two ordinary places of an edge a count changes by the shares of the pairs of twins that cross between them, where the edge pierces no triangle
abbrev pub AllFacesLaw : Type 0
AllFacesLaw = (k : Side) (p q : Screen) (s : Mesh) (n m n' m' : ℤ) (before after crossing : ℕ → ℤ)
    → p.w ≡ pos 1 → q.w ≡ pos 1 → IsMesh s
    → pos 0 <ℤ n → n <ℤ m → pos 0 <ℤ n' → n' <ℤ m' → (n *ℤ m') <ℤ (n' *ℤ m)
    → ((t : ℕ) → t < s.triangles → ¬ (area_of (s.from (3 * t)) (s.from (3 * t + 1)) (s.from (3 * t + 2)) ≡ pos 0)
    → IsClear p q (s.from (3 * t)) (s.from (3 * t + 1)) (s.from (3 * t + 2)) n m
    × IsClear p q (s.from (3 * t)) (s.from (3 * t + 1)) (s.from (3 * t + 2)) n' m'
    × Passes p q (s.from (3 * t)) (s.from (3 * t + 1)) (s.from (3 * t + 2)))
    → ((t : ℕ) → t < s.triangles → IsTally (Adds k p q (s.from (3 * t)) (s.from (3 * t + 1)) (s.from (3 * t + 2)) n m) (before t))
    → ((t : ℕ) → t < s.triangles → IsTally (Adds k p q (s.from (3 * t)) (s.from (3 * t + 1)) (s.from (3 * t + 2)) n' m') (after t))
    → ((h : ℕ) → h < 3 * s.triangles → IsTally (Crosses p q (s.from h) (s.to h) n m n' m') (crossing h))
    → sum_below after s.triangles -ℤ sum_below before s.triangles
    ≡ sum_below (λ h. keep (nat_lt h (s.twin h)) (change_of k (s.sign h -ℤ s.sign (s.twin h)) p q (s.from h) (s.to h) *ℤ crossing h)) (3 * s.triangles)
