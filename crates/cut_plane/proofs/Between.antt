-- Between two neighbouring crossings of an edge all points are in the section or none is, and no crossing is at an ordinary point.
use Rattle.std.proofs.Common.{All, length, [], ◌∷◌, refl}
use Rattle.std.specs.Prelude.{ℤ, pos, ◌-ℤ◌, ◌*ℤ◌, ◌<ℤ◌, ◌≤ℤ◌, ◌↔◌}
use Rattle.std.proofs.lemmas.Int.{by_lt_z}
use Rattle.geometry.proofs.FacePoints.{edge_point-at_share}
use Rattle.integers.proofs.Comparisons.{gap_of_at_most, at_most_of_less, sum_positive}
use Rattle.integers.proofs.Orders.{less_through}
use Rattle.integers.proofs.Ring.{var, ◌⊕◌, ◌⊖◌, ◌⊗◌, ring, gap_of_less, less_by}
use Rattle.integers.proofs.Signs.{mul_nonneg, mul_pos, pos_of_mul}
use Rattle.lattice.specs.Triangles.{IsBelow}
use Rattle.lattice.specs.Cuts.{Plane}
use Rattle.geometry.specs.Faces.{share_point}
use Rattle.geometry.specs.Parts.{Part, Face, Edge, IsClosed}
use Rattle.geometry.specs.Cuts.{edge, border, IsInSection, IsOrdinaryInCut}
use Rattle.cut_plane.specs.Crossings.{CrossesAt}
use Rattle.cut_plane.proofs.Along.{section_along}

-- i / j is at most n / m, which is less than f / g
most_less : (f g n m i j : ℤ) → pos 0 <ℤ g → pos 0 <ℤ m → pos 0 <ℤ j → (n *ℤ g) <ℤ (f *ℤ m) → (i *ℤ m) ≤ℤ (n *ℤ j) → (i *ℤ g) <ℤ (f *ℤ j)
most_less f g n m i j g_there m_there j_there less most =
    less_by _ _ _ refl (pos_of_mul m ((f *ℤ j) -ℤ (i *ℤ g)) m_there
    (sum_positive (g *ℤ ((n *ℤ j) -ℤ (i *ℤ m))) (j *ℤ ((f *ℤ m) -ℤ (n *ℤ g))) _
    (ring (f ∷ g ∷ n ∷ m ∷ i ∷ j ∷ [])
    (var 3 ⊗ ((var 0 ⊗ var 5) ⊖ (var 4 ⊗ var 1)))
    ((var 1 ⊗ ((var 2 ⊗ var 5) ⊖ (var 4 ⊗ var 3))) ⊕ (var 5 ⊗ ((var 0 ⊗ var 3) ⊖ (var 2 ⊗ var 1)))) refl)
    (mul_nonneg g _ (at_most_of_less _ _ g_there) (gap_of_at_most _ _ most)) (mul_pos j _ j_there (gap_of_less _ _ less))))

-- No border crosses the edge strictly between f / g and t / u: all points there are in the section, or none is.
module _ (c : Plane) (s : Part) (closed : IsClosed s) (in_range : All (IsBelow (length s.corners)) s.triangles) (e : Edge s) (f g t u : ℤ) (g_there : pos 0 <ℤ g) (u_there : pos 0 <ℤ u)
    (none : (face : Face s) (i j : ℤ) → pos 0 <ℤ j → (f *ℤ j) <ℤ (i *ℤ g) → (i *ℤ u) <ℤ (t *ℤ j) → ¬ CrossesAt c face e i j) where
  in_order : (n m n' m' : ℤ) → pos 0 <ℤ m → pos 0 <ℤ m' → (f *ℤ m) <ℤ (n *ℤ g) → (n' *ℤ u) <ℤ (t *ℤ m') → (n *ℤ m') ≤ℤ (n' *ℤ m)
      → IsInSection c s (share_point e.a e.b n m) ↔ IsInSection c s (share_point e.a e.b n' m')
  in_order n m n' m' m_there m_there' after before order =
      section_along c s closed in_range e n m n' m' m_there m_there' order
      (λ face i j there least most. none face i j there (less_through f g n m i j g_there m_there there after least) (most_less t u n' m' i j u_there m_there' there before most))

  pub section_between : (n m n' m' : ℤ) → pos 0 <ℤ m → pos 0 <ℤ m' → (f *ℤ m) <ℤ (n *ℤ g) → (n *ℤ u) <ℤ (t *ℤ m) → (f *ℤ m') <ℤ (n' *ℤ g) → (n' *ℤ u) <ℤ (t *ℤ m')
      → IsInSection c s (share_point e.a e.b n m) ↔ IsInSection c s (share_point e.a e.b n' m')
  section_between n m n' m' m_there m_there' after before after' before' =
      by_lt_z (n' *ℤ m) (n *ℤ m')
      (λ less. let back = in_order n' m' n m m_there' m_there after' before (at_most_of_less _ _ less) in (back.1, back.0))
      (λ order. in_order n m n' m' m_there m_there' after before' order)

-- ---- ordinary points
pub crossing_not_ordinary : (c : Plane) (s : Part) (e : Edge s) (f : Face s) (i j : ℤ) → pos 0 <ℤ j → pos 0 ≤ℤ i → i ≤ℤ j → CrossesAt c f e i j → ¬ IsOrdinaryInCut c s (share_point e.a e.b i j)
crossing_not_ordinary c s e f i j there least most crosses ordinary =
    crosses.turns (ordinary.off_crossings (edge e) (border f) (share_point e.a e.b i j, edge_point-at_share e.a e.b i j there least most, record { across = refl; upward = refl }) crosses.passes)
