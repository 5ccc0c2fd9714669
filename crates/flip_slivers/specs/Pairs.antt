-- Triangles on the same corners that are turned opposite, and what is left without them.
use Rattle.std.specs.Prelude.{◌≡◌, ◌≢◌, ℕ, ◌+◌, ◌*◌, List, [], ◌∷◌, length, Option, Some, None, slice_get}
use Rattle.lattice.specs.declared.soup.Tri.{Tri}
use Rattle.flip_slivers.specs.Flips.{tri, IsRound}

-- the second triangle has the corner numbers of the first in the other order around
abbrev pub AreOpposite : Tri → Tri → Type 0
AreOpposite t u = IsRound u (tri t.a t.c t.b)

-- the triangles at two places are opposite
pub record AreOppositeAt (triangles : List Tri) (i j : ℕ) : Type 0 where
  pub first : Tri
  pub second : Tri
  pub at_first : slice_get triangles i ≡ Some first
  pub at_second : slice_get triangles j ≡ Some second
  pub opposite : AreOpposite first second

-- the triangles without a partner, in order
abbrev pub alone : List Tri → List (Option ℕ) → List Tri
alone [] partners = []
alone (t ∷ triangles) [] = []
alone (t ∷ triangles) (None ∷ partners) = t ∷ alone triangles partners
alone (t ∷ triangles) (Some place ∷ partners) = alone triangles partners

-- The triangles that are left once others went in so many pairs: partners, for each place the place of its partner if it has one.
pub record IsWithoutPairs (triangles left : List Tri) : Type 0 where
  pub partners : List (Option ℕ)
  pub for_each : length partners ≡ length triangles
  pub both_ways : (i j : ℕ) → slice_get partners i ≡ Some (Some j) → slice_get partners j ≡ Some (Some i)
  pub different : (i j : ℕ) → slice_get partners i ≡ Some (Some j) → i ≢ j
  pub opposite : (i j : ℕ) → slice_get partners i ≡ Some (Some j) → AreOppositeAt triangles i j
  pub is_left : left ≡ alone triangles partners
  -- two for each pair went
  pub pairs : ℕ
  pub in_pairs : length triangles ≡ length left + 2 * pairs
  -- no two that are left are opposite
  pub none_left : (i j : ℕ) → slice_get partners i ≡ Some None → slice_get partners j ≡ Some None → i ≢ j → ¬ AreOppositeAt triangles i j
