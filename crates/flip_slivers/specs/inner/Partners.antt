-- Partners that are found so far.
use Rattle.std.specs.Prelude.{◌≡◌, ◌≢◌, ℕ, ◌+◌, ◌*◌, List, length, Option, Some, None, slice_get}
use Rattle.lattice.specs.declared.soup.Tri.{Tri}
use Rattle.flip_slivers.specs.Pairs.{AreOppositeAt, alone}

pub record ArePartners (triangles : List Tri) (partners : List (Option ℕ)) : Type 0 where
  pub for_each : length partners ≡ length triangles
  pub both_ways : (i j : ℕ) → slice_get partners i ≡ Some (Some j) → slice_get partners j ≡ Some (Some i)
  pub different : (i j : ℕ) → slice_get partners i ≡ Some (Some j) → i ≢ j
  pub opposite : (i j : ℕ) → slice_get partners i ≡ Some (Some j) → AreOppositeAt triangles i j
  -- two for each pair aren't alone
  pub pairs : ℕ
  pub in_pairs : length triangles ≡ length (alone triangles partners) + 2 * pairs

-- an opposite triangle at another place, without a partner
pub record IsFreePartner (triangles : List Tri) (partners : List (Option ℕ)) (i j : ℕ) : Type 0 where
  pub different : i ≢ j
  pub free : slice_get partners j ≡ Some None
  pub opposite : AreOppositeAt triangles i j

abbrev pub IsAlone : List Tri → List (Option ℕ) → ℕ → Type 0
IsAlone triangles partners i = (j : ℕ) → ¬ IsFreePartner triangles partners i j
