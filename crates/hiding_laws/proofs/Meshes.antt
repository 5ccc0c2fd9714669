-- A closed mesh of triangles as a viewer sees it, side by side.
use Rattle.std.specs.Prelude.{◌≡◌, ℕ, ◌+◌, ◌*◌, ◌<◌, ℤ}
use Rattle.hiding_laws.proofs.Screens.{Screen, area_of}
use Rattle.hiding_laws.proofs.Shares.{IsSign}

-- sides 3t, 3t+1 and 3t+2 are those of triangle t, each with its two corners, its triangle's sign and the side that runs back
pub record Mesh : Type 0 where
  pub triangles : ℕ
  pub from : ℕ → Screen
  pub to : ℕ → Screen
  pub sign : ℕ → ℤ
  pub twin : ℕ → ℕ

pub record IsMesh (s : Mesh) : Type 0 where
  pub first : (t : ℕ) → t < s.triangles → s.to (3 * t) ≡ s.from (3 * t + 1)
  pub second : (t : ℕ) → t < s.triangles → s.to (3 * t + 1) ≡ s.from (3 * t + 2)
  pub third : (t : ℕ) → t < s.triangles → s.to (3 * t + 2) ≡ s.from (3 * t)
  pub is_sign : (t : ℕ) → t < s.triangles → IsSign (area_of (s.from (3 * t)) (s.from (3 * t + 1)) (s.from (3 * t + 2))) (s.sign (3 * t))
  pub sign_second : (t : ℕ) → t < s.triangles → s.sign (3 * t + 1) ≡ s.sign (3 * t)
  pub sign_third : (t : ℕ) → t < s.triangles → s.sign (3 * t + 2) ≡ s.sign (3 * t)
  pub within : (h : ℕ) → h < 3 * s.triangles → s.twin h < 3 * s.triangles
  pub back : (h : ℕ) → h < 3 * s.triangles → s.twin (s.twin h) ≡ h
  pub apart : (h : ℕ) → h < 3 * s.triangles → ¬ (s.twin h ≡ h)
  pub starts : (h : ℕ) → h < 3 * s.triangles → s.from (s.twin h) ≡ s.to h
  pub ends : (h : ℕ) → h < 3 * s.triangles → s.to (s.twin h) ≡ s.from h
