-- Triangles that are tested in rising order next to an end of an edge, by a meter: which they are, and how many.
use Rattle.std.proofs.Common.{◌≡◌, ℕ, ◌+◌, ◌<◌, ◌≤◌, List, [], ◌∷◌, ◌++◌, length, refl, arith, length-append}
use Rattle.span_count.specs.Tests.{AreNearAmong}
use Rattle.span_count.proofs.NearTested.{AreNearBelow, near_none, near_past, near_more, near_among}

-- those below n, where so many tests were made before and now
pub record AreNearCounted (near : ℕ → Type 0) (n before now : ℕ) : Type 0 where
  pub tested : List ℕ
  pub are : AreNearBelow near n tested
  pub number : now ≡ before + length tested

module _ (near : ℕ → Type 0) where
  pub near_counted_none : (before : ℕ) → AreNearCounted near 0 before before
  near_counted_none before = record { tested = []; are = near_none near; number = omega arith }

  -- one more is tested
  pub near_counted_more : (n before now new : ℕ) → AreNearCounted near n before now → new ≡ now + 1 → AreNearCounted near (n + 1) before new
  near_counted_more n before now new h one = record {
    tested = h.tested ++ n ∷ [];
    are = near_more near n h.tested h.are;
    number = more (length h.tested) (length (h.tested ++ n ∷ [])) (length-append h.tested (n ∷ [])) h.number;
  }
    where
      more : (k l : ℕ) → l ≡ k + 1 → now ≡ before + k → new ≡ before + l
      more k l e is = omega arith

  -- what is passed over is not near
  pub near_counted_past : (n m before now : ℕ) → AreNearCounted near n before now → n ≤ m → ((tri : ℕ) → n ≤ tri → tri < m → ¬ near tri) → AreNearCounted near m before now
  near_counted_past n m before now h up none = record { tested = h.tested; are = near_past near n m h.tested h.are up none; number = h.number }

  pub near_counted_all : (n before now triangles : ℕ) → AreNearCounted near n before now → n ≡ triangles → (k : ℕ) × AreNearAmong near triangles k × (now ≡ before + k)
  near_counted_all n before now triangles h all = (length h.tested, near_among near n triangles (length h.tested) h.tested h.are all refl, h.number)
