-- From the root of a line's value along an edge to the crossing of a border.
use Rattle.std.proofs.Common.{◌≡◌, ◌⊎◌, inl, inr, [], ◌∷◌, refl, ap, ◌∙◌, arith}
use Rattle.std.specs.Prelude.{ℤ, pos, ◌+ℤ◌, ◌-ℤ◌, ◌*ℤ◌, ◌<ℤ◌, ◌≤ℤ◌, Some, None}
use Rattle.std.proofs.lemmas.Int.{ints, by_lt_z}
use Rattle.integers.proofs.Comparisons.{negation_positive, gap_of_at_most, not_negative_of_positive, same_of_gap_back, zero_between, positive_not_zero, negative_not_zero}
use Rattle.integers.proofs.Ring.{var, con, ◌⊕◌, ◌⊖◌, ◌⊗◌, ring, by_two, same_of_gap, gap_of_less}
use Rattle.integers.proofs.Signs.{mul_nonneg, mul_pos, zero_of_mul}
use Rattle.exact_frac.specs.declared.Frac.{Frac}
use Rattle.lattice.specs.declared.lines.Line.{Line}
use Rattle.lattice.specs.Points.{Point, point_of}
use Rattle.lattice.specs.Cuts.{Plane, toward_of}
use Rattle.geometry.specs.Faces.{IsFlat, share_point}
use Rattle.geometry.specs.Parts.{Part, Face, Edge}
use Rattle.geometry.specs.Cuts.{IsBorderOf}
use Rattle.geometry.proofs.Shares.{one_place}
use Rattle.geometry.proofs.Sights.{sight_on}
use Rattle.cut_plane.specs.Loops.{IsBorderLine}
use Rattle.cut_plane.specs.Crossings.{CrossesAt, IsShort, IsCrossingOf}
use Rattle.cut_plane.specs.inner.Crossings.{line_value, IsSeenBetween, IsRootOf}
use Rattle.cut_plane.proofs.CrossedBorders.{root_of_crossing, crossing_of_root}

-- a place of the same value is crossed too
pub crosses_same : (c : Plane) {s : Part} (f : Face s) (e : Edge s) (n m n' m' : ℤ) → pos 0 <ℤ m → n *ℤ m' ≡ n' *ℤ m → CrossesAt c f e n m → CrossesAt c f e n' m'
crosses_same c f e n m n' m' there same crosses =
    let (r, on, sight) = crosses.passes in
    record { passes = (r, on, sight_on (toward_of c) r (share_point e.a e.b n m) (share_point e.a e.b n' m') there sight (one_place (toward_of c) e.a e.b n m n' m' same)); turns = crosses.turns }

not_same : (x y : ℤ) → (x ≡ y → ⊥) → y -ℤ x ≡ pos 0 → ⊥
not_same x y h e = h (same_of_gap_back x y e)

-- a product with what is not 0 is 0
out_of : (k a : ℤ) → (k ≡ pos 0 → ⊥) → k *ℤ a ≡ pos 0 → a ≡ pos 0
out_of k a some e = by_lt_z (pos 0) k
    (λ p. zero_of_mul k a p e)
    (λ p. by_lt_z k (pos 0) (λ q. zero_of_mul (pos 0 -ℤ k) a (negation_positive k q) (ring (k ∷ a ∷ []) ((con (pos 0) ⊖ var 0) ⊗ var 1) (con (pos 0) ⊖ (var 0 ⊗ var 1)) refl ∙ ap (λ z. pos 0 -ℤ z) e)) (λ q. absurd (some (zero_between k q p))))

-- a value has one root
pub one_root : (x y n m n' m' : ℤ) → IsRootOf x y n m → IsRootOf x y n' m' → n *ℤ m' ≡ n' *ℤ m
one_root x y n m n' m' first second =
    same_of_gap (n *ℤ m') (n' *ℤ m) (out_of (y -ℤ x) _ (not_same x y first.changes)
    (by_two _ _ (((m -ℤ n) *ℤ x) +ℤ (n *ℤ y)) (pos 0) m' (((m' -ℤ n') *ℤ x) +ℤ (n' *ℤ y)) (pos 0) (pos 0 -ℤ m)
    (ring (x ∷ y ∷ n ∷ m ∷ n' ∷ m' ∷ [])
    (((var 1 ⊖ var 0) ⊗ ((var 2 ⊗ var 5) ⊖ (var 4 ⊗ var 3))) ⊖ con (pos 0))
    ((((((var 3 ⊖ var 2) ⊗ var 0) ⊕ (var 2 ⊗ var 1)) ⊖ con (pos 0)) ⊗ var 5) ⊕ (((((var 5 ⊖ var 4) ⊗ var 0) ⊕ (var 4 ⊗ var 1)) ⊖ con (pos 0)) ⊗ (con (pos 0) ⊖ var 3))) refl) first.root second.root))

-- ---- where it is, by its value at 0 and its change
changing : (x k : ℤ) → (k ≡ pos 0 → ⊥) → x ≡ x +ℤ k → ⊥
changing x k some e = some (none x k e)
  where
    none : (x k : ℤ) → x ≡ x +ℤ k → k ≡ pos 0
    none x k e = omega (arith, ints)

-- a rising value, with n and m the turned value at 0 and the change; a falling one, with the value and the turned change
pub rising_root : (x k n m : ℤ) → pos 0 <ℤ k → n ≡ pos 0 -ℤ x → m ≡ k → IsRootOf x (x +ℤ k) n m
rising_root x k n m rises e g = record {
  root = (λ i. ((g i -ℤ e i) *ℤ x) +ℤ (e i *ℤ (x +ℤ k))) ∙ ring (x ∷ k ∷ []) (((var 1 ⊖ (con (pos 0) ⊖ var 0)) ⊗ var 0) ⊕ ((con (pos 0) ⊖ var 0) ⊗ (var 0 ⊕ var 1))) (con (pos 0)) refl;
  changes = changing x k (positive_not_zero k rises);
}

pub falling_root : (x k n m : ℤ) → k <ℤ pos 0 → n ≡ x → m ≡ pos 0 -ℤ k → IsRootOf x (x +ℤ k) n m
falling_root x k n m falls e g = record {
  root = (λ i. ((g i -ℤ e i) *ℤ x) +ℤ (e i *ℤ (x +ℤ k))) ∙ ring (x ∷ k ∷ []) ((((con (pos 0) ⊖ var 1) ⊖ var 0) ⊗ var 0) ⊕ (var 0 ⊗ (var 0 ⊕ var 1))) (con (pos 0)) refl;
  changes = changing x k (negative_not_zero k falls);
}

-- a value whose root is before 0 or after 1 has none between
pub no_root : (x y n m i j : ℤ) → pos 0 <ℤ j → IsRootOf x y i j → (i <ℤ pos 0) ⊎ (j <ℤ i) → pos 0 <ℤ m → pos 0 ≤ℤ n → n ≤ℤ m → ¬ IsRootOf x y n m
no_root x y n m i j there at outside m_there least most root = by outside (one_root x y n m i j root at)
  where
    clash : (a b : ℤ) → a ≡ b → pos 0 ≤ℤ a → b <ℤ pos 0 → ⊥
    clash a b e h g = omega (arith, ints)

    negative : (i m : ℤ) → i <ℤ pos 0 → pos 0 <ℤ m → (i *ℤ m) <ℤ pos 0
    negative i m h g = turned (i *ℤ m) _ (ring (i ∷ m ∷ []) ((con (pos 0) ⊖ var 0) ⊗ var 1) (con (pos 0) ⊖ (var 0 ⊗ var 1)) refl) (mul_pos (pos 0 -ℤ i) m (negation_positive i h) g)
      where
        turned : (a b : ℤ) → b ≡ pos 0 -ℤ a → pos 0 <ℤ b → a <ℤ pos 0
        turned a b e h = omega (arith, ints)

    -- m (i - j) + j (m - n) is i m - n j
    past : (a b k l : ℤ) → a ≡ b → b -ℤ a ≡ k +ℤ l → pos 0 <ℤ k → pos 0 ≤ℤ l → ⊥
    past a b k l e g h f = omega (arith, ints)

    by : (i <ℤ pos 0) ⊎ (j <ℤ i) → n *ℤ j ≡ i *ℤ m → ⊥
    by (inl under) e = clash _ _ e (mul_nonneg n j least (not_negative_of_positive j there)) (negative i m under m_there)
    by (inr over) e = past _ _ (m *ℤ (i -ℤ j)) (j *ℤ (m -ℤ n)) e
        (ring (n ∷ m ∷ i ∷ j ∷ []) ((var 2 ⊗ var 1) ⊖ (var 0 ⊗ var 3)) ((var 1 ⊗ (var 2 ⊖ var 3)) ⊕ (var 3 ⊗ (var 1 ⊖ var 0))) refl)
        (mul_pos m _ m_there (gap_of_less j i over)) (mul_nonneg j _ (not_negative_of_positive j there) (gap_of_at_most n m most))

-- ---- the crossing of a border
module _ (c : Plane) {s : Part} (f : Face s) (whole : ¬ IsFlat f.a f.b f.c) (k l : Point) (ends : IsBorderOf c f k l) (line : Line) (on_line : IsBorderLine c f.a f.b f.c line) (e : Edge s) where
  abbrev start : ℤ
  start = line_value (toward_of c) line (point_of e.a)

  abbrev end : ℤ
  end = line_value (toward_of c) line (point_of e.b)

  -- the value has no root between the edge's corners
  pub crossing_nowhere : ((n m : ℤ) → pos 0 <ℤ m → pos 0 ≤ℤ n → n ≤ℤ m → ¬ IsRootOf start end n m) → IsCrossingOf c f e None
  crossing_nowhere none = record { found_is = tt; all = λ n m there least most crosses. absurd (none n m there least most (root_of_crossing c f whole k l ends line on_line e n m crosses).0) }

  -- it has one, which is seen between the border's ends
  pub crossing_there : (r : Frac) → IsShort r → IsRootOf start end r.num r.den → IsSeenBetween (toward_of c) k l (share_point e.a e.b r.num r.den) → IsCrossingOf c f e (Some r)
  crossing_there r short root between = record {
    found_is = (short, crossing_of_root c f whole k l ends line on_line e r.num r.den root between);
    all = λ n m there least most crosses. (r, refl, one_root start end n m r.num r.den (root_of_crossing c f whole k l ends line on_line e n m crosses).0 root);
  }

  -- or is not seen between them
  pub crossing_beside : (r : Frac) → IsRootOf start end r.num r.den → ¬ IsSeenBetween (toward_of c) k l (share_point e.a e.b r.num r.den) → IsCrossingOf c f e None
  crossing_beside r root beside = record {
    found_is = tt;
    all = λ n m there least most crosses.
        let same = one_root start end n m r.num r.den (root_of_crossing c f whole k l ends line on_line e n m crosses).0 root in
        absurd (beside (root_of_crossing c f whole k l ends line on_line e r.num r.den (crosses_same c f e n m r.num r.den there same crosses)).1);
  }
