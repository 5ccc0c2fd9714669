-- A face is counted next to an edge's first end exactly where it is counted at a near place, and there is a near place.
use Rattle.std.proofs.Common.{inl, inr, ℕ, zero, suc, ◌+◌, ◌*◌, ◌<◌, ◌≤◌, [], ◌∷◌, refl, sym, subst, arith, unsigned_abs}
use Rattle.std.specs.Prelude.{ℤ, pos, negsuc, ◌+ℤ◌, ◌-ℤ◌, ◌*ℤ◌, ◌≤ℤ◌, ◌<ℤ◌, false}
use Rattle.std.proofs.lemmas.Int.{ints}
use Rattle.integers.proofs.Ring.{var, con, ◌⊕◌, ◌⊖◌, ◌⊗◌, ring, less_by}
use Rattle.integers.proofs.Signs.{mul_pos, mul_nonneg}
use Rattle.lattice.specs.Triple.{Triple}
use Rattle.geometry.specs.Parts.{Part, Face, Edge}
use Rattle.hiding_laws.proofs.Screens.{Screen, turn_of, lead_of}
use Rattle.hiding_laws.proofs.Decisions.{below_next}
use Rattle.geometry.specs.Counts.{Side}
use Rattle.geometry.specs.Covers.{HidesNext, IsCountedNext}
use Rattle.hiding_laws.proofs.Shares.{Adds}
use Rattle.hiding_laws.proofs.CornerLaws.{IsBelow, IsNear}
use Rattle.hiding_laws.proofs.Meshes.{Mesh, IsMesh}
use Rattle.hiding_laws.proofs.Signs.{sum_pos_left}
use Rattle.hiding_laws.proofs.Seen.{on, covers_place, hides_place, facing_some, area_some, reach_seen_of, reach_of_seen}
use Rattle.hiding_laws.proofs.NearPlace.{IsAbove, covers_near}

-- ---- which places are near
-- a place before the near place 1 / m is near
nearer_place : (k m i l : ℤ) → IsNear k (pos 1) m → pos 0 <ℤ i → (i *ℤ m) <ℤ (pos 1 *ℤ l) → IsNear k i l
nearer_place k m i l near after h = record {
  after = after;
  before = first i (i *ℤ m) l (product i m (mul_pos i (m -ℤ pos 1) after (more m near.before))) h;
  near = second (i *ℤ k) (i *ℤ m) l (scaled i k m (mul_pos i (m -ℤ k) after (above k m near.near))) h;
}
  where
    more : (m : ℤ) → pos 1 <ℤ m → pos 0 <ℤ (m -ℤ pos 1)
    more m h = omega (arith, ints)

    above : (k m : ℤ) → (pos 1 *ℤ k) <ℤ m → pos 0 <ℤ (m -ℤ k)
    above k m h = omega (arith, ints)

    product : (i m : ℤ) → pos 0 <ℤ (i *ℤ (m -ℤ pos 1)) → i <ℤ (i *ℤ m)
    product i m h = less_by _ _ _ (ring (i ∷ m ∷ []) ((var 0 ⊗ var 1) ⊖ var 0) (var 0 ⊗ (var 1 ⊖ con (pos 1))) refl) h

    scaled : (i k m : ℤ) → pos 0 <ℤ (i *ℤ (m -ℤ k)) → (i *ℤ k) <ℤ (i *ℤ m)
    scaled i k m h = less_by _ _ _ (ring (i ∷ k ∷ m ∷ []) ((var 0 ⊗ var 2) ⊖ (var 0 ⊗ var 1)) (var 0 ⊗ (var 2 ⊖ var 1)) refl) h

    first : (i p l : ℤ) → i <ℤ p → p <ℤ (pos 1 *ℤ l) → i <ℤ l
    first i p l h g = omega (arith, ints)

    second : (x y l : ℤ) → x <ℤ y → y <ℤ (pos 1 *ℤ l) → x <ℤ l
    second x y l h g = omega (arith, ints)

-- 1 / (k + m + 1) is near, and before n / m
near_before : (k n m : ℤ) → pos 0 <ℤ k → pos 0 <ℤ n → pos 0 <ℤ m → IsNear k (pos 1) ((k +ℤ m) +ℤ pos 1) × ((pos 1 *ℤ m) <ℤ (n *ℤ ((k +ℤ m) +ℤ pos 1)))
near_before k n m k_pos n_pos m_pos = (
  record { after = omega (arith, ints); before = omega (arith, ints); near = omega (arith, ints) },
  less_by _ _ _ (ring (k ∷ n ∷ m ∷ []) ((var 1 ⊗ ((var 0 ⊕ var 2) ⊕ con (pos 1))) ⊖ (con (pos 1) ⊗ var 2)) ((var 0 ⊕ con (pos 1)) ⊕ ((var 1 ⊖ con (pos 1)) ⊗ ((var 0 ⊕ var 2) ⊕ con (pos 1)))) refl)
      (sum_pos_left _ _ (one_more k k_pos) (mul_nonneg _ _ (one_less n n_pos) (least k m k_pos m_pos))),
)
  where
    one_more : (k : ℤ) → pos 0 <ℤ k → pos 0 <ℤ (k +ℤ pos 1)
    one_more k h = omega (arith, ints)

    one_less : (n : ℤ) → pos 0 <ℤ n → pos 0 ≤ℤ (n -ℤ pos 1)
    one_less n h = omega (arith, ints)

    least : (k m : ℤ) → pos 0 <ℤ k → pos 0 <ℤ m → pos 0 ≤ℤ ((k +ℤ m) +ℤ pos 1)
    least k m h l = omega (arith, ints)

-- ---- a face at a near place
module _ (c : Side) (d : Triple) {s : Part} (e : Edge s) (f : Face s) (k m : ℤ) (near : IsNear k (pos 1) m) (above : IsAbove (on d e.b) (on d f.a) (on d f.b) (on d f.c) k) where
  abbrev AddsHere : Type 0
  AddsHere = Adds c (on d e.a) (on d e.b) (on d f.a) (on d f.b) (on d f.c) (pos 1) m

  pub next_of_adds : AddsHere → IsCountedNext c d e false f
  next_of_adds (some, (covers, side)) = record {
    turned = area_some d f.a f.b f.c some;
    hides = record {
      n = pos 1;
      m = m;
      some = near.after;
      within = low m near.before;
      over = λ i l after last h.
          hides_place d e.a e.b f.a f.b f.c i l
          (covers_near (on d e.a) (on d e.b) k (pos 1) m i l refl refl near (nearer_place k m i l near after h) (on d f.a) (on d f.b) (on d f.c) above some covers);
    };
    reaches = reach_of_seen c d e f side;
  }
    where
      low : (m : ℤ) → pos 1 <ℤ m → pos 1 ≤ℤ m
      low m h = omega (arith, ints)

  pub adds_of_next : IsCountedNext c d e false f → AddsHere
  adds_of_next x =
      let h : HidesNext d e false f = x.hides in
      let some = facing_some d f.a f.b f.c x.turned in
      let l = (k +ℤ h.m) +ℤ pos 1 in
      let there = near_before k h.n h.m (size k _ above.lead.least above.lead.most) h.some (divisor h.n h.m h.some h.within) in
      let near' : IsNear k (pos 1) l = there.0 in (
        some,
        (
          covers_near (on d e.a) (on d e.b) k (pos 1) l (pos 1) m refl refl near' near (on d f.a) (on d f.b) (on d f.c) above some
              (covers_place d e.a e.b f.a f.b f.c (pos 1) l (h.over (pos 1) l near'.after (last l near'.before) there.1)),
          reach_seen_of c d e f x.reaches,
        ),
      )
    where
      size : (k z : ℤ) → (pos 0 -ℤ k) <ℤ z → z <ℤ k → pos 0 <ℤ k
      size k z h l = omega (arith, ints)

      divisor : (n m : ℤ) → pos 0 <ℤ n → n ≤ℤ m → pos 0 <ℤ m
      divisor n m h l = omega (arith, ints)

      last : (l : ℤ) → pos 1 <ℤ l → pos 0 <ℤ l
      last l h = omega (arith, ints)

-- ---- a number above all of finitely many
pub wider : (k l z : ℤ) → k ≤ℤ l → IsBelow k z → IsBelow l z
wider k l z h b = let x = b.least in let y = b.most in record { least = omega (arith, ints); most = omega (arith, ints) }

above_one : (z : ℤ) → IsBelow (pos (suc (unsigned_abs z))) z
above_one (pos n) = record { least = omega (arith, ints); most = omega (arith, ints) }
above_one (negsuc n) = record { least = omega (arith, ints); most = omega (arith, ints) }

pub above_all : (f : ℕ → ℤ) (n : ℕ) → (k : ℕ) × ((i : ℕ) → i < n → IsBelow (pos k) (f i))
above_all f zero = (0, λ i h. absurd (omega arith))
above_all f (suc n) =
    let r = above_all f n in
    let k = r.0 + suc (unsigned_abs (f n)) in (
      k,
      λ i h. elim (below_next i n h) [
        | inl l ↦ wider (pos r.0) (pos k) (f i) (first r.0 (suc (unsigned_abs (f n)))) (r.1 i l)
        | inr e ↦ subst (λ j. IsBelow (pos k) (f j)) (sym e) (wider (pos (suc (unsigned_abs (f n)))) (pos k) (f n) (second r.0 (suc (unsigned_abs (f n)))) (above_one (f n)))
      ],
    )
  where
    first : (m n : ℕ) → pos m ≤ℤ pos (m + n)
    first m n = omega (arith, ints)

    second : (m n : ℕ) → pos n ≤ℤ pos (m + n)
    second m n = omega (arith, ints)

-- ---- a mesh
pub record IsAboveMesh (q : Screen) (s : Mesh) (k : ℤ) : Type 0 where
  pub sides : (h : ℕ) → h < 3 * s.triangles → IsBelow k (turn_of q (s.from h) (s.to h))
  pub faces : (t : ℕ) → t < s.triangles → IsAbove q (s.from (3 * t)) (s.from (3 * t + 1)) (s.from (3 * t + 2)) k

pub above_mesh : (q : Screen) (s : Mesh) → IsMesh s → (l : ℕ) → (k : ℕ) × (l ≤ k) × IsAboveMesh q s (pos k)
above_mesh q s is l =
    let x = above_all (λ h. turn_of q (s.from h) (s.to h)) (3 * s.triangles) in
    let y = above_all (λ t. lead_of (s.from (3 * t)) (s.from (3 * t + 1)) (s.from (3 * t + 2)) q) s.triangles in
    let k = (x.0 + y.0) + l in
    let side : (h : ℕ) → h < 3 * s.triangles → IsBelow (pos k) (turn_of q (s.from h) (s.to h)) = λ h m. wider (pos x.0) (pos k) _ (first x.0 y.0 l) (x.1 h m) in (
      k,
      third x.0 y.0 l,
      record {
        sides = side;
        faces = λ t m. record {
          ab = subst (λ w. IsBelow (pos k) (turn_of q (s.from (3 * t)) w)) (is.first t m) (side (3 * t) (in_first t m));
          bc = subst (λ w. IsBelow (pos k) (turn_of q (s.from (3 * t + 1)) w)) (is.second t m) (side (3 * t + 1) (in_second t m));
          ca = subst (λ w. IsBelow (pos k) (turn_of q (s.from (3 * t + 2)) w)) (is.third t m) (side (3 * t + 2) (in_third t m));
          lead = wider (pos y.0) (pos k) _ (second x.0 y.0 l) (y.1 t m);
        };
      },
    )
  where
    first : (x y l : ℕ) → pos x ≤ℤ pos ((x + y) + l)
    first x y l = omega (arith, ints)

    second : (x y l : ℕ) → pos y ≤ℤ pos ((x + y) + l)
    second x y l = omega (arith, ints)

    third : (x y l : ℕ) → l ≤ (x + y) + l
    third x y l = omega arith

    in_first : (t : ℕ) → t < s.triangles → 3 * t < 3 * s.triangles
    in_first t h = omega arith

    in_second : (t : ℕ) → t < s.triangles → 3 * t + 1 < 3 * s.triangles
    in_second t h = omega arith

    in_third : (t : ℕ) → t < s.triangles → 3 * t + 2 < 3 * s.triangles
    in_third t h = omega arith
