-- For a turn about a corner there is a number above all that its perturbations and its near places ask of a mesh.
use Rattle.std.proofs.Common.{ℕ, ◌+◌, ◌*◌, ◌<◌, ◌≤◌, subst, arith, unsigned_abs}
use Rattle.std.specs.Prelude.{ℤ, pos, negsuc, ◌<ℤ◌}
use Rattle.std.proofs.lemmas.Int.{ints}
use Rattle.hiding_laws.proofs.Screens.{Screen, turn_of, lead_of}
use Rattle.geometry.specs.Turns.{product_of}
use Rattle.hiding_laws.proofs.CornerLaws.{way, IsBelow, IsFine, IsNear, IsFineTurn, Suits}
use Rattle.hiding_laws.proofs.Meshes.{Mesh, IsMesh}
use Rattle.hiding_laws.proofs.FinePerturbations.{fine_size, fine_above}
use Rattle.hiding_laws.proofs.NearFaces.{above_all}
use Rattle.hiding_laws.proofs.NearPlace.{IsAbove}

-- k is above the numbers of each side and each triangle, seen from the edges from o to q and from o to r
pub record IsFineMesh (o q r : Screen) (s : Mesh) (k : ℤ) : Type 0 where
  pub sides : (h : ℕ) → h < 3 * s.triangles → IsFine o q (s.from h) (s.to h) k × IsFine o r (s.from h) (s.to h) k
  pub leads : (t : ℕ) → t < s.triangles →
      IsBelow k (lead_of (s.from (3 * t)) (s.from (3 * t + 1)) (s.from (3 * t + 2)) q) × IsBelow k (lead_of (s.from (3 * t)) (s.from (3 * t + 1)) (s.from (3 * t + 2)) r)
  pub turns : (h : ℕ) → h < 3 * s.triangles → IsFineTurn k (way o q) (way o (s.from h)) (way o r) × IsFineTurn k (way o q) (way o (s.to h)) (way o r)

module _ (o q r : Screen) (s : Mesh) where
  -- above the numbers of one side, and of the triangle with the same number
  sum_at : ℕ → ℕ
  sum_at h =
      ((unsigned_abs (turn_of q (s.from h) (s.to h)) + unsigned_abs (product_of (way (s.from h) (s.to h)) (way o q)))
      + (unsigned_abs (turn_of r (s.from h) (s.to h)) + unsigned_abs (product_of (way (s.from h) (s.to h)) (way o r))))
      + ((unsigned_abs (lead_of (s.from (3 * h)) (s.from (3 * h + 1)) (s.from (3 * h + 2)) q) + unsigned_abs (lead_of (s.from (3 * h)) (s.from (3 * h + 1)) (s.from (3 * h + 2)) r))
      + (fine_size (way o q) (way o (s.from h)) (way o r) + fine_size (way o q) (way o (s.to h)) (way o r)))

  below_of : (z : ℤ) (n k : ℕ) → unsigned_abs z ≤ n → IsBelow (pos k) (pos n) → IsBelow (pos k) z
  below_of (pos m) n k h b = let x = b.least in let y = b.most in record { least = omega (arith, ints); most = omega (arith, ints) }
  below_of (negsuc m) n k h b = let x = b.least in let y = b.most in record { least = omega (arith, ints); most = omega (arith, ints) }

  larger : (m n k : ℕ) → m ≤ n → IsBelow (pos k) (pos n) → pos m <ℤ pos k
  larger m n k h b = let y = b.most in omega (arith, ints)

  -- each part of a sum of eight is at most the sum
  at_most : (a b c d e f g h : ℕ) → let n = ((a + b) + (c + d)) + ((e + f) + (g + h)) in
      (a ≤ n) × (b ≤ n) × (c ≤ n) × (d ≤ n) × (e ≤ n) × (f ≤ n) × (g ≤ n) × (h ≤ n)
  at_most a b c d e f g h = (omega arith, omega arith, omega arith, omega arith, omega arith, omega arith, omega arith, omega arith)

  parts : (h : ℕ) →
      (unsigned_abs (turn_of q (s.from h) (s.to h)) ≤ sum_at h) × (unsigned_abs (product_of (way (s.from h) (s.to h)) (way o q)) ≤ sum_at h)
      × (unsigned_abs (turn_of r (s.from h) (s.to h)) ≤ sum_at h) × (unsigned_abs (product_of (way (s.from h) (s.to h)) (way o r)) ≤ sum_at h)
      × (unsigned_abs (lead_of (s.from (3 * h)) (s.from (3 * h + 1)) (s.from (3 * h + 2)) q) ≤ sum_at h)
      × (unsigned_abs (lead_of (s.from (3 * h)) (s.from (3 * h + 1)) (s.from (3 * h + 2)) r) ≤ sum_at h)
      × (fine_size (way o q) (way o (s.from h)) (way o r) ≤ sum_at h) × (fine_size (way o q) (way o (s.to h)) (way o r) ≤ sum_at h)
  unfolding sum_at
  parts h =
      at_most (unsigned_abs (turn_of q (s.from h) (s.to h))) (unsigned_abs (product_of (way (s.from h) (s.to h)) (way o q)))
      (unsigned_abs (turn_of r (s.from h) (s.to h))) (unsigned_abs (product_of (way (s.from h) (s.to h)) (way o r)))
      (unsigned_abs (lead_of (s.from (3 * h)) (s.from (3 * h + 1)) (s.from (3 * h + 2)) q)) (unsigned_abs (lead_of (s.from (3 * h)) (s.from (3 * h + 1)) (s.from (3 * h + 2)) r))
      (fine_size (way o q) (way o (s.from h)) (way o r)) (fine_size (way o q) (way o (s.to h)) (way o r))

  pub fine_mesh : (k : ℕ) × IsFineMesh o q r s (pos k)
  fine_mesh =
      let x = above_all (λ h. pos (sum_at h)) (3 * s.triangles) in
      let k = x.0 in (
        k,
        record {
          sides = λ h l. let p = parts h in let b = x.1 h l in (
            record { turn = below_of _ (sum_at h) k p.0 b; product = below_of _ (sum_at h) k p.1 b },
            record { turn = below_of _ (sum_at h) k p.2 b; product = below_of _ (sum_at h) k p.3 b },
          );
          leads = λ t l. let p = parts t in let b = x.1 t (more t l) in (below_of _ (sum_at t) k p.4 b, below_of _ (sum_at t) k p.5 b);
          turns = λ h l. let p = parts h in let b = x.1 h l in
              (fine_above _ _ _ (pos k) (larger _ (sum_at h) k p.6 b), fine_above _ _ _ (pos k) (larger _ (sum_at h) k p.7 b));
        },
      )
    where
      more : (t : ℕ) → t < s.triangles → t < 3 * s.triangles
      more t l = omega arith

-- ---- what a triangle of the mesh needs
module _ (s : Mesh) (is : IsMesh s) (t : ℕ) (l : t < s.triangles) (o q r : Screen) (k : ℤ) (fine : IsFineMesh o q r s k) where
  in_first : (t : ℕ) → t < s.triangles → 3 * t < 3 * s.triangles
  in_first t h = omega arith

  in_second : (t : ℕ) → t < s.triangles → 3 * t + 1 < 3 * s.triangles
  in_second t h = omega arith

  in_third : (t : ℕ) → t < s.triangles → 3 * t + 2 < 3 * s.triangles
  in_third t h = omega arith

  pub suits_first : (n m : ℤ) → IsNear k n m → Suits o q (s.from (3 * t)) (s.from (3 * t + 1)) (s.from (3 * t + 2)) k n m
  suits_first n m near = record {
    ab = subst (λ w. IsFine o q (s.from (3 * t)) w k) (is.first t l) (fine.sides (3 * t) (in_first t l)).0;
    bd = subst (λ w. IsFine o q (s.from (3 * t + 1)) w k) (is.second t l) (fine.sides (3 * t + 1) (in_second t l)).0;
    da = subst (λ w. IsFine o q (s.from (3 * t + 2)) w k) (is.third t l) (fine.sides (3 * t + 2) (in_third t l)).0;
    lead = (fine.leads t l).0;
    near = near;
  }

  pub suits_second : (n m : ℤ) → IsNear k n m → Suits o r (s.from (3 * t)) (s.from (3 * t + 1)) (s.from (3 * t + 2)) k n m
  suits_second n m near = record {
    ab = subst (λ w. IsFine o r (s.from (3 * t)) w k) (is.first t l) (fine.sides (3 * t) (in_first t l)).1;
    bd = subst (λ w. IsFine o r (s.from (3 * t + 1)) w k) (is.second t l) (fine.sides (3 * t + 1) (in_second t l)).1;
    da = subst (λ w. IsFine o r (s.from (3 * t + 2)) w k) (is.third t l) (fine.sides (3 * t + 2) (in_third t l)).1;
    lead = (fine.leads t l).1;
    near = near;
  }

-- a triangle that suits is one whose numbers at the far end are below k
pub above_of_suits : (o q a b d : Screen) (k n m : ℤ) → Suits o q a b d k n m → IsAbove q a b d k
above_of_suits o q a b d k n m s = record { ab = s.ab.turn; bc = s.bd.turn; ca = s.da.turn; lead = s.lead }
