-- When corners are on both sides of a plane.
use Rattle.std.proofs.Common.{◌≡◌, ◌↔◌, Bool, IsTrue, List, sym, subst, arith}
use Rattle.std.specs.Prelude.{ℤ, ◌<ℤ◌, ◌≤ℤ◌}
use Rattle.std.proofs.lemmas.Int.{ints}
use Rattle.std.proofs.lemmas.List.Elements.{All-contains}
use Rattle.integers.proofs.Logic.{↔-trans}
use Rattle.lattice.specs.declared.points.Corner.{Corner}
use Rattle.lattice.specs.Cuts.{Plane, toward_of, level_of}
use Rattle.lattice.specs.Points.{point_of, scaled}
use Rattle.lattice.specs.Triple.{Triple, dot}
use Rattle.lattice.proofs.CutSides.{corner_beyond, corner_before}
use Rattle.sheet_plan.specs.Extents.{IsLeast, IsGreatest}
use Rattle.geometry.specs.Traces.{GoesThrough}

-- the lowest corner is beyond the plane, and the topmost before it
amid : (c : Plane) (corners : List Corner) (lowest topmost : ℤ) → IsLeast (λ k. dot (toward_of c) (scaled (point_of k))) corners lowest → IsGreatest (λ k. dot (toward_of c) (scaled (point_of k))) corners topmost
    → ((lowest <ℤ level_of c) × (level_of c ≤ℤ topmost)) ↔ GoesThrough c corners
amid c corners lowest topmost is_lowest is_topmost = (
  λ (less, most).
      let (n, k, within, at, low) = is_lowest.reached in
      let (m, l, inside, there, high) = is_topmost.reached in
      record {
        before = (l, (m, inside, there), (corner_before c l).1 (subst (λ (v : ℤ). level_of c ≤ℤ v) (sym high) most));
        beyond = (k, (n, within, at), (corner_beyond c k).1 (subst (λ (v : ℤ). v <ℤ level_of c) (sym low) less));
      },
  λ h.
      let (k, here, before) = h.before in
      let (l, too, beyond) = h.beyond in (
        most_less _ _ _ (All-contains (λ x. lowest ≤ℤ dot (toward_of c) (scaled (point_of x))) corners l is_lowest.bound too) ((corner_beyond c l).0 beyond),
        most_most _ _ _ ((corner_before c k).0 before) (All-contains (λ x. dot (toward_of c) (scaled (point_of x)) ≤ℤ topmost) corners k is_topmost.bound here),
      ),
)
  where
    most_less : (m n k : ℤ) → m ≤ℤ n → n <ℤ k → m <ℤ k
    most_less m n k h g = omega (arith, ints)

    most_most : (m n k : ℤ) → m ≤ℤ n → n ≤ℤ k → m ≤ℤ k
    most_most m n k h g = omega (arith, ints)

-- ---- what the tests of the numbers say
module _ (corners : List Corner) (t : Triple) (least most : ℤ) (r : Bool) (is_least : IsLeast (λ k. dot t (scaled (point_of k))) corners least) (is_most : IsGreatest (λ k. dot t (scaled (point_of k))) corners most) where
  least_on : (s : Triple) → t ≡ s → IsLeast (λ k. dot s (scaled (point_of k))) corners least
  least_on s is = subst (λ (x : Triple). IsLeast (λ k. dot x (scaled (point_of k))) corners least) is is_least

  most_on : (s : Triple) → t ≡ s → IsGreatest (λ k. dot s (scaled (point_of k))) corners most
  most_on s is = subst (λ (x : Triple). IsGreatest (λ k. dot x (scaled (point_of k))) corners most) is is_most

  pub told_through : (c : Plane) (level : ℤ) → t ≡ toward_of c → level ≡ level_of c → IsTrue r ↔ ((least <ℤ level) × (level ≤ℤ most)) → IsTrue r ↔ GoesThrough c corners
  told_through c level toward level_is tells =
      ↔-trans tells (subst (λ (v : ℤ). ((least <ℤ v) × (v ≤ℤ most)) ↔ GoesThrough c corners) (sym level_is) (amid c corners least most (least_on (toward_of c) toward) (most_on (toward_of c) toward)))
