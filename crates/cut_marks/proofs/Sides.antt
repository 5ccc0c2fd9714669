-- When corners are spread along an axis.
use Rattle.std.proofs.Common.{◌≡◌, ◌↔◌, Bool, IsTrue, List, Contains, sym, subst, ◌∙◌, arith}
use Rattle.std.specs.Prelude.{ℤ, ◌<ℤ◌, ◌≤ℤ◌}
use Rattle.std.proofs.lemmas.Int.{ints, by_lt_z}
use Rattle.std.proofs.lemmas.List.Elements.{All-contains}
use Rattle.integers.proofs.Logic.{↔-trans}
use Rattle.lattice.specs.declared.points.Axis.{Axis}
use Rattle.lattice.specs.declared.points.Axis.TheVariants.{X, Y, Z}
use Rattle.lattice.specs.declared.points.Corner.{Corner}
use Rattle.lattice.specs.Cuts.{unit_of}
use Rattle.lattice.specs.Points.{point_of, scaled}
use Rattle.lattice.specs.Triple.{Triple, dot}
use Rattle.lattice.specs.Axes.{coordinate_of}
use Rattle.sheet_plan.specs.Extents.{IsLeast, IsGreatest}
use Rattle.cut_marks.specs.Traces.{IsSpread}

unit_product : (axis : Axis) (k : Corner) → dot (unit_of axis) (scaled (point_of k)) ≡ coordinate_of axis (point_of k)
unit_product X k = omega (arith, ints)
unit_product Y k = omega (arith, ints)
unit_product Z k = omega (arith, ints)

-- the least place on an axis is below the greatest where not all corners are at one place
spread : (axis : Axis) (corners : List Corner) (least most : ℤ) → IsLeast (λ k. dot (unit_of axis) (scaled (point_of k))) corners least → IsGreatest (λ k. dot (unit_of axis) (scaled (point_of k))) corners most
    → (least <ℤ most) ↔ IsSpread axis corners
spread axis corners least most is_least is_most = (
  λ less.
      let (n, k, within, at, low) = is_least.reached in
      let (m, l, inside, there, high) = is_most.reached in
      (k, l, (n, within, at), (m, inside, there), λ e. less_other _ _ less (sym low ∙ unit_product axis k ∙ e ∙ sym (unit_product axis l) ∙ high)),
  λ (k, l, here, too, differ).
      by_lt_z least most (λ h. h)
      (λ h. absurd (differ (sym (unit_product axis k) ∙ squeezed least most (value k) (value l) h (lower k here) (upper k here) (lower l too) (upper l too) ∙ unit_product axis l))),
)
  where
    value : Corner → ℤ
    value k = dot (unit_of axis) (scaled (point_of k))

    lower : (k : Corner) → Contains corners k → least ≤ℤ value k
    lower k here = All-contains (λ x. least ≤ℤ dot (unit_of axis) (scaled (point_of x))) corners k is_least.bound here

    upper : (k : Corner) → Contains corners k → value k ≤ℤ most
    upper k here = All-contains (λ x. dot (unit_of axis) (scaled (point_of x)) ≤ℤ most) corners k is_most.bound here

    squeezed : (m n a b : ℤ) → n ≤ℤ m → m ≤ℤ a → a ≤ℤ n → m ≤ℤ b → b ≤ℤ n → a ≡ b
    squeezed m n a b h e f g i = omega (arith, ints)

    less_other : (m n : ℤ) → m <ℤ n → m ≡ n → ⊥
    less_other m n h e = omega (arith, ints)

-- ---- what the tests of the numbers say
module _ (corners : List Corner) (t : Triple) (least most : ℤ) (r : Bool) (is_least : IsLeast (λ k. dot t (scaled (point_of k))) corners least) (is_most : IsGreatest (λ k. dot t (scaled (point_of k))) corners most) where
  least_on : (s : Triple) → t ≡ s → IsLeast (λ k. dot s (scaled (point_of k))) corners least
  least_on s is = subst (λ (x : Triple). IsLeast (λ k. dot x (scaled (point_of k))) corners least) is is_least

  most_on : (s : Triple) → t ≡ s → IsGreatest (λ k. dot s (scaled (point_of k))) corners most
  most_on s is = subst (λ (x : Triple). IsGreatest (λ k. dot x (scaled (point_of k))) corners most) is is_most

  pub told_spread : (axis : Axis) → t ≡ unit_of axis → IsTrue r ↔ (least <ℤ most) → IsTrue r ↔ IsSpread axis corners
  told_spread axis unit tells = ↔-trans tells (spread axis corners least most (least_on (unit_of axis) unit) (most_on (unit_of axis) unit))
