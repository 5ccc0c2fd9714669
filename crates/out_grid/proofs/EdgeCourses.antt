-- The course of an edge, by the places of its corners.
use Rattle.std.proofs.Common.{◌≡◌, ◌⊎◌, inl, inr, ℕ, ◌/◌, ◌<◌, sym, subst}
use Rattle.lattice.specs.declared.points.Corner.{Corner}
use Rattle.lattice.specs.Triple.{Triple}
use Rattle.out_grid.specs.Cells.{Raster}
use Rattle.out_grid.specs.inner.Courses.{Course}
use Rattle.out_grid.specs.inner.Places.{AreEnds, IsAt, IsCourseOf, IsInside}

module _ (d : Triple) (r : Raster) (a b : Corner) (u v u' v' : ℕ) (c : Course) (ends : AreEnds u v u' v' c) (width : c.width ≡ r.width) (height : c.height ≡ r.height) where
  moved : (k : Corner) (x y x' y' : ℕ) → x ≡ x' → y ≡ y' → IsAt d r k x' y' → IsAt d r k x y
  moved k x y x' y' e f h = subst (λ (n : ℕ). IsAt d r k n y) (sym e) (subst (λ (n : ℕ). IsAt d r k x' n) (sym f) h)

  pub course_of_ends : IsAt d r a u v → IsAt d r b u' v' → IsCourseOf d r a b c
  course_of_ends at_a at_b = record { width = width; height = height; ends = by ends }
    where
      by : AreEnds u v u' v' c → (IsAt d r a c.from_u c.from_v × IsAt d r b c.to_u c.to_v) ⊎ (IsAt d r b c.from_u c.from_v × IsAt d r a c.to_u c.to_v)
      by (inl (e, f, g, h)) = inl (moved a c.from_u c.from_v u v e f at_a, moved b c.to_u c.to_v u' v' g h at_b)
      by (inr (e, f, g, h)) = inr (moved b c.from_u c.from_v u' v' e f at_b, moved a c.to_u c.to_v u v g h at_a)

  module _ (n : ℕ) (ua : u / r.width < n) (va : v / r.height < n) (ub : u' / r.width < n) (vb : v' / r.height < n) where
    quotient : (x y k m : ℕ) → x ≡ y → k ≡ m → y / m < n → x / k < n
    quotient x y k m e f h = subst (λ (z : ℕ). z / k < n) (sym e) (subst (λ (z : ℕ). y / z < n) (sym f) h)

    pub course_inside : IsInside n c
    course_inside = by ends
      where
        by : AreEnds u v u' v' c → IsInside n c
        by (inl (e, f, g, h)) = record { last = quotient c.to_u u' c.width r.width g width ub; from = quotient c.from_v v c.height r.height f height va; to = quotient c.to_v v' c.height r.height h height vb }
        by (inr (e, f, g, h)) = record { last = quotient c.to_u u c.width r.width g width ua; from = quotient c.from_v v' c.height r.height f height vb; to = quotient c.to_v v c.height r.height h height va }
