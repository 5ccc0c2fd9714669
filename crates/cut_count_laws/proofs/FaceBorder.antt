-- The border of a face goes between the two sides of the corner that is alone on its side of the plane.
use Rattle.std.proofs.Common.{◌≡◌, ◌⊎◌, ℕ, ◌<◌, inl, inr, refl, sym, subst}
use Rattle.lattice.specs.declared.points.Corner.{Corner}
use Rattle.lattice.specs.Points.{Point, point_of}
use Rattle.lattice.specs.Cuts.{Plane, IsBeyond, IsBeforePlane}
use Rattle.geometry.specs.Cuts.{start_corner, end_corner, crossing_of, GoesBeyond, IsBorderOf}
use Rattle.geometry.specs.Parts.{Part, Face}
use Rattle.geometry.proofs.Borders.{not_both_sides, side_of_corner}
use Rattle.cut_count_laws.proofs.Rests.{AreInOrder}
use Rattle.cut_count_laws.proofs.RestCovers.{side_from, side_of_from}

module _ (c : Plane) {s : Part} (f : Face s) where
  -- of two sides by their corners
  border_of : (x y v w : Corner)
      → (side : ℕ) × (side < 3) × ((start_corner f side ≡ x) × (end_corner f side ≡ y))
      → (side : ℕ) × (side < 3) × ((start_corner f side ≡ v) × (end_corner f side ≡ w))
      → GoesBeyond c x y → GoesBeyond c w v → IsBorderOf c f (crossing_of c x y) (crossing_of c w v)
  border_of x y v w (i, i_side, (i_start, i_end)) (j, j_side, (j_start, j_end)) goes returns = record {
    first = i;
    second = j;
    first_side = i_side;
    second_side = j_side;
    goes = subst (λ t. t) (λ r. GoesBeyond c (sym i_start r) (sym i_end r)) goes;
    returns = subst (λ t. t) (λ r. GoesBeyond c (sym j_end r) (sym j_start r)) returns;
    from = λ r. crossing_of c (sym i_start r) (sym i_end r);
    to = λ r. crossing_of c (sym j_end r) (sym j_start r);
  }

  module _ (x y z : Corner) (order : AreInOrder f x y z) where
    abbrev Goes : Point → Corner → Corner → Type 0
    Goes p a b = GoesBeyond c a b × (p ≡ crossing_of c a b)

    abbrev Returns : Point → Corner → Corner → Type 0
    Returns q a b = GoesBeyond c b a × (q ≡ crossing_of c b a)

    xy : (side : ℕ) × (side < 3) × ((start_corner f side ≡ x) × (end_corner f side ≡ y))
    xy = side_of_from f x y z order (λ a b. (a ≡ x) × (b ≡ y)) (inl (refl, refl))

    zx : (side : ℕ) × (side < 3) × ((start_corner f side ≡ z) × (end_corner f side ≡ x))
    zx = side_of_from f x y z order (λ a b. (a ≡ z) × (b ≡ x)) (inr (inr (refl, refl)))

    never : (a b : Corner) → IsBeyond c (point_of a) → ¬ IsBeforePlane c (point_of a)
    never a b h l = not_both_sides c (point_of a) h l

    -- one corner before the plane
    pub border_one : IsBeforePlane c (point_of x) → IsBeyond c (point_of y) → IsBeyond c (point_of z) → IsBorderOf c f (crossing_of c x y) (crossing_of c x z)
    border_one h k l = border_of x y z x xy zx (h, k) (h, l)

    pub only_one : IsBeforePlane c (point_of x) → IsBeyond c (point_of y) → IsBeyond c (point_of z) → (p q : Point) → IsBorderOf c f p q → (p ≡ crossing_of c x y) × (q ≡ crossing_of c x z)
    only_one h k l p q b = (
      from (side_from f x y z order (Goes p) (b.first, b.first_side, (b.goes, b.from))),
      to (side_from f x y z order (Returns q) (b.second, b.second_side, (b.returns, b.to))),
    )
      where
        from : Goes p x y ⊎ Goes p y z ⊎ Goes p z x → p ≡ crossing_of c x y
        from (inl g) = g.1
        from (inr (inl g)) = absurd (never y z k g.0.0)
        from (inr (inr g)) = absurd (never z x l g.0.0)

        to : Returns q x y ⊎ Returns q y z ⊎ Returns q z x → q ≡ crossing_of c x z
        to (inl g) = absurd (never y x k g.0.0)
        to (inr (inl g)) = absurd (never z y l g.0.0)
        to (inr (inr g)) = g.1

    -- one corner beyond it
    pub border_two : IsBeyond c (point_of x) → IsBeforePlane c (point_of y) → IsBeforePlane c (point_of z) → IsBorderOf c f (crossing_of c z x) (crossing_of c y x)
    border_two h k l = border_of z x x y zx xy (l, h) (k, h)

    pub only_two : IsBeyond c (point_of x) → IsBeforePlane c (point_of y) → IsBeforePlane c (point_of z) → (p q : Point) → IsBorderOf c f p q → (p ≡ crossing_of c z x) × (q ≡ crossing_of c y x)
    only_two h k l p q b = (
      from (side_from f x y z order (Goes p) (b.first, b.first_side, (b.goes, b.from))),
      to (side_from f x y z order (Returns q) (b.second, b.second_side, (b.returns, b.to))),
    )
      where
        from : Goes p x y ⊎ Goes p y z ⊎ Goes p z x → p ≡ crossing_of c z x
        from (inl g) = absurd (never x y h g.0.0)
        from (inr (inl g)) = absurd (not_both_sides c (point_of z) g.0.1 l)
        from (inr (inr g)) = g.1

        to : Returns q x y ⊎ Returns q y z ⊎ Returns q z x → q ≡ crossing_of c y x
        to (inl g) = g.1
        to (inr (inl g)) = absurd (not_both_sides c (point_of y) g.0.1 k)
        to (inr (inr g)) = absurd (never x z h g.0.0)

-- ---- how the corners lie
pub data Lies (c : Plane) {s : Part} (f : Face s) : Type 0 where
  all_beyond : IsBeyond c (point_of f.a) → IsBeyond c (point_of f.b) → IsBeyond c (point_of f.c) → Lies c f
  all_before : IsBeforePlane c (point_of f.a) → IsBeforePlane c (point_of f.b) → IsBeforePlane c (point_of f.c) → Lies c f
  one_before : (x y z : Corner) → AreInOrder f x y z → IsBeforePlane c (point_of x) → IsBeyond c (point_of y) → IsBeyond c (point_of z) → Lies c f
  one_beyond : (x y z : Corner) → AreInOrder f x y z → IsBeyond c (point_of x) → IsBeforePlane c (point_of y) → IsBeforePlane c (point_of z) → Lies c f

pub lies : (c : Plane) {s : Part} (f : Face s) → Lies c f
lies c f = by (side_of_corner c f.a) (side_of_corner c f.b) (side_of_corner c f.c)
  where
    by : IsBeyond c (point_of f.a) ⊎ IsBeforePlane c (point_of f.a) → IsBeyond c (point_of f.b) ⊎ IsBeforePlane c (point_of f.b) → IsBeyond c (point_of f.c) ⊎ IsBeforePlane c (point_of f.c) → Lies c f
    by (inl p) (inl q) (inl r) = all_beyond p q r
    by (inr p) (inr q) (inr r) = all_before p q r
    by (inr p) (inl q) (inl r) = one_before f.a f.b f.c (inl (refl, refl, refl)) p q r
    by (inl p) (inr q) (inl r) = one_before f.b f.c f.a (inr (inl (refl, refl, refl))) q r p
    by (inl p) (inl q) (inr r) = one_before f.c f.a f.b (inr (inr (refl, refl, refl))) r p q
    by (inl p) (inr q) (inr r) = one_beyond f.a f.b f.c (inl (refl, refl, refl)) p q r
    by (inr p) (inl q) (inr r) = one_beyond f.b f.c f.a (inr (inl (refl, refl, refl))) q r p
    by (inr p) (inr q) (inl r) = one_beyond f.c f.a f.b (inr (inr (refl, refl, refl))) r p q
