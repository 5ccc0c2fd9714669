-- The test of a face's border by the rows of its corners is the test of its two ends.
use Rattle.std.proofs.Common.{◌≡◌, ◌⊎◌, inl, inr, ℕ, zero, suc, Bool, true, false, sym, ap, ◌∙◌}
use Rattle.std.specs.Prelude.{ℤ, pos}
use Rattle.std.proofs.lemmas.Option.{get_or_from_slice_get}
use Rattle.integers.proofs.Orders.{lt_z_of_less, lt_z_of_at_most}
use Rattle.integers.proofs.Comparisons.{at_most_of_less}
use Rattle.lattice.specs.declared.points.Corner.{Corner}
use Rattle.lattice.specs.Points.{Point, point_of}
use Rattle.lattice.specs.Cuts.{Plane, toward_of, IsBeyond, IsBeforePlane}
use Rattle.geometry.specs.Cuts.{start_corner, end_corner, over_of, GoesBeyond, IsBorderOf, IsCrossed}
use Rattle.geometry.specs.Faces.{share_point}
use Rattle.geometry.specs.Parts.{Part, Face, Edge}
use Rattle.geometry.proofs.Borders.{side_of_corner, not_both_sides, over_before, over_beyond}
use Rattle.geometry.specs.Counts.{Side}
use Rattle.cut_plane.proofs.FaceBorders.{crossing_turned}
use Rattle.cut_plane.proofs.Sights.{Sight, sight_of, is_before, crossing_sight}
use Rattle.cut_count_laws.proofs.Rays.{is_ahead, by_border, of_border, border_ahead}

-- ---- the sides of the plane
module _ (c : Plane) where
  before_true : (x : Corner) → IsBeforePlane c (point_of x) → is_before c x ≡ true
  before_true x h = lt_z_of_less (pos 0) (over_of c x) (over_before c x h)

  beyond_false : (x : Corner) → IsBeyond c (point_of x) → is_before c x ≡ false
  beyond_false x h = lt_z_of_at_most (pos 0) (over_of c x) (at_most_of_less _ _ (over_beyond c x h))

  clash : (x : Corner) → IsBeyond c (point_of x) → IsBeforePlane c (point_of x) → ⊥
  clash x h g = not_both_sides c (point_of x) h g

-- ---- a face's border
module _ (test : Sight → Sight → Bool) (back : (x y : Sight) → test x y ≡ test y x) (c : Plane) {s : Part} (f : Face s) where
  abbrev X : Sight
  X = crossing_sight c f.a f.b

  abbrev Y : Sight
  Y = crossing_sight c f.b f.c

  abbrev Z : Sight
  Z = crossing_sight c f.c f.a

  abbrev row : Bool → Bool → Bool → Bool
  row u v w = by_border test u v w X Y Z

  by_sides : (i j : ℕ) → GoesBeyond c (start_corner f i) (end_corner f i) → GoesBeyond c (end_corner f j) (start_corner f j)
      → of_border test c f.a f.b f.c ≡ test (crossing_sight c (start_corner f i) (end_corner f i)) (crossing_sight c (end_corner f j) (start_corner f j))
  by_sides zero zero g h = absurd (clash c f.a h.1 g.0)
  by_sides zero (suc zero) g h =
      (λ t. row (before_true c f.a g.0 t) (beyond_false c f.b g.1 t) (before_true c f.c h.0 t)) ∙ back Y X ∙ ap (test X) (crossing_turned c f.b f.c)
  by_sides zero (suc (suc j)) g h =
      (λ t. row (before_true c f.a g.0 t) (beyond_false c f.b g.1 t) (beyond_false c f.c h.1 t)) ∙ ap (test X) (crossing_turned c f.c f.a)
  by_sides (suc zero) zero g h =
      (λ t. row (beyond_false c f.a h.1 t) (before_true c f.b g.0 t) (beyond_false c f.c g.1 t)) ∙ ap (test Y) (crossing_turned c f.a f.b)
  by_sides (suc zero) (suc zero) g h = absurd (clash c f.b h.1 g.0)
  by_sides (suc zero) (suc (suc j)) g h =
      (λ t. row (before_true c f.a h.0 t) (before_true c f.b g.0 t) (beyond_false c f.c g.1 t)) ∙ back Z Y ∙ ap (test Y) (crossing_turned c f.c f.a)
  by_sides (suc (suc i)) zero g h =
      (λ t. row (beyond_false c f.a g.1 t) (before_true c f.b h.0 t) (before_true c f.c g.0 t)) ∙ back X Z ∙ ap (test Z) (crossing_turned c f.a f.b)
  by_sides (suc (suc i)) (suc zero) g h =
      (λ t. row (beyond_false c f.a g.1 t) (beyond_false c f.b h.1 t) (before_true c f.c g.0 t)) ∙ ap (test Z) (crossing_turned c f.b f.c)
  by_sides (suc (suc i)) (suc (suc j)) g h = absurd (clash c f.c h.1 g.0)

  pub border_row : (p q : Point) → IsBorderOf c f p q → of_border test c f.a f.b f.c ≡ test (sight_of (toward_of c) p) (sight_of (toward_of c) q)
  border_row p q h = by_sides h.first h.second h.goes h.returns ∙ sym (λ t. test (sight_of (toward_of c) (h.from t)) (sight_of (toward_of c) (h.to t)))

  -- where there is no border nothing passes
  pub no_border_row : ¬ IsCrossed c f → of_border test c f.a f.b f.c ≡ false
  no_border_row none = by (side_of_corner c f.a) (side_of_corner c f.b) (side_of_corner c f.c)
    where
      by : IsBeyond c (point_of f.a) ⊎ IsBeforePlane c (point_of f.a) → IsBeyond c (point_of f.b) ⊎ IsBeforePlane c (point_of f.b) → IsBeyond c (point_of f.c) ⊎ IsBeforePlane c (point_of f.c)
          → of_border test c f.a f.b f.c ≡ false
      by (inl p) (inl q) (inl r) = λ t. row (beyond_false c f.a p t) (beyond_false c f.b q t) (beyond_false c f.c r t)
      by (inr p) (inr q) (inr r) = λ t. row (before_true c f.a p t) (before_true c f.b q t) (before_true c f.c r t)
      by (inl p) (inr q) r = absurd (none record { before = inr (inl q); beyond = inl p })
      by (inr p) (inl q) r = absurd (none record { before = inl p; beyond = inr (inl q) })
      by (inl p) (inl q) (inr r) = absurd (none record { before = inr (inr r); beyond = inl p })
      by (inr p) (inr q) (inl r) = absurd (none record { before = inl p; beyond = inr (inr r) })

-- by the triangle's numbers
pub ahead_at : (k : Side) (c : Plane) (s : Part) (o : Corner) (e : Edge s) (n m : ℤ) (f : Face s)
    → border_ahead k c s o e n m f.tri
    ≡ of_border (is_ahead k (sight_of (toward_of c) (point_of e.a)) (sight_of (toward_of c) (point_of e.b)) (sight_of (toward_of c) (share_point e.a e.b n m))) c f.a f.b f.c
ahead_at k c s o e n m f = λ t.
    of_border (is_ahead k (sight_of (toward_of c) (point_of e.a)) (sight_of (toward_of c) (point_of e.b)) (sight_of (toward_of c) (share_point e.a e.b n m))) c
    (get_or_from_slice_get s.corners f.tri.a f.a o f.at_a t) (get_or_from_slice_get s.corners f.tri.b f.b o f.at_b t) (get_or_from_slice_get s.corners f.tri.c f.c o f.at_c t)
