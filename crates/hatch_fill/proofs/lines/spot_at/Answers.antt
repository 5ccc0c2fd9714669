use Rattle.std.proofs.Common.{◌≡◌, ◌<◌, ◌≤◌, ◌*◌, ◌^◌, ◌∙◌, arith, to_z, of_z}
use Rattle.std.specs.Prelude.{ℤ, pos, ◌-ℤ◌, ◌*ℤ◌, ◌<ℤ◌, unsigned_abs}
use Rattle.std.specs.Int.{w128}
use Rattle.std.proofs.lemmas.Int.{ints}
use Rattle.lattice.specs.Triple.{Triple, IsWithin}
use Rattle.lattice.specs.Cuts.{Plane, plane_of, plane_height}
use Rattle.hatch_fill.specs.declared.places.HatchPlace.{HatchPlace}
use Rattle.hatch_fill.specs.inner.Lines.{triple_seen, point_over}
use Rattle.hatch_fill.proofs.lines.spot_at.Goals as goal

-- a doubled number that passed through the machine's
twice : (r n m : ℤ) → r ≡ pos 2 *ℤ to_z w128 (of_z w128 n) → unsigned_abs n ≤ 2 ^ 21 * unsigned_abs m → unsigned_abs m < 2 ^ 69 → to_z w128 (of_z w128 r) ≡ pos 2 *ℤ n
twice r n m e near short = omega (arith, ints, near, short)

twice_short : (r m : ℤ) → r ≡ pos 2 *ℤ to_z w128 (of_z w128 m) → unsigned_abs m < 2 ^ 69 → to_z w128 (of_z w128 r) ≡ pos 2 *ℤ m
twice_short r m e short = omega (arith, ints, short)

once : (r m : ℤ) → unsigned_abs r ≤ 2 ^ 22 * unsigned_abs m → unsigned_abs m < 2 ^ 69 → to_z w128 (of_z w128 r) ≡ r
once r m near short = omega (arith, ints, near, short)

twice_near : (n m : ℤ) → unsigned_abs n ≤ 2 ^ 21 * unsigned_abs m → unsigned_abs (pos 2 *ℤ n) ≤ 2 ^ 22 * unsigned_abs m
twice_near n m near = omega (arith, ints, near)

small : (n m : ℤ) → unsigned_abs n ≤ 2 ^ 22 * unsigned_abs m → unsigned_abs m < 2 ^ 69 → unsigned_abs n ≤ 2 ^ 92
small n m near short = omega (arith, ints, near, short)

below : (n m : ℤ) → unsigned_abs n ≤ 2 ^ 22 * unsigned_abs m → unsigned_abs m < 2 ^ 69 → unsigned_abs n < 2 ^ 92
below n m near short = omega (arith, ints, near, short)

near_doubled : (n m : ℤ) → unsigned_abs n ≤ 2 ^ 22 * unsigned_abs m → unsigned_abs n ≤ 2 ^ 21 * unsigned_abs (pos 2 *ℤ m)
near_doubled n m near = omega (arith, ints, near)

doubled_positive : (m : ℤ) → pos 0 <ℤ m → pos 0 <ℤ (pos 2 *ℤ m)
doubled_positive m h = omega (arith, ints)

doubled_short : (m : ℤ) → unsigned_abs m < 2 ^ 69 → unsigned_abs (pos 2 *ℤ m) < 2 ^ 70
doubled_short m h = omega (arith, ints)

-- the place, its doubled U, its V and that doubled, and the height
module _ (t : HatchPlace) (u v v' h : ℤ) (is_u : u ≡ pos 2 *ℤ to_z w128 (of_z w128 t.across.num)) (near_v : unsigned_abs v ≤ 2 ^ 21 * unsigned_abs t.across.den) (is_v : v' ≡ pos 2 *ℤ to_z w128 (of_z w128 v))
    (near_h : unsigned_abs h ≤ 2 ^ 22 * unsigned_abs t.across.den) where
  across_is : to_z w128 (of_z w128 u) ≡ pos 2 *ℤ t.across.num
  across_is = twice u t.across.num t.across.den is_u t.across_near t.short

  upward_is : to_z w128 (of_z w128 v') ≡ pos 2 *ℤ v
  upward_is = twice v' v t.across.den is_v near_v t.short

  height_is : to_z w128 (of_z w128 h) ≡ h
  height_is = once h t.across.den near_h t.short

  abbrev three : Triple
  three = record { x = to_z w128 (of_z w128 u); y = to_z w128 (of_z w128 v'); z = to_z w128 (of_z w128 h) }

  three_near : IsWithin (2 ^ 22 * unsigned_abs t.across.den) three
  three_near = record {
    x = rw across_is (twice_near t.across.num t.across.den t.across_near);
    y = rw upward_is (twice_near v t.across.den near_v);
    z = rw height_is near_h;
  }

  three_small : IsWithin (2 ^ 92) three
  three_small = record { x = small three.x t.across.den three_near.x t.short; y = small three.y t.across.den three_near.y t.short; z = small three.z t.across.den three_near.z t.short }

same_height : (r h m : ℤ) → unsigned_abs m < 2 ^ 69 → r ≡ h *ℤ to_z w128 (of_z w128 m) → r ≡ h *ℤ m
same_height r h m short e = e ∙ (λ i. h *ℤ narrow m short i)
  where
    narrow : (m : ℤ) → unsigned_abs m < 2 ^ 69 → to_z w128 (of_z w128 m) ≡ m
    narrow m short = omega (arith, ints, short)

near_height : (r m : ℤ) → unsigned_abs m < 2 ^ 69 → unsigned_abs r ≤ 2 ^ 22 * unsigned_abs (to_z w128 (of_z w128 m)) → unsigned_abs r ≤ 2 ^ 22 * unsigned_abs m
near_height r m short h = omega (arith, ints, short, h)

-- a coordinate of the spot
coordinate_below : (x m : ℤ) → unsigned_abs x ≤ 2 ^ 22 * unsigned_abs m → unsigned_abs m < 2 ^ 69 → unsigned_abs (to_z w128 (of_z w128 x)) < 2 ^ 92
coordinate_below x m near short = rw (once x m near short) (below x m near short)

coordinate_near : (x w m : ℤ) → unsigned_abs x ≤ 2 ^ 22 * unsigned_abs m → unsigned_abs m < 2 ^ 69 → w ≡ pos 2 *ℤ to_z w128 (of_z w128 m) → unsigned_abs (to_z w128 (of_z w128 x)) ≤ 2 ^ 21 * unsigned_abs (to_z w128 (of_z w128 w))
coordinate_near x w m near short e = rw (once x m near short) (rw (twice_short w m e short) (near_doubled x m near))

pub in_space-x-requires : goal.in_space-x-requires
in_space-x-requires c =
    let t = c.args.place.now in
    three_small t c.doubled.result c.upward.result c.doubled-2.result c.height.result c.doubled.ensures c.upward.ensures.near c.doubled-2.ensures (near_height c.height.result t.across.den t.short c.height.ensures.near)

pub invariant_of-result-clause-positive : goal.invariant_of-result-clause-positive
invariant_of-result-clause-positive c =
    let t = c.args.place.now in
    rw (twice_short c.doubled-3.result t.across.den c.doubled-3.ensures t.short) (doubled_positive t.across.den t.across.positive)

pub invariant_of-result-clause-w_in_range : goal.invariant_of-result-clause-w_in_range
invariant_of-result-clause-w_in_range c =
    let t = c.args.place.now in
    rw (twice_short c.doubled-3.result t.across.den c.doubled-3.ensures t.short) (doubled_short t.across.den t.short)

pub invariant_of-result-clause-x_in_range : goal.invariant_of-result-clause-x_in_range
invariant_of-result-clause-x_in_range c =
    let t = c.args.place.now in
    let near = c.in_space-x.ensures.size (2 ^ 22 * unsigned_abs t.across.den) (three_near t c.doubled.result c.upward.result c.doubled-2.result c.height.result c.doubled.ensures c.upward.ensures.near c.doubled-2.ensures (near_height c.height.result t.across.den t.short c.height.ensures.near)) in
    coordinate_below c.in_space-x.result.x t.across.den near.x t.short

pub invariant_of-result-clause-x_near : goal.invariant_of-result-clause-x_near
invariant_of-result-clause-x_near c =
    let t = c.args.place.now in
    let near = c.in_space-x.ensures.size (2 ^ 22 * unsigned_abs t.across.den) (three_near t c.doubled.result c.upward.result c.doubled-2.result c.height.result c.doubled.ensures c.upward.ensures.near c.doubled-2.ensures (near_height c.height.result t.across.den t.short c.height.ensures.near)) in
    coordinate_near c.in_space-x.result.x c.doubled-3.result t.across.den near.x t.short c.doubled-3.ensures

pub invariant_of-result-clause-y_in_range : goal.invariant_of-result-clause-y_in_range
invariant_of-result-clause-y_in_range c =
    let t = c.args.place.now in
    let near = c.in_space-x.ensures.size (2 ^ 22 * unsigned_abs t.across.den) (three_near t c.doubled.result c.upward.result c.doubled-2.result c.height.result c.doubled.ensures c.upward.ensures.near c.doubled-2.ensures (near_height c.height.result t.across.den t.short c.height.ensures.near)) in
    coordinate_below c.in_space-x.result.y t.across.den near.y t.short

pub invariant_of-result-clause-y_near : goal.invariant_of-result-clause-y_near
invariant_of-result-clause-y_near c =
    let t = c.args.place.now in
    let near = c.in_space-x.ensures.size (2 ^ 22 * unsigned_abs t.across.den) (three_near t c.doubled.result c.upward.result c.doubled-2.result c.height.result c.doubled.ensures c.upward.ensures.near c.doubled-2.ensures (near_height c.height.result t.across.den t.short c.height.ensures.near)) in
    coordinate_near c.in_space-x.result.y c.doubled-3.result t.across.den near.y t.short c.doubled-3.ensures

pub invariant_of-result-clause-z_in_range : goal.invariant_of-result-clause-z_in_range
invariant_of-result-clause-z_in_range c =
    let t = c.args.place.now in
    let near = c.in_space-x.ensures.size (2 ^ 22 * unsigned_abs t.across.den) (three_near t c.doubled.result c.upward.result c.doubled-2.result c.height.result c.doubled.ensures c.upward.ensures.near c.doubled-2.ensures (near_height c.height.result t.across.den t.short c.height.ensures.near)) in
    coordinate_below c.in_space-x.result.z t.across.den near.z t.short

pub invariant_of-result-clause-z_near : goal.invariant_of-result-clause-z_near
invariant_of-result-clause-z_near c =
    let t = c.args.place.now in
    let near = c.in_space-x.ensures.size (2 ^ 22 * unsigned_abs t.across.den) (three_near t c.doubled.result c.upward.result c.doubled-2.result c.height.result c.doubled.ensures c.upward.ensures.near c.doubled-2.ensures (near_height c.height.result t.across.den t.short c.height.ensures.near)) in
    coordinate_near c.in_space-x.result.z c.doubled-3.result t.across.den near.z t.short c.doubled-3.ensures

-- the point by its coordinates
point_is : (c : Plane) (t : HatchPlace) (x y z w u v v' h : ℤ)
    → x ≡ (triple_seen c u v' h).x → y ≡ (triple_seen c u v' h).y → z ≡ (triple_seen c u v' h).z → u ≡ pos 2 *ℤ t.across.num → v' ≡ pos 2 *ℤ v → v ≡ t.across.num -ℤ (t.diagonal *ℤ t.across.den)
    → h ≡ plane_height c *ℤ t.across.den → w ≡ pos 2 *ℤ t.across.den
    → record { x = x; y = y; z = z; w = w } ≡ point_over (triple_seen c (pos 2 *ℤ t.across.num) (pos 2 *ℤ (t.across.num -ℤ (t.diagonal *ℤ t.across.den))) (plane_height c *ℤ t.across.den)) (pos 2 *ℤ t.across.den)
point_is c t x y z w u v v' h ex ey ez eu ev ev' eh ew =
    (λ i. record { x = ex i; y = ey i; z = ez i; w = ew i })
    ∙ (λ i. point_over (triple_seen c (eu i) (ev i) (eh i)) (pos 2 *ℤ t.across.den))
    ∙ (λ i. point_over (triple_seen c (pos 2 *ℤ t.across.num) (pos 2 *ℤ ev' i) (plane_height c *ℤ t.across.den)) (pos 2 *ℤ t.across.den))

pub returns : goal.returns
returns c =
    let t = c.args.place.now in
    let near_h = near_height c.height.result t.across.den t.short c.height.ensures.near in
    let near = c.in_space-x.ensures.size (2 ^ 22 * unsigned_abs t.across.den) (three_near t c.doubled.result c.upward.result c.doubled-2.result c.height.result c.doubled.ensures c.upward.ensures.near c.doubled-2.ensures near_h) in
    let e = c.in_space-x.ensures in
    let s = c.in_space-x.result in
    point_is (plane_of c.args.cut.now) t _ _ _ _ (to_z w128 (of_z w128 c.doubled.result)) c.upward.result (to_z w128 (of_z w128 c.doubled-2.result)) (to_z w128 (of_z w128 c.height.result))
    (once s.x t.across.den near.x t.short ∙ e.x) (once s.y t.across.den near.y t.short ∙ e.y) (once s.z t.across.den near.z t.short ∙ e.z)
    (twice c.doubled.result t.across.num t.across.den c.doubled.ensures t.across_near t.short) (twice c.doubled-2.result c.upward.result t.across.den c.doubled-2.ensures c.upward.ensures.near t.short) c.upward.ensures.value
    (once c.height.result t.across.den near_h t.short ∙ same_height c.height.result (plane_height (plane_of c.args.cut.now)) t.across.den t.short c.height.ensures.value)
    (twice_short c.doubled-3.result t.across.den c.doubled-3.ensures t.short)
