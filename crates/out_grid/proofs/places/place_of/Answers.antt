use Rattle.std.proofs.Common.{rules, ◌≡◌, ◌≤◌, ◌<◌, ◌^◌, ◌*◌, ◌/◌, ℕ, ℤ, pos, ◌-ℤ◌, ◌≤ℤ◌, unsigned_abs, refl, sym, subst, ap, ◌∙◌, w64, FitsSigned, to_z, of_z}
use Rattle.std.specs.Int.{w128}
use Rattle.std.proofs.lemmas.Int.{to_z-of_z}
use Rattle.lattice.specs.declared.points.Corner.{Corner}
use Rattle.lattice.specs.Points.{Point, of_dir, of_spot, point_of, across_of, upward_of}
use Rattle.geometry.proofs.Listed.{same_element}
use Rattle.out_grid.specs.inner.Places.{raster_of, IsAt}
use Rattle.out_grid.proofs.Rasters.{place_from, place_inside}
use Rattle.out_grid.proofs.places.place_of.Goals as goal

small : (x : ℤ) → unsigned_abs x ≤ 2 ^ 30 → FitsSigned w128 x
small x h = search rules

in_order : (left num value : ℤ) → left ≤ℤ value → num ≡ value → FitsSigned w64 left → FitsSigned w128 num → to_z w64 (of_z w64 left) ≤ℤ to_z w128 (of_z w128 num)
in_order left num value h e f g =
    subst (λ (z : ℤ). z ≤ℤ to_z w128 (of_z w128 num)) (sym (to_z-of_z w64 left f)) (subst (λ (z : ℤ). left ≤ℤ z) (sym (to_z-of_z w128 num g ∙ e)) h)

difference : (n : ℕ) (left num value : ℤ) → pos n ≡ to_z w128 (of_z w128 num) -ℤ to_z w64 (of_z w64 left) → num ≡ value → FitsSigned w64 left → FitsSigned w128 num → pos n ≡ value -ℤ left
difference n left num value d e f g = d ∙ (λ i. to_z-of_z w128 num g i -ℤ to_z-of_z w64 left f i) ∙ ap (λ (z : ℤ). z -ℤ left) e

-- the product of the corner is at most 2 ^ 30, as its last coordinate is 1
near : (n : ℕ) (p : Point) (c : Corner) → p ≡ point_of c → n ≤ 2 ^ 30 * unsigned_abs p.w → n ≤ 2 ^ 30
near n p c e h = subst (λ (q : Point). n ≤ 2 ^ 30 * unsigned_abs q.w) e h

pub distance-requires-clause-order : goal.distance-requires-clause-order
distance-requires-clause-order c =
    let d = of_dir c.args.d.now in
    let corner = c.corner.result in
    let from = place_from d c.args.solid.now.corners.items c.args.columns (raster_of c.args.raster.now) c.requires.raster c.args.corner corner c.corner.ensures in
    let fits : FitsSigned w64 c.args.raster.now.left = search rules in
    in_order c.args.raster.now.left c.across.result.num (across_of d (point_of corner)) from.0 (c.across.ensures.ratio.num ∙ ap (across_of d) c.at-p.ensures) fits
    (small c.across.result.num (near (unsigned_abs c.across.result.num) (of_spot c.at-p.result) corner c.at-p.ensures c.across.ensures.near))

pub distance-requires-2-clause-order : goal.distance-requires-2-clause-order
distance-requires-2-clause-order c =
    let d = of_dir c.args.d.now in
    let corner = c.corner.result in
    let from = place_from d c.args.solid.now.corners.items c.args.columns (raster_of c.args.raster.now) c.requires.raster c.args.corner corner c.corner.ensures in
    let fits : FitsSigned w64 c.args.raster.now.bottom = search rules in
    in_order c.args.raster.now.bottom c.upward.result.num (upward_of d (point_of corner)) from.1 (c.upward.ensures.ratio.num ∙ ap (upward_of d) c.at-p.ensures) fits
    (small c.upward.result.num (near (unsigned_abs c.upward.result.num) (of_spot c.at-p.result) corner c.at-p.ensures c.upward.ensures.near))

-- where the corner is
module _ (c : goal.After-result-1) where
  here : IsAt (of_dir c.args.d.now) (raster_of c.args.raster.now) c.corner.result c.distance.result c.distance-2.result
  here =
      let d = of_dir c.args.d.now in
      let corner = c.corner.result in
      let fits_left : FitsSigned w64 c.args.raster.now.left = search rules in
      let fits_bottom : FitsSigned w64 c.args.raster.now.bottom = search rules in
      record {
        across = difference c.distance.result c.args.raster.now.left c.across.result.num (across_of d (point_of corner)) c.distance.ensures.value (c.across.ensures.ratio.num ∙ ap (across_of d) c.at-p.ensures) fits_left
            (small c.across.result.num (near (unsigned_abs c.across.result.num) (of_spot c.at-p.result) corner c.at-p.ensures c.across.ensures.near));
        upward = difference c.distance-2.result c.args.raster.now.bottom c.upward.result.num (upward_of d (point_of corner)) c.distance-2.ensures.value (c.upward.ensures.ratio.num ∙ ap (upward_of d) c.at-p.ensures) fits_bottom
            (small c.upward.result.num (near (unsigned_abs c.upward.result.num) (of_spot c.at-p.result) corner c.at-p.ensures c.upward.ensures.near));
      }

  inside : (c.distance.result / c.args.raster.now.width < c.args.columns) × (c.distance-2.result / c.args.raster.now.height < c.args.columns)
  inside = place_inside (of_dir c.args.d.now) c.args.solid.now.corners.items c.args.columns (raster_of c.args.raster.now) c.requires.raster c.args.corner c.corner.result c.distance.result c.distance-2.result
      c.requires.some c.corner.ensures here

pub returns-clause-at : goal.returns-clause-at
returns-clause-at c corner at = subst (λ (k : Corner). IsAt (of_dir c.args.d.now) (raster_of c.args.raster.now) k c.distance.result c.distance-2.result) (same_element c.args.solid.now.corners.items c.args.corner c.args.corner c.corner.result corner refl c.corner.ensures at) (here c)

pub returns-clause-column : goal.returns-clause-column
returns-clause-column c = let h = inside c in h.0

pub returns-clause-row : goal.returns-clause-row
returns-clause-row c = let h = inside c in h.1
