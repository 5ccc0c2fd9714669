use Rattle.std.proofs.Common.{◌≡◌, ◌<◌, ◌^◌, ◌⊎◌, inl, inr, Bool, true, false, sym, subst, arith, to_z, of_z}
use Rattle.std.specs.Prelude.{ℤ, pos, ◌<ℤ◌, unsigned_abs, int_lt, MatchBool}
use Rattle.std.specs.Int.{w64}
use Rattle.std.proofs.lemmas.Int.{ints}
use Rattle.lattice.specs.declared.points.Corner.{Corner}
use Rattle.lattice.specs.Points.{point_of}
use Rattle.lattice.specs.Cuts.{Plane, plane_of, IsBeyond, IsBeforePlane}
use Rattle.geometry.specs.Cuts.{over_of}
use Rattle.geometry.proofs.Borders.{over_beyond, over_before, side_of_corner}
use Rattle.cut_plane.proofs.segments.is_before.Goals as goal

above : (r z : ℤ) → unsigned_abs r < 2 ^ 23 → r ≡ z → pos 0 <ℤ z → int_lt (pos 0) (to_z w64 (of_z w64 r)) ≡ true
above r z h e k = grind (arith, ints)

below : (r z : ℤ) → unsigned_abs r < 2 ^ 23 → r ≡ z → z <ℤ pos 0 → int_lt (pos 0) (to_z w64 (of_z w64 r)) ≡ false
below r z h e k = grind (arith, ints)

-- the sign of the height tells the side
tells : (c : Plane) (k : Corner) (r : ℤ) → unsigned_abs r < 2 ^ 23 → r ≡ over_of c k → MatchBool (int_lt (pos 0) (to_z w64 (of_z w64 r))) (IsBeforePlane c (point_of k)) (IsBeyond c (point_of k))
tells c k r h e = by (side_of_corner c k)
  where
    P : Bool → Type 0
    P b = MatchBool b (IsBeforePlane c (point_of k)) (IsBeyond c (point_of k))

    by : IsBeyond c (point_of k) ⊎ IsBeforePlane c (point_of k) → P (int_lt (pos 0) (to_z w64 (of_z w64 r)))
    by (inl beyond) = subst P (sym (below r (over_of c k) h e (over_beyond c k beyond))) beyond
    by (inr before) = subst P (sym (above r (over_of c k) h e (over_before c k before))) before

pub returns : goal.returns
returns c = tells (plane_of c.args.cut.now) c.args.k.now c.over.result c.over.ensures.size c.over.ensures.value
