-- Where the ends of what the plane leaves of the way between two corners are seen, by the heights and the turns of the corners.
use Rattle.std.proofs.Common.{◌≡◌, Bool, true, false, sym, ◌∙◌, cond, unsigned_abs}
use Rattle.std.specs.Prelude.{ℤ, pos, ◌+ℤ◌, ◌*ℤ◌}
use Rattle.std.specs.Int.Signed.{lt_z}
use Rattle.lattice.specs.declared.points.Corner.{Corner}
use Rattle.lattice.specs.Points.{point_of}
use Rattle.lattice.specs.Cuts.{Plane, toward_of}
use Rattle.geometry.specs.Cuts.{over_of, crossing_of}
use Rattle.hiding_laws.specs.Values.{side_of}
use Rattle.hiding_laws.proofs.CornerValues.{side_at}
use Rattle.geometry.specs.Counts.{orientation_of}
use Rattle.cut_count_laws.specs.CutEnds.{cut_end}
use Rattle.cut_count_laws.proofs.PartMarks.{side-sum}
use Rattle.cut_count.specs.declared.placed.Placed.{Placed}
use Rattle.cut_count.specs.inner.Rests.{end_turn}

pub end_by : (c : Plane) (a b k l : Corner) (over_k turn_k over_l turn_l : ℤ) → over_k ≡ over_of c k → over_l ≡ over_of c l
    → turn_k ≡ orientation_of (toward_of c) a b k → turn_l ≡ orientation_of (toward_of c) a b l
    → side_of (toward_of c) a b (cut_end c k l) ≡ cond (lt_z over_k (pos 0)) turn_k ((pos (unsigned_abs over_l) *ℤ turn_k) +ℤ (pos (unsigned_abs over_k) *ℤ turn_l))
end_by c a b k l over_k turn_k over_l turn_l is_over_k is_over_l is_turn_k is_turn_l =
    by (lt_z (over_of c k) (pos 0))
    ∙ sym (λ i. cond (lt_z (is_over_k i) (pos 0)) (is_turn_k i) ((pos (unsigned_abs (is_over_l i)) *ℤ is_turn_k i) +ℤ (pos (unsigned_abs (is_over_k i)) *ℤ is_turn_l i)))
  where
    turn : Corner → ℤ
    turn p = orientation_of (toward_of c) a b p

    by : (left : Bool) → side_of (toward_of c) a b (cond left (point_of k) (crossing_of c k l))
        ≡ cond left (turn k) ((pos (unsigned_abs (over_of c l)) *ℤ turn k) +ℤ (pos (unsigned_abs (over_of c k)) *ℤ turn l))
    by true = sym (side_at (toward_of c) a b k)
    by false =
        side-sum (toward_of c) a b k l (unsigned_abs (over_of c l)) (unsigned_abs (over_of c k))
        ∙ sym (λ i. (pos (unsigned_abs (over_of c l)) *ℤ side_at (toward_of c) a b k i) +ℤ (pos (unsigned_abs (over_of c k)) *ℤ side_at (toward_of c) a b l i))

pub end_seen : (c : Plane) (a b k l : Corner) (x y : Placed) → x.over ≡ over_of c k → y.over ≡ over_of c l
    → x.turn ≡ orientation_of (toward_of c) a b k → y.turn ≡ orientation_of (toward_of c) a b l
    → side_of (toward_of c) a b (cut_end c k l) ≡ end_turn x y
end_seen c a b k l x y over_k over_l turn_k turn_l = end_by c a b k l x.over x.turn y.over y.turn over_k over_l turn_k turn_l
