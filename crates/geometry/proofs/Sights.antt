-- Being on one line of sight is an equivalence of points, and what is ordinary stays so along one.
use Rattle.std.proofs.Common.{sym}
use Rattle.integers.proofs.Orders.{same_through}
use Rattle.lattice.specs.Triple.{Triple}
use Rattle.lattice.specs.Points.{Point, IsPoint, point_of, OnOneSight, across_of, upward_of}
use Rattle.geometry.specs.Parts.{Part, Edge}
use Rattle.geometry.specs.Views.{IsOrdinary, IsSeenOver}

module _ (d : Triple) where
  pub sight_back : (p q : Point) → OnOneSight d p q → OnOneSight d q p
  sight_back p q h = record { across = sym h.across; upward = sym h.upward }

  pub sight_on : (p q r : Point) → IsPoint q → OnOneSight d p q → OnOneSight d q r → OnOneSight d p r
  sight_on p q r positive h k = record {
    across = same_through (across_of d p) (across_of d q) (across_of d r) p.w q.w r.w positive h.across k.across;
    upward = same_through (upward_of d p) (upward_of d q) (upward_of d r) p.w q.w r.w positive h.upward k.upward;
  }

  pub ordinary_along : (s : Part) (p q : Point) → IsPoint q → OnOneSight d q p → IsOrdinary d s p → IsOrdinary d s q
  ordinary_along s p q positive h ordinary = record {
    off_corners = λ c there k. ordinary.off_corners c there (sight_on (point_of c) q p positive k h);
    off_crossings = λ e f over_e over_f. ordinary.off_crossings e f (along e over_e) (along f over_f);
  }
    where
      along : (e : Edge s) → IsSeenOver d e q → IsSeenOver d e p
      along e (r, on_edge, k) = (r, on_edge, sight_on r q p positive k h)
