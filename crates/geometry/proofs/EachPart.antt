-- For each part, closed or not, the points of a view that aren't ordinary are at corners, ends and crossings, on finitely many lines of sight.
use Rattle.std.proofs.Common.{◌≡◌, ◌⊎◌, inl, inr, ℕ, ◌+◌, ◌*◌, List, length}
use Rattle.std.specs.Prelude.{ℤ, pos}
use Rattle.lattice.specs.declared.points.Corner.{Corner}
use Rattle.lattice.specs.Cuts.{Plane, toward_of}
use Rattle.lattice.specs.Points.{Point}
use Rattle.lattice.specs.Triple.{Triple, det}
use Rattle.geometry.specs.Cuts.{EdgeOrBorder, step_of, IsSeenOverInCut, IsOrdinaryInCut}
use Rattle.geometry.specs.Exceptions.{
  IsAtCorner,
  IsAtCrossing,
  IsAtTraceEnd,
  IsAtTraceCrossing,
  IsAtBorderEnd,
  IsAtCrossingInCut,
  HasEdges,
  IsOrdinaryInPlain,
  IsOrdinaryWithTraces,
  IsOrdinaryWithBorders,
}
use Rattle.geometry.specs.Faces.{difference}
use Rattle.geometry.specs.Parts.{Part, Edge}
use Rattle.geometry.specs.Traces.{TraceRuns, EdgeRuns, IsOrdinaryBeside}
use Rattle.geometry.specs.Views.{AreParallel, IsSeenOver, IsOrdinary}
use Rattle.geometry.proofs.CutViews.{ordinary_in_cut_except_at}
use Rattle.geometry.proofs.EdgesListed.{edges_listed}
use Rattle.geometry.proofs.Marks.{same_or_not}
use Rattle.geometry.proofs.PlainViews.{ordinary_except_at}
use Rattle.geometry.proofs.TraceViews.{ordinary_beside_except_at}

-- a number that can't be other than 0 is 0
none_else : (n : ℤ) → ¬ ¬ (n ≡ pos 0) → n ≡ pos 0
none_else n not = by (same_or_not n (pos 0))
  where
    by : (n ≡ pos 0) ⊎ ¬ (n ≡ pos 0) → n ≡ pos 0
    by (inl is) = is
    by (inr other) = absurd (not other)

plain_elsewhere : (d : Triple) (s : Part) (p : Point) → ¬ IsAtCorner d s p → ¬ IsAtCrossing d s p → IsOrdinary d s p
plain_elsewhere d s p corner crossing = record {
  off_corners = λ k here same. corner (k, here, same);
  off_crossings = λ e f over_e over_f. none_else (det d (difference e.a e.b) (difference f.a f.b)) (λ apart. crossing (e, f, over_e, over_f, apart));
}

pub has_edges : HasEdges
has_edges s = edges_listed s

pub few_in_plain : IsOrdinaryInPlain
few_in_plain d s halves edges = record {
  named = λ p not. plain_elsewhere d s p (λ at. not (inl at)) (λ at. not (inr at));
  few = ordinary_except_at d s halves edges;
}

pub few_with_traces : IsOrdinaryWithTraces
few_with_traces d s cuts halves edges = record {
  named = λ p not. record {
    ordinary = plain_elsewhere d s p (λ at. not (inl at)) (λ at. not (inr (inl at)));
    off_ends = λ q end same. not (inr (inr (inl (q, end, same))));
    off_traces = λ way other runs runs_too. none_else (det d way other) (λ apart. not (inr (inr (inr (way, other, runs, runs_too, apart)))));
  };
  few = ordinary_beside_except_at d s cuts halves edges;
}

pub few_with_borders : IsOrdinaryWithBorders
few_with_borders c s halves edges = record {
  named = λ p not. record {
    off_corners = λ k here same. not (inl (k, here, same));
    off_ends = λ e q on_edge on_plane same. not (inr (inl (e, q, on_edge, on_plane, same)));
    off_crossings = λ x y over_x over_y. none_else (det (toward_of c) (step_of c x) (step_of c y)) (λ apart. not (inr (inr (x, y, over_x, over_y, apart))));
  };
  few = ordinary_in_cut_except_at c s halves edges;
}
