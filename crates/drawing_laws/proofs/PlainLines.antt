-- A plain view is sparse: only points on the lines of edges, of traces, and through corners and ends of traces are not ordinary.
use Rattle.std.proofs.Common.{◌≡◌, ◌⊎◌, inl, inr, ◌<◌, List, ◌++◌, Contains, unsigned_abs, sym, subst, arith}
use Rattle.std.specs.Prelude.{ℤ, pos}
use Rattle.std.proofs.lemmas.Int.{ints}
use Rattle.std.proofs.lemmas.List.Elements.{Contains-append_left, Contains-append_right}
use Rattle.lattice.specs.declared.points.Dir.{Dir}
use Rattle.lattice.specs.Cuts.{Plane}
use Rattle.lattice.specs.Triple.{Triple, det}
use Rattle.lattice.specs.Points.{Point, of_dir, point_of, OnOneSight}
use Rattle.geometry.specs.Faces.{difference}
use Rattle.geometry.specs.Parts.{Part}
use Rattle.geometry.specs.Traces.{TraceRuns, EdgeRuns, IsOrdinaryBeside}
use Rattle.drawing_laws.proofs.CornerViewLines.{part_lines, lines_of_corner, edge_held}
use Rattle.drawing_laws.proofs.LinesAlong.{IsHeldAlong, parallel_steps}
use Rattle.drawing_laws.proofs.LinesThrough.{off_place}
use Rattle.drawing_laws.proofs.Sparse.{ViewLine, IsBeside, IsSparse}
use Rattle.drawing_laws.proofs.TraceViewLines.{trace_lines, IsSeenEnd, trace_held, end_listed}

abbrev pub plain_lines : Triple → Part → List Plane → List ViewLine
plain_lines d s cuts = part_lines d s ++ trace_lines d s cuts

module _ (d : Triple) (s : Part) (cuts : List Plane) where
  abbrev lines : List ViewLine
  lines = plain_lines d s cuts

  of_part : (l : ViewLine) → Contains (part_lines d s) l → Contains lines l
  of_part l there = Contains-append_left (part_lines d s) (trace_lines d s cuts) l there

  of_traces : (l : ViewLine) → Contains (trace_lines d s cuts) l → Contains lines l
  of_traces l there = Contains-append_right (part_lines d s) (trace_lines d s cuts) l there

  edge_or_trace : (p : Point) (way : Triple) → EdgeRuns d s p way ⊎ TraceRuns d s cuts p way → IsHeldAlong d lines p way
  edge_or_trace p way (inl (e, seen, is)) = subst (IsHeldAlong d lines p) (sym is) (edge_held d s lines of_part e p seen)
  edge_or_trace p way (inr runs) = trace_held d s cuts lines of_traces p way runs

  pub plain_ordinary : (a b p : Point) → ¬ OnOneSight d a b → IsBeside d lines a b p → IsOrdinaryBeside d s cuts p
  plain_ordinary a b p apart beside = record {
    ordinary = record {
      off_corners = λ k here. off_place d lines a b p apart beside (point_of k) (omega arith) (lines_of_corner d s lines of_part k here);
      off_crossings = λ e f seen_e seen_f. parallel (difference e.a e.b) (difference f.a f.b) (edge_held d s lines of_part e p seen_e) (edge_held d s lines of_part f p seen_f);
    };
    off_ends = λ q is same. let end = end_listed d s cuts lines of_traces p q is same in off_end end end.same;
    off_traces = λ way other runs others. parallel way other (trace_held d s cuts lines of_traces p way runs) (edge_or_trace p other others);
  }
    where
      parallel : (s t : Triple) → IsHeldAlong d lines p s → IsHeldAlong d lines p t → det d s t ≡ pos 0
      parallel = parallel_steps d lines a b p apart beside

      some : (w : ℤ) → w ≡ pos 1 → 0 < unsigned_abs w
      some w e = omega (arith, ints)

      off_end : (end : IsSeenEnd d lines p) → ¬ OnOneSight d end.place p
      off_end end = off_place d lines a b p apart beside end.place (some end.place.w end.whole) end.listed

pub plain_sparse : (d : Dir) (s : Part) (cuts : List Plane) → (lines : List ViewLine) × IsSparse (of_dir d) (IsOrdinaryBeside (of_dir d) s cuts) lines
plain_sparse d s cuts = (plain_lines (of_dir d) s cuts, λ a b p at_a at_b at_p apart beside. plain_ordinary (of_dir d) s cuts a b p apart beside)
