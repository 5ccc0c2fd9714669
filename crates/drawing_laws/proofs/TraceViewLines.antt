-- The lines of traces and of their ends in a plain view, by the numbers that are on them.
use Rattle.std.proofs.Common.{◌≡◌, ◌≢◌, ◌⊎◌, inl, inr, List, [], ◌∷◌, ◌++◌, Contains, flat_map, refl, sym, subst, ◌∙◌, arith}
use Rattle.std.specs.Prelude.{ℤ, pos, ◌*ℤ◌}
use Rattle.std.proofs.lemmas.Int.{ints}
use Rattle.std.proofs.lemmas.List.Elements.{Contains-append_left, Contains-append_right}
use Rattle.integers.proofs.Comparisons.{same_of_both}
use Rattle.lattice.specs.declared.points.Axis.{Axis}
use Rattle.lattice.specs.declared.points.Axis.TheVariants.{X, Y, Z}
use Rattle.lattice.specs.declared.points.Corner.{Corner}
use Rattle.lattice.specs.Cuts.{Plane, unit_of}
use Rattle.lattice.specs.Triple.{Triple}
use Rattle.lattice.specs.Points.{Point, point_of, OnOneSight}
use Rattle.geometry.specs.Parts.{Part}
use Rattle.lattice.specs.Axes.{coordinate_of, third_of}
use Rattle.geometry.specs.Traces.{IsAmongCorners, IsOnTrace, IsOutermost, IsTraceEnd, TraceRuns}
use Rattle.geometry.proofs.Sights.{sight_on}
use Rattle.geometry.proofs.TracePoints.{one_of_others, third_aside, sight_of_coordinates}
use Rattle.drawing_laws.proofs.LinesAlong.{line_along, on_line_along, on_line_of_sight, IsHeldAlong}
use Rattle.drawing_laws.proofs.LinesListed.{Contains-flat_map, Contains-first, Contains-second, Contains-third}
use Rattle.drawing_laws.proofs.LinesThrough.{lines_through}
use Rattle.drawing_laws.proofs.Sparse.{ViewLine}
use Rattle.geometry.proofs.TraceStepLines.{trace_number, on_trace}

-- ---- the line of a trace
abbrev trace_line : Triple → Plane → Axis → ViewLine
trace_line d c sight = line_along d (unit_of (third_of c.axis sight)) (trace_number d c.axis sight c.at)

-- ---- the ends of a trace
-- the corner, moved along an axis to the place `at`
abbrev moved : Axis → ℤ → Corner → Point
moved X at k = record { x = at; y = k.y; z = k.z; w = pos 1 }
moved Y at k = record { x = k.x; y = at; z = k.z; w = pos 1 }
moved Z at k = record { x = k.x; y = k.y; z = at; w = pos 1 }

moved_there : (axis : Axis) (at : ℤ) (k : Corner) → coordinate_of axis (moved axis at k) ≡ at
moved_there X at k = refl
moved_there Y at k = refl
moved_there Z at k = refl

moved_whole : (axis : Axis) (at : ℤ) (k : Corner) → (moved axis at k).w ≡ pos 1
moved_whole X at k = refl
moved_whole Y at k = refl
moved_whole Z at k = refl

not_moved : (axis : Axis) (at : ℤ) (k : Corner) (other : Axis) → other ≢ axis → coordinate_of other (moved axis at k) ≡ coordinate_of other (point_of k)
not_moved X at k X n = absurd (n refl)
not_moved X at k Y n = refl
not_moved X at k Z n = refl
not_moved Y at k X n = refl
not_moved Y at k Y n = absurd (n refl)
not_moved Y at k Z n = refl
not_moved Z at k X n = refl
not_moved Z at k Y n = refl
not_moved Z at k Z n = absurd (n refl)

-- a corner is as far along the axis as an outermost point that is among the corners
at_corner : (s : Part) (axis : Axis) (p : Point) → IsAmongCorners s axis p → IsOutermost s axis p
    → (k : Corner) × Contains s.corners k × (coordinate_of axis (point_of k) *ℤ p.w ≡ coordinate_of axis p)
at_corner s axis p among (inl least) = let (k, here, at) = among.least in (k, here, same_of_both _ _ at (least k here))
at_corner s axis p among (inr most) = let (k, here, at) = among.most in (k, here, same_of_both _ _ (most k here) at)

-- the end of a trace is seen where that corner is, once it is moved into the plane
end_seen : (d : Triple) (s : Part) (c : Plane) (sight : Axis) (q : Point) → IsOnTrace d s c sight q → IsOutermost s (third_of c.axis sight) q
    → (k : Corner) × Contains s.corners k × OnOneSight d (moved c.axis c.at k) q
end_seen d s c sight q on outermost =
    let (k, here, at) = at_corner s (third_of c.axis sight) q on.within_run outermost in
    (k, here, sight_of_coordinates d sight on.has.along (moved c.axis c.at k) q (agree k at))
  where
    Agree : Corner → Axis → Type 0
    Agree k x = coordinate_of x (moved c.axis c.at k) *ℤ q.w ≡ coordinate_of x q *ℤ (moved c.axis c.at k).w

    whole : (k : Corner) (u v : ℤ) → u *ℤ q.w ≡ v → u *ℤ q.w ≡ v *ℤ (moved c.axis c.at k).w
    whole k u v e = e ∙ one v ∙ (λ t. v *ℤ sym (moved_whole c.axis c.at k) t)
      where
        one : (v : ℤ) → v ≡ v *ℤ pos 1
        one v = omega (arith, ints)

    agree : (k : Corner) → coordinate_of (third_of c.axis sight) (point_of k) *ℤ q.w ≡ coordinate_of (third_of c.axis sight) q → (x : Axis) → x ≢ sight → Agree k x
    agree k at x n = by (one_of_others c.axis sight x on.has.other n)
      where
        by : (x ≡ c.axis) ⊎ (x ≡ third_of c.axis sight) → Agree k x
        by (inl e) = subst (Agree k) (sym e) (whole k _ _ ((λ t. moved_there c.axis c.at k t *ℤ q.w) ∙ sym on.place))
        by (inr e) = subst (Agree k) (sym e) (whole k _ _ ((λ t. not_moved c.axis c.at k (third_of c.axis sight) (third_aside c.axis sight on.has.other) t *ℤ q.w) ∙ at))

-- ---- the lines of all traces, and of all their ends
abbrev lines_of_cut : Triple → Plane → List ViewLine
lines_of_cut d c = trace_line d c X ∷ trace_line d c Y ∷ trace_line d c Z ∷ []

abbrev run_lines : Triple → List Plane → List ViewLine
run_lines d cuts = flat_map (λ c. lines_of_cut d c) cuts

abbrev ends_of_cut : Triple → Part → Plane → List ViewLine
ends_of_cut d s c = flat_map (λ k. lines_through d (moved c.axis c.at k)) s.corners

abbrev end_lines : Triple → Part → List Plane → List ViewLine
end_lines d s cuts = flat_map (λ c. ends_of_cut d s c) cuts

abbrev pub trace_lines : Triple → Part → List Plane → List ViewLine
trace_lines d s cuts = run_lines d cuts ++ end_lines d s cuts

-- the place of an end of a trace that is seen at p
pub record IsSeenEnd (d : Triple) (lines : List ViewLine) (p : Point) : Type 0 where
  pub place : Point
  pub whole : place.w ≡ pos 1
  pub listed : (l : ViewLine) → Contains (lines_through d place) l → Contains lines l
  pub same : OnOneSight d place p

module _ (d : Triple) (s : Part) (cuts : List Plane) (lines : List ViewLine) (within : (l : ViewLine) → Contains (trace_lines d s cuts) l → Contains lines l) where
  line_of_trace : (c : Plane) → Contains cuts c → (sight : Axis) → Contains lines (trace_line d c sight)
  line_of_trace c here sight =
      within (trace_line d c sight) (Contains-append_left (run_lines d cuts) (end_lines d s cuts) (trace_line d c sight)
      (Contains-flat_map (λ c. lines_of_cut d c) cuts c (trace_line d c sight) here (by sight)))
    where
      by : (sight : Axis) → Contains (lines_of_cut d c) (trace_line d c sight)
      by X = Contains-first (trace_line d c X) (trace_line d c Y ∷ trace_line d c Z ∷ [])
      by Y = Contains-second (trace_line d c X) (trace_line d c Y) (trace_line d c Z ∷ [])
      by Z = Contains-third (trace_line d c X) (trace_line d c Y) (trace_line d c Z) []

  -- the line of a trace that is seen over p holds p
  pub trace_held : (p : Point) (way : Triple) → TraceRuns d s cuts p way → IsHeldAlong d lines p way
  trace_held p way (c, here, (sight, (q, on, same), is)) = subst (IsHeldAlong d lines p) (sym is) (record {
    number = trace_number d c.axis sight c.at;
    listed = line_of_trace c here sight;
    on = on_line_of_sight d (trace_line d c sight) q p on.there same
        (on_line_along d (unit_of (third_of c.axis sight)) (trace_number d c.axis sight c.at) q (on_trace d c.at q c.axis sight on.has.other on.has.along on.place));
  })

  pub end_listed : (p q : Point) → IsTraceEnd d s cuts q → OnOneSight d q p → IsSeenEnd d lines p
  end_listed p q (c, here, (sight, on, outermost)) same =
      let (k, corner, seen) = end_seen d s c sight q on outermost in
      record {
        place = moved c.axis c.at k;
        whole = moved_whole c.axis c.at k;
        listed = λ l there.
            within l (Contains-append_right (run_lines d cuts) (end_lines d s cuts) l
            (Contains-flat_map (λ c. ends_of_cut d s c) cuts c l here (Contains-flat_map (λ k. lines_through d (moved c.axis c.at k)) s.corners k l corner there)));
        same = sight_on d (moved c.axis c.at k) q p on.there seen same;
      }
