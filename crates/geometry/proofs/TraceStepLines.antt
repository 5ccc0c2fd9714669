-- The lines of traces in a view, one for each cut: a view is along one axis at most, and that axis tells along which a trace runs.
use Rattle.std.proofs.Common.{◌≡◌, ◌≢◌, zero, suc, List, [], ◌∷◌, Contains, length, flat_map, ◌*◌, ◌≤◌, refl, sym, subst, arith}
use Rattle.std.specs.Prelude.{ℤ, pos, negsuc, ◌-ℤ◌, ◌*ℤ◌}
use Rattle.integers.proofs.Ring.{Expr, var, con, ◌⊕◌, ◌⊖◌, ◌⊗◌, ring, by_two}
use Rattle.lattice.specs.declared.points.Axis.{Axis}
use Rattle.lattice.specs.declared.points.Axis.TheVariants.{X, Y, Z}
use Rattle.lattice.specs.Cuts.{Plane, unit_of}
use Rattle.lattice.specs.Points.{Point, scaled}
use Rattle.lattice.specs.Triple.{Triple, det}
use Rattle.lattice.proofs.Vectors.{Letters, letters, dots, crosses}
use Rattle.geometry.specs.Parts.{Part}
use Rattle.lattice.specs.Axes.{coordinate_of, third_of, IsAlong}
use Rattle.geometry.specs.Traces.{TraceRuns}
use Rattle.geometry.proofs.Crossings.{StepLine}
use Rattle.geometry.proofs.Lists.{Contains-first, Contains-flat_map, length-flat_map-few}
use Rattle.geometry.proofs.Marks.{IsHeld}

-- ---- the axis of a view
abbrev first_nonzero : ℤ → ℤ → Axis
first_nonzero (pos zero) (pos zero) = Z
first_nonzero (pos zero) (pos (suc n)) = Y
first_nonzero (pos zero) (negsuc n) = Y
first_nonzero (pos (suc n)) y = X
first_nonzero (negsuc n) y = X

-- the axis that the direction is along, if it is along one
abbrev pub sight_of : Triple → Axis
sight_of d = first_nonzero d.x d.y

pub sight_is : (d : Triple) (sight : Axis) → IsAlong sight d → sight ≡ sight_of d
sight_is d X along = at_x d.x d.y along.there
  where
    at_x : (x y : ℤ) → x ≢ pos 0 → X ≡ first_nonzero x y
    at_x (pos zero) y h = absurd (h refl)
    at_x (pos (suc n)) y h = refl
    at_x (negsuc n) y h = refl
sight_is d Y along = subst (λ (x : ℤ). Y ≡ first_nonzero x d.y) (sym (along.alone X (λ e. cc))) (at_y d.y along.there)
  where
    at_y : (y : ℤ) → y ≢ pos 0 → Y ≡ first_nonzero (pos 0) y
    at_y (pos zero) h = absurd (h refl)
    at_y (pos (suc n)) h = refl
    at_y (negsuc n) h = refl
sight_is d Z along = λ i. first_nonzero (sym (along.alone X (λ e. cc)) i) (sym (along.alone Y (λ e. cc)) i)

-- ---- the line of a trace
abbrev pub trace_number : Triple → Axis → Axis → ℤ → ℤ
trace_number d axis sight at = pos 2 *ℤ (det d (unit_of (third_of axis sight)) (unit_of axis) *ℤ at)

abbrev pub trace_line : Triple → Plane → Axis → StepLine
trace_line d c sight = record { step = unit_of (third_of c.axis sight); number = trace_number d c.axis sight c.at }

-- the same, as expressions over the values d.x, d.y, d.z, p.x, p.y, p.z, p.w and the place on the cut's axis
abbrev units : Axis → Letters
units X = record { x = con (pos 1); y = con (pos 0); z = con (pos 0) }
units Y = record { x = con (pos 0); y = con (pos 1); z = con (pos 0) }
units Z = record { x = con (pos 0); y = con (pos 0); z = con (pos 1) }

abbrev gap : Letters → Letters → Expr
gap run axis = (con (pos 2) ⊗ dots (letters 0) (crosses run (letters 3))) ⊖ ((con (pos 2) ⊗ (dots (letters 0) (crosses run axis) ⊗ var 7)) ⊗ var 6)

-- the two facts that make it so, each with its multiplier: the direction has no part along the cut's axis, and the point is at the cut's place there
abbrev parts : ℤ → Expr → Expr → Expr → Expr → Expr
parts k d_axis p_axis d_sight p_sight = ((d_axis ⊖ con (pos 0)) ⊗ (con k ⊗ p_sight)) ⊕ ((p_axis ⊖ (var 7 ⊗ var 6)) ⊗ ((con (pos 0) ⊖ con k) ⊗ d_sight))

module _ (d : Triple) (at : ℤ) (p : Point) where
  abbrev values : List ℤ
  values = d.x ∷ d.y ∷ d.z ∷ p.x ∷ p.y ∷ p.z ∷ p.w ∷ at ∷ []

  pub on_trace : (axis sight : Axis) → sight ≢ axis → IsAlong sight d → coordinate_of axis p ≡ at *ℤ p.w
      → pos 2 *ℤ det d (unit_of (third_of axis sight)) (scaled p) ≡ trace_number d axis sight at *ℤ p.w
  on_trace X X n along e = absurd (n refl)
  on_trace X Y n along e =
      by_two _ _ d.x (pos 0) (negsuc 1 *ℤ p.y) p.x (at *ℤ p.w) ((pos 0 -ℤ negsuc 1) *ℤ d.y)
      (ring values (gap (units Z) (units X)) (parts (negsuc 1) (var 0) (var 3) (var 1) (var 4)) refl) (along.alone X (λ h. n (sym h))) e
  on_trace X Z n along e =
      by_two _ _ d.x (pos 0) (pos 2 *ℤ p.z) p.x (at *ℤ p.w) ((pos 0 -ℤ pos 2) *ℤ d.z)
      (ring values (gap (units Y) (units X)) (parts (pos 2) (var 0) (var 3) (var 2) (var 5)) refl) (along.alone X (λ h. n (sym h))) e
  on_trace Y X n along e =
      by_two _ _ d.y (pos 0) (pos 2 *ℤ p.x) p.y (at *ℤ p.w) ((pos 0 -ℤ pos 2) *ℤ d.x)
      (ring values (gap (units Z) (units Y)) (parts (pos 2) (var 1) (var 4) (var 0) (var 3)) refl) (along.alone Y (λ h. n (sym h))) e
  on_trace Y Y n along e = absurd (n refl)
  on_trace Y Z n along e =
      by_two _ _ d.y (pos 0) (negsuc 1 *ℤ p.z) p.y (at *ℤ p.w) ((pos 0 -ℤ negsuc 1) *ℤ d.z)
      (ring values (gap (units X) (units Y)) (parts (negsuc 1) (var 1) (var 4) (var 2) (var 5)) refl) (along.alone Y (λ h. n (sym h))) e
  on_trace Z X n along e =
      by_two _ _ d.z (pos 0) (negsuc 1 *ℤ p.x) p.z (at *ℤ p.w) ((pos 0 -ℤ negsuc 1) *ℤ d.x)
      (ring values (gap (units Y) (units Z)) (parts (negsuc 1) (var 2) (var 5) (var 0) (var 3)) refl) (along.alone Z (λ h. n (sym h))) e
  on_trace Z Y n along e =
      by_two _ _ d.z (pos 0) (pos 2 *ℤ p.y) p.z (at *ℤ p.w) ((pos 0 -ℤ pos 2) *ℤ d.y)
      (ring values (gap (units X) (units Z)) (parts (pos 2) (var 2) (var 5) (var 1) (var 4)) refl) (along.alone Z (λ h. n (sym h))) e
  on_trace Z Z n along e = absurd (n refl)

-- ---- one for each cut
abbrev line_of_cut : Triple → Plane → List StepLine
line_of_cut d c = trace_line d c (sight_of d) ∷ []

abbrev pub trace_lines : Triple → List Plane → List StepLine
trace_lines d cuts = flat_map (line_of_cut d) cuts

pub trace_lines-few : (d : Triple) (cuts : List Plane) → length (trace_lines d cuts) ≤ 1 * length cuts
trace_lines-few d cuts = length-flat_map-few (line_of_cut d) 1 (λ c. omega arith) cuts

module _ (d : Triple) (s : Part) (cuts : List Plane) (lines : List StepLine) (within : (l : StepLine) → Contains (trace_lines d cuts) l → Contains lines l) where
  line_of_trace : (c : Plane) → Contains cuts c → (sight : Axis) → IsAlong sight d → Contains lines (trace_line d c sight)
  line_of_trace c here sight along =
      subst (λ (x : Axis). Contains lines (trace_line d c x)) (sym (sight_is d sight along))
      (within (trace_line d c (sight_of d)) (Contains-flat_map (line_of_cut d) cuts c (trace_line d c (sight_of d)) here (Contains-first (trace_line d c (sight_of d)) [])))

  pub trace_held : (p : Point) (way : Triple) → TraceRuns d s cuts p way → IsHeld d lines p way
  trace_held p way (c, here, (sight, (q, on, same), is)) = subst (IsHeld d lines p) (sym is) (record {
    line = trace_line d c sight;
    listed = line_of_trace c here sight on.has.along;
    seen = (q, on.there, on_trace d c.at q c.axis sight on.has.other on.has.along on.place, same);
    along = λ t none. none;
  })
