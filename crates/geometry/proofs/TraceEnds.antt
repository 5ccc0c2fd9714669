-- The ends of traces in a view: each trace has one at the least place of a corner along it, and one at the greatest.
use Rattle.std.proofs.Common.{◌≡◌, ◌≢◌, ◌⊎◌, inl, inr, ℕ, zero, suc, ◌+◌, ◌*◌, ◌≤◌, List, [], ◌∷◌, ◌++◌, All, Contains, length, flat_map, refl, sym, subst, ◌∙◌, arith}
use Rattle.std.specs.Prelude.{ℤ, pos, ◌+ℤ◌, ◌-ℤ◌, ◌*ℤ◌, ◌<ℤ◌, ◌≤ℤ◌}
use Rattle.std.proofs.lemmas.Int.{ints, by_lt_z}
use Rattle.std.proofs.lemmas.List.{length-append}
use Rattle.std.proofs.lemmas.List.Elements.{All-cons, All-nil, Contains-append_left, Contains-append_right}
use Rattle.integers.proofs.Comparisons.{at_most_by, at_most_itself, at_most_of_less, gap_of_at_most, not_negative_of_positive, times_one}
use Rattle.integers.proofs.Lists.{Contains-later}
use Rattle.integers.proofs.Ring.{var, ◌⊖◌, ◌⊗◌, ring}
use Rattle.integers.proofs.Signs.{mul_nonneg}
use Rattle.lattice.specs.declared.points.Axis.{Axis}
use Rattle.lattice.specs.declared.points.Axis.TheVariants.{X, Y, Z}
use Rattle.lattice.specs.declared.points.Corner.{Corner}
use Rattle.lattice.specs.Cuts.{Plane, unit_of}
use Rattle.lattice.specs.Points.{Point, IsPoint, point_of, OnOneSight}
use Rattle.lattice.specs.Triple.{Triple}
use Rattle.geometry.specs.Parts.{Part}
use Rattle.lattice.specs.Axes.{component_of, coordinate_of, third_of}
use Rattle.geometry.specs.Traces.{IsAmongCorners, IsOnTrace, IsOutermost, IsTraceEnd}
use Rattle.geometry.proofs.Sights.{sight_on}
use Rattle.geometry.proofs.TracePoints.{one_of_others, third_aside, unit_here, unit_elsewhere, sight_of_coordinates}
use Rattle.geometry.specs.Exceptions.{IsInSightOfOne}
use Rattle.geometry.proofs.TraceStepLines.{sight_of, sight_is}
use Rattle.geometry.proofs.Lists.{Contains-first, Contains-flat_map, All-flat_map, length-flat_map-few}

-- ---- corners of the least value
record IsLeast (value : Corner → ℤ) (corners : List Corner) (k : Corner) : Type 0 where
  here : Contains corners k
  least : (l : Corner) → Contains corners l → value k ≤ℤ value l

least_of : (value : Corner → ℤ) (k : Corner) (ks : List Corner) → (m : Corner) × IsLeast value (k ∷ ks) m
least_of value k [] = (k, record { here = Contains-first k []; least = only })
  where
    only : (l : Corner) → Contains (k ∷ []) l → value k ≤ℤ value l
    only l (zero, within, is) = subst (λ (n : Corner). value k ≤ℤ value n) is (at_most_itself (value k))
    only l (suc i, within, is) = absurd (omega arith)
least_of value k (l ∷ ks) = by (least_of value l ks)
  where
    by : (m : Corner) × IsLeast value (l ∷ ks) m → (m : Corner) × IsLeast value (k ∷ l ∷ ks) m
    by (m, is_least) =
        by_lt_z (value k) (value m)
        (λ h. (k, record { here = Contains-first k (l ∷ ks); least = first (at_most_of_less (value k) (value m) h) }))
        (λ h. (m, record { here = Contains-later k (l ∷ ks) m is_least.here; least = later h }))
      where
        first : value k ≤ℤ value m → (n : Corner) → Contains (k ∷ l ∷ ks) n → value k ≤ℤ value n
        first h n (zero, within, is) = subst (λ (o : Corner). value k ≤ℤ value o) is (at_most_itself (value k))
        first h n (suc i, within, is) = through (value k) (value m) (value n) h (is_least.least n (i, omega arith, is))
          where
            through : (a b c : ℤ) → a ≤ℤ b → b ≤ℤ c → a ≤ℤ c
            through a b c h g = omega (arith, ints)

        later : value m ≤ℤ value k → (n : Corner) → Contains (k ∷ l ∷ ks) n → value m ≤ℤ value n
        later h n (zero, within, is) = subst (λ (o : Corner). value m ≤ℤ value o) is h
        later h n (suc i, within, is) = is_least.least n (i, omega arith, is)

-- one of them, where there are any
abbrev extreme : (Corner → ℤ) → List Corner → List Corner
extreme value [] = []
extreme value (k ∷ ks) = (least_of value k ks).0 ∷ []

extreme-few : (value : Corner → ℤ) (corners : List Corner) → length (extreme value corners) ≤ 1
extreme-few value [] = omega arith
extreme-few value (k ∷ ks) = omega arith

extreme-least : (value : Corner → ℤ) (corners : List Corner) (k : Corner) → Contains corners k → (m : Corner) × Contains (extreme value corners) m × IsLeast value corners m
extreme-least value [] k (i, within, is) = absurd (omega arith)
extreme-least value (l ∷ ls) k here = let (m, least) = least_of value l ls in (m, Contains-first m [], least)

-- ---- where an end is
-- at one place on an axis, at another along another one, and at 0 on the third
abbrev placed : Axis → ℤ → Axis → ℤ → Point
placed axis at run along = record {
  x = (at *ℤ (unit_of axis).x) +ℤ (along *ℤ (unit_of run).x);
  y = (at *ℤ (unit_of axis).y) +ℤ (along *ℤ (unit_of run).y);
  z = (at *ℤ (unit_of axis).z) +ℤ (along *ℤ (unit_of run).z);
  w = pos 1;
}

placed_at : (x axis : Axis) (at : ℤ) (run : Axis) (along : ℤ) → coordinate_of x (placed axis at run along) ≡ (at *ℤ component_of x (unit_of axis)) +ℤ (along *ℤ component_of x (unit_of run))
placed_at X axis at run along = refl
placed_at Y axis at run along = refl
placed_at Z axis at run along = refl

placed_on_axis : (axis : Axis) (at : ℤ) (run : Axis) (along : ℤ) → run ≢ axis → coordinate_of axis (placed axis at run along) ≡ at
placed_on_axis axis at run along other =
    placed_at axis axis at run along ∙ (λ i. (at *ℤ unit_here axis i) +ℤ (along *ℤ unit_elsewhere axis run (λ e. other (sym e)) i)) ∙ alone at along
  where
    alone : (a b : ℤ) → (a *ℤ pos 1) +ℤ (b *ℤ pos 0) ≡ a
    alone a b = omega (arith, ints)

placed_on_run : (axis : Axis) (at : ℤ) (run : Axis) (along : ℤ) → run ≢ axis → coordinate_of run (placed axis at run along) ≡ along
placed_on_run axis at run along other =
    placed_at run axis at run along ∙ (λ i. (at *ℤ unit_elsewhere run axis other i) +ℤ (along *ℤ unit_here run i)) ∙ alone at along
  where
    alone : (a b : ℤ) → (a *ℤ pos 0) +ℤ (b *ℤ pos 1) ≡ b
    alone a b = omega (arith, ints)

-- ---- an end is at an extreme corner
scaled_at_most : (a b w : ℤ) → a ≤ℤ b → pos 0 <ℤ w → (a *ℤ w) ≤ℤ (b *ℤ w)
scaled_at_most a b w h positive =
    at_most_by (a *ℤ w) (b *ℤ w) ((b -ℤ a) *ℤ w) (ring (a ∷ b ∷ w ∷ []) ((var 1 ⊗ var 2) ⊖ (var 0 ⊗ var 2)) ((var 1 ⊖ var 0) ⊗ var 2) refl)
    (mul_nonneg (b -ℤ a) w (gap_of_at_most a b h) (not_negative_of_positive w positive))

module _ (s : Part) (run : Axis) where
  abbrev there : Corner → ℤ
  there k = coordinate_of run (point_of k)

  abbrev back : Corner → ℤ
  back k = pos 0 -ℤ there k

  abbrev end_corners : List Corner
  end_corners = extreme there s.corners ++ extreme back s.corners

  end_corners-few : length end_corners ≤ 2
  end_corners-few = sum _ _ _ (length-append (extreme there s.corners) (extreme back s.corners)) (extreme-few there s.corners) (extreme-few back s.corners)
    where
      sum : (l a b : ℕ) → l ≡ a + b → a ≤ 1 → b ≤ 1 → l ≤ 2
      sum l a b e h g = omega arith

  -- one of these corners is as far along the axis as q
  record IsAtEnd (q : Point) : Type 0 where
    corner : Corner
    listed : Contains end_corners corner
    same : there corner *ℤ q.w ≡ coordinate_of run q

  between : (a b c : ℤ) → a ≤ℤ b → b ≤ℤ c → c ≤ℤ a → a ≡ c
  between a b c h g f = omega (arith, ints)

  turned : (a b : ℤ) → (pos 0 -ℤ b) ≤ℤ (pos 0 -ℤ a) → a ≤ℤ b
  turned a b h = omega (arith, ints)

  outermost_at : (q : Point) → IsPoint q → IsAmongCorners s run q → IsOutermost s run q → IsAtEnd q
  outermost_at q positive among (inl first) =
      let (k, here, at) = among.least in
      let (m, listed, is_least) = extreme-least there s.corners k here in
      record {
        corner = m;
        listed = Contains-append_left (extreme there s.corners) (extreme back s.corners) m listed;
        same = between (there m *ℤ q.w) (there k *ℤ q.w) (coordinate_of run q) (scaled_at_most (there m) (there k) q.w (is_least.least k here) positive) at (first m is_least.here);
      }
  outermost_at q positive among (inr last) =
      let (k, here, at) = among.most in
      let (m, listed, is_least) = extreme-least back s.corners k here in
      record {
        corner = m;
        listed = Contains-append_right (extreme there s.corners) (extreme back s.corners) m listed;
        same = sym (between (coordinate_of run q) (there k *ℤ q.w) (there m *ℤ q.w) at (scaled_at_most (there k) (there m) q.w (turned (there k) (there m) (is_least.least k here)) positive) (last m is_least.here));
      }

-- ---- the places of the ends
abbrev place_at : Axis → Plane → Corner → Point
place_at run c k = placed c.axis c.at run (coordinate_of run (point_of k))

abbrev mark_at : Axis → Plane → Corner → List Point
mark_at run c k = place_at run c k ∷ []

abbrev ends_of_cut : Axis → Part → Plane → List Point
ends_of_cut sight s c = flat_map (mark_at (third_of c.axis sight) c) (end_corners s (third_of c.axis sight))

ends_of_cut-few : (sight : Axis) (s : Part) (c : Plane) → length (ends_of_cut sight s c) ≤ 2
ends_of_cut-few sight s c =
    let run = third_of c.axis sight in
    most _ _ (length-flat_map-few (mark_at run c) 1 (λ k. omega arith) (end_corners s run)) (end_corners-few s run)
  where
    most : (l n : ℕ) → l ≤ 1 * n → n ≤ 2 → l ≤ 2
    most l n h g = omega arith

ends_of_cut-points : (sight : Axis) (s : Part) (c : Plane) → All IsPoint (ends_of_cut sight s c)
ends_of_cut-points sight s c =
    let run = third_of c.axis sight in
    All-flat_map (mark_at run c) IsPoint (λ k. All-cons IsPoint (place_at run c k) [] (omega (arith, ints)) (All-nil IsPoint)) (end_corners s run)

-- an end of a trace is on the line of sight of its corner's place
module _ (d : Triple) (s : Part) (c : Plane) (sight : Axis) (q : Point) (on : IsOnTrace d s c sight q) where
  abbrev run : Axis
  run = third_of c.axis sight

  at_end : (end : IsAtEnd s run q) → OnOneSight d (place_at run c end.corner) q
  at_end end = sight_of_coordinates d sight on.has.along (place_at run c end.corner) q (λ x n. by x (one_of_others c.axis sight x on.has.other n))
    where
      aside : third_of c.axis sight ≢ c.axis
      aside = third_aside c.axis sight on.has.other

      Agree : Axis → Type 0
      Agree x = coordinate_of x (place_at run c end.corner) *ℤ q.w ≡ coordinate_of x q *ℤ pos 1

      by : (x : Axis) → (x ≡ c.axis) ⊎ (x ≡ third_of c.axis sight) → Agree x
      by x (inl e) =
          subst Agree (sym e)
          ((λ i. placed_on_axis c.axis c.at run (coordinate_of run (point_of end.corner)) aside i *ℤ q.w) ∙ sym on.place ∙ times_one (coordinate_of c.axis q))
      by x (inr e) =
          subst Agree (sym e)
          ((λ i. placed_on_run c.axis c.at run (coordinate_of run (point_of end.corner)) aside i *ℤ q.w) ∙ end.same ∙ times_one (coordinate_of run q))

  end_in_sight : IsOutermost s run q → IsInSightOfOne d (ends_of_cut sight s c) q
  end_in_sight outermost =
      let end = outermost_at s run q on.there on.within_run outermost in (
        place_at run c end.corner,
        Contains-flat_map (mark_at run c) (end_corners s run) end.corner (place_at run c end.corner) end.listed (Contains-first (place_at run c end.corner) []),
        at_end end,
      )

-- ---- the ends of all traces
pub trace_end_marks : Triple → Part → List Plane → List Point
trace_end_marks d s cuts = flat_map (ends_of_cut (sight_of d) s) cuts

pub trace_end_marks-few : (d : Triple) (s : Part) (cuts : List Plane) → length (trace_end_marks d s cuts) ≤ 2 * length cuts
unfolding trace_end_marks
trace_end_marks-few d s cuts = length-flat_map-few (ends_of_cut (sight_of d) s) 2 (ends_of_cut-few (sight_of d) s) cuts

pub trace_end_marks-points : (d : Triple) (s : Part) (cuts : List Plane) → All IsPoint (trace_end_marks d s cuts)
unfolding trace_end_marks
trace_end_marks-points d s cuts = All-flat_map (ends_of_cut (sight_of d) s) IsPoint (ends_of_cut-points (sight_of d) s) cuts

module _ (d : Triple) (s : Part) (cuts : List Plane) (marks : List Point) (within : (q : Point) → Contains (trace_end_marks d s cuts) q → Contains marks q)
    (p : Point) (off : ¬ IsInSightOfOne d marks p) where
  pub off_trace_end : (q : Point) → IsTraceEnd d s cuts q → ¬ OnOneSight d q p
  unfolding trace_end_marks
  off_trace_end q (c, here, (sight, on, outermost)) same =
      let (r, listed, seen) = subst (λ (x : Axis). IsInSightOfOne d (ends_of_cut x s c) q) (sight_is d sight on.has.along) (end_in_sight d s c sight q on outermost) in
      off (r, within r (Contains-flat_map (ends_of_cut (sight_of d) s) cuts c r here listed), sight_on d r q p on.there seen same)
