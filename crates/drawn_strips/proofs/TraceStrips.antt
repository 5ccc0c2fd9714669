-- The strip of a trace: its ends, its line, and the points of the trace that lie on it.
use Rattle.std.proofs.Common.{◌≡◌, ◌≢◌, ◌⊎◌, inl, inr, ℕ, ◌+◌, ◌<◌, List, [], ◌∷◌, Contains, refl, sym, ap, subst, ◌∙◌, arith, unsigned_abs}
use Rattle.std.specs.Prelude.{ℤ, pos, ◌+ℤ◌, ◌-ℤ◌, ◌*ℤ◌, ◌<ℤ◌, ◌≤ℤ◌}
use Rattle.std.proofs.lemmas.Int.{ints, by_lt_z}
use Rattle.integers.proofs.Absolutes.{abs_of_not_negative, natural_not_negative}
use Rattle.integers.proofs.Comparisons.{gap_of_at_most, sum_not_negative}
use Rattle.integers.proofs.Ring.{var, con, ◌⊕◌, ◌⊖◌, ◌⊗◌, ring, by_two, by_three}
use Rattle.integers.proofs.Signs.{mul_nonneg, mul_pos}
use Rattle.integers.proofs.Weighted.{sum_pos}
use Rattle.lattice.specs.declared.points.Axis.{Axis}
use Rattle.lattice.specs.declared.points.Axis.TheVariants.{X, Y, Z}
use Rattle.lattice.specs.declared.points.Spot.{Spot}
use Rattle.lattice.specs.declared.pieces.Strip.{Strip}
use Rattle.lattice.specs.Cuts.{Plane, unit_of}
use Rattle.lattice.specs.Lines.{AreStripEnds}
use Rattle.lattice.specs.Points.{Point, point_of, of_spot, scaled, OnOneSight}
use Rattle.lattice.specs.Triple.{Triple, dot, right_axis, up_axis}
use Rattle.lattice.proofs.Vectors.{dots, letters}
use Rattle.geometry.specs.Parts.{Part}
use Rattle.geometry.specs.Pieces.{spot_sum}
use Rattle.lattice.specs.Axes.{component_of, coordinate_of, third_of}
use Rattle.geometry.specs.Traces.{IsOnTrace, IsTraceEnd, IsOrdinaryBeside}
use Rattle.geometry.proofs.Sights.{sight_on}
use Rattle.geometry.proofs.StepLines.{RunsAlong}
use Rattle.geometry.proofs.TracePoints.{same_or_other, one_of_others, third_other, unit_here, unit_elsewhere, sight_of_coordinates, coordinates_of_sight, among_sum}
use Rattle.line_merge.specs.Merging.{LiesOnStrip}
use Rattle.drawn_strips.specs.Traces.{IsTraceStrip}
use Rattle.drawn_strips.proofs.TraceMade.{once}

-- the coordinates of a sum of two spots
sum_at : (x : Axis) (a b : Spot) (i j : ℕ) → coordinate_of x (spot_sum a b i j) ≡ (pos i *ℤ coordinate_of x (of_spot a)) +ℤ (pos j *ℤ coordinate_of x (of_spot b))
sum_at X a b i j = refl
sum_at Y a b i j = refl
sum_at Z a b i j = refl

none_less : (v : ℤ) → v ≡ pos 1 → pos 0 ≤ℤ v
none_less v e = omega (arith, ints, e)

module _ (d : Triple) (s : Part) (c : Plane) (sight : Axis) (y : Strip) (is : IsTraceStrip d s c sight y) where
  abbrev run : Axis
  run = third_of c.axis sight

  abbrev start : Point
  start = of_spot y.a

  abbrev finish : Point
  finish = of_spot y.b

  abbrev low : ℤ
  low = coordinate_of run start

  abbrev high : ℤ
  high = coordinate_of run finish

  -- the two ends are apart along the axis
  pub goes_on : low <ℤ high
  goes_on =
      let (k, l, here, too, differ) = is.from.has.apart in
      by_lt_z low high (λ h. h) (λ h. absurd (differ (squeezed low high _ _ h (is.least k here) (is.most k here) (is.least l too) (is.most l too))))
    where
      squeezed : (m n a b : ℤ) → n ≤ℤ m → m ≤ℤ a → a ≤ℤ n → m ≤ℤ b → b ≤ℤ n → a ≡ b
      squeezed m n a b h e f g i = omega (arith, ints)

  -- the axis of the cut, that of the direction and the one along the trace
  at_place : coordinate_of c.axis start ≡ coordinate_of c.axis finish
  at_place = is.from.place ∙ ap (λ (v : ℤ). c.at *ℤ v) (is.whole ∙ sym is.whole_too) ∙ sym is.to.place

  apart : ¬ OnOneSight d start finish
  apart same =
      let e = coordinates_of_sight d sight is.from.has.along start finish same run (third_other c.axis sight is.from.has.other) in
      unequal low high y.a.w y.b.w goes_on is.whole is.whole_too e
    where
      unequal : (m n v w : ℤ) → m <ℤ n → v ≡ pos 1 → w ≡ pos 1 → m *ℤ w ≡ n *ℤ v → ⊥
      unequal m n v w h e f g = less m n h (sym (once m) ∙ ap (λ (t : ℤ). m *ℤ t) (sym f) ∙ g ∙ ap (λ (t : ℤ). n *ℤ t) e ∙ once n)
        where
          less : (m n : ℤ) → m <ℤ n → m ≡ n → ⊥
          less m n h e = omega (arith, ints)

  pub trace_ends : AreStripEnds d y.line y.a y.b
  trace_ends = record { first = is.first; second = is.second; apart = apart }

  -- ---- from the one end to the other it goes along the axis alone
  step_at : (x : Axis) → coordinate_of x finish -ℤ coordinate_of x start ≡ (high -ℤ low) *ℤ component_of x (unit_of run)
  step_at x = by (same_or_other x run) (same_or_other x sight)
    where
      along : (n : ℤ) → n ≡ n *ℤ pos 1
      along n = sym (once n)

      level : (a b n u : ℤ) → a ≡ b → u ≡ pos 0 → b -ℤ a ≡ n *ℤ u
      level a b n u e f = nothing a b e ∙ sym (ap (λ (t : ℤ). n *ℤ t) f ∙ times n)
        where
          nothing : (a b : ℤ) → a ≡ b → b -ℤ a ≡ pos 0
          nothing a b e = omega (arith, ints)

          times : (n : ℤ) → n *ℤ pos 0 ≡ pos 0
          times n = omega (arith, ints)

      other : x ≢ run → (x ≡ c.axis) ⊎ (x ≡ run) → coordinate_of x start ≡ coordinate_of x finish
      other n (inl e) = subst (λ (z : Axis). coordinate_of z start ≡ coordinate_of z finish) (sym e) at_place
      other n (inr e) = absurd (n e)

      by : (x ≡ run) ⊎ (x ≢ run) → (x ≡ sight) ⊎ (x ≢ sight) → coordinate_of x finish -ℤ coordinate_of x start ≡ (high -ℤ low) *ℤ component_of x (unit_of run)
      by (inl e) k = subst (λ (z : Axis). coordinate_of z finish -ℤ coordinate_of z start ≡ (high -ℤ low) *ℤ component_of z (unit_of run)) (sym e)
          (along (high -ℤ low) ∙ ap (λ (u : ℤ). (high -ℤ low) *ℤ u) (sym (unit_here run)))
      by (inr n) (inl e) = level _ _ (high -ℤ low) _ (subst (λ (z : Axis). coordinate_of z start ≡ coordinate_of z finish) (sym e) is.level) (unit_elsewhere x run n)
      by (inr n) (inr m) = level _ _ (high -ℤ low) _ (other n (one_of_others c.axis sight x is.from.has.other m)) (unit_elsewhere x run n)

  step_product : (r : Triple) → (dot r (scaled finish) *ℤ y.a.w) -ℤ (dot r (scaled start) *ℤ y.b.w) ≡ (high -ℤ low) *ℤ dot r (unit_of run)
  step_product r =
      (λ t. (dot r (scaled finish) *ℤ is.whole t) -ℤ (dot r (scaled start) *ℤ is.whole_too t))
      ∙ sums r (scaled start) (scaled finish) (unit_of run) (high -ℤ low) (step_at X) (step_at Y) (step_at Z)
    where
      sums : (r p q u : Triple) (n : ℤ) → q.x -ℤ p.x ≡ n *ℤ u.x → q.y -ℤ p.y ≡ n *ℤ u.y → q.z -ℤ p.z ≡ n *ℤ u.z → (dot r q *ℤ pos 1) -ℤ (dot r p *ℤ pos 1) ≡ n *ℤ dot r u
      sums r p q u n e f g =
          by_three _ _ (q.x -ℤ p.x) (n *ℤ u.x) r.x (q.y -ℤ p.y) (n *ℤ u.y) r.y (q.z -ℤ p.z) (n *ℤ u.z) r.z
          (ring (r.x ∷ r.y ∷ r.z ∷ p.x ∷ p.y ∷ p.z ∷ q.x ∷ q.y ∷ q.z ∷ u.x ∷ u.y ∷ u.z ∷ n ∷ [])
          (((dots (letters 0) (letters 6) ⊗ con (pos 1)) ⊖ (dots (letters 0) (letters 3) ⊗ con (pos 1))) ⊖ (var 12 ⊗ dots (letters 0) (letters 9)))
          (((((var 6 ⊖ var 3) ⊖ (var 12 ⊗ var 9)) ⊗ var 0) ⊕ (((var 7 ⊖ var 4) ⊖ (var 12 ⊗ var 10)) ⊗ var 1)) ⊕ (((var 8 ⊖ var 5) ⊖ (var 12 ⊗ var 11)) ⊗ var 2)) refl) e f g

  pub trace_runs : RunsAlong d y.line (unit_of run)
  trace_runs = record {
    from = start;
    to = finish;
    from_there = is.from.there;
    to_there = is.to.there;
    apart = apart;
    first = is.first;
    second = is.second;
    times = high -ℤ low;
    across = step_product (right_axis d);
    upward = step_product (up_axis d);
  }

  -- ---- an ordinary point is at neither end
  pub off_trace_ends : (cuts : List Plane) → Contains cuts c → (p : Point) → IsOrdinaryBeside d s cuts p → (¬ OnOneSight d start p) × (¬ OnOneSight d finish p)
  off_trace_ends cuts listed p ordinary = (ordinary.off_ends start first_end, ordinary.off_ends finish last_end)
    where
      first_end : IsTraceEnd d s cuts start
      first_end = (c, listed, (sight, is.from, inl (λ k here. subst (λ (v : ℤ). low ≤ℤ v) (sym (ap (λ (v : ℤ). coordinate_of run (point_of k) *ℤ v) is.whole ∙ once _)) (is.least k here))))

      last_end : IsTraceEnd d s cuts finish
      last_end = (c, listed, (sight, is.to, inr (λ k here. subst (λ (v : ℤ). v ≤ℤ high) (sym (ap (λ (v : ℤ). coordinate_of run (point_of k) *ℤ v) is.whole_too ∙ once _)) (is.most k here))))

  -- ---- what lies on the strip has a point of the trace on its line of sight
  pub point_of_trace : (p : Point) → LiesOnStrip d y p → (q : Point) × IsOnTrace d s c sight q × OnOneSight d q p
  point_of_trace p (i, j, some, same) = (spot_sum y.a y.b i j, on, same)
    where
      place : (a b v w m i j : ℤ) → a ≡ m *ℤ v → b ≡ m *ℤ w → (i *ℤ a) +ℤ (j *ℤ b) ≡ m *ℤ ((i *ℤ v) +ℤ (j *ℤ w))
      place a b v w m i j e f =
          by_two _ _ a (m *ℤ v) i b (m *ℤ w) j
          (ring (a ∷ b ∷ v ∷ w ∷ m ∷ i ∷ j ∷ [])
          (((var 5 ⊗ var 0) ⊕ (var 6 ⊗ var 1)) ⊖ (var 4 ⊗ ((var 5 ⊗ var 2) ⊕ (var 6 ⊗ var 3))))
          (((var 0 ⊖ (var 4 ⊗ var 2)) ⊗ var 5) ⊕ ((var 1 ⊖ (var 4 ⊗ var 3)) ⊗ var 6)) refl) e f

      on : IsOnTrace d s c sight (spot_sum y.a y.b i j)
      on = record {
        has = is.from.has;
        there = sum_pos y.a.w y.b.w i j is.from.there is.to.there some;
        place = sum_at c.axis y.a y.b i j ∙ place _ _ y.a.w y.b.w c.at (pos i) (pos j) is.from.place is.to.place;
        within = among_sum s sight start finish (spot_sum y.a y.b i j) (pos i) (pos j) is.from.within is.to.within (none_less y.a.w is.whole) (none_less y.b.w is.whole_too)
            (natural_not_negative i) (natural_not_negative j) (sum_at sight y.a y.b i j) refl;
        within_run = among_sum s run start finish (spot_sum y.a y.b i j) (pos i) (pos j) is.from.within_run is.to.within_run (none_less y.a.w is.whole) (none_less y.b.w is.whole_too)
            (natural_not_negative i) (natural_not_negative j) (sum_at run y.a y.b i j) refl;
      }

  -- ---- and a point of the trace is seen on the strip
  pub strip_of_trace : (p q : Point) → IsOnTrace d s c sight q → OnOneSight d q p → LiesOnStrip d y p
  strip_of_trace p q on same = (i, j, some, sight_on d (spot_sum y.a y.b i j) q p on.there meets same)
    where
      x : ℤ
      x = coordinate_of run q

      to_high : ℤ
      to_high = (high *ℤ q.w) -ℤ x

      from_low : ℤ
      from_low = x -ℤ (low *ℤ q.w)

      i : ℕ
      i = unsigned_abs to_high

      j : ℕ
      j = unsigned_abs from_low

      reached : (l k w v : ℤ) → l ≤ℤ k → (k *ℤ w) ≤ℤ v → pos 0 <ℤ w → pos 0 ≤ℤ (v -ℤ (l *ℤ w))
      reached l k w v h g positive =
          subst (λ (t : ℤ). pos 0 ≤ℤ t) (parts l k w v) (sum_not_negative (v -ℤ (k *ℤ w)) ((k -ℤ l) *ℤ w) (gap_of_at_most _ _ g) (mul_nonneg (k -ℤ l) w (gap_of_at_most _ _ h) (weak w positive)))
        where
          weak : (w : ℤ) → pos 0 <ℤ w → pos 0 ≤ℤ w
          weak w h = omega (arith, ints)

          parts : (l k w v : ℤ) → (v -ℤ (k *ℤ w)) +ℤ ((k -ℤ l) *ℤ w) ≡ v -ℤ (l *ℤ w)
          parts l k w v = ring (l ∷ k ∷ w ∷ v ∷ []) ((var 3 ⊖ (var 1 ⊗ var 2)) ⊕ ((var 1 ⊖ var 0) ⊗ var 2)) (var 3 ⊖ (var 0 ⊗ var 2)) refl

      passed : (m k w v : ℤ) → k ≤ℤ m → v ≤ℤ (k *ℤ w) → pos 0 <ℤ w → pos 0 ≤ℤ ((m *ℤ w) -ℤ v)
      passed m k w v h g positive =
          subst (λ (t : ℤ). pos 0 ≤ℤ t) (parts m k w v) (sum_not_negative ((k *ℤ w) -ℤ v) ((m -ℤ k) *ℤ w) (gap_of_at_most _ _ g) (mul_nonneg (m -ℤ k) w (gap_of_at_most _ _ h) (weak w positive)))
        where
          weak : (w : ℤ) → pos 0 <ℤ w → pos 0 ≤ℤ w
          weak w h = omega (arith, ints)

          parts : (m k w v : ℤ) → ((k *ℤ w) -ℤ v) +ℤ ((m -ℤ k) *ℤ w) ≡ (m *ℤ w) -ℤ v
          parts m k w v = ring (m ∷ k ∷ w ∷ v ∷ []) (((var 1 ⊗ var 2) ⊖ var 3) ⊕ ((var 0 ⊖ var 1) ⊗ var 2)) ((var 0 ⊗ var 2) ⊖ var 3) refl

      i_is : pos i ≡ to_high
      i_is = let (k, here, most) = on.within_run.most in abs_of_not_negative to_high (passed high _ q.w x (is.most k here) most on.there)

      j_is : pos j ≡ from_low
      j_is = let (k, here, least) = on.within_run.least in abs_of_not_negative from_low (reached low _ q.w x (is.least k here) least on.there)

      some : 0 < i + j
      some = counted i j (subst (λ (t : ℤ). pos 0 <ℤ t) (sym (whole low high q.w x) ∙ (λ t. sym i_is t +ℤ sym j_is t)) (mul_pos (high -ℤ low) q.w (less low high goes_on) on.there))
        where
          less : (m n : ℤ) → m <ℤ n → pos 0 <ℤ (n -ℤ m)
          less m n h = omega (arith, ints)

          whole : (l m w v : ℤ) → ((m *ℤ w) -ℤ v) +ℤ (v -ℤ (l *ℤ w)) ≡ (m -ℤ l) *ℤ w
          whole l m w v = ring (l ∷ m ∷ w ∷ v ∷ []) (((var 1 ⊗ var 2) ⊖ var 3) ⊕ (var 3 ⊖ (var 0 ⊗ var 2))) ((var 1 ⊖ var 0) ⊗ var 2) refl

          counted : (i j : ℕ) → pos 0 <ℤ (pos i +ℤ pos j) → 0 < i + j
          counted i j h = omega (arith, ints)

      weight : (pos i *ℤ y.a.w) +ℤ (pos j *ℤ y.b.w) ≡ to_high +ℤ from_low
      weight = (λ t. (i_is t *ℤ is.whole t) +ℤ (j_is t *ℤ is.whole_too t)) ∙ (λ t. once to_high t +ℤ once from_low t)

      at_run : coordinate_of run (spot_sum y.a y.b i j) *ℤ q.w ≡ x *ℤ ((pos i *ℤ y.a.w) +ℤ (pos j *ℤ y.b.w))
      at_run =
          (λ t. sum_at run y.a y.b i j t *ℤ q.w) ∙ (λ t. ((i_is t *ℤ low) +ℤ (j_is t *ℤ high)) *ℤ q.w)
          ∙ mixed low high q.w x ∙ (λ t. x *ℤ sym weight t)
        where
          mixed : (l m w v : ℤ) → ((((m *ℤ w) -ℤ v) *ℤ l) +ℤ ((v -ℤ (l *ℤ w)) *ℤ m)) *ℤ w ≡ v *ℤ (((m *ℤ w) -ℤ v) +ℤ (v -ℤ (l *ℤ w)))
          mixed l m w v = ring (l ∷ m ∷ w ∷ v ∷ [])
              (((((var 1 ⊗ var 2) ⊖ var 3) ⊗ var 0) ⊕ ((var 3 ⊖ (var 0 ⊗ var 2)) ⊗ var 1)) ⊗ var 2)
              (var 3 ⊗ (((var 1 ⊗ var 2) ⊖ var 3) ⊕ (var 3 ⊖ (var 0 ⊗ var 2)))) refl

      at_cut : coordinate_of c.axis (spot_sum y.a y.b i j) *ℤ q.w ≡ coordinate_of c.axis q *ℤ ((pos i *ℤ y.a.w) +ℤ (pos j *ℤ y.b.w))
      at_cut =
          (λ t. sum_at c.axis y.a y.b i j t *ℤ q.w) ∙ (λ t. ((pos i *ℤ is.from.place t) +ℤ (pos j *ℤ is.to.place t)) *ℤ q.w)
          ∙ level c.at y.a.w y.b.w q.w (pos i) (pos j) ∙ (λ t. sym on.place t *ℤ ((pos i *ℤ y.a.w) +ℤ (pos j *ℤ y.b.w)))
        where
          level : (m v w u i j : ℤ) → ((i *ℤ (m *ℤ v)) +ℤ (j *ℤ (m *ℤ w))) *ℤ u ≡ (m *ℤ u) *ℤ ((i *ℤ v) +ℤ (j *ℤ w))
          level m v w u i j = ring (m ∷ v ∷ w ∷ u ∷ i ∷ j ∷ [])
              (((var 4 ⊗ (var 0 ⊗ var 1)) ⊕ (var 5 ⊗ (var 0 ⊗ var 2))) ⊗ var 3)
              ((var 0 ⊗ var 3) ⊗ ((var 4 ⊗ var 1) ⊕ (var 5 ⊗ var 2))) refl

      agree : (z : Axis) → z ≢ sight → coordinate_of z (spot_sum y.a y.b i j) *ℤ q.w ≡ coordinate_of z q *ℤ (spot_sum y.a y.b i j).w
      agree z n = by (one_of_others c.axis sight z is.from.has.other n)
        where
          by : (z ≡ c.axis) ⊎ (z ≡ run) → coordinate_of z (spot_sum y.a y.b i j) *ℤ q.w ≡ coordinate_of z q *ℤ (spot_sum y.a y.b i j).w
          by (inl e) = subst (λ (u : Axis). coordinate_of u (spot_sum y.a y.b i j) *ℤ q.w ≡ coordinate_of u q *ℤ (spot_sum y.a y.b i j).w) (sym e) at_cut
          by (inr e) = subst (λ (u : Axis). coordinate_of u (spot_sum y.a y.b i j) *ℤ q.w ≡ coordinate_of u q *ℤ (spot_sum y.a y.b i j).w) (sym e) at_run

      meets : OnOneSight d (spot_sum y.a y.b i j) q
      meets = sight_of_coordinates d sight is.from.has.along (spot_sum y.a y.b i j) q agree
