-- The strip between two corners of a trace, and when a view has none.
use Rattle.std.proofs.Common.{◌≡◌, ◌≢◌, Contains, List, sym, ap, subst, ◌∙◌, arith}
use Rattle.std.specs.Prelude.{ℤ, pos, ◌*ℤ◌, ◌<ℤ◌, ◌≤ℤ◌}
use Rattle.std.proofs.lemmas.Int.{ints, by_lt_z}
use Rattle.std.proofs.lemmas.List.Elements.{All-contains}
use Rattle.lattice.specs.declared.points.Axis.{Axis}
use Rattle.lattice.specs.declared.points.Corner.{Corner}
use Rattle.lattice.specs.declared.pieces.Strip.{Strip}
use Rattle.lattice.specs.declared.pieces.StripKind.TheVariants.{Trace}
use Rattle.lattice.specs.Cuts.{Plane}
use Rattle.lattice.specs.Lines.{IsOnLine}
use Rattle.lattice.specs.Points.{Point, point_of, of_spot, OnOneSight}
use Rattle.lattice.specs.Triple.{Triple}
use Rattle.geometry.specs.Parts.{Part}
use Rattle.lattice.specs.Axes.{coordinate_of, third_of, IsAlong}
use Rattle.geometry.specs.Traces.{IsAmongCorners, HasTrace, IsOnTrace}
use Rattle.geometry.proofs.TracePoints.{third_other, third_aside, coordinates_of_sight}
use Rattle.geometry.specs.Traces.{GoesThrough}
use Rattle.drawn_strips.specs.Traces.{IsFirstOn, IsLastOn, IsTraceStrip}

pub once : (n : ℤ) → n *ℤ pos 1 ≡ n
once n = omega (arith, ints)

some_one : pos 0 <ℤ pos 1
some_one = omega (arith, ints)

-- a corner is where another is, on an axis: so it is among the corners
among_one : (s : Part) (x : Axis) (p : Corner) (k : Corner) → Contains s.corners k → coordinate_of x (point_of p) ≡ coordinate_of x (point_of k) → IsAmongCorners s x (point_of p)
among_one s x p k here same = record {
  least = (k, here, least _ _ (once (coordinate_of x (point_of k)) ∙ sym same));
  most = (k, here, least _ _ (same ∙ sym (once (coordinate_of x (point_of k)))));
}
  where
    least : (m n : ℤ) → m ≡ n → m ≤ℤ n
    least m n e = omega (arith, ints)

-- not all corners are at one place of an axis: the first and the last are apart
ends_apart : (s : Part) (x : Axis) (first last : Corner) → IsFirstOn x s.corners first → IsLastOn x s.corners last
    → ((k : Corner) × (l : Corner) × Contains s.corners k × Contains s.corners l × (coordinate_of x (point_of k) ≢ coordinate_of x (point_of l)))
    → coordinate_of x (point_of first) <ℤ coordinate_of x (point_of last)
ends_apart s x first last is_first is_last (k, l, here, too, differ) =
    by_lt_z a b (λ h. h) (λ h. absurd (differ (squeezed a b _ _ h (low k here) (high k here) (low l too) (high l too))))
  where
    a : ℤ
    a = coordinate_of x (point_of first)

    b : ℤ
    b = coordinate_of x (point_of last)

    low : (k : Corner) → Contains s.corners k → a ≤ℤ coordinate_of x (point_of k)
    low k here = All-contains (λ l. a ≤ℤ coordinate_of x (point_of l)) s.corners k is_first.bound here

    high : (k : Corner) → Contains s.corners k → coordinate_of x (point_of k) ≤ℤ b
    high k here = All-contains (λ l. coordinate_of x (point_of l) ≤ℤ b) s.corners k is_last.bound here

    squeezed : (m n a b : ℤ) → n ≤ℤ m → m ≤ℤ a → a ≤ℤ n → m ≤ℤ b → b ≤ℤ n → a ≡ b
    squeezed m n a b h e f g i = omega (arith, ints)

less_other : (m n : ℤ) → m <ℤ n → m ≢ n
less_other m n h = λ e. less m n h e
  where
    less : (m n : ℤ) → m <ℤ n → m ≡ n → ⊥
    less m n h e = omega (arith, ints)

-- ---- the strip from a corner to another
-- the first corner is moved to the cut's place, and from there on to where the last one is
pub record AreMoved (c : Plane) (corners : List Corner) (sight : Axis) (first last p q : Corner) : Type 0 where
  pub is_first : IsFirstOn (third_of c.axis sight) corners first
  pub is_last : IsLastOn (third_of c.axis sight) corners last
  pub p_at : coordinate_of c.axis (point_of p) ≡ c.at
  pub p_else : (x : Axis) → x ≢ c.axis → coordinate_of x (point_of p) ≡ coordinate_of x (point_of first)
  pub q_at : coordinate_of (third_of c.axis sight) (point_of q) ≡ coordinate_of (third_of c.axis sight) (point_of last)
  pub q_else : (x : Axis) → x ≢ third_of c.axis sight → coordinate_of x (point_of q) ≡ coordinate_of x (point_of p)

pub are_moved : (c : Plane) (corners : List Corner) (sight axis run : Axis) (first last p q : Corner) (at there : ℤ) → axis ≡ c.axis → run ≡ third_of c.axis sight → at ≡ c.at → there ≡ coordinate_of run (point_of last)
    → IsFirstOn run corners first → IsLastOn run corners last → coordinate_of axis (point_of p) ≡ at → ((x : Axis) → x ≢ axis → coordinate_of x (point_of p) ≡ coordinate_of x (point_of first))
    → coordinate_of run (point_of q) ≡ there → ((x : Axis) → x ≢ run → coordinate_of x (point_of q) ≡ coordinate_of x (point_of p)) → AreMoved c corners sight first last p q
are_moved c corners sight axis run first last p q at there axis_is run_is at_is there_is is_first is_last p_at p_else q_at q_else = record {
  is_first = subst (λ (x : Axis). IsFirstOn x corners first) run_is is_first;
  is_last = subst (λ (x : Axis). IsLastOn x corners last) run_is is_last;
  p_at = subst (λ (x : Axis). coordinate_of x (point_of p) ≡ c.at) axis_is (p_at ∙ at_is);
  p_else = λ x n. p_else x (λ e. n (e ∙ axis_is));
  q_at = subst (λ (x : Axis). coordinate_of x (point_of q) ≡ coordinate_of x (point_of last)) run_is (q_at ∙ there_is);
  q_else = λ x n. q_else x (λ e. n (e ∙ run_is));
}

module _ (d : Triple) (s : Part) (c : Plane) (sight : Axis) (has : HasTrace d s c sight) (first last p q : Corner) (m : AreMoved c s.corners sight first last p q) where
  abbrev run : Axis
  run = third_of c.axis sight

  p_run : coordinate_of run (point_of p) ≡ coordinate_of run (point_of first)
  p_run = m.p_else run (third_aside c.axis sight has.other)

  p_sight : coordinate_of sight (point_of p) ≡ coordinate_of sight (point_of first)
  p_sight = m.p_else sight has.other

  q_sight : coordinate_of sight (point_of q) ≡ coordinate_of sight (point_of p)
  q_sight = m.q_else sight (λ e. third_other c.axis sight has.other (sym e))

  pub seen_apart : ¬ OnOneSight d (point_of p) (point_of q)
  seen_apart same =
      less_other _ _ (ends_apart s run first last m.is_first m.is_last has.apart)
      (sym p_run ∙ sym (once _) ∙ coordinates_of_sight d sight has.along (point_of p) (point_of q) same run (third_other c.axis sight has.other) ∙ once _ ∙ m.q_at)

  from : IsOnTrace d s c sight (point_of p)
  from = record {
    has = has;
    there = some_one;
    place = m.p_at ∙ sym (once c.at);
    within = among_one s sight p first m.is_first.listed p_sight;
    within_run = among_one s run p first m.is_first.listed p_run;
  }

  to : IsOnTrace d s c sight (point_of q)
  to = record {
    has = has;
    there = some_one;
    place = m.q_else c.axis (λ e. third_aside c.axis sight has.other (sym e)) ∙ m.p_at ∙ sym (once c.at);
    within = among_one s sight q first m.is_first.listed (q_sight ∙ p_sight);
    within_run = among_one s run q last m.is_last.listed m.q_at;
  }

  pub trace_made : (y : Strip) → of_spot y.a ≡ point_of p → of_spot y.b ≡ point_of q → IsOnLine d y.line (point_of p) → IsOnLine d y.line (point_of q) → y.kind ≡ Trace
      → IsTraceStrip d s c sight y
  trace_made y a_is b_is first_on second_on kind = record {
    from = subst (IsOnTrace d s c sight) (sym a_is) from;
    to = subst (IsOnTrace d s c sight) (sym b_is) to;
    least = λ k here. subst (λ (r : Point). coordinate_of run r ≤ℤ coordinate_of run (point_of k)) (sym a_is)
        (subst (λ (v : ℤ). v ≤ℤ coordinate_of run (point_of k)) (sym p_run) (All-contains (λ l. coordinate_of run (point_of first) ≤ℤ coordinate_of run (point_of l)) s.corners k m.is_first.bound here));
    most = λ k here. subst (λ (r : Point). coordinate_of run (point_of k) ≤ℤ coordinate_of run r) (sym b_is)
        (subst (λ (v : ℤ). coordinate_of run (point_of k) ≤ℤ v) (sym m.q_at) (All-contains (λ l. coordinate_of run (point_of l) ≤ℤ coordinate_of run (point_of last)) s.corners k m.is_last.bound here));
    level = ap (coordinate_of sight) a_is ∙ sym q_sight ∙ sym (ap (coordinate_of sight) b_is);
    whole = ap (λ (r : Point). r.w) a_is;
    whole_too = ap (λ (r : Point). r.w) b_is;
    first = subst (IsOnLine d y.line) (sym a_is) first_on;
    second = subst (IsOnLine d y.line) (sym b_is) second_on;
    kind = kind;
  }

-- ---- a view along an axis has the trace of a cut that goes through the part, which isn't at one place along the trace
module _ (d : Triple) (s : Part) (c : Plane) (sight : Axis) (along : IsAlong sight d) where
  pub trace_there : sight ≢ c.axis → GoesThrough c s.corners → (first last : Corner) → IsFirstOn (third_of c.axis sight) s.corners first → IsLastOn (third_of c.axis sight) s.corners last
      → coordinate_of (third_of c.axis sight) (point_of first) <ℤ coordinate_of (third_of c.axis sight) (point_of last) → HasTrace d s c sight
  trace_there other sides first last is_first is_last less = record {
    other = other;
    along = along;
    before = sides.before;
    beyond = sides.beyond;
    apart = (first, last, is_first.listed, is_last.listed, less_other _ _ less);
  }

  pub none_flat : (first last : Corner) → IsFirstOn (third_of c.axis sight) s.corners first → IsLastOn (third_of c.axis sight) s.corners last
      → ¬ (coordinate_of (third_of c.axis sight) (point_of first) <ℤ coordinate_of (third_of c.axis sight) (point_of last)) → ¬ HasTrace d s c sight
  none_flat first last is_first is_last flat has = flat (ends_apart s (third_of c.axis sight) first last is_first is_last has.apart)

  pub none_beside : ¬ GoesThrough c s.corners → ¬ HasTrace d s c sight
  none_beside aside has = aside (record { before = has.before; beyond = has.beyond })
