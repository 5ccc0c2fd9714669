-- Ends at which a path goes on: each from both sides, and each to one other end only.
use Rattle.std.proofs.Common.{◌≡◌, ◌≢◌, ◌⊎◌, inl, inr, ℕ, List, [], ◌∷◌, Some, slice_get, unsigned_abs, refl, sym, subst, ap, ◌∙◌, arith}
use Rattle.std.specs.Prelude.{ℤ, pos, ◌+ℤ◌, ◌-ℤ◌, ◌*ℤ◌, ◌≤ℤ◌}
use Rattle.std.proofs.lemmas.Int.{ints}
use Rattle.std.proofs.lemmas.Option.{same_Some}
use Rattle.integers.proofs.Ring.{ring, var, con, ◌⊕◌, ◌⊖◌, ◌⊗◌}
use Rattle.sheet_plan.specs.declared.sheet.Mark.{Mark}
use Rattle.sheet_plan.specs.declared.sheet.Stroke.{Stroke}
use Rattle.stroke_paths.specs.Joints.{other_tip, point_of, EndsAt, IsKept, across, down, TurnsLittle, TurnsLess, turn_along, GoesOn, turn_of, MayGoOn, turn_at, AreSame, AreJoined}
use Rattle.stroke_paths.specs.declared.path.End.{End}
use Rattle.stroke_paths.specs.declared.path.Point.{Point}
use Rattle.stroke_paths.specs.declared.path.Tip.{Tip}
use Rattle.stroke_paths.specs.declared.path.Tip.TheVariants.{First, Second}
use Rattle.stroke_paths.specs.declared.turns.Turn.{Turn}

-- ---- a turn, gone back
minus_back : (a b : ℤ) → a -ℤ b ≡ pos 0 -ℤ (b -ℤ a)
minus_back a b = omega (arith, ints)

abs_back : (z : ℤ) → unsigned_abs (pos 0 -ℤ z) ≡ unsigned_abs z
abs_back z = omega (arith, ints)

cross_back : (a b c d : ℤ) → (c *ℤ (pos 0 -ℤ b)) -ℤ (d *ℤ (pos 0 -ℤ a)) ≡ pos 0 -ℤ ((a *ℤ (pos 0 -ℤ d)) -ℤ (b *ℤ (pos 0 -ℤ c)))
cross_back a b c d =
    ring (a ∷ b ∷ c ∷ d ∷ []) ((var 2 ⊗ (con (pos 0) ⊖ var 1)) ⊖ (var 3 ⊗ (con (pos 0) ⊖ var 0)))
    (con (pos 0) ⊖ ((var 0 ⊗ (con (pos 0) ⊖ var 3)) ⊖ (var 1 ⊗ (con (pos 0) ⊖ var 2)))) refl

along_back : (a b c d : ℤ) → (c *ℤ (pos 0 -ℤ a)) +ℤ (d *ℤ (pos 0 -ℤ b)) ≡ (a *ℤ (pos 0 -ℤ c)) +ℤ (b *ℤ (pos 0 -ℤ d))
along_back a b c d =
    ring (a ∷ b ∷ c ∷ d ∷ []) ((var 2 ⊗ (con (pos 0) ⊖ var 0)) ⊕ (var 3 ⊗ (con (pos 0) ⊖ var 1))) ((var 0 ⊗ (con (pos 0) ⊖ var 2)) ⊕ (var 1 ⊗ (con (pos 0) ⊖ var 3))) refl

turn_back : (a b c d : ℤ) → TurnsLittle a b (pos 0 -ℤ c) (pos 0 -ℤ d) → TurnsLittle c d (pos 0 -ℤ a) (pos 0 -ℤ b)
turn_back a b c d h =
    subst (λ z. z ≤ℤ ((c *ℤ (pos 0 -ℤ a)) +ℤ (d *ℤ (pos 0 -ℤ b)))) (sym (ap (λ z. pos (unsigned_abs z)) (cross_back a b c d) ∙ ap pos (abs_back ((a *ℤ (pos 0 -ℤ d)) -ℤ (b *ℤ (pos 0 -ℤ c))))))
    (subst (λ z. pos (unsigned_abs ((a *ℤ (pos 0 -ℤ d)) -ℤ (b *ℤ (pos 0 -ℤ c)))) ≤ℤ z) (sym (along_back a b c d)) h)

across_back : (b : Tip) (s : Stroke) → across (other_tip b) s ≡ pos 0 -ℤ across b s
across_back First s = minus_back s.x2 s.x1
across_back Second s = minus_back s.x1 s.x2

down_back : (b : Tip) (s : Stroke) → down (other_tip b) s ≡ pos 0 -ℤ down b s
down_back First s = minus_back s.y2 s.y1
down_back Second s = minus_back s.y1 s.y2

pub goes_back : (e : Tip) (s : Stroke) (f : Tip) (t : Stroke) → GoesOn e s f t → GoesOn f t e s
goes_back e s f t h =
    let from : TurnsLittle (across e s) (down e s) (pos 0 -ℤ across f t) (pos 0 -ℤ down f t) =
    subst (λ z. TurnsLittle (across e s) (down e s) z (pos 0 -ℤ down f t)) (across_back f t) (subst (λ z. TurnsLittle (across e s) (down e s) (across (other_tip f) t) z) (down_back f t) h) in
    subst (λ z. TurnsLittle (across f t) (down f t) z (down (other_tip e) s)) (sym (across_back e s))
    (subst (λ z. TurnsLittle (across f t) (down f t) (pos 0 -ℤ across e s) z) (sym (down_back e s)) (turn_back (across e s) (down e s) (across f t) (down f t) from))

-- gone back, it turns as much
turn_back_along : (a b c d : ℤ) → turn_along c d (pos 0 -ℤ a) (pos 0 -ℤ b) ≡ turn_along a b (pos 0 -ℤ c) (pos 0 -ℤ d)
turn_back_along a b c d =
    let asides : unsigned_abs ((c *ℤ (pos 0 -ℤ b)) -ℤ (d *ℤ (pos 0 -ℤ a))) ≡ unsigned_abs ((a *ℤ (pos 0 -ℤ d)) -ℤ (b *ℤ (pos 0 -ℤ c))) =
    ap unsigned_abs (cross_back a b c d) ∙ abs_back ((a *ℤ (pos 0 -ℤ d)) -ℤ (b *ℤ (pos 0 -ℤ c))) in
    λ i. record { aside = asides i; ahead = unsigned_abs (along_back a b c d i) }

turn_same : (e : Tip) (s : Stroke) (f : Tip) (t : Stroke) → turn_of f t e s ≡ turn_of e s f t
turn_same e s f t =
    (λ i. turn_along (across f t) (down f t) (across_back e s i) (down_back e s i)) ∙ turn_back_along (across e s) (down e s) (across f t) (down f t)
    ∙ (λ i. turn_along (across e s) (down e s) (sym (across_back f t) i) (sym (down_back f t) i))

-- ---- ends between which a path may go on
module _ (strokes : List Stroke) where
  abbrev pub may_go_back : (e f : End) → MayGoOn strokes e f → MayGoOn strokes f e
  may_go_back e f h =
      record {
        first = h.second;
        second = h.first;
        first_listed = h.second_listed;
        second_listed = h.first_listed;
        two = λ same. h.two (sym same);
        first_fits = h.second_fits;
        second_fits = h.first_fits;
        turns = goes_back e.tip h.first f.tip h.second h.turns;
      }

  pub turn_at_back : (e f : End) (h : MayGoOn strokes e f) → turn_at (may_go_back e f h) ≡ turn_at h
  turn_at_back e f h = turn_same e.tip h.first f.tip h.second

  -- between the same ends it turns as much
  pub turn_same_ends : (e f g h : End) → g ≡ e → h ≡ f → (k : MayGoOn strokes e f) (l : MayGoOn strokes g h) → turn_at k ≡ turn_at l
  turn_same_ends e f g h p q k l =
      let first = same_Some k.first l.first (sym k.first_listed ∙ ap (λ (x : End). slice_get strokes x.stroke) (sym p) ∙ l.first_listed) in
      let second = same_Some k.second l.second (sym k.second_listed ∙ ap (λ (x : End). slice_get strokes x.stroke) (sym q) ∙ l.second_listed) in
      λ i. turn_of (sym p i).tip (first i) (sym q i).tip (second i)

-- of two turns not each is less than the other
pub not_both_less : (t u : Turn) → TurnsLess t u → TurnsLess u t → ⊥
not_both_less t u h k = omega (arith, h, k)

pub same_back : (e f g h : End) → AreSame e f g h → AreSame f e g h
same_back e f g h (inl p) = inr p
same_back e f g h (inr p) = inl p

-- ---- from both sides
pub joined_back : (strokes : List Stroke) (e f : End) → AreJoined strokes e f → AreJoined strokes f e
joined_back strokes e f j =
    record {
      view = j.view;
      mark = j.mark;
      point = j.point;
      first = j.second;
      second = j.first;
      no_hatch = j.no_hatch;
      goes_on = may_go_back strokes e f j.goes_on;
      least = λ g h at there other. by g h other (j.least g h at there other);
    }
  where
    by : (g h : End) (other : MayGoOn strokes g h) → AreSame e f g h ⊎ TurnsLess (turn_at j.goes_on) (turn_at other)
        → AreSame f e g h ⊎ TurnsLess (turn_at (may_go_back strokes e f j.goes_on)) (turn_at other)
    by g h other (inl same) = inl (same_back e f g h same)
    by g h other (inr less) = inr (subst (λ (t : Turn). TurnsLess t (turn_at other)) (sym (turn_at_back strokes e f j.goes_on)) less)

pub joined_kept : (strokes : List Stroke) (e f : End) → AreJoined strokes e f → IsKept strokes e.stroke
joined_kept strokes e f j = record { stroke = j.first.stroke; listed = j.first.listed; no_dot = j.first.no_dot }

-- ---- one only
module _ (strokes : List Stroke) where
  same_stroke : (i j : ℕ) (s t : Stroke) → i ≡ j → slice_get strokes i ≡ Some s → slice_get strokes j ≡ Some t → s ≡ t
  same_stroke i j s t e p q = same_Some s t (sym p ∙ (ap (slice_get strokes) e ∙ q))

  -- an end is at one point, of one view and mark
  moved : (view other_view : ℕ) (mark other_mark : Mark) (p other : Point) (e f : End) → EndsAt strokes view mark p e → EndsAt strokes other_view other_mark other e → EndsAt strokes other_view other_mark other f → EndsAt strokes view mark p f
  moved view other_view mark other_mark p other e f x y z =
      let same = same_stroke e.stroke e.stroke y.stroke x.stroke refl y.listed x.listed in record {
        stroke = z.stroke;
        listed = z.listed;
        no_dot = z.no_dot;
        view_is = z.view_is ∙ (sym y.view_is ∙ (ap (λ (s : Stroke). s.view) same ∙ x.view_is));
        mark_is = z.mark_is ∙ (sym y.mark_is ∙ (ap (λ (s : Stroke). s.mark) same ∙ x.mark_is));
        at = z.at ∙ (sym y.at ∙ (ap (point_of e.tip) same ∙ x.at));
      }

  same_second : (e f g : End) → e.stroke ≢ f.stroke → AreSame e f e g → f ≡ g
  same_second e f g two (inl (p, q)) = sym q
  same_second e f g two (inr (p, q)) = absurd (two (ap (λ (x : End). x.stroke) p))

  pub joined_one : (e f g : End) → AreJoined strokes e f → AreJoined strokes e g → f ≡ g
  joined_one e f g j k =
      let g_there = moved j.view k.view j.mark k.mark j.point k.point e g j.first k.first k.second in
      let f_there = moved k.view j.view k.mark j.mark k.point j.point e f k.first j.first j.second in
      by (j.least e g j.first g_there k.goes_on) (k.least e f k.first f_there j.goes_on)
    where
      by : AreSame e f e g ⊎ TurnsLess (turn_at j.goes_on) (turn_at k.goes_on) → AreSame e g e f ⊎ TurnsLess (turn_at k.goes_on) (turn_at j.goes_on) → f ≡ g
      by (inl same) other = same_second e f g j.goes_on.two same
      by (inr less) (inl same) = sym (same_second e g f k.goes_on.two same)
      by (inr less) (inr more) = absurd (not_both_less (turn_at j.goes_on) (turn_at k.goes_on) less more)
