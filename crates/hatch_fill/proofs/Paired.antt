-- Places in order, paired: the cut before a point goes through a pair exactly where an odd number of places are before the point on its line.
use Rattle.std.proofs.Common.{◌≡◌, ◌↔◌, ◌⊎◌, inl, inr, ℕ, ◌+◌, ◌%◌, Bool, true, false, true≢false, List, [], ◌∷◌, ◌++◌, Contains, refl, sym, ap, subst, ◌∙◌, arith}
use Rattle.std.specs.Prelude.{ℤ, pos, ◌*ℤ◌, ◌<ℤ◌, ◌≤ℤ◌, ◌&&◌}
use Rattle.std.specs.Cmp.{int_ranks, int_cmp_is}
use Rattle.std.proofs.lemmas.List.Elements.{Contains-append_cases}
use Rattle.integers.proofs.Comparisons.{less_not_same}
use Rattle.hatch_fill.proofs.PlaceOrders.{place_order_total}
use Rattle.std.specs.Ordering.{int_cmp, ordering_reverse, ordering_then, is_lt, is_eq, MatchOrdering}
use Rattle.std.specs.declared.cmp.Ordering.{Ordering}
use Rattle.std.specs.declared.cmp.Ordering.TheVariants.{Less, Equal, Greater}
use Rattle.std.proofs.lemmas.Bool.{false≢true}
use Rattle.std.proofs.lemmas.Int.{ints, by_lt_z}
use Rattle.intervals.specs.declared.interval.Interval.{Interval}
use Rattle.intervals.specs.Cuts.{Crosses, CrossesAny}
use Rattle.intervals.proofs.Lists.{any_left, any_right, any_cases, none, one, of_one}
use Rattle.exact_frac.specs.Frac.{order_of}
use Rattle.cut_plane.proofs.Lists.{contains_first, contains_rest, contains_cases, contains_none}
use Rattle.hatch_fill.specs.declared.places.HatchPlace.{HatchPlace}
use Rattle.hatch_fill.specs.inner.Places.{place_order}
use Rattle.hatch_fill.specs.inner.Stretches.{between, pairs_of}
use Rattle.hatch_fill.proofs.Along.{by_less}
use Rattle.hatch_fill.proofs.Counts.{one_if, passing, passing_none}
use Rattle.hatch_fill.proofs.Cuts.{is_before, before_is_cut, on_lesser, on_greater, on_line, less_of}

-- ---- tests of places
-- U - V of the place is this number
abbrev pub is_on : ℤ → HatchPlace → Bool
is_on diagonal t = is_eq (int_cmp t.diagonal diagonal)

-- and the place is before the point with this U
abbrev pub is_left : ℤ → ℤ → ℤ → HatchPlace → Bool
is_left diagonal u w t = is_on diagonal t && is_lt (int_cmp (t.across.num *ℤ w) (u *ℤ t.across.den))

pub of_on : (diagonal : ℤ) (t : HatchPlace) → t.diagonal ≡ diagonal → is_on diagonal t ≡ true
of_on diagonal t e = ap is_eq (sym (int_cmp_is t.diagonal diagonal Equal e))

pub on_of : (diagonal : ℤ) (t : HatchPlace) → is_on diagonal t ≡ true → t.diagonal ≡ diagonal
on_of diagonal t = by (int_cmp t.diagonal diagonal) (int_ranks t.diagonal diagonal)
  where
    by : (r : Ordering) → MatchOrdering r (t.diagonal <ℤ diagonal) (t.diagonal ≡ diagonal) (diagonal <ℤ t.diagonal) → is_eq r ≡ true → t.diagonal ≡ diagonal
    by Less h e = cc
    by Equal h e = h
    by Greater h e = cc

off_of : (diagonal : ℤ) (t : HatchPlace) → (t.diagonal ≡ diagonal → ⊥) → is_on diagonal t ≡ false
off_of diagonal t h = by (is_on diagonal t) refl
  where
    by : (b : Bool) → is_on diagonal t ≡ b → is_on diagonal t ≡ false
    by true e = absurd (h (on_of diagonal t e))
    by false e = e

and_first : (a b : Bool) → a && b ≡ true → a ≡ true
and_first true b e = refl
and_first false b e = e

and_second : (a b : Bool) → a && b ≡ true → b ≡ true
and_second true b e = e
and_second false b e = absurd (false≢true e)

module _ (diagonal u w : ℤ) (t : HatchPlace) where
  pub left_line : is_left diagonal u w t ≡ true → t.diagonal ≡ diagonal
  left_line e = on_of diagonal t (and_first (is_on diagonal t) _ e)

  pub left_less : is_left diagonal u w t ≡ true → (t.across.num *ℤ w) <ℤ (u *ℤ t.across.den)
  left_less e = less_of _ _ (and_second (is_on diagonal t) _ e)

  pub left_test : t.diagonal ≡ diagonal → is_left diagonal u w t ≡ is_before diagonal u w t
  left_test e = ap (λ (b : Bool). b && is_lt (int_cmp (t.across.num *ℤ w) (u *ℤ t.across.den))) (of_on diagonal t e) ∙ ap is_lt (sym (on_line diagonal u w t e))

  pub left_of : t.diagonal ≡ diagonal → (t.across.num *ℤ w) <ℤ (u *ℤ t.across.den) → is_left diagonal u w t ≡ true
  left_of e h = ap (λ (b : Bool). b && is_lt (int_cmp (t.across.num *ℤ w) (u *ℤ t.across.den))) (of_on diagonal t e) ∙ ap is_lt (sym (int_cmp_is _ _ Less h))

  not_left : (t.diagonal ≡ diagonal → ⊥) → is_left diagonal u w t ≡ false
  not_left h = ap (λ (b : Bool). b && is_lt (int_cmp (t.across.num *ℤ w) (u *ℤ t.across.den))) (off_of diagonal t h)

-- ---- ascending places
abbrev pub Ascend : List HatchPlace → Type 0
Ascend [] = Unit
Ascend (x ∷ xs) = ((y : HatchPlace) → Contains xs y → ¬ (place_order x y ≡ Greater)) × Ascend xs

-- each line has an even number of them
abbrev pub EvenLines : List HatchPlace → Type 0
EvenLines xs = (diagonal : ℤ) → passing (is_on diagonal) xs % 2 ≡ 0

no_lesser : (x y : HatchPlace) → ¬ (place_order x y ≡ Greater) → x.diagonal ≤ℤ y.diagonal
no_lesser x y h = by (int_cmp x.diagonal y.diagonal) (int_ranks x.diagonal y.diagonal) h
  where
    by : (r : Ordering) → MatchOrdering r (x.diagonal <ℤ y.diagonal) (x.diagonal ≡ y.diagonal) (y.diagonal <ℤ x.diagonal) → ¬ (ordering_then r (order_of x.across y.across) ≡ Greater) → x.diagonal ≤ℤ y.diagonal
    by Less k g = omega (arith, ints)
    by Equal k g = omega (arith, ints)
    by Greater k g = absurd (g refl)

-- a line's last place has another before it
lone : (x : HatchPlace) → passing (is_on x.diagonal) (x ∷ []) % 2 ≡ 0 → ⊥
lone x e = by (is_on x.diagonal x) (of_on x.diagonal x refl) e
  where
    by : (b : Bool) → b ≡ true → (one_if b + 0) % 2 ≡ 0 → ⊥
    by true f g = omega arith
    by false f g = false≢true f

module _ (s t : HatchPlace) (rest : List HatchPlace) (up : Ascend (s ∷ t ∷ rest)) (even : EvenLines (s ∷ t ∷ rest)) where
  pub one_line : s.diagonal ≡ t.diagonal
  one_line = by_lt_z s.diagonal t.diagonal (λ l. absurd (alone l)) (λ l. same l (no_lesser s t (up.0 t (contains_first rest t))))
    where
      same : t.diagonal ≤ℤ s.diagonal → s.diagonal ≤ℤ t.diagonal → s.diagonal ≡ t.diagonal
      same h k = omega (arith, ints)

      beyond : s.diagonal <ℤ t.diagonal → (y : HatchPlace) → t.diagonal ≤ℤ y.diagonal → y.diagonal ≡ s.diagonal → ⊥
      beyond l y h e = omega (arith, ints)

      itself : t.diagonal ≤ℤ t.diagonal
      itself = omega (arith, ints)

      off : s.diagonal <ℤ t.diagonal → (y : HatchPlace) → (t ≡ y) ⊎ Contains rest y → is_on s.diagonal y ≡ false
      off l y (inl e) = off_of s.diagonal y (beyond l y (subst (λ (z : HatchPlace). t.diagonal ≤ℤ z.diagonal) e itself))
      off l y (inr there) = off_of s.diagonal y (beyond l y (no_lesser t y (up.1.0 y there)))

      odd : (b : Bool) (n : ℕ) → b ≡ true → n ≡ 0 → (one_if b + n) % 2 ≡ 0 → ⊥
      odd true n f e g = omega arith
      odd false n f e g = false≢true f

      alone : s.diagonal <ℤ t.diagonal → ⊥
      alone l = odd (is_on s.diagonal s) (passing (is_on s.diagonal) (t ∷ rest)) (of_on s.diagonal s refl) (passing_none (is_on s.diagonal) (t ∷ rest) (λ y there. off l y (contains_cases t rest y there))) (even s.diagonal)

  pub even_rest : EvenLines rest
  even_rest diagonal = both (is_on diagonal s) (is_on diagonal t) (passing (is_on diagonal) rest) (ap (λ (z : ℤ). is_eq (int_cmp z diagonal)) one_line) (even diagonal)
    where
      both : (a b : Bool) (n : ℕ) → a ≡ b → (one_if a + (one_if b + n)) % 2 ≡ 0 → n % 2 ≡ 0
      both true true n e h = omega arith
      both false false n e h = omega arith
      both true false n e h = absurd (true≢false e)
      both false true n e h = absurd (false≢true e)

-- ---- the pairs
pub pairs_on_lines : (xs : List HatchPlace) → Ascend xs → EvenLines xs → (i : Interval HatchPlace) → Contains (pairs_of xs) i → i.from.diagonal ≡ i.to.diagonal
pairs_on_lines [] up even i there = absurd (contains_none i there)
pairs_on_lines (s ∷ []) up even i there = absurd (contains_none i there)
pairs_on_lines (s ∷ t ∷ rest) up even i there =
    by (Contains-append_cases (between s t) (pairs_of rest) i there) (pairs_on_lines rest up.1.1 (even_rest s t rest up even) i)
  where
    by : Contains (between s t) i ⊎ Contains (pairs_of rest) i → (Contains (pairs_of rest) i → i.from.diagonal ≡ i.to.diagonal) → i.from.diagonal ≡ i.to.diagonal
    by (inl here) later = by_less s t (λ is. Contains is i → i.from.diagonal ≡ i.to.diagonal) (λ e k. one_of (contains_cases (record { from = s; to = t }) [] i k)) (λ e k. absurd (contains_none i k)) here
      where
        one_of : (record { from = s; to = t } ≡ i) ⊎ Contains [] i → i.from.diagonal ≡ i.to.diagonal
        one_of (inl e) = subst (λ (x : Interval HatchPlace). x.from.diagonal ≡ x.to.diagonal) e (one_line s t rest up even)
        one_of (inr k) = absurd (contains_none i k)
    by (inr k) later = later k

module _ (diagonal u w : ℤ) (positive : pos 0 <ℤ w) where
  abbrev cut : HatchPlace → Bool
  cut = is_before diagonal u w

  abbrev left : HatchPlace → Bool
  left = is_left diagonal u w

  -- the cut goes through the pair of the two
  through_two : (s t : HatchPlace) → ¬ (place_order s t ≡ Greater) → cut s ≡ true → cut t ≡ false → CrossesAny cut (between s t)
  through_two s t up begun ended = by_less s t (CrossesAny cut) (λ e. one (Crosses cut) (record { from = s; to = t }) (begun, ended)) (λ n. absurd (true≢false (sym (before_is_cut diagonal u w positive t s begun (back n)) ∙ ended)))
    where
      back : ¬ (place_order s t ≡ Less) → ¬ (place_order t s ≡ Greater)
      back n e = n (place_order_total.antisymm s t ∙ ap ordering_reverse e)

  of_two : (s t : HatchPlace) → CrossesAny cut (between s t) → (cut s ≡ true) × (cut t ≡ false)
  of_two s t = by_less s t (λ is. CrossesAny cut is → (cut s ≡ true) × (cut t ≡ false)) (λ e c. of_one (Crosses cut) (record { from = s; to = t }) c) (λ n c. absurd (none (Crosses cut) c))

  -- where a place isn't before the point, no later one is left of it
  none_left : (t : HatchPlace) (rest : List HatchPlace) → ((y : HatchPlace) → Contains rest y → ¬ (place_order t y ≡ Greater)) → cut t ≡ false → passing left rest ≡ 0
  none_left t rest up ended = passing_none left rest (λ y there. by y (left y) refl (up y there))
    where
      by : (y : HatchPlace) (b : Bool) → left y ≡ b → ¬ (place_order t y ≡ Greater) → left y ≡ false
      by y false e h = e
      by y true e h = absurd (true≢false (sym (before_is_cut diagonal u w positive t y (sym (left_test diagonal u w y (left_line diagonal u w y e)) ∙ e) h) ∙ ended))

  -- so no later pair is crossed
  none_through : (xs : List HatchPlace) → ((y : HatchPlace) → Contains xs y → cut y ≡ false) → CrossesAny cut (pairs_of xs) → ⊥
  none_through [] off c = none (Crosses cut) c
  none_through (s ∷ []) off c = none (Crosses cut) c
  none_through (s ∷ t ∷ rest) off c = by (any_cases (Crosses cut) (between s t) (pairs_of rest) c) (none_through rest (λ y there. off y (contains_rest s (t ∷ rest) y (contains_rest t rest y there))))
    where
      by : CrossesAny cut (between s t) ⊎ CrossesAny cut (pairs_of rest) → (CrossesAny cut (pairs_of rest) → ⊥) → ⊥
      by (inl here) later = true≢false (sym (of_two s t here).0 ∙ off s (contains_first (t ∷ rest) s))
      by (inr there) later = later there

  pub crossed_where_odd : (xs : List HatchPlace) → Ascend xs → EvenLines xs → CrossesAny cut (pairs_of xs) ↔ (passing left xs % 2 ≡ 1)
  crossed_where_odd [] up even = ((λ c. absurd (none (Crosses cut) c)), (λ e. absurd (omega arith)))
  crossed_where_odd (s ∷ []) up even = absurd (lone s (even s.diagonal))
  crossed_where_odd (s ∷ t ∷ rest) up even = by (cut s) (cut t) (left s) (left t) refl refl refl refl tests (crossed_where_odd rest up.1.1 (even_rest s t rest up even))
    where
      -- on the point's line each is left where it is before; else both are on one side, and none is left
      tests : ((left s ≡ cut s) × (left t ≡ cut t)) ⊎ ((cut s ≡ cut t) × (left s ≡ false) × (left t ≡ false))
      tests = by_order (int_cmp s.diagonal diagonal) (int_ranks s.diagonal diagonal)
        where
          same : s.diagonal ≡ t.diagonal
          same = one_line s t rest up even

          more_apart : (a b : ℤ) → b <ℤ a → a ≡ b → ⊥
          more_apart a b h e = omega (arith, ints)

          by_order : (r : Ordering) → MatchOrdering r (s.diagonal <ℤ diagonal) (s.diagonal ≡ diagonal) (diagonal <ℤ s.diagonal) → ((left s ≡ cut s) × (left t ≡ cut t)) ⊎ ((cut s ≡ cut t) × (left s ≡ false) × (left t ≡ false))
          by_order Less h =
              let k = subst (λ (z : ℤ). z <ℤ diagonal) same h in
              inr (ap is_lt (on_lesser diagonal u w s h) ∙ sym (ap is_lt (on_lesser diagonal u w t k)), not_left diagonal u w s (less_not_same s.diagonal diagonal h), not_left diagonal u w t (less_not_same t.diagonal diagonal k))
          by_order Equal h = inl (left_test diagonal u w s h, left_test diagonal u w t (sym same ∙ h))
          by_order Greater h =
              let k = subst (λ (z : ℤ). diagonal <ℤ z) same h in
              inr (ap is_lt (on_greater diagonal u w s h) ∙ sym (ap is_lt (on_greater diagonal u w t k)), not_left diagonal u w s (more_apart s.diagonal diagonal h), not_left diagonal u w t (more_apart t.diagonal diagonal k))

      through_rest : ((cut s ≡ true) × (cut t ≡ false) → ⊥) → CrossesAny cut (between s t ++ pairs_of rest) → CrossesAny cut (pairs_of rest)
      through_rest not c = cases (any_cases (Crosses cut) (between s t) (pairs_of rest) c)
        where
          cases : CrossesAny cut (between s t) ⊎ CrossesAny cut (pairs_of rest) → CrossesAny cut (pairs_of rest)
          cases (inl here) = absurd (not (of_two s t here))
          cases (inr there) = there

      alike : (m n : ℕ) → passing left (s ∷ t ∷ rest) ≡ one_if (left s) + (one_if (left t) + passing left rest)
      alike m n = refl

      -- none of the two is crossed, and both or none of them are left
      on : ((cut s ≡ true) × (cut t ≡ false) → ⊥) → one_if (left s) ≡ one_if (left t) → CrossesAny cut (pairs_of rest) ↔ (passing left rest % 2 ≡ 1) → CrossesAny cut (between s t ++ pairs_of rest) ↔ ((one_if (left s) + (one_if (left t) + passing left rest)) % 2 ≡ 1)
      on not same later = (
        (λ c. there (one_if (left s)) (one_if (left t)) (passing left rest) same (later.0 (through_rest not c))),
        (λ e. any_right (Crosses cut) (between s t) (pairs_of rest) (later.1 (back (one_if (left s)) (one_if (left t)) (passing left rest) same e))),
      )
        where
          there : (a b n : ℕ) → a ≡ b → n % 2 ≡ 1 → (a + (b + n)) % 2 ≡ 1
          there a b n e h = omega arith

          back : (a b n : ℕ) → a ≡ b → (a + (b + n)) % 2 ≡ 1 → n % 2 ≡ 1
          back a b n e h = omega arith

      later_off : cut t ≡ false → (y : HatchPlace) → Contains rest y → cut y ≡ false
      later_off e y there = off (cut y) refl
        where
          off : (b : Bool) → cut y ≡ b → cut y ≡ false
          off false f = f
          off true f = absurd (true≢false (sym (before_is_cut diagonal u w positive t y f (up.1.0 y there)) ∙ e))

      by : (a b c d : Bool) → cut s ≡ a → cut t ≡ b → left s ≡ c → left t ≡ d → ((left s ≡ cut s) × (left t ≡ cut t)) ⊎ ((cut s ≡ cut t) × (left s ≡ false) × (left t ≡ false)) → CrossesAny cut (pairs_of rest) ↔ (passing left rest % 2 ≡ 1)
          → CrossesAny cut (between s t ++ pairs_of rest) ↔ ((one_if (left s) + (one_if (left t) + passing left rest)) % 2 ≡ 1)
      by a b c d es et fs ft (inr (same, off_s, off_t)) later = on (λ g. true≢false (sym g.0 ∙ same ∙ g.1)) (ap one_if (off_s ∙ sym off_t)) later
      by true true c d es et fs ft (inl (ls, lt)) later = on (λ g. true≢false (sym et ∙ g.1)) (ap one_if (ls ∙ es ∙ sym et ∙ sym lt)) later
      by false false c d es et fs ft (inl (ls, lt)) later = on (λ g. true≢false (sym g.0 ∙ es)) (ap one_if (ls ∙ es ∙ sym et ∙ sym lt)) later
      by false true c d es et fs ft (inl (ls, lt)) later = absurd (true≢false (sym (before_is_cut diagonal u w positive s t et (up.0 t (contains_first rest t))) ∙ es))
      by true false c d es et fs ft (inl (ls, lt)) later = (
        (λ k. odd (left s) (left t) (passing left rest) (ls ∙ es) (lt ∙ et) (none_left t rest up.1.0 et)),
        (λ k. any_left (Crosses cut) (between s t) (pairs_of rest) (through_two s t (up.0 t (contains_first rest t)) es et)),
      )
        where
          odd : (a b : Bool) (n : ℕ) → a ≡ true → b ≡ false → n ≡ 0 → (one_if a + (one_if b + n)) % 2 ≡ 1
          odd true false n f g e = omega arith
          odd true true n f g e = absurd (true≢false g)
          odd false b n f g e = absurd (false≢true f)
