-- Counts carried over crossings in order: the sums so far are those at each place up to the next crossing.
use Rattle.std.proofs.Common.{◌≡◌, ◌⊎◌, ℕ, ◌+◌, ◌*◌, ◌<◌, ◌≤◌, ◌^◌, Bool, true, false, not, inl, inr, ⊎_elim, List, [], ◌∷◌, ◌++◌, All, length, take, drop, get_or, refl, sym, subst, ap, ◌∙◌, arith, is_lt, ◌-◌, FitsSigned, to_z, of_z, w8, w64}
use Rattle.std.specs.Prelude.{ℤ, pos, ◌+ℤ◌, ◌-ℤ◌, ◌*ℤ◌, ◌<ℤ◌, ◌≤ℤ◌, neg_ℤ}
use Rattle.std.proofs.Math.Dec.{T}
use Rattle.std.specs.Int.Signed.{lt_z, lt_z_yes, lt_z_no}
use Rattle.std.specs.List.Sorted.{IsSortedByKey}
use Rattle.std.proofs.lemmas.Int.{ints, to_z-of_z}
use Rattle.std.proofs.lemmas.Bool.{cond-true, cond-false}
use Rattle.std.proofs.lemmas.List.{take_all, drop_all, take-append-drop, get_or-drop, get_or_default, length-drop}
use Rattle.std.proofs.lemmas.List.Elements.{All-nil, All-push, All-weaker}
use Rattle.std.proofs.lemmas.List.Sorted.{sorted_far, ranks_by}
use Rattle.std.specs.Cmp.{int_ranks}
use Rattle.integers.proofs.Comparisons.{at_most_of_less, less_not_at_most}
use Rattle.exact_frac.specs.declared.Frac.{Frac}
use Rattle.exact_frac.specs.Frac.{order_of}
use Rattle.exact_frac.specs.Laws.{order_of_total}
use Rattle.geometry.specs.Places.{IsPlace, IsEarlier, IsSame, IsBetween}
use Rattle.geometry.proofs.PlaceOrder.{less_most, most_less, IsNotLater, not_later_of_not, not_later_self, not_later_not_later, earlier_not_later, not_both}
use Rattle.geometry.proofs.SamePlaces.{same, same_back, same_trans, same_between, same_earlier, same_not_later}
use Rattle.cross_find.specs.declared.meter.Crossing.{Crossing}
use Rattle.span_count.specs.declared.span.CountSpan.{CountSpan}
use Rattle.span_count.specs.CountSpans.{Follow}
use Rattle.hiding_laws.specs.Sums.{total}
use Rattle.span_count.specs.Carries.{IsSmall, change_before, IsCountOf, IsCarried, IsCrossingEnd, AreCarried}
use Rattle.span_count.specs.inner.Steps.{IsSpanAdded, IsEndUntil}
use Rattle.std.specs.Ordering.{int_cmp, MatchOrdering}
use Rattle.std.specs.declared.cmp.Ordering.{Ordering}
use Rattle.std.specs.declared.cmp.Ordering.TheVariants.{Less, Equal, Greater}
use Rattle.integers.proofs.Lists.{front_more}
use Rattle.span_count.proofs.Sums.{total_append, total_push, total_same, total_none}

-- ---- what is before a place and what is not
less_true : (a b : ℤ) → a <ℤ b → lt_z a b ≡ true
less_true a b h = go (lt_z a b) (λ t. lt_z_no {a = a} {b = b} t)
  where
    go : (v : Bool) → (T (not v) → b ≤ℤ a) → v ≡ true
    go true f = refl
    go false f = absurd (less_not_at_most a b h (f tt))

less_false : (a b : ℤ) → b ≤ℤ a → lt_z a b ≡ false
less_false a b h = go (lt_z a b) (λ t. lt_z_yes {a = a} {b = b} t)
  where
    go : (v : Bool) → (T v → a <ℤ b) → v ≡ false
    go true f = absurd (less_not_at_most a b (f tt) h)
    go false f = refl

module _ (change : Crossing → ℤ) (n m : ℤ) where
  pub changed : (x : Crossing) → (x.at.num *ℤ m) <ℤ (n *ℤ x.at.den) → change_before change n m x ≡ change x
  changed x h = cond-true (lt_z (x.at.num *ℤ m) (n *ℤ x.at.den)) (change x) (pos 0) (less_true (x.at.num *ℤ m) (n *ℤ x.at.den) h)

  pub unchanged : (x : Crossing) → (n *ℤ x.at.den) ≤ℤ (x.at.num *ℤ m) → change_before change n m x ≡ pos 0
  unchanged x h = cond-false (lt_z (x.at.num *ℤ m) (n *ℤ x.at.den)) (change x) (pos 0) (less_false (x.at.num *ℤ m) (n *ℤ x.at.den) h)

  -- between two places, of which the first crossings are not after the one, and the others not before the other
  pub sum_between : (xs : List Crossing) (k : ℕ) (from to : Frac) → All (λ x. IsNotLater x.at from) (take k xs) → All (λ x. IsNotLater to x.at) (drop k xs) → pos 0 <ℤ m → IsBetween from to n m
      → total (change_before change n m) xs ≡ total change (take k xs)
  sum_between xs k from to done rest up between =
      ap (total (change_before change n m)) (sym (take-append-drop k xs))
      ∙ total_append (change_before change n m) (take k xs) (drop k xs)
      ∙ last (total (change_before change n m) (take k xs)) (total change (take k xs)) (total (change_before change n m) (drop k xs))
      (total_same (change_before change n m) change (take k xs) (All-weaker (λ (x : Crossing). IsNotLater x.at from) (λ (x : Crossing). change_before change n m x ≡ change x)
      (λ x h. changed x (most_less x.at.num x.at.den from.num from.den n m x.at.positive from.positive up h between.0)) (take k xs) done))
      (total_none (change_before change n m) (drop k xs) (All-weaker (λ (x : Crossing). IsNotLater to x.at) (λ (x : Crossing). change_before change n m x ≡ pos 0)
      (λ x h. unchanged x (at_most_of_less (n *ℤ x.at.den) (x.at.num *ℤ m) (less_most n m to.num to.den x.at.num x.at.den up to.positive x.at.positive between.1 h))) (drop k xs) rest))
    where
      last : (a b c : ℤ) → a ≡ b → c ≡ pos 0 → a +ℤ c ≡ b
      last a b c e f = omega (arith, ints)

-- ---- the order of the crossings
pub not_less : (x y : ℤ) → is_lt (int_cmp x y) ≡ false → y ≤ℤ x
not_less x y h = go (int_cmp x y) (int_ranks x y) h
  where
    go : (r : Ordering) → MatchOrdering r (x <ℤ y) (x ≡ y) (y <ℤ x) → is_lt r ≡ false → y ≤ℤ x
    go Less k e = cc
    go Equal k e = omega (arith, ints)
    go Greater k e = omega (arith, ints)

module _ (xs : List Crossing) (up : IsSortedByKey (λ x. x.at) order_of xs) where
  -- those after a crossing are not before it
  pub rest_after : (k : ℕ) (x : Crossing) → k < length xs → get_or xs k x ≡ x → All (λ y. IsNotLater x.at y.at) (drop k xs)
  rest_after k x within at j d long =
      let far = sorted_far (λ (x y : Crossing). is_lt (order_of x.at y.at)) (ranks_by order_of_total (λ (x : Crossing). x.at)) xs up k (k + j) d (least k j) (short k j (length xs) (length (drop k xs)) (length-drop k xs) long) in
      subst (λ (y : Crossing). IsNotLater x.at y.at) (sym (get_or-drop k xs j d))
      (subst (λ (y : Crossing). IsNotLater y.at (get_or xs (k + j) d).at) (sym (get_or_default xs k x d within) ∙ at) (not_less _ _ far))
    where
      least : (k j : ℕ) → k ≤ k + j
      least k j = omega arith

      short : (k j a b : ℕ) → b ≡ a - k → j < b → k + j < a
      short k j a b e h = omega arith

-- ---- sums so far
pub record AreSums (change : Crossing → ℤ) (xs : List Crossing) (first : ℤ) (k : ℕ) (sum : ℤ) : Type 0 where
  pub is : sum ≡ first +ℤ total change (take k xs)
  pub low : (first -ℤ pos (128 * k)) ≤ℤ sum
  pub high : sum ≤ℤ (first +ℤ pos (128 * k))

pub sums_none : (change : Crossing → ℤ) (xs : List Crossing) (first : ℤ) → AreSums change xs first 0 first
sums_none change xs first = record { is = nothing first; low = least first; high = most first }
  where
    nothing : (z : ℤ) → z ≡ z +ℤ pos 0
    nothing z = omega (arith, ints)

    least : (z : ℤ) → (z -ℤ pos (128 * 0)) ≤ℤ z
    least z = omega (arith, ints)

    most : (z : ℤ) → z ≤ℤ (z +ℤ pos (128 * 0))
    most z = omega (arith, ints)

pub sums_more : (change : Crossing → ℤ) (xs : List Crossing) (first : ℤ) (k : ℕ) (sum : ℤ) → AreSums change xs first k sum → (x : Crossing) → k < length xs → get_or xs k x ≡ x
    → neg_ℤ (pos 128) ≤ℤ change x → change x ≤ℤ pos 127 → AreSums change xs first (k + 1) (sum +ℤ change x)
sums_more change xs first k sum h x within at least most = record {
  is = one_more sum first (total change (take k xs)) (change x) h.is ∙ ap (λ z. first +ℤ z) (sym (total_push change (take k xs) x) ∙ ap (total change) (front_more xs k x within at));
  low = lower first sum (change x) k h.low least;
  high = higher first sum (change x) k h.high most;
}
  where
    one_more : (s a b x : ℤ) → s ≡ a +ℤ b → s +ℤ x ≡ a +ℤ (b +ℤ x)
    one_more s a b x e = omega (arith, ints)

    lower : (f s x : ℤ) (k : ℕ) → (f -ℤ pos (128 * k)) ≤ℤ s → neg_ℤ (pos 128) ≤ℤ x → (f -ℤ pos (128 * (k + 1))) ≤ℤ (s +ℤ x)
    lower f s x k p q = omega (arith, ints)

    higher : (f s x : ℤ) (k : ℕ) → s ≤ℤ (f +ℤ pos (128 * k)) → x ≤ℤ pos 127 → (s +ℤ x) ≤ℤ (f +ℤ pos (128 * (k + 1)))
    higher f s x k p q = omega (arith, ints)

-- from nothing on, the whole sum is what all of them change
pub sums_all : (change : Crossing → ℤ) (xs : List Crossing) (k : ℕ) (sum : ℤ) → AreSums change xs (pos 0) k sum → length xs ≤ k → sum ≡ total change xs
sums_all change xs k sum h all = h.is ∙ ap (λ (ys : List Crossing). pos 0 +ℤ total change ys) (take_all k xs all) ∙ nothing (total change xs)
  where
    nothing : (z : ℤ) → pos 0 +ℤ z ≡ z
    nothing z = omega (arith, ints)

-- ---- the sums as they are read
pub in_byte : (z : ℤ) → FitsSigned w8 z → (neg_ℤ (pos 128) ≤ℤ z) × (z ≤ℤ pos 127)
in_byte z f = (omega (arith, ints), omega (arith, ints))

pub addend : (x y : ℤ) → y ≡ to_z w8 (of_z w8 x) → FitsSigned w8 x → to_z w64 (of_z w64 y) ≡ x
addend x y e f =
    let g : FitsSigned w64 x = omega (arith, ints) in
    ap (λ z. to_z w64 (of_z w64 z)) (e ∙ to_z-of_z w8 x f) ∙ to_z-of_z w64 x g

pub sum_fits : (change : Crossing → ℤ) (xs : List Crossing) (first : ℤ) (k : ℕ) (sum x : ℤ) → AreSums change xs first k sum → IsSmall first → k < 2 ^ 32 → FitsSigned w8 x → FitsSigned w64 (sum +ℤ x)
sum_fits change xs first k sum x h small few f = fits first sum x k small.0 small.1 h.low h.high few f
  where
    fits : (z s x : ℤ) (k : ℕ) → neg_ℤ (pos (2 ^ 45)) ≤ℤ z → z ≤ℤ pos (2 ^ 45) → (z -ℤ pos (128 * k)) ≤ℤ s → s ≤ℤ (z +ℤ pos (128 * k)) → k < 2 ^ 32 → FitsSigned w8 x → FitsSigned w64 (s +ℤ x)
    fits z s x k i j p q few f = omega (arith, ints)

-- from nothing on, the sums are small
pub sums_small : (change : Crossing → ℤ) (xs : List Crossing) (k : ℕ) (sum : ℤ) → AreSums change xs (pos 0) k sum → k < 2 ^ 32 → IsSmall sum
sums_small change xs k sum h few = (lower sum k h.low few, higher sum k h.high few)
  where
    lower : (s : ℤ) (k : ℕ) → (pos 0 -ℤ pos (128 * k)) ≤ℤ s → k < 2 ^ 32 → neg_ℤ (pos (2 ^ 45)) ≤ℤ s
    lower s k p few = omega (arith, ints)

    higher : (s : ℤ) (k : ℕ) → s ≤ℤ (pos 0 +ℤ pos (128 * k)) → k < 2 ^ 32 → s ≤ℤ pos (2 ^ 45)
    higher s k p few = omega (arith, ints)

pub sum_read : (s x y : ℤ) → y ≡ to_z w8 (of_z w8 x) → FitsSigned w8 x → FitsSigned w64 (s +ℤ x) → to_z w64 (of_z w64 (s +ℤ to_z w64 (of_z w64 y))) ≡ s +ℤ x
sum_read s x y e f fits = ap (λ z. to_z w64 (of_z w64 (s +ℤ z))) (addend x y e f) ∙ to_z-of_z w64 (s +ℤ x) fits

-- ---- spans so far
abbrev IsEnds : Frac → Frac → List Crossing → CountSpan → Type 0
IsEnds first last xs x = IsCrossingEnd first last xs x.from × IsCrossingEnd first last xs x.to

abbrev IsLeft : List Crossing → ℤ → CountSpan → Type 0
IsLeft xs first x = IsCarried (λ (y : Crossing). y.left) xs first x.from x.to x.left

abbrev IsRight : List Crossing → ℤ → CountSpan → Type 0
IsRight xs first x = IsCarried (λ (y : Crossing). y.right) xs first x.from x.to x.right

-- the place is before the last one, and not before the first k crossings; or it is the last one
abbrev pub IsReached : Frac → List Crossing → ℕ → Frac → Type 0
IsReached last xs k at = (IsEarlier at last × All (λ x. IsNotLater x.at at) (take k xs)) ⊎ IsSame at last

-- the spans are right from the first place up to the one that is reached
pub record AreSpansUpTo (first last : Frac) (xs : List Crossing) (left right : ℤ) (k : ℕ) (at : Frac) (spans : List CountSpan) : Type 0 where
  pub place : IsPlace at
  pub reach : Follow first spans at
  pub crossed : IsCrossingEnd first last xs at
  pub reached : IsReached last xs k at
  pub ends : All (IsEnds first last xs) spans
  pub on_left : All (IsLeft xs left) spans
  pub on_right : All (IsRight xs right) spans

pub record AreCarriedUpTo (first last : Frac) (xs : List Crossing) (left right : ℤ) (k : ℕ) (at : Frac) (left_sum right_sum : ℤ) (spans : List CountSpan) : Type 0 where
  pub spans_right : AreSpansUpTo first last xs left right k at spans
  pub left_is : AreSums (λ (y : Crossing). y.left) xs left k left_sum
  pub right_is : AreSums (λ (y : Crossing). y.right) xs right k right_sum

-- ---- one span more
pub follow_more : (first from to : Frac) (xs : List CountSpan) (x : CountSpan) → Follow first xs from → IsSame x.from from → IsSame x.to to → IsEarlier x.from x.to → Follow first (xs ++ x ∷ []) to
follow_more first from to [] x h sf st earlier = (same_trans x.from from first sf (same_back first from h), earlier, st)
follow_more first from to (y ∷ ys) x h sf st earlier = (h.0, h.1, follow_more y.to from to ys x h.2 sf st earlier)

pub follow_same : (first from to : Frac) (xs : List CountSpan) → Follow first xs from → IsSame to from → Follow first xs to
follow_same first from to [] h s = same_trans first from to h (same_back to from s)
follow_same first from to (y ∷ ys) h s = (h.0, h.1, follow_same y.to from to ys h.2 s)

pub end_same : (first last : Frac) (xs : List Crossing) (r q : Frac) → IsSame q r → IsCrossingEnd first last xs r → IsCrossingEnd first last xs q
end_same first last xs r q s (inl e) = inl (same_trans q r first s e)
end_same first last xs r q s (inr (inl e)) = inr (inl (same_trans q r last s e))
end_same first last xs r q s (inr (inr (x, there, is))) = inr (inr (x, there, same_trans q r x.at s is))

module _ (first last : Frac) (xs : List Crossing) (left right : ℤ) (k : ℕ) (at : Frac) (left_sum right_sum : ℤ) (spans : List CountSpan)
    (known : AreCarriedUpTo first last xs left right k at left_sum right_sum spans)
    (to : Frac) (to_end : IsCrossingEnd first last xs to) (most : IsNotLater to last) (rest : All (λ y. IsNotLater to y.at) (drop k xs))
    (new : List CountSpan) (end : Frac) (added : IsSpanAdded at to left_sum right_sum spans new end) where
  -- where the last place is reached nothing is before it that is after the place
  not_reached : IsEarlier at to → IsSame at last → ⊥
  not_reached h s = not_both at last (earlier_not_later at to last h most) (same_not_later last last last at (same last) (same_back at last s) (not_later_self last))

  done : IsEarlier at to → All (λ x. IsNotLater x.at at) (take k xs)
  done h = ⊎_elim (λ r. r.1) (λ s. absurd (not_reached h s)) known.spans_right.reached

  side : (change : Crossing → ℤ) (start : ℤ) (sum : ℤ) → AreSums change xs start k sum → IsEarlier at to → (p q : Frac) (count : ℕ) → IsSame p at → IsSame q to → IsCountOf sum count → IsCarried change xs start p q count
  side change start sum sums earlier p q count sf st is n m up between c small e = is c small (
      sums.is ∙ sym (ap (λ z. start +ℤ z) (sum_between change n m xs k at to (done earlier) rest up (same_between p q at to n m sf st between))) ∙ e)

  -- the spans then end at the later of the two
  pub end_after : IsNotLater at end × IsNotLater to end
  end_after = ⊎_elim
      (λ h. (same_not_later at to at end (same at) (same_back end to h.1) (at_most_of_less _ _ h.0), same_not_later to to to end (same to) (same_back end to h.1) (not_later_self to)))
      (λ h. (same_not_later at at at end (same at) (same_back end at h.1) (not_later_self at), same_not_later to at to end (same to) (same_back end at h.1) (not_later_of_not at to h.0))) added

  pub spans_next : IsPlace end → (j : ℕ) → IsReached last xs j end → AreSpansUpTo first last xs left right j end new
  spans_next place j reached = ⊎_elim (λ h. one h.0 h.1 h.2.0 h.2.1 h.2.2 h.2.3 h.2.4 h.2.5) (λ h. none h.1 h.2) added
    where
      one : IsEarlier at to → IsSame end to → (x : CountSpan) → IsSame x.from at → IsSame x.to to → IsCountOf left_sum x.left → IsCountOf right_sum x.right → new ≡ spans ++ x ∷ []
          → AreSpansUpTo first last xs left right j end new
      one earlier s x sf st l r e = record {
        place = place;
        reach = subst (λ (ys : List CountSpan). Follow first ys end) (sym e)
            (follow_same first to end (spans ++ x ∷ []) (follow_more first at to spans x known.spans_right.reach sf st
            (same_earlier at to x.from x.to (same_back x.from at sf) (same_back x.to to st) earlier)) s);
        crossed = end_same first last xs to end s to_end;
        reached = reached;
        ends = subst (All (IsEnds first last xs)) (sym e)
            (All-push (IsEnds first last xs) spans x known.spans_right.ends (end_same first last xs at x.from sf known.spans_right.crossed, end_same first last xs to x.to st to_end));
        on_left = subst (All (IsLeft xs left)) (sym e)
            (All-push (IsLeft xs left) spans x known.spans_right.on_left (side (λ (y : Crossing). y.left) left left_sum known.left_is earlier x.from x.to x.left sf st l));
        on_right = subst (All (IsRight xs right)) (sym e)
            (All-push (IsRight xs right) spans x known.spans_right.on_right (side (λ (y : Crossing). y.right) right right_sum known.right_is earlier x.from x.to x.right sf st r));
      }

      none : IsSame end at → new ≡ spans → AreSpansUpTo first last xs left right j end new
      none s e = record {
        place = place;
        reach = subst (λ (ys : List CountSpan). Follow first ys end) (sym e) (follow_same first at end spans known.spans_right.reach s);
        crossed = end_same first last xs at end s known.spans_right.crossed;
        reached = reached;
        ends = subst (All (IsEnds first last xs)) (sym e) known.spans_right.ends;
        on_left = subst (All (IsLeft xs left)) (sym e) known.spans_right.on_left;
        on_right = subst (All (IsRight xs right)) (sym e) known.spans_right.on_right;
      }

  -- at a crossing, and so the next k + 1 of them are not after the end
  pub reached_more : (x : Crossing) → k < length xs → get_or xs k x ≡ x → IsEndUntil x.at last to → IsReached last xs (k + 1) end
  reached_more x within there until = ⊎_elim (λ h. more h.0 h.1) (λ s. stays s) known.spans_right.reached
    where
      stays : IsSame at last → IsReached last xs (k + 1) end
      stays s = inr (⊎_elim (λ h. absurd (not_reached h.0 s)) (λ h. same_trans end at last h.1 s) added)

      before : IsEarlier at last → IsEarlier x.at last → IsSame to x.at → IsEarlier end last
      before earlier x_earlier s = ⊎_elim
          (λ h. same_earlier x.at last end last (same_back end x.at (same_trans end to x.at h.1 s)) (same last) x_earlier)
          (λ h. same_earlier at last end last (same_back end at h.1) (same last) earlier) added

      behind : All (λ y. IsNotLater y.at at) (take k xs) → IsSame to x.at → All (λ y. IsNotLater y.at end) (take (k + 1) xs)
      behind past s = subst (All (λ (y : Crossing). IsNotLater y.at end)) (front_more xs k x within there) (All-push (λ (y : Crossing). IsNotLater y.at end) (take k xs) x
          (All-weaker (λ (y : Crossing). IsNotLater y.at at) (λ (y : Crossing). IsNotLater y.at end) (λ y h. not_later_not_later y.at at end h end_after.0) (take k xs) past)
          (same_not_later to end x.at end s (same end) end_after.1))

      at_last : IsEarlier at last → IsSame to last → IsSame end last
      at_last earlier s = ⊎_elim (λ h. same_trans end to last h.1 s) (λ h. absurd (h.0 (same_earlier at last at to (same at) (same_back to last s) earlier))) added

      more : IsEarlier at last → All (λ y. IsNotLater y.at at) (take k xs) → IsReached last xs (k + 1) end
      more earlier past = ⊎_elim (λ u. inl (before earlier u.0 u.1, behind past u.1)) (λ u. inr (at_last earlier u.1)) until

-- ---- the loop over the crossings
pub carried_none : (first last : Frac) (xs : List Crossing) (left right : ℤ) → IsPlace first → IsEarlier first last → (spans : List CountSpan) → spans ≡ []
    → AreCarriedUpTo first last xs left right 0 first left right spans
carried_none first last xs left right place some spans empty = subst (λ (ys : List CountSpan). AreCarriedUpTo first last xs left right 0 first left right ys) (sym empty) (record {
  spans_right = record {
    place = place;
    reach = same first;
    crossed = inl (same first);
    reached = inl (some, All-nil (λ (x : Crossing). IsNotLater x.at first));
    ends = All-nil (IsEnds first last xs);
    on_left = All-nil (IsLeft xs left);
    on_right = All-nil (IsRight xs right);
  };
  left_is = sums_none (λ (y : Crossing). y.left) xs left;
  right_is = sums_none (λ (y : Crossing). y.right) xs right;
})

module _ (first last : Frac) (xs : List Crossing) (up : IsSortedByKey (λ x. x.at) order_of xs) (left right : ℤ) (k : ℕ) (at : Frac) (left_sum right_sum : ℤ) (spans : List CountSpan)
    (known : AreCarriedUpTo first last xs left right k at left_sum right_sum spans) (to : Frac) (new : List CountSpan) (end : Frac) (place : IsPlace end)
    (added : IsSpanAdded at to left_sum right_sum spans new end) where
  pub carried_more : (x : Crossing) → k < length xs → get_or xs k x ≡ x → neg_ℤ (pos 128) ≤ℤ x.left → x.left ≤ℤ pos 127 → neg_ℤ (pos 128) ≤ℤ x.right → x.right ≤ℤ pos 127
      → IsEndUntil x.at last to → AreCarriedUpTo first last xs left right (k + 1) end (left_sum +ℤ x.left) (right_sum +ℤ x.right) new
  carried_more x within there left_least left_most right_least right_most until = record {
    spans_right = spans_next first last xs left right k at left_sum right_sum spans known to to_end most rest new end added place (k + 1)
        (reached_more first last xs left right k at left_sum right_sum spans known to to_end most rest new end added x within there until);
    left_is = sums_more (λ (y : Crossing). y.left) xs left k left_sum known.left_is x within there left_least left_most;
    right_is = sums_more (λ (y : Crossing). y.right) xs right k right_sum known.right_is x within there right_least right_most;
  }
    where
      to_end : IsCrossingEnd first last xs to
      to_end = ⊎_elim (λ u. inr (inr (x, (k, within, there), u.1))) (λ u. inr (inl u.1)) until

      most : IsNotLater to last
      most = ⊎_elim
          (λ u. same_not_later x.at last to last (same_back to x.at u.1) (same last) (at_most_of_less _ _ u.0))
          (λ u. same_not_later last last to last (same_back to last u.1) (same last) (not_later_self last)) until

      not_after : IsNotLater to x.at
      not_after = ⊎_elim
          (λ u. same_not_later x.at x.at to x.at (same_back to x.at u.1) (same x.at) (not_later_self x.at))
          (λ u. same_not_later last x.at to x.at (same_back to last u.1) (same x.at) (not_later_of_not x.at last u.0)) until

      rest : All (λ y. IsNotLater to y.at) (drop k xs)
      rest = All-weaker (λ (y : Crossing). IsNotLater x.at y.at) (λ (y : Crossing). IsNotLater to y.at) (λ y h. not_later_not_later to x.at y.at not_after h) (drop k xs) (rest_after xs up k x within there)

  pub carried_all : length xs ≤ k → IsSame to last → AreCarried first last xs left right new
  carried_all all last_to = record {
    covers = follow_same first end last new all_right.reach (same_back end last at_last);
    ends = all_right.ends;
    on_left = all_right.on_left;
    on_right = all_right.on_right;
  }
    where
      most : IsNotLater to last
      most = same_not_later last last to last (same_back to last last_to) (same last) (not_later_self last)

      rest : All (λ y. IsNotLater to y.at) (drop k xs)
      rest = subst (All (λ (y : Crossing). IsNotLater to y.at)) (sym (drop_all k xs all)) (All-nil (λ (y : Crossing). IsNotLater to y.at))

      at_last : IsSame end last
      at_last = ⊎_elim
          (λ h. same_trans end to last h.1 last_to)
          (λ h. ⊎_elim (λ r. absurd (h.0 (same_earlier at last at to (same at) (same_back to last last_to) r.0))) (λ s. same_trans end at last h.1 s) known.spans_right.reached) added

      all_right : AreSpansUpTo first last xs left right k end new
      all_right = spans_next first last xs left right k at left_sum right_sum spans known to (inr (inl last_to)) most rest new end added place k (inr at_last)
