-- Where along an edge something is so: lists of intervals put together, and the interval where linear values are at least 0.
use Rattle.std.proofs.Common.{◌≡◌, ◌⊎◌, inl, inr, List, [], ◌∷◌, ◌++◌, Contains, refl, sym, subst, ap, ◌∙◌, arith, Option, Some, None}
use Rattle.std.specs.Prelude.{ℤ, pos, ◌<ℤ◌, ◌≤ℤ◌, ◌↔◌, ◌≢◌, IfSome, IfNone, option_to_list}
use Rattle.std.proofs.lemmas.List.{append_assoc}
use Rattle.std.proofs.lemmas.List.Elements.{All-append, Contains-append_left, Contains-append_right, Contains-append_cases}
use Rattle.integers.proofs.Comparisons.{at_most_of_less, at_most_of_same, positive_of_more}
use Rattle.exact_frac.specs.declared.Frac.{Frac}
use Rattle.lattice.specs.declared.points.Corner.{Corner}
use Rattle.lattice.specs.Points.{Point, point_of}
use Rattle.geometry.specs.Faces.{share_point}
use Rattle.geometry.specs.Parts.{Part, Edge}
use Rattle.hiding_laws.specs.Values.{value_at}
use Rattle.intervals.specs.declared.interval.Interval.{Interval}
use Rattle.span_slow.specs.declared.linear.Linear.{Linear}
use Rattle.geometry.specs.Places.{IsPlace, IsEarlier, IsValue, IsBetween, IsFromTo, HasNoEndAt}
use Rattle.span_slow.specs.inner.Hidden.{AreNonnegative, HasRoot, IsRootOrEnd, IsWhereNonnegative, AreWhereAt, AreAddedAt}
use Rattle.cut_plane.specs.Beyond.{IsWithinAny, IsStretch}
use Rattle.cut_plane.proofs.OneInterval.{within_none, within_one, all_one}
use Rattle.span_slow.proofs.LinearValues.{same_root}
use Rattle.geometry.proofs.PlaceFractions.{strict, value_at_start, value_at_finish, earlier_between}

-- ---- within lists of intervals
within_either : (xs ys : List (Interval Frac)) (n m : ℤ) → IsWithinAny (xs ++ ys) n m ↔ (IsWithinAny xs n m ⊎ IsWithinAny ys n m)
within_either xs ys n m = (
  (λ (x, listed, h). parts x h (Contains-append_cases xs ys x listed)),
  whole,
)
  where
    parts : (x : Interval Frac) → IsBetween x.from x.to n m → Contains xs x ⊎ Contains ys x → IsWithinAny xs n m ⊎ IsWithinAny ys n m
    parts x h (inl listed) = inl (x, listed, h)
    parts x h (inr listed) = inr (x, listed, h)

    whole : IsWithinAny xs n m ⊎ IsWithinAny ys n m → IsWithinAny (xs ++ ys) n m
    whole (inl (x, listed, h)) = (x, Contains-append_left xs ys x listed, h)
    whole (inr (x, listed, h)) = (x, Contains-append_right xs ys x listed, h)

-- ---- where one thing is so, or another
module _ (O : Point → Type 0) {s : Part} (e : Edge s) where
  pub where_alike : (P Q : Point → Type 0) (xs : List (Interval Frac))
      → ((n m : ℤ) → pos 0 <ℤ n → n <ℤ m → O (share_point e.a e.b n m) → P (share_point e.a e.b n m) ↔ Q (share_point e.a e.b n m))
      → AreWhereAt O e P xs → AreWhereAt O e Q xs
  where_alike P Q xs alike h = record {
    stretches = h.stretches;
    ends = h.ends;
    exactly = λ n m least most ordinary.
        let both = alike n m least most ordinary in
        let known = h.exactly n m least most ordinary in
        ((λ q. known.0 (both.1 q)), (λ within. both.0 (known.1 within)));
  }

  pub where_none : (P : Point → Type 0)
      → ((n m : ℤ) → pos 0 <ℤ n → n <ℤ m → O (share_point e.a e.b n m) → ¬ P (share_point e.a e.b n m))
      → AreWhereAt O e P []
  where_none P never = record {
    stretches = λ k x h. absurd (omega arith);
    ends = λ k x h. absurd (omega arith);
    exactly = λ n m least most ordinary. ((λ p. absurd (never n m least most ordinary p)), (λ within. absurd (within_none n m within)));
  }

  pub where_either : (P Q : Point → Type 0) (xs ys : List (Interval Frac)) → AreWhereAt O e P xs → AreWhereAt O e Q ys → AreWhereAt O e (λ p. P p ⊎ Q p) (xs ++ ys)
  where_either P Q xs ys h k = record {
    stretches = All-append IsStretch xs ys h.stretches k.stretches;
    ends = All-append (λ x. HasNoEndAt O e x.from x.to) xs ys h.ends k.ends;
    exactly = λ n m least most ordinary. either n m (h.exactly n m least most ordinary) (k.exactly n m least most ordinary);
  }
    where
      either : (n m : ℤ) → P (share_point e.a e.b n m) ↔ IsWithinAny xs n m → Q (share_point e.a e.b n m) ↔ IsWithinAny ys n m
          → (P (share_point e.a e.b n m) ⊎ Q (share_point e.a e.b n m)) ↔ IsWithinAny (xs ++ ys) n m
      either n m f g = ((λ h. (within_either xs ys n m).1 (there h)), (λ h. back ((within_either xs ys n m).0 h)))
        where
          there : P (share_point e.a e.b n m) ⊎ Q (share_point e.a e.b n m) → IsWithinAny xs n m ⊎ IsWithinAny ys n m
          there (inl p) = inl (f.0 p)
          there (inr q) = inr (g.0 q)

          back : IsWithinAny xs n m ⊎ IsWithinAny ys n m → P (share_point e.a e.b n m) ⊎ Q (share_point e.a e.b n m)
          back (inl h) = inl (f.1 h)
          back (inr h) = inr (g.1 h)

-- ---- intervals that are added one after another
module _ (O : Point → Type 0) {s : Part} (e : Edge s) where
  pub added_one : (P : Point → Type 0) (old new : List (Interval Frac)) (o : Option (Interval Frac)) → AreWhereAt O e P (option_to_list o) → new ≡ old ++ option_to_list o → AreAddedAt O e P old new
  added_one P old new o right all = record { added = option_to_list o; all = all; right = right }

  pub added_then : (P Q : Point → Type 0) (old mid new : List (Interval Frac)) → AreAddedAt O e P old mid → AreAddedAt O e Q mid new → AreAddedAt O e (λ p. P p ⊎ Q p) old new
  added_then P Q old mid new first second = record {
    added = first.added ++ second.added;
    all = second.all ∙ ap (λ (xs : List (Interval Frac)). xs ++ second.added) first.all ∙ append_assoc old first.added second.added;
    right = where_either O e P Q first.added second.added first.right second.right;
  }

  pub added_alike : (P Q : Point → Type 0) (old new : List (Interval Frac))
      → ((n m : ℤ) → pos 0 <ℤ n → n <ℤ m → O (share_point e.a e.b n m) → P (share_point e.a e.b n m) ↔ Q (share_point e.a e.b n m))
      → AreAddedAt O e P old new → AreAddedAt O e Q old new
  added_alike P Q old new alike h = record { added = h.added; all = h.all; right = where_alike O e P Q h.added alike h.right }

-- ---- values that are linear along the edge
-- the linear is what F is worth along the edge
abbrev pub Tells : {s : Part} → Edge s → Linear → (Point → ℤ) → Type 0
Tells e v F = (v.start ≡ F (point_of e.a)) × (v.end ≡ F (point_of e.b))

pub told : {s : Part} (e : Edge s) (v : Linear) (F : Point → ℤ) (n m : ℤ) → Tells e v F → F (share_point e.a e.b n m) ≡ value_at (F (point_of e.a)) (F (point_of e.b)) n m
    → value_at v.start v.end n m ≡ F (share_point e.a e.b n m)
told e v F n m (start, end) share = (λ i. value_at (start i) (end i) n m) ∙ sym share

-- the edge's corners are those of the linear
pub tells : {s : Part} (e : Edge s) (v : Linear) (F : Point → ℤ) (a b : Corner) → e.a ≡ a → e.b ≡ b → v.start ≡ F (point_of a) → v.end ≡ F (point_of b) → Tells e v F
tells e v F a b at_a at_b start end = (start ∙ ap (λ (c : Corner). F (point_of c)) (sym at_a), end ∙ ap (λ (c : Corner). F (point_of c)) (sym at_b))

-- one of them changes and is 0 at n / m
abbrev pub HasRootAt : List Linear → ℤ → ℤ → Type 0
HasRootAt [] n m = ⊥
HasRootAt (v ∷ vs) n m = ((v.start ≢ v.end) × (value_at v.start v.end n m ≡ pos 0)) ⊎ HasRootAt vs n m

abbrev pub IsRootOrEndAt : List Linear → ℤ → ℤ → Type 0
IsRootOrEndAt linears n m = (n ≡ pos 0) ⊎ (n ≡ m) ⊎ HasRootAt linears n m

root_at : (linears : List Linear) (r : Frac) (n m : ℤ) → IsValue r n m → HasRoot linears r → HasRootAt linears n m
root_at [] r n m same h = elim h [ ]
root_at (v ∷ vs) r n m same (inl (changes, root)) = inl (changes, same_root v.start v.end n m r.num r.den r.positive same root)
root_at (v ∷ vs) r n m same (inr h) = inr (root_at vs r n m same h)

pub cut_at : (linears : List Linear) (r : Frac) (n m : ℤ) → IsValue r n m → IsRootOrEnd linears r → IsRootOrEndAt linears n m
cut_at linears r n m same (inl h) = inl (value_at_start r.num r.den n m r.positive same h)
cut_at linears r n m same (inr (inl h)) = inr (inl (value_at_finish r.num r.den n m r.positive same h))
cut_at linears r n m same (inr (inr h)) = inr (inr (root_at linears r n m same h))

-- P holds at the points of O exactly where all the values are at least 0, and where one of them begins or ceases to be so there is none
module _ (O : Point → Type 0) {s : Part} (e : Edge s) (P : Point → Type 0) (linears : List Linear)
    (inside : (n m : ℤ) → pos 0 <ℤ n → n <ℤ m → O (share_point e.a e.b n m) → P (share_point e.a e.b n m) ↔ AreNonnegative linears n m)
    (apart : (n m : ℤ) → pos 0 <ℤ m → pos 0 ≤ℤ n → n ≤ℤ m → AreNonnegative linears n m → IsRootOrEndAt linears n m → ¬ O (share_point e.a e.b n m))
    (x : Interval Frac) (least : IsWhereNonnegative linears x) where
  -- so a point of O where P holds is not at an end
  is_between : (n m : ℤ) → pos 0 <ℤ n → n <ℤ m → O (share_point e.a e.b n m) → P (share_point e.a e.b n m) → IsBetween x.from x.to n m
  is_between n m hn hm ordinary p =
      let positive = positive_of_more n m hn hm in
      let all = (inside n m hn hm ordinary).0 p in
      let closed = (least.exactly n m positive (at_most_of_less _ _ hn) (at_most_of_less _ _ hm)).1 all in
      let cut : IsRootOrEndAt linears n m → ⊥ = λ c. apart n m positive (at_most_of_less _ _ hn) (at_most_of_less _ _ hm) all c ordinary in (
        strict closed.0 (λ h. cut (cut_at linears x.from n m (sym h) least.from_end)),
        strict closed.1 (λ h. cut (cut_at linears x.to n m h least.to_end)),
      )

  holds_between : (n m : ℤ) → pos 0 <ℤ n → n <ℤ m → O (share_point e.a e.b n m) → IsBetween x.from x.to n m → P (share_point e.a e.b n m)
  holds_between n m hn hm ordinary between =
      (inside n m hn hm ordinary).1 ((least.exactly n m (positive_of_more n m hn hm) (at_most_of_less _ _ hn) (at_most_of_less _ _ hm)).0 (at_most_of_less _ _ between.0, at_most_of_less _ _ between.1))

  at_end : (r : Frac) → IsPlace r → IsRootOrEnd linears r → IsFromTo x.from x.to r.num r.den → ¬ O (share_point e.a e.b r.num r.den)
  at_end r place cut within =
      apart r.num r.den r.positive place.least place.most ((least.exactly r.num r.den r.positive place.least place.most).0 within) (cut_at linears r r.num r.den refl cut)

  where_one : IsEarlier x.from x.to → AreWhereAt O e P (x ∷ [])
  where_one earlier = record {
    stretches = all_one IsStretch x (record { from_place = least.from_place; to_place = least.to_place; earlier = earlier });
    ends = all_one (λ x. HasNoEndAt O e x.from x.to) x (at_end x.from least.from_place least.from_end (at_most_of_same _ _ refl, at_most_of_less _ _ earlier), at_end x.to least.to_place least.to_end (at_most_of_less _ _ earlier, at_most_of_same _ _ refl));
    exactly = λ n m hn hm ordinary.
        ((λ p. (within_one x n m).0 (is_between n m hn hm ordinary p)), (λ within. holds_between n m hn hm ordinary ((within_one x n m).1 within)));
  }

  where_no_inside : ¬ IsEarlier x.from x.to → AreWhereAt O e P []
  where_no_inside later = where_none O e P (λ n m hn hm ordinary p.
      let between = is_between n m hn hm ordinary p in
      later (earlier_between x.from.num x.from.den x.to.num x.to.den n m x.from.positive x.to.positive (positive_of_more n m hn hm) between.0 between.1))

  -- kept if it has an inside
  pub where_proper : (o : Option (Interval Frac)) → IfSome o (λ y. (y ≡ x) × IsEarlier x.from x.to) → IfNone o (¬ IsEarlier x.from x.to) → AreWhereAt O e P (option_to_list o)
  where_proper (Some y) (same, earlier) dropped = subst (λ (z : Interval Frac). AreWhereAt O e P (z ∷ [])) (sym same) (where_one earlier)
  where_proper None kept later = where_no_inside later
