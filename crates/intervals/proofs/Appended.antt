-- Intervals of which some come before all others: what is united of all, and what parts leave of all.
use Rattle.std.proofs.Common.{◌≡◌, Bool, true≢false, List, ◌++◌, sym, ◌∙◌, refl, ◌⊎◌, inl, inr, ⊎_elim}
use Rattle.std.specs.Prelude.{Contains}
use Rattle.std.specs.declared.cmp.Ordering.{Ordering}
use Rattle.std.specs.declared.cmp.Ordering.TheVariants.{Less}
use Rattle.std.specs.Cmp.{IsTotalOrder}
use Rattle.std.proofs.lemmas.List.Elements.{All-append, All-weaker, All-contains}
use Rattle.intervals.specs.declared.interval.Interval.{Interval}
use Rattle.intervals.specs.Cuts.{IsCut, IsProper, AreApart, Crosses, CrossesAny, IsEndOf, AreUnited, AreRest}
use Rattle.intervals.proofs.Lists.{any_of, any_left, any_right, any_cases, pairs_append}
use Rattle.intervals.proofs.Orders.{less}
use Rattle.intervals.proofs.Touching.{AreEndsOf, end_left, ends_left}
use Rattle.intervals.proofs.Remaining.{IsKnown, AreKnown}

-- each end of the first ones is before each of the others
abbrev pub AreBefore : {T : Type 0} → (T → T → Ordering) → List (Interval T) → List (Interval T) → Type 0
AreBefore {T} cmp xs ys = (s t : T) → IsEndOf xs s → IsEndOf ys t → cmp s t ≡ Less

module _ {T : Type 0} (xs ys : List (Interval T)) where
  end_right : (t : T) → IsEndOf ys t → IsEndOf (xs ++ ys) t
  end_right t h = any_right (λ x. (x.from ≡ t) ⊎ (x.to ≡ t)) xs ys h

  ends_right : (u : Interval T) → AreEndsOf ys u → AreEndsOf (xs ++ ys) u
  ends_right u h = (end_right u.from h.0, end_right u.to h.1)

-- the ends of one of them
module _ {T : Type 0} (xs : List (Interval T)) (x : Interval T) (there : Contains xs x) where
  own_from : IsEndOf xs x.from
  own_from = any_of (λ y. (y.from ≡ x.from) ⊎ (y.to ≡ x.from)) xs x there (inl refl)

  own_to : IsEndOf xs x.to
  own_to = any_of (λ y. (y.from ≡ x.to) ⊎ (y.to ≡ x.to)) xs x there (inr refl)

module _ {T : Type 0} (cmp : T → T → Ordering) where
  apart_append : (xs ys : List (Interval T)) → AreApart cmp xs → AreApart cmp ys → ((x y : Interval T) → Contains xs x → Contains ys y → cmp x.to y.from ≡ Less) → AreApart cmp (xs ++ ys)
  apart_append xs ys first second across = record {
    inside = All-append (IsProper cmp) xs ys first.inside second.inside;
    apart = pairs_append (λ x y. cmp x.to y.from ≡ Less) xs ys first.apart second.apart across;
  }

  pub united_append : (xs us ys vs : List (Interval T)) → AreUnited cmp xs us → AreUnited cmp ys vs → AreBefore cmp xs ys → AreUnited cmp (xs ++ ys) (us ++ vs)
  united_append xs us ys vs first second before = record {
    apart = apart_append us vs first.apart second.apart
        (λ u v in_u in_v. before u.to v.from (All-contains (AreEndsOf xs) us u first.ends in_u).1 (All-contains (AreEndsOf ys) vs v second.ends in_v).0);
    within = λ cut is. (
      λ h. ⊎_elim (λ c. any_left (Crosses cut) xs ys ((first.within cut is).0 c)) (λ c. any_right (Crosses cut) xs ys ((second.within cut is).0 c)) (any_cases (Crosses cut) us vs h),
      λ h. ⊎_elim (λ c. any_left (Crosses cut) us vs ((first.within cut is).1 c)) (λ c. any_right (Crosses cut) us vs ((second.within cut is).1 c)) (any_cases (Crosses cut) xs ys h),
    );
    ends = All-append (AreEndsOf (xs ++ ys)) us vs
        (All-weaker (AreEndsOf xs) (AreEndsOf (xs ++ ys)) (ends_left xs ys) us first.ends)
        (All-weaker (AreEndsOf ys) (AreEndsOf (xs ++ ys)) (ends_right xs ys) vs second.ends);
  }

module _ {T : Type 0} {cmp : T → T → Ordering} (o : IsTotalOrder cmp) where
  -- no cut goes through both
  not_both : (xs ys : List (Interval T)) → AreBefore cmp xs ys → (cut : T → Bool) → IsCut cmp cut → CrossesAny cut xs → ¬ CrossesAny cut ys
  not_both xs ys before cut is h k =
      let x = h.1 in
      let y = k.1 in
      let after = before x.to y.from (own_to xs x (h.0, h.2, h.3)) (own_from ys y (k.0, k.2, k.3)) in
      true≢false (sym (is x.to y.from k.4.0 (less o x.to y.from after)) ∙ h.4.1)

  module _ (whole parts rest : List (Interval T)) (first : AreRest cmp whole parts rest) (more others left : List (Interval T)) (second : AreRest cmp more others left)
      (wholes : AreBefore cmp whole more) (whole_others : AreBefore cmp whole others) (parts_more : AreBefore cmp parts more) (parts_others : AreBefore cmp parts others) where
    known_before : (s t : T) → IsKnown whole parts s → IsKnown more others t → cmp s t ≡ Less
    known_before s t (inl h) (inl k) = wholes s t h k
    known_before s t (inl h) (inr k) = whole_others s t h k
    known_before s t (inr h) (inl k) = parts_more s t h k
    known_before s t (inr h) (inr k) = parts_others s t h k

    known_left : (t : T) → IsKnown whole parts t → IsKnown (whole ++ more) (parts ++ others) t
    known_left t (inl h) = inl (end_left whole more t h)
    known_left t (inr h) = inr (end_left parts others t h)

    known_right : (t : T) → IsKnown more others t → IsKnown (whole ++ more) (parts ++ others) t
    known_right t (inl h) = inl (end_right whole more t h)
    known_right t (inr h) = inr (end_right parts others t h)

    pub rest_append : AreRest cmp (whole ++ more) (parts ++ others) (rest ++ left)
    rest_append = record {
      apart = apart_append cmp rest left first.apart second.apart
          (λ x y in_x in_y. known_before x.to y.from (All-contains (AreKnown whole parts) rest x first.ends in_x).1 (All-contains (AreKnown more others) left y second.ends in_y).0);
      within = λ cut is. (
        λ h. ⊎_elim
            (λ c. let k = (first.within cut is).0 c in (
              any_left (Crosses cut) whole more k.0,
              λ m. ⊎_elim (λ n. k.1 n) (λ n. not_both whole others whole_others cut is k.0 n) (any_cases (Crosses cut) parts others m),
            ))
            (λ c. let k = (second.within cut is).0 c in (
              any_right (Crosses cut) whole more k.0,
              λ m. ⊎_elim (λ n. not_both parts more parts_more cut is n k.0) (λ n. k.1 n) (any_cases (Crosses cut) parts others m),
            ))
            (any_cases (Crosses cut) rest left h),
        λ h. ⊎_elim
            (λ c. any_left (Crosses cut) rest left ((first.within cut is).1 (c, λ n. h.1 (any_left (Crosses cut) parts others n))))
            (λ c. any_right (Crosses cut) rest left ((second.within cut is).1 (c, λ n. h.1 (any_right (Crosses cut) parts others n))))
            (any_cases (Crosses cut) whole more h.0),
      );
      ends = All-append (AreKnown (whole ++ more) (parts ++ others)) rest left
          (All-weaker (AreKnown whole parts) (AreKnown (whole ++ more) (parts ++ others)) (λ r k. (known_left r.from k.0, known_left r.to k.1)) rest first.ends)
          (All-weaker (AreKnown more others) (AreKnown (whole ++ more) (parts ++ others)) (λ r k. (known_right r.from k.0, known_right r.to k.1)) left second.ends);
    }
