-- Searches, one after another.
use Rattle.std.proofs.Common.{◌≡◌, ◌≢◌, ℕ, ◌+◌, ◌-◌, ◌<◌, ◌≤◌, ◌⊎◌, inl, inr, List, [], ◌∷◌, ◌++◌, All, length, get_or, slice_get, Some, None, Option, refl, sym, subst, ◌∙◌, arith}
use Rattle.std.specs.Prelude.{AllPairs}
use Rattle.std.proofs.lemmas.Bool.{cases_lt}
use Rattle.std.proofs.lemmas.Option.{slice_get-get_or}
use Rattle.std.proofs.lemmas.List.{length-append, get_or_append_left, get_or-append_right}
use Rattle.std.proofs.lemmas.List.Elements.{All-nil, All-cons, All-append, All-weaker}
use Rattle.geometry.specs.Parts.{Part}
use Rattle.geometry.proofs.Listed.{same_element}
use Rattle.solid_mesh.specs.Meetings.{HaveCommonX, HaveCommonBox, MeetApart}
use Rattle.solid_mesh.specs.inner.Searches.{AtHalf, ComesBefore, IsMeeting, IsPair, Rises, Searched}
use Rattle.solid_mesh.specs.declared.search.Meeting.{Meeting}
use Rattle.solid_mesh.specs.declared.search.SearchResult.{SearchResult}

-- ---- lists without a repetition
module _ {X : Type 0} where
  apart-nil : AllPairs (λ (x y : X). x ≢ y) []
  apart-nil i j d less within = absurd (omega arith)

  apart-one : (x : X) → AllPairs (λ (x y : X). x ≢ y) (x ∷ [])
  apart-one x i j d less within = absurd (omega arith)

  apart-append : (P Q : X → Type 0) → ((x : X) → P x → Q x → ⊥) → (xs ys : List X) → All P xs → All Q ys
      → AllPairs (λ (x y : X). x ≢ y) xs → AllPairs (λ (x y : X). x ≢ y) ys → AllPairs (λ (x y : X). x ≢ y) (xs ++ ys)
  apart-append P Q disjoint xs ys p q first second i j d less within e = by (cases_lt i (length xs)) (cases_lt j (length xs))
    where
      in_left : (k : ℕ) → k < length xs → get_or (xs ++ ys) k d ≡ get_or xs k d
      in_left k h = get_or_append_left xs ys d k h

      in_right : (k : ℕ) → length xs ≤ k → get_or (xs ++ ys) k d ≡ get_or ys (k - length xs) d
      in_right k h = get_or-append_right xs ys (length xs) k d refl h

      bound : j < length xs + length ys
      bound = omega (arith, within, length-append xs ys)

      by : ((i < length xs) ⊎ (length xs ≤ i)) → ((j < length xs) ⊎ (length xs ≤ j)) → ⊥
      by (inl h) (inl k) = first i j d less k (sym (in_left i h) ∙ e ∙ in_left j k)
      by (inl h) (inr k) =
          let there : j - length xs < length ys = omega (arith, bound) in
          disjoint (get_or xs i d) (p i d h) (subst Q (sym (sym (in_left i h) ∙ e ∙ in_right j k)) (q (j - length xs) d there))
      by (inr h) (inl k) = omega arith
      by (inr h) (inr k) =
          let there : j - length xs < length ys = omega (arith, bound) in
          let before : i - length xs < j - length xs = omega arith in
          second (i - length xs) (j - length xs) d before there (sym (in_right i h) ∙ e ∙ in_right j k)

-- ---- counts
rises-none : (Q : (ℕ × ℕ) → Type 0) (n m : ℕ) → m ≡ n → Rises Q n m
rises-none Q n m e = record { pairs = []; hold = All-nil Q; differ = apart-nil; by = omega arith }

rises-one : (Q : (ℕ × ℕ) → Type 0) (p : ℕ × ℕ) → Q p → (n m : ℕ) → m ≡ n + 1 → Rises Q n m
rises-one Q p h n m e = record { pairs = p ∷ []; hold = All-cons Q p [] h (All-nil Q); differ = apart-one p; by = omega arith }

pub rises-as : (P Q : (ℕ × ℕ) → Type 0) → ((p : ℕ × ℕ) → P p → Q p) → (n m : ℕ) → Rises P n m → Rises Q n m
rises-as P Q weaker n m r = record { pairs = r.pairs; hold = All-weaker P Q weaker r.pairs r.hold; differ = r.differ; by = r.by }

rises-then : (P Q R : (ℕ × ℕ) → Type 0) → ((p : ℕ × ℕ) → P p → Q p → ⊥) → ((p : ℕ × ℕ) → P p → R p) → ((p : ℕ × ℕ) → Q p → R p)
    → (k m n : ℕ) → Rises P k m → Rises Q m n → Rises R k n
rises-then P Q R disjoint left right k m n first second = record {
  pairs = first.pairs ++ second.pairs;
  hold = All-append R first.pairs second.pairs (All-weaker P R left first.pairs first.hold) (All-weaker Q R right second.pairs second.hold);
  differ = apart-append P Q disjoint first.pairs second.pairs first.hold second.hold first.differ second.differ;
  by = omega (arith, first.by, second.by, length-append first.pairs second.pairs);
}

module _ (s : Part) (halves : List ℕ) where
  -- ---- searches
  -- nothing is tested where none of the pairs meets
  pub searched-apart : (Q : (ℕ × ℕ) → Type 0) → ((p : ℕ × ℕ) → Q p → AtHalf (MeetApart s) halves p → ⊥) → (x : SearchResult) → Searched s halves Q x x
  searched-apart Q apart x = record {
    boxes = rises-none Q _ _ refl;
    pairs = rises-none _ _ _ refl;
    down = λ i t h. h;
    least = λ p q meets h. apart p q meets;
    right = λ h. h;
  }

  pub searched-as : (P Q : (ℕ × ℕ) → Type 0) → ((p : ℕ × ℕ) → P p → Q p) → ((p : ℕ × ℕ) → Q p → P p) → (x y : SearchResult) → Searched s halves P x y → Searched s halves Q x y
  searched-as P Q to from x y h = record {
    boxes = rises-as P Q to _ _ h.boxes;
    pairs = rises-as (λ p. P p × AtHalf (HaveCommonBox s) halves p) (λ p. Q p × AtHalf (HaveCommonBox s) halves p) (λ p (q, box). (to p q, box)) _ _ h.pairs;
    down = h.down;
    least = λ p q. h.least p (from p q);
    right = h.right;
  }

  pub searched-then : (P Q R : (ℕ × ℕ) → Type 0) → ((p : ℕ × ℕ) → P p → Q p → ⊥) → ((p : ℕ × ℕ) → P p → R p) → ((p : ℕ × ℕ) → Q p → R p) → ((p : ℕ × ℕ) → R p → P p ⊎ Q p)
      → (x y z : SearchResult) → Searched s halves P x y → Searched s halves Q y z → Searched s halves R x z
  searched-then P Q R disjoint left right either x y z first second = record {
    boxes = rises-then P Q R disjoint left right _ _ _ first.boxes second.boxes;
    pairs = rises-then (λ p. P p × AtHalf (HaveCommonBox s) halves p) (λ p. Q p × AtHalf (HaveCommonBox s) halves p) (λ p. R p × AtHalf (HaveCommonBox s) halves p)
        (λ p (a, box) (b, box'). disjoint p a b) (λ p (a, box). (left p a, box)) (λ p (b, box). (right p b, box)) _ _ _ first.pairs second.pairs;
    down = λ i t h. first.down i t (second.down i t h);
    least = λ p r meets h. by p meets h (either p r);
    right = λ h. second.right (first.right h);
  }
    where
      by : (p : ℕ × ℕ) → AtHalf (MeetApart s) halves p → ComesBefore p.0 p.1 z.first → P p ⊎ Q p → ⊥
      by p meets h (inl a) = first.least p a meets (second.down p.0 p.1 h)
      by p meets h (inr b) = second.least p b meets h

  -- ---- one test
  module _ (edge tri : ℕ) (within : edge < length halves) (common : AtHalf (HaveCommonX s) halves (edge, tri)) (old new : SearchResult) (one_box : new.meter.boxes ≡ old.meter.boxes + 1) where
    abbrev half : ℕ
    half = get_or halves edge 0

    at : slice_get halves edge ≡ Some half
    at = slice_get-get_or halves edge 0 within

    abbrev This : (ℕ × ℕ) → Type 0
    This p = IsPair s halves edge tri p

    boxes_rise : Rises This old.meter.boxes new.meter.boxes
    boxes_rise = rises-one This (edge, tri) (refl, common) _ _ one_box

    -- what is known of the edge and the triangle is known of the pair
    at_this : (C : (ℕ × ℕ) → Type 0) → C (edge, tri) → (p : ℕ × ℕ) → This p → C p
    at_this C h p this = subst C (sym this.0) h

    pair_rises : AtHalf (HaveCommonBox s) halves (edge, tri) → new.meter.pairs ≡ old.meter.pairs + 1 → Rises (λ p. This p × AtHalf (HaveCommonBox s) halves p) old.meter.pairs new.meter.pairs
    pair_rises box e = rises-one (λ p. This p × AtHalf (HaveCommonBox s) halves p) (edge, tri) ((refl, common), box) _ _ e

    -- the pair doesn't meet
    pub tested-apart : (AtHalf (MeetApart s) halves (edge, tri) → ⊥) → new.meter.pairs ≡ old.meter.pairs → new.first ≡ old.first → Searched s halves This old new
    tested-apart apart pairs same = record {
      boxes = boxes_rise;
      pairs = rises-none _ _ _ pairs;
      down = λ i t h. subst (ComesBefore i t) same h;
      least = at_this (λ p. AtHalf (MeetApart s) halves p → ComesBefore p.0 p.1 new.first → ⊥) (λ meets h. apart meets);
      right = subst (IsMeeting s halves) (sym same);
    }

    -- the pair isn't before the one that was found
    pub tested-later : (ComesBefore edge tri old.first → ⊥) → new.meter.pairs ≡ old.meter.pairs → new.first ≡ old.first → Searched s halves This old new
    tested-later later pairs same = record {
      boxes = boxes_rise;
      pairs = rises-none _ _ _ pairs;
      down = λ i t h. subst (ComesBefore i t) same h;
      least = at_this (λ p. AtHalf (MeetApart s) halves p → ComesBefore p.0 p.1 new.first → ⊥) (λ meets h. later (subst (ComesBefore edge tri) same h));
      right = subst (IsMeeting s halves) (sym same);
    }

    -- the boxes meet, and the pair doesn't
    pub tested-missed : AtHalf (HaveCommonBox s) halves (edge, tri) → (MeetApart s half tri → ⊥) → new.meter.pairs ≡ old.meter.pairs + 1 → new.first ≡ old.first → Searched s halves This old new
    tested-missed box apart pairs same = record {
      boxes = boxes_rise;
      pairs = pair_rises box pairs;
      down = λ i t h. subst (ComesBefore i t) same h;
      least = at_this (λ p. AtHalf (MeetApart s) halves p → ComesBefore p.0 p.1 new.first → ⊥)
          (λ (other, there, meets) h. apart (subst (λ (k : ℕ). MeetApart s k tri) (same_element halves edge edge other half refl there at) meets));
      right = subst (IsMeeting s halves) (sym same);
    }

    -- the pair meets, and is before the one that was found
    pub tested-found : AtHalf (HaveCommonBox s) halves (edge, tri) → MeetApart s half tri → new.meter.pairs ≡ old.meter.pairs + 1 → ComesBefore edge tri old.first → new.first ≡ Some (record { edge = edge; tri = tri }) → Searched s halves This old new
    tested-found box meets pairs before is = record {
      boxes = boxes_rise;
      pairs = pair_rises box pairs;
      down = λ i t h. through i t old.first before (subst (ComesBefore i t) is h);
      least = at_this (λ p. AtHalf (MeetApart s) halves p → ComesBefore p.0 p.1 new.first → ⊥) (λ there h. itself (subst (ComesBefore edge tri) is h));
      right = λ h. subst (IsMeeting s halves) (sym is) (half, at, meets);
    }
      where
        through : (i t : ℕ) (first : Option Meeting) → ComesBefore edge tri first → ((i < edge) ⊎ ((i ≡ edge) × (t < tri))) → ComesBefore i t first
        through i t None b h = tt
        through i t (Some m) (inl b) (inl h) = inl (omega arith)
        through i t (Some m) (inl b) (inr (e, h)) = inl (omega arith)
        through i t (Some m) (inr (e, b)) (inl h) = inl (omega arith)
        through i t (Some m) (inr (e, b)) (inr (f, h)) = inr (omega arith, omega arith)

        itself : ((edge < edge) ⊎ ((edge ≡ edge) × (tri < tri))) → ⊥
        itself (inl h) = omega arith
        itself (inr (e, h)) = omega arith
