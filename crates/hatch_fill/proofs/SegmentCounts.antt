-- How many of a segment's places are left of a point: one where the segment crosses the point's hatch line to its left.
use Rattle.std.proofs.Common.{◌≡◌, ◌⊎◌, inl, inr, ℕ, ◌≤◌, Bool, true, List, Contains, get_or, sym, ap, subst, ◌∙◌, arith}
use Rattle.std.specs.Prelude.{ℤ, pos, ◌*ℤ◌, ◌<ℤ◌, ◌≤ℤ◌}
use Rattle.std.specs.List.{AllPairs}
use Rattle.std.proofs.lemmas.Int.{ints, by_lt_z}
use Rattle.std.proofs.lemmas.List.Elements.{All-contains}
use Rattle.integers.proofs.Comparisons.{less_not_same, less_not_at_most}
use Rattle.lattice.specs.declared.lines.Line.{Line}
use Rattle.lattice.specs.declared.points.Spot.{Spot}
use Rattle.lattice.specs.Triple.{Triple}
use Rattle.lattice.specs.Points.{Point, IsPoint, of_spot, across_of}
use Rattle.lattice.specs.Lines.{IsOnLine}
use Rattle.lattice.specs.Cuts.{Plane, toward_of}
use Rattle.cut_plane.specs.declared.segments.Segment.{Segment}
use Rattle.cut_plane.proofs.Sights.{sight_of}
use Rattle.cut_plane.specs.Diagonals.{diagonal_of}
use Rattle.cut_plane.proofs.OverDiagonals.{GoesOver, CrossesLeftOf}
use Rattle.hatch_fill.specs.declared.places.HatchPlace.{HatchPlace}
use Rattle.hatch_fill.specs.inner.Numbers.{IsFirstNumber}
use Rattle.hatch_fill.specs.inner.Meetings.{IsMeeting}
use Rattle.hatch_fill.specs.inner.Crossings.{IsMeetingAmong, AreMeetings, AreCrossings}
use Rattle.hatch_fill.proofs.Counts.{passing, passing_append, some_passes, one_passes, Tally, tally_either}
use Rattle.hatch_fill.proofs.Crossed.{has_meeting}
use Rattle.hatch_fill.proofs.MeetingLists.{numbers_apart}
use Rattle.hatch_fill.proofs.Paired.{is_left, left_line, left_less, left_of}
use Rattle.hatch_fill.proofs.Turns.{IsAt, IsAcross, across_of_goes, less_of_goes, goes_of_less}

-- one hatch line has one number
pub one_number : (i j : ℤ) (spacing : ℕ) → 1 ≤ spacing → i *ℤ pos spacing ≡ j *ℤ pos spacing → i ≡ j
one_number i j spacing some e =
    by_lt_z i j (λ l. absurd (less_not_same _ _ (numbers_apart i j spacing some l) e)) (λ l. by_lt_z j i (λ k. absurd (less_not_same _ _ (numbers_apart j i spacing some k) (sym e))) (λ k. same l k))
  where
    same : j ≤ℤ i → i ≤ℤ j → i ≡ j
    same h k = omega (arith, ints)

module _ (c : Plane) (l : Line) (k m : Spot) (on_k : IsOnLine (toward_of c) l (of_spot k)) (on_m : IsOnLine (toward_of c) l (of_spot m)) (spacing : ℕ) (some : 1 ≤ spacing) (a b : ℤ)
    (first : IsFirstNumber (diagonal_of (toward_of c) (of_spot k)) k.w spacing a) (second : IsFirstNumber (diagonal_of (toward_of c) (of_spot m)) m.w spacing b) (number : ℤ) where
  abbrev d : Triple
  d = toward_of c

  abbrev D : ℤ
  D = number *ℤ pos spacing

  pub is_across : a ≤ℤ number → number <ℤ b → IsAcross D (sight_of d (of_spot k)) (sight_of d (of_spot m))
  is_across h below = record {
    from = (first number).0 h;
    to = by_lt_z (D *ℤ m.w) (diagonal_of d (of_spot m)) (λ l. l) (λ l. absurd (less_not_at_most number b below ((second number).1 l)));
  }

  pub from_first : IsAcross D (sight_of d (of_spot k)) (sight_of d (of_spot m)) → a ≤ℤ number
  from_first h = (first number).1 h.from

  pub before_second : IsAcross D (sight_of d (of_spot k)) (sight_of d (of_spot m)) → number <ℤ b
  before_second h = by_lt_z number b (λ l. l) (λ l. absurd (less_not_at_most _ _ h.to ((second number).0 l)))

  module _ (p : Point) (positive : IsPoint p) (at : IsAt d D p) (places : List HatchPlace) (are : AreMeetings l spacing a b places) where
    among : (t : HatchPlace) → Contains places t → t.diagonal ≡ D → (a ≤ℤ number) × (number <ℤ b) × IsMeeting l D t
    among t there e =
        let (j, h, below, is) = All-contains (IsMeetingAmong l spacing a b) places t are.each there in
        let same = one_number j number spacing some (sym is.at ∙ e) in
        (subst (λ (z : ℤ). a ≤ℤ z) same h, subst (λ (z : ℤ). z <ℤ b) same below, subst (λ (z : ℤ). IsMeeting l (z *ℤ pos spacing) t) same is)

    found : GoesOver d (of_spot k) (of_spot m) p → (t : HatchPlace) × Contains places t × (is_left D (across_of d p) p.w t ≡ true)
    found goes =
        let h = across_of_goes d l (of_spot k) (of_spot m) p k.positive m.positive positive D at goes in
        let (t, there, e) = are.all number (from_first h) (before_second h) (has_meeting c l k m D h on_k on_m) in
        let (least, below, is) = among t there e in
        (t, there, left_of D (across_of d p) p.w t e (less_of_goes d l (of_spot k) (of_spot m) p k.positive m.positive positive D at on_k on_m t.across.num t.across.den t.across.positive is.crosses is.on h goes))

    back : (t : HatchPlace) → Contains places t → is_left D (across_of d p) p.w t ≡ true → GoesOver d (of_spot k) (of_spot m) p
    back t there left =
        let (least, below, is) = among t there (left_line D (across_of d p) p.w t left) in
        goes_of_less d l (of_spot k) (of_spot m) p k.positive m.positive positive D at on_k on_m t.across.num t.across.den t.across.positive is.crosses is.on (is_across least below) (left_less D (across_of d p) p.w t left)

    apart : AllPairs (λ (x y : HatchPlace). is_left D (across_of d p) p.w x ≡ true → is_left D (across_of d p) p.w y ≡ true → ⊥) places
    apart i j e less within f g = are.once i j e less within (left_line D (across_of d p) p.w (get_or places i e) f ∙ sym (left_line D (across_of d p) p.w (get_or places j e) g))

    pub one_way : Tally (GoesOver d (of_spot k) (of_spot m) p) (passing (is_left D (across_of d p) p.w) places)
    one_way = by (some_passes (is_left D (across_of d p) p.w) places)
      where
        one_not_none : (n : ℕ) → n ≡ 1 → n ≡ 0 → ⊥
        one_not_none n e f = omega arith

        by : ((t : HatchPlace) × Contains places t × (is_left D (across_of d p) p.w t ≡ true)) ⊎ (passing (is_left D (across_of d p) p.w) places ≡ 0) → Tally (GoesOver d (of_spot k) (of_spot m) p) (passing (is_left D (across_of d p) p.w) places)
        by (inl (t, there, left)) = inl (back t there left, one_passes (is_left D (across_of d p) p.w) places apart t there left)
        by (inr none) = inr ((λ goes. let (t, there, left) = found goes in one_not_none _ (one_passes (is_left D (across_of d p) p.w) places apart t there left) none), none)

-- both ways
pub crosses_once : (c : Plane) (x : Segment) → IsOnLine (toward_of c) x.line (of_spot x.a) → IsOnLine (toward_of c) x.line (of_spot x.b) → (spacing : ℕ) → 1 ≤ spacing → (number : ℤ) (p : Point) → IsPoint p
    → IsAt (toward_of c) (number *ℤ pos spacing) p → (places : List HatchPlace) → AreCrossings (toward_of c) spacing x places
    → Tally (CrossesLeftOf (toward_of c) (of_spot x.a) (of_spot x.b) p) (passing (is_left (number *ℤ pos spacing) (across_of (toward_of c) p) p.w) places)
crosses_once c x on_a on_b spacing some number p positive at places h =
    subst (λ (n : ℕ). Tally (CrossesLeftOf d (of_spot x.a) (of_spot x.b) p) n) (sym (passing_append left h.rising h.falling) ∙ ap (passing left) (sym h.together))
    (tally_either (GoesOver d (of_spot x.a) (of_spot x.b) p) (GoesOver d (of_spot x.b) (of_spot x.a) p) (passing left h.rising) (passing left h.falling) apart
    (one_way c x.line x.a x.b on_a on_b spacing some h.a h.b h.first h.second number p positive at h.rising h.from_a)
    (one_way c x.line x.b x.a on_b on_a spacing some h.b h.a h.second h.first number p positive at h.falling h.from_b))
  where
    d : Triple
    d = toward_of c

    left : HatchPlace → Bool
    left = is_left (number *ℤ pos spacing) (across_of d p) p.w

    apart : GoesOver d (of_spot x.a) (of_spot x.b) p → GoesOver d (of_spot x.b) (of_spot x.a) p → ⊥
    apart g h = less_not_at_most _ _ h.to g.from
