-- Where a side of a face that is edge-on hides an edge: between its ends and behind its line.
use Rattle.std.proofs.Common.{◌≡◌, ◌⊎◌, inl, inr, List, [], ◌∷◌, Option, sym, subst, All, length}
use Rattle.std.specs.Prelude.{ℤ, pos, ◌<ℤ◌, ◌≤ℤ◌, ◌↔◌, ◌≢◌, IfSome, IfNone, option_to_list}
use Rattle.integers.proofs.Comparisons.{at_most_of_less, positive_not_zero, not_negative_at, less_not_at_most, positive_of_more}
use Rattle.lattice.specs.declared.points.Corner.{Corner}
use Rattle.lattice.specs.Triangles.{IsBelow}
use Rattle.lattice.specs.Triple.{Triple, dot, IsZero}
use Rattle.lattice.specs.Points.{Point, point_of, difference, OnOneSight}
use Rattle.geometry.specs.Faces.{share_point}
use Rattle.geometry.specs.Parts.{Part, Face, Edge}
use Rattle.geometry.specs.Views.{IsOrdinary}
use Rattle.geometry.specs.Sound.{IsSound}
use Rattle.hiding_laws.specs.Values.{value_at, past_of, short_of, behind_of, IsBehindSide, IsAhead, IsInLine, IsSideOf, WideSideHides}
use Rattle.exact_frac.specs.declared.Frac.{Frac}
use Rattle.intervals.specs.declared.interval.Interval.{Interval}
use Rattle.span_slow.specs.declared.linear.Linear.{Linear}
use Rattle.geometry.specs.Places.{IsEarlier}
use Rattle.span_slow.specs.inner.Hidden.{AreNonnegative, IsWhereNonnegative, AreWhere}
use Rattle.hiding_laws.proofs.Values.{past-share, short-share, behind-share}
use Rattle.hiding_laws.proofs.FrontEnds.{not-at-start, not-at-finish}
use Rattle.hiding_laws.proofs.SideEnds.{side-hides, in-line, one-sight, not-at-side-end, side-hides-turned}
use Rattle.span_slow.proofs.Axes.{level_by_sight}
use Rattle.span_slow.proofs.LinearValues.{at_most_between}
use Rattle.geometry.proofs.PlaceFractions.{strict}
use Rattle.span_slow.proofs.Fronts.{changes, rooted}
use Rattle.span_slow.proofs.Where.{Tells, told, IsRootOrEndAt, HasRootAt, where_none, where_alike, where_proper}

-- ---- the order of the two ends does not count
pub turned : (d : Triple) (k l : Corner) (p : Point) → WideSideHides d k l p → WideSideHides d l k p
turned d k l p (wide, hides) = ((λ same. wide (record { across = sym same.across; upward = sym same.upward })), side-hides-turned d k l p hides)

pub side_turned : {s : Part} (f : Face s) (k l : Corner) → IsSideOf f k l → IsSideOf f l k
side_turned f k l (inl (inl (p, q))) = inl (inr (q, p))
side_turned f k l (inl (inr (p, q))) = inl (inl (q, p))
side_turned f k l (inr (inl (inl (p, q)))) = inr (inl (inr (q, p)))
side_turned f k l (inr (inl (inr (p, q)))) = inr (inl (inl (q, p)))
side_turned f k l (inr (inr (inl (p, q)))) = inr (inr (inr (q, p)))
side_turned f k l (inr (inr (inr (p, q)))) = inr (inr (inl (q, p)))

pub where_turned : (d : Triple) {s : Part} (e : Edge s) (k l : Corner) (xs : List (Interval Frac)) → AreWhere d e (WideSideHides d l k) xs → AreWhere d e (WideSideHides d k l) xs
where_turned d {s} e k l xs h = where_alike (IsOrdinary d s) e (WideSideHides d l k) (WideSideHides d k l) xs (λ n m hn hm ordinary. (turned d l k _, turned d k l _)) h

-- ---- the edge's corners
pub ahead_at : (d axis : Triple) {s : Part} (e : Edge s) (a b : Corner) → e.a ≡ a → e.b ≡ b → IsAhead d axis a b → IsAhead d axis e.a e.b
ahead_at d axis e a b at_a at_b h = subst (λ (x : Corner). IsAhead d axis x e.b) (sym at_a) (subst (λ (y : Corner). IsAhead d axis a y) (sym at_b) h)

pub in_line_at : (d : Triple) {s : Part} (e : Edge s) (a b k l : Corner) → e.a ≡ a → e.b ≡ b → IsInLine d e.a e.b k l ↔ IsInLine d a b k l
in_line_at d e a b k l at_a at_b = (
  (λ h. subst (λ (x : Corner). IsInLine d x b k l) at_a (subst (λ (y : Corner). IsInLine d e.a y k l) at_b h)),
  (λ h. subst (λ (x : Corner). IsInLine d x e.b k l) (sym at_a) (subst (λ (y : Corner). IsInLine d a y k l) (sym at_b) h)),
)

module _ (d axis : Triple) (somewhere : ¬ IsZero d) (s : Part) (sound : IsSound s) (in_range : All (IsBelow (length s.corners)) s.triangles) (e : Edge s) (ahead : IsAhead d axis e.a e.b) (f : Face s) (k l : Corner) (side : IsSideOf f k l) where
  -- ---- sides that hide nothing at ordinary points
  hides_in_line : (n m : ℤ) → pos 0 <ℤ n → n <ℤ m → IsOrdinary d s (share_point e.a e.b n m) → WideSideHides d k l (share_point e.a e.b n m) → IsInLine d e.a e.b k l
  hides_in_line n m hn hm ordinary h = in-line d axis somewhere s sound in_range e n m (positive_of_more n m hn hm) (at_most_of_less _ _ hn) (at_most_of_less _ _ hm) ahead f k l side ordinary h.1

  -- not in line with the edge
  pub side_off_line : ¬ IsInLine d e.a e.b k l → AreWhere d e (WideSideHides d k l) []
  side_off_line off = where_none (IsOrdinary d s) e (WideSideHides d k l) (λ n m hn hm ordinary h. off (hides_in_line n m hn hm ordinary h))

  -- seen end-on
  pub side_end_on : dot axis (difference k l) ≡ pos 0 → AreWhere d e (WideSideHides d k l) []
  side_end_on same = where_none (IsOrdinary d s) e (WideSideHides d k l) (λ n m hn hm ordinary h.
      h.0 (one-sight d axis e.a e.b k l somewhere ahead (hides_in_line n m hn hm ordinary h) same))

  -- ---- a side in line with the edge, which goes forward as the edge does
  module _ (square : pos 0 <ℤ dot d d) (in_line : IsInLine d e.a e.b k l) (forward : pos 0 <ℤ dot axis (difference k l))
      (behind : Linear) (tells_behind : Tells e behind (behind_of d axis k l)) where
    at_behind : (n m : ℤ) → value_at behind.start behind.end n m ≡ behind_of d axis k l (share_point e.a e.b n m)
    at_behind n m = told e behind (behind_of d axis k l) n m tells_behind (behind-share d e.a e.b n m axis k l)

    -- it is not seen end-on
    wide : ¬ OnOneSight d (point_of k) (point_of l)
    wide same = positive_not_zero (dot axis (difference k l)) forward (level_by_sight d axis k l square ahead.level same)

    under : (n m : ℤ) → pos 0 <ℤ m → WideSideHides d k l (share_point e.a e.b n m) ↔ IsBehindSide d axis k l (share_point e.a e.b n m)
    under n m positive =
        let known = side-hides d axis e.a e.b k l n m somewhere positive ahead in_line forward in
        ((λ h. known.0 h.1), (λ h. (wide, known.1 h)))

    -- in front of the line
    pub side_none : behind.start ≤ℤ pos 0 → behind.end ≤ℤ pos 0 → AreWhere d e (WideSideHides d k l) []
    side_none start end = where_none (IsOrdinary d s) e (WideSideHides d k l) (λ n m hn hm ordinary hides.
        let least : pos 0 <ℤ value_at behind.start behind.end n m = subst (λ (v : ℤ). pos 0 <ℤ v) (sym (at_behind n m)) ((under n m (positive_of_more n m hn hm)).0 hides).behind in
        less_not_at_most (pos 0) (value_at behind.start behind.end n m) least (at_most_between behind.start behind.end n m hn hm start end))

    module _ (past short : Linear) (tells_past : Tells e past (past_of axis k)) (tells_short : Tells e short (short_of axis l)) where
      at_past : (n m : ℤ) → value_at past.start past.end n m ≡ past_of axis k (share_point e.a e.b n m)
      at_past n m = told e past (past_of axis k) n m tells_past (past-share d e.a e.b n m axis k)

      at_short : (n m : ℤ) → value_at short.start short.end n m ≡ short_of axis l (share_point e.a e.b n m)
      at_short n m = told e short (short_of axis l) n m tells_short (short-share d e.a e.b n m axis l)

      abbrev pub linears : List Linear
      linears = past ∷ short ∷ behind ∷ []

      -- where one of the three begins or ceases to be at least 0
      pub end_apart : (n m : ℤ) → pos 0 <ℤ m → pos 0 ≤ℤ n → n ≤ℤ m → AreNonnegative linears n m → IsRootOrEndAt linears n m → ¬ IsOrdinary d s (share_point e.a e.b n m)
      end_apart n m positive least most all (inl h) = not-at-start d s e n m positive least most h
      end_apart n m positive least most all (inr (inl h)) = not-at-finish d s e n m positive least most h
      end_apart n m positive least most (h_past, (h_short, (h_behind, _))) (inr (inr root)) =
          not-at-side-end d axis somewhere s sound in_range e n m positive least most ahead f k l side in_line forward
          (moved (at_past n m) h_past) (moved (at_short n m) h_short) (moved (at_behind n m) h_behind) (roots root)
        where
          moved : {v w : ℤ} → v ≡ w → pos 0 ≤ℤ v → pos 0 ≤ℤ w
          moved same h = subst (λ (z : ℤ). pos 0 ≤ℤ z) same h

          roots : HasRootAt linears n m → (past_of axis k (share_point e.a e.b n m) ≡ pos 0) ⊎ (short_of axis l (share_point e.a e.b n m) ≡ pos 0)
              ⊎ ((behind_of d axis k l (point_of e.a) ≢ behind_of d axis k l (point_of e.b)) × (behind_of d axis k l (share_point e.a e.b n m) ≡ pos 0))
          roots (inl h) = inl (rooted e past (past_of axis k) n m tells_past (at_past n m) h).1
          roots (inr (inl h)) = inr (inl (rooted e short (short_of axis l) n m tells_short (at_short n m) h).1)
          roots (inr (inr (inl h))) = inr (inr (rooted e behind (behind_of d axis k l) n m tells_behind (at_behind n m) h))
          roots (inr (inr (inr h))) = elim h [ ]

      -- the edge is not in front of the line at both ends
      module _ (some : (pos 0 <ℤ behind.start) ⊎ (pos 0 <ℤ behind.end)) where
        pub inside : (n m : ℤ) → pos 0 <ℤ n → n <ℤ m → IsOrdinary d s (share_point e.a e.b n m) → WideSideHides d k l (share_point e.a e.b n m) ↔ AreNonnegative linears n m
        inside n m hn hm ordinary = ((λ hides. all ((under n m positive).0 hides)), (λ least. (under n m positive).1 (all_back least)))
          where
            positive : pos 0 <ℤ m
            positive = positive_of_more n m hn hm

            moved_back : {v w : ℤ} → v ≡ w → pos 0 ≤ℤ v → pos 0 ≤ℤ w
            moved_back same h = subst (λ (z : ℤ). pos 0 ≤ℤ z) same h

            all : IsBehindSide d axis k l (share_point e.a e.b n m) → AreNonnegative linears n m
            all h = (not_negative_at _ _ (at_past n m) h.past, (not_negative_at _ _ (at_short n m) h.short, (not_negative_at _ _ (at_behind n m) (at_most_of_less _ _ h.behind), _)))

            all_back : AreNonnegative linears n m → IsBehindSide d axis k l (share_point e.a e.b n m)
            all_back (h_past, (h_short, (h_behind, u))) = record {
              past = moved_back (at_past n m) h_past;
              short = moved_back (at_short n m) h_short;
              behind = subst (λ (z : ℤ). pos 0 <ℤ z) (at_behind n m) (strict h_behind (λ zero.
                  let root : (behind.start ≢ behind.end) × (value_at behind.start behind.end n m ≡ pos 0) = (changes behind.start behind.end n m positive some (sym zero), sym zero) in
                  end_apart n m positive (at_most_of_less _ _ hn) (at_most_of_less _ _ hm) (h_past, (h_short, (h_behind, u))) (inr (inr (inr (inr (inl root))))) ordinary));
            }

        pub side_where : (x : Interval Frac) → IsWhereNonnegative linears x → (o : Option (Interval Frac)) → IfSome o (λ y. (y ≡ x) × IsEarlier x.from x.to) → IfNone o (¬ IsEarlier x.from x.to)
            → AreWhere d e (WideSideHides d k l) (option_to_list o)
        side_where x least o kept dropped = where_proper (IsOrdinary d s) e (WideSideHides d k l) linears inside end_apart x least o kept dropped
