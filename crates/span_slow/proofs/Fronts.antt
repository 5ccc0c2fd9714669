-- Where a face that is not edge-on hides an edge: within its three sides and behind its plane.
use Rattle.std.proofs.Common.{◌≡◌, ◌⊎◌, inl, inr, List, [], ◌∷◌, Option, sym, subst, ◌∙◌, arith, All, length}
use Rattle.std.specs.Prelude.{ℤ, pos, ◌<ℤ◌, ◌≤ℤ◌, ◌↔◌, ◌≢◌, IfSome, IfNone, option_to_list}
use Rattle.std.proofs.lemmas.Int.{ints}
use Rattle.integers.proofs.Comparisons.{at_most_of_less, not_negative_at, less_not_at_most, positive_of_more}
use Rattle.integers.proofs.Signs.{zero_of_mul}
use Rattle.lattice.specs.declared.points.Corner.{Corner}
use Rattle.lattice.specs.Triangles.{IsBelow}
use Rattle.lattice.specs.Triple.{Triple}
use Rattle.lattice.specs.Points.{Point, point_of}
use Rattle.geometry.specs.Faces.{FaceHides, facing_of, share_point}
use Rattle.geometry.specs.Parts.{Part, Face, Edge}
use Rattle.geometry.specs.Views.{IsOrdinary}
use Rattle.geometry.specs.Sound.{IsSound}
use Rattle.hiding_laws.specs.Values.{value_at, side_of, depth_of, IsBehind, AreCornersOf}
use Rattle.exact_frac.specs.declared.Frac.{Frac}
use Rattle.intervals.specs.declared.interval.Interval.{Interval}
use Rattle.span_slow.specs.declared.linear.Linear.{Linear}
use Rattle.geometry.specs.Places.{IsEarlier}
use Rattle.span_slow.specs.inner.Hidden.{AreNonnegative, IsWhereNonnegative, AreWhere}
use Rattle.hiding_laws.proofs.Values.{side-share, depth-share}
use Rattle.hiding_laws.proofs.Hiding.{hides-turned, hides-front}
use Rattle.hiding_laws.proofs.FrontEnds.{not-at-start, not-at-finish, not-at-front-end, IsRoot}
use Rattle.span_slow.proofs.LinearValues.{at_most_between, level_value}
use Rattle.geometry.proofs.PlaceFractions.{strict}
use Rattle.span_slow.proofs.Where.{Tells, told, IsRootOrEndAt, HasRootAt, where_none, where_proper}

-- the order of the corners does not count
pub read_corners : (d : Triple) (p : Point) (a b c i j k : Corner) → a ≡ i → b ≡ j → c ≡ k → FaceHides d a b c p → FaceHides d i j k p
read_corners d p a b c i j k ha hb hc h =
    subst (λ (z : Corner). FaceHides d i j z p) hc (subst (λ (y : Corner). FaceHides d i y c p) hb (subst (λ (x : Corner). FaceHides d x b c p) ha h))

pub hides_by_corners : (d : Triple) {s : Part} (f : Face s) (a b c : Corner) (p : Point) → AreCornersOf f a b c → FaceHides d f.a f.b f.c p ↔ FaceHides d a b c p
hides_by_corners d f a b c p (inl (at_a, at_b, at_c)) = (
  read_corners d p f.a f.b f.c a b c at_a at_b at_c,
  read_corners d p a b c f.a f.b f.c (sym at_a) (sym at_b) (sym at_c),
)
hides_by_corners d f a b c p (inr (at_a, at_c, at_b)) = (
  (λ h. hides-turned d a c b p (read_corners d p f.a f.b f.c a c b at_a at_c at_b h)),
  (λ h. read_corners d p a c b f.a f.b f.c (sym at_a) (sym at_c) (sym at_b) (hides-turned d a b c p h)),
)

-- a value that is positive at an end and 0 here changes
pub changes : (f g n m : ℤ) → pos 0 <ℤ m → (pos 0 <ℤ f) ⊎ (pos 0 <ℤ g) → value_at f g n m ≡ pos 0 → f ≢ g
changes f g n m positive some zero same =
    not_zero f g some same (zero_of_mul m f positive (sym (level_value f g n m same) ∙ zero))
  where
    not_zero : (f g : ℤ) → (pos 0 <ℤ f) ⊎ (pos 0 <ℤ g) → f ≡ g → f ≡ pos 0 → ⊥
    not_zero f g (inl h) same zero = omega (arith, ints)
    not_zero f g (inr h) same zero = omega (arith, ints)

-- a root of the linear is one of what it tells
pub rooted : {s : Part} (e : Edge s) (v : Linear) (F : Point → ℤ) (n m : ℤ) → Tells e v F → value_at v.start v.end n m ≡ F (share_point e.a e.b n m)
    → (v.start ≢ v.end) × (value_at v.start v.end n m ≡ pos 0) → IsRoot (F (point_of e.a)) (F (point_of e.b)) (F (share_point e.a e.b n m))
rooted e v F n m (start, end) same (changes, zero) = ((λ alike. changes (start ∙ alike ∙ sym end)), sym same ∙ zero)

module _ (d : Triple) (s : Part) (sound : IsSound s) (in_range : All (IsBelow (length s.corners)) s.triangles) (e : Edge s) (f : Face s) (a b c : Corner) (corners : AreCornersOf f a b c) (front : pos 0 <ℤ facing_of d a b c)
    (depth : Linear) (tells_depth : Tells e depth (depth_of a b c)) where
  at_depth : (n m : ℤ) → value_at depth.start depth.end n m ≡ depth_of a b c (share_point e.a e.b n m)
  at_depth n m = told e depth (depth_of a b c) n m tells_depth (depth-share d e.a e.b n m a b c)

  behind : (n m : ℤ) → pos 0 <ℤ m → FaceHides d f.a f.b f.c (share_point e.a e.b n m) ↔ IsBehind d a b c (share_point e.a e.b n m)
  behind n m positive =
      let here = share_point e.a e.b n m in
      let by_corners = hides_by_corners d f a b c here corners in
      let by_values = hides-front d a b c here positive front in
      ((λ h. by_values.0 (by_corners.0 h)), (λ h. by_corners.1 (by_values.1 h)))

  -- in front of the plane
  pub front_none : depth.start ≤ℤ pos 0 → depth.end ≤ℤ pos 0 → AreWhere d e (FaceHides d f.a f.b f.c) []
  front_none start end = where_none (IsOrdinary d s) e (FaceHides d f.a f.b f.c) (λ n m hn hm ordinary hides.
      let least : pos 0 <ℤ value_at depth.start depth.end n m = subst (λ (v : ℤ). pos 0 <ℤ v) (sym (at_depth n m)) ((behind n m (positive_of_more n m hn hm)).0 hides).depth in
      less_not_at_most (pos 0) (value_at depth.start depth.end n m) least (at_most_between depth.start depth.end n m hn hm start end))

  module _ (ab bc ca : Linear) (tells_ab : Tells e ab (side_of d a b)) (tells_bc : Tells e bc (side_of d b c)) (tells_ca : Tells e ca (side_of d c a)) where
    at_ab : (n m : ℤ) → value_at ab.start ab.end n m ≡ side_of d a b (share_point e.a e.b n m)
    at_ab n m = told e ab (side_of d a b) n m tells_ab (side-share d e.a e.b n m a b)

    at_bc : (n m : ℤ) → value_at bc.start bc.end n m ≡ side_of d b c (share_point e.a e.b n m)
    at_bc n m = told e bc (side_of d b c) n m tells_bc (side-share d e.a e.b n m b c)

    at_ca : (n m : ℤ) → value_at ca.start ca.end n m ≡ side_of d c a (share_point e.a e.b n m)
    at_ca n m = told e ca (side_of d c a) n m tells_ca (side-share d e.a e.b n m c a)

    abbrev pub linears : List Linear
    linears = ab ∷ bc ∷ ca ∷ depth ∷ []

    -- where one of the four begins or ceases to be at least 0
    pub end_apart : (n m : ℤ) → pos 0 <ℤ m → pos 0 ≤ℤ n → n ≤ℤ m → AreNonnegative linears n m → IsRootOrEndAt linears n m → ¬ IsOrdinary d s (share_point e.a e.b n m)
    end_apart n m positive least most all (inl h) = not-at-start d s e n m positive least most h
    end_apart n m positive least most all (inr (inl h)) = not-at-finish d s e n m positive least most h
    end_apart n m positive least most (h_ab, (h_bc, (h_ca, (h_depth, _)))) (inr (inr root)) =
        not-at-front-end d s e n m positive least most sound in_range f a b c corners front
        (moved (at_ab n m) h_ab) (moved (at_bc n m) h_bc) (moved (at_ca n m) h_ca) (moved (at_depth n m) h_depth) (roots root)
      where
        moved : {v w : ℤ} → v ≡ w → pos 0 ≤ℤ v → pos 0 ≤ℤ w
        moved same h = subst (λ (z : ℤ). pos 0 ≤ℤ z) same h

        roots : HasRootAt linears n m → IsRoot (side_of d a b (point_of e.a)) (side_of d a b (point_of e.b)) (side_of d a b (share_point e.a e.b n m))
            ⊎ IsRoot (side_of d b c (point_of e.a)) (side_of d b c (point_of e.b)) (side_of d b c (share_point e.a e.b n m))
            ⊎ IsRoot (side_of d c a (point_of e.a)) (side_of d c a (point_of e.b)) (side_of d c a (share_point e.a e.b n m))
            ⊎ IsRoot (depth_of a b c (point_of e.a)) (depth_of a b c (point_of e.b)) (depth_of a b c (share_point e.a e.b n m))
        roots (inl h) = inl (rooted e ab (side_of d a b) n m tells_ab (at_ab n m) h)
        roots (inr (inl h)) = inr (inl (rooted e bc (side_of d b c) n m tells_bc (at_bc n m) h))
        roots (inr (inr (inl h))) = inr (inr (inl (rooted e ca (side_of d c a) n m tells_ca (at_ca n m) h)))
        roots (inr (inr (inr (inl h)))) = inr (inr (inr (rooted e depth (depth_of a b c) n m tells_depth (at_depth n m) h)))
        roots (inr (inr (inr (inr h)))) = elim h [ ]

    -- the edge is not in front of the plane at both ends
    module _ (some : (pos 0 <ℤ depth.start) ⊎ (pos 0 <ℤ depth.end)) where
      pub inside : (n m : ℤ) → pos 0 <ℤ n → n <ℤ m → IsOrdinary d s (share_point e.a e.b n m) → FaceHides d f.a f.b f.c (share_point e.a e.b n m) ↔ AreNonnegative linears n m
      inside n m hn hm ordinary = ((λ hides. all ((behind n m positive).0 hides)), (λ least. (behind n m positive).1 (all_back least)))
        where
          positive : pos 0 <ℤ m
          positive = positive_of_more n m hn hm

          moved_back : {v w : ℤ} → v ≡ w → pos 0 ≤ℤ v → pos 0 ≤ℤ w
          moved_back same h = subst (λ (z : ℤ). pos 0 ≤ℤ z) same h

          all : IsBehind d a b c (share_point e.a e.b n m) → AreNonnegative linears n m
          all h = (not_negative_at _ _ (at_ab n m) h.ab, (not_negative_at _ _ (at_bc n m) h.bc, (not_negative_at _ _ (at_ca n m) h.ca, (not_negative_at _ _ (at_depth n m) (at_most_of_less _ _ h.depth), _))))

          all_back : AreNonnegative linears n m → IsBehind d a b c (share_point e.a e.b n m)
          all_back (h_ab, (h_bc, (h_ca, (h_depth, u)))) = record {
            ab = moved_back (at_ab n m) h_ab;
            bc = moved_back (at_bc n m) h_bc;
            ca = moved_back (at_ca n m) h_ca;
            depth = subst (λ (z : ℤ). pos 0 <ℤ z) (at_depth n m) (strict h_depth (λ zero.
                let root : (depth.start ≢ depth.end) × (value_at depth.start depth.end n m ≡ pos 0) = (changes depth.start depth.end n m positive some (sym zero), sym zero) in
                end_apart n m positive (at_most_of_less _ _ hn) (at_most_of_less _ _ hm) (h_ab, (h_bc, (h_ca, (h_depth, u)))) (inr (inr (inr (inr (inr (inl root)))))) ordinary));
          }

      pub front_where : (x : Interval Frac) → IsWhereNonnegative linears x → (o : Option (Interval Frac)) → IfSome o (λ y. (y ≡ x) × IsEarlier x.from x.to) → IfNone o (¬ IsEarlier x.from x.to)
          → AreWhere d e (FaceHides d f.a f.b f.c) (option_to_list o)
      front_where x least o kept dropped = where_proper (IsOrdinary d s) e (FaceHides d f.a f.b f.c) linears inside end_apart x least o kept dropped
