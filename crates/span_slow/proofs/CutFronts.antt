-- Where what the plane leaves of a face that is not edge-on hides an edge.
use Rattle.std.proofs.Common.{◌≡◌, ◌⊎◌, inl, inr, List, [], ◌∷◌, Option, sym, subst, All, length}
use Rattle.std.specs.Prelude.{ℤ, pos, ◌<ℤ◌, ◌≤ℤ◌, ◌↔◌, ◌≢◌, IfSome, IfNone, option_to_list}
use Rattle.integers.proofs.Comparisons.{at_most_of_less, less_not_at_most, positive_of_more}
use Rattle.lattice.specs.declared.points.Corner.{Corner}
use Rattle.lattice.specs.Triangles.{IsBelow}
use Rattle.lattice.specs.Triple.{Triple}
use Rattle.lattice.specs.Points.{Point}
use Rattle.lattice.specs.Cuts.{Plane, toward_of}
use Rattle.geometry.specs.Faces.{FaceHides, facing_of, share_point}
use Rattle.geometry.specs.Parts.{Part, Face, Edge}
use Rattle.geometry.specs.Cuts.{FaceHidesInCut}
use Rattle.geometry.specs.Sound.{IsSound}
use Rattle.hiding_laws.specs.Values.{value_at, side_of, depth_of, AreCornersOf}
use Rattle.hiding_laws.specs.CutValues.{under_of}
use Rattle.hiding_laws.proofs.Values.{side-share}
use Rattle.hiding_laws.proofs.CutFronts.{hides-in-cut, under-share, not-at-border}
use Rattle.hiding_laws.proofs.CutPlanes.{ordinary-in-plain}
use Rattle.hiding_laws.proofs.FrontEnds.{not-at-start, not-at-finish}
use Rattle.exact_frac.specs.declared.Frac.{Frac}
use Rattle.intervals.specs.declared.interval.Interval.{Interval}
use Rattle.span_slow.specs.declared.linear.Linear.{Linear}
use Rattle.geometry.specs.Places.{IsEarlier}
use Rattle.span_slow.specs.inner.Hidden.{AreNonnegative, IsWhereNonnegative, AreWhere}
use Rattle.span_slow.specs.inner.CutHidden.{IsOrdinaryBeyond, AreWhereBeyond}
use Rattle.hiding_laws.proofs.CutCorners.{cut_hides_by_corners}
use Rattle.span_slow.proofs.Fronts.{hides_by_corners, changes, rooted, front_none, end_apart, inside}
use Rattle.geometry.proofs.PlaceFractions.{strict}
use Rattle.span_slow.proofs.LinearValues.{at_most_between}
use Rattle.span_slow.proofs.Where.{Tells, told, IsRootOrEndAt, where_none, where_proper}
use Rattle.cut_plane.proofs.OneInterval.{within_none}

-- what never holds at ordinary points of the plain view holds at none of the cut view
pub none_beyond : (c : Plane) (s : Part) (e : Edge s) (P Q : Point → Type 0) → ((p : Point) → P p → Q p) → AreWhere (toward_of c) e Q [] → AreWhereBeyond c e P []
none_beyond c s e P Q more none =
    where_none (IsOrdinaryBeyond c s) e P (λ n m hn hm ordinary p.
    within_none n m ((none.exactly n m hn hm (ordinary-in-plain c s (share_point e.a e.b n m) ordinary.0)).0 (more (share_point e.a e.b n m) p)))

module _ (c : Plane) (s : Part) (sound : IsSound s) (in_range : All (IsBelow (length s.corners)) s.triangles) (e : Edge s) (f : Face s) (i j k : Corner) (corners : AreCornersOf f i j k)
    (front : pos 0 <ℤ facing_of (toward_of c) i j k) (depth : Linear) (tells_depth : Tells e depth (depth_of i j k)) where
  abbrev d : Triple
  d = toward_of c

  hides_more : (p : Point) → FaceHidesInCut c f p → FaceHides d f.a f.b f.c p
  hides_more p h = record { point = h.point; on_face = h.on_face; same_sight = h.same_sight; nearer = h.nearer }

  -- in front of the face's plane
  pub cut_front_none : depth.start ≤ℤ pos 0 → depth.end ≤ℤ pos 0 → AreWhereBeyond c e (FaceHidesInCut c f) []
  cut_front_none start end = none_beyond c s e (FaceHidesInCut c f) (FaceHides d f.a f.b f.c) hides_more (front_none d s sound in_range e f i j k corners front depth tells_depth start end)

  module _ (under : Linear) (tells_under : Tells e under (under_of c i j k)) where
    at_under : (n m : ℤ) → value_at under.start under.end n m ≡ under_of c i j k (share_point e.a e.b n m)
    at_under n m = told e under (under_of c i j k) n m tells_under (under-share c i j k e.a e.b n m)

    -- hidden as in the plain view, by a point beyond the plane
    by_under : (n m : ℤ) → pos 0 <ℤ m → FaceHidesInCut c f (share_point e.a e.b n m) ↔ (FaceHides d f.a f.b f.c (share_point e.a e.b n m) × (pos 0 <ℤ value_at under.start under.end n m))
    by_under n m positive =
        let here = share_point e.a e.b n m in
        let cut = cut_hides_by_corners c f i j k here corners in
        let plain = hides_by_corners d f i j k here corners in
        let known = hides-in-cut c i j k here positive front in (
          (λ h. let both = known.0 (cut.0 h) in (plain.1 both.0, subst (λ (z : ℤ). pos 0 <ℤ z) (sym (at_under n m)) both.1)),
          (λ h. cut.1 (known.1 (plain.0 h.0, subst (λ (z : ℤ). pos 0 <ℤ z) (at_under n m) h.1))),
        )

    -- the face is before the plane all along
    pub cut_under_none : under.start ≤ℤ pos 0 → under.end ≤ℤ pos 0 → AreWhereBeyond c e (FaceHidesInCut c f) []
    cut_under_none start end = where_none (IsOrdinaryBeyond c s) e (FaceHidesInCut c f) (λ n m hn hm ordinary hides.
        less_not_at_most (pos 0) (value_at under.start under.end n m) ((by_under n m (positive_of_more n m hn hm)).0 hides).1 (at_most_between under.start under.end n m hn hm start end))

    module _ (ij jk ki : Linear) (tells_ij : Tells e ij (side_of d i j)) (tells_jk : Tells e jk (side_of d j k)) (tells_ki : Tells e ki (side_of d k i)) where
      abbrev plain : List Linear
      plain = ij ∷ jk ∷ ki ∷ depth ∷ []

      -- where one of the five begins or ceases to be at least 0
      cut_end_apart : (n m : ℤ) → pos 0 <ℤ m → pos 0 ≤ℤ n → n ≤ℤ m → AreNonnegative (under ∷ plain) n m → IsRootOrEndAt (under ∷ plain) n m → ¬ IsOrdinaryBeyond c s (share_point e.a e.b n m)
      cut_end_apart n m positive least most all (inl h) ordinary = not-at-start d s e n m positive least most h (ordinary-in-plain c s (share_point e.a e.b n m) ordinary.0)
      cut_end_apart n m positive least most all (inr (inl h)) ordinary = not-at-finish d s e n m positive least most h (ordinary-in-plain c s (share_point e.a e.b n m) ordinary.0)
      cut_end_apart n m positive least most (h_under, (h_ij, (h_jk, (h_ki, rest)))) (inr (inr (inl root))) ordinary =
          not-at-border c s e n m positive least most f i j k corners front
          (moved (told e ij (side_of d i j) n m tells_ij (side-share d e.a e.b n m i j)) h_ij)
          (moved (told e jk (side_of d j k) n m tells_jk (side-share d e.a e.b n m j k)) h_jk)
          (moved (told e ki (side_of d k i) n m tells_ki (side-share d e.a e.b n m k i)) h_ki)
          (rooted e under (under_of c i j k) n m tells_under (at_under n m) root) ordinary.0
        where
          moved : {v w : ℤ} → v ≡ w → pos 0 ≤ℤ v → pos 0 ≤ℤ w
          moved same h = subst (λ (z : ℤ). pos 0 ≤ℤ z) same h
      cut_end_apart n m positive least most (h_under, all) (inr (inr (inr root))) ordinary =
          end_apart d s sound in_range e f i j k corners front depth tells_depth ij jk ki tells_ij tells_jk tells_ki n m positive least most all (inr (inr root))
          (ordinary-in-plain c s (share_point e.a e.b n m) ordinary.0)

      module _ (some_depth : (pos 0 <ℤ depth.start) ⊎ (pos 0 <ℤ depth.end)) (some_under : (pos 0 <ℤ under.start) ⊎ (pos 0 <ℤ under.end)) where
        cut_inside : (n m : ℤ) → pos 0 <ℤ n → n <ℤ m → IsOrdinaryBeyond c s (share_point e.a e.b n m) → FaceHidesInCut c f (share_point e.a e.b n m) ↔ AreNonnegative (under ∷ plain) n m
        cut_inside n m hn hm ordinary =
            let positive = positive_of_more n m hn hm in
            let known = inside d s sound in_range e f i j k corners front depth tells_depth ij jk ki tells_ij tells_jk tells_ki some_depth n m hn hm (ordinary-in-plain c s (share_point e.a e.b n m) ordinary.0) in (
              (λ hides. let both = (by_under n m positive).0 hides in (at_most_of_less _ _ both.1, known.0 both.0)),
              (λ all. (by_under n m positive).1 (
                known.1 all.1,
                strict all.0 (λ zero.
                    let root : (under.start ≢ under.end) × (value_at under.start under.end n m ≡ pos 0) = (changes under.start under.end n m positive some_under (sym zero), sym zero) in
                    cut_end_apart n m positive (at_most_of_less _ _ hn) (at_most_of_less _ _ hm) all (inr (inr (inl root))) ordinary),
              )),
            )

        pub cut_front_where : (x : Interval Frac) → IsWhereNonnegative (under ∷ plain) x → (o : Option (Interval Frac)) → IfSome o (λ y. (y ≡ x) × IsEarlier x.from x.to) → IfNone o (¬ IsEarlier x.from x.to)
            → AreWhereBeyond c e (FaceHidesInCut c f) (option_to_list o)
        cut_front_where x least o kept dropped = where_proper (IsOrdinaryBeyond c s) e (FaceHidesInCut c f) (under ∷ plain) cut_inside cut_end_apart x least o kept dropped
