-- Between two places of an edge the section changes as often as borders with differing marks cross the edge there.
use Rattle.std.proofs.Common.{◌≡◌, ℕ, zero, suc, ◌⊎◌, inl, inr, Bool, true, false, [], ◌∷◌, refl, sym, ap, ◌∙◌, arith, List}
use Rattle.std.specs.Prelude.{◌≢◌, ℤ, pos, ◌*ℤ◌, ◌<ℤ◌, ◌≤ℤ◌}
use Rattle.std.specs.Bool.{Decides}
use Rattle.std.specs.Int.Signed.{lt_z}
use Rattle.std.proofs.lemmas.Bool.{false≢true}
use Rattle.std.proofs.lemmas.Int.{by_lt_z, ints}
use Rattle.std.proofs.lemmas.Option.{get_or_from_slice_get}
use Rattle.integers.proofs.Comparisons.{same_of_both, at_most_of_less}
use Rattle.integers.proofs.Orders.{less_through, lt_z_of_less, lt_z_of_at_most}
use Rattle.integers.proofs.Logic.{same_tests}
use Rattle.integers.proofs.Ring.{con, ◌⊖◌, ring}
use Rattle.lattice.specs.declared.points.Corner.{Corner}
use Rattle.lattice.specs.Points.{Point, point_of}
use Rattle.lattice.specs.Cuts.{Plane, toward_of, IsBeyond, IsBeforePlane}
use Rattle.geometry.specs.Cuts.{start_corner, end_corner, GoesBeyond, IsBorderOf, IsCrossed, IsInSection}
use Rattle.geometry.specs.Faces.{IsFlat, share_point}
use Rattle.geometry.specs.Parts.{Part, Face, Edge, IsClosed}
use Rattle.geometry.specs.Views.{IsEndOn}
use Rattle.geometry.proofs.Borders.{side_of_corner, border_of_crossed, not_both_sides}
use Rattle.geometry.specs.Counts.{Side}
use Rattle.cut_plane.specs.Crossings.{CrossesAt}
use Rattle.cut_plane.specs.Diagonals.{IsUnderBorder}
use Rattle.cut_plane.proofs.FaceBorders.{crossing_turned}
use Rattle.cut_plane.proofs.FoundCrossings.{crosses_same}
use Rattle.cut_plane.proofs.Lies.{counts-swapped}
use Rattle.cut_plane.proofs.Planes.{seen, turns}
use Rattle.cut_plane.proofs.Sights.{Sight, sight_of, turn_of, counts, crossing_sight, is_before}
use Rattle.cut_plane.proofs.Tested.{less_of}
use Rattle.cut_plane.proofs.Xors.{xor, xor-across, odd_in}
use Rattle.cut_count_laws.specs.CutEnds.{mark_change}
use Rattle.cut_count_laws.proofs.BorderPlaces.{ahead_is, never_ahead, place_of_marks, crossing_of_root, root_of_crossing, marks_of_change, change_of_marks}
use Rattle.cut_count_laws.proofs.Laws.{HasCornersInRange}
use Rattle.cut_count_laws.proofs.Rays.{is_marked, is_ahead, by_border, of_border, border_ahead}
use Rattle.cut_count_laws.proofs.SectionRays.{ray}
use Rattle.cut_count_laws.proofs.Wedges.{Differ}
use Rattle.cut_plane.proofs.Diagonals.{before_test, beyond_test}

-- ---- the border of a face
ahead-swapped : (k : Side) (p q t a b : Sight) → is_ahead k p q t b a ≡ is_ahead k p q t a b
ahead-swapped k p q t a b =
    ap (counts (is_marked k (turn_of p q b)) (is_marked k (turn_of p q a)))
    (ring (a.u ∷ a.v ∷ a.w ∷ b.u ∷ b.v ∷ b.w ∷ t.u ∷ t.v ∷ t.w ∷ []) (turns (seen 3) (seen 0) (seen 6)) (con (pos 0) ⊖ turns (seen 0) (seen 3) (seen 6)) refl)
    ∙ counts-swapped (is_marked k (turn_of p q b)) (is_marked k (turn_of p q a)) (turn_of a b t)

module _ (k : Side) (p q t : Sight) (c : Plane) {s : Part} (f : Face s) where
  abbrev ahead : Sight → Sight → Bool
  ahead = is_ahead k p q t

  abbrev AB : Sight
  AB = crossing_sight c f.a f.b

  abbrev BC : Sight
  BC = crossing_sight c f.b f.c

  abbrev CA : Sight
  CA = crossing_sight c f.c f.a

  at_sides : (u v w : Bool) → is_before c f.a ≡ u → is_before c f.b ≡ v → is_before c f.c ≡ w → of_border ahead c f.a f.b f.c ≡ by_border ahead u v w AB BC CA
  at_sides u v w e g h = λ i. by_border ahead (e i) (g i) (h i) AB BC CA

  turned_last : (x : Sight) (k l : Corner) → ahead x (crossing_sight c k l) ≡ ahead x (crossing_sight c l k)
  turned_last x k l = ap (ahead x) (crossing_turned c k l)

  by_sides : (first second : ℕ) → GoesBeyond c (start_corner f first) (end_corner f first) → GoesBeyond c (end_corner f second) (start_corner f second)
      → of_border ahead c f.a f.b f.c ≡ ahead (crossing_sight c (start_corner f first) (end_corner f first)) (crossing_sight c (end_corner f second) (start_corner f second))
  by_sides zero zero g h = absurd (not_both_sides c (point_of f.a) h.1 g.0)
  by_sides (suc zero) (suc zero) g h = absurd (not_both_sides c (point_of f.b) h.1 g.0)
  by_sides (suc (suc m)) (suc (suc n)) g h = absurd (not_both_sides c (point_of f.c) h.1 g.0)
  by_sides zero (suc zero) g h = at_sides true false true (before_test c f.a g.0) (beyond_test c f.b g.1) (before_test c f.c h.0) ∙ ahead-swapped k p q t AB BC ∙ turned_last AB f.b f.c
  by_sides zero (suc (suc n)) g h = at_sides true false false (before_test c f.a g.0) (beyond_test c f.b g.1) (beyond_test c f.c h.1) ∙ turned_last AB f.c f.a
  by_sides (suc zero) zero g h = at_sides false true false (beyond_test c f.a h.1) (before_test c f.b g.0) (beyond_test c f.c g.1) ∙ turned_last BC f.a f.b
  by_sides (suc zero) (suc (suc n)) g h = at_sides true true false (before_test c f.a h.0) (before_test c f.b g.0) (beyond_test c f.c g.1) ∙ ahead-swapped k p q t BC CA ∙ turned_last BC f.c f.a
  by_sides (suc (suc m)) zero g h = at_sides false true true (beyond_test c f.a g.1) (before_test c f.b h.0) (before_test c f.c g.0) ∙ ahead-swapped k p q t CA AB ∙ turned_last CA f.a f.b
  by_sides (suc (suc m)) (suc zero) g h = at_sides false false true (beyond_test c f.a g.1) (beyond_test c f.b h.1) (before_test c f.c g.0) ∙ turned_last CA f.b f.c

  -- the border's test is that of its own two ends
  pub of_ends : (x y : Point) → IsBorderOf c f x y → of_border ahead c f.a f.b f.c ≡ ahead (sight_of (toward_of c) x) (sight_of (toward_of c) y)
  of_ends x y h = by_sides h.first h.second h.goes h.returns ∙ sym (λ i. ahead (sight_of (toward_of c) (h.from i)) (sight_of (toward_of c) (h.to i)))

  -- and of a face that has none it fails
  pub of_uncrossed : ¬ IsCrossed c f → of_border ahead c f.a f.b f.c ≡ false
  of_uncrossed uncrossed = by (side_of_corner c f.a) (side_of_corner c f.b) (side_of_corner c f.c)
    where
      by : IsBeyond c (point_of f.a) ⊎ IsBeforePlane c (point_of f.a) → IsBeyond c (point_of f.b) ⊎ IsBeforePlane c (point_of f.b) → IsBeyond c (point_of f.c) ⊎ IsBeforePlane c (point_of f.c)
          → of_border ahead c f.a f.b f.c ≡ false
      by (inl x) (inl y) (inl z) = at_sides false false false (beyond_test c f.a x) (beyond_test c f.b y) (beyond_test c f.c z)
      by (inr x) (inr y) (inr z) = at_sides true true true (before_test c f.a x) (before_test c f.b y) (before_test c f.c z)
      by (inl x) (inl y) (inr z) = absurd (uncrossed (record { before = inr (inr z); beyond = inl x }))
      by (inl x) (inr y) z = absurd (uncrossed (record { before = inr (inl y); beyond = inl x }))
      by (inr x) (inl y) z = absurd (uncrossed (record { before = inl x; beyond = inr (inl y) }))
      by (inr x) (inr y) (inl z) = absurd (uncrossed (record { before = inl x; beyond = inr (inr z) }))

-- a face has a border or none
pub border_or_none : (c : Plane) {s : Part} (f : Face s) → ((p : Point) × (q : Point) × IsBorderOf c f p q) ⊎ ¬ IsCrossed c f
border_or_none c f = by (side_of_corner c f.a) (side_of_corner c f.b) (side_of_corner c f.c)
  where
    to : IsCrossed c f → ((p : Point) × (q : Point) × IsBorderOf c f p q) ⊎ ¬ IsCrossed c f
    to h = inl (border_of_crossed c f h)

    by : IsBeyond c (point_of f.a) ⊎ IsBeforePlane c (point_of f.a) → IsBeyond c (point_of f.b) ⊎ IsBeforePlane c (point_of f.b) → IsBeyond c (point_of f.c) ⊎ IsBeforePlane c (point_of f.c)
        → ((p : Point) × (q : Point) × IsBorderOf c f p q) ⊎ ¬ IsCrossed c f
    by (inl x) (inl y) (inl z) = inr (λ h. by_before h.before)
      where
        by_before : IsBeforePlane c (point_of f.a) ⊎ IsBeforePlane c (point_of f.b) ⊎ IsBeforePlane c (point_of f.c) → ⊥
        by_before (inl b) = not_both_sides c (point_of f.a) x b
        by_before (inr (inl b)) = not_both_sides c (point_of f.b) y b
        by_before (inr (inr b)) = not_both_sides c (point_of f.c) z b
    by (inr x) (inr y) (inr z) = inr (λ h. by_beyond h.beyond)
      where
        by_beyond : IsBeyond c (point_of f.a) ⊎ IsBeyond c (point_of f.b) ⊎ IsBeyond c (point_of f.c) → ⊥
        by_beyond (inl b) = not_both_sides c (point_of f.a) b x
        by_beyond (inr (inl b)) = not_both_sides c (point_of f.b) b y
        by_beyond (inr (inr b)) = not_both_sides c (point_of f.c) b z
    by (inl x) (inl y) (inr z) = to (record { before = inr (inr z); beyond = inl x })
    by (inl x) (inr y) z = to (record { before = inr (inl y); beyond = inl x })
    by (inr x) (inl y) z = to (record { before = inl x; beyond = inr (inl y) })
    by (inr x) (inr y) (inl z) = to (record { before = inl x; beyond = inr (inr z) })

-- ---- between two places
-- the face's border changes the mark, and crosses the edge's line strictly between the places
pub record PassesBetween (k : Side) (c : Plane) {s : Part} (e : Edge s) (f : Face s) (n m n' m' : ℤ) : Type 0 where
  pub p : Point
  pub q : Point
  pub border : IsBorderOf c f p q
  pub changes : mark_change k (toward_of c) e.a e.b p q ≢ pos 0
  pub i : ℤ
  pub j : ℤ
  pub there : pos 0 <ℤ j
  pub after : (n *ℤ j) <ℤ (i *ℤ m)
  pub before : (i *ℤ m') <ℤ (n' *ℤ j)
  pub crosses : CrossesAt c f e i j

same_or_differ : (v w : Bool) → (v ≡ w) ⊎ Differ v w
same_or_differ false false = inl refl
same_or_differ true true = inl refl
same_or_differ false true = inr tt
same_or_differ true false = inr tt

xor_true : (v w : Bool) → xor v w ≡ true → (v ≡ true → w ≡ true → ⊥) × (v ≡ false → w ≡ true)
xor_true false w h = ((λ e. absurd (false≢true e)), (λ e. h))
xor_true true false h = ((λ e g. false≢true g), (λ e. absurd (false≢true (sym e))))
xor_true true true h = absurd (false≢true h)

pub ahead_at : (k : Side) (c : Plane) (s : Part) (o : Corner) (e : Edge s) (n m : ℤ) (f : Face s)
    → border_ahead k c s o e n m f.tri ≡ of_border (is_ahead k (sight_of (toward_of c) (point_of e.a)) (sight_of (toward_of c) (point_of e.b)) (sight_of (toward_of c) (share_point e.a e.b n m))) c f.a f.b f.c
ahead_at k c s o e n m f = λ i. of_border (is_ahead k (sight_of (toward_of c) (point_of e.a)) (sight_of (toward_of c) (point_of e.b)) (sight_of (toward_of c) (share_point e.a e.b n m))) c
    (get_or_from_slice_get s.corners f.tri.a f.a o f.at_a i)
    (get_or_from_slice_get s.corners f.tri.b f.b o f.at_b i)
    (get_or_from_slice_get s.corners f.tri.c f.c o f.at_c i)

module _ (k : Side) (c : Plane) (s : Part) (o : Corner) (e : Edge s) (f : Face s) (whole : ¬ IsFlat f.a f.b f.c) (n m n' m' : ℤ) (there : pos 0 <ℤ m) (there' : pos 0 <ℤ m') (order : (n *ℤ m') <ℤ (n' *ℤ m))
    (free : ¬ IsUnderBorder c s (share_point e.a e.b n' m')) where
  abbrev A : Sight
  A = sight_of (toward_of c) (point_of e.a)

  abbrev B : Sight
  B = sight_of (toward_of c) (point_of e.b)

  abbrev T : ℤ → ℤ → Sight
  T n m = sight_of (toward_of c) (share_point e.a e.b n m)

  abbrev both : Bool
  both = xor (border_ahead k c s o e n m f.tri) (border_ahead k c s o e n' m' f.tri)

  module _ (p q : Point) (ends : IsBorderOf c f p q) where
    abbrev K : Sight
    K = sight_of (toward_of c) p

    abbrev L : Sight
    L = sight_of (toward_of c) q

    at_ends : both ≡ xor (is_ahead k A B (T n m) K L) (is_ahead k A B (T n' m') K L)
    at_ends = λ i. xor ((ahead_at k c s o e n m f ∙ of_ends k A B (T n m) c f p q ends) i) ((ahead_at k c s o e n' m' f ∙ of_ends k A B (T n' m') c f p q ends) i)

    at_place : Differ (is_marked k (turn_of A B K)) (is_marked k (turn_of A B L)) → (i j : ℤ) → pos 0 <ℤ j → turn_of K L (T i j) ≡ pos 0 → both ≡ xor (lt_z (n *ℤ j) (i *ℤ m)) (lt_z (n' *ℤ j) (i *ℤ m'))
    at_place differ i j j_there root = at_ends ∙ (λ t. xor (ahead_is c f p q ends e k n m i j j_there root differ t) (ahead_is c f p q ends e k n' m' i j j_there root differ t))

    passes : Differ (is_marked k (turn_of A B K)) (is_marked k (turn_of A B L)) → both ≡ true → PassesBetween k c e f n m n' m'
    passes differ odd = by (place_of_marks c f p q ends e k differ)
      where
        by : (i : ℤ) × (j : ℤ) × (pos 0 <ℤ j) × (turn_of K L (T i j) ≡ pos 0) → PassesBetween k c e f n m n' m'
        by (i, j, j_there, root) = record {
          p = p;
          q = q;
          border = ends;
          changes = change_of_marks c f p q ends e k differ;
          i = i;
          j = j;
          there = j_there;
          after = after;
          before = by_lt_z (i *ℤ m') (n' *ℤ j) (λ h. h) (λ h. absurd (free (f, (crosses_same c f e i j n' m' j_there (same_of_both _ _ not_after h) crosses).passes)));
          crosses = crosses;
        }
          where
            crosses : CrossesAt c f e i j
            crosses = crossing_of_root c f p q ends e whole k differ i j j_there root

            told : (lt_z (n *ℤ j) (i *ℤ m) ≡ true → lt_z (n' *ℤ j) (i *ℤ m') ≡ true → ⊥) × (lt_z (n *ℤ j) (i *ℤ m) ≡ false → lt_z (n' *ℤ j) (i *ℤ m') ≡ true)
            told = xor_true _ _ (sym (at_place differ i j j_there root) ∙ odd)

            after : (n *ℤ j) <ℤ (i *ℤ m)
            after = by_lt_z (n *ℤ j) (i *ℤ m) (λ h. h) (λ h. absurd (clash (n' *ℤ m) (n *ℤ m') order (less_through n' m' i j n m there' j_there there (less_of (n' *ℤ j) (i *ℤ m') (told.1 (lt_z_of_at_most (n *ℤ j) (i *ℤ m) h))) h)))
              where
                clash : (x y : ℤ) → y <ℤ x → x <ℤ y → ⊥
                clash x y h g = omega (arith, ints)

            not_after : (i *ℤ m') ≤ℤ (n' *ℤ j)
            not_after = by_lt_z (n' *ℤ j) (i *ℤ m') (λ h. absurd (told.0 (lt_z_of_less (n *ℤ j) (i *ℤ m) after) (lt_z_of_less (n' *ℤ j) (i *ℤ m') h))) (λ h. h)

  passed : PassesBetween k c e f n m n' m' → both ≡ true
  passed x =
      at_place x.p x.q x.border (marks_of_change c f x.p x.q x.border e k x.changes) x.i x.j x.there (root_of_crossing c f x.p x.q x.border e x.i x.j x.crosses)
      ∙ (λ t. xor (lt_z_of_less (n *ℤ x.j) (x.i *ℤ m) x.after t) (lt_z_of_at_most (n' *ℤ x.j) (x.i *ℤ m') (at_most_of_less _ _ x.before) t))

  -- whether its border crosses the edge's line after the place differs between the two places exactly if it passes between them
  pub ahead_changes : Decides both (PassesBetween k c e f n m n' m')
  ahead_changes = ((λ odd. by odd (border_or_none c f)), passed)
    where
      by : both ≡ true → ((p : Point) × (q : Point) × IsBorderOf c f p q) ⊎ ¬ IsCrossed c f → PassesBetween k c e f n m n' m'
      by odd (inr uncrossed) = absurd (false≢true (sym (λ t. xor
          ((ahead_at k c s o e n m f ∙ of_uncrossed k A B (T n m) c f uncrossed) t)
          ((ahead_at k c s o e n' m' f ∙ of_uncrossed k A B (T n' m') c f uncrossed) t)) ∙ odd))
      by odd (inl (p, q, ends)) = marks (same_or_differ (is_marked k (turn_of A B (K p q ends))) (is_marked k (turn_of A B (L p q ends))))
        where
          marks : (is_marked k (turn_of A B (K p q ends)) ≡ is_marked k (turn_of A B (L p q ends))) ⊎ Differ (is_marked k (turn_of A B (K p q ends))) (is_marked k (turn_of A B (L p q ends))) → PassesBetween k c e f n m n' m'
          marks (inl same) = absurd (false≢true (sym (at_ends p q ends ∙ (λ t. xor (never_ahead c f p q ends e k n m same t) (never_ahead c f p q ends e k n' m' same t))) ∙ odd))
          marks (inr differ) = passes p q ends differ odd

-- ---- the section
pub odd_in-xor : {X : Type 0} (b d : X → Bool) (xs : List X) → odd_in (λ x. xor (b x) (d x)) xs ≡ xor (odd_in b xs) (odd_in d xs)
odd_in-xor b d [] = refl
odd_in-xor b d (x ∷ xs) = ap (λ y. xor (xor (b x) (d x)) y) (odd_in-xor b d xs) ∙ xor-across (b x) (d x) (odd_in b xs) (odd_in d xs)

same_decided : {P : Type 0} (v w : Bool) → Decides v P → Decides w P → v ≡ w
same_decided v w p q = same_tests v w (λ e. q.1 (p.0 e)) (λ e. p.1 (q.0 e))

-- of two places under no border, one is in the section and the other isn't exactly if an odd number of borders pass between them
pub section_changes : (k : Side) (c : Plane) (s : Part) → IsClosed s → HasCornersInRange s → (o : Corner) (e : Edge s) (n m n' m' : ℤ) → ¬ IsEndOn (toward_of c) e → pos 0 <ℤ m → pos 0 <ℤ m'
    → ¬ IsUnderBorder c s (share_point e.a e.b n m) → ¬ IsUnderBorder c s (share_point e.a e.b n' m')
    → (v v' : Bool) → Decides v (IsInSection c s (share_point e.a e.b n m)) → Decides v' (IsInSection c s (share_point e.a e.b n' m'))
    → odd_in (λ t. xor (border_ahead k c s o e n m t) (border_ahead k c s o e n' m' t)) s.triangles ≡ xor v v'
section_changes k c s closed in_range o e n m n' m' across there there' free free' v v' is is' =
    odd_in-xor (border_ahead k c s o e n m) (border_ahead k c s o e n' m') s.triangles
    ∙ (λ i. xor (same_decided _ _ (ray k c s closed in_range o e n m across there free) is i) (same_decided _ _ (ray k c s closed in_range o e n' m' across there' free') is' i))
