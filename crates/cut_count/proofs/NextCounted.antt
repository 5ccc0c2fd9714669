-- From the corners that were read to the faces that are counted next to an end of an edge in a cut view.
use Rattle.std.proofs.Common.{◌≡◌, ◌≢◌, ◌⊎◌, ◌<◌, inl, inr, ℕ, refl, sym, subst, ◌∙◌, ◌^◌, unsigned_abs, to_z, of_z, arith}
use Rattle.std.specs.Prelude.{ℤ, pos, ◌<ℤ◌, ◌↔◌, Bool}
use Rattle.std.specs.Int.{w64, w128}
use Rattle.std.proofs.lemmas.Int.{ints}
use Rattle.lattice.specs.declared.points.Corner.{Corner}
use Rattle.lattice.specs.Triple.{Triple}
use Rattle.lattice.specs.Points.{point_of}
use Rattle.lattice.specs.Cuts.{Plane, toward_of, IsBeyond}
use Rattle.geometry.specs.Cuts.{over_of}
use Rattle.geometry.specs.Faces.{facing_of}
use Rattle.geometry.specs.Parts.{Part, Face, Edge}
use Rattle.geometry.proofs.Borders.{over_beyond, over_before, side_of_corner}
use Rattle.hiding_laws.specs.Values.{side_of}
use Rattle.geometry.specs.Counts.{Side, to_left, to_right, orientation_of}
use Rattle.geometry.specs.Covers.{IsOneWhere}
use Rattle.cross_find.specs.Ends.{HidesAt}
use Rattle.cut_count_laws.specs.CutEnds.{cut_end, PointStandsOn}
use Rattle.cut_count_laws.specs.CutCovers.{RestOfSideReaches, RestReachesTo, IsCutCoveredNext}
use Rattle.cut_count_laws.proofs.RestCovers.{side_from, side_of_from}
use Rattle.cut_count.specs.declared.placed.Placed.{Placed}
use Rattle.cut_count.specs.inner.Rests.{IsRestNextAt, IsTo, SideReaches, end_turn}
use Rattle.cut_count.proofs.CutEndTurns.{end_seen}
use Rattle.cut_count.proofs.NextRests.{rest_at}

-- ---- beyond the plane, by the height
module _ (c : Plane) (k : Corner) (over : ℤ) (is_over : over ≡ over_of c k) where
  beyond_of : over <ℤ pos 0 → IsBeyond c (point_of k)
  beyond_of h = elim (side_of_corner c k) [ inl b ↦ b | inr b ↦ absurd (both over (over_of c k) is_over h (over_before c k b)) ]
    where
      both : (x y : ℤ) → x ≡ y → x <ℤ pos 0 → pos 0 <ℤ y → ⊥
      both x y e h l = omega (arith, ints)

  over_of_beyond : IsBeyond c (point_of k) → over <ℤ pos 0
  over_of_beyond b = at over (over_of c k) is_over (over_beyond c k b)
    where
      at : (x y : ℤ) → x ≡ y → y <ℤ pos 0 → x <ℤ pos 0
      at x y e h = omega (arith, ints)

-- ---- a side
module _ (k : Side) (c : Plane) {s : Part} (e : Edge s) (a b : Corner) (is_a : e.a ≡ a) (is_b : e.b ≡ b) where
  abbrev IsSeen : Corner → Placed → Type 0
  IsSeen z p = (p.over ≡ over_of c z) × (p.turn ≡ orientation_of (toward_of c) a b z)

  stands : (x y : Corner) (p q : Placed) → IsSeen x p → IsSeen y q → PointStandsOn k (toward_of c) e.a e.b (cut_end c x y) ≡ IsTo k (end_turn p q)
  stands x y p q (over_p, turn_p) (over_q, turn_q) =
      (λ i. PointStandsOn k (toward_of c) (is_a i) (is_b i) (cut_end c x y)) ∙ by k
    where
      seen : side_of (toward_of c) a b (cut_end c x y) ≡ end_turn p q
      seen = end_seen c a b x y p q over_p over_q turn_p turn_q

      by : (k : Side) → PointStandsOn k (toward_of c) a b (cut_end c x y) ≡ IsTo k (end_turn p q)
      by to_left = λ i. pos 0 <ℤ seen i
      by to_right = λ i. seen i <ℤ pos 0

  side_reaches : (x y : Corner) (p q : Placed) → IsSeen x p → IsSeen y q → RestOfSideReaches k c e x y ↔ SideReaches k p q
  side_reaches x y p q seen_x seen_y = (
    (λ h. record {
      left = elim h.left [ inl l ↦ inl (over_of_beyond c x p.over seen_x.0 l) | inr l ↦ inr (over_of_beyond c y q.over seen_y.0 l) ];
      reaches = elim h.reaches [ inl r ↦ inl (subst (λ (T : Type 0). T) (stands x y p q seen_x seen_y) r) | inr r ↦ inr (subst (λ (T : Type 0). T) (stands y x q p seen_y seen_x) r) ];
    }),
    (λ h. record {
      left = elim h.left [ inl l ↦ inl (beyond_of c x p.over seen_x.0 l) | inr l ↦ inr (beyond_of c y q.over seen_y.0 l) ];
      reaches = elim h.reaches [ inl r ↦ inl (subst (λ (T : Type 0). T) (sym (stands x y p q seen_x seen_y)) r) | inr r ↦ inr (subst (λ (T : Type 0). T) (sym (stands y x q p seen_y seen_x)) r) ];
    }),
  )

  -- ---- a face
  module _ (f : Face s) (at_b : Bool) (x y z : Corner) (is_x : f.a ≡ x) (is_y : f.b ≡ y) (is_z : f.c ≡ z) where
    -- not edge-on, and nearer next to the end
    abbrev Hides : Type 0
    Hides = (facing_of (toward_of c) x y z ≢ pos 0) × HidesAt at_b (toward_of c) x y z a b

    abbrev Left : Type 0
    Left = IsRestNextAt at_b c x y z a b

    same_hides : ((facing_of (toward_of c) f.a f.b f.c ≢ pos 0) × HidesAt at_b (toward_of c) f.a f.b f.c e.a e.b) ≡ Hides
    same_hides = λ i. (facing_of (toward_of c) (is_x i) (is_y i) (is_z i) ≢ pos 0) × HidesAt at_b (toward_of c) (is_x i) (is_y i) (is_z i) (is_a i) (is_b i)

    same_left : IsRestNextAt at_b c f.a f.b f.c e.a e.b ≡ Left
    same_left = λ i. IsRestNextAt at_b c (is_x i) (is_y i) (is_z i) (is_a i) (is_b i)

    near_of : IsCutCoveredNext k c e at_b f → Hides × Left
    near_of h =
        let both = (rest_at c e f h.turned at_b).0 h.hides in
        (subst (λ (T : Type 0). T) same_hides (h.turned, both.0), subst (λ (T : Type 0). T) same_left both.1)

    -- as it is told of a direction that is the cut's
    abbrev HidesAlong : Triple → Type 0
    HidesAlong d = (facing_of d x y z ≢ pos 0) × HidesAt at_b d x y z a b

    -- nearer nowhere next to the end, or before the plane there
    pub not_near : (d : Triple) → d ≡ toward_of c → ¬ HidesAlong d ⊎ ¬ Left → IsOneWhere (IsCutCoveredNext k c e at_b f) 0
    not_near d is_d (inl none) = inr (refl, λ h. none (subst HidesAlong (sym is_d) (near_of h).0))
    not_near d is_d (inr none) = inr (refl, λ h. none (near_of h).1)

    -- with every corner before the plane
    pub nothing_left : (l m n : ℤ) → l ≡ over_of c x → m ≡ over_of c y → n ≡ over_of c z → pos 0 <ℤ l → pos 0 <ℤ m → pos 0 <ℤ n → IsOneWhere (IsCutCoveredNext k c e at_b f) 0
    nothing_left l m n is_l is_m is_n l_before m_before n_before = inr (refl, λ h. by (side_from f x y z (inl (is_x, is_y, is_z)) (RestOfSideReaches k c e) h.reaches))
      where
        never : (t : Corner) (v : ℤ) → v ≡ over_of c t → pos 0 <ℤ v → ¬ IsBeyond c (point_of t)
        never t v e h b = both v (over_of_beyond c t v e b) h
          where
            both : (v : ℤ) → v <ℤ pos 0 → pos 0 <ℤ v → ⊥
            both v h l = omega (arith, ints)

        by : RestOfSideReaches k c e x y ⊎ RestOfSideReaches k c e y z ⊎ RestOfSideReaches k c e z x → ⊥
        by (inl r) = elim r.left [ inl b ↦ never x l is_l l_before b | inr b ↦ never y m is_m m_before b ]
        by (inr (inl r)) = elim r.left [ inl b ↦ never y m is_m m_before b | inr b ↦ never z n is_n n_before b ]
        by (inr (inr r)) = elim r.left [ inl b ↦ never z n is_n n_before b | inr b ↦ never x l is_l l_before b ]

    -- else it is counted where a side reaches
    module _ (p q r : Placed) (seen_x : IsSeen x p) (seen_y : IsSeen y q) (seen_z : IsSeen z r) (l m n : ℕ)
        (first : IsOneWhere (SideReaches k p q) l) (second : IsOneWhere (SideReaches k q r) m) (third : IsOneWhere (SideReaches k r p) n) where
      told : {P : Type 0} (n : ℕ) → IsOneWhere P n → (P ↔ (n ≢ 0))
      told n (inl (is, h)) = ((λ g none. apart n is none), λ g. h)
        where
          apart : (n : ℕ) → n ≡ 1 → n ≡ 0 → ⊥
          apart n e g = omega (arith, e, g)
      told n (inr (is, none)) = ((λ g. absurd (none g)), λ g. absurd (g is))

      pub near : (d : Triple) → d ≡ toward_of c → HidesAlong d → Left → (i : ℕ) → IsOneWhere ((l ≢ 0) ⊎ (m ≢ 0) ⊎ (n ≢ 0)) i → IsOneWhere (IsCutCoveredNext k c e at_b f) i
      near d is_d hides left i one = by one
        where
          here : (facing_of (toward_of c) f.a f.b f.c ≢ pos 0) × HidesAt at_b (toward_of c) f.a f.b f.c e.a e.b
          here = subst (λ (T : Type 0). T) (sym same_hides) (subst HidesAlong is_d hides)

          sides_of : (l ≢ 0) ⊎ (m ≢ 0) ⊎ (n ≢ 0) → RestReachesTo k c e f
          sides_of h = side_of_from f x y z (inl (is_x, is_y, is_z)) (RestOfSideReaches k c e) (by h)
            where
              by : (l ≢ 0) ⊎ (m ≢ 0) ⊎ (n ≢ 0) → RestOfSideReaches k c e x y ⊎ RestOfSideReaches k c e y z ⊎ RestOfSideReaches k c e z x
              by (inl h) = inl ((side_reaches x y p q seen_x seen_y).1 ((told l first).1 h))
              by (inr (inl h)) = inr (inl ((side_reaches y z q r seen_y seen_z).1 ((told m second).1 h)))
              by (inr (inr h)) = inr (inr ((side_reaches z x r p seen_z seen_x).1 ((told n third).1 h)))

          some_side : RestReachesTo k c e f → (l ≢ 0) ⊎ (m ≢ 0) ⊎ (n ≢ 0)
          some_side h = by (side_from f x y z (inl (is_x, is_y, is_z)) (RestOfSideReaches k c e) h)
            where
              by : RestOfSideReaches k c e x y ⊎ RestOfSideReaches k c e y z ⊎ RestOfSideReaches k c e z x → (l ≢ 0) ⊎ (m ≢ 0) ⊎ (n ≢ 0)
              by (inl h) = inl ((told l first).0 ((side_reaches x y p q seen_x seen_y).0 h))
              by (inr (inl h)) = inr (inl ((told m second).0 ((side_reaches y z q r seen_y seen_z).0 h)))
              by (inr (inr h)) = inr (inr ((told n third).0 ((side_reaches z x r p seen_z seen_x).0 h)))

          by : IsOneWhere ((l ≢ 0) ⊎ (m ≢ 0) ⊎ (n ≢ 0)) i → IsOneWhere (IsCutCoveredNext k c e at_b f) i
          by (inl (is, some)) = inl (
            is,
            record {
              turned = here.0;
              hides = (rest_at c e f here.0 at_b).1 (here.1, subst (λ (T : Type 0). T) (sym same_left) left);
              reaches = sides_of some;
            },
          )
          by (inr (is, none)) = inr (is, λ h. none (some_side h.reaches))

-- ---- a side, by the turns of the two ends of what is left of it
pub side_told : (k : Side) (x y : Placed) (from to : ℤ) → from ≡ end_turn x y → to ≡ end_turn y x → (x.over <ℤ pos 0) ⊎ (y.over <ℤ pos 0)
    → (n : ℕ) → IsOneWhere (IsTo k from ⊎ IsTo k to ⊎ IsTo k to) n → IsOneWhere (SideReaches k x y) n
side_told k x y from to is_from is_to left n (inl (is, some)) =
    inl (is, record { left = left; reaches = elim some [ inl h ↦ inl (subst (IsTo k) is_from h) | inr h ↦ elim h [ inl h ↦ inr (subst (IsTo k) is_to h) | inr h ↦ inr (subst (IsTo k) is_to h) ] ] })
side_told k x y from to is_from is_to left n (inr (is, none)) =
    inr (is, λ h. none (elim h.reaches [ inl h ↦ inl (subst (IsTo k) (sym is_from) h) | inr h ↦ inr (inl (subst (IsTo k) (sym is_to) h)) ]))

-- ---- numbers that pass through the machine's
pub over_passed : (z : ℤ) → unsigned_abs z < 2 ^ 23 → to_z w64 (of_z w64 z) ≡ z
over_passed z h = omega (arith, ints)

pub turn_passed : (z : ℤ) → unsigned_abs z < 2 ^ 72 → to_z w128 (of_z w128 z) ≡ z
turn_passed z h = omega (arith, ints)
