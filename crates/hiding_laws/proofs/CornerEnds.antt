-- Which ends of a side change a count about a corner: it is decided, and those of a side that has the corner do not.
use Rattle.std.proofs.Common.{◌≡◌, ◌⊎◌, inl, inr, ℕ, [], ◌∷◌, refl, sym, ap, ◌∙◌, arith}
use Rattle.std.specs.Prelude.{ℤ, pos, ◌+ℤ◌, ◌-ℤ◌, ◌*ℤ◌, ◌≤ℤ◌, ◌<ℤ◌, ◌↔◌}
use Rattle.std.proofs.lemmas.Int.{ints, by_lt_z}
use Rattle.integers.proofs.Comparisons.{positive_at}
use Rattle.integers.proofs.Ring.{var, con, ◌⊕◌, ◌⊖◌, ◌⊗◌, ring, by_one, less_by, gap_of_less}
use Rattle.integers.proofs.Signs.{mul_nonneg, zero_of_mul}
use Rattle.lattice.specs.declared.points.Corner.{Corner}
use Rattle.lattice.specs.Triple.{Triple}
use Rattle.lattice.specs.Points.{point_of, OnOneSight}
use Rattle.geometry.specs.Parts.{Part, Edge}
use Rattle.hiding_laws.specs.Values.{SideHides}
use Rattle.hiding_laws.proofs.Screens.{Screen, turn_of, along_of, rest_of, side_lead_of, SideCovers}
use Rattle.hiding_laws.proofs.Decisions.{same_or, less_or, at_most_or, four_or, either_or, alike_or}
use Rattle.hiding_laws.proofs.OnScreens.{side_covers_of_hides, side_hides_of_covers}
use Rattle.hiding_laws.proofs.ScreenSides.{side_from, side_to, length_least, length_zero, pos_of_least}
use Rattle.geometry.specs.Counts.{Side}
use Rattle.geometry.specs.Turns.{Way, turn_from, Passes, perturbed, way_to, IsNearerOver, PassesEnd}
use Rattle.hiding_laws.proofs.CornerLaws.{way, EndPasses, IsFineTurn}
use Rattle.hiding_laws.proofs.FinePerturbations.{turn_at_perturbation}
use Rattle.hiding_laws.proofs.MeshCounts.{three_or}
use Rattle.hiding_laws.proofs.Seen.{on}
use Rattle.hiding_laws.proofs.Upright.{side_back}

abbrev pub AtOnePlace : Screen → Screen → Type 0
AtOnePlace a b = (a.u ≡ b.u) × (a.v ≡ b.v)

-- ---- a side that ends at the corner
-- it is strictly nearer over it only if it is seen end-on
own_end_on : (o b : Screen) → o.w ≡ pos 1 → SideCovers o b o → AtOnePlace o b
own_end_on o b ow s = (same o.u b.u (told o.u b.u s.same_u), same o.v b.v (told o.v b.v s.same_v))
  where
    same : (x y : ℤ) → s.j *ℤ (y -ℤ x) ≡ pos 0 → x ≡ y
    same x y e = equal x y (zero_of_mul s.j (y -ℤ x) some e)
      where
        equal : (x y : ℤ) → y -ℤ x ≡ pos 0 → x ≡ y
        equal x y e = omega (arith, ints)

        -- with no weight at the far end the side is as high as the corner
        some : pos 0 <ℤ s.j
        some =
            by_lt_z (pos 0) s.j (λ h. h)
            (λ low. absurd (none (o.h *ℤ (s.i +ℤ s.j)) (((s.i *ℤ o.h) +ℤ (s.j *ℤ b.h)) *ℤ o.w) s.nearer (level (zero_of s.j s.j_least low))))
          where
            zero_of : (x : ℤ) → pos 0 ≤ℤ x → x ≤ℤ pos 0 → x ≡ pos 0
            zero_of x h l = omega (arith, ints)

            none : (x y : ℤ) → x <ℤ y → x ≡ y → ⊥
            none x y h e = omega (arith, ints)

            level : s.j ≡ pos 0 → o.h *ℤ (s.i +ℤ s.j) ≡ ((s.i *ℤ o.h) +ℤ (s.j *ℤ b.h)) *ℤ o.w
            level z =
                (λ t. o.h *ℤ (s.i +ℤ z t))
                ∙ ring (o.h ∷ s.i ∷ b.h ∷ []) (var 0 ⊗ (var 1 ⊕ con (pos 0))) (((var 1 ⊗ var 0) ⊕ (con (pos 0) ⊗ var 2)) ⊗ con (pos 1)) refl
                ∙ (λ t. ((s.i *ℤ o.h) +ℤ (sym z t *ℤ b.h)) *ℤ sym ow t)

    told : (x y : ℤ) → ((s.i *ℤ x) +ℤ (s.j *ℤ y)) *ℤ o.w ≡ x *ℤ (s.i +ℤ s.j) → s.j *ℤ (y -ℤ x) ≡ pos 0
    told x y e =
        by_one _ _ _ _ (pos 1)
        (ring (s.i ∷ s.j ∷ x ∷ y ∷ []) ((var 1 ⊗ (var 3 ⊖ var 2)) ⊖ con (pos 0)) (((((var 0 ⊗ var 2) ⊕ (var 1 ⊗ var 3)) ⊗ con (pos 1)) ⊖ (var 2 ⊗ (var 0 ⊕ var 1))) ⊗ con (pos 1)) refl)
        (ap (λ w. ((s.i *ℤ x) +ℤ (s.j *ℤ y)) *ℤ w) (sym ow) ∙ e)

module _ (o a b : Screen) (x y : Way) (ow : o.w ≡ pos 1) where
  pub own_first : a ≡ o → (¬ EndPasses o a b a x y) × (¬ EndPasses o a b b x y)
  own_first e = (
    (λ v. v.1 ((λ t. (sym e t).u), (λ t. (sym e t).v))),
    (λ v. v.1 (own_end_on o b ow (from v.0))),
  )
    where
      from : SideCovers a b o → SideCovers o b o
      from s = record {
        i = s.i;
        j = s.j;
        i_least = s.i_least;
        j_least = s.j_least;
        some = s.some;
        same_u = (λ t. ((s.i *ℤ (sym e t).u) +ℤ (s.j *ℤ b.u)) *ℤ o.w) ∙ s.same_u;
        same_v = (λ t. ((s.i *ℤ (sym e t).v) +ℤ (s.j *ℤ b.v)) *ℤ o.w) ∙ s.same_v;
        nearer = at (λ t. ((s.i *ℤ (e t).h) +ℤ (s.j *ℤ b.h)) *ℤ o.w) s.nearer;
      }
        where
          at : {z x y : ℤ} → x ≡ y → z <ℤ x → z <ℤ y
          at e h = omega (arith, ints)

-- with the ends exchanged
pub own_second : (o a b : Screen) (x y : Way) → o.w ≡ pos 1 → b ≡ o → (¬ EndPasses o a b a x y) × (¬ EndPasses o a b b x y)
own_second o a b x y ow e =
    let r = own_first o b a x y ow e in
    (λ v. r.1 (side_back a b o v.0, v.1, v.2), λ v. r.0 (side_back a b o v.0, v.1, v.2))

-- ---- it is decided
both_or : {P Q : Type 0} → P ⊎ ¬ P → Q ⊎ ¬ Q → (P × Q) ⊎ ¬ (P × Q)
both_or (inl p) (inl q) = inl (p, q)
both_or (inl p) (inr n) = inr (λ h. n h.1)
both_or (inr n) q = inr (λ h. n h.0)

not_or : {P : Type 0} → P ⊎ ¬ P → (¬ P) ⊎ ¬ (¬ P)
not_or (inl p) = inr (λ n. n p)
not_or (inr n) = inl n

place_or : (a b : Screen) → AtOnePlace a b ⊎ ¬ AtOnePlace a b
place_or a b = both_or (same_or a.u b.u) (same_or a.v b.v)

module _ (o a b : Screen) (ow : o.w ≡ pos 1) where
  o_pos : pos 0 <ℤ o.w
  o_pos = positive_at _ _ ow (omega (arith, ints))

  wide_or : ¬ AtOnePlace a b → SideCovers a b o ⊎ ¬ SideCovers a b o
  wide_or apart =
      let long = pos_of_least _ (length_least a b) (λ z. apart (length_zero a b z)) in
      alike_or ((turn_of o a b ≡ pos 0) × (pos 0 ≤ℤ along_of a b o) × (pos 0 ≤ℤ rest_of a b o) × (pos 0 <ℤ side_lead_of a b o)) (SideCovers a b o)
      (λ h. side_from a b o o_pos long h.0 h.1 h.2 h.3) (λ s. side_to a b o s o_pos long)
      (four_or _ _ _ _ (same_or _ _) (at_most_or _ _) (at_most_or _ _) (less_or _ _))

  -- an end-on side that is over the corner has both ends on its line of sight
  pub end_on_place : AtOnePlace a b → SideCovers a b o → AtOnePlace o a
  end_on_place same s = (told a.u b.u o.u same.0 s.same_u, told a.v b.v o.v same.1 s.same_v)
    where
      told : (p q r : ℤ) → p ≡ q → ((s.i *ℤ p) +ℤ (s.j *ℤ q)) *ℤ o.w ≡ r *ℤ (s.i +ℤ s.j) → r ≡ p
      told p q r e h = equal r p (zero_of_mul (s.i +ℤ s.j) (p -ℤ r) s.some (by_one _ _ _ _ (pos 1)
          (ring (s.i ∷ s.j ∷ p ∷ r ∷ []) (((var 0 ⊕ var 1) ⊗ (var 2 ⊖ var 3)) ⊖ con (pos 0)) (((((var 0 ⊗ var 2) ⊕ (var 1 ⊗ var 2)) ⊗ con (pos 1)) ⊖ (var 3 ⊗ (var 0 ⊕ var 1))) ⊗ con (pos 1)) refl)
          ((λ t. ((s.i *ℤ p) +ℤ (s.j *ℤ e t)) *ℤ sym ow t) ∙ h)))
        where
          equal : (x y : ℤ) → y -ℤ x ≡ pos 0 → x ≡ y
          equal x y e = omega (arith, ints)

  -- an end-on side is strictly nearer on its own line of sight where one of its ends is
  end_on_or : AtOnePlace a b → SideCovers a b o ⊎ ¬ SideCovers a b o
  end_on_or same = by (place_or o a) (less_or o.h a.h) (less_or o.h b.h)
    where
      first : (x y z : ℤ) → x ≡ y → ((pos 1 *ℤ y) +ℤ (pos 0 *ℤ z)) *ℤ pos 1 ≡ x *ℤ (pos 1 +ℤ pos 0)
      first x y z e = ring (y ∷ z ∷ []) (((con (pos 1) ⊗ var 0) ⊕ (con (pos 0) ⊗ var 1)) ⊗ con (pos 1)) (var 0 ⊗ (con (pos 1) ⊕ con (pos 0))) refl ∙ ap (λ v. v *ℤ (pos 1 +ℤ pos 0)) (sym e)

      second : (x y z : ℤ) → x ≡ z → ((pos 0 *ℤ y) +ℤ (pos 1 *ℤ z)) *ℤ pos 1 ≡ x *ℤ (pos 0 +ℤ pos 1)
      second x y z e = ring (y ∷ z ∷ []) (((con (pos 0) ⊗ var 0) ⊕ (con (pos 1) ⊗ var 1)) ⊗ con (pos 1)) (var 1 ⊗ (con (pos 0) ⊕ con (pos 1))) refl ∙ ap (λ v. v *ℤ (pos 0 +ℤ pos 1)) (sym e)

      higher : (x y z w : ℤ) → w ≡ pos 1 → x <ℤ y → (x *ℤ (pos 1 +ℤ pos 0)) <ℤ (((pos 1 *ℤ y) +ℤ (pos 0 *ℤ z)) *ℤ w)
      higher x y z w e h =
          less_by _ _ _ ((λ t. (((pos 1 *ℤ y) +ℤ (pos 0 *ℤ z)) *ℤ e t) -ℤ (x *ℤ (pos 1 +ℤ pos 0)))
          ∙ ring (x ∷ y ∷ z ∷ []) ((((con (pos 1) ⊗ var 1) ⊕ (con (pos 0) ⊗ var 2)) ⊗ con (pos 1)) ⊖ (var 0 ⊗ (con (pos 1) ⊕ con (pos 0)))) (var 1 ⊖ var 0) refl) (gap_of_less x y h)

      higher' : (x y z w : ℤ) → w ≡ pos 1 → x <ℤ z → (x *ℤ (pos 0 +ℤ pos 1)) <ℤ (((pos 0 *ℤ y) +ℤ (pos 1 *ℤ z)) *ℤ w)
      higher' x y z w e h =
          less_by _ _ _ ((λ t. (((pos 0 *ℤ y) +ℤ (pos 1 *ℤ z)) *ℤ e t) -ℤ (x *ℤ (pos 0 +ℤ pos 1)))
          ∙ ring (x ∷ y ∷ z ∷ []) ((((con (pos 0) ⊗ var 1) ⊕ (con (pos 1) ⊗ var 2)) ⊗ con (pos 1)) ⊖ (var 0 ⊗ (con (pos 0) ⊕ con (pos 1)))) (var 2 ⊖ var 0) refl) (gap_of_less x z h)

      low : ¬ (o.h <ℤ a.h) → ¬ (o.h <ℤ b.h) → ¬ SideCovers a b o
      low f g s =
          none (s.i *ℤ (o.h -ℤ a.h)) (s.j *ℤ (o.h -ℤ b.h)) (mul_nonneg s.i _ s.i_least (least _ _ f)) (mul_nonneg s.j _ s.j_least (least _ _ g))
          (positive_at _ _
          (ring (s.i ∷ s.j ∷ o.h ∷ a.h ∷ b.h ∷ []) (con (pos 0) ⊖ ((var 0 ⊗ (var 2 ⊖ var 3)) ⊕ (var 1 ⊗ (var 2 ⊖ var 4)))) ((((var 0 ⊗ var 3) ⊕ (var 1 ⊗ var 4)) ⊗ con (pos 1)) ⊖ (var 2 ⊗ (var 0 ⊕ var 1))) refl
          ∙ (λ t. (((s.i *ℤ a.h) +ℤ (s.j *ℤ b.h)) *ℤ sym ow t) -ℤ (o.h *ℤ (s.i +ℤ s.j)))) (gap_of_less _ _ s.nearer))
        where
          least : (x y : ℤ) → ¬ (x <ℤ y) → pos 0 ≤ℤ (x -ℤ y)
          least x y n = by_lt_z x y (λ h. absurd (n h)) (λ h. omega (arith, ints))

          none : (x y : ℤ) → pos 0 ≤ℤ x → pos 0 ≤ℤ y → pos 0 <ℤ (pos 0 -ℤ (x +ℤ y)) → ⊥
          none x y h l g = omega (arith, ints)

      by : AtOnePlace o a ⊎ ¬ AtOnePlace o a → (o.h <ℤ a.h) ⊎ ¬ (o.h <ℤ a.h) → (o.h <ℤ b.h) ⊎ ¬ (o.h <ℤ b.h) → SideCovers a b o ⊎ ¬ SideCovers a b o
      by (inr n) f g = inr (λ s. n (end_on_place same s))
      by (inl here) (inl f) g = inl record {
        i = pos 1;
        j = pos 0;
        i_least = omega (arith, ints);
        j_least = omega (arith, ints);
        some = omega (arith, ints);
        same_u = ap (λ w. ((pos 1 *ℤ a.u) +ℤ (pos 0 *ℤ b.u)) *ℤ w) ow ∙ first o.u a.u b.u here.0;
        same_v = ap (λ w. ((pos 1 *ℤ a.v) +ℤ (pos 0 *ℤ b.v)) *ℤ w) ow ∙ first o.v a.v b.v here.1;
        nearer = higher o.h a.h b.h o.w ow f;
      }
      by (inl here) (inr f) (inl g) = inl record {
        i = pos 0;
        j = pos 1;
        i_least = omega (arith, ints);
        j_least = omega (arith, ints);
        some = omega (arith, ints);
        same_u = ap (λ w. ((pos 0 *ℤ a.u) +ℤ (pos 1 *ℤ b.u)) *ℤ w) ow ∙ second o.u a.u b.u (here.0 ∙ same.0);
        same_v = ap (λ w. ((pos 0 *ℤ a.v) +ℤ (pos 1 *ℤ b.v)) *ℤ w) ow ∙ second o.v a.v b.v (here.1 ∙ same.1);
        nearer = higher' o.h a.h b.h o.w ow g;
      }
      by (inl here) (inr f) (inr g) = inr (low f g)

  pub covers_or : SideCovers a b o ⊎ ¬ SideCovers a b o
  covers_or = elim (place_or a b) [ inl same ↦ end_on_or same | inr apart ↦ wide_or apart ]

module _ (o a b e : Screen) (x y : Way) (ow : o.w ≡ pos 1) where
  passes_or : (w : Way) → Passes x w y ⊎ ¬ Passes x w y
  passes_or w =
      let p = less_or (pos 0) (turn_from x w) in
      let q = less_or (pos 0) (turn_from w y) in
      let r = less_or (pos 0) (turn_from y x) in
      either_or _ _ (both_or p q) (either_or _ _ (both_or q r) (both_or r p))

  pub end_or : EndPasses o a b e x y ⊎ ¬ EndPasses o a b e x y
  end_or = three_or (λ p q r. (p, q, r)) (λ v. v.0) (λ v. v.1) (λ v. v.2) (covers_or o a b ow) (not_or (place_or o e)) (passes_or (way o e))

-- ---- an edge that is strictly nearer on the corner's line of sight, and what the turn passes of it
module _ (d : Triple) {s : Part} (o : Edge s) (number : ℕ) (c : Corner) where
  pub covers_of_over : IsNearerOver d number c o → SideCovers (on d o.a) (on d o.b) (on d c)
  covers_of_over p = side_covers_of_hides d o.a o.b (point_of c) record { point = p.point; on_side = p.on_outline; same_sight = p.same_sight; nearer = p.nearer }

  pub over_of_covers : ¬ (o.m ≡ number) → ¬ (o.n ≡ number) → SideCovers (on d o.a) (on d o.b) (on d c) → IsNearerOver d number c o
  over_of_covers first second x =
      let h : SideHides d o.a o.b (point_of c) = side_hides_of_covers d o.a o.b (point_of c) x in
      record { not_first = first; not_second = second; point = h.point; on_outline = h.on_side; same_sight = h.same_sight; nearer = h.nearer }

module _ (d : Triple) (c p : Corner) where
  pub one_place : OnOneSight d (point_of c) (point_of p) → AtOnePlace (on d c) (on d p)
  one_place h = (once _ _ h.across, once _ _ h.upward)
    where
      once : (x y : ℤ) → x *ℤ pos 1 ≡ y *ℤ pos 1 → x ≡ y
      once x y e = omega (arith, ints)

  pub one_sight : AtOnePlace (on d c) (on d p) → OnOneSight d (point_of c) (point_of p)
  one_sight h = record { across = ap (λ v. v *ℤ pos 1) h.0; upward = ap (λ v. v *ℤ pos 1) h.1 }

  -- the corners of an edge that is not seen end-on are seen at two places
  pub places_apart : ¬ OnOneSight d (point_of c) (point_of p) → ¬ AtOnePlace (on d c) (on d p)
  places_apart n h = n (one_sight h)

  -- the turn passes an end, as it is seen with a fine perturbation
  pub end_seen : (k l : Side) (x y : Way) (a b : Screen) (h : ℤ) → IsFineTurn h x (way_to d c p) y → SideCovers a b (on d c)
      → PassesEnd d c k x l y p ↔ EndPasses (on d c) a b (on d p) (perturbed k h x) (perturbed l h y)
  end_seen k l x y a b h fine covers =
      let t = turn_at_perturbation k l x y (way_to d c p) h fine in
      (λ v. (covers, places_apart v.0, t.0 v.1), λ v. (λ g. v.1 (one_place g), t.1 v.2))
