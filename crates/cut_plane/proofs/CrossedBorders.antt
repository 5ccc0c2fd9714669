-- A border between two ends crosses an edge at a place exactly where its line's value changes its sign there and the place is seen between the ends.
use Rattle.std.proofs.Common.{◌≡◌, ℕ, ◌+◌, ◌<◌, ◌≤◌, ◌⊎◌, inl, inr, [], ◌∷◌, refl, sym, subst, ap, ◌∙◌, arith, unsigned_abs}
use Rattle.std.specs.Prelude.{ℤ, pos, ◌+ℤ◌, ◌-ℤ◌, ◌*ℤ◌, ◌≤ℤ◌}
use Rattle.std.proofs.lemmas.Int.{ints, by_lt_z}
use Rattle.std.proofs.lemmas.Bool.{cases_lt}
use Rattle.integers.proofs.Absolutes.{abs_of_not_negative, abs_of_not_positive, some_abs_of_negative, some_abs_of_positive, natural_positive}
use Rattle.integers.proofs.Comparisons.{gap_of_same, positive_not_zero, negation_positive, gap_of_at_most, zero_between}
use Rattle.integers.proofs.Ring.{var, con, ◌⊕◌, ◌⊖◌, ◌⊗◌, ring, by_one, by_two, by_three, same_of_gap}
use Rattle.integers.proofs.Signs.{zero_of_times}
use Rattle.integers.proofs.Weighted.{sum_pos}
use Rattle.lattice.specs.declared.lines.Line.{Line}
use Rattle.lattice.specs.declared.points.Corner.{Corner}
use Rattle.lattice.specs.Triple.{Triple, cross, det, right_axis, up_axis, IsZero}
use Rattle.lattice.specs.Points.{Point, IsPoint, point_of, across_of, upward_of}
use Rattle.lattice.specs.Cuts.{Plane, toward_of}
use Rattle.lattice.specs.Lines.{IsOnLine}
use Rattle.lattice.proofs.OnLines.{weighted_sum, product_of_sum, on_line_of_sight}
use Rattle.lattice.proofs.SameLines.{along_line}
use Rattle.geometry.specs.Faces.{difference, IsFlat, share_point, IsPointOfFace}
use Rattle.geometry.specs.Parts.{Part, Face, Edge}
use Rattle.geometry.specs.Cuts.{border, IsOnBorder, IsBorderOf, IsSeenOverInCut}
use Rattle.cut_plane.specs.Loops.{IsBorderLine}
use Rattle.cut_plane.proofs.RightOf.{first_alone, second_alone, mix_product}
use Rattle.cut_plane.proofs.BorderSums.{AreEnds, border_ends}
use Rattle.cut_plane.specs.Crossings.{CrossesAt}
use Rattle.cut_plane.specs.inner.Crossings.{line_value, IsAmid, IsSeenBetween, IsRootOf}
use Rattle.cut_plane.proofs.Lies.{IsAcross, up, down}
use Rattle.cut_plane.proofs.Meetings.{Sides, both_up, both_down, apart, sides}
use Rattle.cut_plane.proofs.Roots.{Apex, apex_of, value_share, parallel_of_same, same_of_parallel, some_number}

-- ---- one coordinate
-- by how much x / w is past z / v, for two of them: apart, if a sum with weights that are not both 0 is nothing
apart_of_sum : (i j : ℕ) (x y : ℤ) → 0 < i + j → (pos i *ℤ x) +ℤ (pos j *ℤ y) ≡ pos 0 → IsAcross x y
apart_of_sum i j x y some e = by (sides x y)
  where
    turned : (pos i *ℤ (pos 0 -ℤ x)) +ℤ (pos j *ℤ (pos 0 -ℤ y)) ≡ pos 0
    turned = ring (pos i ∷ pos j ∷ x ∷ y ∷ []) ((var 0 ⊗ (con (pos 0) ⊖ var 2)) ⊕ (var 1 ⊗ (con (pos 0) ⊖ var 3))) (con (pos 0) ⊖ ((var 0 ⊗ var 2) ⊕ (var 1 ⊗ var 3))) refl ∙ ap (λ z. pos 0 -ℤ z) e

    by : Sides x y → IsAcross x y
    by (both_up p q) = absurd (positive_not_zero _ (sum_pos x y i j p q some) e)
    by (both_down p q) = absurd (positive_not_zero _ (sum_pos (pos 0 -ℤ x) (pos 0 -ℤ y) i j (negation_positive x p) (negation_positive y q) some) turned)
    by (apart h) = h

amid_of_across : (n m n' m' k l : ℤ) → IsAcross ((n *ℤ l) -ℤ (k *ℤ m)) ((n' *ℤ l) -ℤ (k *ℤ m')) → IsAmid n m n' m' k l
amid_of_across n m n' m' k l (up p q) = inl (under (n *ℤ l) (k *ℤ m) p, over (n' *ℤ l) (k *ℤ m') q)
  where
    under : (x y : ℤ) → (x -ℤ y) ≤ℤ pos 0 → x ≤ℤ y
    under x y h = omega (arith, ints)

    over : (x y : ℤ) → pos 0 ≤ℤ (x -ℤ y) → y ≤ℤ x
    over x y h = omega (arith, ints)
amid_of_across n m n' m' k l (down p q) = inr (under (n' *ℤ l) (k *ℤ m') q, over (n *ℤ l) (k *ℤ m) p)
  where
    under : (x y : ℤ) → (x -ℤ y) ≤ℤ pos 0 → x ≤ℤ y
    under x y h = omega (arith, ints)

    over : (x y : ℤ) → pos 0 ≤ℤ (x -ℤ y) → y ≤ℤ x
    over x y h = omega (arith, ints)

across_of_amid : (n m n' m' k l : ℤ) → IsAmid n m n' m' k l → IsAcross ((n *ℤ l) -ℤ (k *ℤ m)) ((n' *ℤ l) -ℤ (k *ℤ m'))
across_of_amid n m n' m' k l (inl (p, q)) = up (under (n *ℤ l) (k *ℤ m) p) (gap_of_at_most (k *ℤ m') (n' *ℤ l) q)
  where
    under : (x y : ℤ) → x ≤ℤ y → (x -ℤ y) ≤ℤ pos 0
    under x y h = omega (arith, ints)
across_of_amid n m n' m' k l (inr (p, q)) = down (gap_of_at_most (k *ℤ m) (n *ℤ l) q) (under (n' *ℤ l) (k *ℤ m') p)
  where
    under : (x y : ℤ) → x ≤ℤ y → (x -ℤ y) ≤ℤ pos 0
    under x y h = omega (arith, ints)

-- ---- both coordinates
-- weights for which both sums are nothing
record Weights (x y u v : ℤ) : Type 0 where
  i : ℕ
  j : ℕ
  some : 0 < i + j
  across : (pos i *ℤ x) +ℤ (pos j *ℤ y) ≡ pos 0
  upward : (pos i *ℤ u) +ℤ (pos j *ℤ v) ≡ pos 0

cancels : (x y : ℤ) → IsAcross x y → (pos (unsigned_abs y) *ℤ x) +ℤ (pos (unsigned_abs x) *ℤ y) ≡ pos 0
cancels x y (up p q) = (λ i. (abs_of_not_negative y q i *ℤ x) +ℤ (abs_of_not_positive x p i *ℤ y)) ∙ ring (x ∷ y ∷ []) ((var 1 ⊗ var 0) ⊕ ((con (pos 0) ⊖ var 0) ⊗ var 1)) (con (pos 0)) refl
cancels x y (down p q) = (λ i. (abs_of_not_positive y q i *ℤ x) +ℤ (abs_of_not_negative x p i *ℤ y)) ∙ ring (x ∷ y ∷ []) (((con (pos 0) ⊖ var 1) ⊗ var 0) ⊕ (var 0 ⊗ var 1)) (con (pos 0)) refl

-- where a sum of multiples with a is nothing, and both values are on one line, so is that with b
other_sum : (i j a b x y u v : ℤ) → (a *ℤ x) +ℤ (b *ℤ u) ≡ pos 0 → (a *ℤ y) +ℤ (b *ℤ v) ≡ pos 0 → (i *ℤ x) +ℤ (j *ℤ y) ≡ pos 0 → b *ℤ ((i *ℤ u) +ℤ (j *ℤ v)) ≡ pos 0
other_sum i j a b x y u v e g h =
    by_three _ _ ((a *ℤ x) +ℤ (b *ℤ u)) (pos 0) i ((a *ℤ y) +ℤ (b *ℤ v)) (pos 0) j ((i *ℤ x) +ℤ (j *ℤ y)) (pos 0) (pos 0 -ℤ a)
    (ring (i ∷ j ∷ a ∷ b ∷ x ∷ y ∷ u ∷ v ∷ [])
    ((var 3 ⊗ ((var 0 ⊗ var 6) ⊕ (var 1 ⊗ var 7))) ⊖ con (pos 0))
    ((((((var 2 ⊗ var 4) ⊕ (var 3 ⊗ var 6)) ⊖ con (pos 0)) ⊗ var 0) ⊕ ((((var 2 ⊗ var 5) ⊕ (var 3 ⊗ var 7)) ⊖ con (pos 0)) ⊗ var 1)) ⊕ ((((var 0 ⊗ var 4) ⊕ (var 1 ⊗ var 5)) ⊖ con (pos 0)) ⊗ (con (pos 0) ⊖ var 2))) refl) e g h

module _ (a b x y u v : ℤ) (some_line : a ≡ pos 0 → b ≡ pos 0 → ⊥) (first : (a *ℤ x) +ℤ (b *ℤ u) ≡ pos 0) (second : (a *ℤ y) +ℤ (b *ℤ v) ≡ pos 0) (across : IsAcross x y) (upward : IsAcross u v) where
  weights_of : Weights x y u v
  weights_of = by (cases_lt 0 (unsigned_abs y + unsigned_abs x)) (cases_lt 0 (unsigned_abs v + unsigned_abs u))
    where
      none : (x : ℤ) → unsigned_abs x ≡ 0 → x ≡ pos 0
      none x e = omega (arith, ints)

      nothing : (i j x y : ℤ) → x ≡ pos 0 → y ≡ pos 0 → (i *ℤ x) +ℤ (j *ℤ y) ≡ pos 0
      nothing i j x y e g = (λ t. (i *ℤ e t) +ℤ (j *ℤ g t)) ∙ ring (i ∷ j ∷ []) ((var 0 ⊗ con (pos 0)) ⊕ (var 1 ⊗ con (pos 0))) (con (pos 0)) refl

      -- b is not 0, or else both x and y are
      upward_sum : (i j : ℤ) → 0 < unsigned_abs y + unsigned_abs x → (i *ℤ x) +ℤ (j *ℤ y) ≡ pos 0 → (i *ℤ u) +ℤ (j *ℤ v) ≡ pos 0
      upward_sum i j some e = zero_of_times b _ (some_b (cases_lt 0 (unsigned_abs b))) (other_sum i j a b x y u v first second e)
        where
          alone : (a b x u : ℤ) → b ≡ pos 0 → (a *ℤ x) +ℤ (b *ℤ u) ≡ pos 0 → a *ℤ x ≡ pos 0
          alone a b x u e h = by_two _ _ ((a *ℤ x) +ℤ (b *ℤ u)) (pos 0) (pos 1) b (pos 0) (pos 0 -ℤ u)
              (ring (a ∷ b ∷ x ∷ u ∷ []) ((var 0 ⊗ var 2) ⊖ con (pos 0)) (((((var 0 ⊗ var 2) ⊕ (var 1 ⊗ var 3)) ⊖ con (pos 0)) ⊗ con (pos 1)) ⊕ ((var 1 ⊖ con (pos 0)) ⊗ (con (pos 0) ⊖ var 3))) refl) h e

          some_a : b ≡ pos 0 → 0 < unsigned_abs a
          some_a g = by_lt_z a (pos 0) (λ p. some_abs_of_negative a p) (λ p. by_lt_z (pos 0) a (λ q. some_abs_of_positive a q) (λ q. absurd (some_line (zero_between a p q) g)))

          clash : (x y : ℤ) → x ≡ pos 0 → y ≡ pos 0 → 0 < unsigned_abs y + unsigned_abs x → ⊥
          clash x y e g h = omega (arith, ints)

          some_b : (0 < unsigned_abs b) ⊎ (unsigned_abs b ≤ 0) → 0 < unsigned_abs b
          some_b (inl h) = h
          some_b (inr h) =
              let g : b ≡ pos 0 = none b (omega arith) in
              absurd (clash x y (zero_of_times a x (some_a g) (alone a b x u g first)) (zero_of_times a y (some_a g) (alone a b y v g second)) some)

      by : (0 < unsigned_abs y + unsigned_abs x) ⊎ (unsigned_abs y + unsigned_abs x ≤ 0) → (0 < unsigned_abs v + unsigned_abs u) ⊎ (unsigned_abs v + unsigned_abs u ≤ 0) → Weights x y u v
      by (inl some) other = record {
        i = unsigned_abs y;
        j = unsigned_abs x;
        some = some;
        across = cancels x y across;
        upward = upward_sum (pos (unsigned_abs y)) (pos (unsigned_abs x)) some (cancels x y across);
      }
      by (inr all) (inl some) = record {
        i = unsigned_abs v;
        j = unsigned_abs u;
        some = some;
        across = nothing (pos (unsigned_abs v)) (pos (unsigned_abs u)) x y (none x (omega arith)) (none y (omega arith));
        upward = cancels u v upward;
      }
      by (inr all) (inr none_up) = record {
        i = 1;
        j = 0;
        some = omega arith;
        across = nothing (pos 1) (pos 0) x y (none x (omega arith)) (none y (omega arith));
        upward = nothing (pos 1) (pos 0) u v (none u (omega arith)) (none v (omega arith));
      }

-- ---- points and sums
point_of_face : (a b k : Corner) (r : Point) → IsPointOfFace a b k r → IsPoint r
point_of_face a b k r (i, j, n, some, is) = subst IsPoint (sym is) (natural_positive (i + j + n) some)

-- a mix at one place with z has sums of nothing
mixed_gap : (i j k x y r z v w u t : ℤ) → (i *ℤ x) +ℤ (j *ℤ y) ≡ k *ℤ r → (i *ℤ v) +ℤ (j *ℤ w) ≡ k *ℤ u → r *ℤ t ≡ z *ℤ u → (i *ℤ ((x *ℤ t) -ℤ (z *ℤ v))) +ℤ (j *ℤ ((y *ℤ t) -ℤ (z *ℤ w))) ≡ pos 0
mixed_gap i j k x y r z v w u t e g h =
    by_three _ _ ((i *ℤ x) +ℤ (j *ℤ y)) (k *ℤ r) t ((i *ℤ v) +ℤ (j *ℤ w)) (k *ℤ u) (pos 0 -ℤ z) (r *ℤ t) (z *ℤ u) k
    (ring (i ∷ j ∷ k ∷ x ∷ y ∷ r ∷ z ∷ v ∷ w ∷ u ∷ t ∷ [])
    (((var 0 ⊗ ((var 3 ⊗ var 10) ⊖ (var 6 ⊗ var 7))) ⊕ (var 1 ⊗ ((var 4 ⊗ var 10) ⊖ (var 6 ⊗ var 8)))) ⊖ con (pos 0))
    (((((var 0 ⊗ var 3) ⊕ (var 1 ⊗ var 4)) ⊖ (var 2 ⊗ var 5)) ⊗ var 10)
    ⊕ ((((var 0 ⊗ var 7) ⊕ (var 1 ⊗ var 8)) ⊖ (var 2 ⊗ var 9)) ⊗ (con (pos 0) ⊖ var 6))
    ⊕ (((var 5 ⊗ var 10) ⊖ (var 6 ⊗ var 9)) ⊗ var 2)) refl) e g h

-- and a sum of nothing is at one place with z
sum_gap : (i j x y z v w t : ℤ) → (i *ℤ ((x *ℤ t) -ℤ (z *ℤ v))) +ℤ (j *ℤ ((y *ℤ t) -ℤ (z *ℤ w))) ≡ pos 0 → ((i *ℤ x) +ℤ (j *ℤ y)) *ℤ t ≡ z *ℤ ((i *ℤ v) +ℤ (j *ℤ w))
sum_gap i j x y z v w t e =
    by_one _ _ ((i *ℤ ((x *ℤ t) -ℤ (z *ℤ v))) +ℤ (j *ℤ ((y *ℤ t) -ℤ (z *ℤ w)))) (pos 0) (pos 1)
    (ring (i ∷ j ∷ x ∷ y ∷ z ∷ v ∷ w ∷ t ∷ [])
    ((((var 0 ⊗ var 2) ⊕ (var 1 ⊗ var 3)) ⊗ var 7) ⊖ (var 4 ⊗ ((var 0 ⊗ var 5) ⊕ (var 1 ⊗ var 6))))
    ((((var 0 ⊗ ((var 2 ⊗ var 7) ⊖ (var 4 ⊗ var 5))) ⊕ (var 1 ⊗ ((var 3 ⊗ var 7) ⊖ (var 4 ⊗ var 6)))) ⊖ con (pos 0)) ⊗ con (pos 1)) refl) e

-- ---- a border and an edge
module _ (c : Plane) {s : Part} (f : Face s) (whole : ¬ IsFlat f.a f.b f.c) (k l : Point) (ends : IsBorderOf c f k l) (line : Line) (on_line : IsBorderLine c f.a f.b f.c line) (e : Edge s) where
  abbrev d : Triple
  d = toward_of c

  abbrev start : ℤ
  start = line_value d line (point_of e.a)

  abbrev end : ℤ
  end = line_value d line (point_of e.b)

  are_ends : AreEnds c f.a f.b f.c k l
  are_ends = border_ends c f k l ends

  first_on : IsOnBorder c f k
  first_on = subst (IsOnBorder c f) (first_alone k l) (are_ends.on_face 1 0 (omega arith), are_ends.on_plane 1 0)

  second_on : IsOnBorder c f l
  second_on = subst (IsOnBorder c f) (second_alone k l) (are_ends.on_face 0 1 (omega arith), are_ends.on_plane 0 1)

  apex : Apex c f
  apex = apex_of c f k first_on

  pub root_of_crossing : (i j : ℤ) → CrossesAt c f e i j → IsRootOf start end i j × IsSeenBetween d k l (share_point e.a e.b i j)
  root_of_crossing i j crosses = by crosses.passes
    where
      z : Point
      z = share_point e.a e.b i j

      by : IsSeenOverInCut c (border f) z → IsRootOf start end i j × IsSeenBetween d k l z
      by (r, on, sight) = (
        record {
          root = sym (value_share d line e.a e.b i j) ∙ gap_of_same _ _ (on_line_of_sight d line r z (point_of_face f.a f.b f.c r on.0) sight (on_line r on.0 on.1));
          changes = λ same. crosses.turns (sym (ap (λ v. det d (difference e.a e.b) (cross d v)) apex.same_normal)
              ∙ parallel_of_same c apex.k apex.l apex.t apex.alone line (λ r there. on_line r (apex.on_face r there)) e.a e.b same);
        },
        (let mix = are_ends.within r on.0 on.1 in
            record {
              across = amid_of_across (across_of d k) k.w (across_of d l) l.w (across_of d z) j
                  (apart_of_sum mix.i mix.j _ _ mix.some
                  (mixed_gap (pos mix.i) (pos mix.j) mix.k (across_of d k) (across_of d l) (across_of d r) (across_of d z) k.w l.w r.w j (mix_product (right_axis d) k l r mix) mix.w sight.across));
              upward = amid_of_across (upward_of d k) k.w (upward_of d l) l.w (upward_of d z) j
                  (apart_of_sum mix.i mix.j _ _ mix.some
                  (mixed_gap (pos mix.i) (pos mix.j) mix.k (upward_of d k) (upward_of d l) (upward_of d r) (upward_of d z) k.w l.w r.w j (mix_product (up_axis d) k l r mix) mix.w sight.upward));
            }),
      )

  pub crossing_of_root : (i j : ℤ) → IsRootOf start end i j → IsSeenBetween d k l (share_point e.a e.b i j) → CrossesAt c f e i j
  crossing_of_root i j root between = record {
    passes = (
      weighted_sum (pos w.i) k (pos w.j) l,
      (are_ends.on_face w.i w.j w.some, are_ends.on_plane w.i w.j),
      record {
        across = ap (λ x. x *ℤ j) (product_of_sum (right_axis d) (pos w.i) (pos w.j) k l) ∙ sum_gap (pos w.i) (pos w.j) (across_of d k) (across_of d l) (across_of d z) k.w l.w j w.across;
        upward = ap (λ x. x *ℤ j) (product_of_sum (up_axis d) (pos w.i) (pos w.j) k l) ∙ sum_gap (pos w.i) (pos w.j) (upward_of d k) (upward_of d l) (upward_of d z) k.w l.w j w.upward;
      },
    );
    turns = λ parallel. root.changes (same_of_parallel c apex.k apex.l apex.t apex.alone line (λ r there. on_line r (apex.on_face r there)) e.a e.b
        (λ flat. whole (subst IsZero apex.same_normal flat)) (ap (λ v. det d (difference e.a e.b) (cross d v)) apex.same_normal ∙ parallel));
  }
    where
      z : Point
      z = share_point e.a e.b i j

      z_on : IsOnLine d line z
      z_on = same_of_gap _ _ (value_share d line e.a e.b i j ∙ root.root)

      w : Weights ((across_of d k *ℤ j) -ℤ (across_of d z *ℤ k.w)) ((across_of d l *ℤ j) -ℤ (across_of d z *ℤ l.w)) ((upward_of d k *ℤ j) -ℤ (upward_of d z *ℤ k.w)) ((upward_of d l *ℤ j) -ℤ (upward_of d z *ℤ l.w))
      w = weights_of line.a line.b _ _ _ _ (some_number line.a line.b line.leads)
          (along_line d line z k z_on (on_line k first_on.0 first_on.1))
          (along_line d line z l z_on (on_line l second_on.0 second_on.1))
          (across_of_amid (across_of d k) k.w (across_of d l) l.w (across_of d z) j between.across)
          (across_of_amid (upward_of d k) k.w (upward_of d l) l.w (upward_of d z) j between.upward)
