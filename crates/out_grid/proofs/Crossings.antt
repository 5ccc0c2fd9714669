-- Where an outline changes a count along an edge, a point of the edge and a point of the outline are on one line of sight.
use Rattle.std.proofs.Common.{◌≡◌, inl, inr, ℕ, ◌+◌, ◌<◌, [], ◌∷◌, refl, ap, ◌∙◌, arith}
use Rattle.std.specs.Prelude.{ℤ, pos, negsuc, ◌+ℤ◌, ◌-ℤ◌, ◌*ℤ◌, ◌≤ℤ◌, ◌<ℤ◌}
use Rattle.std.proofs.lemmas.Int.{ints}
use Rattle.integers.proofs.Comparisons.{at_most_of_less, less_of_gap}
use Rattle.integers.proofs.Ring.{var, ◌⊕◌, ◌⊗◌, ring}
use Rattle.lattice.specs.Triple.{Triple}
use Rattle.lattice.specs.Points.{Point, OnOneSight, difference}
use Rattle.lattice.proofs.SightLines.{sight_of_along}
use Rattle.geometry.specs.Faces.{IsPointOfEdge, edge_sum, share_point}
use Rattle.geometry.specs.Parts.{Part, Edge}
use Rattle.geometry.proofs.FacePoints.{edge_point-at_share}
use Rattle.hiding_laws.proofs.SidePoints.{natural}
use Rattle.geometry.specs.Counts.{orientation_of}
use Rattle.geometry.specs.Shares.{Changes, denominator_of, numerator_of, height_numerator_of}
use Rattle.hiding_laws.proofs.CrossingPlaces.{IsAcross, goes_across, parts_x, parts_y, parts_z, ends_turn, coordinate, least, most}

-- the weights of the outline's corners are not both 0
some_of : (i j : ℕ) (u v σ t c : ℤ) → pos i ≡ u → pos j ≡ v → u ≡ (σ *ℤ c) +ℤ (σ *ℤ t) → v ≡ pos 0 -ℤ (σ *ℤ t) → pos 0 <ℤ (σ *ℤ c) → 0 < i + j
some_of i j u v σ t c is_i is_j eu ev h = by (σ *ℤ c) (σ *ℤ t) eu ev h
  where
    by : (a b : ℤ) → u ≡ a +ℤ b → v ≡ pos 0 -ℤ b → pos 0 <ℤ a → 0 < i + j
    by a b eu ev h = omega (arith, ints, is_i, is_j, eu, ev, h)

module _ (d : Triple) {s : Part} (e o : Edge s) where
  -- points of the two on one line of sight
  abbrev pub MeetInView : Type 0
  MeetInView = (p : Point) × (q : Point) × IsPointOfEdge e.a e.b p × IsPointOfEdge o.a o.b q × OnOneSight d q p

  sum_of : (x y z : ℤ) → z -ℤ x ≡ (y -ℤ x) +ℤ (z -ℤ y)
  sum_of x y z = omega (arith, ints)

  second_turn : orientation_of d e.a e.b o.b ≡ denominator_of d e o +ℤ orientation_of d e.a e.b o.a
  second_turn = ends_turn d (difference e.a e.b) (difference o.a o.b) (difference e.a o.a) (difference e.a o.b) (sum_of e.a.x o.a.x o.b.x) (sum_of e.a.y o.a.y o.b.y) (sum_of e.a.z o.a.z o.b.z)

  -- the place of the edge and the outline's point have the determinants as weights, with the sign of the denominator
  meet_at : Changes d e o → (σ : ℤ) → pos 0 <ℤ (σ *ℤ denominator_of d e o) → pos 0 ≤ℤ (σ *ℤ orientation_of d e.a e.b o.b) → pos 0 ≤ℤ (pos 0 -ℤ (σ *ℤ orientation_of d e.a e.b o.a)) → MeetInView
  meet_at c σ there first second = at (natural _ first) (natural _ second)
    where
      turn : ℤ
      turn = orientation_of d e.a e.b o.a

      n : ℤ
      n = σ *ℤ numerator_of d e o

      m : ℤ
      m = σ *ℤ denominator_of d e o

      here : n *ℤ denominator_of d e o ≡ numerator_of d e o *ℤ m
      here = ring (σ ∷ numerator_of d e o ∷ denominator_of d e o ∷ []) ((var 0 ⊗ var 1) ⊗ var 2) (var 1 ⊗ (var 0 ⊗ var 2)) refl

      up : pos 0 <ℤ n
      up = least (numerator_of d e o) (denominator_of d e o) n m there here c.passes.after c.passes.before

      down : pos 0 <ℤ (m -ℤ n)
      down = most (numerator_of d e o) (denominator_of d e o) n m there here c.passes.after c.passes.before

      spread : (t k : ℤ) → σ *ℤ (k +ℤ t) ≡ (σ *ℤ k) +ℤ (σ *ℤ t)
      spread t k = ring (σ ∷ t ∷ k ∷ []) (var 0 ⊗ (var 2 ⊕ var 1)) ((var 0 ⊗ var 2) ⊕ (var 0 ⊗ var 1)) refl

      at : ((i : ℕ) × (pos i ≡ σ *ℤ orientation_of d e.a e.b o.b)) → ((j : ℕ) × (pos j ≡ pos 0 -ℤ (σ *ℤ turn))) → MeetInView
      at (i, is_i) (j, is_j) =
          let first : pos i ≡ σ *ℤ (denominator_of d e o +ℤ turn) = is_i ∙ ap (λ v. σ *ℤ v) second_turn in
          let h = height_numerator_of e o in
          let E = difference e.a e.b in
          let O = difference o.a o.b in
          let A = difference e.a o.a in (
            share_point e.a e.b n m,
            edge_sum o.a o.b i j,
            edge_point-at_share e.a e.b n m there (at_most_of_less _ _ up) (at_most_of_less _ _ (less_of_gap _ _ down)),
            (i, j, some_of i j _ _ σ turn (denominator_of d e o) first is_j (spread turn (denominator_of d e o)) refl there, refl),
            sight_of_along d (edge_sum o.a o.b i j) (share_point e.a e.b n m) (record {
              n = σ *ℤ (m *ℤ h);
              m = pos 1;
              positive = omega (arith, ints);
              x = coordinate (pos i) (pos j) σ turn (denominator_of d e o) (numerator_of d e o) h n m o.a.x o.b.x e.a.x e.b.x d.x first is_j here (parts_x d E O A);
              y = coordinate (pos i) (pos j) σ turn (denominator_of d e o) (numerator_of d e o) h n m o.a.y o.b.y e.a.y e.b.y d.y first is_j here (parts_y d E O A);
              z = coordinate (pos i) (pos j) σ turn (denominator_of d e o) (numerator_of d e o) h n m o.a.z o.b.z e.a.z e.b.z d.z first is_j here (parts_z d E O A);
            }),
          )

  -- the two cross in the view at a point of both
  pub seen_over : Changes d e o → MeetInView
  seen_over c = by (goes_across d e o c)
    where
      gap_up : (x y k : ℤ) → y ≡ k +ℤ x → x <ℤ y → pos 0 <ℤ (pos 1 *ℤ k)
      gap_up x y k e l = omega (arith, ints)

      one : (x : ℤ) → pos 0 ≤ℤ x → pos 0 ≤ℤ (pos 1 *ℤ x)
      one x h = omega (arith, ints)

      one_less : (x : ℤ) → x ≤ℤ pos 0 → pos 0 ≤ℤ (pos 0 -ℤ (pos 1 *ℤ x))
      one_less x h = omega (arith, ints)

      gap_down : (x y k : ℤ) → y ≡ k +ℤ x → y <ℤ x → pos 0 <ℤ (negsuc 0 *ℤ k)
      gap_down x y k e l = omega (arith, ints)

      back : (x : ℤ) → x ≤ℤ pos 0 → pos 0 ≤ℤ (negsuc 0 *ℤ x)
      back x h = omega (arith, ints)

      back_less : (x : ℤ) → pos 0 ≤ℤ x → pos 0 ≤ℤ (pos 0 -ℤ (negsuc 0 *ℤ x))
      back_less x h = omega (arith, ints)

      by : IsAcross (orientation_of d e.a e.b o.a) (orientation_of d e.a e.b o.b) → MeetInView
      by (inl (first, second, less)) = meet_at c (pos 1) (gap_up _ _ _ second_turn less) (one _ second) (one_less _ first)
      by (inr (second, first, less)) = meet_at c (negsuc 0) (gap_down _ _ _ second_turn less) (back _ second) (back_less _ first)
