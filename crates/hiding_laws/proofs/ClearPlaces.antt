-- At an ordinary point of an edge, each side of a face that is seen there runs along the edge.
use Rattle.std.proofs.Common.{◌≡◌, ◌⊎◌, inl, inr, ℕ, ◌+◌, ◌<◌, All, length, [], ◌∷◌, refl, sym, ap, ◌∙◌, arith}
use Rattle.std.specs.Prelude.{ℤ, pos, negsuc, ◌+ℤ◌, ◌-ℤ◌, ◌*ℤ◌, ◌≤ℤ◌, ◌<ℤ◌}
use Rattle.std.proofs.lemmas.Int.{ints, by_lt_z}
use Rattle.geometry.proofs.FacePoints.{dot-edge_sum}
use Rattle.integers.proofs.Ring.{var, con, ◌⊕◌, ◌⊖◌, ◌⊗◌, ring, by_one}
use Rattle.lattice.specs.declared.points.Corner.{Corner}
use Rattle.lattice.specs.Triangles.{IsBelow}
use Rattle.lattice.specs.Triple.{Triple, det, right_axis, up_axis}
use Rattle.lattice.specs.Points.{difference, OnOneSight}
use Rattle.geometry.specs.Faces.{share_point, edge_sum}
use Rattle.geometry.specs.Parts.{Part, Face, Edge, IsClosed}
use Rattle.geometry.specs.Views.{IsOrdinary, IsSeenOver}
use Rattle.geometry.proofs.Shares.{edge_share}
use Rattle.hiding_laws.proofs.Screens.{Screen, area_of, turn_of}
use Rattle.hiding_laws.specs.Values.{IsSideOf}
use Rattle.hiding_laws.proofs.Decisions.{same_or}
use Rattle.hiding_laws.proofs.Ordinary.{not-at-crossing}
use Rattle.hiding_laws.proofs.Readings.{dot-share}
use Rattle.hiding_laws.proofs.Weights.{natural}
use Rattle.hiding_laws.proofs.Places.{place_of}
use Rattle.hiding_laws.proofs.Shares.{denominator_of, IsClearOf, IsClear}
use Rattle.hiding_laws.proofs.ScreenLetters.{area, turn}
use Rattle.hiding_laws.proofs.EdgeScreenLetters.{P, Q, A, B, M, Zero, flat_values, at}
use Rattle.hiding_laws.proofs.Signs.{up_weak}
use Rattle.hiding_laws.proofs.Sides.{denominator-areas}
use Rattle.hiding_laws.proofs.Seen.{on, scale, denominator_seen}

-- ---- where a side's line has a place of the edge, the side's corners weighed by each other's distance are at that place
module _ (p q a b : Screen) (n m : ℤ) (on_line : turn_of (place_of p q n m) a b ≡ pos 0) where
  abbrev Sa : ℤ
  Sa = area_of p q a

  abbrev Sb : ℤ
  Sb = area_of p q b

  same_u : ((Sb *ℤ a.u) +ℤ ((pos 0 -ℤ Sa) *ℤ b.u)) *ℤ m ≡ (place_of p q n m).u *ℤ (Sb +ℤ (pos 0 -ℤ Sa))
  same_u =
      by_one _ _ _ _ (q.u -ℤ p.u)
      (ring (flat_values p q a b a n m)
      ((((area P Q B ⊗ A.u) ⊕ ((Zero ⊖ area P Q A) ⊗ B.u)) ⊗ M) ⊖ (at P.u Q.u ⊗ (area P Q B ⊕ (Zero ⊖ area P Q A))))
      ((turn record { u = at P.u Q.u; v = at P.v Q.v; h = Zero; w = M } A B ⊖ Zero) ⊗ (Q.u ⊖ P.u)) refl) on_line

  same_v : ((Sb *ℤ a.v) +ℤ ((pos 0 -ℤ Sa) *ℤ b.v)) *ℤ m ≡ (place_of p q n m).v *ℤ (Sb +ℤ (pos 0 -ℤ Sa))
  same_v =
      by_one _ _ _ _ (q.v -ℤ p.v)
      (ring (flat_values p q a b a n m)
      ((((area P Q B ⊗ A.v) ⊕ ((Zero ⊖ area P Q A) ⊗ B.v)) ⊗ M) ⊖ (at P.v Q.v ⊗ (area P Q B ⊕ (Zero ⊖ area P Q A))))
      ((turn record { u = at P.u Q.u; v = at P.v Q.v; h = Zero; w = M } A B ⊖ Zero) ⊗ (Q.v ⊖ P.v)) refl) on_line

  negated : (x y a b m z : ℤ) → ((x *ℤ a) +ℤ ((pos 0 -ℤ y) *ℤ b)) *ℤ m ≡ z *ℤ (x +ℤ (pos 0 -ℤ y)) → (((pos 0 -ℤ x) *ℤ a) +ℤ (y *ℤ b)) *ℤ m ≡ z *ℤ ((pos 0 -ℤ x) +ℤ y)
  negated x y a b m z e =
      by_one _ _ _ _ (negsuc 0)
      (ring (x ∷ y ∷ a ∷ b ∷ m ∷ z ∷ [])
      (((((Zero ⊖ var 0) ⊗ var 2) ⊕ (var 1 ⊗ var 3)) ⊗ var 4) ⊖ (var 5 ⊗ ((Zero ⊖ var 0) ⊕ var 1)))
      (((((var 0 ⊗ var 2) ⊕ ((Zero ⊖ var 1) ⊗ var 3)) ⊗ var 4) ⊖ (var 5 ⊗ (var 0 ⊕ (Zero ⊖ var 1)))) ⊗ con (negsuc 0)) refl) e

  -- what follows from weights of at least 0 that are at the place
  abbrev ByWeights : Type 0 → Type 0
  ByWeights X = (i j : ℤ) → pos 0 ≤ℤ i → pos 0 ≤ℤ j → pos 0 <ℤ (i +ℤ j)
      → ((i *ℤ a.u) +ℤ (j *ℤ b.u)) *ℤ m ≡ (place_of p q n m).u *ℤ (i +ℤ j) → ((i *ℤ a.v) +ℤ (j *ℤ b.v)) *ℤ m ≡ (place_of p q n m).v *ℤ (i +ℤ j) → X

  pub no_denominator : ByWeights (denominator_of p q a b ≡ pos 0)
      → ((Sa ≤ℤ pos 0) × (pos 0 ≤ℤ Sb)) ⊎ ((Sb ≤ℤ pos 0) × (pos 0 ≤ℤ Sa)) → denominator_of p q a b ≡ pos 0
  no_denominator by (inl s) =
      by_lt_z (pos 0) (Sb +ℤ (pos 0 -ℤ Sa))
      (λ more. by Sb (pos 0 -ℤ Sa) s.1 (up_weak _ s.0) more same_u same_v)
      (λ less. none_up _ _ _ (denominator-areas p q a b) s.0 s.1 less)
    where
      none_up : (k x y : ℤ) → k ≡ y -ℤ x → x ≤ℤ pos 0 → pos 0 ≤ℤ y → (y +ℤ (pos 0 -ℤ x)) ≤ℤ pos 0 → k ≡ pos 0
      none_up k x y e h l n = omega (arith, ints)
  no_denominator by (inr s) =
      by_lt_z (pos 0) ((pos 0 -ℤ Sb) +ℤ Sa)
      (λ more. by (pos 0 -ℤ Sb) Sa (up_weak _ s.0) s.1 more (negated Sb Sa _ _ m _ same_u) (negated Sb Sa _ _ m _ same_v))
      (λ less. none_down _ _ _ (denominator-areas p q a b) s.1 s.0 less)
    where
      none_down : (k x y : ℤ) → k ≡ y -ℤ x → pos 0 ≤ℤ x → y ≤ℤ pos 0 → ((pos 0 -ℤ y) +ℤ x) ≤ℤ pos 0 → k ≡ pos 0
      none_down k x y e h l n = omega (arith, ints)

-- ---- an ordinary point
module _ (d : Triple) {s : Part} (closed : IsClosed s) (in_range : All (IsBelow (length s.corners)) s.triangles) (e : Edge s)
    (n m : ℤ) (after : pos 0 <ℤ n) (before : n <ℤ m) (ordinary : IsOrdinary d s (share_point e.a e.b n m)) where
  over_itself : IsSeenOver d e (share_point e.a e.b n m)
  over_itself =
      let (u, hu) = natural (m -ℤ n) (omega (arith, ints)) in
      let (v, hv) = natural n (omega (arith, ints)) in
      (share_point e.a e.b n m, (u, v, some n u v hv after, same u v hu hv), record { across = refl; upward = refl })
    where
      some : (n : ℤ) (u v : ℕ) → n ≡ pos v → pos 0 <ℤ n → 0 < u + v
      some n u v h l = omega (arith, ints)

      whole : (n m : ℤ) (u v : ℕ) → m -ℤ n ≡ pos u → n ≡ pos v → m ≡ pos (u + v)
      whole n m u v hu hv = omega (arith, ints)

      same : (u v : ℕ) → m -ℤ n ≡ pos u → n ≡ pos v → share_point e.a e.b n m ≡ edge_sum e.a e.b u v
      same u v hu hv = (λ t. share_point e.a e.b (hv t) (whole n m u v hu hv t)) ∙ sym (edge_share e.a e.b u v)

  module _ (f : Face s) (k l : Corner) (side : IsSideOf f k l) where
    abbrev Zeros : Type 0
    Zeros = denominator_of (on d e.a) (on d e.b) (on d k) (on d l) ≡ pos 0

    along : (i j : ℕ) → 0 < i + j → OnOneSight d (edge_sum k l i j) (share_point e.a e.b n m) → Zeros
    along i j some same =
        elim (same_or (det d (difference e.a e.b) (difference k l)) (pos 0)) [
          | inl z ↦ denominator_seen d e.a e.b k l ∙ ap (λ v. scale d *ℤ v) z ∙ times_zero (scale d)
          | inr crosses ↦ absurd (not-at-crossing d s (share_point e.a e.b n m) closed in_range e over_itself f k l side (edge_sum k l i j) (i, j, some, refl) same crosses ordinary)
        ]
      where
        times_zero : (x : ℤ) → x *ℤ pos 0 ≡ pos 0
        times_zero x = omega (arith, ints)

    by_weights : (i j : ℤ) → pos 0 ≤ℤ i → pos 0 ≤ℤ j → pos 0 <ℤ (i +ℤ j)
        → ((i *ℤ (on d k).u) +ℤ (j *ℤ (on d l).u)) *ℤ m ≡ (place_of (on d e.a) (on d e.b) n m).u *ℤ (i +ℤ j)
        → ((i *ℤ (on d k).v) +ℤ (j *ℤ (on d l).v)) *ℤ m ≡ (place_of (on d e.a) (on d e.b) n m).v *ℤ (i +ℤ j) → Zeros
    by_weights (pos i) (pos j) hi hj some eu ev =
        along i j (some_of i j some) record {
          across = (λ t. dot-edge_sum (right_axis d) k l i j t *ℤ m) ∙ eu ∙ (λ t. sym (dot-share (right_axis d) e.a e.b n m) t *ℤ pos (i + j));
          upward = (λ t. dot-edge_sum (up_axis d) k l i j t *ℤ m) ∙ ev ∙ (λ t. sym (dot-share (up_axis d) e.a e.b n m) t *ℤ pos (i + j));
        }
      where
        some_of : (i j : ℕ) → pos 0 <ℤ pos (i + j) → 0 < i + j
        some_of i j h = omega (arith, ints)
    by_weights (negsuc i) j hi hj some eu ev = absurd (omega (arith, ints))
    by_weights (pos i) (negsuc j) hi hj some eu ev = absurd (omega (arith, ints))

    clear_side : IsClearOf (on d e.a) (on d e.b) (on d k) (on d l) n m
    clear_side on_line sides = no_denominator (on d e.a) (on d e.b) (on d k) (on d l) n m on_line by_weights sides

  pub clear_ordinary : (f : Face s) → IsClear (on d e.a) (on d e.b) (on d f.a) (on d f.b) (on d f.c) n m
  clear_ordinary f = record {
    after = after;
    before = before;
    ab = clear_side f f.a f.b (inl (inl (refl, refl)));
    bc = clear_side f f.b f.c (inr (inl (inl (refl, refl))));
    ca = clear_side f f.c f.a (inr (inr (inl (refl, refl))));
  }
