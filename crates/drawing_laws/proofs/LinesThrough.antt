-- The two lines through a place of a view, and that no point is there which is beside both.
use Rattle.std.proofs.Common.{◌≡◌, ◌<◌, List, [], ◌∷◌, Contains, refl, unsigned_abs}
use Rattle.std.specs.Prelude.{ℤ, pos, ◌+ℤ◌, ◌-ℤ◌, ◌*ℤ◌}
use Rattle.integers.proofs.Ring.{var, con, ◌⊕◌, ◌⊖◌, ◌⊗◌, ring, by_one, by_two, same_of_gap}
use Rattle.integers.proofs.Signs.{zero_of_times}
use Rattle.lattice.specs.Triple.{Triple}
use Rattle.lattice.specs.Points.{Point, across_of, upward_of, OnOneSight}
use Rattle.drawing_laws.proofs.LinesListed.{Contains-first, Contains-second}
use Rattle.drawing_laws.proofs.Sparse.{ViewLine, IsBeside}

-- all that has the place's U, and all that has its V
abbrev pub upright_line : Triple → Point → ViewLine
upright_line d q = record { x = q.w; y = pos 0; z = across_of d q }

abbrev pub level_line : Triple → Point → ViewLine
level_line d q = record { x = pos 0; y = q.w; z = upward_of d q }

abbrev pub lines_through : Triple → Point → List ViewLine
lines_through d q = upright_line d q ∷ level_line d q ∷ []

-- ---- over plain numbers: u, v and w are of the point, k and n of the place
upright_on : (k n u v w : ℤ) → k *ℤ w ≡ u *ℤ n → (n *ℤ u) +ℤ (pos 0 *ℤ v) ≡ k *ℤ w
upright_on k n u v w e =
    by_one _ _ (k *ℤ w) (u *ℤ n) (pos 0 -ℤ pos 1)
    (ring (k ∷ n ∷ u ∷ v ∷ w ∷ [])
    (((var 1 ⊗ var 2) ⊕ (con (pos 0) ⊗ var 3)) ⊖ (var 0 ⊗ var 4))
    (((var 0 ⊗ var 4) ⊖ (var 2 ⊗ var 1)) ⊗ (con (pos 0) ⊖ con (pos 1))) refl) e

level_on : (k n u v w : ℤ) → k *ℤ w ≡ v *ℤ n → (pos 0 *ℤ u) +ℤ (n *ℤ v) ≡ k *ℤ w
level_on k n u v w e =
    by_one _ _ (k *ℤ w) (v *ℤ n) (pos 0 -ℤ pos 1)
    (ring (k ∷ n ∷ u ∷ v ∷ w ∷ [])
    (((con (pos 0) ⊗ var 2) ⊕ (var 1 ⊗ var 3)) ⊖ (var 0 ⊗ var 4))
    (((var 0 ⊗ var 4) ⊖ (var 3 ⊗ var 1)) ⊗ (con (pos 0) ⊖ con (pos 1))) refl) e

upright_same : (k n u v w s t z : ℤ) → 0 < unsigned_abs n → (n *ℤ u) +ℤ (pos 0 *ℤ v) ≡ k *ℤ w → (n *ℤ s) +ℤ (pos 0 *ℤ t) ≡ k *ℤ z → u *ℤ z ≡ s *ℤ w
upright_same k n u v w s t z some e f =
    same_of_gap (u *ℤ z) (s *ℤ w) (zero_of_times n ((u *ℤ z) -ℤ (s *ℤ w)) some
    (by_two (n *ℤ ((u *ℤ z) -ℤ (s *ℤ w))) (pos 0) ((n *ℤ u) +ℤ (pos 0 *ℤ v)) (k *ℤ w) z ((n *ℤ s) +ℤ (pos 0 *ℤ t)) (k *ℤ z) (pos 0 -ℤ w)
    (ring (k ∷ n ∷ u ∷ v ∷ w ∷ s ∷ t ∷ z ∷ [])
    ((var 1 ⊗ ((var 2 ⊗ var 7) ⊖ (var 5 ⊗ var 4))) ⊖ con (pos 0))
    (((((var 1 ⊗ var 2) ⊕ (con (pos 0) ⊗ var 3)) ⊖ (var 0 ⊗ var 4)) ⊗ var 7) ⊕ ((((var 1 ⊗ var 5) ⊕ (con (pos 0) ⊗ var 6)) ⊖ (var 0 ⊗ var 7)) ⊗ (con (pos 0) ⊖ var 4))) refl) e f))

level_same : (k n u v w s t z : ℤ) → 0 < unsigned_abs n → (pos 0 *ℤ u) +ℤ (n *ℤ v) ≡ k *ℤ w → (pos 0 *ℤ s) +ℤ (n *ℤ t) ≡ k *ℤ z → v *ℤ z ≡ t *ℤ w
level_same k n u v w s t z some e f =
    same_of_gap (v *ℤ z) (t *ℤ w) (zero_of_times n ((v *ℤ z) -ℤ (t *ℤ w)) some
    (by_two (n *ℤ ((v *ℤ z) -ℤ (t *ℤ w))) (pos 0) ((pos 0 *ℤ u) +ℤ (n *ℤ v)) (k *ℤ w) z ((pos 0 *ℤ s) +ℤ (n *ℤ t)) (k *ℤ z) (pos 0 -ℤ w)
    (ring (k ∷ n ∷ u ∷ v ∷ w ∷ s ∷ t ∷ z ∷ [])
    ((var 1 ⊗ ((var 3 ⊗ var 7) ⊖ (var 6 ⊗ var 4))) ⊖ con (pos 0))
    (((((con (pos 0) ⊗ var 2) ⊕ (var 1 ⊗ var 3)) ⊖ (var 0 ⊗ var 4)) ⊗ var 7) ⊕ ((((con (pos 0) ⊗ var 5) ⊕ (var 1 ⊗ var 6)) ⊖ (var 0 ⊗ var 7)) ⊗ (con (pos 0) ⊖ var 4))) refl) e f))

-- ---- a point at the place would have all of a and b there too
module _ (d : Triple) (lines : List ViewLine) (a b p : Point) (apart : ¬ OnOneSight d a b) (beside : IsBeside d lines a b p) where
  pub off_place : (q : Point) → 0 < unsigned_abs q.w → ((l : ViewLine) → Contains (lines_through d q) l → Contains lines l) → ¬ OnOneSight d q p
  off_place q some listed same =
      let upright = beside (upright_line d q) (listed (upright_line d q) (Contains-first (upright_line d q) (level_line d q ∷ [])))
      (upright_on (across_of d q) q.w (across_of d p) (upward_of d p) p.w same.across) in
      let level = beside (level_line d q) (listed (level_line d q) (Contains-second (upright_line d q) (level_line d q) []))
      (level_on (upward_of d q) q.w (across_of d p) (upward_of d p) p.w same.upward) in
      apart (record {
        across = upright_same (across_of d q) q.w (across_of d a) (upward_of d a) a.w (across_of d b) (upward_of d b) b.w some upright.0 upright.1;
        upward = level_same (upward_of d q) q.w (across_of d a) (upward_of d a) a.w (across_of d b) (upward_of d b) b.w some level.0 level.1;
      })
