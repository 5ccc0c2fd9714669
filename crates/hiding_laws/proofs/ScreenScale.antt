-- Areas and determinants as they are seen are those in space, times a factor that is positive.
use Rattle.std.proofs.Common.{◌≡◌, [], ◌∷◌, refl, ap, ◌∙◌}
use Rattle.std.specs.Prelude.{ℤ, pos, ◌+ℤ◌, ◌-ℤ◌, ◌*ℤ◌}
use Rattle.integers.proofs.Ring.{var, con, ◌⊕◌, ◌⊖◌, ◌⊗◌, ring, by_one}
use Rattle.lattice.specs.declared.points.Corner.{Corner}
use Rattle.lattice.specs.Triple.{Triple, dot, cross}
use Rattle.lattice.specs.Points.{Point, difference, point_of, height_of}
use Rattle.lattice.proofs.Vectors.{Letters, letters, dots, crosses}
use Rattle.geometry.specs.Faces.{normal, facing_of}
use Rattle.hiding_laws.specs.Values.{offset, side_of, depth_of}
use Rattle.hiding_laws.proofs.Screens.{Screen, screen_of, area_of, turn_of, lead_of}
use Rattle.lattice.proofs.PointLetters.{PointLetters, point_letters, corner_letters, ways, offsets, normals}
use Rattle.hiding_laws.proofs.ScreenLetters.{ScreenPoint, area, turn}

abbrev D : Letters
D = letters 0

abbrev R : Letters
R = letters 3

abbrev scaled : PointLetters → Letters
scaled p = record { x = p.x; y = p.y; z = p.z }

-- a point of expressions, as it is seen
abbrev seen : PointLetters → ScreenPoint
seen p = record { u = dots R (scaled p); v = dots (crosses D R) (scaled p); h = dots D (scaled p); w = p.w }

-- the sum of the corners' heights with the determinants as weights is above p's by this
cramer : (d : Triple) (a b c : Corner) (p : Point)
    → (((side_of d b c p *ℤ height_of d (point_of a)) +ℤ (side_of d c a p *ℤ height_of d (point_of b))) +ℤ (side_of d a b p *ℤ height_of d (point_of c))) -ℤ (height_of d p *ℤ facing_of d a b c)
    ≡ dot d d *ℤ depth_of a b c p
cramer d a b c p =
    let A = letters 3 in
    let B = letters 6 in
    let C = letters 9 in
    let P = point_letters 12 in
    let side = λ (a b : Letters). dots D (crosses (ways a b) (offsets a P)) in
    ring (d.x ∷ d.y ∷ d.z ∷ a.x ∷ a.y ∷ a.z ∷ b.x ∷ b.y ∷ b.z ∷ c.x ∷ c.y ∷ c.z ∷ p.x ∷ p.y ∷ p.z ∷ p.w ∷ [])
    ((((side B C ⊗ dots D A) ⊕ (side C A ⊗ dots D B)) ⊕ (side A B ⊗ dots D C)) ⊖ (dots D (scaled P) ⊗ dots D (normals A B C)))
    (dots D D ⊗ (con (pos 0) ⊖ dots (offsets A P) (normals A B C))) refl

module _ (d r : Triple) (level : dot r d ≡ pos 0) where
  abbrev on : Point → Screen
  on p = screen_of d r p

  abbrev at : Corner → Screen
  at a = screen_of d r (point_of a)

  pub area_scale : (a b c : Corner) → area_of (at a) (at b) (at c) ≡ dot r r *ℤ facing_of d a b c
  area_scale a b c =
      let A = letters 6 in
      let B = letters 9 in
      let C = letters 12 in
      let S = λ (a : Letters). seen (corner_letters a) in
      by_one _ _ _ _ (pos 0 -ℤ dot r (normal a b c))
      (ring (d.x ∷ d.y ∷ d.z ∷ r.x ∷ r.y ∷ r.z ∷ a.x ∷ a.y ∷ a.z ∷ b.x ∷ b.y ∷ b.z ∷ c.x ∷ c.y ∷ c.z ∷ [])
      (area (S A) (S B) (S C) ⊖ (dots R R ⊗ dots D (normals A B C)))
      ((dots R D ⊖ con (pos 0)) ⊗ (con (pos 0) ⊖ dots R (normals A B C))) refl) level

  pub turn_scale : (b c : Corner) (p : Point) → turn_of (on p) (at b) (at c) ≡ dot r r *ℤ side_of d b c p
  turn_scale b c p =
      let B = letters 6 in
      let C = letters 9 in
      let P = point_letters 12 in
      let S = λ (a : Letters). seen (corner_letters a) in
      by_one _ _ _ _ (pos 0 -ℤ dot r (cross (difference b c) (offset b p)))
      (ring (d.x ∷ d.y ∷ d.z ∷ r.x ∷ r.y ∷ r.z ∷ b.x ∷ b.y ∷ b.z ∷ c.x ∷ c.y ∷ c.z ∷ p.x ∷ p.y ∷ p.z ∷ p.w ∷ [])
      (turn (seen P) (S B) (S C) ⊖ (dots R R ⊗ dots D (crosses (ways B C) (offsets B P))))
      ((dots R D ⊖ con (pos 0)) ⊗ (con (pos 0) ⊖ dots R (crosses (ways B C) (offsets B P)))) refl) level

  pub lead_scale : (a b c : Corner) (p : Point) → lead_of (at a) (at b) (at c) (on p) ≡ dot r r *ℤ (dot d d *ℤ depth_of a b c p)
  lead_scale a b c p =
      sum _ _ _ _ _ _ _ _ _ (height_of d (point_of a)) (height_of d (point_of b)) (height_of d (point_of c)) (height_of d p) (turn_scale b c p) (turn_scale c a p) (turn_scale a b p) (area_scale a b c)
      ∙ ap (λ v. dot r r *ℤ v) (cramer d a b c p)
    where
      -- four terms with one factor
      sum : (k x y z w x' y' z' w' f g h l : ℤ) → x ≡ k *ℤ x' → y ≡ k *ℤ y' → z ≡ k *ℤ z' → w ≡ k *ℤ w'
          → (((x *ℤ f) +ℤ (y *ℤ g)) +ℤ (z *ℤ h)) -ℤ (l *ℤ w) ≡ k *ℤ ((((x' *ℤ f) +ℤ (y' *ℤ g)) +ℤ (z' *ℤ h)) -ℤ (l *ℤ w'))
      sum k x y z w x' y' z' w' f g h l ex ey ez ew =
          (λ i. (((ex i *ℤ f) +ℤ (ey i *ℤ g)) +ℤ (ez i *ℤ h)) -ℤ (l *ℤ ew i))
          ∙ ring (k ∷ x' ∷ y' ∷ z' ∷ w' ∷ f ∷ g ∷ h ∷ l ∷ [])
          (((((var 0 ⊗ var 1) ⊗ var 5) ⊕ ((var 0 ⊗ var 2) ⊗ var 6)) ⊕ ((var 0 ⊗ var 3) ⊗ var 7)) ⊖ (var 8 ⊗ (var 0 ⊗ var 4)))
          (var 0 ⊗ ((((var 1 ⊗ var 5) ⊕ (var 2 ⊗ var 6)) ⊕ (var 3 ⊗ var 7)) ⊖ (var 8 ⊗ var 4))) refl
