-- Points of edges and of sides by whole weights: they are points of the face, and a side of a face that has the edge too shares a corner with it.
use Rattle.std.proofs.Common.{◌≡◌, ◌⊎◌, inl, inr, ℕ, zero, suc, ◌+◌, ◌*◌, ◌/◌, ◌%◌, List, [], ◌∷◌, Some, slice_get, Contains, refl, sym, ap, ◌∙◌, subst, arith}
use Rattle.std.specs.Prelude.{ℤ, pos, negsuc, ◌+ℤ◌, ◌-ℤ◌, ◌*ℤ◌, ◌≤ℤ◌}
use Rattle.std.proofs.lemmas.Int.{ints}
use Rattle.std.proofs.lemmas.Option.{same_Some, slice_get_within, get_or_from_slice_get}
use Rattle.std.proofs.lemmas.List.Elements.{Contains-get_or}
use Rattle.std.proofs.Math.IntN.{pos-*ℤ-pos}
use Rattle.geometry.proofs.FacePoints.{edge_point-turned}
use Rattle.integers.proofs.Ring.{var, ◌⊕◌, ◌⊗◌, ring}
use Rattle.lattice.specs.declared.points.Corner.{Corner}
use Rattle.lattice.specs.declared.soup.Tri.{Tri}
use Rattle.lattice.specs.Points.{Point, AreOnePoint}
use Rattle.geometry.specs.Faces.{edge_sum, face_sum, share_point, IsPointOfEdge, IsPointOfFace}
use Rattle.geometry.specs.Parts.{Part, Face, Edge, IsHalf, start_of, end_of}
use Rattle.hiding_laws.specs.Values.{IsSideOf}

-- ---- weights
pub natural : (z : ℤ) → pos 0 ≤ℤ z → (n : ℕ) × (pos n ≡ z)
natural (pos n) h = (n, refl)
natural (negsuc n) h = absurd (omega (arith, ints))

pub share-sum : (a b : Corner) (n m : ℤ) (u v : ℕ) → pos u ≡ m -ℤ n → pos v ≡ n → share_point a b n m ≡ edge_sum a b u v
share-sum a b n m u v is_u is_v =
    let whole = sum-is u v n m is_u is_v in
    λ t. record {
      x = sym is_u t *ℤ a.x +ℤ sym is_v t *ℤ b.x;
      y = sym is_u t *ℤ a.y +ℤ sym is_v t *ℤ b.y;
      z = sym is_u t *ℤ a.z +ℤ sym is_v t *ℤ b.z;
      w = whole t;
    }
  where
    sum-is : (u v : ℕ) (n m : ℤ) → pos u ≡ m -ℤ n → pos v ≡ n → m ≡ pos (u + v)
    sum-is u v n m e f = omega (arith, ints)

-- weights that are all times one number
scaled-part : (a b : ℤ) (u v w : ℕ) → pos (u * w) *ℤ a +ℤ pos (v * w) *ℤ b ≡ (pos u *ℤ a +ℤ pos v *ℤ b) *ℤ pos w
scaled-part a b u v w =
    (λ t. sym (pos-*ℤ-pos u w) t *ℤ a +ℤ sym (pos-*ℤ-pos v w) t *ℤ b)
    ∙ ring (a ∷ b ∷ pos u ∷ pos v ∷ pos w ∷ []) (((var 2 ⊗ var 4) ⊗ var 0) ⊕ ((var 3 ⊗ var 4) ⊗ var 1)) (((var 2 ⊗ var 0) ⊕ (var 3 ⊗ var 1)) ⊗ var 4) refl

-- points of two edges that are one point are so with the same four numbers
pub one-sum : (a b k l : Corner) (u v i j : ℕ) → AreOnePoint (edge_sum k l i j) (edge_sum a b u v)
    → edge_sum a b (u * (i + j)) (v * (i + j)) ≡ edge_sum k l (i * (u + v)) (j * (u + v))
one-sum a b k l u v i j h =
    let x = scaled-part a.x b.x u v (i + j) ∙ sym h.x ∙ sym (scaled-part k.x l.x i j (u + v)) in
    let y = scaled-part a.y b.y u v (i + j) ∙ sym h.y ∙ sym (scaled-part k.y l.y i j (u + v)) in
    let z = scaled-part a.z b.z u v (i + j) ∙ sym h.z ∙ sym (scaled-part k.z l.z i j (u + v)) in
    let w : pos (u * (i + j) + v * (i + j)) ≡ pos (i * (u + v) + j * (u + v)) = ap pos (omega arith) in
    λ t. record { x = x t; y = y t; z = z t; w = w t }

-- and with such weights the edge's point is the same
pub scaled-one : (a b : Corner) (u v w : ℕ) → AreOnePoint (edge_sum a b (u * w) (v * w)) (edge_sum a b u v)
scaled-one a b u v w = record { x = part a.x b.x; y = part a.y b.y; z = part a.z b.z }
  where
    whole : pos (u * w + v * w) ≡ pos (u + v) *ℤ pos w
    whole = let split : u * w + v * w ≡ (u + v) * w = omega arith in ap pos split ∙ sym (pos-*ℤ-pos (u + v) w)

    part : (ax bx : ℤ) → (pos (u * w) *ℤ ax +ℤ pos (v * w) *ℤ bx) *ℤ pos (u + v) ≡ (pos u *ℤ ax +ℤ pos v *ℤ bx) *ℤ pos (u * w + v * w)
    part ax bx =
        ap (λ (c : ℤ). c *ℤ pos (u + v)) (scaled-part ax bx u v w)
        ∙ ring ((pos u *ℤ ax +ℤ pos v *ℤ bx) ∷ pos (u + v) ∷ pos w ∷ []) ((var 0 ⊗ var 2) ⊗ var 1) (var 0 ⊗ (var 1 ⊗ var 2)) refl
        ∙ ap (λ (c : ℤ). (pos u *ℤ ax +ℤ pos v *ℤ bx) *ℤ c) (sym whole)

-- ---- a point of a side is a point of the face
module _ (a b c : Corner) (i j : ℕ) where
  first : edge_sum a b i j ≡ face_sum a b c i j 0
  first =
      let x = with_none (pos i *ℤ a.x +ℤ pos j *ℤ b.x) c.x in
      let y = with_none (pos i *ℤ a.y +ℤ pos j *ℤ b.y) c.y in
      let z = with_none (pos i *ℤ a.z +ℤ pos j *ℤ b.z) c.z in
      let w : pos (i + j) ≡ pos (i + j + 0) = ap pos (omega arith) in
      λ t. record { x = x t; y = y t; z = z t; w = w t }
    where
      with_none : (v c : ℤ) → v ≡ v +ℤ pos 0 *ℤ c
      with_none v c = omega (arith, ints)

  second : edge_sum b c i j ≡ face_sum a b c 0 i j
  second =
      let x = with_none (pos i *ℤ b.x) (pos j *ℤ c.x) a.x in
      let y = with_none (pos i *ℤ b.y) (pos j *ℤ c.y) a.y in
      let z = with_none (pos i *ℤ b.z) (pos j *ℤ c.z) a.z in
      let w : pos (i + j) ≡ pos (0 + i + j) = ap pos (omega arith) in
      λ t. record { x = x t; y = y t; z = z t; w = w t }
    where
      with_none : (u v a : ℤ) → u +ℤ v ≡ (pos 0 *ℤ a +ℤ u) +ℤ v
      with_none u v a = omega (arith, ints)

  third : edge_sum c a i j ≡ face_sum a b c j 0 i
  third =
      let x = with_none (pos i *ℤ c.x) (pos j *ℤ a.x) b.x in
      let y = with_none (pos i *ℤ c.y) (pos j *ℤ a.y) b.y in
      let z = with_none (pos i *ℤ c.z) (pos j *ℤ a.z) b.z in
      let w : pos (i + j) ≡ pos (j + 0 + i) = ap pos (omega arith) in
      λ t. record { x = x t; y = y t; z = z t; w = w t }
    where
      with_none : (u v b : ℤ) → u +ℤ v ≡ (v +ℤ pos 0 *ℤ b) +ℤ u
      with_none u v b = omega (arith, ints)

-- ---- ends
-- k and l are the ends m and n, in either order
abbrev AreEnds : Corner → Corner → Corner → Corner → Type 0
AreEnds k l m n = ((k ≡ m) × (l ≡ n)) ⊎ ((k ≡ n) × (l ≡ m))

renamed : (k l m n : Corner) (p : Point) → AreEnds k l m n → IsPointOfEdge k l p → IsPointOfEdge m n p
renamed k l m n p (inl e) h = (h.0, h.1, h.2, h.3 ∙ (λ t. edge_sum (e.0 t) (e.1 t) h.0 h.1))
renamed k l m n p (inr e) h = edge_point-turned n m p (h.0, h.1, h.2, h.3 ∙ (λ t. edge_sum (e.0 t) (e.1 t) h.0 h.1))

-- one end of a side is an end of the other
abbrev pub HaveCommonEnd : Corner → Corner → Corner → Corner → Type 0
HaveCommonEnd k l p q = (k ≡ p) ⊎ (k ≡ q) ⊎ (l ≡ p) ⊎ (l ≡ q)

common : (k l p q c : Corner) → (k ≡ c) ⊎ (l ≡ c) → (p ≡ c) ⊎ (q ≡ c) → HaveCommonEnd k l p q
common k l p q c (inl e) (inl f) = inl (e ∙ sym f)
common k l p q c (inl e) (inr f) = inr (inl (e ∙ sym f))
common k l p q c (inr e) (inl f) = inr (inr (inl (e ∙ sym f)))
common k l p q c (inr e) (inr f) = inr (inr (inr (e ∙ sym f)))

one-is : (k l m n : Corner) → AreEnds k l m n → (k ≡ m) ⊎ (l ≡ m)
one-is k l m n (inl e) = inl e.0
one-is k l m n (inr e) = inr e.1

other-is : (k l m n : Corner) → AreEnds k l m n → (k ≡ n) ⊎ (l ≡ n)
other-is k l m n (inl e) = inr e.1
other-is k l m n (inr e) = inl e.0

-- ---- sides of a face
module _ {s : Part} (f : Face s) where
  first-point : (p : Point) → IsPointOfEdge f.a f.b p → IsPointOfFace f.a f.b f.c p
  first-point p h = (h.0, h.1, 0, let some = h.2 in omega arith, h.3 ∙ first f.a f.b f.c h.0 h.1)

  second-point : (p : Point) → IsPointOfEdge f.b f.c p → IsPointOfFace f.a f.b f.c p
  second-point p h = (0, h.0, h.1, let some = h.2 in omega arith, h.3 ∙ second f.a f.b f.c h.0 h.1)

  third-point : (p : Point) → IsPointOfEdge f.c f.a p → IsPointOfFace f.a f.b f.c p
  third-point p h = (h.1, 0, h.0, let some = h.2 in omega arith, h.3 ∙ third f.a f.b f.c h.0 h.1)

  pub face-of-side : (k l : Corner) (p : Point) → IsSideOf f k l → IsPointOfEdge k l p → IsPointOfFace f.a f.b f.c p
  face-of-side k l p (inl e) h = first-point p (renamed k l f.a f.b p e h)
  face-of-side k l p (inr (inl e)) h = second-point p (renamed k l f.b f.c p e h)
  face-of-side k l p (inr (inr e)) h = third-point p (renamed k l f.c f.a p e h)

  -- ---- corners of sides
  listed : (n : ℕ) (c : Corner) → slice_get s.corners n ≡ Some c → Contains s.corners c
  listed n c at =
      subst (λ (x : Corner). Contains s.corners x) (get_or_from_slice_get s.corners n c c at) (Contains-get_or s.corners n c (slice_get_within s.corners n c at))

  ends-listed : (k l m n : Corner) → Contains s.corners m → Contains s.corners n → AreEnds k l m n → Contains s.corners k × Contains s.corners l
  ends-listed k l m n first second (inl e) = (subst (λ (c : Corner). Contains s.corners c) (sym e.0) first, subst (λ (c : Corner). Contains s.corners c) (sym e.1) second)
  ends-listed k l m n first second (inr e) = (subst (λ (c : Corner). Contains s.corners c) (sym e.0) second, subst (λ (c : Corner). Contains s.corners c) (sym e.1) first)

  pub side-listed : (k l : Corner) → IsSideOf f k l → Contains s.corners k × Contains s.corners l
  side-listed k l (inl e) = ends-listed k l f.a f.b (listed f.tri.a f.a f.at_a) (listed f.tri.b f.b f.at_b) e
  side-listed k l (inr (inl e)) = ends-listed k l f.b f.c (listed f.tri.b f.b f.at_b) (listed f.tri.c f.c f.at_c) e
  side-listed k l (inr (inr e)) = ends-listed k l f.c f.a (listed f.tri.c f.c f.at_c) (listed f.tri.a f.a f.at_a) e

  -- any two sides of a triangle have a common end
  pub common-end : (k l p q : Corner) → IsSideOf f k l → IsSideOf f p q → HaveCommonEnd k l p q
  common-end k l p q (inl x) (inl y) = common k l p q f.a (one-is k l f.a f.b x) (one-is p q f.a f.b y)
  common-end k l p q (inl x) (inr (inl y)) = common k l p q f.b (other-is k l f.a f.b x) (one-is p q f.b f.c y)
  common-end k l p q (inl x) (inr (inr y)) = common k l p q f.a (one-is k l f.a f.b x) (other-is p q f.c f.a y)
  common-end k l p q (inr (inl x)) (inl y) = common k l p q f.b (one-is k l f.b f.c x) (other-is p q f.a f.b y)
  common-end k l p q (inr (inl x)) (inr (inl y)) = common k l p q f.b (one-is k l f.b f.c x) (one-is p q f.b f.c y)
  common-end k l p q (inr (inl x)) (inr (inr y)) = common k l p q f.c (other-is k l f.b f.c x) (one-is p q f.c f.a y)
  common-end k l p q (inr (inr x)) (inl y) = common k l p q f.a (other-is k l f.c f.a x) (one-is p q f.a f.b y)
  common-end k l p q (inr (inr x)) (inr (inl y)) = common k l p q f.c (one-is k l f.c f.a x) (other-is p q f.b f.c y)
  common-end k l p q (inr (inr x)) (inr (inr y)) = common k l p q f.c (one-is k l f.c f.a x) (one-is p q f.c f.a y)

  -- ---- the edge of a face of its own
  same_at : {A : Type 0} (xs : List A) (i j : ℕ) (x y : A) → i ≡ j → slice_get xs i ≡ Some x → slice_get xs j ≡ Some y → x ≡ y
  same_at xs i j x y e at_i at_j = same_Some x y (sym at_i ∙ ap (slice_get xs) e ∙ at_j)

  abbrev AreInOrder : Corner → Corner → Type 0
  AreInOrder a b = ((a ≡ f.a) × (b ≡ f.b)) ⊎ ((a ≡ f.b) × (b ≡ f.c)) ⊎ ((a ≡ f.c) × (b ≡ f.a))

  half-ends : (half m n : ℕ) (a b : Corner) → f.number ≡ half / 3 → IsHalf s half m n → slice_get s.corners m ≡ Some a → slice_get s.corners n ≡ Some b → AreInOrder a b
  half-ends half m n a b at h at_m at_n =
      let same : h.tri ≡ f.tri = same_at s.triangles (half / 3) f.number h.tri f.tri (sym at) h.at f.listed in
      go (half % 3) (sym h.start ∙ ap (λ (t : Tri). start_of t (half % 3)) same) (sym h.end ∙ ap (λ (t : Tri). end_of t (half % 3)) same)
    where
      corner : (i j : ℕ) (x y : Corner) → i ≡ j → slice_get s.corners i ≡ Some x → slice_get s.corners j ≡ Some y → x ≡ y
      corner = same_at s.corners

      go : (side : ℕ) → m ≡ start_of f.tri side → n ≡ end_of f.tri side → AreInOrder a b
      go zero start end = inl (corner m f.tri.a a f.a start at_m f.at_a, corner n f.tri.b b f.b end at_n f.at_b)
      go (suc zero) start end = inr (inl (corner m f.tri.b a f.b start at_m f.at_b, corner n f.tri.c b f.c end at_n f.at_c))
      go (suc (suc side)) start end = inr (inr (corner m f.tri.c a f.c start at_m f.at_c, corner n f.tri.a b f.a end at_n f.at_a))

  -- an edge is a side of its two faces
  pub own-side : (e : Edge s) → (f.number ≡ e.left.number) ⊎ (f.number ≡ e.right.number) → IsSideOf f e.a e.b
  own-side e (inl h) = there (half-ends e.half e.m e.n e.a e.b (h ∙ e.on_left) e.goes e.at_m e.at_n)
    where
      there : AreInOrder e.a e.b → IsSideOf f e.a e.b
      there (inl x) = inl (inl x)
      there (inr (inl x)) = inr (inl (inl x))
      there (inr (inr x)) = inr (inr (inl x))
  own-side e (inr h) = back (half-ends e.other e.n e.m e.b e.a (h ∙ e.on_right) e.returns e.at_n e.at_m)
    where
      back : AreInOrder e.b e.a → IsSideOf f e.a e.b
      back (inl x) = inl (inr (x.1, x.0))
      back (inr (inl x)) = inr (inl (inr (x.1, x.0)))
      back (inr (inr x)) = inr (inr (inr (x.1, x.0)))
