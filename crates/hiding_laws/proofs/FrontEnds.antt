-- Where a face that is not edge-on begins or ceases to hide an edge, there is no ordinary point.
use Rattle.std.proofs.Common.{◌≡◌, ◌⊎◌, inl, inr, ℕ, zero, suc, ◌+◌, ◌*◌, ◌/◌, ◌%◌, ◌<◌, All, Contains, length, slice_get, Some, [], ◌∷◌, refl, sym, subst, ap, ◌∙◌, arith}
use Rattle.std.specs.Prelude.{◌≢◌, ℤ, pos, ◌+ℤ◌, ◌-ℤ◌, ◌*ℤ◌, ◌<ℤ◌, ◌≤ℤ◌}
use Rattle.std.proofs.lemmas.Int.{ints}
use Rattle.std.proofs.lemmas.Option.{slice_get_within, get_or_from_slice_get}
use Rattle.integers.proofs.Absolutes.{natural_of_positive}
use Rattle.integers.proofs.Comparisons.{not_negative_of_positive, last_two_exchanged}
use Rattle.integers.proofs.Ring.{var, con, ◌⊕◌, ◌⊖◌, ◌⊗◌, ring, by_one}
use Rattle.integers.proofs.Signs.{mul_pos}
use Rattle.lattice.specs.declared.points.Corner.{Corner}
use Rattle.lattice.specs.declared.soup.Tri.{Tri}
use Rattle.lattice.specs.Triangles.{IsBelow}
use Rattle.lattice.specs.Triple.{Triple}
use Rattle.lattice.specs.Points.{Point, point_of, OnOneSight}
use Rattle.lattice.proofs.SightLines.{sight_of_along}
use Rattle.geometry.specs.Faces.{share_point, edge_sum, face_sum, facing_of, IsPointOfFace}
use Rattle.geometry.specs.Parts.{Part, Face, Edge, IsHalf, start_of, end_of}
use Rattle.geometry.specs.Views.{IsOrdinary}
use Rattle.geometry.specs.Sound.{IsSound}
use Rattle.geometry.proofs.Listed.{same_element}
use Rattle.hiding_laws.specs.Values.{side_of, depth_of, AreCornersOf, IsSideOf}
use Rattle.hiding_laws.proofs.Ordinary.{not-at-corner, not-at-crossing, not-at-meeting}
use Rattle.hiding_laws.proofs.Weights.{natural, facing-round, depth-at_a, depth-at_b, depth-at_c, parallel-side, side-total, side-sight, meeting-point, scaled-sight}

-- what is linear, f at one end and another g at the other, is 0 here
abbrev pub IsRoot : ℤ → ℤ → ℤ → Type 0
IsRoot f g here = (f ≢ g) × (here ≡ pos 0)

-- ---- the corners of a face
abbrev IsCornerOf : {s : Part} → Face s → Corner → Type 0
IsCornerOf f x = (x ≡ f.a) ⊎ (x ≡ f.b) ⊎ (x ≡ f.c)

module _ (s : Part) (f : Face s) where
  module _ (t : Tri) (same : t ≡ f.tri) (k : ℕ) (x : Corner) (at : slice_get s.corners k ≡ Some x) where
    side-start : (side : ℕ) → start_of t side ≡ k → IsCornerOf f x
    side-start zero h = inl (same_element s.corners k f.tri.a x f.a (sym h ∙ ap (λ (u : Tri). u.a) same) at f.at_a)
    side-start (suc zero) h = inr (inl (same_element s.corners k f.tri.b x f.b (sym h ∙ ap (λ (u : Tri). u.b) same) at f.at_b))
    side-start (suc (suc side)) h = inr (inr (same_element s.corners k f.tri.c x f.c (sym h ∙ ap (λ (u : Tri). u.c) same) at f.at_c))

    side-end : (side : ℕ) → end_of t side ≡ k → IsCornerOf f x
    side-end zero h = inr (inl (same_element s.corners k f.tri.b x f.b (sym h ∙ ap (λ (u : Tri). u.b) same) at f.at_b))
    side-end (suc zero) h = inr (inr (same_element s.corners k f.tri.c x f.c (sym h ∙ ap (λ (u : Tri). u.c) same) at f.at_c))
    side-end (suc (suc side)) h = inl (same_element s.corners k f.tri.a x f.a (sym h ∙ ap (λ (u : Tri). u.a) same) at f.at_a)

  -- both ends of a half of the face are corners of it
  half-ends : (half m n : ℕ) (x y : Corner) → IsHalf s half m n → f.number ≡ half / 3 → slice_get s.corners m ≡ Some x → slice_get s.corners n ≡ Some y → IsCornerOf f x × IsCornerOf f y
  half-ends half m n x y h number at_x at_y =
      let same : h.tri ≡ f.tri = same_element s.triangles (half / 3) f.number h.tri f.tri (sym number) h.at f.listed in
      (side-start h.tri same m x at_x (half % 3) h.start, side-end h.tri same n y at_y (half % 3) h.end)

  module _ (a b c : Corner) where
    -- the plane is not deep at a corner
    level-at : AreCornersOf f a b c → (x : Corner) → IsCornerOf f x → depth_of a b c (point_of x) ≡ pos 0
    level-at corners x h = by corners h
      where
        at : (k : Corner) → x ≡ k → depth_of a b c (point_of k) ≡ pos 0 → depth_of a b c (point_of x) ≡ pos 0
        at k e none = ap (λ (y : Corner). depth_of a b c (point_of y)) e ∙ none

        by : AreCornersOf f a b c → IsCornerOf f x → depth_of a b c (point_of x) ≡ pos 0
        by (inl (p, q, r)) (inl h) = at a (h ∙ p) (depth-at_a a b c)
        by (inl (p, q, r)) (inr (inl h)) = at b (h ∙ q) (depth-at_b a b c)
        by (inl (p, q, r)) (inr (inr h)) = at c (h ∙ r) (depth-at_c a b c)
        by (inr (p, q, r)) (inl h) = at a (h ∙ p) (depth-at_a a b c)
        by (inr (p, q, r)) (inr (inl h)) = at c (h ∙ q) (depth-at_c a b c)
        by (inr (p, q, r)) (inr (inr h)) = at b (h ∙ r) (depth-at_b a b c)

    ab-side : AreCornersOf f a b c → IsSideOf f a b
    ab-side (inl (p, q, r)) = inl (inl (sym p, sym q))
    ab-side (inr (p, q, r)) = inr (inr (inr (sym p, sym r)))

    bc-side : AreCornersOf f a b c → IsSideOf f b c
    bc-side (inl (p, q, r)) = inr (inl (inl (sym q, sym r)))
    bc-side (inr (p, q, r)) = inr (inl (inr (sym r, sym q)))

    ca-side : AreCornersOf f a b c → IsSideOf f c a
    ca-side (inl (p, q, r)) = inr (inr (inl (sym r, sym p)))
    ca-side (inr (p, q, r)) = inl (inr (sym q, sym p))

    -- a sum of the corners is a point of the face
    sum-of-corners : AreCornersOf f a b c → (q : Point) (i j k : ℕ) → 0 < i + j + k → q ≡ face_sum a b c i j k → IsPointOfFace f.a f.b f.c q
    sum-of-corners (inl (x, y, z)) q i j k some h = (i, j, k, some, h ∙ sym (λ t. face_sum (x t) (y t) (z t) i j k))
    sum-of-corners (inr (x, y, z)) q i j k some h = (i, k, j, omega arith, h ∙ turned ∙ sym (λ t. face_sum (x t) (y t) (z t) i k j))
      where
        weights : pos (i + j + k) ≡ pos (i + k + j)
        weights = omega (arith, ints)

        turned : face_sum a b c i j k ≡ face_sum a c b i k j
        turned = λ t. record {
          x = last_two_exchanged (pos i *ℤ a.x) (pos j *ℤ b.x) (pos k *ℤ c.x) t;
          y = last_two_exchanged (pos i *ℤ a.y) (pos j *ℤ b.y) (pos k *ℤ c.y) t;
          z = last_two_exchanged (pos i *ℤ a.z) (pos j *ℤ b.z) (pos k *ℤ c.z) t;
          w = weights t;
        }

-- ---- a point of an edge
positive-divisor : (k : ℕ) (z : ℤ) → z ≡ pos k → 0 < k → pos 0 <ℤ z
positive-divisor k z e h = omega (arith, ints)

same-weight : (k l : ℕ) → pos k ≡ pos l → 0 < k → 0 < l
same-weight k l e h = omega (arith, ints)

scaled-weight : (w u v : ℕ) → 0 < w → 0 < u + v → 0 < w * u + w * v
scaled-weight zero u v h k = absurd (omega arith)
scaled-weight (suc w) u v h k = omega arith

module _ (d : Triple) (s : Part) (sound : IsSound s) (in_range : All (IsBelow (length s.corners)) s.triangles) (e : Edge s) (p : Point) (u v : ℕ) (some : 0 < u + v) (at : p ≡ edge_sum e.a e.b u v) where
  divisor : pos 0 <ℤ p.w
  divisor = positive-divisor (u + v) p.w (ap (λ (q : Point). q.w) at) some

  -- the edge passes over a side, and is not parallel to it
  not-over-side : (f : Face s) (a b c : Corner) → IsSideOf f a b → pos 0 <ℤ facing_of d a b c → pos 0 ≤ℤ side_of d b c p → pos 0 ≤ℤ side_of d c a p
      → IsRoot (side_of d a b (point_of e.a)) (side_of d a b (point_of e.b)) (side_of d a b p) → ¬ IsOrdinary d s p
  not-over-side f a b c side front bc ca (changes, here) =
      let (i, hi) = natural (side_of d b c p) bc in
      let (j, hj) = natural (side_of d c a p) ca in
      let weight : 0 < i + j = natural_of_positive (i + j) _ (side-total d a b c p i j hi hj here) (mul_pos p.w (facing_of d a b c) divisor front) in
      not-at-crossing d s p sound.closed in_range e (p, (u, v, some, at), record { across = refl; upward = refl }) f a b side (edge_sum a b i j) (i, j, weight, refl)
      (side-sight d a b c p i j hi hj here) (λ parallel. changes (parallel-side d a b e.a e.b parallel))

  module _ (f : Face s) (a b c : Corner) (corners : AreCornersOf f a b c) (front : pos 0 <ℤ facing_of d a b c)
      (ab : pos 0 ≤ℤ side_of d a b p) (bc : pos 0 ≤ℤ side_of d b c p) (ca : pos 0 ≤ℤ side_of d c a p) where
    -- the edge meets the plane in a point of the face, which has not the edge as a side
    not-in-face : f.number ≢ e.left.number → f.number ≢ e.right.number → depth_of a b c p ≡ pos 0 → ¬ IsOrdinary d s p
    not-in-face not_left not_right level =
        let (i, hi) = natural (side_of d b c p) bc in
        let (j, hj) = natural (side_of d c a p) ca in
        let (k, hk) = natural (side_of d a b p) ab in
        let (w, hw) = natural (facing_of d a b c) (not_negative_of_positive _ front) in
        let q = edge_sum e.a e.b (w * u) (w * v) in
        let same : q ≡ face_sum a b c i j k = meeting-point d a b c p i j hi hj k hk level w hw e.a e.b u v at in
        let weight : 0 < w * u + w * v = scaled-weight w u v (natural_of_positive w _ (sym hw) front) some in
        not-at-meeting d s p sound.apart e f q (record {
          not_left = not_left;
          not_right = not_right;
          on_edge = (w * u, w * v, weight, refl);
          on_face = sum-of-corners s f a b c corners q i j k (same-weight (w * u + w * v) (i + j + k) (ap (λ (o : Point). o.w) same) weight) same;
        }) (subst (λ (o : Point). OnOneSight d q o) (sym at) (scaled-sight d e.a e.b w u v))

    -- the plane is level with a side of the face all along
    not-in-side : IsCornerOf f e.a × IsCornerOf f e.b → depth_of a b c (point_of e.a) ≡ depth_of a b c (point_of e.b)
    not-in-side (x, y) = level-at s f a b c corners e.a x ∙ sym (level-at s f a b c corners e.b y)

    not-through-plane : IsRoot (depth_of a b c (point_of e.a)) (depth_of a b c (point_of e.b)) (depth_of a b c p) → ¬ IsOrdinary d s p
    not-through-plane (changes, here) =
        not-in-face (λ h. changes (not-in-side (half-ends s f e.half e.m e.n e.a e.b e.goes (h ∙ e.on_left) e.at_m e.at_n)))
        (λ h. let (y, x) = half-ends s f e.other e.n e.m e.b e.a e.returns (h ∙ e.on_right) e.at_n e.at_m in changes (not-in-side (x, y))) here

module _ (d : Triple) (s : Part) (e : Edge s) (n m : ℤ) (positive : pos 0 <ℤ m) (least : pos 0 ≤ℤ n) (most : n ≤ℤ m) where
  abbrev here : Point
  here = share_point e.a e.b n m

  -- the ends of the edge
  module _ (k : Corner) (listed : Contains s.corners k) (h : (x : Corner → ℤ) → x k *ℤ m ≡ ((m -ℤ n) *ℤ x e.a) +ℤ (n *ℤ x e.b)) where
    not-at-end : ¬ IsOrdinary d s here
    not-at-end = not-at-corner d s here k listed (sight_of_along d (point_of k) here (record {
      n = pos 0;
      m = pos 1;
      positive = omega (arith, ints);
      x = none (k.x *ℤ m) _ d.x (h (λ l. l.x));
      y = none (k.y *ℤ m) _ d.y (h (λ l. l.y));
      z = none (k.z *ℤ m) _ d.z (h (λ l. l.z));
    }))
      where
        none : (x y r : ℤ) → x ≡ y → pos 1 *ℤ (x -ℤ y *ℤ pos 1) ≡ pos 0 *ℤ r
        none x y r h = omega (arith, ints)

  pub not-at-start : n ≡ pos 0 → ¬ IsOrdinary d s (share_point e.a e.b n m)
  not-at-start h = not-at-end e.a (e.m, slice_get_within s.corners e.m e.a e.at_m, get_or_from_slice_get s.corners e.m e.a e.a e.at_m) (λ x. start (x e.a) (x e.b))
    where
      start : (a b : ℤ) → a *ℤ m ≡ ((m -ℤ n) *ℤ a) +ℤ (n *ℤ b)
      start a b =
          by_one (a *ℤ m) (((m -ℤ n) *ℤ a) +ℤ (n *ℤ b)) n (pos 0) (a -ℤ b)
          (ring (n ∷ m ∷ a ∷ b ∷ []) ((var 2 ⊗ var 1) ⊖ (((var 1 ⊖ var 0) ⊗ var 2) ⊕ (var 0 ⊗ var 3))) ((var 0 ⊖ con (pos 0)) ⊗ (var 2 ⊖ var 3)) refl) h

  pub not-at-finish : n ≡ m → ¬ IsOrdinary d s (share_point e.a e.b n m)
  not-at-finish h = not-at-end e.b (e.n, slice_get_within s.corners e.n e.b e.at_n, get_or_from_slice_get s.corners e.n e.b e.b e.at_n) (λ x. finish (x e.a) (x e.b))
    where
      finish : (a b : ℤ) → b *ℤ m ≡ ((m -ℤ n) *ℤ a) +ℤ (n *ℤ b)
      finish a b =
          by_one (b *ℤ m) (((m -ℤ n) *ℤ a) +ℤ (n *ℤ b)) n m (a -ℤ b)
          (ring (n ∷ m ∷ a ∷ b ∷ []) ((var 3 ⊗ var 1) ⊖ (((var 1 ⊖ var 0) ⊗ var 2) ⊕ (var 0 ⊗ var 3))) ((var 0 ⊖ var 1) ⊗ (var 2 ⊖ var 3)) refl) h

  module _ (sound : IsSound s) (in_range : All (IsBelow (length s.corners)) s.triangles) (f : Face s) (a b c : Corner) (corners : AreCornersOf f a b c) (front : pos 0 <ℤ facing_of d a b c)
      (ab : pos 0 ≤ℤ side_of d a b (share_point e.a e.b n m)) (bc : pos 0 ≤ℤ side_of d b c (share_point e.a e.b n m)) (ca : pos 0 ≤ℤ side_of d c a (share_point e.a e.b n m))
      (depth : pos 0 ≤ℤ depth_of a b c (share_point e.a e.b n m)) where
    pub not-at-front-end : IsRoot (side_of d a b (point_of e.a)) (side_of d a b (point_of e.b)) (side_of d a b (share_point e.a e.b n m))
        ⊎ IsRoot (side_of d b c (point_of e.a)) (side_of d b c (point_of e.b)) (side_of d b c (share_point e.a e.b n m))
        ⊎ IsRoot (side_of d c a (point_of e.a)) (side_of d c a (point_of e.b)) (side_of d c a (share_point e.a e.b n m))
        ⊎ IsRoot (depth_of a b c (point_of e.a)) (depth_of a b c (point_of e.b)) (depth_of a b c (share_point e.a e.b n m))
        → ¬ IsOrdinary d s (share_point e.a e.b n m)
    not-at-front-end root =
        let (u, hu) = natural (m -ℤ n) (omega (arith, ints)) in
        let (v, hv) = natural n least in
        let divisor : m ≡ pos (u + v) = whole n m u v hu hv in
        let some : 0 < u + v = natural_of_positive (u + v) m (sym divisor) positive in
        let at : here ≡ edge_sum e.a e.b u v = λ t. record {
          x = (hu t *ℤ e.a.x) +ℤ (hv t *ℤ e.b.x);
          y = (hu t *ℤ e.a.y) +ℤ (hv t *ℤ e.b.y);
          z = (hu t *ℤ e.a.z) +ℤ (hv t *ℤ e.b.z);
          w = divisor t;
        } in
        by u v some at root
      where
        whole : (n m : ℤ) (u v : ℕ) → m -ℤ n ≡ pos u → n ≡ pos v → m ≡ pos (u + v)
        whole n m u v hu hv = omega (arith, ints)

        by : (u v : ℕ) → 0 < u + v → here ≡ edge_sum e.a e.b u v
            → IsRoot (side_of d a b (point_of e.a)) (side_of d a b (point_of e.b)) (side_of d a b here) ⊎ IsRoot (side_of d b c (point_of e.a)) (side_of d b c (point_of e.b)) (side_of d b c here)
            ⊎ IsRoot (side_of d c a (point_of e.a)) (side_of d c a (point_of e.b)) (side_of d c a here) ⊎ IsRoot (depth_of a b c (point_of e.a)) (depth_of a b c (point_of e.b)) (depth_of a b c here)
            → ¬ IsOrdinary d s here
        by u v some at (inl root) = not-over-side d s sound in_range e here u v some at f a b c (ab-side s f a b c corners) front bc ca root
        by u v some at (inr (inl root)) =
            not-over-side d s sound in_range e here u v some at f b c a (bc-side s f a b c corners) (subst (λ (z : ℤ). pos 0 <ℤ z) (sym (facing-round d a b c)) front) ca ab root
        by u v some at (inr (inr (inl root))) =
            not-over-side d s sound in_range e here u v some at f c a b (ca-side s f a b c corners) (subst (λ (z : ℤ). pos 0 <ℤ z) (facing-round d c a b) front) ab bc root
        by u v some at (inr (inr (inr root))) = not-through-plane d s sound in_range e here u v some at f a b c corners front ab bc ca root
