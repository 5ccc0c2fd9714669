-- It is decided whether a face is counted at a point, and next to an end of an edge; so a point has its two counts.
use Rattle.std.proofs.Common.{◌≡◌, ◌≢◌, ◌⊎◌, inl, inr, ℕ, zero, suc, ◌+◌, ◌<◌, Bool, true, false, List, All, length, slice_get, Some, [], ◌∷◌, refl, ap, subst, ◌∙◌, arith, unsigned_abs}
use Rattle.std.specs.Prelude.{ℤ, pos, negsuc, ◌-ℤ◌, ◌≤ℤ◌, ◌<ℤ◌, ◌↔◌}
use Rattle.std.proofs.lemmas.Int.{ints, by_lt_z}
use Rattle.std.proofs.lemmas.Option.{slice_get_within}
use Rattle.integers.proofs.Ring.{con, ◌⊖◌, ring}
use Rattle.lattice.specs.declared.points.Corner.{Corner}
use Rattle.lattice.specs.declared.soup.Tri.{Tri}
use Rattle.lattice.specs.Triangles.{IsBelow}
use Rattle.lattice.specs.Triple.{Triple}
use Rattle.lattice.specs.Points.{Point, IsPoint}
use Rattle.lattice.proofs.Vectors.{letters, dots, crosses}
use Rattle.geometry.specs.Faces.{facing_of, share_point, FaceHides}
use Rattle.geometry.specs.Parts.{Part, Face, Edge}
use Rattle.geometry.proofs.Counts.{count_of}
use Rattle.geometry.proofs.Listed.{face_at, same_element}
use Rattle.hiding_laws.proofs.Screens.{turn_of, lead_of}
use Rattle.hiding_laws.proofs.Decisions.{same_or, less_or, either_or, alike_or, element_or, below_next}
use Rattle.geometry.proofs.EachEdge.{turned_edge}
use Rattle.hiding_laws.proofs.Hiding.{front_or, hides-turned}
use Rattle.lattice.proofs.PointLetters.{ways}
use Rattle.hiding_laws.proofs.Values.{facing-turned}
use Rattle.geometry.specs.Counts.{Side, to_left, to_right, orientation_of, StandsOn, ReachesTo, IsCounted, HasCounted, AreCounted}
use Rattle.geometry.specs.Covers.{HidesNext, IsCountedNext}
use Rattle.geometry.specs.Turns.{other_side}
use Rattle.hiding_laws.proofs.CornerLaws as corners
use Rattle.hiding_laws.proofs.EdgePasses.{same_or_not}
use Rattle.hiding_laws.proofs.NearFaces.{next_of_adds, adds_of_next}
use Rattle.hiding_laws.proofs.NearPlace.{IsAbove}
use Rattle.hiding_laws.proofs.Seen.{on, adds_of_counted, counted_of_adds}

-- ---- a face at a point
module _ (d : Triple) (p : Point) (point : IsPoint p) where
  hides_or : (a b c : Corner) → ¬ (facing_of d a b c ≡ pos 0) → FaceHides d a b c p ⊎ ¬ FaceHides d a b c p
  hides_or a b c turned =
      by_lt_z (pos 0) (facing_of d a b c) (front_or d p point a b c)
      (λ h. alike_or (FaceHides d a c b p) (FaceHides d a b c p) (hides-turned d a c b p) (hides-turned d a b c p) (front_or d p point a c b (other _ _ (facing-turned d a b c) h turned)))
    where
      other : (x y : ℤ) → x ≡ pos 0 -ℤ y → y ≤ℤ pos 0 → ¬ (y ≡ pos 0) → pos 0 <ℤ x
      other x y e h n = omega (arith, ints)

module _ (k : Side) (d : Triple) {s : Part} (e : Edge s) where
  stands_or : (k : Side) (a b c : Corner) → StandsOn k d a b c ⊎ ¬ StandsOn k d a b c
  stands_or to_left a b c = less_or _ _
  stands_or to_right a b c = less_or _ _

  reaches_or : (f : Face s) → ReachesTo k d e f ⊎ ¬ ReachesTo k d e f
  reaches_or f = either_or _ _ (stands_or k e.a e.b f.a) (either_or _ _ (stands_or k e.a e.b f.b) (stands_or k e.a e.b f.c))

  module _ (p : Point) (point : IsPoint p) where
    pub counted_or : (f : Face s) → IsCounted k d e p f ⊎ ¬ IsCounted k d e p f
    counted_or f = by (same_or (facing_of d f.a f.b f.c) (pos 0)) (reaches_or f)
      where
        at : facing_of d f.a f.b f.c ≢ pos 0 → ReachesTo k d e f → (FaceHides d f.a f.b f.c p ⊎ ¬ FaceHides d f.a f.b f.c p) → IsCounted k d e p f ⊎ ¬ IsCounted k d e p f
        at turned reaches (inl hides) = inl (record { turned = turned; hides = hides; reaches = reaches })
        at turned reaches (inr n) = inr (λ c. n c.hides)

        by : ((facing_of d f.a f.b f.c ≡ pos 0) ⊎ ¬ (facing_of d f.a f.b f.c ≡ pos 0)) → (ReachesTo k d e f ⊎ ¬ ReachesTo k d e f) → IsCounted k d e p f ⊎ ¬ IsCounted k d e p f
        by (inl level) r = inr (λ c. c.turned level)
        by (inr turned) (inr n) = inr (λ c. n c.reaches)
        by (inr turned) (inl reaches) = at turned reaches (hides_or d p point f.a f.b f.c turned)

-- ---- a triangle of a list
triangle_or : (t u : Tri) → (t ≡ u) ⊎ ¬ (t ≡ u)
triangle_or t u = by (same_or_not t.a u.a) (same_or_not t.b u.b) (same_or_not t.c u.c)
  where
    by : ((t.a ≡ u.a) ⊎ ¬ (t.a ≡ u.a)) → ((t.b ≡ u.b) ⊎ ¬ (t.b ≡ u.b)) → ((t.c ≡ u.c) ⊎ ¬ (t.c ≡ u.c)) → (t ≡ u) ⊎ ¬ (t ≡ u)
    by (inl p) (inl q) (inl r) = inl (λ i. record { a = p i; b = q i; c = r i })
    by (inr n) q r = inr (λ e. n (ap (λ (t : Tri). t.a) e))
    by (inl p) (inr n) r = inr (λ e. n (ap (λ (t : Tri). t.b) e))
    by (inl p) (inl q) (inr n) = inr (λ e. n (ap (λ (t : Tri). t.c) e))

module _ (xs : List Tri) (t : Tri) where
  abbrev IsListedBelow : ℕ → Type 0
  IsListedBelow n = (i : ℕ) × (i < n) × (slice_get xs i ≡ Some t)

  listed_at : (n : ℕ) → (slice_get xs n ≡ Some t) ⊎ ¬ (slice_get xs n ≡ Some t)
  listed_at n = elim (element_or xs n) [
    | inr past ↦ inr (λ e. omega (arith, past, slice_get_within xs n t e))
    | inl u ↦ elim (triangle_or u.0 t) [ inl same ↦ inl (u.1 ∙ ap Some same) | inr n' ↦ inr (λ e. n' (same_element xs n n u.0 t refl u.1 e)) ]
  ]

  listed_below : (n : ℕ) → IsListedBelow n ⊎ ¬ IsListedBelow n
  listed_below zero = inr (λ h. omega (arith, h.1))
  listed_below (suc n) =
      alike_or (IsListedBelow n ⊎ (slice_get xs n ≡ Some t)) (IsListedBelow (suc n))
      (λ h. elim h [ inl g ↦ (g.0, omega (arith, g.1), g.2) | inr e ↦ (n, omega arith, e) ]) split (either_or _ _ (listed_below n) (listed_at n))
    where
      split : IsListedBelow (suc n) → IsListedBelow n ⊎ (slice_get xs n ≡ Some t)
      split g = elim (below_next g.0 n g.1) [ inl h ↦ inl (g.0, h, g.2) | inr e ↦ inr (subst (λ (i : ℕ). slice_get xs i ≡ Some t) e g.2) ]

-- ---- the counts at a point
module _ (k : Side) (d : Triple) (s : Part) (in_range : All (IsBelow (length s.corners)) s.triangles) (e : Edge s) (p : Point) (point : IsPoint p) where
  -- what is so of a face is so of each with the same triangle
  same_counted : (f g : Face s) → g.tri ≡ f.tri → IsCounted k d e p g → IsCounted k d e p f
  same_counted f g same c =
      let a : g.a ≡ f.a = same_element s.corners g.tri.a f.tri.a g.a f.a (ap (λ (t : Tri). t.a) same) g.at_a f.at_a in
      let b : g.b ≡ f.b = same_element s.corners g.tri.b f.tri.b g.b f.b (ap (λ (t : Tri). t.b) same) g.at_b f.at_b in
      let l : g.c ≡ f.c = same_element s.corners g.tri.c f.tri.c g.c f.c (ap (λ (t : Tri). t.c) same) g.at_c f.at_c in
      let moved = λ (X : Corner → Corner → Corner → Type 0) (x : X g.a g.b g.c). subst (λ (z : Corner). X z f.b f.c) a (subst (λ (z : Corner). X g.a z f.c) b (subst (λ (z : Corner). X g.a g.b z) l x)) in
      record {
        turned = moved (λ x y z. facing_of d x y z ≢ pos 0) c.turned;
        hides = moved (λ x y z. FaceHides d x y z p) c.hides;
        reaches = moved (λ x y z. StandsOn k d e.a e.b x ⊎ StandsOn k d e.a e.b y ⊎ StandsOn k d e.a e.b z) c.reaches;
      }

  pub has_counted_or : (t : Tri) → HasCounted k d e p t ⊎ ¬ HasCounted k d e p t
  has_counted_or t = elim (listed_below s.triangles t (length s.triangles)) [
    | inr n ↦ inr (λ h. n (h.0.number, slice_get_within s.triangles h.0.number h.0.tri h.0.listed, h.0.listed ∙ ap Some h.1))
    | inl l ↦
        let f = face_at s in_range t l.0 l.2 in
        alike_or (IsCounted k d e p f) (HasCounted k d e p t) (λ c. (f, refl, c)) (λ h. same_counted f h.0 h.1 h.2) (counted_or k d e p point f)
  ]

  -- there is a count on each side
  pub counts : (n : ℕ) × AreCounted k d e p n
  counts = count_of has_counted_or s.triangles

-- ---- next to an end
module _ (d : Triple) where
  turn_back : (a b c : Corner) → orientation_of d b a c ≡ pos 0 -ℤ orientation_of d a b c
  turn_back a b c =
      ring (d.x ∷ d.y ∷ d.z ∷ a.x ∷ a.y ∷ a.z ∷ b.x ∷ b.y ∷ b.z ∷ c.x ∷ c.y ∷ c.z ∷ [])
      (dots (letters 0) (crosses (ways (letters 6) (letters 3)) (ways (letters 6) (letters 9))))
      (con (pos 0) ⊖ dots (letters 0) (crosses (ways (letters 3) (letters 6)) (ways (letters 3) (letters 9)))) refl

  -- from the other end left and right are exchanged
  stands_back : (k : Side) (a b c : Corner) → StandsOn k d a b c → StandsOn (other_side k) d b a c
  stands_back to_left a b c h = below _ _ (turn_back a b c) h
    where
      below : (x y : ℤ) → x ≡ pos 0 -ℤ y → pos 0 <ℤ y → x <ℤ pos 0
      below x y e h = omega (arith, ints)
  stands_back to_right a b c h = above _ _ (turn_back a b c) h
    where
      above : (x y : ℤ) → x ≡ pos 0 -ℤ y → y <ℤ pos 0 → pos 0 <ℤ x
      above x y e h = omega (arith, ints)

  reaches_back : (k : Side) {s : Part} (e : Edge s) (f : Face s) → ReachesTo k d e f → ReachesTo (other_side k) d (turned_edge e) f
  reaches_back k e f (inl h) = inl (stands_back k e.a e.b f.a h)
  reaches_back k e f (inr (inl h)) = inr (inl (stands_back k e.a e.b f.b h))
  reaches_back k e f (inr (inr h)) = inr (inr (stands_back k e.a e.b f.c h))

  twice : (k : Side) → other_side (other_side k) ≡ k
  twice to_left = refl
  twice to_right = refl

  -- next to an edge's second end is next to the first end of the edge that goes back
  pub next_turned : (k : Side) {s : Part} (e : Edge s) (f : Face s) → IsCountedNext k d e true f ↔ IsCountedNext (other_side k) d (turned_edge e) false f
  next_turned k e f = (there, back)
    where
      there : IsCountedNext k d e true f → IsCountedNext (other_side k) d (turned_edge e) false f
      there c = let h : HidesNext d e true f = c.hides in
          record { turned = c.turned; hides = record { n = h.n; m = h.m; some = h.some; within = h.within; over = h.over }; reaches = reaches_back k e f c.reaches }

      back : IsCountedNext (other_side k) d (turned_edge e) false f → IsCountedNext k d e true f
      back c = let h : HidesNext d (turned_edge e) false f = c.hides in
          record {
            turned = c.turned;
            hides = record { n = h.n; m = h.m; some = h.some; within = h.within; over = h.over };
            reaches = subst (λ (k : Side). ReachesTo k d e f) (twice k) (reaches_back (other_side k) (turned_edge e) f c.reaches);
          }

-- a number above four
above : (z : ℤ) (k : ℕ) → unsigned_abs z < k → corners.IsBelow (pos k) z
above (pos n) k h = record { least = omega (arith, ints); most = omega (arith, ints) }
above (negsuc n) k h = record { least = omega (arith, ints); most = omega (arith, ints) }

module _ (k : Side) (d : Triple) {s : Part} (e : Edge s) (f : Face s) where
  -- above the numbers of the face that the edge's second end sees
  size : ℕ
  size =
      suc (unsigned_abs (turn_of (on d e.b) (on d f.a) (on d f.b)) + unsigned_abs (turn_of (on d e.b) (on d f.b) (on d f.c)) + unsigned_abs (turn_of (on d e.b) (on d f.c) (on d f.a))
      + unsigned_abs (lead_of (on d f.a) (on d f.b) (on d f.c) (on d e.b)))

  is_above : IsAbove (on d e.b) (on d f.a) (on d f.b) (on d f.c) (pos size)
  unfolding size
  is_above = record {
    ab = above _ size (omega arith);
    bc = above _ size (omega arith);
    ca = above _ size (omega arith);
    lead = above _ size (omega arith);
  }

  is_near : corners.IsNear (pos size) (pos 1) (pos (suc (suc size)))
  is_near = at size
    where
      at : (n : ℕ) → corners.IsNear (pos n) (pos 1) (pos (suc (suc n)))
      at n = record { after = omega (arith, ints); before = omega (arith, ints); near = omega (arith, ints) }

  first_next_or : IsCountedNext k d e false f ⊎ ¬ IsCountedNext k d e false f
  first_next_or =
      let m = pos (suc (suc size)) in
      alike_or (IsCounted k d e (share_point e.a e.b (pos 1) m) f) (IsCountedNext k d e false f)
      (λ c. next_of_adds k d e f (pos size) m is_near is_above (adds_of_counted k d e f (pos 1) m c))
      (λ c. counted_of_adds k d e f (pos 1) m (adds_of_next k d e f (pos size) m is_near is_above c))
      (counted_or k d e (share_point e.a e.b (pos 1) m) (omega (arith, ints)) f)

pub counted_next_or : (k : Side) (d : Triple) {s : Part} (e : Edge s) (at_b : Bool) (f : Face s) → IsCountedNext k d e at_b f ⊎ ¬ IsCountedNext k d e at_b f
counted_next_or k d e false f = first_next_or k d e f
counted_next_or k d e true f =
    let same = next_turned d k e f in
    alike_or (IsCountedNext (other_side k) d (turned_edge e) false f) (IsCountedNext k d e true f) same.1 same.0 (first_next_or (other_side k) d (turned_edge e) f)
