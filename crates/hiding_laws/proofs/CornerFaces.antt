-- The faces that are counted next to an edge's first end: those that have the corner there, and the others, which are seen at a near place.
use Rattle.std.proofs.Common.{◌≡◌, ◌⊎◌, inl, inr, ℕ, ◌+◌, ◌*◌, ◌<◌, List, All, Contains, Some, length, get_or, slice_get, sum, refl, sym, ap, subst, ◌∙◌, arith}
use Rattle.std.specs.Prelude.{ℤ, pos, ◌+ℤ◌, ◌-ℤ◌, false, ◌↔◌}
use Rattle.std.specs.List.{AllZip}
use Rattle.std.specs.List.Sorted.{IsStrictlyIncreasing}
use Rattle.std.proofs.lemmas.Int.{ints}
use Rattle.std.proofs.lemmas.List.Kept.{AllPairs-from_increasing}
use Rattle.std.proofs.lemmas.Option.{slice_get-get_or, slice_get_within, get_or_from_slice_get}
use Rattle.lattice.specs.declared.soup.Tri.{Tri}
use Rattle.lattice.specs.Triangles.{IsBelow as IsTriBelow}
use Rattle.lattice.specs.Triple.{Triple, IsZero}
use Rattle.geometry.specs.Parts.{Part, Face, Edge, IsCornerOf}
use Rattle.geometry.specs.Sound.{IsSound}
use Rattle.hiding_laws.proofs.Screens.{Screen}
use Rattle.geometry.specs.Counts.{Side}
use Rattle.geometry.specs.Covers.{IsCountedNext, IsOneWhere}
use Rattle.hiding_laws.proofs.CornerLaws.{IsNear, HasCorner}
use Rattle.hiding_laws.proofs.Meshes.{Mesh}
use Rattle.hiding_laws.specs.inner.Tallies.{IsTally}
use Rattle.hiding_laws.specs.inner.Tallies.{no}
use Rattle.hiding_laws.proofs.Shares.{Adds, Touches}
use Rattle.hiding_laws.proofs.SumsBelow.{sum_below}
use Rattle.hiding_laws.proofs.AtCorner.{corner_or, seen_corner, not_touched, not_seen_corner}
use Rattle.hiding_laws.proofs.ListSums.{IsIn, listed_sum, sum_at, in_place, place_in, different, zip_in, total_sum}
use Rattle.hiding_laws.proofs.MeshCounts.{face_of, one_tally, at_mesh, at_face}
use Rattle.hiding_laws.proofs.MeshOfPart.{mesh_of, triangle_at, triangle-at}
use Rattle.hiding_laws.proofs.NearFaces.{next_of_adds, adds_of_next}
use Rattle.hiding_laws.proofs.NearPlace.{IsAbove}
use Rattle.hiding_laws.proofs.Seen.{on}
use Rattle.hiding_laws.proofs.Sides.{tally_of}
use Rattle.hiding_laws.proofs.Sums.{sum_same, sum_add}

-- the place 1 / (k + 2) is near
abbrev pub divisor : ℕ → ℤ
divisor k = pos (k + 2)

pub near : (k : ℕ) → IsNear (pos k) (pos 1) (divisor k)
near k = record { after = omega (arith, ints); before = omega (arith, ints); near = omega (arith, ints) }

-- ---- what is so, or not
module _ {P : Type 0} where
  -- z where P holds, and z where it does not
  abbrev pub where_so : P ⊎ ¬ P → ℤ → ℤ
  where_so (inl p) z = z
  where_so (inr n) z = pos 0

  abbrev pub where_not : P ⊎ ¬ P → ℤ → ℤ
  where_not (inl p) z = pos 0
  where_not (inr n) z = z

  so_or_not : (w : P ⊎ ¬ P) (z : ℤ) → z ≡ where_so w z +ℤ where_not w z
  so_or_not (inl p) z = omega (arith, ints)
  so_or_not (inr n) z = omega (arith, ints)

pub one_same : {P : Type 0} (m n : ℕ) → IsOneWhere P m → IsOneWhere P n → m ≡ n
one_same m n (inl (e, p)) (inl (f, q)) = e ∙ sym f
one_same m n (inl (e, p)) (inr (f, q)) = absurd (q p)
one_same m n (inr (e, p)) (inl (f, q)) = absurd (p q)
one_same m n (inr (e, p)) (inr (f, q)) = e ∙ sym f

-- ---- the corner is the first end of the edge e; o is an edge that begins there too
module _ (d : Triple) (directed : ¬ IsZero d) (s : Part) (sound : IsSound s) (in_range : All (IsTriBelow (length s.corners)) s.triangles) (e : Edge s) where
  abbrev face : (t : ℕ) → t < length s.triangles → Face s
  face t i = face_of s in_range t i

  abbrev mesh : Mesh
  mesh = mesh_of d s sound.closed

  -- whether a triangle has the corner
  abbrev pub has_or : (t : ℕ) → IsCornerOf (triangle_at s t) e.m ⊎ ¬ IsCornerOf (triangle_at s t) e.m
  has_or t = corner_or (triangle_at s t) e.m

  abbrev pub SeenHas : ℕ → Type 0
  SeenHas t = HasCorner (on d e.a) (mesh.from (3 * t)) (mesh.from (3 * t + 1)) (mesh.from (3 * t + 2))

  module _ (t : ℕ) (i : t < length s.triangles) where
    pub seen_has : IsCornerOf (triangle_at s t) e.m → SeenHas t
    seen_has h =
        at_mesh d s (face t i) (λ a b g. HasCorner (on d e.a) a b g) (seen_corner d e (face t i) (subst (λ (x : Tri). IsCornerOf x e.m) (triangle-at d s (face t i)) h))

    pub seen_has_not : ¬ IsCornerOf (triangle_at s t) e.m → ¬ SeenHas t
    seen_has_not n h =
        not_seen_corner d directed s sound e (face t i) (λ c. n (subst (λ (x : Tri). IsCornerOf x e.m) (sym (triangle-at d s (face t i))) c))
        (at_face d s (face t i) (λ a b g. HasCorner (on d e.a) a b g) h)

    pub untouched : ¬ IsCornerOf (triangle_at s t) e.m → ¬ Touches (mesh.from (3 * t)) (mesh.from (3 * t + 1)) (mesh.from (3 * t + 2)) (on d e.a)
    untouched n =
        at_mesh d s (face t i) (λ a b g. ¬ Touches a b g (on d e.a)) (not_touched d directed s sound e (face t i) (λ c. n (subst (λ (x : Tri). IsCornerOf x e.m) (sym (triangle-at d s (face t i))) c)))

  module _ (c : Side) (o : Edge s) (start : on d o.a ≡ on d e.a) (k : ℕ)
      (above : (t : ℕ) → t < length s.triangles → IsAbove (on d o.b) (mesh.from (3 * t)) (mesh.from (3 * t + 1)) (mesh.from (3 * t + 2)) (pos k))
      (covers : List ℕ) (long : length covers ≡ length s.triangles)
      (next : (i x : ℕ) → slice_get covers i ≡ Some x → (f : Face s) → f.number ≡ i → IsOneWhere (IsCountedNext c d o false f) x) where
    abbrev item : ℕ → ℤ
    item t = pos (get_or covers t 0)

    -- what the triangles without the corner add
    abbrev pub apart : ℕ → ℤ
    apart t = where_not (has_or t) (item t)

    item_is : (t : ℕ) (i : t < length s.triangles) → IsOneWhere (IsCountedNext c d o false (face t i)) (get_or covers t 0)
    item_is t i = next t (get_or covers t 0) (slice_get-get_or covers t 0 (subst (λ n. t < n) (sym long) i)) (face t i) refl

    abbrev AddsHere : Screen → ℕ → Type 0
    AddsHere p t = Adds c p (on d o.b) (mesh.from (3 * t)) (mesh.from (3 * t + 1)) (mesh.from (3 * t + 2)) (pos 1) (divisor k)

    adds_tally : (t : ℕ) → t < length s.triangles → IsTally (AddsHere (on d e.a) t) (item t)
    adds_tally t i =
        let f = face t i in
        let low = at_face d s f (λ a b g. IsAbove (on d o.b) a b g (pos k)) (above t i) in
        subst (λ p. IsTally (AddsHere p t) (item t)) start
        (at_mesh d s f (λ a b g. IsTally (Adds c (on d o.a) (on d o.b) a b g (pos 1) (divisor k)) (item t))
        (tally_of (adds_of_next c d o f (pos k) (divisor k) (near k) low) (next_of_adds c d o f (pos k) (divisor k) (near k) low) (one_tally (get_or covers t 0) (item_is t i))))

    pub apart_tally : (t : ℕ) → t < length s.triangles → IsTally (¬ SeenHas t × AddsHere (on d e.a) t) (apart t)
    apart_tally t i = by (has_or t)
      where
        by : (w : IsCornerOf (triangle_at s t) e.m ⊎ ¬ IsCornerOf (triangle_at s t) e.m) → IsTally (¬ SeenHas t × AddsHere (on d e.a) t) (where_not w (item t))
        by (inl has) = no (λ v. v.0 (seen_has t i has))
        by (inr n) = tally_of (λ a. (seen_has_not t i n, a)) (λ v. v.1) (adds_tally t i)

    -- ---- a list of the triangles that have the corner, and what each of them counts
    module _ (star : List ℕ) (ascending : IsStrictlyIncreasing star) (exactly : (i : ℕ) → Contains star i ↔ ((t : Tri) × (slice_get s.triangles i ≡ Some t) × IsCornerOf t e.m))
        (own : List ℕ) (each : AllZip (λ i x. (f : Face s) → f.number ≡ i → IsOneWhere (IsCountedNext c d o false f) x) star own) where
      abbrev share : ℕ → ℤ
      share t = where_so (has_or t) (item t)

      listed_is : (i : ℕ) (x : ℕ) → IsIn i star → ((f : Face s) → f.number ≡ i → IsOneWhere (IsCountedNext c d o false f) x) → (i < length s.triangles) × (pos x ≡ share i)
      listed_is i x there h =
          let at = (exactly i).0 (in_place star i there) in
          let l = slice_get_within s.triangles i at.0 at.1 in
          let is : triangle_at s i ≡ at.0 = get_or_from_slice_get s.triangles i at.0 _ at.1 in
          (l, by l (subst (λ (t : Tri). IsCornerOf t e.m) (sym is) at.2) (has_or i))
        where
          by : i < length s.triangles → IsCornerOf (triangle_at s i) e.m → (w : IsCornerOf (triangle_at s i) e.m ⊎ ¬ IsCornerOf (triangle_at s i) e.m) → pos x ≡ where_so w (item i)
          by l c (inl p) = ap (λ (n : ℕ). pos n) (one_same x (get_or covers i 0) (h (face i l) refl) (item_is i l))
          by l c (inr n) = absurd (n c)

      elsewhere : (t : ℕ) → t < length s.triangles → ¬ IsIn t star → share t ≡ pos 0
      elsewhere t l out = by (has_or t)
        where
          by : (w : IsCornerOf (triangle_at s t) e.m ⊎ ¬ IsCornerOf (triangle_at s t) e.m) → where_so w (item t) ≡ pos 0
          by (inl c) = absurd (out (place_in star t ((exactly t).1 (triangle_at s t, slice_get-get_or s.triangles t _ l, c))))
          by (inr n) = refl

      pub own_sum : sum_below share (length s.triangles) ≡ pos (sum own)
      own_sum =
          listed_sum (λ (n : ℕ). pos n) (length s.triangles) share star own
          (different star (λ i j x g h. lower _ _ (AllPairs-from_increasing star ascending i j x g h)))
          (zip_in _ _ star own listed_is each) elsewhere ∙ total_sum own
        where
          lower : (i j : ℕ) → i < j → ¬ (i ≡ j)
          lower i j h e = omega arith

      -- those without the corner count the rest
      pub apart_sum : sum_below apart (length s.triangles) ≡ pos (sum covers) -ℤ pos (sum own)
      apart_sum =
          rest (pos (sum covers)) (sum_below share (length s.triangles)) (sum_below apart (length s.triangles))
          (sum_at covers ∙ ap (sum_below item) long ∙ sum_same item (λ t. share t +ℤ apart t) (length s.triangles) (λ t l. so_or_not (has_or t) (item t)) ∙ sum_add share apart (length s.triangles))
          ∙ ap (λ v. pos (sum covers) -ℤ v) own_sum
        where
          rest : (x y z : ℤ) → x ≡ y +ℤ z → z ≡ x -ℤ y
          rest x y z e = omega (arith, ints)
