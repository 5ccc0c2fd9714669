-- How many faces are counted next to an end of an edge is one number, which is carried along edges and around corners.
use Rattle.std.proofs.Common.{◌≡◌, ◌≢◌, ◌⊎◌, inl, inr, ℕ, zero, suc, ◌<◌, Bool, true, false, List, [], ◌∷◌, All, AllPairs, Contains, Some, length, get_or, slice_get, sum, refl, sym, ap, subst, ◌∙◌, arith}
use Rattle.std.specs.Prelude.{ℤ, pos, ◌+ℤ◌, ◌-ℤ◌, ◌<ℤ◌, ◌↔◌}
use Rattle.std.specs.List.{AllZip}
use Rattle.std.specs.List.Sorted.{IsStrictlyIncreasing}
use Rattle.std.proofs.lemmas.Int.{ints}
use Rattle.std.proofs.lemmas.Option.{none-some, same_Some, slice_get-get_or}
use Rattle.lattice.specs.declared.points.Corner.{Corner}
use Rattle.lattice.specs.declared.soup.Tri.{Tri}
use Rattle.lattice.specs.Triangles.{IsBelow as IsTriBelow}
use Rattle.lattice.specs.Triple.{Triple, IsZero}
use Rattle.geometry.specs.Faces.{facing_of, share_point, FaceHides}
use Rattle.geometry.specs.Parts.{Part, Face, Edge, AreEdges, IsNumbered, IsCornerOf}
use Rattle.geometry.specs.Sound.{IsSound}
use Rattle.geometry.specs.Views.{IsOutline, IsEndOn, IsOrdinary}
use Rattle.geometry.proofs.Listed.{same_element}
use Rattle.geometry.specs.Counts.{Side, StandsOn, AreCounted}
use Rattle.geometry.specs.inner.CountsNext.{AreCovers, AreCoversOf, AreCountedNext}
use Rattle.geometry.specs.Covers.{share_from, HidesNext, IsCountedNext, IsOneWhere}
use Rattle.hiding_laws.proofs.Changed.{HasChanged, HasChangedAlong}
use Rattle.geometry.specs.Shares.{Changes}
use Rattle.geometry.specs.Turns.{number_at, corner_at, IsNearerOver, HasTurnedAt}
use Rattle.hiding_laws.specs.Sums.{total}
use Rattle.hiding_laws.proofs.SumsBelow.{sum_below}
use Rattle.hiding_laws.proofs.CornerFaces.{one_same}
use Rattle.hiding_laws.proofs.CountTurned.{count_turned}
use Rattle.hiding_laws.proofs.Decided.{counted_next_or}
use Rattle.hiding_laws.proofs.ListSums.{sum_at}
use Rattle.hiding_laws.proofs.MeshCounts.{face_of}
use Rattle.hiding_laws.proofs.NextAlong.{next_along, count_from_end}
use Rattle.hiding_laws.proofs.Sums.{sum_same}

-- ---- a list of ones and zeros
one_for : {P : Type 0} → P ⊎ ¬ P → (n : ℕ) × IsOneWhere P n
one_for (inl p) = (1, inl (refl, p))
one_for (inr n) = (0, inr (refl, n))

ones : (P : ℕ → Type 0) (n : ℕ) → ((i : ℕ) → i < n → P i ⊎ ¬ P i) → (xs : List ℕ) × (length xs ≡ n) × ((i x : ℕ) → slice_get xs i ≡ Some x → IsOneWhere (P i) x)
ones P zero decided = ([], refl, λ i x h. absurd (none-some x h))
ones P (suc n) decided =
    let r = ones (λ i. P (suc i)) n (λ i l. decided (suc i) (omega arith)) in
    let x = one_for (decided 0 (omega arith)) in
    (x.0 ∷ r.0, ap suc r.1, each x.0 x.1 r.0 r.2)
  where
    each : (x : ℕ) → IsOneWhere (P 0) x → (xs : List ℕ) → ((i y : ℕ) → slice_get xs i ≡ Some y → IsOneWhere (P (suc i)) y) → (i y : ℕ) → slice_get (x ∷ xs) i ≡ Some y → IsOneWhere (P i) y
    each x first xs rest zero y h = subst (λ z. IsOneWhere (P 0) z) (same_Some x y h) first
    each x first xs rest (suc i) y h = rest i y h

-- ---- the number
module _ (k : Side) (d : Triple) (s : Part) (in_range : All (IsTriBelow (length s.corners)) s.triangles) (e : Edge s) (at_b : Bool) where
  -- what is so of a face is so of each with the same number
  next_same : (f g : Face s) → g.number ≡ f.number → IsCountedNext k d e at_b g → IsCountedNext k d e at_b f
  next_same f g same c =
      let tri : g.tri ≡ f.tri = same_element s.triangles g.number f.number g.tri f.tri same g.listed f.listed in
      let a : g.a ≡ f.a = same_element s.corners g.tri.a f.tri.a g.a f.a (ap (λ (t : Tri). t.a) tri) g.at_a f.at_a in
      let b : g.b ≡ f.b = same_element s.corners g.tri.b f.tri.b g.b f.b (ap (λ (t : Tri). t.b) tri) g.at_b f.at_b in
      let l : g.c ≡ f.c = same_element s.corners g.tri.c f.tri.c g.c f.c (ap (λ (t : Tri). t.c) tri) g.at_c f.at_c in
      let moved = λ (X : Corner → Corner → Corner → Type 0) (x : X g.a g.b g.c). subst (λ (z : Corner). X z f.b f.c) a (subst (λ (z : Corner). X g.a z f.c) b (subst (λ (z : Corner). X g.a g.b z) l x)) in
      let h : HidesNext d e at_b g = c.hides in
      record {
        turned = moved (λ x y z. facing_of d x y z ≢ pos 0) c.turned;
        hides = record { n = h.n; m = h.m; some = h.some; within = h.within; over = λ i j p q r. moved (λ x y z. FaceHides d x y z (share_from e at_b i j)) (h.over i j p q r) };
        reaches = moved (λ x y z. StandsOn k d e.a e.b x ⊎ StandsOn k d e.a e.b y ⊎ StandsOn k d e.a e.b z) c.reaches;
      }

  abbrev HasNext : ℕ → Type 0
  HasNext i = (f : Face s) × (f.number ≡ i) × IsCountedNext k d e at_b f

  has_next_or : (i : ℕ) → i < length s.triangles → HasNext i ⊎ ¬ HasNext i
  has_next_or i l = by (counted_next_or k d e at_b (face_of s in_range i l))
    where
      by : IsCountedNext k d e at_b (face_of s in_range i l) ⊎ ¬ IsCountedNext k d e at_b (face_of s in_range i l) → HasNext i ⊎ ¬ HasNext i
      by (inl c) = inl (face_of s in_range i l, refl, c)
      by (inr n) = inr (λ h. n (next_same (face_of s in_range i l) h.0 h.1 h.2))

  -- there is one
  pub counted_next : (n : ℕ) × AreCountedNext k d e at_b n
  counted_next =
      let r = ones HasNext (length s.triangles) has_next_or in
      (sum r.0, record { covers = r.0; next = record { long = r.1; each = λ i x h f same. each f i x same (r.2 i x h) }; all = refl })
    where
      each : (f : Face s) (i x : ℕ) → f.number ≡ i → IsOneWhere (HasNext i) x → IsOneWhere (IsCountedNext k d e at_b f) x
      each f i x same (inl (h, c)) = inl (h, next_same f c.0 (c.1 ∙ sym same) c.2)
      each f i x same (inr (h, n)) = inr (h, λ c. n (f, same, c))

  same_sum : (covers covers' : List ℕ) → AreCovers k d e at_b covers → AreCovers k d e at_b covers' → pos (sum covers) ≡ pos (sum covers')
  same_sum covers covers' h h' =
      sum_at covers ∙ ap (sum_below (λ i. pos (get_or covers i 0))) h.long
      ∙ sum_same (λ i. pos (get_or covers i 0)) (λ i. pos (get_or covers' i 0)) (length s.triangles) (λ i l. ap (λ (n : ℕ). pos n) (one_same _ _ (item covers h i l) (item covers' h' i l)))
      ∙ ap (sum_below (λ i. pos (get_or covers' i 0))) (sym h'.long) ∙ sym (sum_at covers')
    where
      item : (xs : List ℕ) (h : AreCovers k d e at_b xs) (i : ℕ) (l : i < length s.triangles) → IsOneWhere (IsCountedNext k d e at_b (face_of s in_range i l)) (get_or xs i 0)
      item xs h i l = h.each i (get_or xs i 0) (slice_get-get_or xs i 0 (subst (λ n. i < n) (sym h.long) l)) (face_of s in_range i l) refl

  -- and no other
  pub counted_one : (m n : ℕ) → AreCountedNext k d e at_b m → AreCountedNext k d e at_b n → m ≡ n
  counted_one m n x y = x.all ∙ natural _ _ (same_sum x.covers y.covers x.next y.next) ∙ sym y.all
    where
      natural : (m n : ℕ) → pos m ≡ pos n → m ≡ n
      natural m n e = omega (arith, ints)

  -- a number that is equal to the sum is that number
  counted_of : (covers : List ℕ) → AreCovers k d e at_b covers → (n : ℕ) → pos n ≡ pos (sum covers) → AreCountedNext k d e at_b n
  counted_of covers h n same = record { covers = covers; next = h; all = natural _ _ same }
    where
      natural : (m n : ℕ) → pos m ≡ pos n → m ≡ n
      natural m n e = omega (arith, ints)

-- ---- how it is carried
module _ (d : Triple) (directed : ¬ IsZero d) (s : Part) (sound : IsSound s) (in_range : All (IsTriBelow (length s.corners)) s.triangles)
    (halves : List ℕ) (edges : AreEdges s halves) (numbers : List ℕ) (listed : All (λ i. i < length halves) numbers) (once : AllPairs ◌≢◌ numbers)
    {A : Type 0} (value : A → ℤ) (changes : List A) (k : Side) (e : Edge s) where
  -- ---- along an edge, by a list that has each edge which changes a count
  module _ (whole : (i : ℕ) (o : Edge s) → IsNumbered halves i o → Changes d e o → Contains numbers i)
      (has : AllZip (λ i x. (o : Edge s) → IsNumbered halves i o → HasChangedAlong k d e o (value x)) numbers changes) where
    -- to the second end
    pub counted_to_second : (m n : ℕ) → AreCountedNext k d e false m → pos n ≡ pos m +ℤ total value changes → AreCountedNext k d e true n
    counted_to_second m n x same =
        let there = (counted_next k d s in_range e true).1 in
        counted_of k d s in_range e true there.covers there.next n
        (same ∙ ap (λ (i : ℕ). pos i +ℤ total value changes) x.all
        ∙ sym (next_along d directed s sound in_range k e halves edges numbers listed once whole value changes has x.covers there.covers x.next there.next))

    -- and back
    pub counted_to_first : (m n : ℕ) → AreCountedNext k d e true m → pos n ≡ pos m -ℤ total value changes → AreCountedNext k d e false n
    counted_to_first m n x same =
        let there = (counted_next k d s in_range e false).1 in
        counted_of k d s in_range e false there.covers there.next n
        (same ∙ ap (λ (i : ℕ). pos i -ℤ total value changes) x.all
        ∙ left _ _ _ (next_along d directed s sound in_range k e halves edges numbers listed once whole value changes has there.covers x.covers there.next x.next))
      where
        left : (x y z : ℤ) → x ≡ y +ℤ z → x -ℤ z ≡ y
        left x y z h = omega (arith, ints)

    -- to an ordinary point, from the second end
    pub count_at_point : (n m : ℤ) → pos 0 <ℤ n → n <ℤ m → IsOrdinary d s (share_point e.a e.b n m)
        → {B : Type 0} (before : B → ℤ) (changes' : List B) → AllZip (λ i x. (o : Edge s) → IsNumbered halves i o → HasChanged k d e o n m (before x)) numbers changes'
        → (last : ℕ) → AreCountedNext k d e true last
        → (all : ℕ) → AreCounted k d e (share_point e.a e.b n m) all → pos all ≡ (pos last -ℤ total value changes) +ℤ total before changes'
    count_at_point n m after short ordinary before changes' has' last x all are =
        let there = (counted_next k d s in_range e false).1 in
        count_from_end d directed s sound in_range k e halves edges numbers listed once whole value changes has there.covers x.covers there.next x.next n m after short ordinary before changes' has' all are
        ∙ ap (λ (i : ℕ). (pos i -ℤ total value changes) +ℤ total before changes') (sym x.all)

  -- ---- around a corner, by a list that has each outline which passes over it, and the faces that have the corner
  pub counted_turned : (at_b : Bool) (e' : Edge s) (at_b' : Bool) → number_at e at_b ≡ number_at e' at_b' → ¬ IsEndOn d e → ¬ IsEndOn d e'
      → ((i : ℕ) (o : Edge s) → IsNumbered halves i o → IsOutline d o → IsNearerOver d (number_at e at_b) (corner_at e at_b) o → Contains numbers i)
      → AllZip (λ i x. (o : Edge s) → IsNumbered halves i o → HasTurnedAt k d e at_b e' at_b' o (value x)) numbers changes
      → (star : List ℕ) → IsStrictlyIncreasing star → ((i : ℕ) → Contains star i ↔ ((t : Tri) × (slice_get s.triangles i ≡ Some t) × IsCornerOf t (number_at e at_b)))
      → (own own' : List ℕ) → AreCoversOf k d e at_b star own → AreCoversOf k d e' at_b' star own'
      → (m n : ℕ) → AreCountedNext k d e at_b m → pos n ≡ ((pos m -ℤ pos (sum own)) +ℤ total value changes) +ℤ pos (sum own') → AreCountedNext k d e' at_b' n
  counted_turned at_b e' at_b' same seen seen' whole has star ascending exactly own own' g g' m n x is =
      let there = (counted_next k d s in_range e' at_b').1 in
      counted_of k d s in_range e' at_b' there.covers there.next n
      (is ∙ ap (λ (i : ℕ). ((pos i -ℤ pos (sum own)) +ℤ total value changes) +ℤ pos (sum own')) x.all
      ∙ count_turned d directed s sound in_range halves edges numbers listed once value changes star ascending k e at_b e' at_b' same seen seen' exactly whole has
      x.covers there.covers own own' x.next there.next g g')
