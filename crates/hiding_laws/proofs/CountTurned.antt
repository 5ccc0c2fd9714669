-- Around a corner of a sound part a count changes by the outlines that pass over the corner and by the faces that have it.
use Rattle.std.proofs.Common.{◌≡◌, ◌≢◌, ◌⊎◌, inl, inr, ℕ, ◌+◌, ◌*◌, ◌<◌, Bool, true, false, List, All, AllPairs, Contains, Some, length, slice_get, sum, refl, sym, ap, subst, ◌∙◌, arith}
use Rattle.std.specs.Prelude.{ℤ, pos, ◌+ℤ◌, ◌-ℤ◌, ◌↔◌}
use Rattle.std.specs.List.{AllZip}
use Rattle.std.specs.List.Sorted.{IsStrictlyIncreasing}
use Rattle.std.proofs.lemmas.Int.{ints}
use Rattle.lattice.specs.declared.points.Corner.{Corner}
use Rattle.lattice.specs.declared.soup.Tri.{Tri}
use Rattle.lattice.specs.Points.{point_of, OnOneSight}
use Rattle.lattice.specs.Triangles.{IsBelow as IsTriBelow}
use Rattle.lattice.specs.Triple.{Triple, IsZero}
use Rattle.geometry.specs.Parts.{Part, Face, Edge, AreEdges, IsNumbered, IsCornerOf}
use Rattle.geometry.specs.Sound.{IsSound}
use Rattle.geometry.specs.Views.{IsOutline, IsEndOn}
use Rattle.geometry.proofs.Listed.{same_element}
use Rattle.hiding_laws.proofs.Screens.{Screen}
use Rattle.geometry.specs.Counts.{Side}
use Rattle.geometry.specs.inner.CountsNext.{AreCovers, AreCoversOf}
use Rattle.geometry.specs.Covers.{IsCountedNext, IsOneWhere}
use Rattle.geometry.specs.Turns.{other_side, side_from, number_at, corner_at, way_to, IsNearerOver, HasTurned, HasTurnedAt}
use Rattle.hiding_laws.proofs.CornerLaws.{HasCorner, Suits}
use Rattle.hiding_laws.proofs.Meshes.{Mesh}
use Rattle.hiding_laws.proofs.Shares.{Touches}
use Rattle.hiding_laws.specs.Sums.{total}
use Rattle.hiding_laws.proofs.SumsBelow.{sum_below}
use Rattle.hiding_laws.proofs.AllCorner.{all_corner}
use Rattle.hiding_laws.proofs.CornerEnds.{places_apart}
use Rattle.hiding_laws.proofs.CornerFaces.{divisor, near, has_or, seen_has, seen_has_not, untouched, apart, apart_tally, apart_sum}
use Rattle.geometry.proofs.EachEdge.{turned_edge}
use Rattle.hiding_laws.proofs.Decided.{next_turned}
use Rattle.hiding_laws.proofs.FineMesh.{IsFineMesh, fine_mesh, suits_first, suits_second, above_of_suits}
use Rattle.hiding_laws.proofs.ListSums.{zip_in}
use Rattle.hiding_laws.proofs.MeshOfPart.{count, mesh_of, is_mesh, triangle_at}
use Rattle.hiding_laws.proofs.Seen.{on}
use Rattle.hiding_laws.proofs.TurnShares.{starts, ends, starts_is, ends_is, share, shared_total}

-- ---- an edge from one of its ends
module _ {s : Part} where
  abbrev from_end : Edge s → Bool → Edge s
  from_end e false = e
  from_end e true = turned_edge e

  module _ (k : Side) (d : Triple) (e : Edge s) where
    first_next : (at_b : Bool) (f : Face s) → IsCountedNext k d e at_b f ↔ IsCountedNext (side_from at_b k) d (from_end e at_b) false f
    first_next false f = (λ h. h, λ h. h)
    first_next true f = next_turned d k e f

    first_one : (at_b : Bool) (f : Face s) (x : ℕ) → IsOneWhere (IsCountedNext k d e at_b f) x → IsOneWhere (IsCountedNext (side_from at_b k) d (from_end e at_b) false f) x
    first_one at_b f x (inl (h, c)) = inl (h, (first_next at_b f).0 c)
    first_one at_b f x (inr (h, n)) = inr (h, λ c. n ((first_next at_b f).1 c))

    first_covers : (at_b : Bool) (covers : List ℕ) → AreCovers k d e at_b covers → AreCovers (side_from at_b k) d (from_end e at_b) false covers
    first_covers at_b covers h = record { long = h.long; each = λ i x g f n. first_one at_b f x (h.each i x g f n) }

    first_covers_of : (at_b : Bool) (numbers covers : List ℕ) → AreCoversOf k d e at_b numbers covers → AreCoversOf (side_from at_b k) d (from_end e at_b) false numbers covers
    first_covers_of at_b numbers covers h = zip_in _ _ numbers covers (λ i x there g f n. first_one at_b f x (g f n)) h

-- the faces counted next to the second end, from those next to the first
abbrev Carried : {A : Type 0} → (A → ℤ) → List A → List ℕ → List ℕ → List ℕ → List ℕ → Type 0
Carried value changes covers own covers' own' = ((pos (sum covers) -ℤ pos (sum own)) +ℤ total value changes) +ℤ pos (sum own') ≡ pos (sum covers')

module _ (d : Triple) (directed : ¬ IsZero d) (s : Part) (sound : IsSound s) (in_range : All (IsTriBelow (length s.corners)) s.triangles)
    (halves : List ℕ) (edges : AreEdges s halves) (numbers : List ℕ) (listed : All (λ i. i < length halves) numbers) (once : AllPairs ◌≢◌ numbers)
    {A : Type 0} (value : A → ℤ) (changes : List A) (star : List ℕ) (ascending : IsStrictlyIncreasing star) where
  abbrev AreAt : ℕ → Type 0
  AreAt number = (i : ℕ) → Contains star i ↔ ((t : Tri) × (slice_get s.triangles i ≡ Some t) × IsCornerOf t number)

  -- ---- two edges from their first ends, which are at one corner
  module _ (e e' : Edge s) (same : e.m ≡ e'.m) (seen : ¬ IsEndOn d e) (seen' : ¬ IsEndOn d e') (c c' : Side) (exactly : AreAt e.m) where
    abbrev O : Screen
    O = on d e.a

    abbrev Q : Screen
    Q = on d e.b

    abbrev R : Screen
    R = on d e'.b

    abbrev mesh : Mesh
    mesh = mesh_of d s sound.closed

    corner : e'.a ≡ e.a
    corner = same_element s.corners e'.m e.m e'.a e.a (sym same) e'.at_m e.at_m

    start : on d e'.a ≡ O
    start = ap (on d) corner

    away : ¬ OnOneSight d (point_of e.a) (point_of e'.b)
    away h = seen' (subst (λ (x : Corner). OnOneSight d (point_of x) (point_of e'.b)) (sym corner) h)

    module _ (k : ℕ) (fine : IsFineMesh O Q R mesh (pos k)) where
      suits : (t : ℕ) → t < length s.triangles → Suits O Q (mesh.from (3 * t)) (mesh.from (3 * t + 1)) (mesh.from (3 * t + 2)) (pos k) (pos 1) (divisor k)
      suits t l = suits_first mesh (is_mesh d s sound.closed in_range) t l O Q R (pos k) fine (pos 1) (divisor k) (near k)

      suits' : (t : ℕ) → t < length s.triangles → Suits O R (mesh.from (3 * t)) (mesh.from (3 * t + 1)) (mesh.from (3 * t + 2)) (pos k) (pos 1) (divisor k)
      suits' t l = suits_second mesh (is_mesh d s sound.closed in_range) t l O Q R (pos k) fine (pos 1) (divisor k) (near k)

      abbrev AreApart : ℕ → Type 0
      AreApart t =
          (¬ HasCorner O (mesh.from (3 * t)) (mesh.from (3 * t + 1)) (mesh.from (3 * t + 2)) × ¬ Touches (mesh.from (3 * t)) (mesh.from (3 * t + 1)) (mesh.from (3 * t + 2)) O)
          ⊎ HasCorner O (mesh.from (3 * t)) (mesh.from (3 * t + 1)) (mesh.from (3 * t + 2))

      apart_or : (t : ℕ) → t < length s.triangles → AreApart t
      apart_or t l = by (has_or d directed s sound in_range e t)
        where
          by : IsCornerOf (triangle_at s t) e.m ⊎ ¬ IsCornerOf (triangle_at s t) e.m → AreApart t
          by (inl h) = inr (seen_has d directed s sound in_range e t l h)
          by (inr n) = inl (seen_has_not d directed s sound in_range e t l n, untouched d directed s sound in_range e t l n)

      rises : (covers covers' own own' : List ℕ) → AreCovers c d e false covers → AreCovers c' d e' false covers' → AreCoversOf c d e false star own → AreCoversOf c' d e' false star own'
          → (pos (sum covers') -ℤ pos (sum own')) -ℤ (pos (sum covers) -ℤ pos (sum own)) ≡ sum_below (share d directed s sound in_range e c c' Q R k) (count s)
      rises covers covers' own own' h h' g g' =
          let low = λ (t : ℕ) (l : t < length s.triangles). above_of_suits O Q _ _ _ (pos k) (pos 1) (divisor k) (suits t l) in
          let low' = λ (t : ℕ) (l : t < length s.triangles). above_of_suits O R _ _ _ (pos k) (pos 1) (divisor k) (suits' t l) in
          (λ t.
          sym (apart_sum d directed s sound in_range e c' e' start k low' covers' h'.long h'.each star ascending exactly own' g') t
          -ℤ sym (apart_sum d directed s sound in_range e c e refl k low covers h.long h.each star ascending exactly own g) t)
          ∙ all_corner c c' O Q R mesh (pos k) (pos 1) (divisor k) (pos 1) (divisor k)
          (apart d directed s sound in_range e c e refl k low covers h.long h.each)
          (apart d directed s sound in_range e c' e' start k low' covers' h'.long h'.each)
          (starts d directed s sound in_range e c c' Q R k) (ends d directed s sound in_range e c c' Q R k) refl refl refl
          (places_apart d e.a e.b seen) (places_apart d e.a e'.b away) (is_mesh d s sound.closed in_range)
          (λ t l some. (suits t l, suits' t l, apart_or t l))
          (λ t l. apart_tally d directed s sound in_range e c e refl k low covers h.long h.each t l)
          (λ t l. apart_tally d directed s sound in_range e c' e' start k low' covers' h'.long h'.each t l)
          (λ i l. starts_is d directed s sound in_range e c c' Q R k i) (λ i l. ends_is d directed s sound in_range e c c' Q R k i)

    first_turned : ((i : ℕ) (o : Edge s) → IsNumbered halves i o → IsOutline d o → IsNearerOver d e.m e.a o → Contains numbers i)
        → AllZip (λ i x. (o : Edge s) → IsNumbered halves i o → HasTurned d e.m e.a c (way_to d e.a e.b) c' (way_to d e'.a e'.b) o (value x)) numbers changes
        → (covers covers' own own' : List ℕ) → AreCovers c d e false covers → AreCovers c' d e' false covers' → AreCoversOf c d e false star own → AreCoversOf c' d e' false star own'
        → Carried value changes covers own covers' own'
    first_turned whole has covers covers' own own' h h' g g' =
        let r = fine_mesh O Q R mesh in
        moved (pos (sum covers')) (pos (sum own')) (pos (sum covers)) (pos (sum own)) (total value changes)
        (rises r.0 r.1 covers covers' own own' h h' g g'
        ∙ shared_total d directed s sound in_range e c c' Q R r.0 r.1 halves edges numbers listed once whole value changes
        (subst (λ (x : Corner). AllZip (λ i z. (o : Edge s) → IsNumbered halves i o → HasTurned d e.m e.a c (way_to d e.a e.b) c' (way_to d x e'.b) o (value z)) numbers changes) corner has))
      where
        moved : (a b x y z : ℤ) → (a -ℤ b) -ℤ (x -ℤ y) ≡ z → ((x -ℤ y) +ℤ z) +ℤ b ≡ a
        moved a b x y z e = omega (arith, ints)

  away_turned : (e : Edge s) → ¬ IsEndOn d e → ¬ IsEndOn d (turned_edge e)
  away_turned e n h = n (record { across = sym h.across; upward = sym h.upward })

  -- ---- the law
  -- the changes are those of the edges of a list that has each outline which passes over the corner; the faces with the corner are found anew
  pub count_turned : (k : Side) (e : Edge s) (at_b : Bool) (e' : Edge s) (at_b' : Bool) → number_at e at_b ≡ number_at e' at_b' → ¬ IsEndOn d e → ¬ IsEndOn d e' → AreAt (number_at e at_b)
      → ((i : ℕ) (o : Edge s) → IsNumbered halves i o → IsOutline d o → IsNearerOver d (number_at e at_b) (corner_at e at_b) o → Contains numbers i)
      → AllZip (λ i x. (o : Edge s) → IsNumbered halves i o → HasTurnedAt k d e at_b e' at_b' o (value x)) numbers changes
      → (covers covers' own own' : List ℕ) → AreCovers k d e at_b covers → AreCovers k d e' at_b' covers' → AreCoversOf k d e at_b star own → AreCoversOf k d e' at_b' star own'
      → ((pos (sum covers) -ℤ pos (sum own)) +ℤ total value changes) +ℤ pos (sum own') ≡ pos (sum covers')
  count_turned k e false e' false same seen seen' exactly whole has covers covers' own own' h h' g g' = first_turned e e' same seen seen' k k exactly whole has covers covers' own own' h h' g g'
  count_turned k e false e' true same seen seen' exactly whole has covers covers' own own' h h' g g' =
      first_turned e (turned_edge e') same seen (away_turned e' seen') k (other_side k) exactly whole has covers covers' own own'
      h (first_covers k d e' true covers' h') g (first_covers_of k d e' true star own' g')
  count_turned k e true e' false same seen seen' exactly whole has covers covers' own own' h h' g g' =
      first_turned (turned_edge e) e' same (away_turned e seen) seen' (other_side k) k exactly whole has covers covers' own own'
      (first_covers k d e true covers h) h' (first_covers_of k d e true star own g) g'
  count_turned k e true e' true same seen seen' exactly whole has covers covers' own own' h h' g g' =
      first_turned (turned_edge e) (turned_edge e') same (away_turned e seen) (away_turned e' seen') (other_side k) (other_side k) exactly whole has covers covers' own own'
      (first_covers k d e true covers h) (first_covers k d e' true covers' h') (first_covers_of k d e true star own g) (first_covers_of k d e' true star own' g')
