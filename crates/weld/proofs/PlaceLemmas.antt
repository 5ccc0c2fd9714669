-- From the places in a set to the corners beside it.
use Rattle.std.proofs.Common.{◌≡◌, ◌≢◌, ℕ, ◌+◌, ◌<◌, ◌≤◌, ◌&&◌, ◌||◌, Bool, true, false, not, cond, List, [], ◌∷◌, ◌++◌, Contains, All, AllPairs, map, length, get_or, slice_get, Some, inl, inr, refl, sym, ap, subst, ◌∙◌, arith, if◌then◌else◌}
use Rattle.std.specs.Bool.{Decides}
use Rattle.std.specs.Cmp.{IsEquivalence}
use Rattle.std.specs.List.{list_any, position_or_len}
use Rattle.std.specs.Option.{option_map}
use Rattle.std.specs.Ordering.{int_eq}
use Rattle.std.proofs.lemmas.Bool.Decides.{Decides-and, Decides-int_eq, Decides-like, same_from_decides}
use Rattle.std.proofs.lemmas.List.{length-append, length-map, map-append, get_or-map}
use Rattle.std.proofs.Math.Seq.{get_or-append_seam}
use Rattle.std.proofs.lemmas.Bool.{not-true, not-false}
use Rattle.std.proofs.lemmas.List.Elements.{All-contains}
use Rattle.std.proofs.lemmas.Map.Made.{AllPairs-from_IsDistinct, is_member-Decides, length-le_from_is_member}
use Rattle.std.proofs.lemmas.Option.{slice_get-get_or, slice_get-map}
use Rattle.indexmap.specs.IndexSet.{insert_key}
use Rattle.lattice.specs.declared.points.Corner.{Corner}
use Rattle.lattice.specs.Points.{of_corner}
use Rattle.lattice.specs.Triple.{Triple}
use Rattle.weld.specs.declared.welding.UnitPlace.{UnitPlace}
use Rattle.weld.specs.inner.Numbering.{of_place, same_place, IsTied, Numbers}
use Rattle.weld.specs.Welds.{vertex_at, is_one_place, are_different}

-- the place with these coordinates
abbrev pub place_at : Triple → UnitPlace
place_at p = record { x = p.x; y = p.y; z = p.z }

pub decides_same : (p q : UnitPlace) → Decides (same_place p q) (p ≡ q)
decides_same p q =
    Decides-like (same_place p q) (λ (a, (b, c)). λ i. record { x = a i; y = b i; z = c i })
    (λ e. (ap (λ (s : UnitPlace). s.x) e, (ap (λ (s : UnitPlace). s.y) e, ap (λ (s : UnitPlace). s.z) e)))
    (Decides-and (int_eq p.x q.x) (int_eq p.y q.y && int_eq p.z q.z) (Decides-int_eq p.x q.x) (Decides-and (int_eq p.y q.y) (int_eq p.z q.z) (Decides-int_eq p.y q.y) (Decides-int_eq p.z q.z)))

same_laws : IsEquivalence same_place
same_laws = record {
  refl = λ p. (decides_same p p).1 refl;
  symm = λ p q. same_from_decides (same_place p q) (same_place q p) (decides_same p q) (λ h. sym ((decides_same q p).0 h), λ e. (decides_same q p).1 (sym e));
  congr = λ p q r h. ap (λ s. same_place s r) ((decides_same p q).0 h);
}

and_assoc : (a b c : Bool) → (a && (b && c)) ≡ (a && b && c)
and_assoc true b c = refl
and_assoc false b c = refl

-- the test of places is that of their triples
pub same_is_one : (p q : UnitPlace) → same_place p q ≡ is_one_place (of_place p) (of_place q)
same_is_one p q = and_assoc (int_eq p.x q.x) (int_eq p.y q.y) (int_eq p.z q.z)

-- the answer of three tests, one after the other
pub different_by_tests : (p q r : UnitPlace) (x y z : Bool) → x ≡ not (same_place p q) → y ≡ not (same_place q r) → z ≡ not (same_place r p)
    → (x && y && z) ≡ are_different (of_place p, of_place q, of_place r)
different_by_tests p q r x y z e f g =
    λ i. (e ∙ ap not (same_is_one p q)) i && (f ∙ ap not (same_is_one q r)) i && (g ∙ ap not (same_is_one r p)) i

-- a key that no test finds would stand at the end
position_past : {A : Type 0} (test : A → Bool) (xs : List A) → list_any test xs ≡ false → position_or_len test xs ≡ length xs
position_past test [] h = refl
position_past test (x ∷ xs) h = by (test x) h (position_past test xs)
  where
    by : (b : Bool) → (b || list_any test xs) ≡ false → (list_any test xs ≡ false → position_or_len test xs ≡ length xs) → cond (not b) (1 + position_or_len test xs) 0 ≡ length (x ∷ xs)
    by true g rest = cc
    by false g rest = omega (arith, rest g)

slice_get_seam : (ps : List Triple) (p : Triple) → slice_get (ps ++ p ∷ []) (length ps) ≡ Some p
slice_get_seam ps p = slice_get-get_or (ps ++ p ∷ []) (length ps) p (omega (arith, length-append ps (p ∷ []))) ∙ ap Some (get_or-append_seam ps p [] p)

module _ (keys new : List UnitPlace) (corners : List Corner) (v : UnitPlace) (p : Triple) (n : ℕ)
    (tied : map of_place keys ≡ map of_corner corners) (is : of_place v ≡ p) (inserted : new ≡ insert_key same_place keys v) where
  -- a place that was there has its number
  pub numbers_known : (k : UnitPlace) → slice_get new n ≡ Some k → same_place v k ≡ true → not (list_any (same_place v) keys) ≡ false → Numbers (map of_corner corners) (map of_corner corners) p n
  numbers_known k at same known =
      let stay : new ≡ keys = inserted ∙ ap (λ (b : Bool). if b then keys else keys ++ v ∷ []) (not-false (list_any (same_place v) keys) known) in
      record {
        at =
            ap (λ (ps : List Triple). slice_get ps n) (sym tied) ∙ slice_get-map of_place keys n
            ∙ ap (option_map of_place) (ap (λ (ks : List UnitPlace). slice_get ks n) (sym stay) ∙ at) ∙ ap (λ (q : UnitPlace). Some (of_place q)) (sym ((decides_same v k).0 same)) ∙ ap Some is;
        grown = inl refl;
      }

  -- a new place has the next number
  pub numbers_new : (c : Corner) (after : List Corner) → of_corner c ≡ p → after ≡ corners ++ c ∷ [] → n ≡ position_or_len (same_place v) keys → not (list_any (same_place v) keys) ≡ true
      → Numbers (map of_corner corners) (map of_corner after) p n
  numbers_new c after here added number unknown =
      let grown : map of_corner after ≡ map of_corner corners ++ p ∷ [] = ap (map of_corner) added ∙ map-append of_corner corners (c ∷ []) ∙ ap (λ (q : Triple). map of_corner corners ++ q ∷ []) here in
      let last : n ≡ length (map of_corner corners) =
      number ∙ position_past (same_place v) keys (not-true (list_any (same_place v) keys) unknown) ∙ sym (length-map keys of_place) ∙ ap length tied in
      record {
        at = ap (λ (ps : List Triple). slice_get ps n) grown ∙ ap (slice_get (map of_corner corners ++ p ∷ [])) last ∙ slice_get_seam (map of_corner corners) p;
        grown = inr (grown, last);
      }

Contains-map : {A B : Type 0} (f : A → B) (xs : List A) (x : A) → Contains xs x → Contains (map f xs) (f x)
Contains-map f xs x (k, less, is) = (k, omega (arith, length-map xs f), get_or-map f xs k x (f x) less ∙ ap f is)

-- the vertex at a corner that was read
pub vertex_read : (corners : List Corner) (i : ℕ) (c : Corner) → i < length corners → c ≡ get_or corners i c → of_corner c ≡ vertex_at (map of_corner corners) i
vertex_read corners i c h e = ap of_corner e ∙ sym (get_or-map of_corner corners i c _ h)

-- where places and corners are tied, no two corners are at one place
pub corners_distinct : (keys : List UnitPlace) (corners : List Corner) → IsTied keys corners → AllPairs (λ c d. of_corner c ≢ of_corner d) corners
corners_distinct keys corners tied i j d less within e =
    let long : length keys ≡ length corners = sym (length-map keys of_place) ∙ ap length tied.same ∙ length-map corners of_corner in
    let k = place_at (of_corner d) in
    let at : (n : ℕ) → n < length corners → of_place (get_or keys n k) ≡ of_corner (get_or corners n d) =
    λ n h. sym (get_or-map of_place keys n k (of_corner d) (omega arith)) ∙ ap (λ (ps : List Triple). get_or ps n (of_corner d)) tied.same ∙ get_or-map of_corner corners n d (of_corner d) h in
    AllPairs-from_IsDistinct decides_same keys tied.distinct i j k less (omega arith) (ap place_at (at i (omega arith) ∙ e ∙ sym (at j within)))

-- each of the corners is at a place of the vertices, so there are no more of them
pub at_most_vertices : (vertices : List Triple) (keys : List UnitPlace) (corners : List Corner) → IsTied keys corners → All (Contains vertices) (map of_corner corners) → length corners ≤ length vertices
at_most_vertices vertices keys corners tied given =
    omega (
      arith,
      sym (length-map keys of_place) ∙ ap length tied.same ∙ length-map corners of_corner,
      length-map vertices place_at,
      length-le_from_is_member same_laws keys (map place_at vertices) tied.distinct (λ q h.
          (is_member-Decides decides_same (map place_at vertices) q).1 (among q (All-contains (Contains vertices) (map of_corner corners) (of_place q) given (subst (λ (ps : List Triple). Contains ps (of_place q)) tied.same (Contains-map of_place keys q ((is_member-Decides decides_same keys q).0 h)))))),
    )
  where
    among : (q : UnitPlace) → Contains vertices (of_place q) → Contains (map place_at vertices) q
    among q h = Contains-map place_at vertices (of_place q) h
