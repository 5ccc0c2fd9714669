-- The stars of corners, triangle by triangle.
use Rattle.std.proofs.Common.{◌≡◌, ℕ, ◌+◌, ◌<◌, inl, inr, ◌||◌, ◌==◌, Bool, true, false, cond, List, [], ◌∷◌, ◌++◌, All, length, get_or, set, refl, sym, subst, ap, ◌∙◌, arith, append-nil, true≢false}
use Rattle.std.proofs.lemmas.Bool.Decides.{Decides-eqb}
use Rattle.std.proofs.lemmas.List.{get_or-set_same, get_or-set_other}
use Rattle.std.proofs.lemmas.Option.{slice_get-get_or, get_or_from_slice_get, slice_get_within}
use Rattle.integers.proofs.Passing as passing
use Rattle.lattice.specs.declared.soup.Tri.{Tri}
use Rattle.lattice.specs.Triangles.{IsBelow}
use Rattle.geometry.specs.Parts.{Part, IsCornerOf}
use Rattle.solid_mesh.specs.Solids.{AreTrianglesAt}
use Rattle.solid_mesh.specs.Stars.{has_corner, is_at, first_at, AreStars}

abbrev none : Tri
none = record { a = 0; b = 0; c = 0 }

-- ---- the test
corner_true : (t : Tri) (n : ℕ) → has_corner t n ≡ true → IsCornerOf t n
corner_true t n = by (n == t.a) (n == t.b) (n == t.c) (λ e. sym ((Decides-eqb n t.a).0 e)) (λ e. sym ((Decides-eqb n t.b).0 e)) (λ e. sym ((Decides-eqb n t.c).0 e))
  where
    by : (p q r : Bool) → (p ≡ true → t.a ≡ n) → (q ≡ true → t.b ≡ n) → (r ≡ true → t.c ≡ n) → ((p || q) || r) ≡ true → IsCornerOf t n
    by true q r f g h e = inl (f refl)
    by false true r f g h e = inr (inl (g refl))
    by false false true f g h e = inr (inr (h refl))
    by false false false f g h e = absurd (true≢false (sym e))

true_of_corner : (t : Tri) (n : ℕ) → IsCornerOf t n → has_corner t n ≡ true
true_of_corner t n = by (n == t.a) (n == t.b) (n == t.c) (λ e. (Decides-eqb n t.a).1 (sym e)) (λ e. (Decides-eqb n t.b).1 (sym e)) (λ e. (Decides-eqb n t.c).1 (sym e))
  where
    by : (p q r : Bool) → (t.a ≡ n → p ≡ true) → (t.b ≡ n → q ≡ true) → (t.c ≡ n → r ≡ true) → IsCornerOf t n → ((p || q) || r) ≡ true
    by true q r f g h e = refl
    by false true r f g h e = refl
    by false false true f g h e = refl
    by false false false f g h (inl e) = absurd (true≢false (sym (f e)))
    by false false false f g h (inr (inl e)) = absurd (true≢false (sym (g e)))
    by false false false f g h (inr (inr e)) = absurd (true≢false (sym (h e)))

false_of_apart : (m n : ℕ) → (m ≡ n → ⊥) → (m == n) ≡ false
false_of_apart m n apart = by (m == n) refl
  where
    by : (b : Bool) → (m == n) ≡ b → (m == n) ≡ false
    by false e = e
    by true e = absurd (apart ((Decides-eqb m n).0 e))

-- ---- one number more at one place of a list of lists
abbrev Adds : (ℕ → Bool) → ℕ → List (List ℕ) → List (List ℕ) → Type 0
Adds p i old new = (k : ℕ) → get_or new k [] ≡ get_or old k [] ++ cond (p k) (i ∷ []) []

adds_none : (i : ℕ) (old : List (List ℕ)) → Adds (λ _. false) i old old
adds_none i old k = sym (append-nil (get_or old k []))

adds_one : (p : ℕ → Bool) (i c : ℕ) (old mid new : List (List ℕ)) → c < length mid → p c ≡ false → Adds p i old mid → new ≡ set mid c (get_or mid c [] ++ i ∷ []) → Adds (λ k. p k || (k == c)) i old new
adds_one p i c old mid new within free so_far e k = by (k == c) refl
  where
    here : k ≡ c → get_or new k [] ≡ get_or old k [] ++ i ∷ []
    here same =
        let at : get_or new c [] ≡ get_or mid c [] ++ i ∷ [] = ap (λ (xs : List (List ℕ)). get_or xs c []) e ∙ get_or-set_same mid c (get_or mid c [] ++ i ∷ []) [] within in
        let before : get_or mid c [] ≡ get_or old c [] = so_far c ∙ ap (λ (b : Bool). get_or old c [] ++ cond b (i ∷ []) []) free ∙ append-nil (get_or old c []) in
        subst (λ (j : ℕ). get_or new j [] ≡ get_or old j [] ++ i ∷ []) (sym same) (at ∙ ap (λ (xs : List ℕ). xs ++ i ∷ []) before)

    elsewhere : (k ≡ c → ⊥) → get_or new k [] ≡ get_or old k [] ++ cond (p k) (i ∷ []) []
    elsewhere apart = ap (λ (xs : List (List ℕ)). get_or xs k []) e ∙ get_or-set_other mid c k (get_or mid c [] ++ i ∷ []) [] apart ∙ so_far k

    joined : (b q : Bool) → q ≡ false → cond (b || q) (i ∷ []) [] ≡ cond b (i ∷ []) []
    joined true q f = refl
    joined false q f = ap (λ (x : Bool). cond x (i ∷ []) []) f

    passed : (b q : Bool) → q ≡ true → (b || q) ≡ true
    passed true q t = refl
    passed false q t = t

    by : (b : Bool) → (k == c) ≡ b → get_or new k [] ≡ get_or old k [] ++ cond (p k || (k == c)) (i ∷ []) []
    by true t = here ((Decides-eqb k c).0 t) ∙ ap (λ (x : Bool). get_or old k [] ++ cond x (i ∷ []) []) (sym (passed (p k) (k == c) t))
    by false f = elsewhere (λ same. true≢false (sym ((Decides-eqb k c).1 same) ∙ f)) ∙ ap (λ (xs : List ℕ). get_or old k [] ++ xs) (sym (joined (p k) (k == c) f))

-- ---- one triangle more
module _ (corners : ℕ) (triangles : List Tri) (i : ℕ) (t : Tri) (is : t ≡ get_or triangles i none) (below : IsBelow corners t)
    (ab : t.a ≡ t.b → ⊥) (bc : t.b ≡ t.c → ⊥) (ac : t.a ≡ t.c → ⊥) where
  pub more_stars : (old first second new : List (List ℕ)) → AreStars corners triangles i old → length first ≡ length old → length second ≡ length first → length new ≡ length second
      → first ≡ set old t.a (get_or old t.a [] ++ i ∷ []) → second ≡ set first t.b (get_or first t.b [] ++ i ∷ []) → new ≡ set second t.c (get_or second t.c [] ++ i ∷ [])
      → AreStars corners triangles (i + 1) new
  more_stars old first second new so_far long_first long_second long_new e f g = record {
    for_each = long_new ∙ long_second ∙ long_first ∙ so_far.for_each;
    right = λ k. added k ∙ ap (λ (xs : List ℕ). xs ++ cond (has_corner t k) (i ∷ []) []) (so_far.right k) ∙ sym (passing.more (is_at triangles k) i ∙ ap (λ (x : Tri). first_at triangles i k ++ cond (has_corner x k) (i ∷ []) []) (sym is));
  }
    where
      apart_c : (p q : Bool) → p ≡ false → q ≡ false → (p || q) ≡ false
      apart_c true q h j = h
      apart_c false q h j = j

      added : Adds (has_corner t) i old new
      added =
          let one : Adds (λ k. k == t.a) i old first = adds_one (λ _. false) i t.a old old first (omega (arith, so_far.for_each, below.a)) refl (adds_none i old) e in
          let two : Adds (λ k. (k == t.a) || (k == t.b)) i old second = adds_one (λ k. k == t.a) i t.b old first second (omega (arith, so_far.for_each, below.b)) (false_of_apart t.b t.a (λ h. ab (sym h))) one f in
          adds_one (λ k. (k == t.a) || (k == t.b)) i t.c old second new (omega (arith, so_far.for_each, below.c))
          (apart_c (t.c == t.a) (t.c == t.b) (false_of_apart t.c t.a (λ h. ac (sym h))) (false_of_apart t.c t.b (λ h. bc (sym h)))) two g

-- ---- what a whole star lists
pub triangles_at : (s : Part) (corner : ℕ) → AreTrianglesAt s corner (first_at s.triangles (length s.triangles) corner)
triangles_at s corner = record {
  ascending = passing.increasing (is_at s.triangles corner) (length s.triangles);
  exactly = λ i. (
    (λ h.
        let p : (i < length s.triangles) × (is_at s.triangles corner i ≡ true) = (passing.contains_exactly (is_at s.triangles corner) (length s.triangles) i).0 h in
        (get_or s.triangles i none, slice_get-get_or s.triangles i none p.0, corner_true (get_or s.triangles i none) corner p.1)),
    (λ (t, at, h).
        let same : get_or s.triangles i none ≡ t = get_or_from_slice_get s.triangles i t none at in
        (passing.contains_exactly (is_at s.triangles corner) (length s.triangles) i).1
        (slice_get_within s.triangles i t at, ap (λ (x : Tri). has_corner x corner) same ∙ true_of_corner t corner h)),
  );
}

pub star_within : (triangles : List Tri) (corner : ℕ) → All (λ i. i < length triangles) (first_at triangles (length triangles) corner)
star_within triangles corner = passing.below (is_at triangles corner) (length triangles)
