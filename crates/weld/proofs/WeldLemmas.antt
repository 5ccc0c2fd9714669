-- What holds of the corners and triangles so far, and what is left at the end.
use Rattle.std.proofs.Common.{◌≡◌, ℕ, ◌+◌, ◌*◌, ◌<◌, ◌≤◌, pos, suc, true, false, cond, List, [], ◌∷◌, ◌++◌, Contains, All, filter, length, map, take, get_or, refl, sym, ap, subst, ◌∙◌, arith}
use Rattle.std.proofs.lemmas.List.{append-nil, length-append, length-map, map-append, take_more}
use Rattle.std.proofs.lemmas.List.Elements.{All-nil, All-push, All-weaker, Contains-get_or, filter-append}
use Rattle.std.proofs.Math.Seq.{take-length}
use Rattle.lattice.specs.declared.points.Corner.{Corner}
use Rattle.lattice.specs.declared.soup.Tri.{Tri}
use Rattle.lattice.specs.Points.{of_corner}
use Rattle.lattice.specs.Triangles.{IsBelow}
use Rattle.lattice.specs.Triple.{Triple}
use Rattle.weld.specs.declared.welding.UnitPlace.{UnitPlace}
use Rattle.weld.specs.inner.Numbering.{IsTied, NumbersAll}
use Rattle.weld.specs.Raw.{Raw}
use Rattle.weld.specs.Welds.{vertex_at, placed, are_different, proper_of, numbers_of, IsWeldOf}
use Rattle.weld.proofs.NumberLemmas.{AreUsed, none_used, size_of_all, below_all, kept_all, placed_all, all_of_all, used_of_all}
use Rattle.weld.proofs.PlaceLemmas.{corners_distinct}

-- the first k triangles, without those of fewer places than three
abbrev pub proper_before : List Triple → List Tri → ℕ → List (Triple × Triple × Triple)
proper_before vertices triangles k = filter are_different (map (placed vertices) (take k triangles))

module _ (vertices : List Triple) (triangles : List Tri) (k : ℕ) (d : Tri) (less : k < length triangles) where
  abbrev here : Triple × Triple × Triple
  here = placed vertices (get_or triangles k d)

  proper_more : proper_before vertices triangles (k + 1) ≡ proper_before vertices triangles k ++ cond (are_different here) (here ∷ []) []
  proper_more =
      ap (λ (ts : List Tri). filter are_different (map (placed vertices) ts)) (take_more triangles k d less)
      ∙ ap (filter are_different) (map-append (placed vertices) (take k triangles) (get_or triangles k d ∷ []))
      ∙ filter-append are_different (map (placed vertices) (take k triangles)) (here ∷ [])

  pub proper_kept : are_different here ≡ true → proper_before vertices triangles (k + 1) ≡ proper_before vertices triangles k ++ here ∷ []
  proper_kept e = proper_more ∙ ap (λ b. proper_before vertices triangles k ++ cond b (here ∷ []) []) e

  pub proper_dropped : are_different here ≡ false → proper_before vertices triangles (k + 1) ≡ proper_before vertices triangles k
  proper_dropped e = proper_more ∙ ap (λ b. proper_before vertices triangles k ++ cond b (here ∷ []) []) e ∙ append-nil (proper_before vertices triangles k)

-- the places of the kept corners and the kept triangles, where the others of proper are gone through
pub record IsWelded (vertices : List Triple) (proper : List (Triple × Triple × Triple)) (places : List Triple) (triangles : List Tri) : Type 0 where
  pub given : All (Contains vertices) places
  pub few : length places ≤ 3 * length triangles
  pub same : map (placed places) triangles ≡ proper
  pub in_range : All (IsBelow (length places)) triangles
  pub numbered : AreUsed (numbers_of triangles) (length places)

pub none_welded : (vertices places : List Triple) (triangles : List Tri) → places ≡ [] → triangles ≡ [] → IsWelded vertices [] places triangles
none_welded vertices places triangles e f =
    subst (λ (ps : List Triple). IsWelded vertices [] ps triangles) (sym e) (subst (λ (ts : List Tri). IsWelded vertices [] [] ts) (sym f) none)
  where
    none : IsWelded vertices [] [] []
    none = record {
      given = All-nil (Contains vertices);
      few = omega arith;
      same = refl;
      in_range = All-nil (IsBelow 0);
      numbered = none_used;
    }

map_agree : {A B : Type 0} (f g : A → B) (xs : List A) → All (λ x. f x ≡ g x) xs → map f xs ≡ map g xs
map_agree f g [] h = refl
map_agree f g (x ∷ xs) h = λ i. h 0 x (omega arith) i ∷ map_agree f g xs (λ k d less. h (suc k) d (omega arith)) i

-- one more triangle
module _ (vertices : List Triple) (proper : List (Triple × Triple × Triple)) (old new : List Triple) (triangles : List Tri) (given t : Tri)
    (welded : IsWelded vertices proper old triangles) (within : IsBelow (length vertices) given) (numbers : NumbersAll old new (placed vertices given) t) where
  kept_placed : map (placed new) triangles ≡ map (placed old) triangles
  kept_placed = map_agree (placed new) (placed old) triangles (All-weaker (IsBelow (length old)) (λ u. placed new u ≡ placed old u) stays triangles welded.in_range)
    where
      none : Triple
      none = record { x = pos 0; y = pos 0; z = pos 0 }

      at : (i : ℕ) → i < length old → vertex_at new i ≡ vertex_at old i
      at i less = kept_all old new (placed vertices given) t numbers i _ less

      stays : (u : Tri) → IsBelow (length old) u → placed new u ≡ placed old u
      stays u below = λ i. (at u.a below.a i, at u.b below.b i, at u.c below.c i)

  one_more_welded : IsWelded vertices (proper ++ placed vertices given ∷ []) new (triangles ++ t ∷ [])
  one_more_welded =
      let size = size_of_all old new (placed vertices given) t numbers in
      record {
        given = all_of_all old new (placed vertices given) t numbers (Contains vertices) welded.given (Contains-get_or vertices given.a _ within.a) (Contains-get_or vertices given.b _ within.b) (Contains-get_or vertices given.c _ within.c);
        few = omega (arith, welded.few, length-append triangles (t ∷ []));
        same =
            map-append (placed new) triangles (t ∷ []) ∙ ap (λ ps. ps ++ placed new t ∷ []) (kept_placed ∙ welded.same)
            ∙ ap (λ p. proper ++ p ∷ []) (placed_all old new (placed vertices given) t numbers);
        in_range = All-push (IsBelow (length new)) triangles t (All-weaker (IsBelow (length old)) (IsBelow (length new)) (λ u below. record { a = omega (arith, below.a); b = omega (arith, below.b); c = omega (arith, below.c) }) triangles welded.in_range) (below_all old new (placed vertices given) t numbers);
        numbered = used_of_all old new (placed vertices given) t numbers triangles welded.numbered;
      }

-- the next triangle, of a part with these corners
module _ (corners : List Corner) (given : List Tri) (in_range : All (IsBelow (length corners)) given) (k : ℕ) (d : Tri) (less : k < length given) (old new : List Triple) (triangles after : List Tri)
    (welded : IsWelded (map of_corner corners) (proper_before (map of_corner corners) given k) old triangles) where
  abbrev vertices : List Triple
  vertices = map of_corner corners

  below : IsBelow (length vertices) (get_or given k d)
  below = let h = in_range k d less in record { a = omega (arith, h.a, length-map corners of_corner); b = omega (arith, h.b, length-map corners of_corner); c = omega (arith, h.c, length-map corners of_corner) }

  -- is kept
  pub kept_welded : (t : Tri) → are_different (placed vertices (get_or given k d)) ≡ true → NumbersAll old new (placed vertices (get_or given k d)) t → after ≡ triangles ++ t ∷ []
      → IsWelded vertices (proper_before vertices given (k + 1)) new after
  kept_welded t proper numbers added =
      let more = one_more_welded vertices (proper_before vertices given k) old new triangles (get_or given k d) t welded below numbers in
      subst (λ (ts : List Tri). IsWelded vertices (proper_before vertices given (k + 1)) new ts) (sym added)
      (subst (λ (ps : List (Triple × Triple × Triple)). IsWelded vertices ps new (triangles ++ t ∷ [])) (sym (proper_kept vertices given k d less proper)) more)

  -- or is dropped
  pub dropped_welded : are_different (placed vertices (get_or given k d)) ≡ false → IsWelded vertices (proper_before vertices given (k + 1)) old triangles
  dropped_welded flat = subst (λ (ps : List (Triple × Triple × Triple)). IsWelded vertices ps old triangles) (sym (proper_dropped vertices given k d less flat)) welded

-- what is left once all triangles are gone through
module _ (raw : Raw) (keys : List UnitPlace) (corners : List Corner) (triangles : List Tri) (k : ℕ) (all : k ≡ length raw.triangles) (tied : IsTied keys corners)
    (welded : IsWelded raw.vertices (proper_before raw.vertices raw.triangles k) (map of_corner corners) triangles) where
  all_proper : map (placed (map of_corner corners)) triangles ≡ proper_of raw
  all_proper = welded.same ∙ ap (λ (ts : List Tri). filter are_different (map (placed raw.vertices) ts)) (ap (λ n. take n raw.triangles) all ∙ take-length raw.triangles)

  pub is_weld : IsWeldOf raw corners triangles
  is_weld = record {
    in_range = subst (λ (n : ℕ). All (IsBelow n) triangles) (length-map corners of_corner) welded.in_range;
    proper = all_proper;
    distinct = corners_distinct keys corners tied;
    used = λ i h. welded.numbered.used i (omega (arith, length-map corners of_corner));
    in_order = welded.numbered.in_order;
  }

  pub nothing_left : length triangles ≡ 0 → proper_of raw ≡ []
  nothing_left none = sym all_proper ∙ ap (map (placed (map of_corner corners))) (empty triangles none)
    where
      empty : (ts : List Tri) → length ts ≡ 0 → ts ≡ []
      empty [] h = refl
      empty (t ∷ ts) h = absurd (omega arith)
