-- A raw part has a weld.
use Rattle.std.proofs.Common.{◌≡◌, ◌≢◌, ◌⊎◌, inl, inr, ℕ, zero, suc, ◌<◌, ◌^◌, pos, List, [], ◌∷◌, ◌++◌, All, length, map, get_or, Some, refl, sym, ap, subst, ◌∙◌, arith, append_assoc, append-nil, filter, cond, Bool, true, false}
use Rattle.std.proofs.lemmas.Bool.{cases_order}
use Rattle.std.proofs.lemmas.List.{length-append, length-map, map-append, get_or-map}
use Rattle.std.proofs.lemmas.List.Elements.{All-nil, All-cons, All-push, All-weaker}
use Rattle.std.proofs.lemmas.Option.{slice_get-get_or}
use Rattle.std.proofs.Math.ListN.{get_or-append}
use Rattle.std.proofs.Math.Seq.{get_or-append_seam}
use Rattle.lattice.specs.declared.points.Corner.{Corner}
use Rattle.lattice.specs.declared.soup.Tri.{Tri}
use Rattle.lattice.specs.Points.{of_corner}
use Rattle.lattice.specs.Triangles.{IsBelow}
use Rattle.lattice.specs.Triple.{Triple, IsWithin}
use Rattle.weld.specs.Raw.{Raw}
use Rattle.weld.specs.Welds.{vertex_at, placed, are_different, proper_of, numbers_of, IsWeldOf}
use Rattle.weld.specs.inner.Numbering.{Numbers, NumbersAll}
use Rattle.weld.proofs.NumberLemmas.{AreUsed, none_used, below_all, kept_all, placed_all, used_of_all, size_of_all}
use Rattle.answers_exist.proofs.Decided.{Decided, decided_as, decided_both, decided_same, IsFirstBelow, first_below}

-- ---- places
-- a corner can be there
abbrev pub IsCornerPlace : Triple → Type 0
IsCornerPlace p = IsWithin (2 ^ 20) p

-- the first place
abbrev none : Triple
none = record { x = pos 0; y = pos 0; z = pos 0 }

pub decided_place : (p q : Triple) → Decided (p ≡ q)
decided_place p q =
    decided_as ((λ (a, (b, c)). λ i. record { x = a i; y = b i; z = c i }), (λ e. (ap (λ (t : Triple). t.x) e, (ap (λ (t : Triple). t.y) e, ap (λ (t : Triple). t.z) e))))
    (decided_both (decided_same p.x q.x) (decided_both (decided_same p.y q.y) (decided_same p.z q.z)))

-- corners at these places
abbrev corner_at : (p : Triple) → IsCornerPlace p → Corner
corner_at p h = record { x = p.x; y = p.y; z = p.z; x_in_range = h.x; y_in_range = h.y; z_in_range = h.z }

pub corners_at : (ps : List Triple) → All IsCornerPlace ps → (corners : List Corner) × (map of_corner corners ≡ ps)
corners_at [] each = ([], refl)
corners_at (p ∷ ps) each =
    let others = corners_at ps (λ k d less. each (suc k) d (omega (arith, less))) in
    let first : IsCornerPlace p = each 0 p (omega arith) in
    (corner_at p first ∷ others.0, λ i. p ∷ others.1 i)

-- no two of the places are equal
abbrev AreApart : List Triple → Type 0
AreApart ps = (i j : ℕ) → i < j → j < length ps → vertex_at ps i ≢ vertex_at ps j

-- ---- one place more
record IsNumbered (old : List Triple) (p : Triple) (n : ℕ) (new : List Triple) : Type 0 where
  numbers : Numbers old new p n
  apart : AreApart new
  places : All IsCornerPlace new

module _ (ps : List Triple) (apart : AreApart ps) (places : All IsCornerPlace ps) (p : Triple) (here : IsCornerPlace p) where
  known : (i : ℕ) → i < length ps → vertex_at ps i ≡ p → IsNumbered ps p i ps
  known i less e = record { numbers = record { at = slice_get-get_or ps i none less ∙ ap Some e; grown = inl refl }; apart = apart; places = places }

  module _ (unknown : (i : ℕ) → i < length ps → vertex_at ps i ≢ p) where
    apart_more : AreApart (ps ++ p ∷ [])
    apart_more i j less within e = by (cases_order j (length ps))
      where
        by : (j ≡ length ps) ⊎ ((j < length ps) ⊎ (length ps < j)) → ⊥
        by (inl last) =
            let before : i < length ps = omega (arith, less, last) in
            let there : vertex_at (ps ++ p ∷ []) j ≡ p = ap (vertex_at (ps ++ p ∷ [])) last ∙ get_or-append_seam ps p [] none in
            unknown i before (sym (get_or-append ps (p ∷ []) none i before) ∙ e ∙ there)
        by (inr (inl front)) = apart i j less front (sym (get_or-append ps (p ∷ []) none i (omega (arith, less, front))) ∙ e ∙ get_or-append ps (p ∷ []) none j front)
        by (inr (inr past)) = absurd (omega (arith, past, within, length-append ps (p ∷ [])))

    new : IsNumbered ps p (length ps) (ps ++ p ∷ [])
    new =
        let long : length ps < length (ps ++ p ∷ []) = omega (arith, length-append ps (p ∷ [])) in
        record {
          numbers = record { at = slice_get-get_or (ps ++ p ∷ []) (length ps) none long ∙ ap Some (get_or-append_seam ps p [] none); grown = inr (refl, refl) };
          apart = apart_more;
          places = All-push IsCornerPlace ps p places here;
        }

  number : (n : ℕ) × (after : List Triple) × IsNumbered ps p n after
  number = by (first_below (λ i. vertex_at ps i ≡ p) (λ i. decided_place (vertex_at ps i) p) (length ps))
    where
      by : ((i : ℕ) × IsFirstBelow (λ i. vertex_at ps i ≡ p) (length ps) i) ⊎ ((i : ℕ) → i < length ps → vertex_at ps i ≢ p) → (n : ℕ) × (after : List Triple) × IsNumbered ps p n after
      by (inl (i, first)) = (i, ps, known i first.within first.holds)
      by (inr unknown) = (length ps, ps ++ p ∷ [], new unknown)

-- ---- one triangle more
abbrev Three : Type 0
Three = Triple × Triple × Triple

abbrev AreCornerPlaces : Three → Type 0
AreCornerPlaces t = IsCornerPlace t.0 × IsCornerPlace t.1 × IsCornerPlace t.2

record IsTriangle (old : List Triple) (t : Three) (tri : Tri) (after : List Triple) : Type 0 where
  numbers : NumbersAll old after t tri
  apart : AreApart after
  places : All IsCornerPlace after

triangle : (ps : List Triple) → AreApart ps → All IsCornerPlace ps → (t : Three) → AreCornerPlaces t → (tri : Tri) × (after : List Triple) × IsTriangle ps t tri after
triangle ps apart places t (a, b, c) =
    let (i, first, m) = number ps apart places t.0 a in
    let (j, second, n) = number first m.apart m.places t.1 b in
    let (k, third, o) = number second n.apart n.places t.2 c in
    (record { a = i; b = j; c = k }, third, record { numbers = record { first = first; second = second; a = m.numbers; b = n.numbers; c = o.numbers }; apart = o.apart; places = o.places })

-- the triangles stand for these of three different places, between places that are numbered in the order of their first use
record AreWelded (proper : List Three) (ps : List Triple) (triangles : List Tri) : Type 0 where
  apart : AreApart ps
  places : All IsCornerPlace ps
  same : map (placed ps) triangles ≡ proper
  in_range : All (IsBelow (length ps)) triangles
  numbered : AreUsed (numbers_of triangles) (length ps)

none_welded : AreWelded [] [] []
none_welded = record { apart = λ i j less within. absurd (omega (arith, within)); places = All-nil IsCornerPlace; same = refl; in_range = All-nil (IsBelow 0); numbered = none_used }

map_agree : {A B : Type 0} (f g : A → B) (xs : List A) → All (λ x. f x ≡ g x) xs → map f xs ≡ map g xs
map_agree f g [] h = refl
map_agree f g (x ∷ xs) h = λ i. h 0 x (omega arith) i ∷ map_agree f g xs (λ k d less. h (suc k) d (omega (arith, less))) i

module _ (proper : List Three) (old : List Triple) (triangles : List Tri) (t : Three) (tri : Tri) (after : List Triple) (welded : AreWelded proper old triangles) (more : IsTriangle old t tri after) where
  still_placed : map (placed after) triangles ≡ map (placed old) triangles
  still_placed = map_agree (placed after) (placed old) triangles (All-weaker (IsBelow (length old)) (λ u. placed after u ≡ placed old u) stays triangles welded.in_range)
    where
      at : (i : ℕ) → i < length old → vertex_at after i ≡ vertex_at old i
      at i less = kept_all old after t tri more.numbers i none less

      stays : (u : Tri) → IsBelow (length old) u → placed after u ≡ placed old u
      stays u below = λ i. (at u.a below.a i, at u.b below.b i, at u.c below.c i)

  still_below : (u : Tri) → IsBelow (length old) u → IsBelow (length after) u
  still_below u below =
      let long = (size_of_all old after t tri more.numbers).0 in
      record { a = omega (arith, below.a, long); b = omega (arith, below.b, long); c = omega (arith, below.c, long) }

  one_more : AreWelded (proper ++ t ∷ []) after (triangles ++ tri ∷ [])
  one_more = record {
    apart = more.apart;
    places = more.places;
    same =
        map-append (placed after) triangles (tri ∷ []) ∙ ap (λ (ts : List Three). ts ++ placed after tri ∷ []) (still_placed ∙ welded.same)
        ∙ ap (λ (u : Three). proper ++ u ∷ []) (placed_all old after t tri more.numbers);
    in_range = All-push (IsBelow (length after)) triangles tri (All-weaker (IsBelow (length old)) (IsBelow (length after)) still_below triangles welded.in_range) (below_all old after t tri more.numbers);
    numbered = used_of_all old after t tri more.numbers triangles welded.numbered;
  }

abbrev Welds : List Three → Type 0
Welds proper = (ps : List Triple) × (triangles : List Tri) × AreWelded proper ps triangles

-- some are welded, and the others come one after the other
welds_from : (done others : List Three) → Welds done → All AreCornerPlaces others → Welds (done ++ others)
welds_from done [] (ps, triangles, welded) each = subst Welds (sym (append-nil done)) (ps, triangles, welded)
welds_from done (t ∷ others) (ps, triangles, welded) each =
    let (tri, after, more) = triangle ps welded.apart welded.places t (each 0 t (omega arith)) in
    subst Welds (append_assoc done (t ∷ []) others)
    (welds_from (done ++ t ∷ []) others (after, triangles ++ tri ∷ [], one_more done ps triangles t tri after welded more) (λ k d less. each (suc k) d (omega (arith, less))))

-- ---- a raw part
module _ (raw : Raw) (ps : List Triple) (triangles : List Tri) (welded : AreWelded (proper_of raw) ps triangles) (corners : List Corner) (there : map of_corner corners ≡ ps) where
  many : length corners ≡ length ps
  many = sym (length-map corners of_corner) ∙ ap length there

  read : (i : ℕ) (d : Corner) → i < length corners → vertex_at ps i ≡ of_corner (get_or corners i d)
  read i d less = ap (λ (qs : List Triple). vertex_at qs i) (sym there) ∙ get_or-map of_corner corners i d none less

  is_weld : IsWeldOf raw corners triangles
  is_weld = record {
    in_range = subst (λ (n : ℕ). All (IsBelow n) triangles) (sym many) welded.in_range;
    proper = ap (λ (qs : List Triple). map (placed qs) triangles) there ∙ welded.same;
    distinct = λ i j d less within e. welded.apart i j less (omega (arith, within, many)) (read i d (omega (arith, less, within)) ∙ e ∙ sym (read j d within));
    used = λ i less. welded.numbered.used i (omega (arith, less, many));
    in_order = welded.numbered.in_order;
  }

module _ (vertices : List Triple) (each : All IsCornerPlace vertices) where
  vertex_place : (ps : List Triple) → All IsCornerPlace ps → (i : ℕ) → IsCornerPlace (vertex_at ps i)
  vertex_place [] h i = record { x = omega arith; y = omega arith; z = omega arith }
  vertex_place (p ∷ ps) h zero = h 0 p (omega arith)
  vertex_place (p ∷ ps) h (suc i) = vertex_place ps (λ k d less. h (suc k) d (omega (arith, less))) i

  kept_places : (b : Bool) (t : Three) (ts : List Three) → AreCornerPlaces t → All AreCornerPlaces ts → All AreCornerPlaces (cond b (t ∷ ts) ts)
  kept_places true t ts here others = All-cons AreCornerPlaces t ts here others
  kept_places false t ts here others = others

  proper_places : (triangles : List Tri) → All AreCornerPlaces (filter are_different (map (placed vertices) triangles))
  proper_places [] = All-nil AreCornerPlaces
  proper_places (t ∷ ts) =
      kept_places (are_different (placed vertices t)) (placed vertices t) (filter are_different (map (placed vertices) ts))
      (vertex_place vertices each t.a, vertex_place vertices each t.b, vertex_place vertices each t.c) (proper_places ts)

module _ (raw : Raw) (each : All IsCornerPlace raw.vertices) where
  -- a raw part has a weld
  pub some_weld : (corners : List Corner) × (triangles : List Tri) × IsWeldOf raw corners triangles
  some_weld =
      let (ps, triangles, welded) = welds_from [] (proper_of raw) ([], [], none_welded) (proper_places raw.vertices each raw.triangles) in
      let (corners, there) = corners_at ps welded.places in
      (corners, triangles, is_weld raw ps triangles welded corners there)

  -- and the weld has a triangle, or the part has no proper one
  pub some_soup : ((corners : List Corner) × (triangles : List Tri) × IsWeldOf raw corners triangles × (0 < length triangles)) ⊎ (proper_of raw ≡ [])
  some_soup = let (corners, triangles, weld) = some_weld in by corners triangles weld
    where
      by : (corners : List Corner) (triangles : List Tri) → IsWeldOf raw corners triangles
          → ((corners : List Corner) × (triangles : List Tri) × IsWeldOf raw corners triangles × (0 < length triangles)) ⊎ (proper_of raw ≡ [])
      by corners [] weld = inr (sym weld.proper)
      by corners (t ∷ ts) weld = inl (corners, t ∷ ts, weld, omega arith)
