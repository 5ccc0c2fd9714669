-- The triangles at a corner are one list, and the corner at an end of an edge is one.
use Rattle.std.proofs.Common.{◌≡◌, ℕ, zero, suc, ◌+◌, ◌<◌, ◌≤◌, ◌/◌, ◌%◌, Bool, true, false, not, List, [], ◌∷◌, AllPairs, Contains, length, get_or, refl, sym, subst, ap, ◌∙◌, arith}
use Rattle.std.proofs.lemmas.List.Kept.{AllPairs-from_increasing}
use Rattle.std.proofs.lemmas.List.Elements.{Contains-get_or}
use Rattle.std.proofs.lemmas.Option.{slice_get_within}
use Rattle.geometry.specs.Parts.{Part, Edge, IsNumbered, IsHalf, start_of, end_of}
use Rattle.geometry.proofs.Listed.{same_element}
use Rattle.lattice.specs.declared.soup.Tri.{Tri}
use Rattle.geometry.specs.Turns.{number_at}
use Rattle.solid_mesh.specs.Solids.{AreTrianglesAt}
use Rattle.solid_mesh.specs.Stars.{first_at}
use Rattle.solid_mesh.proofs.StarLemmas.{triangles_at}
use Rattle.hiding_laws.proofs.EdgeNumbers.{half_of, half_at_number, half_of_within}
use Rattle.hiding_laws.proofs.HalfFaces.{edge_of}
use Rattle.cross_find.specs.Sights.{SightState, IsSeen}
use Rattle.span_count.specs.Bounds.{IsEndCount}
use Rattle.span_count.specs.inner.Rests.{IsCornerCount}
use Rattle.edge_pick.proofs.Lists.{few_rising}

-- ---- one list
-- later numbers are greater
abbrev Rises : List ℕ → Type 0
Rises xs = AllPairs (λ (x y : ℕ). x < y) xs

rises_tail : (x : ℕ) (xs : List ℕ) → Rises (x ∷ xs) → Rises xs
rises_tail x xs up i j d h l = up (suc i) (suc j) d (omega arith) (omega arith)

above_head : (x : ℕ) (xs : List ℕ) → Rises (x ∷ xs) → (z : ℕ) → Contains xs z → x < z
above_head x xs up z (k, within, is) = subst (λ (y : ℕ). x < y) is (up 0 (suc k) z (omega arith) (omega arith))

in_tail : (x : ℕ) (xs : List ℕ) (z : ℕ) → Contains xs z → Contains (x ∷ xs) z
in_tail x xs z (k, within, is) = (suc k, omega arith, is)

out_of_head : (x : ℕ) (xs : List ℕ) (z : ℕ) → Contains (x ∷ xs) z → x < z → Contains xs z
out_of_head x xs z (zero, within, is) less = absurd (omega arith)
out_of_head x xs z (suc k, within, is) less = (k, omega arith, is)

at_least_head : (x : ℕ) (xs : List ℕ) → Rises (x ∷ xs) → (z : ℕ) → Contains (x ∷ xs) z → x ≤ z
at_least_head x xs up z (zero, within, is) = omega arith
at_least_head x xs up z (suc k, within, is) = let h = above_head x xs up z (k, omega arith, is) in omega arith

-- two lists whose numbers rise and are the same
same_rising : (xs ys : List ℕ) → Rises xs → Rises ys → ((z : ℕ) → Contains xs z → Contains ys z) → ((z : ℕ) → Contains ys z → Contains xs z) → xs ≡ ys
same_rising [] [] up up' f g = refl
same_rising [] (y ∷ ys) up up' f g = let h = g y (0, omega arith, refl) in absurd (omega (arith, h.1))
same_rising (x ∷ xs) [] up up' f g = let h = f x (0, omega arith, refl) in absurd (omega (arith, h.1))
same_rising (x ∷ xs) (y ∷ ys) up up' f g =
    let p : y ≤ x = at_least_head y ys up' x (f x (0, omega arith, refl)) in
    let q : x ≤ y = at_least_head x xs up y (g y (0, omega arith, refl)) in
    let same : x ≡ y = omega arith in
    let rest : xs ≡ ys = same_rising xs ys (rises_tail x xs up) (rises_tail y ys up')
    (λ z c. let h = above_head x xs up z c in out_of_head y ys z (f z (in_tail x xs z c)) (omega arith))
    (λ z c. let h = above_head y ys up' z c in out_of_head x xs z (g z (in_tail y ys z c)) (omega arith)) in
    ap (λ (z : ℕ). z ∷ xs) same ∙ ap (λ (zs : List ℕ). y ∷ zs) rest

module _ (s : Part) (corner : ℕ) where
  pub one_star : (xs ys : List ℕ) → AreTrianglesAt s corner xs → AreTrianglesAt s corner ys → xs ≡ ys
  one_star xs ys h g = same_rising xs ys (AllPairs-from_increasing xs h.ascending) (AllPairs-from_increasing ys g.ascending)
      (λ z c. (g.exactly z).1 ((h.exactly z).0 c)) (λ z c. (h.exactly z).1 ((g.exactly z).0 c))

  -- its triangles are triangles of the part
  pub star_within : (xs : List ℕ) → AreTrianglesAt s corner xs → (k : ℕ) (d : ℕ) → k < length xs → get_or xs k d < length s.triangles
  star_within xs h k d within =
      let (t, at, is) = (h.exactly (get_or xs k d)).0 (Contains-get_or xs k d within) in
      slice_get_within s.triangles (get_or xs k d) t at

  pub star_few : (xs : List ℕ) → AreTrianglesAt s corner xs → length xs ≤ length s.triangles
  star_few xs h = few_rising xs (length s.triangles) h.ascending (λ k d within. star_within xs h k d within)

-- ---- the corner at an end
-- there is an edge with each number
pub edge_at : (x : SightState) → IsSeen x → (i : ℕ) → i < length x.halves → (o : Edge x.part) × IsNumbered x.halves i o
edge_at x seen i within =
    (edge_of x.direction seen.directed x.part seen.sound seen.within (half_of x.halves i) (half_of_within x.part seen.sound.closed x.halves seen.edges i within), half_at_number x.part seen.sound.closed x.halves seen.edges i within)

pub corner_within : (x : SightState) (e : Edge x.part) (at_b : Bool) → number_at e at_b < length x.part.corners
corner_within x e false = slice_get_within x.part.corners e.m e.a e.at_m
corner_within x e true = slice_get_within x.part.corners e.n e.b e.at_n

-- edges with one number have the same corners
module _ {s : Part} (halves : List ℕ) (i : ℕ) (e f : Edge s) (e_at : IsNumbered halves i e) (f_at : IsNumbered halves i f) where
  same_half : e.half ≡ f.half
  same_half = same_element halves i i e.half f.half refl e_at f_at

  goes_too : IsHalf s e.half f.m f.n
  goes_too = subst (λ (h : ℕ). IsHalf s h f.m f.n) (sym same_half) f.goes

  pub same_number : (at_b : Bool) → number_at e at_b ≡ number_at f at_b
  same_number at_b =
      let g = goes_too in
      let tri : e.goes.tri ≡ g.tri = same_element s.triangles (e.half / 3) (e.half / 3) e.goes.tri g.tri refl e.goes.at g.at in
      both at_b (sym e.goes.start ∙ ap (λ (t : Tri). start_of t (e.half % 3)) tri ∙ g.start) (sym e.goes.end ∙ ap (λ (t : Tri). end_of t (e.half % 3)) tri ∙ g.end)
    where
      both : (b : Bool) → e.m ≡ f.m → e.n ≡ f.n → number_at e b ≡ number_at f b
      both false p q = p
      both true p q = q

-- ---- how many triangles are there
module _ (x : SightState) (edge : ℕ) where
  pub corner_count : IsSeen x → edge < length x.halves → (at_b : Bool) → (n : ℕ) × IsCornerCount x edge at_b n
  corner_count seen within at_b =
      let (e, at) = edge_at x seen edge within in
      let star = first_at x.part.triangles (length x.part.triangles) (number_at e at_b) in
      (length star, record { of = e; numbered = at; star = star; at_corner = triangles_at x.part (number_at e at_b); all = refl })

  -- it is one number
  pub corner_count_one : (at_b : Bool) (n : ℕ) (e : Edge x.part) → IsNumbered x.halves edge e → (star : List ℕ) → AreTrianglesAt x.part (number_at e at_b) star → IsCornerCount x edge at_b n → n ≡ length star
  corner_count_one at_b n e at star there h =
      h.all ∙ ap (λ (xs : List ℕ). length xs) (one_star x.part (number_at e at_b) h.star star
      (subst (λ (c : ℕ). AreTrianglesAt x.part c h.star) (same_number x.halves edge h.of e h.numbered at at_b) h.at_corner) there)

  -- both ends
  pub end_count : (at_b : Bool) (m n : ℕ) → IsCornerCount x edge at_b m → IsCornerCount x edge (not at_b) n → IsEndCount x.part x.halves edge (m + n)
  end_count false m n h g = record {
    edge = h.of;
    numbered = h.numbered;
    at_first = h.star;
    at_second = g.star;
    first = h.at_corner;
    second = subst (λ (c : ℕ). AreTrianglesAt x.part c g.star) (same_number x.halves edge g.of h.of g.numbered h.numbered true) g.at_corner;
    count_is = let p = h.all in let q = g.all in omega arith;
  }
  end_count true m n h g = record {
    edge = h.of;
    numbered = h.numbered;
    at_first = g.star;
    at_second = h.star;
    first = subst (λ (c : ℕ). AreTrianglesAt x.part c g.star) (same_number x.halves edge g.of h.of g.numbered h.numbered false) g.at_corner;
    second = h.at_corner;
    count_is = let p = h.all in let q = g.all in omega arith;
  }

  pub corner_counts : (ends : ℕ) → IsEndCount x.part x.halves edge ends → (at_b : Bool) → (m n : ℕ) × IsCornerCount x edge at_b m × IsCornerCount x edge (not at_b) n × (ends ≡ m + n)
  corner_counts ends h false = (
    length h.at_first,
    length h.at_second,
    record { of = h.edge; numbered = h.numbered; star = h.at_first; at_corner = h.first; all = refl },
    record { of = h.edge; numbered = h.numbered; star = h.at_second; at_corner = h.second; all = refl },
    h.count_is,
  )
  corner_counts ends h true = (
    length h.at_second,
    length h.at_first,
    record { of = h.edge; numbered = h.numbered; star = h.at_second; at_corner = h.second; all = refl },
    record { of = h.edge; numbered = h.numbered; star = h.at_first; at_corner = h.first; all = refl },
    (let e = h.count_is in omega arith),
  )
