-- The bound of a view is one number, below 2 ^ 48.
use Rattle.std.proofs.Common.{◌≡◌, ◌≢◌, inl, inr, ℕ, suc, ◌+◌, ◌*◌, ◌/◌, ◌%◌, ◌<◌, ◌≤◌, ◌^◌, List, [], ◌∷◌, All, AllPairs, length, get_or, refl, sym, subst, ap, ◌∙◌, arith}
use Rattle.std.specs.Prelude.{sum}
use Rattle.std.specs.List.{AllZip}
use Rattle.std.specs.List.Sorted.{IsStrictlyIncreasing}
use Rattle.std.proofs.Math.Nat.{mul-le-mul}
use Rattle.std.proofs.lemmas.List.Elements.{All-nil, All-cons, All-weaker, Contains-get_or}
use Rattle.std.proofs.lemmas.List.Kept.{AllPairs-from_increasing}
use Rattle.std.proofs.lemmas.List.Sums.{sum_by-cons}
use Rattle.std.proofs.lemmas.Option.{same_Some, slice_get_within}
use Rattle.lattice.specs.declared.soup.Tri.{Tri}
use Rattle.geometry.specs.Parts.{Part, Edge, IsHalf, IsNumbered, start_of, end_of}
use Rattle.geometry.specs.Runs.{CountUpFrom}
use Rattle.geometry.proofs.Listed.{same_element}
use Rattle.solid_mesh.specs.Solids.{AreTrianglesAt}
use Rattle.edge_pick.specs.declared.Picked.{Picked}
use Rattle.cross_find.specs.Sights.{SightState, IsSeen}
use Rattle.span_count.specs.Bounds.{IsRunCount, IsEndCount, IsBound}
use Rattle.span_count.specs.Finders.{IsPickedIn}
use Rattle.edge_pick.proofs.Lists.{few_rising, few_of}
use Rattle.span_count.proofs.Lists.{zip_one}
use Rattle.span_count.proofs.Listings.{few_outlines, few_drawn}

-- ---- the corners of an edge, by its number
module _ (s : Part) where
  ends_of_half : (half m n k l : ℕ) → IsHalf s half m n → IsHalf s half k l → (m ≡ k) × (n ≡ l)
  ends_of_half half m n k l h g =
      let tri = same_element s.triangles (half / 3) (half / 3) h.tri g.tri refl h.at g.at in
      (sym h.start ∙ ap (λ (t : Tri). start_of t (half % 3)) tri ∙ g.start, sym h.end ∙ ap (λ (t : Tri). end_of t (half % 3)) tri ∙ g.end)

  pub same_ends : (halves : List ℕ) (i : ℕ) (e f : Edge s) → IsNumbered halves i e → IsNumbered halves i f → (e.m ≡ f.m) × (e.n ≡ f.n)
  same_ends halves i e f p q = ends_of_half f.half e.m e.n f.m f.n (subst (λ half. IsHalf s half e.m e.n) (same_Some e.half f.half (sym p ∙ q)) e.goes) f.goes

  -- ---- the triangles at a corner
  differ : (x y : ℕ) → x < y → x ≡ y → ⊥
  differ x y h e = omega arith

  apart : (xs : List ℕ) → IsStrictlyIncreasing xs → AllPairs ◌≢◌ xs
  apart xs up = λ i j d h l. differ _ _ (AllPairs-from_increasing xs up i j d h l)

  not_more : (corner : ℕ) (xs ys : List ℕ) → AreTrianglesAt s corner xs → AreTrianglesAt s corner ys → length xs ≤ length ys
  not_more corner xs ys p q = few_of xs ys (apart xs p.ascending) (λ k d h. (q.exactly (get_or xs k d)).1 ((p.exactly (get_or xs k d)).0 (Contains-get_or xs k d h)))

  few_at : (corner : ℕ) (xs : List ℕ) → AreTrianglesAt s corner xs → length xs ≤ length s.triangles
  few_at corner xs p = few_rising xs (length s.triangles) p.ascending (λ k d h.
      let (t, at, of) = (p.exactly (get_or xs k d)).0 (Contains-get_or xs k d h) in
      slice_get_within s.triangles (get_or xs k d) t at)

  module _ (halves : List ℕ) where
    end_most : (number c d : ℕ) → IsEndCount s halves number c → IsEndCount s halves number d → c ≤ d
    end_most number c d p q =
        let same = same_ends halves number p.edge q.edge p.numbered q.numbered in
        let first = not_more q.edge.m p.at_first q.at_first (subst (λ (corner : ℕ). AreTrianglesAt s corner p.at_first) same.0 p.first) q.first in
        let second = not_more q.edge.n p.at_second q.at_second (subst (λ (corner : ℕ). AreTrianglesAt s corner p.at_second) same.1 p.second) q.second in
        omega (arith, p.count_is, q.count_is)

    pub end_one : (number c d : ℕ) → IsEndCount s halves number c → IsEndCount s halves number d → c ≡ d
    end_one number c d p q = let most = end_most number c d p q in let least = end_most number d c q p in omega arith

    end_few : (number c : ℕ) → IsEndCount s halves number c → c ≤ 2 * length s.triangles
    end_few number c p = omega (arith, p.count_is, few_at p.edge.m p.at_first p.first, few_at p.edge.n p.at_second p.second)

    ends_few : (numbers ends : List ℕ) → AllZip (IsEndCount s halves) numbers ends → sum ends ≤ length numbers * (2 * length s.triangles)
    ends_few [] [] h = omega arith
    ends_few [] (y ∷ ys) h = absurd h
    ends_few (x ∷ xs) [] h = absurd h
    ends_few (x ∷ xs) (y ∷ ys) h = more y (sum ys) (length xs) (2 * length s.triangles) (sum (y ∷ ys)) (sum_by-cons (λ (n : ℕ). n) y ys) (end_few x y h.0) (ends_few xs ys h.1)
      where
        more : (y r n t all : ℕ) → all ≡ y + r → y ≤ t → r ≤ n * t → all ≤ suc n * t
        more y r n t all e p q = omega arith

    -- ---- the bound
    module _ (p : Picked) where
      runs_most : (b c : ℕ) → IsRunCount p.runs.items b → IsRunCount p.runs.items c → b ≤ c
      runs_most b c x y = x.least c y.above

      runs_one : (b c : ℕ) → IsRunCount p.runs.items b → IsRunCount p.runs.items c → b ≡ c
      runs_one b c x y = let most = runs_most b c x y in let least = runs_most c b y x in omega arith

      pub bound_one : (b c : ℕ) → IsBound s halves p b → IsBound s halves p c → b ≡ c
      bound_one b c x y =
          let ends = zip_one (IsEndCount s halves) end_one p.drawn.items x.ends y.ends x.are_ends y.are_ends in
          x.bound_is ∙ ap (λ (r : ℕ). r * length s.triangles + 3 * length p.drawn.items * length p.outlines.items + sum x.ends) (runs_one x.runs y.runs x.are_runs y.are_runs)
          ∙ ap (λ (es : List ℕ). y.runs * length s.triangles + 3 * length p.drawn.items * length p.outlines.items + sum es) ends ∙ sym y.bound_is

-- ---- the bound is small
up_to : (next : ℕ) (runs : List ℕ) → CountUpFrom next runs → All (λ run. run < next + length runs) runs
up_to next [] h = All-nil (λ run. run < next + 0)
up_to next (r ∷ rs) (inl (less, rest)) =
    All-cons (λ run. run < next + suc (length rs)) r rs (omega arith) (All-weaker (λ run. run < next + length rs) (λ run. run < next + suc (length rs)) (λ run h. omega arith) rs (up_to next rs rest))
up_to next (r ∷ rs) (inr (same, rest)) =
    All-cons (λ run. run < next + suc (length rs)) r rs (omega arith)
    (All-weaker (λ run. run < (next + 1) + length rs) (λ run. run < next + suc (length rs)) (λ run h. omega arith) rs (up_to (next + 1) rs rest))

total_small : (r t d o e b : ℕ) → r ≤ 60000 → t ≤ 20000 → d ≤ 60000 → o ≤ 60000 → e ≤ d * (2 * t) → b ≡ r * t + 3 * d * o + e → b < 2 ^ 48
total_small r t d o e b few_runs few few_drawn few_outlines ends is =
    let first : r * t ≤ 60000 * 20000 = mul-le-mul few_runs few in
    let second : d * o ≤ 60000 * 60000 = mul-le-mul few_drawn few_outlines in
    let third : d * t ≤ 60000 * 20000 = mul-le-mul few_drawn few in
    omega arith

pub bound_small : (x : SightState) → IsSeen x → (p : Picked) → IsPickedIn x p → (bound : ℕ) → IsBound x.part x.halves p bound → bound < 2 ^ 48
bound_small x seen p picked bound b =
    total_small b.runs (length x.part.triangles) (length p.drawn.items) (length p.outlines.items) (sum b.ends) bound
    (omega (arith, b.are_runs.least (0 + length p.runs.items) (up_to 0 p.runs.items picked.1.runs.numbered), picked.1.runs.each, few_drawn x seen p picked))
    seen.few_triangles (few_drawn x seen p picked) (few_outlines x seen p picked) (ends_few x.part x.halves p.drawn.items b.ends b.are_ends) b.bound_is
