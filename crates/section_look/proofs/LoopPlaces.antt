-- Loops by the places of their first segments.
use Rattle.std.proofs.Common.{◌≡◌, ℕ, zero, suc, ◌+◌, ◌-◌, ◌<◌, ◌≤◌, List, [], ◌∷◌, ◌++◌, length, take, drop, get_or, slice_index_or, sym, ap, ◌∙◌, refl, arith, append-nil, append_assoc, length-append}
use Rattle.std.proofs.lemmas.List.{take_more, take_all}
use Rattle.std.proofs.Math.Seq.{take-append_seam, drop-append-add}
use Rattle.cut_plane.specs.declared.segments.Segment.{Segment}
use Rattle.cut_plane.specs.Loops.{joined, places_from}
use Rattle.section_look.specs.Regions.{AreLoopsOf}

-- how many segments the first loops have
abbrev pub before : List (List Segment) → ℕ → ℕ
before lists k = length (joined (take k lists))

pub joined_more : (lists : List (List Segment)) (x : List Segment) → joined (lists ++ x ∷ []) ≡ joined lists ++ x
joined_more [] x = append-nil x
joined_more (w ∷ lists) x = ap (λ (ys : List Segment). w ++ ys) (joined_more lists x) ∙ sym (append_assoc w (joined lists) x)

pub places_length : (n : ℕ) (lists : List (List Segment)) → length (places_from n lists) ≡ length lists
places_length n [] = refl
places_length n (x ∷ lists) = ap (λ (i : ℕ). suc i) (places_length (n + length x) lists)

pub place_at : (lists : List (List Segment)) (n k d : ℕ) → k < length lists → get_or (places_from n lists) k d ≡ n + before lists k
place_at [] n k d less = absurd (omega arith)
place_at (x ∷ lists) n zero d less = omega arith
place_at (x ∷ lists) n (suc k) d less =
    let h = place_at lists (n + length x) k d (omega arith) in
    let e = length-append x (joined (take k lists)) in
    h ∙ (let g : n + length x + length (joined (take k lists)) ≡ n + length (x ++ joined (take k lists)) = omega (arith, e) in g)

-- the first loops and the next
pub before_more : (lists : List (List Segment)) (k : ℕ) → before lists k ≤ before lists (suc k)
before_more lists zero = omega arith
before_more [] (suc k) = omega arith
before_more (x ∷ lists) (suc k) =
    let h = before_more lists k in
    let e = length-append x (joined (take k lists)) in
    let f = length-append x (joined (take (suc k) lists)) in
    omega (arith, h, e, f)

pub before_all : (lists : List (List Segment)) (k : ℕ) → before lists k ≤ length (joined lists)
before_all lists zero = omega arith
before_all [] (suc k) = omega arith
before_all (x ∷ lists) (suc k) =
    let h = before_all lists k in
    let e = length-append x (joined (take k lists)) in
    let f = length-append x (joined lists) in
    omega (arith, h, e, f)

-- where a loop ends
pub end_at : (lists : List (List Segment)) (n k d : ℕ) → d ≡ n + length (joined lists) → k ≤ length lists → get_or (places_from n lists) k d ≡ n + before lists k
end_at [] n zero d e within = e
end_at [] n (suc k) d e within = absurd (omega arith)
end_at (x ∷ lists) n zero d e within = omega arith
end_at (x ∷ lists) n (suc k) d e within =
    let f = length-append x (joined lists) in
    let g = length-append x (joined (take k lists)) in
    let h = end_at lists (n + length x) k d (omega (arith, e, f)) (omega arith) in
    h ∙ (let i : n + length x + length (joined (take k lists)) ≡ n + length (x ++ joined (take k lists)) = omega (arith, g) in i)

-- the segments from where a loop begins to where it ends
pub loop_between : (lists : List (List Segment)) (k : ℕ) (d : List Segment) → k < length lists → take (before lists (suc k) - before lists k) (drop (before lists k) (joined lists)) ≡ get_or lists k d
loop_between [] k d less = absurd (omega arith)
loop_between (x ∷ lists) zero d less =
    let e = length-append x [] in
    let g : length (x ++ []) - 0 ≡ length x = omega (arith, e) in
    ap (λ (n : ℕ). take n (x ++ joined lists)) g ∙ take-append_seam x (joined lists)
loop_between (x ∷ lists) (suc k) d less =
    let e = length-append x (joined (take k lists)) in
    let f = length-append x (joined (take (suc k) lists)) in
    let g : length (x ++ joined (take (suc k) lists)) - length (x ++ joined (take k lists)) ≡ before lists (suc k) - before lists k = omega (arith, e, f) in
    (λ i. take (g i) (drop (e i) (x ++ joined lists)))
    ∙ ap (λ (ys : List Segment). take (before lists (suc k) - before lists k) ys) (drop-append-add x (joined lists) (before lists k))
    ∙ loop_between lists k d (omega arith)

-- the first loops of a section are taken
pub record AreTaken (segments : List Segment) (places : List ℕ) (k : ℕ) (loops : List (List Segment)) : Type 0 where
  pub lists : List (List Segment)
  pub together : segments ≡ joined lists
  pub begin : places ≡ places_from 0 lists
  pub taken : loops ≡ take k lists

-- where the loop with this number begins and ends among the segments
pub record AreEnds (segments : List Segment) (places : List ℕ) (k from to : ℕ) : Type 0 where
  pub ordered : from ≤ to
  pub within : to ≤ length segments

module _ (segments : List Segment) (places : List ℕ) (k : ℕ) (loops : List (List Segment)) (h : AreTaken segments places k loops) (less : k < length places) (from to : ℕ)
    (from_is : from ≡ get_or places k 0) (to_is : to ≡ slice_index_or places (k + 1) (length segments)) where
  within : k < length h.lists
  within = let e = places_length 0 h.lists in let f : length places ≡ length (places_from 0 h.lists) = ap (λ (xs : List ℕ). length xs) h.begin in omega (arith, e, f, less)

  from_before : from ≡ before h.lists k
  from_before = from_is ∙ ap (λ (xs : List ℕ). get_or xs k 0) h.begin ∙ place_at h.lists 0 k 0 within ∙ (let e : 0 + before h.lists k ≡ before h.lists k = omega arith in e)

  to_before : to ≡ before h.lists (suc k)
  to_before =
      to_is ∙ (λ i. get_or (h.begin i) (k + 1) (length (h.together i))) ∙ ap (λ (j : ℕ). get_or (places_from 0 h.lists) j (length (joined h.lists))) (let e : k + 1 ≡ suc k = omega arith in e)
      ∙ end_at h.lists 0 (suc k) (length (joined h.lists)) (omega arith) (let w = within in omega (arith, w)) ∙ (let e : 0 + before h.lists (suc k) ≡ before h.lists (suc k) = omega arith in e)

  pub ends : AreEnds segments places k from to
  ends =
      let m = before_more h.lists k in
      let n = before_all h.lists (suc k) in
      let t : length segments ≡ length (joined h.lists) = ap (λ (xs : List Segment). length xs) h.together in
      let f = from_before in
      let g = to_before in
      record { ordered = omega (arith, m, f, g); within = omega (arith, n, t, g) }

  -- with the loop that is there
  pub one_taken : (loop : List Segment) → loop ≡ take (to - from) (drop from segments) → AreTaken segments places (k + 1) (loops ++ loop ∷ [])
  one_taken loop is = record {
    lists = h.lists;
    together = h.together;
    begin = h.begin;
    taken =
        (λ i. h.taken i ++ here i ∷ []) ∙ sym (take_more h.lists k loop within);
  }
    where
      here : loop ≡ get_or h.lists k loop
      here = is ∙ (λ i. take (to_before i - from_before i) (drop (from_before i) (h.together i))) ∙ loop_between h.lists k loop within

-- all are taken
pub all_taken : (segments : List Segment) (places : List ℕ) (k : ℕ) (loops : List (List Segment)) → AreTaken segments places k loops → length places ≤ k → AreLoopsOf segments places loops
all_taken segments places k loops h all = record { together = h.together ∙ ap (λ (xs : List (List Segment)). joined xs) same; begin = h.begin ∙ ap (λ (xs : List (List Segment)). places_from 0 xs) same }
  where
    same : h.lists ≡ loops
    same =
        let e = places_length 0 h.lists in
        let f : length places ≡ length (places_from 0 h.lists) = ap (λ (xs : List ℕ). length xs) h.begin in
        sym (h.taken ∙ take_all k h.lists (omega (arith, e, f, all)))
