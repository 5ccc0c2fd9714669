-- The counts at a place, by a walk from an edge's second end: what is counted there, without all that changes along the edge, and with what changes before the place.
use Rattle.std.proofs.Common.{◌≡◌, ◌≢◌, ◌⊎◌, inl, inr, zero, suc, ◌<◌, ◌++◌, Bool, true, false, List, [], ◌∷◌, Contains, cond, length, sum, refl, sym, subst, ◌∙◌, arith}
use Rattle.std.specs.Prelude.{ℤ, pos, ◌+ℤ◌, ◌-ℤ◌, ◌*ℤ◌, ◌<ℤ◌}
use Rattle.std.specs.List.{AllZip}
use Rattle.std.proofs.lemmas.Int.{ints}
use Rattle.std.proofs.lemmas.List.Elements.{All-contains}
use Rattle.integers.proofs.Comparisons.{positive_of_more}
use Rattle.integers.proofs.Lists.{Contains-later, some_element}
use Rattle.lattice.specs.Cuts.{Plane}
use Rattle.geometry.specs.Parts.{Part, Face, Edge}
use Rattle.geometry.proofs.Listed.{face_at}
use Rattle.geometry.specs.Counts.{Side, to_left, to_right}
use Rattle.hiding_laws.specs.Sums.{total}
use Rattle.hiding_laws.proofs.SumsBelow.{keep}
use Rattle.cut_plane.proofs.FoundCrossings.{crosses_same}
use Rattle.cut_plane.proofs.Xors.{xor, odd_in}
use Rattle.span_count.specs.Carries.{change_before}
use Rattle.span_count.proofs.Sums.{of_option, total_append}
use Rattle.cut_count_laws.proofs.CutLaws.{border_behind}
use Rattle.cut_count_laws.proofs.CutWalks.{IsFoundBorder}
use Rattle.cut_count_laws.proofs.CutWalks.IsFoundBorder.{turns_mark, keeps_mark}
use Rattle.cut_count_laws.proofs.Laws.{HasCornersInRange, IsValid}
use Rattle.cut_count_laws.proofs.SectionSums.{worth, both}
use Rattle.cut_count_laws.proofs.TurnedWalks.{count_walked_back}
use Rattle.cut_count.specs.declared.found.CrossingBorder.{CrossingBorder}
use Rattle.cut_count.specs.inner.Walks.{odd_turns, turn_left, turn_right}
use Rattle.cut_count.proofs.AfterSums.{is_after, section_total}
use Rattle.cut_count.proofs.BehindEnds.{odd_behind}
use Rattle.cut_count.proofs.FoundBorders.{AreNumbered, numbered, listed_after}
use Rattle.cut_count.proofs.OutlinesAfter.{change_after, each_outline_after, all_change_after, outlines_split}
use Rattle.cut_count.proofs.WalkLaws.{share_to, turns_to, change_to, odd_to, WalkedBackLaw}

-- what belongs to an element of the second list
zip_at : {A B : Type 0} (R : A → B → Type 0) (xs : List A) (ys : List B) → AllZip R xs ys → (y : B) → Contains ys y → (x : A) × Contains xs x × R x y
zip_at R [] [] h y (i, less, is) = absurd (omega (arith, less))
zip_at R [] (z ∷ ys) h y there = absurd h
zip_at R (x ∷ xs) [] h y there = absurd h
zip_at R (x ∷ xs) (z ∷ ys) h y (zero, less, is) = (x, (0, omega arith, refl), subst (R x) is h.0)
zip_at R (x ∷ xs) (z ∷ ys) h y (suc i, less, is) =
    let (w, there, r) = zip_at R xs ys h.1 y (i, omega arith, is) in
    (w, Contains-later x xs w there, r)

first_is : (k : Side) (left right : Bool) (found : List CrossingBorder)
    → odd_to k (xor left (odd_turns turn_left found)) (xor right (odd_turns turn_right found)) ≡ xor (odd_to k left right) (odd_turns (turns_to k) found)
first_is to_left left right found = refl
first_is to_right left right found = refl

worth_is : (b : Bool) → worth b ≡ cond b (pos 1) (pos 0)
worth_is true = refl
worth_is false = refl

module _ (c : Plane) (s : Part) (in_range : HasCornersInRange s) (e : Edge s) (n m : ℤ) (valid : IsValid c e n m) (k : Side) (found : List CrossingBorder) (all : AreNumbered k c e found) where
  -- a border that changes something is not at the place, since none is on its line of sight
  apart_of : (f : Face s) (x : CrossingBorder) (turns : Bool) (own : ℤ) → IsFoundBorder k c e f x.at turns own → ((own ≡ pos 0) × (turns ≡ false)) ⊎ (x.at.num *ℤ m ≢ n *ℤ x.at.den)
  apart_of f x true own (turns_mark change has some after before crosses) = inr (λ same. valid.free (f, (crosses_same c f e x.at.num x.at.den n m x.at.positive same crosses).passes))
  apart_of f x false own (keeps_mark has) = inl (refl, refl)

  borders_apart : (x : CrossingBorder) → Contains found x → (((share_to k x).own ≡ pos 0) × (turns_to k x ≡ false)) ⊎ (x.at.num *ℤ m ≢ n *ℤ x.at.den)
  borders_apart x there =
      let (i, listed, told) = zip_at (λ i x. (f : Face s) → f.number ≡ i → IsFoundBorder k c e f x.at (turns_to k x) (share_to k x).own) all.triangles found all.each x there in
      let (t, at) = some_element s.triangles i (All-contains (λ i. i < length s.triangles) all.triangles i all.within listed) in
      let f = face_at s in_range t i at in
      apart_of f x (turns_to k x) (share_to k x).own (told f refl)

pub walked_back : WalkedBackLaw
walked_back c s sound in_range halves edge e part segments left right found section outlines walked finish k odd_is near (covers, next, near_is) n m valid all are =
    count_walked_back c s sound in_range k e.a e finish n m valid walked.across
    (each_outline_after c s sound in_range halves walked.edges edge e walked.numbered walked.numbers walked.are_listed outlines walked.by_outlines n m valid)
    (of_option (change_after k c e n m there)) walked.by_outlines.answers
    (all_change_after c s sound in_range halves walked.edges edge e walked.numbered walked.numbers walked.are_listed outlines walked.by_outlines n m valid k)
    borders.triangles borders.within borders.once (λ f between. listed_after k c e found borders f n m valid.after valid.before valid.beyond finish between)
    (λ (x : CrossingBorder). x.at) (turns_to k) (λ (x : CrossingBorder). (share_to k x).own) found borders.each covers next all are
    ∙ (λ i. (((pos (sum covers) +ℤ worth (finish_is i)) -ℤ total (of_option (change_after k c e n m there)) walked.by_outlines.answers) -ℤ total (λ x. keep (is_after n m x.at) (share_to k x).own) found)
    +ℤ (worth (xor (finish_is i) turned_after) -ℤ worth (finish_is i)))
    ∙ together near (pos (sum covers)) (worth odd) (cond odd (pos 1) (pos 0)) (worth (xor odd turned_after))
    (total (of_option (change_after k c e n m there)) walked.by_outlines.answers) (total (λ x. keep (is_after n m x.at) (share_to k x).own) found)
    (total (change_to k) section) (total (change_to k) outlines) (total (change_to k) (section ++ outlines))
    (total (change_before (change_to k) n m) section) (total (change_before (change_to k) n m) outlines) (total (change_before (change_to k) n m) (section ++ outlines))
    near_is (worth_is odd)
    (section_total k n m there _ _ odd found section walked.sorted walked.by_section (first_is k left right found) (borders_apart c s in_range e n m valid k found borders))
    (outlines_split c s sound in_range halves walked.edges edge e walked.numbered walked.numbers walked.are_listed outlines walked.by_outlines n m valid k)
    (total_append (change_to k) section outlines) (total_append (change_before (change_to k) n m) section outlines)
  where
    there : pos 0 <ℤ m
    there = positive_of_more n m valid.after valid.before

    odd : Bool
    odd = odd_to k left right

    borders : AreNumbered k c e found
    borders = numbered k c e part walked.beyond segments walked.starts walked.borders walked.listed walked.are_found found walked.same

    turned_after : Bool
    turned_after = odd_in (λ x. both (is_after n m x.at) (turns_to k x)) found

    finish_is : odd_in (border_behind k c s e.a e (pos 1) (pos 1)) s.triangles ≡ odd
    finish_is = sym (odd_behind k c s in_range e.a e segments walked.starts walked.borders odd odd_is)

    together : (near sum w one v oa own cs co c bs bo b : ℤ) → near ≡ sum → w ≡ one → cs ≡ bs +ℤ (own +ℤ (w -ℤ v)) → co ≡ bo +ℤ oa → c ≡ cs +ℤ co → b ≡ bs +ℤ bo
        → (((sum +ℤ w) -ℤ oa) -ℤ own) +ℤ (v -ℤ w) ≡ ((near +ℤ one) -ℤ c) +ℤ b
    together near sum w one v oa own cs co c bs bo b p q r t u x = omega (arith, ints)
