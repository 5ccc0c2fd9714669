-- What the borders along an edge change of a count before a place: as crossings, and by their own shares and the section in turn.
use Rattle.std.proofs.Common.{◌≡◌, Bool, true, false, cond, List, [], ◌∷◌, refl, sym, ap, ◌∙◌, arith}
use Rattle.std.specs.Prelude.{ℤ, pos, ◌+ℤ◌, ◌-ℤ◌, ◌*ℤ◌}
use Rattle.std.specs.Int.Signed.{lt_z}
use Rattle.std.proofs.lemmas.Int.{ints}
use Rattle.geometry.specs.Counts.{Side, to_left, to_right}
use Rattle.hiding_laws.specs.Sums.{total}
use Rattle.hiding_laws.proofs.SumsBelow.{keep}
use Rattle.cross_find.specs.declared.meter.Crossing.{Crossing}
use Rattle.cut_plane.proofs.Xors.{xor, xor-assoc, xor-none, odd_in}
use Rattle.span_count.specs.Carries.{change_before}
use Rattle.cut_count_laws.proofs.SectionSums.{worth, step, step-is, steps, sum_before}
use Rattle.cut_count.specs.declared.found.CrossingBorder.{CrossingBorder}
use Rattle.cut_count.specs.inner.Walks.{section_change, AreSectionCrossings}
use Rattle.cut_count.proofs.WalkLaws.{share_to, turns_to, change_to, odd_to}

change_is : (there turns : Bool) → section_change there turns ≡ step there turns
change_is there false = refl
change_is false true = refl
change_is true true = refl

-- ---- for one count
module _ (own : CrossingBorder → ℤ) (turns : CrossingBorder → Bool) (change : Crossing → ℤ) where
  -- the borders as crossings that change that count
  abbrev Change : Bool → List CrossingBorder → List Crossing → Type 0
  Change there [] [] = Unit {0}
  Change there [] (y ∷ ys) = ⊥
  Change there (x ∷ xs) [] = ⊥
  Change there (x ∷ xs) (y ∷ ys) = (y.at ≡ x.at) × (change y ≡ own x +ℤ section_change there (turns x)) × Change (xor there (turns x)) xs ys

  -- all of them
  whole_total : (there : Bool) (found : List CrossingBorder) (section : List Crossing) → Change there found section → total change section ≡ total own found +ℤ (worth (xor there (odd_in turns found)) -ℤ worth there)
  whole_total there [] [] h = nothing (worth there) ∙ (λ i. pos 0 +ℤ (worth (sym (xor-none there) i) -ℤ worth there))
    where
      nothing : (z : ℤ) → pos 0 ≡ pos 0 +ℤ (z -ℤ z)
      nothing z = omega (arith, ints)
  whole_total there [] (y ∷ ys) h = absurd h
  whole_total there (x ∷ xs) [] h = absurd h
  whole_total there (x ∷ xs) (y ∷ ys) (at, is, h) =
      together (change y) (own x) (section_change there (turns x)) (worth (xor there (turns x))) (worth there) (worth (xor (xor there (turns x)) (odd_in turns xs))) (total change ys) (total own xs)
      is (change_is there (turns x) ∙ step-is there (turns x)) (whole_total (xor there (turns x)) xs ys h)
      ∙ (λ i. (own x +ℤ total own xs) +ℤ (worth (xor-assoc there (turns x) (odd_in turns xs) i) -ℤ worth there))
    where
      together : (y o z w v u t a : ℤ) → y ≡ o +ℤ z → z ≡ w -ℤ v → t ≡ a +ℤ (u -ℤ w) → y +ℤ t ≡ (o +ℤ a) +ℤ (u -ℤ v)
      together y o z w v u t a p q r = omega (arith, ints)

  module _ (n m : ℤ) where
    abbrev before : CrossingBorder → Bool
    before x = lt_z (x.at.num *ℤ m) (n *ℤ x.at.den)

    -- those before the place
    total_before : (there : Bool) (found : List CrossingBorder) (section : List Crossing) → Change there found section
        → total (change_before change n m) section ≡ total (λ x. keep (before x) (own x)) found +ℤ sum_before turns before found (steps turns there found)
    total_before there [] [] h = refl
    total_before there [] (y ∷ ys) h = absurd h
    total_before there (x ∷ xs) [] h = absurd h
    total_before there (x ∷ xs) (y ∷ ys) (at, is, h) =
        together (change_before change n m y) (keep (before x) (own x)) (keep (before x) (step there (turns x))) (total (change_before change n m) ys)
        (total (λ z. keep (before z) (own z)) xs) (sum_before turns before xs (steps turns (xor there (turns x)) xs))
        ((λ i. cond (lt_z ((at i).num *ℤ m) (n *ℤ (at i).den)) (is i) (pos 0)) ∙ by (before x)) (total_before (xor there (turns x)) xs ys h)
      where
        by : (b : Bool) → cond b (own x +ℤ section_change there (turns x)) (pos 0) ≡ keep b (own x) +ℤ keep b (step there (turns x))
        by true = ap (λ z. own x +ℤ z) (change_is there (turns x))
        by false = refl

        together : (y o z t a u : ℤ) → y ≡ o +ℤ z → t ≡ a +ℤ u → y +ℤ t ≡ (o +ℤ a) +ℤ (z +ℤ u)
        together y o z t a u p q = omega (arith, ints)

-- ---- for either
abbrev ChangeOf : Side → Bool → List CrossingBorder → List Crossing → Type 0
ChangeOf k = Change (λ x. (share_to k x).own) (turns_to k) (change_to k)

change_of : (k : Side) (left right : Bool) (found : List CrossingBorder) (section : List Crossing) → AreSectionCrossings left right found section → ChangeOf k (odd_to k left right) found section
change_of k left right [] [] h = tt
change_of k left right [] (y ∷ ys) h = absurd h
change_of k left right (x ∷ xs) [] h = absurd h
change_of to_left left right (x ∷ xs) (y ∷ ys) (at, l, r, h) = (at, l, change_of to_left (xor left x.left.turns) (xor right x.right.turns) xs ys h)
change_of to_right left right (x ∷ xs) (y ∷ ys) (at, l, r, h) = (at, r, change_of to_right (xor left x.left.turns) (xor right x.right.turns) xs ys h)

module _ (k : Side) (left right : Bool) (found : List CrossingBorder) (section : List Crossing) (are : AreSectionCrossings left right found section) where
  -- before the place n / m: by the borders' own shares, and by the section, which begins and ends in turn
  pub section_before : (n m : ℤ) → total (change_before (change_to k) n m) section
      ≡ total (λ x. keep (lt_z (x.at.num *ℤ m) (n *ℤ x.at.den)) (share_to k x).own) found
      +ℤ sum_before (turns_to k) (λ x. lt_z (x.at.num *ℤ m) (n *ℤ x.at.den)) found (steps (turns_to k) (odd_to k left right) found)
  section_before n m = total_before (λ x. (share_to k x).own) (turns_to k) (change_to k) n m (odd_to k left right) found section (change_of k left right found section are)

  -- along the whole edge
  pub section_whole : total (change_to k) section ≡ total (λ x. (share_to k x).own) found +ℤ (worth (xor (odd_to k left right) (odd_in (turns_to k) found)) -ℤ worth (odd_to k left right))
  section_whole = whole_total (λ x. (share_to k x).own) (turns_to k) (change_to k) (odd_to k left right) found section (change_of k left right found section are)
