-- The section along an edge, border by border: what is left of the borders is asked of where it is there by then.
use Rattle.std.proofs.Common.{◌≡◌, ℕ, ◌+◌, ◌<◌, ◌≤◌, Bool, List, [], ◌∷◌, ◌++◌, length, get_or, drop, sym, subst, ap, ◌∙◌}
use Rattle.std.specs.Prelude.{◌+ℤ◌}
use Rattle.std.proofs.lemmas.List.{drop_more, drop_all, append-nil, append_assoc}
use Rattle.cross_find.specs.declared.meter.Crossing.{Crossing}
use Rattle.cut_plane.proofs.Xors.{xor, xor-assoc, xor-none}
use Rattle.cut_count.specs.declared.found.CrossingBorder.{CrossingBorder}
use Rattle.cut_count.specs.inner.Walks.{odd_turns, section_change, AreSectionCrossings}

-- ---- whether it is there
-- what the borders from the i-th on make of it is what all make of it before the first
abbrev pub IsThereFrom : (CrossingBorder → Bool) → Bool → List CrossingBorder → ℕ → Bool → Type 0
IsThereFrom turns before found i there = xor there (odd_turns turns (drop i found)) ≡ xor before (odd_turns turns found)

pub there_more : (turns : CrossingBorder → Bool) (before : Bool) (found : List CrossingBorder) (i : ℕ) (there next : Bool) (x : CrossingBorder) → i < length found → get_or found i x ≡ x
    → next ≡ xor there (turns x) → IsThereFrom turns before found i there → IsThereFrom turns before found (i + 1) next
there_more turns before found i there next x within is e h =
    ap (λ (b : Bool). xor b (odd_turns turns (drop (i + 1) found))) e
    ∙ xor-assoc there (turns x) (odd_turns turns (drop (i + 1) found))
    ∙ ap (λ (xs : List CrossingBorder). xor there (odd_turns turns xs)) (sym (drop_more found i x within ∙ ap (λ (y : CrossingBorder). y ∷ drop (i + 1) found) is))
    ∙ h

pub there_all : (turns : CrossingBorder → Bool) (before : Bool) (found : List CrossingBorder) (i : ℕ) (there : Bool) → length found ≤ i → IsThereFrom turns before found i there → there ≡ xor before (odd_turns turns found)
there_all turns before found i there past h =
    sym (xor-none there) ∙ ap (λ (xs : List CrossingBorder). xor there (odd_turns turns xs)) (sym (drop_all i found past)) ∙ h

-- ---- as crossings
-- with those of the borders from the i-th on they are those of all
abbrev pub AreCrossingsBefore : Bool → Bool → List CrossingBorder → ℕ → Bool → Bool → List Crossing → Type 0
AreCrossingsBefore left right found i there_left there_right crossings =
    (ys : List Crossing) → AreSectionCrossings there_left there_right (drop i found) ys → AreSectionCrossings left right found (crossings ++ ys)

pub crossings_none : (left right : Bool) (found : List CrossingBorder) (crossings : List Crossing) → crossings ≡ [] → AreCrossingsBefore left right found 0 left right crossings
crossings_none left right found crossings e ys h = subst (λ (xs : List Crossing). AreSectionCrossings left right found (xs ++ ys)) (sym e) h

pub crossings_more : (left right : Bool) (found : List CrossingBorder) (i : ℕ) (there_left there_right next_left next_right : Bool) (crossings more : List Crossing) (x : CrossingBorder) (y : Crossing)
    → i < length found → get_or found i x ≡ x → next_left ≡ xor there_left x.left.turns → next_right ≡ xor there_right x.right.turns
    → more ≡ crossings ++ y ∷ [] → y.at ≡ x.at → y.left ≡ x.left.own +ℤ section_change there_left x.left.turns → y.right ≡ x.right.own +ℤ section_change there_right x.right.turns
    → AreCrossingsBefore left right found i there_left there_right crossings → AreCrossingsBefore left right found (i + 1) next_left next_right more
crossings_more left right found i there_left there_right next_left next_right crossings more x y within is to_left to_right e at on_left on_right before ys h =
    subst (λ (xs : List Crossing). AreSectionCrossings left right found xs) (sym (ap (λ (xs : List Crossing). xs ++ ys) e ∙ append_assoc crossings (y ∷ []) ys))
    (before (y ∷ ys) (subst (λ (xs : List CrossingBorder). AreSectionCrossings there_left there_right xs (y ∷ ys)) (sym (drop_more found i x within ∙ ap (λ (z : CrossingBorder). z ∷ drop (i + 1) found) is))
    (at, on_left, on_right, subst (λ (b : Bool). AreSectionCrossings b (xor there_right x.right.turns) (drop (i + 1) found) ys) to_left (subst (λ (b : Bool). AreSectionCrossings next_left b (drop (i + 1) found) ys) to_right h))))

pub crossings_all : (left right : Bool) (found : List CrossingBorder) (i : ℕ) (there_left there_right : Bool) (crossings : List Crossing) → length found ≤ i
    → AreCrossingsBefore left right found i there_left there_right crossings → AreSectionCrossings left right found crossings
crossings_all left right found i there_left there_right crossings past before =
    subst (λ (xs : List Crossing). AreSectionCrossings left right found xs) (append-nil crossings)
    (before [] (subst (λ (xs : List CrossingBorder). AreSectionCrossings there_left there_right xs []) (sym (drop_all i found past)) tt))
