-- The groups of strokes that stand in the order of their views.
use Rattle.std.proofs.Common.{◌≡◌, ◌==◌, ℕ, zero, suc, ◌+◌, ◌<◌, ◌≤◌, cond, List, [], ◌∷◌, ◌++◌, refl, ap, ◌∙◌, arith, add-one, append-nil}
use Rattle.std.specs.List.{All, filter, flat_map}
use Rattle.std.proofs.lemmas.Bool.{eq-eqb, ne_eqb}
use Rattle.std.proofs.lemmas.List.Elements.{All-weaker, filter-append}
use Rattle.sheet_plan.specs.declared.sheet.Stroke.{Stroke}
use Rattle.svg_page.specs.Svg.{stroke_line, view_lines, group_begin, group_end, groups_below}

-- the strokes of a view
abbrev of_view : ℕ → List Stroke → List Stroke
of_view n = filter (λ (s : Stroke). s.view == n)

rest_of : (P : Stroke → Type 0) (x : Stroke) (xs : List Stroke) → All P (x ∷ xs) → All P xs
rest_of P x xs all k e less = all (suc k) e (omega arith)

all_of_view : (n : ℕ) (xs : List Stroke) → All (λ s. s.view ≡ n) xs → of_view n xs ≡ xs
all_of_view n [] all = refl
all_of_view n (x ∷ xs) all =
    (λ i. cond (eq-eqb x.view n (all 0 x (omega arith)) i) (x ∷ of_view n xs) (of_view n xs))
    ∙ ap (λ (ys : List Stroke). x ∷ ys) (all_of_view n xs (rest_of (λ s. s.view ≡ n) x xs all))

none_of_view : (n : ℕ) (xs : List Stroke) → All (λ s. ¬ (s.view ≡ n)) xs → of_view n xs ≡ []
none_of_view n [] all = refl
none_of_view n (x ∷ xs) all =
    (λ i. cond (ne_eqb x.view n (all 0 x (omega arith)) i) (x ∷ of_view n xs) (of_view n xs))
    ∙ none_of_view n xs (rest_of (λ s. ¬ (s.view ≡ n)) x xs all)

module _ (n : ℕ) (before here : List Stroke) (earlier : All (λ s. s.view < n) before) (of_this : All (λ s. s.view ≡ n) here) where
  lines_here : view_lines n (before ++ here) ≡ flat_map stroke_line here
  lines_here =
      ap (flat_map stroke_line)
      (filter-append (λ (s : Stroke). s.view == n) before here ∙ (λ i. none_of_view n before others i ++ all_of_view n here of_this i))
    where
      apart : (m : ℕ) → m < n → ¬ (m ≡ n)
      apart m less same = omega (arith, same)

      others : All (λ s. ¬ (s.view ≡ n)) before
      others = All-weaker (λ (s : Stroke). s.view < n) (λ s. ¬ (s.view ≡ n)) (λ s less. apart s.view less) before earlier

  groups_stay : (m : ℕ) → m ≤ n → groups_below m (before ++ here) ≡ groups_below m before
  groups_stay zero le = refl
  groups_stay (suc m) le = λ i. groups_stay m (omega arith) i ++ (group_begin ++ flat_map stroke_line (stays i) ++ group_end)
    where
      apart : (k : ℕ) → k ≡ n → ¬ (k ≡ m)
      apart k at same = omega (arith, at, same, le)

      stays : of_view m (before ++ here) ≡ of_view m before
      stays =
          filter-append (λ (s : Stroke). s.view == m) before here
          ∙ ap (λ (ys : List Stroke). of_view m before ++ ys) (none_of_view m here (All-weaker (λ (s : Stroke). s.view ≡ n) (λ s. ¬ (s.view ≡ m)) (λ s at. apart s.view at) here of_this))
          ∙ append-nil (of_view m before)

  -- one view more
  pub groups_more : groups_below (n + 1) (before ++ here) ≡ groups_below n before ++ (group_begin ++ flat_map stroke_line here ++ group_end)
  groups_more = rw add-one (λ i. groups_stay n (omega arith) i ++ (group_begin ++ lines_here i ++ group_end))
