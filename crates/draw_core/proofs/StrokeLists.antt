-- The text of the views so far: one view more, and one line more.
use Rattle.std.proofs.Common.{◌≡◌, ℕ, ◌+◌, ◌<◌, List, [], ◌∷◌, ◌++◌, length, get_or, refl, sym, ap, ◌∙◌, arith, append-nil, append_assoc}
use Rattle.std.specs.List.{All, flat_map}
use Rattle.std.proofs.lemmas.List.Concat.{flat_map-append}
use Rattle.std.proofs.lemmas.List.Elements.{All-nil, All-append, All-same, All-weaker, Contains-get_or}
use Rattle.line_merge.proofs.Zips.{zip_right}
use Rattle.sheet_plan.specs.declared.sheet.Sheet.{Sheet}
use Rattle.sheet_plan.specs.declared.sheet.Stroke.{Stroke}
use Rattle.svg_page.specs.Svg.{stroke_line, group_begin, group_end, groups_below}
use Rattle.svg_page.proofs.Groups.{groups_more}
use Rattle.drawing.specs.Strokes.{IsStrokeOn, IsHatchStrokeOn, AreStrokesOf, AreStrokesFrom}
use Rattle.view_lines.specs.declared.view.ViewDrawing.{ViewDrawing}
use Rattle.drawing.proofs.StrokeLists.{view_more}

-- ---- the number of the view
view_numbers : (sheet : Sheet) (n : ℕ) (view : ViewDrawing) (strokes : List Stroke) → AreStrokesOf sheet n view strokes → All (λ s. s.view ≡ n) strokes
view_numbers sheet n view strokes are =
    All-same (λ (s : Stroke). s.view ≡ n) strokes (are.of_pieces ++ are.of_hatches) are.together
    (All-append (λ (s : Stroke). s.view ≡ n) are.of_pieces are.of_hatches
    (λ k e less.
    let (x, there, drawn) = zip_right (IsStrokeOn sheet n) view.pieces.items are.of_pieces are.pieces (get_or are.of_pieces k e) (Contains-get_or are.of_pieces k e less) in
    drawn.2.view_is)
    (λ k e less.
    let (x, there, drawn) = zip_right (IsHatchStrokeOn sheet n) view.hatches.items are.of_hatches are.hatches (get_or are.of_hatches k e) (Contains-get_or are.of_hatches k e less) in
    drawn.2.view_is))

-- ---- the text of the views so far
-- these are the strokes of the first views, and the text ends with their groups
pub record AreWritten (sheet : Sheet) (before : List ℕ) (views : List ViewDrawing) (n : ℕ) (text : List ℕ) : Type 0 where
  pub strokes : List Stroke
  pub right : AreStrokesFrom sheet 0 views strokes
  pub earlier : All (λ s. s.view < n) strokes
  pub is : text ≡ before ++ groups_below n strokes

pub none_written : (sheet : Sheet) (before text : List ℕ) → text ≡ before → AreWritten sheet before [] 0 text
none_written sheet before text same = record { strokes = []; right = refl; earlier = All-nil (λ (s : Stroke). s.view < 0); is = same ∙ sym (append-nil before) }

pub one_more_written : (sheet : Sheet) (before : List ℕ) (views : List ViewDrawing) (n : ℕ) (text : List ℕ) (view : ViewDrawing) (here : List Stroke) (new : List ℕ) → n ≡ 0 + length views
    → AreWritten sheet before views n text → AreStrokesOf sheet n view here → new ≡ text ++ (group_begin ++ flat_map stroke_line here ++ group_end) → AreWritten sheet before (views ++ view ∷ []) (n + 1) new
one_more_written sheet before views n text view here new at h of_view grown =
    let numbers = view_numbers sheet n view here of_view in
    record {
      strokes = h.strokes ++ here;
      right = view_more sheet 0 n views h.strokes view here at h.right of_view;
      earlier =
          All-append (λ (s : Stroke). s.view < n + 1) h.strokes here
          (All-weaker (λ (s : Stroke). s.view < n) (λ s. s.view < n + 1) (λ s less. below s.view less) h.strokes h.earlier)
          (All-weaker (λ (s : Stroke). s.view ≡ n) (λ s. s.view < n + 1) (λ s same. from_same s.view same) here numbers);
      is =
          grown ∙ ap (λ (t : List ℕ). t ++ (group_begin ++ flat_map stroke_line here ++ group_end)) h.is
          ∙ append_assoc before (groups_below n h.strokes) (group_begin ++ flat_map stroke_line here ++ group_end)
          ∙ ap (λ (t : List ℕ). before ++ t) (sym (groups_more n h.strokes here h.earlier numbers));
    }
  where
    below : (m : ℕ) → m < n → m < n + 1
    below m less = omega arith

    from_same : (m : ℕ) → m ≡ n → m < n + 1
    from_same m same = omega (arith, same)

-- one line more
pub one_more_line : (old text : List ℕ) (here : List Stroke) (y : Stroke) (new : List ℕ) → new ≡ text ++ stroke_line y → text ≡ old ++ flat_map stroke_line here → new ≡ old ++ flat_map stroke_line (here ++ y ∷ [])
one_more_line old text here y new grown all =
    grown ∙ ap (λ (t : List ℕ). t ++ stroke_line y) all ∙ append_assoc old (flat_map stroke_line here) (stroke_line y)
    ∙ ap (λ (t : List ℕ). old ++ t) (ap (λ (t : List ℕ). flat_map stroke_line here ++ t) (sym (append-nil (stroke_line y))) ∙ sym (flat_map-append stroke_line here (y ∷ [])))
