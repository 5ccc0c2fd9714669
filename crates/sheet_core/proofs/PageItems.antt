-- What stands on the page of a drawing is of its views.
use Rattle.std.proofs.Common.{ℕ, ◌<◌, List, [], ◌∷◌, ◌++◌, Option, None, Some, map}
use Rattle.std.specs.Prelude.{ℤ, pos}
use Rattle.std.specs.List.{All, flat_map}
use Rattle.std.proofs.lemmas.List.Elements.{All-nil, All-cons, All-head, All-tail, All-append, All-map, All-weaker}
use Rattle.cut_marks.specs.declared.figures.Heading.{Heading}
use Rattle.cut_marks.specs.declared.figures.CutMark.{CutMark}
use Rattle.cut_marks.specs.declared.figures.MarkEnd.{MarkEnd}
use Rattle.cut_marks.specs.declared.figures.SheetPoint.{SheetPoint}
use Rattle.cut_marks.specs.declared.views.ViewMarks.{ViewMarks}
use Rattle.dec_text.specs.declared.number.Length.{Length}
use Rattle.cut_marks.specs.Items.{rule_to, head_at, head_item, letter_item, beside_items, arrow_items, end_items, items_of_mark, heading_item, heading_items, items_of_view, items_of_marks}
use Rattle.sheet_page.specs.Corners.{IsInCorner}
use Rattle.drawing.specs.declared.drawn.Drawing.{Drawing}
use Rattle.sheet_page.specs.Pages.{IsInView}
use Rattle.sheet_page.specs.declared.page.Item.{Item}
use Rattle.sheet_page.specs.declared.page.Item.TheVariants as item
use Rattle.sheet_page.specs.declared.page.Pen.TheVariants as pen
use Rattle.stroke_paths.specs.declared.path.Path.{Path}
use Rattle.section_look.specs.declared.fills.Fill.{Fill}
use Rattle.section_look.specs.declared.looks.SectionLook.{SectionLook}
use Rattle.sheet_core.specs.Pages.{fills_of, frame_of}

-- ---- views
all_flat : {A B : Type 0} (P : B → Type 0) (f : A → List B) → ((x : A) → All P (f x)) → (xs : List A) → All P (flat_map f xs)
all_flat P f h [] = All-nil P
all_flat P f h (x ∷ xs) = All-append P (f x) (flat_map f xs) (h x) (all_flat P f h xs)

module _ (n : ℕ) where
  one : (i : Item) → IsInView n i → All (IsInView n) (i ∷ [])
  one i h = All-cons (IsInView n) i [] h (All-nil (IsInView n))

  three : (a b c : Item) → IsInView n a → IsInView n b → IsInView n c → All (IsInView n) (a ∷ b ∷ c ∷ [])
  three a b c h k l = All-cons (IsInView n) a (b ∷ c ∷ []) h (All-cons (IsInView n) b (c ∷ []) k (one c l))

  -- the title block is of no view
  block_item : (width height : ℤ) (i : Item) → IsInCorner width height i → IsInView n i
  block_item width height (item.Frame frame) h = tt
  block_item width height (item.Rule rule) h = tt
  block_item width height (item.Circle circle) h = tt
  block_item width height (item.Label label) h = tt
  block_item width height (item.Path path) h = absurd h
  block_item width height (item.Fill fill) h = absurd h
  block_item width height (item.ArrowHead arrow) h = absurd h

  pub of_block : (width height : ℤ) (items : List Item) → All (IsInCorner width height) items → All (IsInView n) items
  of_block width height items h = All-weaker (IsInCorner width height) (IsInView n) (block_item width height) items h

  -- nor is what tells the cuts
  of_beside : (beside : Option ℕ) (p : SheetPoint) → All (IsInView n) (beside_items beside p)
  of_beside None p = All-nil (IsInView n)
  of_beside (Some letter) p = one (letter_item letter p) tt

  of_end : (m : CutMark) (e : MarkEnd) → All (IsInView n) (end_items m e)
  of_end m e =
      All-append (IsInView n) (arrow_items e) (letter_item m.letter e.letter ∷ beside_items m.beside e.beside)
      (three (rule_to pen.Visible e.start e.tip) (rule_to pen.Visible e.tail (head_at e (pos 0))) (head_item e) tt tt tt)
      (All-cons (IsInView n) (letter_item m.letter e.letter) (beside_items m.beside e.beside) tt (of_beside m.beside e.beside))

  of_mark : (m : CutMark) → All (IsInView n) (items_of_mark m)
  of_mark m = All-cons (IsInView n) (rule_to pen.Chain m.first.tip m.second.tip) (end_items m m.first ++ end_items m m.second) tt (All-append (IsInView n) (end_items m m.first) (end_items m m.second) (of_end m m.first) (of_end m m.second))

  module _ (decimals : ℕ) (unit : Length) where
    of_heading : (h : Option Heading) (title : List ℕ) → All (IsInView n) (heading_items decimals unit h title)
    of_heading None title = All-nil (IsInView n)
    of_heading (Some h) title = one (heading_item decimals unit h title) tt

    of_view : (v : ViewMarks) (title : List ℕ) → All (IsInView n) (items_of_view decimals unit v title)
    of_view v title =
        All-append (IsInView n) (heading_items decimals unit v.heading title) (flat_map items_of_mark v.marks.items) (of_heading v.heading title)
        (all_flat (IsInView n) items_of_mark of_mark v.marks.items)

    pub of_marks : (views : List ViewMarks) (titles : List (List ℕ)) → All (IsInView n) (items_of_marks decimals unit views titles)
    of_marks [] titles = All-nil (IsInView n)
    of_marks (v ∷ views) [] = All-append (IsInView n) (items_of_view decimals unit v []) (items_of_marks decimals unit views []) (of_view v []) (of_marks views [])
    of_marks (v ∷ views) (title ∷ titles) =
        All-append (IsInView n) (items_of_view decimals unit v title) (items_of_marks decimals unit views titles) (of_view v title) (of_marks views titles)

  of_section : (section : SectionLook) → section.view < n → All (IsInView n) (fills_of section)
  of_section section within = go section.fills.items
    where
      go : (fills : List Fill) → All (IsInView n) (map (λ (fill : Fill). item.Fill (record { view = section.view; loops = fill.loops })) fills)
      go [] = All-nil (IsInView n)
      go (fill ∷ fills) = All-cons (IsInView n) (item.Fill (record { view = section.view; loops = fill.loops })) (map (λ (f : Fill). item.Fill (record { view = section.view; loops = f.loops })) fills) within (go fills)

  of_sections : (sections : List SectionLook) → All (λ section. section.view < n) sections → All (IsInView n) (flat_map fills_of sections)
  of_sections [] there = All-nil (IsInView n)
  of_sections (section ∷ sections) there =
      All-append (IsInView n) (fills_of section) (flat_map fills_of sections) (of_section section (All-head (λ s. s.view < n) section sections there)) (of_sections sections (All-tail (λ s. s.view < n) section sections there))

pub in_views : (n : ℕ) (d : Drawing) (block marks : List Item) (sections : List SectionLook) (paths : List Path) → All (IsInView n) block → All (IsInView n) marks
    → All (λ section. section.view < n) sections → All (λ p. p.view < n) paths
    → All (IsInView n) ((frame_of d.sheet.width d.sheet.height ∷ block) ++ flat_map fills_of sections ++ map item.Path paths ++ marks)
in_views n d block marks sections paths of_block of_marks placed within =
    let frame = frame_of d.sheet.width d.sheet.height ∷ block in
    let fills = flat_map fills_of sections in
    let drawn = map item.Path paths in
    All-append (IsInView n) ((frame ++ fills) ++ drawn) marks
    (All-append (IsInView n) (frame ++ fills) drawn
    (All-append (IsInView n) frame fills (All-cons (IsInView n) (frame_of d.sheet.width d.sheet.height) block tt of_block) (of_sections n sections placed))
    (All-map (IsInView n) item.Path paths within)) of_marks
