-- A title block stands in the corner of its sheet, its texts in their cells, and it is clear of what ends before the corner.
use Rattle.std.proofs.Common.{ℕ, suc, ◌+◌, ◌≤◌, ◌≡◌, inl, inr, Bool, true, false, List, [], ◌∷◌, ◌++◌, Result, Ok, Err, IfOk, map, refl, sym, subst, arith, rules}
use Rattle.std.specs.Prelude.{nat_le, ℤ, pos, ◌+ℤ◌, ◌-ℤ◌, ◌*ℤ◌, ◌≤ℤ◌}
use Rattle.std.specs.List.{All, Contains, flat_map}
use Rattle.std.proofs.lemmas.Bool.{leb-true}
use Rattle.std.proofs.lemmas.Int.{ints}
use Rattle.std.proofs.lemmas.List.Elements.{All-nil, All-head, All-tail, All-from_recursion, All-append, All-map, All-weaker}
use Rattle.job_file.specs.declared.job.Job.{Job}
use Rattle.sheet_job.specs.declared.block.BlockTexts.{BlockTexts}
use Rattle.stroke_paths.specs.declared.path.Point.{Point}
use Rattle.sheet_page.specs.declared.cells.Cell.{Cell}
use Rattle.sheet_page.specs.declared.page.Item.{Item}
use Rattle.sheet_page.specs.declared.page.Item.TheVariants as item
use Rattle.sheet_page.specs.declared.page.Pen.{Pen}
use Rattle.sheet_page.specs.declared.page.Rule.{Rule}
use Rattle.sheet_plan.specs.Boxes.{Box}
use Rattle.sheet_plan.specs.declared.sheet.Sheet.{Sheet}
use Rattle.sheet_page.specs.BlockCells.{cells_of}
use Rattle.sheet_page.specs.Blocks.{block_of}
use Rattle.sheet_page.specs.Cells.{IsCell}
use Rattle.sheet_page.specs.Corners.{IsPointInCorner, IsInCorner, IsInCell, KeepsToCells, EndsBefore, IsRightOf, IsBelow, IsClearOf}
use Rattle.sheet_page.specs.Labels.{Said, cell_items}
use Rattle.sheet_page.specs.Rules.{corner_of, point_from, rule_from, rules_of}
use Rattle.sheet_page.specs.Symbols.{circle_from, symbol_of}
use Rattle.sheet_page.specs.inner.Spaces.{SaysInside, AreInCells}

-- ---- rules
point_in : (w h : ℤ) (x y : ℕ) → x ≤ 18000 → y ≤ 2200 → IsPointInCorner w h (point_from (corner_of w h) x y)
point_in w h x y across down = record { left = omega (arith, ints); right = omega (arith, ints); top = omega (arith, ints); bottom = omega (arith, ints) }

rule_in : (w h : ℤ) (pen : Pen) (x1 y1 x2 y2 : ℕ) → nat_le x1 18000 ≡ true → nat_le y1 2200 ≡ true → nat_le x2 18000 ≡ true → nat_le y2 2200 ≡ true
    → IsInCorner w h (item.Rule (rule_from (corner_of w h) pen x1 y1 x2 y2))
rule_in w h pen x1 y1 x2 y2 a b c d = (point_in w h x1 y1 (leb-true x1 18000 a) (leb-true y1 2200 b), point_in w h x2 y2 (leb-true x2 18000 c) (leb-true y2 2200 d))

rules_in : (w h : ℤ) → All (IsInCorner w h) (map item.Rule (rules_of (corner_of w h)))
rules_in w h =
    All-from_recursion (IsInCorner w h) (map item.Rule (rules_of (corner_of w h)))
    (search (rules, rule_in))

-- ---- the symbol
circle_in : (w h : ℤ) (x r : ℕ) → nat_le r x ≡ true → nat_le (x + r) 18000 ≡ true → nat_le r 720 ≡ true → IsInCorner w h (item.Circle (circle_from (corner_of w h) x r))
circle_in w h x r a b c = by (leb-true r x a) (leb-true (x + r) 18000 b) (leb-true r 720 c)
  where
    by : r ≤ x → x + r ≤ 18000 → r ≤ 720 → IsInCorner w h (item.Circle (circle_from (corner_of w h) x r))
    by left right down = record { left = omega (arith, ints); right = omega (arith, ints); top = omega (arith, ints); bottom = omega (arith, ints) }

symbol_in : (w h : ℤ) (third : Bool) → All (IsInCorner w h) (symbol_of (corner_of w h) third)
symbol_in w h true =
    All-from_recursion (IsInCorner w h) (symbol_of (corner_of w h) true)
    (search (rules, rule_in, circle_in))
symbol_in w h false =
    All-from_recursion (IsInCorner w h) (symbol_of (corner_of w h) false)
    (search (rules, rule_in, circle_in))

-- ---- labels
left_in : (w : ℤ) (cell : ℕ) (x : ℤ) → (w -ℤ pos 19000 +ℤ pos cell) ≤ℤ x → (w -ℤ pos 19000) ≤ℤ x
left_in w cell x h = omega (arith, ints)

right_in : (w : ℤ) (cell used : ℕ) (x : ℤ) → cell ≤ 18000 → pos used ≤ℤ (pos 1000 *ℤ (w -ℤ pos 19000 +ℤ pos cell -ℤ x)) → pos used ≤ℤ (pos 1000 *ℤ (w -ℤ pos 1000 -ℤ x))
right_in w cell used x inside h = omega (arith, ints)

top_in : (h : ℤ) (cell : ℕ) (y : ℤ) → (h -ℤ pos 3200 +ℤ pos cell) ≤ℤ y → (h -ℤ pos 3200) ≤ℤ y
top_in h cell y up = omega (arith, ints)

bottom_in : (h : ℤ) (cell size : ℕ) (y : ℤ) → cell ≤ 2200 → pos size ≤ℤ (pos 4 *ℤ (h -ℤ pos 3200 +ℤ pos cell -ℤ y)) → pos size ≤ℤ (pos 4 *ℤ (h -ℤ pos 1000 -ℤ y))
bottom_in h cell size y inside down = omega (arith, ints)

-- what is in a cell is in the corner
in_corner : (w h : ℤ) (c : Cell) → IsCell c → (one : Item) → IsInCell (corner_of w h) c one → IsInCorner w h one
in_corner w h c is (item.Frame frame) inside = absurd inside
in_corner w h c is (item.Rule rule) inside = absurd inside
in_corner w h c is (item.Circle circle) inside = absurd inside
in_corner w h c is (item.Label l) inside = record {
  left = left_in w c.x l.x inside.left;
  right = right_in w (c.x + c.width) _ l.x is.right inside.right;
  top = top_in h c.y _ inside.top;
  bottom = bottom_in h (c.y + c.height) l.size l.y is.bottom inside.bottom;
}
in_corner w h c is (item.Path path) inside = absurd inside
in_corner w h c is (item.Fill fill) inside = absurd inside
in_corner w h c is (item.ArrowHead arrow) inside = absurd inside

labels_in : (w h : ℤ) (cells : List Said) → AreInCells (corner_of w h) cells → All (IsInCorner w h) (flat_map (cell_items (corner_of w h)) cells)
labels_in w h [] are = All-nil (IsInCorner w h)
labels_in w h (e ∷ cells) are =
    let here = All-head (SaysInside (corner_of w h)) e cells are in
    All-append (IsInCorner w h) (cell_items (corner_of w h) e) (flat_map (cell_items (corner_of w h)) cells)
    (All-weaker (IsInCell (corner_of w h) e.cell) (IsInCorner w h) (in_corner w h e.cell here.is_cell) (cell_items (corner_of w h) e) here.inside)
    (labels_in w h cells (All-tail (SaysInside (corner_of w h)) e cells are))

-- ---- cells
one_keeps : (corner : Point) (cells : List Said) (e : Said) → Contains cells e → (one : Item) → IsInCell corner e.cell one → KeepsToCells corner cells one
one_keeps corner cells e at (item.Frame frame) inside = tt
one_keeps corner cells e at (item.Rule rule) inside = tt
one_keeps corner cells e at (item.Circle circle) inside = tt
one_keeps corner cells e at (item.Label l) inside = (e, at, inside)
one_keeps corner cells e at (item.Path path) inside = tt
one_keeps corner cells e at (item.Fill fill) inside = tt
one_keeps corner cells e at (item.ArrowHead arrow) inside = tt

-- of some cells what the last ones say
labels_keep : (corner : Point) (cells last : List Said) → ((e : Said) → Contains last e → Contains cells e) → AreInCells corner last
    → All (KeepsToCells corner cells) (flat_map (cell_items corner) last)
labels_keep corner cells [] of are = All-nil (KeepsToCells corner cells)
labels_keep corner cells (e ∷ last) of are =
    let here = All-head (SaysInside corner) e last are in
    let behind = λ (x : Said) (at : Contains last x). of x (suc at.0, omega (arith, at.1), at.2) in
    All-append (KeepsToCells corner cells) (cell_items corner e) (flat_map (cell_items corner) last)
    (All-weaker (IsInCell corner e.cell) (KeepsToCells corner cells) (one_keeps corner cells e (of e (0, omega arith, refl))) (cell_items corner e) here.inside)
    (labels_keep corner cells last behind (All-tail (SaysInside corner) e last are))

rules_keep : (corner : Point) (cells : List Said) (lines : List Rule) → All (KeepsToCells corner cells) (map item.Rule lines)
rules_keep corner cells lines = All-map (KeepsToCells corner cells) item.Rule lines (λ k d lt. tt)

symbol_keeps : (corner : Point) (cells : List Said) (third : Bool) → All (KeepsToCells corner cells) (symbol_of corner third)
symbol_keeps corner cells third = All-from_recursion (KeepsToCells corner cells) (symbol_of corner third) (search rules)

-- ---- the block
module _ (sheet : Sheet) (job : Job) (part : List ℕ) (texts : BlockTexts) where
  abbrev corner : Point
  corner = corner_of sheet.width sheet.height

  abbrev cells : List Said
  cells = cells_of sheet.scale job part texts

  block_in : AreInCells corner cells → All (IsInCorner sheet.width sheet.height) (block_of sheet job part texts)
  block_in are =
      let w = sheet.width in
      let h = sheet.height in
      All-append (IsInCorner w h) (map item.Rule (rules_of corner)) (flat_map (cell_items corner) cells ++ symbol_of corner job.third) (rules_in w h)
      (All-append (IsInCorner w h) (flat_map (cell_items corner) cells) (symbol_of corner job.third) (labels_in w h cells are) (symbol_in w h job.third))

  block_keeps : AreInCells corner cells → All (KeepsToCells corner cells) (block_of sheet job part texts)
  block_keeps are =
      let P = KeepsToCells corner cells in
      All-append P (map item.Rule (rules_of corner)) (flat_map (cell_items corner) cells ++ symbol_of corner job.third) (rules_keep corner cells (rules_of corner))
      (All-append P (flat_map (cell_items corner) cells) (symbol_of corner job.third) (labels_keep corner cells cells (λ e at. at) are) (symbol_keeps corner cells job.third))

  pub written_in : {T E : Type 0} (written : T → List Item) (result : Result T E) → IfOk result (λ items. written items ≡ block_of sheet job part texts) → IfOk result (λ _. AreInCells corner cells)
      → IfOk result (λ items. All (IsInCorner sheet.width sheet.height) (written items))
  written_in written (Ok items) e are = subst (All (IsInCorner sheet.width sheet.height)) (sym e) (block_in are)
  written_in written (Err fault) e are = e

  pub written_keeps : {T E : Type 0} (written : T → List Item) (result : Result T E) → IfOk result (λ items. written items ≡ block_of sheet job part texts) → IfOk result (λ _. AreInCells corner cells)
      → IfOk result (λ items. All (KeepsToCells corner cells) (written items))
  written_keeps written (Ok items) e are = subst (All (KeepsToCells corner cells)) (sym e) (block_keeps are)
  written_keeps written (Err fault) e are = e

-- ---- what stands beside the block or above it
past : (a b c : ℤ) → a ≤ℤ b → b ≤ℤ c → a ≤ℤ c
past a b c h k = omega (arith, ints)

module _ (width height : ℤ) where
  right_of : (place : ℤ) (one : Item) → place ≤ℤ (width -ℤ pos 19000) → IsInCorner width height one → IsRightOf place one
  right_of place (item.Frame frame) before h = absurd h
  right_of place (item.Rule rule) before h = (past _ _ _ before h.0.left, past _ _ _ before h.1.left)
  right_of place (item.Circle c) before h = past _ _ _ before h.left
  right_of place (item.Label label) before h = past _ _ _ before h.left
  right_of place (item.Path path) before h = absurd h
  right_of place (item.Fill fill) before h = absurd h
  right_of place (item.ArrowHead arrow) before h = absurd h

  below : (level : ℤ) (one : Item) → level ≤ℤ (height -ℤ pos 3200) → IsInCorner width height one → IsBelow level one
  below level (item.Frame frame) before h = absurd h
  below level (item.Rule rule) before h = (past _ _ _ before h.0.top, past _ _ _ before h.1.top)
  below level (item.Circle c) before h = past _ _ _ before h.top
  below level (item.Label label) before h = past _ _ _ before h.top
  below level (item.Path path) before h = absurd h
  below level (item.Fill fill) before h = absurd h
  below level (item.ArrowHead arrow) before h = absurd h

  one_clear : (box : Box) (one : Item) → EndsBefore width height box → IsInCorner width height one → IsClearOf box one
  one_clear box one (inl before) h = inl (right_of box.right one before h)
  one_clear box one (inr before) h = inr (below box.bottom one before h)

  -- what is in the corner is clear of each rectangle that ends to the left of it or above it, as a view with its sides does
  pub clear_of_views : (box : Box) (items : List Item) → EndsBefore width height box → All (IsInCorner width height) items → All (IsClearOf box) items
  clear_of_views box items before h = All-weaker (IsInCorner width height) (IsClearOf box) (λ one is. one_clear box one before is) items h

pub written_clear : {T E : Type 0} (written : T → List Item) (result : Result T E) (width height : ℤ) (box : Box) → EndsBefore width height box
    → IfOk result (λ items. All (IsInCorner width height) (written items)) → IfOk result (λ items. All (IsClearOf box) (written items))
written_clear written (Ok items) width height box before h = clear_of_views width height box (written items) before h
written_clear written (Err fault) width height box before h = h
