-- The strokes of a drawing stand in the boxes of their views.
use Rattle.std.proofs.Common.{◌≡◌, ℕ, suc, ◌+◌, List, [], ◌∷◌, All, Contains, Some, slice_get, get_or, refl, sym, subst, ◌∙◌, arith}
use Rattle.std.specs.List.{AllZip}
use Rattle.std.proofs.lemmas.List.Elements.{All-nil, All-append, Contains-get_or}
use Rattle.geometry.specs.Parts.{Part}
use Rattle.job_file.specs.Seen.{direction_seen}
use Rattle.job_file.specs.declared.view.JobView.{JobView}
use Rattle.lattice.specs.Cuts.{Plane, plane_of}
use Rattle.lattice.specs.Points.{of_dir, of_spot}
use Rattle.lattice.specs.Triple.{Triple}
use Rattle.lattice.specs.declared.pieces.Crease.{Crease}
use Rattle.lattice.specs.declared.pieces.HatchLine.{HatchLine}
use Rattle.lattice.specs.declared.pieces.Piece.{Piece}
use Rattle.lattice.specs.declared.pieces.ViewSpec.{ViewSpec}
use Rattle.lattice.specs.declared.pieces.ViewSpec.TheVariants.{Plain, Section}
use Rattle.lattice.specs.declared.points.Corner.{Corner}
use Rattle.lattice.specs.declared.points.Spot.{Spot}
use Rattle.line_merge.proofs.Zips.{zip_right}
use Rattle.sheet_plan.specs.Boxes.{Box, box_at, IsBoxOf}
use Rattle.sheet_plan.specs.Extents.{IsExtent, AreExtents}
use Rattle.sheet_plan.specs.Numbers.{measure_of}
use Rattle.sheet_plan.specs.Sheets.{IsPlaceOf, IsShownAt, IsStrokeBetween}
use Rattle.sheet_plan.specs.declared.bounds.Extent.{Extent}
use Rattle.sheet_plan.specs.declared.sheet.Mark.{Mark}
use Rattle.sheet_plan.specs.declared.sheet.Sheet.{Sheet}
use Rattle.sheet_plan.specs.declared.sheet.Spread.{Spread}
use Rattle.sheet_plan.specs.declared.sheet.Stroke.{Stroke}
use Rattle.solid_mesh.specs.Solids.{solid_part}
use Rattle.solid_mesh.specs.declared.solid.Solid.{Solid}
use Rattle.solid_mesh.proofs.Facts.{closed, in_range}
use Rattle.drawing_laws.specs.Views.{IsRightView, IsHatchedView}
use Rattle.drawing_laws.specs.Standing.{IsInBox, StandsInBox}
use Rattle.drawing_laws.proofs.OnPaper.{IsInExtent, shown_in_box}
use Rattle.drawing_laws.proofs.Drawn.{EndsInExtent, plain_in_extent, cut_in_extent}
use Rattle.drawing_laws.proofs.Hatched.{hatch_in_extent}
use Rattle.view_lines.specs.declared.view.ViewDrawing.{ViewDrawing}
use Rattle.drawing.specs.Drawing.{ShowsJobView, StandInBoxes, HasPlaces}
use Rattle.drawing.specs.Strokes.{IsStrokeOn, IsHatchStrokeOn, AreStrokesOf, AreStrokesFrom, AreStrokes}

-- ---- what a view shows is within the part's extent
pieces_in : (spec : ViewSpec) (fraction : ℕ) (s : Part) (cuts : List Plane) (pieces : List Piece) → IsRightView spec fraction s cuts pieces → (e : Extent) → IsExtent (direction_seen spec) s.corners e
    → (m : Piece) → Contains pieces m → EndsInExtent (direction_seen spec) e m
pieces_in (Plain d) fraction s cuts pieces right e is m listed = plain_in_extent d fraction s cuts pieces right e is m listed
pieces_in (Section c) fraction s cuts pieces right e is m listed = cut_in_extent (plane_of c) fraction s pieces right e is m listed

hatches_in : (spec : ViewSpec) (spacing : ℕ) (solid : Solid) (lines : List HatchLine) → IsHatchedView spec spacing (solid_part solid) lines → (e : Extent) → IsExtent (direction_seen spec) (solid_part solid).corners e
    → (x : HatchLine) → Contains lines x → IsInExtent (direction_seen spec) e (of_spot x.a) × IsInExtent (direction_seen spec) e (of_spot x.b)
hatches_in (Plain d) spacing solid lines none e is x listed = absurd (no_line (subst (λ (ys : List HatchLine). Contains ys x) none listed))
  where
    no_line : Contains [] x → ⊥
    no_line (k, within, same) = omega (arith, within)
hatches_in (Section c) spacing solid lines fills e is x listed = hatch_in_extent (plane_of c) (solid_part solid) (closed solid) (in_range solid) spacing lines fills x listed e is

module _ (views : List JobView) (extents : List Extent) (sheet : Sheet) (placed : HasPlaces views sheet) where
  abbrev InBox : Stroke → Type 0
  InBox s = (box : Box) → IsBoxOf sheet extents s.view box → StandsInBox box s

  -- a stroke whose ends are within the extent of its view
  stroke_in : (n : ℕ) (view : JobView) (corners : List Corner) (e : Extent) → slice_get views n ≡ Some view → slice_get extents n ≡ Some e → IsExtent (direction_seen view.spec) corners e → (place : Spread) → IsPlaceOf sheet n place
      → (mark : Mark) (a b : Spot) (s : Stroke) → IsStrokeBetween sheet n place mark a b s → IsInExtent (direction_seen view.spec) e (of_spot a) → IsInExtent (direction_seen view.spec) e (of_spot b) → InBox s
  stroke_in n view corners e at reaches extent place stands mark a b s st in_a in_b box of_view =
      let m = measure_of sheet.scale sheet.decimals in
      let at_view : (k : ℕ) → s.view ≡ k → IsBoxOf sheet extents k box = λ k same. subst (λ (j : ℕ). IsBoxOf sheet extents j box) same of_view in
      let there = at_view n st.view_is in
      let same_place : there.place ≡ place = cc (there.stands, stands) in
      let same_extent : there.extent ≡ e = cc (there.reaches, reaches) in
      let boxed : box ≡ box_at m place e = there.is ∙ (λ i. box_at m (same_place i) (same_extent i)) in
      let seen : of_dir place.d ≡ direction_seen view.spec = placed.direction n view place at stands in
      let put = λ (p : Spot) (within : IsInExtent (direction_seen view.spec) e (of_spot p)) (x y : _) (shown : IsShownAt sheet place (of_spot p) x y).
      subst (λ (q : Box). IsInBox q x y) (sym boxed) (shown_in_box sheet place e (of_spot p) p.positive (subst (λ (v : Triple). IsInExtent v e (of_spot p)) (sym seen) within) x y shown) in
      record { first = put a in_a s.x1 s.y1 st.first; second = put b in_b s.x2 s.y2 st.second }

  -- what stands at a place of a list stands at the next place of the list before
  next : {X : Type 0} (n : ℕ) (all xs : List X) (x : X) → ((i : ℕ) (y : X) → slice_get (x ∷ xs) i ≡ Some y → slice_get all (n + i) ≡ Some y) → (i : ℕ) (y : X) → slice_get xs i ≡ Some y → slice_get all (suc n + i) ≡ Some y
  next n all xs x at i y there = subst (λ (k : ℕ). slice_get all k ≡ Some y) (let z : n + suc i ≡ suc n + i = omega arith in z) (at (suc i) y there)

  first : {X : Type 0} (n : ℕ) (all xs : List X) (x : X) → ((i : ℕ) (y : X) → slice_get (x ∷ xs) i ≡ Some y → slice_get all (n + i) ≡ Some y) → slice_get all n ≡ Some x
  first n all xs x at = subst (λ (k : ℕ). slice_get all k ≡ Some x) (let z : n + 0 ≡ n = omega arith in z) (at 0 x refl)

  module _ (solid : Solid) (crease : Crease) (cuts : List Plane) (spacing : ℕ) where
    abbrev corners : List Corner
    corners = (solid_part solid).corners

    -- those of one view
    view_in : (n : ℕ) (asked : JobView) (view : ViewDrawing) (e : Extent) (strokes : List Stroke) → slice_get views n ≡ Some asked → slice_get extents n ≡ Some e → IsExtent (direction_seen asked.spec) corners e
        → ShowsJobView solid crease cuts spacing asked view → AreStrokesOf sheet n view strokes → All InBox strokes
    view_in n asked view e strokes at reaches extent shows are =
        subst (λ (ys : List Stroke). All InBox ys) (sym are.together)
        (All-append InBox are.of_pieces are.of_hatches
        (λ k z within.
        let y = get_or are.of_pieces k z in
        let (m, listed, on) = zip_right (IsStrokeOn sheet n) view.pieces.items are.of_pieces are.pieces y (Contains-get_or are.of_pieces k z within) in
        let (place, stands, st) = on in
        let ends = pieces_in asked.spec _ (solid_part solid) cuts view.pieces.items shows.right e extent m listed in
        stroke_in n asked corners e at reaches extent place stands _ m.a m.b y st ends.first ends.second)
        (λ k z within.
        let y = get_or are.of_hatches k z in
        let (x, listed, on) = zip_right (IsHatchStrokeOn sheet n) view.hatches.items are.of_hatches are.hatches y (Contains-get_or are.of_hatches k z within) in
        let (place, stands, st) = on in
        let ends = hatches_in asked.spec spacing solid view.hatches.items shows.hatched e extent x listed in
        stroke_in n asked corners e at reaches extent place stands _ x.a x.b y st ends.0 ends.1))

    -- and of all views from some number on
    views_in : (n : ℕ) (asked : List JobView) (shown : List ViewDrawing) (reached : List Extent) (strokes : List Stroke)
        → ((i : ℕ) (v : JobView) → slice_get asked i ≡ Some v → slice_get views (n + i) ≡ Some v) → ((i : ℕ) (e : Extent) → slice_get reached i ≡ Some e → slice_get extents (n + i) ≡ Some e)
        → AllZip (λ (v : JobView) (e : Extent). IsExtent (direction_seen v.spec) corners e) asked reached → AllZip (ShowsJobView solid crease cuts spacing) asked shown
        → AreStrokesFrom sheet n shown strokes → All InBox strokes
    views_in n [] [] reached strokes at there reach shows is_empty = subst (λ (ys : List Stroke). All InBox ys) (sym is_empty) (All-nil InBox)
    views_in n [] (w ∷ shown) reached strokes at there reach shows are = absurd shows
    views_in n (v ∷ asked) [] reached strokes at there reach shows are = absurd shows
    views_in n (v ∷ asked) (w ∷ shown) [] strokes at there reach shows are = absurd reach
    views_in n (v ∷ asked) (w ∷ shown) (e ∷ reached) strokes at there (extent, reach) (shows, later) (here, rest, parted, of_view, after) =
        subst (λ (ys : List Stroke). All InBox ys) (sym parted)
        (All-append InBox here rest (view_in n v w e here (first n views asked v at) (first n extents reached e there) extent shows of_view)
        (views_in (suc n) asked shown reached rest (next n views asked v at) (next n extents reached e there) reach later after))

    pub strokes_in_boxes : AreExtents corners views extents → (shown : List ViewDrawing) → AllZip (ShowsJobView solid crease cuts spacing) views shown → (strokes : List Stroke) → AreStrokes sheet shown strokes → StandInBoxes sheet extents strokes
    strokes_in_boxes reach shown shows strokes are = views_in 0 views shown extents strokes (same views) (same extents) reach shows are
      where
        same : {X : Type 0} (all : List X) (i : ℕ) (y : X) → slice_get all i ≡ Some y → slice_get all (0 + i) ≡ Some y
        same all i y there = subst (λ (k : ℕ). slice_get all k ≡ Some y) (let z : i ≡ 0 + i = omega arith in z) there
