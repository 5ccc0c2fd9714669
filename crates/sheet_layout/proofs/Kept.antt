-- What a layout keeps: its boxes with their sides are apart and in the frame, and each view has its place.
use Rattle.std.proofs.Common.{◌≡◌, ◌≢◌, ◌⊎◌, inl, inr, ℕ, ◌+◌, ◌-◌, ◌<◌, ◌≤◌, List, length, slice_get, Some, Option, Bool, true, false, refl, sym, subst, ap, ◌∙◌, arith}
use Rattle.std.specs.Prelude.{ℤ, pos, ◌+ℤ◌, ◌-ℤ◌, ◌≤ℤ◌, unsigned_abs, nat_le, int_lt, not, ◌==◌, ◌&&◌, ◌||◌, T}
use Rattle.std.proofs.lemmas.Bool.{and_parts, or_cases, leb-true, eqb-true, eq-eqb, cases_lt}
use Rattle.std.proofs.lemmas.Int.{ints, by_lt_z}
use Rattle.std.proofs.lemmas.Slice.Zip.{AllZip-long}
use Rattle.lattice.specs.declared.points.Corner.{Corner}
use Rattle.lattice.specs.Points.{of_dir}
use Rattle.lattice.specs.Triple.{Triple, right_axis, up_axis}
use Rattle.job_file.specs.Seen.{direction_seen}
use Rattle.job_file.specs.declared.job.Job.{Job}
use Rattle.job_file.specs.declared.job.Paper.{Paper}
use Rattle.job_file.specs.declared.job.Paper.TheVariants.{A0, A1, A2, A3, A4}
use Rattle.job_file.specs.declared.job.Scale.{Scale}
use Rattle.job_file.specs.declared.view.JobView.{JobView}
use Rattle.sheet_plan.proofs.Listed.{zip_at}
use Rattle.sheet_plan.proofs.Ordered.{length_ordered}
use Rattle.sheet_plan.proofs.Scales.{IsBounded, scale_bounds}
use Rattle.sheet_plan.proofs.Taken.{one_box}
use Rattle.sheet_plan.specs.Boxes.{Box, box_at}
use Rattle.sheet_plan.specs.Extents.{AreExtents, IsExtent}
use Rattle.sheet_plan.specs.Layout.{across_at, upward_at}
use Rattle.sheet_plan.specs.Numbers.{Measure, measure_of, square_of}
use Rattle.sheet_plan.specs.Sheets.{IsPlaceOf}
use Rattle.sheet_plan.specs.declared.bounds.Extent.{Extent}
use Rattle.sheet_plan.specs.declared.sheet.Spread.{Spread}
use Rattle.sheet_layout.specs.Anchors.{is_equal}
use Rattle.sheet_layout.specs.Blocks.{in_column, in_row}
use Rattle.sheet_layout.specs.Keeps.{AreApart, AreInLine, HasPlaceForEach, IsInFrame, IsOnSide, KeepsApart, KeepsInLine, KeepsSides, StandsInFrame, TakesRoom, with_sides}
use Rattle.sheet_layout.specs.Layouts.{Case, IsLaidOut, IsOriginOf, IsSheetBy, IsThrough, fits, plans_for, room_on, rows_on, seats_on, standings_on}
use Rattle.sheet_layout.specs.Rooms.{height_of, room_of, width_of}
use Rattle.sheet_layout.specs.Seats.{level_side, seat_of, side_or_least, width_at}
use Rattle.sheet_layout.specs.Trials.{all_pairs_well, are_apart, are_in_line, are_level, are_upright, has_room, is_beside, is_inside, is_on_side, is_side_of, rect_of, share_block, stand_well, stands_beside}
use Rattle.std.specs.List.{list_all}
use Rattle.sheet_layout.specs.declared.cells.Beside.{Beside}
use Rattle.sheet_layout.specs.declared.cells.Cell.{Cell}
use Rattle.sheet_layout.specs.declared.cells.Side.{Side}
use Rattle.sheet_layout.specs.declared.cells.Side.TheVariants.{Left, Right, Top, Bottom}
use Rattle.sheet_layout.specs.declared.layout.Layout.{Layout}
use Rattle.sheet_layout.specs.declared.layout.Wish.{Wish}
use Rattle.sheet_layout.specs.declared.plans.Plan.{Plan}
use Rattle.sheet_layout.specs.declared.rects.Standing.{Standing}
use Rattle.sheet_layout.specs.declared.rooms.Room.{Room}
use Rattle.sheet_layout.specs.declared.seats.Seat.{Seat}
use Rattle.sheet_layout.specs.declared.sides.Sides.{Sides}
use Rattle.sheet_layout.proofs.Standings.{IsSeatAt, find_true, list_all_get, pairs_get, seat_at, seats_long, standing_at, standings_long, zip_left}

-- ---- numbers
begins : (x0 x f a : ℤ) → x0 ≡ x -ℤ f → a ≡ f → x0 +ℤ a ≡ x
begins x0 x f a e h = omega (arith, ints)

ends : (x0 x f a b : ℤ) (w : ℕ) → x0 ≡ x -ℤ f → a ≡ f → a ≤ℤ b → w ≡ unsigned_abs (b -ℤ a) → x0 +ℤ b ≡ x +ℤ pos w
ends x0 x f a b w e h k g = omega (arith, ints)

tops : (y0 y f a : ℤ) → y0 ≡ y +ℤ f → a ≡ f → y0 -ℤ a ≡ y
tops y0 y f a e h = omega (arith, ints)

bottoms : (y0 y f a b : ℤ) (w : ℕ) → y0 ≡ y +ℤ f → a ≡ f → b ≤ℤ a → w ≡ unsigned_abs (a -ℤ b) → y0 -ℤ b ≡ y +ℤ pos w
bottoms y0 y f a b w e h k g = omega (arith, ints)

wide : (left right x : ℤ) (w : ℕ) → left ≡ x → right ≡ x +ℤ pos w → unsigned_abs (right -ℤ left) ≡ w
wide left right x w e h = omega (arith, ints)

before : (left : ℤ) (x side least : ℕ) → left ≡ pos x → 0 < least → least ≤ x - side → left -ℤ pos side ≡ pos (x - side)
before left x side least e h k = omega (arith, ints)

beyond : (right : ℤ) (x w side : ℕ) → right ≡ pos x +ℤ pos w → right +ℤ pos side ≡ pos (x + (w + side))
beyond right x w side e = omega (arith, ints)

-- ---- a box and its rectangle
-- the box with its sides is that of the view that stands there
pub record IsRectOf (t : Standing) (room : Box) : Type 0 where
  pub left : room.left ≡ pos (rect_of t).left
  pub right : room.right ≡ pos (rect_of t).right
  pub top : room.top ≡ pos (rect_of t).top
  pub bottom : room.bottom ≡ pos (rect_of t).bottom

-- where its sides are, in a room that begins somewhere
pub record IsWithin (room : Room) (t : Standing) : Type 0 where
  pub left : room.left ≤ (rect_of t).left
  pub right : (rect_of t).right ≤ room.right
  pub top : room.top ≤ (rect_of t).top
  pub bottom : (rect_of t).bottom ≤ room.bottom

within_of : (room : Room) (t : Standing) → is_inside room t ≡ true → IsWithin room t
within_of room t h =
    let one = and_parts (nat_le room.left (rect_of t).left) _ h in
    let two = and_parts (nat_le (rect_of t).right room.right) _ one.1 in
    let three = and_parts (nat_le room.top (rect_of t).top) _ two.1 in
    record {
      left = leb-true _ _ one.0;
      right = leb-true _ _ two.0;
      top = leb-true _ _ three.0;
      bottom = leb-true _ _ three.1;
    }

module _ (m : Measure) (low : 1 ≤ m.den) (high : m.den ≤ 100) (few : m.decimals ≤ 6) (place : Spread) (t : Standing) (origin : IsOriginOf t place) (shrunk : Bool) (cell : Cell) (a : Sides) (e : Extent)
    (seat_is : t.seat ≡ seat_of shrunk m cell a e) where
  abbrev d : Triple
  d = of_dir place.d

  same_d : d ≡ of_dir e.d
  same_d = origin.direction ∙ ap (λ (s : Seat). of_dir s.d) seat_is

  from_left : across_at m d e.u_min ≡ t.seat.from_left
  from_left = ap (λ (v : Triple). across_at m v e.u_min) same_d ∙ sym (ap (λ (s : Seat). s.from_left) seat_is)

  above : upward_at m d e.v_max ≡ t.seat.above
  above = ap (λ (v : Triple). upward_at m v e.v_max) same_d ∙ sym (ap (λ (s : Seat). s.above) seat_is)

  width : t.seat.width ≡ unsigned_abs (across_at m d e.u_max -ℤ across_at m d e.u_min)
  width = ap (λ (s : Seat). s.width) seat_is ∙ sym (ap (λ (v : Triple). unsigned_abs (across_at m v e.u_max -ℤ across_at m v e.u_min)) same_d)

  height : t.seat.height ≡ unsigned_abs (upward_at m d e.v_max -ℤ upward_at m d e.v_min)
  height = ap (λ (s : Seat). s.height) seat_is ∙ sym (ap (λ (v : Triple). unsigned_abs (upward_at m v e.v_max -ℤ upward_at m v e.v_min)) same_d)

  abbrev box : Box
  box = box_at m place e

  left_is : box.left ≡ pos t.x
  left_is = begins place.x0 (pos t.x) t.seat.from_left (across_at m d e.u_min) origin.x from_left

  right_is : box.right ≡ pos t.x +ℤ pos t.seat.width
  right_is = ends place.x0 (pos t.x) t.seat.from_left (across_at m d e.u_min) (across_at m d e.u_max) t.seat.width origin.x from_left
      (length_ordered m (square_of (right_axis d)) e.u_min e.u_max low high few e.across) width

  top_is : box.top ≡ pos t.y
  top_is = tops place.y0 (pos t.y) t.seat.above (upward_at m d e.v_max) origin.y above

  bottom_is : box.bottom ≡ pos t.y +ℤ pos t.seat.height
  bottom_is = bottoms place.y0 (pos t.y) t.seat.above (upward_at m d e.v_max) (upward_at m d e.v_min) t.seat.height origin.y above
      (length_ordered m (square_of (up_axis d)) e.v_min e.v_max low high few e.upward) height

  width_is : unsigned_abs (box.right -ℤ box.left) ≡ width_at m e
  width_is = wide box.left box.right (pos t.x) t.seat.width left_is right_is ∙ ap (λ (s : Seat). s.width) seat_is

  left_side : level_side shrunk a.left a.width (unsigned_abs (box.right -ℤ box.left)) ≡ t.seat.left
  left_side = ap (level_side shrunk a.left a.width) width_is ∙ sym (ap (λ (s : Seat). s.left) seat_is)

  right_side : level_side shrunk a.right a.width (unsigned_abs (box.right -ℤ box.left)) ≡ t.seat.right
  right_side = ap (level_side shrunk a.right a.width) width_is ∙ sym (ap (λ (s : Seat). s.right) seat_is)

  top_side : side_or_least shrunk a.top ≡ t.seat.top
  top_side = sym (ap (λ (s : Seat). s.top) seat_is)

  bottom_side : side_or_least shrunk a.bottom ≡ t.seat.bottom
  bottom_side = sym (ap (λ (s : Seat). s.bottom) seat_is)

  pub rect_is : (room : Room) → 0 < room.left → 0 < room.top → IsWithin room t → IsRectOf t (with_sides shrunk a box)
  rect_is room some_left some_top inside = record {
    left = ap (λ (n : ℕ). box.left -ℤ pos n) left_side ∙ before box.left t.x t.seat.left room.left left_is some_left inside.left;
    right = ap (λ (n : ℕ). box.right +ℤ pos n) right_side ∙ beyond box.right t.x t.seat.width t.seat.right right_is;
    top = ap (λ (n : ℕ). box.top -ℤ pos n) top_side ∙ before box.top t.y t.seat.top room.top top_is some_top inside.top;
    bottom = ap (λ (n : ℕ). box.bottom +ℤ pos n) bottom_side ∙ beyond box.bottom t.y t.seat.height t.seat.bottom bottom_is;
  }

at_most : (a b : ℤ) (m n : ℕ) → a ≡ pos m → b ≡ pos n → m ≤ n → a ≤ℤ b
at_most a b m n e h k = omega (arith, ints)

from_least : (a : ℤ) (m least : ℕ) → a ≡ pos m → least ≤ m → pos least ≤ℤ a
from_least a m least e h = omega (arith, ints)

to_most : (a side : ℤ) (m length off keep : ℕ) → a ≡ pos m → m ≤ length - off → side ≡ pos length → 21000 ≤ length → keep ≤ off → off ≤ 21000 → a ≤ℤ (side -ℤ pos keep)
to_most a side m length off keep e h k wide less few = omega (arith, ints)

other : (i j : ℕ) → i ≢ j → j ≤ i → j < i
other i j differ more = by (cases_lt j i)
  where
    by : (j < i) ⊎ (i ≤ j) → j < i
    by (inl less) = less
    by (inr same) = absurd (differ (omega arith))

not_true : (b : Bool) → not b ≡ true → b ≡ false
not_true true h = absurd (cc)
not_true false h = refl

neither : (a b : Bool) → (a || b) ≡ true → a ≡ false → b ≡ false → ⊥
neither true b h e k = absurd (cc)
neither false true h e k = absurd (cc)
neither false false h e k = absurd (cc)

same_block : (m n : ℕ) → m ≡ n → not (m == n) ≡ true → ⊥
same_block m n e h = let same = eq-eqb m n e in let no = not_true (m == n) h in absurd (cc)

by_int : (a b : ℤ) → int_lt a b ≡ false → int_lt b a ≡ false → a ≡ b
by_int a b h k = by_lt_z a b (λ l. absurd (subst T h l.lt)) (λ least. by_lt_z b a (λ l. absurd (subst T k l.lt)) (λ most. both a b least most))
  where
    both : (a b : ℤ) → b ≤ℤ a → a ≤ℤ b → a ≡ b
    both a b h k = omega (arith, ints)

-- two views of one block that are in line
equal_is : (a b : ℤ) → is_equal a b ≡ true → a ≡ b
equal_is a b h = let parts = and_parts (not (int_lt a b)) (not (int_lt b a)) h in by_int a b (not_true (int_lt a b) parts.0) (not_true (int_lt b a) parts.1)

lined : (t u : Standing) (s r : Seat) (a b : Spread) → IsOriginOf t a → IsOriginOf u b → t.seat ≡ s → u.seat ≡ r → s.cell.block ≡ r.cell.block → are_in_line t u ≡ true → AreInLine s r a b
lined t u s r a b o q first second share h = go (or_cases (not (share_block t u)) _ h)
  where
    block : t.seat.cell.block ≡ u.seat.cell.block
    block = ap (λ (z : Seat). z.cell.block) first ∙ share ∙ sym (ap (λ (z : Seat). z.cell.block) second)

    lines : (are_level t u ≡ true) × (are_upright t u ≡ true) → AreInLine s r a b
    lines (level, upright) = record {
      level = λ h k. level_by (or_cases (in_column t.seat.cell.line || in_column u.seat.cell.line) _ level)
          (ap (λ (z : Seat). in_column z.cell.line) first ∙ h) (ap (λ (z : Seat). in_column z.cell.line) second ∙ k);
      upright = λ h k. upright_by (or_cases (in_row t.seat.cell.line || in_row u.seat.cell.line) _ upright)
          (ap (λ (z : Seat). in_row z.cell.line) first ∙ h) (ap (λ (z : Seat). in_row z.cell.line) second ∙ k);
    }
      where
        level_by : ((in_column t.seat.cell.line || in_column u.seat.cell.line) ≡ true) ⊎ (((t.y == u.y) && is_equal t.seat.above u.seat.above) ≡ true)
            → in_column t.seat.cell.line ≡ false → in_column u.seat.cell.line ≡ false → a.y0 ≡ b.y0
        level_by (inl e) h k = absurd (neither _ _ e h k)
        level_by (inr e) h k =
            let parts = and_parts (t.y == u.y) _ e in
            o.y ∙ ap (λ (n : ℕ). pos n +ℤ t.seat.above) (eqb-true t.y u.y parts.0) ∙ ap (λ (z : ℤ). pos u.y +ℤ z) (equal_is _ _ parts.1) ∙ sym q.y

        upright_by : ((in_row t.seat.cell.line || in_row u.seat.cell.line) ≡ true) ⊎ (((t.x == u.x) && is_equal t.seat.from_left u.seat.from_left) ≡ true)
            → in_row t.seat.cell.line ≡ false → in_row u.seat.cell.line ≡ false → a.x0 ≡ b.x0
        upright_by (inl e) h k = absurd (neither _ _ e h k)
        upright_by (inr e) h k =
            let parts = and_parts (t.x == u.x) _ e in
            o.x ∙ ap (λ (n : ℕ). pos n -ℤ t.seat.from_left) (eqb-true t.x u.x parts.0) ∙ ap (λ (z : ℤ). pos u.x -ℤ z) (equal_is _ _ parts.1) ∙ sym q.x

    go : (not (share_block t u) ≡ true) ⊎ ((are_level t u && are_upright t u) ≡ true) → AreInLine s r a b
    go (inl apart) = absurd (same_block _ _ block apart)
    go (inr both) = lines (and_parts (are_level t u) (are_upright t u) both)

turned_line : (s t : Seat) (a b : Spread) → AreInLine s t a b → AreInLine t s b a
turned_line s t a b l = record { level = λ h k. sym (l.level k h); upright = λ h k. sym (l.upright k h) }

-- ---- a layout
-- papers are large enough for both rooms
least_width : (paper : Paper) (portrait : Bool) → 21000 ≤ width_of paper portrait
least_width A0 true = omega arith
least_width A0 false = omega arith
least_width A1 true = omega arith
least_width A1 false = omega arith
least_width A2 true = omega arith
least_width A2 false = omega arith
least_width A3 true = omega arith
least_width A3 false = omega arith
least_width A4 true = omega arith
least_width A4 false = omega arith

least_height : (paper : Paper) (portrait : Bool) → 21000 ≤ height_of paper portrait
least_height A0 true = omega arith
least_height A0 false = omega arith
least_height A1 true = omega arith
least_height A1 false = omega arith
least_height A2 true = omega arith
least_height A2 false = omega arith
least_height A3 true = omega arith
least_height A3 false = omega arith
least_height A4 true = omega arith
least_height A4 false = omega arith

one_of : {A : Type 0} (x y z : A) (o : Option A) → o ≡ Some x → o ≡ Some y → x ≡ y
one_of x y z o e h = let both : Some x ≡ Some y = sym e ∙ h in cc

-- what stands well keeps what is asked
module _ (c : Case) (p : Plan) (corners : List Corner) (layout : Layout) (sheet : IsSheetBy c p layout.sheet) (shrunk : layout.shrunk ≡ p.shrunk)
    (reach : AreExtents corners c.job.views.items c.extents) (stands : stand_well (room_on c p) (standings_on c p) ≡ true) where
  abbrev all : List Standing
  all = standings_on c p

  abbrev m : Measure
  m = measure_of p.scale c.job.decimals

  bounds : IsBounded p.scale.num p.scale.den
  bounds = scale_bounds p.scale.num p.scale.den p.scale.listed

  inside : list_all (is_inside (room_on c p)) all ≡ true
  inside = (and_parts (list_all (is_inside (room_on c p)) all) _ stands).0

  pairs : all_pairs_well all ≡ true
  pairs = (and_parts (all_pairs_well all) _ (and_parts (list_all (is_inside (room_on c p)) all) _ stands).1).0

  besides : list_all (stands_beside all) all ≡ true
  besides = (and_parts (all_pairs_well all) _ (and_parts (list_all (is_inside (room_on c p)) all) _ stands).1).1

  -- a view that has a place stands there
  record IsViewAt (i : ℕ) (place : Spread) : Type 0 where
    pub standing : Standing
    pub at : slice_get all i ≡ Some standing
    pub origin : IsOriginOf standing place
    pub of_seat : slice_get (seats_on c p) i ≡ Some standing.seat
    pub seat : IsSeatAt p.shrunk m c.job.views.items c.sides c.extents i standing.seat

  view_at : (i : ℕ) (place : Spread) → IsPlaceOf layout.sheet i place → IsViewAt i place
  view_at i place there =
      let l = zip_left IsOriginOf all layout.sheet.places.items i place sheet.places there in
      let s = standing_at (room_on c p) (seats_on c p) (rows_on c p) (seats_on c p) i l.left l.at in
      let same : s.seat ≡ l.left.seat = sym (ap (λ (t : Standing). t.seat) s.is) in
      let here = s.of_seat ∙ ap Some same in
      record {
        standing = l.left;
        at = l.at;
        origin = l.holds;
        of_seat = here;
        seat = seat_at c.job.third p.shrunk m c.job.views.items p.kept 0 0 c.job.views.items c.through c.sides c.extents i l.left.seat here;
      }

  -- its box with its sides is that of what stands there
  record IsRoomAt (i : ℕ) (room : Box) : Type 0 where
    pub place : Spread
    pub there : IsPlaceOf layout.sheet i place
    pub view : IsViewAt i place
    pub rect : IsRectOf view.standing room

  room_at : (i : ℕ) (room : Box) → TakesRoom layout corners c.sides i room → IsRoomAt i room
  room_at i room k =
      let place = k.taken.place in
      let v = view_at i place k.taken.stands in
      let s = v.seat in
      let e = s.extent in
      let of_view : IsExtent (direction_seen s.view.spec) corners e = zip_at (λ (v : JobView) (e : Extent). IsExtent (direction_seen v.spec) corners e) c.job.views.items c.extents reach i s.view e s.of_view s.of_extent in
      let along : direction_seen s.view.spec ≡ of_dir place.d = sym of_view.direction ∙ sym (v.origin.direction ∙ ap (λ (z : Seat). of_dir z.d) s.is) in
      let extent : IsExtent (of_dir place.d) corners e = subst (λ (d : Triple). IsExtent d corners e) along of_view in
      let one = one_box (measure_of layout.sheet.scale layout.sheet.decimals) place corners k.taken.extent e k.taken.reaches extent in
      let scaled : box_at (measure_of layout.sheet.scale layout.sheet.decimals) place e ≡ box_at m place e =
      ap (λ (z : Scale). box_at (measure_of z layout.sheet.decimals) place e) sheet.scale ∙ ap (λ (n : ℕ). box_at (measure_of p.scale n) place e) sheet.decimals in
      let box : k.box ≡ box_at m place e = k.taken.is ∙ one ∙ scaled in
      let asked : k.asked ≡ s.asked = one_of k.asked s.asked k.asked (slice_get c.sides i) k.listed s.of_sides in
      let is : room ≡ with_sides p.shrunk s.asked (box_at m place e) =
      k.is ∙ ap (λ (b : Bool). with_sides b k.asked k.box) shrunk ∙ ap (λ (a : Sides). with_sides p.shrunk a k.box) asked ∙ ap (with_sides p.shrunk s.asked) box in
      let within = within_of (room_on c p) v.standing (list_all_get (is_inside (room_on c p)) all i v.standing inside v.at) in
      record {
        place = place;
        there = k.taken.stands;
        view = v;
        rect = subst (IsRectOf v.standing) (sym is) (rect_is m bounds.den_least bounds.den_greatest c.job.few_decimals place v.standing v.origin p.shrunk s.cell s.asked e s.is (room_on c p) (omega arith) (omega arith) within);
      }

  -- ---- apart
  clear : (t u : Standing) (a b : Box) → IsRectOf t a → IsRectOf u b → are_apart t u ≡ true → AreApart a b
  clear t u a b r q h = first (or_cases (nat_le (rect_of t).right (rect_of u).left) _ h)
    where
      fourth : (nat_le (rect_of t).bottom (rect_of u).top ≡ true) ⊎ (nat_le (rect_of u).bottom (rect_of t).top ≡ true) → AreApart a b
      fourth (inl k) = inr (inr (inl (at_most _ _ _ _ r.bottom q.top (leb-true _ _ k))))
      fourth (inr k) = inr (inr (inr (at_most _ _ _ _ q.bottom r.top (leb-true _ _ k))))

      second : (nat_le (rect_of u).right (rect_of t).left ≡ true) ⊎ ((nat_le (rect_of t).bottom (rect_of u).top || nat_le (rect_of u).bottom (rect_of t).top) ≡ true) → AreApart a b
      second (inl k) = inr (inl (at_most _ _ _ _ q.right r.left (leb-true _ _ k)))
      second (inr k) = fourth (or_cases (nat_le (rect_of t).bottom (rect_of u).top) _ k)

      first : (nat_le (rect_of t).right (rect_of u).left ≡ true)
          ⊎ ((nat_le (rect_of u).right (rect_of t).left || (nat_le (rect_of t).bottom (rect_of u).top || nat_le (rect_of u).bottom (rect_of t).top)) ≡ true) → AreApart a b
      first (inl k) = inl (at_most _ _ _ _ r.right q.left (leb-true _ _ k))
      first (inr k) = second (or_cases (nat_le (rect_of u).right (rect_of t).left) _ k)

  turned : (a b : Box) → AreApart a b → AreApart b a
  turned a b (inl h) = inr (inl h)
  turned a b (inr (inl h)) = inl h
  turned a b (inr (inr (inl h))) = inr (inr (inr h))
  turned a b (inr (inr (inr h))) = inr (inr (inl h))

  well_of : (i j : ℕ) (t u : Standing) → i < j → slice_get all i ≡ Some t → slice_get all j ≡ Some u → (are_apart t u ≡ true) × (are_in_line t u ≡ true)
  well_of i j t u less at there = and_parts (are_apart t u) (are_in_line t u) (pairs_get all i j t u less pairs at there)

  pub keeps_apart : KeepsApart corners c.sides layout
  keeps_apart i j a b differ k l = go (room_at i a k) (room_at j b l) (cases_lt i j)
    where
      go : IsRoomAt i a → IsRoomAt j b → (i < j) ⊎ (j ≤ i) → AreApart a b
      go r q (inl less) = clear r.view.standing q.view.standing a b r.rect q.rect (well_of i j r.view.standing q.view.standing less r.view.at q.view.at).0
      go r q (inr more) = turned b a (clear q.view.standing r.view.standing b a q.rect r.rect (well_of j i q.view.standing r.view.standing (other i j differ more) q.view.at r.view.at).0)

  -- ---- in the frame
  pub in_frame : StandsInFrame corners c.sides layout
  in_frame i room k =
      let r = room_at i room k in
      let t = r.view.standing in
      let within = within_of (room_on c p) t (list_all_get (is_inside (room_on c p)) all i t inside r.view.at) in
      go p.beside refl within r.rect
    where
      go : (beside : Bool) → p.beside ≡ beside → {t : Standing} → IsWithin (room_on c p) t → IsRectOf t room → IsInFrame layout.sheet room
      go beside is {t} within rect = by_room beside (subst (λ (b : Bool). IsWithin (room_of p.paper c.job.portrait b) t) is within)
        where
          by_room : (beside : Bool) → IsWithin (room_of p.paper c.job.portrait beside) t → IsInFrame layout.sheet room
          by_room true w = record {
            left = from_least _ _ _ rect.left w.left;
            right = to_most _ _ _ _ 19000 1000 rect.right w.right sheet.width (least_width p.paper c.job.portrait) (omega arith) (omega arith);
            top = from_least _ _ _ rect.top w.top;
            bottom = to_most _ _ _ _ 1000 1000 rect.bottom w.bottom sheet.height (least_height p.paper c.job.portrait) (omega arith) (omega arith);
            clear = inl (to_most _ _ _ _ 19000 19000 rect.right w.right sheet.width (least_width p.paper c.job.portrait) (omega arith) (omega arith));
          }
          by_room false w = record {
            left = from_least _ _ _ rect.left w.left;
            right = to_most _ _ _ _ 1000 1000 rect.right w.right sheet.width (least_width p.paper c.job.portrait) (omega arith) (omega arith);
            top = from_least _ _ _ rect.top w.top;
            bottom = to_most _ _ _ _ 3200 1000 rect.bottom w.bottom sheet.height (least_height p.paper c.job.portrait) (omega arith) (omega arith);
            clear = inr (to_most _ _ _ _ 3200 3200 rect.bottom w.bottom sheet.height (least_height p.paper c.job.portrait) (omega arith) (omega arith));
          }

  -- ---- in line
  pub in_line : KeepsInLine (seats_on c p) layout
  in_line i j s t a b differ s_at t_at share a_at b_at = go (view_at i a a_at) (view_at j b b_at) (cases_lt i j)
    where
      go : IsViewAt i a → IsViewAt j b → (i < j) ⊎ (j ≤ i) → AreInLine s t a b
      go v w order =
          let first : v.standing.seat ≡ s = one_of v.standing.seat s s _ v.of_seat s_at in
          let second : w.standing.seat ≡ t = one_of w.standing.seat t t _ w.of_seat t_at in
          by_order order first second
        where
          by_order : (i < j) ⊎ (j ≤ i) → v.standing.seat ≡ s → w.standing.seat ≡ t → AreInLine s t a b
          by_order (inl less) first second = lined v.standing w.standing s t a b v.origin w.origin first second share (well_of i j v.standing w.standing less v.at w.at).1
          by_order (inr more) first second = turned_line t s b a (lined w.standing v.standing t s b a w.origin v.origin second first (sym share) (well_of j i w.standing v.standing (other i j differ more) w.at v.at).1)

  -- ---- on their sides
  side_is : (side : Side) (t u : Standing) (a b : Box) → IsRectOf t a → IsRectOf u b → is_on_side side t u ≡ true → IsOnSide side a b
  side_is Left t u a b r q h = at_most _ _ _ _ q.right r.left (leb-true _ _ h)
  side_is Right t u a b r q h = at_most _ _ _ _ r.right q.left (leb-true _ _ h)
  side_is Top t u a b r q h = at_most _ _ _ _ q.bottom r.top (leb-true _ _ h)
  side_is Bottom t u a b r q h = at_most _ _ _ _ r.bottom q.top (leb-true _ _ h)

  pub on_sides : KeepsSides corners c.sides (seats_on c p) layout
  on_sides i s at a b s_at stands_at k l = go (room_at at.view a k) (room_at i b l)
    where
      go : IsRoomAt at.view a → IsRoomAt i b → IsOnSide at.side a b
      go r q =
          let t = r.view.standing in
          let u = q.view.standing in
          let same : u.seat ≡ s = one_of u.seat s s _ q.view.of_seat s_at in
          let own : stands_beside all u ≡ true = list_all_get (stands_beside all) all i u besides q.view.at in
          let beside : u.seat.cell.beside ≡ Some at = ap (λ (z : Seat). z.cell.beside) same ∙ stands_at in
          let here : is_side_of at.side (slice_get all at.view) u ≡ true = sym (ap (λ (o : Option Beside). is_beside all o u) beside) ∙ own in
          side_is at.side t u a b r.rect q.rect (sym (ap (λ (o : Option Standing). is_side_of at.side o u) r.view.at) ∙ here)

  -- ---- places
  module _ (through : length c.through ≡ length c.job.views.items) (sides : length c.sides ≡ length c.job.views.items) where
    pub has_places : HasPlaceForEach c.job.views.items layout
    has_places = record {
      count = AllZip-long IsOriginOf all layout.sheet.places.items sheet.places ∙ standings_long (room_on c p) (seats_on c p) (rows_on c p) (seats_on c p)
          ∙ seats_long c.job.third p.shrunk m c.job.views.items p.kept 0 0 c.job.views.items c.through c.sides c.extents through sides
          (AllZip-long (λ (v : JobView) (e : Extent). IsExtent (direction_seen v.spec) corners e) c.job.views.items c.extents reach);
      direction = along;
    }
      where
        along : (n : ℕ) (view : JobView) (place : Spread) → slice_get c.job.views.items n ≡ Some view → IsPlaceOf layout.sheet n place → of_dir place.d ≡ direction_seen view.spec
        along n view place listed there =
            let v = view_at n place there in
            let s = v.seat in
            let same : s.view ≡ view = one_of s.view view view _ s.of_view listed in
            let of_view : IsExtent (direction_seen s.view.spec) corners s.extent = zip_at (λ (v : JobView) (e : Extent). IsExtent (direction_seen v.spec) corners e) c.job.views.items c.extents reach n s.view s.extent s.of_view s.of_extent in
            v.origin.direction ∙ ap (λ (z : Seat). of_dir z.d) s.is ∙ of_view.direction ∙ ap (λ (w : JobView). direction_seen w.spec) same

-- ---- of a job and a part
module _ (job : Job) (corners : List Corner) (sides : List Sides) (w : Wish) (layout : Layout) (h : IsLaidOut job corners sides w layout) where
  abbrev c : Case
  c = h.laid

  well : fits c h.plan ≡ true
  well = find_true (fits c) (plans_for w job) h.plan h.first

  stands : stand_well (room_on c h.plan) (standings_on c h.plan) ≡ true
  stands = (and_parts (has_room (room_on c h.plan) (rows_on c h.plan)) _ well).1

  views : job.views.items ≡ c.job.views.items
  views = sym (ap (λ (j : Job). j.views.items) h.of_job.job_is)

  reach : AreExtents corners c.job.views.items c.extents
  reach = subst (λ (vs : List JobView). AreExtents corners vs c.extents) views h.of_job.reach

  pub laid_apart : KeepsApart corners sides layout
  laid_apart = subst (λ (ss : List Sides). KeepsApart corners ss layout) h.of_job.sides_are (keeps_apart c h.plan corners layout h.sheet h.shrunk reach stands)

  pub laid_in_frame : StandsInFrame corners sides layout
  laid_in_frame = subst (λ (ss : List Sides). StandsInFrame corners ss layout) h.of_job.sides_are (in_frame c h.plan corners layout h.sheet h.shrunk reach stands)

  pub laid_in_line : KeepsInLine (seats_on c h.plan) layout
  laid_in_line = in_line c h.plan corners layout h.sheet h.shrunk reach stands

  pub laid_on_sides : KeepsSides corners sides (seats_on c h.plan) layout
  laid_on_sides = subst (λ (ss : List Sides). KeepsSides corners ss (seats_on c h.plan) layout) h.of_job.sides_are (on_sides c h.plan corners layout h.sheet h.shrunk reach stands)

  pub laid_places : length sides ≡ length job.views.items → HasPlaceForEach job.views.items layout
  laid_places as_many =
      let through : length c.through ≡ length job.views.items = AllZip-long (λ (v : JobView) (t : Bool). IsThrough corners v.spec t) job.views.items c.through h.of_job.through in
      let count : length job.views.items ≡ length c.job.views.items = ap (λ (vs : List JobView). length vs) views in
      subst (λ (vs : List JobView). HasPlaceForEach vs layout) (sym views)
      (has_places c h.plan corners layout h.sheet h.shrunk reach stands (through ∙ count) (ap (λ (ss : List Sides). length ss) h.of_job.sides_are ∙ as_many ∙ count))
