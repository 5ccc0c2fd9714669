-- A mark is far within the range of numbers.
use Rattle.std.proofs.Common.{◌+◌, ◌<◌, ◌≤◌, ◌^◌, Bool, true, false, not, ℕ, List, All, get_or, arith, unsigned_abs}
use Rattle.std.specs.Prelude.{ℤ, pos}
use Rattle.std.proofs.lemmas.Int.{ints}
use Rattle.std.proofs.lemmas.List.Elements.{All-map}
use Rattle.cut_marks.specs.Figures.{ahead, base_at, base_beside, begin_of, end_on, far_side, level_end, mark_of, marks_in, near_side, out_of, upright_end}
use Rattle.cut_marks.specs.Ranges.{IsEndInRange, IsMarkInRange}
use Rattle.cut_marks.specs.Traces.{is_forward, is_upright}
use Rattle.cut_marks.specs.declared.ways.Lane.{Lane}
use Rattle.cut_marks.specs.declared.ways.Lane.TheVariants.{Inner, Middle, Outer}
use Rattle.cut_marks.specs.declared.ways.Laned.{Laned}
use Rattle.sheet_plan.specs.declared.boxes.ViewBox.{ViewBox}

begins_near : (lane : Lane) → unsigned_abs (begin_of lane) ≤ 3000
begins_near Inner = omega arith
begins_near Middle = omega arith
begins_near Outer = omega arith

ends_near : (lane : Lane) → unsigned_abs (out_of lane) ≤ 3000
ends_near Inner = omega arith
ends_near Middle = omega arith
ends_near Outer = omega arith

-- a step from a number of the sheet, and two
once : (f : Bool) (a by : ℤ) → unsigned_abs a < 2 ^ 61 → unsigned_abs by ≤ 3000 → unsigned_abs (ahead f a by) < 2 ^ 61 + 3000
once true a by h k = omega (arith, ints)
once false a by h k = omega (arith, ints)

twice : (f : Bool) (a : ℤ) (by : ℕ) → unsigned_abs a < 2 ^ 61 + 3000 → by ≤ 3000 → unsigned_abs (ahead f a (pos by)) < 2 ^ 62
twice true a by h k = omega (arith, ints)
twice false a by h k = omega (arith, ints)

based : (low : Bool) (y : ℤ) → unsigned_abs y < 2 ^ 61 + 3000 → unsigned_abs (base_at low y) < 2 ^ 62
based true y h = omega (arith, ints)
based false y h = omega (arith, ints)

based_beside : (f : Bool) (y : ℤ) → unsigned_abs y < 2 ^ 61 → unsigned_abs (base_beside f y) < 2 ^ 62
based_beside true y h = omega (arith, ints)
based_beside false y h = omega (arith, ints)

own : (n : ℕ) → n < 2 ^ 61 → n < 2 ^ 62
own n h = omega (arith, h)

wider : (n : ℕ) → n < 2 ^ 61 → n < 2 ^ 61 + 3000
wider n h = omega (arith, h)

stepped : (n : ℕ) → n < 2 ^ 61 + 3000 → n < 2 ^ 62
stepped n h = omega (arith, h)

module _ (forward : Bool) (at : ℤ) (beyond : Bool) (side begins ends : ℤ) (at_near : unsigned_abs at < 2 ^ 61) (side_near : unsigned_abs side < 2 ^ 61) (begins_few : unsigned_abs begins ≤ 3000)
    (ends_few : unsigned_abs ends ≤ 3000) where
  abbrev start : ℤ
  start = ahead beyond side begins

  abbrev tip : ℤ
  tip = ahead beyond side ends

  start_near : unsigned_abs start < 2 ^ 62
  start_near = stepped _ (once beyond side begins side_near begins_few)

  tip_near : unsigned_abs tip < 2 ^ 61 + 3000
  tip_near = once beyond side ends side_near ends_few

  across : (by : ℕ) → by ≤ 3000 → unsigned_abs (ahead (not forward) at (pos by)) < 2 ^ 62
  across by few = twice (not forward) at by (wider _ at_near) few

  upright_in : IsEndInRange (upright_end forward at beyond side begins ends)
  upright_in = record {
    start = record { x = own _ at_near; y = start_near };
    tip = record { x = own _ at_near; y = stepped _ tip_near };
    tail = record { x = across 660 (omega arith); y = stepped _ tip_near };
    letter = record { x = across 480 (omega arith); y = based (not beyond) tip tip_near };
    beside = record { x = across 480 (omega arith); y = based beyond tip tip_near };
  }

  level_in : IsEndInRange (level_end forward at beyond side begins ends)
  level_in = record {
    start = record { x = start_near; y = own _ at_near };
    tip = record { x = stepped _ tip_near; y = own _ at_near };
    tail = record { x = stepped _ tip_near; y = across 660 (omega arith) };
    letter = record { x = twice (not beyond) tip 290 tip_near (omega arith); y = based_beside forward at at_near };
    beside = record { x = twice beyond tip 290 tip_near (omega arith); y = based_beside forward at at_near };
  }

pub mark_in_range : (b : ViewBox) (e : Laned) → IsMarkInRange (mark_of b e)
mark_in_range b e = go (is_upright e.trace.way)
  where
    go : (u : Bool) → IsMarkInRange (record {
      letter = e.trace.letter;
      beside = e.beside;
      first = end_on u (is_forward e.trace.way) e.trace.at false (near_side u b) (begin_of e.lane) (out_of e.lane);
      second = end_on u (is_forward e.trace.way) e.trace.at true (far_side u b) (begin_of e.lane) (out_of e.lane);
    })
    go true = record {
      first = upright_in (is_forward e.trace.way) e.trace.at false b.top (begin_of e.lane) (out_of e.lane) e.trace.in_range b.top_in_range (begins_near e.lane) (ends_near e.lane);
      second = upright_in (is_forward e.trace.way) e.trace.at true b.bottom (begin_of e.lane) (out_of e.lane) e.trace.in_range b.bottom_in_range (begins_near e.lane) (ends_near e.lane);
    }
    go false = record {
      first = level_in (is_forward e.trace.way) e.trace.at false b.left (begin_of e.lane) (out_of e.lane) e.trace.in_range b.left_in_range (begins_near e.lane) (ends_near e.lane);
      second = level_in (is_forward e.trace.way) e.trace.at true b.right (begin_of e.lane) (out_of e.lane) e.trace.in_range b.right_in_range (begins_near e.lane) (ends_near e.lane);
    }

pub all_in_range : (b : ViewBox) (laned : List Laned) → All IsMarkInRange (marks_in b laned)
all_in_range b laned = All-map IsMarkInRange (mark_of b) laned (λ k d within. mark_in_range b (get_or laned k d))
