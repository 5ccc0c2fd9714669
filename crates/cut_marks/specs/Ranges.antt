-- Places that are far within the range of numbers.
use Rattle.std.specs.Prelude.{◌<◌, ◌≤◌, ◌^◌, unsigned_abs}
use Rattle.cut_marks.specs.declared.figures.Heading.{Heading}
use Rattle.cut_marks.specs.declared.figures.CutMark.{CutMark}
use Rattle.cut_marks.specs.declared.figures.MarkEnd.{MarkEnd}
use Rattle.cut_marks.specs.declared.figures.SheetPoint.{SheetPoint}

pub record IsPlaceInRange (p : SheetPoint) : Type 0 where
  pub x : unsigned_abs p.x < 2 ^ 62
  pub y : unsigned_abs p.y < 2 ^ 62

pub record IsEndInRange (e : MarkEnd) : Type 0 where
  pub start : IsPlaceInRange e.start
  pub tip : IsPlaceInRange e.tip
  pub tail : IsPlaceInRange e.tail
  pub letter : IsPlaceInRange e.letter
  pub beside : IsPlaceInRange e.beside

pub record IsMarkInRange (m : CutMark) : Type 0 where
  pub first : IsEndInRange m.first
  pub second : IsEndInRange m.second

pub record IsHeadingInRange (h : Heading) : Type 0 where
  pub x : unsigned_abs h.x < 2 ^ 62
  pub y : unsigned_abs h.y < 2 ^ 62
  pub at : unsigned_abs h.at ≤ 2 ^ 20
