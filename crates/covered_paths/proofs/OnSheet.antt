-- The points of lines are on the largest sheet.
use Rattle.std.proofs.Common.{◌≡◌, ◌≤◌, ◌^◌, Bool, true, arith, unsigned_abs}
use Rattle.std.specs.Prelude.{ℤ, pos, ◌≤ℤ◌, ◌&&◌}
use Rattle.std.specs.List.{list_all}
use Rattle.std.proofs.lemmas.Int.{ints}
use Rattle.stroke_paths.specs.declared.path.Path.{Path}
use Rattle.stroke_paths.specs.declared.path.Point.{Point}
use Rattle.covered_paths.specs.Numbers.{at_most}
use Rattle.covered_paths.specs.Sheets.{is_in_range, is_line, is_on_sheet, is_outline}
use Rattle.covered_paths.proofs.Truths.{at_most_is, both_left, both_right}

between : (z : ℤ) → pos 0 ≤ℤ z → z ≤ℤ pos 131072 → unsigned_abs z ≤ 2 ^ 17
between z h k = omega (arith, ints)

in_range : (z : ℤ) → is_in_range z ≡ true → unsigned_abs z ≤ 2 ^ 17
unfolding is_in_range
in_range z h = between z (at_most_is (pos 0) z (both_left (at_most (pos 0) z) (at_most z (pos 131072)) h)) (at_most_is z (pos 131072) (both_right (at_most (pos 0) z) (at_most z (pos 131072)) h))

pub across_small : (p : Point) → is_on_sheet p ≡ true → unsigned_abs p.x ≤ 2 ^ 17
unfolding is_on_sheet
across_small p h = in_range p.x (both_left (is_in_range p.x) (is_in_range p.y) h)

pub down_small : (p : Point) → is_on_sheet p ≡ true → unsigned_abs p.y ≤ 2 ^ 17
unfolding is_on_sheet
down_small p h = in_range p.y (both_right (is_in_range p.x) (is_in_range p.y) h)

pub line_on_sheet : (p : Path) (shown : Bool) → is_line p shown ≡ true → list_all is_on_sheet p.points.items ≡ true
unfolding is_line
line_on_sheet p shown h = both_right (is_outline p.mark) (list_all is_on_sheet p.points.items) (both_right shown (is_outline p.mark && list_all is_on_sheet p.points.items) h)

pub line_outlined : (p : Path) (shown : Bool) → is_line p shown ≡ true → is_outline p.mark ≡ true
unfolding is_line
line_outlined p shown h = both_left (is_outline p.mark) (list_all is_on_sheet p.points.items) (both_right shown (is_outline p.mark && list_all is_on_sheet p.points.items) h)
