-- A rectangle around a place on the sheet, as the machine's numbers give it.
use Rattle.std.proofs.Common.{◌≡◌, ◌≤◌, ◌^◌, ◌∙◌, ℕ, arith, FitsSigned, to_z, of_z}
use Rattle.std.specs.Prelude.{ℤ, pos, ◌+ℤ◌, ◌-ℤ◌, unsigned_abs}
use Rattle.std.specs.Int.{w64, w128}
use Rattle.std.proofs.lemmas.Int.{ints, to_z-of_z}
use Rattle.integers.proofs.Worth.{Reads, via, known, pass, plus, minus}
use Rattle.cut_marks.specs.declared.areas.Area.{Area}
use Rattle.cut_marks.specs.declared.figures.SheetPoint.{SheetPoint}

-- one of a place's numbers, made wider
own : (x r : ℤ) → FitsSigned w64 x → r ≡ to_z w64 (of_z w64 x) → Reads (to_z w128 (of_z w128 r)) x (2 ^ 63)
own x r fits is = pass w128 (via (is ∙ to_z-of_z w64 x fits) (known x (2 ^ 63) (size x fits))) tt
  where
    size : (x : ℤ) → FitsSigned w64 x → unsigned_abs x ≤ 2 ^ 63
    size x fits = omega (arith, ints)

small : (n : ℕ) → n ≤ 1000 → Reads (pos n) (pos n) 1000
small n few = known (pos n) 1000 (omega (arith, ints))

before : (x r : ℤ) → FitsSigned w64 x → r ≡ to_z w64 (of_z w64 x) → (n : ℕ) → n ≤ 1000 → to_z w128 (of_z w128 (to_z w128 (of_z w128 r) -ℤ pos n)) ≡ x -ℤ pos n
before x r fits is n few = (pass w128 (minus (own x r fits is) (small n few)) tt).is

after : (x r : ℤ) → FitsSigned w64 x → r ≡ to_z w64 (of_z w64 x) → (n : ℕ) → n ≤ 1000 → to_z w128 (of_z w128 (to_z w128 (of_z w128 r) +ℤ pos n)) ≡ x +ℤ pos n
after x r fits is n few = (pass w128 (plus (own x r fits is) (small n few)) tt).is

-- so far to each side of a place, where the machine has x and y for its numbers
pub around_place : (p : SheetPoint) → FitsSigned w64 p.x → FitsSigned w64 p.y → (x y : ℤ) → x ≡ to_z w64 (of_z w64 p.x) → y ≡ to_z w64 (of_z w64 p.y)
    → (left right top bottom : ℕ) → left ≤ 1000 → right ≤ 1000 → top ≤ 1000 → bottom ≤ 1000
    → ◌≡◌ {A = Area}
    (record {
      left = to_z w128 (of_z w128 (to_z w128 (of_z w128 x) -ℤ pos left));
      right = to_z w128 (of_z w128 (to_z w128 (of_z w128 x) +ℤ pos right));
      top = to_z w128 (of_z w128 (to_z w128 (of_z w128 y) -ℤ pos top));
      bottom = to_z w128 (of_z w128 (to_z w128 (of_z w128 y) +ℤ pos bottom));
    })
    (record { left = p.x -ℤ pos left; right = p.x +ℤ pos right; top = p.y -ℤ pos top; bottom = p.y +ℤ pos bottom })
around_place p x_fits y_fits x y x_is y_is left right top bottom few_left few_right few_top few_bottom =
    λ i. record {
      left = before p.x x x_fits x_is left few_left i;
      right = after p.x x x_fits x_is right few_right i;
      top = before p.y y y_fits y_is top few_top i;
      bottom = after p.y y y_fits y_is bottom few_bottom i;
    }
