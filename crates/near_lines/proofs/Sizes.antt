-- The sides of paths are on the largest sheet.
use Rattle.std.proofs.Common.{ℕ, Bool, true, false, ◌≤◌, min, ℤ, pos, negsuc, List, [], ◌∷◌, All, arith}
use Rattle.std.proofs.lemmas.List.Elements.{All-cons, All-nil}
use Rattle.stroke_paths.specs.declared.path.Point.{Point}
use Rattle.near_lines.specs.Sides.{IsSmall, along, last_of, on_sheet, side_between, through}

small_place : (z : ℤ) → on_sheet z ≤ 118900
small_place (pos n) = omega arith
small_place (negsuc n) = omega arith

small_through : (path : ℕ) (p : Point) (points : List Point) → All IsSmall (through path p points)
small_through path p [] = All-nil IsSmall
small_through path p (q ∷ rest) =
    All-cons IsSmall (side_between path p q) (through path q rest)
    (record { x1 = small_place p.x; y1 = small_place p.y; x2 = small_place q.x; y2 = small_place q.y }) (small_through path q rest)

pub small_along : (path : ℕ) (closed : Bool) (points : List Point) → All IsSmall (along path closed points)
small_along path true [] = All-nil IsSmall
small_along path false [] = All-nil IsSmall
small_along path false (p ∷ rest) = small_through path p rest
small_along path true (p ∷ rest) = small_through path (last_of p rest) (p ∷ rest)
