-- When an entry of a piece list stands for a piece, and which entries are those of a view.
use Rattle.std.specs.Prelude.{◌≡◌, ℕ, ◌&&◌, nat_eq, Bool, true, false, List, Option, Some, None}
use Rattle.std.specs.List.{filter}
use Rattle.lattice.specs.declared.pieces.Piece.{Piece}
use Rattle.lattice.specs.Points.{of_spot, across_of, upward_of}
use Rattle.lattice.specs.Triple.{Triple}
use Rattle.sheet_plan.specs.Sheets.{mark_of, HasValue}
use Rattle.sheet_plan.specs.declared.sheet.Mark.{Mark}
use Rattle.sheet_plan.specs.declared.sheet.Mark.TheVariants as mark
use Rattle.piece_verify.specs.declared.line.Entry.{Entry}

-- the entry stands for the piece: the mark of its style, and U and V of its ends
pub record StandsFor (d : Triple) (e : Entry) (l : Piece) : Type 0 where
  pub mark : e.mark ≡ mark_of l.style
  pub u1 : HasValue e.u1 (across_of d (of_spot l.a)) l.a.w
  pub v1 : HasValue e.v1 (upward_of d (of_spot l.a)) l.a.w
  pub u2 : HasValue e.u2 (across_of d (of_spot l.b)) l.b.w
  pub v2 : HasValue e.v2 (upward_of d (of_spot l.b)) l.b.w

-- an entry of a piece, and not of a hatch line
abbrev pub is_piece : Mark → Bool
is_piece mark.Solid = true
is_piece mark.Dashed = true
is_piece mark.Chain = true
is_piece mark.Hatch = false

-- the entries of a view's pieces, in their order
abbrev pub is_piece_in : ℕ → Entry → Bool
is_piece_in view e = nat_eq e.view view && is_piece e.mark

abbrev pub pieces_in : ℕ → List Entry → List Entry
pieces_in view entries = filter (is_piece_in view) entries

-- at a place one list has an entry that stands for the other's piece there, or both have ended
abbrev pub AgreeAt : Triple → Option Entry → Option Piece → Type 0
AgreeAt d None None = Unit {0}
AgreeAt d (Some e) (Some l) = StandsFor d e l
AgreeAt d None (Some l) = ⊥
AgreeAt d (Some e) None = ⊥
