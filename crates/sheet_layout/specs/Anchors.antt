-- Beside which view a cut stands, and at which of its sides.
use Rattle.std.specs.Prelude.{ℕ, ◌+◌, ◌-◌, ◌&&◌, ◌||◌, not, Bool, true, false, if◌then◌else◌, ℤ, pos, int_lt, List, [], ◌∷◌, Option, Some, None}
use Rattle.lattice.specs.declared.pieces.ViewSpec.{ViewSpec}
use Rattle.lattice.specs.declared.pieces.ViewSpec.TheVariants.{Plain, Section}
use Rattle.lattice.specs.declared.points.Axis.{Axis}
use Rattle.lattice.specs.declared.points.Axis.TheVariants.{X, Y, Z}
use Rattle.lattice.specs.Cuts.{Plane, plane_of, toward_of}
use Rattle.lattice.specs.Points.{of_dir}
use Rattle.lattice.specs.Triple.{Triple, dot, right_axis, up_axis}
use Rattle.job_file.specs.Seen.{direction_seen}
use Rattle.job_file.specs.declared.view.JobView.{JobView}
use Rattle.job_file.specs.declared.view.Principal.{Principal}
use Rattle.sheet_layout.specs.Cells.{middle, named_cell, are_next}
use Rattle.sheet_layout.specs.declared.anchors.Anchor.{Anchor}
use Rattle.sheet_layout.specs.declared.cells.Cell.{Cell}
use Rattle.sheet_layout.specs.declared.cells.Line.{Line}
use Rattle.sheet_layout.specs.declared.cells.Line.TheVariants.{Center, Row, Column}
use Rattle.sheet_layout.specs.declared.cells.Side.{Side}
use Rattle.sheet_layout.specs.declared.cells.Side.TheVariants.{Left, Right, Top, Bottom}

-- ---- directions
abbrev pub is_equal : ℤ → ℤ → Bool
is_equal a b = not (int_lt a b) && not (int_lt b a)

abbrev pub is_same : Triple → Triple → Bool
is_same a b = is_equal a.x b.x && (is_equal a.y b.y && is_equal a.z b.z)

abbrev pub is_along : Axis → Triple → Bool
is_along X d = is_equal d.y (pos 0) && is_equal d.z (pos 0)
is_along Y d = is_equal d.x (pos 0) && is_equal d.z (pos 0)
is_along Z d = is_equal d.x (pos 0) && is_equal d.y (pos 0)

-- a view along d sees planes across this axis edge-on: d is along one of the other two
abbrev pub sees_edge : Axis → Triple → Bool
sees_edge X d = is_along Y d || is_along Z d
sees_edge Y d = is_along X d || is_along Z d
sees_edge Z d = is_along X d || is_along Y d

-- ---- sides
-- the side on which a view stands whose viewer is so far to the right, or so far up: in third-angle projection that one, in first-angle projection the other
abbrev pub side_by : Bool → Side → Side → ℤ → Option Side
side_by third lower upper n =
    if int_lt n (pos 0) then Some (if third then lower else upper) else (if int_lt (pos 0) n then Some (if third then upper else lower) else None)

-- the side of a view along d at which the view along c stands: in one row if they share V, in one column if they share U
abbrev pub side_of : Bool → Triple → Triple → Option Side
side_of third d c =
    if is_same (up_axis d) (up_axis c) then side_by third Left Right (dot (right_axis d) c)
    else (if is_same (right_axis d) (right_axis c) then side_by third Bottom Top (dot (up_axis d) c) else None)

-- the side of a plain view at which a cut stands whose plane the view sees edge-on
abbrev pub side_in : Bool → Plane → ViewSpec → Option Side
side_in third c (Plain d) = if sees_edge c.axis (of_dir d) then side_of third (of_dir d) (toward_of c) else None
side_in third c (Section other) = None

-- ---- anchors
-- a view of this name, which looks along d, stands next to that of the other name, and looks along c
abbrev pub is_next_named : Bool → Principal → Triple → Option Principal → Triple → Bool
is_next_named third name c None d = false
is_next_named third name c (Some other) d = are_next third name other && is_same d c

abbrev pub is_next_along : Bool → Principal → Triple → JobView → Bool
is_next_along third name c v = is_next_named third name c v.named (direction_seen v.spec)

-- the first view that stands next to that of the name and looks along c, by its name
abbrev pub next_along : Bool → Principal → Triple → List JobView → Option Principal
next_along third name c [] = None
next_along third name c (v ∷ vs) = if is_next_along third name c v then v.named else next_along third name c vs

-- what takes the place at the side of a view at which a cut along c would stand: a named view along c next to it
abbrev pub taker_of : Bool → List JobView → Triple → Option Principal → Option Principal
taker_of third all c None = None
taker_of third all c (Some name) = next_along third name c all

-- where a plain view itself stands: a named one in the block of these, another in a block of its own
abbrev pub plain_cell : Bool → ℕ → Option Principal → Cell
plain_cell third view (Some name) = named_cell third name
plain_cell third view None = record { block = view + 1; line = Center; rank = middle; beside = None }

-- A cut at the side of the view with this number: outwards of the view itself if its side is free, or of the named view that takes it.
-- The first is looked for in all views, and then the second: which of the two is `taken`.
abbrev pub anchored : Bool → Bool → ℕ → Option Principal → Option Principal → Side → Option Anchor
anchored third false view named None side = Some (record { cell = plain_cell third view named; at = record { view = view; side = side } })
anchored third false view named (Some taker) side = None
anchored third true view named None side = None
anchored third true view named (Some taker) side = Some (record { cell = named_cell third taker; at = record { view = view; side = side } })

abbrev pub anchor_on : Bool → Bool → List JobView → Plane → ℕ → JobView → Option Side → Option Anchor
anchor_on third taken all c view v None = None
anchor_on third taken all c view v (Some side) = anchored third taken view v.named (taker_of third all (toward_of c) v.named) side

abbrev pub anchor_in : Bool → Bool → List JobView → Plane → ℕ → JobView → Option Anchor
anchor_in third taken all c view v = anchor_on third taken all c view v (side_in third c v.spec)

abbrev pub or_else : Option Anchor → Option Anchor → Option Anchor
or_else (Some a) b = Some a
or_else None b = b

-- the first of these views at which the cut stands so; the first of them has this number
abbrev pub first_anchor : Bool → Bool → List JobView → Plane → ℕ → List JobView → Option Anchor
first_anchor third taken all c view [] = None
first_anchor third taken all c view (v ∷ vs) = or_else (anchor_in third taken all c view v) (first_anchor third taken all c (view + 1) vs)

-- beside which view the cut stands: the first in the job's order whose side is free, or else the first whose side is taken
abbrev pub anchor_of : Bool → List JobView → Plane → Option Anchor
anchor_of third all c = or_else (first_anchor third false all c 0 all) (first_anchor third true all c 0 all)

-- ---- cells of cuts
abbrev pub line_at : Side → Line
line_at Left = Row
line_at Right = Row
line_at Top = Column
line_at Bottom = Column

-- a cut stands outwards of those of lesser number
abbrev pub rank_at : Side → ℕ → ℕ → ℕ
rank_at Left rank view = rank - (view + 1)
rank_at Right rank view = rank + (view + 1)
rank_at Top rank view = rank - (view + 1)
rank_at Bottom rank view = rank + (view + 1)

abbrev pub anchored_cell : ℕ → Anchor → Cell
anchored_cell view a = record { block = a.cell.block; line = line_at a.at.side; rank = rank_at a.at.side a.cell.rank view; beside = Some a.at }

-- in a block of its own
abbrev pub own_cell : ℕ → Cell
own_cell view = record { block = view + 1; line = Center; rank = middle; beside = None }

abbrev pub cell_at : ℕ → Option Anchor → Cell
cell_at view None = own_cell view
cell_at view (Some a) = anchored_cell view a

-- the cell of the view with this number; `beside` says whether a cut may stand beside another view
abbrev pub cell_of : Bool → List JobView → Bool → ℕ → Option Principal → ViewSpec → Cell
cell_of third all beside view named (Plain d) = plain_cell third view named
cell_of third all beside view named (Section c) = if beside then cell_at view (anchor_of third all (plane_of c)) else own_cell view
