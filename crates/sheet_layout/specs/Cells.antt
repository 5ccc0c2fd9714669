-- Named views in a layout: their line and their rank, and which are next to one another.
use Rattle.std.specs.Prelude.{ℕ, ◌||◌, Bool, true, false}
use Rattle.job_file.specs.declared.view.Principal.{Principal}
use Rattle.job_file.specs.declared.view.Principal.TheVariants.{Front, Back, Left, Right, Above, Below}
use Rattle.sheet_layout.specs.declared.cells.Cell.{Cell}
use Rattle.sheet_layout.specs.declared.cells.Line.{Line}
use Rattle.sheet_layout.specs.declared.cells.Line.TheVariants.{Center, Row, Column}
use Rattle.std.specs.Prelude.{None}

-- the rank of what is in the middle of a block: in its row what has a lower rank is on the left, in its column above
abbrev pub middle : ℕ
middle = 1000

-- the named views are one block: front is in the middle, three are in its row and two in its column
abbrev pub line_of : Principal → Line
line_of Front = Center
line_of Back = Row
line_of Left = Row
line_of Right = Row
line_of Above = Column
line_of Below = Column

-- their ranks in third-angle or in first-angle projection
abbrev pub rank_of : Bool → Principal → ℕ
rank_of third Front = middle
rank_of third Back = 1200
rank_of false Left = 1100
rank_of true Left = 900
rank_of false Right = 900
rank_of true Right = 1100
rank_of false Above = 1100
rank_of true Above = 900
rank_of false Below = 900
rank_of true Below = 1100

abbrev pub named_cell : Bool → Principal → Cell
named_cell third name = record { block = 0; line = line_of name; rank = rank_of third name; beside = None }

-- four are next to front
abbrev pub is_around_front : Principal → Bool
is_around_front Front = false
is_around_front Back = false
is_around_front Left = true
is_around_front Right = true
is_around_front Above = true
is_around_front Below = true

-- and one is next to back
abbrev pub is_beside_back : Bool → Principal → Bool
is_beside_back third Front = false
is_beside_back third Back = false
is_beside_back false Left = true
is_beside_back true Left = false
is_beside_back false Right = false
is_beside_back true Right = true
is_beside_back third Above = false
is_beside_back third Below = false

abbrev pub is_next : Bool → Principal → Principal → Bool
is_next third Front other = is_around_front other
is_next third Back other = is_beside_back third other
is_next third Left other = false
is_next third Right other = false
is_next third Above other = false
is_next third Below other = false

abbrev pub are_next : Bool → Principal → Principal → Bool
are_next third name other = is_next third name other || is_next third other name
