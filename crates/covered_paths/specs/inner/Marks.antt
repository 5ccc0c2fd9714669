-- How the paths that are drawn are marked in a list.
use Rattle.std.specs.Prelude.{Bool, true, false, cond, List, [], ◌∷◌, slice_set}
use Rattle.stroke_paths.specs.declared.path.Path.{Path}
use Rattle.covered_paths.specs.Sheets.{is_line}
use Rattle.covered_paths.specs.declared.line.Line.{Line}

-- first those that are shown and are no lines
abbrev pub is_other : Path → Bool → Bool
is_other p shown = cond (is_line p shown) false shown

abbrev pub others_of : List Path → List Bool → List Bool
others_of [] shown = []
others_of (p ∷ ps) [] = []
others_of (p ∷ ps) (b ∷ bs) = is_other p b ∷ others_of ps bs

-- and then those of lines
abbrev pub marked : List Bool → List Line → List Bool
marked drawn [] = drawn
marked drawn (l ∷ ls) = marked (slice_set drawn l.number true) ls
