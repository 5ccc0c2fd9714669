-- Paths that are chosen by a list of yes and no.
use Rattle.std.specs.Prelude.{ℕ, Bool, not, ◌&&◌, List, [], ◌∷◌, count_by, cond}
use Rattle.stroke_paths.specs.declared.path.Path.{Path}

-- what is so in the first list and not in the second
abbrev pub without : List Bool → List Bool → List Bool
without [] ds = []
without (s ∷ ss) [] = s ∷ without ss []
without (s ∷ ss) (d ∷ ds) = (s && not d) ∷ without ss ds

-- how often it is so
abbrev pub as_many : List Bool → ℕ
as_many flags = count_by (λ f. f) flags

-- the paths of which it is so
abbrev pub kept : List Bool → List Path → List Path
kept flags [] = []
kept [] (p ∷ paths) = kept [] paths
kept (f ∷ flags) (p ∷ paths) = cond f (p ∷ kept flags paths) (kept flags paths)
