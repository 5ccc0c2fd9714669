-- Which strokes aren't drawn on a sheet.
use Rattle.std.specs.Prelude.{ℕ, suc, ◌==◌, Bool, true, false, List, [], ◌∷◌, if◌then◌else◌}
use Rattle.sheet_list.specs.declared.left_out.Run.{Run}

-- a stroke that isn't drawn, before runs of such strokes: it begins the first of them if that comes right behind it, or is one of its own
abbrev pub joined : ℕ → List Run → List Run
joined n [] = record { first = n; last = n } ∷ []
joined n (run ∷ runs) = if run.first == suc n then record { first = n; last = run.last } ∷ runs else record { first = n; last = n } ∷ run ∷ runs

-- the runs among strokes of which the first has this number, and of each of which is said whether it is drawn
abbrev pub left_out : ℕ → List Bool → List Run
left_out n [] = []
left_out n (true ∷ drawn) = left_out (suc n) drawn
left_out n (false ∷ drawn) = joined n (left_out (suc n) drawn)
