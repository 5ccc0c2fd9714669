-- The scales of a drawing.
use Rattle.std.specs.Prelude.{ℕ, Bool, ◌&&◌, ◌==◌, List, [], ◌∷◌, codes}
use Rattle.std.specs.List.{list_any}

-- each with its text: a length on the sheet, and the length of the part that it stands for
abbrev pub scales : List (List ℕ × (ℕ × ℕ))
scales =
    (codes "50:1", (50, 1)) ∷ (codes "20:1", (20, 1)) ∷ (codes "10:1", (10, 1)) ∷ (codes "5:1", (5, 1)) ∷ (codes "2:1", (2, 1)) ∷ (codes "1:1", (1, 1))
    ∷ (codes "1:2", (1, 2)) ∷ (codes "1:5", (1, 5)) ∷ (codes "1:10", (1, 10)) ∷ (codes "1:20", (1, 20)) ∷ (codes "1:50", (1, 50)) ∷ (codes "1:100", (1, 100)) ∷ []

-- one of them
abbrev pub is_scale : ℕ → ℕ → Bool
is_scale num den = list_any (λ s. (s.1.0 == num) && (s.1.1 == den)) scales
