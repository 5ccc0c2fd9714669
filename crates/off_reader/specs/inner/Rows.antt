-- What the code keeps of a row of indices.
use Rattle.std.specs.Prelude.{ℕ, List, map}
use Rattle.part_text.specs.Steps.{Step, StepGives, ◌then◌, Times}
use Rattle.off_reader.specs.Off.{Index, last_line}

-- the numbers of so many vertices, and the line of the last
abbrev pub Numbers : List ℕ → ℕ → ℕ → Step (List ℕ × ℕ)
Numbers bytes vertices count = Times count (Index bytes vertices) then λ indices. StepGives (map (λ i. i.0) indices, last_line indices)
