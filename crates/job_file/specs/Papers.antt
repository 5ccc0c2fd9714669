-- The sizes of paper by their names.
use Rattle.std.specs.Prelude.{ℕ, List, [], ◌∷◌, codes}
use Rattle.job_file.specs.declared.job.Paper.{Paper}
use Rattle.job_file.specs.declared.job.Paper.TheVariants.{A0, A1, A2, A3, A4}

abbrev pub paper_name : Paper → List ℕ
paper_name A0 = codes "A0"
paper_name A1 = codes "A1"
paper_name A2 = codes "A2"
paper_name A3 = codes "A3"
paper_name A4 = codes "A4"

-- what a job calls them
abbrev pub papers : List (List ℕ × Paper)
papers = (paper_name A0, A0) ∷ (paper_name A1, A1) ∷ (paper_name A2, A2) ∷ (paper_name A3, A3) ∷ (paper_name A4, A4) ∷ []
