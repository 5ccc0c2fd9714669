-- What the cells of a title block say.
use Rattle.std.specs.Prelude.{List, ℕ, [], ◌∷◌, ◌++◌, codes}
use Rattle.job_file.specs.Papers.{paper_name}
use Rattle.job_file.specs.declared.job.Job.{Job}
use Rattle.job_file.specs.declared.job.Scale.{Scale}
use Rattle.sheet_job.specs.declared.block.BlockTexts.{BlockTexts}
use Rattle.sheet_page.specs.BlockNames.{part_name, scale_text, unit_name}
use Rattle.sheet_page.specs.Cells.{low_cell, tall_cell}
use Rattle.sheet_page.specs.Labels.{Said, says}

-- on the left whose drawing it is, and from which file
abbrev pub left_cells : BlockTexts → List ℕ → List Said
left_cells t file =
    says (low_cell 0 0 6000 400 950) (codes "company") t.company
    ∷ says (low_cell 0 400 6000 360 950) (codes "type") t.kind
    ∷ says (low_cell 0 760 3700 360 950) (codes "author") t.author
    ∷ says (low_cell 3700 760 2300 360 550) (codes "date") t.date
    ∷ says (low_cell 0 1120 6000 360 950) (codes "approved") t.approved
    ∷ says (low_cell 0 1480 6000 360 950) (codes "file") file
    ∷ says (low_cell 0 1840 6000 360 950) (codes "note") t.note
    ∷ []

-- on the right first what is made, of what, and how exactly
abbrev pub upper_cells : BlockTexts → List ℕ → List ℕ → List Said
upper_cells t title scale =
    says (tall_cell 6000 0 12000 760 420) (codes "title") title
    ∷ says (tall_cell 8200 760 4600 720 350) (codes "material") t.material
    ∷ says (tall_cell 12800 760 3400 720 350) (codes "tolerances") t.tolerances
    ∷ says (tall_cell 16200 760 1800 720 350) (codes "scale") scale
    ∷ []

-- and then what sheet this is
abbrev pub lower_cells : BlockTexts → List ℕ → List ℕ → List Said
lower_cells t unit size =
    says (tall_cell 8200 1480 1600 720 350) (codes "unit") unit
    ∷ says (tall_cell 9800 1480 1500 720 350) (codes "size") size
    ∷ says (tall_cell 11300 1480 1500 720 350) (codes "sheet") (codes "1/1")
    ∷ says (tall_cell 12800 1480 3400 720 350) (codes "number") t.number
    ∷ says (tall_cell 16200 1480 1800 720 350) (codes "revision") t.revision
    ∷ []

-- all cells of the block of a part's sheet
abbrev pub cells_of : Scale → Job → List ℕ → BlockTexts → List Said
cells_of scale job part t =
    left_cells t (part_name part) ++ upper_cells t job.title (scale_text scale) ++ lower_cells t (unit_name job.unit) (paper_name job.paper)
