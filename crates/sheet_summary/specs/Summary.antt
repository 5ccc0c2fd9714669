-- What a run says of a sheet that it has drawn.
use Rattle.std.specs.Prelude.{ℕ, ◌-ℤ◌, Bool, false, List, length, codes, count_by, nat_eq, if◌then◌else◌}
use Rattle.std.specs.Fmt.{decimal}
use Rattle.cut_marks.specs.Notes.{notes_of}
use Rattle.cut_marks.specs.declared.views.ViewMarks.{ViewMarks}
use Rattle.drawing.specs.declared.drawn.Drawing.{Drawing}
use Rattle.geometry.specs.Parts.{Part}
use Rattle.job_file.specs.Papers.{paper_name}
use Rattle.job_file.specs.declared.job.Paper.{Paper}
use Rattle.job_file.specs.declared.job.Scale.{Scale}
use Rattle.lattice.specs.declared.points.Axis.{Axis}
use Rattle.lattice.specs.declared.points.Axis.TheVariants.{X, Y, Z}
use Rattle.sheet_page.specs.declared.page.Item.{Item}
use Rattle.sheet_page.specs.declared.page.Item.TheVariants as item
use Rattle.sheet_page.specs.declared.page.Page.{Page}
use Rattle.sheet_plan.specs.LineKinds.{is_same_mark}
use Rattle.sheet_plan.specs.declared.sheet.Mark.{Mark}
use Rattle.sheet_plan.specs.declared.sheet.Mark.TheVariants.{Solid, Dashed, Hatch}
use Rattle.sheet_summary.specs.CutLines.{cut_lines}
use Rattle.sheet_summary.specs.NearLines.{near_lines}
use Rattle.sheet_summary.specs.Ends.{least_along, greatest_along}
use Rattle.length_text.specs.Lengths.{mm_text}
use Rattle.solid_mesh.specs.Solids.{solid_part}
use Rattle.svg_page.specs.Texts.{◌⊕◌}

-- it is a path of this mark
abbrev pub is_path_of : Mark → Item → Bool
is_path_of mark (item.Path path) = is_same_mark path.mark mark
is_path_of mark other = false

-- how many paths of a mark stand on a page
abbrev pub paths_of : Mark → List Item → ℕ
paths_of mark items = count_by (is_path_of mark) items

-- the paper, the scale and the number of views of a sheet
abbrev pub sheet_text : Paper → Scale → ℕ → List ℕ
sheet_text paper scale views =
    codes "sheet " ⊕ paper_name paper ⊕ codes " scale " ⊕ decimal scale.num ⊕ codes ":" ⊕ decimal scale.den ⊕ codes " views " ⊕ decimal views

-- how many hidden paths are left out since others cover them, if any are
abbrev pub covered_text : ℕ → List ℕ
covered_text covered = if nat_eq covered 0 then codes "" else (codes " covered " ⊕ decimal covered)

-- how many visible and hidden paths and hatch lines stand on a page, and how many are covered
abbrev pub paths_text : List Item → ℕ → List ℕ
paths_text items covered =
    codes " visible " ⊕ decimal (paths_of Solid items) ⊕ codes " hidden " ⊕ decimal (paths_of Dashed items) ⊕ covered_text covered ⊕ codes " hatch " ⊕ decimal (paths_of Hatch items)

-- the number of decimals, if it was left to the program
abbrev pub fitted_text : Bool → ℕ → List ℕ
fitted_text fitted decimals = if fitted then codes " decimals " ⊕ decimal decimals else codes ""

-- how long a part is along an axis, in mm
abbrev pub length_along : Part → ℕ → Axis → List ℕ
length_along s decimals axis = mm_text decimals (greatest_along axis s.corners -ℤ least_along axis s.corners)

-- along x, y and z
abbrev pub size_text : Part → ℕ → List ℕ
size_text s decimals = codes " part " ⊕ length_along s decimals X ⊕ codes " by " ⊕ length_along s decimals Y ⊕ codes " by " ⊕ length_along s decimals Z ⊕ codes " mm"

-- the first line
abbrev pub first_line : Drawing → Bool → Page → ℕ → List ℕ
first_line d fitted page covered =
    sheet_text d.job.paper d.sheet.scale (length d.sheet.places.items) ⊕ paths_text page.items.items covered ⊕ fitted_text fitted d.job.decimals ⊕ size_text (solid_part d.solid) d.job.decimals ⊕ codes "\n"

-- What is said of a drawing, its page, and what tells its cuts: the first line, one for each cut, one for each cut that isn't told as usual,
-- and one for each view whose visible lines are near one another. The number of decimals may have been left to the program, and the job may say the places of its cuts in units.
abbrev pub summary_of : Drawing → Bool → Bool → Page → ℕ → List ViewMarks → List ℕ
summary_of d fitted in_units page covered marks =
    first_line d fitted page covered ⊕ cut_lines (solid_part d.solid) d.job.decimals in_units d.job.views.items marks ⊕ notes_of marks ⊕ near_lines d.sheet.scale page.items.items (length d.job.views.items)
