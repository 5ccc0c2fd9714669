-- The text of the list of a sheet's strokes.
use Rattle.std.specs.Prelude.{ℕ, Bool, List, [], ◌∷◌, ◌++◌, length, codes}
use Rattle.std.specs.Fmt.{decimal, signed_decimal}
use Rattle.std.specs.List.{flat_map}
use Rattle.job_file.specs.ShownCuts.{cuts_in}
use Rattle.job_file.specs.declared.job.Job.{Job}
use Rattle.job_file.specs.declared.job.Scale.{Scale}
use Rattle.job_file.specs.declared.view.JobView.{JobView}
use Rattle.plot_rack.specs.Lists.{list_of}
use Rattle.sheet_list.specs.LeftOut.{left_out}
use Rattle.sheet_list.specs.Shown.{shown_text}
use Rattle.sheet_list.specs.declared.left_out.Run.{Run}
use Rattle.sheet_plan.specs.declared.sheet.Sheet.{Sheet}
use Rattle.sheet_plan.specs.declared.sheet.Spread.{Spread}
use Rattle.sheet_plan.specs.declared.sheet.Stroke.{Stroke}
use Rattle.svg_page.specs.Texts.{◌⊕◌}

-- the form's version, the decimals of a unit, and the sheet's scale
abbrev pub head_text : ℕ → Scale → List ℕ
head_text decimals scale = codes "sheet list 2\ndecimals " ⊕ decimal decimals ⊕ codes "\nscale " ⊕ decimal scale.num ⊕ codes ":" ⊕ decimal scale.den ⊕ codes "\n"

-- a view in its place, with this number, behind views that show so many cuts
abbrev pub view_line : ℕ → ℕ → JobView → Spread → List ℕ
view_line number cuts view place =
    codes "view " ⊕ decimal number ⊕ codes " " ⊕ shown_text cuts view.named view.spec ⊕ codes " " ⊕ signed_decimal place.x0 ⊕ codes " " ⊕ signed_decimal place.y0 ⊕ codes "\n"

-- views in their places, behind others: numbers go on from theirs, and letters from those of their cuts
abbrev pub lines_behind : List JobView → List JobView → List Spread → List ℕ
lines_behind before [] places = []
lines_behind before (view ∷ rest) [] = []
lines_behind before (view ∷ rest) (place ∷ places) = view_line (length before) (length (cuts_in before)) view place ++ lines_behind (before ++ view ∷ []) rest places

-- strokes one after the other that aren't drawn
abbrev pub run_line : Run → List ℕ
run_line run = codes "left-out " ⊕ decimal run.first ⊕ codes " " ⊕ decimal run.last ⊕ codes "\n"

-- the head, a line for each view of the job, in order, the strokes that aren't drawn, and the piece list of the sheet's page with all strokes
abbrev pub list_text : Job → Sheet → List Bool → List Stroke → List ℕ
list_text job sheet drawn strokes =
    head_text job.decimals sheet.scale ++ lines_behind [] job.views.items sheet.places.items ++ flat_map run_line (left_out 0 drawn) ++ list_of (sheet.width, sheet.height) strokes
