-- The text of a job with every key.
use Rattle.std.specs.Prelude.{ℕ, List, [], ◌∷◌, ◌++◌, map, Option, Some, None, codes}
use Rattle.std.specs.Fmt.{decimal, signed_decimal}
use Rattle.std.specs.List.{flat_map}
use Rattle.lattice.specs.Triple.{Triple}
use Rattle.job_file.specs.declared.view.Principal.{Principal}
use Rattle.job_file.specs.Documents.{JobValues}
use Rattle.job_file.specs.Papers.{paper_name}
use Rattle.job_file.specs.ViewValues.{Shown, ViewValues, whole, behind}
use Rattle.job_writer.specs.Called.{angle_name, scale_name, crease_name, length_name, layout_name, principal_name, axis_name, side_name}
use Rattle.job_writer.specs.Pairs.{◌⊕◌, Pair, key_line, in_quotes, escaped_title, in_brackets}

-- the keys of a job that aren't those of a view
abbrev pub job_pairs : JobValues → List Pair
job_pairs job =
    (codes "version", codes "2") ∷ (codes "decimals", decimal job.decimals) ∷ (codes "angle", in_quotes (angle_name job.third)) ∷ (codes "sheet", in_quotes (paper_name job.paper))
    ∷ (codes "scale", in_quotes (scale_name job.scale)) ∷ (codes "crease", in_quotes (crease_name job.crease)) ∷ (codes "title", in_quotes (escaped_title job.title))
    ∷ (codes "outputs", in_brackets (map in_quotes job.outputs)) ∷ (codes "unit", in_quotes (length_name job.unit)) ∷ (codes "layout", in_quotes (layout_name job.portrait)) ∷ []

abbrev pub direction_text : Triple → List ℕ
direction_text d = codes "[" ⊕ signed_decimal d.x ⊕ codes ", " ⊕ signed_decimal d.y ⊕ codes ", " ⊕ signed_decimal d.z ⊕ codes "]"

-- a view by its name, or else by its direction or its cut
abbrev pub view_pairs : Option Principal → Shown → List Pair
view_pairs (Some name) shown = (codes "name", in_quotes (principal_name name)) ∷ []
view_pairs None (whole d) = (codes "toward", direction_text d) ∷ []
view_pairs None (behind plane) =
    (codes "cut", in_quotes (axis_name plane.axis)) ∷ (codes "at", signed_decimal plane.at) ∷ (codes "from", in_quotes (side_name plane.from_high)) ∷ []

-- an empty line, the header of a view, and its keys
abbrev pub view_block : ViewValues → List ℕ
view_block view = codes "\n[[view]]\n" ++ flat_map key_line (view_pairs view.named view.shows)

-- the text of a job
abbrev pub plain_job : JobValues → List ℕ
plain_job job = flat_map key_line (job_pairs job) ++ flat_map view_block job.views
