-- The plans that are tried for a sheet, one after the other.
use Rattle.std.specs.Prelude.{ℕ, zero, suc, Bool, true, false, if◌then◌else◌, refl, List, [], ◌∷◌, ◌++◌, Option, Some, None}
use Rattle.std.specs.List.{flat_map}
use Rattle.job_file.specs.declared.job.Paper.{Paper}
use Rattle.job_file.specs.declared.job.Paper.TheVariants.{A0, A1, A2, A3, A4}
use Rattle.job_file.specs.declared.job.Scale.{Scale}
use Rattle.sheet_layout.specs.declared.plans.Plan.{Plan}

-- ---- scales and papers
abbrev pub from_one : List Scale
from_one =
    record { num = 1; den = 1; listed = refl } ∷ record { num = 1; den = 2; listed = refl } ∷ record { num = 1; den = 5; listed = refl }
    ∷ record { num = 1; den = 10; listed = refl } ∷ record { num = 1; den = 20; listed = refl } ∷ record { num = 1; den = 50; listed = refl }
    ∷ record { num = 1; den = 100; listed = refl } ∷ []

-- all twelve, from the greatest on
abbrev pub all_scales : List Scale
all_scales =
    record { num = 50; den = 1; listed = refl } ∷ record { num = 20; den = 1; listed = refl } ∷ record { num = 10; den = 1; listed = refl }
    ∷ record { num = 5; den = 1; listed = refl } ∷ record { num = 2; den = 1; listed = refl } ∷ from_one

-- from the smallest sheet on
abbrev pub papers : List Paper
papers = A4 ∷ A3 ∷ A2 ∷ A1 ∷ A0 ∷ []

-- ---- plans
-- with other views below the named ones, or in the corner beside their column: each above the title block, or beside it
abbrev pub plan_in : Paper → Scale → Bool → ℕ → (corner beside : Bool) → Plan
plan_in paper scale shrunk kept corner beside = record { paper = paper; scale = scale; shrunk = shrunk; kept = kept; corner = corner; beside = beside }

abbrev pub all_rooms : Paper → Scale → Bool → ℕ → List Plan
all_rooms paper scale shrunk kept =
    plan_in paper scale shrunk kept false false ∷ plan_in paper scale shrunk kept false true
    ∷ plan_in paper scale shrunk kept true false ∷ plan_in paper scale shrunk kept true true ∷ []

-- with fewer than so many cuts in projection: the last ones stand in rows of their own, as few of them as possible
abbrev pub with_fewer : Paper → Scale → Bool → ℕ → List Plan
with_fewer paper scale shrunk zero = []
with_fewer paper scale shrunk (suc kept) = all_rooms paper scale shrunk kept ++ with_fewer paper scale shrunk kept

-- at one scale
abbrev pub stated : Paper → Scale → Bool → ℕ → List Plan
stated paper scale shrunk cuts = all_rooms paper scale shrunk cuts ++ with_fewer paper scale shrunk cuts

-- with all cuts in projection at the first of these scales
abbrev pub whole_at : Paper → ℕ → List Scale → List Plan
whole_at paper cuts [] = []
whole_at paper cuts (scale ∷ scales) = all_rooms paper scale false cuts

-- At each scale with all cuts in projection; then so at the next smaller scale; then at this one with fewer in projection.
abbrev pub falling : Paper → ℕ → List Scale → List Plan
falling paper cuts [] = []
falling paper cuts (scale ∷ scales) =
    all_rooms paper scale false cuts ++ (whole_at paper cuts scales ++ (with_fewer paper scale false cuts ++ falling paper cuts scales))

abbrev pub on_each : List Paper → Scale → ℕ → List Plan
on_each papers scale cuts = flat_map (λ paper. stated paper scale false cuts) papers

abbrev pub one_to_one : Scale
one_to_one = record { num = 1; den = 1; listed = refl }

abbrev pub scale_or_one : Option Scale → Scale
scale_or_one (Some scale) = scale
scale_or_one None = one_to_one

-- what may be chosen: any paper; and for an older job no scale above 1:1, and sides that shrink if it says its scale
abbrev pub plans_on : Bool → Paper → Option Scale → ℕ → List Plan
plans_on true paper (Some scale) cuts = stated paper scale false cuts ++ stated paper scale true cuts
plans_on false paper (Some scale) cuts = stated paper scale false cuts
plans_on true paper None cuts = falling paper cuts from_one
plans_on false paper None cuts = falling paper cuts all_scales

abbrev pub plans_of : Bool → Bool → Paper → Option Scale → ℕ → List Plan
plans_of any_paper older paper scale cuts = if any_paper then on_each papers (scale_or_one scale) cuts else plans_on older paper scale cuts

-- ---- what the job could say instead
-- one of these scales
abbrev pub at_scales : Bool → Bool → Paper → List Scale → ℕ → List Plan
at_scales any_paper older paper scales cuts = flat_map (λ scale. plans_of any_paper older paper (Some scale) cuts) scales

-- one of these papers
abbrev pub on_papers : Bool → List Paper → Option Scale → ℕ → List Plan
on_papers older papers scale cuts = flat_map (λ paper. plans_on older paper scale cuts) papers
