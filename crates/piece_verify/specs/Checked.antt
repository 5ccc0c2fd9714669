-- When a piece list is good for a solid and a job, and where it first is not.
use Rattle.std.specs.Prelude.{◌≡◌, ℕ, ◌<◌, ◌≤◌, List, length, take, All, Option, Some, slice_get}
use Rattle.std.specs.List.{AllZip}
use Rattle.lattice.specs.Creases.{fraction_of}
use Rattle.lattice.specs.declared.pieces.Piece.{Piece}
use Rattle.lattice.specs.declared.pieces.ViewSpec.{ViewSpec}
use Rattle.job_file.specs.Seen.{direction_seen}
use Rattle.job_file.specs.declared.job.Job.{Job}
use Rattle.job_file.specs.declared.view.JobView.{JobView}
use Rattle.solid_mesh.specs.Solids.{solid_part}
use Rattle.solid_mesh.specs.declared.solid.Solid.{Solid}
use Rattle.job_file.specs.ShownCuts.{planes_in}
use Rattle.drawing_laws.specs.Views.{IsRightView, IsOrderedView}
use Rattle.drawing_laws.specs.Alike.{AreAlike}
use Rattle.piece_verify.specs.Stands.{StandsFor, AgreeAt, pieces_in}
use Rattle.piece_verify.specs.declared.line.Entry.{Entry}
use Rattle.piece_verify.specs.declared.check.Verdict.{Verdict}
use Rattle.piece_verify.specs.declared.check.Verdict.TheVariants.{Right, Stranger, Differs}

-- ---- good lists
-- the pieces are right for a view of the job's, and in order
pub record IsRightList (solid : Solid) (job : Job) (spec : ViewSpec) (pieces : List Piece) : Type 0 where
  pub right : IsRightView spec (fraction_of job.crease) (solid_part solid) (planes_in job.views.items) pieces
  pub order : IsOrderedView spec pieces

-- the entries are good for a view: there are pieces that they stand for, and all such pieces are right for it, and in order
pub record IsGoodIn (solid : Solid) (job : Job) (spec : ViewSpec) (given : List Entry) : Type 0 where
  pub some : (pieces : List Piece) × AllZip (StandsFor (direction_seen spec)) given pieces
  pub every : (pieces : List Piece) → AllZip (StandsFor (direction_seen spec)) given pieces → IsRightList solid job spec pieces

abbrev pub IsViewOf : Job → ℕ → JobView → Type 0
IsViewOf job view asked = slice_get job.views.items view ≡ Some asked

-- each entry's view is one of the job's
abbrev pub AreKnown : Job → List Entry → Type 0
AreKnown job entries = All (λ e. e.view < length job.views.items) entries

-- and in each view the entries are good
pub record IsGoodList (solid : Solid) (job : Job) (entries : List Entry) : Type 0 where
  pub known : AreKnown job entries
  pub good : (view : ℕ) (asked : JobView) → IsViewOf job view asked → IsGoodIn solid job asked.spec (pieces_in view entries)

-- ---- where a list is not good
-- the entry at this place is of none of the job's views, and each before it is
pub record IsFirstStranger (job : Job) (entries : List Entry) (place : ℕ) : Type 0 where
  pub entry : Entry
  pub at : slice_get entries place ≡ Some entry
  pub unknown : length job.views.items ≤ entry.view
  pub earlier : AreKnown job (take place entries)

-- There is one right list for the view; any other is drawn alike. The entries agree with it before the place, and not at it: there it
-- has the wanted piece, or it ends there where none is wanted.
pub record DiffersAt (solid : Solid) (job : Job) (spec : ViewSpec) (given : List Entry) (place : ℕ) (want : Option Piece) : Type 0 where
  pub pieces : List Piece
  pub right : IsRightList solid job spec pieces
  pub one : (others : List Piece) → IsRightList solid job spec others → AllZip (AreAlike (direction_seen spec)) pieces others
  pub agrees : AllZip (StandsFor (direction_seen spec)) (take place given) (take place pieces)
  pub wanted : slice_get pieces place ≡ want
  pub lacks : ¬ AgreeAt (direction_seen spec) (slice_get given place) want
  pub bad : ¬ IsGoodIn solid job spec given

-- each entry's view is one of the job's, the earlier views are good, and this one differs
pub record IsFirstDifference (solid : Solid) (job : Job) (entries : List Entry) (view place : ℕ) (want : Option Piece) : Type 0 where
  pub known : AreKnown job entries
  pub earlier : (n : ℕ) (asked : JobView) → n < view → IsViewOf job n asked → IsGoodIn solid job asked.spec (pieces_in n entries)
  pub asked : JobView
  pub is_view : IsViewOf job view asked
  pub differs : DiffersAt solid job asked.spec (pieces_in view entries) place want

-- what a list comes to
abbrev pub IsVerdict : Solid → Job → List Entry → Verdict → Type 0
IsVerdict solid job entries Right = IsGoodList solid job entries
IsVerdict solid job entries (Stranger place) = IsFirstStranger job entries place
IsVerdict solid job entries (Differs view place want) = IsFirstDifference solid job entries view place want
