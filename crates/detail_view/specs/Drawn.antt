-- What a run of `pieces` draws of a view, and the file that it keeps.
use Rattle.std.specs.Prelude.{◌≡◌, ℕ, List, Option, Some, None, option_map, Bool, true, false, Result, Ok, Vec}
use Rattle.std.specs.declared.alloc.Global.{Global}
use Rattle.desk.specs.Files.{Files, Keeps, MayKeepFront}
use Rattle.job_file.specs.Seen.{direction_seen, scale_seen, job_seen}
use Rattle.job_file.specs.declared.job.Job.{Job}
use Rattle.job_file.specs.declared.job.Scale.{Scale}
use Rattle.job_file.specs.declared.view.JobView.{JobView}
use Rattle.lattice.specs.Creases.{fraction_of}
use Rattle.lattice.specs.Points.{of_dir}
use Rattle.lattice.specs.declared.pieces.Piece.{Piece}
use Rattle.lattice.specs.declared.points.Dir.{Dir}
use Rattle.solid_mesh.specs.Solids.{solid_part}
use Rattle.solid_mesh.specs.declared.solid.Solid.{Solid}
use Rattle.job_file.specs.ShownCuts.{planes_in}
use Rattle.drawing_laws.specs.Views.{IsOrderedView}
use Rattle.piece_verify.specs.Checked.{IsViewOf}
use Rattle.detail_pieces.specs.declared.windows.Window.{Window}
use Rattle.detail_pieces.specs.Details.{IsDetailView}
use Rattle.detail_pieces.specs.Pages.{IsDetailText}
use Rattle.detail_view.specs.Run.{Given, viewed, Details}
use Rattle.detail_view.specs.Seen.{window_seen}
use Rattle.detail_view.specs.Words.{Detail, Asked, details}
use Rattle.detail_view.specs.declared.fault.PiecesFault.{PiecesFault}
use Rattle.detail_view.specs.declared.fault.PiecesFault.TheVariants.{WriteFault}

-- The pieces are a detail of this view of the job's in the window, in order, and the page is that of the pieces at the scale.
pub record IsDrawnOf (job : Job) (solid : Solid) (view : ℕ) (o : Window) (scale : Scale) (pieces : List Piece) (page : List ℕ) : Type 0 where
  pub asked : JobView
  pub is_view : IsViewOf job view asked
  pub detail : IsDetailView asked.spec o (fraction_of job.crease) (solid_part solid) (planes_in job.views.items) pieces
  pub order : IsOrderedView asked.spec pieces
  pub d : Dir
  pub seen : of_dir d ≡ direction_seen asked.spec
  pub is_page : IsDetailText job.decimals scale d o pieces page

-- they are drawn so from what the steps give, as the words say
pub record IsDrawnBy (steps : Result Given PiecesFault → Type 0) (w : Detail) (pieces : List Piece) (page : List ℕ) : Type 0 where
  pub job : Job
  pub solid : Solid
  pub given : steps (Ok (viewed (job_seen job) (solid_part solid)))
  pub o : Window
  pub is_window : window_seen o ≡ w.window
  pub scale : Scale
  pub is_scale : scale_seen scale ≡ w.scale
  pub drawn : IsDrawnOf job solid w.view o scale pieces page

-- the pieces of a detail
abbrev pub pieces_told : Option (Vec Piece Global) → Option (List Piece)
pieces_told told = option_map (λ pieces. pieces.items) told

-- a detail is there where one was asked for and drawn, whether its page was kept or not, and else is not
abbrev pub HasDetail : Option Asked → Option PiecesFault → Bool → Type 0
HasDetail (Some (details w)) None there = there ≡ true
HasDetail (Some (details w)) (Some WriteFault) there = there ≡ true
HasDetail asked fault there = there ≡ false

-- What is left of the files where pieces and their page are like this: the page under the name; with a fault of writing what the
-- name held, or a prefix of the page. Each other name holds what it held, and with any other fault all do.
abbrev pub LeavesDrawn : (List Piece → List ℕ → Type 0) → List ℕ → Option PiecesFault → Option (List Piece) → Files → Files → Type 0
LeavesDrawn IsLike name None (Some pieces) old new = (page : List ℕ) × IsLike pieces page × Keeps old new name page
LeavesDrawn IsLike name (Some WriteFault) (Some pieces) old new = (page : List ℕ) × IsLike pieces page × MayKeepFront old new name page
LeavesDrawn IsLike name fault pieces old new = new ≡ old

-- what a run leaves of the files: the page of the detail that was asked for, and of a check nothing
abbrev pub KeepsPage : Option Asked → Option PiecesFault → Option (List Piece) → Files → Files → Type 0
KeepsPage (Some (details w)) fault pieces old new = LeavesDrawn (IsDrawnBy (Details old w) w) w.out fault pieces old new
KeepsPage asked fault pieces old new = new ≡ old
