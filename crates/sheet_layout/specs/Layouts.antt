-- The layout of a job's views: the first plan that has room for them.
use Rattle.std.specs.Prelude.{◌≡◌, ◌↔◌, ℕ, ◌-◌, ◌&&◌, ◌==◌, not, Bool, true, false, IsTrue, if◌then◌else◌, refl, pos, List, [], ◌∷◌, find, Option, Some, None, length}
use Rattle.std.specs.List.{AllZip}
use Rattle.lattice.specs.declared.pieces.ViewSpec.{ViewSpec}
use Rattle.lattice.specs.declared.pieces.ViewSpec.TheVariants.{Plain, Section}
use Rattle.lattice.specs.declared.points.Corner.{Corner}
use Rattle.lattice.specs.Cuts.{plane_of}
use Rattle.lattice.specs.Points.{of_dir}
use Rattle.geometry.specs.Traces.{GoesThrough}
use Rattle.job_file.specs.ShownCuts.{cuts_in}
use Rattle.job_file.specs.declared.job.Job.{Job}
use Rattle.job_file.specs.declared.job.Paper.{Paper}
use Rattle.job_file.specs.declared.job.Paper.TheVariants.{A0, A1, A2, A3, A4}
use Rattle.job_file.specs.declared.job.Scale.{Scale}
use Rattle.job_file.specs.declared.view.JobView.{JobView}
use Rattle.sheet_plan.specs.Extents.{AreExtents}
use Rattle.sheet_plan.specs.Numbers.{measure_of}
use Rattle.sheet_plan.specs.declared.bounds.Extent.{Extent}
use Rattle.sheet_plan.specs.declared.sheet.Sheet.{Sheet}
use Rattle.sheet_plan.specs.declared.sheet.Spread.{Spread}
use Rattle.sheet_layout.specs.Plans.{all_scales, at_scales, on_papers, one_to_one, plans_of}
use Rattle.sheet_layout.specs.Rooms.{height_of, room_of, width_of}
use Rattle.sheet_layout.specs.Rows.{Rows, rows_of}
use Rattle.sheet_layout.specs.Seats.{seats_from}
use Rattle.sheet_layout.specs.Trials.{has_room, origin_x, origin_y, stand_well, standings_in}
use Rattle.sheet_layout.specs.declared.layout.Layout.{Layout}
use Rattle.sheet_layout.specs.declared.layout.LayoutError.{LayoutError}
use Rattle.sheet_layout.specs.declared.layout.LayoutError.TheVariants.{NoRoom as NoRoomFor, Memory}
use Rattle.sheet_layout.specs.declared.layout.NoRoom.{NoRoom}
use Rattle.sheet_layout.specs.declared.layout.Wish.{Wish}
use Rattle.sheet_layout.specs.declared.plans.Plan.{Plan}
use Rattle.sheet_layout.specs.declared.rooms.Room.{Room}
use Rattle.sheet_layout.specs.declared.rects.Standing.{Standing}
use Rattle.sheet_layout.specs.declared.seats.Seat.{Seat}
use Rattle.sheet_layout.specs.declared.sides.Sides.{Sides}

-- ---- one plan
-- what is laid out: the job, which of its cuts go through the part, what each view needs on its sides, and how far the part reaches in it
pub record Case : Type 0 where
  pub job : Job
  pub through : List Bool
  pub sides : List Sides
  pub extents : List Extent

abbrev pub case_of : Job → List Bool → List Sides → List Extent → Case
case_of job through sides extents = record { job = job; through = through; sides = sides; extents = extents }

abbrev pub seats_on : Case → Plan → List Seat
seats_on c p = seats_from c.job.third p.shrunk (measure_of p.scale c.job.decimals) c.job.views.items p.kept 0 0 c.job.views.items c.through c.sides c.extents

abbrev pub room_on : Case → Plan → Room
room_on c p = room_of p.paper c.job.portrait p.beside

-- where sides are shrunk no box is moved for being in line with another
abbrev pub tries_on : Plan → ℕ
tries_on p = if p.shrunk then 0 else 12

abbrev pub rows_on : Case → Plan → Rows
rows_on c p = rows_of p.corner (tries_on p) ((room_on c p).right - (room_on c p).left) (seats_on c p)

abbrev pub standings_on : Case → Plan → List Standing
standings_on c p = standings_in (room_on c p) (seats_on c p) (rows_on c p) (seats_on c p)

abbrev pub fits : Case → Plan → Bool
fits c p = has_room (room_on c p) (rows_on c p) && stand_well (room_on c p) (standings_on c p)

abbrev pub plans_for : Wish → Job → List Plan
plans_for w job = plans_of w.any_paper w.older job.paper job.scale (length (cuts_in job.views.items))

-- ---- the sheet
-- the view has its origin there
pub record IsOriginOf (t : Standing) (place : Spread) : Type 0 where
  pub direction : of_dir place.d ≡ of_dir t.seat.d
  pub x : place.x0 ≡ origin_x t
  pub y : place.y0 ≡ origin_y t

pub record IsSheetBy (c : Case) (p : Plan) (sheet : Sheet) : Type 0 where
  pub width : sheet.width ≡ pos (width_of p.paper c.job.portrait)
  pub height : sheet.height ≡ pos (height_of p.paper c.job.portrait)
  pub decimals : sheet.decimals ≡ c.job.decimals
  pub scale : sheet.scale ≡ p.scale
  pub places : AllZip IsOriginOf (standings_on c p) sheet.places.items

-- whether a view shows a cut that goes through the part
abbrev pub IsThrough : List Corner → ViewSpec → Bool → Type 0
IsThrough corners (Plain d) through = through ≡ false
IsThrough corners (Section c) through = IsTrue through ↔ GoesThrough (plane_of c) corners

abbrev pub AreThrough : List Corner → List JobView → List Bool → Type 0
AreThrough corners views through = AllZip (λ v t. IsThrough corners v.spec t) views through

-- what is laid out of a job and a part with these corners
pub record IsCaseOf (job : Job) (corners : List Corner) (sides : List Sides) (c : Case) : Type 0 where
  pub job_is : c.job ≡ job
  pub through : AreThrough corners job.views.items c.through
  pub sides_are : c.sides ≡ sides
  pub reach : AreExtents corners job.views.items c.extents

-- the layout is that of the first plan that has room, of a case
pub record IsLaidBy (c : Case) (w : Wish) (layout : Layout) : Type 0 where
  pub plan : Plan
  pub first : find (fits c) (plans_for w c.job) ≡ Some plan
  pub sheet : IsSheetBy c plan layout.sheet
  pub paper : layout.paper ≡ plan.paper
  pub shrunk : layout.shrunk ≡ plan.shrunk

-- and of a job and a part
pub record IsLaidOut (job : Job) (corners : List Corner) (sides : List Sides) (w : Wish) (layout : Layout) : Type 0 where
  pub laid : Case
  pub of_job : IsCaseOf job corners sides laid
  pub plan : Plan
  pub first : find (fits laid) (plans_for w job) ≡ Some plan
  pub sheet : IsSheetBy laid plan layout.sheet
  pub paper : layout.paper ≡ plan.paper
  pub shrunk : layout.shrunk ≡ plan.shrunk

-- ---- no room
-- all scales after this one
abbrev pub scales_after : Scale → List Scale → List Scale
scales_after scale [] = []
scales_after scale (s ∷ ss) = if (s.num == scale.num) && (s.den == scale.den) then ss else scales_after scale ss

-- the last plan of those that are tried on a paper: above the title block
abbrev pub last_scale : Bool → Option Scale → Scale
last_scale any_paper (Some scale) = scale
last_scale true None = one_to_one
last_scale false None = record { num = 1; den = 100; listed = refl }

abbrev pub is_stated : Option Scale → Bool
is_stated (Some scale) = true
is_stated None = false

abbrev pub last_plan : Wish → Job → Plan
last_plan w job = record {
  paper = if w.any_paper then A0 else job.paper;
  scale = last_scale w.any_paper job.scale;
  shrunk = not w.any_paper && (w.older && is_stated job.scale);
  kept = 0;
  corner = false;
  beside = false;
}

-- the scale and the paper of the first plan that has room
abbrev pub scale_of : Option Plan → Option Scale
scale_of (Some p) = Some p.scale
scale_of None = None

abbrev pub paper_of : Option Plan → Option Paper
paper_of (Some p) = Some p.paper
paper_of None = None

-- papers that are larger
abbrev pub larger_than : Paper → List Paper
larger_than A4 = A3 ∷ A2 ∷ A1 ∷ A0 ∷ []
larger_than A3 = A2 ∷ A1 ∷ A0 ∷ []
larger_than A2 = A1 ∷ A0 ∷ []
larger_than A1 = A0 ∷ []
larger_than A0 = []

-- No plan has room; that much the last one needs more; and of the smaller scales that the job could say, and of the larger papers, the first with
-- which a plan has room.
pub record LacksRoom (c : Case) (w : Wish) (n : NoRoom) : Type 0 where
  pub none : find (fits c) (plans_for w c.job) ≡ None
  pub paper : n.paper ≡ (last_plan w c.job).paper
  pub scale : n.scale ≡ (last_plan w c.job).scale
  pub across : n.more_across ≡ (rows_on c (last_plan w c.job)).width - ((room_on c (last_plan w c.job)).right - (room_on c (last_plan w c.job)).left)
  pub down : n.more_down ≡ (rows_on c (last_plan w c.job)).bottom - ((room_on c (last_plan w c.job)).bottom - (room_on c (last_plan w c.job)).top)
  pub smaller : n.smaller ≡ scale_of (find (fits c) (at_scales w.any_paper w.older c.job.paper (scales_after (last_plan w c.job).scale all_scales) (length (cuts_in c.job.views.items))))
  pub larger : n.larger ≡ paper_of (find (fits c) (on_papers w.older (larger_than (last_plan w c.job).paper) c.job.scale (length (cuts_in c.job.views.items))))

abbrev pub IsNotLaidBy : Case → Wish → LayoutError → Type 0
IsNotLaidBy c w (NoRoomFor n) = LacksRoom c w n
IsNotLaidBy c w (Memory e) = Unit {0}

pub record HasNoRoom (job : Job) (corners : List Corner) (sides : List Sides) (w : Wish) (n : NoRoom) : Type 0 where
  pub tried : Case
  pub of_job : IsCaseOf job corners sides tried
  pub lacks : LacksRoom tried w n

abbrev pub IsNotLaidOut : Job → List Corner → List Sides → Wish → LayoutError → Type 0
IsNotLaidOut job corners sides w (NoRoomFor n) = HasNoRoom job corners sides w n
IsNotLaidOut job corners sides w (Memory e) = Unit {0}
