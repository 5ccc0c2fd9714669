-- A job's views of a part have a layout, or they lack room.
use Rattle.std.proofs.Common.{◌≡◌, inl, inr, ◌↔◌, Bool, true, false, IsTrue, List, [], ◌∷◌, find, Some, None, Ok, Err, refl, sym, ap, ◌∙◌, true≢false}
use Rattle.std.specs.Prelude.{Contains, pos, ◌*ℤ◌}
use Rattle.std.specs.List.{AllZip, Any}
use Rattle.answers_exist.proofs.Decided.{Decided, decided_any, decided_both, decided_by, decided_less, by_option}
use Rattle.cut_marks.specs.AskedSides.{sides_for}
use Rattle.geometry.specs.Parts.{Part}
use Rattle.geometry.specs.Traces.{GoesThrough}
use Rattle.job_file.specs.Documents.{JobValues}
use Rattle.job_file.specs.Seen.{job_seen}
use Rattle.job_file.specs.declared.job.Job.{Job}
use Rattle.job_file.specs.declared.job.Paper.{Paper}
use Rattle.job_file.specs.declared.view.JobView.{JobView}
use Rattle.lattice.specs.Cuts.{IsBeforePlane, IsBeyond, Plane, plane_height, plane_of, toward_of}
use Rattle.lattice.specs.Points.{height_of, point_of}
use Rattle.lattice.specs.declared.pieces.ViewSpec.{ViewSpec}
use Rattle.lattice.specs.declared.pieces.ViewSpec.TheVariants.{Plain, Section}
use Rattle.lattice.specs.declared.points.Corner.{Corner}
use Rattle.part_input.proofs.SomeSteps.{Any as Whatever, AreValues, HasAnswerSuch, IsProper, some_plan}
use Rattle.part_input.specs.Sheets.{PlansSheet}
use Rattle.part_input.specs.declared.fault.Fault.TheVariants.{DoesNotFit}
use Rattle.sheet_layout.specs.Layouts.{Case, IsCaseOf, IsThrough, LacksRoom, fits, paper_of, plans_for}
use Rattle.sheet_layout.specs.declared.layout.Wish.{Wish}
use Rattle.sheet_plan.specs.Extents.{AreExtents}
use Rattle.sheet_plan.specs.declared.bounds.Extent.{Extent}
use Rattle.sheet_input.specs.Sheets.{LaysSheet, job_on}
use Rattle.sheet_input.specs.declared.fault.SheetFault.TheVariants.{NoRoom as Lacking}
use Rattle.sheet_input.proofs.Cases.{lack_of}

-- ---- which cuts go through the part
module _ (corners : List Corner) where
  abbrev Has : (Corner → Type 0) → Type 0
  Has P = (k : Corner) × Contains corners k × P k

  has_any : (P : Corner → Type 0) → Has P ↔ Any P corners
  has_any P = (λ (k, (at, less, is), p). (at, k, less, is, p), λ (at, k, less, is, p). (k, (at, less, is), p))

  decided_has : (P : Corner → Type 0) → ((k : Corner) → Decided (P k)) → Decided (Has P)
  decided_has P each = decided_by (has_any P) (decided_any P each corners)

  decided_through : (c : Plane) → Decided (GoesThrough c corners)
  decided_through c =
      let before = λ (k : Corner). IsBeforePlane c (point_of k) in
      let beyond = λ (k : Corner). IsBeyond c (point_of k) in
      decided_by (λ (g : GoesThrough c corners). (g.before, g.beyond), λ (b, y). record { before = b; beyond = y })
      (decided_both
      (decided_has before (λ k. decided_less (plane_height c *ℤ (point_of k).w) (pos 2 *ℤ height_of (toward_of c) (point_of k))))
      (decided_has beyond (λ k. decided_less (pos 2 *ℤ height_of (toward_of c) (point_of k)) (plane_height c *ℤ (point_of k).w))))

  flag_of : {P : Type 0} → Decided P → (t : Bool) × (IsTrue t ↔ P)
  flag_of (inl p) = (true, (λ _. p, λ _. refl))
  flag_of (inr never) = (false, (λ t. absurd (true≢false (sym t)), λ p. absurd (never p)))

  some_through : (v : ViewSpec) → (t : Bool) × IsThrough corners v t
  some_through (Plain d) = (false, refl)
  some_through (Section c) = flag_of (decided_through (plane_of c))

  each_through : (vs : List JobView) → (ts : List Bool) × AllZip (λ (v : JobView) (t : Bool). IsThrough corners v.spec t) vs ts
  each_through [] = ([], tt)
  each_through (v ∷ vs) =
      let (t, first) = some_through v.spec in
      let (ts, others) = each_through vs in
      (t ∷ ts, (first, others))

-- ---- a case
-- what is laid out of a job with these values, and a part with these corners
abbrev HasCase : JobValues → List Corner → Type 0
HasCase values corners = (job : Job) × (job_seen job ≡ values) × (c : Case) × (c.job ≡ job) × IsCaseOf job corners (sides_for job) c

case_of : (values : JobValues) (corners : List Corner) (job : Job) → job_seen job ≡ values → (extents : List Extent) → AreExtents corners job.views.items extents → HasCase values corners
case_of values corners job same extents reach =
    let (ts, through) = each_through corners job.views.items in
    let c : Case = record { job = job; through = ts; sides = sides_for job; extents = extents } in
    (job, same, c, refl, record { job_is = refl; through = through; sides_are = refl; reach = reach })

-- the part reaches so far in the views: that is known where they are planned, and where they don't fit
planned_case : (values : JobValues) (part : Part) → HasAnswerSuch Whatever (PlansSheet values part) → HasCase values part.corners
planned_case values part (Ok drawn, ((_, (job, same, sheet, is)), _)) = case_of values part.corners job same is.extents is.reach
planned_case values part (Err (DoesNotFit need_w need_h have_w have_h), ((job, same, none), _)) = case_of values part.corners job same none.extents none.reach
planned_case values part (Err e, (p, _)) = elim p [ ]

-- ---- an answer
module _ (w : Wish) (values : JobValues) (part : Part) (job : Job) (seen : job_seen job ≡ values) (c : Case) (is : c.job ≡ job) (of_job : IsCaseOf job part.corners (sides_for job) c) where
  laid : (paper : Paper) → paper_of (find (fits c) (plans_for w job)) ≡ Some paper → HasAnswerSuch Whatever (LaysSheet w values part)
  laid paper first = (
    Ok (record { job = job_on w paper values; part = part }),
    (record { job = job; seen = seen; laid = c; of_job = of_job; paper = paper; first = first; drawn_is = refl }, tt),
  )

  lacking : find (fits c) (plans_for w c.job) ≡ None → HasAnswerSuch Whatever (LaysSheet w values part)
  lacking none =
      let lacks : LacksRoom c w (lack_of w c) = record { none = none; paper = refl; scale = refl; across = refl; down = refl; smaller = refl; larger = refl } in
      (Err (Lacking (lack_of w c)), ((job, seen, record { tried = c; of_job = of_job; lacks = lacks }), tt))

  laid_or_not : HasAnswerSuch Whatever (LaysSheet w values part)
  laid_or_not = by_option (find (fits c) (plans_for w c.job)) lacking (λ plan e. laid plan.paper (ap (λ (j : Job). paper_of (find (fits c) (plans_for w j))) (sym is) ∙ ap paper_of e))

pub some_layout : (w : Wish) (values : JobValues) → AreValues values → (part : Part) → IsProper part → HasAnswerSuch Whatever (LaysSheet w values part)
some_layout w values are part proper =
    let (job, seen, c, is, of_job) = planned_case values part (some_plan values are part proper) in
    laid_or_not w values part job seen c is of_job
