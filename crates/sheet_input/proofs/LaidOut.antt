-- A drawing on the sheet of its layout, also where that chose its paper.
use Rattle.std.proofs.Common.{◌≡◌, inl, inr, ℕ, Bool, true, false, List, find, length, Option, Some, refl, sym, ap, subst, ◌∙◌, true≢false}
use Rattle.std.specs.Prelude.{pos}
use Rattle.std.specs.List.{AllZip}
use Rattle.cut_marks.specs.AskedSides.{sides_for, sides_from}
use Rattle.drawing.specs.Drawing.{HasPlaces, IsDrawing, drawn_in}
use Rattle.drawing.specs.declared.drawn.Drawing.{Drawing}
use Rattle.geometry.specs.Parts.{Part}
use Rattle.job_file.specs.Seen.{job_seen}
use Rattle.job_file.specs.ShownCuts.{cuts_in}
use Rattle.job_file.specs.declared.job.Job.{Job}
use Rattle.job_file.specs.declared.job.Paper.{Paper}
use Rattle.job_file.specs.declared.job.Scale.{Scale}
use Rattle.job_file.specs.declared.view.JobView.{JobView}
use Rattle.lattice.specs.declared.points.Corner.{Corner}
use Rattle.sheet_layout.specs.Keeps.{HasPlaceForEach, KeepsApart, KeepsInLine, KeepsSides, StandsInFrame}
use Rattle.sheet_layout.specs.Layouts.{Case, IsCaseOf, IsLaidOut, IsOriginOf, IsSheetBy, IsThrough, fits, paper_of, plans_for, seats_on}
use Rattle.sheet_layout.specs.Plans.{plans_of}
use Rattle.sheet_layout.specs.Rooms.{height_of, width_of}
use Rattle.sheet_layout.specs.declared.layout.Layout.{Layout}
use Rattle.sheet_layout.specs.declared.layout.Wish.{Wish}
use Rattle.sheet_layout.specs.declared.sides.Sides.{Sides}
use Rattle.sheet_plan.specs.Extents.{AreExtents}
use Rattle.solid_mesh.specs.Solids.{solid_part}
use Rattle.solid_mesh.specs.declared.solid.Solid.{Solid}
use Rattle.sheet_input.specs.Laid.{IsLaidDrawing}
use Rattle.part_input.specs.Steps.{RefusesOf}
use Rattle.part_input.specs.declared.fault.Fault.TheVariants.{Memory}
use Rattle.sheet_input.specs.Faults.{sheet_faults}
use Rattle.sheet_input.specs.Sheets.{HasLayout, LaysSheet, job_on}
use Rattle.sheet_input.specs.declared.fault.SheetFault.{SheetFault}
use Rattle.sheet_input.specs.declared.fault.SheetFault.TheVariants.{Common, NoRoom}
use Rattle.sheet_input.specs.inner.Taking.{IsDrawnFor, IsLaidFor, IsOnOwnPaper, IsSameButPaper, IsUnlaid}
use Rattle.sheet_input.proofs.Cases.{AreAlike, fits_same, seats_same, standings_same}

-- ---- by the sides that the job asks for
-- what is known of a layout by these sides, whichever case and plan it is laid out by
pub record IsLaidWith (job : Job) (corners : List Corner) (w : Wish) (layout : Layout) (sides : List Sides) : Type 0 where
  pub laid : IsLaidOut job corners sides w layout
  pub apart : KeepsApart corners sides layout
  pub in_frame : StandsInFrame corners sides layout
  pub in_line : (l : IsLaidOut job corners sides w layout) → KeepsInLine (seats_on l.laid l.plan) layout
  pub beside : (l : IsLaidOut job corners sides w layout) → KeepsSides corners sides (seats_on l.laid l.plan) layout
  pub places : HasPlaceForEach job.views.items layout

pub laid_for : (job : Job) (corners : List Corner) (w : Wish) (sides : List Sides) → sides ≡ sides_for job → (layout : Layout) → IsLaidWith job corners w layout sides → IsLaidFor job corners w layout
laid_for job corners w sides asked layout with_sides =
    let h = subst (IsLaidWith job corners w layout) asked with_sides in
    record { laid = h.laid; apart = h.apart; in_frame = h.in_frame; in_line = h.in_line h.laid; beside = h.beside h.laid; places = h.places }

-- ---- on another paper
any_plans : (any older : Bool) (p q : Paper) (scale : Option Scale) (cuts : ℕ) → any ≡ true → plans_of any older p scale cuts ≡ plans_of any older q scale cuts
any_plans true older p q scale cuts is = refl
any_plans false older p q scale cuts is = absurd (true≢false (sym is))

module _ (job made : Job) (same : IsSameButPaper job made) (corners : List Corner) where
  sides : sides_for job ≡ sides_for made
  sides = sym (λ i. sides_from (same.decimals i) (same.unit i) (cuts_in (same.views i)) 0 (same.views i))

  module _ (w : Wish) (any : w.any_paper ≡ true) (layout : Layout) (l : IsLaidOut job corners (sides_for job) w layout) where
    abbrev case : Case
    case = record { job = made; through = l.laid.through; sides = l.laid.sides; extents = l.laid.extents }

    of_made : IsCaseOf made corners (sides_for made) case
    of_made = record {
      job_is = refl;
      through = subst (λ (vs : List JobView). AllZip (λ (v : JobView) (t : Bool). IsThrough corners v.spec t) vs l.laid.through) (sym same.views) l.of_job.through;
      sides_are = l.of_job.sides_are ∙ sides;
      reach = subst (λ (vs : List JobView). AreExtents corners vs l.laid.extents) (sym same.views) l.of_job.reach;
    }

    alike : AreAlike l.laid case
    alike =
        let is = l.of_job.job_is in
        record {
          third = ap (λ (j : Job). j.third) is ∙ sym same.third;
          decimals = ap (λ (j : Job). j.decimals) is ∙ sym same.decimals;
          portrait = ap (λ (j : Job). j.portrait) is ∙ sym same.portrait;
          views = ap (λ (j : Job). j.views.items) is ∙ sym same.views;
          through = refl;
          sides = refl;
          extents = refl;
        }

    first : find (fits case) (plans_for w made) ≡ Some l.plan
    first =
        let fit = fits_same l.laid case alike in
        (λ i. find (sym fit i) (plans_of w.any_paper w.older made.paper (same.scale i) (length (cuts_in (same.views i)))))
        ∙ ap (λ ps. find (fits l.laid) ps) (any_plans w.any_paper w.older made.paper job.paper job.scale (length (cuts_in job.views.items)) any) ∙ l.first

    sheet_by : IsSheetBy case l.plan layout.sheet
    sheet_by = record {
      width = l.sheet.width ∙ (λ i. pos (width_of l.plan.paper (alike.portrait i)));
      height = l.sheet.height ∙ (λ i. pos (height_of l.plan.paper (alike.portrait i)));
      decimals = l.sheet.decimals ∙ alike.decimals;
      scale = l.sheet.scale;
      places = subst (λ all. AllZip IsOriginOf (all l.plan) layout.sheet.places.items) (standings_same l.laid case alike) l.sheet.places;
    }

    abbrev laid_on : IsLaidOut made corners (sides_for made) w layout
    laid_on = record { laid = case; of_job = of_made; plan = l.plan; first = first; sheet = sheet_by; paper = l.paper; shrunk = l.shrunk }

  on_other : (w : Wish) → w.any_paper ≡ true → (layout : Layout) → IsLaidFor job corners w layout → IsLaidFor made corners w layout
  on_other w any layout is = record {
    laid = laid_on w any layout is.laid;
    apart = subst (λ (asked : List Sides). KeepsApart corners asked layout) sides is.apart;
    in_frame = subst (λ (asked : List Sides). StandsInFrame corners asked layout) sides is.in_frame;
    in_line = subst (λ seats. KeepsInLine (seats is.laid.plan) layout) (seats_same is.laid.laid (case w any layout is.laid) (alike w any layout is.laid)) is.in_line;
    beside = subst (λ (asked : List Sides). KeepsSides corners asked (seats_on (case w any layout is.laid) is.laid.plan) layout) sides
        (subst (λ seats. KeepsSides corners (sides_for job) (seats is.laid.plan) layout) (seats_same is.laid.laid (case w any layout is.laid) (alike w any layout is.laid)) is.beside);
    places = subst (λ (vs : List JobView). HasPlaceForEach vs layout) (sym same.views) is.places;
  }

-- the job that is drawn is laid out so
pub drawn_for : (job made : Job) (corners : List Corner) (w : Wish) (layout : Layout) → IsDrawnFor w layout.paper job made → IsLaidFor job corners w layout → IsLaidFor made corners w layout
drawn_for job made corners w layout (inl (none, same)) is = subst (λ (j : Job). IsLaidFor j corners w layout) (sym same) is
drawn_for job made corners w layout (inr (any, paper, same)) is = on_other job made same corners w any layout is

pub on_its_paper : (job made : Job) (w : Wish) (layout : Layout) → IsDrawnFor w layout.paper job made → IsOnOwnPaper job w layout → layout.paper ≡ made.paper
on_its_paper job made w layout (inl (none, same)) own = own none ∙ ap (λ (j : Job). j.paper) (sym same)
on_its_paper job made w layout (inr (any, paper, same)) own = sym paper

-- ---- the drawing
pub has_places : (job : Job) (corners : List Corner) (w : Wish) (layout : Layout) → IsLaidFor job corners w layout → HasPlaces job.views.items layout.sheet
has_places job corners w layout is = record { count = is.places.count; direction = is.places.direction }

pub laid_drawing : (d : Drawing) (solid : Solid) (job : Job) (w : Wish) (layout : Layout) → (d.solid ≡ solid) × (d.job ≡ job) × (d.sheet ≡ layout.sheet) → IsLaidFor job (solid_part solid).corners w layout
    → layout.paper ≡ job.paper → IsDrawing d → IsLaidDrawing d w layout.shrunk
laid_drawing d solid job w layout (same_solid, same_job, same_sheet) laid paper shows =
    let is : IsLaidFor d.job (solid_part d.solid).corners w layout =
    subst (λ (s : Solid). IsLaidFor d.job (solid_part s).corners w layout) (sym same_solid) (subst (λ (j : Job). IsLaidFor j (solid_part solid).corners w layout) (sym same_job) laid) in
    record {
      shows = shows;
      layout = layout;
      sheet = same_sheet;
      paper = paper ∙ ap (λ (j : Job). j.paper) (sym same_job);
      shrunk_is = refl;
      laid = is.laid;
      apart = is.apart;
      in_frame = is.in_frame;
      in_line = is.in_line;
      beside = is.beside;
      places = is.places;
    }

-- it is that of the job and the part
pub layout_given : (d : Drawing) (solid : Solid) (job made : Job) (w : Wish) (layout : Layout) → d.solid ≡ solid → d.job ≡ made → job_seen made ≡ job_on w layout.paper (job_seen job)
    → IsLaidFor job (solid_part solid).corners w layout → HasLayout w (job_seen job) (solid_part solid) (drawn_in d)
layout_given d solid job made w layout same_solid same_job seen is =
    let by_job : job_seen d.job ≡ job_on w is.laid.plan.paper (job_seen job) =
    ap job_seen same_job ∙ seen ∙ ap (λ (p : Paper). job_on w p (job_seen job)) is.laid.paper in
    record {
      job = job;
      seen = refl;
      laid = is.laid.laid;
      of_job = is.laid.of_job;
      paper = is.laid.plan.paper;
      first = ap paper_of is.laid.first;
      drawn_is = λ i. record { job = by_job i; part = solid_part (same_solid i) };
    }

-- ---- no room
pub refused_sheet : (job : Job) (part : Part) (w : Wish) (e : SheetFault) → IsUnlaid job part.corners w e → RefusesOf sheet_faults (LaysSheet w (job_seen job) part) e
refused_sheet job part w (NoRoom lack) none = (job, refl, none)
refused_sheet job part w (Common Memory) none = tt
refused_sheet job part w e none = absurd none
