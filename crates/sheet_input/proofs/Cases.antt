-- Cases that agree in what plans go by have the same plans, and lack the same.
use Rattle.std.proofs.Common.{◌≡◌, ◌-◌, ◌&&◌, not, false, if◌then◌else◌, find, length, sym, ◌∙◌}
use Rattle.job_file.specs.ShownCuts.{cuts_in}
use Rattle.job_file.specs.declared.job.Paper.TheVariants.{A0}
use Rattle.sheet_plan.specs.Numbers.{measure_of}
use Rattle.sheet_layout.specs.Layouts.{Case, LacksRoom, fits, is_stated, larger_than, last_plan, last_scale, paper_of, plans_for, room_on, rows_on, scale_of, scales_after, seats_on, standings_on, tries_on}
use Rattle.sheet_layout.specs.Plans.{all_scales, at_scales, on_papers, plans_of}
use Rattle.sheet_layout.specs.Rooms.{room_of}
use Rattle.sheet_layout.specs.Rows.{rows_of}
use Rattle.sheet_layout.specs.Seats.{seats_from}
use Rattle.sheet_layout.specs.Trials.{has_room, stand_well, standings_in}
use Rattle.sheet_layout.specs.declared.layout.NoRoom.{NoRoom}
use Rattle.sheet_layout.specs.declared.layout.Wish.{Wish}

-- what a plan is tried with
pub record AreAlike (c d : Case) : Type 0 where
  pub third : c.job.third ≡ d.job.third
  pub decimals : c.job.decimals ≡ d.job.decimals
  pub portrait : c.job.portrait ≡ d.job.portrait
  pub views : c.job.views.items ≡ d.job.views.items
  pub through : c.through ≡ d.through
  pub sides : c.sides ≡ d.sides
  pub extents : c.extents ≡ d.extents

module _ (c d : Case) (a : AreAlike c d) where
  -- ---- one plan
  pub seats_same : seats_on c ≡ seats_on d
  seats_same = λ i p. seats_from (a.third i) p.shrunk (measure_of p.scale (a.decimals i)) (a.views i) p.kept 0 0 (a.views i) (a.through i) (a.sides i) (a.extents i)

  room_same : room_on c ≡ room_on d
  room_same = λ i p. room_of p.paper (a.portrait i) p.beside

  rows_same : rows_on c ≡ rows_on d
  rows_same = λ i p. rows_of p.corner (tries_on p) ((room_same i p).right - (room_same i p).left) (seats_same i p)

  pub standings_same : standings_on c ≡ standings_on d
  standings_same = λ i p. standings_in (room_same i p) (seats_same i p) (rows_same i p) (seats_same i p)

  pub fits_same : fits c ≡ fits d
  fits_same = λ i p. has_room (room_same i p) (rows_same i p) && stand_well (room_same i p) (standings_same i p)

  -- ---- all plans
  module _ (w : Wish) (paper : c.job.paper ≡ d.job.paper) (scale : c.job.scale ≡ d.job.scale) where
    plans_same : plans_for w c.job ≡ plans_for w d.job
    plans_same = λ i. plans_of w.any_paper w.older (paper i) (scale i) (length (cuts_in (a.views i)))

    pub first_same : find (fits c) (plans_for w c.job) ≡ find (fits d) (plans_for w d.job)
    first_same = λ i. find (fits_same i) (plans_same i)

    last_same : last_plan w c.job ≡ last_plan w d.job
    last_same = λ i. record {
      paper = if w.any_paper then A0 else paper i;
      scale = last_scale w.any_paper (scale i);
      shrunk = not w.any_paper && (w.older && is_stated (scale i));
      kept = 0;
      corner = false;
      beside = false;
    }

    -- ---- no room
    pub lack_same : (n m : NoRoom) → LacksRoom c w n → LacksRoom d w m → n ≡ m
    lack_same n m x y =
        let across = x.across ∙ (λ i. (rows_same i (last_same i)).width - ((room_same i (last_same i)).right - (room_same i (last_same i)).left)) ∙ sym y.across in
        let down = x.down ∙ (λ i. (rows_same i (last_same i)).bottom - ((room_same i (last_same i)).bottom - (room_same i (last_same i)).top)) ∙ sym y.down in
        let smaller = x.smaller ∙ (λ i. scale_of (find (fits_same i) (at_scales w.any_paper w.older (paper i) (scales_after ((last_same i).scale) all_scales) (length (cuts_in (a.views i)))))) ∙ sym y.smaller in
        let larger = x.larger ∙ (λ i. paper_of (find (fits_same i) (on_papers w.older (larger_than ((last_same i).paper)) (scale i) (length (cuts_in (a.views i)))))) ∙ sym y.larger in
        let on = x.paper ∙ (λ i. (last_same i).paper) ∙ sym y.paper in
        let at = x.scale ∙ (λ i. (last_same i).scale) ∙ sym y.scale in
        λ i. record { paper = on i; scale = at i; more_across = across i; more_down = down i; smaller = smaller i; larger = larger i }

-- what a case lacks
abbrev pub lack_of : Wish → Case → NoRoom
lack_of w c = record {
  paper = (last_plan w c.job).paper;
  scale = (last_plan w c.job).scale;
  more_across = (rows_on c (last_plan w c.job)).width - ((room_on c (last_plan w c.job)).right - (room_on c (last_plan w c.job)).left);
  more_down = (rows_on c (last_plan w c.job)).bottom - ((room_on c (last_plan w c.job)).bottom - (room_on c (last_plan w c.job)).top);
  smaller = scale_of (find (fits c) (at_scales w.any_paper w.older c.job.paper (scales_after (last_plan w c.job).scale all_scales) (length (cuts_in c.job.views.items))));
  larger = paper_of (find (fits c) (on_papers w.older (larger_than (last_plan w c.job).paper) c.job.scale (length (cuts_in c.job.views.items))));
}
