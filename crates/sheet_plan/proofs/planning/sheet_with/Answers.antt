use Rattle.std.proofs.Common.{◌≡◌, List, rules, arith, ◌∙◌, refl, subst, true, false, pos, ◌-ℤ◌, FitsSigned}
use Rattle.std.specs.Int.{w64}
use Rattle.std.proofs.lemmas.Int.{ints, to_z-of_z}
use Rattle.sheet_plan.specs.declared.cells.Shape.{Shape}
use Rattle.sheet_plan.specs.Layout.{AreInPlace}
use Rattle.sheet_plan.specs.Numbers.{measure_of}
use Rattle.sheet_plan.proofs.Rooms.{as_many, room, no_room}
use Rattle.sheet_plan.proofs.planning.sheet_with.Goals as goal

pub need_of-need-requires-clause-few : goal.need_of-need-requires-clause-few
need_of-need-requires-clause-few c =
    let job = c.args.job.now in
    let count = as_many job c.args.extents.now (measure_of c.args.scale job.decimals) c.args.shapes.now c.requires.count c.requires.shapes.value in
    omega (arith, count, job.few_views)

pub places-requires-clause-few : goal.places-requires-clause-few
places-requires-clause-few c =
    let job = c.args.job.now in
    let count = as_many job c.args.extents.now (measure_of c.args.scale job.decimals) c.args.shapes.now c.requires.count c.requires.shapes.value in
    omega (arith, count, job.few_views)

pub places-requires-clause-count : goal.places-requires-clause-count
places-requires-clause-count c =
    let job = c.args.job.now in
    as_many job c.args.extents.now (measure_of c.args.scale job.decimals) c.args.shapes.now c.requires.count c.requires.shapes.value ∙ c.requires.count

pub returns-then-not-fits-clause-refused : goal.returns-then-not-fits-clause-refused
returns-then-not-fits-clause-refused c =
    let need_w : FitsSigned w64 c.need_of-need.result.width = search rules in
    let need_h : FitsSigned w64 c.need_of-need.result.height = search rules in
    let width : FitsSigned w64 c.format_of-format.result.width = search rules in
    let height : FitsSigned w64 c.format_of-format.result.height = search rules in
    let width_small = c.format_of-format.result.width_in_range in
    let height_small = c.format_of-format.result.height_in_range in
    let have_w : FitsSigned w64 (c.format_of-format.result.width -ℤ pos 4000) = omega (arith, ints) in
    let have_h : FitsSigned w64 (c.format_of-format.result.height -ℤ pos 6000) = omega (arith, ints) in
    let fails : c.fits.result ≡ false = search rules in
    simp to_z-of_z (no_room c.args.job.now c.args.extents.now c.args.scale.num c.args.scale.den c.args.shapes.now _ _ _ _ c.requires.shapes.value c.need_of-need.ensures.width c.need_of-need.ensures.height
    c.format_of-format.ensures.width c.format_of-format.ensures.height (λ r. let holds = c.fits.ensures.1 r in cc))

pub returns-in-Ok-clause-planned : goal.returns-in-Ok-clause-planned
returns-in-Ok-clause-planned c =
    let width : FitsSigned w64 c.format_of-format.result.width = search rules in
    let height : FitsSigned w64 c.format_of-format.result.height = search rules in
    let holds : c.fits.result ≡ true = search rules in
    record {
      width = simp to_z-of_z c.format_of-format.ensures.width;
      height = simp to_z-of_z c.format_of-format.ensures.height;
      decimals = refl;
      num_is = refl;
      den_is = refl;
      fits = room c.args.job.now c.args.extents.now c.args.scale.num c.args.scale.den c.args.shapes.now c.need_of-need.result.width c.need_of-need.result.height c.format_of-format.result.width
          c.format_of-format.result.height c.requires.shapes.value c.need_of-need.ensures.width c.need_of-need.ensures.height c.format_of-format.ensures.width c.format_of-format.ensures.height (c.fits.ensures.0 holds);
      in_place = subst (λ (ss : List Shape). AreInPlace ss c.args.extents.now c.in-Ok.places.items) c.requires.shapes.value c.in-Ok.ensures;
    }
