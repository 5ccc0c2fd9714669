use Rattle.std.proofs.Common.{List, [], ◌∷◌, ◌++◌, ap, ◌∙◌, refl, arith, pos, ◌+ℤ◌, ◌-ℤ◌, FitsSigned}
use Rattle.std.specs.Int.{w64}
use Rattle.std.proofs.lemmas.Int.{ints, to_z-of_z}
use Rattle.sheet_plan.specs.Numbers.{Measure, measure_of}
use Rattle.sheet_plan.specs.declared.sheet.Spread.{Spread}
use Rattle.detail_pieces.specs.declared.windows.Window.{Window}
use Rattle.detail_pieces.specs.Pages.{across_on, upward_on, IsRaised}
use Rattle.detail_pieces.proofs.sheet.sheet_of.Goals as goal

pub returns : goal.returns
returns c =
    let o : Window = c.args.window.now in
    let m : Measure = measure_of c.args.scale c.args.decimals in
    let wide = c.width_of.ensures.size in
    let high = c.height_of.ensures.size in
    let wide_fits : FitsSigned w64 c.width_of.result = omega (arith, ints) in
    let high_fits : FitsSigned w64 c.height_of.result = omega (arith, ints) in
    let width : IsRaised ((across_on m c.args.d.now o.u2 -ℤ across_on m c.args.d.now o.u1) +ℤ pos 4000) c.width_of.result = c.width_of.ensures.raised in
    let height : IsRaised ((upward_on m c.args.d.now o.v2 -ℤ upward_on m c.args.d.now o.v1) +ℤ pos 4000) c.height_of.result = c.height_of.ensures.raised in
    record {
      decimals_is = refl;
      num = refl;
      den = refl;
      place = c.place_of.result;
      one = c.in_ok-push.ensures.items ∙ ap (λ (ps : List Spread). ps ++ c.place_of.result ∷ []) c.new-places.ensures.items;
      seen = c.place_of.ensures.seen;
      x0 = c.place_of.ensures.x0;
      y0 = c.place_of.ensures.y0;
      width = simp to_z-of_z width;
      height = simp to_z-of_z height;
    }
