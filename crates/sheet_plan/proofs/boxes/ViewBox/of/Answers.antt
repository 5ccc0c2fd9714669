use Rattle.std.proofs.Common.{Some, sym, ap, ◌∙◌}
use Rattle.std.proofs.lemmas.Option.{slice_get-get_or}
use Rattle.sheet_plan.proofs.boxes.ViewBox.of.Goals as goal

pub returns : goal.returns
returns c =
    let place = c.index-place.result.now in
    record {
      place = place;
      extent = c.extent.result;
      stands = slice_get-get_or c.args.sheet.now.places.items c.args.view place c.requires ∙ ap Some (sym c.index-place.ensures);
      reaches = c.extent.ensures;
      is = c.at.ensures;
    }
