use Rattle.view_lines.proofs.PlacedSources.{one_more_placed}
use Rattle.view_lines.proofs.sources.place.Goals as goal

pub returns : goal.returns
returns c d solid all on placed =
    one_more_placed d solid c.args.table.now.keys c.insert_full.new.self.keys c.args.line c.in_ok-number.ensures.keys all c.args.source c.in_ok-number.number c.args.placed.now.items c.push.new.self.items
    on c.in_ok-number.ensures.index c.in_ok-push.ensures.items placed
