use Rattle.std.proofs.lemmas.Result.{on_ok_weaker}
use Rattle.plot_rack.proofs.Fractions.{column_of}
use Rattle.plot_rack.proofs.list.push_fraction.Goals as goal

pub returns : goal.returns
returns c =
    on_ok_weaker c.push_frac.result
    (column_of c.args.value.now c.args.line.now.items c.push.new.self.items c.push_frac.new.out.items c.requires c.in_ok-push.ensures.items) c.push_frac.ensures.text
