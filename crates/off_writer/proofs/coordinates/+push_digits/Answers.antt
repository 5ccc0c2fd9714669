use Rattle.off_writer.proofs.Numerals.{digit_pushed}
use Rattle.off_writer.proofs.coordinates.+push_digits.Goals as goal

pub returns : goal.returns
returns t c =
    digit_pushed c.args.count c.args.number c.args.text.now.items c.push_digits.new.text.items c.push.new.self.items c.if-count-eq0.false c.in_ok-push_digits.ensures c.in_ok-push.ensures.items
