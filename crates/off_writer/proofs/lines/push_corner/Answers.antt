use Rattle.off_writer.specs.OffTexts.{coordinate_text}
use Rattle.off_writer.proofs.Written.{coordinate_written, three_written}
use Rattle.off_writer.proofs.lines.push_corner.Goals as goal

pub returns : goal.returns
returns c =
    let decimals = c.args.decimals in
    let corner = c.args.corner.now in
    let x = c.push_coordinate.new.text.items in
    let y = c.push_coordinate-2.new.text.items in
    let z = c.push_coordinate-3.new.text.items in
    three_written c.args.text.now.items (coordinate_text decimals corner.x) (coordinate_text decimals corner.y) (coordinate_text decimals corner.z)
    x c.push.new.self.items y c.push-2.new.self.items z c.push-3.new.self.items
    (coordinate_written decimals corner.x c.args.text.now.items x corner.x_in_range c.in_ok-push_coordinate.ensures) c.in_ok-push.ensures.items
    (coordinate_written decimals corner.y c.push.new.self.items y corner.y_in_range c.in_ok-push_coordinate-2.ensures) c.in_ok-push-2.ensures.items
    (coordinate_written decimals corner.z c.push-2.new.self.items z corner.z_in_range c.in_ok-push_coordinate-3.ensures) c.in_ok-push-3.ensures.items
