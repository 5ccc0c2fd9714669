use Rattle.std.proofs.Common.{◌*◌}
use Rattle.geometry.specs.Faces.{edge_sum}
use Rattle.fault_place.proofs.Rounding.{is_rounded, rounded_read}
use Rattle.fault_place.proofs.first_point.first_place.Goals as goal

pub returns : goal.returns
returns c =
    let p = c.args.p.now in
    let q = c.args.q.now in
    let w = c.first_weights-w.result in
    let at = c.first_weights-w.ensures in (
      edge_sum p q (at.times * w.first) (at.times * w.second),
      at.there,
      is_rounded at.times w.first w.second p q _ at.some w.some
          (rounded_read c.rounded.result w.first w.second p.x q.x p.x_in_range q.x_in_range c.rounded.ensures.size c.rounded.ensures.value)
          (rounded_read c.rounded-2.result w.first w.second p.y q.y p.y_in_range q.y_in_range c.rounded-2.ensures.size c.rounded-2.ensures.value)
          (rounded_read c.rounded-3.result w.first w.second p.z q.z p.z_in_range q.z_in_range c.rounded-3.ensures.size c.rounded-3.ensures.value),
    )
