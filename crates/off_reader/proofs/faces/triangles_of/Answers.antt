use Rattle.std.proofs.Common.{rules, ◌<◌, ap, length, map, option_map}
use Rattle.lattice.specs.Points.{of_corner}
use Rattle.off_reader.proofs.Rows.{fan_some, fan_none}
use Rattle.off_reader.proofs.faces.triangles_of.Goals as goal

pub returns-in-Ok-Some-clause-step : goal.returns-in-Ok-Some-clause-step
returns-in-Ok-Some-clause-step c left =
    let many : 3 < length c.args.numbers.now = search rules in
    fan_some (map of_corner c.args.vertices.now) c.args.number c.args.line c.args.numbers.now left _ c.in-Ok-Some.triangles.items many (ap (option_map (λ v. v.items)) c.in-Ok-Some.field-0-is) c.in-Ok-Some.ensures.fan

pub returns-in-Ok-None-clause-step : goal.returns-in-Ok-None-clause-step
returns-in-Ok-None-clause-step c left =
    let many : 3 < length c.args.numbers.now = search rules in
    rw (c.fault.ensures) (fan_none (map of_corner c.args.vertices.now) c.args.number c.args.line c.args.numbers.now left _ many (ap (option_map (λ v. v.items)) c.in-Ok-None.field-0-is) c.in-Ok-None.ensures.fan)
