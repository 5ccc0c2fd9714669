use Rattle.part_input.proofs.Samples.{few_corners, few_triangles}
use Rattle.part_input.proofs.sample.sample_soup.Goals as goal

pub returns-in-Ok-clause-few_corners : goal.returns-in-Ok-clause-few_corners
returns-in-Ok-clause-few_corners c = few_corners c.args.size.now c.in-Some.cubes c.in-Ok.soup.corners.items c.in-Some.ensures c.in-Ok.ensures.corners

pub returns-in-Ok-clause-few_triangles : goal.returns-in-Ok-clause-few_triangles
returns-in-Ok-clause-few_triangles c = few_triangles c.args.size.now c.in-Some.cubes c.in-Ok.soup.triangles.items c.in-Some.ensures c.in-Ok.ensures.triangles
