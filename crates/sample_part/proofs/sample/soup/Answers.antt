use Rattle.sample_part.proofs.Numbered.{sample_in_range}
use Rattle.sample_part.proofs.sample.soup.Goals as goal

pub invariant_of-result : goal.invariant_of-result
invariant_of-result c = record {
  in_range = sample_in_range c.args.n c.in_ok-corners.corners.items c.in_ok-triangles.triangles.items c.requires.least c.requires.greatest c.in_ok-corners.ensures c.in_ok-triangles.ensures;
}
