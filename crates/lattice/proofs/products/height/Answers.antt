use Rattle.lattice.proofs.VectorSizes.{wider}
use Rattle.lattice.proofs.products.height.Goals as goal

pub along-requires : goal.along-requires
along-requires c = wider _ c.vector.ensures.size
