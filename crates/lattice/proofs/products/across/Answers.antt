use Rattle.lattice.proofs.VectorSizes.{wider}
use Rattle.lattice.proofs.products.across.Goals as goal

pub along-requires : goal.along-requires
along-requires c = wider _ c.right.ensures.size
