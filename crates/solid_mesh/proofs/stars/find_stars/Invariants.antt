use Rattle.std.proofs.Common.{length}
use Rattle.solid_mesh.specs.Stars.{AreStars, lists_of}
use Rattle.solid_mesh.proofs.stars.find_stars.Given as goal

abbrev pub invariant-loop-tri : goal.invariant-loop-tri
invariant-loop-tri l = AreStars (length l.soup.corners.items) l.soup.triangles.items l.tri (lists_of l.stars.items)
