use Rattle.std.proofs.Common.{List, length, sym, subst, ap, ◌∙◌, refl, arith}
use Rattle.geometry.specs.Parts.{part_of}
use Rattle.solid_mesh.specs.inner.Trees.{AreSubtrees}
use Rattle.solid_mesh.specs.declared.placed.Placed.{Placed}
use Rattle.solid_mesh.proofs.FirstMeeting.{boxes_at_most, pairs_at_most, first_meeting}
use Rattle.solid_mesh.proofs.Placing.{count_placed}
use Rattle.solid_mesh.proofs.search.find_meeting.Goals as goal

pub grow_subtrees-requires : goal.grow_subtrees-requires
grow_subtrees-requires c = record {
  few = omega (arith, ap length c.deref.ensures.value, count_placed (part_of c.args.soup.now) c.in_ok-placed.placed.items c.in_ok-placed.ensures, c.requires.few_triangles);
}

pub search-requires-clause-few_triangles : goal.search-requires-clause-few_triangles
search-requires-clause-few_triangles c =
    omega (arith, ap length c.deref-2.ensures.value, count_placed (part_of c.args.soup.now) c.in_ok-placed.placed.items c.in_ok-placed.ensures, c.requires.few_triangles)

pub search-requires-clause-subtrees : goal.search-requires-clause-subtrees
search-requires-clause-subtrees c =
    subst (λ (xs : List Placed). AreSubtrees xs c.deref-3.result.now) (c.deref.ensures.value ∙ sym c.deref-2.ensures.value)
    (subst (AreSubtrees c.deref.result.now) (sym c.deref-3.ensures.value) c.in_ok-subtrees.ensures.subtrees)

pub returns-clause-boxes : goal.returns-clause-boxes
returns-clause-boxes c = boxes_at_most (part_of c.args.soup.now) c.args.halves.now _ _ c.search.ensures.searched refl

pub returns-clause-pairs : goal.returns-clause-pairs
returns-clause-pairs c = pairs_at_most (part_of c.args.soup.now) c.args.halves.now _ _ c.search.ensures.searched refl

pub returns-clause-first : goal.returns-clause-first
returns-clause-first c =
    first_meeting (part_of c.args.soup.now) c.args.halves.now _ _ c.search.ensures.searched c.requires.closed c.args.soup.now.in_range c.requires.are_edges refl
