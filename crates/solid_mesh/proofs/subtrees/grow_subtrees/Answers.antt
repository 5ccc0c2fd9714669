use Rattle.std.proofs.Common.{◌+◌, ◌∷◌, [], length, sym, subst, ap, ◌∙◌, length-append}
use Rattle.solid_mesh.specs.inner.Trees.{IsSubtree, AreSubtrees}
use Rattle.solid_mesh.proofs.Growing.{no_subtrees, more_subtrees}
use Rattle.solid_mesh.proofs.subtrees.grow_subtrees.Goals as goal

pub loop-k-init : goal.loop-k-init
loop-k-init c = record {
  count = ap length c.new-subtrees.ensures.items;
  subtrees = subst (AreSubtrees c.args.placed.now) (sym c.new-subtrees.ensures.items) (no_subtrees c.args.placed.now);
}

pub next_subtree-requires-clause-subtrees : goal.next_subtree-requires-clause-subtrees
next_subtree-requires-clause-subtrees c = subst (AreSubtrees c.args.placed.now) (sym c.deref.ensures.value) c.loop-k.invariant.subtrees

pub loop-k-preserved : goal.loop-k-preserved
loop-k-preserved c = record {
  count = ap length c.in_ok-push.ensures.items ∙ length-append c.loop-k.subtrees.items (c.next_subtree.result ∷ []) ∙ ap (λ n. n + 1) c.loop-k.invariant.count;
  subtrees =
      more_subtrees c.args.placed.now c.loop-k.subtrees.items c.push.new.self.items c.next_subtree.result c.loop-k.invariant.subtrees
      (subst (λ xs. IsSubtree c.args.placed.now (length xs) c.next_subtree.result) c.deref.ensures.value c.next_subtree.ensures) c.in_ok-push.ensures.items;
}
