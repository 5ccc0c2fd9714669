use Rattle.std.proofs.Common.{◌≡◌, ◌*◌, List, All, length, refl, sym, ap, subst, ◌∙◌, rules, arith}
use Rattle.flip_slivers.specs.Flipped.{IsFlipped}
use Rattle.flip_slivers.specs.Near.{AreNearSurfaces}
use Rattle.flip_slivers.specs.Pairs.{IsWithoutPairs}
use Rattle.geometry.specs.Parts.{part_with}
use Rattle.lattice.specs.Triangles.{IsBelow}
use Rattle.lattice.specs.declared.points.Corner.{Corner}
use Rattle.lattice.specs.declared.soup.Tri.{Tri}
use Rattle.mend_core.proofs.Repairing.{left_all, left_fewer}
use Rattle.mend_core.proofs.mending.repaired.Goals as goal

pub flip_slivers-requires-clause-few_triangles : goal.flip_slivers-requires-clause-few_triangles
flip_slivers-requires-clause-few_triangles c =
    omega (arith, c.requires.few_triangles, left_fewer c.deref.result.now c.in-Ok.left.items c.in-Ok.ensures, ap length c.deref.ensures.value, ap length c.deref-3.ensures.value)

pub flip_slivers-requires-clause-in_range : goal.flip_slivers-requires-clause-in_range
flip_slivers-requires-clause-in_range c =
    let corners = c.args.soup.corners.items in
    let below = IsBelow (length corners) in
    let given : All below c.deref.result.now = subst (All below) (sym c.deref.ensures.value) c.args.soup.in_range in
    let left : All below c.in-Ok.left.items = left_all c.deref.result.now c.in-Ok.left.items c.in-Ok.ensures below given in
    let here : All (IsBelow (length c.deref-2.result.now)) c.in-Ok.left.items =
    subst (λ (cs : List Corner). All (IsBelow (length cs)) c.in-Ok.left.items) (sym c.deref-2.ensures.value) left in
    subst (λ (ts : List Tri). All (IsBelow (length c.deref-2.result.now)) ts) (sym c.deref-3.ensures.value) here

pub returns-clause-few_triangles : goal.returns-clause-few_triangles
returns-clause-few_triangles c =
    omega (arith, c.requires.few_triangles, c.in-Ok-flip_slivers.ensures.count, left_fewer c.deref.result.now c.in-Ok.left.items c.in-Ok.ensures, ap length c.deref.ensures.value, ap length c.deref-3.ensures.value)

pub returns-clause-answer : goal.returns-clause-answer
returns-clause-answer c =
    let given = c.args.soup in
    let left = c.in-Ok.left.items in
    let most = 1024 * c.args.limit in
    let f = c.in-Ok-flip_slivers.flipped in
    let are = c.in-Ok-flip_slivers.ensures in
    let without : IsWithoutPairs given.triangles.items left = subst (λ (ts : List Tri). IsWithoutPairs ts left) c.deref.ensures.value c.in-Ok.ensures in
    let pairs : c.pairs_of-pairs.result ≡ without.pairs = c.pairs_of-pairs.ensures without.pairs (omega (arith, given.triangles.ok.0, c.in-Ok.left.ok.0, without.in_pairs)) in
    record {
      corners = refl;
      left = left;
      without_pairs = without;
      in_pairs = omega (arith, without.in_pairs, pairs);
      some_left = search rules;
      flipped = subst (λ (cs : List Corner). IsFlipped cs most left f.triangles.items f.flips f.moved) c.deref-2.ensures.value
          (subst (λ (ts : List Tri). IsFlipped c.deref-2.result.now most ts f.triangles.items f.flips f.moved) c.deref-3.ensures.value are.flips);
      count = are.count ∙ ap length c.deref-3.ensures.value;
      near = subst (λ (cs : List Corner). AreNearSurfaces f.moved (part_with cs left) (part_with cs f.triangles.items)) c.deref-2.ensures.value
          (subst (λ (ts : List Tri). AreNearSurfaces f.moved (part_with c.deref-2.result.now ts) (part_with c.deref-2.result.now f.triangles.items)) c.deref-3.ensures.value are.near);
      within = are.within;
    }
