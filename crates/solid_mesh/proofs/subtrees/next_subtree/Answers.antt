use Rattle.std.proofs.Common.{◌≡◌, ◌-◌, length, slice_get, Some, refl, arith}
use Rattle.std.proofs.lemmas.Option.{slice_get_read}
use Rattle.solid_mesh.specs.inner.Trees.{IsSubtree}
use Rattle.solid_mesh.proofs.BoundLemmas.{within_itself, within_both}
use Rattle.solid_mesh.proofs.Growing.{alone, joined, subtree_read}
use Rattle.solid_mesh.proofs.subtrees.next_subtree.Goals as goal

pub returns-then-place-eq0 : goal.returns-then-place-eq0
returns-then-place-eq0 c =
    let placed = c.args.placed.now in
    let k = length c.args.subtrees.now in
    let own = c.index-placed-place.result in
    let at : slice_get placed k ≡ Some own = slice_get_read placed (length placed) k own refl c.requires.next c.index-placed-place.is in
    alone placed k own at _ (within_itself own.bounds) (within_itself own.rim) refl refl

pub overflow_cast-middle : goal.overflow_cast-middle
overflow_cast-middle c =
    let k = length c.args.subtrees.now in
    let second : IsSubtree c.args.placed.now (k - 1) c.index-subtrees-place.result = subtree_read c.args.placed.now c.args.subtrees.now c.requires.subtrees (k - 1) (omega arith) c.index-subtrees-place.result c.index-subtrees-place.is in
    omega (arith, second.first, c.requires.few, c.requires.next)

pub returns-then-middle-eq0 : goal.returns-then-middle-eq0
returns-then-middle-eq0 c =
    let placed = c.args.placed.now in
    let k = length c.args.subtrees.now in
    let own = c.index-placed-place.result in
    let at : slice_get placed k ≡ Some own = slice_get_read placed (length placed) k own refl c.requires.next c.index-placed-place.is in
    alone placed k own at _ (within_itself own.bounds) (within_itself own.rim) refl refl

pub offset_bounds-subtrees-middle : goal.offset_bounds-subtrees-middle
offset_bounds-subtrees-middle c =
    let k = length c.args.subtrees.now in
    let second : IsSubtree c.args.placed.now (k - 1) c.index-subtrees-place.result = subtree_read c.args.placed.now c.args.subtrees.now c.requires.subtrees (k - 1) (omega arith) c.index-subtrees-place.result c.index-subtrees-place.is in
    omega (arith, second.first, c.requires.few, c.requires.next)

pub bounds-subtrees-middle : goal.bounds-subtrees-middle
bounds-subtrees-middle c =
    let k = length c.args.subtrees.now in
    let second : IsSubtree c.args.placed.now (k - 1) c.index-subtrees-place.result = subtree_read c.args.placed.now c.args.subtrees.now c.requires.subtrees (k - 1) (omega arith) c.index-subtrees-place.result c.index-subtrees-place.is in
    omega (arith, second.first, c.if-place-eq0.false)

pub overflow_sub-place : goal.overflow_sub-place
overflow_sub-place c =
    let k = length c.args.subtrees.now in
    let second : IsSubtree c.args.placed.now (k - 1) c.index-subtrees-place.result = subtree_read c.args.placed.now c.args.subtrees.now c.requires.subtrees (k - 1) (omega arith) c.index-subtrees-place.result c.index-subtrees-place.is in
    omega (arith, second.first)

pub overflow_cast-first : goal.overflow_cast-first
overflow_cast-first c =
    let k = length c.args.subtrees.now in
    let middle = c.index-subtrees-place.result.first in
    let second : IsSubtree c.args.placed.now (k - 1) c.index-subtrees-place.result = subtree_read c.args.placed.now c.args.subtrees.now c.requires.subtrees (k - 1) (omega arith) c.index-subtrees-place.result c.index-subtrees-place.is in
    let first : IsSubtree c.args.placed.now (middle - 1) c.index-subtrees-middle.result = subtree_read c.args.placed.now c.args.subtrees.now c.requires.subtrees (middle - 1) (omega (arith, second.first)) c.index-subtrees-middle.result c.index-subtrees-middle.is in
    omega (arith, first.first, second.first, c.requires.few, c.requires.next)

pub overflow_sub-middle : goal.overflow_sub-middle
overflow_sub-middle c =
    let k = length c.args.subtrees.now in
    let middle = c.index-subtrees-place.result.first in
    let second : IsSubtree c.args.placed.now (k - 1) c.index-subtrees-place.result = subtree_read c.args.placed.now c.args.subtrees.now c.requires.subtrees (k - 1) (omega arith) c.index-subtrees-place.result c.index-subtrees-place.is in
    let first : IsSubtree c.args.placed.now (middle - 1) c.index-subtrees-middle.result = subtree_read c.args.placed.now c.args.subtrees.now c.requires.subtrees (middle - 1) (omega (arith, second.first)) c.index-subtrees-middle.result c.index-subtrees-middle.is in
    omega (arith, first.first)

pub returns-then-place-middle : goal.returns-then-place-middle
returns-then-place-middle c =
    let placed = c.args.placed.now in
    let k = length c.args.subtrees.now in
    let own = c.index-placed-place.result in
    let at : slice_get placed k ≡ Some own = slice_get_read placed (length placed) k own refl c.requires.next c.index-placed-place.is in
    alone placed k own at _ (within_itself own.bounds) (within_itself own.rim) refl refl

pub returns : goal.returns
returns c =
    let placed = c.args.placed.now in
    let subtrees = c.args.subtrees.now in
    let k = length subtrees in
    let own = c.index-placed-place.result in
    let at : slice_get placed k ≡ Some own = slice_get_read placed (length placed) k own refl c.requires.next c.index-placed-place.is in
    let middle = c.index-subtrees-place.result.first in
    let second : IsSubtree placed (k - 1) c.index-subtrees-place.result = subtree_read placed subtrees c.requires.subtrees (k - 1) (omega arith) c.index-subtrees-place.result c.index-subtrees-place.is in
    let first : IsSubtree placed (middle - 1) c.index-subtrees-middle.result = subtree_read placed subtrees c.requires.subtrees (middle - 1) (omega (arith, second.first)) c.index-subtrees-middle.result c.index-subtrees-middle.is in
    joined placed k own at (record { around = c.united-2.result; first = c.index-subtrees-middle.result.first; corner = c.common_corner.result; rim = c.united-4.result }) c.united-2.ensures.first
    c.index-subtrees-middle.result c.index-subtrees-place.result (omega arith) second (omega arith) first refl
    (within_both _ _ _ c.united.ensures.first c.united-2.ensures.second) (within_both _ _ _ c.united.ensures.second c.united-2.ensures.second)
    c.united-4.ensures.first (within_both _ _ _ c.united-3.ensures.first c.united-4.ensures.second) (within_both _ _ _ c.united-3.ensures.second c.united-4.ensures.second) c.common_corner.ensures
