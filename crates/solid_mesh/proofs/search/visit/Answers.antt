use Rattle.std.proofs.Common.{◌<◌, inl, length, refl, sym, ◌∙◌, arith, true≢false}
use Rattle.std.proofs.lemmas.Option.{slice_get_read}
use Rattle.integers.proofs.Lists.{some_element}
use Rattle.geometry.specs.Parts.{part_of}
use Rattle.solid_mesh.proofs.Growing.{subtree_read}
use Rattle.solid_mesh.proofs.Placing.{placed_at}
use Rattle.solid_mesh.proofs.SearchedEdges.{places_one, places_missed, places_beside}
use Rattle.solid_mesh.proofs.search.visit.Goals as goal

pub returns-then-not-bounds_meet-clause-searched : goal.returns-then-not-bounds_meet-clause-searched
returns-then-not-bounds_meet-clause-searched c =
    let s = part_of c.args.soup.now in
    let placed = c.args.placed.now in
    let subtree = c.index-subtrees-place.result in
    places_missed s c.args.halves.now c.args.edge placed c.args.reach.now c.requires.reach (placed_at s placed c.requires.placed) c.args.place subtree
    (subtree_read placed c.args.subtrees.now c.requires.subtrees c.args.place c.requires.place subtree c.index-subtrees-place.is)
    (λ h. true≢false (sym (c.bounds_meet.ensures.1 h) ∙ c.if-not-bounds_meet.true)) c.args.found.now

pub returns-then-passes_by-clause-searched : goal.returns-then-passes_by-clause-searched
returns-then-passes_by-clause-searched c =
    let s = part_of c.args.soup.now in
    let placed = c.args.placed.now in
    let subtree = c.index-subtrees-place.result in
    let within : c.args.place < length placed = omega (arith, c.requires.place, c.requires.count) in
    let (own, there) = some_element placed c.args.place within in
    places_beside s c.args.halves.now c.args.edge placed c.args.reach.now c.requires.reach (placed_at s placed c.requires.placed) c.args.place subtree
    (subtree_read placed c.args.subtrees.now c.requires.subtrees c.args.place c.requires.place subtree c.index-subtrees-place.is)
    own there (inl (c.passes_by.ensures c.if-passes_by.true)) c.args.found.now

pub returns-then-is_apart-clause-searched : goal.returns-then-is_apart-clause-searched
returns-then-is_apart-clause-searched c =
    let s = part_of c.args.soup.now in
    let placed = c.args.placed.now in
    let subtree = c.index-subtrees-place.result in
    let own = c.index-placed-place.result in
    let within : c.args.place < length placed = omega (arith, c.requires.place, c.requires.count) in
    places_beside s c.args.halves.now c.args.edge placed c.args.reach.now c.requires.reach (placed_at s placed c.requires.placed) c.args.place subtree
    (subtree_read placed c.args.subtrees.now c.requires.subtrees c.args.place c.requires.place subtree c.index-subtrees-place.is)
    own (slice_get_read placed (length placed) c.args.place own refl within c.index-placed-place.is) (c.is_apart.ensures c.if-is_apart.true) c.args.found.now

pub test-requires-clause-placed : goal.test-requires-clause-placed
test-requires-clause-placed c =
    let placed = c.args.placed.now in
    let within : c.args.place < length placed = omega (arith, c.requires.place, c.requires.count) in
    placed_at (part_of c.args.soup.now) placed c.requires.placed c.index-placed-place.result c.args.place
    (slice_get_read placed (length placed) c.args.place c.index-placed-place.result refl within c.index-placed-place.is)

pub returns-clause-searched : goal.returns-clause-searched
returns-clause-searched c =
    let placed = c.args.placed.now in
    let within : c.args.place < length placed = omega (arith, c.requires.place, c.requires.count) in
    places_one (part_of c.args.soup.now) c.args.halves.now c.args.edge placed c.args.place c.index-placed-place.result
    (slice_get_read placed (length placed) c.args.place c.index-placed-place.result refl within c.index-placed-place.is) c.args.found.now c.test.new.found c.test.ensures.searched

pub returns-then-is_apart-clause-low : goal.returns-then-is_apart-clause-low
returns-then-is_apart-clause-low c =
    (subtree_read c.args.placed.now c.args.subtrees.now c.requires.subtrees c.args.place c.requires.place c.index-subtrees-place.result c.index-subtrees-place.is).first

pub returns-then-passes_by-clause-low : goal.returns-then-passes_by-clause-low
returns-then-passes_by-clause-low c =
    (subtree_read c.args.placed.now c.args.subtrees.now c.requires.subtrees c.args.place c.requires.place c.index-subtrees-place.result c.index-subtrees-place.is).first

pub returns-then-not-bounds_meet-clause-low : goal.returns-then-not-bounds_meet-clause-low
returns-then-not-bounds_meet-clause-low c =
    (subtree_read c.args.placed.now c.args.subtrees.now c.requires.subtrees c.args.place c.requires.place c.index-subtrees-place.result c.index-subtrees-place.is).first
