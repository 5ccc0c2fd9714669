use Rattle.std.proofs.Common.{ℕ, ◌<◌, List, All, length, sym, subst, ap, ◌∙◌, arith}
use Rattle.geometry.specs.Parts.{part_of, AreEdges}
use Rattle.integers.proofs.Passing as passing
use Rattle.solid_mesh.specs.inner.Halves.{is_lower}
use Rattle.solid_mesh.specs.Meetings.{HaveCommonX, HaveCommonBox}
use Rattle.solid_mesh.specs.inner.Searches.{IsFirst}
use Rattle.solid_mesh.proofs.Counted.{at_most_as}
use Rattle.solid_mesh.proofs.HalfLemmas.{table_edges}
use Rattle.solid_mesh.proofs.edges.find_edges.Goals as goal

pub find_meeting-requires-clause-few_edges : goal.find_meeting-requires-clause-few_edges
find_meeting-requires-clause-few_edges c =
    let twins = c.args.twins.now in
    omega (arith, c.requires.few, c.requires.twins.for_each, ap length (c.deref.ensures.value ∙ c.in_ok-halves.ensures), passing.few (is_lower twins) (length twins))

pub find_meeting-requires-clause-are_edges : goal.find_meeting-requires-clause-are_edges
find_meeting-requires-clause-are_edges c =
    let s = part_of c.args.soup.now in
    subst (AreEdges s) (sym (c.deref.ensures.value ∙ c.in_ok-halves.ensures)) (table_edges s c.args.twins.now c.requires.twins c.requires.closed.once)

pub find_meeting-requires-clause-halves : goal.find_meeting-requires-clause-halves
find_meeting-requires-clause-halves c k d h =
    let twins = c.args.twins.now in
    let P : List ℕ → Type 0 = λ xs. All (λ half. half < length twins) xs in
    let below = subst P (sym (c.deref.ensures.value ∙ c.in_ok-halves.ensures)) (passing.below (is_lower twins) (length twins)) in
    omega (arith, c.requires.twins.for_each, below k d h)

pub returns-in-None-clause-boxes : goal.returns-in-None-clause-boxes
returns-in-None-clause-boxes c =
    at_most_as (HaveCommonX (part_of c.args.soup.now)) _ _ _ _ (c.deref.ensures.value ∙ c.in_ok-halves.ensures) (omega arith) c.in_ok-found.ensures.boxes

pub returns-in-None-clause-pairs : goal.returns-in-None-clause-pairs
returns-in-None-clause-pairs c =
    at_most_as (HaveCommonBox (part_of c.args.soup.now)) _ _ _ _ (c.deref.ensures.value ∙ c.in_ok-halves.ensures) (omega arith) c.in_ok-found.ensures.pairs

pub returns-in-Some-clause-refused : goal.returns-in-Some-clause-refused
returns-in-Some-clause-refused c =
    let s = part_of c.args.soup.now in
    let first = subst (IsFirst s c.deref.result.now) c.in-Some.is c.in_ok-found.ensures.first in
    let are : AreEdges s c.deref.result.now = subst (AreEdges s) (sym (c.deref.ensures.value ∙ c.in_ok-halves.ensures)) (table_edges s c.args.twins.now c.requires.twins c.requires.closed.once) in
    (c.requires.closed, c.requires.no_double, (c.deref.result.now, are, first.0, first.1))

pub returns-in-Some-clause-boxes : goal.returns-in-Some-clause-boxes
returns-in-Some-clause-boxes c =
    at_most_as (HaveCommonX (part_of c.args.soup.now)) _ _ _ _ (c.deref.ensures.value ∙ c.in_ok-halves.ensures) (omega arith) c.in_ok-found.ensures.boxes

pub returns-in-Some-clause-pairs : goal.returns-in-Some-clause-pairs
returns-in-Some-clause-pairs c =
    at_most_as (HaveCommonBox (part_of c.args.soup.now)) _ _ _ _ (c.deref.ensures.value ∙ c.in_ok-halves.ensures) (omega arith) c.in_ok-found.ensures.pairs
