use Rattle.std.proofs.Common.{◌≡◌, ℕ, ◌+◌, ◌≤◌, List, length, refl, sym, ap, subst, ◌∙◌, Vec, Global}
use Rattle.cut_plane.specs.declared.segments.Segment.{Segment}
use Rattle.section_look.specs.Regions.{lists_of}
use Rattle.section_look.proofs.Lists.{lists_more}
use Rattle.section_look.proofs.LoopPlaces.{AreTaken, ends, one_taken, all_taken}
use Rattle.section_look.proofs.loops.loops_of.Goals as goal

-- the same by other names
taken_by : (xs ys : List Segment) (ms ns : List ℕ) (k : ℕ) (loops : List (List Segment)) → ys ≡ xs → ns ≡ ms → AreTaken xs ms k loops → AreTaken ys ns k loops
taken_by xs ys ms ns k loops e f h = subst (λ (zs : List Segment). AreTaken zs ns k loops) (sym e) (subst (λ (ls : List ℕ). AreTaken xs ls k loops) (sym f) h)

pub loop-k-init : goal.loop-k-init
loop-k-init c = record { lists = c.requires.lists; together = c.requires.together; begin = c.requires.begin; taken = ap (λ (vs : List (Vec Segment Global)). lists_of vs) c.new-loops.ensures.items }

pub between-requires-clause-ordered : goal.between-requires-clause-ordered
between-requires-clause-ordered c =
    let s = c.args.section.now in
    let xs = c.as_slice-segments.result.now in
    let ns = c.as_slice-starts.result.now in
    let k = c.loop-k.k in
    (ends xs ns k _ (taken_by s.segments.items xs s.loops.items ns k _ c.as_slice-segments.ensures.value c.as_slice-starts.ensures.value c.loop-k.invariant) c.loop-k-test.true _ _ refl c.end_of-to.ensures).ordered

pub between-requires-clause-within : goal.between-requires-clause-within
between-requires-clause-within c =
    let s = c.args.section.now in
    let xs = c.as_slice-segments.result.now in
    let ns = c.as_slice-starts.result.now in
    let k = c.loop-k.k in
    (ends xs ns k _ (taken_by s.segments.items xs s.loops.items ns k _ c.as_slice-segments.ensures.value c.as_slice-starts.ensures.value c.loop-k.invariant) c.loop-k-test.true _ _ refl c.end_of-to.ensures).within

pub loop-k-preserved : goal.loop-k-preserved
loop-k-preserved c =
    let s = c.args.section.now in
    let xs = c.as_slice-segments.result.now in
    let ns = c.as_slice-starts.result.now in
    let k = c.loop-k.k in
    let old = c.loop-k.loops.items in
    let v = c.in_ok-from_slice.field-0 in
    let h = taken_by s.segments.items xs s.loops.items ns k (lists_of old) c.as_slice-segments.ensures.value c.as_slice-starts.ensures.value c.loop-k.invariant in
    let more = one_taken xs ns k (lists_of old) h c.loop-k-test.true _ _ refl c.end_of-to.ensures v.items (c.in_ok-from_slice.ensures.items ∙ c.between.ensures) in
    subst (λ (ls : List (List Segment)). AreTaken s.segments.items s.loops.items (k + 1) ls) (sym (ap (λ (vs : List (Vec Segment Global)). lists_of vs) c.in_ok-push.ensures.items ∙ lists_more old v))
    (taken_by xs s.segments.items ns s.loops.items (k + 1) _ (sym c.as_slice-segments.ensures.value) (sym c.as_slice-starts.ensures.value) more)

pub returns : goal.returns
returns c = all_taken c.args.section.now.segments.items c.args.section.now.loops.items c.loop-k.k _ c.loop-k.invariant (subst (λ (ns : List ℕ). length ns ≤ c.loop-k.k) c.as_slice-starts.ensures.value c.loop-k-test.false)
