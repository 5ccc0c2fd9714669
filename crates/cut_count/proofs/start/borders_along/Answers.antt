use Rattle.std.proofs.Common.{◌≡◌, ◌↔◌, ℕ, ◌+◌, ◌<◌, ◌≤◌, ◌^◌, Bool, List, [], ◌∷◌, ◌++◌, take, length, sym, subst, ap, ◌∙◌, arith}
use Rattle.std.specs.Prelude.{IsTrue}
use Rattle.std.specs.List.{All}
use Rattle.std.proofs.lemmas.List.{take_more, take_all, length-append}
use Rattle.lattice.specs.declared.points.Corner.{Corner}
use Rattle.lattice.specs.Cuts.{Plane, plane_of, toward_of}
use Rattle.lattice.specs.Points.{of_spot}
use Rattle.geometry.specs.Parts.{Edge, IsNumbered}
use Rattle.geometry.specs.Counts.{Side, to_left, to_right}
use Rattle.solid_mesh.specs.Solids.{solid_part, edge_halves}
use Rattle.cut_plane.specs.declared.segments.Segment.{Segment}
use Rattle.cut_plane.specs.Loops.{IsSegmentOf}
use Rattle.cut_count.specs.declared.found.CrossingBorder.{CrossingBorder}
use Rattle.cut_count.specs.inner.Borders.{IsAhead, IsFoundOr}
use Rattle.cut_count.specs.inner.Walks.{IsBorderAnswer, AreFound, IsOddAhead}
use Rattle.cut_count.proofs.GrownBorders.{found_first, found_more, found_same, odd_first, odd_more}
use Rattle.cut_count.proofs.start.borders_along.Goals as goal
use Rattle.cut_count.proofs.start.borders_along.Goals.{in-Some+in_ok-push, in_default}

none_found : (found : List CrossingBorder) → found ≡ [] → length found ≤ 0
none_found found e = omega (arith, ap (λ (xs : List CrossingBorder). length xs) e)

pub loop-segment-init : goal.loop-segment-init
loop-segment-init c =
    let section = c.args.section.now in
    let seen = c.args.seen.now in
    record {
      found = λ e numbered. found_first (plane_of section.cut) e c.args.part.now c.new-found.result.items c.new-found.ensures.items;
      few = none_found c.new-found.result.items c.new-found.ensures.items;
      left = odd_first to_left c.args.at_b (toward_of (plane_of section.cut)) seen.at.a seen.at.b;
      right = odd_first to_right c.args.at_b (toward_of (plane_of section.cut)) seen.at.a seen.at.b;
      tests = omega arith;
    }

-- one test more has room
room : (tests first i all more : ℕ) → tests ≡ first + i → i < more → more ≡ all → first + all < 2 ^ 64 → tests + 1 < 2 ^ 64
room tests first i all more e less same fits = omega arith

-- and is within the bound
more_tests : (tests first i all more : ℕ) → tests ≡ first + i → i < more → more ≡ all → tests + 1 ≤ first + all
more_tests tests first i all more e less same = omega arith

all_tests : (tests first i all more : ℕ) → tests ≡ first + i → i ≤ more → more ≡ all → tests ≤ first + all
all_tests tests first i all more e less same = omega arith

pub overflow_add-meter : goal.overflow_add-meter
overflow_add-meter c =
    let fits = room c.loop-segment.meter.tests c.args.meter.now.tests c.loop-segment.segment-index (length c.args.section.now.segments.items) (length c.as_slice-segment-items.result.now)
    c.loop-segment.invariant.tests c.loop-segment-test.true (ap (λ (xs : List Segment). length xs) c.as_slice-segment-items.ensures.value) c.requires.room in
    omega (arith, fits)

pub border_test-border-requires-clause-segment : goal.border_test-border-requires-clause-segment
border_test-border-requires-clause-segment c =
    let s = solid_part c.args.solid.now in
    let plane = plane_of c.args.section.now.cut in
    let each = subst (λ (xs : List Segment). All (IsSegmentOf plane s) xs) (sym c.as_slice-segment-items.ensures.value) c.requires.borders.each in
    let listed = subst (λ (y : Segment). IsSegmentOf plane s y) (sym c.segment-item.is) (each c.loop-segment.segment-index c.segment-item.result c.loop-segment-test.true) in
    subst (λ (p : Plane). IsSegmentOf p s c.segment-item.result) (sym c.requires.plane) listed

pub returns-in_err-push-clause-least : goal.returns-in_err-push-clause-least
returns-in_err-push-clause-least c = let tests = c.loop-segment.invariant.tests in omega arith

pub returns-in_err-push-clause-most : goal.returns-in_err-push-clause-most
returns-in_err-push-clause-most c =
    more_tests c.loop-segment.meter.tests c.args.meter.now.tests c.loop-segment.segment-index (length c.args.section.now.segments.items) (length c.as_slice-segment-items.result.now)
    c.loop-segment.invariant.tests c.loop-segment-test.true (ap (λ (xs : List Segment). length xs) c.as_slice-segment-items.ensures.value)

-- the same lists by other names
renamed_odd : (k : Side) (at_b : Bool) (p : Plane) (a b : Corner) (xs ys : List Segment) (odd : Bool) → ys ≡ xs → IsOddAhead k at_b (toward_of p) a b xs odd → IsOddAhead k at_b (toward_of p) a b ys odd
renamed_odd k at_b p a b xs ys odd e h = subst (λ (zs : List Segment). IsOddAhead k at_b (toward_of p) a b zs odd) (sym e) h

one_more : (xs ys : List CrossingBorder) (y : CrossingBorder) (i : ℕ) → ys ≡ xs ++ y ∷ [] → length xs ≤ i → length ys ≤ i + 1
one_more xs ys y i e h = let long = ap (λ (zs : List CrossingBorder). length zs) e ∙ length-append xs (y ∷ []) in omega arith

no_more : (xs ys : List CrossingBorder) (i : ℕ) → ys ≡ xs → length xs ≤ i → length ys ≤ i + 1
no_more xs ys i e h = let long = ap (λ (zs : List CrossingBorder). length zs) e in omega arith

pub loop-segment-preserved : goal.loop-segment-preserved
loop-segment-preserved c =
    let section = c.args.section.now in
    let seen = c.args.seen.now in
    let s = solid_part c.args.solid.now in
    let plane = plane_of section.cut in
    let part = c.args.part.now in
    let items = c.as_slice-segment-items.result.now in
    let i = c.loop-segment.segment-index in
    let x = c.segment-item.result in
    let before = c.loop-segment.invariant in
    let told = c.border_test-border in
    let more : take (i + 1) items ≡ take i items ++ x ∷ [] = take_more items i x c.loop-segment-test.true ∙ ap (λ (y : Segment). take i items ++ y ∷ []) (sym c.segment-item.is) in
    let here : (e : Edge s) → IsNumbered (edge_halves c.args.solid.now) seen.at.number e → IsBorderAnswer plane e part x told.result.found
    = λ e numbered f number. subst (λ (p : Plane). IsFoundOr p e f part (of_spot x.a) (of_spot x.b) told.result.found) c.requires.plane (told.ensures.found e f numbered number) in
    let ahead_left = subst (λ (p : Plane). IsTrue told.result.ahead.left ↔ IsAhead to_left c.args.at_b (toward_of p) seen.at.a seen.at.b (of_spot x.a) (of_spot x.b)) c.requires.plane told.ensures.left in
    let ahead_right = subst (λ (p : Plane). IsTrue told.result.ahead.right ↔ IsAhead to_right c.args.at_b (toward_of p) seen.at.a seen.at.b (of_spot x.a) (of_spot x.b)) c.requires.plane told.ensures.right in
    record {
      found = λ e numbered. subst (λ (xs : List Segment). AreFound plane e part xs c.match-border.found.items) (sym more) (elim c.match-border.branch [
        | in-Some+in_ok-push w ↦ found_more plane e part (take i items) x c.loop-segment.found.items c.match-border.found.items w.in-Some.border told.result.found w.in-Some.is
            (ap (λ v. v.items) w.found-is ∙ w.in_ok-push.ensures.items) (here e numbered) (before.found e numbered)
        | in_default w ↦ found_same plane e part (take i items) x c.loop-segment.found.items c.match-border.found.items told.result.found w.in_default.is
            (ap (λ v. v.items) w.found-is) (here e numbered) (before.found e numbered)
      ]);
      few = elim c.match-border.branch [
        | in-Some+in_ok-push w ↦ one_more c.loop-segment.found.items c.match-border.found.items w.in-Some.border i (ap (λ v. v.items) w.found-is ∙ w.in_ok-push.ensures.items) before.few
        | in_default w ↦ no_more c.loop-segment.found.items c.match-border.found.items i (ap (λ v. v.items) w.found-is) before.few
      ];
      left = renamed_odd to_left c.args.at_b plane seen.at.a seen.at.b (take i items ++ x ∷ []) _ c.both-odd.result.left more
          (odd_more to_left c.args.at_b (toward_of plane) seen.at.a seen.at.b (take i items) x c.loop-segment.odd.left told.result.ahead.left c.both-odd.result.left ahead_left c.both-odd.ensures.left before.left);
      right = renamed_odd to_right c.args.at_b plane seen.at.a seen.at.b (take i items ++ x ∷ []) _ c.both-odd.result.right more
          (odd_more to_right c.args.at_b (toward_of plane) seen.at.a seen.at.b (take i items) x c.loop-segment.odd.right told.result.ahead.right c.both-odd.result.right ahead_right c.both-odd.ensures.right before.right);
      tests = let tests = before.tests in omega arith;
    }

pub returns-clause-found : goal.returns-clause-found
returns-clause-found c e numbered =
    let all = take_all c.loop-segment.segment-index c.as_slice-segment-items.result.now c.loop-segment-test.false ∙ c.as_slice-segment-items.ensures.value in
    subst (λ (xs : List Segment). AreFound (plane_of c.args.section.now.cut) e c.args.part.now xs c.loop-segment.found.items) all (c.loop-segment.invariant.found e numbered)

few_enough : (found i more all : ℕ) → found ≤ i → i ≤ more → more ≡ all → found ≤ all
few_enough found i more all p q e = omega arith

pub returns-clause-few : goal.returns-clause-few
returns-clause-few c =
    few_enough (length c.loop-segment.found.items) c.loop-segment.segment-index (length c.as_slice-segment-items.result.now) (length c.args.section.now.segments.items)
    c.loop-segment.invariant.few c.loop-segment.auto.segment-index-end (ap (λ (xs : List Segment). length xs) c.as_slice-segment-items.ensures.value)

pub returns-clause-left : goal.returns-clause-left
returns-clause-left c =
    let all = take_all c.loop-segment.segment-index c.as_slice-segment-items.result.now c.loop-segment-test.false ∙ c.as_slice-segment-items.ensures.value in
    renamed_odd to_left c.args.at_b (plane_of c.args.section.now.cut) c.args.seen.now.at.a c.args.seen.now.at.b _ c.args.section.now.segments.items c.loop-segment.odd.left (sym all) c.loop-segment.invariant.left

pub returns-clause-right : goal.returns-clause-right
returns-clause-right c =
    let all = take_all c.loop-segment.segment-index c.as_slice-segment-items.result.now c.loop-segment-test.false ∙ c.as_slice-segment-items.ensures.value in
    renamed_odd to_right c.args.at_b (plane_of c.args.section.now.cut) c.args.seen.now.at.a c.args.seen.now.at.b _ c.args.section.now.segments.items c.loop-segment.odd.right (sym all) c.loop-segment.invariant.right

pub returns-clause-least : goal.returns-clause-least
returns-clause-least c = let tests = c.loop-segment.invariant.tests in omega arith

pub returns-clause-most : goal.returns-clause-most
returns-clause-most c =
    all_tests c.loop-segment.meter.tests c.args.meter.now.tests c.loop-segment.segment-index (length c.args.section.now.segments.items) (length c.as_slice-segment-items.result.now)
    c.loop-segment.invariant.tests c.loop-segment.auto.segment-index-end (ap (λ (xs : List Segment). length xs) c.as_slice-segment-items.ensures.value)

just_tests : (tests first i all more : ℕ) → tests ≡ first + i → i ≤ more → more ≤ i → more ≡ all → tests ≡ first + all
just_tests tests first i all more e p q same = omega arith

pub returns-clause-all_tested : goal.returns-clause-all_tested
returns-clause-all_tested c =
    just_tests c.loop-segment.meter.tests c.args.meter.now.tests c.loop-segment.segment-index (length c.args.section.now.segments.items) (length c.as_slice-segment-items.result.now)
    c.loop-segment.invariant.tests c.loop-segment.auto.segment-index-end c.loop-segment-test.false (ap (λ (xs : List Segment). length xs) c.as_slice-segment-items.ensures.value)
