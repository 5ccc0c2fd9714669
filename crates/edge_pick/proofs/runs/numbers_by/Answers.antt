use Rattle.std.proofs.Common.{◌≡◌, ℕ, ◌+◌, ◌<◌, ◌≤◌, ◌⊎◌, inl, inr, max, List, None, false, length, get_or, sym, ap, subst, ◌∙◌, arith}
use Rattle.std.proofs.lemmas.Bool.{cases_lt}
use Rattle.std.proofs.lemmas.Option.{slice_get-get_or}
use Rattle.edge_pick.specs.declared.order.Step.{Step}
use Rattle.edge_pick.specs.inner.Numberings.{IsWithin, number_from}
use Rattle.edge_pick.proofs.Numberings.{numbering_none, place_inside, from_inside, number_small, few_begun, step_numbered, all_numbered}
use Rattle.edge_pick.proofs.runs.numbers_by.Goals as goal

abbrev none : Step
none = record { to = record { place = 0; at_b = false }; from = None }

pub number_at-run-requires : goal.number_at-run-requires
number_at-run-requires c =
    let steps = c.args.steps.now in
    let k = c.loop-step.step-index in
    let step = get_or steps k none in
    let long : length c.args.edges.now ≡ length c.deref.result.now = sym (ap (λ (xs : List ℕ). length xs) c.deref.ensures.value ∙ c.loop-step.invariant.long) in
    subst (λ (n : ℕ). IsWithin step.from n) long (from_inside c.args.edges.now steps c.requires.walked k step.to step.from (slice_get-get_or steps k none c.loop-step-test.true))

pub index_mut-requires : goal.index_mut-requires
index_mut-requires c =
    let steps = c.args.steps.now in
    let k = c.loop-step.step-index in
    let within = place_inside c.args.edges.now steps c.requires.walked k (get_or steps k none) (slice_get-get_or steps k none c.loop-step-test.true) in
    omega (arith, within, c.loop-step.invariant.long, c.loop-step.runs.ok.0)

pub overflow_add-run : goal.overflow_add-run
overflow_add-run c =
    let edges = c.args.edges.now in
    let steps = c.args.steps.now in
    let k = c.loop-step.step-index in
    let next = c.loop-step.next in
    let runs = c.loop-step.runs.items in
    let step = get_or steps k none in
    let small = number_small edges steps c.requires.walked k step.to step.from next runs (slice_get-get_or steps k none c.loop-step-test.true) c.loop-step.invariant in
    let is : c.number_at-run.result ≡ number_from step.from runs next = c.number_at-run.ensures ∙ ap (λ (xs : List ℕ). number_from step.from xs next) c.deref.ensures.value in
    let few = few_begun edges steps c.requires.walked k c.loop-step-test.true next runs c.loop-step.invariant in
    omega (arith, small, is, few, c.requires.few)

pub loop-step-init : goal.loop-step-init
loop-step-init c = numbering_none c.args.edges.now c.in_ok-runs.runs.items c.in_ok-runs.ensures

-- the greater of two numbers is one of them
either : (a b m : ℕ) → m ≡ max a b → (m ≡ a) ⊎ (m ≡ b)
either a b m e = by (cases_lt a b)
  where
    by : (a < b) ⊎ (b ≤ a) → (m ≡ a) ⊎ (m ≡ b)
    by (inl l) = inr (omega (arith, e))
    by (inr l) = inl (omega (arith, e))

pub loop-step-preserved : goal.loop-step-preserved
loop-step-preserved c =
    let edges = c.args.edges.now in
    let steps = c.args.steps.now in
    let k = c.loop-step.step-index in
    let next = c.loop-step.next in
    let runs = c.loop-step.runs.items in
    let step = get_or steps k none in
    let is : c.number_at-run.result ≡ number_from step.from runs next = c.number_at-run.ensures ∙ ap (λ (xs : List ℕ). number_from step.from xs next) c.deref.ensures.value in
    step_numbered edges steps c.requires.walked k step next runs (slice_get-get_or steps k none c.loop-step-test.true) c.loop-step.invariant
    c.number_at-run.result c.max-next.result is (omega (arith, c.max-next.ensures)) (omega (arith, c.max-next.ensures)) (either next (c.number_at-run.result + 1) c.max-next.result c.max-next.ensures)

pub returns : goal.returns
returns c = all_numbered c.args.edges.now c.args.steps.now c.requires.walked c.loop-step.step-index c.loop-step.next c.loop-step.runs.items (omega (arith, c.loop-step-test.false)) c.loop-step.invariant
