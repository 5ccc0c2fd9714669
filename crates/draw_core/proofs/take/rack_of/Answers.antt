use Rattle.std.proofs.Common.{◌≡◌, ◌≢◌, ◌<◌, ℕ, List, [], ◌∷◌, length, map, get_or, refl, sym, subst, ap, ◌∙◌, arith}
use Rattle.std.specs.Prelude.{slice_get, Some}
use Rattle.std.proofs.lemmas.Option.{get_or_from_slice_get}
use Rattle.std.specs.List.{AllPairs}
use Rattle.job_file.specs.Seen.{job_seen}
use Rattle.draw_core.proofs.Unmet.{all_met, unmet_at, named_at, missing_within, outputs_differ, refuses_output, of_outputs}
use Rattle.draw_core.proofs.take.rack_of.Goals as goal

pub choose-requires-clause-different : goal.choose-requires-clause-different
choose-requires-clause-different g c =
    subst (λ (xs : List (List ℕ)). AllPairs (λ (a b : List ℕ). a ≢ b) xs) (sym c.deref.ensures.value) (outputs_differ c.args.job.now.outputs.items c.args.job.now.proper_outputs)

pub index-requires : goal.index-requires
index-requires g c =
    let missing = rw c.in-Err-NoPlotter.field-0-is at c.in-Err-NoPlotter.ensures.err in
    let within = missing_within (λ b. ((goal.Plotter-dyn g (b.vtable, b.value)).plot b.value).suffix) c.args.extras.items c.deref.result.now c.in-Err-NoPlotter.place missing in
    let count : length c.deref.result.now ≡ length c.args.job.now.outputs.items = (λ i. length (c.deref.ensures.value i)) in
    omega (arith, within, count, c.args.job.now.outputs.ok.0)

pub returns-in-Ok-clause-answer : goal.returns-in-Ok-clause-answer
returns-in-Ok-clause-answer g c =
    (refl, all_met (λ b. ((goal.Plotter-dyn g (b.vtable, b.value)).plot b.value).suffix) c.args.extras.items c.args.job.now.outputs.items c.in-Ok.rack.boxes.items (rw c.deref.ensures.value at c.in-Ok.ensures.ok))

-- the name that was copied is that of the first missing one
copied : (names : List (List ℕ)) (place : ℕ) (name read : List ℕ) → slice_get names place ≡ Some name → read ≡ get_or names place read → slice_get names place ≡ Some read
copied names place name read here is = here ∙ ap Some (sym (is ∙ get_or_from_slice_get names place name read here))

pub returns-in-Err-NoPlotter-clause-answer : goal.returns-in-Err-NoPlotter-clause-answer
returns-in-Err-NoPlotter-clause-answer g c =
    let names = c.args.job.now.outputs.items in
    let missing = rw c.deref.ensures.value at (rw c.in-Err-NoPlotter.field-0-is at c.in-Err-NoPlotter.ensures.err) in
    let at = named_at (λ b. ((goal.Plotter-dyn g (b.vtable, b.value)).plot b.value).suffix) c.args.extras.items names c.in-Err-NoPlotter.place missing in
    let here = copied names c.in-Err-NoPlotter.place at.0 c.index.result.now at.1 c.index.ensures in
    refuses_output (map (λ b. ((goal.Plotter-dyn g (b.vtable, b.value)).plot b.value).suffix) c.args.extras.items) (job_seen c.args.job.now) c.index.result.now c.no_plotter.result
    (unmet_at (λ b. ((goal.Plotter-dyn g (b.vtable, b.value)).plot b.value).suffix) c.args.extras.items names c.in-Err-NoPlotter.place c.index.result.now missing here) c.no_plotter.ensures

pub returns-in-Err-NoPlotter-clause-of_outputs : goal.returns-in-Err-NoPlotter-clause-of_outputs
returns-in-Err-NoPlotter-clause-of_outputs g c = of_outputs c.index.result.now c.no_plotter.result c.no_plotter.ensures

pub returns-in-Err-NoPlotter-clause-usual : goal.returns-in-Err-NoPlotter-clause-usual
returns-in-Err-NoPlotter-clause-usual g c none =
    let missing = rw c.deref.ensures.value at (rw c.in-Err-NoPlotter.field-0-is at c.in-Err-NoPlotter.ensures.err) in
    let within = missing_within (λ b. ((goal.Plotter-dyn g (b.vtable, b.value)).plot b.value).suffix) c.args.extras.items c.args.job.now.outputs.items c.in-Err-NoPlotter.place missing in
    absurd (nowhere c.args.job.now.outputs.items c.in-Err-NoPlotter.place none within)
  where
    nowhere : (names : List (List ℕ)) (place : ℕ) → names ≡ [] → place < length names → ⊥
    nowhere [] place none within = omega arith
    nowhere (name ∷ names) place none within = cc
