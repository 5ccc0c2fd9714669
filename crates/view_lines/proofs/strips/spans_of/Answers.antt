use Rattle.std.proofs.Common.{◌≡◌, ◌+◌, refl, sym, ap, subst, ◌∙◌, List, [], ◌∷◌, ◌++◌, take}
use Rattle.std.specs.List.{AllZip}
use Rattle.std.proofs.lemmas.List.{take_all, take_more}
use Rattle.line_merge.proofs.Zips.{zip_push}
use Rattle.span_count.specs.declared.span.CountSpan.{CountSpan}
use Rattle.lattice.specs.declared.spans.Span.{Span}
use Rattle.view_lines.specs.inner.Told.{IsToldBy, AreJoined}
use Rattle.view_lines.proofs.Runs.{run_of_one}
use Rattle.view_lines.proofs.strips.spans_of.Goals as goal

pub loop-span-init : goal.loop-span-init
loop-span-init c =
    let x = c.span_of-last.result in (
      c.in-Some.first.now,
      c.in-Some.ensures.cases.0,
      x ∷ [],
      (c.span_of-last.ensures, tt),
      subst (λ (ys : List Span). AreJoined (x ∷ []) (ys ++ x ∷ [])) (sym {A = List Span} c.new-spans.ensures.items) (x ∷ [], [], refl, run_of_one x, refl),
    )

pub loop-span-preserved : goal.loop-span-preserved
loop-span-preserved c =
    let others = c.in-Some.others.now in
    let k = c.loop-span.span-index in
    let x = c.span-item.result in
    let y = c.span_of.result in
    let (first, whole, singles, told, runs) = c.loop-span.invariant in
    let more : first ∷ take (k + 1) others ≡ (first ∷ take k others) ++ x ∷ [] = ap (λ (xs : List CountSpan). first ∷ xs) (take_more others k x c.loop-span-test.true ∙ ap (λ (v : CountSpan). take k others ++ v ∷ []) (sym c.span-item.is)) in (
      first,
      whole,
      singles ++ y ∷ [],
      subst (λ (xs : List CountSpan). AllZip IsToldBy xs (singles ++ y ∷ [])) (sym more) (zip_push IsToldBy (first ∷ take k others) singles x y told c.span_of.ensures),
      c.in_ok-last.ensures singles runs,
    )

pub returns : goal.returns
returns c =
    let others = c.in-Some.others.now in
    let (first, whole, singles, told, runs) = c.loop-span.invariant in (
      singles,
      subst (λ (xs : List CountSpan). AllZip IsToldBy xs singles) (ap (λ (xs : List CountSpan). first ∷ xs) (take_all c.loop-span.span-index others c.loop-span-test.false) ∙ sym whole) told,
      subst (AreJoined singles) (sym {A = List Span} c.in_ok-push.ensures.items) runs,
    )
