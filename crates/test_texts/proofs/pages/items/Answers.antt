use Rattle.std.proofs.lemmas.List.Elements.{All-nil, All-same, All-push}
use Rattle.sheet_page.specs.Pages.{IsInView}
use Rattle.test_texts.proofs.pages.items.Goals as goal

pub returns : goal.returns
returns c =
    let none = All-same (IsInView 1) _ _ c.new-items.ensures.items (All-nil (IsInView 1)) in
    let one = All-same (IsInView 1) _ _ c.in_ok-push.ensures.items (All-push (IsInView 1) _ _ none c.rule.ensures) in
    let two = All-same (IsInView 1) _ _ c.in_ok-push-2.ensures.items (All-push (IsInView 1) _ _ one c.rule-2.ensures) in
    let three = All-same (IsInView 1) _ _ c.in_ok-push-3.ensures.items (All-push (IsInView 1) _ _ two c.rule-3.ensures) in
    let four = All-same (IsInView 1) _ _ c.in_ok-push-4.ensures.items (All-push (IsInView 1) _ _ three tt) in
    let five = All-same (IsInView 1) _ _ c.in_ok-push-5.ensures.items (All-push (IsInView 1) _ _ four c.in_ok-area.ensures) in
    All-same (IsInView 1) _ _ c.in_ok-push-6.ensures.items (All-push (IsInView 1) _ _ five c.in_ok-chain_line.ensures)
