use Rattle.std.proofs.Common.{◌≡◌, ◌/◌, List, ℕ, ap, ◌∙◌, string_bytes}
use Rattle.std.proofs.lemmas.Result.{IfOk-weaker}
use Rattle.length_text.specs.Lengths.{digits}
use Rattle.std.specs.Fmt.{decimal}
use Rattle.svg_page.specs.Texts.{◌⊕◌}
use Rattle.length_text.proofs.Digits.{step}
use Rattle.length_text.proofs.millimetres.+digits.Goals as goal

pub returns : goal.returns
returns t c =
    IfOk-weaker c.format.result (λ text. string_bytes text ≡ decimal (c.args.rest / c.power_of_ten-place.result) ⊕ string_bytes c.in_ok-others.others) (λ text. string_bytes text ≡ digits c.args.count c.args.rest)
    (λ text h. step c.args.count c.args.rest c.power_of_ten-place.result (string_bytes text) c.if-count-eq0.false c.if-rest-eq0.false c.power_of_ten-place.ensures.value
    (h ∙ ap (λ (others : List ℕ). decimal (c.args.rest / c.power_of_ten-place.result) ⊕ others) c.in_ok-others.ensures))
    c.format.ensures.ok
