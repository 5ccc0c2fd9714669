use Rattle.std.proofs.Common.{◌≡◌, codes, ◌∙◌}
use Rattle.std.proofs.lemmas.Result.{IfOk-weaker}
use Rattle.svg_page.specs.Texts.{◌⊕◌}
use Rattle.draw_core.specs.Outputs.{plot_name}
use Rattle.draw_core.proofs.outputs.plot_name.Goals as goal

pub returns : goal.returns
returns c =
    IfOk-weaker c.new.result (λ name. name ≡ c.as_str.result.now) (λ name. name ≡ plot_name c.args.out.now c.args.suffix.now)
    (λ name same. same ∙ c.as_str.ensures.value ∙ c.in_ok-text.ensures.ok ∙ (λ i. c.stem_of-stem.ensures i ⊕ codes "." ⊕ c.args.suffix.now)) c.new.ensures.same
