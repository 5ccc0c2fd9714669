use Rattle.std.proofs.Common.{◌≡◌, ℕ, List, sym, ap, subst, ◌∙◌}
use Rattle.std.specs.Prelude.{codes}
use Rattle.job_file.specs.declared.fault.JobFault.{JobFault}
use Rattle.svg_page.specs.Texts.{◌⊕◌}
use Rattle.fault_lines.specs.Lines.{job_line}
use Rattle.fault_lines.specs.Told.{text_of}
use Rattle.fault_lines.proofs.lines.job_line.Goals as goal

pub returns-in-Wrong-clause-line : goal.returns-in-Wrong-clause-line
returns-in-Wrong-clause-line c =
    subst (λ (f : JobFault). text_of c.fixed_with.result ≡ job_line c.args.program.now f) (sym c.in-Wrong.is)
    (c.fixed_with.ensures ∙ ap (λ (key : List ℕ). c.args.program.now ⊕ codes ": job: wrong " ⊕ key ⊕ codes "\n") c.key_text.ensures.value)

pub returns-in-TooManyViews-clause-line : goal.returns-in-TooManyViews-clause-line
returns-in-TooManyViews-clause-line c =
    subst (λ (f : JobFault). text_of c.fixed-in-TooManyViews.result ≡ job_line c.args.program.now f) (sym c.in-TooManyViews.is) c.fixed-in-TooManyViews.ensures
