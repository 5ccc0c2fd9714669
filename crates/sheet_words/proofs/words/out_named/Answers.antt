use Rattle.std.proofs.Common.{◌≡◌, false, codes, rules, refl, sym}
use Rattle.std.specs.Str.{bytes_eq}
use Rattle.std.proofs.lemmas.Str.Pattern.{ends_text}
use Rattle.sheet_words.specs.Names.{ends_in}
use Rattle.sheet_words.proofs.words.out_named.Goals as goal

pub returns-else-ends_with-2-clause-usage : goal.returns-else-ends_with-2-clause-usage
returns-else-ends_with-2-clause-usage c usage =
    let dash : bytes_eq c.args.name.now (codes "-") ≡ false = search rules in
    let svg : ends_in (codes ".svg") c.args.name.now ≡ false = sym (ends_text false (codes ".svg") c.args.name.now c.if-ends_with.ensures.cases) in
    let pdf : ends_in (codes ".pdf") c.args.name.now ≡ false = sym (ends_text false (codes ".pdf") c.args.name.now c.if-ends_with-2.ensures.cases) in
    rw (dash, svg, pdf) refl
