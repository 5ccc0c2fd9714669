use Rattle.std.proofs.Common.{Some, sym, ap, ◌∙◌}
use Rattle.desk.proofs.Places.{found}
use Rattle.desk.proofs.files.find.Goals as goal

pub returns-in-Some : goal.returns-in-Some
returns-in-Some g c =
    sym (found c.args.named.now c.args.name.now c.in-Some.i c.index-named-i.result c.in-Some.ensures.found c.index-named-i.is
    ∙ ap (λ one. Some one.1) c.index-named-i.is)
