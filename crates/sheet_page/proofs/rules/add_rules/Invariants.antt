use Rattle.std.proofs.Common.{◌≡◌, ◌++◌, drop, map}
use Rattle.sheet_page.specs.declared.page.Item.TheVariants.{Rule}
use Rattle.sheet_page.proofs.rules.add_rules.Given as goal

-- the rules that are left are still to be added
abbrev pub invariant-loop-rule : goal.invariant-loop-rule
invariant-loop-rule l = l.items.items ++ map Rule (drop l.rule-index l.rules) ≡ l.initial.items.items ++ map Rule l.rules
