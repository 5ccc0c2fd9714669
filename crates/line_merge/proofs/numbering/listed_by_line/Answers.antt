use Rattle.std.proofs.Common.{List, map, IsPermutation, subst}
use Rattle.std.proofs.lemmas.List.Sorted.{IsPermutation-map}
use Rattle.line_merge.specs.declared.numbering.Numbered.{Numbered}
use Rattle.line_merge.specs.inner.Numbering.{listed_strip}
use Rattle.line_merge.proofs.numbering.listed_by_line.Goals as goal

pub returns : goal.returns
returns c =
    let numbered = c.in_ok-listed.ensures in
    let sorted = c.in_ok-sorted.sorted.items in
    record {
      number = numbered.number;
      numbering = numbered.numbering;
      moves =
          subst (λ (xs : List Numbered). IsPermutation xs (map listed_strip sorted)) numbered.same
          (IsPermutation-map listed_strip c.in_ok-listed.listed.items sorted c.in_ok-sorted.ensures.same);
      ascending = c.in_ok-sorted.ensures.sorted;
    }
