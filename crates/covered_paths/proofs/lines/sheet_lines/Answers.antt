use Rattle.std.proofs.Common.{List, map, subst}
use Rattle.std.specs.List.Sorted.{IsPermutation}
use Rattle.std.proofs.lemmas.List.Sorted.{IsPermutation-map}
use Rattle.covered_paths.specs.Sheets.{Sketch, sketch_of}
use Rattle.covered_paths.proofs.lines.sheet_lines.Goals as goal

pub returns : goal.returns
returns c = record {
  same = subst (λ (xs : List Sketch). IsPermutation xs (map sketch_of c.in_ok-sorted.sorted.items)) c.in_ok-lines.ensures (IsPermutation-map sketch_of _ _ c.in_ok-sorted.ensures.same);
  order = c.in_ok-sorted.ensures.order;
}
