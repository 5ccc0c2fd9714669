use Rattle.std.proofs.Common.{◌≡◌, ◌++◌, true, drop, map}
use Rattle.std.specs.List.{list_all}
use Rattle.covered_paths.specs.Sheets.{ends_of, ends_through, is_on_sheet}
use Rattle.covered_paths.proofs.lines.add_through.Given as goal

-- the legs so far and those through the points that are left are all of them
abbrev pub invariant-loop-to : goal.invariant-loop-to
invariant-loop-to l = record {
  legs : map ends_of l.legs.items ++ ends_through l.closed l.first l.from (drop l.to-index l.points) ≡ map ends_of l.fn.legs.items ++ ends_through l.closed l.first l.first l.points;
  from : is_on_sheet l.from ≡ true;
  rest : list_all is_on_sheet (drop l.to-index l.points) ≡ true;
}
