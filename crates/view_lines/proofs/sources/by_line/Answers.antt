use Rattle.std.proofs.Common.{inl, [], map}
use Rattle.lattice.specs.Points.{of_dir}
use Rattle.view_lines.specs.inner.Sources.{origins}
use Rattle.view_lines.proofs.PlacedSources.{none_placed, placed_by_line}
use Rattle.view_lines.proofs.sources.by_line.Goals as goal

pub returns : goal.returns
returns c =
    let d = of_dir c.args.d.now in
    let solid = c.args.solid.now in
    placed_by_line d solid c.place_others.new.table.keys (origins c.args.entries.now c.args.others.now) c.place_others.new.placed.items c.in_ok-sorted.sorted.items
    (c.in_ok-place_others.ensures d solid (map inl c.args.entries.now)
    (c.in_ok-place_edges.ensures [] (none_placed d solid c.new-table.result.keys c.in_ok-placed.placed.items c.in_ok-placed.ensures.items)))
    c.in_ok-sorted.ensures.same c.in_ok-sorted.ensures.sorted
