use Rattle.std.proofs.Common.{◌≡◌, ◌+◌, ◌≤◌, List, [], ◌∷◌, ◌++◌, Contains, map, take, get_or, sym, subst, ap, ◌∙◌, arith}
use Rattle.std.proofs.lemmas.List.{get_or_default, map_more, take_all}
use Rattle.std.proofs.lemmas.List.Elements.{All-contains, Contains-get_or}
use Rattle.lattice.specs.Points.{of_dir}
use Rattle.lattice.specs.declared.pieces.Strip.{Strip}
use Rattle.line_merge.specs.Numbers.{number_in}
use Rattle.line_merge.specs.Taken.{AreTaken, MayBeTaken, last_line}
use Rattle.view_lines.specs.declared.sources.Placed.{Placed}
use Rattle.view_lines.specs.inner.Sources.{Origin, origin_of, CanBeDrawn, IsPlaced, AreTakenOf}
use Rattle.view_lines.proofs.OriginStrips.{joined, may_be_taken, taken_more}
use Rattle.view_lines.proofs.merged.take_by_line.Goals as goal

pub loop-x-init : goal.loop-x-init
loop-x-init c =
    let (table, each) = c.requires.numbered in (
      table,
      each,
      record { strips = []; each = tt; listed = λ k e less. absurd (omega arith); taken = c.new-lines.ensures.taken c.args.d.now (number_in table) },
      λ j e later less. omega (arith, c.new-lines.ensures.first),
    )

pub source_strips-requires : goal.source_strips-requires
source_strips-requires c =
    let placed = c.args.placed.now in
    let x = c.x-item.result in
    All-contains (λ (x : Placed). CanBeDrawn (of_dir c.args.d.now) c.args.solid.now (origin_of x.source)) placed x c.requires.drawable
    (subst (Contains placed) (sym c.x-item.is) (Contains-get_or placed c.loop-x.x-index x c.loop-x-test.true))

pub take-requires : goal.take-requires
take-requires c =
    let d = of_dir c.args.d.now in
    let solid = c.args.solid.now in
    let placed = c.args.placed.now in
    let k = c.loop-x.x-index in
    let x = c.x-item.result in
    let listed = subst (Contains placed) (sym c.x-item.is) (Contains-get_or placed k x c.loop-x-test.true) in
    let (table, each, so_far, later) = c.loop-x.invariant in
    let forth : last_line c.loop-x.lines ≤ x.line = subst (λ (y : Placed). last_line c.loop-x.lines ≤ y.line) (sym c.x-item.is) (later k x (omega arith) c.loop-x-test.true) in (
      number_in table,
      joined so_far.strips,
      subst (λ (ys : List Strip). MayBeTaken d (number_in table) (joined so_far.strips) c.loop-x.lines x.line ys) (sym c.deref.ensures.value)
          (may_be_taken d solid table x (All-contains (IsPlaced d solid table) placed x each listed) (All-contains (λ (x : Placed). CanBeDrawn d solid (origin_of x.source)) placed x c.requires.drawable listed)
          c.in_ok-strips.strips.items c.in_ok-strips.ensures (map (λ x. origin_of x.source) (take k placed)) c.loop-x.lines so_far forth),
    )

pub loop-x-preserved : goal.loop-x-preserved
loop-x-preserved c =
    let d = of_dir c.args.d.now in
    let solid = c.args.solid.now in
    let placed = c.args.placed.now in
    let k = c.loop-x.x-index in
    let x = c.x-item.result in
    let listed = subst (Contains placed) (sym c.x-item.is) (Contains-get_or placed k x c.loop-x-test.true) in
    let (table, each, so_far, later) = c.loop-x.invariant in
    let is_placed = All-contains (IsPlaced d solid table) placed x each listed in
    let drawable = All-contains (λ (x : Placed). CanBeDrawn d solid (origin_of x.source)) placed x c.requires.drawable listed in
    let forth : last_line c.loop-x.lines ≤ x.line = subst (λ (y : Placed). last_line c.loop-x.lines ≤ y.line) (sym c.x-item.is) (later k x (omega arith) c.loop-x-test.true) in
    let may = may_be_taken d solid table x is_placed drawable c.in_ok-strips.strips.items c.in_ok-strips.ensures (map (λ x. origin_of x.source) (take k placed)) c.loop-x.lines so_far forth in
    let more : map (λ x. origin_of x.source) (take (k + 1) placed) ≡ map (λ x. origin_of x.source) (take k placed) ++ origin_of x.source ∷ [] =
    map_more (λ (x : Placed). origin_of x.source) placed k x c.loop-x-test.true ∙ ap (λ (y : Placed). map (λ x. origin_of x.source) (take k placed) ++ origin_of y.source ∷ []) (sym c.x-item.is) in (
      table,
      each,
      subst (λ (all : List Origin). AreTakenOf d solid table all c.take.new.self) (sym more)
          (taken_more d solid table x is_placed drawable c.in_ok-strips.strips.items c.in_ok-strips.ensures (map (λ x. origin_of x.source) (take k placed)) c.loop-x.lines c.take.new.self so_far
          (subst (λ (ys : List Strip). AreTaken d (number_in table) (joined so_far.strips ++ ys) c.take.new.self) c.deref.ensures.value
          (c.in_ok-take.ensures.taken (number_in table) (joined so_far.strips) (subst (λ (ys : List Strip). MayBeTaken d (number_in table) (joined so_far.strips) c.loop-x.lines x.line ys) (sym c.deref.ensures.value) may)))),
      λ j e after less.
          let up : x.line ≤ (get_or placed j e).line =
          subst (λ (y : Placed). y.line ≤ (get_or placed j e).line) (sym (get_or_default placed k x e c.loop-x-test.true) ∙ sym c.x-item.is) (c.requires.ascending k j e (omega (arith, after)) less) in
          omega (arith, up, c.in_ok-take.ensures.line),
    )

pub returns : goal.returns
returns c =
    let (table, each, so_far, later) = c.loop-x.invariant in (
      table,
      subst (λ (xs : List Placed). AreTakenOf (of_dir c.args.d.now) c.args.solid.now table (map (λ x. origin_of x.source) xs) c.loop-x.lines) (take_all c.loop-x.x-index c.args.placed.now c.loop-x-test.false) so_far,
    )
