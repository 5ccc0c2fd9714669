use Rattle.std.proofs.Common.{false, Some, refl, sym, ap, subst, ◌∙◌, arith}
use Rattle.std.proofs.lemmas.Bool.{iff_false}
use Rattle.std.proofs.lemmas.Option.{slice_get_read, slice_get-get_or}
use Rattle.stroke_paths.specs.inner.Drawn.{ArePathsBelow}
use Rattle.stroke_paths.proofs.PathLemmas.{one_more_path, no_more_path, dot_not_kept, kept_by, listed_along, some_along}
use Rattle.stroke_paths.proofs.TableLemmas.{matched_of}
use Rattle.stroke_paths.proofs.joining.add_path.Goals as goal

pub returns-then-is_dot : goal.returns-then-is_dot
returns-then-is_dot c =
    let strokes = c.args.strokes.now in
    let s = c.index-strokes-i.result in
    no_more_path strokes c.args.joints.now c.requires.joints c.args.i c.args.visited.now c.args.paths.now.items c.requires.so_far
    (λ k. absurd (dot_not_kept strokes c.args.i s (slice_get_read strokes _ c.args.i s refl c.requires.listed c.index-strokes-i.is) (c.is_dot.ensures.0 c.if-is_dot.true) k))

pub returns-then-visited-i : goal.returns-then-visited-i
returns-then-visited-i c =
    no_more_path c.args.strokes.now c.args.joints.now c.requires.joints c.args.i c.args.visited.now c.args.paths.now.items c.requires.so_far
    (λ k. slice_get-get_or c.args.visited.now c.args.i false (omega (arith, c.requires.listed, c.requires.so_far.as_many)) ∙ ap Some c.if-visited-i.true)

pub route_through-requires-clause-matched : goal.route_through-requires-clause-matched
route_through-requires-clause-matched c = matched_of c.args.strokes.now c.args.joints.now c.requires.joints

pub route_through-requires-clause-new : goal.route_through-requires-clause-new
route_through-requires-clause-new c =
    slice_get-get_or c.args.visited.now c.args.i false (omega (arith, c.requires.listed, c.requires.so_far.as_many)) ∙ ap Some c.if-visited-i.false

pub path_of-requires-clause-some : goal.path_of-requires-clause-some
path_of-requires-clause-some c =
    some_along c.args.joints.now c.args.visited.now c.route_through.new.visited c.args.i c.in_ok-passed.passed.steps.items c.in_ok-passed.passed.closed c.in_ok-passed.ensures

pub path_of-requires-clause-listed : goal.path_of-requires-clause-listed
path_of-requires-clause-listed c =
    listed_along c.args.strokes.now c.args.joints.now c.args.visited.now c.route_through.new.visited c.args.i c.in_ok-passed.passed.steps.items c.in_ok-passed.passed.closed c.requires.so_far.as_many c.in_ok-passed.ensures

pub returns : goal.returns
returns c =
    let strokes = c.args.strokes.now in
    let s = c.index-strokes-i.result in
    let kept = kept_by strokes c.args.i s (slice_get_read strokes _ c.args.i s refl c.requires.listed c.index-strokes-i.is) (iff_false c.is_dot.ensures c.if-is_dot.false) in
    subst (ArePathsBelow strokes c.args.joints.now _ c.route_through.new.visited) (sym c.in_ok-push.ensures.items)
    (one_more_path strokes c.args.joints.now c.requires.joints c.args.i c.args.visited.now c.route_through.new.visited c.args.paths.now.items c.in_ok-path.path c.in_ok-passed.passed.steps.items c.in_ok-passed.passed.closed
    c.requires.so_far kept c.in_ok-passed.ensures c.in_ok-path.ensures)
