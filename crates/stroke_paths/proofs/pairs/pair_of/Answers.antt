use Rattle.std.proofs.Common.{◌<◌, Some, length, refl, sym, ap, ◌∙◌, arith}
use Rattle.std.proofs.lemmas.Bool.Decides.{nat_tests}
use Rattle.std.proofs.lemmas.Option.{slice_get-get_or}
use Rattle.stroke_paths.specs.Joints.{MayGoOn}
use Rattle.stroke_paths.proofs.pairs.pair_of.Goals as goal

pub returns : goal.returns
returns c =
    let strokes = c.args.strokes.now in
    let s = c.in_ok-one.one.now in
    let t = c.in_ok-next.next.now in
    let s_within : c.args.first.stroke < length strokes = let is = c.in_ok-one.ensures.lookup.0 in grind (arith, nat_tests) in
    let t_within : c.args.second.stroke < length strokes = let is = c.in_ok-next.ensures.lookup.0 in grind (arith, nat_tests) in
    let goes_on : MayGoOn strokes c.args.first c.args.second = record {
      first = s;
      second = t;
      first_listed = slice_get-get_or strokes c.args.first.stroke s s_within ∙ ap Some (sym c.in_ok-one.ensures.lookup.1);
      second_listed = slice_get-get_or strokes c.args.second.stroke t t_within ∙ ap Some (sym c.in_ok-next.ensures.lookup.1);
      two = c.if-first-second.false;
      first_fits = c.in_ok-turn.ensures.0.0;
      second_fits = c.in_ok-turn.ensures.0.1;
      turns = c.in_ok-turn.ensures.0.2;
    } in
    (refl, refl, goes_on, c.in_ok-turn.ensures.1)
