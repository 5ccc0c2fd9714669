use Rattle.std.proofs.Common.{◌≡◌, List, [], ◌∷◌, ◌++◌, Option, Some, cond, Vec, Global, sym, ap, ◌∙◌}
use Rattle.std.specs.Option.{option_map_or, option_copied_mut}
use Rattle.indexmap.specs.IndexMap.{IndexMap, get}
use Rattle.stroke_paths.specs.declared.corners.StrokePlace.{StrokePlace}
use Rattle.stroke_paths.specs.declared.path.End.{End}
use Rattle.stroke_paths.specs.inner.Corners.{ends_in, same_place}
use Rattle.stroke_paths.proofs.CornerLemmas.{noted_by}
use Rattle.stroke_paths.proofs.corners.note.Goals as goal

pub returns : goal.returns
returns c =
    let none : ends_in c.args.corners.now c.args.place ≡ [] =
    ap (λ (o : Option (Vec End Global)). option_map_or (λ ends. ends.items) o []) (sym c.get_mut.ensures.value ∙ ap option_copied_mut c.in_default.is) in
    noted_by c.args.corners.now c.insert.new.self c.args.place c.args.end c.in_ok-vec.field-0
    (λ q.
    c.in_ok-insert.ensures.updates.0 q
    ∙ ap (λ (m : IndexMap StrokePlace (Vec End Global) _). cond (same_place c.args.place q) (Some c.in_ok-vec.field-0) (get same_place m q)) c.get_mut.follows.holds-at-none)
    (c.in_ok-vec.ensures.items ∙ ap (λ (xs : List End). xs ++ c.args.end ∷ []) (sym none))
