use Rattle.std.proofs.Common.{inl, inr, refl, List, ◌++◌, [], ◌∷◌, ap, ◌∙◌, Vec, Global}
use Rattle.cut_plane.proofs.Lists.{not_true}
use Rattle.cut_plane.specs.declared.segments.Segment.{Segment}
use Rattle.section_look.specs.Regions.{lists_of}
use Rattle.section_look.proofs.Lists.{lists_more}
use Rattle.section_look.proofs.regions.add_if_inside.Goals as goal

pub returns-then-not-is_in : goal.returns-then-not-is_in
returns-then-not-is_in c = inr ((λ there. not_true c.is_in.result c.if-not-is_in.true (c.is_in.ensures.1 there)), refl)

pub returns : goal.returns
returns c =
    let old = c.args.loops.now.items in
    inl (
      c.is_in.ensures.0 c.if-not-is_in.false,
      ap (λ (vs : List (Vec Segment Global)). lists_of vs) c.in_ok-push.ensures.items ∙ lists_more old c.in_ok-from_slice.field-0 ∙ ap (λ (xs : List Segment). lists_of old ++ xs ∷ []) c.in_ok-from_slice.ensures.items,
    )
