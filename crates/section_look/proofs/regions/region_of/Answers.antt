use Rattle.std.proofs.Common.{List, [], ◌∷◌, ◌++◌, refl, ap, subst, ◌∙◌, Vec, Global}
use Rattle.lattice.specs.Points.{of_dir}
use Rattle.cut_plane.specs.declared.segments.Segment.{Segment}
use Rattle.section_look.specs.Regions.{lists_of}
use Rattle.section_look.specs.inner.Parts.{AreAddedIfIn}
use Rattle.section_look.proofs.Nested.{region_made}
use Rattle.section_look.proofs.regions.region_of.Goals as goal

pub returns : goal.returns
returns c =
    let first = c.in_ok-from_slice.field-0 in
    region_made (of_dir c.args.d.now) c.args.loops.now c.args.k c.index-loops-k.result c.requires.within c.index-loops-k.is c.as_slice-this.result.now c.as_slice-this.ensures.value
    _ (ap (λ (vs : List (Vec Segment Global)). lists_of vs) (c.in_ok-push.ensures.items ∙ ap (λ (vs : List (Vec Segment Global)). vs ++ first ∷ []) c.new-kept.ensures.items) ∙ ap (λ (xs : List Segment). xs ∷ []) c.in_ok-from_slice.ensures.items)
    _ _ c.in_ok-add_inside.ensures
    (subst (λ (vs : List (Vec Segment Global)). AreAddedIfIn (of_dir c.args.d.now) c.as_slice-this.result.now (lists_of vs) (lists_of c.add_inside.new.loops.items) (lists_of c.add_inside-2.new.loops.items)) c.after.ensures c.in_ok-add_inside-2.ensures) c.requires.outer.0 c.requires.outer.1 _ refl
