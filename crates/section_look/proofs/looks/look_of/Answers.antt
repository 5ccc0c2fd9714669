use Rattle.std.proofs.Common.{ℕ, List, Bool, length, refl, sym, subst, ap, ◌∙◌, Vec, Global}
use Rattle.std.specs.List.{AllZip}
use Rattle.lattice.specs.Cuts.{Plane, plane_of}
use Rattle.lattice.specs.Triple.{Triple}
use Rattle.lattice.specs.Points.{of_dir}
use Rattle.cut_plane.specs.Loops.{AreBorders}
use Rattle.cut_plane.specs.declared.segments.Segment.{Segment}
use Rattle.hatch_fill.specs.Hatching.{IsHatching}
use Rattle.solid_mesh.specs.Solids.{solid_part}
use Rattle.solid_mesh.proofs.Facts.{in_range, sound}
use Rattle.section_look.specs.Looks.{AreFills}
use Rattle.section_look.specs.Regions.{AreRegions, lists_of}
use Rattle.section_look.specs.Spacings.{IsChosen, spacings}
use Rattle.section_look.specs.Thin.{IsMarked}
use Rattle.section_look.specs.declared.regions.Region.{Region}
use Rattle.section_look.proofs.Marks.{one_there, zip_length}
use Rattle.section_look.proofs.looks.look_of.Goals as goal

pub fills_of-requires-clause-marked : goal.fills_of-requires-clause-marked
fills_of-requires-clause-marked c =
    let sheet = c.args.sheet.now in
    let (place, at) = one_there sheet.places.items c.args.view c.requires in
    let R = IsMarked sheet place (plane_of c.args.cut.now) c.spacing_at.result in
    ap (λ (ms : List Bool). length ms) c.deref-4.ensures.value ∙ zip_length R c.deref-2.result.now c.in_ok-marks.marks.items (c.in_ok-marks.ensures place at)
    ∙ ap (λ (rs : List Region). length rs) (c.deref-2.ensures.value ∙ sym c.deref-3.ensures.value)

pub chosen_spacing-requires : goal.chosen_spacing-requires
chosen_spacing-requires c =
    let sheet = c.args.sheet.now in
    let (place, at) = one_there sheet.places.items c.args.view c.requires in
    let R = IsMarked sheet place (plane_of c.args.cut.now) c.spacing_at.result in
    ap (λ (ms : List Bool). length ms) c.deref-6.ensures.value ∙ zip_length R c.deref-2.result.now c.in_ok-marks.marks.items (c.in_ok-marks.ensures place at)
    ∙ ap (λ (rs : List Region). length rs) (c.deref-2.ensures.value ∙ sym c.deref-5.ensures.value)

pub returns : goal.returns
returns c =
    let sheet = c.args.sheet.now in
    let solid = c.args.solid.now in
    let p = plane_of c.args.cut.now in
    let section = c.in_ok-section.section in
    let loops = c.in_ok-loops.loops.items in
    let regions = c.in_ok-regions.regions.items in
    let marks = c.in_ok-marks.marks.items in
    let fills = c.in_ok-fills.fills.items in
    let spacing = c.in_ok-spacing.spacing in
    let (place, at) = one_there sheet.places.items c.args.view c.requires in
    record {
      number = refl;
      place = place;
      stands = at;
      segments = section.segments.items;
      places = section.loops.items;
      borders = c.in_ok-section.ensures.borders;
      loops = lists_of loops;
      are_loops = c.in_ok-loops.ensures;
      regions = regions;
      are_regions = subst (λ (d : Triple). AreRegions d (lists_of loops) regions) c.dir.ensures (subst (λ (vs : List (Vec Segment Global)). AreRegions (of_dir c.dir.result) (lists_of vs) regions) c.deref.ensures.value c.in_ok-regions.ensures);
      marks = marks;
      marked = subst (λ (n : ℕ). AllZip (IsMarked sheet place p n) regions marks) c.spacing_at.ensures.value
          (subst (λ (rs : List Region). AllZip (IsMarked sheet place p c.spacing_at.result) rs marks) c.deref-2.ensures.value (c.in_ok-marks.ensures place at));
      filled = subst (λ (rs : List Region). AreFills sheet place rs marks fills) c.deref-3.ensures.value
          (subst (λ (ms : List Bool). AreFills sheet place c.deref-3.result.now ms fills) c.deref-4.ensures.value (c.in_ok-fills.ensures place at));
      chosen = subst (λ (rs : List Region). IsChosen p rs marks (spacings sheet) spacing) c.deref-5.ensures.value
          (subst (λ (ms : List Bool). IsChosen p c.deref-5.result.now ms (spacings sheet) spacing) c.deref-6.ensures.value c.in_ok-spacing.ensures.chosen);
      hatched = subst (λ (q : Plane). IsHatching q (solid_part solid) spacing c.in_ok-hatches.hatches.items) c.in_ok-section.ensures.cut
          (c.in_ok-hatches.ensures (solid_part solid) (sound solid) (in_range solid)
          (subst (λ (q : Plane). AreBorders q (solid_part solid) section.segments.items section.loops.items) (sym c.in_ok-section.ensures.cut) c.in_ok-section.ensures.borders));
    }
