use Rattle.std.proofs.Common.{◌≡◌, sym, subst, ◌∙◌}
use Rattle.lattice.specs.Points.{of_spot}
use Rattle.lattice.specs.Cuts.{plane_of}
use Rattle.geometry.specs.Cuts.{IsInSection}
use Rattle.geometry.specs.Faces.{share_point}
use Rattle.solid_mesh.specs.Solids.{solid_part}
use Rattle.span_slow.specs.inner.Sections.{mediant_point}
use Rattle.span_slow.proofs.section.is_in_section.Goals as goal

pub returns : goal.returns
returns c e numbered =
    let q = plane_of c.args.section.now.cut in
    let s = solid_part c.args.solid.now in
    let middle = mediant_point e c.args.from c.args.to in
    let at : of_spot c.spot.result ≡ middle = c.spot.ensures.at e numbered ∙ (λ i. share_point e.a e.b (c.mediant.ensures.num i) (c.mediant.ensures.den i)) in
    let told = c.inside.ensures s c.requires.borders in (
      (λ h. (c.is_earlier.ensures.0 c.if-not-is_earlier.false, subst (IsInSection q s) at (told.0 h))),
      (λ h. told.1 (subst (IsInSection q s) (sym at) h.1)),
    )
