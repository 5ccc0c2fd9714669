use Rattle.std.proofs.Common.{◌≡◌, List, ap, length, subst, ◌∙◌, arith}
use Rattle.std.specs.Prelude.{Ok}
use Rattle.dec_text.specs.declared.number.Length.TheVariants.{Millimetre}
use Rattle.geometry.specs.Parts.{Part, part_with}
use Rattle.lattice.specs.declared.points.Corner.{Corner}
use Rattle.lattice.specs.declared.soup.Tri.{Tri}
use Rattle.off_writer.specs.OffTexts.{off_of, raw_of}
use Rattle.part_input.specs.Reading.{ReadsPartText}
use Rattle.solid_mesh.specs.Solids.{solid_part}
use Rattle.solid_mesh.proofs.Facts.{few_corners, few_triangles}
use Rattle.mend_core.proofs.texts.texts_of.Goals as goal

pub off_text-requires-clause-few_corners : goal.off_text-requires-clause-few_corners
off_text-requires-clause-few_corners c = omega (arith, ap (λ (p : Part). length p.corners) c.in_ok-soup.ensures, few_corners c.args.mended.now.solid)

pub off_text-requires-clause-few_triangles : goal.off_text-requires-clause-few_triangles
off_text-requires-clause-few_triangles c = omega (arith, ap (λ (p : Part). length p.triangles) c.in_ok-soup.ensures, few_triangles c.args.mended.now.solid)

pub returns : goal.returns
returns c =
    let decimals = c.args.decimals in
    let soup = c.in_ok-soup.soup in
    let same : part_with c.deref.result.now c.deref-2.result.now ≡ solid_part c.args.mended.now.solid =
    ap (λ (corners : List Corner). part_with corners c.deref-2.result.now) c.deref.ensures.value
    ∙ ap (λ (triangles : List Tri). part_with soup.corners.items triangles) c.deref-2.ensures.value
    ∙ c.in_ok-soup.ensures in
    record {
      part = c.in_ok-part.ensures.text ∙ ap (λ (p : Part). off_of decimals p.corners p.triangles) same;
      reads_back = subst (λ (p : Part). ReadsPartText decimals Millimetre c.in_ok-part.part.items (Ok (raw_of p.corners p.triangles))) same c.in_ok-part.ensures.read;
      short = c.in_ok-part.ensures.short;
      summary = c.in_ok-summary.ensures;
    }
