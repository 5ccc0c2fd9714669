use Rattle.std.proofs.Common.{◌≡◌, length, slice_get, Some, refl, sym}
use Rattle.std.proofs.lemmas.Option.{slice_get_read}
use Rattle.geometry.specs.Faces.{IsFlat}
use Rattle.geometry.specs.Parts.{part_of}
use Rattle.geometry.proofs.Listed.{same_element}
use Rattle.solid_mesh.proofs.FlatLemmas.{at_corners, face_read}
use Rattle.solid_mesh.proofs.flats.is_flat_at.Goals as goal

pub returns : goal.returns
returns c =
    let s = part_of c.args.soup.now in
    let t = c.index.result.now in
    let at : slice_get s.triangles c.args.tri ≡ Some t = slice_get_read s.triangles (length s.triangles) c.args.tri t refl c.requires c.index.ensures in (
      λ h. (
        face_read s c.args.soup.now.in_range t c.args.tri at c.index-2.result.now c.index-3.result.now c.index-4.result.now c.index-2.ensures c.index-3.ensures c.index-4.ensures,
        refl,
        c.is_flat.ensures.0 h,
      ),
      λ (f, number, flat).
          c.is_flat.ensures.1
          (at_corners s f t (same_element s.triangles f.number c.args.tri f.tri t number f.listed at) (λ x y z. IsFlat x y z) c.index-2.result.now c.index-3.result.now c.index-4.result.now
          (sym c.index-2.ensures) (sym c.index-3.ensures) (sym c.index-4.ensures) flat),
    )
