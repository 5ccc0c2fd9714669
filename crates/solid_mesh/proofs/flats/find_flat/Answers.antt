use Rattle.std.proofs.Common.{◌<◌, length, refl, sym, ◌∙◌, arith, below_more, true≢false}
use Rattle.std.proofs.lemmas.Option.{slice_get_within}
use Rattle.geometry.specs.Parts.{part_of}
use Rattle.solid_mesh.proofs.FirstFound.{first_is_least}
use Rattle.solid_mesh.proofs.flats.find_flat.Goals as goal

pub returns-then-is_flat_at : goal.returns-then-is_flat_at
returns-then-is_flat_at c = first_is_least _ _ (c.is_flat_at.ensures.0 c.if-is_flat_at.true) c.loop-tri.invariant

pub loop-tri-preserved : goal.loop-tri-preserved
loop-tri-preserved c = below_more _ _ c.loop-tri.invariant (λ flat. true≢false (sym (c.is_flat_at.ensures.1 flat) ∙ c.if-is_flat_at.false))

pub returns : goal.returns
returns c f flat =
    let s = part_of c.args.soup.now in
    let within : f.number < length s.triangles = slice_get_within s.triangles f.number f.tri f.listed in
    c.loop-tri.invariant f.number (omega (arith, c.args.soup.now.triangles.ok.0)) (f, refl, flat)
