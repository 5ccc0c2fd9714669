use Rattle.std.proofs.Common.{◌≡◌, length, slice_get, Some, refl, subst}
use Rattle.std.specs.Prelude.{◌↔◌, IsTrue}
use Rattle.std.proofs.lemmas.Option.{slice_get_read}
use Rattle.integers.proofs.Logic.{↔-trans}
use Rattle.lattice.specs.declared.points.Corner.{Corner}
use Rattle.geometry.specs.Parts.{part_of}
use Rattle.geometry.proofs.Listed.{same_element}
use Rattle.solid_mesh.specs.inner.Pairs.{MeetBeyond}
use Rattle.solid_mesh.proofs.Meets.{corners_read, turned_below, turned_beyond}
use Rattle.solid_mesh.proofs.pairs.meets_beyond.Goals as goal

pub returns : goal.returns
returns c a b d p q at at_p at_q =
    let s = part_of c.args.soup.now in
    let t = c.args.triangle.now in
    let u = c.turned_to-a.result in
    let below = turned_below (length s.corners) t u c.turned_to-a.ensures.turn c.requires.triangle in
    let there = corners_read s u below c.index.result.now c.index-2.result.now c.index-3.result.now c.index.ensures c.index-2.ensures c.index-3.ensures in
    let end : Corner = c.index-4.result.now in
    let at_end : slice_get s.corners c.args.n ≡ Some end = slice_get_read s.corners (length s.corners) c.args.n end refl c.requires.n c.index-4.ensures in
    let same : end ≡ q = same_element s.corners c.args.n c.args.n end q refl at_end at_q in
    subst (λ (x : Corner). IsTrue c.touches_beyond.result ↔ MeetBeyond a b d p x) same
    (↔-trans c.touches_beyond.ensures (turned_beyond s t u a b d _ _ _ at there c.args.m p end c.turned_to-a.ensures c.requires.has at_p))
