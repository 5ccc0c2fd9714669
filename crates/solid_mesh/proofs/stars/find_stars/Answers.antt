use Rattle.std.proofs.Common.{◌≡◌, ℕ, ◌<◌, List, length, slice_get, Some, refl, sym, ◌∙◌, arith, Vec, Global}
use Rattle.std.proofs.lemmas.List.{length-map}
use Rattle.std.proofs.lemmas.Option.{get_or_from_slice_get, slice_get_read}
use Rattle.geometry.specs.Parts.{part_of}
use Rattle.geometry.proofs.Listed.{triangle_below, face_at}
use Rattle.solid_mesh.specs.Stars.{lists_of}
use Rattle.solid_mesh.proofs.Sharing.{starts_differ}
use Rattle.solid_mesh.proofs.StarLemmas.{more_stars}
use Rattle.solid_mesh.proofs.stars.find_stars.Goals as goal

same_count : (xs ys : List (Vec ℕ Global)) → length xs ≡ length ys → length (lists_of xs) ≡ length (lists_of ys)
same_count xs ys e = length-map xs (λ star. star.items) ∙ e ∙ sym (length-map ys (λ star. star.items))

pub loop-tri-preserved : goal.loop-tri-preserved
loop-tri-preserved c =
    let s = part_of c.args.soup.now in
    let i = c.loop-tri.tri in
    let t = c.index.result.now in
    let old = c.loop-tri.stars in
    let first = c.add.new.stars in
    let second = c.add-in-loop-tri.new.stars in
    let new = c.add-in-loop-tri-2.new.stars in
    let within : i < length s.triangles = omega (arith, c.args.soup.now.triangles.ok.0) in
    let at : slice_get s.triangles i ≡ Some t = slice_get_read s.triangles (length s.triangles) i t refl within c.index.ensures in
    let f = face_at s c.args.soup.now.in_range t i at in
    let differ = starts_differ s f (c.requires.none_flat f) in
    let count_first : length first.items ≡ length old.items = omega (arith, c.add.ensures.for_each, old.ok.0, first.ok.0) in
    let count_second : length second.items ≡ length first.items = omega (arith, c.add-in-loop-tri.ensures.for_each, first.ok.0, second.ok.0) in
    let count_new : length new.items ≡ length second.items = omega (arith, c.add-in-loop-tri-2.ensures.for_each, second.ok.0, new.ok.0) in
    more_stars (length s.corners) s.triangles i t (sym (get_or_from_slice_get s.triangles i t _ at)) (triangle_below s c.args.soup.now.in_range t i at)
    (differ 0 1 (omega arith) (omega arith)) (differ 1 2 (omega arith) (omega arith)) (differ 0 2 (omega arith) (omega arith))
    (lists_of old.items) (lists_of first.items) (lists_of second.items) (lists_of new.items) c.loop-tri.invariant
    (same_count first.items old.items count_first) (same_count second.items first.items count_second) (same_count new.items second.items count_new)
    c.in_ok-add.ensures.added c.in_ok-add-2.ensures.added c.in_ok-add-3.ensures.added
