use Rattle.std.proofs.Common.{◌≡◌, ℕ, ◌<◌, List, [], All, length, get_or, sym, subst, ap, ◌∙◌, arith, Vec, Global}
use Rattle.std.proofs.lemmas.List.{get_or-map, length-map}
use Rattle.solid_mesh.specs.Solids.{solid_part, AreTrianglesAt}
use Rattle.solid_mesh.specs.Stars.{first_at}
use Rattle.solid_mesh.specs.declared.solid.Solid.{Solid}
use Rattle.solid_mesh.proofs.StarLemmas.{triangles_at, star_within}
use Rattle.solid_mesh.proofs.solid.Solid.star.Goals as goal

-- what was read is the corner's star
read_star : (s : Solid) (corner : ℕ) (star : Vec ℕ Global) → corner < length (solid_part s).corners → star ≡ get_or s.stars.items corner star → star.items ≡ first_at (solid_part s).triangles (length (solid_part s).triangles) corner
read_star s corner star h is =
    let items_of : Vec ℕ Global → List ℕ = λ star. star.items in
    let within : corner < length s.stars.items = omega (arith, s.around.for_each, length-map s.stars.items items_of) in
    ap items_of is ∙ sym (get_or-map items_of s.stars.items corner star [] within) ∙ s.around.right corner

pub returns-clause-at : goal.returns-clause-at
returns-clause-at c =
    let s = c.args.self.now in
    subst (AreTrianglesAt (solid_part s) c.args.corner) (sym (c.deref.ensures.value ∙ read_star s c.args.corner c.index.result.now c.requires c.index.ensures)) (triangles_at (solid_part s) c.args.corner)

pub returns-clause-within : goal.returns-clause-within
returns-clause-within c =
    let s = c.args.self.now in
    let P : List ℕ → Type 0 = λ xs. All (λ i. i < length (solid_part s).triangles) xs in
    subst P (sym (c.deref.ensures.value ∙ read_star s c.args.corner c.index.result.now c.requires c.index.ensures)) (star_within (solid_part s).triangles c.args.corner)
