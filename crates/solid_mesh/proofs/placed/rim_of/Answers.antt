use Rattle.std.proofs.Common.{◌≡◌, ℕ, inl, inr}
use Rattle.lattice.specs.declared.soup.Tri.{Tri}
use Rattle.geometry.specs.Parts.{IsCornerOf}
use Rattle.solid_mesh.proofs.BoundLemmas.{ends_in}
use Rattle.solid_mesh.proofs.placed.rim_of.Goals as goal

pub returns-then-triangle-corner : goal.returns-then-triangle-corner
returns-then-triangle-corner c =
    let (b, d) = ends_in c.args.b.now c.args.c.now c.edge_bounds.result c.edge_bounds.ensures in
    inl (c.if-triangle-corner.true, b, d)

pub returns-then-triangle-corner-2 : goal.returns-then-triangle-corner-2
returns-then-triangle-corner-2 c =
    let (d, a) = ends_in c.args.c.now c.args.a.now c.edge_bounds-then-triangle-corner-2.result c.edge_bounds-then-triangle-corner-2.ensures in
    inr (inl (c.if-triangle-corner-2.true, d, a))

pub returns : goal.returns
returns c =
    let (a, b) = ends_in c.args.a.now c.args.b.now c.edge_bounds-2.result c.edge_bounds-2.ensures in
    inr (inr (last c.args.triangle.now c.args.corner c.if-triangle-corner.false c.if-triangle-corner-2.false c.requires, a, b))
  where
    last : (t : Tri) (k : ℕ) → (t.a ≡ k → ⊥) → (t.b ≡ k → ⊥) → IsCornerOf t k → t.c ≡ k
    last t k no_a no_b h = elim h [ inl e ↦ absurd (no_a e) | inr g ↦ elim g [ inl e ↦ absurd (no_b e) | inr e ↦ e ] ]
