use Rattle.std.proofs.Common.{◌+◌, ℕ, List, sym, ap, subst, refl, ◌∙◌, arith}
use Rattle.lattice.specs.Points.{of_dir}
use Rattle.geometry.specs.Parts.{Edge}
use Rattle.geometry.specs.Views.{IsOutline}
use Rattle.solid_mesh.specs.Solids.{solid_part, edge_halves}
use Rattle.edge_pick.proofs.Picking.{AreThoseBelow, none_below, one_more, none_more, all_found}
use Rattle.edge_pick.proofs.edges.outline_edges.Goals as goal
use Rattle.edge_pick.proofs.edges.outline_edges.Goals.{then-is_outline+in_ok-push, else-is_outline}

pub loop-edge-init : goal.loop-edge-init
loop-edge-init c =
    let s = solid_part c.args.solid.now in
    let P : Edge s → Type 0 = IsOutline (of_dir c.args.d.now) in
    let halves = edge_halves c.args.solid.now in
    subst (λ (xs : List ℕ). AreThoseBelow P halves xs 0) (sym c.new-numbers.ensures.items) (none_below s P halves)

pub returns : goal.returns
returns c =
    let s = solid_part c.args.solid.now in
    let P : Edge s → Type 0 = IsOutline (of_dir c.args.d.now) in
    all_found s P (edge_halves c.args.solid.now) c.edges-edge-end.ensures.numbered c.loop-edge.numbers.items c.loop-edge.edge (omega (arith, c.loop-edge-test.false, c.loop-edge.auto.edge-end, c.edges-edge-end.ensures.count)) c.loop-edge.invariant

pub loop-edge-preserved : goal.loop-edge-preserved
loop-edge-preserved c =
    let s = solid_part c.args.solid.now in
    let P : Edge s → Type 0 = IsOutline (of_dir c.args.d.now) in
    let halves = edge_halves c.args.solid.now in
    let numbers = c.loop-edge.numbers.items in
    let edge = c.loop-edge.edge in
    let Below : List ℕ → Type 0 = λ xs. AreThoseBelow P halves xs (edge + 1) in
    elim c.if-is_outline.branch [
      | then-is_outline+in_ok-push w ↦
          let same = ap (λ v. v.items) w.numbers-is ∙ w.in_ok-push.ensures.items in
          subst Below (sym same) (one_more s P halves numbers edge (λ e n. (w.if-is_outline.ensures e n).0 refl) c.loop-edge.invariant)
      | else-is_outline w ↦
          let same = ap (λ v. v.items) w.numbers-is in
          subst Below (sym same) (none_more s P halves numbers edge (λ e n p. absurd (let t = (w.if-is_outline.ensures e n).1 p in cc)) c.loop-edge.invariant)
    ]
