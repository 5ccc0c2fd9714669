use Rattle.std.proofs.Common.{◌≡◌, ℕ, ◌+◌, ◌++◌, Bool, false, List, [], ◌∷◌, length, vec_len, refl, sym, subst, ap, ◌∙◌, arith}
use Rattle.std.proofs.lemmas.List.{with_items_is}
use Rattle.lattice.specs.Cuts.{Plane, plane_of}
use Rattle.geometry.specs.Parts.{Part}
use Rattle.solid_mesh.specs.Solids.{solid_part}
use Rattle.cut_plane.specs.declared.segments.Segment.{Segment}
use Rattle.cut_plane.specs.inner.Walks.{IsMarked, IsRound}
use Rattle.cut_plane.proofs.Sweeps.{AreSwept, sweep_starts, sweep_skips, sweep_rounds, sweep_ends}
use Rattle.cut_plane.proofs.Lists.{not_true}
use Rattle.cut_plane.proofs.loops.borders.Goals as goal
use Rattle.cut_plane.proofs.loops.borders.Goals.{then-begins_loop+in_ok-push+in_ok-go_round, else-begins_loop}

-- the same lists by other names
renamed : (c : Plane) (s : Part) (n : ℕ) (marks marks' : List Bool) (segments segments' : List Segment) (places places' : List ℕ) → marks' ≡ marks → segments' ≡ segments → places' ≡ places
    → AreSwept c s n marks segments places → AreSwept c s n marks' segments' places'
renamed c s n marks marks' segments segments' places places' e f g h =
    subst (λ (m : List Bool). AreSwept c s n m segments' places') (sym e) (subst (λ (xs : List Segment). AreSwept c s n marks xs places') (sym f) (subst (λ (ns : List ℕ). AreSwept c s n marks segments ns) (sym g) h))

pub loop-tri-init : goal.loop-tri-init
loop-tri-init c =
    renamed (plane_of c.args.cut.now) (solid_part c.args.solid.now) 0 _ c.in_ok-marks.marks.items [] c.new-segments.result.items [] c.new-loops.result.items
    (c.in_ok-marks.ensures.items_if_clones_equal (λ y e. e)) c.new-segments.ensures.items c.new-loops.ensures.items
    (sweep_starts (plane_of c.args.cut.now) (solid_part c.args.solid.now) c.triangles.result c.triangles.ensures.count)

pub go_round-requires-clause-crossed : goal.go_round-requires-clause-crossed
go_round-requires-clause-crossed c = c.if-begins_loop.ensures.crossed refl

pub loop-tri-preserved : goal.loop-tri-preserved
loop-tri-preserved c =
    let plane = plane_of c.args.cut.now in
    let s = solid_part c.args.solid.now in
    let n = c.loop-tri.tri in
    let marks = c.loop-tri.marks.items in
    let segments = c.loop-tri.segments.items in
    let places = c.loop-tri.loops.items in
    let filled : vec_len c.loop-tri.segments ≡ length segments = omega (arith, c.loop-tri.segments.ok.0) in
    elim c.if-begins_loop.branch [
      | then-begins_loop+in_ok-push+in_ok-go_round w ↦
          let more = w.go_round.new.marks in
          let newer = w.go_round.new.segments.items in
          let round = subst (λ (m : List Bool). IsRound plane s n m segments more newer) w.as_mut_slice.ensures.value w.in_ok-go_round.ensures in
          renamed plane s (n + 1) more c.if-begins_loop.marks.items newer c.if-begins_loop.segments.items (places ++ length segments ∷ []) c.if-begins_loop.loops.items
          (ap (λ v. v.items) w.marks-is ∙ with_items_is c.loop-tri.marks more (w.in_ok-go_round.ensures.long ∙ w.as_mut_slice.ensures.len)) (ap (λ v. v.items) w.segments-is) (ap (λ v. v.items) w.loops-is ∙ w.in_ok-push.ensures.items ∙ (λ i. places ++ (w.len.ensures ∙ filled) i ∷ []))
          (sweep_rounds plane s n marks segments places c.loop-tri.invariant more newer round)
      | else-begins_loop w ↦
          renamed plane s (n + 1) marks c.if-begins_loop.marks.items segments c.if-begins_loop.segments.items places c.if-begins_loop.loops.items
          (ap (λ v. v.items) w.marks-is) (ap (λ v. v.items) w.segments-is) (ap (λ v. v.items) w.loops-is)
          (sweep_skips plane s n marks segments places c.loop-tri.invariant
          (λ crossed. subst (λ (m : List Bool). IsMarked m n) c.as_slice.ensures.value (w.if-begins_loop.ensures.other (not_true false refl) crossed)))
    ]

pub returns-clause-borders : goal.returns-clause-borders
returns-clause-borders c =
    let plane = plane_of c.args.cut.now in
    let s = solid_part c.args.solid.now in
    sweep_ends plane s c.loop-tri.tri c.loop-tri.marks.items c.loop-tri.segments.items c.loop-tri.loops.items
    (omega (arith, c.loop-tri-test.false, c.loop-tri.auto.tri-end, c.triangles-tri-end.ensures.count)) c.loop-tri.invariant
