use Rattle.std.proofs.Common.{◌≡◌, inl, inr, sym, subst, ◌∙◌, arith}
use Rattle.std.specs.Prelude.{ℤ, pos, ◌<ℤ◌}
use Rattle.std.proofs.lemmas.Int.{ints}
use Rattle.lattice.specs.Triple.{Triple}
use Rattle.lattice.specs.Points.{of_dir}
use Rattle.lattice.specs.Cuts.{plane_of}
use Rattle.geometry.specs.Cuts.{FaceHidesInCut}
use Rattle.geometry.specs.Faces.{FaceHides, facing_of}
use Rattle.solid_mesh.specs.Solids.{solid_part}
use Rattle.solid_mesh.proofs.Facts.{closed, in_range, sound}
use Rattle.span_slow.specs.inner.Hidden.{AreAdded}
use Rattle.span_slow.specs.inner.CutHidden.{IsOrdinaryBeyond}
use Rattle.span_slow.proofs.CutPairs.{edge_on_added}
use Rattle.span_slow.proofs.EdgeOn.{facing_read, facing_back}
use Rattle.span_slow.proofs.Numbered.{on_ok, read_face}
use Rattle.span_slow.proofs.OneSide.{nothing_hidden, hidden_alike}
use Rattle.span_slow.proofs.Where.{added_one}
use Rattle.span_slow.proofs.cut_faces.add_cut_face.Goals as goal

pub front_interval-requires-then-facing-lt0 : goal.front_interval-requires-then-facing-lt0
front_interval-requires-then-facing-lt0 c =
    let d = of_dir c.args.edge.now.seen.d in
    let back : c.view_cross-facing.result <ℤ pos 0 = omega (arith, ints) in
    facing_back d c.corner-a.result c.corner-b.result c.corner-c.result (subst (λ (z : ℤ). z <ℤ pos 0) (facing_read d c.corner-a.result c.corner-b.result c.corner-c.result c.view_cross-facing.ensures.value c.between.ensures c.between-2.ensures) back)

pub returns-then-facing-gt0 : goal.returns-then-facing-gt0
returns-then-facing-gt0 c e at_a at_b f at =
    let solid = c.args.solid.now in
    let s = solid_part solid in
    let z = plane_of c.args.edge.now.cut in
    let corners = inl (read_face s f c.args.triangle c.triangle-a.result _ _ _ at c.triangle-a.ensures.listed c.corner-a.ensures c.corner-b.ensures c.corner-c.ensures) in
    on_ok c.add.result (λ all. added_one (IsOrdinaryBeyond z s) e (FaceHidesInCut z f) c.args.hidden.now.items c.add.new.hidden.items c.front_interval.result
    (c.front_interval.ensures s (sound solid) (in_range solid) e at_a at_b f corners) all) c.add.ensures

pub returns-then-facing-lt0 : goal.returns-then-facing-lt0
returns-then-facing-lt0 c e at_a at_b f at =
    let solid = c.args.solid.now in
    let s = solid_part solid in
    let z = plane_of c.args.edge.now.cut in
    let (p, q, r) = read_face s f c.args.triangle c.triangle-a.result _ _ _ at c.triangle-a.ensures.listed c.corner-a.ensures c.corner-b.ensures c.corner-c.ensures in
    on_ok c.add-then-facing-lt0.result (λ all. added_one (IsOrdinaryBeyond z s) e (FaceHidesInCut z f) c.args.hidden.now.items c.add-then-facing-lt0.new.hidden.items c.front_interval-then-facing-lt0.result
    (c.front_interval-then-facing-lt0.ensures s (sound solid) (in_range solid) e at_a at_b f (inr (p, q, r))) all) c.add-then-facing-lt0.ensures

pub returns-in_ok-add_pairs-2 : goal.returns-in_ok-add_pairs-2
returns-in_ok-add_pairs-2 c e at_a at_b f at =
    let solid = c.args.solid.now in
    let s = solid_part solid in
    let z = plane_of c.args.edge.now.cut in
    let d = of_dir c.args.edge.now.seen.d in
    let i = c.corner-a.result in
    let j = c.corner-b.result in
    let g = c.corner-c.result in
    let (p, q, r) = read_face s f c.args.triangle c.triangle-a.result _ _ _ at c.triangle-a.ensures.listed c.corner-a.ensures c.corner-b.ensures c.corner-c.ensures in
    let none : c.view_cross-facing.result ≡ pos 0 = omega (arith, ints) in
    let edge_on = (λ t. facing_of (sym c.args.edge.now.along t) i j g) ∙ sym (facing_read d i j g c.view_cross-facing.ensures.value c.between.ensures c.between-2.ensures) ∙ none in
    on_ok c.add_pairs-else-facing-lt0-2.result (λ all. edge_on_added z (closed solid) e f i j g p q r edge_on
    c.args.hidden.now.items c.add_pairs.new.hidden.items c.add_pairs-else-facing-lt0.new.hidden.items c.add_pairs-else-facing-lt0-2.new.hidden.items
    (c.in_ok-add_pairs.ensures s (sound solid) (in_range solid) e at_a at_b f p q r (inl (inl (sym p, sym q))))
    (c.in_ok-add_pairs-2.ensures s (sound solid) (in_range solid) e at_a at_b f p q r (inr (inl (inl (sym q, sym r)))))
    all) (c.add_pairs-else-facing-lt0-2.ensures s (sound solid) (in_range solid) e at_a at_b f p q r (inr (inr (inl (sym r, sym p)))))

pub returns-then-is_before : goal.returns-then-is_before
returns-then-is_before c e at_a at_b f at =
    let solid = c.args.solid.now in
    let z = plane_of c.args.edge.now.cut in
    let (p, q, r) = read_face (solid_part solid) f c.args.triangle c.triangle-a.result _ _ _ at c.triangle-a.ensures.listed c.corner-a.ensures c.corner-b.ensures c.corner-c.ensures in
    let (one, two, three) = c.is_before.ensures.0 c.if-is_before.true in
    nothing_hidden z e f c.corner-a.result c.corner-b.result c.corner-c.result p q r one two three c.args.hidden.now.items

pub returns-then-is_beyond : goal.returns-then-is_beyond
returns-then-is_beyond c e at_a at_b f at =
    let solid = c.args.solid.now in
    let z = plane_of c.args.edge.now.cut in
    let old = c.args.hidden.now.items in
    let new = c.add_face.new.hidden.items in
    let (p, q, r) = read_face (solid_part solid) f c.args.triangle c.triangle-a.result _ _ _ at c.triangle-a.ensures.listed c.corner-a.ensures c.corner-b.ensures c.corner-c.ensures in
    let (one, two, three) = c.is_beyond.ensures.0 c.if-is_beyond.true in
    on_ok c.add_face.result (λ added. hidden_alike z e f c.corner-a.result c.corner-b.result c.corner-c.result p q r one two three old new
    (subst (λ (d : Triple). AreAdded d e (FaceHides d f.a f.b f.c) old new) c.args.edge.now.along added)) (c.add_face.ensures e at_a at_b f at)
