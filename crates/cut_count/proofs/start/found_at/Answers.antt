use Rattle.std.proofs.Common.{◌≢◌, ◌⊎◌, inl, inr, ℕ, ◌<◌, Option, Some, length, ap, sym, subst, ◌∙◌}
use Rattle.std.specs.Int.{w8}
use Rattle.std.proofs.lemmas.Option.{slice_get_within}
use Rattle.integers.proofs.Worth.{known, pass, size_of}
use Rattle.exact_frac.specs.declared.Frac.{Frac}
use Rattle.lattice.specs.Cuts.{plane_of}
use Rattle.lattice.specs.Points.{of_dir, of_spot}
use Rattle.lattice.specs.Triple.{Triple}
use Rattle.geometry.specs.Views.{face_sign}
use Rattle.geometry.specs.Counts.{to_left, to_right}
use Rattle.geometry.specs.Shares.{mark}
use Rattle.solid_mesh.specs.Solids.{solid_part}
use Rattle.solid_mesh.proofs.Facts.{edge_there}
use Rattle.cut_plane.proofs.Lists.{not_true}
use Rattle.cut_plane.specs.Crossings.{IsCrossingOf}
use Rattle.cut_count.specs.inner.Borders.{ChangesMark, IsFoundOr}
use Rattle.cut_count.proofs.BorderTests.{mark_read, changed_at, share_is, face_sign_small, segment_of_face, place_of_short, found_nowhere, found_beside}
use Rattle.cut_count.proofs.start.found_at.Goals as goal

pub returns-in_err-at : goal.returns-in_err-at
returns-in_err-at c e f numbered number =
    let plane = plane_of c.args.seen.now.cut in
    let x = c.args.x.now in
    let ends = c.requires.ends e numbered in
    let crossing : IsCrossingOf plane f e c.crossing.result = c.crossing.ensures e numbered ends.0 ends.1 (segment_of_face plane x c.requires.segment f number) in
    subst (λ o. IsFoundOr plane e f c.args.part.now (of_spot x.a) (of_spot x.b) o) (sym c.from_residual.ensures)
    (found_nowhere plane e f c.args.part.now (of_spot x.a) (of_spot x.b) c.requires.part (subst (λ (o : Option Frac). IsCrossingOf plane f e o) c.in_err-at.was crossing))

pub returns-then-not-is_within : goal.returns-then-not-is_within
returns-then-not-is_within c e f numbered number =
    let plane = plane_of c.args.seen.now.cut in
    let x = c.args.x.now in
    let ends = c.requires.ends e numbered in
    let crossing : IsCrossingOf plane f e c.crossing.result = c.crossing.ensures e numbered ends.0 ends.1 (segment_of_face plane x c.requires.segment f number) in
    found_beside plane e f c.args.part.now (of_spot x.a) (of_spot x.b) c.in_ok-at.at c.requires.part (subst (λ (o : Option Frac). IsCrossingOf plane f e o) c.in_ok-at.was crossing)
    (λ h. not_true c.is_within.result c.if-not-is_within.true (c.is_within.ensures.1 h))

pub sign-sign-requires : goal.sign-sign-requires
sign-sign-requires c =
    let at = c.requires.segment in
    subst (λ (n : ℕ). n < length (solid_part c.args.solid.now).triangles) at.number (slice_get_within (solid_part c.args.solid.now).triangles at.face.number at.face.tri at.face.listed)

pub share_of-requires-clause-sign : goal.share_of-requires-clause-sign
share_of-requires-clause-sign c = size_of 1 (pass w8 (known c.sign-sign.result 1 (face_sign_small (of_dir c.dir.result) c.requires.segment.face c.sign-sign.result (c.sign-sign.ensures c.requires.segment.face c.requires.segment.number))) tt) tt

pub share_of-requires-2-clause-sign : goal.share_of-requires-2-clause-sign
share_of-requires-2-clause-sign c = size_of 1 (pass w8 (known c.sign-sign.result 1 (face_sign_small (of_dir c.dir.result) c.requires.segment.face c.sign-sign.result (c.sign-sign.ensures c.requires.segment.face c.requires.segment.number))) tt) tt

pub invariant_of-result : goal.invariant_of-result
invariant_of-result c =
    let at = c.requires.segment in
    let (e, numbered) = edge_there c.args.solid.now c.args.seen.now.at.number c.requires.in_range in
    let ends = c.requires.ends e numbered in
    let plane = plane_of c.args.seen.now.cut in
    let crossing : IsCrossingOf plane at.face e (Some c.in_ok-at.at) = subst (λ (o : Option Frac). IsCrossingOf plane at.face e o) c.in_ok-at.was (c.crossing.ensures e numbered ends.0 ends.1 at) in
    record { at_place = place_of_short c.in_ok-at.at crossing.found_is.0 }

pub returns : goal.returns
returns c e f numbered number =
    let plane = plane_of c.args.seen.now.cut in
    let a = c.args.seen.now.at.a in
    let b = c.args.seen.now.at.b in
    let x = c.args.x.now in
    let p = of_spot x.a in
    let q = of_spot x.b in
    let ends = c.requires.ends e numbered in
    let crossing : IsCrossingOf plane f e (Some c.in_ok-at.at) = subst (λ (o : Option Frac). IsCrossingOf plane f e o) c.in_ok-at.was (c.crossing.ensures e numbered ends.0 ends.1 (segment_of_face plane x c.requires.segment f number)) in
    let within = c.is_within.ensures.0 c.if-not-is_within.false in
    let sign = (pass w8 (known c.sign-sign.result 1 (face_sign_small (of_dir c.dir.result) f c.sign-sign.result (c.sign-sign.ensures f number))) tt).is ∙ c.sign-sign.ensures f number ∙ ap (λ (d : Triple). face_sign d f) c.dir.ensures in
    let changed_where : (mark to_left c.args.from ≢ mark to_left c.args.to) ⊎ (mark to_right c.args.from ≢ mark to_right c.args.to) → ChangesMark plane e p q = λ w. elim w [
      | inl h ↦ inl (changed_at to_left plane e a b ends.0 ends.1 p q (mark to_left c.args.from) (mark to_left c.args.to) (ap (mark to_left) c.requires.from) (ap (mark to_left) c.requires.to) h)
      | inr h ↦ inr (changed_at to_right plane e a b ends.0 ends.1 p q (mark to_right c.args.from) (mark to_right c.args.to) (ap (mark to_right) c.requires.from) (ap (mark to_right) c.requires.to) h)
    ] in
    record {
      crosses = crossing.found_is.1;
      after = within.0;
      before = within.1;
      changes = changed_where c.requires.changes;
      on_left = share_is to_left plane e a b ends.0 ends.1 p q _ _
          (mark_read to_left c.left_mark.result c.args.from _ c.left_mark.ensures.size c.left_mark.ensures.value c.ranges.from c.requires.from)
          (mark_read to_left c.left_mark-2.result c.args.to _ c.left_mark-2.ensures.size c.left_mark-2.ensures.value c.ranges.to c.requires.to)
          f _ c.share_of.result sign c.share_of.ensures.turns c.share_of.ensures.own;
      on_right = share_is to_right plane e a b ends.0 ends.1 p q _ _
          (mark_read to_right c.right_mark.result c.args.from _ c.right_mark.ensures.size c.right_mark.ensures.value c.ranges.from c.requires.from)
          (mark_read to_right c.right_mark-2.result c.args.to _ c.right_mark-2.ensures.size c.right_mark-2.ensures.value c.ranges.to c.requires.to)
          f _ c.share_of-2.result sign c.share_of-2.ensures.turns c.share_of-2.ensures.own;
    }
