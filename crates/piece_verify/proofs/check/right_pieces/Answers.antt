use Rattle.std.proofs.Common.{List, sym, subst}
use Rattle.integers.proofs.Lists.{some_element}
use Rattle.job_file.specs.Seen.{direction_seen}
use Rattle.lattice.specs.Creases.{fraction_of}
use Rattle.lattice.specs.Points.{of_dir}
use Rattle.lattice.specs.Triple.{Triple}
use Rattle.lattice.specs.declared.pieces.Strip.{Strip}
use Rattle.line_merge.specs.Merging.{AreStrips}
use Rattle.solid_mesh.specs.Solids.{solid_part}
use Rattle.job_file.specs.ShownCuts.{planes_in}
use Rattle.drawn_strips.proofs.StripsRight.{strips_of_view}
use Rattle.piece_verify.proofs.ViewPieces.{merged_right}
use Rattle.piece_verify.proofs.check.right_pieces.Goals as goal

pub merge-requires : goal.merge-requires
merge-requires c =
    let job = c.args.job.now in
    let (asked, is_view) = some_element job.views.items c.args.view c.requires in
    subst (λ (t : Triple). AreStrips t c.deref.result.now) (sym {A = Triple} (c.view_dir.ensures asked is_view))
    (subst (AreStrips (direction_seen asked.spec)) (sym {A = List Strip} c.deref.ensures.value)
    (strips_of_view asked.spec (fraction_of job.crease) (solid_part c.args.solid.now) (planes_in job.views.items) c.in_ok-strips.strips.items (c.in_ok-strips.ensures asked is_view)))

pub returns : goal.returns
returns c = λ asked is_view.
    merged_right c.args.solid.now c.args.job.now asked.spec c.in_ok-strips.strips.items (c.in_ok-strips.ensures asked is_view) c.deref.result.now c.deref.ensures.value
    (of_dir c.view_dir.result) (c.view_dir.ensures asked is_view) c.merge.result c.merge.ensures
