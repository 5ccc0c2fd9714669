use Rattle.std.proofs.Common.{◌≡◌, sym, subst, string_bytes}
use Rattle.std.specs.Prelude.{IfOk}
use Rattle.solid_mesh.specs.declared.faults.MeshFault.{MeshFault}
use Rattle.part_lines.specs.PartTexts.{mesh_text}
use Rattle.part_lines.proofs.texts.mesh_text.Goals as goal

pub returns-in-Meet : goal.returns-in-Meet
returns-in-Meet c =
    subst (λ (f : MeshFault). IfOk c.format-in-Meet.result (λ text. string_bytes text ≡ mesh_text f)) (sym c.in-Meet.is) c.format-in-Meet.ensures.ok
