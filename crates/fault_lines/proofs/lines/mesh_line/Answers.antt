use Rattle.std.proofs.Common.{◌≡◌, sym, subst, string_bytes}
use Rattle.std.specs.Prelude.{IfOk}
use Rattle.solid_mesh.specs.declared.faults.MeshFault.{MeshFault}
use Rattle.fault_lines.specs.Lines.{mesh_line}
use Rattle.fault_lines.proofs.lines.mesh_line.Goals as goal

pub returns-in-SameWay : goal.returns-in-SameWay
returns-in-SameWay c =
    subst (λ (f : MeshFault). IfOk c.format-in-SameWay.result (λ line. string_bytes line ≡ mesh_line c.args.program.now f)) (sym c.in-SameWay.is) c.format-in-SameWay.ensures.ok

pub returns-in-Unpaired : goal.returns-in-Unpaired
returns-in-Unpaired c =
    subst (λ (f : MeshFault). IfOk c.format-in-Unpaired.result (λ line. string_bytes line ≡ mesh_line c.args.program.now f)) (sym c.in-Unpaired.is) c.format-in-Unpaired.ensures.ok

pub returns-in-Double : goal.returns-in-Double
returns-in-Double c =
    subst (λ (f : MeshFault). IfOk c.format-in-Double.result (λ line. string_bytes line ≡ mesh_line c.args.program.now f)) (sym c.in-Double.is) c.format-in-Double.ensures.ok

pub returns-in-Meet : goal.returns-in-Meet
returns-in-Meet c =
    subst (λ (f : MeshFault). IfOk c.format-in-Meet.result (λ line. string_bytes line ≡ mesh_line c.args.program.now f)) (sym c.in-Meet.is) c.format-in-Meet.ensures.ok
