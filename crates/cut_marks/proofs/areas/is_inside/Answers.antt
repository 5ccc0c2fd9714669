use Rattle.std.proofs.Common.{◌≡◌, rules, FitsSigned, Bool, sym, ap, ◌∙◌}
use Rattle.std.specs.Int.{w128}
use Rattle.std.specs.Prelude.{◌&&◌}
use Rattle.std.proofs.lemmas.Int.{to_z-of_z}
use Rattle.cut_marks.specs.Areas.{is_between}
use Rattle.cut_marks.proofs.areas.is_inside.Goals as goal

pub returns-then-is_between : goal.returns-then-is_between
returns-then-is_between c =
    let room = c.args.room.now in
    let a = c.args.a.now in
    let room_left : FitsSigned w128 room.left = search rules in
    let room_right : FitsSigned w128 room.right = search rules in
    let room_top : FitsSigned w128 room.top = search rules in
    let room_bottom : FitsSigned w128 room.bottom = search rules in
    let a_left : FitsSigned w128 a.left = search rules in
    let a_right : FitsSigned w128 a.right = search rules in
    let a_top : FitsSigned w128 a.top = search rules in
    let a_bottom : FitsSigned w128 a.bottom = search rules in
    let across : c.is_between.result ≡ is_between room.left room.right a.left a.right = simp to_z-of_z at c.is_between.ensures in
    let down : c.is_between-then-is_between.result ≡ is_between room.top room.bottom a.top a.bottom = simp to_z-of_z at c.is_between-then-is_between.ensures in
    down ∙ ap (λ (v : Bool). v && is_between room.top room.bottom a.top a.bottom) (sym c.if-is_between.true ∙ across)
