use Rattle.std.proofs.Common.{rules, ◌≡◌, sym, subst, ap, ◌∙◌}
use Rattle.lattice.specs.declared.points.Axis.{Axis}
use Rattle.lattice.specs.Cuts.{plane_of}
use Rattle.lattice.specs.Axes.{third_of}
use Rattle.solid_mesh.specs.Solids.{solid_part}
use Rattle.cut_marks.specs.Traces.{IsSpread}
use Rattle.cut_marks.proofs.traces.is_seen_along.Goals as goal

pub returns : goal.returns
returns c =
    let corners = (solid_part c.args.solid.now).corners in
    let run : c.third.result ≡ third_of (plane_of c.args.cut.now).axis c.args.sight = c.third.ensures ∙ ap (λ (x : Axis). third_of x c.args.sight) c.axis-2.ensures in
    let through = c.goes_through.ensures.0 c.if-not-goes_through.false in (
      λ t. record {
        other = search rules;
        along = c.requires;
        before = through.before;
        beyond = through.beyond;
        apart = subst (λ (x : Axis). IsSpread x corners) run (c.is_spread.ensures.0 t);
      },
      λ has. c.is_spread.ensures.1 (subst (λ (x : Axis). IsSpread x corners) (sym run) has.apart),
    )
