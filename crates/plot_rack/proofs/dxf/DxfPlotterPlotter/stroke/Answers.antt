use Rattle.std.proofs.Common.{◌++◌, ◌∙◌, ℤ, codes, ap, arith, rules, FitsSigned}
use Rattle.std.specs.Prelude.{IsOk}
use Rattle.std.specs.Int.{w64}
use Rattle.std.proofs.lemmas.Int.{to_z-of_z}
use Rattle.std.specs.List.{flat_map}
use Rattle.plot_rack.specs.Dxf.{line_text}
use Rattle.plot_rack.proofs.Endings.{some_of, dxf_more}
use Rattle.plot_rack.proofs.dxf.DxfPlotterPlotter.stroke.Goals as goal

pub push_before-requires : goal.push_before-requires
push_before-requires c =
    let (page, is) = some_of c.args.self.now.page c.requires in
    (codes "0\nSECTION\n2\nENTITIES\n" ++ flat_map (line_text page.1) c.args.self.now.strokes.items, c.args.self.now.written page is)

-- the stroke is pushed, since there is room for it
pub invariant_of-self-2 : goal.invariant_of-self-2
invariant_of-self-2 c =
    let room : IsOk c.push.result = c.push.ensures.succeeds (omega (arith, c.in_ok-reserve.ensures.ok)) in
    let added = rw (room, c.in_ok-reserve.ensures.items) at c.push.ensures.items in
    let fits : FitsSigned w64 c.height_of-height.result = search rules in
    record {
      written = λ page is.
          let height = c.height_of-height.ensures page is in
          dxf_more page c.args.self.now.strokes.items c.push.new.self.items c.args.stroke c.args.self.now.text.items c.deref.result.now c.push_before.new.text.items
          (c.args.self.now.written page is) (c.deref.ensures ∙ (simp to_z-of_z at c.in_ok-more.ensures) ∙ ap (λ (h : ℤ). line_text h c.args.stroke) height) added c.in_ok-push_before.ensures.ok;
    }
