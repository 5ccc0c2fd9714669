use Rattle.std.proofs.Common.{◌≡◌, ℕ, ℤ, List, [], ◌∷◌, ◌++◌, sym, ap, ◌∙◌, arith}
use Rattle.std.specs.Prelude.{IsOk}
use Rattle.std.proofs.lemmas.List.{flat_map_more}
use Rattle.sheet_plan.specs.declared.sheet.Stroke.{Stroke}
use Rattle.plot_rack.specs.Lists.{page_line, stroke_line, list_of}
use Rattle.plot_rack.proofs.list.ListPlotterPlotter.stroke.Goals as goal

-- the list with one line more
longer : (page : ℤ × ℤ) (strokes more : List Stroke) (stroke : Stroke) (text new line : List ℕ) → text ≡ list_of page strokes → new ≡ text ++ line → line ≡ stroke_line stroke
    → more ≡ strokes ++ stroke ∷ [] → new ≡ list_of page more
longer page strokes more stroke text new line written grown is added =
    grown ∙ (λ i. written i ++ is i) ∙ flat_map_more stroke_line (page_line page) strokes stroke ∙ ap (list_of page) (sym added)

-- the stroke is pushed, since there is room for it
pub invariant_of-self-2 : goal.invariant_of-self-2
invariant_of-self-2 c =
    let room : IsOk c.push.result = c.push.ensures.succeeds (omega (arith, c.in_ok-reserve.ensures.ok)) in
    let added = rw (room, c.in_ok-reserve.ensures.items) at c.push.ensures.items in
    record {
      written = λ page is.
          longer page c.args.self.now.strokes.items c.push.new.self.items c.args.stroke c.args.self.now.text.items c.extend_from_slice.new.self.items c.deref.result.now
          (c.args.self.now.written page is) c.in_ok-extend_from_slice.ensures.items (c.deref.ensures.value ∙ c.in_ok-line.ensures) added;
    }
