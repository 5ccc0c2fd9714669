use Rattle.std.proofs.Common.{ℕ, List, sym, ap, subst, ◌∙◌, arith}
use Rattle.text_fit.specs.Fits.{IsCut, size_in}
use Rattle.text_fit.proofs.CutTexts.{cut_inside}
use Rattle.text_fit.proofs.fit.fit_text.Goals as goal

pub returns : goal.returns
returns c =
    let same = c.in_ok-new-2.ensures.same ∙ c.as_str.ensures.value in
    let cut = subst (λ (t : List ℕ). IsCut c.args.room.width c.min-least.result c.args.text.now t) (sym same) c.in_ok-shown.ensures in
    record {
      inside = cut_inside c.args.room.width c.min-least.result c.args.text.now c.in_ok-new-2.field-0 c.utf8.text cut;
      whole = λ enough. absurd (omega (arith, enough, c.if-least-size.false, c.min-least.ensures, c.size_in-size.ensures ∙ ap (size_in c.args.room.width c.args.room.most) c.text_width.ensures));
      cut = λ small. (c.min-least.ensures, subst (λ (least : ℕ). IsCut c.args.room.width least c.args.text.now c.in_ok-new-2.field-0) c.min-least.ensures cut);
    }
