use Rattle.std.proofs.Common.{◌≡◌, length, ap, ◌∙◌, arith, string_bytes}
use Rattle.std.proofs.lemmas.Result.{IfOk-weaker}
use Rattle.lattice.specs.declared.pieces.Style.TheVariants.{Solid, Dashed, Chain}
use Rattle.draw_core.specs.Summary.{summary_line, pieces_in, hatches_in, IsSummaryOf}
use Rattle.draw_core.proofs.summary.line_of_drawing.Goals as goal

pub returns : goal.returns
returns c =
    let sums = c.args.numbers.now in
    let drawing = c.args.drawing.now in
    let views : c.len-views.result ≡ length drawing.job.views.items = omega (arith, c.len-views.ensures) in
    let solid = c.pieces_in-solid.ensures ∙ ap (pieces_in Solid) c.deref.ensures.value in
    let dashed = c.pieces_in-dashed.ensures ∙ ap (pieces_in Dashed) c.deref-2.ensures.value in
    let hatch = c.hatches_in-hatch.ensures ∙ ap hatches_in c.deref-3.ensures.value in
    let chain = c.pieces_in-chain.ensures ∙ ap (pieces_in Chain) c.deref-4.ensures.value in
    IfOk-weaker c.summary_line.result
    (λ line. string_bytes line ≡ summary_line c.triangles-triangles.result c.len-views.result sums.edges sums.runs sums.bound c.pieces_in-solid.result c.pieces_in-dashed.result c.hatches_in-hatch.result c.pieces_in-chain.result)
    (λ line. IsSummaryOf drawing (string_bytes line))
    (λ line same. record {
      sums = sums;
      summed = c.requires.summed;
      line_is = same ∙ (λ i. summary_line (c.triangles-triangles.ensures.count i) (views i) sums.edges sums.runs sums.bound (solid i) (dashed i) (hatch i) (chain i));
    })
    c.summary_line.ensures
