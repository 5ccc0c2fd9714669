use Rattle.std.proofs.Common.{List, subst}
use Rattle.integers.proofs.Lists.{some_element}
use Rattle.lattice.specs.declared.pieces.Piece.{Piece}
use Rattle.detail_pieces.specs.Pages.{IsDetailText}
use Rattle.detail_view.proofs.detail.draw_solid.Goals as goal

pub returns : goal.returns
returns c =
    let words = c.args.words.now in
    let job = c.args.job.now in
    let d = c.view_dir-d.result in
    let (asked, is_view) = some_element job.views.items words.view c.requires in
    record {
      asked = asked;
      is_view = is_view;
      detail = c.in_ok-pieces.ensures.detail asked is_view;
      order = c.in_ok-pieces.ensures.order asked is_view;
      d = d;
      seen = c.view_dir-d.ensures asked is_view;
      is_page = subst (λ (ls : List Piece). IsDetailText job.decimals words.scale d words.window ls c.in_ok-page.page.items) c.deref.ensures.value c.in_ok-page.ensures;
    }
