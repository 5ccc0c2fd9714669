use Rattle.detail_view.specs.Drawn.{IsDrawnOf, pieces_told}
use Rattle.detail_view.specs.Seen.{detail_seen}
use Rattle.detail_view.proofs.Drawing.{page_left, detail_there}
use Rattle.std.proofs.Common.{ℕ, List}
use Rattle.lattice.specs.declared.pieces.Piece.{Piece}
use Rattle.detail_view.proofs.Takings.{pieces_made}
use Rattle.detail_view.proofs.detail.finish.Goals as goal

pub returns-in-Ok-clause-drawn : goal.returns-in-Ok-clause-drawn
returns-in-Ok-clause-drawn g c =
    let end = c.keep_page.result in
    detail_there (detail_seen c.args.words.now) c.in-Ok.drawn.pieces.items end.fault end.detail c.keep_page.ensures.fault c.keep_page.ensures.told

pub returns-in-Ok-clause-files : goal.returns-in-Ok-clause-files
returns-in-Ok-clause-files g c = λ told.
    let words = c.args.words.now in
    let shown = c.args.shown.now in
    let end = c.keep_page.result in
    let old = (g.D.Desk.state c.args.desk.now).files in
    let new = (g.D.Desk.state c.keep_page.new.desk).files in
    page_left (IsDrawnOf shown.job shown.solid words.view words.window words.scale) words.out old new c.in-Ok.drawn.pieces.items c.in-Ok.drawn.page.items c.in-Ok.ensures end.fault (pieces_told end.detail)
    c.keep_page.ensures.fault c.keep_page.ensures.told (c.keep_page.ensures.files told)

pub returns-in-Ok-clause-made : goal.returns-in-Ok-clause-made
returns-in-Ok-clause-made g c =
    let words = c.args.words.now in
    let shown = c.args.shown.now in
    let end = c.keep_page.result in
    let P : List Piece → Type 0 = λ pieces. (page : List ℕ) × IsDrawnOf shown.job shown.solid words.view words.window words.scale pieces page in
    pieces_made P c.in-Ok.drawn.pieces.items (c.in-Ok.drawn.page.items, c.in-Ok.ensures) end.fault (pieces_told end.detail) c.keep_page.ensures.fault c.keep_page.ensures.told
