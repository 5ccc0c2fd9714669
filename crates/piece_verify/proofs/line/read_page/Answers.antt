use Rattle.std.proofs.Common.{◌≢◌, codes, rules}
use Rattle.piece_verify.proofs.ListLines.{no_word}
use Rattle.piece_verify.proofs.line.read_page.Goals as goal

pub returns-then-not-is_page : goal.returns-then-not-is_page
returns-then-not-is_page c =
    let other : c.in_ok-word.word.now ≢ codes "page" = search rules in
    no_word c.args.text.now c.in_ok-word.word.now c.in_ok-word.text.now c.in_ok-word.ensures.0 c.in_ok-word.ensures.1 other
