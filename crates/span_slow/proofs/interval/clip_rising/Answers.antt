use Rattle.std.proofs.Common.{refl, sym, ◌∙◌, true≢false}
use Rattle.span_slow.proofs.Clips.{behind_cut, behind_kept}
use Rattle.span_slow.proofs.interval.clip_rising.Goals as goal

pub returns-then-is_earlier : goal.returns-then-is_earlier
returns-then-is_earlier c =
    let e = c.rising_root-root.ensures in
    behind_cut c.args.x c.args.linear c.requires.from c.requires.to c.rising_root-root.result c.requires.start c.requires.end e.num e.den _ (refl, refl) (refl, refl) e.place c.requires.to (c.is_earlier.ensures.0 c.if-is_earlier.true)

pub returns : goal.returns
returns c =
    let e = c.rising_root-root.ensures in
    behind_kept c.args.x c.args.linear c.requires.from c.requires.to c.rising_root-root.result c.requires.start c.requires.end e.num e.den (λ h. true≢false (sym (c.is_earlier.ensures.1 h) ∙ c.if-is_earlier.false))
