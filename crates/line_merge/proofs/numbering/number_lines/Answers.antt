use Rattle.std.proofs.Common.{map, ap, ◌∙◌, [], ◌∷◌, arith}
use Rattle.std.proofs.lemmas.List.{map-append}
use Rattle.line_merge.specs.inner.Numbering.{listed_strip}
use Rattle.line_merge.proofs.Numbers.{one_more_numbered, all_numbered}
use Rattle.line_merge.proofs.numbering.number_lines.Goals as goal

pub loop-strip-preserved : goal.loop-strip-preserved
loop-strip-preserved c =
    one_more_numbered c.loop-strip.lines.keys c.insert_full.new.self.keys c.args.strips.now (map listed_strip c.loop-strip.listed.items) (map listed_strip c.push.new.self.items) c.loop-strip.strip-index c.strip-item.result c.in_ok-line.line
    c.loop-strip-test.true c.strip-item.is c.loop-strip.invariant c.in_ok-line.ensures.keys c.in_ok-line.ensures.index
    (ap (map listed_strip) c.in_ok-push.ensures.items ∙ map-append listed_strip c.loop-strip.listed.items (_ ∷ []))

pub returns : goal.returns
returns c = all_numbered c.loop-strip.lines.keys c.args.strips.now (map listed_strip c.loop-strip.listed.items) c.loop-strip.strip-index (omega arith) c.loop-strip.invariant
