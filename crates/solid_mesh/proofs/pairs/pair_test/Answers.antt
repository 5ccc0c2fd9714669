use Rattle.std.proofs.Common.{sym, ◌∙◌, true≢false}
use Rattle.geometry.specs.Parts.{part_of}
use Rattle.solid_mesh.proofs.Meets.{read-none, read-first, read-second, read-both}
use Rattle.solid_mesh.proofs.pairs.pair_test.Goals as goal

pub returns-then-not-has-2-clause-value : goal.returns-then-not-has-2-clause-value
returns-then-not-has-2-clause-value c =
    read-none (part_of c.args.soup.now) c.args.soup.now.in_range c.args.half c.requires.half c.index.result.now c.index.ensures c.ends-m.result.0 c.ends-m.result.1 c.ends-m.ensures.start c.ends-m.ensures.end
    c.args.tri c.requires.tri c.index-triangle.result.now c.index-triangle.ensures
    c.meets.result c.meets.ensures (λ h. true≢false (sym (c.has.ensures.1 h) ∙ c.if-not-has.true)) (λ h. true≢false (sym (c.has-then-not-has.ensures.1 h) ∙ c.if-not-has-2.true))

pub returns-then-not-has-clause-value : goal.returns-then-not-has-clause-value
returns-then-not-has-clause-value c =
    read-second (part_of c.args.soup.now) c.args.soup.now.in_range c.args.half c.requires.half c.index.result.now c.index.ensures c.ends-m.result.0 c.ends-m.result.1 c.ends-m.ensures.start c.ends-m.ensures.end
    c.args.tri c.requires.tri c.index-triangle.result.now c.index-triangle.ensures
    c.meets_beyond.result c.meets_beyond.ensures (λ h. true≢false (sym (c.has.ensures.1 h) ∙ c.if-not-has.true)) (c.has-then-not-has.ensures.0 c.if-not-has-2.false)

pub returns-then-has-clause-value : goal.returns-then-has-clause-value
returns-then-has-clause-value c = (
  λ h. absurd (true≢false (sym h)),
  λ h. absurd (read-both (part_of c.args.soup.now) c.args.soup.now.in_range c.args.half c.requires.half c.index.result.now c.index.ensures c.ends-m.result.0 c.ends-m.result.1 c.ends-m.ensures.start c.ends-m.ensures.end
      c.args.tri c.requires.tri c.index-triangle.result.now c.index-triangle.ensures
      (c.has.ensures.0 c.if-not-has.false) (c.has-2.ensures.0 c.if-has.true) h),
)

pub returns-clause-value : goal.returns-clause-value
returns-clause-value c =
    read-first (part_of c.args.soup.now) c.args.soup.now.in_range c.args.half c.requires.half c.index.result.now c.index.ensures c.ends-m.result.0 c.ends-m.result.1 c.ends-m.ensures.start c.ends-m.ensures.end
    c.args.tri c.requires.tri c.index-triangle.result.now c.index-triangle.ensures
    c.meets_beyond-2.result c.meets_beyond-2.ensures (c.has.ensures.0 c.if-not-has.false) (λ h. true≢false (sym (c.has-2.ensures.1 h) ∙ c.if-has.false))
