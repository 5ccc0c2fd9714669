use Rattle.std.proofs.Common.{◌^◌, ◌≤◌, ℕ, ap, subst, sym, ◌∙◌, unsigned_abs}
use Rattle.std.specs.Int.{w64}
use Rattle.integers.proofs.Worth.{fits, pass, minus, size_of}
use Rattle.stroke_paths.proofs.WaySizes.{product}
use Rattle.near_lines.proofs.near.cross.Goals as goal

pub overflow_sub-v : goal.overflow_sub-v
overflow_sub-v c =
    let x = c.args.v in
    let y = c.args.w in
    fits w64 (minus (product x.across y.down x.across_small y.down_small) (product x.down y.across x.down_small y.across_small)) tt

pub returns-clause-value : goal.returns-clause-value
returns-clause-value c =
    let x = c.args.v in
    let y = c.args.w in
    c.unsigned_abs.ensures.value ∙ ap unsigned_abs (pass w64 (minus (product x.across y.down x.across_small y.down_small) (product x.down y.across x.down_small y.across_small)) tt).is

pub returns-clause-size : goal.returns-clause-size
returns-clause-size c =
    let x = c.args.v in
    let y = c.args.w in
    subst (λ (n : ℕ). n ≤ 2 ^ 35) (sym c.unsigned_abs.ensures.value) (size_of (2 ^ 35) (pass w64 (minus (product x.across y.down x.across_small y.down_small) (product x.down y.across x.down_small y.across_small)) tt) tt)
