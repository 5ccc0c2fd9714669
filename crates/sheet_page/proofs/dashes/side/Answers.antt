use Rattle.std.proofs.Common.{ℕ, ◌+◌, ◌*◌, ◌<◌, ◌≤◌, ◌^◌, ◌⊎◌, inl, inr, arith, rules, ◌∙◌, mul-le-mul, FitsSigned}
use Rattle.std.specs.Int.{w64}
use Rattle.std.proofs.lemmas.Bool.{cases_lt}
use Rattle.std.proofs.lemmas.Int.{to_z-of_z}
use Rattle.sheet_plan.specs.Numbers.{root_of}
use Rattle.sheet_plan.proofs.Roots.{root_of-is}
use Rattle.sheet_page.proofs.dashes.side.Goals as goal

squares : (a n : ℕ) → a ≤ n → a * a ≤ n * n
squares a n h = mul-le-mul h h

-- the root of a number below 2^62 is at most 2^31
small : (r a b : ℕ) → r * r ≤ 100000000 * (a * a + b * b) → a ≤ 118900 → b ≤ 118900 → r ≤ 2 ^ 31
small r a b root across down = by_cases (cases_lt (2 ^ 31) r)
  where
    by_cases : (2 ^ 31 < r) ⊎ (r ≤ 2 ^ 31) → r ≤ 2 ^ 31
    by_cases (inl l) = absurd (let m = squares (2 ^ 31) r (omega arith) in let s = squares a 118900 across in let t = squares b 118900 down in omega arith)
    by_cases (inr l) = l

pub returns-clause-value : goal.returns-clause-value
returns-clause-value c =
    let px : FitsSigned w64 c.args.p.now.x = search rules in
    let py : FitsSigned w64 c.args.p.now.y = search rules in
    let qx : FitsSigned w64 c.args.q.now.x = search rules in
    let qy : FitsSigned w64 c.args.q.now.y = search rules in
    let across = simp to_z-of_z at c.apart-across.ensures.value in
    let down = simp to_z-of_z at c.apart-down.ensures.value in
    root_of-is _ _ c.isqrt.ensures.at_most c.isqrt.ensures.greatest ∙ (λ i. root_of (100000000 * (across i * across i + down i * down i)))

pub returns-clause-size : goal.returns-clause-size
returns-clause-size c = small _ c.apart-across.result c.apart-down.result c.isqrt.ensures.at_most c.apart-across.ensures.size c.apart-down.ensures.size
