-- The number of runs up to a place.
use Rattle.std.proofs.Common.{◌≡◌, ◌⊎◌, ℕ, ◌+◌, ◌<◌, ◌≤◌, List, [], length, take, get_or, arith}
use Rattle.std.specs.Prelude.{Some}
use Rattle.std.proofs.lemmas.List.{take_more}
use Rattle.std.proofs.lemmas.List.Elements.{All-nil, All-more, All-weaker, All-pop}
use Rattle.span_count.specs.Bounds.{IsRunCount}

pub count_none : IsRunCount [] 0
count_none = record { above = All-nil (λ run. run < 0); least = λ n below. omega arith }

-- one more
pub count_more : (runs : List ℕ) (k count new : ℕ) → k < length runs → (new ≡ count) ⊎ (new ≡ get_or runs k 0 + 1) → count ≤ new → get_or runs k 0 + 1 ≤ new
    → IsRunCount (take k runs) count → IsRunCount (take (k + 1) runs) new
count_more runs k count new within is_one before_is_less here_is_less counted =
    let higher : (r : ℕ) → r < count → r < new = λ r below. omega arith in
    let here : get_or runs k 0 < new = omega arith in
    record {
      above = All-more (λ r. r < new) runs k 0 within (All-weaker (λ r. r < count) (λ r. r < new) higher (take k runs) counted.above) here;
      least = λ n below.
          let (before, last) = All-pop (λ r. r < n) (take (k + 1) runs) (take k runs) (Some (get_or runs k 0)) (take_more runs k 0 within) below in
          omega (arith, is_one, counted.least n before, last);
    }
