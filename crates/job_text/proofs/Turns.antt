-- The loops of the grammar, a turn at a time.
use Rattle.std.proofs.Common.{◌≡◌, ℕ, zero, suc, ◌-◌, ◌<◌, true, false, ◌==◌, List, [], ◌∷◌, ◌++◌, length, drop, Ok, Err, arith}
use Rattle.toml_parser.specs.Lexical.{first, skip_ws, skip_blank}
use Rattle.job_text.specs.declared.fault.Flaw.{Flaw}
use Rattle.job_text.specs.declared.fault.Stop.{Stop}
use Rattle.job_text.specs.declared.fault.Stop.TheVariants.{At, Memory}
use Rattle.job_text.specs.Readings.{Stops}
use Rattle.job_text.specs.Values.{TextItem, item, after_item, items}
use Rattle.job_text.specs.Lines.{TextLine, Meaning, line_of, lines_after}

-- ---- lists
pub items_end : (m : ℕ) (found : List TextItem) (front : List ℕ) → 0 < m → (first (skip_ws front) == 93) ≡ true → items m found front ≡ Ok (found, drop 1 (skip_ws front))
unfolding items
items_end zero found front some closing = absurd (omega arith)
items_end (suc m) found front some closing = rw closing

pub items_more : (m : ℕ) (found : List TextItem) (front : List ℕ) (i : TextItem) (behind next : List ℕ) → 0 < m → (first (skip_ws front) == 93) ≡ false
    → item (skip_ws front) ≡ Ok (i, behind) → after_item (skip_ws behind) ≡ Ok next → items m found front ≡ items (m - 1) (found ++ i ∷ []) next
unfolding items
items_more zero found front i behind next some other read element = absurd (omega arith)
items_more (suc m) found front i behind next some other read element =
    let less : suc m - 1 ≡ m = omega arith in
    rw (other, read, element, less)

pub items_bad : (m : ℕ) (found : List TextItem) (front : List ℕ) (e : Flaw × ℕ) → 0 < m → (first (skip_ws front) == 93) ≡ false → item (skip_ws front) ≡ Err e → items m found front ≡ Err e
unfolding items
items_bad zero found front e some other read = absurd (omega arith)
items_bad (suc m) found front e some other read = rw (other, read)

pub items_bad_end : (m : ℕ) (found : List TextItem) (front : List ℕ) (i : TextItem) (behind : List ℕ) (e : Flaw × ℕ) → 0 < m → (first (skip_ws front) == 93) ≡ false
    → item (skip_ws front) ≡ Ok (i, behind) → after_item (skip_ws behind) ≡ Err e → items m found front ≡ Err e
unfolding items
items_bad_end zero found front i behind e some other read element = absurd (omega arith)
items_bad_end (suc m) found front i behind e some other read element = rw (other, read, element)

pub items_stopped : (m : ℕ) (found : List TextItem) (front : List ℕ) → 0 < m → (first (skip_ws front) == 93) ≡ false → (stop : Stop) → Stops stop (item (skip_ws front)) → Stops stop (items m found front)
items_stopped m found front some other (At flaw left) read = items_bad m found front (flaw, left) some other read
items_stopped m found front some other (Memory e) read = tt

pub items_stopped_end : (m : ℕ) (found : List TextItem) (front : List ℕ) (i : TextItem) (behind : List ℕ) → 0 < m → (first (skip_ws front) == 93) ≡ false
    → item (skip_ws front) ≡ Ok (i, behind) → (stop : Stop) → Stops stop (after_item (skip_ws behind)) → Stops stop (items m found front)
items_stopped_end m found front i behind some other read (At flaw left) element = items_bad_end m found front i behind (flaw, left) some other read element
items_stopped_end m found front i behind some other read (Memory e) element = tt

-- ---- lines
pub lines_end : (size m : ℕ) (found : List TextLine) (front : List ℕ) → 0 < m → length (skip_blank front) ≡ 0 → lines_after size m found front ≡ Ok found
unfolding lines_after
lines_end size zero found front some none = absurd (omega arith)
lines_end size (suc m) found front some none = rw none

pub lines_more : (size m : ℕ) (found : List TextLine) (front : List ℕ) (meaning : Meaning) (behind : List ℕ) → 0 < m → (length (skip_blank front) == 0) ≡ false
    → line_of size (skip_blank front) ≡ Ok (meaning, behind) → lines_after size m found front ≡ lines_after size (m - 1) (found ++ record { at = size - length (skip_blank front); meaning = meaning } ∷ []) behind
unfolding lines_after
lines_more size zero found front meaning behind some other read = absurd (omega arith)
lines_more size (suc m) found front meaning behind some other read =
    let less : suc m - 1 ≡ m = omega arith in
    rw (other, read, less)

pub lines_bad : (size m : ℕ) (found : List TextLine) (front : List ℕ) (e : Flaw × ℕ) → 0 < m → (length (skip_blank front) == 0) ≡ false → line_of size (skip_blank front) ≡ Err e → lines_after size m found front ≡ Err e
unfolding lines_after
lines_bad size zero found front e some other read = absurd (omega arith)
lines_bad size (suc m) found front e some other read = rw (other, read)

pub lines_stopped : (size m : ℕ) (found : List TextLine) (front : List ℕ) → 0 < m → (length (skip_blank front) == 0) ≡ false → (stop : Stop) → Stops stop (line_of size (skip_blank front)) → Stops stop (lines_after size m found front)
lines_stopped size m found front some other (At flaw left) read = lines_bad size m found front (flaw, left) some other read
lines_stopped size m found front some other (Memory e) read = tt
