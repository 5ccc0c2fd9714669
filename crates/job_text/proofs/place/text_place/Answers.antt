use Rattle.std.proofs.Common.{◌≡◌, ℕ, ◌+◌, ◌≤◌, Bool, true, false, cond, List, take, get_or, sym, subst, arith}
use Rattle.std.proofs.lemmas.List.{take_more}
use Rattle.job_text.specs.Places.{is_line_feed, begins_character, IsTextPlaceAfter}
use Rattle.job_text.proofs.PlacesBehind.{place_more}
use Rattle.job_text.proofs.place.text_place.Goals as goal

few_lines : (b : Bool) (line next i : ℕ) → next ≡ cond b (line + 1) line → line ≤ i + 1 → next ≤ (i + 1) + 1
few_lines true line next i e h = omega arith
few_lines false line next i e h = omega arith

few_columns : (b d : Bool) (column next i : ℕ) → next ≡ cond b 1 (cond d (column + 1) column) → column ≤ i + 1 → next ≤ (i + 1) + 1
few_columns true d column next i e h = omega arith
few_columns false true column next i e h = omega arith
few_columns false false column next i e h = omega arith

pub loop-byte-preserved : goal.loop-byte-preserved
loop-byte-preserved c =
    let items = take c.min.result c.as_bytes.result.now in
    let i = c.loop-byte.byte-index in
    let byte = get_or items i 0 in
    let known = c.loop-byte.invariant in
    record {
      behind = subst (λ (t : List ℕ). IsTextPlaceAfter t c.past-place.result) (sym (take_more items i 0 c.loop-byte-test.true))
          (place_more (take i items) c.loop-byte.place c.past-place.result byte known.behind c.past-place.ensures.line c.past-place.ensures.column);
      few_lines = few_lines (is_line_feed byte) c.loop-byte.place.line c.past-place.result.line i c.past-place.ensures.line known.few_lines;
      few_columns = few_columns (is_line_feed byte) (begins_character byte) c.loop-byte.place.column c.past-place.result.column i c.past-place.ensures.column known.few_columns;
    }
