use Rattle.std.proofs.Common.{◌≡◌, List, ℕ, [], subst}
use Rattle.std.specs.Prelude.{IfOk}
use Rattle.sheet_job.specs.SheetJobs.{BlockValues}
use Rattle.sheet_job.specs.SheetSeen.{block_seen}
use Rattle.sheet_words.specs.Seen.{said_seen}
use Rattle.sheet_input.specs.Looks.{block_by}
use Rattle.sheet_input.proofs.look.block_of.Goals as goal

abbrev block : (number kind material author approved date revision company tolerances note : List ℕ) → BlockValues
block number kind material author approved date revision company tolerances note =
    record { number = number; kind = kind; material = material; author = author; approved = approved; date = date; revision = revision; company = company; tolerances = tolerances; note = note }

-- a block with ten empty texts is the empty one
ten_empty : (number kind material author approved date revision company tolerances note : List ℕ)
    → (number ≡ []) × (kind ≡ []) × (material ≡ []) × (author ≡ []) × (approved ≡ []) × (date ≡ []) × (revision ≡ []) × (company ≡ []) × (tolerances ≡ []) × (note ≡ [])
    → block number kind material author approved date revision company tolerances note ≡ block [] [] [] [] [] [] [] [] [] []
ten_empty number kind material author approved date revision company tolerances note (a, b, c, d, e, f, g, h, i, j) = cc

pub returns-in_ok-none-in-Older : goal.returns-in_ok-none-in-Older
returns-in_ok-none-in-Older c =
    let none = c.in_ok-none-in-Older.field-0 in
    let same = ten_empty none.number none.kind none.material none.author none.approved none.date none.revision none.company none.tolerances none.note c.in_ok-none-in-Older.ensures in
    rw c.in-Older.is (subst (λ (v : BlockValues). IfOk c.block_by.result (λ b. block_seen b ≡ block_by (said_seen c.args.said.now) v)) same c.block_by.ensures)
