use Rattle.std.proofs.Common.{◌≡◌, ◌<◌, length, map, ℕ}
use denote.Text.{Utf8}
use denote.Shadow.{shadow}
use Rattle.job_text.specs.Seen.{item_seen}
use Rattle.job_text.specs.Values.{items, list}
use Rattle.job_text.proofs.list.list.Given as goal

-- what is left to read gives the list
abbrev pub invariant-items : goal.invariant-items
invariant-items l = shadow (Utf8 l.rest) × (length l.rest < length l.front) × (m : ℕ) × (length l.rest < m) × (list l.front ≡ items m (map item_seen l.found.items) l.rest)

abbrev pub decreases-items : goal.decreases-items
decreases-items l = length l.rest
