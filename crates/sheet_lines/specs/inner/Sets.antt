-- Ways as a set.
use Rattle.std.specs.Prelude.{◌≡◌, ◌||◌, true, cond, List}
use Rattle.std.specs.List.{list_any}
use Rattle.indexmap.specs.IndexSet.{IndexSet, contains}
use Rattle.sheet_lines.specs.Ways.{same_way}
use Rattle.sheet_lines.specs.declared.ways.Way.{Way}

-- the set has just those of some ways that aren't these last ones: with these it has all
abbrev pub HoldsBut : {S : Type 0} → IndexSet Way S → List Way → List Way → Type 0
HoldsBut set last ways = (q : Way) → (contains same_way set q || list_any (λ w. same_way w q) last) ≡ list_any (λ w. same_way w q) ways

-- the set has just these ways
abbrev pub Holds : {S : Type 0} → IndexSet Way S → List Way → Type 0
Holds set ways = (q : Way) → contains same_way set q ≡ list_any (λ w. same_way w q) ways

-- a way is added to it
abbrev pub IsAdded : {S : Type 0} → IndexSet Way S → IndexSet Way S → Way → Type 0
IsAdded before after way = (q : Way) → contains same_way after q ≡ cond (same_way way q) true (contains same_way before q)
