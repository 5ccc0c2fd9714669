-- What is added, one whole interval after the other.
use Rattle.std.specs.Prelude.{◌≡◌, ◌⊎◌, ℕ, ◌<◌, List, [], ◌∷◌, ◌++◌, length, slice_index_or}
use Rattle.std.specs.declared.cmp.Ordering.{Ordering}
use Rattle.std.specs.declared.cmp.Ordering.TheVariants.{Less}
use Rattle.intervals.specs.declared.interval.Interval.{Interval}
use Rattle.intervals.specs.Cuts.{AreRest}

module _ {T : Type 0} (cmp : T → T → Ordering) where
  -- the interval from one to the other, if it has an inside
  abbrev pub IsAdded : T → T → List (Interval T) → List (Interval T) → Type 0
  IsAdded from to old new = ((cmp from to ≡ Less) × (new ≡ old ++ record { from = from; to = to } ∷ [])) ⊎ ((¬ (cmp from to ≡ Less)) × (new ≡ old))

  -- what the parts leave of x
  pub record IsRestAdded (x : Interval T) (parts old new : List (Interval T)) : Type 0 where
    pub added : List (Interval T)
    pub all : new ≡ old ++ added
    pub right : AreRest cmp (x ∷ []) parts added

  -- the first n end before the value
  abbrev pub EndBefore : T → List (Interval T) → ℕ → Type 0
  EndBefore t xs n = (k : ℕ) (d : Interval T) → k < n → k < length xs → cmp (slice_index_or xs k d).to t ≡ Less
