-- Which cuts of an order go through intervals. A cut stands for a place that need not be a value of the type.
use Rattle.std.specs.Prelude.{◌≡◌, ◌⊎◌, ◌↔◌, Bool, true, false, List, All, Any, AllPairs}
use Rattle.std.specs.declared.cmp.Ordering.{Ordering}
use Rattle.std.specs.declared.cmp.Ordering.TheVariants.{Less, Greater}
use Rattle.intervals.specs.declared.interval.Interval.{Interval}

module _ {T : Type 0} (cmp : T → T → Ordering) where
  abbrev pub IsNotAfter : T → T → Type 0
  IsNotAfter x y = ¬ (cmp x y ≡ Greater)

  -- a test that is true before some place: where it is true of a value, it is true of each that isn't greater
  abbrev pub IsCut : (T → Bool) → Type 0
  IsCut cut = (x y : T) → cut y ≡ true → IsNotAfter x y → cut x ≡ true

  -- the interval has an inside
  abbrev pub IsProper : Interval T → Type 0
  IsProper x = cmp x.from x.to ≡ Less

  -- each has an inside, and ends before the later ones begin
  pub record AreApart (xs : List (Interval T)) : Type 0 where
    pub inside : All IsProper xs
    pub apart : AllPairs (λ x y. cmp x.to y.from ≡ Less) xs

-- the place of the cut is within the interval
abbrev pub Crosses : {T : Type 0} → (T → Bool) → Interval T → Type 0
Crosses cut x = (cut x.from ≡ true) × (cut x.to ≡ false)

abbrev pub CrossesAny : {T : Type 0} → (T → Bool) → List (Interval T) → Type 0
CrossesAny cut xs = Any (Crosses cut) xs

-- the value is an end of one of these
abbrev pub IsEndOf : {T : Type 0} → List (Interval T) → T → Type 0
IsEndOf xs t = Any (λ x. (x.from ≡ t) ⊎ (x.to ≡ t)) xs

-- the same places are within the united intervals, which neither overlap nor touch, as within the others
pub record AreUnited {T : Type 0} (cmp : T → T → Ordering) (xs united : List (Interval T)) : Type 0 where
  pub apart : AreApart cmp united
  pub within : (cut : T → Bool) → IsCut cmp cut → CrossesAny cut united ↔ CrossesAny cut xs
  pub ends : All (λ u. IsEndOf xs u.from × IsEndOf xs u.to) united

-- the places within them are those that are within the whole ones and in none of the parts
pub record AreRest {T : Type 0} (cmp : T → T → Ordering) (whole parts rest : List (Interval T)) : Type 0 where
  pub apart : AreApart cmp rest
  pub within : (cut : T → Bool) → IsCut cmp cut → CrossesAny cut rest ↔ (CrossesAny cut whole × ¬ CrossesAny cut parts)
  pub ends : All (λ r. (IsEndOf whole r.from ⊎ IsEndOf parts r.from) × (IsEndOf whole r.to ⊎ IsEndOf parts r.to)) rest
