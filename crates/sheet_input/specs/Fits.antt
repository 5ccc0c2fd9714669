-- The number of decimals at which a part is accepted.
use Rattle.std.specs.Prelude.{◌≡◌, ◌⊎◌, ℕ, Bool, true, false, nat_lt, List, [], ◌∷◌, Option, Some, None, Result, Ok, Err}
use Rattle.geometry.specs.Parts.{Part}
use Rattle.job_file.specs.Documents.{JobValues}
use Rattle.part_input.specs.Steps.{◌and_then◌}
use Rattle.part_input.specs.declared.fault.Fault.TheVariants.{Part as PartUnread}
use Rattle.weld.specs.declared.fault.PartKind.{PartKind}
use Rattle.weld.specs.declared.fault.PartKind.TheVariants.{TooLarge}
use Rattle.sheet_input.specs.Jobs.{AnyValues, older_job, own_job, Lifted, SettlesJob}
use Rattle.sheet_input.specs.Texts.{PartText, ReadsSolid}
use Rattle.sheet_input.specs.declared.fault.SheetFault.{SheetFault}
use Rattle.sheet_input.specs.declared.fault.SheetFault.TheVariants.{Common, OwnJob}

-- ---- one number
-- the job and the part at a number of decimals
pub record Settled : Type 0 where
  pub job : JobValues
  pub part : Part

-- the job is settled there, and the part is read and sound
abbrev pub Attempts : List ℕ → AnyValues → PartText → ℕ → Result Settled SheetFault → Type 0
Attempts title values text decimals =
    SettlesJob title values decimals and_then λ job.
    (Lifted (ReadsSolid text decimals job.unit) and_then λ part r. r ≡ Ok (record { job = job; part = part }))

abbrev pub is_too_large : PartKind → Bool
is_too_large TooLarge = true
is_too_large kind = false

-- the fault says that the job or the part is out of range
abbrev pub is_range : SheetFault → Bool
is_range OwnJob = true
is_range (Common (PartUnread fault)) = is_too_large fault.kind
is_range fault = false

-- ---- several numbers
-- a number is refused: it has its fault where it is in range, and else the fault of the numbers after it
abbrev pub IsFaultFrom : Bool → SheetFault → SheetFault → SheetFault → Type 0
IsFaultFrom true here later fault = fault ≡ later
IsFaultFrom false here later fault = fault ≡ here

-- The first number at which there is no fault; and if there is none, the fault of the first one in range, or else of the last one.
abbrev pub Fits : {A : Type 0} → (ℕ → Result A SheetFault → Type 0) → ℕ → List ℕ → Result A SheetFault → Type 0
Fits try n [] r = try n r
Fits try n (m ∷ ns) (Ok x) = try n (Ok x) ⊎ ((e : SheetFault) × try n (Err e) × Fits try m ns (Ok x))
Fits try n (m ∷ ns) (Err fault) = (here : SheetFault) × (later : SheetFault) × try n (Err here) × Fits try m ns (Err later) × IsFaultFrom (is_range here) here later fault

-- ---- whose fault it is
-- that of this number, or that of a later one
abbrev pub IsHereOr : Bool → (n m : ℕ) → (here fault : SheetFault) → Type 0 → Type 0
IsHereOr true n m here fault later = later
IsHereOr false n m here fault later = (m ≡ n) × (fault ≡ here)

-- the fault is that of the number m: of the first one in range, or else of the last one
abbrev pub IsFaultAt : {A : Type 0} → (ℕ → Result A SheetFault → Type 0) → ℕ → List ℕ → ℕ → SheetFault → Type 0
IsFaultAt try n [] m fault = (m ≡ n) × try n (Err fault)
IsFaultAt try n (k ∷ ns) m fault = (here : SheetFault) × try n (Err here) × IsHereOr (is_range here) n m here fault (IsFaultAt try k ns m fault)

-- ---- which numbers
-- that of the job; or 6 down to 2, and for a sample 3
abbrev pub first_by : Option ℕ → Option (List ℕ) → ℕ
first_by (Some n) size = n
first_by None (Some size) = 3
first_by None None = 6

abbrev pub others_by : Option ℕ → Option (List ℕ) → List ℕ
others_by (Some n) size = []
others_by None (Some size) = []
others_by None None = 5 ∷ 4 ∷ 3 ∷ 2 ∷ []

abbrev pub last_by : Option ℕ → Option (List ℕ) → ℕ
last_by (Some n) size = n
last_by None (Some size) = 3
last_by None None = 2

-- the number that a job names
abbrev pub decimals_of : AnyValues → Option ℕ
decimals_of (older_job values) = Some values.decimals
decimals_of (own_job values) = values.decimals

-- a number is named, and a greater one could be
abbrev pub is_below_most : Option ℕ → Bool
is_below_most None = false
is_below_most (Some n) = nat_lt n 6

abbrev pub may_name_more : AnyValues → Bool
may_name_more values = is_below_most (decimals_of values)

-- the job and a part, a sample of this size or another one, at the number that fits
abbrev pub FitsBy : List ℕ → AnyValues → Option (List ℕ) → PartText → Result Settled SheetFault → Type 0
FitsBy title values size text = Fits (Attempts title values text) (first_by (decimals_of values) size) (others_by (decimals_of values) size)

-- the number whose fault it is
abbrev pub IsFaultBy : List ℕ → AnyValues → Option (List ℕ) → PartText → ℕ → SheetFault → Type 0
IsFaultBy title values size text m fault = IsFaultAt (Attempts title values text) (first_by (decimals_of values) size) (others_by (decimals_of values) size) m fault

-- the job at the last number that is tried
abbrev pub SettlesBy : List ℕ → AnyValues → Option (List ℕ) → Result JobValues SheetFault → Type 0
SettlesBy title values size = SettlesJob title values (last_by (decimals_of values) size)
