-- What is wrong with a job of version 3.
use Rattle.std.specs.Prelude.{◌≡◌, ℕ, Bool, Option, Some, None, Result, Ok, Err}
use Rattle.job_file.specs.declared.view.Principal.{Principal}
use Rattle.job_tables.specs.Faults.{Fault}
use Rattle.job_tables.specs.Hints.{IsHinted}
use Rattle.job_tables.specs.Seen.{fault_seen}
use Rattle.job_text.specs.declared.fault.Flaw.{Flaw}
use Rattle.sheet_job.specs.declared.flaw.JobFlaw.{JobFlaw}
use Rattle.sheet_job.specs.declared.flaw.JobFlaw.TheVariants.{NotUtf8, Line, Refused, Table, Wrong, View, AtRange}
use Rattle.sheet_job.specs.declared.flaw.SheetStop.{SheetStop}
use Rattle.sheet_job.specs.declared.flaw.SheetStop.TheVariants.{At, Memory}
use Rattle.sheet_job.specs.declared.flaw.ViewFlaw.{ViewFlaw}
use Rattle.sheet_job.specs.declared.keys.SheetKey.{SheetKey}

pub data OwnFault : Type 0 where
  -- bytes that are no text
  not_utf8 : OwnFault
  -- in a line
  in_line : Flaw → OwnFault
  -- TOML refuses the text with this line
  refused : OwnFault
  -- in the tables and keys
  in_tables : Fault → OwnFault
  -- the key doesn't have such a value; it may have it without quotes; it may be in the view with this number
  wrong : SheetKey → Bool → Option ℕ → OwnFault
  -- in the view with this number, which may have this name
  in_view : ViewFlaw → ℕ → Option Principal → OwnFault
  -- the cut of the view with this number is too far away
  out_of_range : ℕ → OwnFault

-- ---- steps, which end at the first fault; a fault has how many bytes of the text are before its place
infixl 10 ◌>>=◌
abbrev pub ◌>>=◌ : {A B : Type 0} → Result A (OwnFault × ℕ) → (A → Result B (OwnFault × ℕ)) → Result B (OwnFault × ℕ)
(Ok x) >>= f = f x
(Err e) >>= f = Err e

-- a fault, if there is one, and else the rest
abbrev pub unless : {A : Type 0} → Option (OwnFault × ℕ) → Result A (OwnFault × ℕ) → Result A (OwnFault × ℕ)
unless None rest = rest
unless (Some fault) rest = Err fault

-- ---- what contracts see of them
abbrev pub flaw_seen : JobFlaw → OwnFault
flaw_seen NotUtf8 = not_utf8
flaw_seen (Line flaw) = in_line flaw
flaw_seen Refused = refused
flaw_seen (Table flaw) = in_tables (fault_seen flaw)
flaw_seen (Wrong key quoted view) = wrong key quoted view
flaw_seen (View flaw number name) = in_view flaw number name
flaw_seen (AtRange number) = out_of_range number

-- a wrong key or header has its hint
abbrev pub HasHint : JobFlaw → Type 0
HasHint (Table flaw) = IsHinted flaw
HasHint _ = Unit {0}

-- the fault is the one that is said, unless memory ran out
abbrev pub StopsSheet : {B : Type 0} → SheetStop → Result B (OwnFault × ℕ) → Type 0
StopsSheet (At flaw at) said = (said ≡ Err (flaw_seen flaw, at)) × HasHint flaw
StopsSheet (Memory e) said = Unit {0}

-- the result is what is said, seen through f
abbrev pub SaysSheet : {A B : Type 0} → (A → B) → Result A SheetStop → Result B (OwnFault × ℕ) → Type 0
SaysSheet f (Ok x) said = said ≡ Ok (f x)
SaysSheet f (Err stop) said = StopsSheet stop said
