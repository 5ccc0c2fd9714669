-- Each step has an answer, whatever files there are. (A sheet is that of a job in memory, whose vectors were allocated: so an allocator is named.)
use Rattle.std.proofs.Common.{◌≡◌, ◌⊎◌, inl, inr, ℕ, ◌-◌, ◌<◌, ◌≤◌, ◌&&◌, Bool, true, false, if◌then◌else◌, List, [], ◌∷◌, All, length, Option, Some, None, IsSomeAnd, Result, Ok, Err, refl, sym, subst, arith}
use Rattle.std.specs.Prelude.{nat_le, ℤ}
use Rattle.std.specs.Global.{Global}
use Rattle.std.proofs.lemmas.Bool.{cases_lt, and_parts, leb-true}
use Rattle.std.proofs.lemmas.Option.{none-some, same_Some}
use Rattle.desk.specs.Files.{Files}
use Rattle.dec_text.specs.declared.number.Length.{Length}
use Rattle.lattice.specs.declared.points.Corner.{Corner}
use Rattle.lattice.specs.declared.soup.Tri.{Tri}
use Rattle.lattice.specs.Triangles.{IsBelow}
use Rattle.geometry.specs.Parts.{Part}
use Rattle.geometry.specs.Sound.{IsSound}
use Rattle.job_file.specs.declared.fault.JobFault.{JobFault}
use Rattle.job_file.specs.declared.job.Job.{Job}
use Rattle.job_file.specs.Documents.{JobValues, job_of_bytes}
use Rattle.job_file.specs.Seen.{job_seen}
use Rattle.lex_lines.specs.inner.Cursors.{left_at}
use Rattle.lex_lines.proofs.Promise.{are_tokens}
use Rattle.weld.specs.Raw.{Raw}
use Rattle.weld.specs.Welds.{IsWeldOf, proper_of}
use Rattle.weld.specs.declared.fault.PartFault.{PartFault}
use Rattle.solid_mesh.specs.declared.faults.MeshFault.{MeshFault}
use Rattle.solid_mesh.specs.Faults.{HasFault}
use Rattle.sheet_plan.specs.declared.bounds.Extent.{Extent}
use Rattle.sheet_plan.specs.declared.sheet.Sheet.{Sheet}
use Rattle.sheet_plan.specs.Extents.{AreExtents}
use Rattle.sheet_plan.specs.Plans.{IsPlanned, HasNoScale}
use Rattle.sheet_plan.proofs.Apart.{apart, within_margins}
use Rattle.sheet_plan.proofs.InLine.{stand_in_column, stand_in_row}
use Rattle.part_input.specs.declared.fault.Input.{Input}
use Rattle.part_input.specs.declared.fault.Input.TheVariants.{Job as TheJob, Part as ThePart}
use Rattle.part_input.specs.declared.fault.Fault.TheVariants.{ReadFault, Job as JobUnread, SampleRange, Part as PartUnread, Nothing, Mesh, DoesNotFit}
use Rattle.part_input.specs.Jobs.{limit_of, too_long, TakesFile, TakesJob, ReadsJob, TakesReadJob}
use Rattle.part_input.specs.Parts.{ReadsText, WeldsPart, ReadsPart, ChecksPart, sample_size, cubes_along, IsSample, MakesSample, TakesSoupOr, TakesSoup, TakesSolid}
use Rattle.part_input.specs.Reading.{begins_solid, ReadsAs, ReadsPartText}
use Rattle.part_input.specs.Steps.{◌and_then◌, HasAnswer}
use Rattle.part_input.specs.Sheets.{PlansSheet, DrawsPart}
use Rattle.answers_exist.proofs.Decided.{by_option}
use Rattle.answers_exist.proofs.SomeExtents.{some_extents}
use Rattle.answers_exist.proofs.SomeFault.{some_fault}
use Rattle.answers_exist.proofs.SomeJob.{some_job}
use Rattle.answers_exist.proofs.SomeOff.{some_off}
use Rattle.answers_exist.proofs.SomeReading.{SaysSuch, HasCornerPlaces}
use Rattle.answers_exist.proofs.SomeSample.{some_sample}
use Rattle.answers_exist.proofs.SomeSheet.{some_sheet}
use Rattle.answers_exist.proofs.SomeStl.{some_stl}
use Rattle.answers_exist.proofs.SomeWeld.{some_soup}

-- ---- steps in order
-- P is true of what is given, if something is
abbrev pub GivesSuch : {A F : Type 0} → (A → Type 0) → Result A F → Type 0
GivesSuch P (Ok x) = P x
GivesSuch P (Err e) = Unit {0}

-- the step has an answer, and P is true of what it gives
abbrev pub HasAnswerSuch : {A F : Type 0} → (A → Type 0) → (Result A F → Type 0) → Type 0
HasAnswerSuch {A} {F} P step = (r : Result A F) × (step r × GivesSuch P r)

-- then it has an answer
pub some_answer : {A F : Type 0} (P : A → Type 0) (step : Result A F → Type 0) → HasAnswerSuch P step → HasAnswer step
some_answer P step (r, (is, such)) = (r, is)

module _ {A B F : Type 0} (P : A → Type 0) (Q : B → Type 0) (first : Result A F → Type 0) (next : A → Result B F → Type 0) where
  behind : (x : A) → first (Ok x) → HasAnswerSuch Q (next x) → HasAnswerSuch Q (first and_then next)
  behind x a (Ok y, (b, q)) = (Ok y, ((x, a, b), q))
  behind x a (Err e, (b, q)) = (Err e, (inr (x, a, b), tt))

  pub some_and_then : HasAnswerSuch P first → ((x : A) → P x → HasAnswerSuch Q (next x)) → HasAnswerSuch Q (first and_then next)
  some_and_then (Ok x, (a, p)) n = behind x a (n x p)
  some_and_then (Err e, (a, p)) n = (Err e, (inl a, tt))

-- ---- files
-- nothing is asked of it
abbrev pub Any : {A : Type 0} → A → Type 0
Any x = Unit {0}

pub some_file : (input : Input) (files : Files) (name : List ℕ) → HasAnswerSuch Any (TakesFile input files name)
some_file input files name = by_option (files name) (λ e. (Err (ReadFault input), (inl (refl, e), tt))) there
  where
    there : (bytes : List ℕ) → files name ≡ Some bytes → HasAnswerSuch Any (TakesFile input files name)
    there bytes e = by (cases_lt (limit_of input) (length bytes))
      where
        by : (limit_of input < length bytes) ⊎ (length bytes ≤ limit_of input) → HasAnswerSuch Any (TakesFile input files name)
        by (inl long) = (Err (too_long input), (inr (refl, subst (λ (o : Option (List ℕ)). IsSomeAnd o (λ bytes. limit_of input < length bytes)) (sym e) long), tt))
        by (inr short) = (Ok bytes, ((e, short), tt))

-- ---- the job
-- they are the values of a job
abbrev pub AreValues : JobValues → Type 0
AreValues values = (job : Job) × (job_seen job ≡ values)

pub some_job_bytes : (files : Files) (name : Option (List ℕ)) → HasAnswerSuch Any (TakesJob files name)
some_job_bytes files None = (Ok [], (refl, tt))
some_job_bytes files (Some name) = some_file TheJob files name

module _ (alloc : Global) where
  some_values : (bytes : List ℕ) → HasAnswerSuch AreValues (ReadsJob bytes)
  some_values bytes = by (some_job alloc bytes)
    where
      by : ((job : Job) × (job_of_bytes bytes ≡ Ok (job_seen job))) ⊎ ((cause : JobFault) × (job_of_bytes bytes ≡ Err cause)) → HasAnswerSuch AreValues (ReadsJob bytes)
      by (inl (job, e)) = (Ok (job_seen job), (e, (job, refl)))
      by (inr (cause, e)) = (Err (JobUnread cause), ((cause, refl, e), tt))

  pub some_read_job : (files : Files) (name : Option (List ℕ)) → HasAnswerSuch AreValues (TakesReadJob files name)
  some_read_job files name = some_and_then Any AreValues (TakesJob files name) ReadsJob (some_job_bytes files name) (λ bytes _. some_values bytes)

-- ---- the part
-- it has a triangle, and its corner numbers are in range
abbrev pub IsProper : Part → Type 0
IsProper part = All (IsBelow (length part.corners)) part.triangles × (0 < length part.triangles)

module _ (decimals : ℕ) (unit : Length) (bytes : List ℕ) where
  some_form : (is_stl : Bool) → (r : Result Raw PartFault) × ReadsAs is_stl decimals unit bytes r × SaysSuch HasCornerPlaces r
  some_form true = some_stl decimals unit bytes
  some_form false = some_off decimals unit bytes

  -- the bytes of a part say something
  pub some_part_text : (r : Result Raw PartFault) × ReadsPartText decimals unit bytes r × SaysSuch HasCornerPlaces r
  some_part_text =
      let tokens = left_at false bytes 0 1 in
      let (r, reads, such) = some_form (begins_solid bytes tokens) in
      (r, (tokens, are_tokens false bytes, reads), such)

  pub some_text : HasAnswerSuch HasCornerPlaces (ReadsText decimals unit bytes)
  some_text = by some_part_text
    where
      by : (r : Result Raw PartFault) × ReadsPartText decimals unit bytes r × SaysSuch HasCornerPlaces r → HasAnswerSuch HasCornerPlaces (ReadsText decimals unit bytes)
      by (Ok raw, reads, such) = (Ok raw, (reads, such))
      by (Err cause, reads, such) = (Err (PartUnread cause), ((cause, refl, reads), tt))

pub some_weld_of : (raw : Raw) → HasCornerPlaces raw → HasAnswerSuch IsProper (WeldsPart raw)
some_weld_of raw each = by (some_soup raw each)
  where
    by : ((corners : List Corner) × (triangles : List Tri) × IsWeldOf raw corners triangles × (0 < length triangles)) ⊎ (proper_of raw ≡ []) → HasAnswerSuch IsProper (WeldsPart raw)
    by (inl (corners, triangles, weld, some)) = (Ok (record { corners = corners; triangles = triangles }), ((weld, some), (weld.in_range, some)))
    by (inr none) = (Err Nothing, ((refl, none), tt))

few_cubes : (b : Bool) (digit n : ℕ) → (nat_le 49 digit && nat_le digit 56) ≡ b → (if b then Some (digit - 48) else None) ≡ Some n → (0 < n) × (n ≤ 8)
few_cubes true digit n h e =
    let both = and_parts (nat_le 49 digit) (nat_le digit 56) h in
    let low = leb-true 49 digit both.0 in
    let high = leb-true digit 56 both.1 in
    let same = same_Some (digit - 48) n e in
    (omega (arith, low, high, same), omega (arith, low, high, same))
few_cubes false digit n h e = absurd (none-some n e)

pub cubes_within : (size : List ℕ) (n : ℕ) → cubes_along size ≡ Some n → (0 < n) × (n ≤ 8)
cubes_within [] n e = absurd (none-some n e)
cubes_within (digit ∷ []) n e = few_cubes (nat_le 49 digit && nat_le digit 56) digit n refl e
cubes_within (digit ∷ more ∷ rest) n e = absurd (none-some n e)

pub some_sample_of : (size : List ℕ) → HasAnswerSuch IsProper (MakesSample size)
some_sample_of size = by_option (cubes_along size) (λ e. (Err SampleRange, ((refl, e), tt))) there
  where
    there : (n : ℕ) → cubes_along size ≡ Some n → HasAnswerSuch IsProper (MakesSample size)
    there n e =
        let (least, most) = cubes_within size n e in
        let (part, is) = some_sample n least most in
        (Ok part, (subst (λ (o : Option ℕ). IsSomeAnd o (λ n. IsSample n part)) (sym e) (record { corners = is.corners; triangles = is.triangles }), (is.in_range, is.some)))

pub some_check : (part : Part) → IsProper part → HasAnswerSuch IsProper (ChecksPart part)
some_check part (in_range, some) = by (some_fault part in_range some)
  where
    by : IsSound part ⊎ ((f : MeshFault) × HasFault part f) → HasAnswerSuch IsProper (ChecksPart part)
    by (inl sound) = (Ok part, ((refl, sound), (in_range, some)))
    by (inr (fault, has)) = (Err (Mesh fault), ((fault, refl, has), tt))

module _ (files : Files) (name : List ℕ) (decimals : ℕ) (unit : Length) where
  pub some_soup_or : (size : Option (List ℕ)) → HasAnswerSuch IsProper (TakesSoupOr size files name decimals unit)
  some_soup_or (Some size) = some_sample_of size
  some_soup_or None =
      some_and_then Any IsProper (TakesFile ThePart files name) (ReadsPart decimals unit) (some_file ThePart files name)
      (λ bytes _. some_and_then HasCornerPlaces IsProper (ReadsText decimals unit bytes) WeldsPart (some_text decimals unit bytes) some_weld_of)

  pub some_solid : HasAnswerSuch IsProper (TakesSolid files name decimals unit)
  some_solid = some_and_then IsProper IsProper (TakesSoup files name decimals unit) ChecksPart (some_soup_or (sample_size name)) some_check

-- ---- the sheet
module _ (values : JobValues) (job : Job) (same : job_seen job ≡ values) (part : Part) where
  with_extents : (extents : List Extent) × AreExtents part.corners job.views.items extents → HasAnswerSuch Any (PlansSheet values part)
  with_extents (extents, reach) = by (some_sheet job part.corners extents reach)
    where
      by : ((sheet : Sheet) × IsPlanned job extents sheet) ⊎ ((w : ℤ) × (h : ℤ) × (room_w : ℤ) × (room_h : ℤ) × HasNoScale job.scale job extents w h room_w room_h) → HasAnswerSuch Any (PlansSheet values part)
      by (inl (sheet, planned)) =
          let at = planned.sheet_at in (
            Ok (record { job = values; part = part }),
            (
              (
                refl,
                (
                  job,
                  same,
                  sheet,
                  record {
                    extents = extents;
                    reach = reach;
                    planned = planned;
                    apart = apart job extents planned.num planned.den sheet at;
                    within_margins = within_margins job extents planned.num planned.den sheet at;
                    columns = stand_in_column job extents planned.num planned.den sheet at;
                    rows = stand_in_row job extents planned.num planned.den sheet at;
                  },
                ),
              ),
              tt,
            ),
          )
      by (inr (w, h, room_w, room_h, lacks)) = (Err (DoesNotFit w h room_w room_h), ((job, same, record { extents = extents; reach = reach; refused = lacks }), tt))

  some_reach : IsProper part → (extents : List Extent) × AreExtents part.corners job.views.items extents
  some_reach (in_range, some) = by part.corners refl
    where
      by : (corners : List Corner) → part.corners ≡ corners → (extents : List Extent) × AreExtents part.corners job.views.items extents
      by [] e = absurd (none_below part.triangles some (subst (λ (cs : List Corner). All (IsBelow (length cs)) part.triangles) e in_range))
        where
          none_below : (ts : List Tri) → 0 < length ts → All (IsBelow 0) ts → ⊥
          none_below [] h each = omega (arith, h)
          none_below (t ∷ ts) h each = let less = (each 0 t (omega arith)).a in omega (arith, less)
      by (c ∷ cs) e = subst (λ (ks : List Corner). (extents : List Extent) × AreExtents ks job.views.items extents) (sym e) (some_extents c cs job.views.items)

pub some_plan : (values : JobValues) → AreValues values → (part : Part) → IsProper part → HasAnswerSuch Any (PlansSheet values part)
some_plan values (job, same) part proper = with_extents values job same part (some_reach values job same part proper)

-- ---- what is drawn
module _ (alloc : Global) (files : Files) where
  -- a job's part, whatever comes between
  pub some_drawn_by : (part : List ℕ) (values : JobValues) → AreValues values → HasAnswerSuch Any (TakesSolid files part values.decimals values.unit and_then PlansSheet values)
  some_drawn_by part values are =
      some_and_then IsProper Any (TakesSolid files part values.decimals values.unit) (PlansSheet values) (some_solid files part values.decimals values.unit) (some_plan values are)

  pub some_part_drawn : (part : List ℕ) (job : Option (List ℕ)) → HasAnswerSuch Any (DrawsPart files part job)
  some_part_drawn part job =
      some_and_then AreValues Any (TakesReadJob files job) (λ values. (TakesSolid files part values.decimals values.unit and_then PlansSheet values)) (some_read_job alloc files job)
      (λ values are. some_drawn_by part values are)
