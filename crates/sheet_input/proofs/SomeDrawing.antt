-- Each step of taking a sheet's drawing has an answer, whatever files there are, if the words' title is one that a sheet may have.
use Rattle.std.proofs.Common.{◌≡◌, ◌⊎◌, inl, inr, ℕ, ◌≤◌, Bool, true, false, IsTrue, if◌then◌else◌, List, [], ◌∷◌, Option, Some, None, Result, Ok, Err, refl, sym, ap, subst, ◌∙◌, arith}
use Rattle.std.specs.Prelude.{unwrap_or}
use Rattle.std.specs.Global.{Global}
use Rattle.std.specs.List.{list_all}
use Rattle.std.proofs.lemmas.Option.{same_Some}
use Rattle.std.proofs.lemmas.Str.{chars-nil}
use Rattle.toml.specs.Data.{Members}
use Rattle.dec_text.specs.declared.number.Length.{Length}
use Rattle.desk.specs.Files.{Files}
use Rattle.job_file.specs.Documents.{JobValues, job_of, job_of_bytes, job_of_table, table_of}
use Rattle.job_file.specs.Seen.{job_seen}
use Rattle.job_file.specs.Texts.{is_title, is_title_char}
use Rattle.job_file.specs.declared.fault.JobFault.{JobFault}
use Rattle.job_file.specs.declared.job.Job.{Job}
use Rattle.answers_exist.proofs.SomeJob.{some_job}
use Rattle.answers_exist.proofs.SomeReading.{HasCornerPlaces}
use Rattle.part_input.specs.Jobs.{TakesFile, TakesJob}
use Rattle.part_input.specs.Parts.{ChecksPart, ReadsText, WeldsPart, sample_size}
use Rattle.part_input.specs.Steps.{◌and_then◌}
use Rattle.part_input.specs.declared.fault.Fault.{Fault}
use Rattle.part_input.specs.declared.fault.Fault.TheVariants.{Job as JobUnread}
use Rattle.part_input.specs.declared.fault.Input.TheVariants.{Part as ThePart}
use Rattle.part_input.proofs.SomeSteps.{Any, AreValues, HasAnswerSuch, IsProper, some_and_then, some_check, some_file, some_job_bytes, some_sample_of, some_text, some_weld_of}
use Rattle.sheet_job.specs.AnyJobs.{AnyRead, any_job_of_bytes, any_job_of_table, is_own, no_toml, older, own}
use Rattle.sheet_job.specs.JobsAt.{IsJobAt, IsTooFarIn}
use Rattle.sheet_job.specs.SheetFaults.{OwnFault}
use Rattle.sheet_job.specs.SheetJobs.{SheetJobValues, sheet_job_of_text}
use Rattle.sheet_words.specs.Names.{Named}
use Rattle.sheet_words.specs.Titles.{IsProper as IsProperTitle}
use Rattle.sheet_input.specs.Fits.{Attempts, Fits, FitsBy, IsFaultFrom, Settled, SettlesBy, decimals_of, first_by, is_range, last_by, others_by}
use Rattle.sheet_input.specs.Jobs.{AnyValues, IsRefusedRead, Lifted, ReadsAnyJob, SettlesJob, TakesAnyJob, older_job, own_job, titled}
use Rattle.sheet_input.specs.Looks.{look_of}
use Rattle.sheet_input.specs.Sheets.{LaysSheet, wish_of}
use Rattle.sheet_input.specs.Steps.{DrawsBy, DrawsSheet, DrawsText}
use Rattle.sheet_input.specs.Texts.{PartText, ReadsSoup, ReadsSolid, TakesText, TakesTextOr, file, sample}
use Rattle.sheet_input.specs.Titles.{name_title, part_title, title_of}
use Rattle.sheet_input.specs.declared.fault.SheetFault.{SheetFault}
use Rattle.sheet_input.specs.declared.fault.SheetFault.TheVariants.{Common, OwnJob}
use Rattle.sheet_input.proofs.SomeLayout.{some_layout}
use Rattle.sheet_input.proofs.SomeOwnJob.{AreOwn, own_at, text_own}

-- the same with the faults of `sheet`
lift : {A : Type 0} (P : A → Type 0) (steps : Result A Fault → Type 0) → HasAnswerSuch P steps → HasAnswerSuch P (Lifted steps)
lift P steps (Ok x, (is, such)) = (Ok x, (is, such))
lift P steps (Err e, (is, such)) = (Err (Common e), (is, tt))

-- ---- a job
older_table : (bytes : List ℕ) (o : Option Members) (r : Result JobValues JobFault) → any_job_of_table bytes o ≡ older r → job_of_table o ≡ r
older_table bytes None r e = absurd (cc)
older_table bytes (Some ms) r e = by (is_own ms) e
  where
    by : (b : Bool) → (if b then own (sheet_job_of_text bytes) else older (job_of ms)) ≡ older r → job_of ms ≡ r
    by true e = absurd (cc)
    by false e = cc

own_table : (bytes : List ℕ) (o : Option Members) (r : Result SheetJobValues (OwnFault × ℕ)) → any_job_of_table bytes o ≡ own r → sheet_job_of_text bytes ≡ r
own_table bytes None r e = absurd (cc)
own_table bytes (Some ms) r e = by (is_own ms) e
  where
    by : (b : Bool) → (if b then own (sheet_job_of_text bytes) else older (job_of ms)) ≡ own r → sheet_job_of_text bytes ≡ r
    by true e = cc
    by false e = absurd (cc)

-- what is known of a job that was read
abbrev IsRead : AnyValues → Type 0
IsRead (older_job values) = AreValues values
IsRead (own_job values) = AreOwn values

-- ---- at a number of decimals
titled_values : (title : List ℕ) → IsTrue (is_title title) → (values : JobValues) → AreValues values → AreValues (titled title values)
titled_values title proper values (job, same) = (
  record {
    decimals = job.decimals;
    third = job.third;
    paper = job.paper;
    scale = job.scale;
    crease = job.crease;
    title = title;
    outputs = job.outputs;
    unit = job.unit;
    portrait = job.portrait;
    views = job.views;
    few_decimals = job.few_decimals;
    proper_title = proper;
    proper_outputs = job.proper_outputs;
    some_views = job.some_views;
    few_views = job.few_views;
    named_apart = job.named_apart;
  },
  ap (titled title) same,
)

-- a job and a part, as they are made
abbrev IsSettled : Settled → Type 0
IsSettled s = AreValues s.job × IsProper s.part

abbrev AreFew : List ℕ → Type 0
AreFew [] = Unit {0}
AreFew (n ∷ ns) = (n ≤ 6) × AreFew ns

fault_from : (b : Bool) (here later : SheetFault) → (fault : SheetFault) × IsFaultFrom b here later fault
fault_from true here later = (later, refl)
fault_from false here later = (here, refl)

module _ {A : Type 0} (P : A → Type 0) (try : ℕ → Result A SheetFault → Type 0) (each : (n : ℕ) → n ≤ 6 → HasAnswerSuch P (try n)) where
  some_fit : (n : ℕ) (ns : List ℕ) → n ≤ 6 → AreFew ns → HasAnswerSuch P (Fits try n ns)
  some_fit n [] few all = each n few
  some_fit n (m ∷ ns) few all = by (each n few) (some_fit m ns all.0 all.1)
    where
      by : HasAnswerSuch P (try n) → HasAnswerSuch P (Fits try m ns) → HasAnswerSuch P (Fits try n (m ∷ ns))
      by (Ok x, (is, such)) rest = (Ok x, (inl is, such))
      by (Err here, (is, _)) (Ok x, (next, such)) = (Ok x, (inr (here, is, next), such))
      by (Err here, (is, _)) (Err later, (next, _)) = let (fault, from) = fault_from (is_range here) here later in (Err fault, ((here, later, is, next, from), tt))

first_few : (decimals : Option ℕ) (size : Option (List ℕ)) → ((n : ℕ) → decimals ≡ Some n → n ≤ 6) → first_by decimals size ≤ 6
first_few (Some n) size few = few n refl
first_few None (Some size) few = omega arith
first_few None None few = omega arith

others_few : (decimals : Option ℕ) (size : Option (List ℕ)) → AreFew (others_by decimals size)
others_few (Some n) size = tt
others_few None (Some size) = tt
others_few None None = (omega arith, (omega arith, (omega arith, (omega arith, tt))))

last_few : (decimals : Option ℕ) (size : Option (List ℕ)) → ((n : ℕ) → decimals ≡ Some n → n ≤ 6) → last_by decimals size ≤ 6
last_few (Some n) size few = few n refl
last_few None (Some size) few = omega arith
last_few None None few = omega arith

decimals_few : (values : AnyValues) → IsRead values → (n : ℕ) → decimals_of values ≡ Some n → n ≤ 6
decimals_few (older_job values) (job, same) n e =
    let is : job.decimals ≡ n = ap (λ (v : JobValues). v.decimals) same ∙ same_Some values.decimals n e in
    subst (λ (k : ℕ). k ≤ 6) is job.few_decimals
decimals_few (own_job values) are n e = are.few n e

-- ---- the title
empty_title : IsTrue (is_title [])
empty_title = ap (list_all is_title_char) chars-nil

part_title_proper : (part : List ℕ) → IsTrue (is_title (part_title part))
part_title_proper part = by (is_title (name_title part)) refl
  where
    by : (b : Bool) → is_title (name_title part) ≡ b → IsTrue (is_title (if b then name_title part else []))
    by true e = e
    by false e = empty_title

own_title_proper : (title : Option (List ℕ)) (part : List ℕ) → ((t : List ℕ) → title ≡ Some t → IsTrue (is_title t)) → IsTrue (is_title (unwrap_or title (part_title part)))
own_title_proper None part each = part_title_proper part
own_title_proper (Some title) part each = each title refl

title_proper : (said : Option (List ℕ)) (values : AnyValues) (part : List ℕ) → IsProperTitle said → IsRead values → IsTrue (is_title (title_of said values part))
title_proper (Some title) values part proper are = proper title refl
title_proper None (older_job values) part proper (job, same) = subst (λ (v : JobValues). IsTrue (is_title v.title)) same job.proper_title
title_proper None (own_job values) part proper are = own_title_proper values.title part are.title

-- ---- the part
some_read_soup : (text : PartText) (n : ℕ) (unit : Length) → HasAnswerSuch IsProper (ReadsSoup text n unit)
some_read_soup (sample size) n unit = some_sample_of size
some_read_soup (file bytes) n unit = some_and_then HasCornerPlaces IsProper (ReadsText n unit bytes) WeldsPart (some_text n unit bytes) some_weld_of

some_read_solid : (text : PartText) (n : ℕ) (unit : Length) → HasAnswerSuch IsProper (ReadsSolid text n unit)
some_read_solid text n unit = some_and_then IsProper IsProper (ReadsSoup text n unit) ChecksPart (some_read_soup text n unit) some_check

some_taken : (size : Option (List ℕ)) (files : Files) (name : List ℕ) → HasAnswerSuch Any (TakesTextOr size files name)
some_taken (Some size) files name = (Ok (sample size), (refl, tt))
some_taken None files name =
    some_and_then Any Any (TakesFile ThePart files name) (λ bytes answer. answer ≡ Ok (file bytes)) (some_file ThePart files name) (λ bytes _. (Ok (file bytes), (refl, tt)))

module _ (alloc : Global) where
  -- ---- the job that is read
  older_values : (bytes : List ℕ) (values : JobValues) → any_job_of_bytes bytes ≡ older (Ok values) → AreValues values
  older_values bytes values e = by (some_job alloc bytes) (older_table bytes (table_of bytes) (Ok values) e)
    where
      by : ((job : Job) × (job_of_bytes bytes ≡ Ok (job_seen job))) ⊎ ((cause : JobFault) × (job_of_bytes bytes ≡ Err cause)) → job_of_bytes bytes ≡ Ok values → AreValues values
      by (inl (job, is)) said = (job, let same : job_seen job ≡ values = cc in same)
      by (inr (cause, is)) said = absurd (cc)

  some_read : (bytes : List ℕ) → HasAnswerSuch IsRead (ReadsAnyJob bytes)
  some_read bytes = by (any_job_of_bytes bytes) refl
    where
      by : (r : AnyRead) → any_job_of_bytes bytes ≡ r → HasAnswerSuch IsRead (ReadsAnyJob bytes)
      by (older (Ok values)) e = (Ok (older_job values), (e, older_values bytes values e))
      by (older (Err cause)) e = (Err (Common (JobUnread cause)), (e, tt))
      by (own (Ok values)) e = (Ok (own_job values), (e, text_own bytes values (own_table bytes (table_of bytes) (Ok values) e)))
      by (own (Err fault)) e = (Err OwnJob, (subst IsRefusedRead (sym e) tt, tt))
      by no_toml e = (Err OwnJob, (subst IsRefusedRead (sym e) tt, tt))

  some_any_job : (files : Files) (name : Option (List ℕ)) → HasAnswerSuch IsRead (TakesAnyJob files name)
  some_any_job files name = some_and_then Any IsRead (Lifted (TakesJob files name)) ReadsAnyJob (lift Any (TakesJob files name) (some_job_bytes files name)) (λ bytes _. some_read bytes)

  -- ---- the number of decimals
  some_settled : (title : List ℕ) → IsTrue (is_title title) → (values : AnyValues) → IsRead values → (n : ℕ) → n ≤ 6 → HasAnswerSuch AreValues (SettlesJob title values n)
  some_settled title proper (older_job values) are n few = (Ok (titled title values), (refl, titled_values title proper values are))
  some_settled title proper (own_job values) are n few = by (own_at alloc n few title proper values are)
    where
      by : ((job : Job) × IsJobAt n title values (job_seen job)) ⊎ IsTooFarIn n values → HasAnswerSuch AreValues (SettlesJob title (own_job values) n)
      by (inl (job, is)) = (Ok (job_seen job), (is, (job, refl)))
      by (inr far) = (Err OwnJob, (far, tt))

  module _ (title : List ℕ) (proper : IsTrue (is_title title)) (values : AnyValues) (are : IsRead values) (text : PartText) where
    some_attempt : (n : ℕ) → n ≤ 6 → HasAnswerSuch IsSettled (Attempts title values text n)
    some_attempt n few =
        some_and_then AreValues IsSettled (SettlesJob title values n) (λ job. Lifted (ReadsSolid text n job.unit) and_then λ part r. r ≡ Ok (record { job = job; part = part }))
        (some_settled title proper values are n few)
        (λ job made. some_and_then IsProper IsSettled (Lifted (ReadsSolid text n job.unit)) (λ part r. r ≡ Ok (record { job = job; part = part }))
        (lift IsProper (ReadsSolid text n job.unit) (some_read_solid text n job.unit)) (λ part is. (Ok (record { job = job; part = part }), (refl, (made, is)))))

    some_fit_by : (size : Option (List ℕ)) → HasAnswerSuch IsSettled (FitsBy title values size text)
    some_fit_by size =
        some_fit IsSettled (Attempts title values text) some_attempt (first_by (decimals_of values) size) (others_by (decimals_of values) size)
        (first_few (decimals_of values) size (decimals_few values are)) (others_few (decimals_of values) size)

  -- ---- all of it
  module _ (files : Files) (named : Named) (said : IsProperTitle named.said.title) where
    some_drawn_text : (values : AnyValues) → IsRead values → (text : PartText) → HasAnswerSuch Any (DrawsText named values text)
    some_drawn_text values are text =
        let title = title_of named.said.title values named.part in
        some_and_then IsSettled Any (FitsBy title values (sample_size named.part) text)
        (λ settled. LaysSheet (wish_of values) settled.job settled.part and_then λ drawn r. r ≡ Ok (record { drawn = drawn; look = look_of named values; wish = wish_of values }))
        (some_fit_by title (title_proper named.said.title values named.part said are) values are text (sample_size named.part))
        (λ settled is. some_and_then Any Any (LaysSheet (wish_of values) settled.job settled.part) (λ drawn r. r ≡ Ok (record { drawn = drawn; look = look_of named values; wish = wish_of values }))
        (some_layout (wish_of values) settled.job is.0 settled.part is.1) (λ drawn _. (Ok (record { drawn = drawn; look = look_of named values; wish = wish_of values }), (refl, tt))))

    some_drawn_by : (values : AnyValues) → IsRead values → HasAnswerSuch Any (DrawsBy files named values)
    some_drawn_by values are =
        let title = title_of named.said.title values named.part in
        some_and_then AreValues Any (SettlesBy title values (sample_size named.part)) (λ job. Lifted (TakesText files named.part) and_then λ text. DrawsText named values text)
        (some_settled title (title_proper named.said.title values named.part said are) values are (last_by (decimals_of values) (sample_size named.part))
        (last_few (decimals_of values) (sample_size named.part) (decimals_few values are)))
        (λ job _. some_and_then Any Any (Lifted (TakesText files named.part)) (λ text. DrawsText named values text)
        (lift Any (TakesText files named.part) (some_taken (sample_size named.part) files named.part)) (λ text _. some_drawn_text values are text))

    pub some_drawn_sheet : HasAnswerSuch Any (DrawsSheet files named)
    some_drawn_sheet = some_and_then IsRead Any (TakesAnyJob files named.job) (DrawsBy files named) (some_any_job files named.job) some_drawn_by
