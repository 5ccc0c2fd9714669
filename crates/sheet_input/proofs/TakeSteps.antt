-- What is drawn of a part's text, and of a part that is named, and what is told beside their faults.
use Rattle.std.proofs.Common.{◌≡◌, inl, inr, List, [], ◌∷◌, ℕ, Bool, Option, Some, None, true, false, true≢false, refl, sym, ap, subst, ◌∙◌}
use Rattle.std.specs.Prelude.{Result, Ok, Err, IfOk, IfErr}
use Rattle.desk.specs.Files.{Files, DeskState}
use Rattle.job_file.specs.Documents.{JobValues}
use Rattle.part_input.proofs.Missing.{no_job}
use Rattle.part_input.specs.Parts.{IsOfPart, IsOfSoup, IsOfSoupOr, sample_size}
use Rattle.part_input.specs.Steps.{◌and_then◌, RefusesOf, IsMissingOf}
use Rattle.part_input.specs.declared.fault.Fault.{Fault}
use Rattle.part_input.specs.declared.fault.Fault.TheVariants.{ReadFault, Part as PartUnread, Mesh}
use Rattle.part_input.specs.declared.fault.Input.TheVariants.{Job as TheJob, Part as ThePart}
use Rattle.part_lines.specs.declared.hint.PartHint.{PartHint}
use Rattle.sheet_job.specs.declared.any.AnyJob.{AnyJob}
use Rattle.sheet_layout.specs.declared.layout.Wish.{Wish}
use Rattle.sheet_plan.specs.JobSheets.{Drawn}
use Rattle.sheet_words.specs.Names.{Named}
use Rattle.sheet_input.specs.Answers.{GivesSheet}
use Rattle.sheet_input.specs.Faults.{sheet_faults}
use Rattle.sheet_input.specs.Fits.{Attempts, FitsBy, IsFaultAt, IsFaultBy, IsHereOr, Settled, SettlesBy, decimals_of, first_by, is_range, last_by, others_by}
use Rattle.sheet_input.specs.Jobs.{AnyValues, Lifted, unit_of}
use Rattle.sheet_input.specs.Looks.{Look, look_of}
use Rattle.sheet_input.specs.Seen.{any_seen}
use Rattle.sheet_input.specs.Sheets.{LaysSheet, wish_of}
use Rattle.sheet_input.specs.Steps.{DrawnSheet, DrawsBy, DrawsText}
use Rattle.sheet_input.specs.Texts.{PartText, file, sample, ReadsSoup, TakesText, TakesTextOr}
use Rattle.sheet_input.specs.Titles.{title_of}
use Rattle.sheet_input.specs.declared.fault.SheetFault.{SheetFault}
use Rattle.sheet_input.specs.declared.fault.SheetFault.TheVariants.{Common, OwnJob, NoRoom}
use Rattle.sheet_input.specs.declared.refusal.Refusal.{Refusal}
use Rattle.sheet_input.specs.declared.refusal.Told.{Told}
use Rattle.sheet_input.specs.declared.refusal.Told.TheVariants.{Nothing, Text, Surface}
use Rattle.sheet_input.specs.declared.place.FaultPlace.{FaultPlace}
use Rattle.sheet_input.specs.inner.Taking.{size_in, IsDrawnOf, IsHintBy, IsHintIn, IsOfNoText, IsOfOwn, IsOfSheetIn, IsSettledIfRead, IsSurfaceBy, IsToldBy, IsToldIn, IsToldRange}
use Rattle.solid_mesh.specs.declared.faults.MeshFault.{MeshFault}
use Rattle.weld.specs.declared.fault.PartFault.{PartFault}
use Rattle.sheet_input.proofs.SheetChains.{gives_next, refused_first, refused_next}

-- ---- a text
-- nothing is told beside a fault of a sheet
pub sheet_told : (title : List ℕ) (any : AnyJob) (size : Option (List ℕ)) (text : PartText) (e : SheetFault) (told : Told) → IsOfSheetIn e → told ≡ Nothing → IsToldIn title any size text e told
sheet_told title any size text (Common (PartUnread fault)) told of nothing = absurd of
sheet_told title any size text (Common (Mesh fault)) told of nothing = absurd of
sheet_told title any size text (Common fault) told of nothing = nothing
sheet_told title any size text (NoRoom lack) told of nothing = nothing
sheet_told title any size text e told of nothing = absurd of

-- by the size of the part that is named
pub told_as : (title : List ℕ) (any : AnyJob) (size other : Option (List ℕ)) → size ≡ other → (text : PartText) (e : SheetFault) (told : Told) → IsToldIn title any size text e told → IsToldIn title any other text e told
told_as title any size other same text e told h = subst (λ (s : Option (List ℕ)). IsToldIn title any s text e told) same h

module _ (named : Named) (values : AnyValues) (text : PartText) where
  -- what fits is drawn
  pub drawing_given : (title : List ℕ) → title ≡ title_of named.said.title values named.part → (size : Option (List ℕ)) → size ≡ sample_size named.part
      → (settled : Settled) → FitsBy title values size text (Ok settled) → (w : Wish) → w ≡ wish_of values
      → (drawn : Drawn) → LaysSheet w settled.job settled.part (Ok drawn) → (look : Look) → look ≡ look_of named values
      → DrawsText named values text (Ok (record { drawn = drawn; look = look; wish = w }))
  drawing_given title same size is settled fits w asked drawn plans look looks =
      let by_title = subst (λ (t : List ℕ). FitsBy t values size text (Ok settled)) same fits in
      let by_size = subst (λ (s : Option (List ℕ)). FitsBy (title_of named.said.title values named.part) values s text (Ok settled)) is by_title in
      let laid = subst (λ (v : Wish). LaysSheet v settled.job settled.part (Ok drawn)) asked plans in
      (settled, by_size, (drawn, laid, λ i. Ok (record { drawn = drawn; look = looks i; wish = asked i })))

  pub drawn_of_text : {X : Type 0} (view : X → DrawnSheet) → size_in text ≡ sample_size named.part → (r : Result X Refusal) → GivesSheet view (DrawsText named values text) r → IfOk r (λ x. IsDrawnOf named values (view x))
  drawn_of_text view same (Ok x) draws = record { text = text; size = same; draws = draws }
  drawn_of_text view same (Err r) draws = tt

-- ---- a part that is named
-- by the same name
pub titled_as : (said : Option (List ℕ)) (values : AnyValues) (title text part : List ℕ) → title ≡ title_of said values text → text ≡ part → title ≡ title_of said values part
titled_as said values title text part is same = is ∙ ap (λ (p : List ℕ). title_of said values p) same

pub sized_as : (size : Option (List ℕ)) (text part : List ℕ) → size ≡ sample_size text → text ≡ part → size ≡ sample_size part
sized_as size text part is same = is ∙ ap sample_size same

module _ (files : Files) (named : Named) (values : AnyValues) (title : List ℕ) (same : title ≡ title_of named.said.title values named.part) (size : Option (List ℕ)) (is : size ≡ sample_size named.part)
    (job : JobValues) (settles : SettlesBy title values size (Ok job)) where
  abbrev Settles : Result JobValues SheetFault → Type 0
  Settles r = SettlesBy (title_of named.said.title values named.part) values (sample_size named.part) r

  abbrev Taken : JobValues → Result DrawnSheet SheetFault → Type 0
  Taken job = Lifted (TakesText files named.part) and_then λ text. DrawsText named values text

  settled : Settles (Ok job)
  settled =
      subst (λ (t : List ℕ). SettlesBy t values (sample_size named.part) (Ok job)) same (subst (λ (s : Option (List ℕ)). SettlesBy title values s (Ok job)) is settles)

  pub text_refused : (e : Fault) → RefusesOf sheet_faults (Lifted (TakesText files named.part)) (Common e) → RefusesOf sheet_faults (DrawsBy files named values) (Common e)
  text_refused e h = refused_next Settles Taken job settled (Common e) (refused_first (Lifted (TakesText files named.part)) (λ text. DrawsText named values text) (Common e) h)

  pub text_drawn : {X : Type 0} (view : X → DrawnSheet) (text : PartText) → TakesText files named.part (Ok text) → (r : Result X Refusal) → GivesSheet view (DrawsText named values text) r
      → GivesSheet view (DrawsBy files named values) r
  text_drawn view text taken r h =
      gives_next Settles Taken job settled view r (gives_next (Lifted (TakesText files named.part)) (λ text. DrawsText named values text) text taken view r h)

  -- a fault of reading is that of a missing file
  pub text_missing : (e : Fault) → IsOfPart named.part e → (e ≡ ReadFault ThePart → (sample_size named.part ≡ None) × (files named.part ≡ None)) → IsMissingOf sheet_faults (DrawsBy files named values) (Common e)
  text_missing (ReadFault ThePart) of missing =
      let (none, gone) = missing refl in
      inr (job, settled, inl (subst (λ (s : Option (List ℕ)). TakesTextOr s files named.part (Err (ReadFault ThePart))) (sym none) (inl (inl (refl, gone)))))
  text_missing (ReadFault TheJob) of missing = absurd (no_job (sample_size named.part) of)
  text_missing e of missing = tt

-- ---- the order of reading
-- the cuts are in range before the part is read
pub settled_if_read : (named : Named) (values : AnyValues) (job : JobValues) → SettlesBy (title_of named.said.title values named.part) values (sample_size named.part) (Ok job) → (e : SheetFault) → IsSettledIfRead named values e
settled_if_read named values job settles (Common (ReadFault input)) = (job, settles)
settled_if_read named values job settles e = tt

pub own_settled_if_read : (named : Named) (values : AnyValues) (e : SheetFault) → IsOfOwn e → IsSettledIfRead named values e
own_settled_if_read named values (Common (ReadFault input)) of = absurd of
own_settled_if_read named values e of = tt

pub all_settled_if_read : {X : Type 0} (named : Named) (values : AnyValues) (job : JobValues) → SettlesBy (title_of named.said.title values named.part) values (sample_size named.part) (Ok job)
    → (r : Result X Refusal) → IfErr r (λ r. IsSettledIfRead named values r.fault)
all_settled_if_read named values job settles (Ok x) = tt
all_settled_if_read named values job settles (Err r) = settled_if_read named values job settles r.fault

pub settled_as : (named : Named) (values : AnyValues) (title : List ℕ) → title ≡ title_of named.said.title values named.part → (size : Option (List ℕ)) → size ≡ sample_size named.part
    → (job : JobValues) → SettlesBy title values size (Ok job) → SettlesBy (title_of named.said.title values named.part) values (sample_size named.part) (Ok job)
settled_as named values title same size is job settles =
    subst (λ (t : List ℕ). SettlesBy t values (sample_size named.part) (Ok job)) same (subst (λ (s : Option (List ℕ)). SettlesBy title values s (Ok job)) is settles)

-- ---- the last number
abbrev last_of : ℕ → List ℕ → ℕ
last_of n [] = n
last_of n (k ∷ ns) = last_of k ns

later_last : (n m last : ℕ) (here : SheetFault) (later : Type 0) → (later → m ≡ last) → (b : Bool) → is_range here ≡ b → IsHereOr b n m here OwnJob later → m ≡ last
later_last n m last here later more true is h = more h
later_last n m last here later more false is h = absurd (true≢false (ap is_range h.1 ∙ is))

-- that a cut is out of range is told of the last number
range_last : (try : ℕ → Result Settled SheetFault → Type 0) (n : ℕ) (ns : List ℕ) (m : ℕ) → IsFaultAt try n ns m OwnJob → m ≡ last_of n ns
range_last try n [] m h = h.0
range_last try n (k ∷ ns) m (here, tried, at) = later_last n m (last_of k ns) here (IsFaultAt try k ns m OwnJob) (λ h. range_last try k ns m h) (is_range here) refl at

last_is : (decimals : Option ℕ) (size : Option (List ℕ)) → last_of (first_by decimals size) (others_by decimals size) ≡ last_by decimals size
last_is (Some n) size = refl
last_is None (Some size) = refl
last_is None None = refl

-- ---- what is told
no_mesh : (size : Option (List ℕ)) (fault : MeshFault) → IsOfSoupOr size (Mesh fault) → ⊥
no_mesh (Some size) fault h = h
no_mesh None fault h = h

-- nothing is told of a part that can't be taken
pub untaken_told : (old : DeskState) (named : Named) (any : AnyJob) (e : Fault) → IsOfSoup named.part e → IsOfNoText e → IsToldBy old named any (Common e) Nothing
untaken_told old named any (PartUnread cause) of other = absurd other
untaken_told old named any (Mesh fault) of other = absurd (no_mesh (sample_size named.part) fault of)
untaken_told old named any e of other = refl

hint_told : (old : DeskState) (named : Named) (text : PartText) → (old.tells ≡ true → TakesText old.files named.part (Ok text)) → (values : AnyValues) (fault : PartFault) (hint : PartHint) (number : ℕ)
    → IsFaultBy (title_of named.said.title values named.part) values (sample_size named.part) text number (Common (PartUnread fault)) → IsHintIn text number (unit_of values) fault hint → IsHintBy old named values fault hint
hint_told old named (file bytes) taken values fault hint number tells h =
    record { bytes = bytes; decimals = number; helps = h; of_files = λ told. record { taken = taken told; tells = tells } }
hint_told old named (sample size) taken values fault hint number tells h = absurd h

module _ (old : DeskState) (named : Named) (text : PartText) (taken : old.tells ≡ true → TakesText old.files named.part (Ok text)) (any : AnyJob)
    (title : List ℕ) (same : title ≡ title_of named.said.title (any_seen any) named.part) where
  abbrev IsTold : SheetFault → Told → Type 0
  IsTold e told = IsToldIn title any (sample_size named.part) text e told

  tells_by : (number : ℕ) (e : SheetFault) → IsFaultBy title (any_seen any) (sample_size named.part) text number e → (decimals : ℕ) → decimals ≡ number
      → IsFaultBy (title_of named.said.title (any_seen any) named.part) (any_seen any) (sample_size named.part) text decimals e
  tells_by number e h decimals is =
      subst (λ (t : List ℕ). IsFaultBy t (any_seen any) (sample_size named.part) text decimals e) same
      (subst (λ (n : ℕ). IsFaultBy title (any_seen any) (sample_size named.part) text n e) (sym is) h)

  surface_told : (fault : MeshFault) (place : FaultPlace) → IsTold (Common (Mesh fault)) (Surface place) → IsSurfaceBy old named (any_seen any) fault place
  surface_told fault place h =
      let it = h.there in
      record {
        part = it.part;
        has = it.has;
        there = it.there;
        may = it.may;
        of_files = λ tells. record {
          text = text;
          taken = taken tells;
          tells = tells_by h.number (Common (Mesh fault)) h.tells place.decimals it.same;
          reads = subst (λ (n : ℕ). ReadsSoup text n (unit_of (any_seen any)) (Ok it.part)) (sym it.same) it.reads;
        };
      }

  told_by : (e : SheetFault) (told : Told) → IsTold e told → IsToldBy old named any e told
  told_by OwnJob told h =
      let decimals = decimals_of (any_seen any) in
      let is : h.number ≡ last_by decimals (sample_size named.part) =
      range_last (Attempts title (any_seen any) text) (first_by decimals (sample_size named.part)) (others_by decimals (sample_size named.part)) h.number h.tells ∙ last_is decimals (sample_size named.part) in
      subst (λ (n : ℕ). IsToldRange any n told) is h.there
  told_by (Common (PartUnread fault)) (Text hint) h =
      hint_told old named text taken (any_seen any) fault hint h.number (tells_by h.number (Common (PartUnread fault)) h.tells h.number refl) h.there
  told_by (Common (PartUnread fault)) told h = absurd h.there
  told_by (Common (Mesh fault)) (Surface place) h = surface_told fault place h
  told_by (Common (Mesh fault)) told h = absurd h.there
  told_by (Common fault) told h = h
  told_by e told h = h

  pub drawn_told : {X : Type 0} (r : Result X Refusal) → IfErr r (λ r. IsTold r.fault r.told) → IfErr r (λ r. IsToldBy old named any r.fault r.told)
  drawn_told (Ok x) h = tt
  drawn_told (Err r) h = told_by r.fault r.told h
