-- Each step of reading has one answer, and so have steps in order.
use Rattle.std.proofs.Common.{◌≡◌, inl, inr, ℕ, ◌<◌, ◌≤◌, Bool, true, false, List, length, Option, Some, None, IsSomeAnd, Result, Ok, Err, sym, ap, subst, ◌∙◌, unwrap_or, arith}
use Rattle.lex_lines.specs.declared.token.Token.{Token}
use Rattle.lex_lines.proofs.Only.{only_tokens}
use Rattle.dec_text.specs.declared.number.Length.{Length}
use Rattle.desk.specs.Files.{Files}
use Rattle.geometry.specs.Parts.{Part}
use Rattle.weld.specs.Raw.{Raw}
use Rattle.weld.specs.declared.fault.PartFault.{PartFault}
use Rattle.off_reader.proofs.OneReading as off
use Rattle.stl_reader.proofs.OneReading as stl
use Rattle.answers_unique.proofs.OneCorner.{same_corners}
use Rattle.answers_unique.proofs.OneWeld.{one_corners, one_triangles, some_proper}
use Rattle.answers_unique.proofs.OneFault.{one_fault, none_sound}
use Rattle.part_input.specs.Jobs.{limit_of, TakesFile, TakesJob, ReadsJob, TakesReadJob}
use Rattle.part_input.specs.Parts.{ReadsText, WeldsPart, ReadsPart, ChecksPart, sample_size, cubes_along, IsSample, MakesSample, TakesSoupOr, TakesSoup, TakesSolid}
use Rattle.part_input.specs.Reading.{begins_solid, ReadsAs, ReadsPartText}
use Rattle.part_input.specs.Steps.{◌and_then◌}
use Rattle.part_input.specs.declared.fault.Input.{Input}
use Rattle.part_input.specs.declared.fault.Input.TheVariants.{Job as TheJob, Part as ThePart}
use Rattle.part_input.specs.declared.fault.Fault.TheVariants.{Job as JobUnread, Part as PartUnread, Mesh}

-- ---- answers
-- the step has one answer
abbrev pub IsSingle : {A F : Type 0} → (Result A F → Type 0) → Type 0
IsSingle {A} {F} step = (r s : Result A F) → step r → step s → r ≡ s

abbrev pub value_or : {A E : Type 0} → A → Result A E → A
value_or other (Ok x) = x
value_or other (Err e) = other

abbrev pub fault_or : {A E : Type 0} → E → Result A E → E
fault_or other (Ok x) = other
fault_or other (Err e) = e

abbrev pub AreOne : {A E : Type 0} → Result A E → Result A E → Type 0
AreOne r s = r ≡ s

pub same_value : {A E : Type 0} (x y : A) → AreOne {A = A} {E = E} (Ok x) (Ok y) → x ≡ y
same_value x y e = ap (value_or x) e

pub same_fault : {A E : Type 0} (d e : E) → AreOne {A = A} {E = E} (Err d) (Err e) → d ≡ e
same_fault d e h = ap (fault_or d) h

pub not_both : {A E : Type 0} (x : A) (e : E) → AreOne (Ok x) (Err e) → ⊥
not_both {A} {E} x e h = let no : AreOne {A = A} {E = E} (Ok x) (Err e) = h in cc

-- steps in order
module _ {A B F : Type 0} (first : Result A F → Type 0) (next : A → Result B F → Type 0) (f : IsSingle first) (n : (x : A) → IsSingle (next x)) where
  after : (x y : A) (r s : Result B F) → first (Ok x) → first (Ok y) → next x r → next y s → r ≡ s
  after x y r s a b p q = n x r s p (subst (λ (z : A). next z s) (sym (same_value x y (f (Ok x) (Ok y) a b))) q)

  pub single_then : IsSingle (first and_then next)
  single_then (Ok y) (Ok z) (v, a, p) (w, b, q) = after v w (Ok y) (Ok z) a b p q
  single_then (Ok y) (Err e) (v, a, p) (inl b) = absurd (not_both v e (f (Ok v) (Err e) a b))
  single_then (Ok y) (Err e) (v, a, p) (inr (w, b, q)) = after v w (Ok y) (Err e) a b p q
  single_then (Err d) (Ok z) (inl a) (w, b, q) = absurd (not_both w d (f (Ok w) (Err d) b a))
  single_then (Err d) (Ok z) (inr (v, a, p)) (w, b, q) = after v w (Err d) (Ok z) a b p q
  single_then (Err d) (Err e) (inl a) (inl b) = ap Err (same_fault d e (f (Err d) (Err e) a b))
  single_then (Err d) (Err e) (inl a) (inr (w, b, q)) = absurd (not_both w d (f (Ok w) (Err d) b a))
  single_then (Err d) (Err e) (inr (v, a, p)) (inl b) = absurd (not_both v e (f (Ok v) (Err e) a b))
  single_then (Err d) (Err e) (inr (v, a, p)) (inr (w, b, q)) = after v w (Err d) (Err e) a b p q

-- ---- files
pub none_some : {A : Type 0} (o : Option A) (x : A) → o ≡ None → o ≡ Some x → ⊥
none_some o x n e = let no : None ≡ Some x = sym n ∙ e in cc

pub same_some : {A : Type 0} (o : Option A) (x y : A) → o ≡ Some x → o ≡ Some y → x ≡ y
same_some o x y e h = ap (λ p. unwrap_or p x) (sym e ∙ h)

-- a file that is there, and none longer than the limit
module _ (input : Input) (there : Option (List ℕ)) where
  not_longer : (bytes : List ℕ) → there ≡ Some bytes → length bytes ≤ limit_of input → IsSomeAnd there (λ bytes. limit_of input < length bytes) → ⊥
  not_longer bytes e small long = both (subst (λ (o : Option (List ℕ)). IsSomeAnd o (λ bytes. limit_of input < length bytes)) e long)
    where
      both : limit_of input < length bytes → ⊥
      both large = absurd (omega (arith, small, large))

  not_missing : there ≡ None → IsSomeAnd there (λ bytes. limit_of input < length bytes) → ⊥
  not_missing e long = elim (subst (λ (o : Option (List ℕ)). IsSomeAnd o (λ bytes. limit_of input < length bytes)) e long) [ ]

pub file_single : (input : Input) (files : Files) (name : List ℕ) → IsSingle (TakesFile input files name)
file_single input files name (Ok x) (Ok y) (e, small) (h, less) = ap Ok (same_some (files name) x y e h)
file_single input files name (Ok x) (Err d) (e, small) (inl (_, h)) = absurd (none_some (files name) x h e)
file_single input files name (Ok x) (Err d) (e, small) (inr (_, h)) = absurd (not_longer input (files name) x e small h)
file_single input files name (Err d) (Ok y) (inl (_, e)) (h, small) = absurd (none_some (files name) y e h)
file_single input files name (Err d) (Ok y) (inr (_, e)) (h, small) = absurd (not_longer input (files name) y h small e)
file_single input files name (Err d) (Err e) (inl (p, _)) (inl (q, _)) = ap Err (p ∙ sym q)
file_single input files name (Err d) (Err e) (inl (p, none)) (inr (q, long)) = absurd (not_missing input (files name) none long)
file_single input files name (Err d) (Err e) (inr (p, long)) (inl (q, none)) = absurd (not_missing input (files name) none long)
file_single input files name (Err d) (Err e) (inr (p, _)) (inr (q, _)) = ap Err (p ∙ sym q)

-- ---- the job
pub job_bytes_single : (files : Files) (name : Option (List ℕ)) → IsSingle (TakesJob files name)
job_bytes_single files None (Ok x) (Ok y) e h = ap Ok (e ∙ sym h)
job_bytes_single files None (Ok x) (Err d) e h = absurd h
job_bytes_single files None (Err d) s e h = absurd e
job_bytes_single files (Some name) r s p q = file_single TheJob files name r s p q

job_single : (bytes : List ℕ) → IsSingle (ReadsJob bytes)
job_single bytes (Ok x) (Ok y) e h = ap Ok (same_value x y (sym e ∙ h))
job_single bytes (Ok x) (Err d) e (cause, _, h) = absurd (not_both x cause (sym e ∙ h))
job_single bytes (Err d) (Ok y) (cause, _, e) h = absurd (not_both y cause (sym h ∙ e))
job_single bytes (Err d) (Err e) (cause, p, a) (other, q, b) = ap Err (p ∙ ap JobUnread (same_fault cause other (sym a ∙ b)) ∙ sym q)

pub named_job_single : (files : Files) (name : Option (List ℕ)) → IsSingle (TakesReadJob files name)
named_job_single files name = single_then (TakesJob files name) ReadsJob (job_bytes_single files name) job_single

-- ---- the part
reads_as : (is_stl : Bool) (decimals : ℕ) (unit : Length) (bytes : List ℕ) (r s : Result Raw PartFault) → ReadsAs is_stl decimals unit bytes r → ReadsAs is_stl decimals unit bytes s → r ≡ s
reads_as true decimals unit bytes r s p q = stl.only_reading decimals unit bytes r s p q
reads_as false decimals unit bytes r s p q = off.only_reading decimals unit bytes r s p q

pub text_one : (decimals : ℕ) (unit : Length) (bytes : List ℕ) (r s : Result Raw PartFault) → ReadsPartText decimals unit bytes r → ReadsPartText decimals unit bytes s → r ≡ s
text_one decimals unit bytes r s (tokens, a, p) (others, b, q) =
    reads_as (begins_solid bytes tokens) decimals unit bytes r s p
    (subst (λ (l : List Token). ReadsAs (begins_solid bytes l) decimals unit bytes s) (only_tokens false bytes others tokens b a) q)

pub text_single : (decimals : ℕ) (unit : Length) (bytes : List ℕ) → IsSingle (ReadsText decimals unit bytes)
text_single decimals unit bytes (Ok x) (Ok y) p q = ap Ok (same_value x y (text_one decimals unit bytes (Ok x) (Ok y) p q))
text_single decimals unit bytes (Ok x) (Err d) p (cause, _, q) = absurd (not_both x cause (text_one decimals unit bytes (Ok x) (Err cause) p q))
text_single decimals unit bytes (Err d) (Ok y) (cause, _, p) q = absurd (not_both y cause (text_one decimals unit bytes (Ok y) (Err cause) q p))
text_single decimals unit bytes (Err d) (Err e) (cause, a, p) (other, b, q) = ap Err (a ∙ ap PartUnread (same_fault cause other (text_one decimals unit bytes (Err cause) (Err other) p q)) ∙ sym b)

pub weld_single : (raw : Raw) → IsSingle (WeldsPart raw)
weld_single raw (Ok x) (Ok y) (w, _) (v, _) =
    let corners = one_corners raw x.corners y.corners x.triangles y.triangles w v in
    let triangles = one_triangles raw x.corners y.corners x.triangles y.triangles w v in
    λ i. Ok (record { corners = corners i; triangles = triangles i })
weld_single raw (Ok x) (Err e) (w, some) (_, none) = absurd (some_proper raw x.corners x.triangles w some none)
weld_single raw (Err d) (Ok y) (_, none) (v, some) = absurd (some_proper raw y.corners y.triangles v some none)
weld_single raw (Err d) (Err e) (p, _) (q, _) = ap Err (p ∙ sym q)

pub check_single : (part : Part) → IsSingle (ChecksPart part)
check_single part (Ok x) (Ok y) (e, _) (h, _) = ap Ok (e ∙ sym h)
check_single part (Ok x) (Err d) (_, sound) (fault, _, h) = absurd (none_sound part fault h sound)
check_single part (Err d) (Ok y) (fault, _, h) (_, sound) = absurd (none_sound part fault h sound)
check_single part (Err d) (Err e) (fault, p, a) (other, q, b) = ap Err (p ∙ ap Mesh (one_fault part fault other a b) ∙ sym q)

-- a sample
same_sample : (n : Option ℕ) (part other : Part) → IsSomeAnd n (λ n. IsSample n part) → IsSomeAnd n (λ n. IsSample n other) → part ≡ other
same_sample None part other p q = elim p [ ]
same_sample (Some n) part other p q =
    let corners = same_corners part.corners other.corners (p.corners ∙ sym q.corners) in
    let triangles = p.triangles ∙ sym q.triangles in
    λ i. record { corners = corners i; triangles = triangles i }

no_sample : (n : Option ℕ) (part : Part) → IsSomeAnd n (λ n. IsSample n part) → n ≡ None → ⊥
no_sample n part p e = elim (subst (λ (o : Option ℕ). IsSomeAnd o (λ n. IsSample n part)) e p) [ ]

pub sample_single : (size : List ℕ) → IsSingle (MakesSample size)
sample_single size (Ok x) (Ok y) p q = ap Ok (same_sample (cubes_along size) x y p q)
sample_single size (Ok x) (Err d) p (_, none) = absurd (no_sample (cubes_along size) x p none)
sample_single size (Err d) (Ok y) (_, none) q = absurd (no_sample (cubes_along size) y q none)
sample_single size (Err d) (Err e) (p, _) (q, _) = ap Err (p ∙ sym q)

soup_or_single : (size : Option (List ℕ)) (files : Files) (name : List ℕ) (decimals : ℕ) (unit : Length) → IsSingle (TakesSoupOr size files name decimals unit)
soup_or_single (Some size) files name decimals unit = sample_single size
soup_or_single None files name decimals unit =
    single_then (TakesFile ThePart files name) (ReadsPart decimals unit) (file_single ThePart files name)
    (λ bytes. single_then (ReadsText decimals unit bytes) WeldsPart (text_single decimals unit bytes) weld_single)

pub soup_single : (files : Files) (name : List ℕ) (decimals : ℕ) (unit : Length) → IsSingle (TakesSoup files name decimals unit)
soup_single files name decimals unit = soup_or_single (sample_size name) files name decimals unit

pub solid_single : (files : Files) (name : List ℕ) (decimals : ℕ) (unit : Length) → IsSingle (TakesSolid files name decimals unit)
solid_single files name decimals unit = single_then (TakesSoup files name decimals unit) ChecksPart (soup_single files name decimals unit) check_single
