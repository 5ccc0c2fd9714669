-- A run has one answer: each of its steps has, and so have steps in order.
use Rattle.std.proofs.Common.{◌≡◌, ◌<◌, ◌≤◌, ℕ, List, length, inl, inr, Option, Some, None, IsSomeAnd, refl, sym, ap, subst, ◌∙◌, arith}
use Rattle.std.specs.Prelude.{Result, Ok, Err}
use Rattle.desk.specs.Files.{Files}
use Rattle.job_file.specs.Documents.{JobValues}
use Rattle.sheet_plan.specs.declared.sheet.Stroke.{Stroke}
use Rattle.part_input.specs.Jobs.{TakesReadJob}
use Rattle.part_input.specs.Parts.{TakesSolid}
use Rattle.part_input.specs.declared.fault.Fault.{Fault}
use Rattle.part_input.specs.Steps.{◌and_then◌}
use Rattle.part_input.proofs.Singles.{IsSingle, same_value, same_fault, not_both, none_some, same_some, single_then, named_job_single, solid_single}
use Rattle.piece_verify.specs.Lists.{IsList, IsFaultLine}
use Rattle.detail_view.specs.Run.{Given, TakesList, ReadsList, TakesReadList, HasView, listed, viewed, TakesPart, ChecksBy, Checks, TakesViewed, Details, RunsPieces}
use Rattle.detail_view.specs.Steps.{Lifted, Yields}
use Rattle.detail_view.specs.Words.{Check, Detail, Asked, checks, details}
use Rattle.detail_view.specs.declared.fault.PiecesFault.{PiecesFault}
use Rattle.detail_view.specs.declared.fault.PiecesFault.TheVariants.{Usage, Input, List as Unlisted}

-- ---- answers
-- both give something, or both refuse the same
abbrev pub AreAlike : {A : Type 0} → Result A PiecesFault → Result A PiecesFault → Type 0
AreAlike (Ok x) (Ok y) = Unit {0}
AreAlike (Err d) (Err e) = d ≡ e
AreAlike (Ok x) (Err e) = ⊥
AreAlike (Err d) (Ok y) = ⊥

abbrev pub IsDecided : {A : Type 0} → (Result A PiecesFault → Type 0) → Type 0
IsDecided {A} step = (r s : Result A PiecesFault) → step r → step s → AreAlike r s

-- steps in order
module _ {A B : Type 0} (first : Result A PiecesFault → Type 0) (next : A → Result B PiecesFault → Type 0) (f : IsSingle first) where
  module _ (n : (x : A) → IsDecided (next x)) where
    after : (x y : A) (r s : Result B PiecesFault) → first (Ok x) → first (Ok y) → next x r → next y s → AreAlike r s
    after x y r s a b p q = n x r s p (subst (λ (z : A). next z s) (sym (same_value x y (f (Ok x) (Ok y) a b))) q)

    pub decided_then : IsDecided (first and_then next)
    decided_then (Ok y) (Ok z) p q = tt
    decided_then (Ok y) (Err e) (v, a, p) (inl b) = absurd (not_both v e (f (Ok v) (Err e) a b))
    decided_then (Ok y) (Err e) (v, a, p) (inr (w, b, q)) = after v w (Ok y) (Err e) a b p q
    decided_then (Err d) (Ok z) (inl a) (w, b, q) = absurd (not_both w d (f (Ok w) (Err d) b a))
    decided_then (Err d) (Ok z) (inr (v, a, p)) (w, b, q) = after v w (Err d) (Ok z) a b p q
    decided_then (Err d) (Err e) (inl a) (inl b) = same_fault d e (f (Err d) (Err e) a b)
    decided_then (Err d) (Err e) (inl a) (inr (w, b, q)) = absurd (not_both w d (f (Ok w) (Err d) b a))
    decided_then (Err d) (Err e) (inr (v, a, p)) (inl b) = absurd (not_both v e (f (Ok v) (Err e) a b))
    decided_then (Err d) (Err e) (inr (v, a, p)) (inr (w, b, q)) = after v w (Err d) (Err e) a b p q

yields_decided : {A B : Type 0} (f : A → B) (steps : Result A PiecesFault → Type 0) → IsDecided steps → IsDecided (Yields f steps)
yields_decided f steps n (Ok y) (Ok z) p q = tt
yields_decided f steps n (Ok y) (Err e) (x, is, _) q = n (Ok x) (Err e) is q
yields_decided f steps n (Err d) (Ok z) p (x, is, _) = n (Err d) (Ok x) p is
yields_decided f steps n (Err d) (Err e) p q = n (Err d) (Err e) p q

single_decided : {A : Type 0} (steps : Result A PiecesFault → Type 0) → IsSingle steps → IsDecided steps
single_decided steps f (Ok y) (Ok z) p q = tt
single_decided steps f (Ok y) (Err e) p q = absurd (not_both y e (f (Ok y) (Err e) p q))
single_decided steps f (Err d) (Ok z) p q = absurd (not_both z d (f (Ok z) (Err d) q p))
single_decided steps f (Err d) (Err e) p q = same_fault d e (f (Err d) (Err e) p q)

-- ---- jobs and parts
module _ {A : Type 0} (steps : Result A Fault → Type 0) (f : (r s : Result A Fault) → steps r → steps s → r ≡ s) where
  of_input : (e : PiecesFault) → Lifted steps (Err e) → (d : Fault) × (e ≡ Input d) × steps (Err d)
  of_input (Input d) h = (d, refl, h)
  of_input e h = elim h [ ]

  pub lifted_single : IsSingle (Lifted steps)
  lifted_single (Ok x) (Ok y) p q = ap Ok (same_value x y (f (Ok x) (Ok y) p q))
  lifted_single (Ok x) (Err e) p q = let t = of_input e q in absurd (not_both x t.0 (f (Ok x) (Err t.0) p t.2))
  lifted_single (Err d) (Ok y) p q = let t = of_input d p in absurd (not_both y t.0 (f (Ok y) (Err t.0) q t.2))
  lifted_single (Err d) (Err e) p q =
      let t = of_input d p in
      let u = of_input e q in
      ap Err (t.1 ∙ ap Input (same_fault t.0 u.0 (f (Err t.0) (Err u.0) t.2 u.2)) ∙ sym u.1)

job_single : (files : Files) (name : List ℕ) → IsSingle (Lifted (TakesReadJob files (Some name)))
job_single files name = lifted_single (TakesReadJob files (Some name)) (named_job_single files (Some name))

part_single : (files : Files) (name : List ℕ) (job : JobValues) → IsSingle (TakesPart files name job)
part_single files name job = lifted_single (TakesSolid files name job.decimals job.unit) (solid_single files name job.decimals job.unit)

-- ---- views and lists
view_single : (view : ℕ) (job : JobValues) → IsSingle (HasView view job)
view_single view job (Ok x) (Ok y) (e, _) (h, _) = ap Ok (e ∙ sym h)
view_single view job (Ok x) (Err d) (_, less) (_, more) = absurd (omega (arith, less, more))
view_single view job (Err d) (Ok y) (_, more) (_, less) = absurd (omega (arith, less, more))
view_single view job (Err d) (Err e) (p, _) (q, _) = ap Err (p ∙ sym q)

module _ (there : Option (List ℕ)) where
  not_longer : (bytes : List ℕ) → there ≡ Some bytes → length bytes ≤ 16777216 → IsSomeAnd there (λ bytes. 16777216 < length bytes) → ⊥
  not_longer bytes e small long = both (subst (λ (o : Option (List ℕ)). IsSomeAnd o (λ bytes. 16777216 < length bytes)) e long)
    where
      both : 16777216 < length bytes → ⊥
      both large = absurd (omega (arith, small, large))

  not_missing : there ≡ None → IsSomeAnd there (λ bytes. 16777216 < length bytes) → ⊥
  not_missing e long = elim (subst (λ (o : Option (List ℕ)). IsSomeAnd o (λ bytes. 16777216 < length bytes)) e long) [ ]

list_single : (files : Files) (name : List ℕ) → IsSingle (TakesList files name)
list_single files name (Ok x) (Ok y) (e, small) (h, less) = ap Ok (same_some (files name) x y e h)
list_single files name (Ok x) (Err d) (e, small) (inl (_, h)) = absurd (none_some (files name) x h e)
list_single files name (Ok x) (Err d) (e, small) (inr (_, h)) = absurd (not_longer (files name) x e small h)
list_single files name (Err d) (Ok y) (inl (_, e)) (h, small) = absurd (none_some (files name) y e h)
list_single files name (Err d) (Ok y) (inr (_, e)) (h, small) = absurd (not_longer (files name) y h small e)
list_single files name (Err d) (Err e) (inl (p, _)) (inl (q, _)) = ap Err (p ∙ sym q)
list_single files name (Err d) (Err e) (inl (p, none)) (inr (q, long)) = absurd (not_missing (files name) none long)
list_single files name (Err d) (Err e) (inr (p, long)) (inl (q, none)) = absurd (not_missing (files name) none long)
list_single files name (Err d) (Err e) (inr (p, _)) (inr (q, _)) = ap Err (p ∙ sym q)

no_fault : (bytes : List ℕ) (strokes : List Stroke) (n : ℕ) → IsList bytes strokes → IsFaultLine bytes n → ⊥
no_fault bytes strokes n is fault = fault.none (record { list = bytes; strokes = strokes; is_list = is; same = refl })

one_line : (bytes : List ℕ) (n m : ℕ) → IsFaultLine bytes n → IsFaultLine bytes m → n ≡ m
one_line bytes n m f g = by (λ h. g.none (f.least m h)) (λ h. f.none (g.least n h))
  where
    by : (m < n → ⊥) → (n < m → ⊥) → n ≡ m
    by h k = omega (arith, h, k)

read_decided : (bytes : List ℕ) → IsDecided (ReadsList bytes)
read_decided bytes (Ok x) (Ok y) p q = tt
read_decided bytes (Ok x) (Err e) p (fault, _, q) = no_fault bytes x fault.line p q
read_decided bytes (Err d) (Ok y) (fault, _, p) q = no_fault bytes y fault.line q p
read_decided bytes (Err d) (Err e) (fault, a, p) (other, b, q) =
    let same = one_line bytes fault.line other.line p q in
    a ∙ (λ i. Unlisted (record { line = same i })) ∙ sym b

-- ---- the whole
checks_decided : (files : Files) (c : Check) → IsDecided (Checks files c)
checks_decided files c =
    decided_then (Lifted (TakesReadJob files (Some c.job))) (ChecksBy files c) (job_single files c.job)
    (λ job. decided_then (TakesPart files c.part job) (λ part. Yields (listed job part) (TakesReadList files c.list)) (part_single files c.part job)
    (λ part. yields_decided (listed job part) (TakesReadList files c.list) (decided_then (TakesList files c.list) ReadsList (list_single files c.list) read_decided)))

details_decided : (files : Files) (d : Detail) → IsDecided (Details files d)
details_decided files d =
    decided_then (TakesViewed files d) (λ job. Yields (viewed job) (TakesPart files d.part job))
    (single_then (Lifted (TakesReadJob files (Some d.job))) (HasView d.view) (job_single files d.job) (view_single d.view))
    (λ job. yields_decided (viewed job) (TakesPart files d.part job) (single_decided (TakesPart files d.part job) (part_single files d.part job)))

pub run_decided : (asked : Option Asked) (files : Files) → IsDecided (RunsPieces asked files)
run_decided None files (Ok x) (Ok y) p q = tt
run_decided None files (Ok x) (Err e) p q = absurd (not_both x Usage p)
run_decided None files (Err d) (Ok y) p q = absurd (not_both y Usage q)
run_decided None files (Err d) (Err e) p q = same_fault {A = Given} d Usage p ∙ sym (same_fault {A = Given} e Usage q)
run_decided (Some (checks c)) files r s p q = checks_decided files c r s p q
run_decided (Some (details d)) files r s p q = details_decided files d r s p q
