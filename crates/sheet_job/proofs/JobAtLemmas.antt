-- Views at a number of decimals.
use Rattle.std.proofs.Common.{◌≡◌, ℕ, ℤ, Err, ◌+◌, ◌<◌, zero, suc, List, [], ◌∷◌, ◌++◌, length, get_or, take, drop, map, refl, sym, ap, subst, ◌∙◌, arith}
use Rattle.std.proofs.lemmas.List.{at_drop_more, take_more, take-append-drop, map-append}
use Rattle.std.specs.List.{AllPairs, AllZip}
use Rattle.dec_text.specs.declared.number.Length.{Length}
use Rattle.job_file.specs.Seen.{view_seen}
use Rattle.job_file.specs.Views.{AreNamedApart}
use Rattle.job_file.specs.declared.view.JobView.{JobView}
use Rattle.sheet_job.specs.JobsAt.{IsUnitsAt, IsNumberTooFar, IsViewAt, IsFirstTooFar, IsTooFarIn, GivesJobAt}
use Rattle.sheet_job.specs.SheetSeen.{sheet_job_seen, sheet_view_seen}
use Rattle.sheet_job.specs.declared.flaw.PlacedFlaw.{PlacedFlaw}
use Rattle.sheet_job.specs.declared.job.SheetJob.{SheetJob}
use Rattle.sheet_job.specs.declared.job_at.AtError.{AtError}
use Rattle.sheet_job.specs.declared.job_at.AtError.TheVariants.{Range, Memory}
use Rattle.sheet_job.specs.declared.view.SheetView.{SheetView}
use Rattle.sheet_job.specs.inner.ViewsAt.{GivesViewsAt}

-- ---- lists
pub take_one_more : {X : Type 0} (xs : List X) (k : ℕ) (x : X) → k < length xs → x ≡ get_or xs k x → take (k + 1) xs ≡ take k xs ++ x ∷ []
take_one_more xs k x within at = take_more xs k x within ∙ ap (λ y. take k xs ++ y ∷ []) (sym at)

pub split_there : {X : Type 0} (xs : List X) (k : ℕ) (x : X) → k < length xs → x ≡ get_or xs k x → xs ≡ take k xs ++ x ∷ drop (k + 1) xs
split_there xs k x within at =
    sym (take-append-drop k xs) ∙ at_drop_more (λ ys. take k xs ++ ys) xs k x within ∙ ap (λ y. take k xs ++ y ∷ drop (k + 1) xs) (sym at)

pub all_zip_push : {A B : Type 0} (R : A → B → Type 0) (xs : List A) (ys : List B) (x : A) (y : B) → AllZip R xs ys → R x y → AllZip R (xs ++ x ∷ []) (ys ++ y ∷ [])
all_zip_push R [] [] x y h r = (r, tt)
all_zip_push R [] (y2 ∷ ys) x y h r = absurd h
all_zip_push R (x2 ∷ xs) [] x y h r = absurd h
all_zip_push R (x2 ∷ xs) (y2 ∷ ys) x y h r = (h.0, all_zip_push R xs ys x y h.1 r)

-- ---- views
one_more : (vs : List SheetView) (v : SheetView) → map sheet_view_seen (vs ++ v ∷ []) ≡ map sheet_view_seen vs ++ sheet_view_seen v ∷ []
one_more vs v = map-append sheet_view_seen vs (v ∷ [])

one_more_made : (ws : List JobView) (w : JobView) → map view_seen (ws ++ w ∷ []) ≡ map view_seen ws ++ view_seen w ∷ []
one_more_made ws w = map-append view_seen ws (w ∷ [])

pub views_push : (d : ℕ) (u : Length) (vs : List SheetView) (ws : List JobView) (v : SheetView) (w : JobView) → AllZip (IsViewAt d u) (map sheet_view_seen vs) (map view_seen ws)
    → IsViewAt d u (sheet_view_seen v) (view_seen w) → AllZip (IsViewAt d u) (map sheet_view_seen (vs ++ v ∷ [])) (map view_seen (ws ++ w ∷ []))
views_push d u vs ws v w h r = rw (one_more vs v, one_more_made ws w) (all_zip_push (IsViewAt d u) (map sheet_view_seen vs) (map view_seen ws) (sheet_view_seen v) (view_seen w) h r)

pub as_many : (d : ℕ) (u : Length) (vs : List SheetView) (ws : List JobView) → AllZip (IsViewAt d u) (map sheet_view_seen vs) (map view_seen ws) → length ws ≡ length vs
as_many d u [] [] h = refl
as_many d u [] (w ∷ ws) h = absurd h
as_many d u (v ∷ vs) [] h = absurd h
as_many d u (v ∷ vs) (w ∷ ws) h = ap (λ n. suc n) (as_many d u vs ws h.1)

named_there : (d : ℕ) (u : Length) (vs : List SheetView) (ws : List JobView) (i : ℕ) (x : SheetView) (y : JobView) → AllZip (IsViewAt d u) (map sheet_view_seen vs) (map view_seen ws) → i < length ws
    → (get_or ws i y).named ≡ (get_or vs i x).named
named_there d u [] [] i x y h within = absurd (omega (arith, within))
named_there d u [] (w ∷ ws) i x y h within = absurd h
named_there d u (v ∷ vs) [] i x y h within = absurd h
named_there d u (v ∷ vs) (w ∷ ws) zero x y h within = h.0.named
named_there d u (v ∷ vs) (w ∷ ws) (suc i) x y h within = named_there d u vs ws i x y h.1 (omega (arith, within))

pub apart_there : (d : ℕ) (u : Length) (vs : List SheetView) (ws : List JobView) → AllZip (IsViewAt d u) (map sheet_view_seen vs) (map view_seen ws)
    → AllPairs (λ v w. AreNamedApart v.named w.named) vs → AllPairs (λ v w. AreNamedApart v.named w.named) ws
apart_there d u [] ws h apart = λ i j y before within. let none : length ws ≡ 0 = as_many d u [] ws h in absurd (omega (arith, none, within))
apart_there d u (v ∷ vs) ws h apart = λ i j y before within p ip jp.
    let many : length ws ≡ length (v ∷ vs) = as_many d u (v ∷ vs) ws h in
    apart i j v before (omega (arith, many, within)) p
    (sym (named_there d u (v ∷ vs) ws i v y h (omega (arith, before, within))) ∙ ip)
    (sym (named_there d u (v ∷ vs) ws j v y h within) ∙ jp)

-- ---- too far away
-- some view of the job is
pub too_far_in : (d : ℕ) (job : SheetJob) (placed : PlacedFlaw) → IsFirstTooFar d job.unit job.views.items placed → IsTooFarIn d (sheet_job_seen job)
too_far_in d job placed f = record {
  before = map sheet_view_seen f.before;
  view = sheet_view_seen f.view;
  after = map sheet_view_seen f.after;
  all = ap (map sheet_view_seen) f.all ∙ map-append sheet_view_seen f.before (f.view ∷ f.after);
  too_far = f.too_far;
}

-- the same error of views is one of the job
pub error_is : (d : ℕ) (title : List ℕ) (job : SheetJob) (vs : List SheetView) (e : AtError) → vs ≡ job.views.items → GivesViewsAt d job.unit vs (Err e) → GivesJobAt d title job (Err e)
error_is d title job vs (Range placed) same h =
    let first : IsFirstTooFar d job.unit job.views.items placed = subst (λ (xs : List SheetView). IsFirstTooFar d job.unit xs placed) same h in
    (first, too_far_in d job placed first)
error_is d title job vs (Memory m) same h = tt

-- ---- one word for another
pub units_moved : (d : ℕ) (u : Length) (a b : List ℕ) (z : ℤ) → a ≡ b → IsUnitsAt d u a z → IsUnitsAt d u b z
units_moved d u a b z e h = subst (λ (w : List ℕ). IsUnitsAt d u w z) e h

pub far_moved : (d : ℕ) (u : Length) (a b : List ℕ) → a ≡ b → IsNumberTooFar d u a → IsNumberTooFar d u b
far_moved d u a b e h = subst (λ (w : List ℕ). IsNumberTooFar d u w) e h
