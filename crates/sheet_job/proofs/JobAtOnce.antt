-- A job of version 3 is one job at a number of decimals, or is too far away there, and not both.
use Rattle.std.proofs.Common.{◌≡◌, ℕ, ℤ, List, [], ◌∷◌, ◌++◌, refl, sym, ap, subst, ◌∙◌, arith}
use Rattle.std.specs.List.{AllZip}
use Rattle.dec_text.proofs.Parts.{one_value, one_units}
use Rattle.dec_text.specs.Numbers.{magnitude_of}
use Rattle.dec_text.specs.declared.number.Length.{Length}
use Rattle.job_file.specs.Documents.{JobValues}
use Rattle.job_file.specs.ViewValues.{Shown, ViewValues, behind}
use Rattle.sheet_job.specs.JobsAt.{IsUnitsAt, IsShownAt, IsViewAt, IsNumberTooFar, IsShownTooFar, IsTooFar, IsTooFarIn, IsJobAt}
use Rattle.sheet_job.specs.SheetJobs.{SheetJobValues}
use Rattle.sheet_job.specs.SheetViews.{SheetShownValues, plain, cut, SheetViewValues}

-- ---- one view
units_once : (d : ℕ) (u : Length) (at : List ℕ) (y z : ℤ) → IsUnitsAt d u at y → IsUnitsAt d u at z → y ≡ z
units_once d u at y z h k = sym h.2 ∙ one_units d u at h.0 k.0 ∙ k.2

near_or_far : (d : ℕ) (u : Length) (at : List ℕ) (y : ℤ) → IsUnitsAt d u at y → IsNumberTooFar d u at → ⊥
near_or_far d u at y h far = let same : magnitude_of d u h.0 ≡ magnitude_of d u far.0 = one_value d u at h.0 far.0 in absurd (omega (arith, same, h.1, far.1))

shown_once : (d : ℕ) (u : Length) (s : SheetShownValues) (x y : Shown) → IsShownAt d u s x → IsShownAt d u s y → x ≡ y
shown_once d u (plain direction) x y h k = h ∙ sym k
shown_once d u (cut axis at from_high value_at) x y h k =
    h.2 ∙ ap (λ (z : ℤ). behind (record { axis = axis; at = z; from_high = from_high })) (units_once d u at h.0 k.0 h.1 k.1) ∙ sym k.2

same_view : (v w : ViewValues) → v.shows ≡ w.shows → v.named ≡ w.named → v ≡ w
same_view v w shows named = ap (λ s. record { shows = s; named = v.named }) shows ∙ ap (λ n. record { shows = w.shows; named = n }) named

view_once : (d : ℕ) (u : Length) (s : SheetViewValues) (v w : ViewValues) → IsViewAt d u s v → IsViewAt d u s w → v ≡ w
view_once d u s v w h k = same_view v w (shown_once d u s.shows v.shows w.shows h.shows k.shows) (h.named ∙ sym k.named)

shown_near : (d : ℕ) (u : Length) (s : SheetShownValues) (x : Shown) → IsShownAt d u s x → IsShownTooFar d u s → ⊥
shown_near d u (plain direction) x h far = absurd far
shown_near d u (cut axis at from_high value_at) x h far = near_or_far d u at h.0 h.1 far

-- ---- all views
views_once : (d : ℕ) (u : Length) (ss : List SheetViewValues) (vs ws : List ViewValues) → AllZip (IsViewAt d u) ss vs → AllZip (IsViewAt d u) ss ws → vs ≡ ws
views_once d u [] [] [] h k = refl
views_once d u [] [] (w ∷ ws) h k = absurd k
views_once d u [] (v ∷ vs) ws h k = absurd h
views_once d u (s ∷ ss) [] ws h k = absurd h
views_once d u (s ∷ ss) (v ∷ vs) [] h k = absurd k
views_once d u (s ∷ ss) (v ∷ vs) (w ∷ ws) h k =
    ap (λ (x : ViewValues). x ∷ vs) (view_once d u s v w h.0 k.0) ∙ ap (λ (xs : List ViewValues). w ∷ xs) (views_once d u ss vs ws h.1 k.1)

none_far : (d : ℕ) (u : Length) (before : List SheetViewValues) (s : SheetViewValues) (after : List SheetViewValues) (vs : List ViewValues)
    → AllZip (IsViewAt d u) (before ++ s ∷ after) vs → IsTooFar d u s → ⊥
none_far d u [] s after [] h far = absurd h
none_far d u [] s after (v ∷ vs) h far = shown_near d u s.shows v.shows h.0.shows far
none_far d u (b ∷ before) s after [] h far = absurd h
none_far d u (b ∷ before) s after (v ∷ vs) h far = none_far d u before s after vs h.1 far

-- ---- jobs
same_values : (v w : JobValues) → v.decimals ≡ w.decimals → v.third ≡ w.third → v.paper ≡ w.paper → v.scale ≡ w.scale → v.crease ≡ w.crease → v.title ≡ w.title → v.outputs ≡ w.outputs → v.unit ≡ w.unit → v.portrait ≡ w.portrait → v.views ≡ w.views → v ≡ w
same_values v w a b c d e f g h i j =
    ap (λ x. record { decimals = x; third = v.third; paper = v.paper; scale = v.scale; crease = v.crease; title = v.title; outputs = v.outputs; unit = v.unit; portrait = v.portrait; views = v.views }) a
    ∙ ap (λ x. record { decimals = w.decimals; third = x; paper = v.paper; scale = v.scale; crease = v.crease; title = v.title; outputs = v.outputs; unit = v.unit; portrait = v.portrait; views = v.views }) b
    ∙ ap (λ x. record { decimals = w.decimals; third = w.third; paper = x; scale = v.scale; crease = v.crease; title = v.title; outputs = v.outputs; unit = v.unit; portrait = v.portrait; views = v.views }) c
    ∙ ap (λ x. record { decimals = w.decimals; third = w.third; paper = w.paper; scale = x; crease = v.crease; title = v.title; outputs = v.outputs; unit = v.unit; portrait = v.portrait; views = v.views }) d
    ∙ ap (λ x. record { decimals = w.decimals; third = w.third; paper = w.paper; scale = w.scale; crease = x; title = v.title; outputs = v.outputs; unit = v.unit; portrait = v.portrait; views = v.views }) e
    ∙ ap (λ x. record { decimals = w.decimals; third = w.third; paper = w.paper; scale = w.scale; crease = w.crease; title = x; outputs = v.outputs; unit = v.unit; portrait = v.portrait; views = v.views }) f
    ∙ ap (λ x. record { decimals = w.decimals; third = w.third; paper = w.paper; scale = w.scale; crease = w.crease; title = w.title; outputs = x; unit = v.unit; portrait = v.portrait; views = v.views }) g
    ∙ ap (λ x. record { decimals = w.decimals; third = w.third; paper = w.paper; scale = w.scale; crease = w.crease; title = w.title; outputs = w.outputs; unit = x; portrait = v.portrait; views = v.views }) h
    ∙ ap (λ x. record { decimals = w.decimals; third = w.third; paper = w.paper; scale = w.scale; crease = w.crease; title = w.title; outputs = w.outputs; unit = w.unit; portrait = x; views = v.views }) i
    ∙ ap (λ x. record { decimals = w.decimals; third = w.third; paper = w.paper; scale = w.scale; crease = w.crease; title = w.title; outputs = w.outputs; unit = w.unit; portrait = w.portrait; views = x }) j

-- one job alone
pub job_at_one : (n : ℕ) (title : List ℕ) (job : SheetJobValues) (v w : JobValues) → IsJobAt n title job v → IsJobAt n title job w → v ≡ w
job_at_one n title job v w h k = same_values v w
    (h.decimals_are ∙ sym k.decimals_are) (h.third ∙ sym k.third) (h.paper ∙ sym k.paper) (h.scale ∙ sym k.scale) (h.crease ∙ sym k.crease)
    (h.title_is ∙ sym k.title_is) (h.outputs ∙ sym k.outputs) (h.unit ∙ sym k.unit) (h.portrait ∙ sym k.portrait)
    (views_once n job.unit job.views v.views w.views h.views k.views)

-- and no view is too far away
pub job_at_near : (n : ℕ) (title : List ℕ) (job : SheetJobValues) (v : JobValues) → IsJobAt n title job v → IsTooFarIn n job → ⊥
job_at_near n title job v h far =
    none_far n job.unit far.before far.view far.after v.views (subst (λ (views : List SheetViewValues). AllZip (IsViewAt n job.unit) views v.views) far.all h.views) far.too_far
