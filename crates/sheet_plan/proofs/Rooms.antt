-- What a sheet at one scale is, and why there is none.
use Rattle.std.proofs.Common.{◌≡◌, ℕ, zero, suc, ◌≤◌, List, [], ◌∷◌, length, slice_get, None, Some, Option, sym, ap, ◌∙◌, subst, arith, Bool}
use Rattle.std.specs.Prelude.{ℤ, ◌≤ℤ◌}
use Rattle.job_file.specs.declared.job.Job.{Job}
use Rattle.job_file.specs.declared.job.Scale.{Scale}
use Rattle.job_file.specs.declared.view.JobView.{JobView}
use Rattle.sheet_plan.specs.declared.bounds.Extent.{Extent}
use Rattle.sheet_plan.specs.declared.cells.Shape.{Shape}
use Rattle.sheet_plan.specs.declared.errors.PlanError.{PlanError}
use Rattle.sheet_plan.specs.declared.errors.PlanError.TheVariants.{DoesNotFit, Memory}
use Rattle.sheet_plan.specs.Layout.{shapes_of, need_w, need_h, have_w, have_h, HaveRoom}
use Rattle.sheet_plan.specs.Numbers.{Measure}
use Rattle.sheet_plan.specs.Plans.{sheet_width, sheet_height, job_shapes, FitsAt, fit_dens, NoneFits, HasNoRoom, HasNoScale, IsSheetRefused}
use Rattle.sheet_plan.specs.inner.Refusals.{IsRefusedAt}

pub length_shapes_of : (third : Bool) (m : Measure) (vs : List JobView) (es : List Extent) → length vs ≡ length es → length (shapes_of third m vs es) ≡ length vs
length_shapes_of third m [] es h = omega arith
length_shapes_of third m (v ∷ vs) [] h = absurd (omega arith)
length_shapes_of third m (v ∷ vs) (e ∷ es) h = ap suc (length_shapes_of third m vs es (omega arith))

pub as_many : (job : Job) (extents : List Extent) (m : Measure) (shapes : List Shape) → length job.views.items ≡ length extents → shapes ≡ shapes_of job.third m job.views.items extents → length shapes ≡ length job.views.items
as_many job extents m shapes count is = ap length is ∙ length_shapes_of job.third m job.views.items extents count

module _ (job : Job) (extents : List Extent) (num den : ℕ) (shapes : List Shape) (nw nh w h : ℤ) (is : shapes ≡ job_shapes job extents num den)
    (nw_is : nw ≡ need_w shapes) (nh_is : nh ≡ need_h shapes) (w_is : w ≡ sheet_width job.paper job.portrait) (h_is : h ≡ sheet_height job.paper job.portrait) where
  need_across : nw ≡ need_w (job_shapes job extents num den)
  need_across = nw_is ∙ ap need_w is

  need_down : nh ≡ need_h (job_shapes job extents num den)
  need_down = nh_is ∙ ap need_h is

  pub room : HaveRoom nw nh w h → FitsAt job extents num den
  room r = record {
    across = subst (λ (z : ℤ). z ≤ℤ have_w (sheet_width job.paper job.portrait)) need_across (subst (λ (z : ℤ). nw ≤ℤ have_w z) w_is r.across);
    down = subst (λ (z : ℤ). z ≤ℤ have_h (sheet_height job.paper job.portrait)) need_down (subst (λ (z : ℤ). nh ≤ℤ have_h z) h_is r.down);
  }

  pub no_room : ¬ HaveRoom nw nh w h → HasNoRoom job extents num den nw nh (have_w w) (have_h h)
  no_room none = record {
    not_fit = λ f. none (record {
      across = subst (λ (z : ℤ). z ≤ℤ have_w w) (sym need_across) (subst (λ (z : ℤ). need_w (job_shapes job extents num den) ≤ℤ have_w z) (sym w_is) f.across);
      down = subst (λ (z : ℤ). z ≤ℤ have_h h) (sym need_down) (subst (λ (z : ℤ). need_h (job_shapes job extents num den) ≤ℤ have_h z) (sym h_is) f.down);
    });
    need_w_is = need_across;
    need_h_is = need_down;
    have_w_is = ap have_w w_is;
    have_h_is = ap have_h h_is;
  }

-- ---- no scale fits
module _ (job : Job) (extents : List Extent) (num den : ℕ) (none : job.scale ≡ None) (one : num ≡ 1) (last : slice_get fit_dens 6 ≡ Some den) (before : NoneFits job extents 6) where
  hundred : den ≡ 100
  hundred = sym (cc)

  at_hundred : (w h a b : ℤ) → HasNoRoom job extents num den w h a b → HasNoRoom job extents 1 100 w h a b
  at_hundred w h a b r = subst (λ (n : ℕ). HasNoRoom job extents 1 n w h a b) hundred (subst (λ (n : ℕ). HasNoRoom job extents n den w h a b) one r)

  none_fits : ¬ FitsAt job extents 1 100 → NoneFits job extents 7
  none_fits fails j d below at = by_cases j d (omega arith) at
    where
      by_cases : (j d : ℕ) → j ≤ 6 → slice_get fit_dens j ≡ Some d → ¬ FitsAt job extents 1 d
      by_cases zero d h at = before 0 d (omega arith) at
      by_cases (suc zero) d h at = before 1 d (omega arith) at
      by_cases (suc (suc zero)) d h at = before 2 d (omega arith) at
      by_cases (suc (suc (suc zero))) d h at = before 3 d (omega arith) at
      by_cases (suc (suc (suc (suc zero)))) d h at = before 4 d (omega arith) at
      by_cases (suc (suc (suc (suc (suc zero))))) d h at = before 5 d (omega arith) at
      by_cases (suc (suc (suc (suc (suc (suc zero)))))) d h at = let e : 100 ≡ d = cc in subst (λ (n : ℕ). ¬ FitsAt job extents 1 n) e fails
      by_cases (suc (suc (suc (suc (suc (suc (suc j))))))) d h at = absurd (omega arith)

  pub refused_last : (e : PlanError) → IsRefusedAt job extents num den e → IsSheetRefused job extents e
  refused_last (DoesNotFit w h a b) r =
      let s = at_hundred w h a b r in
      subst (λ (z : Option Scale). HasNoScale z job extents w h a b) (sym none) (none_fits s.not_fit, s)
  refused_last (Memory e) r = tt
