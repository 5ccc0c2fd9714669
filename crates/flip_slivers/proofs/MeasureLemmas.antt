-- What is measured of triangles, and which is lower.
use Rattle.std.proofs.Common.{◌≡◌, ℕ, zero, suc, ◌+◌, ◌<◌, List, [], ◌∷◌, ◌++◌, length, Some, refl, sym, ap, ◌∙◌, subst, arith, ⊎_elim, ◌⊎◌, inl, inr}
use Rattle.std.specs.Prelude.{slice_get, pos, ◌*ℤ◌, ◌<ℤ◌}
use Rattle.std.proofs.lemmas.Bool.{cases_eq}
use Rattle.std.proofs.lemmas.List.{length-append}
use Rattle.std.proofs.lemmas.Option.{same_Some, slice_get_within}
use Rattle.lattice.specs.declared.points.Corner.{Corner}
use Rattle.lattice.specs.declared.soup.Tri.{Tri}
use Rattle.flip_slivers.specs.Heights.{HasHeight, IsLower}
use Rattle.flip_slivers.specs.Flips.{IsRise}
use Rattle.flip_slivers.specs.declared.heights.Height.{Height}
use Rattle.flip_slivers.specs.declared.measures.Measure.{Measure}
use Rattle.flip_slivers.specs.inner.Measures.{IsMeasure, AreMeasures}
use Rattle.flip_slivers.proofs.OneHeight.{lower_as}

-- the first height is less, by the products that tell it
abbrev pub Less : Height → Height → Type 0
Less h k = (pos h.area *ℤ pos k.side) <ℤ (pos k.area *ℤ pos h.side)

lower_from : (corners : List Corner) (s u : Tri) (m : Measure) (k : Height) → IsMeasure corners s m → HasHeight corners u (pos k.area) (pos k.side) → Less m.height k → IsLower corners s u
lower_from corners s u m k x h less = record {
  area = pos m.height.area;
  side = pos m.height.side;
  other_area = pos k.area;
  other_side = pos k.side;
  height = x.height;
  other_height = h;
  less = less;
}

less_from : (corners : List Corner) (s u : Tri) (m : Measure) (k : Height) → IsMeasure corners s m → HasHeight corners u (pos k.area) (pos k.side) → IsLower corners s u → Less m.height k
less_from corners s u m k x h lower = lower_as corners s u m.height.area m.height.side k.area k.side x.height h lower

-- the two new triangles with their heights
pub record AreHeights (corners : List Corner) (u v : Tri) (here there : Height) : Type 0 where
  pub first : HasHeight corners u (pos here.area) (pos here.side)
  pub second : HasHeight corners v (pos there.area) (pos there.side)

pub first_rises : (corners : List Corner) (s t u v : Tri) (m : Measure) (here there : Height) → AreHeights corners u v here there → IsMeasure corners s m → Less m.height here × Less m.height there → IsRise corners s t u v
first_rises corners s t u v m here there are x less = inl (lower_from corners s u m here x are.first less.0, lower_from corners s v m there x are.second less.1)

pub second_rises : (corners : List Corner) (s t u v : Tri) (m : Measure) (here there : Height) → AreHeights corners u v here there → IsMeasure corners t m → Less m.height here × Less m.height there → IsRise corners s t u v
second_rises corners s t u v m here there are x less = inr (lower_from corners t u m here x are.first less.0, lower_from corners t v m there x are.second less.1)

pub rise_less : (corners : List Corner) (s t u v : Tri) (m k : Measure) (here there : Height) → AreHeights corners u v here there → IsMeasure corners s m → IsMeasure corners t k → IsRise corners s t u v
    → (Less m.height here × Less m.height there) ⊎ (Less k.height here × Less k.height there)
rise_less corners s t u v m k here there are x y = ⊎_elim
    (λ h. inl (less_from corners s u m here x are.first h.0, less_from corners s v m there x are.second h.1))
    (λ h. inr (less_from corners t u k here y are.first h.0, less_from corners t v k there y are.second h.1))

-- a rise needs one that is less than the first new height
pub rise_less_first : (corners : List Corner) (s t u v : Tri) (m k : Measure) (here : Height) → HasHeight corners u (pos here.area) (pos here.side) → IsMeasure corners s m → IsMeasure corners t k → IsRise corners s t u v
    → Less m.height here ⊎ Less k.height here
rise_less_first corners s t u v m k here first x y = ⊎_elim (λ h. inl (less_from corners s u m here x first h.0)) (λ h. inr (less_from corners t u k here y first h.0))

-- ---- all triangles
pub slice_get_pushed : {X : Type 0} (xs : List X) (x : X) → slice_get (xs ++ x ∷ []) (length xs) ≡ Some x
slice_get_pushed [] x = refl
slice_get_pushed (y ∷ xs) x = slice_get_pushed xs x

pub slice_get_earlier : {X : Type 0} (xs : List X) (x : X) (i : ℕ) → i < length xs → slice_get (xs ++ x ∷ []) i ≡ slice_get xs i
slice_get_earlier [] x i h = absurd (omega arith)
slice_get_earlier (y ∷ xs) x zero h = refl
slice_get_earlier (y ∷ xs) x (suc i) h = slice_get_earlier xs x i (omega arith)

-- the measures of the first triangles
pub record MeasuresFirst (corners : List Corner) (triangles : List Tri) (count : ℕ) (measures : List Measure) : Type 0 where
  pub for_each : length measures ≡ count
  pub each : (i : ℕ) (t : Tri) (m : Measure) → slice_get triangles i ≡ Some t → slice_get measures i ≡ Some m → IsMeasure corners t m

pub none_measured : (corners : List Corner) (triangles : List Tri) (measures : List Measure) → measures ≡ [] → MeasuresFirst corners triangles 0 measures
none_measured corners triangles measures none = record {
  for_each = ap length none;
  each = λ i t m at there. absurd (nothing (slice_get_within measures i m there));
}
  where
    nothing : {i : ℕ} → i < length measures → ⊥
    nothing h = omega (arith, ap length none)

pub more_measured : (corners : List Corner) (triangles : List Tri) (count : ℕ) (t : Tri) (m : Measure) (measures new : List Measure) → MeasuresFirst corners triangles count measures → slice_get triangles count ≡ Some t
    → IsMeasure corners t m → new ≡ measures ++ m ∷ [] → MeasuresFirst corners triangles (count + 1) new
more_measured corners triangles count t m measures new before at here e = record {
  for_each = ap length e ∙ length-append measures (m ∷ []) ∙ ap (λ (n : ℕ). n + 1) before.for_each;
  each = each;
}
  where
    each : (i : ℕ) (u : Tri) (k : Measure) → slice_get triangles i ≡ Some u → slice_get new i ≡ Some k → IsMeasure corners u k
    each i u k at_i there =
        let G : List Measure → Type 0 = λ ms. slice_get ms i ≡ Some k in
        let now : slice_get (measures ++ m ∷ []) i ≡ Some k = subst G e there in
        elim (cases_eq i count) [
          | inl same ↦
              let first : t ≡ u = same_Some t u (sym at ∙ ap (slice_get triangles) (sym same) ∙ at_i) in
              let second : m ≡ k = same_Some m k (sym (slice_get_pushed measures m) ∙ ap (slice_get (measures ++ m ∷ [])) (sym (same ∙ sym before.for_each)) ∙ now) in
              let P : Tri → Type 0 = λ v. IsMeasure corners v m in
              let Q : Measure → Type 0 = λ n. IsMeasure corners u n in
              subst Q second (subst P first here)
          | inr other ↦
              let within : i < length (measures ++ m ∷ []) = slice_get_within (measures ++ m ∷ []) i k now in
              let earlier : i < length measures = omega (arith, length-append measures (m ∷ []), before.for_each) in
              before.each i u k at_i (sym (slice_get_earlier measures m i earlier) ∙ now)
        ]

pub all_measured : (corners : List Corner) (triangles : List Tri) (count : ℕ) (measures : List Measure) → count ≡ length triangles → MeasuresFirst corners triangles count measures → AreMeasures corners triangles measures
all_measured corners triangles count measures all first = record { for_each = first.for_each ∙ all; each = first.each }
