use Rattle.std.proofs.Common.{◌≡◌, ◌≤◌, ℕ, ◌∙◌, Option, Some, None, refl, sym, subst, rules, FitsSigned}
use Rattle.std.specs.Prelude.{ℤ, pos, ◌*ℤ◌, IsNone, IfSome}
use Rattle.std.specs.Int.{w64}
use Rattle.std.proofs.lemmas.Int.{to_z-of_z}
use Rattle.exact_frac.specs.declared.Frac.{Frac}
use Rattle.lattice.specs.Triple.{Triple}
use Rattle.lattice.specs.Points.{of_dir, of_spot, IsRatio}
use Rattle.cut_plane.specs.Diagonals.{diagonal_of}
use Rattle.cut_plane.specs.declared.segments.Segment.{Segment}
use Rattle.hatch_fill.specs.declared.places.HatchPlace.{HatchPlace}
use Rattle.hatch_fill.specs.inner.Numbers.{IsFirstNumber}
use Rattle.hatch_fill.specs.inner.Stretches.{IsPlaceOf, IsSpotOn, HasStretch}
use Rattle.hatch_fill.proofs.Along.{first_is}
use Rattle.hatch_fill.proofs.stretches.ends_along.Goals as goal

if_there : (o : Option HatchPlace) (P : HatchPlace → Type 0) (t : HatchPlace) → o ≡ Some t → IfSome o P → P t
if_there o P t e h = subst (λ (x : Option HatchPlace). IfSome x P) e h

none_there : (o : Option HatchPlace) → o ≡ None → IsNone o
none_there o e = subst (λ (x : Option HatchPlace). IsNone x) (sym e) refl

-- the number of the hatch line along which it runs
module _ (d : Triple) (spacing : ℕ) (x : Segment) (f : Frac) (number at : ℤ) (some : 1 ≤ spacing) (ratio : IsRatio f (diagonal_of d (of_spot x.a)) x.a.w) (first : IsFirstNumber f.num f.den spacing number) (is : at ≡ number *ℤ pos spacing) where
  same : (h : HasStretch d spacing x) → h.number *ℤ pos spacing ≡ at
  same h =
      (λ i. sym (first_is (diagonal_of d (of_spot x.a)) x.a.w spacing number h.number some x.a.positive
      (subst (λ (k : ℤ). IsFirstNumber k x.a.w spacing number) ratio.num (subst (λ (l : ℤ). IsFirstNumber f.num l spacing number) ratio.den first)) h.first.on) i *ℤ pos spacing) ∙ sym is

  not_first : ¬ IsSpotOn d at x.a → ¬ HasStretch d spacing x
  not_first none h = none (subst (λ (z : ℤ). IsSpotOn d z x.a) (same h) h.first)

  not_second : ¬ IsSpotOn d at x.b → ¬ HasStretch d spacing x
  not_second none h = none (subst (λ (z : ℤ). IsSpotOn d z x.b) (same h) h.second)

pub returns-in-Some-Some-clause-some : goal.returns-in-Some-Some-clause-some
returns-in-Some-Some-clause-some c =
    let d = of_dir c.args.d.now in
    let x = c.args.segment.now in
    let at = c.diagonal_at-at.result in
    let n_fits : FitsSigned w64 c.first_number-number.result = search rules in
    let d_fits : FitsSigned w64 at = search rules in
    let is = simp to_z-of_z at c.diagonal_at-at.ensures in
    let one = simp to_z-of_z at c.place_on.ensures.some in
    let other = simp to_z-of_z at c.place_on-2.ensures.some in
    record {
      number = c.first_number-number.result;
      first = subst (λ (z : ℤ). IsPlaceOf d z x.a c.in-Some-Some.a) is (if_there c.place_on.result (IsPlaceOf d at x.a) c.in-Some-Some.a c.in-Some-Some.is-0 one);
      second = subst (λ (z : ℤ). IsPlaceOf d z x.b c.in-Some-Some.b) is (if_there c.place_on-2.result (IsPlaceOf d at x.b) c.in-Some-Some.b c.in-Some-Some.is-1 other);
    }

pub returns-in_default-clause-none : goal.returns-in_default-clause-none
returns-in_default-clause-none c e =
    let at = c.diagonal_at-at.result in
    let n_fits : FitsSigned w64 c.first_number-number.result = search rules in
    let d_fits : FitsSigned w64 at = search rules in
    let is = simp to_z-of_z at c.diagonal_at-at.ensures in
    let none = simp to_z-of_z at (c.place_on-2.ensures.none (none_there c.place_on-2.result c.in_default.is-1)) in
    not_second (of_dir c.args.d.now) c.args.spacing c.args.segment.now c.diagonal.result c.first_number-number.result at c.requires c.diagonal.ensures.ratio c.first_number-number.ensures.first is none

pub returns-in_default-2-clause-none : goal.returns-in_default-2-clause-none
returns-in_default-2-clause-none c e =
    let at = c.diagonal_at-at.result in
    let n_fits : FitsSigned w64 c.first_number-number.result = search rules in
    let d_fits : FitsSigned w64 at = search rules in
    let is = simp to_z-of_z at c.diagonal_at-at.ensures in
    let none = simp to_z-of_z at (c.place_on.ensures.none (none_there c.place_on.result c.in_default.is-0)) in
    not_first (of_dir c.args.d.now) c.args.spacing c.args.segment.now c.diagonal.result c.first_number-number.result at c.requires c.diagonal.ensures.ratio c.first_number-number.ensures.first is none
