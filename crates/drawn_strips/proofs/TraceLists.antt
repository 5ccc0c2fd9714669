-- Traces of cuts in a list, one after the other.
use Rattle.std.proofs.Common.{◌≡◌, ◌⊎◌, inl, inr, ◌+◌, ◌<◌, ℕ, zero, suc, List, [], ◌∷◌, ◌++◌, map, take, length, get_or, Contains, refl, sym, ap, subst, ◌∙◌, arith}
use Rattle.std.proofs.lemmas.List.{map-append}
use Rattle.std.proofs.lemmas.List.Elements.{Contains-append_cases, Contains-append_left, Contains-append_right}
use Rattle.integers.proofs.Lists.{front_more}
use Rattle.lattice.specs.declared.cuts.Cut.{Cut}
use Rattle.lattice.specs.declared.points.Axis.{Axis}
use Rattle.lattice.specs.declared.pieces.Strip.{Strip}
use Rattle.lattice.specs.Cuts.{Plane, plane_of}
use Rattle.lattice.specs.Triple.{Triple}
use Rattle.geometry.specs.Parts.{Part}
use Rattle.geometry.specs.Traces.{HasTrace}
use Rattle.geometry.proofs.TracePoints.{one_sight}
use Rattle.cut_plane.proofs.Lists.{contains_none}
use Rattle.drawn_strips.specs.Traces.{IsTraceStrip, AreTraceStrips}

module _ (d : Triple) (s : Part) where
  pub no_traces : AreTraceStrips d s [] []
  no_traces = record { each = λ y here. absurd (contains_none y here); every = λ c here. absurd (contains_none c here) }

  only : {A : Type 0} (x y : A) → Contains (x ∷ []) y → y ≡ x
  only x y (k, within, at) = by k within at
    where
      by : (k : ℕ) → k < 1 → get_or (x ∷ []) k y ≡ y → y ≡ x
      by zero within at = sym at
      by (suc k) within at = absurd (omega (arith, within))

  pub first_of_one : {A : Type 0} (x : A) → Contains (x ∷ []) x
  first_of_one x = (0, omega arith, refl)

  pub one_trace : (c : Plane) (y : Strip) (sight : Axis) → IsTraceStrip d s c sight y → AreTraceStrips d s (c ∷ []) (y ∷ [])
  one_trace c y sight is = record {
    each = λ z here. (c, first_of_one c, (sight, subst (IsTraceStrip d s c sight) (sym (only y z here)) is));
    every = λ e here other has. (
      y,
      first_of_one y,
      subst (λ (x : Axis). IsTraceStrip d s e x y) (one_sight d sight other is.from.has.along has.along)
          (subst (λ (p : Plane). IsTraceStrip d s p sight y) (sym (only c e here)) is),
    );
  }

  pub without_trace : (c : Plane) → ((sight : Axis) → ¬ HasTrace d s c sight) → AreTraceStrips d s (c ∷ []) []
  without_trace c none = record {
    each = λ y here. absurd (contains_none y here);
    every = λ e here sight has. absurd (none sight (subst (λ (p : Plane). HasTrace d s p sight) (only c e here) has));
  }

  pub more_traces : (cs es : List Plane) (here more : List Strip) → AreTraceStrips d s cs here → AreTraceStrips d s es more → AreTraceStrips d s (cs ++ es) (here ++ more)
  more_traces cs es here more first second = record { each = λ y listed. each y (Contains-append_cases here more y listed); every = λ c listed. every c (Contains-append_cases cs es c listed) }
    where
      each : (y : Strip) → Contains here y ⊎ Contains more y → (c : Plane) × Contains (cs ++ es) c × ((sight : Axis) × IsTraceStrip d s c sight y)
      each y (inl l) = let (c, there, is) = first.each y l in (c, Contains-append_left cs es c there, is)
      each y (inr l) = let (c, there, is) = second.each y l in (c, Contains-append_right cs es c there, is)

      every : (c : Plane) → Contains cs c ⊎ Contains es c → (sight : Axis) → HasTrace d s c sight → (y : Strip) × Contains (here ++ more) y × IsTraceStrip d s c sight y
      every c (inl l) sight has = let (y, there, is) = first.every c l sight has in (y, Contains-append_left here more y there, is)
      every c (inr l) sight has = let (y, there, is) = second.every c l sight has in (y, Contains-append_right here more y there, is)

  pub next_trace : (cuts : List Cut) (k : ℕ) (x : Cut) (here more : List Strip) → k < length cuts → get_or cuts k x ≡ x → AreTraceStrips d s (map plane_of (take k cuts)) here
      → AreTraceStrips d s (plane_of x ∷ []) more → AreTraceStrips d s (map plane_of (take (k + 1) cuts)) (here ++ more)
  next_trace cuts k x here more within at first second =
      subst (λ (cs : List Plane). AreTraceStrips d s cs (here ++ more)) (sym (map-append plane_of (take k cuts) (x ∷ [])) ∙ ap (map plane_of) (front_more cuts k x within at))
      (more_traces (map plane_of (take k cuts)) (plane_of x ∷ []) here more first second)
