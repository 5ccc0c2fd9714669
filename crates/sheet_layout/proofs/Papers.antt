-- All plans for a job that says its paper are on it.
use Rattle.std.proofs.Common.{◌≡◌, ℕ, zero, suc, List, [], ◌∷◌, ◌++◌, Option, Some, None, Bool, true, false, refl, sym, subst, ap, ◌∙◌, true≢false}
use Rattle.std.specs.Prelude.{find, if◌then◌else◌}
use Rattle.job_file.specs.declared.job.Paper.{Paper}
use Rattle.job_file.specs.declared.job.Scale.{Scale}
use Rattle.sheet_layout.specs.Layouts.{Case, IsLaidBy, fits, plans_for}
use Rattle.sheet_layout.specs.Plans.{all_rooms, all_scales, falling, from_one, plans_of, plans_on, stated, whole_at, with_fewer}
use Rattle.sheet_layout.specs.declared.layout.Layout.{Layout}
use Rattle.sheet_layout.specs.declared.layout.Wish.{Wish}
use Rattle.sheet_layout.specs.declared.plans.Plan.{Plan}
use Rattle.sheet_layout.proofs.Standings.{one_of}

abbrev AreOn : Paper → List Plan → Type 0
AreOn paper [] = Unit {0}
AreOn paper (p ∷ ps) = (p.paper ≡ paper) × AreOn paper ps

module _ (paper : Paper) where
  both_on : (ps qs : List Plan) → AreOn paper ps → AreOn paper qs → AreOn paper (ps ++ qs)
  both_on [] qs a b = b
  both_on (p ∷ ps) qs (here, rest) b = (here, both_on ps qs rest b)

  rooms_on : (scale : Scale) (shrunk : Bool) (kept : ℕ) → AreOn paper (all_rooms paper scale shrunk kept)
  rooms_on scale shrunk kept = (refl, (refl, (refl, (refl, tt))))

  fewer_on : (scale : Scale) (shrunk : Bool) (cuts : ℕ) → AreOn paper (with_fewer paper scale shrunk cuts)
  fewer_on scale shrunk zero = tt
  fewer_on scale shrunk (suc kept) = both_on (all_rooms paper scale shrunk kept) (with_fewer paper scale shrunk kept) (rooms_on scale shrunk kept) (fewer_on scale shrunk kept)

  stated_on : (scale : Scale) (shrunk : Bool) (cuts : ℕ) → AreOn paper (stated paper scale shrunk cuts)
  stated_on scale shrunk cuts = both_on (all_rooms paper scale shrunk cuts) (with_fewer paper scale shrunk cuts) (rooms_on scale shrunk cuts) (fewer_on scale shrunk cuts)

  whole_on : (cuts : ℕ) (scales : List Scale) → AreOn paper (whole_at paper cuts scales)
  whole_on cuts [] = tt
  whole_on cuts (scale ∷ scales) = rooms_on scale false cuts

  falling_on : (cuts : ℕ) (scales : List Scale) → AreOn paper (falling paper cuts scales)
  falling_on cuts [] = tt
  falling_on cuts (scale ∷ scales) =
      both_on (all_rooms paper scale false cuts) (whole_at paper cuts scales ++ (with_fewer paper scale false cuts ++ falling paper cuts scales)) (rooms_on scale false cuts)
      (both_on (whole_at paper cuts scales) (with_fewer paper scale false cuts ++ falling paper cuts scales) (whole_on cuts scales)
      (both_on (with_fewer paper scale false cuts) (falling paper cuts scales) (fewer_on scale false cuts) (falling_on cuts scales)))

  plans_are_on : (older : Bool) (scale : Option Scale) (cuts : ℕ) → AreOn paper (plans_on older paper scale cuts)
  plans_are_on true (Some scale) cuts = both_on (stated paper scale false cuts) (stated paper scale true cuts) (stated_on scale false cuts) (stated_on scale true cuts)
  plans_are_on false (Some scale) cuts = stated_on scale false cuts
  plans_are_on true None cuts = falling_on cuts from_one
  plans_are_on false None cuts = falling_on cuts all_scales

  chosen_on : (any_paper older : Bool) (scale : Option Scale) (cuts : ℕ) → any_paper ≡ false → AreOn paper (plans_of any_paper older paper scale cuts)
  chosen_on true older scale cuts none = absurd (true≢false none)
  chosen_on false older scale cuts none = plans_are_on older scale cuts

  first_on : (f : Plan → Bool) (ps : List Plan) (found : Plan) → AreOn paper ps → find f ps ≡ Some found → found.paper ≡ paper
  first_on f [] found on e = absurd (cc)
  first_on f (p ∷ ps) found (here, rest) e = go (first_on f ps found rest) (f p) refl
    where
      go : (find f ps ≡ Some found → found.paper ≡ paper) → (b : Bool) → f p ≡ b → found.paper ≡ paper
      go later true is = let this : find f (p ∷ ps) ≡ Some p = ap (λ (b : Bool). if b then Some p else find f ps) is in ap (λ (q : Plan). q.paper) (one_of p found (sym this ∙ e)) ∙ here
      go later false is = let on : find f (p ∷ ps) ≡ find f ps = ap (λ (b : Bool). if b then Some p else find f ps) is in later (sym on ∙ e)

pub found_on : (c : Case) (w : Wish) (layout : Layout) → w.any_paper ≡ false → IsLaidBy c w layout → layout.paper ≡ c.job.paper
found_on c w layout none h = h.paper ∙ first_on c.job.paper (fits c) (plans_for w c.job) h.plan (chosen_on c.job.paper w.any_paper w.older c.job.scale _ none) h.first
