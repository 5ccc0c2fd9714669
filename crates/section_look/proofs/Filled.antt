-- Fills of regions: one region more.
use Rattle.std.proofs.Common.{◌≡◌, inl, inr, ℕ, ◌+◌, ◌<◌, Bool, true, false, List, [], ◌∷◌, ◌++◌, length, take, get_or, refl, sym, subst}
use Rattle.std.proofs.lemmas.List.{take_more}
use Rattle.sheet_plan.specs.declared.sheet.Sheet.{Sheet}
use Rattle.sheet_plan.specs.declared.sheet.Spread.{Spread}
use Rattle.section_look.specs.Looks.{AreFills, IsFillOf}
use Rattle.section_look.specs.inner.Parts.{IsFillAdded}
use Rattle.section_look.specs.declared.fills.Fill.{Fill}
use Rattle.section_look.specs.declared.regions.Region.{Region}

module _ (sheet : Sheet) (place : Spread) where
  pub fills_more : (regions : List Region) (marks : List Bool) (fills : List Fill) (region : Region) (fill : Fill) → AreFills sheet place regions marks fills → IsFillOf sheet place region fill
      → AreFills sheet place (regions ++ region ∷ []) (marks ++ true ∷ []) (fills ++ fill ∷ [])
  fills_more [] [] [] region fill h is = (is, refl)
  fills_more [] [] (f ∷ fills) region fill h is = absurd (cc)
  fills_more [] (m ∷ marks) fills region fill h is = absurd h
  fills_more (r ∷ regions) [] fills region fill h is = absurd h
  fills_more (r ∷ regions) (false ∷ marks) fills region fill h is = fills_more regions marks fills region fill h is
  fills_more (r ∷ regions) (true ∷ marks) [] region fill h is = absurd h
  fills_more (r ∷ regions) (true ∷ marks) (f ∷ fills) region fill (first, h) is = (first, fills_more regions marks fills region fill h is)

  pub fills_same : (regions : List Region) (marks : List Bool) (fills : List Fill) (region : Region) → AreFills sheet place regions marks fills → AreFills sheet place (regions ++ region ∷ []) (marks ++ false ∷ []) fills
  fills_same [] [] fills region h = h
  fills_same [] (m ∷ marks) fills region h = absurd h
  fills_same (r ∷ regions) [] fills region h = absurd h
  fills_same (r ∷ regions) (false ∷ marks) fills region h = fills_same regions marks fills region h
  fills_same (r ∷ regions) (true ∷ marks) [] region h = absurd h
  fills_same (r ∷ regions) (true ∷ marks) (f ∷ fills) region (first, h) = (first, fills_same regions marks fills region h)

  -- one mark more
  pub fills_step : (regions : List Region) (marks : List Bool) (k : ℕ) (region : Region) (old new : List Fill) → k < length regions → k < length marks → region ≡ get_or regions k region
      → AreFills sheet place (take k regions) (take k marks) old → IsFillAdded sheet place region (get_or marks k false) old new → AreFills sheet place (take (k + 1) regions) (take (k + 1) marks) new
  fills_step regions marks k region old new less less' is h added =
      subst (λ (rs : List Region). AreFills sheet place rs (take (k + 1) marks) new) (sym (take_more regions k region less))
      (subst (λ (ms : List Bool). AreFills sheet place (take k regions ++ get_or regions k region ∷ []) ms new) (sym (take_more marks k false less'))
      (subst (λ (r : Region). AreFills sheet place (take k regions ++ r ∷ []) (take k marks ++ get_or marks k false ∷ []) new) is (by added)))
    where
      by : IsFillAdded sheet place region (get_or marks k false) old new → AreFills sheet place (take k regions ++ region ∷ []) (take k marks ++ get_or marks k false ∷ []) new
      by (inl (fill, thin, of, e)) =
          subst (λ (b : Bool). AreFills sheet place (take k regions ++ region ∷ []) (take k marks ++ b ∷ []) new) (sym thin)
          (subst (λ (fs : List Fill). AreFills sheet place (take k regions ++ region ∷ []) (take k marks ++ true ∷ []) fs) (sym e) (fills_more (take k regions) (take k marks) old region fill h of))
      by (inr (thick, e)) =
          subst (λ (b : Bool). AreFills sheet place (take k regions ++ region ∷ []) (take k marks ++ b ∷ []) new) (sym thick)
          (subst (λ (fs : List Fill). AreFills sheet place (take k regions ++ region ∷ []) (take k marks ++ false ∷ []) fs) (sym e) (fills_same (take k regions) (take k marks) old region h))
