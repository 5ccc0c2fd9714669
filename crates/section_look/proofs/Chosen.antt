-- The first of some spacings, and looks of views.
use Rattle.std.proofs.Common.{◌≡◌, ℕ, suc, ◌+◌, Bool, List, [], ◌∷◌, ◌++◌, length, refl, sym, subst, ap, ◌∙◌, arith, append-nil, append_assoc}
use Rattle.job_file.specs.declared.view.JobView.{JobView}
use Rattle.lattice.specs.Cuts.{Plane}
use Rattle.geometry.specs.Parts.{Part}
use Rattle.sheet_plan.specs.declared.sheet.Sheet.{Sheet}
use Rattle.section_look.specs.Looks.{LooksOfView, AreLooksFrom}
use Rattle.section_look.specs.Spacings.{AreHatched, LacksLines, IsChosen, last, first, later}
use Rattle.section_look.specs.declared.looks.SectionLook.{SectionLook}
use Rattle.section_look.specs.declared.regions.Region.{Region}

module _ (c : Plane) (regions : List Region) (marks : List Bool) where
  pub chosen_first : (tried spacing : ℕ) (others : List ℕ) → tried ≡ spacing → AreHatched c regions marks tried → IsChosen c regions marks (spacing ∷ others) tried
  chosen_first tried spacing others e h = subst (λ (n : ℕ). IsChosen c regions marks (n ∷ others) tried) e (first tried others h)

  pub chosen_later : (tried spacing : ℕ) (others : List ℕ) (chosen : ℕ) → tried ≡ spacing → LacksLines c regions marks tried → IsChosen c regions marks others chosen → IsChosen c regions marks (spacing ∷ others) chosen
  chosen_later tried spacing others chosen e h rest = subst (λ (n : ℕ). IsChosen c regions marks (n ∷ others) chosen) e (later tried others chosen h rest)

  pub chosen_last : (tried spacing : ℕ) → tried ≡ spacing → IsChosen c regions marks (spacing ∷ []) tried
  chosen_last tried spacing e = subst (λ (n : ℕ). IsChosen c regions marks (n ∷ []) tried) e (last tried)

-- ---- the looks of one view more
pub looks_more : (sheet : Sheet) (s : Part) (n m : ℕ) (views : List JobView) (looks : List SectionLook) (view : JobView) (here : List SectionLook) → m ≡ n + length views
    → AreLooksFrom sheet s n views looks → LooksOfView sheet s m view.spec here → AreLooksFrom sheet s n (views ++ view ∷ []) (looks ++ here)
looks_more sheet s n m [] looks view here at h is =
    (here, [], ap (λ ls. ls ++ here) h ∙ sym (append-nil here), subst (λ k. LooksOfView sheet s k view.spec here) (let e : m ≡ n = omega (arith, at) in e) is, refl)
looks_more sheet s n m (w ∷ views) looks view here at (one, rest, parted, of_w, others) is =
    (one, rest ++ here, ap (λ ls. ls ++ here) parted ∙ append_assoc one rest here, of_w, looks_more sheet s (suc n) m views rest view here (omega (arith, at)) others is)
