-- The marks among which a trace has been told stand well.
use Rattle.std.proofs.Common.{◌≡◌, Bool, true, false, ℕ, List, [], ◌∷◌, Option, None, Some, refl, subst}
use Rattle.std.specs.Prelude.{find, not, ◌&&◌, ◌||◌, if◌then◌else◌}
use Rattle.sheet_plan.specs.Boxes.{box_of}
use Rattle.sheet_plan.specs.declared.boxes.ViewBox.{ViewBox}
use Rattle.cut_marks.specs.Areas.{area_of, none_crossed, stand_well}
use Rattle.cut_marks.specs.Figures.{marks_in}
use Rattle.cut_marks.specs.Lanes.{ways_of, stands, first_of, placed, AreLaned}
use Rattle.cut_marks.specs.Lanes.AreLaned.{none, told, untold}
use Rattle.cut_marks.specs.declared.areas.Area.{Area}
use Rattle.cut_marks.specs.declared.ways.Laned.{Laned}
use Rattle.cut_marks.specs.declared.ways.Trace.{Trace}

one : {A : Type 0} (x y : A) → Some x ≡ Some y → x ≡ y
one x y e = cc

pub both : (p q : Bool) → (p && q) ≡ true → (p ≡ true) × (q ≡ true)
both true q e = (refl, e)
both false q e = absurd (cc)

-- what is found passes
found : {A : Type 0} (p : A → Bool) (xs : List A) (x : A) → find p xs ≡ Some x → p x ≡ true
found p [] x e = absurd (cc)
found p (y ∷ ys) x e = go (p y) refl e (found p ys x)
  where
    go : (c : Bool) → p y ≡ c → (if c then Some y else find p ys) ≡ Some x → (find p ys ≡ Some x → p x ≡ true) → p x ≡ true
    go true t is later = subst (λ z. p z ≡ true) (one y x is) t
    go false t is later = later is

module _ (b : ViewBox) (room : Area) where
  abbrev WellIn : List Laned → Type 0
  WellIn laned = stand_well (area_of (box_of b)) room (marks_in b laned) ≡ true

  well : (free : Bool) (laned : List Laned) → stands free b room laned ≡ true → WellIn laned
  well free laned e = (both (stand_well (area_of (box_of b)) room (marks_in b laned)) (not free || none_crossed (marks_in b laned)) e).0

  of_either : (fine plain : Option (List Laned)) (now : List Laned) → (fine ≡ Some now → WellIn now) → (plain ≡ Some now → WellIn now) → first_of fine plain ≡ Some now → WellIn now
  of_either None plain now f p e = p e
  of_either (Some x) plain now f p e = f e

  placed_well : (before : List Laned) (t : Trace) (now : List Laned) → placed b room before t ≡ Some now → WellIn now
  placed_well before t now e =
      of_either (find (stands true b room) (ways_of before t)) (find (stands false b room) (ways_of before t)) now
      (λ f. well true now (found (stands true b room) (ways_of before t) now f)) (λ f. well false now (found (stands false b room) (ways_of before t) now f)) e

  pub told_well : (traces : List Trace) (laned : List Laned) (left_out : List ℕ) → AreLaned b room traces laned left_out → WellIn laned
  told_well _ _ _ none = refl
  told_well _ _ _ (told traces laned left_out t now are first) = placed_well laned t now first
  told_well _ _ _ (untold traces laned left_out t are first) = told_well traces laned left_out are
