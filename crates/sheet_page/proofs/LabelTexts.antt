-- The label of a text that was fitted into its space.
use Rattle.std.proofs.Common.{◌≡◌, ◌≢◌, ℕ, List, [], ◌∷◌, length, refl, ap, sym}
use Rattle.std.specs.List.{All}
use Rattle.std.proofs.lemmas.List.Elements.{All-nil, All-cons, All-same}
use Rattle.text_fit.specs.Fits.{IsFitted}
use Rattle.text_fit.specs.declared.fit.Fitted.{Fitted}
use Rattle.stroke_paths.specs.declared.path.Point.{Point}
use Rattle.sheet_page.specs.declared.cells.Space.{Space}
use Rattle.sheet_page.specs.Labels.{room_of, label_in, text_in}
use Rattle.sheet_page.specs.inner.Spaces.{IsInSpace}
use Rattle.sheet_page.proofs.FittedTexts.{is_fitted_in, no_larger}

-- of a text that isn't empty it is the only label
pub one_label : (corner : Point) (s : Space) (text : List ℕ) (f : Fitted) → length text ≢ 0 → IsFitted (room_of s) text f → text_in corner s text ≡ label_in corner s f ∷ []
one_label corner s [] f some is = absurd (some refl)
one_label corner s (b ∷ text) f some is = ap (λ (g : Fitted). label_in corner s g ∷ []) (sym (is_fitted_in (room_of s) (b ∷ text) f is))

pub one_inside : (corner : Point) (s : Space) (text : List ℕ) (f : Fitted) → length text ≢ 0 → IsFitted (room_of s) text f → All (IsInSpace corner s) (text_in corner s text)
one_inside corner s text f some is =
    All-same (IsInSpace corner s) (text_in corner s text) (label_in corner s f ∷ []) (one_label corner s text f some is)
    (All-cons (IsInSpace corner s) (label_in corner s f) [] (record { x = refl; y = refl; fits = is.inside; small = no_larger (room_of s) text f is }) (All-nil (IsInSpace corner s)))
