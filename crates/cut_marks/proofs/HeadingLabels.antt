-- The label of a heading whose text was fitted is the stated one, and in the heading's room.
use Rattle.std.proofs.Common.{◌≡◌, ℕ, ◌*◌, ◌/◌, ◌≤◌, List, refl, ap, subst, arith}
use Rattle.std.specs.Prelude.{ℤ, pos, ◌+ℤ◌, ◌-ℤ◌, ◌≤ℤ◌}
use Rattle.std.proofs.lemmas.Int.{ints}
use Rattle.text_fit.specs.Fits.{IsFitted}
use Rattle.text_fit.specs.Widths.{text_width}
use Rattle.text_fit.specs.declared.fit.Fitted.{Fitted}
use Rattle.sheet_page.proofs.FittedTexts.{is_fitted_in, no_larger}
use Rattle.sheet_page.specs.Labels.{fitted_in}
use Rattle.cut_marks.specs.Items.{room_of, heading_label, IsInRoom}
use Rattle.cut_marks.specs.declared.figures.Heading.{Heading}

pub stated : (h : Heading) (text : List ℕ) (f : Fitted) → IsFitted (room_of h) text f → heading_label h f ≡ heading_label h (fitted_in (room_of h) text)
stated h text f is = ap (heading_label h) (is_fitted_in (room_of h) text f is)

no_wider : (used room : ℕ) → used ≤ 1000 * room → used / 1000 ≤ room
no_wider used room fits = omega (arith, fits)

starts : (x : ℤ) (wide room : ℕ) → wide ≤ room → (x -ℤ pos (room / 2)) ≤ℤ (x -ℤ pos (wide / 2))
starts x wide room h = omega (arith, ints)

ends : (x : ℤ) (wide room : ℕ) → wide ≤ room → (x -ℤ pos (wide / 2) +ℤ pos wide) ≤ℤ (x -ℤ pos (room / 2) +ℤ pos room)
ends x wide room h = omega (arith, ints)

pub in_room : (h : Heading) (text : List ℕ) (f : Fitted) → IsFitted (room_of h) text f → IsInRoom h (heading_label h (fitted_in (room_of h) text))
in_room h text f is =
    subst (IsInRoom h) (stated h text f is)
    (record {
      fits = is.inside;
      left = starts h.x (text_width f.text * f.size / 1000) h.room wide;
      right = ends h.x (text_width f.text * f.size / 1000) h.room wide;
      base = refl;
      small = no_larger (room_of h) text f is;
    })
  where
    wide : text_width f.text * f.size / 1000 ≤ h.room
    wide = no_wider (text_width f.text * f.size) h.room is.inside
