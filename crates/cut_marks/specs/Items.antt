-- What the marks and headings of cuts are on a page.
use Rattle.std.specs.Prelude.{◌≡◌, ◌⊎◌, false, ℕ, ◌*◌, ◌/◌, ◌≤◌, ℤ, pos, negsuc, int_lt, Bool, ◌+ℤ◌, ◌-ℤ◌, ◌≤ℤ◌, if◌then◌else◌, List, [], ◌∷◌, ◌++◌, Option, None, Some, IfSome, slice_get, unwrap_or}
use Rattle.std.specs.Char.{encode_utf8}
use Rattle.std.specs.Ordering.{int_eq}
use Rattle.std.specs.List.{flat_map}
use Rattle.dec_text.specs.declared.number.Length.{Length}
use Rattle.text_fit.specs.Fits.{Fits}
use Rattle.text_fit.specs.Widths.{text_width}
use Rattle.text_fit.specs.declared.fit.Fitted.{Fitted}
use Rattle.text_fit.specs.declared.fit.Room.{Room}
use Rattle.cut_marks.specs.declared.figures.Heading.{Heading}
use Rattle.cut_marks.specs.declared.figures.CutMark.{CutMark}
use Rattle.cut_marks.specs.declared.figures.MarkEnd.{MarkEnd}
use Rattle.cut_marks.specs.declared.figures.SheetPoint.{SheetPoint}
use Rattle.cut_marks.specs.declared.views.ViewMarks.{ViewMarks}
use Rattle.sheet_page.specs.declared.page.Item.{Item}
use Rattle.sheet_page.specs.declared.page.Item.TheVariants as item
use Rattle.sheet_page.specs.declared.page.Label.{Label}
use Rattle.sheet_page.specs.declared.page.Pen.{Pen}
use Rattle.sheet_page.specs.declared.page.Pen.TheVariants as pen
use Rattle.sheet_page.specs.Labels.{fitted_in, set_width}
use Rattle.stroke_paths.specs.declared.path.Point.{Point}
use Rattle.cut_marks.specs.HeadingTexts.{bare_text, fits_least, front_text, heading_text}
use Rattle.cut_marks.specs.MarkLetters.{half_of, width_of}
use Rattle.cut_marks.specs.Reach.{room_start, room_end}

-- a straight line from one place to another
abbrev pub rule_to : Pen → SheetPoint → SheetPoint → Item
rule_to p a b = item.Rule (record { pen = p; from = record { x = a.x; y = a.y }; to = record { x = b.x; y = b.y } })

-- a text with its middle at this place
abbrev pub text_at : SheetPoint → ℕ → ℕ → List ℕ → Item
text_at p width size text = item.Label (record { x = p.x -ℤ pos (half_of width size); y = p.y; size = size; width = None; text = text })

-- letters of a heading are of 5 mm, or smaller where the room is too narrow, but of 1.8 mm at least
abbrev pub room_of : Heading → Room
room_of h = record { width = h.room; most = 500; least = 180 }

abbrev pub wide_of : Fitted → ℕ
wide_of f = text_width f.text * f.size / 1000

-- a text that was fitted, with its middle at the heading's place
abbrev pub heading_label : Heading → Fitted → Item
heading_label h f = item.Label (record { x = h.x -ℤ pos (wide_of f / 2); y = h.y; size = f.size; width = set_width h.room (wide_of f); text = f.text })

-- the heading of a view with this title; a sheet says lengths of so many decimals in this unit
abbrev pub fitted_heading : ℕ → Length → Heading → List ℕ → Fitted
fitted_heading decimals unit h title = fitted_in (room_of h) (heading_text decimals unit h title)

abbrev pub heading_item : ℕ → Length → Heading → List ℕ → Item
heading_item decimals unit h title = heading_label h (fitted_heading decimals unit h title)

abbrev pub heading_items : ℕ → Length → Option Heading → List ℕ → List Item
heading_items decimals unit None title = []
heading_items decimals unit (Some h) title = heading_item decimals unit h title ∷ []

-- a heading's label is no wider than the heading's room, and stands there, in letters of 5 mm at most
pub record IsLabelInRoom (h : Heading) (l : Label) : Type 0 where
  pub fits : Fits h.room l.size (text_width l.text)
  pub left : room_start h ≤ℤ l.x
  pub right : (l.x +ℤ pos (text_width l.text * l.size / 1000)) ≤ℤ room_end h
  pub base : l.y ≡ h.y
  pub small : l.size ≤ 500

abbrev pub IsInRoom : Heading → Item → Type 0
IsInRoom h (item.Frame frame) = ⊥
IsInRoom h (item.Rule rule) = ⊥
IsInRoom h (item.Circle circle) = ⊥
IsInRoom h (item.Label label) = IsLabelInRoom h label
IsInRoom h (item.Path path) = ⊥
IsInRoom h (item.Fill fill) = ⊥
IsInRoom h (item.ArrowHead arrow) = ⊥

-- behind the tip of an arrow that comes from the tail, as far as its head is long: 3 mm
abbrev pub behind : ℤ → ℤ → ℤ
behind tip tail = if int_lt tail tip then tip -ℤ pos 300 else tip +ℤ pos 300

-- a point of the base of an arrow's head, so far beside the arrow, which goes up or down, or to the left or to the right
abbrev pub is_upright : MarkEnd → Bool
is_upright e = int_eq e.tail.x e.tip.x

abbrev pub upright_head : MarkEnd → ℤ → SheetPoint
upright_head e side = record { x = e.tip.x +ℤ side; y = behind e.tip.y e.tail.y }

abbrev pub level_head : MarkEnd → ℤ → SheetPoint
level_head e side = record { x = behind e.tip.x e.tail.x; y = e.tip.y +ℤ side }

abbrev pub head_at : MarkEnd → ℤ → SheetPoint
head_at e side = if is_upright e then upright_head e side else level_head e side

-- the head of an arrow, 3 mm long and 1.1 mm wide
abbrev pub point_of : SheetPoint → Point
point_of p = record { x = p.x; y = p.y }

abbrev pub head_item : MarkEnd → Item
head_item e = item.ArrowHead (record { tip = point_of e.tip; left = point_of (head_at e (negsuc 54)); right = point_of (head_at e (pos 55)) })

-- a strong end, and an arrow there from the tail to the tip
abbrev pub arrow_items : MarkEnd → List Item
arrow_items e = rule_to pen.Visible e.start e.tip ∷ rule_to pen.Visible e.tail (head_at e (pos 0)) ∷ head_item e ∷ []

-- a letter of a mark
abbrev pub letter_item : ℕ → SheetPoint → Item
letter_item letter p = text_at p (width_of letter) 500 (encode_utf8 letter)

abbrev pub beside_items : Option ℕ → SheetPoint → List Item
beside_items None p = []
beside_items (Some letter) p = letter_item letter p ∷ []

-- an end of a mark: what is strong of it, its letter, and the one that stands beside it
abbrev pub end_items : CutMark → MarkEnd → List Item
end_items m e = arrow_items e ++ letter_item m.letter e.letter ∷ beside_items m.beside e.beside

-- a mark: the chain line from end to end, and its two ends
abbrev pub items_of_mark : CutMark → List Item
items_of_mark m = rule_to pen.Chain m.first.tip m.second.tip ∷ (end_items m m.first ++ end_items m m.second)

-- a view with this title
abbrev pub items_of_view : ℕ → Length → ViewMarks → List ℕ → List Item
items_of_view decimals unit v title = heading_items decimals unit v.heading title ++ flat_map items_of_mark v.marks.items

-- all of them, view by view, each with its title; views behind the last title have none
abbrev pub items_of_marks : ℕ → Length → List ViewMarks → List (List ℕ) → List Item
items_of_marks decimals unit [] titles = []
items_of_marks decimals unit (v ∷ views) [] = items_of_view decimals unit v [] ++ items_of_marks decimals unit views []
items_of_marks decimals unit (v ∷ views) (title ∷ titles) = items_of_view decimals unit v title ++ items_of_marks decimals unit views titles

-- the title of the view with this number
abbrev pub title_at : List (List ℕ) → ℕ → List ℕ
title_at titles view = unwrap_or (slice_get titles view) []

-- a text has the letters and the place of a heading whole, at its beginning; or there is no room for them, and it is the one without the place
abbrev pub HasPlaceWhole : ℕ → Length → Heading → List ℕ → List ℕ → Type 0
HasPlaceWhole decimals unit h title text =
    ((rest : List ℕ) × (text ≡ front_text decimals unit h ++ rest))
    ⊎ ((fits_least h (front_text decimals unit h) ≡ false) × (text ≡ (fitted_in (room_of h) (bare_text h title)).text))

-- a heading's label is in its room, and no place is cut
pub record IsWellHeaded (decimals : ℕ) (unit : Length) (h : Heading) (title : List ℕ) : Type 0 where
  pub in_room : IsInRoom h (heading_item decimals unit h title)
  pub place : HasPlaceWhole decimals unit h title (fitted_heading decimals unit h title).text

abbrev pub IsHeadedWell : ℕ → Length → ViewMarks → List ℕ → Type 0
IsHeadedWell decimals unit v title = IfSome v.heading (λ h. IsWellHeaded decimals unit h title)

abbrev pub AreHeadedWell : ℕ → Length → List ViewMarks → List (List ℕ) → Type 0
AreHeadedWell decimals unit views titles = (view : ℕ) (v : ViewMarks) → slice_get views view ≡ Some v → IsHeadedWell decimals unit v (title_at titles view)
