-- The size in which a text fits its place.
use Rattle.std.specs.Prelude.{◌≡◌, ◌⊎◌, ℕ, ◌*◌, ◌/◌, ◌<◌, ◌≤◌, min, max, List, [], ◌++◌, length, take, codes, encode_utf8_all}
use Rattle.std.specs.Str.{chars}
use Rattle.text_fit.specs.declared.fit.Fitted.{Fitted}
use Rattle.text_fit.specs.declared.fit.Room.{Room}
use Rattle.text_fit.specs.Widths.{chars_width, text_width}

-- letters of this size that are so many thousandths of it wide are no wider than the room
abbrev pub Fits : ℕ → ℕ → ℕ → Type 0
Fits room size width = width * size ≤ 1000 * room

-- the greatest size up to the most in which a text of this width fits; a text of no width is taken to be 1 wide
abbrev pub size_in : ℕ → ℕ → ℕ → ℕ
size_in room most width = min (1000 * room / max 1 width) most

-- the first characters of a text, so many, and three points
abbrev pub with_points : ℕ → List ℕ → List ℕ
with_points n text = take n (chars text) ++ codes "..."

-- of the text so many characters are kept, as many as fit with three points behind them
pub record IsCutTo (room size : ℕ) (text cut : List ℕ) (n : ℕ) : Type 0 where
  pub shown : cut ≡ encode_utf8_all (with_points n text)
  pub fits : Fits room size (chars_width (with_points n text))
  pub longest : (more : ℕ) → n < more → more ≤ length (chars text) → ¬ Fits room size (chars_width (with_points more text))

-- nothing is left where not even the points fit
abbrev pub IsCut : ℕ → ℕ → List ℕ → List ℕ → Type 0
IsCut room size text cut =
    (¬ Fits room size (chars_width (codes "...")) × (cut ≡ [])) ⊎ ((n : ℕ) × IsCutTo room size text cut n)

-- the least size of a room, which isn't over the most
abbrev pub least_of : Room → ℕ
least_of room = min room.least room.most

-- A text is in its room: whole, in the greatest size in which it fits, or cut, in the least.
pub record IsFitted (room : Room) (text : List ℕ) (fitted : Fitted) : Type 0 where
  pub inside : Fits room.width fitted.size (text_width fitted.text)
  pub whole : least_of room ≤ size_in room.width room.most (text_width text) → (fitted.size ≡ size_in room.width room.most (text_width text)) × (fitted.text ≡ text)
  pub cut : size_in room.width room.most (text_width text) < least_of room → (fitted.size ≡ least_of room) × IsCut room.width (least_of room) text fitted.text
