-- The pens of a page.
use Rattle.std.specs.Prelude.{ℕ, ℤ, pos, int_le, Bool, ◌&&◌, ◌||◌, if◌then◌else◌}
use Rattle.sheet_page.specs.declared.pens.Pens.{Pens}
use Rattle.sheet_page.specs.declared.pens.Pens.TheVariants.{Usual, Small}

-- a page that fits A4, upright or lying
abbrev pub is_small_page : ℤ → ℤ → Bool
is_small_page width height =
    (int_le width (pos 21000) && int_le height (pos 29700)) || (int_le width (pos 29700) && int_le height (pos 21000))

-- the pens of a page of this width and height
abbrev pub pens_of : ℤ → ℤ → Pens
pens_of width height = if is_small_page width height then Small else Usual

-- the width of visible lines, in hundredths of a millimetre
abbrev pub wide_of : Pens → ℕ
wide_of Usual = 50
wide_of Small = 35

-- that of all other lines of a view, and of chain lines
abbrev pub narrow_of : Pens → ℕ
narrow_of Usual = 25
narrow_of Small = 18
