-- How wide the letters of marks are in Helvetica.
use Rattle.std.specs.Prelude.{ℕ, ◌*◌, ◌/◌, ◌==◌, if◌then◌else◌}

-- the width of a letter, in thousandths of its size
abbrev pub width_of : ℕ → ℕ
width_of c =
    if c == 67 then 722 else if c == 68 then 722 else if c == 70 then 611 else if c == 71 then 778 else if c == 72 then 722 else if c == 74 then 500 else if c == 76 then 556 else if c == 77 then 833 else 667

-- half of the length of a text that is so many thousandths of its size long
abbrev pub half_of : ℕ → ℕ → ℕ
half_of thousandths size = thousandths * size / 2000
