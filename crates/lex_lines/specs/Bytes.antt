-- Blanks, line feeds and the mark of a comment.
use Rattle.std.specs.Prelude.{ℕ, Bool, ◌||◌, ◌==◌}

-- a tab, a vertical tab, a form feed, a carriage return or a space
abbrev pub is_blank : ℕ → Bool
is_blank byte = byte == 9 || byte == 11 || byte == 12 || byte == 13 || byte == 32

abbrev pub is_feed : ℕ → Bool
is_feed byte = byte == 10

-- a blank or a line feed
abbrev pub is_gap : ℕ → Bool
is_gap byte = is_blank byte || is_feed byte

-- `#`
abbrev pub is_hash : ℕ → Bool
is_hash byte = byte == 35
