-- Tests of whole numbers.
use Rattle.std.specs.Prelude.{Bool, not, ℤ}
use Rattle.std.specs.Int.Signed.{lt_z}

-- the one is at most the other
abbrev pub at_most : ℤ → ℤ → Bool
at_most a b = not (lt_z b a)
