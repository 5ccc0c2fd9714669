-- The line that tells how a part came to be sound.
use Rattle.std.specs.Prelude.{ℕ, ◌+◌, ◌*◌, ◌/◌, ◌%◌, List, [], codes}
use Rattle.std.proofs.Common.{zero, suc}
use Rattle.std.specs.Fmt.{decimal}
use Rattle.mend_core.specs.Mending.{Told, sound_already, by_flips}
use Rattle.svg_page.specs.Texts.{◌⊕◌}

-- hundredths of a unit, from 1024ths, rounded up
abbrev pub hundredths_of : ℕ → ℕ
hundredths_of moved = (moved * 100 + 1023) / 1024

-- so many hundredths, with two decimals
abbrev pub hundredths_text : ℕ → List ℕ
hundredths_text n = decimal (n / 100) ⊕ codes "." ⊕ decimal (n / 10 % 10) ⊕ decimal (n % 10)

-- how many pairs of triangles went, where some did
abbrev pub pairs_text : ℕ → List ℕ
pairs_text zero = []
pairs_text (suc fewer) = codes " pairs " ⊕ decimal (suc fewer)

abbrev pub told_text : Told → List ℕ
told_text sound_already = codes "sound already\n"
told_text (by_flips flips moved pairs) =
    codes "mended flips " ⊕ decimal flips ⊕ codes " moved at most " ⊕ hundredths_text (hundredths_of moved) ⊕ codes " units" ⊕ pairs_text pairs ⊕ codes "\n"
