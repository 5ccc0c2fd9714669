-- Where a surface is at fault, as a line tells it.
use Rattle.std.specs.Prelude.{ℕ, List, codes}
use Rattle.sheet_input.specs.declared.place.FaultPlace.{FaultPlace}
use Rattle.length_text.specs.Lengths.{mm_text}
use Rattle.svg_page.specs.Texts.{◌⊕◌}

-- a place in mm
abbrev pub point_text : FaultPlace → List ℕ
point_text place =
    codes "(" ⊕ mm_text place.decimals place.corner.x ⊕ codes ", " ⊕ mm_text place.decimals place.corner.y ⊕ codes ", " ⊕ mm_text place.decimals place.corner.z ⊕ codes ") mm"
