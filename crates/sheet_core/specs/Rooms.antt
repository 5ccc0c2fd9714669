-- What is said of views that don't fit their sheet.
use Rattle.std.specs.Prelude.{ℕ, zero, suc, ◌/◌, ◌%◌, List, [], Option, Some, None, codes}
use Rattle.std.specs.Fmt.{decimal}
use Rattle.job_file.specs.Papers.{paper_name}
use Rattle.job_file.specs.declared.job.Paper.{Paper}
use Rattle.job_file.specs.declared.job.Scale.{Scale}
use Rattle.sheet_layout.specs.declared.layout.NoRoom.{NoRoom}
use Rattle.sheet_page.specs.BlockNames.{scale_text}
use Rattle.svg_page.specs.Texts.{◌⊕◌}

-- tenths and hundredths of a millimetre behind a point, without zeros at the end
abbrev pub behind_point : (tenths last : ℕ) → List ℕ
behind_point zero zero = []
behind_point (suc tenths) zero = codes "." ⊕ decimal (suc tenths)
behind_point tenths (suc last) = codes "." ⊕ decimal tenths ⊕ decimal (suc last)

-- so many hundredths of a millimetre more, in mm
abbrev pub more_text : ℕ → List ℕ
more_text length = decimal (length / 100) ⊕ behind_point (length / 10 % 10) (length % 10) ⊕ codes " mm more "

-- how much more is needed
abbrev pub lack_text : (across down : ℕ) → List ℕ
lack_text zero zero = []
lack_text (suc across) zero = codes ": " ⊕ more_text (suc across) ⊕ codes "across is needed"
lack_text zero (suc down) = codes ": " ⊕ more_text (suc down) ⊕ codes "down is needed"
lack_text (suc across) (suc down) = codes ": " ⊕ more_text (suc across) ⊕ codes "across and " ⊕ more_text (suc down) ⊕ codes "down are needed"

-- what would do: a smaller scale, or a larger sheet
abbrev pub would_do_text : Option Scale → Option Paper → List ℕ
would_do_text None None = []
would_do_text (Some scale) None = codes "; a scale of " ⊕ scale_text scale ⊕ codes " would do"
would_do_text None (Some paper) = codes "; a sheet of " ⊕ paper_name paper ⊕ codes " would do"
would_do_text (Some scale) (Some paper) = codes "; a scale of " ⊕ scale_text scale ⊕ codes " or a sheet of " ⊕ paper_name paper ⊕ codes " would do"

-- the line of the lack: the paper and the scale of the last try, what is missing, and what would do
abbrev pub no_room_line : NoRoom → List ℕ
no_room_line lack =
    codes "sheet: the views don't fit on " ⊕ paper_name lack.paper ⊕ codes " at " ⊕ scale_text lack.scale ⊕ lack_text lack.more_across lack.more_down
    ⊕ would_do_text lack.smaller lack.larger ⊕ codes "\n"
