-- What contracts see of what words ask for.
use Rattle.std.specs.Prelude.{option_map}
use Rattle.sheet_words.specs.Names.{Asks, Goal, ListGoal, Named, TextsSaid, help, version, sheet, said, svg_file, pdf_file, list_said, list_file}
use Rattle.sheet_words.specs.declared.words.Asked.{Asked}
use Rattle.sheet_words.specs.declared.words.Asked.TheVariants.{Help, Version, Sheet}
use Rattle.sheet_words.specs.declared.words.ListOut.{ListOut}
use Rattle.sheet_words.specs.declared.words.ListOut.TheVariants as list
use Rattle.sheet_words.specs.declared.words.Out.{Out}
use Rattle.sheet_words.specs.declared.words.Out.TheVariants.{Said, Svg, Pdf}
use Rattle.sheet_words.specs.declared.said.SaidTexts.{SaidTexts}
use Rattle.sheet_words.specs.declared.words.SheetRequest.{SheetRequest}

-- where the sheet goes
abbrev pub goal_seen : Out → Goal
goal_seen Said = said
goal_seen (Svg name) = svg_file name
goal_seen (Pdf name) = pdf_file name

-- where the list goes
abbrev pub list_seen : ListOut → ListGoal
list_seen list.Said = list_said
list_seen (list.File name) = list_file name

-- what is said for the title block
abbrev pub said_seen : SaidTexts → TextsSaid
said_seen s = record { title = s.title; number = s.number; revision = s.revision; material = s.material; date = s.date }

-- what a request names
abbrev pub named_seen : SheetRequest → Named
named_seen r = record {
  part = r.part;
  job = r.job;
  out = goal_seen r.out;
  list = option_map list_seen r.list;
  plain = option_map list_seen r.plain;
  hidden = r.hidden;
  said = said_seen r.said;
}

-- what is asked for
abbrev pub asked_seen : Asked → Asks
asked_seen Help = help
asked_seen Version = version
asked_seen (Sheet request) = sheet (named_seen request)
