-- What contracts see of what words ask for.
use Rattle.mend_words.specs.Names.{Asks, Goal, Named, help, version, mend, said, file}
use Rattle.mend_words.specs.declared.request.Asked.{Asked}
use Rattle.mend_words.specs.declared.request.Asked.TheVariants.{Help, Version, Mend}
use Rattle.mend_words.specs.declared.request.Out.{Out}
use Rattle.mend_words.specs.declared.request.Out.TheVariants.{Said, File}
use Rattle.mend_words.specs.declared.request.MendRequest.{MendRequest}

-- where the part goes
abbrev pub goal_seen : Out → Goal
goal_seen Said = said
goal_seen (File name) = file name

-- what a request names
abbrev pub named_seen : MendRequest → Named
named_seen r = record { part = r.part; out = goal_seen r.out; decimals = r.decimals; limit = r.limit }

-- what is asked for
abbrev pub asked_seen : Asked → Asks
asked_seen Help = help
asked_seen Version = version
asked_seen (Mend request) = mend (named_seen request)
