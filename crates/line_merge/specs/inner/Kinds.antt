-- The precedence of the kinds of strips: seen, hidden, trace.
use Rattle.std.specs.Prelude.{Bool, true, false}
use Rattle.lattice.specs.declared.pieces.StripKind.{StripKind}
use Rattle.lattice.specs.declared.pieces.StripKind.TheVariants.{Seen, Hidden, Trace}

-- the kind is the last one or goes before it
abbrev pub is_up_to : StripKind → StripKind → Bool
is_up_to Seen Seen = true
is_up_to Seen Hidden = false
is_up_to Seen Trace = false
is_up_to Hidden Seen = true
is_up_to Hidden Hidden = true
is_up_to Hidden Trace = false
is_up_to Trace kind = true

abbrev pub is_trace : StripKind → Bool
is_trace Seen = false
is_trace Hidden = false
is_trace Trace = true
