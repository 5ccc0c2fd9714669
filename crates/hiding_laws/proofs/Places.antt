-- The places of an edge, as a viewer sees them.
use Rattle.std.specs.Prelude.{ℤ}
use Rattle.hiding_laws.proofs.Screens.{Screen}
use Rattle.hiding_laws.specs.Values.{value_at}

-- the point at the share n / m of the way from a to b
abbrev pub place_of : Screen → Screen → ℤ → ℤ → Screen
place_of a b n m = record { u = value_at a.u b.u n m; v = value_at a.v b.v n m; h = value_at a.h b.h n m; w = m }
