-- Vectors with given items, as contracts see them.
use Rattle.std.proofs.Common.{◌<◌, ◌^◌, List, length, refl, arith}
use denote.RawPtr.{null_ptr}
use Rattle.std.specs.Global.{Vec, Global}

abbrev pub vec_of : {X : Type 0} → Global → (xs : List X) → length xs < 2 ^ 63 → Vec X
vec_of alloc xs h = record { items = xs; ptr = null_ptr; len = length xs; cap = length xs; alloc = alloc; ok = (refl, omega arith); small = h }
