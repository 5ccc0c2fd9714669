-- The values of an array, in order.
use Rattle.std.specs.Prelude.{List, [], ◌∷◌}
use Rattle.toml.specs.Data.{Data, Items, no_items, item}

abbrev pub values_in : Items → List Data
values_in no_items = []
values_in (item d ds) = d ∷ values_in ds
