-- What a rack holds.
use Rattle.std.specs.Prelude.{List}
use Rattle.std.specs.declared.alloc.Global.{Global}
use Rattle.std.specs.declared.dyn_box.DynBox.{DynBox}
use Rattle.plot_rack.specs.declared.rack.Rack.{Rack}

-- its boxes, in order; V and W are the boxed types and their values
abbrev pub boxes_of : {V : Type 0} {W : V → Type 0} → Rack V W → List (DynBox V Global W)
boxes_of rack = rack.boxes.items
