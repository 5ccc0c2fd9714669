-- What stands on a page.
use Rattle.std.specs.Prelude.{◌<◌, ℕ}
use Rattle.sheet_page.specs.declared.page.Item.{Item}
use Rattle.sheet_page.specs.declared.page.Item.TheVariants.{Frame, Rule, Circle, Label, Path, Fill, ArrowHead}

-- a path or an area is of one of the first n views
abbrev pub IsInView : ℕ → Item → Type 0
IsInView n (Frame frame) = Unit {0}
IsInView n (Rule rule) = Unit {0}
IsInView n (Circle circle) = Unit {0}
IsInView n (Label label) = Unit {0}
IsInView n (Path path) = path.view < n
IsInView n (Fill fill) = fill.view < n
IsInView n (ArrowHead arrow) = Unit {0}
