-- What is so of each path is so of those that are kept.
use Rattle.std.proofs.Common.{Bool, true, false, List, [], ◌∷◌, All}
use Rattle.std.proofs.lemmas.List.Elements.{All-nil, All-cons, All-head, All-tail}
use Rattle.stroke_paths.specs.declared.path.Path.{Path}
use Rattle.sheet_lines.specs.Kept.{kept}

module _ (P : Path → Type 0) where
  pub all_kept : (flags : List Bool) (paths : List Path) → All P paths → All P (kept flags paths)
  all_kept flags [] each = All-nil P
  all_kept [] (p ∷ paths) each = all_kept [] paths (All-tail P p paths each)
  all_kept (true ∷ flags) (p ∷ paths) each = All-cons P p (kept flags paths) (All-head P p paths each) (all_kept flags paths (All-tail P p paths each))
  all_kept (false ∷ flags) (p ∷ paths) each = all_kept flags paths (All-tail P p paths each)
