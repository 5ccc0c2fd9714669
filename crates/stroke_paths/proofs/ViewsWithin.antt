-- The paths of strokes are of the views of the strokes.
use Rattle.std.proofs.Common.{◌≡◌, ℕ, ◌<◌, List, [], ◌∷◌, Option, Some, None, slice_get, refl, subst}
use Rattle.std.specs.List.{All, AllZip}
use Rattle.std.specs.Prelude.{IsSomeAnd}
use Rattle.std.proofs.lemmas.List.Elements.{All-nil, All-cons, All-head}
use Rattle.std.proofs.lemmas.Option.{slice_get_within, get_or_from_slice_get}
use Rattle.sheet_plan.specs.declared.sheet.Mark.{Mark}
use Rattle.sheet_plan.specs.declared.sheet.Stroke.{Stroke}
use Rattle.stroke_paths.specs.Paths.{IsOf, IsPathOf, ArePaths}
use Rattle.stroke_paths.specs.Routes.{Route}
use Rattle.stroke_paths.specs.declared.path.Path.{Path}

-- what is so of each element of a list is so of the one at this place
pub All-slice_get : {X : Type 0} (P : X → Type 0) (xs : List X) (i : ℕ) (x : X) → All P xs → slice_get xs i ≡ Some x → P x
All-slice_get P xs i x all at = subst P (get_or_from_slice_get xs i x x at) (all i x (slice_get_within xs i x at))

-- each stroke of a view and mark is one of a list's strokes
of_view : (strokes : List Stroke) (n view i : ℕ) (mark : Mark) → All (λ s. s.view < n) strokes → IsOf strokes view mark i → view < n
of_view strokes n view i mark all is = by (slice_get strokes i) (λ x at. All-slice_get (λ s. s.view < n) strokes i x all at) is
  where
    by : (o : Option Stroke) → ((x : Stroke) → o ≡ Some x → x.view < n) → IsSomeAnd o (λ s. (s.view ≡ view) × (s.mark ≡ mark)) → view < n
    by None at h = absurd h
    by (Some x) at h = subst (λ v. v < n) h.0 (at x refl)

within : (strokes : List Stroke) (n : ℕ) (routes : List Route) (paths : List Path) → All (λ s. s.view < n) strokes → AllZip (IsPathOf strokes) routes paths → All (λ p. p.view < n) paths
within strokes n routes [] all zip = All-nil (λ p. p.view < n)
within strokes n [] (p ∷ paths) all zip = absurd zip
within strokes n (r ∷ routes) (p ∷ paths) all zip =
    All-cons (λ p. p.view < n) p paths (of_view strokes n p.view r.first.stroke p.mark all (All-head (λ s. IsOf strokes p.view p.mark s.stroke) r.first r.rest zip.0.marked)) (within strokes n routes paths all zip.1)

-- where each stroke is of one of the first n views, so is each path
pub views_within : (strokes : List Stroke) (n : ℕ) (paths : List Path) → All (λ s. s.view < n) strokes → ArePaths strokes paths → All (λ p. p.view < n) paths
views_within strokes n paths all (routes, are, zip) = within strokes n routes paths all zip
