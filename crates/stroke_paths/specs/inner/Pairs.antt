-- Pairs of ends at a place, and the one that turns least.
use Rattle.std.specs.Prelude.{◌≡◌, ◌≢◌, ◌⊎◌, ◌<◌, ℕ, List, Option, None, Some, MatchOption, Vec, length, slice_get}
use Rattle.indexmap.specs.IndexMap.{IndexMap, values, index_map_len}
use Rattle.std.specs.declared.alloc.Global.{Global}
use Rattle.sheet_plan.specs.declared.sheet.Stroke.{Stroke}
use Rattle.stroke_paths.specs.declared.corners.StrokePlace.{StrokePlace}
use Rattle.stroke_paths.specs.declared.pairs.Pair.{Pair}
use Rattle.stroke_paths.specs.declared.path.End.{End}
use Rattle.stroke_paths.specs.inner.Corners.{IsListed}
use Rattle.stroke_paths.specs.declared.turns.Turn.{Turn}
use Rattle.stroke_paths.specs.Joints.{AreSame, MayGoOn, TurnsLess, turn_at}

-- the turn, if it may be taken
abbrev pub IsTurn : Type 0 → Turn → Option Turn → Type 0
IsTurn May turn found = MatchOption found (May → ⊥) (λ t. May × (t ≡ turn))

-- the pair of two ends, if a path may go on from one to the other
abbrev pub IsPairOf : List Stroke → End → End → Option Pair → Type 0
IsPairOf strokes e f found =
    MatchOption found (MayGoOn strokes e f → ⊥) (λ x. (x.first ≡ e) × (x.second ≡ f) × (h : MayGoOn strokes e f) × (x.turn ≡ turn_at h))

-- a pair of these ends
pub record IsPair (strokes : List Stroke) (ends : List End) (x : Pair) : Type 0 where
  pub first_listed : IsListed ends x.first
  pub second_listed : IsListed ends x.second
  pub goes_on : MayGoOn strokes x.first x.second
  pub turn_is : x.turn ≡ turn_at goes_on

-- from e to f a path turns less than between any other two of these ends
pub record TurnsLeast (strokes : List Stroke) (ends : List End) (e f : End) : Type 0 where
  pub first_listed : IsListed ends e
  pub second_listed : IsListed ends f
  pub goes_on : MayGoOn strokes e f
  pub least : (g h : End) → IsListed ends g → IsListed ends h → (other : MayGoOn strokes g h) → AreSame e f g h ⊎ TurnsLess (turn_at goes_on) (turn_at other)

-- the pair that turns less than any other, or there is none
abbrev pub IsLeastPair : List Stroke → List End → Option Pair → Type 0
IsLeastPair strokes ends found =
    MatchOption found ((e f : End) → TurnsLeast strokes ends e f → ⊥) (λ x. TurnsLeast strokes ends x.first x.second)

-- the end that is in a pair with this one
abbrev pub IsOther : Pair → End → Option End → Type 0
IsOther x e None = (e ≢ x.first) × (e ≢ x.second)
IsOther x e (Some f) = AreSame e f x.first x.second

-- of two pairs the one that turns less, or else the first
abbrev pub IsLess : Option Pair → Option Pair → Option Pair → Type 0
IsLess best None result = result ≡ best
IsLess None (Some y) result = result ≡ Some y
IsLess (Some x) (Some y) result = (TurnsLess y.turn x.turn × (result ≡ Some y)) ⊎ ((TurnsLess y.turn x.turn → ⊥) × (result ≡ Some x))

-- one end stands before the other, and is one of the first i
pub record AreBefore (ends : List End) (i : ℕ) (e f : End) : Type 0 where
  pub a : ℕ
  pub b : ℕ
  pub before : a < b
  pub below : a < i
  pub first : slice_get ends a ≡ Some e
  pub second : slice_get ends b ≡ Some f

-- one end is at i, and the other stands after it, below j
pub record AreAfter (ends : List End) (i j : ℕ) (e f : End) : Type 0 where
  pub b : ℕ
  pub after : i < b
  pub below : b < j
  pub first : slice_get ends i ≡ Some e
  pub second : slice_get ends b ≡ Some f

-- a pair of these ends; of the pairs that were looked at it is the one that turns least, if there is one
pub record IsBest (strokes : List Stroke) (ends : List End) (Seen : End → End → Type 0) (best : Option Pair) : Type 0 where
  pub pair : (x : Pair) → best ≡ Some x → IsPair strokes ends x
  pub kept : (e f : End) → Seen e f → TurnsLeast strokes ends e f → (x : Pair) × (best ≡ Some x) × AreSame e f x.first x.second

-- a pair turns less than these two ends, or is the same two
abbrev pub IsLessThan : List Stroke → Pair → End → End → Type 0
IsLessThan strokes x g h = (other : MayGoOn strokes g h) → AreSame x.first x.second g h ⊎ TurnsLess x.turn (turn_at other)

-- it turns less than any other pair of these ends
abbrev pub IsAlone : List Stroke → List End → Pair → Type 0
IsAlone strokes ends x = (g h : End) → AreBefore ends (length ends) g h → IsLessThan strokes x g h

-- it turns less than any other pair of the end at i and an end after it
abbrev pub IsAloneAt : List Stroke → List End → ℕ → Pair → Type 0
IsAloneAt strokes ends i x = (g h : End) → AreAfter ends i (length ends) g h → IsLessThan strokes x g h

-- the pair that turns least, of the ends of each of the first n corners
pub record ArePairsBelow {S : Type 0} (strokes : List Stroke) (corners : IndexMap StrokePlace (Vec End Global) S) (n : ℕ) (pairs : List (Option Pair)) : Type 0 where
  pub as_many : length pairs ≡ n
  pub each : (k : ℕ) (ends : Vec End Global) (found : Option Pair) → slice_get (values corners) k ≡ Some ends → slice_get pairs k ≡ Some found → IsLeastPair strokes ends.items found

-- the pairs of all corners
abbrev pub ArePairs : {S : Type 0} → List Stroke → IndexMap StrokePlace (Vec End Global) S → List (Option Pair) → Type 0
ArePairs strokes corners pairs = ArePairsBelow strokes corners (index_map_len corners) pairs
