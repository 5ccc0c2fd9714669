-- What lies on a piece, when pieces are whole, and their order.
use Rattle.std.specs.Prelude.{◌≡◌, ◌⊎◌, ℕ, ◌+◌, ◌<◌, pos, ◌+ℤ◌, ◌-ℤ◌, ◌*ℤ◌, ◌<ℤ◌, List, Contains, All, AllPairs}
use Rattle.lattice.specs.declared.points.Spot.{Spot}
use Rattle.lattice.specs.declared.pieces.Piece.{Piece}
use Rattle.lattice.specs.declared.pieces.Style.{Style}
use Rattle.lattice.specs.declared.pieces.Style.TheVariants.{Solid, Dashed, Chain}
use Rattle.lattice.specs.Triple.{Triple}
use Rattle.lattice.specs.Points.{Point, of_spot, across_of, upward_of, OnOneSight}

-- the sum of two spots with whole weights
abbrev pub spot_sum : Spot → Spot → ℕ → ℕ → Point
spot_sum p q i j = record {
  x = (pos i *ℤ p.x) +ℤ (pos j *ℤ q.x);
  y = (pos i *ℤ p.y) +ℤ (pos j *ℤ q.y);
  z = (pos i *ℤ p.z) +ℤ (pos j *ℤ q.z);
  w = (pos i *ℤ p.w) +ℤ (pos j *ℤ q.w);
}

-- on one line of sight with a sum of the two spots, with whole weights that are not both 0
abbrev pub LiesBetween : Triple → Spot → Spot → Point → Type 0
LiesBetween d a b p = (i : ℕ) × (j : ℕ) × (0 < i + j) × OnOneSight d (spot_sum a b i j) p

abbrev pub LiesOn : Triple → Piece → Point → Type 0
LiesOn d l p = LiesBetween d l.a l.b p

-- on some piece of this style
abbrev pub LiesOnStyle : Triple → List Piece → Style → Point → Type 0
LiesOnStyle d pieces style p = (l : Piece) × Contains pieces l × (l.style ≡ style) × LiesOn d l p

-- the projections of the two pieces are parallel
abbrev pub ArePiecesParallel : Triple → Piece → Piece → Type 0
ArePiecesParallel d l m =
    let u = λ (l : Piece). (across_of d (of_spot l.b) *ℤ l.a.w) -ℤ (across_of d (of_spot l.a) *ℤ l.b.w) in
    let v = λ (l : Piece). (upward_of d (of_spot l.b) *ℤ l.a.w) -ℤ (upward_of d (of_spot l.a) *ℤ l.b.w) in
    u l *ℤ v m ≡ v l *ℤ u m

-- an end of one and an end of the other are on one line of sight
abbrev pub ShareAnEnd : Triple → Piece → Piece → Type 0
ShareAnEnd d l m =
    let meet = λ (p q : Spot). OnOneSight d (of_spot p) (of_spot q) in
    meet l.a m.a ⊎ meet l.a m.b ⊎ meet l.b m.a ⊎ meet l.b m.b

-- no piece is seen as a dot
abbrev pub AreProper : Triple → List Piece → Type 0
AreProper d pieces = All (λ l. ¬ OnOneSight d (of_spot l.a) (of_spot l.b)) pieces

-- p lies on at most one piece, at one place of the list
abbrev pub LieOnOnce : Triple → List Piece → Point → Type 0
LieOnOnce d pieces p = AllPairs (λ l m. LiesOn d l p → ¬ LiesOn d m p) pieces

-- no piece goes on where another of its line and style ends
abbrev pub AreWhole : Triple → List Piece → Type 0
AreWhole d pieces = AllPairs (λ l m. l.style ≡ m.style → ArePiecesParallel d l m → ¬ ShareAnEnd d l m) pieces

-- ---- the order of pieces
-- p has the lesser U, or the same U and the lesser V
abbrev pub IsBefore : Triple → Point → Point → Type 0
IsBefore d p q =
    ((across_of d p *ℤ q.w) <ℤ (across_of d q *ℤ p.w))
    ⊎ ((across_of d p *ℤ q.w ≡ across_of d q *ℤ p.w) × ((upward_of d p *ℤ q.w) <ℤ (upward_of d q *ℤ p.w)))

-- solid pieces stand before dashed ones, and these before chain ones
abbrev pub rank_of : Style → ℕ
rank_of Solid = 0
rank_of Dashed = 1
rank_of Chain = 2

-- l stands before m: by its style, then by its end a, then by its end b
abbrev pub PieceStandsBefore : Triple → Piece → Piece → Type 0
PieceStandsBefore d l m =
    (rank_of l.style < rank_of m.style)
    ⊎ ((l.style ≡ m.style) × (IsBefore d (of_spot l.a) (of_spot m.a) ⊎ (OnOneSight d (of_spot l.a) (of_spot m.a) × IsBefore d (of_spot l.b) (of_spot m.b))))

-- the end a of each piece is before its end b, and each piece stands before the later ones
pub record AreInOrder (d : Triple) (pieces : List Piece) : Type 0 where
  pub ends : All (λ l. IsBefore d (of_spot l.a) (of_spot l.b)) pieces
  pub order : AllPairs (PieceStandsBefore d) pieces
