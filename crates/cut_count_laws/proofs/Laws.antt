-- What is to be proved about counts along an edge of a cut view.
use Rattle.std.specs.Prelude.{◌≡◌, ◌≢◌, ◌↔◌, ℕ, ◌+◌, ◌*◌, ◌<◌, ◌≤◌, nat_lt, false, All, length, ℤ, pos, ◌+ℤ◌, ◌-ℤ◌, ◌*ℤ◌, ◌<ℤ◌}
use Rattle.std.specs.Bool.{Decides}
use Rattle.lattice.specs.declared.points.Corner.{Corner}
use Rattle.lattice.specs.Triangles.{IsBelow as IsTriBelow}
use Rattle.lattice.specs.Points.{point_of}
use Rattle.lattice.specs.Cuts.{Plane, toward_of, IsBeyond, IsBeforePlane}
use Rattle.geometry.specs.Cuts.{start_corner, end_corner, crossing_of, IsInSection, IsHiddenInCut, IsOrdinaryInCut}
use Rattle.geometry.specs.Faces.{facing_of, share_point}
use Rattle.geometry.specs.Parts.{Part, Face, Edge, IsClosed}
use Rattle.geometry.specs.Sound.{IsSound}
use Rattle.geometry.specs.Views.{IsEndOn, face_sign}
use Rattle.geometry.specs.Counts.{Side, to_left, to_right}
use Rattle.hiding_laws.specs.inner.Tallies.{IsTally}
use Rattle.hiding_laws.proofs.CornerLaws.{IsNear}
use Rattle.hiding_laws.proofs.MeshOfPart.{twin_of}
use Rattle.hiding_laws.proofs.Seen.{on}
use Rattle.hiding_laws.proofs.Shares.{Crosses, Adds, Passes}
use Rattle.hiding_laws.proofs.SumsBelow.{sum_below, keep}
use Rattle.cut_plane.specs.Diagonals.{IsUnderBorder}
use Rattle.cut_plane.proofs.Sights.{Sight, right_by, above_by, turn_of, counts_at}
use Rattle.cut_plane.proofs.Xors.{xor, odd_in}
use Rattle.cut_count_laws.specs.CutCounts.{IsCutCounted, AreCutCounted}
use Rattle.cut_count_laws.specs.CutCovers.{IsCutCoveredNext}
use Rattle.cut_count_laws.specs.CutEnds.{part_change}
use Rattle.cut_count_laws.proofs.Rests.{RestCounts, HasBorderChange, BorderCrosses, IsClearOfRest, AreInOrder, corner_with, first_with, second_with}
use Rattle.cut_count_laws.proofs.Rays.{is_ahead, border_ahead, in_wedge, IsOnWay}

abbrev pub HasCornersInRange : Part → Type 0
HasCornersInRange s = All (IsTriBelow (length s.corners)) s.triangles

-- inner places of an edge, the one before the other
pub record AreInTurn (n m n' m' : ℤ) : Type 0 where
  pub after : pos 0 <ℤ n
  pub before : n <ℤ m
  pub after' : pos 0 <ℤ n'
  pub before' : n' <ℤ m'
  pub order : (n *ℤ m') <ℤ (n' *ℤ m)

-- what soundness says of a face that is not edge-on, and what two ordinary places do
pub record IsPassed (c : Plane) {s : Part} (e : Edge s) (f : Face s) (n m n' m' : ℤ) : Type 0 where
  pub clear : IsClearOfRest c e f n m
  pub clear' : IsClearOfRest c e f n' m'
  pub passes : Passes (on (toward_of c) e.a) (on (toward_of c) e.b) (on (toward_of c) f.a) (on (toward_of c) f.b) (on (toward_of c) f.c)

-- the place n / m is beyond the plane and ordinary, with no border on its line of sight
pub record IsValid (c : Plane) {s : Part} (e : Edge s) (n m : ℤ) : Type 0 where
  pub after : pos 0 <ℤ n
  pub before : n <ℤ m
  pub beyond : IsBeyond c (share_point e.a e.b n m)
  pub ordinary : IsOrdinaryInCut c s (share_point e.a e.b n m)
  pub free : ¬ IsUnderBorder c s (share_point e.a e.b n m)

-- ---- one face
-- between two clear places, what the rest of a face adds to a count changes by what is left of its sides that cross nearer, and by its border
abbrev pub RestLaw : Type 0
RestLaw = (k : Side) (c : Plane) (s : Part) (e : Edge s) (f : Face s) (n m n' m' before after ab bc ca border change : ℤ)
    → AreInTurn n m n' m' → (facing_of (toward_of c) f.a f.b f.c ≢ pos 0 → IsPassed c e f n m n' m')
    → IsTally (RestCounts k c e f n m) before → IsTally (RestCounts k c e f n' m') after
    → IsTally (Crosses (on (toward_of c) e.a) (on (toward_of c) e.b) (on (toward_of c) f.a) (on (toward_of c) f.b) n m n' m') ab
    → IsTally (Crosses (on (toward_of c) e.a) (on (toward_of c) e.b) (on (toward_of c) f.b) (on (toward_of c) f.c) n m n' m') bc
    → IsTally (Crosses (on (toward_of c) e.a) (on (toward_of c) e.b) (on (toward_of c) f.c) (on (toward_of c) f.a) n m n' m') ca
    → IsTally (BorderCrosses c e f n m n' m') border → HasBorderChange k c e f change
    → after -ℤ before
    ≡ face_sign (toward_of c) f *ℤ ((((part_change k c e.a e.b f.a f.b *ℤ ab) +ℤ (part_change k c e.a e.b f.b f.c *ℤ bc)) +ℤ (part_change k c e.a e.b f.c f.a *ℤ ca)) -ℤ (change *ℤ border))

-- with one corner before the plane, the rest counts as the face does less the triangle that is taken away
abbrev pub DifferenceLaw : Type 0
DifferenceLaw = (k : Side) (c : Plane) (s : Part) (e : Edge s) (f : Face s) (x y z : Corner) (n m rest whole off : ℤ)
    → AreInOrder f x y z → IsBeforePlane c (point_of x) → IsBeyond c (point_of y) → IsBeyond c (point_of z)
    → (facing_of (toward_of c) f.a f.b f.c ≢ pos 0 → IsClearOfRest c e f n m)
    → IsTally (RestCounts k c e f n m) rest
    → IsTally (Adds k (on (toward_of c) e.a) (on (toward_of c) e.b) (on (toward_of c) x) (on (toward_of c) y) (on (toward_of c) z) n m) whole
    → (let p = crossing_of c x y in let q = crossing_of c x z in
    IsTally (Adds k (corner_with c p q e.a) (corner_with c p q e.b) (corner_with c p q x) (first_with c p q) (second_with c p q) n m) off)
    → rest ≡ whole -ℤ off

-- with one corner beyond it, the rest is the triangle of that corner and the border
abbrev pub CornerRestLaw : Type 0
CornerRestLaw = (k : Side) (c : Plane) (s : Part) (e : Edge s) (f : Face s) (x y z : Corner) (n m : ℤ)
    → AreInOrder f x y z → IsBeyond c (point_of x) → IsBeforePlane c (point_of y) → IsBeforePlane c (point_of z) → pos 0 <ℤ m
    → (let p = crossing_of c z x in let q = crossing_of c y x in
    RestCounts k c e f n m ↔ Adds k (corner_with c p q e.a) (corner_with c p q e.b) (corner_with c p q x) (second_with c p q) (first_with c p q) n m)

-- at a valid place the rest counts exactly where the face is counted
abbrev pub ValidRestLaw : Type 0
ValidRestLaw = (k : Side) (c : Plane) (s : Part) → IsSound s → HasCornersInRange s → (e : Edge s) (f : Face s) (n m : ℤ) → IsValid c e n m
    → RestCounts k c e f n m ↔ IsCutCounted k c e (share_point e.a e.b n m) f

-- ---- all faces
-- sums over the triangles of what their sides change, and of something more of each triangle: sides are numbered by threes, each has a twin
-- that changes the opposite where it crosses, and a pair changes nothing where both triangles have one sign
abbrev pub TwinSumsLaw : Type 0
TwinSumsLaw = (triangles : ℕ) (twin : ℕ → ℕ) (sign before after more change crossing : ℕ → ℤ)
    → ((h : ℕ) → h < 3 * triangles → twin h < 3 * triangles) → ((h : ℕ) → h < 3 * triangles → twin (twin h) ≡ h) → ((h : ℕ) → h < 3 * triangles → ¬ (twin h ≡ h))
    → ((t : ℕ) → t < triangles → (sign (3 * t + 1) ≡ sign (3 * t)) × (sign (3 * t + 2) ≡ sign (3 * t)))
    → ((h : ℕ) → h < 3 * triangles → change (twin h) ≡ pos 0 -ℤ change h) → ((h : ℕ) → h < 3 * triangles → crossing (twin h) ≡ crossing h)
    → ((t : ℕ) → t < triangles → after t -ℤ before t
    ≡ sign (3 * t) *ℤ ((((change (3 * t) *ℤ crossing (3 * t)) +ℤ (change (3 * t + 1) *ℤ crossing (3 * t + 1))) +ℤ (change (3 * t + 2) *ℤ crossing (3 * t + 2))) -ℤ more t))
    → sum_below after triangles -ℤ sum_below before triangles
    ≡ sum_below (λ h. keep (nat_lt h (twin h)) (((sign h -ℤ sign (twin h)) *ℤ change h) *ℤ crossing h)) (3 * triangles) -ℤ sum_below (λ t. sign (3 * t) *ℤ more t) triangles

-- between two clear places of an edge a count changes by what is left of the pairs of twins that cross nearer, and by the borders
abbrev pub AllRestsLaw : Type 0
AllRestsLaw = (k : Side) (c : Plane) (s : Part) (sound : IsSound s) → HasCornersInRange s → (e : Edge s) (n m n' m' : ℤ) (sign before after border own change crossing : ℕ → ℤ)
    → AreInTurn n m n' m' → ((f : Face s) → facing_of (toward_of c) f.a f.b f.c ≢ pos 0 → IsPassed c e f n m n' m')
    → ((f : Face s) → IsTally (RestCounts k c e f n m) (before f.number)) → ((f : Face s) → IsTally (RestCounts k c e f n' m') (after f.number))
    → ((f : Face s) → IsTally (BorderCrosses c e f n m n' m') (border f.number)) → ((f : Face s) → HasBorderChange k c e f (own f.number))
    → ((f : Face s) (side : ℕ) → side < 3 → sign (3 * f.number + side) ≡ face_sign (toward_of c) f)
    → ((f : Face s) (side : ℕ) → side < 3 → change (3 * f.number + side) ≡ part_change k c e.a e.b (start_corner f side) (end_corner f side))
    → ((f : Face s) (side : ℕ) → side < 3
    → IsTally (Crosses (on (toward_of c) e.a) (on (toward_of c) e.b) (on (toward_of c) (start_corner f side)) (on (toward_of c) (end_corner f side)) n m n' m') (crossing (3 * f.number + side)))
    → (let twin = twin_of s sound.closed in
    sum_below after (length s.triangles) -ℤ sum_below before (length s.triangles)
    ≡ sum_below (λ h. keep (nat_lt h (twin h)) (((sign h -ℤ sign (twin h)) *ℤ change h) *ℤ crossing h)) (3 * length s.triangles)
    -ℤ sum_below (λ t. sign (3 * t) *ℤ (own t *ℤ border t)) (length s.triangles))

-- ---- the section
-- the way from a to b is to the right of t, on the line from p to q, where it crosses that line after t, but for ends between the two half-lines
abbrev pub WedgeLaw : Type 0
WedgeLaw = (k : Side) (p q t a b : Sight) → pos 0 <ℤ p.w → pos 0 <ℤ q.w → pos 0 <ℤ t.w → pos 0 <ℤ a.w → pos 0 <ℤ b.w
    → ¬ ((right_by p q ≡ pos 0) × (above_by p q ≡ pos 0)) → turn_of p q t ≡ pos 0 → ¬ IsOnWay a b t
    → xor (xor (counts_at a b t) (is_ahead k p q t a b)) (xor (in_wedge k p q t a) (in_wedge k p q t b)) ≡ false

-- a point of an edge that is under no border is in the section exactly if an odd number of borders cross the edge's line after it
abbrev pub RayLaw : Type 0
RayLaw = (k : Side) (c : Plane) (s : Part) → IsClosed s → HasCornersInRange s → (o : Corner) (e : Edge s) (n m : ℤ)
    → ¬ IsEndOn (toward_of c) e → pos 0 <ℤ m → ¬ IsUnderBorder c s (share_point e.a e.b n m)
    → Decides (odd_in (border_ahead k c s o e n m) s.triangles) (IsInSection c s (share_point e.a e.b n m))

-- ---- next to the first end
-- at the place n / m the rests count as they do next to the first end, and the place is clear
pub record IsNextPlace (c : Plane) {s : Part} (e : Edge s) (n m : ℤ) : Type 0 where
  pub counts : (k : Side) (f : Face s) → RestCounts k c e f n m ↔ IsCutCoveredNext k c e false f
  pub clear : (f : Face s) → IsClearOfRest c e f n m

-- all places that are near enough are such places
abbrev pub NearLaw : Type 0
NearLaw = (c : Plane) (s : Part) (e : Edge s) (least : ℕ) → (k : ℕ) × (least ≤ k) × ((n m : ℤ) → IsNear (pos k) n m → IsNextPlace c e n m)

-- ---- hidden points
-- a valid place is hidden exactly where its two counts are not both 0
abbrev pub HiddenLaw : Type 0
HiddenLaw = (c : Plane) (s : Part) → IsSound s → HasCornersInRange s → (e : Edge s) (n m : ℤ) (left right : ℕ) → ¬ IsEndOn (toward_of c) e → IsValid c e n m
    → AreCutCounted to_left c e (share_point e.a e.b n m) left → AreCutCounted to_right c e (share_point e.a e.b n m) right
    → IsHiddenInCut c s (share_point e.a e.b n m) ↔ (left + right ≢ 0)
