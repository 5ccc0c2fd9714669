-- The counts next to an end of an edge, the part of them that is not of the triangles at its corner, and what outlines change of them in a turn about it.
use Rattle.std.specs.Prelude.{◌≡◌, ℕ, ℤ, pos, ◌-ℤ◌, Bool, List, length, sum}
use Rattle.std.specs.List.{AllZip}
use Rattle.lattice.specs.Triple.{Triple}
use Rattle.geometry.specs.Parts.{Part, Edge, IsNumbered}
use Rattle.solid_mesh.specs.Solids.{AreTrianglesAt}
use Rattle.geometry.specs.Counts.{Side, to_left, to_right}
use Rattle.geometry.specs.inner.CountsNext.{AreCoversOf, AreCountedNext}
use Rattle.geometry.specs.Turns.{number_at, HasTurnedAt}
use Rattle.hiding_laws.specs.Sums.{total}
use Rattle.cross_find.specs.declared.meter.End.{End}
use Rattle.cross_find.specs.Sights.{SightState}
use Rattle.span_count.specs.declared.step.Sides.{Sides}

-- ---- next to an end
-- so many faces are counted on that side next to the end
pub record IsCountNext (k : Side) (d : Triple) {s : Part} (e : Edge s) (at_b : Bool) (z : ℤ) : Type 0 where
  pub count : ℕ
  pub counted : AreCountedNext k d e at_b count
  pub all : z ≡ pos count

-- on both sides
pub record AreCountsNext (x : SightState) (edge : ℕ) (at_b : Bool) (c : Sides) : Type 0 where
  pub on_left : (e : Edge x.part) → IsNumbered x.halves edge e → IsCountNext to_left x.direction e at_b c.left
  pub on_right : (e : Edge x.part) → IsNumbered x.halves edge e → IsCountNext to_right x.direction e at_b c.right

-- ---- the triangles at its corner
-- so many triangles have the corner at that end of the edge with this number
pub record IsCornerCount (x : SightState) (edge : ℕ) (at_b : Bool) (n : ℕ) : Type 0 where
  pub of : Edge x.part
  pub numbered : IsNumbered x.halves edge of
  pub star : List ℕ
  pub at_corner : AreTrianglesAt x.part (number_at of at_b) star
  pub all : n ≡ length star

-- so many triangles at the corner are counted on that side next to the end
pub record AreOwn (k : Side) (d : Triple) {s : Part} (e : Edge s) (at_b : Bool) (n : ℕ) : Type 0 where
  pub star : List ℕ
  pub covers : List ℕ
  pub at_corner : AreTrianglesAt s (number_at e at_b) star
  pub next : AreCoversOf k d e at_b star covers
  pub all : n ≡ sum covers

pub record IsOwnCount (k : Side) (d : Triple) {s : Part} (e : Edge s) (at_b : Bool) (z : ℤ) : Type 0 where
  pub own : ℕ
  pub of_corner : AreOwn k d e at_b own
  pub all : z ≡ pos own

-- on both sides
pub record AreOwnCounts (x : SightState) (edge : ℕ) (at_b : Bool) (c : Sides) : Type 0 where
  pub on_left : (e : Edge x.part) → IsNumbered x.halves edge e → IsOwnCount to_left x.direction e at_b c.left
  pub on_right : (e : Edge x.part) → IsNumbered x.halves edge e → IsOwnCount to_right x.direction e at_b c.right

-- ---- the rest
-- so many are counted, less those at the corner
pub record IsRest (k : Side) (d : Triple) {s : Part} (e : Edge s) (at_b : Bool) (z : ℤ) : Type 0 where
  pub count : ℕ
  pub own : ℕ
  pub counted : AreCountedNext k d e at_b count
  pub of_corner : AreOwn k d e at_b own
  pub rest : z ≡ pos count -ℤ pos own

-- on both sides
pub record AreRests (x : SightState) (edge : ℕ) (at_b : Bool) (r : Sides) : Type 0 where
  pub on_left : (e : Edge x.part) → IsNumbered x.halves edge e → IsRest to_left x.direction e at_b r.left
  pub on_right : (e : Edge x.part) → IsNumbered x.halves edge e → IsRest to_right x.direction e at_b r.right

-- ---- the turn
-- z is the sum of what these outlines change of a count in the turn from the one end to the other
pub record IsTurnOver (k : Side) (x : SightState) (e : Edge x.part) (at_b : Bool) (f : Edge x.part) (at_b' : Bool) (outlines : List ℕ) (z : ℤ) : Type 0 where
  pub turns : List ℤ
  pub each : AllZip (λ i t. (o : Edge x.part) → IsNumbered x.halves i o → HasTurnedAt k x.direction e at_b f at_b' o t) outlines turns
  pub all : z ≡ total (λ t. t) turns

-- on both sides
pub record AreTurnsOver (x : SightState) (from to : End) (outlines : List ℕ) (z : Sides) : Type 0 where
  pub on_left : (e f : Edge x.part) → IsNumbered x.halves from.edge e → IsNumbered x.halves to.edge f → IsTurnOver to_left x e from.at_b f to.at_b outlines z.left
  pub on_right : (e f : Edge x.part) → IsNumbered x.halves from.edge e → IsNumbered x.halves to.edge f → IsTurnOver to_right x e from.at_b f to.at_b outlines z.right
