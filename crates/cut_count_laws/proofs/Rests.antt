-- What the plane leaves of a face over places of an edge, and how its border crosses there.
use Rattle.std.specs.Prelude.{◌≡◌, ◌≢◌, ◌⊎◌, ℤ, pos, ◌*ℤ◌}
use Rattle.lattice.specs.declared.points.Corner.{Corner}
use Rattle.lattice.specs.Points.{Point}
use Rattle.lattice.specs.Cuts.{Plane, toward_of}
use Rattle.geometry.specs.Cuts.{IsBorderOf, IsCrossed}
use Rattle.geometry.specs.Faces.{facing_of, share_point}
use Rattle.geometry.specs.Parts.{Part, Face, Edge}
use Rattle.hiding_laws.proofs.Screens.{Screen}
use Rattle.hiding_laws.proofs.OnScreens.{seen}
use Rattle.geometry.specs.Counts.{Side}
use Rattle.hiding_laws.proofs.Seen.{on}
use Rattle.hiding_laws.proofs.Shares.{Crosses, IsClear, IsClearOf}
use Rattle.cut_count_laws.specs.CutEnds.{mark_change}
use Rattle.cut_count_laws.specs.CutCovers.{RestHides, RestReachesTo}

-- ---- places
-- what is left of the face is strictly nearer over the place n / m of the edge, and has a corner strictly on that side
pub record RestCounts (k : Side) (c : Plane) {s : Part} (e : Edge s) (f : Face s) (n m : ℤ) : Type 0 where
  pub turned : facing_of (toward_of c) f.a f.b f.c ≢ pos 0
  pub hides : RestHides c f (share_point e.a e.b n m)
  pub reaches : RestReachesTo k c e f

-- ---- borders
-- by how much the border changes a mark along its own way, from where a side goes beyond the plane: 0 where the face has no border
pub data HasBorderChange (k : Side) (c : Plane) {s : Part} (e : Edge s) (f : Face s) : ℤ → Type 0 where
  along : (p q : Point) → IsBorderOf c f p q → HasBorderChange k c e f (mark_change k (toward_of c) e.a e.b p q)
  none : ¬ IsCrossed c f → HasBorderChange k c e f (pos 0)

-- Corners and the ends p and q of a border in one scale, larger by the product of the ends' divisors, so that none has a divisor.
abbrev pub grown : ℤ → Screen → Screen
grown k x = record { u = k *ℤ x.u; v = k *ℤ x.v; h = k *ℤ x.h; w = pos 1 }

abbrev pub corner_with : Plane → Point → Point → Corner → Screen
corner_with c p q k = grown (p.w *ℤ q.w) (on (toward_of c) k)

abbrev pub first_with : Plane → Point → Point → Screen
first_with c p q = grown q.w (seen (toward_of c) p)

abbrev pub second_with : Plane → Point → Point → Screen
second_with c p q = grown p.w (seen (toward_of c) q)

-- the border is seen to cross the edge's line between the places, and strictly nearer
pub record BorderCrosses (c : Plane) {s : Part} (e : Edge s) (f : Face s) (n m n' m' : ℤ) : Type 0 where
  pub p : Point
  pub q : Point
  pub border : IsBorderOf c f p q
  pub crosses : Crosses (corner_with c p q e.a) (corner_with c p q e.b) (first_with c p q) (second_with c p q) n m n' m'

-- the place is clear of the face's whole sides, and so is it of the border: one with a spot on its line of sight has a projection along the edge
pub record IsClearOfRest (c : Plane) {s : Part} (e : Edge s) (f : Face s) (n m : ℤ) : Type 0 where
  pub sides : IsClear (on (toward_of c) e.a) (on (toward_of c) e.b) (on (toward_of c) f.a) (on (toward_of c) f.b) (on (toward_of c) f.c) n m
  pub border : (p q : Point) → IsBorderOf c f p q → IsClearOf (corner_with c p q e.a) (corner_with c p q e.b) (first_with c p q) (second_with c p q) n m

-- the face's corners in its own order, from x on
abbrev pub AreInOrder : {s : Part} → Face s → Corner → Corner → Corner → Type 0
AreInOrder f x y z =
    ((f.a ≡ x) × (f.b ≡ y) × (f.c ≡ z)) ⊎ ((f.b ≡ x) × (f.c ≡ y) × (f.a ≡ z)) ⊎ ((f.c ≡ x) × (f.a ≡ y) × (f.b ≡ z))
