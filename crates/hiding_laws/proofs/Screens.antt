-- Points as a viewer sees them, and what a face and a side cover there.
use Rattle.std.specs.Prelude.{◌≡◌, ◌⊎◌, ℤ, pos, ◌+ℤ◌, ◌-ℤ◌, ◌*ℤ◌, ◌≤ℤ◌, ◌<ℤ◌}
use Rattle.lattice.specs.Triple.{Triple, dot, cross}
use Rattle.lattice.specs.Points.{Point, scaled}

-- U, V and height, each times w
pub record Screen : Type 0 where
  pub u : ℤ
  pub v : ℤ
  pub h : ℤ
  pub w : ℤ

-- the point as it is seen along d, where r is the right axis
abbrev pub screen_of : Triple → Triple → Point → Screen
screen_of d r p = record { u = dot r (scaled p); v = dot (cross d r) (scaled p); h = dot d (scaled p); w = p.w }

-- twice the area of a triangle of three corners, with a sign
abbrev pub area_of : Screen → Screen → Screen → ℤ
area_of a b c = ((b.u -ℤ a.u) *ℤ (c.v -ℤ a.v)) -ℤ ((b.v -ℤ a.v) *ℤ (c.u -ℤ a.u))

-- the determinant of a point and two corners
abbrev pub turn_of : Screen → Screen → Screen → ℤ
turn_of p b c = ((p.u *ℤ (b.v -ℤ c.v)) -ℤ (p.v *ℤ (b.u -ℤ c.u))) +ℤ (p.w *ℤ ((b.u *ℤ c.v) -ℤ (c.u *ℤ b.v)))

-- the height of the plane of three corners at p, against that of p
abbrev pub lead_of : Screen → Screen → Screen → Screen → ℤ
lead_of a b c p = (((turn_of p b c *ℤ a.h) +ℤ (turn_of p c a *ℤ b.h)) +ℤ (turn_of p a b *ℤ c.h)) -ℤ (p.h *ℤ area_of a b c)

-- a sum of three corners with weights that are not all 0 is on the line of sight of p and nearer
pub record Covers (a b c p : Screen) : Type 0 where
  pub i : ℤ
  pub j : ℤ
  pub k : ℤ
  pub i_least : pos 0 ≤ℤ i
  pub j_least : pos 0 ≤ℤ j
  pub k_least : pos 0 ≤ℤ k
  pub some : pos 0 <ℤ ((i +ℤ j) +ℤ k)
  pub same_u : (((i *ℤ a.u) +ℤ (j *ℤ b.u)) +ℤ (k *ℤ c.u)) *ℤ p.w ≡ p.u *ℤ ((i +ℤ j) +ℤ k)
  pub same_v : (((i *ℤ a.v) +ℤ (j *ℤ b.v)) +ℤ (k *ℤ c.v)) *ℤ p.w ≡ p.v *ℤ ((i +ℤ j) +ℤ k)
  pub nearer : (p.h *ℤ ((i +ℤ j) +ℤ k)) <ℤ ((((i *ℤ a.h) +ℤ (j *ℤ b.h)) +ℤ (k *ℤ c.h)) *ℤ p.w)

-- the same with two corners
pub record SideCovers (a b p : Screen) : Type 0 where
  pub i : ℤ
  pub j : ℤ
  pub i_least : pos 0 ≤ℤ i
  pub j_least : pos 0 ≤ℤ j
  pub some : pos 0 <ℤ (i +ℤ j)
  pub same_u : ((i *ℤ a.u) +ℤ (j *ℤ b.u)) *ℤ p.w ≡ p.u *ℤ (i +ℤ j)
  pub same_v : ((i *ℤ a.v) +ℤ (j *ℤ b.v)) *ℤ p.w ≡ p.v *ℤ (i +ℤ j)
  pub nearer : (p.h *ℤ (i +ℤ j)) <ℤ (((i *ℤ a.h) +ℤ (j *ℤ b.h)) *ℤ p.w)

-- the two corners are seen at different places
abbrev pub AreApart : Screen → Screen → Type 0
AreApart a b = ¬ ((a.u ≡ b.u) × (a.v ≡ b.v))

-- a side that covers p, and is not seen end-on
abbrev pub SomeSideCovers : Screen → Screen → Screen → Screen → Type 0
SomeSideCovers a b c p = (AreApart b c × SideCovers b c p) ⊎ (AreApart c a × SideCovers c a p) ⊎ (AreApart a b × SideCovers a b p)

-- the square of the length of a side
abbrev pub length_of : Screen → Screen → ℤ
length_of a b = ((b.u -ℤ a.u) *ℤ (b.u -ℤ a.u)) +ℤ ((b.v -ℤ a.v) *ℤ (b.v -ℤ a.v))

-- how far along a side a point is
abbrev pub along_of : Screen → Screen → Screen → ℤ
along_of a b p = ((b.u -ℤ a.u) *ℤ (p.u -ℤ (p.w *ℤ a.u))) +ℤ ((b.v -ℤ a.v) *ℤ (p.v -ℤ (p.w *ℤ a.v)))

-- the way along the side that is left
abbrev pub rest_of : Screen → Screen → Screen → ℤ
rest_of a b p = (p.w *ℤ length_of a b) -ℤ along_of a b p

-- the height of the side at p, against that of p
abbrev pub side_lead_of : Screen → Screen → Screen → ℤ
side_lead_of a b p = ((rest_of a b p *ℤ a.h) +ℤ (along_of a b p *ℤ b.h)) -ℤ (p.h *ℤ length_of a b)
