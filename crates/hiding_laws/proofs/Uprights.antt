-- Edge-on triangles at one edge.
use Rattle.std.specs.Prelude.{◌≡◌, ◌⊎◌, ℕ, ◌*◌, ◌<◌, ℤ, pos, ◌+ℤ◌, ◌-ℤ◌, ◌*ℤ◌, ◌<ℤ◌}
use Rattle.hiding_laws.proofs.Screens.{Screen, area_of, length_of, Covers, SideCovers}
use Rattle.hiding_laws.proofs.Meshes.{Mesh, IsMesh}
use Rattle.hiding_laws.proofs.Shares.{IsUnpierced}

-- over the place t/l of the line from a to b, c stands s times r/l higher than that line
pub record Stands (a b c : Screen) (l t s r : ℤ) : Type 0 where
  pub same_u : l *ℤ c.u ≡ ((l -ℤ t) *ℤ a.u) +ℤ (t *ℤ b.u)
  pub same_v : l *ℤ c.v ≡ ((l -ℤ t) *ℤ a.v) +ℤ (t *ℤ b.v)
  pub height : l *ℤ c.h ≡ (((l -ℤ t) *ℤ a.h) +ℤ (t *ℤ b.h)) +ℤ (s *ℤ r)

-- the spot of the edge with the weights i and j
abbrev pub weighed : Screen → Screen → ℤ → ℤ → Screen
weighed a b i j = record { u = (i *ℤ a.u) +ℤ (j *ℤ b.u); v = (i *ℤ a.v) +ℤ (j *ℤ b.v); h = (i *ℤ a.h) +ℤ (j *ℤ b.h); w = i +ℤ j }

-- two edge-on triangles do not stand on one side of their common edge, where neither is pierced by the other's side at a
abbrev pub NoFoldLaw : Type 0
NoFoldLaw = (a b c d : Screen) (l t t' s r r' : ℤ) → a.w ≡ pos 1 → c.w ≡ pos 1 → d.w ≡ pos 1 → pos 0 <ℤ l → pos 0 <ℤ r → pos 0 <ℤ r'
    → Stands a b c l t s r → Stands a b d l t' s r' → IsUnpierced a d a b c → IsUnpierced a c a b d → ⊥

-- over each inner spot of an edge, an edge-on triangle that stands up from it has a higher side
abbrev pub HigherSideLaw : Type 0
HigherSideLaw = (a b c : Screen) (l t r i j : ℤ) → pos 0 <ℤ l → pos 0 <ℤ r → pos 0 <ℤ i → pos 0 <ℤ j
    → Stands a b c l t (pos 1) r → SideCovers a c (weighed a b i j) ⊎ SideCovers c b (weighed a b i j)

-- where c stands along the line from a to b, and how high over it, both times the square of the side's length
abbrev pub foot_of : Screen → Screen → Screen → ℤ
foot_of a b c = ((b.u -ℤ a.u) *ℤ (c.u -ℤ a.u)) +ℤ ((b.v -ℤ a.v) *ℤ (c.v -ℤ a.v))

abbrev pub rise_of : Screen → Screen → Screen → ℤ
rise_of a b c = (length_of a b *ℤ c.h) -ℤ (((length_of a b -ℤ foot_of a b c) *ℤ a.h) +ℤ (foot_of a b c *ℤ b.h))

-- where both triangles of an edge are edge-on, one of their other sides passes higher over each inner spot of the edge
abbrev pub UpperLaw : Type 0
UpperLaw = (a b c d : Screen) (i j : ℤ) → a.w ≡ pos 1 → c.w ≡ pos 1 → d.w ≡ pos 1 → pos 0 <ℤ length_of a b → pos 0 <ℤ i → pos 0 <ℤ j
    → area_of a b c ≡ pos 0 → area_of a b d ≡ pos 0 → ¬ (rise_of a b c ≡ pos 0) → ¬ (rise_of a b d ≡ pos 0) → IsUnpierced a d a b c → IsUnpierced a c a b d
    → SideCovers a c (weighed a b i j) ⊎ SideCovers c b (weighed a b i j) ⊎ SideCovers a d (weighed a b i j) ⊎ SideCovers d b (weighed a b i j)

-- among the sides over x one is highest
abbrev pub HighestLaw : Type 0
HighestLaw = (n : ℕ) (a b : ℕ → Screen) (x : Screen) → pos 0 <ℤ x.w
    → ((h : ℕ) → h < n → SideCovers (a h) (b h) x → pos 0 <ℤ length_of (a h) (b h))
    → (h : ℕ) → h < n → SideCovers (a h) (b h) x
    → (g : ℕ) × (g < n) × (v : SideCovers (a g) (b g) x) × ((f : ℕ) → f < n → ¬ SideCovers (a f) (b f) (weighed (a g) (b g) v.i v.j))

-- the third corner of each side's triangle, and the sides after and before it
pub record IsFan (s : Mesh) (apex : ℕ → Screen) (next prev : ℕ → ℕ) : Type 0 where
  pub next_within : (h : ℕ) → h < 3 * s.triangles → next h < 3 * s.triangles
  pub next_from : (h : ℕ) → h < 3 * s.triangles → s.from (next h) ≡ s.to h
  pub next_to : (h : ℕ) → h < 3 * s.triangles → s.to (next h) ≡ apex h
  pub prev_within : (h : ℕ) → h < 3 * s.triangles → prev h < 3 * s.triangles
  pub prev_from : (h : ℕ) → h < 3 * s.triangles → s.from (prev h) ≡ apex h
  pub prev_to : (h : ℕ) → h < 3 * s.triangles → s.to (prev h) ≡ s.from h

-- where a side of some triangle is over an ordinary spot, a triangle that is not edge-on covers it
abbrev pub EdgeOnLaw : Type 0
EdgeOnLaw = (s : Mesh) (apex : ℕ → Screen) (next prev : ℕ → ℕ) (x : Screen) → IsMesh s → IsFan s apex next prev → pos 0 <ℤ x.w
    → ((h : ℕ) → h < 3 * s.triangles → ((s.from h).w ≡ pos 1) × ((apex h).w ≡ pos 1))
    → ((h : ℕ) → h < 3 * s.triangles → (v : SideCovers (s.from h) (s.to h) x) → (pos 0 <ℤ length_of (s.from h) (s.to h)) × (pos 0 <ℤ v.i) × (pos 0 <ℤ v.j))
    → ((h : ℕ) → h < 3 * s.triangles → pos 0 <ℤ length_of (s.from h) (s.to h) → area_of (s.from h) (s.to h) (apex h) ≡ pos 0 → ¬ (rise_of (s.from h) (s.to h) (apex h) ≡ pos 0))
    → ((h : ℕ) → h < 3 * s.triangles → pos 0 <ℤ length_of (s.from h) (s.to h) → area_of (s.from h) (s.to h) (apex (s.twin h)) ≡ pos 0 → ¬ (rise_of (s.from h) (s.to h) (apex (s.twin h)) ≡ pos 0))
    → ((h : ℕ) → h < 3 * s.triangles → IsUnpierced (s.from h) (apex (s.twin h)) (s.from h) (s.to h) (apex h) × IsUnpierced (s.from h) (apex h) (s.from h) (s.to h) (apex (s.twin h)))
    → (h : ℕ) → h < 3 * s.triangles → SideCovers (s.from h) (s.to h) x
    → (g : ℕ) × (g < 3 * s.triangles) × (¬ (area_of (s.from g) (s.to g) (apex g) ≡ pos 0)) × Covers (s.from g) (s.to g) (apex g) x
