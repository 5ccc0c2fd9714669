-- A part is sound, or it has a fault.
use Rattle.std.proofs.Common.{◌≡◌, ◌⊎◌, inl, inr, ℕ, ◌+◌, ◌*◌, ◌/◌, ◌%◌, ◌<◌, List, All, Some, length, slice_get, refl, sym, ap, subst, ◌∙◌, arith}
use Rattle.std.proofs.lemmas.Option.{none-some, same_Some, slice_get_within}
use Rattle.lattice.specs.declared.points.Corner.{Corner}
use Rattle.lattice.specs.declared.soup.Tri.{Tri}
use Rattle.lattice.specs.Triangles.{IsBelow}
use Rattle.geometry.specs.Faces.{IsFlat, normal}
use Rattle.geometry.specs.Parts.{Part, Face, HasNoFlatTriangle, HasNoSideTwice, IsClosed, IsCornerOf, HasNoDouble, AreEdges, start_of, end_of}
use Rattle.geometry.specs.Sound.{IsSound}
use Rattle.geometry.proofs.Listed.{same_element, face_at}
use Rattle.geometry.proofs.EdgesListed.{edges_listed}
use Rattle.solid_mesh.specs.declared.faults.MeshFault.{MeshFault}
use Rattle.solid_mesh.specs.declared.faults.MeshFault.TheVariants.{Flat, SameWay, Unpaired, Double, Meet}
use Rattle.solid_mesh.specs.Faults.{IsLeast, IsFlatAt, SharesEarlier, IsUnpaired, DoublesEarlier, MeetsAt, HasFault}
use Rattle.solid_mesh.specs.Meetings.{Side, MeetApart}
use Rattle.solid_mesh.specs.inner.Pairs.{AreAt, MeetBeyond}
use Rattle.solid_mesh.proofs.Apart.{apart_of_meets, meets_of_apart, none_meets, shared_only}
use Rattle.solid_mesh.proofs.DoubleLemmas.{none_double}
use Rattle.solid_mesh.proofs.FirstFound.{first_is_least}
use Rattle.solid_mesh.proofs.Meets.{apart-none, apart-first, apart-second, apart-both, turned_beyond}
use Rattle.solid_mesh.proofs.Readings.{side_there}
use Rattle.answers_exist.proofs.Decided.{Decided, decided_as, decided_some, by_option, IsFirstBelow, first_below}
use Rattle.answers_exist.proofs.Sides.{decided_corner, decided_shares_earlier, sharing_within, shared_within, sides_once, decided_unpaired, unpaired_within, closed_by, decided_doubles_earlier, doubling_within, doubled_within}
use Rattle.answers_exist.proofs.SomeTouch.{decided_zero, decided_touch, decided_beyond}

-- ---- least numbers
module _ (P : ℕ → Type 0) (each : (i : ℕ) → Decided (P i)) (n : ℕ) (within : (i : ℕ) → P i → i < n) where
  -- there is a least number of which it holds, or none
  first_one : ((i : ℕ) × IsLeast P i) ⊎ ((i : ℕ) → ¬ P i)
  first_one = by (first_below P each n)
    where
      by : ((i : ℕ) × IsFirstBelow P n i) ⊎ ((i : ℕ) → i < n → ¬ P i) → ((i : ℕ) × IsLeast P i) ⊎ ((i : ℕ) → ¬ P i)
      by (inl (i, first)) = inl (i, first_is_least P i first.holds first.none_before)
      by (inr none) = inr (λ i p. none i (within i p) p)

module _ (P : ℕ → ℕ → Type 0) (each : (j i : ℕ) → Decided (P j i)) (m n : ℕ) (first_within : (j i : ℕ) → P j i → j < m) (second_within : (j i : ℕ) → P j i → i < n) where
  abbrev IsFirstPair : ℕ → ℕ → Type 0
  IsFirstPair j i = IsLeast (λ j. (i : ℕ) × P j i) j × IsLeast (P j) i

  -- there is a least number with another one, and the least for it, or no such pair
  first_pair : ((j : ℕ) × (i : ℕ) × IsFirstPair j i) ⊎ ((j i : ℕ) → ¬ P j i)
  first_pair = by (first_one (λ j. (i : ℕ) × P j i) (λ j. decided_some (P j) (each j) n (second_within j)) m (λ j (i, p). first_within j i p))
    where
      at : (j : ℕ) → IsLeast (λ j. (i : ℕ) × P j i) j → ((i : ℕ) × IsLeast (P j) i) ⊎ ((i : ℕ) → ¬ P j i) → ((j : ℕ) × (i : ℕ) × IsFirstPair j i) ⊎ ((j i : ℕ) → ¬ P j i)
      at j first (inl (i, second)) = inl (j, i, (first, second))
      at j first (inr none) = let (i, p) = first.holds in absurd (none i p)

      by : ((j : ℕ) × IsLeast (λ j. (i : ℕ) × P j i) j) ⊎ ((j : ℕ) → ¬ ((i : ℕ) × P j i)) → ((j : ℕ) × (i : ℕ) × IsFirstPair j i) ⊎ ((j i : ℕ) → ¬ P j i)
      by (inl (j, first)) = at j first (first_one (P j) (each j) n (second_within j))
      by (inr none) = inr (λ j i p. none j (i, p))

-- ---- an edge from a triangle's corner
module _ (s : Part) (t : Tri) (a b c : Corner) (at : AreAt s t a b c) (k : ℕ) (p q : Corner) (at_p : slice_get s.corners k ≡ Some p) where
  meet_beyond : IsCornerOf t k → Decided (MeetBeyond a b c p q)
  meet_beyond (inl e) =
      decided_as (turned_beyond s t t a b c a b c at at k p q (record { turn = inl refl; first = λ _. e }) (inl e) at_p) (decided_beyond a b c q)
  meet_beyond (inr (inl e)) =
      decided_as (turned_beyond s t (record { a = t.b; b = t.c; c = t.a }) a b c b c a at (record { at_a = at.at_b; at_b = at.at_c; at_c = at.at_a }) k p q (record { turn = inr (inl refl); first = λ _. e }) (inr (inl e)) at_p)
      (decided_beyond b c a q)
  meet_beyond (inr (inr e)) =
      decided_as (turned_beyond s t (record { a = t.c; b = t.a; c = t.b }) a b c c a b at (record { at_a = at.at_c; at_b = at.at_a; at_c = at.at_b }) k p q (record { turn = inr (inr refl); first = λ _. e }) (inr (inr e)) at_p)
      (decided_beyond c a b q)

module _ (s : Part) (in_range : All (IsBelow (length s.corners)) s.triangles) where
  -- ---- flat triangles
  flat_as : (f g : Face s) → f.number ≡ g.number → IsFlat f.a f.b f.c → IsFlat g.a g.b g.c
  flat_as f g number h =
      let tri : f.tri ≡ g.tri = same_element s.triangles f.number g.number f.tri g.tri number f.listed g.listed in
      let a : f.a ≡ g.a = same_element s.corners f.tri.a g.tri.a f.a g.a (ap (λ (t : Tri). t.a) tri) f.at_a g.at_a in
      let b : f.b ≡ g.b = same_element s.corners f.tri.b g.tri.b f.b g.b (ap (λ (t : Tri). t.b) tri) f.at_b g.at_b in
      let c : f.c ≡ g.c = same_element s.corners f.tri.c g.tri.c f.c g.c (ap (λ (t : Tri). t.c) tri) f.at_c g.at_c in
      subst (λ (x : Corner). IsFlat x g.b g.c) a (subst (λ (x : Corner). IsFlat f.a x g.c) b (subst (λ (x : Corner). IsFlat f.a f.b x) c h))

  flat_here : (i : ℕ) (f : Face s) → f.number ≡ i → Decided (IsFlat f.a f.b f.c) → Decided (IsFlatAt s i)
  flat_here i f number (inl flat) = inl (f, number, flat)
  flat_here i f number (inr apart) = inr (λ (g, is, flat). apart (flat_as g f (is ∙ sym number) flat))

  decided_flat : (i : ℕ) → Decided (IsFlatAt s i)
  decided_flat i =
      by_option (slice_get s.triangles i) (λ none. inr (λ (g, is, flat). none-some g.tri (sym none ∙ ap (λ (k : ℕ). slice_get s.triangles k) (sym is) ∙ g.listed)))
      (λ t at. let f = face_at s in_range t i at in flat_here i f refl (decided_zero (normal f.a f.b f.c)))

  flat_within : (i : ℕ) → IsFlatAt s i → i < length s.triangles
  flat_within i (f, is, flat) = subst (λ (k : ℕ). k < length s.triangles) is (slice_get_within s.triangles f.number f.tri f.listed)

  -- ---- sides and triangles that meet
  module _ (half tri : ℕ) (e : Side s half) (f : Face s) (number : f.number ≡ tri) where
    corners_there : AreAt s f.tri f.a f.b f.c
    corners_there = record { at_a = f.at_a; at_b = f.at_b; at_c = f.at_c }

    apart_by : Decided (IsCornerOf f.tri e.m) → Decided (IsCornerOf f.tri e.n) → Decided (MeetApart s half tri)
    apart_by (inl first) (inl second) = inr (apart-both s half tri e f number first second)
    apart_by (inl first) (inr off) = decided_as (apart-first s half tri e f number first off) (meet_beyond s f.tri f.a f.b f.c corners_there e.m e.p e.q e.at_m first)
    apart_by (inr off) (inl second) = decided_as (apart-second s half tri e f number off second) (meet_beyond s f.tri f.a f.b f.c corners_there e.n e.q e.p e.at_n second)
    apart_by (inr off) (inr off_too) = decided_as (apart-none s half tri e f number off off_too) (decided_touch f.a f.b f.c e.p e.q)

  decided_apart : (half tri : ℕ) → Decided (MeetApart s half tri)
  decided_apart half tri =
      by_option (slice_get s.triangles (half / 3)) (λ none. inr (λ h. none-some h.side.goes.tri (sym none ∙ h.side.goes.at)))
      (λ t at. by_option (slice_get s.triangles tri) (λ none. inr (λ h. none-some h.face.tri (sym none ∙ ap (λ (k : ℕ). slice_get s.triangles k) (sym h.numbered) ∙ h.face.listed)))
      (λ u listed.
      let e = side_there s in_range half t at (start_of t (half % 3)) (end_of t (half % 3)) refl refl in
      let f = face_at s in_range u tri listed in
      apart_by half tri e f refl (decided_corner f.tri e.m) (decided_corner f.tri e.n)))

  module _ (closed : IsClosed s) (halves : List ℕ) (edges : AreEdges s halves) where
    decided_meets : (i t : ℕ) → Decided (MeetsAt s halves i t)
    decided_meets i t =
        by_option (slice_get halves i) (λ none. inr (λ h. let (half, at, apart) = apart_of_meets s closed halves i t h in none-some half (sym none ∙ at)))
        (λ half at. meets_by half at (decided_apart half t))
      where
        meets_by : (half : ℕ) → slice_get halves i ≡ Some half → Decided (MeetApart s half t) → Decided (MeetsAt s halves i t)
        meets_by half at (inl h) = inl (meets_of_apart s closed in_range halves edges i t half at (slice_get_within halves i half at) h)
        meets_by half at (inr off) = inr (λ h. let (other, there, apart) = apart_of_meets s closed halves i t h in
            off (subst (λ (k : ℕ). MeetApart s k t) (same_Some other half (sym there ∙ at)) apart))

    edge_within : (i t : ℕ) → MeetsAt s halves i t → i < length halves
    edge_within i t (e, f, numbered, of_face, meets) = slice_get_within halves i e.half numbered

    face_within : (i t : ℕ) → MeetsAt s halves i t → t < length s.triangles
    face_within i t (e, f, numbered, of_face, meets) = subst (λ (k : ℕ). k < length s.triangles) of_face (slice_get_within s.triangles f.number f.tri f.listed)

  -- ---- a fault, or none
  module _ (some : 0 < length s.triangles) where
    sound_by : (closed : IsClosed s) → HasNoDouble s → (halves : List ℕ) (edges : AreEdges s halves) → ((i t : ℕ) → ¬ MeetsAt s halves i t) → IsSound s
    sound_by closed double halves edges none = record {
      some = some;
      closed = closed;
      no_double = double;
      apart = shared_only s closed (none_meets s closed in_range halves edges (λ (i, t) (half, at, h). none i t (meets_of_apart s closed in_range halves edges i t half at (slice_get_within halves i half at) h)));
    }

    with_edges : (closed : IsClosed s) → HasNoDouble s → (halves : List ℕ) × AreEdges s halves → IsSound s ⊎ ((f : MeshFault) × HasFault s f)
    with_edges closed double (halves, edges) = by (first_pair (MeetsAt s halves) (decided_meets closed halves edges) (length halves) (length s.triangles) (edge_within closed halves edges) (face_within closed halves edges))
      where
        by : ((i : ℕ) × (t : ℕ) × (IsLeast (λ i. (t : ℕ) × MeetsAt s halves i t) i × IsLeast (MeetsAt s halves i) t)) ⊎ ((i t : ℕ) → ¬ MeetsAt s halves i t) → IsSound s ⊎ ((f : MeshFault) × HasFault s f)
        by (inl (i, t, (edge, face))) = inr (Meet i t, (closed, double, (halves, edges, edge, face)))
        by (inr none) = inl (sound_by closed double halves edges none)

    without_double : IsClosed s → IsSound s ⊎ ((f : MeshFault) × HasFault s f)
    without_double closed = by (first_pair (DoublesEarlier s) (decided_doubles_earlier s) (length s.triangles) (length s.triangles) (doubling_within s) (doubled_within s))
      where
        by : ((j : ℕ) × (i : ℕ) × (IsLeast (λ j. (i : ℕ) × DoublesEarlier s j i) j × IsLeast (DoublesEarlier s j) i)) ⊎ ((j i : ℕ) → ¬ DoublesEarlier s j i) → IsSound s ⊎ ((f : MeshFault) × HasFault s f)
        by (inl (j, i, (second, first))) = inr (Double i j, (closed, second, first))
        by (inr none) = with_edges closed (none_double s (λ k less (l, double). none k l double)) (edges_listed s)

    half_parts : (half : ℕ) → 3 * (half / 3) + half % 3 ≡ half
    half_parts half = omega arith

    paired : HasNoFlatTriangle s → HasNoSideTwice s → IsSound s ⊎ ((f : MeshFault) × HasFault s f)
    paired flat once = by (first_one (IsUnpaired s) (decided_unpaired s) (3 * length s.triangles) (unpaired_within s))
      where
        by : ((half : ℕ) × IsLeast (IsUnpaired s) half) ⊎ ((half : ℕ) → ¬ IsUnpaired s half) → IsSound s ⊎ ((f : MeshFault) × HasFault s f)
        by (inl (half, least)) = inr (Unpaired (half / 3) (half % 3), (flat, once, omega arith, subst (IsLeast (IsUnpaired s)) (sym (half_parts half)) least))
        by (inr none) = without_double (closed_by s flat once none)

    each_way : HasNoFlatTriangle s → IsSound s ⊎ ((f : MeshFault) × HasFault s f)
    each_way flat = by (first_pair (SharesEarlier s) (decided_shares_earlier s) (length s.triangles) (length s.triangles) (sharing_within s) (shared_within s))
      where
        by : ((j : ℕ) × (i : ℕ) × (IsLeast (λ j. (i : ℕ) × SharesEarlier s j i) j × IsLeast (SharesEarlier s j) i)) ⊎ ((j i : ℕ) → ¬ SharesEarlier s j i) → IsSound s ⊎ ((f : MeshFault) × HasFault s f)
        by (inl (j, i, (second, first))) = inr (SameWay i j, (flat, second, first))
        by (inr none) = paired flat (sides_once s in_range flat none)

    -- a part with a triangle, and whose corner numbers are in range, is sound, or has a fault
    pub some_fault : IsSound s ⊎ ((f : MeshFault) × HasFault s f)
    some_fault = by (first_one (IsFlatAt s) decided_flat (length s.triangles) flat_within)
      where
        by : ((i : ℕ) × IsLeast (IsFlatAt s) i) ⊎ ((i : ℕ) → ¬ IsFlatAt s i) → IsSound s ⊎ ((f : MeshFault) × HasFault s f)
        by (inl (i, least)) = inr (Flat i, least)
        by (inr none) = each_way (λ f flat. none f.number (f, refl, flat))
