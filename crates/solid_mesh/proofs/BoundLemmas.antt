-- Bounds as they are read, and where those of an edge and of a triangle meet.
use Rattle.std.proofs.Common.{◌≡◌, ℕ, ◌≤◌, ◌^◌, List, refl, sym, subst, ◌∙◌, arith, to_z, of_z}
use Rattle.std.specs.Prelude.{ℤ, ◌-ℤ◌, ◌≤ℤ◌, unsigned_abs}
use Rattle.std.specs.Int.{w32}
use Rattle.std.proofs.lemmas.Int.{ints}
use Rattle.integers.proofs.Comparisons.{at_most_itself}
use Rattle.lattice.specs.declared.points.Corner.{Corner}
use Rattle.geometry.specs.Parts.{Part}
use Rattle.geometry.proofs.Listed.{same_element}
use Rattle.meeting.specs.declared.range.Range.{Range}
use Rattle.meeting.specs.Ranges.{IsInRange, RangesMeet, IsEdgeRange, IsTriangleRange}
use Rattle.meeting.proofs.BoxAxes.{read}
use Rattle.meeting.proofs.Ranges.{coordinates-by-ranges}
use Rattle.solid_mesh.specs.inner.Bounds.{AreEdgeBounds, AreTriangleBounds, BoundsMeet, IsInBounds, IsWithin, AreWithin}
use Rattle.solid_mesh.specs.inner.Searches.{AtHalf, IsReachOf}
use Rattle.solid_mesh.specs.inner.Trees.{IsPlaced}
use Rattle.solid_mesh.specs.Meetings.{HaveCommonX, HaveCommonBox, MeetApart}
use Rattle.solid_mesh.specs.declared.bounds.Bounds.{Bounds}
use Rattle.solid_mesh.specs.declared.placed.Placed.{Placed}
use Rattle.solid_mesh.specs.declared.search.Reach.{Reach}
use Rattle.meeting.proofs.TouchingBoxes.{edge_low, edge_high, face_low, face_high, boxes-of-touch, differences-of-touch}
use Rattle.solid_mesh.proofs.Meets.{touch_of_apart, box_here, x_here}

-- ---- ranges as the machine reads them
abbrev machine : ℤ → ℤ
machine z = to_z w32 (of_z w32 z)

pub difference_read : (x y : ℤ) → unsigned_abs x ≤ 2 ^ 20 → unsigned_abs y ≤ 2 ^ 20 → machine (machine x -ℤ machine y) ≡ x -ℤ y
difference_read x y h k = (λ i. machine (read x h i -ℤ read y k i)) ∙ whole x y h k
  where
    whole : (x y : ℤ) → unsigned_abs x ≤ 2 ^ 20 → unsigned_abs y ≤ 2 ^ 20 → machine (x -ℤ y) ≡ x -ℤ y
    whole x y h k = omega (arith, ints)

pub edge_range_as : (p q : ℤ) {p' q' : ℤ} → p' ≡ p → q' ≡ q → (r : Range) → IsEdgeRange p' q' r → IsEdgeRange p q r
edge_range_as p q {p'} {q'} is_p is_q r h = subst (λ (z : ℤ). IsEdgeRange z q r) is_p (subst (λ (z : ℤ). IsEdgeRange p' z r) is_q h)

pub triangle_range_as : (a b c : ℤ) {a' b' c' : ℤ} → a' ≡ a → b' ≡ b → c' ≡ c → (r : Range) → IsTriangleRange a' b' c' r → IsTriangleRange a b c r
triangle_range_as a b c {a'} {b'} {c'} is_a is_b is_c r h =
    subst (λ (z : ℤ). IsTriangleRange z b c r) is_a (subst (λ (z : ℤ). IsTriangleRange a' z c r) is_b (subst (λ (z : ℤ). IsTriangleRange a' b' z r) is_c h))

-- ---- bounds within bounds
through : {x y z : ℤ} → x ≤ℤ y → y ≤ℤ z → x ≤ℤ z
through {x} {y} {z} h k = omega (arith, ints)

pub within_itself : (r : Bounds) → AreWithin r r
within_itself r = record { x = along r.x; y = along r.y; z = along r.z; xy = along r.xy; yz = along r.yz; zx = along r.zx }
  where
    along : (r : Range) → IsWithin r r
    along r = record { from = at_most_itself r.from; to = at_most_itself r.to }

pub within_both : (r s t : Bounds) → AreWithin r s → AreWithin s t → AreWithin r t
within_both r s t h k = record { x = along h.x k.x; y = along h.y k.y; z = along h.z k.z; xy = along h.xy k.xy; yz = along h.yz k.yz; zx = along h.zx k.zx }
  where
    along : {r s t : Range} → IsWithin r s → IsWithin s t → IsWithin r t
    along h k = record { from = through k.from h.from; to = through h.to k.to }

-- a corner within bounds
pub in_wider : (k : Corner) (r s : Bounds) → AreWithin r s → IsInBounds k r → IsInBounds k s
in_wider k r s h g = record { x = along h.x g.x; y = along h.y g.y; z = along h.z g.z }
  where
    along : {r s : Range} {n : ℤ} → IsWithin r s → IsInRange r n → IsInRange s n
    along h g = record { from = through h.from g.from; to = through g.to h.to }

pub ends_in : (p q : Corner) (r : Bounds) → AreEdgeBounds p q r → IsInBounds p r × IsInBounds q r
ends_in p q r h = (record { x = first h.x; y = first h.y; z = first h.z }, record { x = last h.x; y = last h.y; z = last h.z })
  where
    first : {p q : ℤ} {r : Range} → IsEdgeRange p q r → IsInRange r p
    first {p} {q} h = record { from = subst (λ (z : ℤ). z ≤ℤ p) (sym h.from) ((edge_low p q).0); to = subst (λ (z : ℤ). p ≤ℤ z) (sym h.to) ((edge_high p q).0) }

    last : {p q : ℤ} {r : Range} → IsEdgeRange p q r → IsInRange r q
    last {p} {q} h = record { from = subst (λ (z : ℤ). z ≤ℤ q) (sym h.from) ((edge_low p q).1); to = subst (λ (z : ℤ). q ≤ℤ z) (sym h.to) ((edge_high p q).1) }

pub corners_in : (a b c : Corner) (r : Bounds) → AreTriangleBounds a b c r → IsInBounds a r × IsInBounds b r × IsInBounds c r
corners_in a b c r h =
    let (a_x, b_x, c_x) = along h.x in
    let (a_y, b_y, c_y) = along h.y in
    let (a_z, b_z, c_z) = along h.z in
    (record { x = a_x; y = a_y; z = a_z }, record { x = b_x; y = b_y; z = b_z }, record { x = c_x; y = c_y; z = c_z })
  where
    one : {n low high : ℤ} {r : Range} → r.from ≡ low → r.to ≡ high → low ≤ℤ n → n ≤ℤ high → IsInRange r n
    one {n} from to h g = record { from = subst (λ (z : ℤ). z ≤ℤ n) (sym from) h; to = subst (λ (z : ℤ). n ≤ℤ z) (sym to) g }

    along : {a b c : ℤ} {r : Range} → IsTriangleRange a b c r → IsInRange r a × IsInRange r b × IsInRange r c
    along {a} {b} {c} h =
        let (low_a, low_b, low_c) = face_low a b c in
        let (high_a, high_b, high_c) = face_high a b c in
        (one h.from h.to low_a high_a, one h.from h.to low_b high_b, one h.from h.to low_c high_c)

-- what meets bounds meets those that these are within
pub meet_around : (r s t : Bounds) → AreWithin r s → BoundsMeet r t → BoundsMeet s t
meet_around r s t h m = record { x = along h.x m.x; y = along h.y m.y; z = along h.z m.z; xy = along h.xy m.xy; yz = along h.yz m.yz; zx = along h.zx m.zx }
  where
    along : {r s t : Range} → IsWithin r s → RangesMeet r t → RangesMeet s t
    along h m = record { number = m.number; first = record { from = through h.from m.first.from; to = through m.first.to h.to }; second = m.second }

-- ---- an edge and a triangle
module _ (s : Part) (halves : List ℕ) (edge : ℕ) (reach : Reach) (of_edge : IsReachOf s halves edge reach) (x : Placed) (of_triangle : IsPlaced s x) where
  pub common_x : RangesMeet x.bounds.x reach.bounds.x → AtHalf (HaveCommonX s) halves (edge, x.tri)
  common_x h = (
    of_edge.half,
    of_edge.listed,
    (x_here s of_edge.half x.tri of_edge.side of_triangle.face of_triangle.numbered).0
        ((coordinates-by-ranges _ _ _ _ _ x.bounds.x reach.bounds.x of_triangle.of_face.x of_edge.of_side.x).0 h),
  )

  pub common_box : BoundsMeet x.bounds reach.bounds → AtHalf (HaveCommonBox s) halves (edge, x.tri)
  common_box h = (
    of_edge.half,
    of_edge.listed,
    (box_here s of_edge.half x.tri of_edge.side of_triangle.face of_triangle.numbered).0 (record {
      x = (coordinates-by-ranges _ _ _ _ _ x.bounds.x reach.bounds.x of_triangle.of_face.x of_edge.of_side.x).0 h.x;
      y = (coordinates-by-ranges _ _ _ _ _ x.bounds.y reach.bounds.y of_triangle.of_face.y of_edge.of_side.y).0 h.y;
      z = (coordinates-by-ranges _ _ _ _ _ x.bounds.z reach.bounds.z of_triangle.of_face.z of_edge.of_side.z).0 h.z;
    }),
  )

  -- where they meet apart, their bounds meet
  pub bounds_of_apart : AtHalf (MeetApart s) halves (edge, x.tri) → BoundsMeet x.bounds reach.bounds
  bounds_of_apart (half, at, meets) =
      let same : half ≡ of_edge.half = same_element halves edge edge half of_edge.half refl at of_edge.listed in
      let f = of_triangle.face in
      let e = of_edge.side in
      let touch = touch_of_apart s of_edge.half x.tri e f of_triangle.numbered (subst (λ (k : ℕ). MeetApart s k x.tri) same meets) in
      let box = boxes-of-touch f.a f.b f.c e.p e.q touch in
      let differences = differences-of-touch f.a f.b f.c e.p e.q touch in
      record {
        x = (coordinates-by-ranges _ _ _ _ _ x.bounds.x reach.bounds.x of_triangle.of_face.x of_edge.of_side.x).1 box.x;
        y = (coordinates-by-ranges _ _ _ _ _ x.bounds.y reach.bounds.y of_triangle.of_face.y of_edge.of_side.y).1 box.y;
        z = (coordinates-by-ranges _ _ _ _ _ x.bounds.z reach.bounds.z of_triangle.of_face.z of_edge.of_side.z).1 box.z;
        xy = (coordinates-by-ranges _ _ _ _ _ x.bounds.xy reach.bounds.xy of_triangle.of_face.xy of_edge.of_side.xy).1 differences.xy;
        yz = (coordinates-by-ranges _ _ _ _ _ x.bounds.yz reach.bounds.yz of_triangle.of_face.yz of_edge.of_side.yz).1 differences.yz;
        zx = (coordinates-by-ranges _ _ _ _ _ x.bounds.zx reach.bounds.zx of_triangle.of_face.zx of_edge.of_side.zx).1 differences.zx;
      }
