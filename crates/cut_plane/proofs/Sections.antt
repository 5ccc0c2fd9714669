-- A point is in the section exactly if the corners of the faces say so, and two points are alike if no border crosses the way between them.
use Rattle.std.proofs.Common.{◌≡◌, ℕ, ◌+◌, ◌*◌, ◌/◌, ◌%◌, ◌<◌, ◌==◌, ◌&&◌, Bool, true, false, All, Contains, length, get_or, refl, sym, ap, ◌∙◌, arith}
use Rattle.std.specs.Prelude.{pos, ◌<ℤ◌, ◌↔◌}
use Rattle.std.specs.Bool.{Decides}
use Rattle.std.proofs.lemmas.Bool.{false≢true, false_from_ne_true, and_parts}
use Rattle.std.proofs.lemmas.Bool.Decides.{Decides-eqb}
use Rattle.std.proofs.lemmas.Option.{get_or_from_slice_get, slice_get_read}
use Rattle.integers.proofs.Logic.{same_tests}
use Rattle.lattice.specs.declared.points.Corner.{Corner}
use Rattle.lattice.specs.declared.soup.Tri.{Tri}
use Rattle.lattice.specs.Triangles.{IsBelow}
use Rattle.lattice.specs.Points.{Point, IsPoint}
use Rattle.lattice.specs.Cuts.{Plane, toward_of}
use Rattle.geometry.specs.Parts.{Part, Face, IsClosed, start_of, end_of}
use Rattle.geometry.specs.Cuts.{HasBorderRightOf, IsInSection}
use Rattle.geometry.proofs.Listed.{face_at}
use Rattle.solid_mesh.specs.inner.Halves.{start_at, end_at}
use Rattle.solid_mesh.proofs.HalfLemmas.{half_between, half_within, start_of_half, end_of_half}
use Rattle.cut_plane.proofs.Sights.{Sight, sight_of, corner_at, left_of_border, left_of_triangle, if_apart, is_before, beside_way, crossing_sight}
use Rattle.cut_plane.proofs.Xors.{xor, xor-none, same_of_xor, odd_below, odd_below-same, odd_below-xor, odd_below-none, odd_below-one, odd_table, odd_below-threes, odd_in, odd_in-places, odd_in-same, odd_in_decides}
use Rattle.cut_plane.proofs.FaceBorders.{IsFaceClear, face_balanced, crossing_turned, left_decides}

true_both : (a b : Bool) → a ≡ true → b ≡ true → (a && b) ≡ true
true_both a b e h = (λ i. e i && h i)

-- ---- a side and its twin cross the plane in one point
if_apart-same : (a b : Bool) → if_apart a a b ≡ false
if_apart-same false b = refl
if_apart-same true b = refl

if_apart-turned : (a b x : Bool) → if_apart a b x ≡ if_apart b a x
if_apart-turned false false x = refl
if_apart-turned false true x = refl
if_apart-turned true false x = refl
if_apart-turned true true x = refl

-- the side crosses the plane where the test says
abbrev pub crosses_where : (Sight → Bool) → Plane → Corner → Corner → Bool
crosses_where test c k l = if_apart (is_before c k) (is_before c l) (test (crossing_sight c k l))

crosses-turned : (test : Sight → Bool) (c : Plane) (k l : Corner) → crosses_where test c k l ≡ crosses_where test c l k
crosses-turned test c k l =
    ap (λ x. if_apart (is_before c k) (is_before c l) (test x)) (crossing_turned c k l)
    ∙ if_apart-turned (is_before c k) (is_before c l) (test (crossing_sight c l k))

module _ (c : Plane) (s : Part) (closed : IsClosed s) (o : Corner) (test : Sight → Bool) where
  abbrev N : ℕ
  N = 3 * length s.triangles

  abbrev start : ℕ → ℕ
  start half = start_at s.triangles half

  abbrev end : ℕ → ℕ
  end half = end_at s.triangles half

  -- the half crosses the plane where the test says
  abbrev side : ℕ → Bool
  side half = crosses_where test c (corner_at s o (start half)) (corner_at s o (end half))

  -- and the other is its twin
  abbrev table : ℕ → ℕ → Bool
  table half other = ((start half == end other) && (end half == start other)) && side half

  table_true : (half other : ℕ) → table half other ≡ true → (start half ≡ end other) × (end half ≡ start other) × (side half ≡ true)
  table_true half other h =
      let both = and_parts ((start half == end other) && (end half == start other)) (side half) h in
      let ends = and_parts (start half == end other) (end half == start other) both.0 in
      ((Decides-eqb (start half) (end other)).0 ends.0, (Decides-eqb (end half) (start other)).0 ends.1, both.1)

  true_table : (half other : ℕ) → start half ≡ end other → end half ≡ start other → side half ≡ true → table half other ≡ true
  true_table half other e g h =
      true_both _ _ (true_both _ _ ((Decides-eqb (start half) (end other)).1 e) ((Decides-eqb (end half) (start other)).1 g)) h

  twin_side : (half other : ℕ) → start half ≡ end other → end half ≡ start other → side half ≡ side other
  twin_side half other e g =
      (λ i. crosses_where test c (corner_at s o (e i)) (corner_at s o (g i)))
      ∙ crosses-turned test c (corner_at s o (end other)) (corner_at s o (start other))

  alike : (half other : ℕ) → half < N → other < N → table half other ≡ table other half
  alike half other h g = same_tests (table half other) (table other half) (one half other) (one other half)
    where
      one : (half other : ℕ) → table half other ≡ true → table other half ≡ true
      one half other t =
          let (e, g, h) = table_true half other t in
          true_table other half (sym g) (sym e) (sym (twin_side half other e g) ∙ h)

  no_own_twin : (half : ℕ) → half < N → table half half ≡ false
  no_own_twin half h = false_from_ne_true (table half half) (λ t.
      let (e, g, crosses) = table_true half half t in
      false≢true (sym (ap (λ k. crosses_where test c (corner_at s o k) (corner_at s o (end half))) e ∙ if_apart-same (is_before c (corner_at s o (end half))) _) ∙ crosses))

  row : (half : ℕ) → half < N → odd_below (table half) N ≡ side half
  row half within = by (side half) refl
    where
      by : (b : Bool) → side half ≡ b → odd_below (table half) N ≡ side half
      by false e = odd_below-none (table half) N (λ k h. false_from_ne_true (table half k) (λ t. false≢true (sym e ∙ (table_true half k t).2))) ∙ sym e
      by true e =
          let (other, back) = closed.returns half (start half) (end half) (half_between s half (start half) (end half) within refl refl) in
          odd_below-one (table half) N other (half_within s other back)
          (true_table half other (sym (end_of_half s other back)) (sym (start_of_half s other back)) e)
          (λ k h t.
          let (e, g, crosses) = table_true half k t in
          closed.once k other (end half) (start half) (half_between s k (end half) (start half) h (sym g) (sym e)) back)
          ∙ sym e

  -- an even number of halves cross the plane there
  sides_even : odd_below side N ≡ false
  sides_even = sym (odd_below-same (λ half. odd_below (table half) N) side N row) ∙ odd_table table N alike no_own_twin

  -- ---- triangle by triangle
  abbrev zeros : Tri
  zeros = record { a = 0; b = 0; c = 0 }

  abbrev tri : ℕ → Tri
  tri k = get_or s.triangles k zeros

  abbrev across : Tri → ℕ → Bool
  across t n = crosses_where test c (corner_at s o (start_of t n)) (corner_at s o (end_of t n))

  -- an odd number of the triangle's sides cross the plane there
  abbrev pub sides_of : Tri → Bool
  sides_of t = xor (xor (across t 0) (across t 1)) (across t 2)

  side_at : (half k n : ℕ) → half / 3 ≡ k → half % 3 ≡ n → side half ≡ across (tri k) n
  side_at half k n e g = λ i. across (tri (e i)) (g i)

  three_at : (k : ℕ) → xor (xor (side (3 * k)) (side (3 * k + 1))) (side (3 * k + 2)) ≡ sides_of (tri k)
  three_at k = λ i. xor
      (xor (side_at (3 * k) k 0 (omega arith) (omega arith) i) (side_at (3 * k + 1) k 1 (omega arith) (omega arith) i))
      (side_at (3 * k + 2) k 2 (omega arith) (omega arith) i)

  threes_even : odd_below (λ k. sides_of (tri k)) (length s.triangles) ≡ false
  threes_even =
      sym (odd_below-same (λ k. xor (xor (side (3 * k)) (side (3 * k + 1))) (side (3 * k + 2))) (λ k. sides_of (tri k)) (length s.triangles) (λ k h. three_at k))
      ∙ sym (odd_below-threes side (length s.triangles))
      ∙ sides_even

  -- whether an odd number of triangles pass stays the same where each triangle's sides are added
  pub with_sides : (b : Tri → Bool) → odd_in (λ t. xor (b t) (sides_of t)) s.triangles ≡ odd_in b s.triangles
  with_sides b =
      odd_in-places (λ t. xor (b t) (sides_of t)) zeros s.triangles
      ∙ odd_below-xor (λ k. b (tri k)) (λ k. sides_of (tri k)) (length s.triangles)
      ∙ ap (xor (odd_below (λ k. b (tri k)) (length s.triangles))) threes_even
      ∙ xor-none (odd_below (λ k. b (tri k)) (length s.triangles))
      ∙ sym (odd_in-places b zeros s.triangles)

-- ---- a triangle of the part
-- a triangle's borders and sides are those of a face
pub left_at : (c : Plane) (s : Part) (o : Corner) (p : Sight) (f : Face s) → left_of_triangle c s o p f.tri ≡ left_of_border c f.a f.b f.c p
left_at c s o p f = λ i. left_of_border c
    (get_or_from_slice_get s.corners f.tri.a f.a o f.at_a i)
    (get_or_from_slice_get s.corners f.tri.b f.b o f.at_b i)
    (get_or_from_slice_get s.corners f.tri.c f.c o f.at_c i) p

-- an odd number of the sides of a face with these corners cross the plane where the test says
abbrev pub sides_between : (Sight → Bool) → Plane → Corner → Corner → Corner → Bool
sides_between test c k l m = xor (xor (crosses_where test c k l) (crosses_where test c l m)) (crosses_where test c m k)

pub sides_at : (c : Plane) (s : Part) (closed : IsClosed s) (o : Corner) (test : Sight → Bool) (f : Face s) → sides_of c s closed o test f.tri ≡ sides_between test c f.a f.b f.c
sides_at c s closed o test f = λ i. sides_between test c
    (get_or_from_slice_get s.corners f.tri.a f.a o f.at_a i)
    (get_or_from_slice_get s.corners f.tri.b f.b o f.at_b i)
    (get_or_from_slice_get s.corners f.tri.c f.c o f.at_c i)

pub face_of : (s : Part) → All (IsBelow (length s.corners)) s.triangles → (t : Tri) → Contains s.triangles t → (f : Face s) × (f.tri ≡ t)
face_of s in_range t (k, h, is) = (face_at s in_range t k (slice_get_read s.triangles (length s.triangles) k t refl h (sym is)), refl)

-- ---- two sights
module _ (c : Plane) (s : Part) (closed : IsClosed s) (o : Corner) (p q : Sight) (in_range : All (IsBelow (length s.corners)) s.triangles)
    (p_there : pos 0 <ℤ p.w) (q_there : pos 0 <ℤ q.w) (clear : (f : Face s) → IsFaceClear c f.a f.b f.c p q) where
  abbrev moved : Tri → Bool
  moved t = xor (left_of_triangle c s o p t) (sides_of c s closed o (beside_way p q) t)

  face_same : (f : Face s) → moved f.tri ≡ left_of_triangle c s o q f.tri
  face_same f =
      (λ i. xor (left_at c s o p f i) (sides_at c s closed o (beside_way p q) f i))
      ∙ other_of_xor (left_of_border c f.a f.b f.c p) (left_of_border c f.a f.b f.c q) (sides_between (beside_way p q) c f.a f.b f.c) (face_balanced c f.a f.b f.c p q p_there q_there (clear f))
      ∙ sym (left_at c s o q f)
    where
      other_of_xor : (x y z : Bool) → xor (xor x y) z ≡ false → xor x z ≡ y
      other_of_xor false y z h = sym (same_of_xor y z h)
      other_of_xor true false z h = sym (ap (λ v. xor true v) (same_of_xor true z h))
      other_of_xor true true z h = ap (λ v. xor true v) h

  pub same_oddness : odd_in (left_of_triangle c s o p) s.triangles ≡ odd_in (left_of_triangle c s o q) s.triangles
  same_oddness =
      sym (with_sides c s closed o (beside_way p q) (left_of_triangle c s o p))
      ∙ odd_in-same moved (left_of_triangle c s o q) s.triangles (λ t there.
      let (f, same) = face_of s in_range t there in
      ap moved (sym same) ∙ face_same f ∙ ap (left_of_triangle c s o q) same)

-- ---- the section
module _ (c : Plane) (s : Part) (in_range : All (IsBelow (length s.corners)) s.triangles) (o : Corner) (p : Point) (is_point : IsPoint p) where
  abbrev sight : Sight
  sight = sight_of (toward_of c) p

  -- whether a triangle's border is to the right of the point is told by its corners
  pub triangle_decides : (t : Tri) → Contains s.triangles t → Decides (left_of_triangle c s o sight t) (HasBorderRightOf c s p t)
  triangle_decides t there = (
    (λ e.
        let (f, same) = face_of s in_range t there in
        (f, same, (left_decides c f p is_point).0 (sym (left_at c s o sight f) ∙ ap (left_of_triangle c s o sight) same ∙ e))),
    (λ (f, same, left). ap (left_of_triangle c s o sight) (sym same) ∙ left_at c s o sight f ∙ (left_decides c f p is_point).1 left),
  )

  -- and whether the point is in the section
  pub section_decides : Decides (odd_in (left_of_triangle c s o sight) s.triangles) (IsInSection c s p)
  section_decides = odd_in_decides (HasBorderRightOf c s p) (left_of_triangle c s o sight) s.triangles triangle_decides

-- two points, with no border across the way between them, are both in the section or both not
pub section_alike : (c : Plane) (s : Part) → IsClosed s → All (IsBelow (length s.corners)) s.triangles → (o : Corner) (p q : Point) → IsPoint p → IsPoint q
    → ((f : Face s) → IsFaceClear c f.a f.b f.c (sight_of (toward_of c) p) (sight_of (toward_of c) q)) → IsInSection c s p ↔ IsInSection c s q
section_alike c s closed in_range o p q p_there q_there clear =
    let same = same_oddness c s closed o (sight_of (toward_of c) p) (sight_of (toward_of c) q) in_range p_there q_there clear in
    let first = section_decides c s in_range o p p_there in
    let second = section_decides c s in_range o q q_there in
    ((λ h. second.0 (sym same ∙ first.1 h)), (λ h. first.0 (same ∙ second.1 h)))
