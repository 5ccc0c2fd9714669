-- A sample is sound: each of its cubes is closed, and cubes are apart.
use Rattle.std.proofs.Common.{◌≡◌, ◌⊎◌, inl, inr, ℕ, zero, suc, ◌+◌, ◌*◌, ◌/◌, ◌%◌, ◌<◌, ◌≤◌, List, [], ◌∷◌, All, length, map, refl, sym, ap, subst, ◌∙◌, arith}
use Rattle.std.specs.Prelude.{ℤ, pos, negsuc, ◌+ℤ◌, ◌-ℤ◌, ◌*ℤ◌, ◌≤ℤ◌, ◌<ℤ◌}
use Rattle.std.proofs.lemmas.Bool.{cases_order}
use Rattle.std.proofs.lemmas.Int.{ints}
use Rattle.integers.proofs.Ring.{var, ◌⊕◌, ◌⊖◌, ◌⊗◌, ring}
use Rattle.lattice.specs.declared.points.Corner.{Corner}
use Rattle.lattice.specs.declared.soup.Tri.{Tri}
use Rattle.lattice.specs.Points.{Point, of_corner, difference}
use Rattle.lattice.specs.Triangles.{IsBelow}
use Rattle.lattice.specs.Triple.{Triple, dot, cross, IsZero}
use Rattle.geometry.specs.Faces.{IsFlat, edge_sum, face_sum}
use Rattle.geometry.specs.Parts.{Part, Face, IsHalf, HasNoSideTwice, IsClosed, IsCornerOf, AreDouble, HasNoDouble, start_of, end_of}
use Rattle.geometry.specs.Sound.{IsSound}
use Rattle.sample_part.specs.Boxes.{corners_of, triangles_of}
use Rattle.solid_mesh.specs.Meetings.{MeetApart}
use Rattle.solid_mesh.proofs.Apart.{shared_only}
use Rattle.solid_mesh.proofs.DoubleLemmas.{half_of}
use Rattle.answers_exist.proofs.CubeChecks.{tri_at, own_corner, own_numbers, one_side, back_side, one_triangle, IsBelowOrCorner, height_at, KeepsApart, plane_between, between, none_flat, IsInReach, own_reach}
use Rattle.answers_exist.proofs.SampleParts.{moved, offset, shifted, start_shifted, end_shifted, start_small, end_small, corner_made, corner_read, IsTri, tri_of, corner_here, tri_there}
use Rattle.answers_exist.proofs.Separation.{Level, moved_level, turned_level, on_plane, first_end, second_end, none_common, is_first_end, is_second_end}
use Rattle.answers_exist.proofs.SomeSample.{sample_in_range, sample_some}

-- ---- numbers of cubes
same_cube : (n c d : ℕ) → 0 < n → n ≤ 8 → c / (n * n) ≡ d / (n * n) → c / n % n ≡ d / n % n → c % n ≡ d % n → c ≡ d
same_cube zero c d h k i j l = absurd (omega (arith, h))
same_cube (suc zero) c d h k i j l = omega (arith, i)
same_cube (suc (suc zero)) c d h k i j l = omega (arith, i, j, l)
same_cube (suc (suc (suc zero))) c d h k i j l = omega (arith, i, j, l)
same_cube (suc (suc (suc (suc zero)))) c d h k i j l = omega (arith, i, j, l)
same_cube (suc (suc (suc (suc (suc zero))))) c d h k i j l = omega (arith, i, j, l)
same_cube (suc (suc (suc (suc (suc (suc zero)))))) c d h k i j l = omega (arith, i, j, l)
same_cube (suc (suc (suc (suc (suc (suc (suc zero))))))) c d h k i j l = omega (arith, i, j, l)
same_cube (suc (suc (suc (suc (suc (suc (suc (suc zero)))))))) c d h k i j l = omega (arith, i, j, l)
same_cube (suc (suc (suc (suc (suc (suc (suc (suc (suc n))))))))) c d h k i j l = absurd (omega (arith, k))

-- ---- differences of corners of one cube
difference_of : (o x y : ℤ) → (o +ℤ y) -ℤ (o +ℤ x) ≡ y -ℤ x
difference_of o x y = omega (arith, ints)

own_difference : (o s t : Triple) (a b : Corner) → of_corner a ≡ moved o s → of_corner b ≡ moved o t → difference a b ≡ between s t
own_difference o s t a b e f =
    (λ i. record { x = (f i).x -ℤ (e i).x; y = (f i).y -ℤ (e i).y; z = (f i).z -ℤ (e i).z })
    ∙ (λ i. record { x = difference_of o.x s.x t.x i; y = difference_of o.y s.y t.y i; z = difference_of o.z s.z t.z i })

-- a plane's function of a corner of a cube
own_height : (w o t : Triple) (v : ℤ) (k : Corner) → of_corner k ≡ moved o t → dot w (of_corner k) +ℤ (v -ℤ dot w o) ≡ dot w t +ℤ v
own_height w o t v k e =
    ap (λ (u : Triple). dot w u +ℤ (v -ℤ dot w o)) e
    ∙ ring (w.x ∷ w.y ∷ w.z ∷ o.x ∷ o.y ∷ o.z ∷ t.x ∷ t.y ∷ t.z ∷ v ∷ [])
    ((((var 0 ⊗ (var 3 ⊕ var 6)) ⊕ (var 1 ⊗ (var 4 ⊕ var 7))) ⊕ (var 2 ⊗ (var 5 ⊕ var 8))) ⊕ (var 9 ⊖ (((var 0 ⊗ var 3) ⊕ (var 1 ⊗ var 4)) ⊕ (var 2 ⊗ var 5))))
    ((((var 0 ⊗ var 6) ⊕ (var 1 ⊗ var 7)) ⊕ (var 2 ⊗ var 8)) ⊕ var 9) refl

-- ---- coordinates of two cubes
low_edge : (d e : ℕ) (x t : ℤ) → d < e → x ≡ pos (20000 * d) +ℤ t → IsInReach t → (x +ℤ (pos 0 -ℤ pos (20000 * e))) <ℤ pos 0
low_edge d e x t less is reach = omega (arith, ints, less, is, reach.0, reach.1)

high_face : (e : ℕ) (x t : ℤ) → x ≡ pos (20000 * e) +ℤ t → IsInReach t → pos 0 ≤ℤ (x +ℤ (pos 0 -ℤ pos (20000 * e)))
high_face e x t is reach = omega (arith, ints, is, reach.0, reach.1)

high_edge : (d e : ℕ) (x t : ℤ) → e < d → x ≡ pos (20000 * d) +ℤ t → IsInReach t → ((negsuc 0 *ℤ x) +ℤ pos (20000 * e + 10000)) <ℤ pos 0
high_edge d e x t more is reach = omega (arith, ints, more, is, reach.0, reach.1)

low_face : (e : ℕ) (x t : ℤ) → x ≡ pos (20000 * e) +ℤ t → IsInReach t → pos 0 ≤ℤ ((negsuc 0 *ℤ x) +ℤ pos (20000 * e + 10000))
low_face e x t is reach = omega (arith, ints, is, reach.0, reach.1)

-- within a cube that stands behind d others along an axis
record IsWithinCube (d : ℕ) (x : ℤ) : Type 0 where
  own : ℤ
  is : x ≡ pos (20000 * d) +ℤ own
  reach : IsInReach own

module _ (a b c p q : Corner) (i j l m n : ℕ) (same : edge_sum p q i j ≡ face_sum a b c l m n) (some : 0 < i + j) where
  -- they don't meet where their cubes are apart along an axis
  apart_along : (f : Corner → ℤ) → Level a b c p q i j l m n same f → (d e : ℕ) → IsWithinCube d (f p) → IsWithinCube d (f q) → IsWithinCube e (f a) → IsWithinCube e (f b) → IsWithinCube e (f c) → (d < e) ⊎ (e < d) → ⊥
  apart_along f level d e in_p in_q in_a in_b in_c (inl less) =
      none_common a b c p q i j l m n same (λ k. f k +ℤ (pos 0 -ℤ pos (20000 * e))) (moved_level a b c p q i j l m n same f level (pos 0 -ℤ pos (20000 * e)))
      (high_face e (f a) in_a.own in_a.is in_a.reach) (high_face e (f b) in_b.own in_b.is in_b.reach) (high_face e (f c) in_c.own in_c.is in_c.reach)
      (low_edge d e (f p) in_p.own less in_p.is in_p.reach) (low_edge d e (f q) in_q.own less in_q.is in_q.reach) some
  apart_along f level d e in_p in_q in_a in_b in_c (inr more) =
      none_common a b c p q i j l m n same (λ k. (negsuc 0 *ℤ f k) +ℤ pos (20000 * e + 10000)) (turned_level a b c p q i j l m n same f level (pos (20000 * e + 10000)))
      (low_face e (f a) in_a.own in_a.is in_a.reach) (low_face e (f b) in_b.own in_b.is in_b.reach) (low_face e (f c) in_c.own in_c.is in_c.reach)
      (high_edge d e (f p) in_p.own more in_p.is in_p.reach) (high_edge d e (f q) in_q.own more in_q.is in_q.reach) some

-- a corner of a cube is within it along each axis
module _ (n c k : ℕ) (small : k < 8) (p : Corner) (is : of_corner p ≡ moved (offset n c) (own_corner k)) where
  within_x : IsWithinCube (c / (n * n)) p.x
  within_x = record { own = (own_corner k).x; is = ap (λ (t : Triple). t.x) is; reach = (own_reach k small).0 }

  within_y : IsWithinCube (c / n % n) p.y
  within_y = record { own = (own_corner k).y; is = ap (λ (t : Triple). t.y) is; reach = (own_reach k small).1 }

  within_z : IsWithinCube (c % n) p.z
  within_z = record { own = (own_corner k).z; is = ap (λ (t : Triple). t.z) is; reach = (own_reach k small).2 }

module _ (n : ℕ) (least : 0 < n) (most : n ≤ 8) (s : Part) (corners : map of_corner s.corners ≡ corners_of n) (triangles : s.triangles ≡ triangles_of n) where
  in_range : All (IsBelow (length s.corners)) s.triangles
  in_range = subst (λ (ts : List Tri). All (IsBelow (length s.corners)) ts) (sym triangles) (sample_in_range n least most s.corners corners)

  abbrev Here : ℕ → Tri → Type 0
  Here i t = IsTri n least most s corners triangles i t

  -- ---- no triangle is flat
  module _ (f : Face s) where
    abbrev t : Here f.number f.tri
    t = tri_of n least most s corners triangles f.number f.tri f.listed

    corner_a : of_corner f.a ≡ moved (offset n t.cube) (own_corner (tri_at t.place).a)
    corner_a = corner_here n least most s corners triangles t.cube (tri_at t.place).a f.tri.a f.a (ap (λ (u : Tri). u.a) t.tri) (own_numbers t.place t.short).0 f.at_a

    corner_b : of_corner f.b ≡ moved (offset n t.cube) (own_corner (tri_at t.place).b)
    corner_b = corner_here n least most s corners triangles t.cube (tri_at t.place).b f.tri.b f.b (ap (λ (u : Tri). u.b) t.tri) (own_numbers t.place t.short).1 f.at_b

    corner_c : of_corner f.c ≡ moved (offset n t.cube) (own_corner (tri_at t.place).c)
    corner_c = corner_here n least most s corners triangles t.cube (tri_at t.place).c f.tri.c f.c (ap (λ (u : Tri). u.c) t.tri) (own_numbers t.place t.short).2 f.at_c

    not_flat : IsFlat f.a f.b f.c → ⊥
    not_flat flat =
        let first = own_difference (offset n t.cube) (own_corner (tri_at t.place).a) (own_corner (tri_at t.place).b) f.a f.b corner_a corner_b in
        let second = own_difference (offset n t.cube) (own_corner (tri_at t.place).a) (own_corner (tri_at t.place).c) f.a f.c corner_a corner_c in
        none_flat t.place t.short (subst IsZero (λ i. cross (first i) (second i)) flat)

  -- ---- sides
  record IsSideIn (half m k : ℕ) : Type 0 where
    tri : Tri
    here : Here (half / 3) tri
    start : m ≡ 8 * here.cube + start_of (tri_at here.place) (half % 3)
    end : k ≡ 8 * here.cube + end_of (tri_at here.place) (half % 3)

  side_in : (half m k : ℕ) → IsHalf s half m k → IsSideIn half m k
  side_in half m k h =
      let t = tri_of n least most s corners triangles (half / 3) h.tri h.at in
      record {
        tri = h.tri;
        here = t;
        start = sym h.start ∙ ap (λ (u : Tri). start_of u (half % 3)) t.tri ∙ start_shifted t.cube (tri_at t.place) (half % 3);
        end = sym h.end ∙ ap (λ (u : Tri). end_of u (half % 3)) t.tri ∙ end_shifted t.cube (tri_at t.place) (half % 3);
      }

  third_small : (half : ℕ) → half % 3 < 3
  third_small half = omega arith

  same_ends : (c d x y : ℕ) → x < 8 → y < 8 → 8 * c + x ≡ 8 * d + y → (c ≡ d) × (x ≡ y)
  same_ends c d x y h k e = (omega (arith, h, k, e), omega (arith, h, k, e))

  once : HasNoSideTwice s
  once half other m k goes too =
      let a = side_in half m k goes in
      let b = side_in other m k too in
      let start = same_ends a.here.cube b.here.cube _ _ (start_small a.here.place (half % 3) a.here.short) (start_small b.here.place (other % 3) b.here.short) (sym a.start ∙ b.start) in
      let end = same_ends a.here.cube b.here.cube _ _ (end_small a.here.place (half % 3) a.here.short) (end_small b.here.place (other % 3) b.here.short) (sym a.end ∙ b.end) in
      let same = one_side a.here.place (half % 3) b.here.place (other % 3) a.here.short (third_small half) b.here.short (third_small other) start.1 end.1 in
      one_half half other a.here.cube b.here.cube a.here.place b.here.place a.here.is b.here.is start.0 same.0 same.1
    where
      one_half : (half other c d l m : ℕ) → half / 3 ≡ 12 * c + l → other / 3 ≡ 12 * d + m → c ≡ d → l ≡ m → half % 3 ≡ other % 3 → half ≡ other
      one_half half other c d l m e f same place side = omega (arith, e, f, same, place, side)

  returns : (half m k : ℕ) → IsHalf s half m k → (other : ℕ) × IsHalf s other k m
  returns half m k goes =
      let a = side_in half m k goes in
      let c = a.here.cube in
      let (l, j, few, small, start, end) = back_side a.here.place (half % 3) a.here.short (third_small half) in
      let there = tri_there n least most s corners triangles c l a.here.within few in
      let h = half_of s (shifted c (tri_at l)) (12 * c + l) j (3 * (12 * c + l) + j) there small refl in (
        3 * (12 * c + l) + j,
        record {
          tri = h.tri;
          at = h.at;
          start = h.start ∙ start_shifted c (tri_at l) j ∙ ap (λ (x : ℕ). 8 * c + x) start ∙ sym a.end;
          end = h.end ∙ end_shifted c (tri_at l) j ∙ ap (λ (x : ℕ). 8 * c + x) end ∙ sym a.start;
        },
      )

  closed : IsClosed s
  closed = record { none_flat = not_flat; once = once; returns = returns }

  -- ---- no two triangles have the same corners
  double_read : (i j : ℕ) → AreDouble s i j → i ≡ j
  double_read i j d =
      let a = tri_of n least most s corners triangles i d.first d.at_first in
      let b = tri_of n least most s corners triangles j d.second d.at_second in
      let u = tri_at a.place in
      let numbers = own_numbers a.place a.short in
      let has : (k : ℕ) → IsCornerOf u k → IsCornerOf (shifted b.cube (tri_at b.place)) (8 * a.cube + k) =
      λ k h. subst (λ (t : Tri). IsCornerOf t (8 * a.cube + k)) b.tri ((d.same (8 * a.cube + k)).0 (subst (λ (t : Tri). IsCornerOf t (8 * a.cube + k)) (sym a.tri) (corner_made a.cube u k h))) in
      let first = corner_read a.cube b.cube b.place u.a b.short numbers.0 (has u.a (inl refl)) in
      let second = corner_read a.cube b.cube b.place u.b b.short numbers.1 (has u.b (inr (inl refl))) in
      let third = corner_read a.cube b.cube b.place u.c b.short numbers.2 (has u.c (inr (inr refl))) in
      one_number i j a.cube b.cube a.place b.place a.is b.is first.0 (one_triangle a.place b.place a.short b.short first.1 second.1 third.1)
    where
      one_number : (i j c d l m : ℕ) → i ≡ 12 * c + l → j ≡ 12 * d + m → d ≡ c → l ≡ m → i ≡ j
      one_number i j c d l m e f same place = omega (arith, e, f, same, place)

  no_double : HasNoDouble s
  no_double = double_read

  -- ---- no side and triangle meet but in shared corners
  module _ (half number : ℕ) (h : MeetApart s half number) where
    abbrev e : IsSideIn half h.side.m h.side.n
    e = side_in half h.side.m h.side.n h.side.goes

    abbrev f : Here h.face.number h.face.tri
    f = tri_of n least most s corners triangles h.face.number h.face.tri h.face.listed

    start_corner : of_corner h.side.p ≡ moved (offset n e.here.cube) (own_corner (start_of (tri_at e.here.place) (half % 3)))
    start_corner = corner_here n least most s corners triangles e.here.cube _ h.side.m h.side.p e.start (start_small e.here.place (half % 3) e.here.short) h.side.at_m

    end_corner : of_corner h.side.q ≡ moved (offset n e.here.cube) (own_corner (end_of (tri_at e.here.place) (half % 3)))
    end_corner = corner_here n least most s corners triangles e.here.cube _ h.side.n h.side.q e.end (end_small e.here.place (half % 3) e.here.short) h.side.at_n

    module _ (i j : ℕ) (some : 0 < i + j) (on_edge : h.point ≡ edge_sum h.side.p h.side.q i j) (l m k : ℕ) (on_face : h.point ≡ face_sum h.face.a h.face.b h.face.c l m k) where
      same : edge_sum h.side.p h.side.q i j ≡ face_sum h.face.a h.face.b h.face.c l m k
      same = sym on_edge ∙ on_face

      -- of two cubes
      apart_x : (e.here.cube / (n * n) < f.cube / (n * n)) ⊎ (f.cube / (n * n) < e.here.cube / (n * n)) → ⊥
      apart_x = apart_along h.face.a h.face.b h.face.c h.side.p h.side.q i j l m k same some (λ c. c.x) (ap (λ (p : Point). p.x) same) (e.here.cube / (n * n)) (f.cube / (n * n))
          (within_x n e.here.cube _ (start_small e.here.place (half % 3) e.here.short) h.side.p start_corner) (within_x n e.here.cube _ (end_small e.here.place (half % 3) e.here.short) h.side.q end_corner)
          (within_x n f.cube _ (own_numbers f.place f.short).0 h.face.a (corner_a h.face)) (within_x n f.cube _ (own_numbers f.place f.short).1 h.face.b (corner_b h.face)) (within_x n f.cube _ (own_numbers f.place f.short).2 h.face.c (corner_c h.face))

      apart_y : (e.here.cube / n % n < f.cube / n % n) ⊎ (f.cube / n % n < e.here.cube / n % n) → ⊥
      apart_y = apart_along h.face.a h.face.b h.face.c h.side.p h.side.q i j l m k same some (λ c. c.y) (ap (λ (p : Point). p.y) same) (e.here.cube / n % n) (f.cube / n % n)
          (within_y n e.here.cube _ (start_small e.here.place (half % 3) e.here.short) h.side.p start_corner) (within_y n e.here.cube _ (end_small e.here.place (half % 3) e.here.short) h.side.q end_corner)
          (within_y n f.cube _ (own_numbers f.place f.short).0 h.face.a (corner_a h.face)) (within_y n f.cube _ (own_numbers f.place f.short).1 h.face.b (corner_b h.face)) (within_y n f.cube _ (own_numbers f.place f.short).2 h.face.c (corner_c h.face))

      apart_z : (e.here.cube % n < f.cube % n) ⊎ (f.cube % n < e.here.cube % n) → ⊥
      apart_z = apart_along h.face.a h.face.b h.face.c h.side.p h.side.q i j l m k same some (λ c. c.z) (ap (λ (p : Point). p.z) same) (e.here.cube % n) (f.cube % n)
          (within_z n e.here.cube _ (start_small e.here.place (half % 3) e.here.short) h.side.p start_corner) (within_z n e.here.cube _ (end_small e.here.place (half % 3) e.here.short) h.side.q end_corner)
          (within_z n f.cube _ (own_numbers f.place f.short).0 h.face.a (corner_a h.face)) (within_z n f.cube _ (own_numbers f.place f.short).1 h.face.b (corner_b h.face)) (within_z n f.cube _ (own_numbers f.place f.short).2 h.face.c (corner_c h.face))

      one_cube : e.here.cube ≡ f.cube
      one_cube = by (cases_order (e.here.cube / (n * n)) (f.cube / (n * n))) (cases_order (e.here.cube / n % n) (f.cube / n % n)) (cases_order (e.here.cube % n) (f.cube % n))
        where
          by : (e.here.cube / (n * n) ≡ f.cube / (n * n)) ⊎ ((e.here.cube / (n * n) < f.cube / (n * n)) ⊎ (f.cube / (n * n) < e.here.cube / (n * n)))
              → (e.here.cube / n % n ≡ f.cube / n % n) ⊎ ((e.here.cube / n % n < f.cube / n % n) ⊎ (f.cube / n % n < e.here.cube / n % n))
              → (e.here.cube % n ≡ f.cube % n) ⊎ ((e.here.cube % n < f.cube % n) ⊎ (f.cube % n < e.here.cube % n)) → e.here.cube ≡ f.cube
          by (inr x) y z = absurd (apart_x x)
          by (inl x) (inr y) z = absurd (apart_y y)
          by (inl x) (inl y) (inr z) = absurd (apart_z z)
          by (inl x) (inl y) (inl z) = same_cube n e.here.cube f.cube least most x y z

      -- of one cube: a corner that its triangle has
      has_corner : (x y : ℕ) → y ≡ 8 * e.here.cube + x → IsCornerOf (tri_at f.place) x → IsCornerOf h.face.tri y
      has_corner x y is has =
          let there : IsCornerOf h.face.tri (8 * f.cube + x) = subst (λ (t : Tri). IsCornerOf t (8 * f.cube + x)) (sym f.tri) (corner_made f.cube (tri_at f.place) x has) in
          subst (IsCornerOf h.face.tri) (ap (λ (c : ℕ). 8 * c + x) (sym one_cube) ∙ sym is) there

      module _ (g : Triple × ℤ) (apart : KeepsApart (tri_at f.place) (start_of (tri_at e.here.place) (half % 3)) (end_of (tri_at e.here.place) (half % 3)) g) where
        abbrev o : Triple
        o = offset n e.here.cube

        abbrev height : Corner → ℤ
        height c = dot g.0 (of_corner c) +ℤ (g.1 -ℤ dot g.0 o)

        level : Level h.face.a h.face.b h.face.c h.side.p h.side.q i j l m k same height
        level = on_plane h.face.a h.face.b h.face.c h.side.p h.side.q i j l m k same g.0 (g.1 -ℤ dot g.0 o)

        in_cube : (x : ℕ) (c : Corner) → of_corner c ≡ moved (offset n f.cube) (own_corner x) → height c ≡ height_at g x
        in_cube x c is = own_height g.0 o (own_corner x) g.1 c (is ∙ ap (λ (d : ℕ). moved (offset n d) (own_corner x)) (sym one_cube))

        start_height : height h.side.p ≡ height_at g (start_of (tri_at e.here.place) (half % 3))
        start_height = own_height g.0 o (own_corner (start_of (tri_at e.here.place) (half % 3))) g.1 h.side.p start_corner

        end_height : height h.side.q ≡ height_at g (end_of (tri_at e.here.place) (half % 3))
        end_height = own_height g.0 o (own_corner (end_of (tri_at e.here.place) (half % 3))) g.1 h.side.q end_corner

        above : (x : ℕ) (c : Corner) → of_corner c ≡ moved (offset n f.cube) (own_corner x) → pos 0 ≤ℤ height_at g x → pos 0 ≤ℤ height c
        above x c is up = subst (λ (z : ℤ). pos 0 ≤ℤ z) (sym (in_cube x c is)) up

        above_a : pos 0 ≤ℤ height h.face.a
        above_a = above (tri_at f.place).a h.face.a (corner_a h.face) apart.above_a

        above_b : pos 0 ≤ℤ height h.face.b
        above_b = above (tri_at f.place).b h.face.b (corner_b h.face) apart.above_b

        above_c : pos 0 ≤ℤ height h.face.c
        above_c = above (tri_at f.place).c h.face.c (corner_c h.face) apart.above_c

        less_most : (z : ℤ) → z <ℤ pos 0 → z ≤ℤ pos 0
        less_most z low = omega (arith, ints, low)

        zero_most : (z : ℤ) → z ≡ pos 0 → z ≤ℤ pos 0
        zero_most z is = omega (arith, ints, is)

        -- both ends are below, or one is a corner of both
        meets_not : (x y : ℕ) → h.side.m ≡ 8 * e.here.cube + x → h.side.n ≡ 8 * e.here.cube + y → IsBelowOrCorner (tri_at f.place) x (height h.side.p) → IsBelowOrCorner (tri_at f.place) y (height h.side.q) → ⊥
        meets_not x y start end (inl low_p) (inl low_q) = none_common h.face.a h.face.b h.face.c h.side.p h.side.q i j l m k same height level above_a above_b above_c low_p low_q some
        meets_not x y start end (inr (on_p, has)) (inl low_q) =
            let none = second_end h.face.a h.face.b h.face.c h.side.p h.side.q i j l m k same height level above_a above_b above_c (zero_most (height h.side.p) on_p) (less_most (height h.side.q) low_q) low_q in
            h.apart h.side.m h.side.p h.side.at_m (inl refl) (has_corner x h.side.m start has) (is_first_end h.side.p h.side.q i j h.point on_edge none)
        meets_not x y start end (inl low_p) (inr (on_q, has)) =
            let none = first_end h.face.a h.face.b h.face.c h.side.p h.side.q i j l m k same height level above_a above_b above_c (less_most (height h.side.p) low_p) (zero_most (height h.side.q) on_q) low_p in
            h.apart h.side.n h.side.q h.side.at_n (inr refl) (has_corner y h.side.n end has) (is_second_end h.side.p h.side.q i j h.point on_edge none)
        meets_not x y start end (inr (on_p, has)) (inr (on_q, has_too)) = h.not_side (has_corner x h.side.m start has, has_corner y h.side.n end has_too)

        kept_apart : ⊥
        kept_apart =
            meets_not (start_of (tri_at e.here.place) (half % 3)) (end_of (tri_at e.here.place) (half % 3)) e.start e.end
            (subst (λ (z : ℤ). IsBelowOrCorner (tri_at f.place) (start_of (tri_at e.here.place) (half % 3)) z) (sym start_height) apart.first)
            (subst (λ (z : ℤ). IsBelowOrCorner (tri_at f.place) (end_of (tri_at e.here.place) (half % 3)) z) (sym end_height) apart.second)

      by_plane : (IsCornerOf (tri_at f.place) (start_of (tri_at e.here.place) (half % 3)) × IsCornerOf (tri_at f.place) (end_of (tri_at e.here.place) (half % 3)))
          ⊎ ((g : Triple × ℤ) × KeepsApart (tri_at f.place) (start_of (tri_at e.here.place) (half % 3)) (end_of (tri_at e.here.place) (half % 3)) g) → ⊥
      by_plane (inl (first, second)) = h.not_side (has_corner _ h.side.m e.start first, has_corner _ h.side.n e.end second)
      by_plane (inr (g, apart)) = kept_apart g apart

      no_meeting_by : ⊥
      no_meeting_by = by_plane (plane_between f.place e.here.place (half % 3) f.short e.here.short (third_small half))

    no_meeting : ⊥
    no_meeting =
        let (i, j, some, on_edge) = h.on_side in
        let (l, m, k, some_face, on_face) = h.on_face in
        no_meeting_by i j some on_edge l m k on_face

  -- a sample is sound
  pub sound_sample : IsSound s
  sound_sample = record {
    some = subst (λ (ts : List Tri). 0 < length ts) (sym triangles) (sample_some n least most);
    closed = closed;
    no_double = no_double;
    apart = shared_only s closed no_meeting;
  }
