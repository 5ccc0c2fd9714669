-- Triangles on the same three corners, by the twins of their sides.
use Rattle.std.proofs.Common.{◌≡◌, ℕ, zero, suc, ◌+◌, ◌*◌, ◌/◌, ◌%◌, ◌<◌, ◌⊎◌, inl, inr, List, All, length, get_or, slice_get, Some, refl, sym, subst, ap, ◌∙◌, arith}
use Rattle.std.proofs.lemmas.Bool.{cases_order}
use Rattle.std.proofs.lemmas.Option.{slice_get_within}
use Rattle.integers.proofs.Lists.{some_element}
use Rattle.lattice.specs.declared.soup.Tri.{Tri}
use Rattle.lattice.specs.Triangles.{IsBelow}
use Rattle.geometry.specs.Parts.{Part, IsHalf, IsClosed, IsCornerOf, AreDouble, HasNoDouble, start_of, end_of}
use Rattle.geometry.proofs.EachEdge.{flat_face}
use Rattle.geometry.proofs.Listed.{same_element, face_at}
use Rattle.solid_mesh.specs.declared.faults.MeshFault.TheVariants.{Double}
use Rattle.solid_mesh.specs.Faults.{DoublesEarlier, HasFault}
use Rattle.solid_mesh.specs.inner.Halves.{AreTwins}
use Rattle.solid_mesh.proofs.FirstFound.{first_is_least}
use Rattle.solid_mesh.proofs.HalfLemmas.{table_returns}
use Rattle.solid_mesh.proofs.Sharing.{starts_differ}

-- ---- corners and sides of one triangle
pub starts_at_corner : (t : Tri) (side : ℕ) → IsCornerOf t (start_of t side)
starts_at_corner t zero = inl refl
starts_at_corner t (suc zero) = inr (inl refl)
starts_at_corner t (suc (suc side)) = inr (inr refl)

pub ends_at_corner : (t : Tri) (side : ℕ) → IsCornerOf t (end_of t side)
ends_at_corner t zero = inr (inl refl)
ends_at_corner t (suc zero) = inr (inr refl)
ends_at_corner t (suc (suc side)) = inl refl

-- a side of the triangle goes there or back
abbrev pub HasSideBetween : Tri → ℕ → ℕ → Type 0
HasSideBetween t m n = (side : ℕ) × (side < 3) × (((start_of t side ≡ m) × (end_of t side ≡ n)) ⊎ ((start_of t side ≡ n) × (end_of t side ≡ m)))

-- between two corners of a triangle one of its sides goes
pub side_between : (t : Tri) (m n : ℕ) → (m ≡ n → ⊥) → IsCornerOf t m → IsCornerOf t n → HasSideBetween t m n
side_between t m n apart (inl p) (inl q) = absurd (apart (sym p ∙ q))
side_between t m n apart (inl p) (inr (inl q)) = (0, omega arith, inl (p, q))
side_between t m n apart (inl p) (inr (inr q)) = (2, omega arith, inr (q, p))
side_between t m n apart (inr (inl p)) (inl q) = (0, omega arith, inr (q, p))
side_between t m n apart (inr (inl p)) (inr (inl q)) = absurd (apart (sym p ∙ q))
side_between t m n apart (inr (inl p)) (inr (inr q)) = (1, omega arith, inl (p, q))
side_between t m n apart (inr (inr p)) (inl q) = (2, omega arith, inl (p, q))
side_between t m n apart (inr (inr p)) (inr (inl q)) = (1, omega arith, inr (q, p))
side_between t m n apart (inr (inr p)) (inr (inr q)) = absurd (apart (sym p ∙ q))

-- three different numbers that are each one of three are all of these
all_three : (a b c x y z n : ℕ) → (a ≡ b → ⊥) → (b ≡ c → ⊥) → (a ≡ c → ⊥) → ((x ≡ a) ⊎ (y ≡ a) ⊎ (z ≡ a)) → ((x ≡ b) ⊎ (y ≡ b) ⊎ (z ≡ b)) → ((x ≡ c) ⊎ (y ≡ c) ⊎ (z ≡ c))
    → ((x ≡ n) ⊎ (y ≡ n) ⊎ (z ≡ n)) → (a ≡ n) ⊎ (b ≡ n) ⊎ (c ≡ n)
all_three a b c x y z n ab bc ac p q r h = grind arith

-- the corners of a triangle are all corners of another, if three different ones are
corners_of : (t u : Tri) → IsCornerOf u t.a → IsCornerOf u t.b → IsCornerOf u t.c → (n : ℕ) → IsCornerOf t n → IsCornerOf u n
corners_of t u p q r n (inl e) = subst (IsCornerOf u) e p
corners_of t u p q r n (inr (inl e)) = subst (IsCornerOf u) e q
corners_of t u p q r n (inr (inr e)) = subst (IsCornerOf u) e r

-- ---- triangles of a part
double_back : {s : Part} {i j : ℕ} → AreDouble s i j → AreDouble s j i
double_back d = record { first = d.second; second = d.first; at_first = d.at_second; at_second = d.at_first; same = λ n. ((d.same n).1, (d.same n).0) }

-- the half along a triangle's side
pub half_of : (s : Part) (t : Tri) (i side half : ℕ) → slice_get s.triangles i ≡ Some t → side < 3 → half ≡ 3 * i + side → IsHalf s half (start_of t side) (end_of t side)
half_of s t i side half at less is =
    let third : half / 3 ≡ i = omega arith in
    let rest : half % 3 ≡ side = omega arith in
    record { tri = t; at = ap (slice_get s.triangles) third ∙ at; start = ap (start_of t) rest; end = ap (end_of t) rest }

module _ (s : Part) (in_range : All (IsBelow (length s.corners)) s.triangles) (closed : IsClosed s) (twins : List ℕ) (paired : AreTwins s.triangles twins) where
  -- each side of a triangle goes back on a side of another that has the same corners
  double_twin : (i j half m n : ℕ) → AreDouble s i j → (i ≡ j → ⊥) → half / 3 ≡ j → IsHalf s half m n → get_or twins half 0 / 3 ≡ i
  double_twin i j half m n d two third h = by (side_between d.first m n apart ((d.same m).1 first_end) ((d.same n).1 second_end))
    where
      tri : h.tri ≡ d.second
      tri = same_element s.triangles (half / 3) j h.tri d.second third h.at d.at_second

      first_end : IsCornerOf d.second m
      first_end = subst (λ (t : Tri). IsCornerOf t m) tri (subst (IsCornerOf h.tri) h.start (starts_at_corner h.tri (half % 3)))

      second_end : IsCornerOf d.second n
      second_end = subst (λ (t : Tri). IsCornerOf t n) tri (subst (IsCornerOf h.tri) h.end (ends_at_corner h.tri (half % 3)))

      apart : m ≡ n → ⊥
      apart e = let f = face_at s in_range h.tri (half / 3) h.at in closed.none_flat f (flat_face s f (half % 3) (h.start ∙ e ∙ sym h.end))

      by : HasSideBetween d.first m n → get_or twins half 0 / 3 ≡ i
      by (side, less, inl (start, end)) =
          let g : IsHalf s (3 * i + side) (start_of d.first side) (end_of d.first side) = half_of s d.first i side (3 * i + side) d.at_first less refl in
          let there : IsHalf s (3 * i + side) m n = record { tri = g.tri; at = g.at; start = g.start ∙ start; end = g.end ∙ end } in
          let same : 3 * i + side ≡ half = closed.once (3 * i + side) half m n there h in
          absurd (two (omega arith))
      by (side, less, inr (start, end)) =
          let g : IsHalf s (3 * i + side) (start_of d.first side) (end_of d.first side) = half_of s d.first i side (3 * i + side) d.at_first less refl in
          let back : IsHalf s (3 * i + side) n m = record { tri = g.tri; at = g.at; start = g.start ∙ start; end = g.end ∙ end } in
          let same : get_or twins half 0 ≡ 3 * i + side = closed.once (get_or twins half 0) (3 * i + side) n m (table_returns s twins paired half h) back in
          omega arith

  -- a triangle's first two sides go back on the earlier one that has the same corners
  pub earlier_twins : (i j : ℕ) → DoublesEarlier s j i → (get_or twins (3 * j) 0 / 3 ≡ i) × (get_or twins (3 * j + 1) 0 / 3 ≡ i)
  earlier_twins i j (less, d) = (
    double_twin i j (3 * j) _ _ d (λ e. omega arith) (omega arith) (half_of s d.second j 0 (3 * j) d.at_second (omega arith) (omega arith)),
    double_twin i j (3 * j + 1) _ _ d (λ e. omega arith) (omega arith) (half_of s d.second j 1 (3 * j + 1) d.at_second (omega arith) refl),
  )

  -- two triangles have the same corners, if two sides of one go back on the other
  pub twins_double : (i j : ℕ) → j < length s.triangles → get_or twins (3 * j) 0 / 3 ≡ i → get_or twins (3 * j + 1) 0 / 3 ≡ i → AreDouble s i j
  twins_double i j within first second = by (some_element s.triangles j within)
    where
      by : (t : Tri) × (slice_get s.triangles j ≡ Some t) → AreDouble s i j
      by (t, at) =
          let f = face_at s in_range t j at in
          let differ = starts_differ s f (closed.none_flat f) in
          let p = table_returns s twins paired (3 * j) (half_of s t j 0 (3 * j) at (omega arith) (omega arith)) in
          let q = table_returns s twins paired (3 * j + 1) (half_of s t j 1 (3 * j + 1) at (omega arith) refl) in
          let u = p.tri in
          let one : q.tri ≡ u = same_element s.triangles _ _ q.tri u (second ∙ sym first) q.at p.at in
          let at_a : IsCornerOf u t.a = subst (IsCornerOf u) p.end (ends_at_corner u (get_or twins (3 * j) 0 % 3)) in
          let at_b : IsCornerOf u t.b = subst (IsCornerOf u) p.start (starts_at_corner u (get_or twins (3 * j) 0 % 3)) in
          let at_c : IsCornerOf u t.c = subst (λ (x : Tri). IsCornerOf x t.c) one (subst (IsCornerOf q.tri) q.start (starts_at_corner q.tri (get_or twins (3 * j + 1) 0 % 3))) in
          record {
            first = u;
            second = t;
            at_first = ap (slice_get s.triangles) (sym first) ∙ p.at;
            at_second = at;
            same = λ n. (
              all_three t.a t.b t.c u.a u.b u.c n (differ 0 1 (omega arith) (omega arith)) (differ 1 2 (omega arith) (omega arith)) (differ 0 2 (omega arith) (omega arith)) at_a at_b at_c,
              corners_of t u at_a at_b at_c n,
            );
          }

  -- the first triangle whose first two sides go back on an earlier one, after that one
  pub double_fault : (i j : ℕ) → i < j → j < length s.triangles → get_or twins (3 * j) 0 / 3 ≡ i → get_or twins (3 * j + 1) 0 / 3 ≡ i
      → ((k : ℕ) → k < j → ((l : ℕ) × DoublesEarlier s k l) → ⊥) → HasFault s (Double i j)
  double_fault i j less within first second none =
      let there : DoublesEarlier s j i = (less, twins_double i j within first second) in (
        closed,
        first_is_least (λ k. (l : ℕ) × DoublesEarlier s k l) j (i, there) none,
        record { holds = there; least = λ n h. let same = (earlier_twins n j h).0 in omega arith },
      )

-- where no triangle has the corners of an earlier one, no two have the same
pub none_double : (s : Part) → ((k : ℕ) → k < length s.triangles → ((l : ℕ) × DoublesEarlier s k l) → ⊥) → HasNoDouble s
none_double s none i j d = by (cases_order i j)
  where
    by : (i ≡ j) ⊎ ((i < j) ⊎ (j < i)) → i ≡ j
    by (inl e) = e
    by (inr (inl less)) = absurd (none j (slice_get_within s.triangles j d.second d.at_second) (i, (less, d)))
    by (inr (inr less)) = absurd (none i (slice_get_within s.triangles i d.first d.at_first) (j, (less, double_back d)))
