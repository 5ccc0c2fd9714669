-- What is square to the direction agrees all along a line of sight, and points that agree along two such axes are on one line of sight.
use Rattle.std.proofs.Common.{◌≡◌, ap, ◌∙◌, arith}
use Rattle.std.specs.Prelude.{ℤ, pos, ◌-ℤ◌, ◌*ℤ◌, ◌<ℤ◌}
use Rattle.std.proofs.lemmas.Int.{ints}
use Rattle.integers.proofs.Comparisons.{zero_times}
use Rattle.integers.proofs.Ring.{same_of_gap}
use Rattle.integers.proofs.Signs.{zero_of_mul}
use Rattle.lattice.specs.Triple.{Triple, dot, cross, IsZero}
use Rattle.lattice.specs.Points.{Point, scaled, OnOneSight, AreOnePoint}
use Rattle.lattice.proofs.Vectors.{dot_somewhere}
use Rattle.lattice.proofs.SightLines.{alike, offset, nothing_along, agree_along, no_part, multiple_x, multiple_y, multiple_z, along_of_sight, sight_of_along}

-- what is square to the direction does not change along a line of sight
pub agree_of_sight : (d r : Triple) (p q : Point) → ¬ IsZero d → dot r d ≡ pos 0 → OnOneSight d p q → dot r (scaled p) *ℤ q.w ≡ dot r (scaled q) *ℤ p.w
agree_of_sight d r p q somewhere level same =
    let a = along_of_sight d p q (dot_somewhere d somewhere) same in
    agree_along r p q (no_part r (offset p q) d a.n a.m a.positive a.x a.y a.z level)

-- ---- points that agree
module _ (d r s : Triple) (p q : Point) (somewhere : ¬ IsZero d) (level : dot r d ≡ pos 0) (forward : pos 0 <ℤ dot r s)
    (along : dot r (scaled p) *ℤ q.w ≡ dot r (scaled q) *ℤ p.w) (across : dot (cross d s) (scaled p) *ℤ q.w ≡ dot (cross d s) (scaled q) *ℤ p.w) where
  nothing_across : IsZero (cross (offset p q) d)
  nothing_across = alike r s (offset p q) d forward level (nothing_along r p q along) (nothing_along (cross d s) p q across)

  pub sight_of_agreement : OnOneSight d p q
  sight_of_agreement =
      let zero = nothing_across in
      sight_of_along d p q (record {
        n = dot d (offset p q);
        m = dot d d;
        positive = dot_somewhere d somewhere;
        x = multiple_x d (offset p q) zero;
        y = multiple_y d (offset p q) zero;
        z = multiple_z d (offset p q) zero;
      })

  -- and where their heights agree too, they are one point
  pub one_point_of_agreement : dot d (scaled p) *ℤ q.w ≡ dot d (scaled q) *ℤ p.w → AreOnePoint p q
  one_point_of_agreement height =
      let zero = nothing_across in
      let none = nothing_along d p q height in
      record {
        x = equal (dot d d) (dot d (offset p q)) d.x _ _ (dot_somewhere d somewhere) none (multiple_x d (offset p q) zero);
        y = equal (dot d d) (dot d (offset p q)) d.y _ _ (dot_somewhere d somewhere) none (multiple_y d (offset p q) zero);
        z = equal (dot d d) (dot d (offset p q)) d.z _ _ (dot_somewhere d somewhere) none (multiple_z d (offset p q) zero);
      }
    where
      equal : (m n x a b : ℤ) → pos 0 <ℤ m → n ≡ pos 0 → m *ℤ (a -ℤ b) ≡ n *ℤ x → a ≡ b
      equal m n x a b positive none h = same_of_gap a b (zero_of_mul m (a -ℤ b) positive (h ∙ ap (λ (v : ℤ). v *ℤ x) none ∙ zero_times x))

-- one point is on its own line of sight
pub sight_of_one_point : (d : Triple) (p q : Point) → AreOnePoint p q → OnOneSight d p q
sight_of_one_point d p q same = sight_of_along d p q (record {
  n = pos 0;
  m = pos 1;
  positive = omega (arith, ints);
  x = no_way _ _ d.x same.x;
  y = no_way _ _ d.y same.y;
  z = no_way _ _ d.z same.z;
})
  where
    no_way : (a b c : ℤ) → a ≡ b → pos 1 *ℤ (a -ℤ b) ≡ pos 0 *ℤ c
    no_way a b c h = omega (arith, ints)
