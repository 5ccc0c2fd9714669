-- The area of a face as the sum over its sides, and how large it is.
use Rattle.std.proofs.Common.{◌≡◌, ℕ, ◌+◌, ◌*◌, ◌<◌, ◌≤◌, ◌^◌, List, length, drop, map, fold, slice_get, Some, sym, ap, ◌∙◌, arith, ℤ, ◌+ℤ◌, unsigned_abs, to_z, of_z}
use Rattle.std.specs.Int.{w64}
use Rattle.std.proofs.lemmas.List.{drop_all, length-map}
use Rattle.integers.proofs.Worth.{known, pass, plus, via}
use Rattle.lattice.specs.Triple.{Triple, cross, IsWithin}
use Rattle.off_reader.specs.Fans as fans
use Rattle.off_reader.specs.Fans.{around, corners_at, vector_area}
use Rattle.off_reader.specs.inner.Fans.{twice}
use Rattle.off_reader.proofs.Around.{left, at_around, long_around}

pub long_corners : (vertices : List Triple) (numbers : List ℕ) → length (corners_at vertices numbers) ≡ length numbers
long_corners vertices numbers = length-map numbers _

-- a machine's sum of two components
pub component_sum : (r a b : ℤ) → unsigned_abs a ≤ 2 ^ 49 → unsigned_abs b ≤ 2 ^ 43 → r ≡ to_z w64 (of_z w64 a) +ℤ to_z w64 (of_z w64 b) → to_z w64 (of_z w64 r) ≡ a +ℤ b
component_sum r a b h k e = (pass w64 (via e (plus (pass w64 (known a (2 ^ 49) h) tt) (pass w64 (known b (2 ^ 43) k) tt))) tt).is

-- the bound grows by each side, and 64 sides keep within the whole
pub widest : (i : ℕ) (t : Triple) → i ≤ 64 → IsWithin (2 ^ 43 * i) t → IsWithin (2 ^ 49) t
widest i t h w = record { x = enough (unsigned_abs t.x) w.x; y = enough (unsigned_abs t.y) w.y; z = enough (unsigned_abs t.z) w.z }
  where
    enough : (n : ℕ) → n ≤ 2 ^ 43 * i → n ≤ 2 ^ 49
    enough n le = omega arith

pub wider : (i : ℕ) (t : Triple) → IsWithin (2 ^ 43 * i + 2 ^ 43) t → IsWithin (2 ^ 43 * (i + 1)) t
wider i t w = record { x = more (unsigned_abs t.x) w.x; y = more (unsigned_abs t.y) w.y; z = more (unsigned_abs t.z) w.z }
  where
    more : (n : ℕ) → n ≤ 2 ^ 43 * i + 2 ^ 43 → n ≤ 2 ^ 43 * (i + 1)
    more n le = omega arith

-- the area so far with the sides that are left is the whole
module _ (corners : List Triple) where
  abbrev pub with_sides : Triple → List (Triple × Triple) → Triple
  with_sides area sides = fold fans.plus area (map (λ e. cross e.0 e.1) sides)

  abbrev pub IsPart : ℕ → Triple → Type 0
  IsPart i area = with_sides area (drop i (around corners)) ≡ vector_area corners

  pub one_side : (i : ℕ) (a b area next : Triple) → i < length corners → slice_get (twice corners) i ≡ Some a → slice_get (twice corners) (i + 1) ≡ Some b
      → next ≡ fans.plus area (cross a b) → IsPart i area → IsPart (i + 1) next
  one_side i a b area next within first second e part =
      ap (λ (t : Triple). with_sides t (drop (i + 1) (around corners))) e
      ∙ ap (with_sides area) (sym (left (around corners) i (a, b) (at_around corners i a b within first second)))
      ∙ part

  pub all_sides : (i : ℕ) (area : Triple) → length corners ≤ i → IsPart i area → area ≡ vector_area corners
  all_sides i area past part = ap (with_sides area) (sym (drop_all i (around corners) (omega (arith, long_around corners)))) ∙ part
