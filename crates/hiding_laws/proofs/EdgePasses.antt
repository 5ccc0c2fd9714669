-- An edge of a sound part has no inner point on a face, as they are seen, but on its own two faces, whose side it is.
use Rattle.std.proofs.Common.{◌≡◌, ◌⊎◌, inl, inr, ℕ, zero, suc, ◌/◌, ◌%◌, ◌<◌, ◌≤◌, slice_get, Some, sym, ap, ◌∙◌, arith}
use Rattle.std.proofs.lemmas.Bool.{cases_lt}
use Rattle.lattice.specs.declared.points.Corner.{Corner}
use Rattle.lattice.specs.declared.soup.Tri.{Tri}
use Rattle.lattice.specs.Triple.{Triple, IsZero}
use Rattle.geometry.specs.Parts.{Part, Face, Edge, IsHalf, start_of, end_of}
use Rattle.geometry.specs.Sound.{IsSound}
use Rattle.geometry.proofs.Listed.{same_element}
use Rattle.hiding_laws.proofs.Shares.{IsSideOf, Passes}
use Rattle.hiding_laws.proofs.Seen.{on}
use Rattle.hiding_laws.proofs.Unpierced.{unpierced}

-- ---- the edge's own faces
module _ (d : Triple) {s : Part} (e : Edge s) (f : Face s) where
  abbrev IsSide : Type 0
  IsSide = IsSideOf (on d e.a) (on d e.b) (on d f.a) (on d f.b) (on d f.c)

  seen_at : (k l : ℕ) (x y : Corner) → k ≡ l → slice_get s.corners k ≡ Some x → slice_get s.corners l ≡ Some y → on d x ≡ on d y
  seen_at k l x y h p q = ap (on d) (same_element s.corners k l x y h p q)

  left_side : (side : ℕ) → start_of f.tri side ≡ e.m → end_of f.tri side ≡ e.n → IsSide
  left_side zero p q = inl (seen_at _ _ f.a e.a p f.at_a e.at_m, seen_at _ _ f.b e.b q f.at_b e.at_n)
  left_side (suc zero) p q = inr (inl (seen_at _ _ f.b e.a p f.at_b e.at_m, seen_at _ _ f.c e.b q f.at_c e.at_n))
  left_side (suc (suc side)) p q = inr (inr (inl (seen_at _ _ f.c e.a p f.at_c e.at_m, seen_at _ _ f.a e.b q f.at_a e.at_n)))

  right_side : (side : ℕ) → start_of f.tri side ≡ e.n → end_of f.tri side ≡ e.m → IsSide
  right_side zero p q = inr (inr (inr (inl (seen_at _ _ f.b e.a q f.at_b e.at_m, seen_at _ _ f.a e.b p f.at_a e.at_n))))
  right_side (suc zero) p q = inr (inr (inr (inr (inl (seen_at _ _ f.c e.a q f.at_c e.at_m, seen_at _ _ f.b e.b p f.at_b e.at_n)))))
  right_side (suc (suc side)) p q = inr (inr (inr (inr (inr (seen_at _ _ f.a e.a q f.at_a e.at_m, seen_at _ _ f.c e.b p f.at_c e.at_n)))))

  module _ {half m n : ℕ} (h : IsHalf s half m n) (own : f.number ≡ half / 3) where
    tri_is : h.tri ≡ f.tri
    tri_is = same_element s.triangles (half / 3) f.number h.tri f.tri (sym own) h.at f.listed

    own_start : start_of f.tri (half % 3) ≡ m
    own_start = ap (λ (t : Tri). start_of t (half % 3)) (sym tri_is) ∙ h.start

    own_end : end_of f.tri (half % 3) ≡ n
    own_end = ap (λ (t : Tri). end_of t (half % 3)) (sym tri_is) ∙ h.end

  left_own : f.number ≡ e.left.number → IsSide
  left_own h = let own = h ∙ e.on_left in left_side (e.half % 3) (own_start e.goes own) (own_end e.goes own)

  right_own : f.number ≡ e.right.number → IsSide
  right_own h = let own = h ∙ e.on_right in right_side (e.other % 3) (own_start e.returns own) (own_end e.returns own)

-- ---- every face
pub same_or_not : (m n : ℕ) → (m ≡ n) ⊎ ¬ (m ≡ n)
same_or_not m n = by (cases_lt m n) (cases_lt n m)
  where
    by : ((m < n) ⊎ (n ≤ m)) → ((n < m) ⊎ (m ≤ n)) → (m ≡ n) ⊎ ¬ (m ≡ n)
    by (inl h) g = inr (λ e. omega arith)
    by (inr h) (inl g) = inr (λ e. omega arith)
    by (inr h) (inr g) = inl (omega arith)

pub passes : (d : Triple) → ¬ IsZero d → (s : Part) → IsSound s → (e : Edge s) (f : Face s) → Passes (on d e.a) (on d e.b) (on d f.a) (on d f.b) (on d f.c)
passes d directed s sound e f = by (same_or_not f.number e.left.number) (same_or_not f.number e.right.number)
  where
    by : (f.number ≡ e.left.number) ⊎ ¬ (f.number ≡ e.left.number) → (f.number ≡ e.right.number) ⊎ ¬ (f.number ≡ e.right.number) → Passes (on d e.a) (on d e.b) (on d f.a) (on d f.b) (on d f.c)
    by (inl h) g = inr (left_own d e f h)
    by (inr h) (inl g) = inr (right_own d e f g)
    by (inr h) (inr g) = inl (unpierced s sound e f h g d directed)
