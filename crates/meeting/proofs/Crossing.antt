-- Edges that aren't parallel have a common point where their lines have one at a share of the way along each.
use Rattle.std.proofs.Common.{◌≡◌, ℕ, ◌+◌, ◌<◌, List, [], ◌∷◌, refl, sym, subst, ap, ◌∙◌, arith}
use Rattle.std.specs.Prelude.{◌↔◌, ℤ, pos, ◌+ℤ◌, ◌-ℤ◌, ◌*ℤ◌, ◌≤ℤ◌, ◌<ℤ◌}
use Rattle.std.proofs.lemmas.Int.{ints}
use Rattle.integers.proofs.Absolutes.{natural_not_negative, natural_positive}
use Rattle.integers.proofs.Comparisons.{not_negative_at, at_most_of_gap, gap_of_at_most}
use Rattle.integers.proofs.Ring.{Expr, var, con, ◌⊕◌, ◌⊖◌, ◌⊗◌, ring, by_one, by_two, by_three}
use Rattle.integers.proofs.Signs.{mul_nonneg, nonneg_of_mul, zero_of_mul}
use Rattle.lattice.specs.declared.points.Corner.{Corner}
use Rattle.lattice.specs.Triple.{Triple, dot, cross, det, IsZero}
use Rattle.lattice.specs.Points.{Point, difference}
use Rattle.lattice.proofs.Vectors.{Letters, letters, dots, crosses, dot_somewhere}
use Rattle.geometry.specs.Faces.{edge_sum}
use Rattle.meeting.specs.inner.Edges.{EdgesTouch, IsShare, IsCrossing}
use Rattle.meeting.proofs.Balance.{square-least}
use Rattle.meeting.proofs.EdgeWeights.{touch-of-sum}

-- the edges, the way between their starts, and weights
abbrev E : Letters
E = letters 0

abbrev G : Letters
G = letters 3

abbrev W : Letters
W = letters 6

abbrev N : Letters
N = crosses E G

abbrev whole : Expr
whole = dots N N

abbrev along_e : Expr
along_e = dots N (crosses W G)

abbrev along_g : Expr
along_g = dots N (crosses W E)

abbrev M : Expr
M = var 9

abbrev J : Expr
J = var 10

abbrev L : Expr
L = var 11

pub same-share : {f g m n : ℤ} → f ≡ g → m ≡ n → IsShare f m ↔ IsShare g n
same-share {f} {g} {m} {n} p q = (moved p q, moved (sym p) (sym q))
  where
    moved : {f g m n : ℤ} → f ≡ g → m ≡ n → IsShare f m → IsShare g n
    moved p q h = let least = h.least in let most = h.most in record { least = omega (arith, ints); most = omega (arith, ints) }

module _ (e g w : Triple) where
  abbrev values : List ℤ → List ℤ
  values more = e.x ∷ e.y ∷ e.z ∷ g.x ∷ g.y ∷ g.z ∷ w.x ∷ w.y ∷ w.z ∷ more

  abbrev n : Triple
  n = cross e g

  -- ---- from a common point: a way to it by either edge
  module _ (m j l : ℤ) (some : pos 0 <ℤ m) (j_least : pos 0 ≤ℤ j) (j_most : j ≤ℤ m) (l_least : pos 0 ≤ℤ l) (l_most : l ≤ℤ m)
      (x : (m *ℤ w.x) +ℤ (j *ℤ g.x) ≡ l *ℤ e.x) (y : (m *ℤ w.y) +ℤ (j *ℤ g.y) ≡ l *ℤ e.y) (z : (m *ℤ w.z) +ℤ (j *ℤ g.z) ≡ l *ℤ e.z) where
    abbrev gap : (Letters → Expr) → Expr
    gap f = ((M ⊗ f W) ⊕ (J ⊗ f G)) ⊖ (L ⊗ f E)

    abbrev gaps : Letters → Expr
    gaps k = ((gap (λ r. r.x) ⊗ k.x) ⊕ (gap (λ r. r.y) ⊗ k.y)) ⊕ (gap (λ r. r.z) ⊗ k.z)

    level : det w e g ≡ pos 0
    level = zero_of_mul m _ some
        (by_three (m *ℤ det w e g) (pos 0) _ _ n.x _ _ n.y _ _ n.z
        (ring (values (m ∷ j ∷ l ∷ [])) ((M ⊗ dots W N) ⊖ con (pos 0)) (gaps N) refl) x y z)

    on_g : m *ℤ dot n (cross w e) ≡ j *ℤ dot n n
    on_g =
        let k = cross e n in
        by_three _ _ _ _ k.x _ _ k.y _ _ k.z (ring (values (m ∷ j ∷ l ∷ [])) ((M ⊗ along_g) ⊖ (J ⊗ whole)) (gaps (crosses E N)) refl) x y z

    on_e : m *ℤ dot n (cross w g) ≡ l *ℤ dot n n
    on_e =
        let k = cross g n in
        by_three _ _ _ _ k.x _ _ k.y _ _ k.z (ring (values (m ∷ j ∷ l ∷ [])) ((M ⊗ along_e) ⊖ (L ⊗ whole)) (gaps (crosses G N)) refl) x y z

    share : (f k : ℤ) → pos 0 ≤ℤ k → k ≤ℤ m → m *ℤ f ≡ k *ℤ dot n n → IsShare f (dot n n)
    share f k least most is = record {
      least = nonneg_of_mul m f some (not_negative_at _ _ is (mul_nonneg k _ least (square-least n)));
      most = at_most_of_gap _ _ (nonneg_of_mul m _ some (not_negative_at _ _
          (by_one (m *ℤ (dot n n -ℤ f)) ((m -ℤ k) *ℤ dot n n) (m *ℤ f) (k *ℤ dot n n) (pos 0 -ℤ pos 1)
          (ring (m ∷ k ∷ f ∷ dot n n ∷ []) ((var 0 ⊗ (var 3 ⊖ var 2)) ⊖ ((var 0 ⊖ var 1) ⊗ var 3)) (((var 0 ⊗ var 2) ⊖ (var 1 ⊗ var 3)) ⊗ (con (pos 0) ⊖ con (pos 1))) refl) is)
          (mul_nonneg _ _ (gap_of_at_most _ _ most) (square-least n))));
    }

    crossing-at : IsCrossing e g w
    crossing-at = record { level = level; first = share _ l l_least l_most on_e; second = share _ j j_least j_most on_g }

  -- ---- to a common point
  return_x : ((dot n n *ℤ w.x) +ℤ (dot n (cross w e) *ℤ g.x)) -ℤ (dot n (cross w g) *ℤ e.x) ≡ det w e g *ℤ n.x
  return_x = ring (values []) (((whole ⊗ W.x) ⊕ (along_g ⊗ G.x)) ⊖ (along_e ⊗ E.x)) (dots W N ⊗ N.x) refl

  return_y : ((dot n n *ℤ w.y) +ℤ (dot n (cross w e) *ℤ g.y)) -ℤ (dot n (cross w g) *ℤ e.y) ≡ det w e g *ℤ n.y
  return_y = ring (values []) (((whole ⊗ W.y) ⊕ (along_g ⊗ G.y)) ⊖ (along_e ⊗ E.y)) (dots W N ⊗ N.y) refl

  return_z : ((dot n n *ℤ w.z) +ℤ (dot n (cross w e) *ℤ g.z)) -ℤ (dot n (cross w g) *ℤ e.z) ≡ det w e g *ℤ n.z
  return_z = ring (values []) (((whole ⊗ W.z) ⊕ (along_g ⊗ G.z)) ⊖ (along_e ⊗ E.z)) (dots W N ⊗ N.z) refl

module _ (a b p q : Corner) where
  abbrev e : Triple
  e = difference a b

  abbrev g : Triple
  g = difference p q

  abbrev w : Triple
  w = difference a p

  to : EdgesTouch a b p q → IsCrossing e g w
  to t =
      let (k, l, some, is) = t.on_first in
      let (i, j, some', is') = t.on_second in
      from k l i j some' (sym is ∙ is')
    where
      way : (k l i j a b p q : ℤ) → (k *ℤ a) +ℤ (l *ℤ b) ≡ (i *ℤ p) +ℤ (j *ℤ q) → k +ℤ l ≡ i +ℤ j → ((i +ℤ j) *ℤ (p -ℤ a)) +ℤ (j *ℤ (q -ℤ p)) ≡ l *ℤ (b -ℤ a)
      way k l i j a b p q s t = by_two _ _ ((k *ℤ a) +ℤ (l *ℤ b)) ((i *ℤ p) +ℤ (j *ℤ q)) (pos 0 -ℤ pos 1) (k +ℤ l) (i +ℤ j) a
          (ring (k ∷ l ∷ i ∷ j ∷ a ∷ b ∷ p ∷ q ∷ [])
          ((((var 2 ⊕ var 3) ⊗ (var 6 ⊖ var 4)) ⊕ (var 3 ⊗ (var 7 ⊖ var 6))) ⊖ (var 1 ⊗ (var 5 ⊖ var 4)))
          (((((var 0 ⊗ var 4) ⊕ (var 1 ⊗ var 5)) ⊖ ((var 2 ⊗ var 6) ⊕ (var 3 ⊗ var 7))) ⊗ (con (pos 0) ⊖ con (pos 1)))
          ⊕ (((var 0 ⊕ var 1) ⊖ (var 2 ⊕ var 3)) ⊗ var 4)) refl) s t

      second : (i j : ℕ) → pos j ≤ℤ (pos i +ℤ pos j)
      second i j = omega (arith, ints)

      first : (k l : ℕ) (m : ℤ) → pos k +ℤ pos l ≡ m → pos l ≤ℤ m
      first k l m e = omega (arith, ints)

      from : (k l i j : ℕ) → 0 < i + j → edge_sum a b k l ≡ edge_sum p q i j → IsCrossing e g w
      from k l i j some same =
          let weights : pos k +ℤ pos l ≡ pos i +ℤ pos j = ap (λ (s : Point). s.w) same in
          crossing-at e g w (pos i +ℤ pos j) (pos j) (pos l) (natural_positive (i + j) some) (natural_not_negative j) (second i j) (natural_not_negative l) (first k l _ weights)
          (way (pos k) (pos l) (pos i) (pos j) a.x b.x p.x q.x (ap (λ (s : Point). s.x) same) weights)
          (way (pos k) (pos l) (pos i) (pos j) a.y b.y p.y q.y (ap (λ (s : Point). s.y) same) weights)
          (way (pos k) (pos l) (pos i) (pos j) a.z b.z p.z q.z (ap (λ (s : Point). s.z) same) weights)

  from : ¬ IsZero (cross e g) → IsCrossing e g w → EdgesTouch a b p q
  from apart h =
      let n = cross e g in
      let s = dot n n in
      let j = dot n (cross w e) in
      let l = dot n (cross w g) in
      touch-of-sum a b p q (record {
        k = s -ℤ l;
        l = l;
        i = s -ℤ j;
        j = j;
        k_least = gap_of_at_most _ _ h.first.most;
        l_least = h.first.least;
        i_least = gap_of_at_most _ _ h.second.most;
        j_least = h.second.least;
        some = more s j (dot_somewhere n apart);
        whole = both s l j;
        x = sums s l j (det w e g) n.x a.x b.x p.x q.x (return_x e g w) h.level;
        y = sums s l j (det w e g) n.y a.y b.y p.y q.y (return_y e g w) h.level;
        z = sums s l j (det w e g) n.z a.z b.z p.z q.z (return_z e g w) h.level;
      })
    where
      more : (s j : ℤ) → pos 0 <ℤ s → pos 0 <ℤ ((s -ℤ j) +ℤ j)
      more s j h = omega (arith, ints)

      both : (s l j : ℤ) → (s -ℤ l) +ℤ l ≡ (s -ℤ j) +ℤ j
      both s l j = omega (arith, ints)

      sums : (s l j h n a b p q : ℤ) → ((s *ℤ (p -ℤ a)) +ℤ (j *ℤ (q -ℤ p))) -ℤ (l *ℤ (b -ℤ a)) ≡ h *ℤ n → h ≡ pos 0
          → ((s -ℤ l) *ℤ a) +ℤ (l *ℤ b) ≡ ((s -ℤ j) *ℤ p) +ℤ (j *ℤ q)
      sums s l j h n a b p q is level = by_two _ _ (((s *ℤ (p -ℤ a)) +ℤ (j *ℤ (q -ℤ p))) -ℤ (l *ℤ (b -ℤ a))) (h *ℤ n) (pos 0 -ℤ pos 1) h (pos 0) (pos 0 -ℤ n)
          (ring (s ∷ l ∷ j ∷ h ∷ n ∷ a ∷ b ∷ p ∷ q ∷ [])
          ((((var 0 ⊖ var 1) ⊗ var 5) ⊕ (var 1 ⊗ var 6)) ⊖ (((var 0 ⊖ var 2) ⊗ var 7) ⊕ (var 2 ⊗ var 8)))
          ((((((var 0 ⊗ (var 7 ⊖ var 5)) ⊕ (var 2 ⊗ (var 8 ⊖ var 7))) ⊖ (var 1 ⊗ (var 6 ⊖ var 5))) ⊖ (var 3 ⊗ var 4)) ⊗ (con (pos 0) ⊖ con (pos 1)))
          ⊕ ((var 3 ⊖ con (pos 0)) ⊗ (con (pos 0) ⊖ var 4))) refl) is level

  pub crossing : (e' g' w' : Triple) → e' ≡ e → g' ≡ g → w' ≡ w → ¬ IsZero (cross e g) → IsCrossing e' g' w' ↔ EdgesTouch a b p q
  crossing e' g' w' is_e is_g is_w apart =
      subst (λ (k : Triple). IsCrossing k g' w' ↔ EdgesTouch a b p q) (sym is_e)
      (subst (λ (k : Triple). IsCrossing e k w' ↔ EdgesTouch a b p q) (sym is_g)
      (subst (λ (k : Triple). IsCrossing e g k ↔ EdgesTouch a b p q) (sym is_w) (from apart, to)))
