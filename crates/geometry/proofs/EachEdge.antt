-- Each edge of a closed part is numbered, from one end or from the other, and is drawn from both or from neither.
use Rattle.std.proofs.Common.{◌≡◌, ℕ, zero, suc, ◌/◌, ◌%◌, ◌<◌, ◌≤◌, ◌⊎◌, inl, inr, List, [], ◌∷◌, Contains, Some, refl, sym, subst, ap, ◌∙◌, arith}
use Rattle.std.specs.Prelude.{ℤ, pos, ◌*ℤ◌, ◌<ℤ◌, ◌≤ℤ◌}
use Rattle.std.proofs.lemmas.Bool.{cases_lt}
use Rattle.std.proofs.lemmas.Option.{slice_get-get_or}
use Rattle.integers.proofs.Ring.{var, con, ◌⊖◌, ◌⊗◌, ring}
use Rattle.lattice.specs.declared.points.Corner.{Corner}
use Rattle.lattice.specs.declared.soup.Tri.{Tri}
use Rattle.lattice.specs.Triple.{Triple, dot}
use Rattle.lattice.specs.Points.{Point, point_of}
use Rattle.lattice.proofs.Vectors.{Letters, letters, dots, crosses}
use Rattle.geometry.specs.Faces.{normal, IsFlat, IsPointOfEdge}
use Rattle.geometry.specs.Parts.{Part, Face, Edge, IsHalf, IsClosed, AreEdges, IsNumbered, start_of, end_of}
use Rattle.geometry.specs.Views.{IsOutline, IsCrease, IsDrawn, IsDrawnPoint}
use Rattle.geometry.proofs.Listed.{same_element}
use Rattle.geometry.proofs.Sights.{sight_back}
use Rattle.geometry.proofs.Shares.{edge_turned}

-- ---- a triangle with two equal corners is flat
abbrev pair : Corner → Corner → List ℤ
pair p q = p.x ∷ p.y ∷ p.z ∷ q.x ∷ q.y ∷ q.z ∷ []

abbrev step : Letters
step = record { x = var 3 ⊖ var 0; y = var 4 ⊖ var 1; z = var 5 ⊖ var 2 }

abbrev stay : Letters
stay = record { x = var 0 ⊖ var 0; y = var 1 ⊖ var 1; z = var 2 ⊖ var 2 }

flat_ab : (a c : Corner) → IsFlat a a c
flat_ab a c = record {
  x = ring (pair a c) (crosses stay step).x (con (pos 0)) refl;
  y = ring (pair a c) (crosses stay step).y (con (pos 0)) refl;
  z = ring (pair a c) (crosses stay step).z (con (pos 0)) refl;
}

flat_bc : (a b : Corner) → IsFlat a b b
flat_bc a b = record {
  x = ring (pair a b) (crosses step step).x (con (pos 0)) refl;
  y = ring (pair a b) (crosses step step).y (con (pos 0)) refl;
  z = ring (pair a b) (crosses step step).z (con (pos 0)) refl;
}

flat_ca : (a b : Corner) → IsFlat a b a
flat_ca a b = record {
  x = ring (pair a b) (crosses step stay).x (con (pos 0)) refl;
  y = ring (pair a b) (crosses step stay).y (con (pos 0)) refl;
  z = ring (pair a b) (crosses step stay).z (con (pos 0)) refl;
}

-- a side that ends where it starts makes its triangle flat
pub flat_face : (s : Part) (f : Face s) (side : ℕ) → start_of f.tri side ≡ end_of f.tri side → IsFlat f.a f.b f.c
flat_face s f zero h = subst (λ (x : Corner). IsFlat f.a x f.c) (same_element s.corners f.tri.a f.tri.b f.a f.b h f.at_a f.at_b) (flat_ab f.a f.c)
flat_face s f (suc zero) h = subst (λ (x : Corner). IsFlat f.a f.b x) (same_element s.corners f.tri.b f.tri.c f.b f.c h f.at_b f.at_c) (flat_bc f.a f.b)
flat_face s f (suc (suc side)) h = subst (λ (x : Corner). IsFlat f.a f.b x) (sym (same_element s.corners f.tri.c f.tri.a f.c f.a h f.at_c f.at_a)) (flat_ca f.a f.b)

strict : (m n : ℕ) → m ≤ n → (m ≡ n → ⊥) → m < n
strict m n h apart = by (cases_lt m n)
  where
    by : ((m < n) ⊎ (n ≤ m)) → m < n
    by (inl l) = l
    by (inr g) = absurd (apart (omega arith))

-- ---- an edge from its other end
abbrev pub turned_edge : {s : Part} → Edge s → Edge s
turned_edge e = record {
  half = e.other;
  other = e.half;
  m = e.n;
  n = e.m;
  a = e.b;
  b = e.a;
  left = e.right;
  right = e.left;
  goes = e.returns;
  returns = e.goes;
  on_left = e.on_right;
  on_right = e.on_left;
  at_m = e.at_n;
  at_n = e.at_m;
}

dot_turned : (l r : Triple) → dot l r ≡ dot r l
dot_turned l r = ring (l.x ∷ l.y ∷ l.z ∷ r.x ∷ r.y ∷ r.z ∷ []) (dots (letters 0) (letters 3)) (dots (letters 3) (letters 0)) refl

crease_turned : (fraction : ℕ) (l r : Triple) → (dot l r ≤ℤ pos 0) ⊎ (((pos 1000000 *ℤ dot l r) *ℤ dot l r) <ℤ ((pos fraction *ℤ dot l l) *ℤ dot r r))
    → (dot r l ≤ℤ pos 0) ⊎ (((pos 1000000 *ℤ dot r l) *ℤ dot r l) <ℤ ((pos fraction *ℤ dot r r) *ℤ dot l l))
crease_turned fraction l r (inl h) = inl (subst (λ (z : ℤ). z ≤ℤ pos 0) (dot_turned l r) h)
crease_turned fraction l r (inr h) =
    inr (subst (λ (z : ℤ). ((pos 1000000 *ℤ z) *ℤ z) <ℤ ((pos fraction *ℤ dot r r) *ℤ dot l l)) (dot_turned l r)
    (subst (λ (z : ℤ). ((pos 1000000 *ℤ dot l r) *ℤ dot l r) <ℤ z) (exchanged (pos fraction) (dot l l) (dot r r)) h))
  where
    exchanged : (f a b : ℤ) → (f *ℤ a) *ℤ b ≡ (f *ℤ b) *ℤ a
    exchanged f a b = ring (f ∷ a ∷ b ∷ []) ((var 0 ⊗ var 1) ⊗ var 2) ((var 0 ⊗ var 2) ⊗ var 1) refl

drawn_turned : (d : Triple) (fraction : ℕ) {s : Part} (e : Edge s) → IsDrawn d fraction e → IsDrawn d fraction (turned_edge e)
drawn_turned d fraction e (drawn, seen) = (either drawn, λ k. seen (sight_back d (point_of e.b) (point_of e.a) k))
  where
    either : (IsOutline d e ⊎ IsCrease fraction e) → (IsOutline d (turned_edge e) ⊎ IsCrease fraction (turned_edge e))
    either (inl h) = inl (λ same. h (sym same))
    either (inr h) = inr (crease_turned fraction (normal e.left.a e.left.b e.left.c) (normal e.right.a e.right.b e.right.c) h)

module _ (s : Part) (closed : IsClosed s) where
  -- the two halves of an edge are two
  apart : (e : Edge s) → e.half ≡ e.other → ⊥
  apart e same = closed.none_flat e.left (flat_face s e.left (e.half % 3) (starts ∙ sym ends))
    where
      tri_is : {m n : ℕ} (h : IsHalf s e.half m n) → h.tri ≡ e.left.tri
      tri_is h = same_element s.triangles (e.half / 3) e.left.number h.tri e.left.tri (sym e.on_left) h.at e.left.listed

      back : IsHalf s e.half e.n e.m
      back = subst (λ (k : ℕ). IsHalf s k e.n e.m) (sym same) e.returns

      starts : start_of e.left.tri (e.half % 3) ≡ e.n
      starts = ap (λ (t : Tri). start_of t (e.half % 3)) (sym (tri_is back)) ∙ back.start

      ends : end_of e.left.tri (e.half % 3) ≡ e.n
      ends = ap (λ (t : Tri). end_of t (e.half % 3)) (sym (tri_is e.goes)) ∙ e.goes.end

  module _ (d : Triple) (fraction : ℕ) (halves : List ℕ) (edges : AreEdges s halves) (q : Point) where
    -- a drawn edge with a number, on which the point is
    abbrev pub HasDrawnEdge : Type 0
    HasDrawnEdge = (i : ℕ) × (e : Edge s) × IsNumbered halves i e × IsDrawn d fraction e × IsPointOfEdge e.a e.b q

    lower : (e : Edge s) → e.half < e.other → IsDrawn d fraction e → IsPointOfEdge e.a e.b q → HasDrawnEdge
    lower e less drawn on_edge = at ((edges.exactly e.half).1 (e.other, record { m = e.m; n = e.n; goes = e.goes; returns = e.returns }, less))
      where
        at : Contains halves e.half → HasDrawnEdge
        at (i, within, is) = (i, e, slice_get-get_or halves i e.half within ∙ ap Some is, drawn, on_edge)

    pub numbered_edge : IsDrawnPoint d fraction s q → HasDrawnEdge
    numbered_edge (e, drawn, on_edge) = go on_edge (cases_lt e.half e.other)
      where
        go : IsPointOfEdge e.a e.b q → ((e.half < e.other) ⊎ (e.other ≤ e.half)) → HasDrawnEdge
        go on_edge (inl less) = lower e less drawn on_edge
        go (i, j, some, is) (inr more) =
            lower (turned_edge e) (strict e.other e.half more (λ same. apart e (sym same))) (drawn_turned d fraction e drawn)
            (j, i, omega arith, is ∙ edge_turned e.a e.b i j)
