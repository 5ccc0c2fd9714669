-- Lists of strips, edge by edge: one edge more, the edge of a strip and the strips of an edge.
use Rattle.std.proofs.Common.{ℕ, zero, suc, ◌≡◌, ◌⊎◌, inl, inr, List, [], ◌∷◌, ◌++◌, Contains, refl, sym, subst, ap, ◌∙◌, arith, append-nil, append_assoc}
use Rattle.std.proofs.lemmas.List.Elements.{Contains-append_cases, Contains-append_left, Contains-append_right}
use Rattle.integers.proofs.Lists.{Contains-later}
use Rattle.lattice.specs.declared.pieces.Strip.{Strip}
use Rattle.lattice.specs.Triple.{Triple}
use Rattle.geometry.specs.Parts.{Part, Edge, IsNumbered}
use Rattle.line_merge.proofs.Lists.{contains_first}
use Rattle.lattice.specs.declared.spans.Span.{Span}
use Rattle.std.specs.List.{AllZip}
use Rattle.drawn_strips.specs.Strips.{IsStripOf, AreStripsOf, AreEdgeStrips}

module _ (d : Triple) {s : Part} (Right : Edge s → List Span → Type 0) (halves : List ℕ) where
  -- these are the strips of the edge with the number i
  abbrev pub AreOf : ℕ → List Strip → Type 0
  AreOf i strips = (e : Edge s) → IsNumbered halves i e → AreStripsOf d Right e strips

  edge_more : (numbers : List ℕ) (strips : List Strip) (i : ℕ) (more : List Strip) → AreEdgeStrips d Right halves numbers strips → AreOf i more → AreEdgeStrips d Right halves (numbers ++ i ∷ []) (strips ++ more)
  edge_more [] strips i more h of_i = (more, [], ap (λ ys. ys ++ more) h ∙ sym (append-nil more), of_i, refl)
  edge_more (k ∷ ks) strips i more (here, rest, parted, of_k, later) of_i =
      (here, rest ++ more, ap (λ ys. ys ++ more) parted ∙ append_assoc here rest more, of_k, edge_more ks rest i more later of_i)

  -- the strips of the spans of one edge more came to the end
  pub edge_added : (numbers : List ℕ) (old new here : List Strip) (i : ℕ) (spans : List Span) → new ≡ old ++ here → ((e : Edge s) → IsNumbered halves i e → Right e spans)
      → ((e : Edge s) → IsNumbered halves i e → AllZip (IsStripOf d e) spans here) → AreEdgeStrips d Right halves numbers old → AreEdgeStrips d Right halves (numbers ++ i ∷ []) new
  edge_added numbers old new here i spans added right each so_far =
      subst (λ (ys : List Strip). AreEdgeStrips d Right halves (numbers ++ i ∷ []) ys) (sym added)
      (edge_more numbers old i here so_far (λ e n. record { spans = spans; right = right e n; each = each e n }))

  pub edge_of_strip : (numbers : List ℕ) (strips : List Strip) → AreEdgeStrips d Right halves numbers strips → (y : Strip) → Contains strips y
      → (i : ℕ) × (here : List Strip) × Contains numbers i × Contains here y × AreOf i here
  edge_of_strip [] strips h y c = absurd (let none : Contains [] y = subst (λ ys. Contains ys y) h c in omega (arith, none.1))
  edge_of_strip (k ∷ ks) strips (here, rest, parted, of_k, later) y c = by (edge_of_strip ks rest later y) (Contains-append_cases here rest y (subst (λ ys. Contains ys y) parted c))
    where
      Found : List ℕ → Type 0
      Found numbers = (i : ℕ) × (here : List Strip) × Contains numbers i × Contains here y × AreOf i here

      by : (Contains rest y → Found ks) → (Contains here y ⊎ Contains rest y) → (i : ℕ) × (here : List Strip) × Contains (k ∷ ks) i × Contains here y × AreOf i here
      by in_later (inl c) = (k, here, contains_first ks k, c, of_k)
      by in_later (inr c) = let (i, group, n, in_group, of_i) = in_later c in (i, group, Contains-later k ks i n, in_group, of_i)

  pub strips_of_edge : (numbers : List ℕ) (strips : List Strip) → AreEdgeStrips d Right halves numbers strips → (i : ℕ) → Contains numbers i
      → (here : List Strip) × ((y : Strip) → Contains here y → Contains strips y) × AreOf i here
  strips_of_edge [] strips h i (n, within, is) = absurd (omega arith)
  strips_of_edge (k ∷ ks) strips (here, rest, parted, of_k, later) i (zero, within, is) =
      (here, λ y c. subst (λ ys. Contains ys y) (sym parted) (Contains-append_left here rest y c), subst (λ n. AreOf n here) is of_k)
  strips_of_edge (k ∷ ks) strips (here, rest, parted, of_k, later) i (suc n, within, is) =
      let (group, within_rest, of_i) = strips_of_edge ks rest later i (n, omega arith, is) in
      (group, λ y c. subst (λ ys. Contains ys y) (sym parted) (Contains-append_right here rest y (within_rest y c)), of_i)

-- what is so of the spans of each edge may be weakened
pub edges_weaker : (d : Triple) {s : Part} (Right Other : Edge s → List Span → Type 0) (halves : List ℕ) → ((e : Edge s) (spans : List Span) → Right e spans → Other e spans)
    → (numbers : List ℕ) (strips : List Strip) → AreEdgeStrips d Right halves numbers strips → AreEdgeStrips d Other halves numbers strips
edges_weaker d Right Other halves weaker [] strips h = h
edges_weaker d Right Other halves weaker (i ∷ is) strips (here, rest, parted, of_i, later) = (
  here,
  rest,
  parted,
  λ e n. let group = of_i e n in record { spans = group.spans; right = weaker e group.spans group.right; each = group.each },
  edges_weaker d Right Other halves weaker is rest later,
)
