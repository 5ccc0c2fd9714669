-- Lists that hold the outlines of which something is so, one outline after another.
use Rattle.std.proofs.Common.{◌≡◌, ◌≢◌, ◌⊎◌, inl, inr, ℕ, ◌+◌, ◌*◌, List, [], ◌∷◌, ◌++◌, All, Contains, get_or, sym, subst, arith}
use Rattle.std.proofs.lemmas.List.Elements.{All-weaker, All-push, All-contains, Contains-get_or, Contains-append_left, Contains-push, Contains-push_cases}
use Rattle.std.proofs.lemmas.List.Quantifiers.{all_pairs_push}
use Rattle.lattice.specs.Triple.{Triple}
use Rattle.geometry.specs.Parts.{Part, Edge, IsNumbered}
use Rattle.out_grid.specs.Cells.{Raster, HasPointIn}
use Rattle.out_grid.specs.Grids.{cell_at, HoldsThose}
use Rattle.out_grid.specs.inner.Lists.{IsPut, AreHeld}
use Rattle.out_grid.proofs.Stamps.{none_in}

-- an empty list holds those of no outlines
pub holds_none : {s : Part} (halves : List ℕ) (P : Edge s → Type 0) (list : List ℕ) → list ≡ [] → HoldsThose {s = s} halves [] P list
holds_none {s = s} halves P list e = subst (λ (xs : List ℕ). HoldsThose {s = s} halves [] P xs) (sym e) (record {
  within = λ i d h. absurd (omega (arith, h));
  once = λ i j d h l. absurd (omega (arith, l));
  exactly = λ k o h n. absurd (none_in k h);
})

-- one outline more, which was not among those before
module _ {s : Part} (halves : List ℕ) (P : Edge s → Type 0) (outlines : List ℕ) (k : ℕ) (other : Contains outlines k → ⊥) (list : List ℕ) (h : HoldsThose {s = s} halves outlines P list) where
  not_held : Contains list k → ⊥
  not_held c = other (All-contains (Contains outlines) list k h.within c)

  within_more : All (Contains (outlines ++ k ∷ [])) list
  within_more = All-weaker (Contains outlines) (Contains (outlines ++ k ∷ [])) (λ x c. Contains-append_left outlines (k ∷ []) x c) list h.within

  -- that is so of it
  pub holds_more : ((o : Edge s) → IsNumbered halves k o → P o) → HoldsThose {s = s} halves (outlines ++ k ∷ []) P (list ++ k ∷ [])
  holds_more so = record {
    within = All-push (Contains (outlines ++ k ∷ [])) list k within_more (Contains-push outlines k);
    once = all_pairs_push ◌≢◌ list k h.once (λ i d l e. not_held (subst (Contains list) e (Contains-get_or list i d l)));
    exactly = λ x o c n. ((λ l. to x o n (Contains-push_cases outlines k x c) (Contains-push_cases list k x l)), (λ p. from x o n (Contains-push_cases outlines k x c) p));
  }
    where
      to : (x : ℕ) (o : Edge s) → IsNumbered halves x o → Contains outlines x ⊎ (k ≡ x) → Contains list x ⊎ (k ≡ x) → P o
      to x o n (inl c) (inl l) = (h.exactly x o c n).0 l
      to x o n c (inr e) = so o (subst (λ (y : ℕ). IsNumbered halves y o) (sym e) n)
      to x o n (inr e) (inl l) = so o (subst (λ (y : ℕ). IsNumbered halves y o) (sym e) n)

      from : (x : ℕ) (o : Edge s) → IsNumbered halves x o → Contains outlines x ⊎ (k ≡ x) → P o → Contains (list ++ k ∷ []) x
      from x o n (inl c) p = Contains-append_left list (k ∷ []) x ((h.exactly x o c n).1 p)
      from x o n (inr e) p = subst (Contains (list ++ k ∷ [])) e (Contains-push list k)

  -- that is not so of it
  pub holds_same : ((o : Edge s) → IsNumbered halves k o → P o → ⊥) → HoldsThose {s = s} halves (outlines ++ k ∷ []) P list
  holds_same not_so = record {
    within = within_more;
    once = h.once;
    exactly = λ x o c n. ((λ l. to x o n (Contains-push_cases outlines k x c) l), (λ p. from x o n (Contains-push_cases outlines k x c) p));
  }
    where
      to : (x : ℕ) (o : Edge s) → IsNumbered halves x o → Contains outlines x ⊎ (k ≡ x) → Contains list x → P o
      to x o n (inl c) l = (h.exactly x o c n).0 l
      to x o n (inr e) l = absurd (not_held (subst (Contains list) (sym e) l))

      from : (x : ℕ) (o : Edge s) → IsNumbered halves x o → Contains outlines x ⊎ (k ≡ x) → P o → Contains list x
      from x o n (inl c) p = (h.exactly x o c n).1 p
      from x o n (inr e) p = absurd (not_so o (subst (λ (y : ℕ). IsNumbered halves y o) (sym e) n) p)

-- ---- all cells
pub held_none : (d : Triple) (r : Raster) (s : Part) (halves : List ℕ) (n : ℕ) (cells : List (List ℕ)) → ((i : ℕ) → get_or cells i [] ≡ []) → AreHeld d r s halves [] n cells
held_none d r s halves n cells empty column row cl rl = holds_none {s = s} halves (λ o. HasPointIn d r o column row) (cell_at cells n column row) (empty ((column * n) + row))

-- an outline that has a point just in the cells of P, and is put into these
pub held_more : (d : Triple) (r : Raster) (s : Part) (halves outlines : List ℕ) (n k : ℕ) (P : ℕ → ℕ → Type 0) (old new : List (List ℕ)) → (Contains outlines k → ⊥)
    → ((o : Edge s) → IsNumbered halves k o → (column row : ℕ) → P column row → HasPointIn d r o column row)
    → ((o : Edge s) → IsNumbered halves k o → (column row : ℕ) → HasPointIn d r o column row → P column row)
    → AreHeld d r s halves outlines n old → IsPut P n k old new → AreHeld d r s halves (outlines ++ k ∷ []) n new
held_more d r s halves outlines n k P old new other to from held put column row cl rl = by (put column row cl rl)
  where
    Q : Edge s → Type 0
    Q o = HasPointIn d r o column row

    now : List ℕ → Type 0
    now list = HoldsThose {s = s} halves (outlines ++ k ∷ []) Q list

    by : (P column row × (cell_at new n column row ≡ cell_at old n column row ++ k ∷ [])) ⊎ ((P column row → ⊥) × (cell_at new n column row ≡ cell_at old n column row)) → now (cell_at new n column row)
    by (inl h) = subst now (sym h.1) (holds_more {s = s} halves Q outlines k other (cell_at old n column row) (held column row cl rl) (λ o i. to o i column row h.0))
    by (inr h) = subst now (sym h.1) (holds_same {s = s} halves Q outlines k other (cell_at old n column row) (held column row cl rl) (λ o i q. h.0 (from o i column row q)))
