-- Subtrees over triangles, one after another.
use Rattle.std.proofs.Common.{◌≡◌, ℕ, ◌+◌, ◌-◌, ◌<◌, ◌≤◌, ◌⊎◌, inl, inr, List, Option, [], ◌∷◌, ◌++◌, length, get_or, slice_get, Some, refl, sym, subst, ap, ◌∙◌, arith, length-append}
use Rattle.std.specs.Prelude.{IfSome}
use Rattle.std.proofs.lemmas.Bool.{cases_lt}
use Rattle.std.proofs.lemmas.Option.{slice_get_within, slice_get_read, get_or_from_slice_get}
use Rattle.std.proofs.lemmas.List.{get_or_append_left, get_or-append_right}
use Rattle.geometry.proofs.Listed.{same_element}
use Rattle.solid_mesh.specs.inner.Bounds.{AreWithin}
use Rattle.solid_mesh.specs.inner.Trees.{IsSubtree, AreSubtrees}
use Rattle.solid_mesh.specs.declared.placed.Placed.{Placed}
use Rattle.solid_mesh.specs.declared.subtrees.Subtree.{Subtree}
use Rattle.solid_mesh.proofs.BoundLemmas.{within_both}

pub some_same : (m n : ℕ) → Some m ≡ Some n → m ≡ n
some_same m n e = cc

module _ (placed : List Placed) where
  pub no_subtrees : AreSubtrees placed []
  no_subtrees k t at = absurd (none (slice_get_within [] k t at))
    where
      none : k < length {A = Subtree} [] → ⊥
      none h = omega (arith, h)

  pub more_subtrees : (xs new : List Subtree) (t : Subtree) → AreSubtrees placed xs → IsSubtree placed (length xs) t → new ≡ xs ++ t ∷ [] → AreSubtrees placed new
  more_subtrees xs new t h here e k u at = by (cases_lt k (length xs))
    where
      there : slice_get (xs ++ t ∷ []) k ≡ Some u
      there = subst (λ (zs : List Subtree). slice_get zs k ≡ Some u) e at

      within : k < length xs + 1
      within = omega (arith, slice_get_within (xs ++ t ∷ []) k u there, length-append xs (t ∷ []))

      by : (k < length xs) ⊎ (length xs ≤ k) → IsSubtree placed k u
      by (inl less) =
          let is : get_or xs k u ≡ u = sym (get_or_append_left xs (t ∷ []) u k less) ∙ get_or_from_slice_get (xs ++ t ∷ []) k u u there in
          h k u (slice_get_read xs (length xs) k u refl less (sym is))
      by (inr more) =
          let last : k ≡ length xs = omega (arith, within, more) in
          let is : get_or (xs ++ t ∷ []) k u ≡ get_or (t ∷ []) (k - length xs) u = get_or-append_right xs (t ∷ []) (length xs) k u refl more in
          let none : k - length xs ≡ 0 = omega (arith, last) in
          let same : u ≡ t = sym (get_or_from_slice_get (xs ++ t ∷ []) k u u there) ∙ is ∙ ap (λ (i : ℕ). get_or (t ∷ []) i u) none in
          subst (λ (i : ℕ). IsSubtree placed i u) (sym last) (subst (IsSubtree placed (length xs)) (sym same) here)

  module _ (k : ℕ) (own : Placed) (at : slice_get placed k ≡ Some own) (t : Subtree) (around_own : AreWithin own.bounds t.around) where
    own_has : (P : Placed → Type 0) → P own → (j : ℕ) (x : Placed) → j ≡ k → slice_get placed j ≡ Some x → P x
    own_has P h j x e there = subst P (same_element placed k j own x (sym e) at there) h

    -- one triangle
    pub alone : AreWithin own.rim t.rim → t.first ≡ k → t.corner ≡ Some own.corner → IsSubtree placed k t
    alone rim e is = record {
      first = omega (arith, e);
      around = λ j x low high there. own_has (λ y. AreWithin y.bounds t.around) around_own j x (omega (arith, e, low, high)) there;
      corner = λ corner common j x low high there. own_has (λ y. y.corner ≡ corner) (some_same _ _ (sym is ∙ common)) j x (omega (arith, e, low, high)) there;
      rim = λ j x low high there. own_has (λ y. AreWithin y.rim t.rim) rim j x (omega (arith, e, low, high)) there;
    }

    -- a triangle with the last two subtrees before it
    module _ (first second : Subtree) (some : 0 < k) (of_second : IsSubtree placed (k - 1) second) (before : 0 < second.first) (of_first : IsSubtree placed (second.first - 1) first) (e : t.first ≡ first.first) where
      -- what holds of the triangles of both and of this one holds of all three together
      of_all : (P : Placed → Type 0) → ((j : ℕ) (x : Placed) → first.first ≤ j → j ≤ second.first - 1 → slice_get placed j ≡ Some x → P x)
          → ((j : ℕ) (x : Placed) → second.first ≤ j → j ≤ k - 1 → slice_get placed j ≡ Some x → P x) → P own → (j : ℕ) (x : Placed) → t.first ≤ j → j ≤ k → slice_get placed j ≡ Some x → P x
      of_all P early late last j x low high there = by (cases_lt j second.first) (cases_lt j k)
        where
          from : first.first ≤ j
          from = omega (arith, e, low)

          by : ((j < second.first) ⊎ (second.first ≤ j)) → ((j < k) ⊎ (k ≤ j)) → P x
          by (inl h) other = early j x from (omega (arith, h)) there
          by (inr h) (inl less) = late j x h (omega (arith, less)) there
          by (inr h) (inr more) = own_has P last j x (omega (arith, more, high)) there

      pub joined : AreWithin first.around t.around → AreWithin second.around t.around → AreWithin own.rim t.rim → AreWithin first.rim t.rim → AreWithin second.rim t.rim
          → IfSome t.corner (λ common. (own.corner ≡ common) × (first.corner ≡ Some common) × (second.corner ≡ Some common)) → IsSubtree placed k t
      joined around_first around_second rim_own rim_first rim_second same = record {
        first = omega (arith, e, some, before, of_second.first, of_first.first);
        around = of_all (λ y. AreWithin y.bounds t.around)
            (λ j x low high there. within_both _ _ _ (of_first.around j x low high there) around_first) (λ j x low high there. within_both _ _ _ (of_second.around j x low high there) around_second) around_own;
        corner = λ corner common.
            let each = subst (λ (o : Option ℕ). IfSome o (λ n. (own.corner ≡ n) × (first.corner ≡ Some n) × (second.corner ≡ Some n))) common same in
            of_all (λ y. y.corner ≡ corner) (of_first.corner corner (each.1)) (of_second.corner corner (each.2)) (each.0);
        rim = of_all (λ y. AreWithin y.rim t.rim)
            (λ j x low high there. within_both _ _ _ (of_first.rim j x low high there) rim_first) (λ j x low high there. within_both _ _ _ (of_second.rim j x low high there) rim_second) rim_own;
      }

  -- a subtree that was read
  pub subtree_read : (xs : List Subtree) → AreSubtrees placed xs → (k : ℕ) → k < length xs → (t : Subtree) → t ≡ get_or xs k t → IsSubtree placed k t
  subtree_read xs h k below t is = h k t (slice_get_read xs (length xs) k t refl below is)
