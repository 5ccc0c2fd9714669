-- For all triangles there are some that are left once others went in pairs.
use Rattle.std.proofs.Common.{◌≡◌, inl, inr, ℕ, zero, suc, ◌<◌, List, length, replicate, Option, Some, None, refl, sym, ap, ◌∙◌, subst, arith}
use Rattle.std.specs.Prelude.{slice_get}
use Rattle.std.proofs.lemmas.Option.{none-some, same_Some, slice_get_within}
use Rattle.lattice.specs.declared.soup.Tri.{Tri}
use Rattle.answers_exist.proofs.Decided.{Decided, decided_as, decided_not, decided_three, decided_either, decided_some, decided_equal, by_option}
use Rattle.flip_slivers.specs.Flips.{tri, IsRound}
use Rattle.flip_slivers.specs.Pairs.{AreOpposite, AreOppositeAt, IsWithoutPairs, alone}
use Rattle.flip_slivers.specs.inner.Partners.{ArePartners, IsFreePartner, IsAlone}
use Rattle.flip_slivers.proofs.PairLemmas.{with_pair, pair_at_first, fewer_alone, paired, none_paired, more_alone, without}

-- ---- triangles
same_tri : (t u : Tri) → (t.a ≡ u.a) × (t.b ≡ u.b) × (t.c ≡ u.c) → t ≡ u
same_tri t u (a, b, c) = λ i. record { a = a i; b = b i; c = c i }

pub decided_tri : (t u : Tri) → Decided (t ≡ u)
decided_tri t u =
    decided_as (same_tri t u, λ e. (ap (λ (v : Tri). v.a) e, ap (λ (v : Tri). v.b) e, ap (λ (v : Tri). v.c) e)) (decided_three (decided_equal t.a u.a) (decided_equal t.b u.b) (decided_equal t.c u.c))

decided_round : (t u : Tri) → Decided (IsRound t u)
decided_round t u = decided_either (decided_tri u (tri t.a t.b t.c)) (decided_either (decided_tri u (tri t.b t.c t.a)) (decided_tri u (tri t.c t.a t.b)))

-- the place has no partner yet
decided_none : (o : Option (Option ℕ)) → Decided (o ≡ Some None)
decided_none None = inr (λ e. none-some None e)
decided_none (Some None) = inl refl
decided_none (Some (Some k)) = inr (λ e. none-some k (sym (same_Some (Some k) None e)))

module _ (triangles : List Tri) where
  opposite_as : (i j : ℕ) (t u : Tri) → slice_get triangles i ≡ Some t → slice_get triangles j ≡ Some u → AreOppositeAt triangles i j → AreOpposite t u
  opposite_as i j t u at_i at_j o =
      subst (λ (v : Tri). AreOpposite v u) (same_Some o.first t (sym o.at_first ∙ at_i)) (subst (λ (v : Tri). AreOpposite o.first v) (same_Some o.second u (sym o.at_second ∙ at_j)) o.opposite)

  decided_opposite : (i j : ℕ) → Decided (AreOppositeAt triangles i j)
  decided_opposite i j =
      by_option (slice_get triangles i) (λ none. inr (λ o. none-some o.first (sym none ∙ o.at_first)))
      (λ t at_i. by_option (slice_get triangles j) (λ none. inr (λ o. none-some o.second (sym none ∙ o.at_second)))
      (λ u at_j. decided_as ((λ h. record { first = t; second = u; at_first = at_i; at_second = at_j; opposite = h }), opposite_as i j t u at_i at_j) (decided_round u (tri t.a t.c t.b))))

  -- ---- partners
  module _ (partners : List (Option ℕ)) (i : ℕ) where
    decided_free : (j : ℕ) → Decided (IsFreePartner triangles partners i j)
    decided_free j =
        decided_as ((λ (differ, free, opposite). record { different = differ; free = free; opposite = opposite }), (λ f. (f.different, f.free, f.opposite)))
        (decided_three (decided_not (decided_equal i j)) (decided_none (slice_get partners j)) (decided_opposite i j))

    free_within : (j : ℕ) → IsFreePartner triangles partners i j → j < length triangles
    free_within j f = slice_get_within triangles j f.opposite.second f.opposite.at_second

  -- each of the first n triangles has a partner, or there is none for it
  record ArePaired (n : ℕ) : Type 0 where
    pub partners : List (Option ℕ)
    pub are : ArePartners triangles partners
    pub others : (k : ℕ) → k < n → slice_get partners k ≡ Some None → IsAlone triangles partners k

  next_paired : (n : ℕ) → ArePaired n → ArePaired (suc n)
  next_paired n p = by (decided_none (slice_get p.partners n)) (decided_some (IsFreePartner triangles p.partners n) (decided_free p.partners n) (length triangles) (free_within p.partners n))
    where
      unpaired : (slice_get p.partners n ≡ Some None → IsAlone triangles p.partners n) → ArePaired (suc n)
      unpaired here = record {
        partners = p.partners;
        are = p.are;
        others = λ k below at. more_alone triangles p.partners p.partners n (λ k h. h) p.others here k (omega (arith, below)) at;
      }

      by : Decided (slice_get p.partners n ≡ Some None) → Decided ((j : ℕ) × IsFreePartner triangles p.partners n j) → ArePaired (suc n)
      by (inl free) (inl (j, f)) =
          let new = with_pair p.partners n j in
          let pair : slice_get new n ≡ Some (Some j) = pair_at_first p.partners n j f.different free in
          record {
            partners = new;
            are = paired triangles p.partners n j p.are free f;
            others = λ k below at. more_alone triangles p.partners new n (λ k h. fewer_alone p.partners n j k f.different free f.free h) p.others
                (λ none. absurd (none-some j (sym (same_Some (Some j) None (sym pair ∙ none))))) k (omega (arith, below)) at;
          }
      by (inl free) (inr none) = unpaired (λ at j f. none (j, f))
      by (inr taken) other = unpaired (λ at. absurd (taken at))

  first_paired : (n : ℕ) → ArePaired n
  first_paired zero = record {
    partners = replicate (length triangles) None;
    are = none_paired triangles (replicate (length triangles) None) refl;
    others = λ k below at. absurd (omega (arith, below));
  }
  first_paired (suc n) = next_paired n (first_paired n)

  -- some triangles are left without pairs
  pub some_without_pairs : (left : List Tri) × IsWithoutPairs triangles left
  some_without_pairs = let p = first_paired (length triangles) in (alone triangles p.partners, without triangles (alone triangles p.partners) p.partners p.are (alone_in p) refl)
    where
      alone_in : (p : ArePaired (length triangles)) (i : ℕ) → slice_get p.partners i ≡ Some None → IsAlone triangles p.partners i
      alone_in p i at = let within : i < length p.partners = slice_get_within p.partners i None at in p.others i (subst (λ (n : ℕ). i < n) p.are.for_each within) at
