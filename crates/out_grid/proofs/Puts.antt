-- An outline that is put into a cell: what the cells and the lists over corners then hold, and that the law of a finder stays.
use Rattle.std.proofs.Common.{◌≡◌, ◌≢◌, ◌⊎◌, inl, inr, ℕ, ◌+◌, ◌*◌, ◌<◌, ◌≤◌, List, [], ◌∷◌, ◌++◌, All, AllPairs, Contains, Some, length, get_or, set, slice_get, sym, ap, subst, ◌∙◌, arith}
use Rattle.std.proofs.lemmas.Bool.{cases_eq, cases_lt}
use Rattle.std.proofs.lemmas.Option.{slice_get-get_or, get_or_from_slice_get}
use Rattle.std.proofs.lemmas.List.{get_or-set_same, get_or-set_other, get_or_past}
use Rattle.std.proofs.lemmas.List.Elements.{All-push, Contains-get_or, Contains-append_left}
use Rattle.std.proofs.lemmas.List.Quantifiers.{all_pairs_push}
use Rattle.edge_pick.specs.declared.Picked.{Picked}
use Rattle.cross_find.specs.Sights.{SightState}
use Rattle.span_count.specs.Finders.{IsFinder}
use Rattle.out_grid.specs.Grids.{list_at, cell_at}
use Rattle.out_grid.proofs.CellPuts.{cells_apart}

-- ---- a list that may have got an outline
-- it stands, or it has the outline last, which it did not have
abbrev pub MayHave : ℕ → List ℕ → List ℕ → Type 0
MayHave o old new = (new ≡ old) ⊎ ((new ≡ old ++ o ∷ []) × (Contains old o → ⊥))

more_within : (outlines old new : List ℕ) (o : ℕ) → MayHave o old new → Contains outlines o → All (Contains outlines) old → All (Contains outlines) new
more_within outlines old new o (inl e) c h = subst (All (Contains outlines)) (sym e) h
more_within outlines old new o (inr (e, _)) c h = subst (All (Contains outlines)) (sym e) (All-push (Contains outlines) old o h c)

more_once : (old new : List ℕ) (o : ℕ) → MayHave o old new → AllPairs ◌≢◌ old → AllPairs ◌≢◌ new
more_once old new o (inl e) h = subst (AllPairs ◌≢◌) (sym e) h
more_once old new o (inr (e, other)) h = subst (AllPairs ◌≢◌) (sym e) (all_pairs_push ◌≢◌ old o h (λ i d l f. other (subst (Contains old) f (Contains-get_or old i d l))))

more_has : (old new : List ℕ) (o k : ℕ) → MayHave o old new → Contains old k → Contains new k
more_has old new o k (inl e) h = subst (λ (xs : List ℕ). Contains xs k) (sym e) h
more_has old new o k (inr (e, _)) h = subst (λ (xs : List ℕ). Contains xs k) (sym e) (Contains-append_left old (o ∷ []) k h)

-- the law of a finder stays where outlines are listed more, each once
pub put_law : (x : SightState) (p : Picked) (along over along' over' : ℕ → List ℕ) (near : ℕ → ℕ → Type 0) (o : ℕ) → ((i : ℕ) → along' i ≡ along i) → ((k : ℕ) → MayHave o (over k) (over' k))
    → IsFinder x p along over near → Contains p.outlines.items o → IsFinder x p along' over' near
put_law x p along over along' over' near o same may f c = record {
  outlines = λ i l. subst (All (Contains p.outlines.items)) (sym (same i)) (f.outlines i l);
  once = λ i l. subst (AllPairs ◌≢◌) (sym (same i)) (f.once i l);
  outlines_over = λ k l. more_within p.outlines.items (over k) (over' k) o (may k) c (f.outlines_over k l);
  once_over = λ k l. more_once (over k) (over' k) o (may k) (f.once_over k l);
  changing = λ i k e q drawn listed at_i at_k changes. subst (λ (xs : List ℕ). Contains xs k) (sym (same i)) (f.changing i k e q drawn listed at_i at_k changes);
  passing = λ number k corner q at listed at_k passes. more_has (over number) (over' number) o k (may number) (f.passing number k corner q at listed at_k passes);
  covering = f.covering;
}

-- ---- into one list of several
module _ (lists new : List (List ℕ)) (cell o : ℕ) (inside : cell < length lists) (is : new ≡ set lists cell (get_or lists cell [] ++ o ∷ [])) where
  pub put_here : (k : ℕ) → k ≡ cell → list_at new k ≡ list_at lists k ++ o ∷ []
  put_here k e =
      ap (λ (xs : List (List ℕ)). get_or xs k []) is
      ∙ ap (λ (i : ℕ). get_or (set lists cell (get_or lists cell [] ++ o ∷ [])) i []) e
      ∙ get_or-set_same lists cell (get_or lists cell [] ++ o ∷ []) [] inside
      ∙ ap (λ (i : ℕ). get_or lists i [] ++ o ∷ []) (sym e)

  pub put_elsewhere : (k : ℕ) → (k ≡ cell → ⊥) → list_at new k ≡ list_at lists k
  put_elsewhere k apart = ap (λ (xs : List (List ℕ)). get_or xs k []) is ∙ get_or-set_other lists cell k (get_or lists cell [] ++ o ∷ []) [] apart

  pub put_maybe : (Contains (list_at lists cell) o → ⊥) → (k : ℕ) → MayHave o (list_at lists k) (list_at new k)
  put_maybe other k = by (cases_eq k cell)
    where
      by : (k ≡ cell) ⊎ (k ≡ cell → ⊥) → MayHave o (list_at lists k) (list_at new k)
      by (inl e) = inr (put_here k e, (λ c. other (subst (λ (i : ℕ). Contains (list_at lists i) o) e c)))
      by (inr apart) = inl (put_elsewhere k apart)

  -- another column or another row is another list
  pub put_other_cell : (n column row c r : ℕ) → cell ≡ (column * n) + row → row < n → r < n → (c ≢ column) ⊎ (r ≢ row) → cell_at new n c r ≡ cell_at lists n c r
  put_other_cell n column row c r e low low' differ = put_elsewhere ((c * n) + r) (λ same. by differ (cells_apart n c r column row low' low (same ∙ e)))
    where
      by : (c ≢ column) ⊎ (r ≢ row) → (c ≡ column) × (r ≡ row) → ⊥
      by (inl h) k = h k.0
      by (inr h) k = h k.1

-- ---- the lists over corners
-- that of the corner's cell; none, the number of no cell, stands for the cell of no corner
abbrev pub over_at : List (List ℕ) → List ℕ → ℕ → ℕ → List ℕ
over_at lists cells none corner = list_at lists (get_or cells corner none)

corner_there : (cells : List ℕ) (corner cell none : ℕ) → cell < none → get_or cells corner none ≡ cell → slice_get cells corner ≡ Some cell
corner_there cells corner cell none less e = by (cases_lt corner (length cells))
  where
    by : (corner < length cells) ⊎ (length cells ≤ corner) → slice_get cells corner ≡ Some cell
    by (inl within) = slice_get-get_or cells corner none within ∙ ap Some e
    by (inr past) = let is : get_or cells corner none ≡ none = get_or_past cells corner none past in absurd (omega (arith, is, e, less))

module _ (lists new : List (List ℕ)) (cell o : ℕ) (inside : cell < length lists) (is : new ≡ set lists cell (get_or lists cell [] ++ o ∷ []))
    (cells : List ℕ) (none : ℕ) (past : none ≡ length lists) (none' : ℕ) (long : none' ≡ none) where
  same_none : (corner : ℕ) → over_at new cells none' corner ≡ over_at new cells none corner
  same_none corner = ap (λ (n : ℕ). over_at new cells n corner) long

  pub over_here : (corner : ℕ) → slice_get cells corner ≡ Some cell → over_at new cells none' corner ≡ over_at lists cells none corner ++ o ∷ []
  over_here corner at = same_none corner ∙ put_here lists new cell o inside is (get_or cells corner none) (get_or_from_slice_get cells corner cell none at)

  pub over_elsewhere : (corner : ℕ) → (slice_get cells corner ≡ Some cell → ⊥) → over_at new cells none' corner ≡ over_at lists cells none corner
  over_elsewhere corner other =
      same_none corner ∙ put_elsewhere lists new cell o inside is (get_or cells corner none) (λ e. other (corner_there cells corner cell none (omega (arith, inside, past)) e))

  pub over_maybe : (Contains (list_at lists cell) o → ⊥) → (corner : ℕ) → MayHave o (over_at lists cells none corner) (over_at new cells none' corner)
  over_maybe other corner = subst (MayHave o (over_at lists cells none corner)) (sym (same_none corner)) (put_maybe lists new cell o inside is other (get_or cells corner none))
