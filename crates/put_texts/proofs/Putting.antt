-- Texts that are put one after the other: one, one and then the others, and a warning at the end; and the lines that faults are told by.
use Rattle.std.proofs.Common.{◌≡◌, inl, inr, ℕ, ◌++◌, List, [], ◌∷◌, Option, None, Some, true, refl, sym, ap, subst, ◌∙◌}
use Rattle.std.specs.Prelude.{IfSome}
use Rattle.desk.specs.Files.{Files, DeskState, AppendsFront, OnlyKeeps, OnlySays, OnlyWarns, Rose}
use Rattle.put_texts.specs.Desks.{IsUnwarned, IsWarned, OnlyPuts, OnlyWrites}
use Rattle.part_input.specs.Causes.{Cause, Faults, unwritten, wanting}
use Rattle.put_texts.specs.Faults.{CountsWritesOf, HasNoWriteFaultOf}
use Rattle.put_texts.specs.Order.{Way, Text, nowhere, aloud, under, IsFaultAt, IsFaultBy, IsOfWay, KeepsText, KeepsTextPart, KeepsTexts, SaysText, SaysTextPart, SaysTexts, InOrder, SparesFile, SparesFiles, SparesSaid, SparesWord}
use Rattle.put_texts.specs.Puts.{IsOfTexts, IsPlaced, IsPut, one_text, told_by, told_cause}
use Rattle.put_texts.specs.inner.Parts.{KeepsBy, SaysBy}
use Rattle.put_texts.proofs.Ends.{heard_from}

module _ {F : Type 0} (faults : Faults F) where
  never : (f : F) → None ≡ Some f → ⊥
  never f e = subst (λ (o : Option F). IfSome o (λ g. ⊥)) e tt

  -- ---- faults
  -- what holds of the fault of writing a text and of want of memory holds of each fault of putting it
  by_cause : (P : F → Type 0) (its : F) → P its → (c : Cause) (f : F) → (c ≡ wanting → P f) → IsFaultBy c its f → P f
  by_cause P its w unwritten f m is = subst P (sym is) w
  by_cause P its w wanting f m is = m refl
  by_cause P its w cause f m is = absurd is

  pub by_fault : (P : F → Type 0) (its : F) → P its → ((f : F) → faults.cause f ≡ wanting → P f) → (f : F) → IsFaultAt faults its f → P f
  by_fault P its w m f is = by_cause P its w (faults.cause f) f (m f) is

  pub of_way : (way : Way) (its : F) (f : F) → IsOfWay faults way its f → IsFaultAt faults its f
  of_way nowhere its f is = absurd is
  of_way aloud its f is = is
  of_way (under name) its f is = is

  pub of_one : (way : Way) (its : F) (bytes : List ℕ) (f : F) → IsOfTexts faults (one_text way its bytes) f → IsFaultAt faults its f
  of_one way its bytes f (inl is) = of_way way its f is
  of_one way its bytes f (inr none) = absurd none

  -- ---- texts in order
  module _ {X : Type 0} (whole : Way → List ℕ → X → X → Type 0) (part : Way → Cause → List ℕ → X → X → Type 0) (t : Text F) (rest : List (Text F)) where
    -- the first one fails
    stops_at : (f : F) (old new : X) → InOrder faults whole part (Some f) (t ∷ []) old new → InOrder faults whole part (Some f) (t ∷ rest) old new
    stops_at f old new (inl h) = inl h
    stops_at f old new (inr (between, put, none)) = absurd none

    -- the first one is put, and the others go on
    goes_on : (fault : Option F) (old between new : X) → InOrder faults whole part None (t ∷ []) old between → InOrder faults whole part fault rest between new → InOrder faults whole part fault (t ∷ rest) old new
    goes_on None old between new (put, h, same) after = (put, h, subst (λ (x : X). InOrder faults whole part None rest x new) same after)
    goes_on (Some f) old between new (put, h, same) after = inr (put, h, subst (λ (x : X). InOrder faults whole part (Some f) rest x new) same after)

  -- ---- one text
  -- a text that goes nowhere is put at once
  pub nothing_placed : (its : F) (bytes : List ℕ) (state : DeskState) → IsPlaced faults (one_text nowhere its bytes) None state state
  nothing_placed its bytes state = record {
    of_texts = tt;
    files = λ told. (state.files, refl, refl);
    said = λ told. (state.said, refl, refl);
    spared = (state.files, refl, refl);
    silent = (state.said, refl, refl);
    writes = refl;
    steady = λ steady. tt;
    firm = λ firm is. never faults.memory is;
    changes = refl;
  }

  module _ (its : F) (bytes : List ℕ) (old new : DeskState) where
    -- one that is said
    aloud_faults : (fault : Option F) → IfSome fault (IsFaultAt faults its) → IfSome fault (IsOfTexts faults (one_text aloud its bytes))
    aloud_faults None is = tt
    aloud_faults (Some f) is = inl is

    aloud_files : (fault : Option F) → IfSome fault (IsFaultAt faults its) → new.files ≡ old.files → InOrder faults KeepsText KeepsTextPart fault (one_text aloud its bytes) old.files new.files
    aloud_files None is still = (new.files, still, refl)
    aloud_files (Some f) is still = inl (is, still)

    aloud_said : (fault : Option F) → IfSome fault (IsFaultAt faults its) → SaysBy faults aloud bytes fault old.said new.said → InOrder faults SaysText SaysTextPart fault (one_text aloud its bytes) old.said new.said
    aloud_said None is h = (new.said, h, refl)
    aloud_said (Some f) is h = inl (is, h)

    aloud_spared : (fault : Option F) → IfSome fault (IsFaultAt faults its) → new.files ≡ old.files
        → InOrder faults (λ way bytes. SparesFile way) (λ way cause bytes. SparesFile way) fault (one_text aloud its bytes) old.files new.files
    aloud_spared None is still = (new.files, still, refl)
    aloud_spared (Some f) is still = inl (is, still)

    aloud_silent : (fault : Option F) → IfSome fault (IsFaultAt faults its)
        → InOrder faults (λ way bytes. SparesWord way) (λ way cause bytes. SparesWord way) fault (one_text aloud its bytes) old.said new.said
    aloud_silent None is = (new.said, tt, refl)
    aloud_silent (Some f) is = inl (is, tt)

    -- one that is kept
    under_faults : (name : List ℕ) (fault : Option F) → IfSome fault (IsFaultAt faults its) → IfSome fault (IsOfTexts faults (one_text (under name) its bytes))
    under_faults name None is = tt
    under_faults name (Some f) is = inl is

    under_files : (name : List ℕ) (fault : Option F) → IfSome fault (IsFaultAt faults its) → KeepsBy faults (under name) bytes fault old.files new.files
        → InOrder faults KeepsText KeepsTextPart fault (one_text (under name) its bytes) old.files new.files
    under_files name None is h = (new.files, h, refl)
    under_files name (Some f) is h = inl (is, h)

    under_said : (name : List ℕ) (fault : Option F) → IfSome fault (IsFaultAt faults its) → new.said ≡ old.said → InOrder faults SaysText SaysTextPart fault (one_text (under name) its bytes) old.said new.said
    under_said name None is still = (new.said, still, refl)
    under_said name (Some f) is still = inl (is, still)

    under_spared : (name : List ℕ) (fault : Option F) → IfSome fault (IsFaultAt faults its)
        → InOrder faults (λ way bytes. SparesFile way) (λ way cause bytes. SparesFile way) fault (one_text (under name) its bytes) old.files new.files
    under_spared name None is = (new.files, tt, refl)
    under_spared name (Some f) is = inl (is, tt)

    under_silent : (name : List ℕ) (fault : Option F) → IfSome fault (IsFaultAt faults its) → new.said ≡ old.said
        → InOrder faults (λ way bytes. SparesWord way) (λ way cause bytes. SparesWord way) fault (one_text (under name) its bytes) old.said new.said
    under_silent name None is still = (new.said, still, refl)
    under_silent name (Some f) is still = inl (is, still)

    module _ (fault : Option F) (is : IfSome fault (IsFaultAt faults its)) (writes : CountsWritesOf faults fault old.write_faults new.write_faults) (steady : old.steady ≡ true → HasNoWriteFaultOf faults fault)
        (firm : old.firm ≡ true → fault ≡ Some faults.memory → ⊥) where
      pub said_placed : (old.tells_said ≡ true → SaysBy faults aloud bytes fault old.said new.said) → OnlySays old new → IsPlaced faults (one_text aloud its bytes) fault old new
      said_placed spoken changes = record {
        of_texts = aloud_faults fault is;
        files = λ told. aloud_files fault is (ap (λ (s : DeskState). s.files) changes);
        said = λ told. aloud_said fault is (spoken told);
        spared = aloud_spared fault is (ap (λ (s : DeskState). s.files) changes);
        silent = aloud_silent fault is;
        writes = writes;
        steady = steady;
        firm = firm;
        changes = changes ∙ ap (λ (f : Files). record old { files = f; said = new.said; write_faults = new.write_faults }) (sym (ap (λ (s : DeskState). s.files) changes));
      }

      pub kept_placed : (name : List ℕ) → (old.tells ≡ true → KeepsBy faults (under name) bytes fault old.files new.files) → OnlyKeeps old new → IsPlaced faults (one_text (under name) its bytes) fault old new
      kept_placed name files changes = record {
        of_texts = under_faults name fault is;
        files = λ told. under_files name fault is (files told);
        said = λ told. under_said name fault is (ap (λ (s : DeskState). s.said) changes);
        spared = under_spared name fault is;
        silent = under_silent name fault is (ap (λ (s : DeskState). s.said) changes);
        writes = writes;
        steady = steady;
        firm = firm;
        changes = changes ∙ ap (λ (w : List ℕ). record old { files = new.files; said = w; write_faults = new.write_faults }) (sym (ap (λ (s : DeskState). s.said) changes));
      }

  -- ---- one text, and then others
  module _ (line : F → List ℕ) (t : Text F) (rest : List (Text F)) (old : DeskState) where
    only : (f : F) → IsOfTexts faults (t ∷ []) f → IsOfTexts faults (t ∷ rest) f
    only f (inl h) = inl h
    only f (inr h) = absurd h

    later : (fault : Option F) → IfSome fault (IsOfTexts faults rest) → IfSome fault (IsOfTexts faults (t ∷ rest))
    later None h = tt
    later (Some f) h = inr h

    -- the first one failed
    pub stops : (f : F) (new : DeskState) → IsPut faults line (t ∷ []) (Some f) old new → IsPut faults line (t ∷ rest) (Some f) old new
    stops f new put = record {
      of_texts = only f put.of_texts;
      files = λ told. stops_at KeepsText KeepsTextPart t rest f old.files new.files (put.files told);
      said = λ told. stops_at SaysText SaysTextPart t rest f old.said new.said (put.said told);
      spared = stops_at (λ way bytes. SparesFile way) (λ way cause bytes. SparesFile way) t rest f old.files new.files put.spared;
      silent = stops_at (λ way bytes. SparesWord way) (λ way cause bytes. SparesWord way) t rest f old.said new.said put.silent;
      writes = put.writes;
      steady = put.steady;
      firm = put.firm;
      warned = put.warned;
      whole = put.whole;
      changes = put.changes;
    }

    -- the first one was put, and nothing was warned
    pub follows : (fault : Option F) (between new : DeskState) → IsPut faults line (t ∷ []) None old between → IsUnwarned old between → IsPut faults line rest fault between new → IsPut faults line (t ∷ rest) fault old new
    follows fault between new first still after =
        let same = first.changes in
        record {
          of_texts = later fault after.of_texts;
          files = λ told. goes_on KeepsText KeepsTextPart t rest fault old.files between.files new.files (first.files told) (after.files (ap (λ (s : DeskState). s.tells) same ∙ told));
          said = λ told. goes_on SaysText SaysTextPart t rest fault old.said between.said new.said (first.said told) (after.said (ap (λ (s : DeskState). s.tells_said) same ∙ told));
          spared = goes_on (λ way bytes. SparesFile way) (λ way cause bytes. SparesFile way) t rest fault old.files between.files new.files first.spared after.spared;
          silent = goes_on (λ way bytes. SparesWord way) (λ way cause bytes. SparesWord way) t rest fault old.said between.said new.said first.silent after.silent;
          writes = subst (λ (n : ℕ). CountsWritesOf faults fault n new.write_faults) first.writes after.writes;
          steady = λ steady. after.steady (ap (λ (s : DeskState). s.steady) same ∙ steady);
          firm = λ firm is. after.firm (ap (λ (s : DeskState). s.firm) same ∙ firm) is;
          warned = λ told. subst (λ (w : List ℕ). IfSome fault (λ f. AppendsFront w new.warned (line f))) still.warned (after.warned (ap (λ (s : DeskState). s.tells_warned) same ∙ told));
          whole = λ hears. subst (λ (w : List ℕ). IfSome fault (λ f. new.warned ≡ w ++ line f)) still.warned
              (after.whole (record {
                tells = ap (λ (s : DeskState). s.tells_warned) same ∙ hears.tells;
                firm = ap (λ (s : DeskState). s.firm) same ∙ hears.firm;
                no_fault = λ rose. hears.no_fault (subst (λ (n : ℕ). Rose n new.warn_faults) still.warn_faults rose);
              }));
          changes = subst (λ (s : DeskState). new ≡ record s { files = new.files; said = new.said; warned = new.warned; write_faults = new.write_faults; warn_faults = new.warn_faults }) same after.changes;
        }

  -- ---- lines
  -- texts that are put by the lines of faults are put by other lines that tell each fault of these texts alike
  module _ (line other : F → List ℕ) (texts : List (Text F)) (alike : (f : F) → IsOfTexts faults texts f → line f ≡ other f) (old new : DeskState) where
    front_alike : (fault : Option F) → IfSome fault (IsOfTexts faults texts) → IfSome fault (λ f. AppendsFront old.warned new.warned (line f)) → IfSome fault (λ f. AppendsFront old.warned new.warned (other f))
    front_alike None is h = tt
    front_alike (Some f) is h = subst (AppendsFront old.warned new.warned) (alike f is) h

    whole_alike : (fault : Option F) → IfSome fault (IsOfTexts faults texts) → IfSome fault (λ f. new.warned ≡ old.warned ++ line f) → IfSome fault (λ f. new.warned ≡ old.warned ++ other f)
    whole_alike None is h = tt
    whole_alike (Some f) is h = subst (λ (text : List ℕ). new.warned ≡ old.warned ++ text) (alike f is) h

    pub put_alike : (fault : Option F) → IsPut faults line texts fault old new → IsPut faults other texts fault old new
    put_alike fault put = record {
      of_texts = put.of_texts;
      files = put.files;
      said = put.said;
      spared = put.spared;
      silent = put.silent;
      writes = put.writes;
      steady = put.steady;
      firm = put.firm;
      warned = λ told. front_alike fault put.of_texts (put.warned told);
      whole = λ hears. whole_alike fault put.of_texts (put.whole hears);
      changes = put.changes;
    }

  -- with no fault the lines don't matter
  pub put_unfaulted : (line other : F → List ℕ) (texts : List (Text F)) (old new : DeskState) → IsPut faults line texts None old new → IsPut faults other texts None old new
  put_unfaulted line other texts old new put = record {
    of_texts = tt;
    files = put.files;
    said = put.said;
    spared = put.spared;
    silent = put.silent;
    writes = put.writes;
    steady = put.steady;
    firm = put.firm;
    warned = λ told. tt;
    whole = λ hears. tt;
    changes = put.changes;
  }

  -- one text that is put by two lines is put by the lines of all faults, where its own and that of want of memory are these
  module _ (line : F → List ℕ) (its : F) (is_unwritten : faults.cause its ≡ unwritten) (memory text : List ℕ) (wanted : (f : F) → faults.cause f ≡ wanting → memory ≡ line f) (written : text ≡ line its) where
    pub told_alike : (f : F) → IsFaultAt faults its f → told_by faults memory text f ≡ line f
    told_alike f is = by_fault (λ (f : F). told_by faults memory text f ≡ line f) its (ap (told_cause memory text) is_unwritten ∙ written) (λ f want. ap (told_cause memory text) want ∙ wanted f want) f is

    pub put_by_lines : (way : Way) (bytes : List ℕ) (fault : Option F) (old new : DeskState) → IsPut faults (told_by faults memory text) (one_text way its bytes) fault old new → IsPut faults line (one_text way its bytes) fault old new
    put_by_lines way bytes fault old new put =
        put_alike (told_by faults memory text) line (one_text way its bytes) (λ f is. told_alike f (of_one way its bytes f is)) old new fault put

  -- ---- a warning behind texts that are put
  pub whole_change : (old new : DeskState) → OnlyWarns old new → OnlyWrites old new
  whole_change old new warns =
      let files = sym (ap (λ (s : DeskState). s.files) warns) in
      let said = sym (ap (λ (s : DeskState). s.said) warns) in
      let writes = sym (ap (λ (s : DeskState). s.write_faults) warns) in
      warns
      ∙ ap (λ (f : Files). record old { files = f; warned = new.warned; warn_faults = new.warn_faults }) files
      ∙ ap (λ (w : List ℕ). record old { files = new.files; said = w; warned = new.warned; warn_faults = new.warn_faults }) said
      ∙ ap (λ (n : ℕ). record old { files = new.files; said = new.said; warned = new.warned; write_faults = n; warn_faults = new.warn_faults }) writes

  pub noted : (line : F → List ℕ) (texts : List (Text F)) (old between new : DeskState) → IsPut faults line texts None old between → OnlyWarns between new → IsPut faults line texts None old new
  noted line texts old between new put warns =
      let files = sym (ap (λ (s : DeskState). s.files) warns) in
      let said = sym (ap (λ (s : DeskState). s.said) warns) in
      record {
        of_texts = tt;
        files = λ told. subst (λ (f : Files). InOrder faults KeepsText KeepsTextPart None texts old.files f) files (put.files told);
        said = λ told. subst (λ (w : List ℕ). InOrder faults SaysText SaysTextPart None texts old.said w) said (put.said told);
        spared = subst (λ (f : Files). InOrder faults (λ way bytes. SparesFile way) (λ way cause bytes. SparesFile way) None texts old.files f) files put.spared;
        silent = subst (λ (w : List ℕ). InOrder faults (λ way bytes. SparesWord way) (λ way cause bytes. SparesWord way) None texts old.said w) said put.silent;
        writes = ap (λ (s : DeskState). s.write_faults) warns ∙ put.writes;
        steady = put.steady;
        firm = put.firm;
        warned = λ told. tt;
        whole = λ hears. tt;
        changes = subst (λ (s : DeskState). new ≡ record s { files = new.files; said = new.said; warned = new.warned; write_faults = new.write_faults; warn_faults = new.warn_faults }) put.changes (whole_change between new warns);
      }

  -- ---- texts that are placed, and the warning of their fault
  pub placed_unwarned : (old new : DeskState) → OnlyPuts old new → IsUnwarned old new
  placed_unwarned old new changes = record { warned = ap (λ (s : DeskState). s.warned) changes; warn_faults = ap (λ (s : DeskState). s.warn_faults) changes }

  -- with no fault they are put, whatever the lines are
  pub placed_put : (line : F → List ℕ) (texts : List (Text F)) (old new : DeskState) → IsPlaced faults texts None old new → IsPut faults line texts None old new
  placed_put line texts old new placed =
      let still = placed_unwarned old new placed.changes in
      record {
        of_texts = tt;
        files = placed.files;
        said = placed.said;
        spared = placed.spared;
        silent = placed.silent;
        writes = placed.writes;
        steady = placed.steady;
        firm = placed.firm;
        warned = λ told. tt;
        whole = λ hears. tt;
        changes = placed.changes
            ∙ ap (λ (w : List ℕ). record old { files = new.files; said = new.said; warned = w; write_faults = new.write_faults }) (sym still.warned)
            ∙ ap (λ (n : ℕ). record old { files = new.files; said = new.said; warned = new.warned; write_faults = new.write_faults; warn_faults = n }) (sym still.warn_faults);
      }

  -- and with one they are put once it is warned of by its line
  pub warned_put : (line : F → List ℕ) (texts : List (Text F)) (f : F) (old between new : DeskState) → IsPlaced faults texts (Some f) old between → IsWarned (line f) between new → IsPut faults line texts (Some f) old new
  warned_put line texts f old between new placed warns =
      let still = placed_unwarned old between placed.changes in
      let files = sym (ap (λ (s : DeskState). s.files) warns.changes) in
      let said = sym (ap (λ (s : DeskState). s.said) warns.changes) in
      record {
        of_texts = placed.of_texts;
        files = λ told. subst (λ (files : Files). KeepsTexts faults (Some f) texts old.files files) files (placed.files told);
        said = λ told. subst (λ (text : List ℕ). SaysTexts faults (Some f) texts old.said text) said (placed.said told);
        spared = subst (λ (files : Files). SparesFiles faults (Some f) texts old.files files) files placed.spared;
        silent = subst (λ (text : List ℕ). SparesSaid faults (Some f) texts old.said text) said placed.silent;
        writes = subst (λ (n : ℕ). CountsWritesOf faults (Some f) old.write_faults n) (sym (ap (λ (s : DeskState). s.write_faults) warns.changes)) placed.writes;
        steady = placed.steady;
        firm = placed.firm;
        warned = λ told. subst (λ (w : List ℕ). AppendsFront w new.warned (line f)) still.warned (warns.front (ap (λ (s : DeskState). s.tells_warned) placed.changes ∙ told));
        whole = λ hears. subst (λ (w : List ℕ). new.warned ≡ w ++ line f) still.warned
            (warns.whole (heard_from old between new (ap (λ (s : DeskState). s.tells_warned) placed.changes) (ap (λ (s : DeskState). s.firm) placed.changes) still.warn_faults hears));
        changes = whole_change between new warns.changes
            ∙ ap (λ (s : DeskState). record s { files = new.files; said = new.said; warned = new.warned; write_faults = new.write_faults; warn_faults = new.warn_faults }) placed.changes;
      }
