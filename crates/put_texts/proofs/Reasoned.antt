-- Texts that are put, and faults that are told, by lines with reasons.
use Rattle.std.proofs.Common.{◌≡◌, ◌⊎◌, inl, inr, ℕ, ◌++◌, List, [], ◌∷◌, Option, None, Some, true, refl, sym, ap, subst, ◌∙◌}
use Rattle.std.specs.Prelude.{IfSome}
use Rattle.std.proofs.lemmas.Option.{same_Some}
use Rattle.desk.specs.Files.{DeskState, AppendsFront, OnlyReads, OnlyWarns}
use Rattle.part_input.specs.Causes.{Faults}
use Rattle.put_texts.specs.Desks.{HearsAll, IsUnwarned, IsWarned}
use Rattle.put_texts.specs.Order.{Text, Way}
use Rattle.put_texts.specs.Puts.{IsPlaced, one_text}
use Rattle.put_texts.specs.Reasoned.{IsLineWith, IsPutWith, IsWarnedWith}
use Rattle.put_texts.specs.Runs.{WarnsBy, WarnsWholeBy}
use Rattle.put_texts.proofs.Ends.{heard_later}
use Rattle.put_texts.proofs.Putting.{follows, noted, placed_put, put_unfaulted, stops, warned_put}

module _ {F R : Type 0} (may : Option R → Type 0) (unknown : may None) (faults : Faults F) (line : Option R → F → List ℕ) where
  -- texts that are placed are put, once it is warned of their fault
  pub placed_with : (texts : List (Text F)) (old new : DeskState) → IsPlaced faults texts None old new → IsPutWith may faults line texts None old new
  placed_with texts old new placed = (None, unknown, placed_put faults (line None) texts old new placed)

  pub warned_with : (texts : List (Text F)) (f : F) (old between new : DeskState) (known : Option R) → may known → IsPlaced faults texts (Some f) old between
      → IsWarnedWith known (λ reason. line reason f) between new → IsPutWith may faults line texts (Some f) old new
  warned_with texts f old between new known is placed (inl warned) = (known, is, warned_put faults (line known) texts f old between new placed warned)
  warned_with texts f old between new known is placed (inr warned) = (None, unknown, warned_put faults (line None) texts f old between new placed warned)

  -- and a warning at the end
  pub noted_with : (texts : List (Text F)) (old between new : DeskState) → IsPutWith may faults line texts None old between → OnlyWarns between new → IsPutWith may faults line texts None old new
  noted_with texts old between new (reason, is, put) warns = (reason, is, noted faults (line reason) texts old between new put warns)

  -- a text that goes this way is put, and then the others
  module _ (its : F) (way its_way : Way) (bytes its_bytes : List ℕ) (same_way : way ≡ its_way) (same_bytes : bytes ≡ its_bytes) (old between : DeskState) where
    abbrev its_text : Text F
    its_text = record { way = its_way; unwritten = its; bytes = its_bytes }

    pub of_its_way : (fault : Option F) → IsPutWith may faults line (one_text way its bytes) fault old between → IsPutWith may faults line (its_text ∷ []) fault old between
    of_its_way fault put =
        subst (λ (w : Way). IsPutWith may faults line (one_text w its its_bytes) fault old between) same_way (subst (λ (b : List ℕ). IsPutWith may faults line (one_text way its b) fault old between) same_bytes put)

    pub put_then : IsPutWith may faults line (one_text way its bytes) None old between → IsUnwarned old between → (rest : List (Text F)) (fault : Option F) (new : DeskState) → IsPutWith may faults line rest fault between new
        → IsPutWith may faults line (its_text ∷ rest) fault old new
    put_then put still rest fault new (reason, is, after) =
        let (other, _, first) = of_its_way None put in
        (reason, is, follows faults (line reason) its_text rest old fault between new (put_unfaulted faults (line other) (line reason) (its_text ∷ []) old between first) still after)

    -- or it couldn't be put
    pub put_stops : (f : F) → IsPutWith may faults line (one_text way its bytes) (Some f) old between → (rest : List (Text F)) → IsPutWith may faults line (its_text ∷ rest) (Some f) old between
    put_stops f put rest =
        let (reason, is, first) = of_its_way (Some f) put in
        (reason, is, stops faults (line reason) its_text rest old f between first)

-- ---- a refusal
-- it is warned by a line that tells the fault
module _ {F T R : Type 0} (may : Option R → Type 0) (unknown : may None) (is_told : DeskState → F → T → Type 0) (line : T → Option R → F → List ℕ) (old between new : DeskState) (same : OnlyReads old between) where
  abbrev Tells : DeskState → F → List ℕ → Type 0
  Tells = IsLineWith may is_told line

  abbrev Warns : F → Type 0
  Warns f = (old.tells_warned ≡ true → WarnsBy Tells old new f) × (HearsAll old new → WarnsWholeBy Tells old new f)

  by_line : (f : F) (told : T) (reason : Option R) → may reason → is_told old f told → IsWarned (line told reason f) between new → Warns f
  by_line f told reason is so warned =
      let tells : Tells old f (line told reason f) = (told, reason, is, so, refl) in
      let still : between.warned ≡ old.warned = ap (λ (s : DeskState). s.warned) same in (
        λ heard. (line told reason f, tells, subst (λ (w : List ℕ). AppendsFront w new.warned (line told reason f)) still (warned.front (ap (λ (s : DeskState). s.tells_warned) same ∙ heard))),
        λ hears. (line told reason f, tells, subst (λ (w : List ℕ). new.warned ≡ w ++ line told reason f) still (warned.whole (heard_later old between new same hears))),
      )

  module _ (known : Option R) (is : may known) where
    warns_with : (f : F) (told : T) → is_told old f told → IsWarnedWith known (λ reason. line told reason f) between new → Warns f
    warns_with f told so (inl warned) = by_line f told known is so warned
    warns_with f told so (inr warned) = by_line f told None unknown so warned

    -- that of the fault, with what is told beside it, or that of want of memory, beside which nothing is
    module _ (e memory : F) (told nothing : T) (so : is_told old e told) (short : is_told old memory nothing) (alike : (reason : Option R) → line told reason memory ≡ line nothing reason memory) where
      of_memory : IsWarnedWith known (λ reason. line told reason memory) between new → IsWarnedWith known (λ reason. line nothing reason memory) between new
      of_memory (inl warned) = inl (subst (λ (text : List ℕ). IsWarned text between new) (alike known) warned)
      of_memory (inr warned) = inr (subst (λ (text : List ℕ). IsWarned text between new) (alike None) warned)

      refused : (f : F) → (f ≡ e) ⊎ (f ≡ memory) → IsWarnedWith known (λ reason. line told reason f) between new → Warns f
      refused f (inl same_fault) warned = warns_with f told (subst (λ (g : F). is_told old g told) (sym same_fault) so) warned
      refused f (inr same_fault) warned =
          subst Warns (sym same_fault) (warns_with memory nothing short (of_memory (subst (λ (g : F). IsWarnedWith known (λ reason. line told reason g) between new) same_fault warned)))

      some_fault : (f : F) → (Some f ≡ Some e) ⊎ (Some f ≡ Some memory) → (f ≡ e) ⊎ (f ≡ memory)
      some_fault f (inl is) = inl (same_Some f e is)
      some_fault f (inr is) = inr (same_Some f memory is)

      pub warns_refused : (fault : Option F) → (fault ≡ Some e) ⊎ (fault ≡ Some memory) → IfSome fault (λ f. IsWarnedWith known (λ reason. line told reason f) between new)
          → (old.tells_warned ≡ true → IfSome fault (WarnsBy Tells old new)) × (HearsAll old new → IfSome fault (WarnsWholeBy Tells old new))
      warns_refused None which warned = (λ heard. tt, λ hears. tt)
      warns_refused (Some f) which warned = refused f (some_fault f which) warned
