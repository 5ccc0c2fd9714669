-- Facets one after the other: what stands behind those that are read.
use Rattle.std.proofs.Common.{◌≡◌, ℕ, suc, ◌+◌, nat_lt, Bool, true, false, List, [], ◌∷◌, ◌++◌, length, filter, Ok, Err, refl, sym, ap, subst, length-append}
use Rattle.std.proofs.lemmas.List.{append_assoc, append-nil}
use Rattle.lattice.specs.Triple.{Triple}
use Rattle.lex_lines.specs.declared.token.Token.{Token}
use Rattle.dec_text.specs.declared.number.Length.{Length}
use Rattle.weld.specs.declared.fault.PartFault.{PartFault}
use Rattle.part_text.specs.Steps.{Reading, After, StepGives}
use Rattle.part_text.specs.Vertices.{SkipLine}
use Rattle.stl_reader.proofs.Checks.{skipped}
use Rattle.stl_reader.specs.Stl.{FacetOrEnd, AnotherSolid, Facet, Facets}

-- three corners
abbrev pub Three : Type 0
Three = Triple × Triple × Triple

-- values in front of those that are read
abbrev pub behind : List Three → Reading (List Three) → Reading (List Three)
behind done (Ok (xs, left)) = Ok (done ++ xs, left)
behind done (Err fault) = Err fault

behind_both : (done more : List Three) (r : Reading (List Three)) → behind done (behind more r) ≡ behind (done ++ more) r
behind_both done more (Ok (xs, left)) = ap (λ (ys : List Three). Ok (ys, left)) (sym (append_assoc done more xs))
behind_both done more (Err fault) = refl

gives_behind : (f : Three) (r : Reading (List Three)) → After (λ others. StepGives (f ∷ others)) r (behind (f ∷ []) r)
gives_behind f (Ok (xs, left)) = refl
gives_behind f (Err fault) = refl

module _ (decimals : ℕ) (unit : Length) (bytes : List ℕ) where
  -- the facets in some number of turns
  abbrev pub Read : ℕ → List Token → Reading (List Three) → Type 0
  Read before tokens r = (turns : ℕ) × Facets decimals unit bytes turns before tokens r

  -- these facets are read: whatever follows them stands behind them
  pub record IsDone (start left : List Token) (done : List Three) : Type 0 where
    pub goes_on : (r : Reading (List Three)) → Read (length done) left r → Read 0 start (behind done r)

  -- behind a word that tells whether a facet follows
  module _ (start left mid : List Token) (done : List Three) (facet : Bool) (line : ℕ) (h : IsDone start left done) (word : FacetOrEnd bytes left (Ok ((facet, line), mid))) where
    said : (b : Bool) → facet ≡ b → FacetOrEnd bytes left (Ok ((b, line), mid))
    said b e = subst (λ (b : Bool). FacetOrEnd bytes left (Ok ((b, line), mid))) e word

    module _ (is : facet ≡ true) (before : ℕ) (same : before ≡ length done) where
      here : (r : Reading Three) → Facet decimals unit bytes before line mid r → Facet decimals unit bytes (length done) line mid r
      here r p = subst (λ (n : ℕ). Facet decimals unit bytes n line mid r) same p

      pub facet_done : (f : Three) (rest : List Token) → Facet decimals unit bytes before line mid (Ok (f, rest)) → IsDone start rest (done ++ f ∷ [])
      facet_done f rest p = record { goes_on = λ r q. subst (Read 0 start) (behind_both done (f ∷ []) r) (h.goes_on (behind (f ∷ []) r) (more r q)) }
        where
          more : (r : Reading (List Three)) → Read (length (done ++ f ∷ [])) rest r → Read (length done) left (behind (f ∷ []) r)
          more r (turns, q) =
              let others : Facets decimals unit bytes turns (length done + 1) rest r = subst (λ (n : ℕ). Facets decimals unit bytes turns n rest r) (length-append done (f ∷ [])) q in
              (suc turns, (Ok ((true, line), mid), said true is, (Ok (f, rest), here (Ok (f, rest)) p, (r, others, gives_behind f r))))

      pub facet_fails : (fault : PartFault) → Facet decimals unit bytes before line mid (Err fault) → Read 0 start (Err fault)
      facet_fails fault p = h.goes_on (Err fault) (1, (Ok ((true, line), mid), said true is, (Err fault, here (Err fault) p, refl)))

    module _ (is : facet ≡ false) (now : ℕ) (next rest : List Token) (same : now ≡ line) (passed : next ≡ filter (λ t. nat_lt now t.line) mid) where
      skip : SkipLine line mid (Ok (tt, next))
      skip = skipped line now mid next same passed

      module _ (solid : Bool) (p : AnotherSolid bytes next (Ok (solid, rest))) where
        follows : (b : Bool) → solid ≡ b → AnotherSolid bytes next (Ok (b, rest))
        follows b e = subst (λ (b : Bool). AnotherSolid bytes next (Ok (b, rest))) e p

        pub solid_done : solid ≡ true → IsDone start rest done
        solid_done e = record { goes_on = λ r q. h.goes_on r (suc q.0, (Ok ((false, line), mid), said false is, (Ok (tt, next), skip, (Ok (true, rest), follows true e, q.1)))) }

        pub all_done : solid ≡ false → Read 0 start (Ok (done, rest))
        all_done e =
            subst (λ (xs : List Three). Read 0 start (Ok (xs, rest))) (append-nil done)
            (h.goes_on (Ok ([], rest)) (1, (Ok ((false, line), mid), said false is, (Ok (tt, next), skip, (Ok (false, rest), follows false e, refl)))))

    pub solid_fails : facet ≡ false → (now : ℕ) (next : List Token) → now ≡ line → next ≡ filter (λ t. nat_lt now t.line) mid → (fault : PartFault) → AnotherSolid bytes next (Err fault) → Read 0 start (Err fault)
    solid_fails is now next same passed fault p =
        h.goes_on (Err fault) (1, (Ok ((false, line), mid), said false is, (Ok (tt, next), skipped line now mid next same passed, (Err fault, p, refl))))

  pub word_fails : (start left : List Token) (done : List Three) (fault : PartFault) → IsDone start left done → FacetOrEnd bytes left (Err fault) → Read 0 start (Err fault)
  word_fails start left done fault h word = h.goes_on (Err fault) (1, (Err fault, word, refl))
