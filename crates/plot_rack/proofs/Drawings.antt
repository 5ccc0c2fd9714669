-- Plotters that have drawn, one after the other.
use Rattle.std.proofs.Common.{◌≡◌, ◌<◌, ℕ, ℤ, zero, suc, ◌+◌, List, [], ◌∷◌, ◌++◌, length, take, drop, set, get_or, map, Some, refl, ap, sym, ◌∙◌, add-one, arith}
use Rattle.std.specs.Prelude.{slice_get, Result, Ok, Err, OnErr}
use Rattle.std.proofs.lemmas.List.{length-set, append-nil, drop_all, take_all}
use Rattle.sheet_plan.specs.declared.sheet.Stroke.{Stroke}
use Rattle.plot_rack.specs.Plotters.{Plot, drawn, IsPartlyDrawn, AreDrawn, AreDrawnInPart}

-- what holds whatever the answer is
pub on_err : {T E : Type 0} {P : Type 0} (r : Result T E) → P → OnErr r P
on_err (Ok x) p = tt
on_err (Err e) p = p

-- an element is written in a list whose later ones are those of an older list
record IsWritten {B : Type 0} (i : ℕ) (old new : List B) (x b : B) : Type 0 where
  before : take i (set new i b) ≡ take i new
  was : slice_get old i ≡ Some x
  now : slice_get (set new i b) i ≡ Some b
  later : drop (suc i) (set new i b) ≡ drop (suc i) old

written : {B : Type 0} (i : ℕ) (old new : List B) (x b : B) → length new ≡ length old → i < length new → drop i new ≡ drop i old → x ≡ get_or new i x → IsWritten i old new x b
written i old [] x b same within rest is = absurd (omega arith)
written i [] (y ∷ ys) x b same within rest is = absurd (omega arith)
written zero (o ∷ os) (y ∷ ys) x b same within rest is =
    let head : o ≡ y = cc in
    let tail : ys ≡ os = cc in
    record { before = refl; was = ap Some (head ∙ sym is); now = refl; later = tail }
written (suc i) (o ∷ os) (y ∷ ys) x b same within rest is =
    let more = written i os ys x b (omega arith) (omega arith) rest is in
    record { before = (λ j. y ∷ more.before j); was = more.was; now = more.now; later = more.later }

-- a list of the same length is put back whole
pub put_back : {B : Type 0} (n : ℕ) (old new : List B) → length new ≡ length old → n ≡ length old → take n (new ++ drop (length new) old) ≡ new
put_back n old new same size =
    rw (drop_all (length new) old (omega arith), append-nil new) (take_all n new (omega arith))

module _ {B : Type 0} (plot_of : B → Plot) (page : ℤ × ℤ) (strokes : List Stroke) where
  next : (i : ℕ) (old new : List B) (x b : B) → AreDrawn plot_of page strokes (take i old) (take i new) → slice_get old i ≡ Some x → slice_get new i ≡ Some b
      → plot_of b ≡ drawn page strokes (plot_of x) → AreDrawn plot_of page strokes (take (suc i) old) (take (suc i) new)
  next i [] new x b done was now one = absurd (cc)
  next i (o ∷ os) [] x b done was now one = absurd (cc)
  next zero (o ∷ os) (y ∷ ys) x b done was now one =
      let old_is : o ≡ x = cc in
      let new_is : y ≡ b = cc in
      (λ j. (ap plot_of new_is ∙ one ∙ ap (λ (c : B). drawn page strokes (plot_of c)) (sym old_is)) j ∷ [])
  next (suc i) (o ∷ os) (y ∷ ys) x b done was now one =
      let first : plot_of y ≡ drawn page strokes (plot_of o) = cc in
      let rest : map plot_of (take i ys) ≡ map (λ (c : B). drawn page strokes (plot_of c)) (take i os) = cc in
      (λ j. first j ∷ next i os ys x b rest was now one j)

  -- one more has drawn it
  pub drawn_more : (i : ℕ) (old new : List B) (x b : B) → length new ≡ length old → i < length new → AreDrawn plot_of page strokes (take i old) (take i new)
      → drop i new ≡ drop i old → x ≡ get_or new i x → plot_of b ≡ drawn page strokes (plot_of (get_or new i x))
      → AreDrawn plot_of page strokes (take (i + 1) old) (take (i + 1) (set new i b)) × (drop (i + 1) (set new i b) ≡ drop (i + 1) old)
  drawn_more i old new x b same within done rest is one =
      let w = written i old new x b same within rest is in
      let drew = one ∙ ap (λ (c : B). drawn page strokes (plot_of c)) (sym is) in
      rw add-one (next i old (set new i b) x b (ap (map plot_of) w.before ∙ done) w.was w.now drew, w.later)

  -- one has drawn a part
  pub drawn_in_part : (i : ℕ) (old new : List B) (x b : B) → length new ≡ length old → i < length new → AreDrawn plot_of page strokes (take i old) (take i new)
      → drop i new ≡ drop i old → x ≡ get_or new i x → IsPartlyDrawn page strokes (plot_of (get_or new i x)) (plot_of b)
      → AreDrawnInPart plot_of page strokes old (set new i b)
  drawn_in_part i old new x b same within done rest is part =
      let w = written i old new x b same within rest is in
      record {
        place = i;
        within = omega (arith);
        count = length-set new i b ∙ same;
        before = ap (map plot_of) w.before ∙ done;
        here = λ c d was now.
            let old_is : x ≡ c = cc in
            let new_is : b ≡ d = cc in
            rw (← old_is, ← new_is) (rw (← is) at part);
        later = rw add-one w.later;
      }
