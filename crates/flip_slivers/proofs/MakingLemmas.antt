-- What a flip that is made leaves.
use Rattle.std.proofs.Common.{◌≡◌, ◌≢◌, ℕ, ◌+◌, ◌<◌, List, length, get_or, set, Some, refl, arith, sym, ap, ◌∙◌, subst, inl, inr, ◌⊎◌, ⊎_elim, Vec, Global, Bool, add-one}
use Rattle.std.specs.Prelude.{slice_get, Contains, Option, IfSome}
use Rattle.std.specs.List.{All}
use Rattle.std.proofs.lemmas.Bool.{cases_eq}
use Rattle.std.proofs.lemmas.List.{length-map, length-set, map-set}
use Rattle.std.proofs.lemmas.List.Elements.{All-set, Contains-get_or}
use Rattle.std.proofs.lemmas.Option.{slice_get_within, slice_get-get_or, same_Some, get_or_from_slice_get}
use Rattle.lattice.specs.declared.points.Corner.{Corner}
use Rattle.lattice.specs.declared.soup.Tri.{Tri}
use Rattle.lattice.specs.Triangles.{IsBelow}
use Rattle.flip_slivers.specs.declared.bounded.Bounded.{Bounded}
use Rattle.flip_slivers.specs.Flips.{tri, IsRound, HasSide, IsSideOf, IsFlip, AreFlips, more, first_of, second_of}
use Rattle.flip_slivers.proofs.Changed.{set_same, set_other}
use Rattle.flip_slivers.specs.declared.choices.Flip.{Flip}
use Rattle.flip_slivers.specs.declared.measures.Measure.{Measure}
use Rattle.flip_slivers.specs.inner.Lists.{HasTriAt, IsLess, IsListed, IsMore, lists_of, triangles_of}
use Rattle.flip_slivers.specs.inner.Measures.{AreMeasures, IsMeasure}
use Rattle.flip_slivers.specs.inner.Choices.{AreIdle, IsChoice, IsFuller, IsLaid, IsQueue, IsReady, Waits, flipped}
use Rattle.flip_slivers.proofs.ChoiceLemmas.{round_below, below_at}
use Rattle.flip_slivers.proofs.ListLemmas.{relisted, tri_at}
use Rattle.flip_slivers.proofs.Potential.{potential, flip_falls}

-- ---- flips in a row
pub choice_flip : (corners : List Corner) (most : ℕ) (surface : List Bounded) (f : Flip) → IsChoice corners most surface f → IsFlip corners most surface (flipped surface f)
choice_flip corners most surface f x = record {
  i = f.sliver;
  j = f.neighbour;
  different = x.different;
  sliver = x.sliver;
  neighbour = x.neighbour;
  at_sliver = x.at_sliver;
  at_neighbour = x.at_neighbour;
  a = f.a;
  b = f.b;
  c = f.c;
  d = f.d;
  area = x.area;
  side = x.side;
  is_sliver = x.is_sliver;
  no_side = x.no_side;
  no_side_back = x.no_side_back;
  rises = x.rises;
  rise = x.rise;
  is_rise = x.is_rise;
  bound = f.bound;
  is_bound = x.new_bound.is_bound;
  within = x.new_bound.within;
  changed = refl;
}

pub one_more : (corners : List Corner) (most n : ℕ) (first old new : List Bounded) (f : Flip) → AreFlips corners most n first old → IsChoice corners most old f → new ≡ flipped old f → AreFlips corners most (n + 1) first new
one_more corners most n first old new f flips x e =
    let P : List Bounded → Type 0 = λ s. AreFlips corners most (n + 1) first s in
    let Q : ℕ → Type 0 = λ k. AreFlips corners most k first (flipped old f) in
    subst P (sym e) (subst Q (sym (add-one n)) (more n first old (flipped old f) flips (choice_flip corners most old f x)))

flipped_length : (surface : List Bounded) (f : Flip) → length (flipped surface f) ≡ length surface
flipped_length surface f =
    length-set (set surface f.sliver (record { tri = first_of f.a f.b f.c f.d; bound = f.bound })) f.neighbour (record { tri = second_of f.a f.b f.c f.d; bound = f.bound })
    ∙ length-set surface f.sliver (record { tri = first_of f.a f.b f.c f.d; bound = f.bound })

-- ---- another triangle at a place
measures_put : (corners : List Corner) (triangles : List Tri) (measures : List Measure) (place : ℕ) (t : Tri) (m : Measure) → AreMeasures corners triangles measures → IsMeasure corners t m
    → AreMeasures corners (set triangles place t) (set measures place m)
measures_put corners triangles measures place t m are here = record {
  for_each = length-set measures place m ∙ are.for_each ∙ sym (length-set triangles place t);
  each = λ i u k at there. elim (cases_eq i place) [
    | inl e ↦
        let within : place < length (set triangles place t) = let P : ℕ → Type 0 = λ n. n < length (set triangles place t) in subst P e (slice_get_within (set triangles place t) i u at) in
        let inside : place < length triangles = omega (arith, length-set triangles place t) in
        let also : place < length measures = omega (arith, are.for_each) in
        let first : t ≡ u = same_Some t u (sym (set_same triangles place (get_or triangles place t) t (slice_get-get_or triangles place t inside)) ∙ ap (slice_get (set triangles place t)) (sym e) ∙ at) in
        let second : m ≡ k = same_Some m k (sym (set_same measures place (get_or measures place m) m (slice_get-get_or measures place m also)) ∙ ap (slice_get (set measures place m)) (sym e) ∙ there) in
        let P : Tri → Type 0 = λ v. IsMeasure corners v m in
        let Q : Measure → Type 0 = λ n. IsMeasure corners u n in
        subst Q second (subst P first here)
    | inr d ↦ are.each i u k (sym (set_other triangles place i t d) ∙ at) (sym (set_other measures place i m d) ∙ there)
  ];
}

pub put_laid : (corners : List Corner) (surface : List Bounded) (measures : List Measure) (lists without_it with_it : List (Vec ℕ Global)) (place : ℕ) (old new : Bounded) (m : Measure)
    → IsLaid corners surface measures lists → slice_get surface place ≡ Some old → IsLess (lists_of lists) (lists_of without_it) place → IsMore (lists_of without_it) (lists_of with_it) new.tri place
    → IsMeasure corners new.tri m → IsBelow (length corners) new.tri → IsLaid corners (set surface place new) (set measures place m) with_it
put_laid corners surface measures lists without_it with_it place old new m laid at less_than more_than here below =
    let same : triangles_of (set surface place new) ≡ set (triangles_of surface) place new.tri = map-set (λ (x : Bounded). x.tri) surface place new in
    let L : List Tri → Type 0 = λ ts. IsListed ts (lists_of with_it) in
    let M : List Tri → Type 0 = λ ts. AreMeasures corners ts (set measures place m) in
    record {
      count = sym (length-map with_it vector) ∙ more_than.long ∙ less_than.long ∙ length-map lists vector ∙ laid.count;
      listed = subst L (sym same) (relisted (triangles_of surface) (lists_of lists) (lists_of without_it) (lists_of with_it) place old.tri new.tri (tri_at surface place old at) laid.listed less_than more_than);
      measured = subst M (sym same) (measures_put corners (triangles_of surface) measures place new.tri m laid.measured here);
      in_range = All-set (λ (x : Bounded). IsBelow (length corners) x.tri) surface place new below laid.in_range;
    }
  where
    vector : Vec ℕ Global → List ℕ
    vector list = list.items

-- ---- the corners of the two new triangles
pub first_below : (corners : List Corner) (most : ℕ) (surface : List Bounded) (f : Flip) → All (λ x. IsBelow (length corners) x.tri) surface → IsChoice corners most surface f → IsBelow (length corners) (first_of f.a f.b f.c f.d)
first_below corners most surface f all x =
    let sliver = round_below (length corners) x.sliver.tri (tri f.a f.b f.c) x.is_sliver.turned (below_at (length corners) surface f.sliver x.sliver all x.at_sliver) in
    let neighbour = round_below (length corners) x.neighbour.tri (tri f.b f.a f.d) x.is_sliver.beside (below_at (length corners) surface f.neighbour x.neighbour all x.at_neighbour) in
    record { a = sliver.a; b = neighbour.c; c = sliver.c }

pub second_below : (corners : List Corner) (most : ℕ) (surface : List Bounded) (f : Flip) → All (λ x. IsBelow (length corners) x.tri) surface → IsChoice corners most surface f → IsBelow (length corners) (second_of f.a f.b f.c f.d)
second_below corners most surface f all x =
    let sliver = round_below (length corners) x.sliver.tri (tri f.a f.b f.c) x.is_sliver.turned (below_at (length corners) surface f.sliver x.sliver all x.at_sliver) in
    let neighbour = round_below (length corners) x.neighbour.tri (tri f.b f.a f.d) x.is_sliver.beside (below_at (length corners) surface f.neighbour x.neighbour all x.at_neighbour) in
    record { a = neighbour.c; b = sliver.b; c = sliver.c }

-- ---- what a flip leaves where it was
abbrev first_new : Flip → Bounded
first_new f = record { tri = first_of f.a f.b f.c f.d; bound = f.bound }

abbrev second_new : Flip → Bounded
second_new f = record { tri = second_of f.a f.b f.c f.d; bound = f.bound }

pub flipped_elsewhere : (surface : List Bounded) (f : Flip) (i : ℕ) → i ≢ f.sliver → i ≢ f.neighbour → slice_get (flipped surface f) i ≡ slice_get surface i
flipped_elsewhere surface f i first second = set_other (set surface f.sliver (first_new f)) f.neighbour i (second_new f) second ∙ set_other surface f.sliver i (first_new f) first

flipped_sliver : (corners : List Corner) (most : ℕ) (surface : List Bounded) (f : Flip) → IsChoice corners most surface f → slice_get (flipped surface f) f.sliver ≡ Some (first_new f)
flipped_sliver corners most surface f x =
    set_other (set surface f.sliver (first_new f)) f.neighbour f.sliver (second_new f) x.different ∙ set_same surface f.sliver x.sliver (first_new f) x.at_sliver

flipped_neighbour : (corners : List Corner) (most : ℕ) (surface : List Bounded) (f : Flip) → IsChoice corners most surface f → slice_get (flipped surface f) f.neighbour ≡ Some (second_new f)
flipped_neighbour corners most surface f x =
    set_same (set surface f.sliver (first_new f)) f.neighbour x.neighbour (second_new f) (set_other surface f.sliver f.neighbour (first_new f) (λ e. x.different (sym e)) ∙ x.at_neighbour)

-- the triangle at a place has the side
side_of_place : (surface : List Bounded) (i m n : ℕ) (x : Bounded) → slice_get surface i ≡ Some x → HasSide x.tri m n → IsSideOf surface m n
side_of_place surface i m n x at has =
    let within : i < length surface = slice_get_within surface i x at in
    let C : Bounded → Type 0 = λ y. Contains surface y in
    (x, subst C (get_or_from_slice_get surface i x x at) (Contains-get_or surface i x within), has)

round_side : (t u : Tri) (m n : ℕ) → IsRound t u → HasSide t m n → HasSide u m n
round_side t u m n round has = let P : Tri → Type 0 = λ v. HasSide v m n in ⊎_elim
    (λ e. subst P (sym e) has)
    (⊎_elim (λ e. subst P (sym e) (second has)) (λ e. subst P (sym e) (third has))) round
  where
    second : HasSide t m n → HasSide (tri t.b t.c t.a) m n
    second = ⊎_elim (λ h. inr (inr h)) (⊎_elim (λ h. inl h) (λ h. inr (inl h)))

    third : HasSide t m n → HasSide (tri t.c t.a t.b) m n
    third = ⊎_elim (λ h. inr (inl h)) (⊎_elim (λ h. inr (inr h)) (λ h. inl h))

-- each side but the one that was exchanged is one still
pub side_kept : (corners : List Corner) (most : ℕ) (surface : List Bounded) (f : Flip) (m n : ℕ) → IsChoice corners most surface f → IsSideOf surface m n
    → ¬ ((m ≡ f.a) × (n ≡ f.b)) → ¬ ((m ≡ f.b) × (n ≡ f.a)) → IsSideOf (flipped surface f) m n
side_kept corners most surface f m n x (y, (i, below, is), has) not_there not_back =
    let at : slice_get surface i ≡ Some y = slice_get-get_or surface i y below ∙ ap Some is in
    elim (cases_eq i f.sliver) [
      | inl e ↦
          let P : Bounded → Type 0 = λ z. HasSide z.tri m n in
          of_sliver (round_side x.sliver.tri (tri f.a f.b f.c) m n x.is_sliver.turned (subst P (same_Some y x.sliver (sym at ∙ ap (slice_get surface) e ∙ x.at_sliver)) has))
      | inr first ↦ elim (cases_eq i f.neighbour) [
        | inl e ↦
            let P : Bounded → Type 0 = λ z. HasSide z.tri m n in
            of_neighbour (round_side x.neighbour.tri (tri f.b f.a f.d) m n x.is_sliver.beside (subst P (same_Some y x.neighbour (sym at ∙ ap (slice_get surface) e ∙ x.at_neighbour)) has))
        | inr second ↦ side_of_place (flipped surface f) i m n y (flipped_elsewhere surface f i first second ∙ at) has
      ]
    ]
  where
    in_first : HasSide (first_of f.a f.b f.c f.d) m n → IsSideOf (flipped surface f) m n
    in_first h = side_of_place (flipped surface f) f.sliver m n (first_new f) (flipped_sliver corners most surface f x) h

    in_second : HasSide (second_of f.a f.b f.c f.d) m n → IsSideOf (flipped surface f) m n
    in_second h = side_of_place (flipped surface f) f.neighbour m n (second_new f) (flipped_neighbour corners most surface f x) h

    of_sliver : HasSide (tri f.a f.b f.c) m n → IsSideOf (flipped surface f) m n
    of_sliver = ⊎_elim (λ h. absurd (not_there (sym h.0, sym h.1))) (⊎_elim (λ h. in_second (inr (inl h))) (λ h. in_first (inr (inr h))))

    of_neighbour : HasSide (tri f.b f.a f.d) m n → IsSideOf (flipped surface f) m n
    of_neighbour = ⊎_elim (λ h. absurd (not_back (sym h.0, sym h.1))) (⊎_elim (λ h. in_first (inl h)) (λ h. in_second (inl h)))

-- ---- which flips may be made then
pair_cases : (m n p q : ℕ) → ((m ≡ p) × (n ≡ q)) ⊎ (¬ ((m ≡ p) × (n ≡ q)))
pair_cases m n p q = elim (cases_eq m p) [
  | inl e ↦ elim (cases_eq n q) [
    | inl f ↦ inl (e, f)
    | inr d ↦ inr (λ h. d h.1)
  ]
  | inr d ↦ inr (λ h. d h.0)
]

-- one of triangles that aren't the two, and that the side in its place didn't keep from it, might be made before
was_choice : (corners : List Corner) (most : ℕ) (surface : List Bounded) (made f : Flip) → IsChoice corners most surface made → IsChoice corners most (flipped surface made) f
    → slice_get (flipped surface made) f.sliver ≡ slice_get surface f.sliver → slice_get (flipped surface made) f.neighbour ≡ slice_get surface f.neighbour
    → ¬ ((f.c ≡ made.a) × (f.d ≡ made.b)) → ¬ ((f.c ≡ made.b) × (f.d ≡ made.a)) → IsChoice corners most surface f
was_choice corners most surface made f before x same also not_there not_back = record {
  different = x.different;
  sliver = x.sliver;
  neighbour = x.neighbour;
  at_sliver = sym same ∙ x.at_sliver;
  at_neighbour = sym also ∙ x.at_neighbour;
  area = x.area;
  side = x.side;
  is_sliver = x.is_sliver;
  no_side = λ s. x.no_side (side_kept corners most surface made f.c f.d before s not_there not_back);
  no_side_back = λ s. x.no_side_back (side_kept corners most surface made f.d f.c before s (λ h. not_back (h.1, h.0)) (λ h. not_there (h.1, h.0)));
  rises = x.rises;
  rise = x.rise;
  is_rise = x.is_rise;
  new_bound = x.new_bound;
}

pub still_idle : (corners : List Corner) (most : ℕ) (surface new : List Bounded) (made : Flip) (waits after : List Bool) → IsChoice corners most surface made → new ≡ flipped surface made → AreIdle corners most surface waits
    → ((i : ℕ) → Waits waits i → Waits after i) → Waits after made.sliver → Waits after made.neighbour
    → ((i j m n : ℕ) → ¬ IsSideOf new made.a made.b → ¬ IsSideOf new made.b made.a → HasTriAt new i m n made.a → HasTriAt new j n m made.b → Waits after i ⊎ Waits after j)
    → AreIdle corners most new after
still_idle corners most surface new made waits after before is idle kept first second woken f x =
    elim (cases_eq f.sliver made.sliver) [
      | inl e ↦ inl (subst W (sym e) first)
      | inr a ↦ elim (cases_eq f.sliver made.neighbour) [
        | inl e ↦ inl (subst W (sym e) second)
        | inr b ↦ elim (cases_eq f.neighbour made.sliver) [
          | inl e ↦ inr (subst W (sym e) first)
          | inr c ↦ elim (cases_eq f.neighbour made.neighbour) [
            | inl e ↦ inr (subst W (sym e) second)
            | inr d ↦ elsewhere a b c d
          ]
        ]
      ]
    ]
  where
    W : ℕ → Type 0
    W i = Waits after i

    C : List Bounded → Type 0
    C s = IsChoice corners most s f

    elsewhere : f.sliver ≢ made.sliver → f.sliver ≢ made.neighbour → f.neighbour ≢ made.sliver → f.neighbour ≢ made.neighbour → Waits after f.sliver ⊎ Waits after f.neighbour
    elsewhere a b c d = elim (pair_cases f.c f.d made.a made.b) [
      | inl h ↦
          woken f.sliver f.neighbour f.a f.b
          (λ s. x.no_side (side_as f.c f.d made.a made.b (sym h.0) (sym h.1) s)) (λ s. x.no_side_back (side_as f.d f.c made.b made.a (sym h.1) (sym h.0) s))
          (x.sliver, x.at_sliver, third_as x.sliver.tri f.a f.b f.c made.a h.0 x.is_sliver.turned) (x.neighbour, x.at_neighbour, third_as x.neighbour.tri f.b f.a f.d made.b h.1 x.is_sliver.beside)
      | inr not_there ↦ elim (pair_cases f.c f.d made.b made.a) [
        | inl h ↦ ⊎_elim (λ w. inr w) (λ w. inl w)
            (woken f.neighbour f.sliver f.b f.a
            (λ s. x.no_side_back (side_as f.d f.c made.a made.b (sym h.1) (sym h.0) s)) (λ s. x.no_side (side_as f.c f.d made.b made.a (sym h.0) (sym h.1) s))
            (x.neighbour, x.at_neighbour, third_as x.neighbour.tri f.b f.a f.d made.a h.1 x.is_sliver.beside) (x.sliver, x.at_sliver, third_as x.sliver.tri f.a f.b f.c made.b h.0 x.is_sliver.turned))
        | inr not_back ↦ ⊎_elim (λ w. inl (kept f.sliver w)) (λ w. inr (kept f.neighbour w))
            (idle f (was_choice corners most surface made f before (subst C is x) (flipped_elsewhere surface made f.sliver a b) (flipped_elsewhere surface made f.neighbour c d) not_there not_back))
      ]
    ]
      where
        side_as : (m n p q : ℕ) → p ≡ m → q ≡ n → IsSideOf new p q → IsSideOf new m n
        side_as m n p q e g s = let P : ℕ → Type 0 = λ k. IsSideOf new k q in let Q : ℕ → Type 0 = λ k. IsSideOf new m k in subst Q g (subst P e s)

        third_as : (t : Tri) (m n p q : ℕ) → p ≡ q → IsRound t (tri m n p) → IsRound t (tri m n q)
        third_as t m n p q e r = let P : ℕ → Type 0 = λ k. IsRound t (tri m n k) in subst P e r

-- ---- a step
pub choice_read : (corners : List Corner) (most : ℕ) (seen surface : List Bounded) (found : Option Flip) (f : Flip) → seen ≡ surface → IfSome found (IsChoice corners most seen) → found ≡ Some f → IsChoice corners most surface f
choice_read corners most seen surface found f read some is =
    let O : Option Flip → Type 0 = λ o. IfSome o (IsChoice corners most seen) in
    let P : List Bounded → Type 0 = λ s. IsChoice corners most s f in
    subst P read (subst O is some)

-- a triangle has a mark
pub marked : (surface seen : List Bounded) (i : ℕ) (x : Bounded) (waits : List Bool) (places : List ℕ) → slice_get surface i ≡ Some x → seen ≡ surface → IsQueue (length seen) waits places → i < length waits
marked surface seen i x waits places at read q = let within : i < length surface = slice_get_within surface i x at in let same : length seen ≡ length surface = ap length read in omega (arith, q.for_each)

pub same_count : (surface new seen : List Bounded) (f : Flip) → new ≡ flipped surface f → seen ≡ surface → length seen ≡ length new
same_count surface new seen f made read = ap length read ∙ sym (flipped_length surface f) ∙ ap length (sym made)

pub step_ready : (corners : List Corner) (most : ℕ) (surface new seen read : List Bounded) (measures : List Measure) (lists : List (Vec ℕ Global)) (f : Flip) (w first second last : List Bool) (p q r s : List ℕ)
    → IsChoice corners most surface f → new ≡ flipped surface f → IsLaid corners new measures lists → seen ≡ surface → read ≡ new → IsQueue (length seen) w p → AreIdle corners most seen w
    → IsFuller w first p q → Waits first f.neighbour → IsFuller first second q r → Waits second f.sliver → IsFuller second last r s
    → ((i j m n : ℕ) → ¬ IsSideOf read f.a f.b → ¬ IsSideOf read f.b f.a → HasTriAt read i m n f.a → HasTriAt read j n m f.b → Waits last i ⊎ Waits last j) → IsReady corners most new measures lists last s
step_ready corners most surface new seen read measures lists f w first second last p q r s choice made laid seen_is read_is queue idle one neighbour two sliver three woken = record {
  laid = laid;
  queue = let P : ℕ → Type 0 = λ n. IsQueue n last s in subst P (same_count surface new seen f made seen_is) (three.queue (length seen) (two.queue (length seen) (one.queue (length seen) queue)));
  idle =
      let I : List Bounded → Type 0 = λ t. AreIdle corners most t w in
      let R : List Bounded → Type 0 = λ t. (i j m n : ℕ) → ¬ IsSideOf t f.a f.b → ¬ IsSideOf t f.b f.a → HasTriAt t i m n f.a → HasTriAt t j n m f.b → Waits last i ⊎ Waits last j in
      still_idle corners most surface new f w last choice made (subst I seen_is idle) (λ i h. three.kept i (two.kept i (one.kept i h))) (three.kept f.sliver sliver) (three.kept f.neighbour (two.kept f.neighbour neighbour))
      (subst R read_is woken);
}

pub made_falls : (corners : List Corner) (most : ℕ) (surface new : List Bounded) (f : Flip) → IsChoice corners most surface f → new ≡ flipped surface f → potential corners most new < potential corners most surface
made_falls corners most surface new f choice made =
    let P : List Bounded → Type 0 = λ s. potential corners most s < potential corners most surface in
    subst P (sym made) (flip_falls corners most surface (flipped surface f) (choice_flip corners most surface f choice))
