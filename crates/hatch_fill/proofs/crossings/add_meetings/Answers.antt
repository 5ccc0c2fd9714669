use Rattle.std.proofs.Common.{◌≡◌, ◌⊎◌, inl, inr, ℕ, ◌≤◌, ◌^◌, List, [], ◌∷◌, ◌++◌, refl, sym, ap, subst, ◌∙◌, rules, arith, FitsSigned, to_z, of_z, Option, Some, None}
use Rattle.std.specs.Prelude.{ℤ, pos, ◌+ℤ◌, ◌*ℤ◌, ◌<ℤ◌, ◌≤ℤ◌, unsigned_abs, IfSome, IsNone}
use Rattle.std.specs.Int.{w64}
use Rattle.std.proofs.lemmas.Int.{ints, to_z-of_z}
use Rattle.std.proofs.lemmas.List.{append-nil, append_assoc}
use Rattle.lattice.specs.declared.lines.Line.{Line}
use Rattle.hatch_fill.specs.declared.places.HatchPlace.{HatchPlace}
use Rattle.hatch_fill.specs.inner.Meetings.{IsMeeting, HasMeeting}
use Rattle.hatch_fill.specs.inner.Crossings.{AreMeetings}
use Rattle.hatch_fill.specs.inner.Parts.{AreAdded}
use Rattle.cut_plane.proofs.Tested.{less_of, most_of}
use Rattle.hatch_fill.proofs.MeetingLists.{meetings_none, meetings_same, meetings_more, meetings_ended}
use Rattle.hatch_fill.proofs.crossings.add_meetings.Goals as goal
use Rattle.hatch_fill.proofs.crossings.add_meetings.Goals.{in-Some+in_ok-push, in_default}

-- what is kept of the numbers before this one
abbrev IsKept : Line → ℕ → ℤ → ℤ → List HatchPlace → ℤ → List HatchPlace → Type 0
IsKept line spacing from to old number new = (from ≤ℤ number) × ((number ≤ℤ to) ⊎ (number ≡ from)) × AreAdded (AreMeetings line spacing from number) old new

kept_first : (line : Line) (spacing : ℕ) (from to : ℤ) (old : List HatchPlace) → 1 ≤ spacing → IsKept line spacing from to old from old
kept_first line spacing from to old some = (same from, inr refl, ([], sym (append-nil old), meetings_none line spacing some from))
  where
    same : (x : ℤ) → x ≤ℤ x
    same x = omega (arith, ints)

module _ (line : Line) (spacing : ℕ) (some : 1 ≤ spacing) (from to : ℤ) (old : List HatchPlace) (number : ℤ) (new : List HatchPlace) (kept : IsKept line spacing from to old number new) where
  later : (a b : ℤ) → a ≤ℤ b → a ≤ℤ (b +ℤ pos 1)
  later a b h = omega (arith, ints)

  next : (a b : ℤ) → a <ℤ b → (a +ℤ pos 1) ≤ℤ b
  next a b h = omega (arith, ints)

  kept_same : number <ℤ to → ¬ HasMeeting line (number *ℤ pos spacing) → IsKept line spacing from to old (number +ℤ pos 1) new
  kept_same less none = (
    later from number kept.0,
    inl (next number to less),
    (kept.2.0, kept.2.1, meetings_same line spacing some from number kept.0 kept.2.0 kept.2.2 none),
  )

  kept_more : number <ℤ to → (t : HatchPlace) → IsMeeting line (number *ℤ pos spacing) t → (more : List HatchPlace) → more ≡ new ++ t ∷ [] → IsKept line spacing from to old (number +ℤ pos 1) more
  kept_more less t is more e = (
    later from number kept.0,
    inl (next number to less),
    (
      kept.2.0 ++ t ∷ [],
      e ∙ ap (λ (xs : List HatchPlace). xs ++ t ∷ []) kept.2.1 ∙ append_assoc old kept.2.0 (t ∷ []),
      meetings_more line spacing some from number kept.0 kept.2.0 kept.2.2 t is,
    ),
  )

  kept_last : to ≤ℤ number → AreAdded (AreMeetings line spacing from to) old new
  kept_last past = (kept.2.0, kept.2.1, meetings_ended line spacing some from number kept.0 kept.2.0 kept.2.2 to kept.1 past)

-- a number that is between
between_small : (from to n : ℤ) → unsigned_abs from ≤ 2 ^ 31 → unsigned_abs to ≤ 2 ^ 31 → from ≤ℤ n → n <ℤ to → unsigned_abs n ≤ 2 ^ 31
between_small from to n h k l m = omega (arith, ints)

step : (to n : ℤ) → unsigned_abs to ≤ 2 ^ 31 → n <ℤ to → unsigned_abs n ≤ 2 ^ 31 → to_z w64 (of_z w64 (n +ℤ pos 1)) ≡ n +ℤ pos 1
step to n h l k = omega (arith, ints)

pub diagonal_at-requires : goal.diagonal_at-requires
diagonal_at-requires c =
    let f = c.ranges.from in
    let g = c.ranges.to in
    let kept = simp to_z-of_z at c.loop-number.invariant in
    between_small c.args.from c.args.to (to_z w64 c.loop-number.number-bits) c.requires.first c.requires.second kept.0 (simp to_z-of_z at (less_of (to_z w64 c.loop-number.number-bits) (to_z w64 (of_z w64 c.args.to)) c.loop-number-test.true))

pub loop-number-init : goal.loop-number-init
loop-number-init c =
    let f = c.ranges.from in
    let g = c.ranges.to in
    simp to_z-of_z (kept_first c.args.line.now c.args.spacing c.args.from c.args.to c.args.places.now.items c.requires.some)

if_there : (o : Option HatchPlace) (P : HatchPlace → Type 0) (t : HatchPlace) → o ≡ Some t → IfSome o P → P t
if_there o P t e h = subst (λ (x : Option HatchPlace). IfSome x P) e h

none_there : (o : Option HatchPlace) → o ≡ None → IsNone o
none_there o e = subst (λ (x : Option HatchPlace). IsNone x) (sym e) refl

pub loop-number-preserved : goal.loop-number-preserved
loop-number-preserved c =
    let f = c.ranges.from in
    let g = c.ranges.to in
    let line = c.args.line.now in
    let spacing = c.args.spacing in
    let old = c.args.places.now.items in
    let n = to_z w64 c.loop-number.number-bits in
    let kept = simp to_z-of_z at c.loop-number.invariant in
    let less = simp to_z-of_z at (less_of n (to_z w64 (of_z w64 c.args.to)) c.loop-number-test.true) in
    let small = between_small c.args.from c.args.to n c.requires.first c.requires.second kept.0 less in
    let d_fits : FitsSigned w64 c.diagonal_at.result = search rules in
    let some = simp to_z-of_z at c.meeting.ensures.some in
    let none = simp to_z-of_z at c.meeting.ensures.none in
    let is = c.diagonal_at.ensures in
    simp to_z-of_z (rw (step c.args.to n c.requires.second less small) (elim c.match-meeting.branch [
      | in-Some+in_ok-push w ↦
          kept_more line spacing c.requires.some c.args.from c.args.to old n c.loop-number.places.items kept less w.in-Some.place
          (subst (λ (z : ℤ). IsMeeting line z w.in-Some.place) is (if_there c.meeting.result (IsMeeting line c.diagonal_at.result) w.in-Some.place w.in-Some.is some))
          c.match-meeting.places.items (ap (λ v. v.items) w.places-is ∙ w.in_ok-push.ensures.items)
      | in_default w ↦
          subst (λ (xs : List HatchPlace). IsKept line spacing c.args.from c.args.to old (n +ℤ pos 1) xs) (sym (ap (λ v. v.items) w.places-is))
          (kept_same line spacing c.requires.some c.args.from c.args.to old n c.loop-number.places.items kept less (subst (λ (z : ℤ). ¬ HasMeeting line z) is (none (none_there c.meeting.result w.in_default.is))))
    ]))

pub returns : goal.returns
returns c =
    let f = c.ranges.from in
    let g = c.ranges.to in
    let n = to_z w64 c.loop-number.number-bits in
    kept_last c.args.line.now c.args.spacing c.requires.some c.args.from c.args.to c.args.places.now.items n c.loop-number.places.items (simp to_z-of_z at c.loop-number.invariant)
    (simp to_z-of_z at (most_of n (to_z w64 (of_z w64 c.args.to)) c.loop-number-test.false))
