use Rattle.std.proofs.Common.{◌≡◌, ◌≢◌, ◌≤◌, ◌^◌, rules, arith, FitsSigned, of_z, Option, Some, None}
use Rattle.std.specs.Prelude.{ℤ, pos, IfSome, unsigned_abs}
use Rattle.std.specs.Int.{w128}
use Rattle.std.proofs.lemmas.Int.{ints, to_z-of_z}
use Rattle.hatch_fill.specs.declared.places.HatchPlace.{HatchPlace}
use Rattle.hatch_fill.specs.inner.Places.{IsPlaceAt}
use Rattle.hatch_fill.specs.inner.Meetings.{IsMeeting}
use Rattle.hatch_fill.proofs.Meets.{meeting_there, meeting_nowhere}
use Rattle.hatch_fill.proofs.meetings.meeting.Goals as goal

not_zero : (m : ℤ) → unsigned_abs m ≤ 2 ^ 45 → (of_z w128 m ≡ 0 → ⊥) → m ≢ pos 0
not_zero m size h e = h (omega (arith, ints, e))

if_some : (o : Option HatchPlace) (P Q : HatchPlace → Type 0) → ((t : HatchPlace) → P t → Q t) → IfSome o P → IfSome o Q
if_some None P Q holds h = h
if_some (Some t) P Q holds h = holds t h

pub returns-clause-some : goal.returns-clause-some
returns-clause-some c =
    let l = c.args.line.now in
    let d_fits = c.ranges.diagonal in
    let s_fits : FitsSigned w128 c.slope-slope.result = search rules in
    let l_fits : FitsSigned w128 c.level.result = search rules in
    let level = simp to_z-of_z at c.level.ensures.value in
    let value = simp to_z-of_z at c.ratio.ensures.value in
    let some = simp to_z-of_z at c.new.ensures.some in
    if_some c.new.result (IsPlaceAt c.args.diagonal c.ratio.result) (IsMeeting l c.args.diagonal)
    (λ t h. meeting_there l c.args.diagonal c.slope-slope.result c.level.result c.ratio.result c.slope-slope.ensures.value (not_zero c.slope-slope.result c.slope-slope.ensures.size c.if-slope-eq0.false) level value t h) some

pub returns-clause-none : goal.returns-clause-none
returns-clause-none c e =
    let l = c.args.line.now in
    let d_fits = c.ranges.diagonal in
    let s_fits : FitsSigned w128 c.slope-slope.result = search rules in
    let l_fits : FitsSigned w128 c.level.result = search rules in
    let level = simp to_z-of_z at c.level.ensures.value in
    let value = simp to_z-of_z at c.ratio.ensures.value in
    let none = simp to_z-of_z at (c.new.ensures.none e) in
    meeting_nowhere l c.args.diagonal c.slope-slope.result c.level.result c.ratio.result c.slope-slope.ensures.value (not_zero c.slope-slope.result c.slope-slope.ensures.size c.if-slope-eq0.false) level value c.ratio.ensures.short none
