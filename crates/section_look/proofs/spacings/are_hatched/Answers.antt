use Rattle.std.proofs.Common.{List, Bool, take, length, subst, arith, ◌≤◌, ◌<◌}
use Rattle.std.specs.List.{AllZip}
use Rattle.std.proofs.lemmas.List.{take_all}
use Rattle.lattice.specs.Cuts.{plane_of}
use Rattle.section_look.specs.Spacings.{IsHatched}
use Rattle.section_look.specs.declared.regions.Region.{Region}
use Rattle.std.proofs.Common.{ap, ◌∙◌, Some}
use Rattle.section_look.proofs.Marks.{match_true, match_false, at_number, at_flag, zip_flags}
use Rattle.section_look.proofs.spacings.are_hatched.Goals as goal

pub returns-then-not-hatched : goal.returns-then-not-hatched
returns-then-not-hatched c =
    let k = c.loop-k.k in
    let r = c.index-regions-k.result in
    let within : k < length c.args.marks.now = omega (arith, c.loop-k-test.true, c.requires.marked) in
    let h = match_false c.in_ok-hatched.hatched _ _ c.in_ok-hatched.ensures c.if-not-hatched.true in
    record { number = k; region = r; at = at_number c.args.regions.now k r c.loop-k-test.true c.index-regions-k.is; thick = at_flag c.args.marks.now k within ∙ ap (λ (b : Bool). Some b) h.0; fewer = h.1 }

pub loop-k-preserved : goal.loop-k-preserved
loop-k-preserved c =
    let k = c.loop-k.k in
    let within : k < length c.args.marks.now = omega (arith, c.loop-k-test.true, c.requires.marked) in
    zip_flags (IsHatched (plane_of c.args.cut.now) c.args.spacing) c.args.regions.now c.args.marks.now k c.index-regions-k.result c.loop-k-test.true within c.index-regions-k.is c.loop-k.invariant
    (match_true c.in_ok-hatched.hatched _ _ c.in_ok-hatched.ensures c.if-not-hatched.false)

pub returns : goal.returns
returns c =
    let R = IsHatched (plane_of c.args.cut.now) c.args.spacing in
    let all : length c.args.marks.now ≤ c.loop-k.k = omega (arith, c.loop-k-test.false, c.requires.marked) in
    subst (λ (rs : List Region). AllZip R rs c.args.marks.now) (take_all c.loop-k.k c.args.regions.now c.loop-k-test.false)
    (subst (λ (ms : List Bool). AllZip R (take c.loop-k.k c.args.regions.now) ms) (take_all c.loop-k.k c.args.marks.now all) c.loop-k.invariant)
