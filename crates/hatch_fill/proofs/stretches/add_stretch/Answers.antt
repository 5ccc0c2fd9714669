use Rattle.std.proofs.Common.{◌≡◌, ℕ, List, [], ◌++◌, Option, refl, sym, ap, subst, ◌∙◌}
use Rattle.std.specs.Prelude.{IsNone, IfSome}
use Rattle.std.proofs.lemmas.List.{append-nil, append_assoc}
use Rattle.std.proofs.lemmas.Result.{IfOk-weaker}
use Rattle.intervals.specs.declared.interval.Interval.{Interval}
use Rattle.lattice.specs.Triple.{Triple}
use Rattle.lattice.specs.Points.{of_dir}
use Rattle.cut_plane.specs.declared.segments.Segment.{Segment}
use Rattle.hatch_fill.specs.declared.places.HatchPlace.{HatchPlace}
use Rattle.hatch_fill.specs.declared.stretches.Ends.{Ends}
use Rattle.hatch_fill.specs.inner.Parts.{AreAdded}
use Rattle.hatch_fill.specs.inner.Stretches.{between, AreEndsAlong, AreStretches}
use Rattle.hatch_fill.proofs.Along.{no_stretches, both_ways}
use Rattle.hatch_fill.proofs.stretches.add_stretch.Goals as goal

added : (d : Triple) (spacing : ℕ) (x : Segment) (a b : HatchPlace) (old mid new : List (Interval HatchPlace)) → AreEndsAlong d spacing x a b → mid ≡ old ++ between a b → new ≡ mid ++ between b a → AreAdded (AreStretches d spacing x) old new
added d spacing x a b old mid new ends e f = (between a b ++ between b a, f ∙ ap (λ (xs : List (Interval HatchPlace)). xs ++ between b a) e ∙ append_assoc old (between a b) (between b a), both_ways d spacing x a b ends)

pub returns-in_ok-add-in-Some : goal.returns-in_ok-add-in-Some
returns-in_ok-add-in-Some c =
    let d = of_dir c.args.d.now in
    let ends = c.in-Some.ends in
    let are = subst (λ (o : Option Ends). IfSome o (λ e. AreEndsAlong d c.args.spacing c.args.segment.now e.a e.b)) c.in-Some.is c.ends_along.ensures.some in
    IfOk-weaker c.add-in-Some.result _ _
    (λ u h. added d c.args.spacing c.args.segment.now ends.a ends.b c.args.intervals.now.items c.add.new.intervals.items c.add-in-Some.new.intervals.items are c.in_ok-add-in-Some.ensures h)
    c.add-in-Some.ensures

pub returns-in-None : goal.returns-in-None
returns-in-None c =
    let d = of_dir c.args.d.now in
    ([], sym (append-nil c.args.intervals.now.items), no_stretches d c.args.spacing c.args.segment.now (c.ends_along.ensures.none (subst (λ (o : Option Ends). IsNone o) (sym c.in-None.is) refl)))
