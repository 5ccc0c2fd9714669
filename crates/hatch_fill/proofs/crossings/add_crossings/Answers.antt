use Rattle.std.proofs.Common.{ℕ, List, ◌++◌, ap, ◌∙◌, subst, rules, FitsSigned}
use Rattle.std.specs.Prelude.{ℤ}
use Rattle.std.specs.Int.{w64}
use Rattle.std.proofs.lemmas.Int.{to_z-of_z}
use Rattle.std.proofs.lemmas.List.{append_assoc}
use Rattle.std.proofs.lemmas.Result.{IfOk-weaker}
use Rattle.exact_frac.specs.declared.Frac.{Frac}
use Rattle.lattice.specs.Triple.{Triple}
use Rattle.lattice.specs.Points.{of_dir, of_spot, IsRatio}
use Rattle.cut_plane.specs.declared.segments.Segment.{Segment}
use Rattle.cut_plane.specs.Diagonals.{diagonal_of}
use Rattle.hatch_fill.specs.declared.places.HatchPlace.{HatchPlace}
use Rattle.hatch_fill.specs.inner.Numbers.{IsFirstNumber}
use Rattle.hatch_fill.specs.inner.Crossings.{AreMeetings, AreCrossings}
use Rattle.hatch_fill.specs.inner.Parts.{AreAdded}
use Rattle.hatch_fill.proofs.crossings.add_crossings.Goals as goal

first_of : (f : Frac) (n m : ℤ) (spacing : ℕ) (number : ℤ) → IsRatio f n m → IsFirstNumber f.num f.den spacing number → IsFirstNumber n m spacing number
first_of f n m spacing number h first = subst (λ (k : ℤ). IsFirstNumber k m spacing number) h.num (subst (λ (l : ℤ). IsFirstNumber f.num l spacing number) h.den first)

both : (d : Triple) (spacing : ℕ) (x : Segment) (a b : ℤ) (old mid new : List HatchPlace) → IsFirstNumber (diagonal_of d (of_spot x.a)) x.a.w spacing a → IsFirstNumber (diagonal_of d (of_spot x.b)) x.b.w spacing b
    → AreAdded (AreMeetings x.line spacing a b) old mid → AreAdded (AreMeetings x.line spacing b a) mid new → AreAdded (AreCrossings d spacing x) old new
both d spacing x a b old mid new first second (up, e, rising) (down, f, falling) = (
  up ++ down,
  f ∙ ap (λ (xs : List HatchPlace). xs ++ down) e ∙ append_assoc old up down,
  record { a = a; b = b; first = first; second = second; rising = up; falling = down; together = λ i. up ++ down; from_a = rising; from_b = falling },
)

pub returns : goal.returns
returns c =
    let d = of_dir c.args.d.now in
    let x = c.args.segment.now in
    let a = c.first_number-a.result in
    let b = c.first_number-b.result in
    let a_fits : FitsSigned w64 a = search rules in
    let b_fits : FitsSigned w64 b = search rules in
    let one = simp to_z-of_z at c.in_ok-add_meetings.ensures in
    let other = simp to_z-of_z at c.add_meetings-2.ensures in
    IfOk-weaker c.add_meetings-2.result _ _
    (λ u h. both d c.args.spacing x a b c.args.places.now.items c.add_meetings.new.places.items c.add_meetings-2.new.places.items
    (first_of c.diagonal.result (diagonal_of d (of_spot x.a)) x.a.w c.args.spacing a c.diagonal.ensures.ratio c.first_number-a.ensures.first)
    (first_of c.diagonal-2.result (diagonal_of d (of_spot x.b)) x.b.w c.args.spacing b c.diagonal-2.ensures.ratio c.first_number-b.ensures.first) one h)
    other
