use Rattle.std.proofs.Common.{◌≡◌, ℕ, ◌-◌, ◌++◌, List, [], ◌∷◌, length, refl, sym, ap, subst, ◌∙◌, true, arith}
use Rattle.std.specs.Prelude.{Some, slice_get, OnOk}
use Rattle.stroke_paths.specs.declared.path.Point.{Point}
use Rattle.sheet_lines.specs.Ways.{along, last_of, through}
use Rattle.sheet_lines.specs.declared.ways.Way.{Way}
use Rattle.sheet_lines.proofs.ways.add_along.Goals as goal

at_end : (p : Point) (rest : List Point) → slice_get (p ∷ rest) (length rest) ≡ Some (last_of p rest)
at_end p [] = refl
at_end p (q ∷ rest) = at_end q rest

-- the ways of a closed path
closed_ways : (view : ℕ) (points : List Point) (last : Point) → slice_get points (length points - 1) ≡ Some last → through view last points ≡ along view true points
closed_ways view [] last e = refl
closed_ways view (p ∷ rest) last e =
    let i : length (p ∷ rest) - 1 ≡ length rest = omega arith in
    let both : Some (last_of p rest) ≡ Some last = sym (at_end p rest) ∙ sym (ap (slice_get (p ∷ rest)) i) ∙ e in
    let same : last ≡ last_of p rest = cc in
    λ j. through view (same j) (p ∷ rest)

pub returns-then-path : goal.returns-then-path
returns-then-path c =
    let points = c.as_slice-points.result.now in
    let all = closed_ways c.args.path.now.view points c.in-Some-Some.last.now (sym c.in-Some-Some.ensures'.value) ∙ (λ i. along c.args.path.now.view (sym c.if-path.true i) (c.as_slice-points.ensures.value i)) in
    subst (λ (more : List Way). OnOk c.add_through.result (c.add_through.new.ways.items ≡ c.args.ways.now.items ++ more)) all c.add_through.ensures
