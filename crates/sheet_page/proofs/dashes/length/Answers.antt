use Rattle.std.proofs.Common.{◌≡◌, ◌+◌, ◌-◌, List, [], ◌∷◌, length, refl, sym, ap, ◌∙◌, true, arith}
use Rattle.std.specs.Prelude.{Some, slice_get}
use Rattle.stroke_paths.specs.declared.path.Point.{Point}
use Rattle.sheet_page.specs.Dashes.{side, through, last_of, length_of}
use Rattle.sheet_page.proofs.dashes.length.Goals as goal

at_end : (p : Point) (rest : List Point) → slice_get (p ∷ rest) (length rest) ≡ Some (last_of p rest)
at_end p [] = refl
at_end p (q ∷ rest) = at_end q rest

-- the length of a closed path
closed_length : (points : List Point) (last : Point) → slice_get points (length points - 1) ≡ Some last → through last points ≡ length_of true points
closed_length [] last e = refl
closed_length (p ∷ rest) last e =
    let i : length (p ∷ rest) - 1 ≡ length rest = omega arith in
    let both : Some (last_of p rest) ≡ Some last = sym (at_end p rest) ∙ sym (ap (slice_get (p ∷ rest)) i) ∙ e in
    let same : last ≡ last_of p rest = cc in
    λ j. side (same j) p + through p rest

pub returns-then-path-clause-value : goal.returns-then-path-clause-value
returns-then-path-clause-value c =
    let points = c.as_slice-points.result.now in
    let all = c.through.ensures.value ∙ closed_length points c.in-Some-Some.last.now (sym c.in-Some-Some.ensures'.value) in
    all ∙ (λ i. length_of (sym c.if-path.true i) (c.as_slice-points.ensures.value i))
