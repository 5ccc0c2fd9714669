use Rattle.std.proofs.Common.{subst}
use Rattle.std.specs.Prelude.{◌↔◌, IsTrue}
use Rattle.hiding_laws.specs.inner.Perturbations.{IsLeft}
use Rattle.cross_find.specs.inner.Ways.{way_of, side_of}
use Rattle.cross_find.proofs.CornerSigns.{less_perturbation, one_perturbation, two_perturbations, two_alike}
use Rattle.cross_find.proofs.corner.passes.Goals as goal

pub returns : goal.returns
returns c =
    let k = side_of c.args.x_left in
    let l = side_of c.args.y_left in
    let x = way_of c.args.x.now in
    let y = way_of c.args.y.now in
    let w = way_of c.args.w.now in
    two_alike
    (subst (λ h. IsTrue c.is_left.result ↔ IsLeft h x w) (less_perturbation k c.perturbation-k.result c.perturbation-k.ensures.value) c.is_left.ensures)
    (subst (λ h. IsTrue c.is_left-2.result ↔ IsLeft h w y) (one_perturbation l c.perturbation-l.result c.perturbation-l.ensures.value) c.is_left-2.ensures)
    (subst (λ h. IsTrue c.is_left-3.result ↔ IsLeft h y x) (two_perturbations k l c.perturbation-k.result c.perturbation-l.result c.perturbation-k.ensures.value c.perturbation-l.ensures.value) c.is_left-3.ensures)
    c.any_two.ensures
