use Rattle.std.proofs.Common.{rules, ◌≡◌, FitsSigned, sym, subst, ap, ◌∙◌}
use Rattle.std.specs.Prelude.{ℤ, ◌+ℤ◌, ◌*ℤ◌}
use Rattle.std.specs.Int.{w64, w128}
use Rattle.std.proofs.lemmas.Int.{to_z-of_z}
use Rattle.integers.proofs.Comparisons.{positive_at}
use Rattle.integers.proofs.Signs.{mul_pos}
use Rattle.lattice.specs.Triple.{Triple, dot, right_axis, up_axis}
use Rattle.lattice.specs.Points.{Point, of_dir}
use Rattle.lattice.proofs.Vectors.{dot_itself}
use Rattle.detail_pieces.specs.inner.Places.{IsSeenAt}
use Rattle.detail_pieces.proofs.Reached.{foot_of, foot_seen, up_positive}
use Rattle.detail_pieces.proofs.spots.foot.Goals as goal

-- a coordinate of the foot by its parts
part : (u k v l a b r t : ℤ) → l ≡ u *ℤ k → k ≡ a → r ≡ b → (x : ℤ) → x ≡ (l *ℤ r) +ℤ (v *ℤ t) → (t' : ℤ) → t ≡ t' → x ≡ ((u *ℤ a) *ℤ b) +ℤ (v *ℤ t')
part u k v l a b r t el ek er x ex t' et = ex ∙ (λ i. (el i *ℤ er i) +ℤ (v *ℤ et i)) ∙ (λ i. ((u *ℤ ek i) *ℤ b) +ℤ (v *ℤ t'))

pub returns-clause-seen : goal.returns-clause-seen
returns-clause-seen c =
    let d = of_dir c.args.d.now in
    let t = c.args.place.now in
    let rx_fits : FitsSigned w64 c.right-right.result.x = search rules in
    let ry_fits : FitsSigned w64 c.right-right.result.y = search rules in
    let rz_fits : FitsSigned w64 c.right-right.result.z = search rules in
    let ux_fits : FitsSigned w64 c.up-up.result.x = search rules in
    let uy_fits : FitsSigned w64 c.up-up.result.y = search rules in
    let uz_fits : FitsSigned w64 c.up-up.result.z = search rules in
    let a_fits : FitsSigned w128 t.across = search rules in
    let b_fits : FitsSigned w128 t.upward = search rules in
    let den_fits : FitsSigned w128 t.den = search rules in
    let square_fits : FitsSigned w128 c.square.result = search rules in
    let square2_fits : FitsSigned w128 c.square-2.result = search rules in
    let level_fits : FitsSigned w128 c.level-level.result = search rules in
    let one_fits : FitsSigned w128 c.mixed.result = search rules in
    let two_fits : FitsSigned w128 c.mixed-2.result = search rules in
    let three_fits : FitsSigned w128 c.mixed-3.result = search rules in
    let divisor_fits : FitsSigned w128 c.divisor.result = search rules in
    let level = simp to_z-of_z at c.level-level.ensures.value in
    let dd : c.square.result ≡ dot d d = c.square.ensures.value ∙ (λ i. dot (c.vector.ensures.components i) (c.vector.ensures.components i)) in
    let uu : c.square-2.result ≡ dot (up_axis d) (up_axis d) = c.square-2.ensures.value ∙ (λ i. dot (c.up-up.ensures.axis i) (c.up-up.ensures.axis i)) in
    let x = part t.across c.square.result t.upward c.level-level.result (dot d d) (right_axis d).x c.right-right.result.x c.up-up.result.x level dd (ap (λ (v : Triple). v.x) c.right-right.ensures.axis) c.mixed.result (simp to_z-of_z at c.mixed.ensures.value) (up_axis d).x (ap (λ (v : Triple). v.x) c.up-up.ensures.axis) in
    let y = part t.across c.square.result t.upward c.level-level.result (dot d d) (right_axis d).y c.right-right.result.y c.up-up.result.y level dd (ap (λ (v : Triple). v.y) c.right-right.ensures.axis) c.mixed-2.result (simp to_z-of_z at c.mixed-2.ensures.value) (up_axis d).y (ap (λ (v : Triple). v.y) c.up-up.ensures.axis) in
    let z = part t.across c.square.result t.upward c.level-level.result (dot d d) (right_axis d).z c.right-right.result.z c.up-up.result.z level dd (ap (λ (v : Triple). v.z) c.right-right.ensures.axis) c.mixed-3.result (simp to_z-of_z at c.mixed-3.ensures.value) (up_axis d).z (ap (λ (v : Triple). v.z) c.up-up.ensures.axis) in
    let value = simp to_z-of_z at c.divisor.ensures.value in
    let w : c.divisor.result ≡ t.den *ℤ dot (up_axis d) (up_axis d) = value ∙ ap (λ (k : ℤ). t.den *ℤ k) uu in
    let q : Point = record { x = c.mixed.result; y = c.mixed-2.result; z = c.mixed-3.result; w = c.divisor.result } in
    let same : foot_of d (right_axis d) t ≡ q = λ i. record { x = sym x i; y = sym y i; z = sym z i; w = sym w i } in
    let seen : IsSeenAt d t q = subst (IsSeenAt d t) same (foot_seen d t) in
    simp to_z-of_z seen

pub returns-clause-positive : goal.returns-clause-positive
returns-clause-positive c =
    let d = of_dir c.args.d.now in
    let t = c.args.place.now in
    let den_fits : FitsSigned w128 t.den = search rules in
    let square2_fits : FitsSigned w128 c.square-2.result = search rules in
    let divisor_fits : FitsSigned w128 c.divisor.result = search rules in
    let uu : c.square-2.result ≡ dot (up_axis d) (up_axis d) = c.square-2.ensures.value ∙ (λ i. dot (c.up-up.ensures.axis i) (c.up-up.ensures.axis i)) in
    let value = simp to_z-of_z at c.divisor.ensures.value in
    let w : c.divisor.result ≡ t.den *ℤ dot (up_axis d) (up_axis d) = value ∙ ap (λ (k : ℤ). t.den *ℤ k) uu in
    simp to_z-of_z (positive_at _ _ w (mul_pos t.den (dot (up_axis d) (up_axis d)) t.positive (up_positive d (dot_itself d c.args.d.now.not_zero))))
