-- What a face, and the triangle of one of its corners and its border, change of a count between two clear places.
use Rattle.std.proofs.Common.{◌≡◌, inl, refl, sym, ap, subst, ◌∙◌, arith}
use Rattle.std.specs.Prelude.{◌↔◌, ℤ, pos, ◌+ℤ◌, ◌-ℤ◌, ◌*ℤ◌, ◌<ℤ◌}
use Rattle.std.proofs.lemmas.Int.{ints}
use Rattle.integers.proofs.Signs.{mul_pos}
use Rattle.lattice.specs.declared.points.Corner.{Corner}
use Rattle.lattice.specs.Cuts.{Plane, toward_of}
use Rattle.geometry.specs.Parts.{Part, Face, Edge}
use Rattle.geometry.specs.Views.{sign_of, face_sign}
use Rattle.hiding_laws.proofs.Screens.{Screen, area_of}
use Rattle.geometry.specs.Counts.{Side}
use Rattle.geometry.specs.Shares.{mark}
use Rattle.hiding_laws.specs.inner.Tallies.{IsTally}
use Rattle.hiding_laws.proofs.Come.{IsInner}
use Rattle.hiding_laws.proofs.MeshOfPart.{sign_is, sign_scaled}
use Rattle.hiding_laws.proofs.Seen.{on, scale, scale_pos, area_seen}
use Rattle.hiding_laws.proofs.Shares.{Crosses, IsClear, IsClearOf, IsSign, IsUnpierced, Adds}
use Rattle.hiding_laws.proofs.Sides.{tally_of, crosses_reverse}
use Rattle.hiding_laws.proofs.Twins.{any_face}
use Rattle.cut_count_laws.proofs.Rests.{AreInOrder, grown}
use Rattle.cut_count_laws.proofs.Laws.{AreInTurn}
use Rattle.cut_count_laws.proofs.ScaledScreens.{first_end, crosses_part, clear_part, clear_back, area_grown}
use Rattle.cut_count_laws.proofs.Parts.{touches_of_part, j_pos, i_pos, t_pos, first_rest_pos, second_rest_pos}
use Rattle.cut_count_laws.proofs.RestSides.{mark_scale, value, cut_value}
use Rattle.cut_count_laws.proofs.CornerScreens.{far, scale_of, first_of, second_of, area_from, first_area, second_area}
use Rattle.cut_count_laws.proofs.CornerRest.{area_is, part_by, AddsPart}

module _ (k : Side) (c : Plane) {s : Part} (e : Edge s) (f : Face s) (x y z : Corner) (order : AreInOrder f x y z)
    (x_far : pos 0 <ℤ far c x) (y_far : pos 0 <ℤ far c y) (z_far : pos 0 <ℤ far c z) (n m n' m' : ℤ) (turn : AreInTurn n m n' m') where
  abbrev P : Screen
  P = on (toward_of c) e.a

  abbrev Q : Screen
  Q = on (toward_of c) e.b

  abbrev X : Screen
  X = on (toward_of c) x

  abbrev Y : Screen
  Y = on (toward_of c) y

  abbrev Z : Screen
  Z = on (toward_of c) z

  abbrev T : ℤ
  T = scale_of c x y z

  abbrev Big : Screen → Screen
  Big a = grown T a

  abbrev sign : ℤ
  sign = face_sign (toward_of c) f

  whole_sign : IsSign (area_of X Y Z) sign
  whole_sign = subst (IsSign (area_of X Y Z)) (ap sign_of (area_from (toward_of c) f x y z order ∙ area_seen (toward_of c) f.a f.b f.c) ∙ sign_scaled (scale (toward_of c)) _ (scale_pos (toward_of c))) (sign_is (area_of X Y Z))

  part_sign : IsSign (area_of (Big X) (first_of c x y z) (second_of c x y z)) sign
  part_sign = subst (IsSign (area_of (Big X) (first_of c x y z) (second_of c x y z)))
      (ap sign_of (area_is c x y z x_far y_far z_far) ∙ sign_scaled _ (area_of X Y Z) (part_by c x y z x_far y_far z_far) ∙ ap sign_of (area_from (toward_of c) f x y z order ∙ area_seen (toward_of c) f.a f.b f.c) ∙ sign_scaled (scale (toward_of c)) _ (scale_pos (toward_of c)))
      (sign_is (area_of (Big X) (first_of c x y z) (second_of c x y z)))

  abbrev mx : ℤ
  mx = mark k (value (toward_of c) e.a e.b x)

  abbrev my : ℤ
  my = mark k (value (toward_of c) e.a e.b y)

  abbrev mz : ℤ
  mz = mark k (value (toward_of c) e.a e.b z)

  abbrev mf : ℤ
  mf = mark k (cut_value k c e x y)

  abbrev mg : ℤ
  mg = mark k (cut_value k c e x z)

  scale_up : pos 0 <ℤ T
  scale_up = t_pos X Y Z (far c x) (far c y) (far c z) P Q n m x_far y_far z_far

  sum_up : (a b : ℤ) → pos 0 <ℤ a → pos 0 <ℤ b → pos 0 <ℤ (a +ℤ b)
  sum_up a b h l = omega (arith, ints)

  mark_x : mark k (area_of (Big P) (Big Q) (Big X)) ≡ mx
  mark_x = ap (mark k) (area_grown P Q X T) ∙ mark_scale k (T *ℤ T) _ (mul_pos _ _ scale_up scale_up)

  mark_f : mark k (area_of (Big P) (Big Q) (first_of c x y z)) ≡ mf
  mark_f = ap (mark k) (first_area k P Q X Y Z (far c x) (far c y) (far c z) scale_up (sum_up _ _ y_far x_far) (sum_up _ _ z_far x_far))
      ∙ mark_scale k (T *ℤ (far c z +ℤ far c x)) _ (mul_pos _ _ scale_up (sum_up _ _ z_far x_far))

  mark_g : mark k (area_of (Big P) (Big Q) (second_of c x y z)) ≡ mg
  mark_g = ap (mark k) (second_area k P Q X Y Z (far c x) (far c y) (far c z) scale_up (sum_up _ _ y_far x_far) (sum_up _ _ z_far x_far))
      ∙ mark_scale k (T *ℤ (far c y +ℤ far c x)) _ (mul_pos _ _ scale_up (sum_up _ _ y_far x_far))

  less_zero : (a : ℤ) → pos 0 <ℤ a → pos 0 <ℤ (a -ℤ pos 0)
  less_zero a h = omega (arith, ints)

  first_crosses : Crosses P Q X Y n m n' m' ↔ Crosses (Big P) (Big Q) (Big X) (first_of c x y z) n m n' m'
  first_crosses = subst (λ a. Crosses P Q X Y n m n' m' ↔ Crosses (Big P) (Big Q) a (first_of c x y z) n m n' m') (sym (first_end T X Y))
      (crosses_part P Q X Y T (pos 0) ((far c z +ℤ far c x) *ℤ far c x) scale_up (less_zero _ (j_pos X Y Z (far c x) (far c y) (far c z) P Q n m x_far y_far z_far)) n m n' m')

  second_crosses : Crosses P Q X Z n m n' m' ↔ Crosses (Big P) (Big Q) (Big X) (second_of c x y z) n m n' m'
  second_crosses = subst (λ a. Crosses P Q X Z n m n' m' ↔ Crosses (Big P) (Big Q) a (second_of c x y z) n m n' m') (sym (first_end T X Z))
      (crosses_part P Q X Z T (pos 0) ((far c y +ℤ far c x) *ℤ far c x) scale_up (less_zero _ (i_pos X Y Z (far c x) (far c y) (far c z) P Q n m x_far y_far z_far)) n m n' m')

  abbrev BorderClear : ℤ → ℤ → Type 0
  BorderClear n m = IsClearOf (Big P) (Big Q) (first_of c x y z) (second_of c x y z) n m

  part_clear : (n m : ℤ) → IsClear P Q X Y Z n m → BorderClear n m → IsClear (Big P) (Big Q) (Big X) (first_of c x y z) (second_of c x y z) n m
  part_clear n m h border = record {
    after = h.after;
    before = h.before;
    ab = clear_part P Q X Y n m T ((far c z +ℤ far c x) *ℤ far c x) scale_up (j_pos X Y Z (far c x) (far c y) (far c z) P Q n m x_far y_far z_far) (first_rest_pos X Y Z (far c x) (far c y) (far c z) P Q n m x_far y_far z_far) h.ab;
    bc = border;
    ca = clear_back (Big P) (Big Q) (Big X) (second_of c x y z) n m
        (clear_part P Q X Z n m T ((far c y +ℤ far c x) *ℤ far c x) scale_up (i_pos X Y Z (far c x) (far c y) (far c z) P Q n m x_far y_far z_far) (second_rest_pos X Y Z (far c x) (far c y) (far c z) P Q n m x_far y_far z_far)
        (clear_back P Q Z X n m h.ca));
  }

  part_free : IsUnpierced P Q X Y Z → IsUnpierced (Big P) (Big Q) (Big X) (first_of c x y z) (second_of c x y z)
  part_free h n m after before t = h n m after before (touches_of_part X Y Z (far c x) (far c y) (far c z) P Q n m x_far y_far z_far t)

  inner : IsInner n m
  inner = record { after = turn.after; before = turn.before }

  inner' : IsInner n' m'
  inner' = record { after = turn.after'; before = turn.before' }

  module _ (clear : IsClear P Q X Y Z n m) (clear' : IsClear P Q X Y Z n' m') (free : IsUnpierced P Q X Y Z) where
    pub whole_change : {u u' xy yz zx : ℤ} → IsTally (Adds k P Q X Y Z n m) u → IsTally (Adds k P Q X Y Z n' m') u'
        → IsTally (Crosses P Q X Y n m n' m') xy → IsTally (Crosses P Q Y Z n m n' m') yz → IsTally (Crosses P Q Z X n m n' m') zx
        → u' -ℤ u ≡ (((sign *ℤ (mx -ℤ my)) *ℤ xy) +ℤ ((sign *ℤ (my -ℤ mz)) *ℤ yz)) +ℤ ((sign *ℤ (mz -ℤ mx)) *ℤ zx)
    whole_change t t' v w o = any_face k P Q X Y Z n m n' m' refl refl inner inner' turn.order whole_sign (λ some. (clear, clear', inl free)) t t' v w o

    pub part_change_is : BorderClear n m → BorderClear n' m' → {u u' xy border zx : ℤ} → IsTally (AddsPart k c e f x y z order n m) u → IsTally (AddsPart k c e f x y z order n' m') u'
        → IsTally (Crosses P Q X Y n m n' m') xy → IsTally (Crosses (Big P) (Big Q) (first_of c x y z) (second_of c x y z) n m n' m') border → IsTally (Crosses P Q Z X n m n' m') zx
        → u' -ℤ u ≡ (((sign *ℤ (mx -ℤ mf)) *ℤ xy) +ℤ ((sign *ℤ (mf -ℤ mg)) *ℤ border)) +ℤ ((sign *ℤ (mg -ℤ mx)) *ℤ zx)
    part_change_is b b' {xy = xy} {border = border} {zx = zx} t t' v w o =
        any_face k (Big P) (Big Q) (Big X) (first_of c x y z) (second_of c x y z) n m n' m' refl refl inner inner' turn.order part_sign
        (λ some. (part_clear n m clear b, part_clear n' m' clear' b', inl (part_free free))) t t'
        (tally_of first_crosses.0 first_crosses.1 v) w
        (tally_of (λ h. crosses_reverse (Big P) (Big Q) (Big X) (second_of c x y z) n m n' m' (second_crosses.0 (crosses_reverse P Q Z X n m n' m' h)))
        (λ h. crosses_reverse P Q X Z n m n' m' (second_crosses.1 (crosses_reverse (Big P) (Big Q) (second_of c x y z) (Big X) n m n' m' h))) o)
        ∙ (λ r. (((sign *ℤ (mark_x r -ℤ mark_f r)) *ℤ xy) +ℤ ((sign *ℤ (mark_f r -ℤ mark_g r)) *ℤ border)) +ℤ ((sign *ℤ (mark_g r -ℤ mark_x r)) *ℤ zx))
