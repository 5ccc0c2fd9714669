-- Which axis a direction is along, by the numbers that are 0, and along which axes a view along an axis has its own.
use Rattle.std.proofs.Common.{◌≡◌, ◌≢◌, ◌⊎◌, inl, inr, Bool, true, false, [], ◌∷◌, refl, sym, subst, ap, ◌∙◌, arith}
use Rattle.std.specs.Prelude.{ℤ, pos, neg_ℤ, ◌-ℤ◌, ◌*ℤ◌, if◌then◌else◌, ◌&&◌}
use Rattle.std.specs.Bool.{Decides}
use Rattle.std.specs.Cmp.{signed_Decides}
use Rattle.std.specs.Ordering.{int_eq}
use Rattle.std.proofs.lemmas.Int.{ints}
use Rattle.integers.proofs.Ring.{var, con, ◌⊗◌, ring}
use Rattle.lattice.specs.declared.points.Axis.{Axis}
use Rattle.lattice.specs.declared.points.Axis.TheVariants.{X, Y, Z}
use Rattle.lattice.specs.Axes.{component_of, IsAlong}
use Rattle.lattice.specs.Triple.{Triple, right_axis, up_axis}

-- along an axis the two other numbers are 0
pub not_along : (d : Triple) → ¬ ((d.y ≡ pos 0) × (d.z ≡ pos 0)) → ¬ ((d.x ≡ pos 0) × (d.z ≡ pos 0)) → ¬ ((d.x ≡ pos 0) × (d.y ≡ pos 0)) → (axis : Axis) → ¬ IsAlong axis d
not_along d x y z X along = x (along.alone Y (λ e. cc), along.alone Z (λ e. cc))
not_along d x y z Y along = y (along.alone X (λ e. cc), along.alone Z (λ e. cc))
not_along d x y z Z along = z (along.alone X (λ e. cc), along.alone Y (λ e. cc))

-- r has no number but on this axis
abbrev pub IsOnly : Axis → Triple → Type 0
IsOnly axis r = (other : Axis) → other ≢ axis → component_of other r ≡ pos 0

-- ---- the axes of a view along an axis
pub no_zero : (a : ℤ) → a ≢ pos 0 → int_eq a (pos 0) ≡ false
no_zero a n = go (int_eq a (pos 0)) (signed_Decides a (pos 0))
  where
    go : (b : Bool) → Decides b (a ≡ pos 0) → b ≡ false
    go true e = absurd (n (e.0 refl))
    go false e = refl

-- where x or y isn't 0 the right axis turns them
abbrev right_of : Bool → Triple → Triple
right_of b d = if b then record { x = pos 1; y = pos 0; z = pos 0 } else record { x = neg_ℤ d.y; y = d.x; z = pos 0 }

pub turned : (d : Triple) → (int_eq d.x (pos 0) && int_eq d.y (pos 0)) ≡ false → right_axis d ≡ record { x = neg_ℤ d.y; y = d.x; z = pos 0 }
turned d e = ap (λ (b : Bool). right_of b d) e

pub straight : (d : Triple) → (int_eq d.x (pos 0) && int_eq d.y (pos 0)) ≡ true → right_axis d ≡ record { x = pos 1; y = pos 0; z = pos 0 }
straight d e = ap (λ (b : Bool). right_of b d) e

-- the axis that runs across, and the one that runs upward, of a view along an axis
abbrev pub level_axis : Axis → Axis
level_axis X = Y
level_axis Y = X
level_axis Z = X

abbrev pub upright_axis : Axis → Axis
upright_axis X = Z
upright_axis Y = Z
upright_axis Z = Y

neg_zero : (a : ℤ) → a ≡ pos 0 → neg_ℤ a ≡ pos 0
neg_zero a e = omega (arith, ints, e)

pub level_only : (sight : Axis) (d : Triple) → IsAlong sight d → IsOnly (level_axis sight) (right_axis d)
level_only X d along = subst (IsOnly Y) (sym (turned d (ap (λ (b : Bool). b && int_eq d.y (pos 0)) (no_zero d.x along.there)))) only
  where
    only : IsOnly Y (record { x = neg_ℤ d.y; y = d.x; z = pos 0 })
    only X n = neg_zero d.y (along.alone Y (λ e. cc))
    only Y n = absurd (n refl)
    only Z n = refl
level_only Y d along = subst (IsOnly X) (sym (turned d ((λ i. int_eq (along.alone X (λ e. cc) i) (pos 0) && int_eq d.y (pos 0)) ∙ no_zero d.y along.there))) only
  where
    only : IsOnly X (record { x = neg_ℤ d.y; y = d.x; z = pos 0 })
    only X n = absurd (n refl)
    only Y n = along.alone X (λ e. cc)
    only Z n = refl
level_only Z d along = subst (IsOnly X) (sym (straight d (λ i. int_eq (along.alone X (λ e. cc) i) (pos 0) && int_eq (along.alone Y (λ e. cc) i) (pos 0)))) only
  where
    only : IsOnly X (record { x = pos 1; y = pos 0; z = pos 0 })
    only X n = absurd (n refl)
    only Y n = refl
    only Z n = refl

-- one component of a cross product whose summands have a factor 0
minor_zero : (a b c d : ℤ) → ((a ≡ pos 0) ⊎ (b ≡ pos 0)) → ((c ≡ pos 0) ⊎ (d ≡ pos 0)) → a *ℤ b -ℤ c *ℤ d ≡ pos 0
minor_zero a b c d first second = (λ i. product a b first i -ℤ product c d second i)
  where
    product : (a b : ℤ) → ((a ≡ pos 0) ⊎ (b ≡ pos 0)) → a *ℤ b ≡ pos 0
    product a b (inl e) = (λ i. e i *ℤ b) ∙ ring (b ∷ []) (con (pos 0) ⊗ var 0) (con (pos 0)) refl
    product a b (inr e) = (λ i. a *ℤ e i) ∙ ring (a ∷ []) (var 0 ⊗ con (pos 0)) (con (pos 0)) refl

pub upright_only : (sight : Axis) (d : Triple) → IsAlong sight d → IsOnly (upright_axis sight) (up_axis d)
upright_only sight d along = go sight along (level_only sight d along)
  where
    go : (sight : Axis) → IsAlong sight d → IsOnly (level_axis sight) (right_axis d) → IsOnly (upright_axis sight) (up_axis d)
    go X along r X n = minor_zero _ _ _ _ (inl (along.alone Y (λ e. cc))) (inl (along.alone Z (λ e. cc)))
    go X along r Y n = minor_zero _ _ _ _ (inl (along.alone Z (λ e. cc))) (inr (r Z (λ e. cc)))
    go X along r Z n = absurd (n refl)
    go Y along r X n = minor_zero _ _ _ _ (inr (r Z (λ e. cc))) (inl (along.alone Z (λ e. cc)))
    go Y along r Y n = minor_zero _ _ _ _ (inl (along.alone Z (λ e. cc))) (inl (along.alone X (λ e. cc)))
    go Y along r Z n = absurd (n refl)
    go Z along r X n = minor_zero _ _ _ _ (inl (along.alone Y (λ e. cc))) (inr (r Y (λ e. cc)))
    go Z along r Y n = absurd (n refl)
    go Z along r Z n = minor_zero _ _ _ _ (inl (along.alone X (λ e. cc))) (inl (along.alone Y (λ e. cc)))
