-- What a face hides by its facing: the other way round, and edge-on by its three sides.
use Rattle.std.proofs.Common.{◌≡◌, ◌⊎◌, inl, inr, List, ◌++◌, sym, subst, ◌∙◌}
use Rattle.std.specs.Prelude.{ℤ, pos, ◌<ℤ◌, ◌↔◌}
use Rattle.integers.proofs.Comparisons.{positive_of_negated, positive_of_more}
use Rattle.lattice.specs.declared.points.Corner.{Corner}
use Rattle.lattice.specs.Triple.{Triple, IsZero, det}
use Rattle.lattice.specs.Points.{Point, IsPoint, difference}
use Rattle.geometry.specs.Faces.{FaceHides, IsFlat, facing_of}
use Rattle.geometry.specs.Parts.{Part, Face, Edge, IsClosed}
use Rattle.geometry.specs.Views.{IsOrdinary}
use Rattle.hiding_laws.specs.Values.{WideSideHides, SideHides}
use Rattle.exact_frac.specs.declared.Frac.{Frac}
use Rattle.intervals.specs.declared.interval.Interval.{Interval}
use Rattle.span_slow.specs.inner.Hidden.{AreWhere}
use Rattle.hiding_laws.proofs.Values.{facing-turned}
use Rattle.hiding_laws.proofs.Hiding.{wide-side-hides, face-hides}
use Rattle.span_slow.proofs.Fronts.{hides_by_corners}
use Rattle.span_slow.proofs.Where.{where_alike, where_either}

-- the product that was computed is the face's
pub facing_read : (d : Triple) (a b c : Corner) {x : ℤ} {u v : Triple} → x ≡ det d u v → u ≡ difference a b → v ≡ difference a c → x ≡ facing_of d a b c
facing_read d a b c value first second = value ∙ (λ i. det d (first i) (second i))

pub facing_back : (d : Triple) (a b c : Corner) → facing_of d a b c <ℤ pos 0 → pos 0 <ℤ facing_of d a c b
facing_back d a b c h = positive_of_negated (facing_of d a b c) (facing_of d a c b) (facing-turned d a b c) h

module _ (d : Triple) (somewhere : ¬ IsZero d) {s : Part} (closed : IsClosed s) (e : Edge s) (f : Face s) (a b c : Corner) (at_a : f.a ≡ a) (at_b : f.b ≡ b) (at_c : f.c ≡ c)
    (edge_on : facing_of d a b c ≡ pos 0) where
  abbrev BySide : Point → Type 0
  BySide p = WideSideHides d a b p ⊎ WideSideHides d b c p ⊎ WideSideHides d c a p

  not_flat : ¬ IsFlat a b c
  not_flat h =
      closed.none_flat f (subst (λ (x : Corner). IsFlat x f.b f.c) (sym at_a) (subst (λ (y : Corner). IsFlat a y f.c) (sym at_b) (subst (λ (z : Corner). IsFlat a b z) (sym at_c) h)))

  by_side : (p : Point) → IsPoint p → BySide p ↔ FaceHides d f.a f.b f.c p
  by_side p point = (
    (λ h. same.1 (face-hides d a b c p (some h))),
    (λ h. wide-side-hides d a b c p point somewhere not_flat edge_on (same.0 h)),
  )
    where
      same : FaceHides d f.a f.b f.c p ↔ FaceHides d a b c p
      same = hides_by_corners d f a b c p (inl (at_a, at_b, at_c))

      some : BySide p → SideHides d a b p ⊎ SideHides d b c p ⊎ SideHides d c a p
      some (inl h) = inl h.1
      some (inr (inl h)) = inr (inl h.1)
      some (inr (inr h)) = inr (inr h.1)

  pub edge_on_where : (xs ys zs : List (Interval Frac)) → AreWhere d e (WideSideHides d a b) xs → AreWhere d e (WideSideHides d b c) ys → AreWhere d e (WideSideHides d c a) zs
      → AreWhere d e (FaceHides d f.a f.b f.c) (xs ++ (ys ++ zs))
  edge_on_where xs ys zs x y z =
      where_alike (IsOrdinary d s) e BySide (FaceHides d f.a f.b f.c) (xs ++ (ys ++ zs)) (λ n m hn hm ordinary. by_side _ (positive_of_more n m hn hm))
      (where_either (IsOrdinary d s) e (WideSideHides d a b) (λ p. WideSideHides d b c p ⊎ WideSideHides d c a p) xs (ys ++ zs) x (where_either (IsOrdinary d s) e (WideSideHides d b c) (WideSideHides d c a) ys zs y z))
