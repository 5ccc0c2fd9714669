-- From the order of V of a point and of a segment's two ends to whether the segment is to the point's right.
use Rattle.std.proofs.Common.{◌≡◌, ◌≢◌, ◌↔◌, ◌⊎◌, inl, inr, Bool, true, false, refl, sym, ◌∙◌}
use Rattle.std.specs.Prelude.{◌+ℤ◌, ◌*ℤ◌, ◌<ℤ◌, IsTrue}
use Rattle.std.proofs.lemmas.Int.{by_lt_z}
use Rattle.integers.proofs.Comparisons.{less_not_at_most}
use Rattle.lattice.specs.Triple.{Triple}
use Rattle.lattice.specs.Points.{Point, of_spot, across_of, upward_of}
use Rattle.cut_plane.specs.declared.segments.Segment.{Segment}
use Rattle.cut_plane.specs.Sides.{IsRightOf, IsNotAbove, IsLower, IsUpwardBetween}
use Rattle.cut_plane.proofs.Lists.{not_true}

module _ (d : Triple) where
  pub not_both : (p q : Point) → IsNotAbove d p q → IsLower d q p → ⊥
  not_both p q h k = less_not_at_most (upward_of d q *ℤ p.w) (upward_of d p *ℤ q.w) k h

  pub below_of_not : (p q : Point) → ¬ IsNotAbove d p q → IsLower d q p
  below_of_not p q h = by_lt_z (upward_of d q *ℤ p.w) (upward_of d p *ℤ q.w) (λ less. less) (λ least. absurd (h least))

  module _ (x : Segment) (p : Point) (s t : Bool) (first : IsTrue s ↔ IsNotAbove d (of_spot x.a) p) (second : IsTrue t ↔ IsNotAbove d (of_spot x.b) p) where
    pub apart_of_beside : IsUpwardBetween d (of_spot x.a) (of_spot x.b) p ⊎ IsUpwardBetween d (of_spot x.b) (of_spot x.a) p → s ≢ t
    apart_of_beside (inl h) e = not_both (of_spot x.b) p (second.0 (sym e ∙ first.1 h.0)) h.1
    apart_of_beside (inr h) e = not_both (of_spot x.a) p (first.0 (e ∙ second.1 h.0)) h.1

    pub beside_of_apart : s ≢ t → IsUpwardBetween d (of_spot x.a) (of_spot x.b) p ⊎ IsUpwardBetween d (of_spot x.b) (of_spot x.a) p
    beside_of_apart apart = by s t refl refl
      where
        by : (m n : Bool) → s ≡ m → t ≡ n → IsUpwardBetween d (of_spot x.a) (of_spot x.b) p ⊎ IsUpwardBetween d (of_spot x.b) (of_spot x.a) p
        by true true e f = absurd (apart (e ∙ sym f))
        by true false e f = inl (first.0 e, below_of_not (of_spot x.b) p (λ h. not_true t f (second.1 h)))
        by false true e f = inr (second.0 f, below_of_not (of_spot x.a) p (λ h. not_true s e (first.1 h)))
        by false false e f = absurd (apart (e ∙ sym f))

    pub told_left : s ≡ t → IsTrue false ↔ IsRightOf d x p
    told_left e = ((λ f. absurd (not_true false refl f)), (λ h. absurd (apart_of_beside h.beside e)))

    pub told_right : s ≢ t → (r : Bool) → IsTrue r ↔ (((x.line.a *ℤ across_of d p) +ℤ (x.line.b *ℤ upward_of d p)) <ℤ (x.line.c *ℤ p.w)) → IsTrue r ↔ IsRightOf d x p
    told_right apart r before = ((λ h. record { beside = beside_of_apart apart; before = before.0 h }), (λ h. before.1 h.before))
