-- The segments that cross a diagonal left of a point are as many as the triangles whose borders do.
use Rattle.std.proofs.Common.{◌≡◌, ◌↔◌, ◌⊎◌, inl, inr, ℕ, zero, suc, ◌%◌, List, subst, ◌∙◌}
use Rattle.std.specs.Prelude.{pos, ◌*ℤ◌}
use Rattle.std.proofs.lemmas.Int.{by_lt_z}
use Rattle.integers.proofs.Comparisons.{less_not_at_most}
use Rattle.lattice.specs.declared.points.Corner.{Corner}
use Rattle.lattice.specs.Triple.{Triple}
use Rattle.lattice.specs.Points.{Point, of_spot}
use Rattle.lattice.specs.Cuts.{Plane, toward_of}
use Rattle.geometry.specs.Parts.{Part, Face}
use Rattle.geometry.specs.Cuts.{IsBorderOf, IsCount, GoesBeyond, crossing_of, start_corner, end_corner}
use Rattle.geometry.proofs.Borders.{crossed_of_border}
use Rattle.geometry.proofs.Counts.{count_of}
use Rattle.cut_plane.specs.declared.segments.Segment.{Segment}
use Rattle.cut_plane.specs.Loops.{IsSegmentOf, AreBorders}
use Rattle.cut_plane.proofs.BySegments.{odd_alike}
use Rattle.cut_plane.proofs.Following.{one_border}
use Rattle.cut_plane.proofs.Sights.{sight_of, turn_of}
use Rattle.cut_plane.specs.Diagonals.{diagonal_of}
use Rattle.cut_plane.proofs.OverDiagonals.{GoesOver, CrossesLeftOf, HasOddLeft}

-- ---- borders of faces with the same corners
module _ (c : Plane) {s : Part} (f g : Face s) (ea : f.a ≡ g.a) (eb : f.b ≡ g.b) (ec : f.c ≡ g.c) where
  start_same : (n : ℕ) → start_corner f n ≡ start_corner g n
  start_same zero = ea
  start_same (suc zero) = eb
  start_same (suc (suc n)) = ec

  end_same : (n : ℕ) → end_corner f n ≡ end_corner g n
  end_same zero = eb
  end_same (suc zero) = ec
  end_same (suc (suc n)) = ea

  pub border_moved : (p q : Point) → IsBorderOf c f p q → IsBorderOf c g p q
  border_moved p q h = record {
    first = h.first;
    second = h.second;
    first_side = h.first_side;
    second_side = h.second_side;
    goes = subst (λ (k : Corner). GoesBeyond c k (end_corner g h.first)) (start_same h.first) (subst (λ (k : Corner). GoesBeyond c (start_corner f h.first) k) (end_same h.first) h.goes);
    returns = subst (λ (k : Corner). GoesBeyond c k (start_corner g h.second)) (end_same h.second) (subst (λ (k : Corner). GoesBeyond c (end_corner f h.second) k) (start_same h.second) h.returns);
    from = h.from ∙ (λ i. crossing_of c (start_same h.first i) (end_same h.first i));
    to = h.to ∙ (λ i. crossing_of c (end_same h.second i) (start_same h.second i));
  }

-- ---- over or not
module _ (d : Triple) (p : Point) where
  decide_goes : (k l : Point) → GoesOver d k l p ⊎ ¬ GoesOver d k l p
  decide_goes k l =
      by_lt_z (diagonal_of d p *ℤ k.w) (diagonal_of d k *ℤ p.w) (λ more. inr (λ g. less_not_at_most _ _ more g.from))
      (λ from. by_lt_z (diagonal_of d p *ℤ l.w) (diagonal_of d l *ℤ p.w)
      (λ to. by_lt_z (pos 0) (turn_of (sight_of d k) (sight_of d l) (sight_of d p)) (λ left. inl (record { from = from; to = to; left = left })) (λ right. inr (λ g. less_not_at_most _ _ g.left right)))
      (λ back. inr (λ g. less_not_at_most _ _ g.to back)))

  decide_crosses : (k l : Point) → CrossesLeftOf d k l p ⊎ ¬ CrossesLeftOf d k l p
  decide_crosses k l = by (decide_goes k l) (decide_goes l k)
    where
      by : GoesOver d k l p ⊎ ¬ GoesOver d k l p → GoesOver d l k p ⊎ ¬ GoesOver d l k p → CrossesLeftOf d k l p ⊎ ¬ CrossesLeftOf d k l p
      by (inl g) other = inl (inl g)
      by (inr never) (inl g) = inl (inr g)
      by (inr never) (inr none) = inr neither
        where
          neither : GoesOver d k l p ⊎ GoesOver d l k p → ⊥
          neither (inl g) = never g
          neither (inr g) = none g

-- the segment crosses the diagonal of p to its left
abbrev pub SegmentCrosses : Plane → Point → Segment → Type 0
SegmentCrosses c p x = CrossesLeftOf (toward_of c) (of_spot x.a) (of_spot x.b) p

-- ---- the law by the segments
module _ (c : Plane) (s : Part) (segments : List Segment) (starts : List ℕ) (borders : AreBorders c s segments starts) (p : Point) where
  -- the face's border crosses to the left of p
  abbrev Crosses : Face s → Type 0
  Crosses f = (k : Point) × (l : Point) × IsBorderOf c f k l × CrossesLeftOf (toward_of c) k l p

  decide_segment : (x : Segment) → SegmentCrosses c p x ⊎ ¬ SegmentCrosses c p x
  decide_segment x = decide_crosses (toward_of c) p (of_spot x.a) (of_spot x.b)

  of_face : (x : Segment) (h : IsSegmentOf c s x) → SegmentCrosses c p x ↔ Crosses h.face
  of_face x h = (
    (λ crosses. (of_spot x.a, of_spot x.b, h.border, crosses)),
    (λ (k, l, border, crosses).
        let one = one_border c h.face k l (of_spot x.a) (of_spot x.b) border h.border in
        subst (λ (q : Point). CrossesLeftOf (toward_of c) q (of_spot x.b) p) one.0 (subst (λ (q : Point). CrossesLeftOf (toward_of c) k q p) one.1 crosses)),
  )

  -- there is such a count
  pub segment_count : (n : ℕ) × IsCount Segment (SegmentCrosses c p) segments n
  segment_count = count_of decide_segment segments

  pub odd_left : (n : ℕ) → IsCount Segment (SegmentCrosses c p) segments n → (n % 2 ≡ 1) ↔ HasOddLeft c s p
  odd_left =
      odd_alike c s segments starts borders (SegmentCrosses c p) Crosses (λ f g ea eb ec (k, l, border, crosses). (k, l, border_moved c f g ea eb ec k l border, crosses))
      (λ f (k, l, border, crosses). crossed_of_border c f k l border) of_face decide_segment
