-- What a search of all edges found is the first.
use Rattle.std.proofs.Common.{◌≡◌, ℕ, ◌<◌, ◌≤◌, ◌⊎◌, inl, inr, List, All, Option, Some, None, length, refl, sym, subst, arith}
use Rattle.std.proofs.lemmas.Bool.{cases_lt}
use Rattle.std.proofs.lemmas.Option.{slice_get_within}
use Rattle.std.proofs.lemmas.List.Elements.{All-weaker}
use Rattle.lattice.specs.Triangles.{IsBelow}
use Rattle.geometry.specs.Parts.{Part, IsClosed, AreEdges}
use Rattle.solid_mesh.specs.Faults.{MeetsAt}
use Rattle.solid_mesh.specs.Meetings.{MeetApart, HaveCommonBox, HaveCommonX, IsAtMostPairs}
use Rattle.solid_mesh.specs.inner.Searches.{AtHalf, ComesBefore, IsMeeting, Searched, IsFirst}
use Rattle.solid_mesh.specs.declared.search.Meeting.{Meeting}
use Rattle.solid_mesh.specs.declared.search.SearchResult.{SearchResult}
use Rattle.solid_mesh.proofs.Apart.{apart_of_meets, meets_of_apart, none_meets}
use Rattle.solid_mesh.proofs.Meets.{box_of_apart, x_of_box}

module _ (s : Part) (halves : List ℕ) (x y : SearchResult) (h : Searched s halves (λ p. AtHalf (HaveCommonX s) halves p) x y) where
  pub boxes_at_most : x.meter.boxes ≡ 0 → IsAtMostPairs (HaveCommonX s) halves y.meter.boxes
  boxes_at_most e = record { pairs = h.boxes.pairs; hold = h.boxes.hold; differ = h.boxes.differ; most = omega (arith, h.boxes.by, e) }

  pub pairs_at_most : x.meter.pairs ≡ 0 → IsAtMostPairs (HaveCommonBox s) halves y.meter.pairs
  pairs_at_most e = record {
    pairs = h.pairs.pairs;
    hold = All-weaker (λ p. AtHalf (HaveCommonX s) halves p × AtHalf (HaveCommonBox s) halves p) (λ p. AtHalf (HaveCommonBox s) halves p) (λ p q. q.1) h.pairs.pairs h.pairs.hold;
    differ = h.pairs.differ;
    most = omega (arith, h.pairs.by, e);
  }

  module _ (closed : IsClosed s) (in_range : All (IsBelow (length s.corners)) s.triangles) (are : AreEdges s halves) where
    -- no pair that meets is before the one that was found
    not_before : (p : ℕ × ℕ) → AtHalf (MeetApart s) halves p → ComesBefore p.0 p.1 y.first → ⊥
    not_before p (half, at, meets) = h.least p (half, at, x_of_box s half p.1 (box_of_apart s half p.1 meets)) (half, at, meets)

    pub first_meeting : x.first ≡ None → IsFirst s halves y.first
    first_meeting none = by y.first refl
      where
        by : (first : Option Meeting) → y.first ≡ first → IsFirst s halves first
        by None e = none_meets s closed in_range halves are (λ p meets. not_before p meets (subst (ComesBefore p.0 p.1) (sym e) tt))
        by (Some m) e = (
          record { holds = (m.tri, there); least = λ i (t, meets). not_lower i t meets (cases_lt i m.edge) },
          record { holds = there; least = λ t meets. not_less t meets (cases_lt t m.tri) },
        )
          where
            found : AtHalf (MeetApart s) halves (m.edge, m.tri)
            found = subst (IsMeeting s halves) e (h.right (subst (IsMeeting s halves) (sym none) tt))

            there : MeetsAt s halves m.edge m.tri
            there = let (half, at, meets) = found in meets_of_apart s closed in_range halves are m.edge m.tri half at (slice_get_within halves m.edge half at) meets

            before : (i t : ℕ) → MeetsAt s halves i t → ((i < m.edge) ⊎ ((i ≡ m.edge) × (t < m.tri))) → ⊥
            before i t meets b = not_before (i, t) (apart_of_meets s closed halves i t meets) (subst (ComesBefore i t) (sym e) b)

            not_lower : (i t : ℕ) → MeetsAt s halves i t → ((i < m.edge) ⊎ (m.edge ≤ i)) → m.edge ≤ i
            not_lower i t meets (inl less) = absurd (before i t meets (inl less))
            not_lower i t meets (inr more) = more

            not_less : (t : ℕ) → MeetsAt s halves m.edge t → ((t < m.tri) ⊎ (m.tri ≤ t)) → m.tri ≤ t
            not_less t meets (inl less) = absurd (before m.edge t meets (inr (refl, less)))
            not_less t meets (inr more) = more
