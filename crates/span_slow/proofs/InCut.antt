-- An edge in a cut view: what is so of the corners that the code holds is so of the edge, along the direction of the cut.
use Rattle.std.proofs.Common.{◌≡◌, ◌∙◌, subst}
use Rattle.lattice.specs.declared.points.Corner.{Corner}
use Rattle.lattice.specs.Triple.{Triple}
use Rattle.lattice.specs.Points.{of_dir, of_vector, point_of}
use Rattle.lattice.specs.Cuts.{plane_of, toward_of}
use Rattle.geometry.specs.Parts.{Part, Edge}
use Rattle.hiding_laws.specs.Values.{behind_of, IsAhead, IsInLine}
use Rattle.span_slow.specs.declared.cut_seen.CutEdge.{CutEdge}
use Rattle.span_slow.specs.declared.linear.Linear.{Linear}
use Rattle.span_slow.proofs.Sides.{ahead_at, in_line_at}
use Rattle.span_slow.proofs.Where.{Tells, tells}

module _ (x : CutEdge) {s : Part} (e : Edge s) (at_a : e.a ≡ x.seen.a) (at_b : e.b ≡ x.seen.b) where
  abbrev d : Triple
  d = toward_of (plane_of x.cut)

  abbrev axis : Triple
  axis = of_vector x.seen.axis

  pub ahead : IsAhead d axis e.a e.b
  ahead = ahead_at d axis e x.seen.a x.seen.b at_a at_b (subst (λ (v : Triple). IsAhead v axis x.seen.a x.seen.b) x.along x.seen.ahead)

  pub in_line : (k l : Corner) → IsInLine (of_dir x.seen.d) x.seen.a x.seen.b k l → IsInLine d e.a e.b k l
  in_line k l h = (in_line_at d e x.seen.a x.seen.b k l at_a at_b).1 (subst (λ (v : Triple). IsInLine v x.seen.a x.seen.b k l) x.along h)

  pub tells_behind : (k l : Corner) (v : Linear) → v.start ≡ behind_of (of_dir x.seen.d) axis k l (point_of x.seen.a) → v.end ≡ behind_of (of_dir x.seen.d) axis k l (point_of x.seen.b) → Tells e v (behind_of d axis k l)
  tells_behind k l v start end =
      tells e v (behind_of d axis k l) x.seen.a x.seen.b at_a at_b
      (start ∙ (λ t. behind_of (x.along t) axis k l (point_of x.seen.a))) (end ∙ (λ t. behind_of (x.along t) axis k l (point_of x.seen.b)))
