use Rattle.std.proofs.Common.{inl, inr, refl, sym, ◌∙◌, true≢false}
use Rattle.meeting.proofs.FlatTriangles.{touch-of-flat}
use Rattle.meeting.proofs.touching.touches_flat.Goals as goal

pub returns-then-edges_touch : goal.returns-then-edges_touch
returns-then-edges_touch c =
    let s = c.args in
    (λ h. (touch-of-flat s.a.now s.b.now s.c.now s.p.now s.q.now c.requires).1 (inl (c.edges_touch.ensures.0 c.if-edges_touch.true)), λ t. refl)

pub returns : goal.returns
returns c =
    let s = c.args in
    let sides = touch-of-flat s.a.now s.b.now s.c.now s.p.now s.q.now c.requires in (
      λ h. sides.1 (inr (c.edges_touch-2.ensures.0 h)),
      λ t. elim (sides.0 t) [
        | inl x ↦ absurd (true≢false (sym (c.edges_touch.ensures.1 x) ∙ c.if-edges_touch.false))
        | inr x ↦ c.edges_touch-2.ensures.1 x
      ],
    )
