use Rattle.std.proofs.Common.{inl, inr, refl, sym, ◌∙◌, true≢false}
use Rattle.meeting.proofs.FlatBeyond.{beyond-of-flat}
use Rattle.meeting.proofs.touching.touches_beyond_flat.Goals as goal

pub returns-then-is_one_way : goal.returns-then-is_one_way
returns-then-is_one_way c =
    let s = c.args in
    (λ h. (beyond-of-flat s.a.now s.b.now s.c.now s.q.now c.requires).1 (inl (c.is_one_way.ensures.0 c.if-is_one_way.true)), λ t. refl)

pub returns : goal.returns
returns c =
    let s = c.args in
    let sides = beyond-of-flat s.a.now s.b.now s.c.now s.q.now c.requires in (
      λ h. sides.1 (inr (c.is_one_way-2.ensures.0 h)),
      λ t. elim (sides.0 t) [
        | inl x ↦ absurd (true≢false (sym (c.is_one_way.ensures.1 x) ∙ c.if-is_one_way.false))
        | inr x ↦ c.is_one_way-2.ensures.1 x
      ],
    )
