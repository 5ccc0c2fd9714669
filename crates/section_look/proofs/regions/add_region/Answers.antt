use Rattle.std.proofs.Common.{inl, inr, refl}
use Rattle.section_look.proofs.Marks.{match_true, match_false}
use Rattle.section_look.proofs.regions.add_region.Goals as goal

pub returns-then-not-is_outer : goal.returns-then-not-is_outer
returns-then-not-is_outer c = let h = match_false c.is_outer.result _ _ c.is_outer.ensures c.if-not-is_outer.true in inr (h.0, h.1, refl)

pub region_of-requires-clause-outer : goal.region_of-requires-clause-outer
region_of-requires-clause-outer c = match_true c.is_outer.result _ _ c.is_outer.ensures c.if-not-is_outer.false

pub returns : goal.returns
returns c = inl (c.in_ok-region_of.field-0, c.in_ok-region_of.ensures, c.in_ok-push.ensures.items)
