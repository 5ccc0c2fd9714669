use Rattle.std.proofs.Common.{◌≡◌, ℕ, List, sym, subst, ◌∙◌, arith, length}
use Rattle.lattice.specs.Points.{of_dir}
use Rattle.section_look.specs.Regions.{AreRegionsUntil, lists_of, none}
use Rattle.section_look.specs.declared.regions.Region.{Region}
use Rattle.section_look.proofs.Lists.{lists_length}
use Rattle.section_look.proofs.Nested.{regions_more}
use Rattle.section_look.proofs.regions.regions_of.Goals as goal

pub loop-k-init : goal.loop-k-init
loop-k-init c = subst (λ (rs : List Region). AreRegionsUntil (of_dir c.args.d.now) (lists_of c.args.loops.now) 0 rs) (sym {A = List Region} c.new-regions.ensures.items) none

pub loop-k-preserved : goal.loop-k-preserved
loop-k-preserved c = regions_more (of_dir c.args.d.now) (lists_of c.args.loops.now) c.loop-k.k _ _ c.loop-k.invariant c.in_ok-add_region.ensures

pub returns : goal.returns
returns c =
    let at_end : c.loop-k.k ≡ length c.args.loops.now = omega (arith, c.loop-k-test.false, c.loop-k.auto.k-end) in
    subst (λ (n : ℕ). AreRegionsUntil (of_dir c.args.d.now) (lists_of c.args.loops.now) n c.loop-k.regions.items) (at_end ∙ sym (lists_length c.args.loops.now)) c.loop-k.invariant
