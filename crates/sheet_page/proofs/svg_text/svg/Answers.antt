use Rattle.std.proofs.Common.{◌≡◌, ℕ, ◌++◌, List, arith, rules, subst, ap, ◌∙◌, FitsSigned}
use Rattle.std.specs.Int.{w64}
use Rattle.std.specs.List.{flat_map}
use Rattle.std.proofs.lemmas.Int.{to_z-of_z}
use Rattle.sheet_page.specs.Pens.{pens_of}
use Rattle.sheet_page.specs.Svg.{head, standing, group, groups_below, drawn_by, svg_of}
use Rattle.sheet_page.specs.declared.page.Item.{Item}
use Rattle.sheet_page.specs.declared.pens.Pens.{Pens}
use Rattle.sheet_page.proofs.Written.{after_view}
use Rattle.sheet_page.proofs.svg_text.svg.Goals as goal

pub loop-view-preserved : goal.loop-view-preserved
loop-view-preserved c =
    let page = c.args.page.now in
    let pens = c.pens_of-pens.result in
    let items = page.items.items in
    let here = c.in_ok-add_group.ensures ∙ ap (λ (all : List Item). c.loop-view.text.items ++ group pens c.loop-view.view all) c.as_slice-in-loop-view.ensures.value in
    after_view pens _ _ (head page.width page.height ++ flat_map (standing pens) items) c.loop-view.view items here c.loop-view.invariant

pub returns : goal.returns
unfolding svg_of
returns c =
    let page = c.args.page.now in
    let pens = c.pens_of-pens.result in
    let width_fits : FitsSigned w64 page.width = search rules in
    let height_fits : FitsSigned w64 page.height = search rules in
    let pens_are : pens ≡ pens_of page.width page.height = simp to_z-of_z at c.pens_of-pens.ensures in
    let all : c.loop-view.view ≡ page.views = omega (arith, c.loop-view-test.false, c.loop-view.auto.view-end) in
    let groups = c.loop-view.invariant ∙ ap (λ (n : ℕ). (head page.width page.height ++ flat_map (standing pens) page.items.items) ++ groups_below pens n page.items.items) all in
    subst (λ (p : Pens). c.extend_from_slice.new.self.items ≡ drawn_by p page) pens_are (c.in_ok-extend_from_slice.ensures.items ∙ (λ i. groups i ++ c.as_bytes.ensures.value i))
