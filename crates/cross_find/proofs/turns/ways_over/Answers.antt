use Rattle.std.proofs.Common.{true≢false, sym, subst, ◌∙◌}
use Rattle.std.specs.Prelude.{◌↔◌, IsTrue}
use Rattle.lattice.specs.Points.{of_dir}
use Rattle.geometry.specs.Turns.{turn_from, way_to}
use Rattle.hiding_laws.specs.inner.CornerTests.{PassesBetween, rise_to}
use Rattle.cross_find.proofs.CornerSigns.{wide_part}
use Rattle.cross_find.proofs.turns.ways_over.Goals as goal
use Rattle.cross_find.proofs.turns.ways_over.Goals.{then-numbers-number-via-then-numbers-number, then-numbers-number-via-else-numbers-number+then-numbers-number-2}

pub returns-then-numbers-number : goal.returns-then-numbers-number
returns-then-numbers-number c e o at_e at_o v =
    let n = c.edge-numbers.ensures.each o at_o in
    let number = sym (c.number_at-number.ensures e at_e) in
    elim c.then-numbers-number.branch [
      | then-numbers-number-via-then-numbers-number w ↦ v.not_first (n.a ∙ w.if-numbers-number.true ∙ number)
      | then-numbers-number-via-else-numbers-number+then-numbers-number-2 w ↦ v.not_second (n.b ∙ w.if-numbers-number-2.true ∙ number)
    ]

pub returns-then-not-are_in_line : goal.returns-then-not-are_in_line
returns-then-not-are_in_line c e o at_e at_o v =
    let d = of_dir c.args.d.now in
    let corner = sym (c.corner_at-c.ensures e at_e) in
    let (is_p, is_q) = c.ends.ensures o at_o in
    let a = c.way_to-a.ensures ∙ (λ i. way_to d (corner i) (sym is_p i)) in
    let b = c.way_to-b.ensures ∙ (λ i. way_to d (corner i) (sym is_q i)) in
    true≢false (sym (c.are_in_line.ensures.1 ((λ i. turn_from (a i) (b i)) ∙ v.between.on_line)) ∙ c.if-not-are_in_line.true)

pub returns-then-not-passes_between : goal.returns-then-not-passes_between
returns-then-not-passes_between c e o at_e at_o v =
    let d = of_dir c.args.d.now in
    let corner = sym (c.corner_at-c.ensures e at_e) in
    let (is_p, is_q) = c.ends.ensures o at_o in
    let a = c.way_to-a.ensures ∙ (λ i. way_to d (corner i) (sym is_p i)) in
    let b = c.way_to-b.ensures ∙ (λ i. way_to d (corner i) (sym is_q i)) in
    let f = wide_part c.rise_to.result c.rise_to.ensures.size ∙ c.rise_to.ensures.value ∙ (λ i. rise_to d (corner i) (sym is_p i)) in
    let g = wide_part c.rise_to-2.result c.rise_to-2.ensures.size ∙ c.rise_to-2.ensures.value ∙ (λ i. rise_to d (corner i) (sym is_q i)) in
    let between = subst (λ (T : Type 0). IsTrue c.passes_between.result ↔ T) (λ i. PassesBetween (a i) (b i) (f i) (g i)) c.passes_between.ensures in
    true≢false (sym (between.1 v.between) ∙ c.if-not-passes_between.true)

pub returns : goal.returns
returns c e o at_e at_o =
    let d = of_dir c.args.d.now in
    let n = c.edge-numbers.ensures.each o at_o in
    let number = c.number_at-number.ensures e at_e in
    let corner = sym (c.corner_at-c.ensures e at_e) in
    let (is_p, is_q) = c.ends.ensures o at_o in
    let a = c.way_to-a.ensures ∙ (λ i. way_to d (corner i) (sym is_p i)) in
    let b = c.way_to-b.ensures ∙ (λ i. way_to d (corner i) (sym is_q i)) in
    let f = wide_part c.rise_to.result c.rise_to.ensures.size ∙ c.rise_to.ensures.value ∙ (λ i. rise_to d (corner i) (sym is_p i)) in
    let g = wide_part c.rise_to-2.result c.rise_to-2.ensures.size ∙ c.rise_to-2.ensures.value ∙ (λ i. rise_to d (corner i) (sym is_q i)) in
    let between = subst (λ (T : Type 0). IsTrue c.passes_between.result ↔ T) (λ i. PassesBetween (a i) (b i) (f i) (g i)) c.passes_between.ensures in (
      record {
        not_first = λ m. c.if-numbers-number.false (sym n.a ∙ m ∙ number);
        not_second = λ m. c.if-numbers-number-2.false (sym n.b ∙ m ∙ number);
        between = between.0 c.if-not-passes_between.false;
      },
      a,
      b,
    )
