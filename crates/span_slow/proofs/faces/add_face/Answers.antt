use Rattle.std.proofs.Common.{◌≡◌, inl, inr, sym, subst, ap, ◌∙◌, arith, ◌++◌, List, option_to_list}
use Rattle.std.specs.Prelude.{ℤ, pos, ◌<ℤ◌}
use Rattle.std.proofs.lemmas.Int.{ints}
use Rattle.std.proofs.lemmas.List.{append_assoc}
use Rattle.lattice.specs.Points.{of_dir}
use Rattle.solid_mesh.specs.Solids.{solid_part}
use Rattle.solid_mesh.proofs.Facts.{closed, in_range, sound}
use Rattle.exact_frac.specs.declared.Frac.{Frac}
use Rattle.intervals.specs.declared.interval.Interval.{Interval}
use Rattle.hiding_laws.proofs.Directions.{somewhere}
use Rattle.span_slow.proofs.EdgeOn.{facing_read, facing_back, edge_on_where}
use Rattle.span_slow.proofs.Numbered.{on_ok, read_face}
use Rattle.span_slow.proofs.faces.add_face.Goals as goal

pub front_interval-requires-then-facing-lt0 : goal.front_interval-requires-then-facing-lt0
front_interval-requires-then-facing-lt0 c =
    let back : c.view_cross-facing.result <ℤ pos 0 = omega (arith, ints) in
    facing_back (of_dir c.args.seen.now.d) c.corner-a.result c.corner-b.result c.corner-c.result (subst (λ (z : ℤ). z <ℤ pos 0) (facing_read (of_dir c.args.seen.now.d) c.corner-a.result c.corner-b.result c.corner-c.result c.view_cross-facing.ensures.value c.between.ensures c.between-2.ensures) back)

pub returns-then-facing-gt0 : goal.returns-then-facing-gt0
returns-then-facing-gt0 c e at_a at_b f at = on_ok c.add.result (λ all. record {
  added = option_to_list c.front_interval.result;
  all = all;
  right = c.front_interval.ensures (solid_part c.args.solid.now) (sound c.args.solid.now) (in_range c.args.solid.now) e at_a at_b f (inl (read_face (solid_part c.args.solid.now) f c.args.triangle c.triangle-a.result _ _ _ at c.triangle-a.ensures.listed c.corner-a.ensures c.corner-b.ensures c.corner-c.ensures));
}) c.add.ensures

pub returns-then-facing-lt0 : goal.returns-then-facing-lt0
returns-then-facing-lt0 c e at_a at_b f at =
    let (p, q, r) = read_face (solid_part c.args.solid.now) f c.args.triangle c.triangle-a.result _ _ _ at c.triangle-a.ensures.listed c.corner-a.ensures c.corner-b.ensures c.corner-c.ensures in
    on_ok c.add-then-facing-lt0.result (λ all. record {
      added = option_to_list c.front_interval-then-facing-lt0.result;
      all = all;
      right = c.front_interval-then-facing-lt0.ensures (solid_part c.args.solid.now) (sound c.args.solid.now) (in_range c.args.solid.now) e at_a at_b f (inr (p, q, r));
    }) c.add-then-facing-lt0.ensures

-- three lists added one after another
added_thrice : (old xs ys zs first second third : List (Interval Frac)) → first ≡ old ++ xs → second ≡ first ++ ys → third ≡ second ++ zs → third ≡ old ++ (xs ++ (ys ++ zs))
added_thrice old xs ys zs first second third one two three =
    three ∙ ap (λ (l : List (Interval Frac)). l ++ zs) (two ∙ ap (λ (l : List (Interval Frac)). l ++ ys) one ∙ append_assoc old xs ys) ∙ append_assoc old (xs ++ ys) zs ∙ ap (λ (l : List (Interval Frac)). old ++ l) (append_assoc xs ys zs)

pub returns-in_ok-add-2 : goal.returns-in_ok-add-2
returns-in_ok-add-2 c e at_a at_b f at =
    let solid = c.args.solid.now in
    let s = solid_part solid in
    let seen = c.args.seen.now in
    let d = of_dir seen.d in
    let (p, q, r) = read_face (solid_part c.args.solid.now) f c.args.triangle c.triangle-a.result _ _ _ at c.triangle-a.ensures.listed c.corner-a.ensures c.corner-b.ensures c.corner-c.ensures in
    let edge_on : c.view_cross-facing.result ≡ pos 0 = omega (arith, ints) in
    let xs = option_to_list c.side_interval.result in
    let ys = option_to_list c.side_interval-else-facing-lt0.result in
    let zs = option_to_list c.side_interval-else-facing-lt0-2.result in
    on_ok c.add-else-facing-lt0-3.result (λ all. record {
      added = xs ++ (ys ++ zs);
      all = added_thrice c.args.hidden.now.items xs ys zs c.add-else-facing-lt0.new.hidden.items c.add-else-facing-lt0-2.new.hidden.items c.add-else-facing-lt0-3.new.hidden.items c.in_ok-add.ensures c.in_ok-add-2.ensures all;
      right = edge_on_where d (somewhere seen.d) (closed solid) e f c.corner-a.result c.corner-b.result c.corner-c.result p q r (sym (facing_read (of_dir c.args.seen.now.d) c.corner-a.result c.corner-b.result c.corner-c.result c.view_cross-facing.ensures.value c.between.ensures c.between-2.ensures) ∙ edge_on) xs ys zs
          (c.side_interval.ensures s (sound solid) (in_range solid) e at_a at_b f (inl (inl (sym p, sym q))))
          (c.side_interval-else-facing-lt0.ensures s (sound solid) (in_range solid) e at_a at_b f (inr (inl (inl (sym q, sym r)))))
          (c.side_interval-else-facing-lt0-2.ensures s (sound solid) (in_range solid) e at_a at_b f (inr (inr (inl (sym r, sym p)))));
    }) c.add-else-facing-lt0-3.ensures
