use Rattle.std.proofs.Common.{sym, subst, ap, ◌∙◌}
use Rattle.lattice.specs.Triple.{Triple, dot}
use Rattle.lattice.specs.Points.{of_dir}
use Rattle.lattice.proofs.SightLines.{right_axis-is}
use Rattle.cross_find.specs.Ends.{AreBeside}
use Rattle.cross_find.proofs.Passed.{component_passed, coordinate_passed}
use Rattle.cross_find.proofs.Apart.{apart_along, apart_by_x, apart_by_y, apart_by_z}
use Rattle.cross_find.proofs.cover.is_apart.Goals as goal

pub returns-then-is_beside : goal.returns-then-is_beside
returns-then-is_beside c so =
    let t = c.args.t.now in
    let o = c.args.o.now in
    let v = c.vector-v.result in
    let h = c.if-is_beside.ensures.0 so in
    apart_by_x (of_dir c.args.d.now) t.a t.b t.c o (sym (λ i. (c.vector-v.ensures.components i).x) ∙ sym (component_passed v.x v.x_in_range) ∙ h.0)
    (subst (λ (T : Type 0). T)
    (λ i. AreBeside (coordinate_passed o.x o.x_in_range i) (coordinate_passed t.a.x t.a.x_in_range i) (coordinate_passed t.b.x t.b.x_in_range i) (coordinate_passed t.c.x t.c.x_in_range i)) h.1)

pub returns-then-is_beside-2 : goal.returns-then-is_beside-2
returns-then-is_beside-2 c so =
    let t = c.args.t.now in
    let o = c.args.o.now in
    let v = c.vector-v.result in
    let h = c.if-is_beside-2.ensures.0 so in
    apart_by_y (of_dir c.args.d.now) t.a t.b t.c o (sym (λ i. (c.vector-v.ensures.components i).y) ∙ sym (component_passed v.y v.y_in_range) ∙ h.0)
    (subst (λ (T : Type 0). T)
    (λ i. AreBeside (coordinate_passed o.y o.y_in_range i) (coordinate_passed t.a.y t.a.y_in_range i) (coordinate_passed t.b.y t.b.y_in_range i) (coordinate_passed t.c.y t.c.y_in_range i)) h.1)

pub returns-then-is_beside-3 : goal.returns-then-is_beside-3
returns-then-is_beside-3 c so =
    let t = c.args.t.now in
    let o = c.args.o.now in
    let v = c.vector-v.result in
    let h = c.if-is_beside-3.ensures.0 so in
    apart_by_z (of_dir c.args.d.now) t.a t.b t.c o (sym (λ i. (c.vector-v.ensures.components i).z) ∙ sym (component_passed v.z v.z_in_range) ∙ h.0)
    (subst (λ (T : Type 0). T)
    (λ i. AreBeside (coordinate_passed o.z o.z_in_range i) (coordinate_passed t.a.z t.a.z_in_range i) (coordinate_passed t.b.z t.b.z_in_range i) (coordinate_passed t.c.z t.c.z_in_range i)) h.1)

pub returns : goal.returns
returns c so =
    let d = of_dir c.args.d.now in
    let t = c.args.t.now in
    let axis = c.right.ensures.axis in
    apart_along d t.a t.b t.c c.args.o.now _ (ap (λ (s : Triple). dot s d) axis ∙ (right_axis-is d).level) (c.is_apart_along.ensures.0 so)
