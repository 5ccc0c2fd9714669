use Rattle.std.proofs.Common.{◌≡◌, ◌+◌, ◌-◌, ◌*◌, ◌<◌, get_or, sym, subst, ◌∙◌, arith}
use Rattle.std.proofs.lemmas.Option.{same_Some}
use Rattle.lattice.specs.declared.soup.Tri.{Tri}
use Rattle.out_grid.specs.inner.Triangles.{box_size}
use Rattle.out_grid.proofs.BoxSizes.{box_is}
use Rattle.out_grid.proofs.NearCells.{column_below, row_below}
use Rattle.out_grid.proofs.boxes.box_of.Goals as goal

pub returns-clause-last : goal.returns-clause-last
returns-clause-last c =
    let n = c.args.columns in
    let cells = c.args.cells.now in
    let t = c.triangle-t.result in
    let inside = c.triangle-t.ensures.within in
    let a : get_or cells t.a 0 < n * n = c.requires.within t.a 0 (omega (arith, c.requires.for_each, inside.a)) in
    let b : get_or cells t.b 0 < n * n = c.requires.within t.b 0 (omega (arith, c.requires.for_each, inside.b)) in
    let k : get_or cells t.c 0 < n * n = c.requires.within t.c 0 (omega (arith, c.requires.for_each, inside.c)) in
    c.greatest.ensures.below n (column_below n (get_or cells t.a 0) c.requires.some a) (column_below n (get_or cells t.b 0) c.requires.some b) (column_below n (get_or cells t.c 0) c.requires.some k)

pub returns-clause-high : goal.returns-clause-high
returns-clause-high c =
    let n = c.args.columns in
    let cells = c.args.cells.now in
    let t = c.triangle-t.result in
    let below = c.greatest-2.ensures.below n (row_below n (get_or cells t.a 0) c.requires.some) (row_below n (get_or cells t.b 0) c.requires.some) (row_below n (get_or cells t.c 0) c.requires.some) in
    omega (arith, below, c.from-2.ensures)

pub returns-clause-size : goal.returns-clause-size
returns-clause-size c t at =
    let cells = c.args.cells.now in
    let same = same_Some c.triangle-t.result t (sym c.triangle-t.ensures.listed ∙ at) in
    subst (λ (u : Tri). ((c.greatest.result - c.least.result) + 1) * ((c.from-2.result - c.from.result) + 1) ≡ box_size c.args.columns cells u) same
    (box_is c.triangle-t.result c.args.columns cells c.least.result c.greatest.result c.from.result c.from-2.result c.greatest.ensures.value c.least.ensures.value
    (c.from-2.ensures ∙ c.greatest-2.ensures.value) (c.from.ensures ∙ c.least-2.ensures.value))
