use Rattle.std.proofs.Common.{◌≡◌, ℕ, ◌+◌, ◌*◌, ◌<◌, Result, Ok, Err, OnOk, OnErr, inl, [], get_or, Vec, Global, length, refl, sym, ◌∙◌, arith}
use Rattle.std.proofs.lemmas.List.{length-map}
use Rattle.solid_mesh.specs.Stars.{lists_of}
use Rattle.out_grid.specs.Grids.{along_list, over_list, is_listed_near}
use Rattle.out_grid.proofs.CellPuts.{cell_below}
use Rattle.out_grid.proofs.Puts.{put_other_cell, over_here, over_elsewhere, over_maybe, put_law}
use Rattle.out_grid.proofs.grid.GridOutlines.put.Goals as goal

on_ok : {T E P Q : Type 0} (r : Result T E) → (P → Q) → OnOk r P → OnOk r Q
on_ok (Ok x) f p = f p
on_ok (Err x) f p = p

either : {T E P Q R : Type 0} (r : Result T E) → (P → R) → (Q → R) → OnOk r P → OnErr r Q → R
either (Ok x) f g p q = f p
either (Err x) f g p q = g q

-- the lists are as many as the vector says
vec_long : (lists : Vec (Vec ℕ Global) Global) → length lists.items ≡ lists.len
vec_long lists = omega (arith, lists.ok.0)

-- the number of no cell
none_is : (lists : Vec (Vec ℕ Global) Global) → length lists.items ≡ length (lists_of lists.items)
none_is lists = sym (length-map lists.items (λ (list : Vec ℕ Global). list.items))

still_none : (old new : Vec (Vec ℕ Global) Global) → new.len ≡ old.len → length new.items ≡ length old.items
still_none old new e = vec_long new ∙ e ∙ sym (vec_long old)

-- the cell is one of the grid's
inside : (lists : Vec (Vec ℕ Global) Global) (n column row : ℕ) → lists.len ≡ n * n → column < n → row < n → (column * n) + row < length (lists_of lists.items)
inside lists n column row full hc hr = omega (arith, none_is lists, vec_long lists, full, cell_below n column row hc hr)

pub returns-clause-others : goal.returns-clause-others
returns-clause-others c =
    let before = c.args.self.now in
    on_ok c.put_in.result (λ is k r lk lr differ. put_other_cell (lists_of before.cells.items) (lists_of c.put_in.new.cells.items) ((c.args.column * before.columns) + c.args.row) c.args.outline
    (inside before.cells before.columns c.args.column c.args.row before.full c.requires.column c.requires.row) is
    before.columns c.args.column c.args.row k r refl c.requires.row lr differ) c.put_in.ensures.put

pub returns-clause-over : goal.returns-clause-over
returns-clause-over c =
    let before = c.args.self.now in
    on_ok c.put_in.result (λ is. over_here (lists_of before.cells.items) (lists_of c.put_in.new.cells.items) ((c.args.column * before.columns) + c.args.row) c.args.outline
    (inside before.cells before.columns c.args.column c.args.row before.full c.requires.column c.requires.row) is
    before.corner_cells.items (length before.cells.items) (none_is before.cells) (length c.put_in.new.cells.items) (still_none before.cells c.put_in.new.cells c.put_in.ensures.long)) c.put_in.ensures.put

pub returns-clause-over_others : goal.returns-clause-over_others
returns-clause-over_others c =
    let before = c.args.self.now in
    on_ok c.put_in.result (λ is. over_elsewhere (lists_of before.cells.items) (lists_of c.put_in.new.cells.items) ((c.args.column * before.columns) + c.args.row) c.args.outline
    (inside before.cells before.columns c.args.column c.args.row before.full c.requires.column c.requires.row) is
    before.corner_cells.items (length before.cells.items) (none_is before.cells) (length c.put_in.new.cells.items) (still_none before.cells c.put_in.new.cells c.put_in.ensures.long)) c.put_in.ensures.put

pub returns-clause-law : goal.returns-clause-law
returns-clause-law c x p f listed =
    let before = c.args.self.now in
    let long = still_none before.cells c.put_in.new.cells c.put_in.ensures.long in
    either c.put_in.result (λ is. put_law x p (along_list before) (over_list before) _ _ (is_listed_near before) c.args.outline (λ i. refl)
    (over_maybe (lists_of before.cells.items) (lists_of c.put_in.new.cells.items) ((c.args.column * before.columns) + c.args.row) c.args.outline
    (inside before.cells before.columns c.args.column c.args.row before.full c.requires.column c.requires.row) is
    before.corner_cells.items (length before.cells.items) (none_is before.cells) (length c.put_in.new.cells.items) (still_none before.cells c.put_in.new.cells c.put_in.ensures.long) c.requires.not_there) f listed)
    (λ kept. put_law x p (along_list before) (over_list before) _ _ (is_listed_near before) c.args.outline (λ i. refl) (λ k. inl (λ i. get_or (kept i) (get_or before.corner_cells.items k (long i)) [])) f listed)
    c.put_in.ensures.put c.put_in.ensures.kept
