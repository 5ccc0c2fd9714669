use Rattle.std.proofs.Common.{◌≡◌, ℕ, ◌<◌, List, [], Contains, Vec, Global, Some, None, length, get_or, slice_get, sym, ap, subst, ◌∙◌, arith}
use Rattle.std.specs.List.Sorted.{IsNonDecreasing}
use Rattle.std.proofs.lemmas.List.{get_or-map, get_or_past, length-map}
use Rattle.std.proofs.lemmas.Option.{get_or_from_slice_get}
use Rattle.solid_mesh.specs.Stars.{lists_of}
use Rattle.span_count.specs.Finders.{IsNext}
use Rattle.span_count.proofs.Lists.{none_past}
use Rattle.out_grid.specs.declared.near.NearTriangles.{NearTriangles}
use Rattle.out_grid.specs.Near.{near_list}
use Rattle.out_grid.proofs.Stamps.{none_in}
use Rattle.out_grid.proofs.near.NearTriangles.next_near.Goals as goal

abbrev items_of : Vec ℕ Global → List ℕ
items_of list = list.items

-- the list of a corner's cell
read_list : (t : NearTriangles) (cell : ℕ) (list : Vec ℕ Global) → cell < length t.cells.items → list ≡ get_or t.cells.items cell list → list.items ≡ get_or (lists_of t.cells.items) cell []
read_list t cell list within is = ap items_of is ∙ sym (get_or-map items_of t.cells.items cell list [] within)

read_near : (t : NearTriangles) (corner cell : ℕ) (list : Vec ℕ Global) → slice_get t.corner_cells.items corner ≡ Some cell → list ≡ get_or t.cells.items cell list → list.items ≡ near_list t corner
read_near t corner cell list at is =
    read_list t cell list (t.within corner cell at) is ∙ ap (λ (k : ℕ). get_or (lists_of t.cells.items) k []) (sym (get_or_from_slice_get t.corner_cells.items corner cell (length t.cells.items) at))

near_none : (t : NearTriangles) (corner : ℕ) → slice_get t.corner_cells.items corner ≡ None → near_list t corner ≡ []
near_none t corner none =
    ap (λ (k : ℕ). get_or (lists_of t.cells.items) k []) (get_or_past t.corner_cells.items corner (length t.cells.items) (none_past t.corner_cells.items corner none))
    ∙ get_or_past (lists_of t.cells.items) (length t.cells.items) [] (omega (arith, length-map t.cells.items items_of))

pub index-requires : goal.index-requires
index-requires c =
    let t = c.args.self.now in
    let at : slice_get t.corner_cells.items c.args.corner ≡ Some c.in-Some.cell = subst (λ (xs : List ℕ). slice_get xs c.args.corner ≡ Some c.in-Some.cell) c.deref.ensures.value (sym c.at.ensures ∙ c.in-Some.is) in
    omega (arith, t.within c.args.corner c.in-Some.cell at, t.cells.ok.0)

pub first_from-requires : goal.first_from-requires
first_from-requires c =
    let t = c.args.self.now in
    let at : slice_get t.corner_cells.items c.args.corner ≡ Some c.in-Some.cell = subst (λ (xs : List ℕ). slice_get xs c.args.corner ≡ Some c.in-Some.cell) c.deref.ensures.value (sym c.at.ensures ∙ c.in-Some.is) in
    subst IsNonDecreasing (sym (c.deref-2.ensures.value ∙ read_list t c.in-Some.cell c.index.result.now (t.within c.args.corner c.in-Some.cell at) c.index.ensures)) (t.ascending c.args.corner c.in-Some.cell at)

pub returns-in_default : goal.returns-in_default
returns-in_default c =
    let t = c.args.self.now in
    let none : slice_get t.corner_cells.items c.args.corner ≡ None = subst (λ (xs : List ℕ). slice_get xs c.args.corner ≡ None) c.deref.ensures.value (sym c.at.ensures ∙ c.in_default.is) in
    λ k above there. none_in k (subst (λ (xs : List ℕ). Contains xs k) (near_none t c.args.corner none) there)

pub returns : goal.returns
returns c =
    let t = c.args.self.now in
    let at : slice_get t.corner_cells.items c.args.corner ≡ Some c.in-Some.cell = subst (λ (xs : List ℕ). slice_get xs c.args.corner ≡ Some c.in-Some.cell) c.deref.ensures.value (sym c.at.ensures ∙ c.in-Some.is) in
    subst (λ (xs : List ℕ). IsNext (Contains xs) c.args.from c.first_from.result) (c.deref-2.ensures.value ∙ read_near t c.args.corner c.in-Some.cell c.index.result.now at c.index.ensures) c.first_from.ensures
