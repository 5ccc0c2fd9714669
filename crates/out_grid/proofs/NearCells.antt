-- The cells of corners: which are those of a raster, how two columns and two rows are made one, and whose boxes a corner's cell is in.
use Rattle.std.proofs.Common.{◌≡◌, ◌⊎◌, inl, inr, ℕ, ◌+◌, ◌*◌, ◌/◌, ◌%◌, ◌<◌, ◌≤◌, List, All, Some, length, get_or, slice_get, sym, ap, subst, ◌∙◌, arith, div-add-mod'}
use Rattle.std.specs.Prelude.{ℤ, pos, ◌-ℤ◌, ◌<ℤ◌, ◌≤ℤ◌}
use Rattle.std.proofs.lemmas.Int.{ints, by_lt_z}
use Rattle.std.proofs.lemmas.List.Elements.{AllZip-get_or, length_all_zip}
use Rattle.std.proofs.lemmas.Nat.{div-mul-add, mod-mul-add, mod_below}
use Rattle.std.proofs.lemmas.Option.{slice_get_within, get_or_from_slice_get, slice_get-get_or}
use Rattle.std.proofs.Math.Nat.{div-lt_iff_lt-mul}
use Rattle.integers.proofs.Ring.{gap_of_less}
use Rattle.lattice.specs.declared.points.Corner.{Corner}
use Rattle.lattice.specs.Triple.{Triple, dot, right_axis, up_axis}
use Rattle.lattice.specs.Points.{point_of, scaled, difference, across_of, upward_of}
use Rattle.lattice.proofs.OnLines.{dot_difference}
use Rattle.lattice.proofs.SightLines.{right_axis-is, up_axis-level}
use Rattle.geometry.specs.Parts.{Part, Face}
use Rattle.cross_find.specs.Ends.{IsApart}
use Rattle.cross_find.proofs.Apart.{apart_along}
use Rattle.out_grid.specs.Cells.{Raster, IsRaster}
use Rattle.out_grid.specs.inner.Places.{IsCellOf}
use Rattle.out_grid.specs.inner.Triangles.{AreCellsOf, IsHalfOf, AreHalved, IsInBox}
use Rattle.out_grid.proofs.CellPuts.{cell_below}
use Rattle.out_grid.proofs.CourseNumbers.{quotient_least, under_quotient}
use Rattle.out_grid.proofs.Rasters.{wide, high}

-- ---- columns and rows of numbers
pub column_below : (n cell : ℕ) → 1 ≤ n → cell < n * n → cell / n < n
column_below n cell some h = (div-lt_iff_lt-mul some).1 h

pub row_below : (n cell : ℕ) → 1 ≤ n → cell % n < n
row_below n cell some = mod_below cell n some

pub cell_is : (n cell : ℕ) → ((cell / n) * n) + (cell % n) ≡ cell
cell_is n cell = let e = div-add-mod' cell n in omega (arith, e)

quotients_rise : (w u v : ℕ) → 0 < w → u ≤ v → (u / w) ≤ (v / w)
quotients_rise w u v some h =
    let under = under_quotient u w (u / w) some (omega arith) in
    quotient_least v w (u / w) some (omega (arith, under, h))

-- ---- those of a raster
module _ (d : Triple) (s : Part) (n : ℕ) (r : Raster) (is : IsRaster d s.corners n r) (cells : List ℕ)
    (right : (number cell : ℕ) (c : Corner) → slice_get cells number ≡ Some cell → slice_get s.corners number ≡ Some c → IsCellOf d r n c cell) where
  lesser : (u v : ℕ) (a b least : ℤ) → pos u ≡ a -ℤ least → pos v ≡ b -ℤ least → a ≤ℤ b → u ≤ v
  lesser u v a b least e f h = omega (arith, ints)

  pub cells_of_raster : length cells ≡ length s.corners → All (λ cell. cell < n * n) cells → AreCellsOf d s n cells
  cells_of_raster long within = record {
    for_each = long;
    within = within;
    across = λ i j x y a b at_x at_y at_a at_b h.
        let p = right i x a at_x at_a in
        let q = right j y b at_y at_b in
        between (column x p.u p.v p.cell_is p.in_row) (column y q.u q.v q.cell_is q.in_row)
        (quotients_rise r.width p.u q.u (wide d s.corners n r is) (lesser p.u q.u (across_of d (point_of a)) (across_of d (point_of b)) r.left p.at.across q.at.across h));
    upward = λ i j x y a b at_x at_y at_a at_b h.
        let p = right i x a at_x at_a in
        let q = right j y b at_y at_b in
        between (row x p.u p.v p.cell_is p.in_row) (row y q.u q.v q.cell_is q.in_row)
        (quotients_rise r.height p.v q.v (high d s.corners n r is) (lesser p.v q.v (upward_of d (point_of a)) (upward_of d (point_of b)) r.bottom p.at.upward q.at.upward h));
  }
    where
      column : (x u v : ℕ) → x ≡ ((u / r.width) * n) + (v / r.height) → (v / r.height) < n → x / n ≡ u / r.width
      column x u v e below = ap (λ (m : ℕ). m / n) e ∙ div-mul-add (u / r.width) n (v / r.height) below

      row : (x u v : ℕ) → x ≡ ((u / r.width) * n) + (v / r.height) → (v / r.height) < n → x % n ≡ v / r.height
      row x u v e below = ap (λ (m : ℕ). m % n) e ∙ mod-mul-add (u / r.width) n (v / r.height) below

      between : {k l p q : ℕ} → k ≡ p → l ≡ q → p ≤ q → k ≤ l
      between {k} {l} {p} {q} e f h = omega arith

-- ---- half as many
half_less : (k n : ℕ) → k < n → (k / 2) < ((n + 1) / 2)
half_less k n h = omega arith

halves_rise : (k l : ℕ) → k ≤ l → (k / 2) ≤ (l / 2)
halves_rise k l h = omega arith

module _ (n : ℕ) (some : 1 ≤ n) where
  abbrev half : ℕ
  half = (n + 1) / 2

  pub half_within : (cell h : ℕ) → cell < n * n → IsHalfOf n cell h → h < half * half
  half_within cell h within e =
      subst (λ (m : ℕ). m < half * half) (sym e)
      (cell_below half ((cell / n) / 2) ((cell % n) / 2) (half_less (cell / n) n (column_below n cell some within)) (half_less (cell % n) n (row_below n cell some)))

  half_column : (cell h : ℕ) → IsHalfOf n cell h → h / half ≡ (cell / n) / 2
  half_column cell h e = ap (λ (m : ℕ). m / half) e ∙ div-mul-add ((cell / n) / 2) half ((cell % n) / 2) (half_less (cell % n) n (row_below n cell some))

  half_row : (cell h : ℕ) → IsHalfOf n cell h → h % half ≡ (cell % n) / 2
  half_row cell h e = ap (λ (m : ℕ). m % half) e ∙ mod-mul-add ((cell / n) / 2) half ((cell % n) / 2) (half_less (cell % n) n (row_below n cell some))

  module _ (d : Triple) (s : Part) (cells halves : List ℕ) (are : AreCellsOf d s n cells) (halved : AreHalved n cells halves) where
    -- a number with its half
    record IsHalved (i h : ℕ) : Type 0 where
      cell : ℕ
      at : slice_get cells i ≡ Some cell
      of : IsHalfOf n cell h

    found : (i h : ℕ) → slice_get halves i ≡ Some h → IsHalved i h
    found i h at =
        let within : i < length cells = omega (arith, slice_get_within halves i h at, length_all_zip (IsHalfOf n) cells halves halved) in
        record {
          cell = get_or cells i 0;
          at = slice_get-get_or cells i 0 within;
          of = subst (IsHalfOf n (get_or cells i 0)) (get_or_from_slice_get halves i h 0 at) (AllZip-get_or (IsHalfOf n) cells halves i 0 0 halved within);
        }

    pub cells_halved : AreCellsOf d s half halves
    cells_halved = record {
      for_each = sym (length_all_zip (IsHalfOf n) cells halves halved) ∙ are.for_each;
      within = λ i e l.
          let within : i < length cells = omega (arith, l, length_all_zip (IsHalfOf n) cells halves halved) in
          half_within (get_or cells i e) (get_or halves i e) (are.within i e within) (AllZip-get_or (IsHalfOf n) cells halves i e e halved within);
      across = λ i j x y a b at_x at_y at_a at_b h.
          let p = found i x at_x in
          let q = found j y at_y in
          between (half_column p.cell x p.of) (half_column q.cell y q.of) (halves_rise (p.cell / n) (q.cell / n) (are.across i j p.cell q.cell a b p.at q.at at_a at_b h));
      upward = λ i j x y a b at_x at_y at_a at_b h.
          let p = found i x at_x in
          let q = found j y at_y in
          between (half_row p.cell x p.of) (half_row q.cell y q.of) (halves_rise (p.cell % n) (q.cell % n) (are.upward i j p.cell q.cell a b p.at q.at at_a at_b h));
    }
      where
        between : {k l p q : ℕ} → k ≡ p → l ≡ q → p ≤ q → k ≤ l
        between {k} {l} {p} {q} e f h = omega arith

-- ---- whose box a corner's cell is in
-- one of three values is not above another, unless all are
some_not_above : (a b c o : ℤ) → ((o <ℤ a) × (o <ℤ b) × (o <ℤ c) → ⊥) → (a ≤ℤ o) ⊎ (b ≤ℤ o) ⊎ (c ≤ℤ o)
some_not_above a b c o none =
    by_lt_z o a (λ p. by_lt_z o b (λ q. by_lt_z o c (λ r. absurd (none (p, q, r))) (λ r. inr (inr r))) (λ q. inr (inl q))) (λ p. inl p)

some_not_below : (a b c o : ℤ) → ((a <ℤ o) × (b <ℤ o) × (c <ℤ o) → ⊥) → (o ≤ℤ a) ⊎ (o ≤ℤ b) ⊎ (o ≤ℤ c)
some_not_below a b c o none =
    by_lt_z a o (λ p. by_lt_z b o (λ q. by_lt_z c o (λ r. absurd (none (p, q, r))) (λ r. inr (inr r))) (λ q. inr (inl q))) (λ p. inl p)

-- along an axis at right angles to the direction
module _ (d axis : Triple) (level : dot axis d ≡ pos 0) (a b c o : Corner) (beside : IsApart d a b c o → ⊥) where
  abbrev value : Corner → ℤ
  value k = dot axis (scaled (point_of k))

  past : (k : Corner) → value o <ℤ value k → pos 0 <ℤ dot axis (difference o k)
  past k h = subst (λ (z : ℤ). pos 0 <ℤ z) (sym (dot_difference axis o k)) (gap_of_less (value o) (value k) h)

  short : (k : Corner) → value k <ℤ value o → dot axis (difference o k) <ℤ pos 0
  short k h = subst (λ (z : ℤ). z <ℤ pos 0) (sym (dot_difference axis o k)) (gap_below (value k) (value o) h)
    where
      gap_below : (x y : ℤ) → x <ℤ y → (x -ℤ y) <ℤ pos 0
      gap_below x y h = omega (arith, ints)

  pub some_before : (value a ≤ℤ value o) ⊎ (value b ≤ℤ value o) ⊎ (value c ≤ℤ value o)
  some_before = some_not_above (value a) (value b) (value c) (value o) (λ h. beside (apart_along d a b c o axis level (inl (past a h.0, past b h.1, past c h.2))))

  pub some_after : (value o ≤ℤ value a) ⊎ (value o ≤ℤ value b) ⊎ (value o ≤ℤ value c)
  some_after = some_not_below (value a) (value b) (value c) (value o) (λ h. beside (apart_along d a b c o axis level (inr (short a h.0, short b h.1, short c h.2))))

pub each_of : {P Q R P' Q' R' : Type 0} → (P → P') → (Q → Q') → (R → R') → P ⊎ Q ⊎ R → P' ⊎ Q' ⊎ R'
each_of f g h (inl p) = inl (f p)
each_of f g h (inr (inl q)) = inr (inl (g q))
each_of f g h (inr (inr r)) = inr (inr (h r))

module _ (d : Triple) (s : Part) (n : ℕ) (cells : List ℕ) (are : AreCellsOf d s n cells) (f : Face s) (number cell : ℕ) (c : Corner)
    (at : slice_get s.corners number ≡ Some c) (there : slice_get cells number ≡ Some cell) (beside : IsApart d f.a f.b f.c c → ⊥) where
  cell_there : (k : ℕ) (p : Corner) → slice_get s.corners k ≡ Some p → slice_get cells k ≡ Some (get_or cells k 0)
  cell_there k p h = slice_get-get_or cells k 0 (omega (arith, are.for_each, slice_get_within s.corners k p h))

  before_across : (k : ℕ) (p : Corner) → slice_get s.corners k ≡ Some p → across_of d (point_of p) ≤ℤ across_of d (point_of c) → (get_or cells k 0 / n) ≤ (cell / n)
  before_across k p h = are.across k number (get_or cells k 0) cell p c (cell_there k p h) there h at

  after_across : (k : ℕ) (p : Corner) → slice_get s.corners k ≡ Some p → across_of d (point_of c) ≤ℤ across_of d (point_of p) → (cell / n) ≤ (get_or cells k 0 / n)
  after_across k p h = are.across number k cell (get_or cells k 0) c p there (cell_there k p h) at h

  before_upward : (k : ℕ) (p : Corner) → slice_get s.corners k ≡ Some p → upward_of d (point_of p) ≤ℤ upward_of d (point_of c) → (get_or cells k 0 % n) ≤ (cell % n)
  before_upward k p h = are.upward k number (get_or cells k 0) cell p c (cell_there k p h) there h at

  after_upward : (k : ℕ) (p : Corner) → slice_get s.corners k ≡ Some p → upward_of d (point_of c) ≤ℤ upward_of d (point_of p) → (cell % n) ≤ (get_or cells k 0 % n)
  after_upward k p h = are.upward number k cell (get_or cells k 0) c p there (cell_there k p h) at h

  pub is_in_box : IsInBox n cells f.tri (cell / n) (cell % n)
  is_in_box = record {
    in_columns = record {
      from = each_of (before_across f.tri.a f.a f.at_a) (before_across f.tri.b f.b f.at_b) (before_across f.tri.c f.c f.at_c)
          (some_before d (right_axis d) (right_axis-is d).level f.a f.b f.c c beside);
      to = each_of (after_across f.tri.a f.a f.at_a) (after_across f.tri.b f.b f.at_b) (after_across f.tri.c f.c f.at_c)
          (some_after d (right_axis d) (right_axis-is d).level f.a f.b f.c c beside);
    };
    in_rows = record {
      from = each_of (before_upward f.tri.a f.a f.at_a) (before_upward f.tri.b f.b f.at_b) (before_upward f.tri.c f.c f.at_c)
          (some_before d (up_axis d) (up_axis-level d (right_axis d)) f.a f.b f.c c beside);
      to = each_of (after_upward f.tri.a f.a f.at_a) (after_upward f.tri.b f.b f.at_b) (after_upward f.tri.c f.c f.at_c)
          (some_after d (up_axis d) (up_axis-level d (right_axis d)) f.a f.b f.c c beside);
    };
  }
