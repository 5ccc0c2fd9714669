-- The strips of edges, and others, that are taken in the order of the numbers of their lines, and in the order of the edges again.
use Rattle.std.proofs.Common.{◌≡◌, zero, suc, ◌≤◌, ◌⊎◌, inl, inr, List, [], ◌∷◌, ◌++◌, Contains, map, flat_map, get_or, IsPermutation, refl, sym, subst, ap, ◌∙◌, arith, append-nil}
use Rattle.std.specs.List.{All, AllZip}
use Rattle.std.proofs.lemmas.Grind.{flat_map-append}
use Rattle.std.proofs.lemmas.List.{append_assoc}
use Rattle.std.proofs.lemmas.List.Elements.{All-append, All-contains, All-push, Contains-append_cases, Contains-append_left, Contains-append_right, Contains-get_or}
use Rattle.std.proofs.lemmas.List.Sorted.{Contains-permutation, IsPermutation-sym}
use Rattle.geometry.specs.Places.{IsEarlier}
use Rattle.integers.proofs.Lists.{Contains-later}
use Rattle.lattice.proofs.SameLines.{same_line}
use Rattle.lattice.specs.declared.lines.Line.{Line}
use Rattle.lattice.specs.declared.pieces.Piece.{Piece}
use Rattle.lattice.specs.declared.pieces.Strip.{Strip}
use Rattle.lattice.specs.Lines.{IsSameLine, AreStripEnds}
use Rattle.lattice.specs.Points.{point_of}
use Rattle.lattice.specs.Triple.{Triple}
use Rattle.line_merge.proofs.Lists.{contains_first}
use Rattle.line_merge.proofs.Numbers.{one_number, same_in, numbered_in_table}
use Rattle.line_merge.proofs.Regrouped.{merged_too}
use Rattle.line_merge.proofs.Zips.{zip_push, zip_right, zip_permuted}
use Rattle.line_merge.specs.declared.by_line.LineMerge.{LineMerge}
use Rattle.line_merge.specs.Merging.{AreStrips, AreMerged}
use Rattle.line_merge.specs.Numbers.{IsNumbering, number_in, IsIn}
use Rattle.line_merge.specs.Taken.{AreTaken, MayBeTaken}
use Rattle.solid_mesh.proofs.Facts.{edge_there}
use Rattle.solid_mesh.specs.Solids.{solid_part, edge_halves}
use Rattle.solid_mesh.specs.declared.solid.Solid.{Solid}
use Rattle.span_count.specs.declared.span.EdgeSpans.{EdgeSpans}
use Rattle.lattice.specs.declared.spans.Span.{Span}
use Rattle.drawn_strips.specs.Strips.{IsStripOf, AreEdgeStrips}
use Rattle.drawn_strips.proofs.StripPlaces.{span_ends}
use Rattle.view_lines.proofs.CountedSpans.{told_earlier}
use Rattle.view_lines.specs.inner.Merged.{AreStripsTold}
use Rattle.view_lines.specs.inner.Told.{AreTold}
use Rattle.view_lines.specs.declared.sources.Placed.{Placed}
use Rattle.view_lines.specs.inner.Sources.{Origin, origin_of, origins, CanBeDrawn, HasLine, AreOriginStrips, IsPlaced, AreTakenOf}

-- ---- strips of one list behind the other
abbrev pub joined : List (List Strip) → List Strip
joined strips = flat_map (λ ys. ys) strips

joined_more : (strips : List (List Strip)) (more : List Strip) → joined (strips ++ more ∷ []) ≡ joined strips ++ more
joined_more strips more = flat_map-append (λ (ys : List Strip). ys) strips (more ∷ []) ∙ ap (λ (ys : List Strip). joined strips ++ ys) (append-nil more)

in_joined : (strips : List (List Strip)) (y : Strip) → Contains (joined strips) y → (here : List Strip) × Contains strips here × Contains here y
in_joined [] y (k, within, is) = absurd (omega arith)
in_joined (ys ∷ strips) y there = by (Contains-append_cases ys (joined strips) y there) (in_joined strips y)
  where
    by : Contains ys y ⊎ Contains (joined strips) y → (Contains (joined strips) y → (here : List Strip) × Contains strips here × Contains here y) → (here : List Strip) × Contains (ys ∷ strips) here × Contains here y
    by (inl here) later = (ys, contains_first strips ys, here)
    by (inr rest) later = let (here, listed, in_here) = later rest in (here, Contains-later ys strips here listed, in_here)

joined_in : (strips : List (List Strip)) (here : List Strip) (y : Strip) → Contains strips here → Contains here y → Contains (joined strips) y
joined_in [] here y (k, within, is) there = absurd (omega arith)
joined_in (ys ∷ strips) here y (zero, within, is) there = Contains-append_left ys (joined strips) y (subst (λ (zs : List Strip). Contains zs y) (sym is) there)
joined_in (ys ∷ strips) here y (suc k, within, is) there = Contains-append_right ys (joined strips) y (joined_in strips here y (k, omega arith, is) there)

joined_permuted : (strips others : List (List Strip)) → IsPermutation strips others → (y : Strip) → Contains (joined strips) y → Contains (joined others) y
joined_permuted strips others moves y there =
    let (here, listed, in_here) = in_joined strips y there in
    joined_in others here y (Contains-permutation strips others here moves listed) in_here

module _ (d : Triple) (solid : Solid) where
  -- ---- the strips of one edge, or the strip itself
  pub origin_ends : (x : Origin) (strips : List Strip) → CanBeDrawn d solid x → AreOriginStrips d solid x strips → AreStrips d strips
  origin_ends (inl x) strips (within, seen, chained) (spans, told, zip) = λ k z less.
      let y = get_or strips k z in
      let (e, n) = edge_there solid x.edge within in
      let (span, listed, is) = zip_right (IsStripOf d e) spans strips (zip e n) y (Contains-get_or strips k z less) in
      span_ends d e span y.line y.a y.b is.line is.from is.to
      (All-contains (λ (v : Span). IsEarlier v.from v.to) spans span (told_earlier x.spans.items spans told chained) listed) (seen e n)
  origin_ends (inr y) strips ends one = subst (AreStrips d) (sym one) (All-push (λ (x : Strip). AreStripEnds d x.line x.a x.b) [] y (λ k e less. absurd (omega arith)) ends)

  -- they are on its line
  pub origin_lines : (x : Origin) (l : Line) (strips : List Strip) → CanBeDrawn d solid x → HasLine d solid x l → AreOriginStrips d solid x strips → All (λ y. IsSameLine l y.line) strips
  origin_lines (inl x) l strips (within, seen, chained) on (spans, told, zip) = λ k z less.
      let y = get_or strips k z in
      let (e, n) = edge_there solid x.edge within in
      let (span, listed, is) = zip_right (IsStripOf d e) spans strips (zip e n) y (Contains-get_or strips k z less) in
      let here = on e n in
      same_line d l y.line (point_of e.a) (point_of e.b) (omega arith) (omega arith) (seen e n) here.first here.second is.line.first is.line.second
  origin_lines (inr y) l strips ends on one =
      subst (All (λ (z : Strip). IsSameLine l z.line)) (sym one)
      (All-push (λ (z : Strip). IsSameLine l z.line) [] y (λ k e less. absurd (omega arith)) (record { a = sym on.a; b = sym on.b; c = sym on.c }))

  module _ (table : List Line) where
    -- ---- one more is taken
    module _ (x : Placed) (is_placed : IsPlaced d solid table x) (drawable : CanBeDrawn d solid (origin_of x.source)) (strips : List Strip) (are : AreOriginStrips d solid (origin_of x.source) strips) where
      same_lines : All (λ y. IsSameLine is_placed.line y.line) strips
      same_lines = origin_lines (origin_of x.source) is_placed.line strips drawable is_placed.seen are

      in_table : All (λ y. IsIn table y.line) strips
      in_table k z less = same_in table is_placed.line (get_or strips k z).line (same_lines k z less) is_placed.listed

      on_line : All (λ y. number_in table y.line ≡ x.line) strips
      on_line k z less = sym (is_placed.number ∙ one_number table is_placed.line (get_or strips k z).line (same_lines k z less))

      pub may_be_taken : (all : List Origin) (lines : LineMerge) (so_far : AreTakenOf d solid table all lines) → lines.line ≤ x.line → MayBeTaken d (number_in table) (joined so_far.strips) lines x.line strips
      may_be_taken all lines so_far later = record { taken = so_far.taken; ends = origin_ends (origin_of x.source) strips drawable are; on_line = on_line; later = later }

      pub taken_more : (all : List Origin) (old new : LineMerge) (so_far : AreTakenOf d solid table all old) → AreTaken d (number_in table) (joined so_far.strips ++ strips) new
          → AreTakenOf d solid table (all ++ origin_of x.source ∷ []) new
      taken_more all old new so_far taken = record {
        strips = so_far.strips ++ strips ∷ [];
        each = zip_push (AreOriginStrips d solid) all so_far.strips (origin_of x.source) strips so_far.each are;
        listed = subst (All (λ (y : Strip). IsIn table y.line)) (sym (joined_more so_far.strips strips))
            (All-append (λ (y : Strip). IsIn table y.line) (joined so_far.strips) strips so_far.listed in_table);
        taken = subst (λ (ys : List Strip). AreTaken d (number_in table) ys new) (sym (joined_more so_far.strips strips)) taken;
      }

    pub taken_numbering : (all : List Origin) (lines : LineMerge) (so_far : AreTakenOf d solid table all lines) → IsNumbering (joined so_far.strips) (number_in table)
    taken_numbering all lines so_far =
        numbered_in_table table (joined so_far.strips) (λ x there. All-contains (λ (y : Strip). IsIn table y.line) (joined so_far.strips) x so_far.listed there)

  -- ---- in the order of the edges
  other_strips : (others : List Strip) (strips : List (List Strip)) → AllZip (AreOriginStrips d solid) (map inr others) strips → joined strips ≡ others
  other_strips [] [] zip = refl
  other_strips [] (ys ∷ strips) zip = absurd zip
  other_strips (y ∷ others) [] zip = absurd zip
  other_strips (y ∷ others) (ys ∷ strips) (one, more) = λ i. one i ++ other_strips others strips more i

  edge_strips : (all entries : List EdgeSpans) (others : List Strip) (strips : List (List Strip)) → ((x : EdgeSpans) → Contains entries x → Contains all x) → AllZip (AreOriginStrips d solid) (origins entries others) strips
      → (of_edges : List Strip) × AreEdgeStrips d {s = solid_part solid} (AreTold all (edge_halves solid)) (edge_halves solid) (map (λ x. x.edge) entries) of_edges × (joined strips ≡ of_edges ++ others)
  edge_strips all [] others strips listed zip = ([], refl, other_strips others strips zip)
  edge_strips all (x ∷ entries) others [] listed zip = absurd zip
  edge_strips all (x ∷ entries) others (ys ∷ strips) listed ((spans, told, each), more) =
      let (rest, are, together) = edge_strips all entries others strips (λ y there. listed y (Contains-later x entries y there)) more in (
        ys ++ rest,
        (ys, rest, refl, λ e n. record { spans = spans; right = record { entry = x; listed = listed x (contains_first entries x); numbered = n; told = told }; each = each e n }, are),
        ap (λ (zs : List Strip). ys ++ zs) together ∙ sym (append_assoc ys rest others),
      )

  pub merged_in_order : (entries : List EdgeSpans) (others : List Strip) (all : List Origin) (strips : List (List Strip)) (pieces : List Piece) → IsPermutation (origins entries others) all
      → AllZip (AreOriginStrips d solid) all strips → AreMerged d (joined strips) pieces
      → (of_edges : List Strip) × AreStripsTold d solid entries of_edges × AreMerged d (of_edges ++ others) pieces
  merged_in_order entries others all strips pieces moves each merged =
      let (back, zip, moved) = zip_permuted (AreOriginStrips d solid) all (origins entries others) strips each (IsPermutation-sym (origins entries others) all moves) in
      let (of_edges, are, together) = edge_strips entries entries others back (λ x there. there) zip in (
        of_edges,
        are,
        merged_too d (of_edges ++ others) (joined strips)
            (λ y there. joined_permuted back strips (IsPermutation-sym strips back moved) y (subst (λ (zs : List Strip). Contains zs y) (sym together) there))
            (λ y there. subst (λ (zs : List Strip). Contains zs y) together (joined_permuted strips back moved y there)) pieces merged,
      )
