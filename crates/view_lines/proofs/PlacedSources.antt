-- Edges and other strips with the numbers of their lines in a table that holds each line once: one more of them.
use Rattle.std.proofs.Common.{◌≡◌, ℕ, ◌+◌, ◌<◌, ◌∷◌, ◌++◌, ◌∙◌, List, [], inl, inr, length, map, take, get_or, IsPermutation, refl, sym, ap, subst}
use Rattle.std.specs.List.{All}
use Rattle.std.specs.List.Sorted.{IsNonDecreasingBy}
use Rattle.std.proofs.lemmas.List.{append_assoc, map-append, map_more}
use Rattle.std.proofs.lemmas.List.Elements.{All-append, All-contains, All-map, All-nil, All-push, All-weaker, Contains-get_or}
use Rattle.std.proofs.lemmas.List.Sorted.{All-permutation, IsPermutation-map}
use Rattle.indexmap.specs.IndexSet.{insert_key}
use Rattle.geometry.specs.Views.{AreDrawnEdges}
use Rattle.lattice.specs.declared.lines.Line.{Line}
use Rattle.lattice.specs.declared.pieces.Strip.{Strip}
use Rattle.lattice.specs.Triple.{Triple}
use Rattle.line_merge.proofs.Lists.{map_contains}
use Rattle.line_merge.proofs.Numbers.{grown, stays_in, is_in}
use Rattle.line_merge.specs.Merging.{AreStrips}
use Rattle.line_merge.specs.Numbers.{same_line, number_in}
use Rattle.solid_mesh.specs.Solids.{solid_part, edge_halves}
use Rattle.solid_mesh.specs.declared.solid.Solid.{Solid}
use Rattle.span_count.specs.declared.span.EdgeSpans.{EdgeSpans}
use Rattle.view_lines.proofs.CountedEdges.{edge_within, edge_seen}
use Rattle.view_lines.specs.declared.sources.Placed.{Placed}
use Rattle.view_lines.specs.declared.sources.Source.{Source}
use Rattle.view_lines.specs.inner.Chained.{AreChained}
use Rattle.view_lines.specs.inner.Sources.{Origin, origin_of, origins, CanBeDrawn, HasLine, IsPlaced, ArePlaced, AreByLine}

module _ (d : Triple) (solid : Solid) (table after : List Line) (l : Line) (inserted : after ≡ insert_key same_line table l) where
  still : (x : Placed) → IsPlaced d solid table x → IsPlaced d solid after x
  still x h =
      let there = stays_in table after l inserted h.line h.listed in
      record { line = h.line; seen = h.seen; listed = there; number = h.number ∙ sym (grown table after l inserted h.line there) }

  pub one_more_placed : (all : List Origin) (source : Source) (n : ℕ) (placed more : List Placed) → HasLine d solid (origin_of source) l → n ≡ number_in table l
      → more ≡ placed ++ (record { source = source; line = n }) ∷ [] → ArePlaced d solid table all placed → ArePlaced d solid after (all ++ origin_of source ∷ []) more
  one_more_placed all source n placed more on at pushed h = subst (ArePlaced d solid after (all ++ origin_of source ∷ [])) (sym pushed) (record {
    same = map-append (λ (x : Placed). origin_of x.source) placed _ ∙ ap (λ (xs : List Origin). xs ++ origin_of source ∷ []) h.same;
    each = All-push (IsPlaced d solid after) placed (record { source = source; line = n }) (All-weaker (IsPlaced d solid table) (IsPlaced d solid after) still placed h.each) (record {
      line = l;
      seen = on;
      listed = is_in table after l inserted;
      number = at ∙ sym (grown table after l inserted l (is_in table after l inserted));
    });
  })

pub none_placed : (d : Triple) (solid : Solid) (table : List Line) (placed : List Placed) → placed ≡ [] → ArePlaced d solid table [] placed
none_placed d solid table placed none = subst (ArePlaced d solid table []) (sym none) (record { same = refl; each = All-nil (IsPlaced d solid table) })

pub origins_more : {A : Type 0} (f : A → Origin) (all : List Origin) (xs : List A) (k : ℕ) (x : A) → k < length xs → x ≡ get_or xs k x → (all ++ map f (take k xs)) ++ f x ∷ [] ≡ all ++ map f (take (k + 1) xs)
origins_more f all xs k x within is =
    append_assoc all (map f (take k xs)) (f x ∷ [])
    ∙ ap (λ (ys : List Origin). all ++ ys) (ap (λ (y : _). map f (take k xs) ++ f y ∷ []) is ∙ sym (map_more f xs k x within))

-- in the order of the numbers of their lines
pub placed_by_line : (d : Triple) (solid : Solid) (table : List Line) (all : List Origin) (placed sorted : List Placed) → ArePlaced d solid table all placed → IsPermutation placed sorted
    → IsNonDecreasingBy (λ (x : Placed). x.line) sorted → AreByLine d solid all sorted
placed_by_line d solid table all placed sorted h moves ascending = record {
  table = table;
  each = All-permutation (IsPlaced d solid table) placed sorted moves h.each;
  moves = subst (λ (xs : List Origin). IsPermutation xs (map (λ x. origin_of x.source) sorted)) h.same (IsPermutation-map (λ (x : Placed). origin_of x.source) placed sorted moves);
  ascending = ascending;
}

-- what may be drawn may be drawn in that order
pub drawable_placed : (d : Triple) (solid : Solid) (all : List Origin) (placed : List Placed) → IsPermutation all (map (λ x. origin_of x.source) placed) → All (CanBeDrawn d solid) all
    → All (λ x. CanBeDrawn d solid (origin_of x.source)) placed
drawable_placed d solid all placed moves drawable k e less =
    let f = λ (x : Placed). origin_of x.source in
    All-contains (CanBeDrawn d solid) (map f placed) (f (get_or placed k e)) (All-permutation (CanBeDrawn d solid) all (map f placed) moves drawable)
    (map_contains f placed (get_or placed k e) (Contains-get_or placed k e less))

-- the drawn edges with counts, and the other strips
pub drawable_view : (d : Triple) (fraction : ℕ) (solid : Solid) (entries : List EdgeSpans) (others : List Strip) → AreDrawnEdges d fraction (solid_part solid) (edge_halves solid) (map (λ x. x.edge) entries)
    → All (λ x. AreChained x.spans.items) entries → AreStrips d others → All (CanBeDrawn d solid) (origins entries others)
drawable_view d fraction solid entries others drawn chained are =
    All-append (CanBeDrawn d solid) (map inl entries) (map inr others)
    (All-map (CanBeDrawn d solid) inl entries
    (λ k e less.
    let x = get_or entries k e in
    let listed = Contains-get_or entries k e less in
    (edge_within d fraction solid entries drawn x listed, edge_seen d fraction solid entries drawn x listed, chained k e less)))
    (All-map (CanBeDrawn d solid) inr others are)
