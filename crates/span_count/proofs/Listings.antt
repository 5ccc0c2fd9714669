-- How many edges and outlines there are, and which lists serve for a drawn edge and for its corners.
use Rattle.std.proofs.Common.{◌≡◌, ◌*◌, ◌/◌, ◌<◌, ◌≤◌, ◌^◌, ℕ, List, Contains, length, get_or, slice_get, Some, Bool, true, false, arith}
use Rattle.std.proofs.lemmas.List.Elements.{All-contains, Contains-get_or}
use Rattle.std.proofs.lemmas.Option.{slice_get_within, get_or_from_slice_get}
use Rattle.geometry.specs.Parts.{Edge}
use Rattle.geometry.specs.Turns.{number_at}
use Rattle.hiding_laws.proofs.CountAlong.{outline_of}
use Rattle.edge_pick.specs.declared.Picked.{Picked}
use Rattle.cross_find.specs.Sights.{SightState, IsSeen}
use Rattle.span_count.specs.Finders.{IsPickedIn, IsFinder}
use Rattle.span_count.specs.inner.Steps.{IsSeenEdge, AreListed, AreListedOver, IsOutlineAt}
use Rattle.edge_pick.proofs.Lists.{few_rising, few_of}

pub there_at : (xs : List ℕ) (k : ℕ) (x : ℕ) → slice_get xs k ≡ Some x → Contains xs x
there_at xs k x at = (k, slice_get_within xs k x at, get_or_from_slice_get xs k x x at)

-- ---- how many edges and outlines there are
module _ (x : SightState) (seen : IsSeen x) (p : Picked) (picked : IsPickedIn x p) where
  few_halves : length x.halves ≤ 3 * length x.part.triangles
  few_halves = few_rising x.halves (3 * length x.part.triangles) seen.edges.ascending (λ k d h.
      let (other, twin, less) = (seen.edges.exactly (get_or x.halves k d)).0 (Contains-get_or x.halves k d h) in
      let within = slice_get_within x.part.triangles (get_or x.halves k d / 3) twin.goes.tri twin.goes.at in
      omega arith)

  outlines_of_halves : length p.outlines.items ≤ length x.halves
  outlines_of_halves = few_rising p.outlines.items (length x.halves) picked.1.outlines.ascending picked.1.outlines.within

  drawn_of_halves : length p.drawn.items ≤ length x.halves
  drawn_of_halves = few_rising p.drawn.items (length x.halves) picked.1.drawn.ascending picked.1.drawn.within

  pub few_outlines : length p.outlines.items ≤ 60000
  few_outlines = omega (arith, few_halves, outlines_of_halves, seen.few_triangles)

  pub few_drawn : length p.drawn.items ≤ 60000
  few_drawn = omega (arith, few_halves, drawn_of_halves, seen.few_triangles)

  -- ---- what serves for a drawn edge
  outline_at : (i : ℕ) → Contains p.outlines.items i → IsOutlineAt x i
  outline_at i c = (All-contains (λ j. j < length x.halves) p.outlines.items i picked.1.outlines.within c, λ o at. (picked.1.outlines.exactly i o at).0 c)

  few_enough : (list : List ℕ) → length list ≤ length p.outlines.items → length list < 2 ^ 32
  few_enough list few = omega (arith, few, few_outlines)

  module _ (along over : ℕ → List ℕ) (near : ℕ → ℕ → Type 0) (finder : IsFinder x p along over near) (edge : ℕ) (drawn : Contains p.drawn.items edge) where
    in_range : edge < length x.halves
    in_range = All-contains (λ i. i < length x.halves) p.drawn.items edge picked.1.drawn.within drawn

    pub seen_edge : IsSeenEdge x edge
    seen_edge = record { in_range = in_range; seen = λ e at. ((picked.1.drawn.exactly edge e at).0 drawn).1 }

    pub few_along : length (along edge) ≤ length p.outlines.items
    few_along = few_of (along edge) p.outlines.items (finder.once edge in_range) (finder.outlines edge in_range)

    pub listed : AreListed x edge (along edge)
    listed = record {
      few = few_enough (along edge) few_along;
      outline = λ k d h. outline_at (get_or (along edge) k d) (finder.outlines edge in_range k d h);
      once = finder.once edge in_range;
      changing = λ e o i at there changes. finder.changing edge i e o drawn ((picked.1.outlines.exactly i o there).1 (outline_of x.direction e o changes)) at there changes;
    }

    module _ (e : Edge x.part) (at_b : Bool) where
      corner_in_range : number_at e at_b < length x.part.corners
      corner_in_range = by at_b
        where
          by : (at_b : Bool) → number_at e at_b < length x.part.corners
          by false = slice_get_within x.part.corners e.m e.a e.at_m
          by true = slice_get_within x.part.corners e.n e.b e.at_n

      pub few_over : length (over (number_at e at_b)) ≤ length p.outlines.items
      few_over =
          few_of (over (number_at e at_b)) p.outlines.items (finder.once_over (number_at e at_b) corner_in_range) (finder.outlines_over (number_at e at_b) corner_in_range)

      pub listed_over : AreListedOver x (number_at e at_b) (over (number_at e at_b))
      listed_over = record {
        few = few_enough (over (number_at e at_b)) few_over;
        outline = λ k d h. outline_at (get_or (over (number_at e at_b)) k d) (finder.outlines_over (number_at e at_b) corner_in_range k d h);
        once = finder.once_over (number_at e at_b) corner_in_range;
        passing = λ c o i corner there outline passes. finder.passing (number_at e at_b) i c o corner ((picked.1.outlines.exactly i o there).1 outline) there passes;
      }
