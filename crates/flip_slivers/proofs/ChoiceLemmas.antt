-- Which flip may be made.
use Rattle.std.proofs.Common.{◌≡◌, ◌≢◌, ℕ, ◌<◌, ◌≤◌, ◌*◌, List, length, map, get_or, Some, refl, sym, ap, ◌∙◌, subst, arith, ⊎_elim}
use Rattle.std.specs.Prelude.{slice_get, pos, ◌*ℤ◌, ◌≤ℤ◌, ◌<ℤ◌}
use Rattle.std.specs.List.{All}
use Rattle.std.proofs.lemmas.List.{length-map}
use Rattle.std.proofs.lemmas.Option.{slice_get-get_or, same_Some, slice_get_within}
use Rattle.lattice.specs.declared.points.Corner.{Corner}
use Rattle.lattice.specs.declared.soup.Tri.{Tri}
use Rattle.lattice.specs.Triangles.{IsBelow}
use Rattle.flip_slivers.specs.declared.bounded.Bounded.{Bounded}
use Rattle.flip_slivers.specs.Heights.{Placed, side_square}
use Rattle.flip_slivers.specs.Flips.{tri, IsRound, IsRise, IsSideOf, IsSliverBeside, first_of, second_of}
use Rattle.integers.proofs.Absolutes.{natural_positive, pos-product}
use Rattle.flip_slivers.specs.declared.choices.Flip.{Flip}
use Rattle.flip_slivers.specs.declared.measures.Measure.{Measure}
use Rattle.flip_slivers.specs.inner.Choices.{IsChoice, IsCandidate}
use Rattle.flip_slivers.specs.inner.Measures.{IsMeasure, AreMeasures}
use Rattle.flip_slivers.specs.inner.Lists.{triangles_of}
use Rattle.flip_slivers.proofs.HeightLemmas.{at_most_as}
use Rattle.flip_slivers.proofs.ListLemmas.{tri_at}
use Rattle.flip_slivers.proofs.OneHeight.{rise_back}

-- ---- corner numbers
pub round_below : (n : ℕ) (t u : Tri) → IsRound t u → IsBelow n t → IsBelow n u
round_below n t u round below = let P : Tri → Type 0 = λ v. IsBelow n v in ⊎_elim
    (λ e. subst P (sym e) (record { a = below.a; b = below.b; c = below.c }))
    (⊎_elim (λ e. subst P (sym e) (record { a = below.b; b = below.c; c = below.a })) (λ e. subst P (sym e) (record { a = below.c; b = below.a; c = below.b }))) round

-- the triangle at a place
pub below_at : (n : ℕ) (surface : List Bounded) (i : ℕ) (x : Bounded) → All (λ y. IsBelow n y.tri) surface → slice_get surface i ≡ Some x → IsBelow n x.tri
below_at n surface i x all at =
    let within : i < length surface = slice_get_within surface i x at in
    let P : Bounded → Type 0 = λ y. IsBelow n y.tri in
    subst P (same_Some (get_or surface i x) x (sym (slice_get-get_or surface i x within) ∙ at)) (all i x within)

pub turned_at : (surface : List Bounded) (i : ℕ) (d : Bounded) (u : Tri) → i < length surface → IsRound (get_or surface i d).tri u → (given : Bounded) → slice_get surface i ≡ Some given → IsRound given.tri u
turned_at surface i d u within round given at =
    let P : Bounded → Type 0 = λ y. IsRound y.tri u in
    subst P (same_Some (get_or surface i d) given (sym (slice_get-get_or surface i d within) ∙ at)) round

-- the turned triangle at a place
pub turned_below : (n : ℕ) (surface : List Bounded) (i : ℕ) (u : Tri) → i < length surface → All (λ y. IsBelow n y.tri) surface
    → ((given : Bounded) → slice_get surface i ≡ Some given → IsRound given.tri u) → IsBelow n u
turned_below n surface i u within all turned = round_below n (get_or surface i nothing).tri u (turned (get_or surface i nothing) (slice_get-get_or surface i nothing within)) (all i nothing within)
  where
    nothing : Bounded
    nothing = record { tri = record { a = 0; b = 0; c = 0 }; bound = 0 }

-- ---- slivers
pub same_side : (corners : List Corner) (t : Tri) (p : Placed corners t) (a b : Corner) → slice_get corners t.a ≡ Some a → slice_get corners t.b ≡ Some b → side_square a b ≡ side_square p.a p.b
same_side corners t p a b at_a at_b =
    ap (λ (k : Corner). side_square k b) (same_Some a p.a (sym at_a ∙ p.at_a)) ∙ ap (side_square p.a) (same_Some b p.b (sym at_b ∙ p.at_b))

pub low_as : (area side : ℕ) → area ≤ 4 * side → pos area ≤ℤ (pos 4 *ℤ pos side)
low_as area side h = at_most_as area (4 * side) (pos area) (pos 4 *ℤ pos side) refl (pos-product 4 side) h

pub long_as : (side : ℕ) → 0 < side → pos 0 <ℤ pos side
long_as side some = natural_positive side some

pub measured_within : (corners : List Corner) (surface : List Bounded) (measures : List Measure) (i : ℕ) → AreMeasures corners (triangles_of surface) measures → i < length surface → i < length measures
measured_within corners surface measures i are within = let e : length (map (λ (x : Bounded). x.tri) surface) ≡ length surface = length-map surface (λ (x : Bounded). x.tri) in omega (arith, are.for_each)

-- the measure of the triangle at a place
pub measure_at : (corners : List Corner) (surface : List Bounded) (measures : List Measure) (i : ℕ) (x : Bounded) (d : Measure) → AreMeasures corners (triangles_of surface) measures → slice_get surface i ≡ Some x
    → IsMeasure corners x.tri (get_or measures i d)
measure_at corners surface measures i x d are at =
    are.each i x.tri (get_or measures i d) (tri_at surface i x at) (slice_get-get_or measures i d (measured_within corners surface measures i are (slice_get_within surface i x at)))

-- ---- a choice from its parts
pub candidate_choice : (corners : List Corner) (most : ℕ) (surface : List Bounded) (place : ℕ) (t : Tri) (other d : ℕ) (f : Flip) → IsCandidate corners most surface place t other d f → place ≢ other
    → ((y : Bounded) → slice_get surface other ≡ Some y → IsRound y.tri (tri t.b t.a d)) → ¬ IsSideOf surface t.c d → ¬ IsSideOf surface d t.c
    → ((x y : Bounded) → slice_get surface place ≡ Some x → slice_get surface other ≡ Some y → IsRise corners x.tri y.tri (first_of t.a t.b t.c d) (second_of t.a t.b t.c d)) → IsChoice corners most surface f
candidate_choice corners most surface place t other d f x differ beside no_side no_side_back rises =
    let C : Flip → Type 0 = λ g. IsChoice corners most surface g in
    let R : ℕ → Type 0 = λ n. slice_get surface n ≡ Some x.is_sliver.given in
    let at : slice_get surface place ≡ Some x.is_sliver.given = subst R x.at x.is_sliver.at in
    subst C (sym x.is) (record {
      different = differ;
      sliver = x.is_sliver.given;
      neighbour = x.neighbour;
      at_sliver = at;
      at_neighbour = x.at_neighbour;
      area = x.is_sliver.area;
      side = x.is_sliver.side;
      is_sliver =
          let P : Tri → Type 0 = λ u. IsRound x.neighbour.tri (tri u.b u.a d) → IsSliverBeside corners x.is_sliver.given.tri x.neighbour.tri u.a u.b u.c d x.is_sliver.area x.is_sliver.side in
          subst P x.turned (λ b. record {
            turned = x.is_sliver.turned;
            beside = b;
            height = x.is_sliver.height;
            on_longest = x.is_sliver.on_longest;
            long = x.is_sliver.long;
            low = x.is_sliver.low;
          }) (beside x.neighbour x.at_neighbour);
      no_side = no_side;
      no_side_back = no_side_back;
      rises = rises x.is_sliver.given x.neighbour at x.at_neighbour;
      rise = x.sliver.rise;
      is_rise = x.is_sliver.is_rise;
      new_bound = x.new_bound;
    })

-- what is said of a candidate whose sliver is the second of two triangles beside each other, by what is said of the two
pub candidate_back : (corners : List Corner) (most : ℕ) (surface : List Bounded) (place : ℕ) (t : Tri) (other d : ℕ) (f : Flip) → IsCandidate corners most surface other (tri t.b t.a d) place t.c f → place ≢ other
    → ((x : Bounded) → slice_get surface place ≡ Some x → IsRound x.tri t) → ¬ IsSideOf surface t.c d → ¬ IsSideOf surface d t.c
    → ((x y : Bounded) → slice_get surface place ≡ Some x → slice_get surface other ≡ Some y → IsRise corners x.tri y.tri (first_of t.a t.b t.c d) (second_of t.a t.b t.c d)) → IsChoice corners most surface f
candidate_back corners most surface place t other d f x differ turned no_side no_side_back rises =
    candidate_choice corners most surface other (tri t.b t.a d) place t.c f x (λ e. differ (sym e)) turned no_side_back no_side
    (λ y x at_y at_x. rise_back corners x.tri y.tri t.a t.b t.c d (rises x y at_x at_y))

-- the measure that is read at a place
pub measure_read : (corners : List Corner) (surface : List Bounded) (measures : List Measure) (i : ℕ) (x : Bounded) (m : Measure) → AreMeasures corners (triangles_of surface) measures → slice_get surface i ≡ Some x
    → m ≡ get_or measures i m → IsMeasure corners x.tri m
measure_read corners surface measures i x m are at is =
    let P : Measure → Type 0 = λ k. IsMeasure corners x.tri k in
    subst P (sym is) (measure_at corners surface measures i x m are at)
