-- A job has a sheet for a part, or its views don't fit.
use Rattle.std.proofs.Common.{◌≡◌, ◌⊎◌, inl, inr, ℕ, zero, suc, ◌%◌, ◌<◌, ◌≤◌, ◌^◌, Bool, true, false, IsTrue, List, [], ◌∷◌, All, length, take, get_or, slice_get, Option, Some, None, refl, sym, ap, subst, ◌∙◌, arith}
use Rattle.std.specs.Prelude.{ℤ, pos, ◌+ℤ◌, ◌-ℤ◌, ◌≤ℤ◌, unsigned_abs}
use Rattle.std.proofs.lemmas.Int.{ints}
use Rattle.std.proofs.lemmas.List.{length-take-le}
use Rattle.std.proofs.lemmas.List.Elements.{All-take}
use Rattle.std.proofs.lemmas.Option.{slice_get-get_or, slice_get_within, get_or_from_slice_get, same_Some}
use Rattle.std.proofs.lemmas.Slice.Zip.{AllZip-long}
use Rattle.integers.proofs.Lists.{some_element}
use Rattle.lattice.specs.declared.points.Corner.{Corner}
use Rattle.lattice.specs.Points.{of_dir}
use Rattle.job_file.specs.declared.job.Job.{Job}
use Rattle.job_file.specs.declared.job.Paper.{Paper}
use Rattle.job_file.specs.declared.job.Paper.TheVariants.{A0, A1, A2, A3, A4}
use Rattle.job_file.specs.declared.job.Scale.{Scale}
use Rattle.job_file.specs.declared.view.JobView.{JobView}
use Rattle.job_file.specs.Scales.{is_scale}
use Rattle.job_file.specs.Seen.{direction_seen}
use Rattle.sheet_plan.specs.declared.bounds.Extent.{Extent}
use Rattle.sheet_plan.specs.declared.sheet.Sheet.{Sheet}
use Rattle.sheet_plan.specs.declared.sheet.Spread.{Spread}
use Rattle.sheet_plan.specs.Extents.{IsExtent, AreExtents}
use Rattle.sheet_plan.specs.Layout.{cell_of, across_at, upward_at, shape_of, shapes_of, need_w, need_h, have_w, have_h, cell_x, cell_y, StandsInCell, AreInPlace}
use Rattle.sheet_plan.specs.Numbers.{Measure}
use Rattle.sheet_plan.specs.Plans.{sheet_width, sheet_height, job_shapes, FitsAt, fit_dens, NoneFits, IsChosen, IsSheetAt, IsPlanned, HasNoRoom, HasNoScale}
use Rattle.sheet_plan.specs.inner.Sizes.{IsSmall}
use Rattle.sheet_plan.proofs.Rooms.{length_shapes_of}
use Rattle.sheet_plan.proofs.Scales.{scale_bounds}
use Rattle.answers_exist.proofs.Decided.{Decided, decided_as, decided_both, decided_at_most, IsFirstBelow, first_below}
use Rattle.answers_exist.proofs.Vectors.{vec_of}
use Rattle.answers_exist.proofs.LayoutSizes.{shapes_small, shape_small, x_small, y_small}

-- ---- lists
-- a list of n things of which something is true at their places, where there is such a thing at each place
listed : {X : Type 0} (P : ℕ → X → Type 0) (n : ℕ) → ((i : ℕ) → i < n → (x : X) × P i x) → (xs : List X) × (length xs ≡ n) × ((i : ℕ) (x : X) → slice_get xs i ≡ Some x → P i x)
listed {X} P zero each = ([], refl, λ i x at. absurd (omega (arith, slice_get_within {A = X} [] i x at)))
listed {X} P (suc n) each = by (each 0 (omega arith)) (listed (λ i. P (suc i)) n (λ i h. each (suc i) (omega (arith, h))))
  where
    by : (x : X) × P 0 x → (xs : List X) × (length xs ≡ n) × ((i : ℕ) (x : X) → slice_get xs i ≡ Some x → P (suc i) x) → (xs : List X) × (length xs ≡ suc n) × ((i : ℕ) (x : X) → slice_get xs i ≡ Some x → P i x)
    by (x, p) (xs, long, others) = (x ∷ xs, ap suc long, at)
      where
        at : (i : ℕ) (y : X) → slice_get (x ∷ xs) i ≡ Some y → P i y
        at zero y e = subst (P 0) (same_Some x y e) p
        at (suc i) y e = others i y e

-- ---- shapes of views
-- what is so of the thing at this place
abbrev At : {C : Type 0} → List C → ℕ → (C → Type 0) → Type 0
At {C} xs i P = (x : C) → slice_get xs i ≡ Some x → P x

shape_there : (third : Bool) (m : Measure) (vs : List JobView) (es : List Extent) (i : ℕ) (v : JobView) (e : Extent) → slice_get vs i ≡ Some v → slice_get es i ≡ Some e → slice_get (shapes_of third m vs es) i ≡ Some (shape_of third m v e)
shape_there third m [] es i v e at reaches = absurd (omega (arith, slice_get_within {A = JobView} [] i v at))
shape_there third m (v ∷ vs) [] i w e at reaches = absurd (omega (arith, slice_get_within {A = Extent} [] i e reaches))
shape_there third m (v ∷ vs) (x ∷ es) zero w e at reaches = λ k. Some (shape_of third m (same_Some v w at k) (same_Some x e reaches k))
shape_there third m (v ∷ vs) (x ∷ es) (suc i) w e at reaches = shape_there third m vs es i w e at reaches

-- ---- a sheet at one scale
origin_small : (c l : ℤ) → unsigned_abs c < 2 ^ 53 → unsigned_abs l ≤ 2 ^ 45 → (unsigned_abs (c -ℤ l) < 2 ^ 60) × (unsigned_abs (c +ℤ l) < 2 ^ 60)
origin_small c l h k = (omega (arith, ints, h, k), omega (arith, ints, h, k))

module _ (job : Job) (extents : List Extent) (as_many : length extents ≡ length job.views.items) (scale : Scale) where
  abbrev m : Measure
  m = record { num = scale.num; den = scale.den; decimals = job.decimals }

  many_shapes : length (job_shapes job extents scale.num scale.den) ≡ length job.views.items
  many_shapes = length_shapes_of job.third m job.views.items extents (sym as_many)

  few_shapes : length (job_shapes job extents scale.num scale.den) ≤ 12
  few_shapes = let few = job.few_views in omega (arith, many_shapes, few)

  small : All IsSmall (job_shapes job extents scale.num scale.den)
  small = let b = scale_bounds scale.num scale.den scale.listed in shapes_small m b.num_greatest b.den_least b.den_greatest job.few_decimals job.third job.views.items extents

  -- a view stands in its cell
  IsPlaced : ℕ → Spread → Type 0
  IsPlaced i place = ((e : Extent) → slice_get extents i ≡ Some e → of_dir place.d ≡ of_dir e.d) × At (job_shapes job extents scale.num scale.den) i (λ s. StandsInCell (job_shapes job extents scale.num scale.den) i s place)

  module _ (i : ℕ) (less : i < length job.views.items) (v : JobView) (e : Extent) (at : slice_get job.views.items i ≡ Some v) (reaches : slice_get extents i ≡ Some e) where
    taken : length (take i (job_shapes job extents scale.num scale.den)) ≤ 12
    taken = let few = few_shapes in omega (arith, few, less, many_shapes, length-take-le i (job_shapes job extents scale.num scale.den) (omega (arith, less, many_shapes)))

    x_there : unsigned_abs (cell_x (job_shapes job extents scale.num scale.den) i (cell_of job.third v.named)) < 2 ^ 53
    x_there = x_small (job_shapes job extents scale.num scale.den) small job.third v.named i taken (All-take IsSmall i (job_shapes job extents scale.num scale.den) small)

    y_there : unsigned_abs (cell_y (job_shapes job extents scale.num scale.den) (cell_of job.third v.named)) < 2 ^ 53
    y_there = y_small (job_shapes job extents scale.num scale.den) small job.third v.named

    placed : (place : Spread) × IsPlaced i place
    unfolding IsPlaced
    placed =
        let b = scale_bounds scale.num scale.den scale.listed in
        let shape = shape_small m b.num_greatest b.den_least b.den_greatest job.few_decimals job.third v e in
        let there = shape_there job.third m job.views.items extents i v e at reaches in
        let x = cell_x (job_shapes job extents scale.num scale.den) i (cell_of job.third v.named) in
        let y = cell_y (job_shapes job extents scale.num scale.den) (cell_of job.third v.named) in
        let l = across_at m (of_dir e.d) e.u_min in
        let t = upward_at m (of_dir e.d) e.v_max in
        let place : Spread = record { d = e.d; x0 = x -ℤ l; y0 = y +ℤ t; x_in_range = (origin_small x l x_there shape.left).0; y_in_range = (origin_small y t y_there shape.top).1 } in (
          place,
          (
            (λ f h. ap (λ (k : Extent). of_dir k.d) (same_Some e f (sym reaches ∙ h))),
            (λ s h. subst (λ z. StandsInCell (job_shapes job extents scale.num scale.den) i z place) (same_Some _ _ (sym there ∙ h)) (record { x = refl; y = refl })),
          ),
        )

  placed_at : (i : ℕ) → i < length job.views.items → (place : Spread) × IsPlaced i place
  placed_at i less =
      let (v, at) = some_element job.views.items i less in
      let (e, reaches) = some_element extents i (omega (arith, less, as_many)) in
      placed i less v e at reaches

  some_places : (places : List Spread) × (length places ≡ length job.views.items) × AreInPlace (job_shapes job extents scale.num scale.den) extents places
  unfolding IsPlaced
  some_places =
      let (places, long, each) = listed IsPlaced (length job.views.items) placed_at in (
        places,
        long,
        record {
          count = long ∙ sym many_shapes;
          direction = λ i e place reaches at. (each i place at).0 e reaches;
          each = λ i s place at_shape at. (each i place at).1 s at_shape;
        },
      )

  -- ---- the sheet itself
  record IsFormat (w : ℤ) : Type 0 where
    whole : unsigned_abs w % 100 ≡ 0
    least : pos 4000 ≤ℤ w
    in_range : unsigned_abs w < 2 ^ 60

  width_format : (p : Paper) (portrait : Bool) → IsFormat (sheet_width p portrait)
  width_format A0 true = record { whole = refl; least = omega (arith, ints); in_range = omega arith }
  width_format A0 false = record { whole = refl; least = omega (arith, ints); in_range = omega arith }
  width_format A1 true = record { whole = refl; least = omega (arith, ints); in_range = omega arith }
  width_format A1 false = record { whole = refl; least = omega (arith, ints); in_range = omega arith }
  width_format A2 true = record { whole = refl; least = omega (arith, ints); in_range = omega arith }
  width_format A2 false = record { whole = refl; least = omega (arith, ints); in_range = omega arith }
  width_format A3 true = record { whole = refl; least = omega (arith, ints); in_range = omega arith }
  width_format A3 false = record { whole = refl; least = omega (arith, ints); in_range = omega arith }
  width_format A4 true = record { whole = refl; least = omega (arith, ints); in_range = omega arith }
  width_format A4 false = record { whole = refl; least = omega (arith, ints); in_range = omega arith }

  height_format : (p : Paper) (portrait : Bool) → IsFormat (sheet_height p portrait)
  height_format A0 true = record { whole = refl; least = omega (arith, ints); in_range = omega arith }
  height_format A0 false = record { whole = refl; least = omega (arith, ints); in_range = omega arith }
  height_format A1 true = record { whole = refl; least = omega (arith, ints); in_range = omega arith }
  height_format A1 false = record { whole = refl; least = omega (arith, ints); in_range = omega arith }
  height_format A2 true = record { whole = refl; least = omega (arith, ints); in_range = omega arith }
  height_format A2 false = record { whole = refl; least = omega (arith, ints); in_range = omega arith }
  height_format A3 true = record { whole = refl; least = omega (arith, ints); in_range = omega arith }
  height_format A3 false = record { whole = refl; least = omega (arith, ints); in_range = omega arith }
  height_format A4 true = record { whole = refl; least = omega (arith, ints); in_range = omega arith }
  height_format A4 false = record { whole = refl; least = omega (arith, ints); in_range = omega arith }

  sheet_at : FitsAt job extents scale.num scale.den → (sheet : Sheet) × IsSheetAt job extents scale.num scale.den sheet
  sheet_at fits =
      let (places, long, in_place) = some_places in
      let few = job.few_views in
      let v = vec_of job.views.alloc places (omega (arith, long, few)) in
      let w = width_format job.paper job.portrait in
      let h = height_format job.paper job.portrait in (
        record {
          width = sheet_width job.paper job.portrait;
          height = sheet_height job.paper job.portrait;
          decimals = job.decimals;
          scale = scale;
          places = v;
          few_decimals = job.few_decimals;
          whole_width = w.whole;
          whole_height = h.whole;
          least_width = w.least;
          least_height = h.least;
          width_in_range = w.in_range;
          height_in_range = h.in_range;
        },
        record {
          width = refl;
          height = refl;
          decimals = refl;
          num_is = refl;
          den_is = refl;
          fits = fits;
          in_place = in_place;
        },
      )

-- ---- a scale
module _ (job : Job) (extents : List Extent) where
  decided_fits : (num den : ℕ) → Decided (FitsAt job extents num den)
  decided_fits num den =
      let shapes = job_shapes job extents num den in
      decided_as ((λ both. record { across = both.0; down = both.1 }), (λ h. (h.across, h.down)))
      (decided_both (decided_at_most (need_w shapes) (have_w (sheet_width job.paper job.portrait))) (decided_at_most (need_h shapes) (have_h (sheet_height job.paper job.portrait))))

  no_room : (num den : ℕ) → ¬ FitsAt job extents num den
      → HasNoRoom job extents num den (need_w (job_shapes job extents num den)) (need_h (job_shapes job extents num den)) (have_w (sheet_width job.paper job.portrait)) (have_h (sheet_height job.paper job.portrait))
  no_room num den fails = record { not_fit = fails; need_w_is = refl; need_h_is = refl; have_w_is = refl; have_h_is = refl }

  -- the lack of room, by its four numbers
  abbrev LacksRoom : Option Scale → Type 0
  LacksRoom scale = (w : ℤ) × (h : ℤ) × (room_w : ℤ) × (room_h : ℤ) × HasNoScale scale job extents w h room_w room_h

  -- a scale that is asked for, or the first that fits
  abbrev Planned : Option Scale → Type 0
  Planned asked = (scale : Scale) × IsChosen asked job extents scale.num scale.den × FitsAt job extents scale.num scale.den

  asked_scale : (scale : Scale) → Decided (FitsAt job extents scale.num scale.den) → Planned (Some scale) ⊎ LacksRoom (Some scale)
  asked_scale scale (inl fits) = inl (scale, (refl, refl), fits)
  asked_scale scale (inr fails) = inr (_, _, _, _, no_room scale.num scale.den fails)

  -- one of the scales that are tried
  abbrev den_at : ℕ → ℕ
  den_at j = get_or fit_dens j 100

  den_listed : (j : ℕ) → IsTrue (is_scale 1 (den_at j))
  den_listed zero = refl
  den_listed (suc zero) = refl
  den_listed (suc (suc zero)) = refl
  den_listed (suc (suc (suc zero))) = refl
  den_listed (suc (suc (suc (suc zero)))) = refl
  den_listed (suc (suc (suc (suc (suc zero))))) = refl
  den_listed (suc (suc (suc (suc (suc (suc j)))))) = last j
    where
      last : (j : ℕ) → IsTrue (is_scale 1 (get_or (100 ∷ []) j 100))
      last zero = refl
      last (suc j) = refl

  none_fits : (n : ℕ) → ((j : ℕ) → j < n → ¬ FitsAt job extents 1 (den_at j)) → NoneFits job extents n
  none_fits n none j den less at fits = none j less (subst (λ (d : ℕ). FitsAt job extents 1 d) (sym (get_or_from_slice_get fit_dens j den 100 at)) fits)

  usual_scale : ((j : ℕ) × IsFirstBelow (λ j. FitsAt job extents 1 (den_at j)) 7 j) ⊎ ((j : ℕ) → j < 7 → ¬ FitsAt job extents 1 (den_at j)) → Planned None ⊎ LacksRoom None
  usual_scale (inl (j, first)) =
      inl (
        record { num = 1; den = den_at j; listed = den_listed j },
        record { number = j; listed = slice_get-get_or fit_dens j 100 first.within; one = refl; none_before = none_fits j first.none_before },
        first.holds,
      )
  usual_scale (inr none) = inr (_, _, _, _, (none_fits 7 none, no_room 1 100 (none 6 (omega arith))))

  planned_or_not : (asked : Option Scale) → Planned asked ⊎ LacksRoom asked
  planned_or_not (Some scale) = asked_scale scale (decided_fits scale.num scale.den)
  planned_or_not None = usual_scale (first_below (λ j. FitsAt job extents 1 (den_at j)) (λ j. decided_fits 1 (den_at j)) 7)

-- ---- a sheet
module _ (job : Job) (corners : List Corner) (extents : List Extent) (reach : AreExtents corners job.views.items extents) where
  as_long : length extents ≡ length job.views.items
  as_long = AllZip-long (λ (v : JobView) (e : Extent). IsExtent (direction_seen v.spec) corners e) job.views.items extents reach

  by_plan : Planned job extents job.scale ⊎ LacksRoom job extents job.scale → ((sheet : Sheet) × IsPlanned job extents sheet) ⊎ LacksRoom job extents job.scale
  by_plan (inl (scale, chosen, fits)) =
      let (sheet, at) = sheet_at job extents as_long scale fits in
      inl (sheet, record { num = scale.num; den = scale.den; chosen = chosen; sheet_at = at })
  by_plan (inr lacks) = inr lacks

  -- for a part that reaches so far in the job's views there is the job's sheet, or its views don't fit
  pub some_sheet : ((sheet : Sheet) × IsPlanned job extents sheet) ⊎ ((w : ℤ) × (h : ℤ) × (room_w : ℤ) × (room_h : ℤ) × HasNoScale job.scale job extents w h room_w room_h)
  some_sheet = by_plan (planned_or_not job extents job.scale)
