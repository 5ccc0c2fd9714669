-- Jobs with the same values have the same sheet for a part, or the same lack of room.
use Rattle.std.proofs.Common.{◌≡◌, ℕ, Bool, ℤ, ◌-ℤ◌, ◌≤ℤ◌, List, [], ◌∷◌, map, get_or, drop, unwrap_or, Option, Some, None, option_map, refl, sym, ap, subst, ◌∙◌}
use Rattle.std.proofs.lemmas.Option.{slice_get_within}
use Rattle.integers.proofs.Comparisons.{same_of_both}
use Rattle.lattice.specs.declared.points.Corner.{Corner}
use Rattle.lattice.specs.declared.pieces.ViewSpec.{ViewSpec}
use Rattle.lattice.specs.declared.pieces.ViewSpec.TheVariants.{Plain, Section}
use Rattle.lattice.specs.Cuts.{toward_of}
use Rattle.lattice.specs.Points.{of_dir, point_of, across_of, upward_of}
use Rattle.lattice.specs.Triple.{Triple}
use Rattle.job_file.specs.declared.job.Job.{Job}
use Rattle.job_file.specs.declared.job.Scale.{Scale}
use Rattle.job_file.specs.declared.view.JobView.{JobView}
use Rattle.job_file.specs.Documents.{JobValues}
use Rattle.job_file.specs.Seen.{direction_seen, shown, view_seen, scale_seen, job_seen}
use Rattle.job_file.specs.ViewValues.{Shown, ViewValues, whole, behind}
use Rattle.sheet_plan.specs.declared.bounds.Extent.{Extent}
use Rattle.sheet_plan.specs.Extents.{IsLeast, IsGreatest, IsExtent, AreExtents}
use Rattle.sheet_plan.specs.Layout.{cell_of, across_at, upward_at, shape_of, shapes_of, need_w, need_h, have_w, have_h, Fit}
use Rattle.sheet_plan.specs.Numbers.{Measure}
use Rattle.sheet_plan.specs.Plans.{sheet_width, sheet_height, job_shapes, FitsAt, fit_dens, IsChosen, HasNoRoom, HasNoScale}

-- ---- least and greatest values
least_first : {A : Type 0} (f : A → ℤ) (xs : List A) (m n : ℤ) → IsLeast f xs m → IsLeast f xs n → n ≤ℤ m
least_first f xs m n a b =
    let there = a.reached in
    subst (λ (z : ℤ). n ≤ℤ z) there.4 (subst (λ x. n ≤ℤ f x) there.3 (b.bound there.0 there.1 there.2))

one_least : {A : Type 0} (f : A → ℤ) (xs : List A) (m n : ℤ) → IsLeast f xs m → IsLeast f xs n → m ≡ n
one_least f xs m n a b = same_of_both m n (least_first f xs n m b a) (least_first f xs m n a b)

greatest_last : {A : Type 0} (f : A → ℤ) (xs : List A) (m n : ℤ) → IsGreatest f xs m → IsGreatest f xs n → m ≤ℤ n
greatest_last f xs m n a b =
    let there = a.reached in
    subst (λ (z : ℤ). z ≤ℤ n) there.4 (subst (λ x. f x ≤ℤ n) there.3 (b.bound there.0 there.1 there.2))

one_greatest : {A : Type 0} (f : A → ℤ) (xs : List A) (m n : ℤ) → IsGreatest f xs m → IsGreatest f xs n → m ≡ n
one_greatest f xs m n a b = same_of_both m n (greatest_last f xs m n a b) (greatest_last f xs n m b a)

-- ---- views
-- from where what is shown is seen
abbrev direction_of : Shown → Triple
direction_of (whole d) = d
direction_of (behind c) = toward_of c

direction_is : (v : ViewSpec) → direction_seen v ≡ direction_of (shown v)
direction_is (Plain d) = refl
direction_is (Section c) = refl

module _ (corners : List Corner) where
  -- the corners reach equally far in views with the same values
  module _ (v w : JobView) (e f : Extent) (same : view_seen v ≡ view_seen w) (a : IsExtent (direction_seen v.spec) corners e) (b : IsExtent (direction_seen w.spec) corners f) where
    direction : direction_seen w.spec ≡ direction_seen v.spec
    direction = direction_is w.spec ∙ ap (λ (x : ViewValues). direction_of x.shows) (sym same) ∙ sym (direction_is v.spec)

    other : IsExtent (direction_seen v.spec) corners f
    other = subst (λ (d : Triple). IsExtent d corners f) direction b

    same_shape : (third : Bool) (m : Measure) → shape_of third m v e ≡ shape_of third m w f
    same_shape third m =
        let d = direction_seen v.spec in
        let across = λ (c : Corner). across_of d (point_of c) in
        let upward = λ (c : Corner). upward_of d (point_of c) in
        let named : v.named ≡ w.named = ap (λ (x : ViewValues). x.named) same in
        let seen : of_dir e.d ≡ of_dir f.d = a.direction ∙ sym other.direction in
        let u_min : e.u_min ≡ f.u_min = one_least across corners e.u_min f.u_min a.leftmost other.leftmost in
        let u_max : e.u_max ≡ f.u_max = one_greatest across corners e.u_max f.u_max a.rightmost other.rightmost in
        let v_min : e.v_min ≡ f.v_min = one_least upward corners e.v_min f.v_min a.lowest other.lowest in
        let v_max : e.v_max ≡ f.v_max = one_greatest upward corners e.v_max f.v_max a.topmost other.topmost in
        λ i. record {
          cell = cell_of third (named i);
          left = across_at m (seen i) (u_min i);
          top = upward_at m (seen i) (v_max i);
          width = across_at m (seen i) (u_max i) -ℤ across_at m (seen i) (u_min i);
          height = upward_at m (seen i) (v_max i) -ℤ upward_at m (seen i) (v_min i);
        }

  same_shapes : (third : Bool) (m : Measure) (vs ws : List JobView) (es fs : List Extent) → map view_seen vs ≡ map view_seen ws → AreExtents corners vs es → AreExtents corners ws fs → shapes_of third m vs es ≡ shapes_of third m ws fs
  same_shapes third m [] [] es fs e a b = refl
  same_shapes third m [] (w ∷ ws) es fs e a b = let no : [] ≡ view_seen w ∷ map view_seen ws = e in cc
  same_shapes third m (v ∷ vs) [] es fs e a b = let no : view_seen v ∷ map view_seen vs ≡ [] = e in cc
  same_shapes third m (v ∷ vs) (w ∷ ws) [] fs e a b = elim a [ ]
  same_shapes third m (v ∷ vs) (w ∷ ws) (x ∷ es) [] e a b = elim b [ ]
  same_shapes third m (v ∷ vs) (w ∷ ws) (x ∷ es) (y ∷ fs) e a b =
      let first = same_shape v w x y (ap (λ l. get_or l 0 (view_seen v)) e) a.0 b.0 third m in
      let others = same_shapes third m vs ws es fs (ap (drop 1) e) a.1 b.1 in
      λ i. first i ∷ others i

-- ---- jobs
some_none : {A : Type 0} (x : A) → Some x ≡ None → ⊥
some_none {A} x e = let none : Option A = None in let no : Some x ≡ none = e in cc

-- two jobs with the same values, and how far the corners reach in their views
module _ (corners : List Corner) (job other : Job) (extents reach : List Extent) (same : job_seen job ≡ job_seen other)
    (a : AreExtents corners job.views.items extents) (b : AreExtents corners other.views.items reach) where
  paper : job.paper ≡ other.paper
  paper = ap (λ (v : JobValues). v.paper) same

  portrait : job.portrait ≡ other.portrait
  portrait = ap (λ (v : JobValues). v.portrait) same

  scales : option_map scale_seen job.scale ≡ option_map scale_seen other.scale
  scales = ap (λ (v : JobValues). v.scale) same

  shapes : (num den : ℕ) → job_shapes job extents num den ≡ job_shapes other reach num den
  shapes num den =
      same_shapes corners job.third (record { num = num; den = den; decimals = job.decimals }) job.views.items other.views.items extents reach (ap (λ (v : JobValues). v.views) same) a b
      ∙ (λ i. shapes_of ((same i).third) (record { num = num; den = den; decimals = (same i).decimals }) other.views.items reach)

  fits : (num den : ℕ) → FitsAt job extents num den → FitsAt other reach num den
  fits num den h = subst (λ (z : ℤ × ℤ). Fit (job_shapes other reach num den) z.0 z.1) (λ i. (sheet_width (paper i) (portrait i), sheet_height (paper i) (portrait i))) (subst (λ l. Fit l (sheet_width job.paper job.portrait) (sheet_height job.paper job.portrait)) (shapes num den) h)

  -- at a scale that was chosen, with room
  fits_there : (num den n d : ℕ) → num ≡ n → den ≡ d → FitsAt job extents num den → FitsAt other reach n d
  fits_there num den n d e f h = subst (λ (k : ℕ). FitsAt other reach k d) e (subst (λ (k : ℕ). FitsAt other reach num k) f (fits num den h))

  num_of : (s t : Scale) → option_map scale_seen (Some s) ≡ option_map scale_seen (Some t) → s.num ≡ t.num
  num_of s t e = ap (λ (o : Option (ℕ × ℕ)). (unwrap_or o (0, 0)).0) e

  den_of : (s t : Scale) → option_map scale_seen (Some s) ≡ option_map scale_seen (Some t) → s.den ≡ t.den
  den_of s t e = ap (λ (o : Option (ℕ × ℕ)). (unwrap_or o (0, 0)).1) e

  -- a job that fits its sheet doesn't lack room
  module _ (w h room_w room_h : ℤ) where
    not_both : (s t : Option Scale) → option_map scale_seen s ≡ option_map scale_seen t → (num den : ℕ) → IsChosen s job extents num den → FitsAt job extents num den → HasNoScale t other reach w h room_w room_h → ⊥
    not_both (Some s) (Some t) e num den (n, d) fit room = room.not_fit (fits_there num den t.num t.den (n ∙ num_of s t e) (d ∙ den_of s t e) fit)
    not_both (Some s) None e num den chosen fit room = absurd (some_none (scale_seen s) e)
    not_both None (Some t) e num den chosen fit room = absurd (some_none (scale_seen t) (sym e))
    not_both None None e num den first fit (none, room) = none first.number den (slice_get_within fit_dens first.number den first.listed) first.listed (fits_there num den 1 den first.one refl fit)

    pub no_both : (num den : ℕ) → IsChosen job.scale job extents num den → FitsAt job extents num den → HasNoScale other.scale other reach w h room_w room_h → ⊥
    no_both = not_both job.scale other.scale scales

    -- two jobs that lack room lack the same
    module _ (x y space_w space_h : ℤ) where
      same_room : (num den n d : ℕ) → num ≡ n → den ≡ d → HasNoRoom job extents num den w h room_w room_h → HasNoRoom other reach n d x y space_w space_h → (w ≡ x) × (h ≡ y) × (room_w ≡ space_w) × (room_h ≡ space_h)
      same_room num den n d e f p q =
          let same : job_shapes job extents num den ≡ job_shapes other reach n d = shapes num den ∙ (λ i. job_shapes other reach (e i) (f i)) in (
            p.need_w_is ∙ ap need_w same ∙ sym q.need_w_is,
            p.need_h_is ∙ ap need_h same ∙ sym q.need_h_is,
            p.have_w_is ∙ (λ i. have_w (sheet_width (paper i) (portrait i))) ∙ sym q.have_w_is,
            p.have_h_is ∙ (λ i. have_h (sheet_height (paper i) (portrait i))) ∙ sym q.have_h_is,
          )

      same_lack : (s t : Option Scale) → option_map scale_seen s ≡ option_map scale_seen t → HasNoScale s job extents w h room_w room_h → HasNoScale t other reach x y space_w space_h → (w ≡ x) × (h ≡ y) × (room_w ≡ space_w) × (room_h ≡ space_h)
      same_lack (Some s) (Some t) e p q = same_room s.num s.den t.num t.den (num_of s t e) (den_of s t e) p q
      same_lack (Some s) None e p q = absurd (some_none (scale_seen s) e)
      same_lack None (Some t) e p q = absurd (some_none (scale_seen t) (sym e))
      same_lack None None e (none, p) (never, q) = same_room 1 100 1 100 refl refl p q

      pub one_lack : HasNoScale job.scale job extents w h room_w room_h → HasNoScale other.scale other reach x y space_w space_h → (w ≡ x) × (h ≡ y) × (room_w ≡ space_w) × (room_h ≡ space_h)
      one_lack = same_lack job.scale other.scale scales
