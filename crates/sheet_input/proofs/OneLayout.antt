-- A job's views of a part have one layout, or lack one room.
use Rattle.std.proofs.Common.{◌≡◌, ◌↔◌, Bool, true, false, IsTrue, ℤ, List, [], ◌∷◌, map, get_or, drop, find, Option, Some, None, option_map, Ok, Err, refl, sym, ap, subst, ◌∙◌, arith}
use Rattle.std.specs.Prelude.{◌≤◌, ◌<◌, ◌+◌, ◌^◌, ◌≤ℤ◌, unsigned_abs}
use Rattle.std.specs.List.{AllZip}
use Rattle.std.specs.Option.{ForSome}
use Rattle.std.proofs.lemmas.Int.{ints}
use denote.Struct.Props.{props}
use mathlib.Core.HLevel.{is_prop→PathP}
use Rattle.cut_marks.specs.AskedSides.{sides_for, sides_from}
use Rattle.geometry.specs.Parts.{Part}
use Rattle.job_file.specs.Documents.{JobValues}
use Rattle.job_file.specs.Names.{direction_of}
use Rattle.job_file.specs.Scales.{is_scale}
use Rattle.job_file.specs.ShownCuts.{cuts_in}
use Rattle.job_file.specs.Seen.{direction_seen, job_seen, scale_seen, shown, view_seen}
use Rattle.job_file.specs.ViewValues.{Shown, ViewValues, behind, whole}
use Rattle.job_file.specs.Views.{plain_direction}
use Rattle.job_file.specs.declared.job.Job.{Job}
use Rattle.job_file.specs.declared.job.Scale.{Scale}
use Rattle.job_file.specs.declared.view.JobView.{JobView}
use Rattle.lattice.specs.Cuts.{Plane, plane_of}
use Rattle.lattice.specs.Points.{across_of, of_dir, point_of, upward_of}
use Rattle.lattice.specs.Triple.{Triple}
use Rattle.lattice.specs.declared.cuts.Cut.{Cut}
use Rattle.lattice.specs.declared.pieces.ViewSpec.{ViewSpec}
use Rattle.lattice.specs.declared.pieces.ViewSpec.TheVariants.{Plain, Section}
use Rattle.lattice.specs.declared.points.Corner.{Corner}
use Rattle.lattice.specs.declared.points.Dir.{Dir}
use Rattle.part_input.proofs.Singles.{IsSingle, none_some, same_some}
use Rattle.sheet_layout.specs.Layouts.{Case, IsCaseOf, IsThrough, LacksRoom, fits, paper_of, plans_for}
use Rattle.sheet_layout.specs.declared.layout.NoRoom.{NoRoom}
use Rattle.sheet_layout.specs.declared.layout.Wish.{Wish}
use Rattle.sheet_plan.specs.Extents.{AreExtents, IsExtent, IsGreatest, IsLeast}
use Rattle.sheet_plan.specs.JobSheets.{Drawn}
use Rattle.sheet_plan.specs.declared.bounds.Extent.{Extent}
use Rattle.sheet_input.specs.Sheets.{HasLayout, HasNoLayout, LaysSheet, job_on}
use Rattle.sheet_input.specs.declared.fault.SheetFault.{SheetFault}
use Rattle.sheet_input.specs.declared.fault.SheetFault.TheVariants.{NoRoom as Lacking}
use Rattle.sheet_input.proofs.Cases.{AreAlike, first_same, lack_same}

-- ---- views
same_dir : (d e : Dir) → of_dir d ≡ of_dir e → d ≡ e
same_dir d e p = λ i. record {
  x = (p i).x;
  y = (p i).y;
  z = (p i).z;
  x_in_range = is_prop→PathP (λ j. unsigned_abs ((p j).x) ≤ 9) (λ j. hlevel props) d.x_in_range e.x_in_range i;
  y_in_range = is_prop→PathP (λ j. unsigned_abs ((p j).y) ≤ 9) (λ j. hlevel props) d.y_in_range e.y_in_range i;
  z_in_range = is_prop→PathP (λ j. unsigned_abs ((p j).z) ≤ 9) (λ j. hlevel props) d.z_in_range e.z_in_range i;
  not_zero = is_prop→PathP (λ j. 0 < unsigned_abs ((p j).x) + unsigned_abs ((p j).y) + unsigned_abs ((p j).z)) (λ j. hlevel props) d.not_zero e.not_zero i;
}

same_cut : (c d : Cut) → plane_of c ≡ plane_of d → c ≡ d
same_cut c d p = λ i. record {
  axis = (p i).axis;
  at = (p i).at;
  from_high = (p i).from_high;
  in_range = is_prop→PathP (λ j. unsigned_abs ((p j).at) ≤ 2 ^ 20) (λ j. hlevel props) c.in_range d.in_range i;
}

abbrev triple_or : Triple → Shown → Triple
triple_or t (whole d) = d
triple_or t (behind c) = t

abbrev plane_or : Plane → Shown → Plane
plane_or p (whole d) = p
plane_or p (behind c) = c

same_spec : (v w : ViewSpec) → shown v ≡ shown w → v ≡ w
same_spec (Plain d) (Plain e) p = ap Plain (same_dir d e (ap (triple_or (of_dir d)) p))
same_spec (Section c) (Section d) p = ap Section (same_cut c d (ap (plane_or (plane_of c)) p))
same_spec (Plain d) (Section c) p = let no : whole (of_dir d) ≡ behind (plane_of c) = p in absurd (cc)
same_spec (Section c) (Plain d) p = let no : behind (plane_of c) ≡ whole (of_dir d) = p in absurd (cc)

same_view : (v w : JobView) → view_seen v ≡ view_seen w → v ≡ w
same_view v w p =
    let spec : v.spec ≡ w.spec = same_spec v.spec w.spec (ap (λ (x : ViewValues). x.shows) p) in
    let named : v.named ≡ w.named = ap (λ (x : ViewValues). x.named) p in
    λ i. record {
      spec = spec i;
      named = named i;
      directed = is_prop→PathP (λ j. ForSome (named j) (λ q. plain_direction (spec j) ≡ Some (direction_of q))) (λ j. hlevel props) v.directed w.directed i;
    }

same_views : (vs ws : List JobView) → map view_seen vs ≡ map view_seen ws → vs ≡ ws
same_views [] [] e = refl
same_views [] (w ∷ ws) e = let no : [] ≡ view_seen w ∷ map view_seen ws = e in cc
same_views (v ∷ vs) [] e = let no : view_seen v ∷ map view_seen vs ≡ [] = e in cc
same_views (v ∷ vs) (w ∷ ws) e =
    let first : v ≡ w = same_view v w (ap (λ l. get_or l 0 (view_seen v)) e) in
    let others : vs ≡ ws = same_views vs ws (ap (drop 1) e) in
    λ i. first i ∷ others i

-- ---- scales
same_scale : (s t : Scale) → scale_seen s ≡ scale_seen t → s ≡ t
same_scale s t p = λ i. record {
  num = (p i).0;
  den = (p i).1;
  listed = is_prop→PathP (λ j. IsTrue (is_scale (p j).0 (p j).1)) (λ j. hlevel props) s.listed t.listed i;
}

same_scales : (s t : Option Scale) → option_map scale_seen s ≡ option_map scale_seen t → s ≡ t
same_scales None None e = refl
same_scales None (Some t) e = absurd (none_some (Some (scale_seen t)) (scale_seen t) (sym e) refl)
same_scales (Some s) None e = absurd (none_some (Some (scale_seen s)) (scale_seen s) e refl)
same_scales (Some s) (Some t) e = ap Some (same_scale s t (same_some (Some (scale_seen s)) (scale_seen s) (scale_seen t) refl e))

-- ---- how far a part reaches
at_most_both : (m n : ℤ) → m ≤ℤ n → n ≤ℤ m → m ≡ n
at_most_both m n h k = omega (arith, ints, h, k)

module _ {A : Type 0} (f : A → ℤ) (xs : List A) (m n : ℤ) where
  one_least : IsLeast f xs m → IsLeast f xs n → m ≡ n
  one_least a b =
      let (j, x, x_in, x_at, x_is) = a.reached in
      let (k, y, y_in, y_at, y_is) = b.reached in
      at_most_both m n (subst (λ (z : ℤ). m ≤ℤ z) y_is (subst (λ w. m ≤ℤ f w) y_at (a.bound k y y_in))) (subst (λ (z : ℤ). n ≤ℤ z) x_is (subst (λ w. n ≤ℤ f w) x_at (b.bound j x x_in)))

  one_greatest : IsGreatest f xs m → IsGreatest f xs n → m ≡ n
  one_greatest a b =
      let (j, x, x_in, x_at, x_is) = a.reached in
      let (k, y, y_in, y_at, y_is) = b.reached in
      at_most_both m n (subst (λ (z : ℤ). z ≤ℤ n) x_is (subst (λ w. f w ≤ℤ n) x_at (b.bound j x x_in))) (subst (λ (z : ℤ). z ≤ℤ m) y_is (subst (λ w. f w ≤ℤ m) y_at (a.bound k y y_in)))

module _ (corners : List Corner) where
  same_extent : (d : Triple) (e f : Extent) → IsExtent d corners e → IsExtent d corners f → e ≡ f
  same_extent d e f a b =
      let across = λ (c : Corner). across_of d (point_of c) in
      let upward = λ (c : Corner). upward_of d (point_of c) in
      let dir : e.d ≡ f.d = same_dir e.d f.d (a.direction ∙ sym b.direction) in
      let u_min : e.u_min ≡ f.u_min = one_least across corners e.u_min f.u_min a.leftmost b.leftmost in
      let u_max : e.u_max ≡ f.u_max = one_greatest across corners e.u_max f.u_max a.rightmost b.rightmost in
      let v_min : e.v_min ≡ f.v_min = one_least upward corners e.v_min f.v_min a.lowest b.lowest in
      let v_max : e.v_max ≡ f.v_max = one_greatest upward corners e.v_max f.v_max a.topmost b.topmost in
      λ i. record {
        d = dir i;
        u_min = u_min i;
        u_max = u_max i;
        v_min = v_min i;
        v_max = v_max i;
        across = is_prop→PathP (λ j. u_min j ≤ℤ u_max j) (λ j. hlevel props) e.across f.across i;
        upward = is_prop→PathP (λ j. v_min j ≤ℤ v_max j) (λ j. hlevel props) e.upward f.upward i;
        u_min_in_range = is_prop→PathP (λ j. unsigned_abs (u_min j) < 2 ^ 29) (λ j. hlevel props) e.u_min_in_range f.u_min_in_range i;
        u_max_in_range = is_prop→PathP (λ j. unsigned_abs (u_max j) < 2 ^ 29) (λ j. hlevel props) e.u_max_in_range f.u_max_in_range i;
        v_min_in_range = is_prop→PathP (λ j. unsigned_abs (v_min j) < 2 ^ 29) (λ j. hlevel props) e.v_min_in_range f.v_min_in_range i;
        v_max_in_range = is_prop→PathP (λ j. unsigned_abs (v_max j) < 2 ^ 29) (λ j. hlevel props) e.v_max_in_range f.v_max_in_range i;
      }

  same_extents : (vs : List JobView) (es fs : List Extent) → AreExtents corners vs es → AreExtents corners vs fs → es ≡ fs
  same_extents [] [] [] a b = refl
  same_extents [] [] (f ∷ fs) a b = absurd b
  same_extents [] (e ∷ es) fs a b = absurd a
  same_extents (v ∷ vs) [] fs a b = absurd a
  same_extents (v ∷ vs) (e ∷ es) [] a b = absurd b
  same_extents (v ∷ vs) (e ∷ es) (f ∷ fs) a b =
      let first : e ≡ f = same_extent (direction_seen v.spec) e f a.0 b.0 in
      let others : es ≡ fs = same_extents vs es fs a.1 b.1 in
      λ i. first i ∷ others i

  -- ---- which cuts go through the part
  same_flag : {P : Type 0} (t u : Bool) → IsTrue t ↔ P → IsTrue u ↔ P → t ≡ u
  same_flag true u a b = sym (b.1 (a.0 refl))
  same_flag false true a b = a.1 (b.0 refl)
  same_flag false false a b = refl

  same_through : (v : ViewSpec) (t u : Bool) → IsThrough corners v t → IsThrough corners v u → t ≡ u
  same_through (Plain d) t u a b = a ∙ sym b
  same_through (Section c) t u a b = same_flag t u a b

  all_through : (vs : List JobView) (ts us : List Bool) → AllZip (λ (v : JobView) (t : Bool). IsThrough corners v.spec t) vs ts
      → AllZip (λ (v : JobView) (t : Bool). IsThrough corners v.spec t) vs us → ts ≡ us
  all_through [] [] [] a b = refl
  all_through [] [] (u ∷ us) a b = absurd b
  all_through [] (t ∷ ts) us a b = absurd a
  all_through (v ∷ vs) [] us a b = absurd a
  all_through (v ∷ vs) (t ∷ ts) [] a b = absurd b
  all_through (v ∷ vs) (t ∷ ts) (u ∷ us) a b =
      let first : t ≡ u = same_through v.spec t u a.0 b.0 in
      let others : ts ≡ us = all_through vs ts us a.1 b.1 in
      λ i. first i ∷ others i

-- ---- jobs with the same values
module _ (corners : List Corner) (job other : Job) (same : job_seen job ≡ job_seen other) (c d : Case) (a : IsCaseOf job corners (sides_for job) c) (b : IsCaseOf other corners (sides_for other) d) where
  views : job.views.items ≡ other.views.items
  views = same_views job.views.items other.views.items (ap (λ (v : JobValues). v.views) same)

  sides : sides_for job ≡ sides_for other
  sides = λ i. sides_from ((same i).decimals) ((same i).unit) (cuts_in (views i)) 0 (views i)

  through : c.through ≡ d.through
  through =
      all_through corners job.views.items c.through d.through a.through
      (subst (λ (vs : List JobView). AllZip (λ (v : JobView) (t : Bool). IsThrough corners v.spec t) vs d.through) (sym views) b.through)

  extents : c.extents ≡ d.extents
  extents = same_extents corners job.views.items c.extents d.extents a.reach (subst (λ (vs : List JobView). AreExtents corners vs d.extents) (sym views) b.reach)

  -- so the cases agree
  seen : job_seen c.job ≡ job_seen d.job
  seen = ap job_seen a.job_is ∙ same ∙ sym (ap job_seen b.job_is)

  alike : AreAlike c d
  alike = record {
    third = λ i. (seen i).third;
    decimals = λ i. (seen i).decimals;
    portrait = λ i. (seen i).portrait;
    views = same_views c.job.views.items d.job.views.items (ap (λ (v : JobValues). v.views) seen);
    through = through;
    sides = a.sides_are ∙ sides ∙ sym b.sides_are;
    extents = extents;
  }

  paper : c.job.paper ≡ d.job.paper
  paper = λ i. (seen i).paper

  scale : c.job.scale ≡ d.job.scale
  scale = same_scales c.job.scale d.job.scale (ap (λ (v : JobValues). v.scale) seen)

  pub one_first : (w : Wish) → find (fits c) (plans_for w job) ≡ find (fits d) (plans_for w other)
  one_first w =
      ap (λ (j : Job). find (fits c) (plans_for w j)) (sym a.job_is) ∙ first_same c d alike w paper scale ∙ ap (λ (j : Job). find (fits d) (plans_for w j)) b.job_is

  pub one_lack : (w : Wish) (n m : NoRoom) → LacksRoom c w n → LacksRoom d w m → n ≡ m
  one_lack w n m = lack_same c d alike w paper scale n m

-- ---- one answer
module _ (w : Wish) (values : JobValues) (part : Part) where
  -- a part that is laid out lacks no room
  no_both : (x : Drawn) (n : NoRoom) → HasLayout w values part x → HasNoLayout w values part.corners n → ⊥
  no_both x n p (job, is, none) =
      let first = one_first part.corners job p.job (is ∙ sym p.seen) none.tried p.laid none.of_job p.of_job w in
      let lacks = ap (λ (j : Job). find (fits none.tried) (plans_for w j)) (sym none.of_job.job_is) ∙ none.lacks.none in
      none_some (paper_of (find (fits p.laid) (plans_for w p.job))) p.paper (ap paper_of (sym first ∙ lacks)) p.first

  one_layout : (x y : Drawn) → HasLayout w values part x → HasLayout w values part y → x ≡ y
  one_layout x y p q =
      let first = one_first part.corners p.job q.job (p.seen ∙ sym q.seen) p.laid q.laid p.of_job q.of_job w in
      let paper : p.paper ≡ q.paper = same_some (paper_of (find (fits q.laid) (plans_for w q.job))) p.paper q.paper (ap paper_of (sym first) ∙ p.first) q.first in
      p.drawn_is ∙ (λ i. record { job = job_on w (paper i) values; part = part }) ∙ sym q.drawn_is

  one_refusal : (n m : NoRoom) → HasNoLayout w values part.corners n → HasNoLayout w values part.corners m → n ≡ m
  one_refusal n m (job, is, none) (other, so, never) =
      one_lack part.corners job other (is ∙ sym so) none.tried never.tried none.of_job never.of_job w n m none.lacks never.lacks

  for_room : (e : SheetFault) → LaysSheet w values part (Err e) → (n : NoRoom) × (e ≡ Lacking n) × HasNoLayout w values part.corners n
  for_room (Lacking n) p = (n, refl, p)
  for_room e p = elim p [ ]

  pub lays_single : IsSingle (LaysSheet w values part)
  lays_single (Ok x) (Ok y) p q = ap Ok (one_layout x y p q)
  lays_single (Ok x) (Err d) p q = let t = for_room d q in absurd (no_both x t.0 p t.2)
  lays_single (Err d) (Ok y) p q = let t = for_room d p in absurd (no_both y t.0 q t.2)
  lays_single (Err d) (Err e) p q =
      let t = for_room d p in
      let u = for_room e q in
      ap Err (t.1 ∙ ap Lacking (one_refusal t.0 u.0 t.2 u.2) ∙ sym u.1)
