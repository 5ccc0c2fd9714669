-- What a job takes from its table.
use Rattle.std.proofs.Common.{◌≡◌, ℕ, ◌^◌, ◌≤◌, ℤ, pos, negsuc, zero, suc, unsigned_abs, Bool, true, false, cond, ◌&&◌, ◌==◌, nat_le, nat_lt, List, [], ◌∷◌, ◌++◌, length, map, codes, Option, Some, None, option_and_then, Ok, Err, refl, sym, ap, subst, ◌∙◌, inl, inr, arith, append_assoc, append-nil, eqb-true}
use Rattle.std.proofs.lemmas.List.{length-map}
use Rattle.std.proofs.lemmas.Bool.{cases_Bool, and_parts, false≢true}
use Rattle.std.proofs.lemmas.Bool.Decides.{nat_tests}
use Rattle.std.specs.Fmt.{digits}
use Rattle.std.specs.List.{list_any, list_all}
use Rattle.std.specs.Option.{ForSome}
use Rattle.std.specs.Ordering.{int_eq}
use Rattle.dec_text.specs.declared.number.Length.{Length}
use Rattle.dec_text.specs.declared.number.Length.TheVariants.{Millimetre, Inch}
use Rattle.lattice.specs.Cuts.{Plane}
use Rattle.lattice.specs.Triple.{Triple}
use Rattle.lattice.specs.declared.pieces.Crease.{Crease}
use Rattle.lattice.specs.declared.pieces.Crease.TheVariants.{Fine, Normal, Coarse}
use Rattle.lattice.specs.declared.points.Axis.{Axis}
use Rattle.lattice.specs.declared.points.Axis.TheVariants.{X, Y, Z}
use Rattle.toml.specs.Data.{Data, string, integer, array, table, Items, Members, get_member, as_integer}
use Rattle.toml.specs.Tables.{close}
use Rattle.toml.specs.View.{items_of}
use Rattle.job_file.specs.Arrays.{values_in}
use Rattle.job_file.specs.CutKeys.{axes, sides, plane_at, cut_view}
use Rattle.job_file.specs.Documents.{JobValues, version_at, decimals_of, choice, angles, creases, lengths, layouts, fits, title_of, texts_of, proper_outputs, outputs_of, is_table, views_of, views_at, job_of}
use Rattle.job_file.specs.Keys.{unknown_key}
use Rattle.job_file.specs.Names.{principals}
use Rattle.job_file.specs.Papers.{papers, paper_name}
use Rattle.job_file.specs.Scales.{scales, is_scale}
use Rattle.job_file.specs.Steps.{◌>>=◌, or_wrong, value_or, look_up}
use Rattle.job_file.specs.Texts.{is_title, are_outputs}
use Rattle.job_file.specs.ViewKeys.{is_named, view_named, named_view, is_zero, is_outside, direction_at, toward_view, view_of_table, view_of, views_after}
use Rattle.job_file.specs.ViewValues.{Shown, ViewValues, whole, behind}
use Rattle.job_file.specs.declared.fault.JobFault.{JobFault}
use Rattle.job_file.specs.declared.fault.Key.TheVariants as key
use Rattle.job_file.specs.declared.job.Paper.{Paper}
use Rattle.job_file.specs.declared.job.Paper.TheVariants.{A0, A1, A2, A3, A4}
use Rattle.job_file.specs.declared.table.Kind.TheVariants.{JobTwo}
use Rattle.job_file.specs.declared.view.Principal.{Principal}
use Rattle.job_file.specs.declared.view.Principal.TheVariants.{Front, Back, Left, Right, Above, Below}
use Rattle.job_writer.specs.Called.{angle_name, scale_name, crease_name, length_name, layout_name, principal_name, axis_name, side_name}
use Rattle.job_writer.proofs.Words.{strings, numbers}
use Rattle.job_writer.proofs.Nodes.{job_members, view_nodes, view_table}
use Rattle.job_writer.proofs.Proper.{IsDirection, IsShown, AreShown, IsNew, AreNew, IsProper}

-- ---- single values
decimals_is : (n : ℕ) → n ≤ 6 → value_or 3 key.Decimals (λ d. decimals_of (as_integer d)) (Some (integer (pos n))) ≡ Ok n
decimals_is n few =
    let small : nat_le n 6 ≡ true = grind (arith, nat_tests) in
    rw small refl

angle_is : (third : Bool) → value_or false key.Angle (choice angles) (Some (string (angle_name third))) ≡ Ok third
angle_is true = refl
angle_is false = refl

paper_is : (paper : Paper) → value_or A3 key.Sheet (choice papers) (Some (string (paper_name paper))) ≡ Ok paper
paper_is A0 = refl
paper_is A1 = refl
paper_is A2 = refl
paper_is A3 = refl
paper_is A4 = refl

-- a claim about each scale that is listed
abbrev pub AllScales : (ℕ × ℕ → Type 0) → List (List ℕ × (ℕ × ℕ)) → Type 0
AllScales P [] = Unit {0}
AllScales P (row ∷ rows) = P row.1 × AllScales P rows

pub of_scale : (P : ℕ × ℕ → Type 0) (rows : List (List ℕ × (ℕ × ℕ))) (num den : ℕ) → AllScales P rows → list_any (λ s. (s.1.0 == num) && (s.1.1 == den)) rows ≡ true → P (num, den)
of_scale P [] num den all listed = absurd (false≢true listed)
of_scale P (row ∷ rows) num den (here, more) listed =
    elim (cases_Bool ((row.1.0 == num) && (row.1.1 == den))) [
      | inl same ↦
          let (one, other) = and_parts (row.1.0 == num) (row.1.1 == den) same in
          subst (λ (d : ℕ). P (num, d)) (eqb-true row.1.1 den other) (subst (λ (n : ℕ). P (n, row.1.1)) (eqb-true row.1.0 num one) here)
      | inr apart ↦ of_scale P rows num den more (rw apart at listed)
    ]

abbrev IsScaleTaken : ℕ × ℕ → Type 0
IsScaleTaken scale = value_or None key.Scale (choice fits) (Some (string (scale_name (Some scale)))) ≡ Ok (Some scale)

each_scale : AllScales IsScaleTaken scales
unfolding digits
each_scale = (refl, (refl, (refl, (refl, (refl, (refl, (refl, (refl, (refl, (refl, (refl, (refl, tt))))))))))))

scale_is : (scale : Option (ℕ × ℕ)) → ForSome scale (λ s. is_scale s.0 s.1 ≡ true) → value_or None key.Scale (choice fits) (Some (string (scale_name scale))) ≡ Ok scale
scale_is None listed = refl
scale_is (Some scale) listed = of_scale IsScaleTaken scales scale.0 scale.1 each_scale (listed scale refl)

crease_is : (crease : Crease) → value_or Normal key.Crease (choice creases) (Some (string (crease_name crease))) ≡ Ok crease
crease_is Fine = refl
crease_is Normal = refl
crease_is Coarse = refl

tested : {A : Type 0} (fine : Bool) (x : A) (k : _) → fine ≡ true → or_wrong k (cond fine (Some x) None) ≡ Ok x
tested fine x k is = rw is refl

title_is : (title : List ℕ) → is_title title ≡ true → value_or (codes "") key.Title title_of (Some (string title)) ≡ Ok title
title_is title fine = tested (is_title title) title key.Title fine

values_of : (ds : List Data) → values_in (items_of ds) ≡ ds
values_of [] = refl
values_of (d ∷ ds) = ap (λ (es : List Data). d ∷ es) (values_of ds)

texts_are : (texts : List (List ℕ)) → texts_of (map string texts) ≡ Some texts
texts_are [] = refl
texts_are (text ∷ texts) = rw (texts_are texts) refl

outputs_is : (outputs : List (List ℕ)) → are_outputs outputs ≡ true → value_or [] key.Outputs outputs_of (Some (array (strings outputs))) ≡ Ok outputs
outputs_is outputs fine =
    ap (λ (ds : List Data). or_wrong key.Outputs (proper_outputs ds)) (values_of (map string outputs))
    ∙ ap (λ (texts : Option (List (List ℕ))). or_wrong key.Outputs (option_and_then (λ texts. cond (are_outputs texts) (Some texts) None) texts)) (texts_are outputs)
    ∙ tested (are_outputs outputs) outputs key.Outputs fine

unit_is : (unit : Length) → value_or Millimetre key.Unit (choice lengths) (Some (string (length_name unit))) ≡ Ok unit
unit_is Millimetre = refl
unit_is Inch = refl

layout_is : (portrait : Bool) → value_or false key.Layout (choice layouts) (Some (string (layout_name portrait))) ≡ Ok portrait
layout_is true = refl
layout_is false = refl

-- ---- views
principal_is : (name : Principal) → look_up principals (principal_name name) ≡ Some name
principal_is Front = refl
principal_is Back = refl
principal_is Left = refl
principal_is Right = refl
principal_is Above = refl
principal_is Below = refl

axis_is : (axis : Axis) → look_up axes (axis_name axis) ≡ Some axis
axis_is X = refl
axis_is Y = refl
axis_is Z = refl

side_is : (from_high : Bool) → look_up sides (side_name from_high) ≡ Some from_high
side_is true = refl
side_is false = refl

named_is : (earlier : List ViewValues) (name : Principal) → IsNew earlier (Some name) → named_view earlier (string (principal_name name)) ≡ Ok (view_named name)
named_is earlier name new =
    ap (λ (found : Option Principal). or_wrong key.Name found >>= λ p. cond (list_any (λ v. is_named p v.named) earlier) (Err (JobFault.Wrong key.Name)) (Ok (view_named p))) (principal_is name)
    ∙ rw new refl

nothing : (z : ℤ) → int_eq z (pos 0) ≡ true → unsigned_abs z ≡ 0
nothing (pos zero) is = refl
nothing (pos (suc n)) is = let other : int_eq (pos (suc n)) (pos 0) ≡ false = grind (arith, nat_tests) in absurd (false≢true (sym other ∙ is))
nothing (negsuc n) is = let other : int_eq (negsuc n) (pos 0) ≡ false = grind (arith, nat_tests) in absurd (false≢true (sym other ∙ is))

not_zero : (d : Triple) → IsDirection d → is_zero d ≡ false
not_zero d is =
    elim (cases_Bool (is_zero d)) [
      | inl all ↦
          let (level, z) = and_parts (int_eq d.x (pos 0) && int_eq d.y (pos 0)) (int_eq d.z (pos 0)) all in
          let (x, y) = and_parts (int_eq d.x (pos 0)) (int_eq d.y (pos 0)) level in
          absurd (omega (arith, is.some, nothing d.x x, nothing d.y y, nothing d.z z))
      | inr some ↦ some
    ]

inside : (z : ℤ) → unsigned_abs z ≤ 9 → is_outside z ≡ false
inside z small = grind (arith, nat_tests)

direction_is : (n : ℕ) (d : Triple) → IsDirection d → direction_at n d ≡ Ok d
direction_is n d is = rw (not_zero d is, inside d.x is.x, inside d.y is.y, inside d.z is.z) refl

toward_is : (n : ℕ) (d : Triple) → IsDirection d → toward_view n (array (numbers d)) ≡ Ok (record { shows = whole d; named = None })
toward_is n d is = rw (direction_is n d is) refl

plane_is : (n : ℕ) (plane : Plane) → unsigned_abs plane.at ≤ 2 ^ 20 → plane_at n plane.axis plane.at plane.from_high ≡ Ok plane
plane_is n plane small =
    let below : nat_lt (2 ^ 20) (unsigned_abs plane.at) ≡ false = grind (arith, nat_tests) in
    rw below refl

cut_is : (n : ℕ) (plane : Plane) → unsigned_abs plane.at ≤ 2 ^ 20
    → cut_view n (string (axis_name plane.axis)) (Some (integer plane.at)) (Some (string (side_name plane.from_high))) ≡ Ok (record { shows = behind plane; named = None })
cut_is n plane small = rw (axis_is plane.axis, side_is plane.from_high, plane_is n plane small) refl

view_is : (earlier : List ViewValues) (named : Option Principal) (shows : Shown) → IsShown named shows → IsNew earlier named
    → view_of earlier (table (close (view_nodes named shows))) ≡ Ok (record { shows = shows; named = named })
unfolding view_of_table
view_is earlier (Some name) shows is new = named_is earlier name new ∙ ap (λ (s : Shown). Ok (record { shows = s; named = Some name })) (sym is)
view_is earlier None (whole d) is new = toward_is (length earlier) d is
view_is earlier None (behind plane) is new = cut_is (length earlier) plane is

views_are : (earlier views : List ViewValues) → AreShown views → AreNew earlier views → views_after earlier (map view_table views) ≡ Ok (earlier ++ views)
views_are earlier [] shown new = ap Ok (sym (append-nil earlier))
views_are earlier (v ∷ vs) (is, shown) (apart, new) =
    rw (view_is earlier v.named v.shows is apart) (views_are (earlier ++ v ∷ []) vs shown new ∙ ap Ok (append_assoc earlier (v ∷ []) vs))

all_tables : (views : List ViewValues) → list_all is_table (map view_table views) ≡ true
all_tables [] = refl
all_tables (v ∷ vs) = all_tables vs

views_taken : (views : List ViewValues) → 1 ≤ length views → length views ≤ 12 → AreShown views → AreNew [] views → views_of (map view_table views) ≡ Ok views
views_taken views some few shown new =
    let size : length (map view_table views) ≡ length views = length-map views view_table in
    let any : (length (map view_table views) == 0) ≡ false = grind (arith, nat_tests) in
    let not_many : nat_lt 12 (length (map view_table views)) ≡ false = grind (arith, nat_tests) in
    rw (any, all_tables views, not_many) (views_are [] views shown new)

views_is : (views : List ViewValues) (items : Items) → values_in items ≡ map view_table views → 1 ≤ length views → length views ≤ 12 → AreShown views → AreNew [] views
    → views_at (Some (array items)) ≡ Ok views
views_is views items are some few shown new = ap views_of are ∙ views_taken views some few shown new

-- ---- all keys
all_taken : (ms : Members) (job : JobValues) → version_at (get_member (codes "version") ms) ≡ Ok JobTwo → unknown_key JobTwo ms ≡ None
    → value_or 3 key.Decimals (λ d. decimals_of (as_integer d)) (get_member (codes "decimals") ms) ≡ Ok job.decimals
    → value_or false key.Angle (choice angles) (get_member (codes "angle") ms) ≡ Ok job.third
    → value_or A3 key.Sheet (choice papers) (get_member (codes "sheet") ms) ≡ Ok job.paper
    → value_or None key.Scale (choice fits) (get_member (codes "scale") ms) ≡ Ok job.scale
    → value_or Normal key.Crease (choice creases) (get_member (codes "crease") ms) ≡ Ok job.crease
    → value_or (codes "") key.Title title_of (get_member (codes "title") ms) ≡ Ok job.title
    → value_or [] key.Outputs outputs_of (get_member (codes "outputs") ms) ≡ Ok job.outputs
    → value_or Millimetre key.Unit (choice lengths) (get_member (codes "unit") ms) ≡ Ok job.unit
    → value_or false key.Layout (choice layouts) (get_member (codes "layout") ms) ≡ Ok job.portrait
    → views_at (get_member (codes "view") ms) ≡ Ok job.views → job_of ms ≡ Ok job
unfolding job_of
all_taken ms job version known decimals angle sheet scale crease title outputs unit layout views =
    rw (version, known, decimals, angle, sheet, scale, crease, title, outputs, unit, layout, views) refl

pub job_taken : (job : JobValues) (views : Items) → IsProper job → values_in views ≡ map view_table job.views → job_of (job_members job views) ≡ Ok job
job_taken job views is are =
    all_taken (job_members job views) job refl refl (decimals_is job.decimals is.few_decimals) (angle_is job.third) (paper_is job.paper) (scale_is job.scale is.scaled) (crease_is job.crease)
    (title_is job.title is.title) (outputs_is job.outputs is.outputs) (unit_is job.unit) (layout_is job.portrait) (views_is job.views views are is.some_views is.few_views is.shown is.new)
