-- A text of a job says a job, or a fault.
use Rattle.std.proofs.Common.{◌≡◌, ◌⊎◌, inl, inr, ℕ, zero, suc, ◌+◌, ◌<◌, ◌≤◌, ◌^◌, Bool, true, false, not, ◌&&◌, ◌||◌, ◌==◌, IsTrue, if◌then◌else◌, nat_le, nat_lt, List, [], ◌∷◌, ◌++◌, AllPairs, length, map, get_or, Option, Some, None, option_map, Result, Ok, Err, codes, refl, sym, ap, subst, ◌∙◌, arith, true≢false}
use Rattle.std.specs.Prelude.{ℤ, pos, negsuc, unsigned_abs}
use Rattle.std.specs.Global.{Global}
use Rattle.std.specs.List.{list_any, list_all}
use Rattle.std.specs.Option.{option_and_then, is_some}
use Rattle.std.specs.Ordering.{int_eq}
use Rattle.std.specs.Str.{bytes_eq}
use Rattle.std.proofs.lemmas.Bool.{cases_order, leb-true, and_parts}
use Rattle.std.proofs.lemmas.Bool.Decides.{nat_tests}
use Rattle.std.proofs.lemmas.List.{length-append, map-append}
use Rattle.std.proofs.lemmas.Option.{none-some, same_Some}
use Rattle.std.proofs.lemmas.Str.{chars-nil}
use Rattle.std.proofs.Math.ListN.{get_or-append}
use Rattle.std.proofs.Math.Seq.{get_or-append_seam}
use Rattle.toml.specs.Data.{Data, Members, get_member, as_str, as_integer, as_array, as_table}
use Rattle.lattice.specs.declared.pieces.Crease.TheVariants.{Normal}
use Rattle.lattice.specs.declared.pieces.ViewSpec.TheVariants.{Plain, Section}
use Rattle.lattice.specs.declared.points.Axis.{Axis}
use Rattle.lattice.specs.declared.points.Dir.{Dir}
use Rattle.lattice.specs.Cuts.{Plane}
use Rattle.lattice.specs.Points.{of_dir}
use Rattle.lattice.specs.Triple.{Triple}
use Rattle.dec_text.specs.declared.number.Length.TheVariants.{Millimetre}
use Rattle.job_file.specs.declared.fault.JobFault.{JobFault}
use Rattle.job_file.specs.declared.fault.Key.{Key}
use Rattle.job_file.specs.declared.fault.Key.TheVariants as key
use Rattle.job_file.specs.declared.job.Job.{Job}
use Rattle.job_file.specs.declared.job.Paper.TheVariants.{A3}
use Rattle.job_file.specs.declared.job.Scale.{Scale}
use Rattle.job_file.specs.declared.view.JobView.{JobView}
use Rattle.job_file.specs.declared.view.Principal.{Principal}
use Rattle.job_file.specs.declared.view.Principal.TheVariants.{Front, Back, Left, Right, Above, Below}
use Rattle.job_file.specs.Arrays.{values_in}
use Rattle.job_file.specs.CutKeys.{axes, sides, plane_at, cut_view}
use Rattle.job_file.specs.Documents.{JobValues, version_at, decimals_of, choice, angles, creases, lengths, layouts, fits, title_of, texts_of, proper_outputs, outputs_of, usual_views, is_table, views_of, views_at, job_of, job_of_table, table_of, job_of_bytes}
use Rattle.job_file.specs.Papers.{papers}
use Rattle.job_file.specs.Keys.{unknown_key}
use Rattle.job_file.specs.Names.{direction_of, principals}
use Rattle.job_file.specs.Seen.{scale_seen, view_seen, job_seen}
use Rattle.job_file.specs.Steps.{◌>>=◌, unless, key_fault, or_wrong, value_or, look_up}
use Rattle.job_file.specs.Texts.{is_title_char, is_title, is_output, are_different, are_outputs}
use Rattle.job_file.specs.ViewKeys.{is_named, view_named, named_view, is_zero, is_outside, numbers_of, direction_at, toward_view, view_of_keys, view_of_table, view_of, views_after}
use Rattle.job_file.specs.ViewValues.{ViewValues, whole, behind}
use Rattle.job_file.specs.Views.{AreNamedApart}
use Rattle.job_file.proofs.ViewLemmas.{untaken}
use Rattle.answers_exist.proofs.Vectors.{vec_of}

-- ---- steps
-- P is true of what is given, if something is
record GivesSuch {B : Type 0} (P : B → Type 0) (r : Result B JobFault) : Type 0 where
  each : (y : B) → r ≡ Ok y → P y

given : {B : Type 0} (P : B → Type 0) (x : B) → P x → GivesSuch P (Ok x)
given P x p = record { each = λ y e. let same : x ≡ y = cc in subst P same p }

refused : {B : Type 0} (P : B → Type 0) (fault : JobFault) → GivesSuch P (Err fault)
refused P fault = record { each = λ y e. absurd (cc) }

then_at : {A B : Type 0} (P : B → Type 0) (r : Result A JobFault) (f : A → Result B JobFault) → ((x : A) → r ≡ Ok x → GivesSuch P (f x)) → GivesSuch P (r >>= f)
then_at P (Ok x) f next = next x refl
then_at P (Err fault) f next = refused P fault

ok_then : {A B : Type 0} {P : B → Type 0} (r : Result A JobFault) {f : A → Result B JobFault} → ((x : A) → r ≡ Ok x → GivesSuch P (f x)) → GivesSuch P (r >>= f)
ok_then {A} {B} {P} r {f} next = then_at P r f next

ok_such : {A B : Type 0} {Q : A → Type 0} {P : B → Type 0} {r : Result A JobFault} {f : A → Result B JobFault} → GivesSuch Q r → ((x : A) → Q x → GivesSuch P (f x)) → GivesSuch P (r >>= f)
ok_such {A} {B} {Q} {P} {r} {f} first next = then_at P r f (λ x e. next x (first.each x e))

ok_unless : {B : Type 0} {P : B → Type 0} (fault : Option JobFault) {r : Result B JobFault} → GivesSuch P r → GivesSuch P (unless fault r)
ok_unless None such = such
ok_unless {B} {P} (Some fault) such = refused P fault

ok_if : {B : Type 0} (P : B → Type 0) (b : Bool) (fault : JobFault) (r : Result B JobFault) → (b ≡ false → GivesSuch P r) → GivesSuch P (if b then Err fault else r)
ok_if P true fault r such = refused P fault
ok_if P false fault r such = such refl

wrong_such : {A : Type 0} (key : Key) (o : Option A) → GivesSuch (λ x. o ≡ Some x) (or_wrong key o)
wrong_such key None = record { each = λ y e. absurd (cc) }
wrong_such key (Some x) = record { each = λ y e. cc }

value_such : {A : Type 0} (Q : A → Type 0) (usual : A) (key : Key) (meaning : Data → Option A) → Q usual → ((d : Data) (x : A) → meaning d ≡ Some x → Q x) → (o : Option Data) → GivesSuch Q (value_or usual key meaning o)
value_such Q usual key meaning first each None = given Q usual first
value_such Q usual key meaning first each (Some d) = record { each = λ y e. each d y ((wrong_such key (meaning d)).each y e) }

-- ---- options
pub some_then : {A B : Type 0} (f : A → Option B) (o : Option A) (y : B) → option_and_then f o ≡ Some y → (x : A) × (o ≡ Some x) × (f x ≡ Some y)
some_then f None y e = absurd (none-some y e)
some_then f (Some x) y e = (x, refl, e)

pub some_if : {A : Type 0} (b : Bool) (x y : A) → (if b then Some x else None) ≡ Some y → (b ≡ true) × (x ≡ y)
some_if true x y e = (refl, same_Some x y e)
some_if false x y e = absurd (none-some y e)

-- of what stands beside each text
abbrev pub ForRows : {A : Type 0} → (A → Type 0) → List (List ℕ × A) → Type 0
ForRows P [] = Unit {0}
ForRows P (row ∷ rows) = P row.1 × ForRows P rows

pub found_row : {A : Type 0} (P : A → Type 0) (rows : List (List ℕ × A)) (text : List ℕ) (x : A) → ForRows P rows → look_up rows text ≡ Some x → P x
found_row P [] text x each e = absurd (none-some x e)
found_row P (row ∷ rows) text x (first, others) e = by (bytes_eq text row.0) e (found_row P rows text x others)
  where
    by : (b : Bool) → (if b then Some row.1 else look_up rows text) ≡ Some x → (look_up rows text ≡ Some x → P x) → P x
    by true e more = subst P (same_Some row.1 x e) first
    by false e more = more e

-- ---- single values
few_decimals : (o : Option ℤ) (n : ℕ) → decimals_of o ≡ Some n → n ≤ 6
few_decimals None n e = absurd (none-some n e)
few_decimals (Some (pos k)) n e = let (small, same) = some_if (nat_le k 6) k n e in let h = leb-true k 6 small in omega (arith, h, same)
few_decimals (Some (negsuc k)) n e = absurd (none-some n e)

-- it is the scale of a job, or none is asked for
abbrev pub HasScale : Option (ℕ × ℕ) → Type 0
HasScale o = (scale : Option Scale) × (option_map scale_seen scale ≡ o)

pub scale_rows : ForRows HasScale fits
scale_rows = (
  (None, refl),
  (
    (Some (record { num = 50; den = 1; listed = refl }), refl),
    (
      (Some (record { num = 20; den = 1; listed = refl }), refl),
      (
        (Some (record { num = 10; den = 1; listed = refl }), refl),
        (
          (Some (record { num = 5; den = 1; listed = refl }), refl),
          (
            (Some (record { num = 2; den = 1; listed = refl }), refl),
            (
              (Some (record { num = 1; den = 1; listed = refl }), refl),
              (
                (Some (record { num = 1; den = 2; listed = refl }), refl),
                (
                  (Some (record { num = 1; den = 5; listed = refl }), refl),
                  (
                    (Some (record { num = 1; den = 10; listed = refl }), refl),
                    ((Some (record { num = 1; den = 20; listed = refl }), refl), ((Some (record { num = 1; den = 50; listed = refl }), refl), ((Some (record { num = 1; den = 100; listed = refl }), refl), tt))),
                  ),
                ),
              ),
            ),
          ),
        ),
      ),
    ),
  ),
)

scale_of : (d : Data) (o : Option (ℕ × ℕ)) → choice fits d ≡ Some o → HasScale o
scale_of d o e = let (text, is, found) = some_then (look_up fits) (as_str d) o e in found_row HasScale fits text o scale_rows found

empty_title : IsTrue (is_title (codes ""))
empty_title = ap (list_all is_title_char) chars-nil

proper_title : (d : Data) (title : List ℕ) → title_of d ≡ Some title → IsTrue (is_title title)
proper_title d title e =
    let (text, is, kept) = some_then (λ text. if is_title text then Some text else None) (as_str d) title e in
    let (proper, same) = some_if (is_title text) text title kept in
    subst (λ (t : List ℕ). IsTrue (is_title t)) same proper

outputs_proper : (d : Data) (outputs : List (List ℕ)) → outputs_of d ≡ Some outputs → IsTrue (are_outputs outputs)
outputs_proper d outputs e =
    let (items, is, kept) = some_then (λ items. proper_outputs (values_in items)) (as_array d) outputs e in
    let (texts, are, chosen) = some_then (λ texts. if are_outputs texts then Some texts else None) (texts_of (values_in items)) outputs kept in
    let (proper, same) = some_if (are_outputs texts) texts outputs chosen in
    subst (λ (ts : List (List ℕ)). IsTrue (are_outputs ts)) same proper

few_outputs : (outputs : List (List ℕ)) → IsTrue (are_outputs outputs) → length outputs ≤ 8
few_outputs outputs h =
    let both = and_parts (nat_le (length outputs) 8 && list_all is_output outputs) (are_different outputs) h in
    leb-true (length outputs) 8 (and_parts (nat_le (length outputs) 8) (list_all is_output outputs) both.0).0

-- ---- views
-- a view with these values, whose name none of these views has
abbrev IsNewView : List JobView → ViewValues → Type 0
IsNewView ws v = (w : JobView) × (view_seen w ≡ v) × ((k : ℕ) (d : JobView) → k < length ws → AreNamedApart (get_or ws k d).named w.named)

pub name_direction : (p : Principal) → (d : Dir) × (of_dir d ≡ direction_of p)
name_direction Front = (record { x = pos 0; y = negsuc 0; z = pos 0; x_in_range = omega arith; y_in_range = omega arith; z_in_range = omega arith; not_zero = omega arith }, refl)
name_direction Back = (record { x = pos 0; y = pos 1; z = pos 0; x_in_range = omega arith; y_in_range = omega arith; z_in_range = omega arith; not_zero = omega arith }, refl)
name_direction Left = (record { x = negsuc 0; y = pos 0; z = pos 0; x_in_range = omega arith; y_in_range = omega arith; z_in_range = omega arith; not_zero = omega arith }, refl)
name_direction Right = (record { x = pos 1; y = pos 0; z = pos 0; x_in_range = omega arith; y_in_range = omega arith; z_in_range = omega arith; not_zero = omega arith }, refl)
name_direction Above = (record { x = pos 0; y = pos 0; z = pos 1; x_in_range = omega arith; y_in_range = omega arith; z_in_range = omega arith; not_zero = omega arith }, refl)
name_direction Below = (record { x = pos 0; y = pos 0; z = negsuc 0; x_in_range = omega arith; y_in_range = omega arith; z_in_range = omega arith; not_zero = omega arith }, refl)

-- a view without a name has the name of none
nameless : (m : Option Principal) → AreNamedApart m None
nameless m = λ p e h. none-some p h

module _ (ws : List JobView) where
  -- ---- by name
  view_by_name : (p : Principal) → list_any (λ v. is_named p v.named) (map view_seen ws) ≡ false → IsNewView ws (view_named p)
  view_by_name p free =
      let (d, same) = name_direction p in (
        record { spec = Plain d; named = Some p; directed = λ q e. ap (λ (t : Triple). Some t) same ∙ ap (λ (r : Principal). Some (direction_of r)) (same_Some p q e) },
        (λ i. record { shows = whole (same i); named = Some p }),
        (λ k d less. untaken p ws k d free less),
      )

  name_ok : (d : Data) → GivesSuch (IsNewView ws) (named_view (map view_seen ws) d)
  name_ok d = ok_then (or_wrong key.Name (option_and_then (look_up principals) (as_str d))) (λ p e. ok_if (IsNewView ws) (list_any (λ v. is_named p v.named) (map view_seen ws)) _ _ (λ free. given (IsNewView ws) (view_named p) (view_by_name p free)))

  -- ---- by a direction
  abbrev IsDirection : Triple → Type 0
  IsDirection t = (d : Dir) × (of_dir d ≡ t)

  in_reach : (n : ℤ) → is_outside n ≡ false → unsigned_abs n ≤ 9
  in_reach n h = grind (arith, nat_tests)

  somewhere : (x y z : ℤ) → (int_eq x (pos 0) && int_eq y (pos 0) && int_eq z (pos 0)) ≡ false → 0 < unsigned_abs x + unsigned_abs y + unsigned_abs z
  somewhere (pos zero) (pos zero) (pos zero) h = absurd (true≢false h)
  somewhere (pos zero) (pos zero) (pos (suc n)) h = omega arith
  somewhere (pos zero) (pos zero) (negsuc n) h = omega arith
  somewhere (pos zero) (pos (suc n)) z h = omega arith
  somewhere (pos zero) (negsuc n) z h = omega arith
  somewhere (pos (suc n)) y z h = omega arith
  somewhere (negsuc n) y z h = omega arith

  direction_ok : (n : ℕ) (t : Triple) → GivesSuch IsDirection (direction_at n t)
  direction_ok n t =
      ok_if IsDirection (is_zero t) _ _ (λ proper. ok_if IsDirection (is_outside t.x) _ _ (λ x. ok_if IsDirection (is_outside t.y) _ _ (λ y. ok_if IsDirection (is_outside t.z) _ _ (λ z.
      given IsDirection t (record { x = t.x; y = t.y; z = t.z; x_in_range = in_reach t.x x; y_in_range = in_reach t.y y; z_in_range = in_reach t.z z; not_zero = somewhere t.x t.y t.z proper }, refl)))))

  direction_view : (t : Triple) → IsDirection t → IsNewView ws (record { shows = whole t; named = None })
  direction_view t (d, same) = (record { spec = Plain d; named = None; directed = λ q e. absurd (none-some q e) }, (λ i. record { shows = whole (same i); named = None }), (λ k d less. nameless _))

  toward_ok : (n : ℕ) (d : Data) → GivesSuch (IsNewView ws) (toward_view n d)
  toward_ok n d = ok_then (or_wrong key.Toward (numbers_of d)) (λ t e. ok_such (direction_ok n t) (λ u is. given (IsNewView ws) (record { shows = whole u; named = None }) (direction_view u is)))

  -- ---- by a cut
  abbrev HasReach : Plane → Type 0
  HasReach c = unsigned_abs c.at ≤ 2 ^ 20

  not_past : (m n : ℕ) → nat_lt m n ≡ false → n ≤ m
  not_past m n h = grind (arith, nat_tests)

  plane_ok : (n : ℕ) (axis : Axis) (at : ℤ) (high : Bool) → GivesSuch HasReach (plane_at n axis at high)
  plane_ok n axis at high = ok_if HasReach (nat_lt (2 ^ 20) (unsigned_abs at)) _ _ (λ near. given HasReach (record { axis = axis; at = at; from_high = high }) (not_past (2 ^ 20) (unsigned_abs at) near))

  plane_view : (c : Plane) → HasReach c → IsNewView ws (record { shows = behind c; named = None })
  plane_view c near = (record { spec = Section (record { axis = c.axis; at = c.at; from_high = c.from_high; in_range = near }); named = None; directed = λ q e. absurd (none-some q e) }, refl, (λ k d less. nameless _))

  cut_ok : (n : ℕ) (cut : Data) (at from : Option Data) → GivesSuch (IsNewView ws) (cut_view n cut at from)
  cut_ok n cut at from =
      ok_then (or_wrong key.Cut (option_and_then (look_up axes) (as_str cut))) (λ axis e. ok_then (or_wrong key.At (option_and_then as_integer at)) (λ place f. ok_then (or_wrong key.From (option_and_then (look_up sides) (option_and_then as_str from))) (λ high g. ok_such (plane_ok n axis place high) (λ c near. given (IsNewView ws) (record { shows = behind c; named = None }) (plane_view c near)))))

  -- ---- by a table
  keys_ok : (name toward cut at from : Option Data) → GivesSuch (IsNewView ws) (view_of_keys (map view_seen ws) name toward cut at from)
  keys_ok (Some name) None None at from = ok_if (IsNewView ws) (is_some at || is_some from) _ _ (λ _. name_ok name)
  keys_ok None (Some toward) None at from = ok_if (IsNewView ws) (is_some at || is_some from) _ _ (λ _. toward_ok (length (map view_seen ws)) toward)
  keys_ok None None (Some cut) at from = cut_ok (length (map view_seen ws)) cut at from
  keys_ok None None None at from = refused (IsNewView ws) _
  keys_ok (Some name) (Some toward) None at from = refused (IsNewView ws) _
  keys_ok (Some name) None (Some cut) at from = refused (IsNewView ws) _
  keys_ok None (Some toward) (Some cut) at from = refused (IsNewView ws) _
  keys_ok (Some name) (Some toward) (Some cut) at from = refused (IsNewView ws) _

  table_ok : (ms : Members) → GivesSuch (IsNewView ws) (view_of_table (map view_seen ws) ms)
  unfolding view_of_table
  table_ok ms = ok_unless _ (keys_ok (get_member (codes "name") ms) (get_member (codes "toward") ms) (get_member (codes "cut") ms) (get_member (codes "at") ms) (get_member (codes "from") ms))

  view_ok : (d : Data) → GivesSuch (IsNewView ws) (view_of (map view_seen ws) d)
  view_ok d = ok_then (or_wrong key.View (as_table d)) (λ ms e. table_ok ms)

-- ---- all views
abbrev AreApart : List JobView → Type 0
AreApart ws = AllPairs (λ v w. AreNamedApart v.named w.named) ws

apart_more : (ws : List JobView) (w : JobView) → AreApart ws → ((k : ℕ) (d : JobView) → k < length ws → AreNamedApart (get_or ws k d).named w.named) → AreApart (ws ++ w ∷ [])
apart_more ws w apart new i j d less within = by (cases_order j (length ws))
  where
    front : (k : ℕ) → k < length ws → get_or (ws ++ w ∷ []) k d ≡ get_or ws k d
    front k h = get_or-append ws (w ∷ []) d k h

    by : (j ≡ length ws) ⊎ ((j < length ws) ⊎ (length ws < j)) → AreNamedApart (get_or (ws ++ w ∷ []) i d).named (get_or (ws ++ w ∷ []) j d).named
    by (inl last) =
        let before : i < length ws = omega (arith, less, last) in
        let there : get_or (ws ++ w ∷ []) j d ≡ w = ap (λ (k : ℕ). get_or (ws ++ w ∷ []) k d) last ∙ get_or-append_seam ws w [] d in
        subst (λ (v : JobView). AreNamedApart v.named (get_or (ws ++ w ∷ []) j d).named) (sym (front i before)) (subst (λ (v : JobView). AreNamedApart (get_or ws i d).named v.named) (sym there) (new i d before))
    by (inr (inl here)) =
        subst (λ (v : JobView). AreNamedApart v.named (get_or (ws ++ w ∷ []) j d).named) (sym (front i (omega (arith, less, here)))) (subst (λ (v : JobView). AreNamedApart (get_or ws i d).named v.named) (sym (front j here)) (apart i j d less here))
    by (inr (inr past)) = absurd (omega (arith, past, within, length-append ws (w ∷ [])))

-- views with these values, n of them, no two of one name
abbrev AreViews : ℕ → List ViewValues → Type 0
AreViews n vs = (ws : List JobView) × (map view_seen ws ≡ vs) × AreApart ws × (length ws ≡ n)

views_ok : (ds : List Data) (ws : List JobView) (n : ℕ) → AreApart ws → length ws + length ds ≡ n → GivesSuch (AreViews n) (views_after (map view_seen ws) ds)
views_ok [] ws n apart count = given (AreViews n) (map view_seen ws) (ws, refl, apart, omega (arith, count))
views_ok (d ∷ ds) ws n apart count =
    ok_such (view_ok ws d) (λ v new.
    let (w, is, free) = new in
    let same : map view_seen (ws ++ w ∷ []) ≡ map view_seen ws ++ v ∷ [] = map-append view_seen ws (w ∷ []) ∙ ap (λ (x : ViewValues). map view_seen ws ++ x ∷ []) is in
    let long : length (ws ++ w ∷ []) + length ds ≡ n = omega (arith, count, length-append ws (w ∷ [])) in
    subst (λ (es : List ViewValues). GivesSuch (AreViews n) (views_after es ds)) same (views_ok ds (ws ++ w ∷ []) n (apart_more ws w apart free) long))

-- 1 to 12 of them
abbrev AreJobViews : List ViewValues → Type 0
AreJobViews vs = (ws : List JobView) × (map view_seen ws ≡ vs) × AreApart ws × (1 ≤ length ws) × (length ws ≤ 12)

none_empty : (n : ℕ) (b : Bool) → ((n == 0) || b) ≡ false → 1 ≤ n
none_empty zero b h = absurd (true≢false h)
none_empty (suc n) b h = omega arith

job_views_of : (ds : List Data) → GivesSuch AreJobViews (views_of ds)
job_views_of ds =
    ok_if AreJobViews ((length ds == 0) || not (list_all is_table ds)) _ _ (λ some. ok_if AreJobViews (nat_lt 12 (length ds)) _ _ (λ few. record {
      each = λ vs e.
          let (ws, same, apart, count) = (views_ok ds [] (length ds) (λ i j d less within. absurd (omega (arith, within))) (omega arith)).each vs e in
          let least = none_empty (length ds) (not (list_all is_table ds)) some in
          let most = not_past [] 12 (length ds) few in
          (ws, same, apart, omega (arith, count, least), omega (arith, count, most));
    }))

module _ (alloc : Global) where
  -- the values of a job
  abbrev HasJob : JobValues → Type 0
  HasJob values = (job : Job) × (job_seen job ≡ values)

  usual_views_there : AreJobViews usual_views
  usual_views_there =
      let (front, is_front, a) = view_by_name [] Front refl in
      let (above, is_above, b) = view_by_name [] Above refl in
      let (left, is_left, c) = view_by_name [] Left refl in
      (front ∷ above ∷ left ∷ [], (λ i. is_front i ∷ is_above i ∷ is_left i ∷ []), usual_apart front above left is_front is_above is_left, omega arith, omega arith)
    where
      named_as : (w : JobView) (p : Principal) → view_seen w ≡ view_named p → w.named ≡ Some p
      named_as w p e = ap (λ (v : ViewValues). v.named) e

      differ : (v w : JobView) (p q : Principal) → v.named ≡ Some p → w.named ≡ Some q → (p ≡ q → ⊥) → AreNamedApart v.named w.named
      differ v w p q e f apart = λ r g h. apart (same_Some p r (sym e ∙ g) ∙ sym (same_Some q r (sym f ∙ h)))

      usual_apart : (front above left : JobView) → view_seen front ≡ view_named Front → view_seen above ≡ view_named Above → view_seen left ≡ view_named Left → AreApart (front ∷ above ∷ left ∷ [])
      usual_apart front above left f a l zero (suc zero) d less within = differ front above Front Above (named_as front Front f) (named_as above Above a) (λ e. cc)
      usual_apart front above left f a l zero (suc (suc zero)) d less within = differ front left Front Left (named_as front Front f) (named_as left Left l) (λ e. cc)
      usual_apart front above left f a l (suc zero) (suc (suc zero)) d less within = differ above left Above Left (named_as above Above a) (named_as left Left l) (λ e. cc)
      usual_apart front above left f a l i zero d less within = absurd (omega (arith, less))
      usual_apart front above left f a l (suc i) (suc zero) d less within = absurd (omega (arith, less))
      usual_apart front above left f a l (suc (suc i)) (suc (suc zero)) d less within = absurd (omega (arith, less))
      usual_apart front above left f a l i (suc (suc (suc j))) d less within = absurd (omega (arith, within))

  views_there : (o : Option Data) → GivesSuch AreJobViews (views_at o)
  views_there None = given AreJobViews usual_views usual_views_there
  views_there (Some d) = ok_then (or_wrong key.View (as_array d)) (λ items _. job_views_of (values_in items))

  free : {A : Type 0} (usual : A) (key : Key) (meaning : Data → Option A) (o : Option Data) → GivesSuch (λ x. Unit {0}) (value_or usual key meaning o)
  free usual key meaning o = value_such (λ x. Unit {0}) usual key meaning tt (λ d x e. tt) o

  job_there : (values : JobValues) → values.decimals ≤ 6 → HasScale values.scale → IsTrue (is_title values.title) → IsTrue (are_outputs values.outputs) → AreJobViews values.views → HasJob values
  job_there values few (scale, scale_is) title outputs (ws, views_are, apart, some, most) =
      let count = few_outputs values.outputs outputs in (
        record {
          decimals = values.decimals;
          third = values.third;
          paper = values.paper;
          scale = scale;
          crease = values.crease;
          title = values.title;
          outputs = vec_of alloc values.outputs (omega (arith, count));
          unit = values.unit;
          portrait = values.portrait;
          views = vec_of alloc ws (omega (arith, most));
          few_decimals = few;
          proper_title = title;
          proper_outputs = outputs;
          some_views = some;
          few_views = most;
          named_apart = apart;
        },
        (λ i. record {
          decimals = values.decimals;
          third = values.third;
          paper = values.paper;
          scale = scale_is i;
          crease = values.crease;
          title = values.title;
          outputs = values.outputs;
          unit = values.unit;
          portrait = values.portrait;
          views = views_are i;
        }),
      )

  values_there : (ms : Members) → GivesSuch HasJob (job_of ms)
  unfolding job_of
  values_there ms =
      ok_then (version_at (get_member (codes "version") ms)) (λ kind _. ok_unless (key_fault (unknown_key kind ms)) (
      ok_such (value_such (λ n. n ≤ 6) 3 key.Decimals (λ d. decimals_of (as_integer d)) (omega arith) (λ d n e. few_decimals (as_integer d) n e) (get_member (codes "decimals") ms)) (λ decimals few.
      ok_such (free false key.Angle (choice angles) (get_member (codes "angle") ms)) (λ third _.
      ok_such (free A3 key.Sheet (choice papers) (get_member (codes "sheet") ms)) (λ paper _.
      ok_such (value_such HasScale None key.Scale (choice fits) (None, refl) scale_of (get_member (codes "scale") ms)) (λ scale scale_there.
      ok_such (free Normal key.Crease (choice creases) (get_member (codes "crease") ms)) (λ crease _.
      ok_such (value_such (λ t. IsTrue (is_title t)) (codes "") key.Title title_of empty_title proper_title (get_member (codes "title") ms)) (λ title proper.
      ok_such (value_such (λ ts. IsTrue (are_outputs ts)) [] key.Outputs outputs_of refl outputs_proper (get_member (codes "outputs") ms)) (λ outputs all_proper.
      ok_such (free Millimetre key.Unit (choice lengths) (get_member (codes "unit") ms)) (λ unit _.
      ok_such (free false key.Layout (choice layouts) (get_member (codes "layout") ms)) (λ portrait _.
      ok_such (views_there (get_member (codes "view") ms)) (λ views there.
      given HasJob (record { decimals = decimals; third = third; paper = paper; scale = scale; crease = crease; title = title; outputs = outputs; unit = unit; portrait = portrait; views = views })
      (job_there (record { decimals = decimals; third = third; paper = paper; scale = scale; crease = crease; title = title; outputs = outputs; unit = unit; portrait = portrait; views = views }) few scale_there proper all_proper there)))))))))))))

  said_by : (o : Option Members) → GivesSuch HasJob (job_of_table o)
  said_by None = refused HasJob _
  said_by (Some ms) = values_there ms

  -- what bytes say as a job: the values of one, or a fault
  pub some_job : (bytes : List ℕ) → ((job : Job) × (job_of_bytes bytes ≡ Ok (job_seen job))) ⊎ ((cause : JobFault) × (job_of_bytes bytes ≡ Err cause))
  some_job bytes = by (job_of_bytes bytes) refl (said_by (table_of bytes))
    where
      by : (r : Result JobValues JobFault) → job_of_bytes bytes ≡ r → GivesSuch HasJob (job_of_bytes bytes) → ((job : Job) × (job_of_bytes bytes ≡ Ok (job_seen job))) ⊎ ((cause : JobFault) × (job_of_bytes bytes ≡ Err cause))
      by (Ok values) e such = let (job, same) = such.each values e in inl (job, e ∙ sym (ap (λ (v : JobValues). Ok v) same))
      by (Err cause) e such = inr (cause, e)
