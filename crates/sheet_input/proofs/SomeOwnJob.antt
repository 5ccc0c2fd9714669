-- A job of version 3 that was read is a job at each number of decimals, or one of its cuts is too far away there.
use Rattle.std.proofs.Common.{◌≡◌, ◌⊎◌, inl, inr, ℕ, zero, suc, ◌+◌, ◌-◌, ◌<◌, ◌≤◌, ◌^◌, Bool, true, false, ◌&&◌, ◌==◌, IsTrue, if◌then◌else◌, nat_le, nat_lt, List, [], ◌∷◌, ◌++◌, AllPairs, length, map, get_or, Option, Some, None, option_map, Result, Ok, Err, codes, refl, sym, ap, subst, ◌∙◌, arith, true≢false, append_assoc, append-nil}
use Rattle.std.specs.Prelude.{ℤ, pos, negsuc, neg_ℤ, unsigned_abs}
use Rattle.std.specs.Char.{is_ascii_digit}
use Rattle.std.specs.Global.{Vec, Global}
use Rattle.std.specs.List.{AllZip, filter, list_any}
use Rattle.std.specs.Option.{option_and_then, option_or}
use Rattle.std.specs.Ordering.{int_eq}
use Rattle.std.specs.Str.{bytes_eq}
use Rattle.std.proofs.lemmas.Bool.{cases_Bool, cases_lt, cases_order, leb-true, and_parts}
use Rattle.std.proofs.lemmas.Bool.Decides.{nat_tests}
use Rattle.std.proofs.lemmas.List.{length-append, length-map}
use Rattle.std.proofs.lemmas.List.Elements.{filter-append}
use Rattle.std.proofs.lemmas.Option.{none-some, same_Some}
use Rattle.std.proofs.Math.ListN.{get_or-append}
use Rattle.std.proofs.Math.Seq.{get_or-append_seam}
use Rattle.dec_text.specs.Numbers.{Number, magnitude_of, units_of}
use Rattle.dec_text.specs.declared.number.Length.{Length}
use Rattle.lattice.specs.declared.pieces.ViewSpec.TheVariants.{Plain, Section}
use Rattle.lattice.specs.declared.points.Axis.{Axis}
use Rattle.lattice.specs.declared.points.Dir.{Dir}
use Rattle.lattice.specs.Points.{of_dir}
use Rattle.lattice.specs.Triple.{Triple}
use Rattle.job_file.specs.Documents.{fits}
use Rattle.job_file.specs.Names.{direction_of}
use Rattle.job_file.specs.Seen.{job_seen, shown, view_seen}
use Rattle.job_file.specs.Steps.{look_up}
use Rattle.job_file.specs.Texts.{is_title}
use Rattle.job_file.specs.ViewKeys.{is_named, is_zero, triple_of}
use Rattle.job_file.specs.ViewValues.{whole}
use Rattle.job_file.specs.Views.{AreNamedApart}
use Rattle.job_file.specs.declared.job.Job.{Job as MadeJob}
use Rattle.job_file.specs.declared.view.JobView.{JobView}
use Rattle.job_file.specs.declared.view.Principal.{Principal}
use Rattle.job_file.specs.declared.view.Principal.TheVariants.{Front, Back, Left, Right, Above, Below}
use Rattle.job_tables.specs.Faults.{Fault, header_fault, fault_after, first_fault, job_tables, key_fault, table_fault, too_many_views, unless as unless_table, view_fault}
use Rattle.job_tables.specs.declared.table.TableKind.TheVariants.{Job}
use Rattle.job_tables.specs.Tables.{Entry, Table, Tables, Header, single, double, Headed, by_header, is_block, is_view, tables_of}
use Rattle.job_text.specs.Lines.{TextLine, text_lines}
use Rattle.job_text.specs.Values.{TextItem, text, flag, number, Written, one, several}
use Rattle.sheet_job.specs.JobsAt.{IsJobAt, IsNumberTooFar, IsShownAt, IsShownTooFar, IsTooFar, IsTooFarIn, IsViewAt}
use Rattle.sheet_job.specs.SheetFaults.{OwnFault, ◌>>=◌, unless}
use Rattle.sheet_job.specs.SheetJobs.{SheetJobValues, block_of, entries_in, of_lines, of_tables, sheet_job_of, sheet_job_of_text, values_with, wrong_in}
use Rattle.sheet_job.specs.SheetViews.{SheetShownValues, SheetViewValues, cut, entry_of, hidden_at, meaning_at, name_at, or_usual, plain, placed_at, sheet_cut_view, sheet_named_view, sheet_toward_view, sheet_view_of, sheet_views_after, sheet_views_of, usual_sheet_views, view_of_form, without_cut, plain_view}
use Rattle.sheet_job.specs.WrittenValues.{choice_in, decimals_digit, decimals_in, digit_value, is_length, length_in, not_zero, proper_title, small_in, small_number, text_in, title_in, toward_in, toward_of}
use Rattle.sheet_job.proofs.NumberLemmas.{length_is_number, units_size}
use Rattle.answers_exist.proofs.SomeJob.{HasScale, found_row, name_direction, scale_rows, some_if, some_then}
use denote.RawPtr.{null_ptr}

-- a vector with these items
abbrev vec_of : {X : Type 0} → Global → (xs : List X) → length xs < 2 ^ 63 → Vec X
vec_of alloc xs h = record { items = xs; ptr = null_ptr; len = length xs; cap = length xs; alloc = alloc; ok = (refl, omega arith); small = h }

-- ---- what is given
-- P is true of what is given, if something is
record IsSuch {B F : Type 0} (P : B → Type 0) (r : Result B F) : Type 0 where
  each : (y : B) → r ≡ Ok y → P y

given : {B F : Type 0} (P : B → Type 0) (x : B) → P x → IsSuch {F = F} P (Ok x)
given P x p = record { each = λ y e. let same : x ≡ y = cc in subst P same p }

refused : {B F : Type 0} (P : B → Type 0) (fault : F) → IsSuch P (Err fault)
refused P fault = record { each = λ y e. absurd (cc) }

then_at : {A B : Type 0} (P : B → Type 0) (r : Result A (OwnFault × ℕ)) (f : A → Result B (OwnFault × ℕ)) → ((x : A) → r ≡ Ok x → IsSuch P (f x)) → IsSuch P (r >>= f)
then_at P (Ok x) f next = next x refl
then_at P (Err fault) f next = refused P fault

such_unless : {B : Type 0} (P : B → Type 0) (fault : Option (OwnFault × ℕ)) (r : Result B (OwnFault × ℕ)) → IsSuch P r → IsSuch P (unless fault r)
such_unless P None r such = such
such_unless P (Some fault) r such = refused P fault

such_if : {B : Type 0} (P : B → Type 0) (b : Bool) (fault : OwnFault × ℕ) (r : Result B (OwnFault × ℕ)) → (b ≡ false → IsSuch P r) → IsSuch P (if b then Err fault else r)
such_if P true fault r such = refused P fault
such_if P false fault r such = such refl

-- ---- options
some_map : {A B : Type 0} (f : A → B) (o : Option A) (y : B) → option_map f o ≡ Some y → (x : A) × (o ≡ Some x) × (f x ≡ y)
some_map f None y e = absurd (none-some y e)
some_map f (Some x) y e = (x, refl, same_Some (f x) y e)

map_none : {A B : Type 0} (f : A → B) (o : Option A) → option_map f o ≡ None → o ≡ None
map_none f None e = refl
map_none f (Some x) e = absurd (none-some (f x) (sym e))

both_none : {A : Type 0} (o p : Option A) → option_or o p ≡ None → (o ≡ None) × (p ≡ None)
both_none None p e = (refl, e)
both_none (Some x) p e = absurd (none-some x (sym e))

or_usual_is : {A : Type 0} (P : A → Type 0) (usual : A) (o : Option A) → P usual → ((x : A) → o ≡ Some x → P x) → P (or_usual usual o)
or_usual_is P usual None first each = first
or_usual_is P usual (Some x) first each = each x refl

-- what stands at a key is the meaning of some value
meant : {A : Type 0} (meaning : Written → Option A) (name : List ℕ) (entries : List Entry) (x : A) → meaning_at meaning name entries ≡ Some x → (w : Written) × (meaning w ≡ Some x)
meant meaning name entries x e = let (entry, is, said) = some_then (λ en. meaning en.value) (entry_of name entries) x e in (entry.value, said)

meant_there : {A : Type 0} (meaning : Written → Option A) (name : List ℕ) (entries : List Entry) (x : A × ℕ) → placed_at meaning name entries ≡ Some x → (w : Written) × (meaning w ≡ Some x.0)
meant_there {A} meaning name entries x e =
    let (entry, is, said) = some_then (λ en. option_map (λ y. (y, en.value_at)) (meaning en.value)) (entry_of name entries) x e in
    let (y, there, same) = some_map (λ y. (y, entry.value_at)) (meaning entry.value) x said in
    (entry.value, there ∙ ap (λ (p : A × ℕ). Some p.0) same)

-- ---- directions
abbrev IsDirection : Triple → Type 0
IsDirection t = (d : Dir) × (of_dir d ≡ t)

digit_size : (byte : ℕ) (n : ℤ) → digit_value byte ≡ Some n → unsigned_abs n ≤ 9
digit_size byte n e =
    let (digit, is) = some_if (is_ascii_digit byte) (pos (byte - 48)) n e in
    let small : byte ≤ 57 = grind (arith, nat_tests) in
    subst (λ (z : ℤ). unsigned_abs z ≤ 9) is (omega (arith, small))

negative_size : (n : ℤ) → unsigned_abs (neg_ℤ n) ≡ unsigned_abs n
negative_size (pos zero) = refl
negative_size (pos (suc n)) = refl
negative_size (negsuc n) = refl

signed_size : (plus minus : Bool) (byte : ℕ) (n : ℤ) → (if plus then digit_value byte else if minus then option_map neg_ℤ (digit_value byte) else None) ≡ Some n → unsigned_abs n ≤ 9
signed_size true minus byte n e = digit_size byte n e
signed_size false true byte n e =
    let (m, is, same) = some_map neg_ℤ (digit_value byte) n e in
    subst (λ (z : ℤ). unsigned_abs z ≤ 9) same (rw (negative_size m) (digit_size byte m is))
signed_size false false byte n e = absurd (none-some n e)

number_size : (word : List ℕ) (n : ℤ) → small_number word ≡ Some n → unsigned_abs n ≤ 9
number_size [] n e = absurd (none-some n e)
number_size (byte ∷ []) n e = digit_size byte n e
number_size (sign ∷ byte ∷ []) n e = signed_size (sign == 43) (sign == 45) byte n e
number_size (a ∷ b ∷ c ∷ rest) n e = absurd (none-some n e)

small_size : (item : TextItem) (n : ℤ) → small_in item ≡ Some n → unsigned_abs n ≤ 9
small_size (text t) n e = absurd (none-some n e)
small_size (flag b) n e = absurd (none-some n e)
small_size (number word) n e = number_size word n e

triple_parts : (a b c : Option ℤ) (t : Triple) → triple_of a b c ≡ Some t → (a ≡ Some t.x) × (b ≡ Some t.y) × (c ≡ Some t.z)
triple_parts None b c t e = absurd (none-some t e)
triple_parts (Some x) None c t e = absurd (none-some t e)
triple_parts (Some x) (Some y) None t e = absurd (none-some t e)
triple_parts (Some x) (Some y) (Some z) t e =
    let same = same_Some (record { x = x; y = y; z = z }) t e in (ap (λ (u : Triple). Some u.x) same, ap (λ (u : Triple). Some u.y) same, ap (λ (u : Triple). Some u.z) same)

somewhere : (x y z : ℤ) → (int_eq x (pos 0) && int_eq y (pos 0) && int_eq z (pos 0)) ≡ false → 0 < unsigned_abs x + unsigned_abs y + unsigned_abs z
somewhere (pos zero) (pos zero) (pos zero) h = absurd (true≢false h)
somewhere (pos zero) (pos zero) (pos (suc n)) h = omega arith
somewhere (pos zero) (pos zero) (negsuc n) h = omega arith
somewhere (pos zero) (pos (suc n)) z h = omega arith
somewhere (pos zero) (negsuc n) z h = omega arith
somewhere (pos (suc n)) y z h = omega arith
somewhere (negsuc n) y z h = omega arith

if_none : {A : Type 0} (b : Bool) (x y : A) → (if b then None else Some x) ≡ Some y → (b ≡ false) × (x ≡ y)
if_none true x y e = absurd (none-some y e)
if_none false x y e = (refl, same_Some x y e)

items_direction : (a b c : TextItem) (t : Triple) → option_and_then not_zero (triple_of (small_in a) (small_in b) (small_in c)) ≡ Some t → IsDirection t
items_direction a b c t e =
    let (u, is, kept) = some_then not_zero (triple_of (small_in a) (small_in b) (small_in c)) t e in
    let (proper, same) = if_none (is_zero u) u t kept in
    let parts = triple_parts (small_in a) (small_in b) (small_in c) u is in
    subst IsDirection same (
      record {
        x = u.x;
        y = u.y;
        z = u.z;
        x_in_range = small_size a u.x parts.0;
        y_in_range = small_size b u.y parts.1;
        z_in_range = small_size c u.z parts.2;
        not_zero = somewhere u.x u.y u.z proper;
      },
      refl,
    )

list_direction : (items : List TextItem) (t : Triple) → toward_of items ≡ Some t → IsDirection t
list_direction [] t e = absurd (none-some t e)
list_direction (a ∷ []) t e = absurd (none-some t e)
list_direction (a ∷ b ∷ []) t e = absurd (none-some t e)
list_direction (a ∷ b ∷ c ∷ []) t e = items_direction a b c t e
list_direction (a ∷ b ∷ c ∷ d ∷ rest) t e = absurd (none-some t e)

toward_direction : (w : Written) (t : Triple) → toward_in w ≡ Some t → IsDirection t
toward_direction (one item) t e = absurd (none-some t e)
toward_direction (several items) t e = list_direction items t e

-- ---- lengths
length_number : (w : Written) (word : List ℕ) → length_in w ≡ Some word → Number word
length_number (one (text t)) word e = absurd (none-some word e)
length_number (one (flag b)) word e = absurd (none-some word e)
length_number (one (number at)) word e =
    let (proper, same) = some_if (is_length at) at word e in subst Number same (length_is_number at proper)
length_number (several items) word e = absurd (none-some word e)

-- ---- one view
-- it shows the part from a direction, which is that of its name if it has one, or what a cut at a number leaves
abbrev HasShown : SheetShownValues → Option Principal → Type 0
HasShown (plain t) named = (d : Dir) × (of_dir d ≡ t) × ((p : Principal) → named ≡ Some p → t ≡ direction_of p)
HasShown (cut axis at from_high value_at) named = Number at × (named ≡ None)

abbrev IsApartFrom : List SheetViewValues → Option Principal → Type 0
IsApartFrom earlier named = (k : ℕ) (d : SheetViewValues) → k < length earlier → AreNamedApart (get_or earlier k d).named named

-- it shows something, and has no name of an earlier one
abbrev IsNew : List SheetViewValues → SheetViewValues → Type 0
IsNew earlier v = HasShown v.shows v.named × IsApartFrom earlier v.named

nameless : (earlier : List SheetViewValues) → IsApartFrom earlier None
nameless earlier = λ k d less p e h. none-some p h

same_name : (p : Principal) → is_named p (Some p) ≡ true
same_name Front = refl
same_name Back = refl
same_name Left = refl
same_name Right = refl
same_name Above = refl
same_name Below = refl

untaken : (p : Principal) (earlier : List SheetViewValues) → list_any (λ v. is_named p v.named) earlier ≡ false → IsApartFrom earlier (Some p)
untaken p [] none k d less = absurd (omega (arith, less))
untaken p (v ∷ vs) none zero d less =
    let here : is_named p v.named ≡ false = grind (arith, nat_tests) in
    λ q mq pq. true≢false (sym (same_name p) ∙ ap (is_named p) (pq ∙ sym mq) ∙ here)
untaken p (v ∷ vs) none (suc k) d less =
    let more : list_any (λ v. is_named p v.named) vs ≡ false = grind (arith, nat_tests) in
    untaken p vs more k d (omega (arith, less))

-- the view of a name
named_shown : (p : Principal) → HasShown (plain (direction_of p)) (Some p)
named_shown p = let (d, same) = name_direction p in (d, same, λ q e. ap direction_of (same_Some p q e))

named_new : (earlier : List SheetViewValues) (entries : List Entry) (name : Principal × ℕ) → IsSuch (IsNew earlier) (sheet_named_view earlier entries name)
named_new earlier entries name =
    such_unless (IsNew earlier) (without_cut (length earlier) entries) _ (such_if (IsNew earlier) (list_any (λ v. is_named name.0 v.named) earlier) _ _ (λ free.
    given (IsNew earlier) (plain_view (direction_of name.0) (Some name.0) (hidden_at entries)) (named_shown name.0, untaken name.0 earlier free)))

toward_new : (earlier : List SheetViewValues) (entries : List Entry) (t : Triple) → IsDirection t → IsSuch (IsNew earlier) (sheet_toward_view (length earlier) entries t)
toward_new earlier entries t (d, same) =
    such_unless (IsNew earlier) (without_cut (length earlier) entries) _ (given (IsNew earlier) (plain_view t None (hidden_at entries)) ((d, same, λ p e. absurd (none-some p e)), nameless earlier))

cut_new : (earlier : List SheetViewValues) (t : Table) (axis : Axis) (at : Option (List ℕ × ℕ)) (from : Option Bool) → ((x : List ℕ × ℕ) → at ≡ Some x → Number x.0)
    → IsSuch (IsNew earlier) (sheet_cut_view (length earlier) t axis at from)
cut_new earlier t axis None from is = refused (IsNew earlier) _
cut_new earlier t axis (Some at) None is = refused (IsNew earlier) _
cut_new earlier t axis (Some at) (Some from_high) is = given (IsNew earlier) _ ((is at refl, refl), nameless earlier)

form_new : (earlier : List SheetViewValues) (t : Table) (name : Option (Principal × ℕ)) (direction : Option Triple) (axis : Option Axis) → ((u : Triple) → direction ≡ Some u → IsDirection u)
    → IsSuch (IsNew earlier) (view_of_form earlier t name direction axis)
form_new earlier t (Some name) None None is = named_new earlier t.entries name
form_new earlier t None (Some direction) None is = toward_new earlier t.entries direction (is direction refl)
form_new earlier t None None (Some axis) is =
    cut_new earlier t axis (placed_at length_in (codes "at") t.entries) _ (λ x e. let (w, said) = meant_there length_in (codes "at") t.entries x e in length_number w x.0 said)
form_new earlier t None None None is = refused (IsNew earlier) _
form_new earlier t (Some name) (Some direction) None is = refused (IsNew earlier) _
form_new earlier t (Some name) None (Some axis) is = refused (IsNew earlier) _
form_new earlier t None (Some direction) (Some axis) is = refused (IsNew earlier) _
form_new earlier t (Some name) (Some direction) (Some axis) is = refused (IsNew earlier) _

view_new : (earlier : List SheetViewValues) (t : Table) → IsSuch (IsNew earlier) (sheet_view_of earlier t)
view_new earlier t =
    form_new earlier t (name_at t.entries) (meaning_at toward_in (codes "toward") t.entries) _ (λ u e. let (w, said) = meant toward_in (codes "toward") t.entries u e in toward_direction w u said)

-- ---- all views
abbrev AreShown : List SheetViewValues → Type 0
AreShown [] = Unit {0}
AreShown (v ∷ vs) = HasShown v.shows v.named × AreShown vs

abbrev AreApart : List SheetViewValues → Type 0
AreApart vs = AllPairs (λ v w. AreNamedApart v.named w.named) vs

-- so many views, each of which shows something, and no two of one name
record AreViews (n : ℕ) (vs : List SheetViewValues) : Type 0 where
  shown : AreShown vs
  apart : AreApart vs
  count : length vs ≡ n

shown_more : (vs : List SheetViewValues) (v : SheetViewValues) → AreShown vs → HasShown v.shows v.named → AreShown (vs ++ v ∷ [])
shown_more [] v h has = (has, tt)
shown_more (w ∷ ws) v h has = (h.0, shown_more ws v h.1 has)

apart_more : (vs : List SheetViewValues) (v : SheetViewValues) → AreApart vs → IsApartFrom vs v.named → AreApart (vs ++ v ∷ [])
apart_more vs v apart new i j d less within = by (cases_order j (length vs))
  where
    front : (k : ℕ) → k < length vs → get_or (vs ++ v ∷ []) k d ≡ get_or vs k d
    front k h = get_or-append vs (v ∷ []) d k h

    by : (j ≡ length vs) ⊎ ((j < length vs) ⊎ (length vs < j)) → AreNamedApart (get_or (vs ++ v ∷ []) i d).named (get_or (vs ++ v ∷ []) j d).named
    by (inl last) =
        let before : i < length vs = omega (arith, less, last) in
        let there : get_or (vs ++ v ∷ []) j d ≡ v = ap (λ (k : ℕ). get_or (vs ++ v ∷ []) k d) last ∙ get_or-append_seam vs v [] d in
        subst (λ (w : SheetViewValues). AreNamedApart w.named (get_or (vs ++ v ∷ []) j d).named) (sym (front i before))
        (subst (λ (w : SheetViewValues). AreNamedApart (get_or vs i d).named w.named) (sym there) (new i d before))
    by (inr (inl here)) =
        subst (λ (w : SheetViewValues). AreNamedApart w.named (get_or (vs ++ v ∷ []) j d).named) (sym (front i (omega (arith, less, here))))
        (subst (λ (w : SheetViewValues). AreNamedApart (get_or vs i d).named w.named) (sym (front j here)) (apart i j d less here))
    by (inr (inr past)) = absurd (omega (arith, past, within, length-append vs (v ∷ [])))

views_are : (ts : List Table) (earlier : List SheetViewValues) (n : ℕ) → AreShown earlier → AreApart earlier → length earlier + length ts ≡ n → IsSuch (AreViews n) (sheet_views_after earlier ts)
views_are [] earlier n shown apart count = given (AreViews n) earlier (record { shown = shown; apart = apart; count = omega (arith, count) })
views_are (t ∷ ts) earlier n shown apart count =
    then_at (AreViews n) (sheet_view_of earlier t) (λ v. sheet_views_after (earlier ++ v ∷ []) ts) (λ v e.
    let new = (view_new earlier t).each v e in
    views_are ts (earlier ++ v ∷ []) n (shown_more earlier v shown new.0) (apart_more earlier v apart new.1) (omega (arith, count, length-append earlier (v ∷ []))))

-- 1 to 12 of them
record AreSheetViews (vs : List SheetViewValues) : Type 0 where
  shown : AreShown vs
  apart : AreApart vs
  some : 1 ≤ length vs
  few : length vs ≤ 12

differ : (p q : Principal) → (p ≡ q → ⊥) → AreNamedApart (Some p) (Some q)
differ p q other = λ r e f. other (same_Some p r e ∙ sym (same_Some q r f))

usual_apart : AreApart usual_sheet_views
usual_apart zero (suc zero) d less within = differ Front Above (λ e. cc)
usual_apart zero (suc (suc zero)) d less within = differ Front Left (λ e. cc)
usual_apart (suc zero) (suc (suc zero)) d less within = differ Above Left (λ e. cc)
usual_apart i zero d less within = absurd (omega (arith, less))
usual_apart (suc i) (suc zero) d less within = absurd (omega (arith, less))
usual_apart (suc (suc i)) (suc (suc zero)) d less within = absurd (omega (arith, less))
usual_apart i (suc (suc (suc j))) d less within = absurd (omega (arith, within))

sheet_views_are : (ts : List Table) → length ts ≤ 12 → IsSuch AreSheetViews (sheet_views_of ts)
sheet_views_are [] few =
    given AreSheetViews usual_sheet_views (record { shown = (named_shown Front, (named_shown Above, (named_shown Left, tt))); apart = usual_apart; some = omega arith; few = omega arith })
sheet_views_are (t ∷ ts) few = record {
  each = λ vs e.
      let are = (views_are (t ∷ ts) [] (length (t ∷ ts)) tt (λ i j d less within. absurd (omega (arith, within))) (omega arith)).each vs e in
      let count = are.count in
      record { shown = are.shown; apart = are.apart; some = omega (arith, count); few = omega (arith, count, few) };
}

-- ---- tables
abbrev has_view : Headed → Bool
has_view t = is_view t.header

abbrev has_block : Headed → Bool
has_block t = is_block t.header

room_left : (n : ℕ) → view_fault n ≡ None → n < 12
room_left n e =
    elim (cases_Bool (nat_lt n 12)) [
      | inl less ↦ grind (arith, nat_tests)
      | inr more ↦ absurd (none-some too_many_views (sym (rw more at e)))
    ]

double_view : (b : Bool) (n : ℕ) (other : Option Fault) (t : Headed) → (if b then view_fault n else other) ≡ None → n ≤ 12 → n + length (if b then t ∷ [] else []) ≤ 12
double_view true n other t e few = let less = room_left n e in omega (arith, less)
double_view false n other t e few = omega (arith, few)

header_room : (has_block : Bool) (n : ℕ) (t : Headed) (h : Header) → t.header ≡ h → header_fault has_block n h t.table.entries ≡ None → n ≤ 12 → n + length (if is_view h then t ∷ [] else []) ≤ 12
header_room has_block n t (single key) is e few = omega (arith, few)
header_room has_block n t (double key) is e few = double_view (bytes_eq key (codes "view")) n _ t e few

one_table : (before : List Headed) (t : Headed) → length (filter has_view before) ≤ 12 → table_fault (list_any has_block before) (length (filter has_view before)) t ≡ None
    → length (filter has_view (before ++ t ∷ [])) ≤ 12
one_table before t few e =
    let count = length (filter has_view before) in
    let header = map_none (λ fault. (fault, t.table.at)) (header_fault (list_any has_block before) count t.header t.table.entries) (both_none _ _ e).0 in
    let room : count + length (if has_view t then t ∷ [] else []) ≤ 12 = header_room (list_any has_block before) count t t.header refl header few in
    let all : length (filter has_view (before ++ t ∷ [])) ≡ count + length (if has_view t then t ∷ [] else []) =
    ap (λ (xs : List Headed). length xs) (filter-append has_view before (t ∷ [])) ∙ length-append (filter has_view before) (if has_view t then t ∷ [] else []) in
    omega (arith, room, all)

few_headers : (ts before : List Headed) → length (filter has_view before) ≤ 12 → fault_after before ts ≡ None → length (filter has_view (before ++ ts)) ≤ 12
few_headers [] before few e = rw (append-nil before) few
few_headers (t ∷ ts) before few e =
    let none = both_none (table_fault (list_any has_block before) (length (filter has_view before)) t) (fault_after (before ++ t ∷ []) ts) e in
    subst (λ (all : List Headed). length (filter has_view all) ≤ 12) (append_assoc before (t ∷ []) ts) (few_headers ts (before ++ t ∷ []) (one_table before t few none.0) none.1)

unless_none : {A : Type 0} (fault : Option (Fault × ℕ)) (x y : A) → unless_table fault x ≡ Ok y → (fault ≡ None) × (x ≡ y)
unless_none None x y e = (refl, cc)
unless_none (Some fault) x y e = absurd (cc)

few_tables : (s : List Entry × List Headed) (tables : Tables) → unless_table (first_fault s) (tables_of s) ≡ Ok tables → length tables.views ≤ 12
few_tables s tables e =
    let (none, same) = unless_none (first_fault s) (tables_of s) tables e in
    let few : length (filter has_view s.1) ≤ 12 = few_headers s.1 [] (omega arith) (both_none (key_fault Job None s.0) (fault_after [] s.1) none).1 in
    let count : length (map (λ (t : Headed). t.table) (filter has_view s.1)) ≡ length (filter has_view s.1) = length-map (filter has_view s.1) (λ (t : Headed). t.table) in
    subst (λ (t : Tables). length t.views ≤ 12) same (omega (arith, few, count))

few_views : (lines : List TextLine) (tables : Tables) → job_tables lines ≡ Ok tables → length tables.views ≤ 12
few_views lines tables e = few_tables (by_header lines) tables e

-- ---- the values of a job
digit_few : (word : List ℕ) (n : ℕ) → decimals_digit word ≡ Some n → n ≤ 6
digit_few [] n e = absurd (none-some n e)
digit_few (byte ∷ []) n e =
    let (digit, same) = some_if (nat_le 48 byte && nat_le byte 54) (byte - 48) n e in
    let small = leb-true byte 54 (and_parts (nat_le 48 byte) (nat_le byte 54) digit).1 in
    omega (arith, same, small)
digit_few (a ∷ b ∷ rest) n e = absurd (none-some n e)

fit_none : (b : Bool) (n : ℕ) → (if b then Some None else None) ≡ Some (Some n) → ⊥
fit_none true n e = none-some n (same_Some None (Some n) e)
fit_none false n e = none-some (Some n) e

decimals_few : (w : Written) (n : ℕ) → decimals_in w ≡ Some (Some n) → n ≤ 6
decimals_few (one (text t)) n e = absurd (fit_none (bytes_eq t (codes "fit")) n e)
decimals_few (one (flag b)) n e = absurd (none-some (Some n) e)
decimals_few (one (number word)) n e = let (m, is, same) = some_map (λ k. Some k) (decimals_digit word) (Some n) e in digit_few word n (is ∙ same)
decimals_few (several items) n e = absurd (none-some (Some n) e)

text_proper : (w : Written) (t : List ℕ) → title_in w ≡ Some t → IsTrue (is_title t)
text_proper w t e =
    let (said, is, kept) = some_then proper_title (text_in w) t e in
    let (proper, same) = some_if (is_title said) said t kept in
    subst (λ (x : List ℕ). IsTrue (is_title x)) same proper

scale_there : (w : Written) (scale : Option (ℕ × ℕ)) → choice_in fits w ≡ Some scale → HasScale scale
scale_there w scale e = let (said, is, found) = some_then (look_up fits) (text_in w) scale e in found_row HasScale fits said scale scale_rows found

-- what is known of the values of a job that was read
pub record AreOwn (values : SheetJobValues) : Type 0 where
  pub few : (n : ℕ) → values.decimals ≡ Some n → n ≤ 6
  pub scale : HasScale values.scale
  pub title : (t : List ℕ) → values.title ≡ Some t → IsTrue (is_title t)
  views : AreSheetViews values.views

tables_own : (t : Tables) → length t.views ≤ 12 → IsSuch AreOwn (sheet_job_of t)
tables_own t few =
    such_unless AreOwn (wrong_in t) _ (then_at AreOwn (sheet_views_of t.views) (λ views. Ok (values_with t.job.entries (block_of (entries_in t.block)) views)) (λ views e.
    given AreOwn (values_with t.job.entries (block_of (entries_in t.block)) views) (record {
      few = or_usual_is (λ (o : Option ℕ). (n : ℕ) → o ≡ Some n → n ≤ 6) None (meaning_at decimals_in (codes "decimals") t.job.entries) (λ n is. absurd (none-some n is))
          (λ o is n same. let (w, said) = meant decimals_in (codes "decimals") t.job.entries o is in decimals_few w n (said ∙ ap (λ (p : Option ℕ). Some p) same));
      scale = or_usual_is HasScale None (meaning_at (choice_in fits) (codes "scale") t.job.entries) (None, refl)
          (λ o is. let (w, said) = meant (choice_in fits) (codes "scale") t.job.entries o is in scale_there w o said);
      title = λ x is. let (w, said) = meant title_in (codes "title") t.job.entries x is in text_proper w x said;
      views = (sheet_views_are t.views few).each views e;
    })))

tables_said : (r : Result Tables (Fault × ℕ)) (tables : Tables) → of_tables r ≡ Ok tables → r ≡ Ok tables
tables_said (Ok t) tables e = ap (λ (x : Tables). Ok x) (let same : t ≡ tables = cc in same)
tables_said (Err (fault, at)) tables e = absurd (cc)

-- what a text of version 3 says is such a job
pub text_own : (bytes : List ℕ) (values : SheetJobValues) → sheet_job_of_text bytes ≡ Ok values → AreOwn values
text_own bytes values e =
    (then_at AreOwn (of_lines bytes (text_lines bytes)) (λ lines. of_tables (job_tables lines) >>= λ tables. sheet_job_of tables) (λ lines _.
    then_at AreOwn (of_tables (job_tables lines)) sheet_job_of (λ tables is. tables_own tables (few_views lines tables (tables_said (job_tables lines) tables is))))).each values e

-- ---- at a number of decimals
module _ (n : ℕ) (unit : Length) where
  abbrev IsMade : SheetShownValues → Option Principal → JobView → Type 0
  IsMade s named w = IsShownAt n unit s (shown w.spec) × (w.named ≡ named)

  view_at : (s : SheetShownValues) (named : Option Principal) → HasShown s named → ((w : JobView) × IsMade s named w) ⊎ IsShownTooFar n unit s
  view_at (plain t) named (d, same, by_name) =
      inl (record { spec = Plain d; named = named; directed = λ p e. ap (λ (u : Triple). Some u) (same ∙ by_name p e) }, (ap (λ (u : Triple). whole u) same, refl))
  view_at (cut axis at from_high value_at) named (is, none) = by (cases_lt 1048576 (magnitude_of n unit is))
    where
      by : (1048576 < magnitude_of n unit is) ⊎ (magnitude_of n unit is ≤ 1048576) → ((w : JobView) × IsMade (cut axis at from_high value_at) named w) ⊎ IsNumberTooFar n unit at
      by (inl far) = inr (is, far)
      by (inr near) =
          inl (
            record {
              spec = Section (record { axis = axis; at = units_of n unit is; from_high = from_high; in_range = units_size n unit at is (units_of n unit is) near refl });
              named = None;
              directed = λ p e. absurd (none-some p e);
            },
            ((units_of n unit is, (is, near, refl), refl), sym none),
          )

  -- all views, or the first one that is too far away
  record IsFar (vs : List SheetViewValues) : Type 0 where
    before : List SheetViewValues
    view : SheetViewValues
    after : List SheetViewValues
    all : vs ≡ before ++ view ∷ after
    too_far : IsTooFar n unit view

  abbrev AreMade : List SheetViewValues → List JobView → Type 0
  AreMade vs ws = AllZip (IsViewAt n unit) vs (map view_seen ws)

  views_at : (vs : List SheetViewValues) → AreShown vs → ((ws : List JobView) × AreMade vs ws) ⊎ IsFar vs
  views_at [] h = inl ([], tt)
  views_at (v ∷ vs) h = by (view_at v.shows v.named h.0) (views_at vs h.1)
    where
      by : ((w : JobView) × IsMade v.shows v.named w) ⊎ IsShownTooFar n unit v.shows → ((ws : List JobView) × AreMade vs ws) ⊎ IsFar vs → ((ws : List JobView) × AreMade (v ∷ vs) ws) ⊎ IsFar (v ∷ vs)
      by (inr far) rest = inr (record { before = []; view = v; after = vs; all = refl; too_far = far })
      by (inl (w, is)) (inl (ws, are)) = inl (w ∷ ws, (record { shows = is.0; named = is.1 }, are))
      by (inl made) (inr far) = inr (record { before = v ∷ far.before; view = far.view; after = far.after; all = ap (λ (l : List SheetViewValues). v ∷ l) far.all; too_far = far.too_far })

  as_many : (vs : List SheetViewValues) (ws : List JobView) → AreMade vs ws → length ws ≡ length vs
  as_many [] [] h = refl
  as_many [] (w ∷ ws) h = absurd h
  as_many (v ∷ vs) [] h = absurd h
  as_many (v ∷ vs) (w ∷ ws) h = ap (λ (k : ℕ). suc k) (as_many vs ws h.1)

  named_alike : (vs : List SheetViewValues) (ws : List JobView) (i : ℕ) (x : SheetViewValues) (y : JobView) → AreMade vs ws → i < length ws → (get_or ws i y).named ≡ (get_or vs i x).named
  named_alike [] [] i x y h within = absurd (omega (arith, within))
  named_alike [] (w ∷ ws) i x y h within = absurd h
  named_alike (v ∷ vs) [] i x y h within = absurd h
  named_alike (v ∷ vs) (w ∷ ws) zero x y h within = h.0.named
  named_alike (v ∷ vs) (w ∷ ws) (suc i) x y h within = named_alike vs ws i x y h.1 (omega (arith, within))

  made_apart : (vs : List SheetViewValues) (ws : List JobView) → AreMade vs ws → AreApart vs → AllPairs (λ v w. AreNamedApart v.named w.named) ws
  made_apart [] ws h apart = λ i j y before within. let none : length ws ≡ 0 = as_many [] ws h in absurd (omega (arith, none, within))
  made_apart (v ∷ vs) ws h apart = λ i j y before within p ip jp.
      let many : length ws ≡ length (v ∷ vs) = as_many (v ∷ vs) ws h in
      apart i j v before (omega (arith, many, within)) p (sym (named_alike (v ∷ vs) ws i v y h (omega (arith, before, within))) ∙ ip) (sym (named_alike (v ∷ vs) ws j v y h within) ∙ jp)

-- the job is one at this number of decimals, with this title, or one of its cuts is too far away there
pub own_at : (alloc : Global) (n : ℕ) → n ≤ 6 → (title : List ℕ) → IsTrue (is_title title) → (values : SheetJobValues) → AreOwn values
    → ((job : MadeJob) × IsJobAt n title values (job_seen job)) ⊎ IsTooFarIn n values
own_at alloc n few title proper values own = by (views_at n values.unit values.views own.views.shown)
  where
    by : ((ws : List JobView) × AreMade n values.unit values.views ws) ⊎ IsFar n values.unit values.views → ((job : MadeJob) × IsJobAt n title values (job_seen job)) ⊎ IsTooFarIn n values
    by (inr far) = inr (record { before = far.before; view = far.view; after = far.after; all = far.all; too_far = far.too_far })
    by (inl (ws, are)) =
        let many = as_many n values.unit values.views ws are in
        let some = own.views.some in
        let most = own.views.few in
        let (scale, scale_is) = own.scale in
        inl (
          record {
            decimals = n;
            third = values.third;
            paper = values.paper;
            scale = scale;
            crease = values.crease;
            title = title;
            outputs = vec_of alloc [] (omega arith);
            unit = values.unit;
            portrait = values.portrait;
            views = vec_of alloc ws (omega (arith, many, most));
            few_decimals = few;
            proper_title = proper;
            proper_outputs = refl;
            some_views = omega (arith, many, some);
            few_views = omega (arith, many, most);
            named_apart = made_apart n values.unit values.views ws are own.views.apart;
          },
          record {
            decimals_are = refl;
            third = refl;
            paper = refl;
            scale = scale_is;
            crease = refl;
            title_is = refl;
            outputs = refl;
            unit = refl;
            portrait = refl;
            views = are;
          },
        )
