-- Tables without faults, in their places.
use Rattle.std.proofs.Common.{◌≡◌, ◌∙◌, ℕ, ◌<◌, ◌≤◌, Bool, true, false, List, [], ◌∷◌, ◌++◌, Option, Some, None, map, length, String, Global, string_bytes, refl, sym, subst, ap, inl, inr, arith}
use Rattle.std.specs.Prelude.{All, if◌then◌else◌, nat_lt, codes}
use Rattle.std.proofs.lemmas.Bool.{cases_Bool, false≢true}
use Rattle.std.proofs.lemmas.Bool.Decides.{nat_tests}
use Rattle.std.proofs.lemmas.List.{length-map, map-append, length-append, append_assoc}
use Rattle.std.proofs.lemmas.List.Elements.{All-push, filter-append}
use Rattle.std.proofs.lemmas.List.Folds.{find-append}
use Rattle.std.proofs.lemmas.Option.{none-some}
use Rattle.std.specs.List.{filter, find, list_any}
use Rattle.std.specs.Option.{is_some, option_map, option_or, IfSome}
use Rattle.std.specs.Str.{bytes_eq}
use Rattle.job_tables.specs.declared.flaw.TableStop.{TableStop}
use Rattle.job_tables.specs.declared.flaw.TableStop.TheVariants.{At, Memory}
use Rattle.job_tables.specs.declared.table.JobTable.{JobTable}
use Rattle.job_tables.specs.declared.table.TableKind.TheVariants.{Job, Block, View}
use Rattle.job_tables.specs.Faults.{Fault, single_view, double_block, second_block, too_many_views, unknown_table, block_fault, view_fault, header_fault, key_fault, kind_of, view_begun, table_fault, fault_after, first_fault, unless, tables_or_fault}
use Rattle.job_tables.specs.Known.{HasKnownKeys}
use Rattle.job_tables.specs.Seen.{table_seen, StopsTables}
use Rattle.job_tables.specs.Tables.{Entry, Table, single, double, Headed, is_block, is_view, tables_of}
use Rattle.job_tables.specs.declared.headers.Header.{Header as CodeHeader}
use Rattle.job_tables.specs.declared.headers.Header.TheVariants.{Single, Double}
use Rattle.job_tables.specs.declared.headers.Headed.{Headed as CodeHeaded}
use Rattle.job_tables.specs.inner.Headed.{header_seen, headed_seen}
use Rattle.job_tables.specs.inner.SaysFault.{IsStop}
use Rattle.job_tables.proofs.Lists.{is_some-find}

abbrev pub has_block : Headed → Bool
has_block t = is_block t.header

abbrev pub has_view : Headed → Bool
has_view t = is_view t.header

abbrev pub table_in : Headed → Table
table_in t = t.table

-- the tables before some others are these
abbrev pub ArePlaced : List Headed → Option JobTable → List JobTable → Type 0
ArePlaced before block views =
    (option_map table_seen block ≡ option_map (λ t. t.table) (find (λ t. is_block t.header) before))
    × (map table_seen views ≡ map (λ t. t.table) (filter (λ t. is_view t.header) before))
    × (length views ≤ 12) × IfSome block (HasKnownKeys Block) × All (HasKnownKeys View) views

-- ---- counts
is_some-map : {A B : Type 0} (f : A → B) (o : Option A) → is_some (option_map f o) ≡ is_some o
is_some-map f None = refl
is_some-map f (Some x) = refl

blocks_before : (before : List Headed) (block : Option JobTable) (views : List JobTable) → ArePlaced before block views → list_any has_block before ≡ is_some block
blocks_before before block views placed =
    sym (is_some-find has_block before) ∙ sym (is_some-map table_in (find has_block before)) ∙ ap is_some (sym placed.0) ∙ is_some-map table_seen block

views_before : (before : List Headed) (block : Option JobTable) (views : List JobTable) → ArePlaced before block views → length (filter has_view before) ≡ length views
views_before before block views placed =
    sym (length-map (filter has_view before) table_in) ∙ ap length (sym placed.1) ∙ length-map views table_seen

-- ---- faults
fault_next : (before : List Headed) (block : Option JobTable) (views : List JobTable) (t : Headed) (rest : List Headed) → ArePlaced before block views
    → fault_after before (t ∷ rest) ≡ option_or (table_fault (is_some block) (length views) t) (fault_after (before ++ t ∷ []) rest)
fault_next before block views t rest placed =
    ap (λ b. option_or (table_fault b (length (filter has_view before)) t) (fault_after (before ++ t ∷ []) rest)) (blocks_before before block views placed)
    ∙ ap (λ n. option_or (table_fault (is_some block) n t) (fault_after (before ++ t ∷ []) rest)) (views_before before block views placed)

no_fault_next : (before : List Headed) (block : Option JobTable) (views : List JobTable) (t : Headed) (rest : List Headed) → ArePlaced before block views
    → table_fault (is_some block) (length views) t ≡ None → fault_after before (t ∷ rest) ≡ fault_after (before ++ t ∷ []) rest
no_fault_next before block views t rest placed none = fault_next before block views t rest placed ∙ ap (λ o. option_or o (fault_after (before ++ t ∷ []) rest)) none

stop_next : {A : Type 0} (stop : TableStop) (first more : Option (Fault × ℕ)) (value : A) → IsStop stop first → StopsTables stop (unless (option_or first more) value)
stop_next (At flaw at) first more value (is, hinted) = (rw is refl, hinted)
stop_next (Memory e) first more value said = tt

-- ---- headers without faults
or_none : {A : Type 0} (o p : Option A) → option_or o p ≡ None → o ≡ None
or_none None p e = refl
or_none (Some x) p e = absurd (none-some x (sym e))

map_none : {A B : Type 0} (f : A → B) (o : Option A) → option_map f o ≡ None → o ≡ None
map_none f None e = refl
map_none f (Some x) e = absurd (none-some (f x) (sym e))

no_header_fault : (b : Bool) (n : ℕ) (t : Headed) → table_fault b n t ≡ None → header_fault b n t.header t.table.entries ≡ None
no_header_fault b n t none = map_none (λ fault. (fault, t.table.at)) (header_fault b n t.header t.table.entries) (or_none (option_map (λ fault. (fault, t.table.at)) (header_fault b n t.header t.table.entries)) (key_fault (kind_of t.header) (view_begun n t.header) t.table.entries) none)

no_block_fault : (b : Bool) (entries : List Entry) → block_fault b entries ≡ None → b ≡ false
no_block_fault true entries e = absurd (none-some second_block (sym e))
no_block_fault false entries e = refl

no_view_fault : (n : ℕ) → view_fault n ≡ None → n < 12
no_view_fault n e =
    elim (cases_Bool (nat_lt n 12)) [
      | inl less ↦ grind (arith, nat_tests)
      | inr more ↦ absurd (none-some too_many_views (sym (rw more at e)))
    ]

single_is_block : (is_block is_view : Bool) (b : Bool) (key : List ℕ) (entries : List Entry)
    → (if is_block then block_fault b entries else if is_view then Some single_view else Some (unknown_table key)) ≡ None → (is_block ≡ true) × (b ≡ false)
single_is_block true v b key entries e = (refl, no_block_fault b entries e)
single_is_block false true b key entries e = absurd (none-some single_view (sym e))
single_is_block false false b key entries e = absurd (none-some (unknown_table key) (sym e))

double_is_view : (is_view is_block : Bool) (n : ℕ) (key : List ℕ)
    → (if is_view then view_fault n else if is_block then Some double_block else Some (unknown_table key)) ≡ None → (is_view ≡ true) × (n < 12)
double_is_view true b n key e = (refl, no_view_fault n e)
double_is_view false true n key e = absurd (none-some double_block (sym e))
double_is_view false false n key e = absurd (none-some (unknown_table key) (sym e))

-- ---- a table more
none_of : {A : Type 0} (o : Option A) → is_some o ≡ false → o ≡ None
none_of None e = refl
none_of (Some x) e = absurd (false≢true (sym e))

or_nothing : {A : Type 0} (o : Option A) → option_or o None ≡ o
or_nothing None = refl
or_nothing (Some x) = refl

append_none : {A : Type 0} (xs : List A) → xs ++ [] ≡ xs
append_none [] = refl
append_none (x ∷ xs) = ap (λ ys. x ∷ ys) (append_none xs)

block_placed : (before : List Headed) (block : Option JobTable) (views : List JobTable) (key : List ℕ) (table : JobTable)
    → ArePlaced before block views → table_fault (is_some block) (length views) (record { header = single key; table = table_seen table }) ≡ None → HasKnownKeys Block table
    → ArePlaced (before ++ record { header = single key; table = table_seen table } ∷ []) (Some table) views
block_placed before block views key table placed none known =
    let t : Headed = record { header = single key; table = table_seen table } in
    let is = single_is_block (bytes_eq key (codes "block")) (bytes_eq key (codes "view")) (is_some block) key (table_seen table).entries (no_header_fault (is_some block) (length views) t none) in
    let first : find has_block before ≡ None = none_of (find has_block before) (is_some-find has_block before ∙ blocks_before before block views placed ∙ is.1) in
    let found : find has_block (before ++ t ∷ []) ≡ Some t = find-append has_block before (t ∷ []) ∙ ap (λ o. option_or o (find has_block (t ∷ []))) first ∙ ap (λ b. if b then Some t else None) is.0 in
    let views_are : filter has_view (before ++ t ∷ []) ≡ filter has_view before = filter-append has_view before (t ∷ []) ∙ append_none (filter has_view before) in
    (ap (option_map table_in) (sym found), placed.1 ∙ ap (map table_in) (sym views_are), placed.2, known, placed.4)

view_placed : (before : List Headed) (block : Option JobTable) (views : List JobTable) (key : List ℕ) (table : JobTable)
    → ArePlaced before block views → table_fault (is_some block) (length views) (record { header = double key; table = table_seen table }) ≡ None → HasKnownKeys View table
    → ArePlaced (before ++ record { header = double key; table = table_seen table } ∷ []) block (views ++ table ∷ [])
view_placed before block views key table placed none known =
    let t : Headed = record { header = double key; table = table_seen table } in
    let is = double_is_view (bytes_eq key (codes "view")) (bytes_eq key (codes "block")) (length views) key (no_header_fault (is_some block) (length views) t none) in
    let found : find has_block (before ++ t ∷ []) ≡ find has_block before = find-append has_block before (t ∷ []) ∙ or_nothing (find has_block before) in
    let views_are : filter has_view (before ++ t ∷ []) ≡ filter has_view before ++ t ∷ [] = filter-append has_view before (t ∷ []) ∙ ap (λ b. filter has_view before ++ (if b then t ∷ [] else [])) is.0 in
    let mapped : map table_seen (views ++ table ∷ []) ≡ map table_in (filter has_view (before ++ t ∷ [])) =
    map-append table_seen views (table ∷ []) ∙ ap (λ ts. ts ++ table_seen table ∷ []) placed.1 ∙ sym (map-append table_in (filter has_view before) (t ∷ [])) ∙ ap (map table_in) (sym views_are) in
    (placed.0 ∙ ap (option_map table_in) (sym found), mapped, omega (arith, is.1, length-append views (table ∷ [])), placed.3, All-push (HasKnownKeys View) views table placed.4 known)

pub none_placed : (views : List JobTable) → views ≡ [] → ArePlaced [] None views
none_placed views is = subst (ArePlaced [] None) (sym is) (refl, refl, omega arith, tt, λ k d h. absurd (omega (arith, h)))

-- ---- turns of the loop
-- what is said at equal counts
at_counts : (P : Option (Fault × ℕ) → Type 0) (t : Headed) (b c : Bool) (n m : ℕ) → b ≡ c → n ≡ m → P (table_fault b n t) → P (table_fault c m t)
at_counts P t b c n m e f h = subst (λ (d : Bool). P (table_fault d m t)) e (subst (λ (k : ℕ). P (table_fault b k t)) f h)

-- the tables that are left make up the whole with those before
abbrev pub AreLeft : List Headed → List Headed → List CodeHeaded → Type 0
AreLeft all before left = (before ++ map headed_seen left ≡ all) × (fault_after before (map headed_seen left) ≡ fault_after [] all)

pub left_next : (all before : List Headed) (block : Option JobTable) (views : List JobTable) (h : CodeHeaded) (now left : List CodeHeaded) → now ≡ h ∷ left
    → AreLeft all before now → ArePlaced before block views → table_fault (is_some block) (length views) (headed_seen h) ≡ None → AreLeft all (before ++ headed_seen h ∷ []) left
left_next all before block views h now left is are placed none =
    let here : AreLeft all before (h ∷ left) = subst (AreLeft all before) is are in
    (append_assoc before (headed_seen h ∷ []) (map headed_seen left) ∙ here.0, sym (no_fault_next before block views (headed_seen h) (map headed_seen left) placed none) ∙ here.1)

pub single_placed : (before : List Headed) (block : Option JobTable) (views : List JobTable) (h : CodeHeaded) (key : String Global) → h.header ≡ Single key → ArePlaced before block views
    → table_fault (is_some block) (length views) (headed_seen h) ≡ None → HasKnownKeys (kind_of (header_seen h.header)) h.table → ArePlaced (before ++ headed_seen h ∷ []) (Some h.table) views
single_placed before block views h key is placed =
    subst (λ (hd : CodeHeader). table_fault (is_some block) (length views) (record { header = header_seen hd; table = table_seen h.table }) ≡ None → HasKnownKeys (kind_of (header_seen hd)) h.table
    → ArePlaced (before ++ record { header = header_seen hd; table = table_seen h.table } ∷ []) (Some h.table) views) (sym is) (block_placed before block views (string_bytes key) h.table placed)

pub double_placed : (before : List Headed) (block : Option JobTable) (views : List JobTable) (h : CodeHeaded) (key : String Global) → h.header ≡ Double key → ArePlaced before block views
    → table_fault (is_some block) (length views) (headed_seen h) ≡ None → HasKnownKeys (kind_of (header_seen h.header)) h.table → ArePlaced (before ++ headed_seen h ∷ []) block (views ++ h.table ∷ [])
double_placed before block views h key is placed =
    subst (λ (hd : CodeHeader). table_fault (is_some block) (length views) (record { header = header_seen hd; table = table_seen h.table }) ≡ None → HasKnownKeys (kind_of (header_seen hd)) h.table
    → ArePlaced (before ++ record { header = header_seen hd; table = table_seen h.table } ∷ []) block (views ++ h.table ∷ [])) (sym is) (view_placed before block views (string_bytes key) h.table placed)

-- a fault of the next table is the first one
pub stop_at : (entries : List Entry) (all before : List Headed) (block : Option JobTable) (views : List JobTable) (h : CodeHeaded) (now left : List CodeHeaded) (b : Bool) (n : ℕ) (stop : TableStop)
    → now ≡ h ∷ left → key_fault Job None entries ≡ None → AreLeft all before now → ArePlaced before block views → b ≡ is_some block → n ≡ length views → IsStop stop (table_fault b n (headed_seen h))
    → StopsTables stop (tables_or_fault (entries, all))
stop_at entries all before block views h now left b n stop is known are placed b_is n_is said =
    let here : AreLeft all before (h ∷ left) = subst (AreLeft all before) is are in
    let found = at_counts (IsStop stop) (headed_seen h) b (is_some block) n (length views) b_is n_is said in
    let first : first_fault (entries, all) ≡ option_or (table_fault (is_some block) (length views) (headed_seen h)) (fault_after (before ++ headed_seen h ∷ []) (map headed_seen left)) =
    ap (λ o. option_or o (fault_after [] all)) known ∙ sym here.1 ∙ fault_next before block views (headed_seen h) (map headed_seen left) placed in
    subst (λ o. StopsTables stop (unless o (tables_of (entries, all)))) (sym first) (stop_next stop _ _ (tables_of (entries, all)) found)

pub turn_single : (all before : List Headed) (block : Option JobTable) (views : List JobTable) (h : CodeHeaded) (now left : List CodeHeaded) (key : String Global) (b : Bool) (n : ℕ)
    → h.header ≡ Single key → now ≡ h ∷ left → AreLeft all before now → ArePlaced before block views → b ≡ is_some block → n ≡ length views → table_fault b n (headed_seen h) ≡ None
    → HasKnownKeys (kind_of (header_seen h.header)) h.table → (new_block : Option JobTable) (new_views : List JobTable) → new_block ≡ Some h.table → new_views ≡ views
    → (x : List Headed) × AreLeft all x left × ArePlaced x new_block new_views
turn_single all before block views h now left key b n header is are placed b_is n_is none known new_block new_views block_is views_is =
    let free = at_counts (λ o. o ≡ None) (headed_seen h) b (is_some block) n (length views) b_is n_is none in
    let x = before ++ headed_seen h ∷ [] in
    let next = single_placed before block views h key header placed free known in
    (x, left_next all before block views h now left is are placed free, subst (λ o. ArePlaced x o new_views) (sym block_is) (subst (ArePlaced x (Some h.table)) (sym views_is) next))

pub turn_double : (all before : List Headed) (block : Option JobTable) (views : List JobTable) (h : CodeHeaded) (now left : List CodeHeaded) (key : String Global) (b : Bool) (n : ℕ)
    → h.header ≡ Double key → now ≡ h ∷ left → AreLeft all before now → ArePlaced before block views → b ≡ is_some block → n ≡ length views → table_fault b n (headed_seen h) ≡ None
    → HasKnownKeys (kind_of (header_seen h.header)) h.table → (new_block : Option JobTable) (new_views : List JobTable) → new_block ≡ block → new_views ≡ views ++ h.table ∷ []
    → (x : List Headed) × AreLeft all x left × ArePlaced x new_block new_views
turn_double all before block views h now left key b n header is are placed b_is n_is none known new_block new_views block_is views_is =
    let free = at_counts (λ o. o ≡ None) (headed_seen h) b (is_some block) n (length views) b_is n_is none in
    let x = before ++ headed_seen h ∷ [] in
    let next = double_placed before block views h key header placed free known in
    (x, left_next all before block views h now left is are placed free, subst (λ o. ArePlaced x o new_views) (sym block_is) (subst (ArePlaced x block) (sym views_is) next))
