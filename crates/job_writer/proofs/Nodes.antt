-- The table that a job's lines define.
use Rattle.std.proofs.Common.{◌≡◌, ℕ, pos, List, [], ◌∷◌, ◌++◌, map, codes, Option, Some, None, option_and_then, refl, sym, ap, ◌∙◌, append_assoc, append-nil}
use Rattle.std.specs.Fmt.{decimal, signed_decimal}
use Rattle.std.specs.List.{flat_map}
use Rattle.job_file.specs.Arrays.{values_in}
use Rattle.job_file.specs.Documents.{JobValues}
use Rattle.job_file.specs.Papers.{paper_name}
use Rattle.job_file.specs.ViewValues.{Shown, ViewValues, whole, behind}
use Rattle.job_file.specs.declared.view.Principal.{Principal}
use Rattle.toml.specs.Data.{Data, string, integer, array, table, Items, no_items, item, push_item, Members}
use Rattle.toml.specs.Tables.{Nodes, no_nodes, node, value, open_array, close, Expression, Document, key_value, array_table, define, along_header, along_dots, at_key}
use Rattle.toml.proofs.ReadLines.{run}
use Rattle.job_writer.specs.Called.{angle_name, scale_name, crease_name, length_name, layout_name, principal_name, axis_name, side_name}
use Rattle.job_writer.specs.Pairs.{Pair, in_quotes, escaped_title, in_brackets}
use Rattle.job_writer.specs.PlainJobs.{direction_text}
use Rattle.job_writer.proofs.Words.{strings, numbers}

-- a key of one part, and its value
abbrev pub entry : List ℕ → Data → Expression
entry key d = (([], key), key_value d)

-- a key, its value as it is written, and its value
abbrev pub Row : Type 0
Row = List ℕ × List ℕ × Data

abbrev pub row_entry : Row → Expression
row_entry row = entry row.0 row.2

abbrev pub row_pair : Row → Pair
row_pair row = (row.0, row.1)

abbrev pub word_row : List ℕ → List ℕ → Row
word_row key word = (key, in_quotes word, string word)

abbrev pub job_rows : JobValues → List Row
job_rows job =
    (codes "version", codes "2", integer (pos 2)) ∷ (codes "decimals", decimal job.decimals, integer (pos job.decimals)) ∷ word_row (codes "angle") (angle_name job.third)
    ∷ word_row (codes "sheet") (paper_name job.paper) ∷ word_row (codes "scale") (scale_name job.scale) ∷ word_row (codes "crease") (crease_name job.crease)
    ∷ (codes "title", in_quotes (escaped_title job.title), string job.title) ∷ (codes "outputs", in_brackets (map in_quotes job.outputs), array (strings job.outputs))
    ∷ word_row (codes "unit") (length_name job.unit) ∷ word_row (codes "layout") (layout_name job.portrait) ∷ []

abbrev pub view_rows : Option Principal → Shown → List Row
view_rows (Some name) shown = word_row (codes "name") (principal_name name) ∷ []
view_rows None (whole d) = (codes "toward", direction_text d, array (numbers d)) ∷ []
view_rows None (behind plane) =
    word_row (codes "cut") (axis_name plane.axis) ∷ (codes "at", signed_decimal plane.at, integer plane.at) ∷ word_row (codes "from") (side_name plane.from_high) ∷ []

abbrev pub job_entries : JobValues → List Expression
job_entries job = map row_entry (job_rows job)

abbrev pub view_entries : Option Principal → Shown → List Expression
view_entries named shows = map row_entry (view_rows named shows)

abbrev pub view_expressions : ViewValues → List Expression
view_expressions view = (([], codes "view"), array_table) ∷ view_entries view.named view.shows

-- ---- what they leave
abbrev pub job_nodes : JobValues → Nodes → Nodes
job_nodes job views =
    node (codes "angle") (value (string (angle_name job.third)))
    (node (codes "crease") (value (string (crease_name job.crease)))
    (node (codes "decimals") (value (integer (pos job.decimals)))
    (node (codes "layout") (value (string (layout_name job.portrait)))
    (node (codes "outputs") (value (array (strings job.outputs)))
    (node (codes "scale") (value (string (scale_name job.scale)))
    (node (codes "sheet") (value (string (paper_name job.paper)))
    (node (codes "title") (value (string job.title))
    (node (codes "unit") (value (string (length_name job.unit)))
    (node (codes "version") (value (integer (pos 2))) views)))))))))

abbrev pub view_nodes : Option Principal → Shown → Nodes
view_nodes (Some name) shown = node (codes "name") (value (string (principal_name name))) no_nodes
view_nodes None (whole d) = node (codes "toward") (value (array (numbers d))) no_nodes
view_nodes None (behind plane) =
    node (codes "at") (value (integer plane.at)) (node (codes "cut") (value (string (axis_name plane.axis))) (node (codes "from") (value (string (side_name plane.from_high))) no_nodes))

abbrev pub view_table : ViewValues → Data
view_table view = table (close (view_nodes view.named view.shows))

-- the table with some views, the last one open
abbrev with_views : JobValues → Items → Nodes → Nodes
with_views job done last = job_nodes job (node (codes "view") (open_array done last) no_nodes)

job_run : (job : JobValues) → run (no_nodes, []) (job_entries job) ≡ Some (job_nodes job no_nodes, [])
unfolding define along_header along_dots at_key
job_run job = refl

first_run : (job : JobValues) (named : Option Principal) (shows : Shown)
    → run (job_nodes job no_nodes, []) ((([], codes "view"), array_table) ∷ view_entries named shows) ≡ Some (with_views job no_items (view_nodes named shows), codes "view" ∷ [])
unfolding define along_header along_dots at_key
first_run job (Some name) shows = refl
first_run job None (whole d) = refl
first_run job None (behind plane) = refl

next_run : (job : JobValues) (done : Items) (last : Nodes) (path : List (List ℕ)) (named : Option Principal) (shows : Shown)
    → run (with_views job done last, path) ((([], codes "view"), array_table) ∷ view_entries named shows)
    ≡ Some (with_views job (push_item done (table (close last))) (view_nodes named shows), codes "view" ∷ [])
unfolding define along_header along_dots at_key
next_run job done last path (Some name) shows = refl
next_run job done last path None (whole d) = refl
next_run job done last path None (behind plane) = refl

-- ---- one after the other
run_more : (es fs : List Expression) (next : Option Document) → ((after : Document) → run after (es ++ fs) ≡ option_and_then (λ last. run last fs) (run after es))
    → option_and_then (λ after. run after (es ++ fs)) next ≡ option_and_then (λ last. run last fs) (option_and_then (λ after. run after es) next)
run_more es fs None rest = refl
run_more es fs (Some after) rest = rest after

run-append : (es fs : List Expression) (doc : Document) → run doc (es ++ fs) ≡ option_and_then (λ last. run last fs) (run doc es)
run-append [] fs doc = refl
run-append (e ∷ es) fs doc = run_more es fs (define doc e) (run-append es fs)

run_both : (es fs : List Expression) (doc next : Document) → run doc es ≡ Some next → run doc (es ++ fs) ≡ run next fs
run_both es fs doc next is = run-append es fs doc ∙ rw is refl

values-push : (ds : Items) (d : Data) → values_in (push_item ds d) ≡ values_in ds ++ d ∷ []
values-push no_items d = refl
values-push (item e ds) d = ap (λ (xs : List Data). e ∷ xs) (values-push ds d)

-- a table with these views
abbrev AreViews : JobValues → Option Document → List Data → Type 0
AreViews job result tables =
    (done : Items) × (last : Nodes) × (path : List (List ℕ)) × (result ≡ Some (with_views job done last, path)) × (values_in (push_item done (table (close last))) ≡ tables)

views_run : (job : JobValues) (views : List ViewValues) (done : Items) (last : Nodes) (path : List (List ℕ)) (tables : List Data) → values_in (push_item done (table (close last))) ≡ tables
    → AreViews job (run (with_views job done last, path) (flat_map view_expressions views)) (tables ++ map view_table views)
views_run job [] done last path tables is = (done, last, path, refl, is ∙ sym (append-nil tables))
views_run job (v ∷ vs) done last path tables is =
    let before = push_item done (table (close last)) in
    let now = view_nodes v.named v.shows in
    let held : values_in (push_item before (table (close now))) ≡ tables ++ view_table v ∷ [] = values-push before (view_table v) ∙ ap (λ (ds : List Data). ds ++ view_table v ∷ []) is in
    let (all, end, at, runs, have) = views_run job vs before now (codes "view" ∷ []) (tables ++ view_table v ∷ []) held in (
      all,
      end,
      at,
      run_both (view_expressions v) (flat_map view_expressions vs) (with_views job done last, path) (with_views job before now, codes "view" ∷ []) (next_run job done last path v.named v.shows) ∙ runs,
      have ∙ append_assoc tables (view_table v ∷ []) (map view_table vs),
    )

-- all lines of a job with a view
abbrev pub job_expressions : JobValues → List Expression
job_expressions job = job_entries job ++ flat_map view_expressions job.views

-- the table of a job with this array of views
abbrev pub job_members : JobValues → Items → Members
job_members job views = close (job_nodes job (node (codes "view") (value (array views)) no_nodes))

all_run : (job : JobValues) (v : ViewValues) (vs : List ViewValues)
    → AreViews job (run (no_nodes, []) (job_entries job ++ (view_expressions v ++ flat_map view_expressions vs))) (view_table v ∷ map view_table vs)
all_run job v vs =
    let now = view_nodes v.named v.shows in
    let (done, last, path, runs, have) = views_run job vs no_items now (codes "view" ∷ []) (view_table v ∷ []) refl in (
      done,
      last,
      path,
      run_both (job_entries job) (view_expressions v ++ flat_map view_expressions vs) (no_nodes, []) (job_nodes job no_nodes, []) (job_run job)
          ∙ run_both (view_expressions v) (flat_map view_expressions vs) (job_nodes job no_nodes, []) (with_views job no_items now, codes "view" ∷ []) (first_run job v.named v.shows) ∙ runs,
      have,
    )

-- what the lines define: a table whose views are these
pub record Defines (es : List Expression) (job : JobValues) : Type 0 where
  pub root : Nodes
  pub path : List (List ℕ)
  pub views : Items
  pub runs : run (no_nodes, []) es ≡ Some (root, path)
  pub closed : close root ≡ job_members job views
  pub tables : values_in views ≡ map view_table job.views

of_views : (job : JobValues) (es : List Expression) → AreViews job (run (no_nodes, []) es) (map view_table job.views) → Defines es job
of_views job es (done, last, path, runs, have) =
    record { root = with_views job done last; path = path; views = push_item done (table (close last)); runs = runs; closed = refl; tables = have }

pub defined : (job : JobValues) (v : ViewValues) (vs : List ViewValues) → job.views ≡ v ∷ vs → Defines (job_expressions job) job
defined job v vs are = of_views job (job_expressions job) (rw are (all_run job v vs))
