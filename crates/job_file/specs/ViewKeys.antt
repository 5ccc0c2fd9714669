-- The keys of a view.
use Rattle.std.specs.Prelude.{ℕ, ℤ, pos, unsigned_abs, Bool, false, ◌&&◌, ◌||◌, nat_lt, ◌==◌, List, [], ◌∷◌, ◌++◌, length, Option, Some, None, is_some, Result, Ok, Err, if◌then◌else◌, codes}
use Rattle.std.specs.List.{list_any}
use Rattle.std.specs.Option.{option_and_then}
use Rattle.std.specs.Ordering.{int_eq}
use Rattle.lattice.specs.Triple.{Triple}
use Rattle.lattice.specs.declared.points.Axis.TheVariants.{X, Y, Z}
use Rattle.toml.specs.Data.{Data, Members, get_member, as_str, as_integer, as_array, as_table}
use Rattle.job_file.specs.declared.fault.JobFault.{JobFault}
use Rattle.job_file.specs.declared.fault.JobFault.TheVariants.{Wrong, ZeroDirection, DirectionRange}
use Rattle.job_file.specs.declared.fault.Key.TheVariants as key
use Rattle.job_file.specs.declared.view.Principal.{Principal}
use Rattle.job_file.specs.declared.view.Principal.TheVariants.{Front, Back, Left, Right, Above, Below}
use Rattle.job_file.specs.Arrays.{values_in}
use Rattle.job_file.specs.CutKeys.{cut_view}
use Rattle.job_file.specs.Keys.{unknown_key}
use Rattle.job_file.specs.declared.table.Kind.TheVariants.{View}
use Rattle.job_file.specs.Names.{direction_of, principals}
use Rattle.job_file.specs.Steps.{◌>>=◌, unless, key_fault, or_wrong, look_up}
use Rattle.job_file.specs.ViewValues.{ViewValues, whole}

abbrev pub number_of : Principal → ℕ
number_of Front = 0
number_of Back = 1
number_of Left = 2
number_of Right = 3
number_of Above = 4
number_of Below = 5

-- the view has this name
abbrev pub is_named : Principal → Option Principal → Bool
is_named p None = false
is_named p (Some q) = number_of p == number_of q

-- the view of a name
abbrev pub view_named : Principal → ViewValues
view_named p = record { shows = whole (direction_of p); named = Some p }

-- one of the six names, which no earlier view has
abbrev pub named_view : List ViewValues → Data → Result ViewValues JobFault
named_view earlier d =
    or_wrong key.Name (option_and_then (look_up principals) (as_str d)) >>= λ p.
    if list_any (λ v. is_named p v.named) earlier then Err (Wrong key.Name) else Ok (view_named p)

-- three whole numbers
abbrev pub triple_of : Option ℤ → Option ℤ → Option ℤ → Option Triple
triple_of (Some x) (Some y) (Some z) = Some (record { x = x; y = y; z = z })
triple_of x y z = None

abbrev pub numbers_in : List Data → Option Triple
numbers_in (x ∷ y ∷ z ∷ []) = triple_of (as_integer x) (as_integer y) (as_integer z)
numbers_in ds = None

abbrev pub numbers_of : Data → Option Triple
numbers_of d = option_and_then (λ items. numbers_in (values_in items)) (as_array d)

abbrev pub is_zero : Triple → Bool
is_zero t = int_eq t.x (pos 0) && int_eq t.y (pos 0) && int_eq t.z (pos 0)

abbrev pub is_outside : ℤ → Bool
is_outside n = nat_lt 9 (unsigned_abs n)

-- the direction of the view with this number: not zero, and each component from -9 to 9
abbrev pub direction_at : ℕ → Triple → Result Triple JobFault
direction_at n t =
    if is_zero t then Err (ZeroDirection n)
    else if is_outside t.x then Err (DirectionRange n X)
    else if is_outside t.y then Err (DirectionRange n Y)
    else if is_outside t.z then Err (DirectionRange n Z)
    else Ok t

abbrev pub toward_view : ℕ → Data → Result ViewValues JobFault
toward_view n d =
    or_wrong key.Toward (numbers_of d) >>= λ t.
    direction_at n t >>= λ direction.
    Ok (record { shows = whole direction; named = None })

-- a view has exactly one of the three forms, and `at` and `from` go with `cut`
abbrev pub view_of_keys : List ViewValues → Option Data → Option Data → Option Data → Option Data → Option Data → Result ViewValues JobFault
view_of_keys earlier (Some name) None None at from = if is_some at || is_some from then Err (Wrong key.Cut) else named_view earlier name
view_of_keys earlier None (Some toward) None at from = if is_some at || is_some from then Err (Wrong key.Cut) else toward_view (length earlier) toward
view_of_keys earlier None None (Some cut) at from = cut_view (length earlier) cut at from
view_of_keys earlier name toward cut at from = Err (Wrong key.View)

-- the view of a table, after those that stand before it
unfoldable pub view_of_table : List ViewValues → Members → Result ViewValues JobFault
view_of_table earlier ms =
    unless (key_fault (unknown_key View ms))
    (view_of_keys earlier (get_member (codes "name") ms) (get_member (codes "toward") ms) (get_member (codes "cut") ms) (get_member (codes "at") ms) (get_member (codes "from") ms))

abbrev pub view_of : List ViewValues → Data → Result ViewValues JobFault
view_of earlier d = or_wrong key.View (as_table d) >>= λ ms. view_of_table earlier ms

-- all views, one after the other
abbrev pub views_after : List ViewValues → List Data → Result (List ViewValues) JobFault
views_after earlier [] = Ok earlier
views_after earlier (d ∷ ds) = view_of earlier d >>= λ v. views_after (earlier ++ v ∷ []) ds
