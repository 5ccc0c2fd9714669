-- Whether the lines of a view are near one another, and which scale shows them apart.
use Rattle.std.specs.Prelude.{ℕ, ◌+◌, ◌-◌, ◌*◌, ◌/◌, min, max, nat_le, nat_lt, ◌==◌, if◌then◌else◌, Bool, true, false, ◌&&◌, refl, List, [], ◌∷◌, Option, Some, None, fold}
use Rattle.std.specs.List.{find}
use Rattle.job_file.specs.declared.job.Scale.{Scale}
use Rattle.near_lines.specs.Near.{near_total}
use Rattle.near_lines.specs.declared.extent.Extent.{Extent}
use Rattle.near_lines.specs.declared.scales.Nearness.{Nearness}
use Rattle.near_lines.specs.declared.scales.Nearness.TheVariants.{Apart, ApartAt, Close}
use Rattle.near_lines.specs.declared.sides.Side.{Side}

-- a scale is to the sheet's own as these two numbers to one another
abbrev pub greater_of : Scale → Scale → ℕ
greater_of own s = max 1 (s.num * own.den)

abbrev pub smaller_of : Scale → Scale → ℕ
smaller_of own s = s.den * own.num

-- what is 0.5 mm long there is so long here, in hundredths of a millimetre, rounded up
abbrev pub distance_at : Scale → Scale → ℕ
distance_at own s = max 1 (min 50 ((50 * smaller_of own s + (greater_of own s - 1)) / greater_of own s))

-- what is 10 mm long there is so long here, in 10^-4 mm, cut off
abbrev pub length_at : Scale → Scale → ℕ
length_at own s = min 100000 (100000 * smaller_of own s / greater_of own s)

-- at this scale more than 10 mm of the lines run within 0.5 mm of one another
abbrev pub are_near_at : Scale → List Side → Scale → Bool
are_near_at own all s = nat_lt (length_at own s) (near_total (distance_at own s) all)

-- at this scale no part of a line is so near to another line
abbrev pub are_apart_at : Scale → List Side → Scale → Bool
are_apart_at own all s = near_total (distance_at own s) all == 0

-- ---- the room that a view takes
abbrev pub no_extent : Extent
no_extent = record { left = 118900; right = 0; top = 118900; bottom = 0 }

abbrev pub widened : Extent → Side → Extent
widened e s = record { left = min e.left (min s.x1 s.x2); right = max e.right (max s.x1 s.x2); top = min e.top (min s.y1 s.y2); bottom = max e.bottom (max s.y1 s.y2) }

abbrev pub extent_of : List Side → Extent
extent_of all = fold widened no_extent all

-- so large a view has room on the largest sheet at this scale
abbrev pub has_room_at : Scale → Extent → Scale → Bool
has_room_at own e s = nat_le ((e.right - e.left) * greater_of own s) (114900 * smaller_of own s) && nat_le ((e.bottom - e.top) * greater_of own s) (78100 * smaller_of own s)

-- ---- the scale that shows the lines apart
-- all twelve, from the least on
abbrev pub rising : List Scale
rising =
    record { num = 1; den = 100; listed = refl } ∷ record { num = 1; den = 50; listed = refl } ∷ record { num = 1; den = 20; listed = refl }
    ∷ record { num = 1; den = 10; listed = refl } ∷ record { num = 1; den = 5; listed = refl } ∷ record { num = 1; den = 2; listed = refl }
    ∷ record { num = 1; den = 1; listed = refl } ∷ record { num = 2; den = 1; listed = refl } ∷ record { num = 5; den = 1; listed = refl }
    ∷ record { num = 10; den = 1; listed = refl } ∷ record { num = 20; den = 1; listed = refl } ∷ record { num = 50; den = 1; listed = refl } ∷ []

-- a greater scale, at which the view has room and no line is near another
abbrev pub shows_apart : Scale → List Side → Scale → Bool
shows_apart own all s = nat_lt (smaller_of own s) (greater_of own s) && (has_room_at own (extent_of all) s && are_apart_at own all s)

abbrev pub apart_at : Option Scale → Nearness
apart_at None = Close
apart_at (Some s) = ApartAt s

-- what is said of these lines, on a sheet of this scale: the least scale that shows them apart, if they aren't
abbrev pub nearness_of : Scale → List Side → Nearness
nearness_of own all = if are_near_at own all own then apart_at (find (shows_apart own all) rising) else Apart
