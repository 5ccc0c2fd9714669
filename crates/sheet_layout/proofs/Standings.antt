-- The views of a layout where they stand, by their numbers.
use Rattle.std.proofs.Common.{◌≡◌, ℕ, zero, suc, ◌+◌, ◌<◌, List, [], ◌∷◌, length, slice_get, Some, Bool, true, false, refl, sym, subst, ap, ◌∙◌, arith}
use Rattle.std.specs.Prelude.{find, nat_lt, if◌then◌else◌}
use Rattle.std.specs.List.{AllZip, list_all}
use Rattle.std.proofs.lemmas.Bool.{and_parts}
use Rattle.lattice.specs.ShownCuts.{cuts_of}
use Rattle.job_file.specs.declared.view.JobView.{JobView}
use Rattle.sheet_plan.specs.Numbers.{Measure}
use Rattle.sheet_plan.specs.declared.bounds.Extent.{Extent}
use Rattle.sheet_layout.specs.Anchors.{cell_of}
use Rattle.sheet_layout.specs.Rows.{Rows}
use Rattle.sheet_layout.specs.Seats.{seat_of, seats_from}
use Rattle.sheet_layout.specs.Trials.{all_pairs_well, are_well, standing_of, standings_in}
use Rattle.sheet_layout.specs.declared.cells.Cell.{Cell}
use Rattle.sheet_layout.specs.declared.rects.Standing.{Standing}
use Rattle.sheet_layout.specs.declared.rooms.Room.{Room}
use Rattle.sheet_layout.specs.declared.seats.Seat.{Seat}
use Rattle.sheet_layout.specs.declared.sides.Sides.{Sides}

-- ---- lists
pub one_of : {A : Type 0} (x y : A) → Some x ≡ Some y → y ≡ x
one_of x y e = cc

pub find_true : {A : Type 0} (f : A → Bool) (xs : List A) (x : A) → find f xs ≡ Some x → f x ≡ true
find_true f [] x e = absurd (cc)
find_true f (y ∷ ys) x e = go (find_true f ys x) (f y) refl
  where
    go : (find f ys ≡ Some x → f x ≡ true) → (b : Bool) → f y ≡ b → f x ≡ true
    go rest true is = let here : find f (y ∷ ys) ≡ Some y = ap (λ (b : Bool). if b then Some y else find f ys) is in ap f (one_of y x (sym here ∙ e)) ∙ is
    go rest false is = let on : find f (y ∷ ys) ≡ find f ys = ap (λ (b : Bool). if b then Some y else find f ys) is in rest (sym on ∙ e)

pub list_all_get : {A : Type 0} (f : A → Bool) (xs : List A) (i : ℕ) (x : A) → list_all f xs ≡ true → slice_get xs i ≡ Some x → f x ≡ true
list_all_get f [] i x all at = absurd (cc)
list_all_get f (y ∷ ys) zero x all at = ap f (one_of y x at) ∙ (and_parts (f y) (list_all f ys) all).0
list_all_get f (y ∷ ys) (suc i) x all at = list_all_get f ys i x (and_parts (f y) (list_all f ys) all).1 at

pub pairs_get : (xs : List Standing) (i j : ℕ) (t u : Standing) → i < j → all_pairs_well xs ≡ true → slice_get xs i ≡ Some t → slice_get xs j ≡ Some u → are_well t u ≡ true
pairs_get [] i j t u less all at there = absurd (cc)
pairs_get (x ∷ xs) i zero t u less all at there = absurd (omega arith)
pairs_get (x ∷ xs) zero (suc j) t u less all at there =
    ap (λ (z : Standing). are_well z u) (one_of x t at) ∙ list_all_get (are_well x) xs j u (and_parts (list_all (are_well x) xs) (all_pairs_well xs) all).0 there
pairs_get (x ∷ xs) (suc i) (suc j) t u less all at there = pairs_get xs i j t u (omega arith) (and_parts (list_all (are_well x) xs) (all_pairs_well xs) all).1 at there

pub record HasLeft {A B : Type 0} (R : A → B → Type 0) (xs : List A) (i : ℕ) (y : B) : Type 0 where
  pub left : A
  pub at : slice_get xs i ≡ Some left
  pub holds : R left y

pub zip_left : {A B : Type 0} (R : A → B → Type 0) (xs : List A) (ys : List B) (i : ℕ) (y : B) → AllZip R xs ys → slice_get ys i ≡ Some y → HasLeft R xs i y
zip_left R [] [] i y zip at = absurd (cc)
zip_left R [] (z ∷ ys) i y zip at = absurd zip
zip_left R (x ∷ xs) [] i y zip at = absurd zip
zip_left {B = B} R (x ∷ xs) (z ∷ ys) zero y (holds, more) at = record { left = x; at = refl; holds = subst (λ (v : B). R x v) (sym (one_of z y at)) holds }
zip_left R (x ∷ xs) (z ∷ ys) (suc i) y (holds, more) at = let rest = zip_left R xs ys i y more at in record { left = rest.left; at = rest.at; holds = rest.holds }

-- ---- seats
pub record IsSeatAt (shrunk : Bool) (m : Measure) (views : List JobView) (sides : List Sides) (extents : List Extent) (i : ℕ) (s : Seat) : Type 0 where
  pub view : JobView
  pub asked : Sides
  pub extent : Extent
  pub cell : Cell
  pub of_view : slice_get views i ≡ Some view
  pub of_sides : slice_get sides i ≡ Some asked
  pub of_extent : slice_get extents i ≡ Some extent
  pub is : s ≡ seat_of shrunk m cell asked extent

module _ (third shrunk : Bool) (m : Measure) (all : List JobView) (kept : ℕ) where
  pub seat_at : (number cuts : ℕ) (views : List JobView) (through : List Bool) (sides : List Sides) (extents : List Extent) (i : ℕ) (s : Seat)
      → slice_get (seats_from third shrunk m all kept number cuts views through sides extents) i ≡ Some s → IsSeatAt shrunk m views sides extents i s
  seat_at number cuts [] ts ss es i s at = absurd (cc)
  seat_at number cuts (v ∷ vs) [] ss es i s at = absurd (cc)
  seat_at number cuts (v ∷ vs) (t ∷ ts) [] es i s at = absurd (cc)
  seat_at number cuts (v ∷ vs) (t ∷ ts) (a ∷ ss) [] i s at = absurd (cc)
  seat_at number cuts (v ∷ vs) (t ∷ ts) (a ∷ ss) (e ∷ es) zero s at = record {
    view = v;
    asked = a;
    extent = e;
    cell = cell_of third all (if t then nat_lt cuts kept else false) number v.named v.spec;
    of_view = refl;
    of_sides = refl;
    of_extent = refl;
    is = one_of _ s at;
  }
  seat_at number cuts (v ∷ vs) (t ∷ ts) (a ∷ ss) (e ∷ es) (suc i) s at =
      let rest = seat_at (number + 1) (cuts + length (cuts_of v.spec)) vs ts ss es i s at in
      record { view = rest.view; asked = rest.asked; extent = rest.extent; cell = rest.cell; of_view = rest.of_view; of_sides = rest.of_sides; of_extent = rest.of_extent; is = rest.is }

  pub seats_long : (number cuts : ℕ) (views : List JobView) (through : List Bool) (sides : List Sides) (extents : List Extent) → length through ≡ length views → length sides ≡ length views
      → length extents ≡ length views → length (seats_from third shrunk m all kept number cuts views through sides extents) ≡ length views
  seats_long number cuts [] ts ss es a b c = refl
  seats_long number cuts (v ∷ vs) [] ss es a b c = absurd (omega (arith, a))
  seats_long number cuts (v ∷ vs) (t ∷ ts) [] es a b c = absurd (omega (arith, b))
  seats_long number cuts (v ∷ vs) (t ∷ ts) (s ∷ ss) [] a b c = absurd (omega (arith, c))
  seats_long number cuts (v ∷ vs) (t ∷ ts) (s ∷ ss) (e ∷ es) a b c =
      ap suc (seats_long (number + 1) (cuts + length (cuts_of v.spec)) vs ts ss es (omega (arith, a)) (omega (arith, b)) (omega (arith, c)))

-- ---- where they stand
pub record IsStandingAt (room : Room) (seats : List Seat) (r : Rows) (ss : List Seat) (i : ℕ) (t : Standing) : Type 0 where
  pub seat : Seat
  pub of_seat : slice_get ss i ≡ Some seat
  pub is : t ≡ standing_of room seats r seat

module _ (room : Room) (seats : List Seat) (r : Rows) where
  pub standing_at : (ss : List Seat) (i : ℕ) (t : Standing) → slice_get (standings_in room seats r ss) i ≡ Some t → IsStandingAt room seats r ss i t
  standing_at [] i t at = absurd (cc)
  standing_at (s ∷ ss) zero t at = record { seat = s; of_seat = refl; is = one_of _ t at }
  standing_at (s ∷ ss) (suc i) t at = let rest = standing_at ss i t at in record { seat = rest.seat; of_seat = rest.of_seat; is = rest.is }

  pub standings_long : (ss : List Seat) → length (standings_in room seats r ss) ≡ length ss
  standings_long [] = refl
  standings_long (s ∷ ss) = ap suc (standings_long ss)
