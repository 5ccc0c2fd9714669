-- Slots with a room for each file that may be kept.
use Rattle.std.proofs.Common.{◌≡◌, ◌≤◌, ℕ, suc, List, [], ◌∷◌, map, set, get_or, subst, Option, Some, None, option_map, Bool, true, false, refl, ap, sym, ◌∙◌, arith}
use Rattle.std.specs.Prelude.{if◌then◌else◌, slice_get, IfSome}
use Rattle.std.specs.List.{All}
use Rattle.std.specs.Str.{bytes_eq}
use Rattle.std.proofs.lemmas.Slice.Eq.{bytes_eq-Decides}
use Rattle.desk.specs.Files.{Files, Keeps, named_at}
use Rattle.desk.specs.RoomDesk.{RoomState, HasNoRoom, rooms_of, kept_or}
use Rattle.desk.specs.Rooms.{bytes_in, size_of}
use Rattle.desk.specs.inner.Places.{IsPlaceOf}
use Rattle.desk.specs.inner.Slots.{IsUnkept}
use Rattle.desk.specs.declared.room_desk.Slot.{Slot}
use Rattle.desk.proofs.Places.{IsPut, found, put_at, read_at}

abbrev pub Slots : Type 0
Slots = List (List ℕ × Slot)

pub apart : false ≡ true → ⊥
apart e = absurd (cc)

abbrev room_of : List ℕ × Slot → List ℕ × ℕ
room_of slot = (slot.0, size_of slot.1.room)

-- ---- slots of which none was kept
unkept : (slots : Slots) (there : Option (List ℕ)) (name : List ℕ) → All IsUnkept slots → kept_or there (named_at slots name) ≡ there
unkept [] there name all = refl
unkept (slot ∷ slots) there name all = go (bytes_eq slot.0 name) (unkept slots there name (λ k d within. all (suc k) d (omega (arith, within))))
  where
    go : (b : Bool) → kept_or there (named_at slots name) ≡ there → kept_or there (if b then Some slot.1 else named_at slots name) ≡ there
    go true later = rw (all 0 slot (omega arith)) refl
    go false later = later

pub unkept_files : (slots : Slots) (files : Files) → All IsUnkept slots → (λ name. kept_or (files name) (named_at slots name)) ≡ files
unkept_files slots files all = λ i name. unkept slots (files name) name all i

named_rooms : (slots : Slots) (name : List ℕ) → rooms_of slots name ≡ named_at (map room_of slots) name
named_rooms [] name = refl
named_rooms (slot ∷ slots) name = go (bytes_eq slot.0 name) (named_rooms slots name)
  where
    go : (b : Bool) → rooms_of slots name ≡ named_at (map room_of slots) name
        → option_map (λ (s : Slot). size_of s.room) (if b then Some slot.1 else named_at slots name)
        ≡ (if b then Some (size_of slot.1.room) else named_at (map room_of slots) name)
    go true later = refl
    go false later = later

pub rooms_are : (slots : Slots) (given : List (List ℕ × ℕ)) → map (λ slot. (slot.0, size_of slot.1.room)) slots ≡ given → rooms_of slots ≡ named_at given
rooms_are slots given same = λ i name. (named_rooms slots name ∙ ap (λ (xs : List (List ℕ × ℕ)). named_at xs name) same) i

-- no more than the rooms changed
pub with_rooms : (s : RoomState) (rooms : List ℕ → Option ℕ) → s.rooms ≡ rooms → s ≡ record s { rooms = rooms }
with_rooms s rooms same = λ i. record s { rooms = same i }

-- ---- the slot with a name
module _ (slots : Slots) (name : List ℕ) (i : ℕ) (one : List ℕ × Slot) (place : IsPlaceOf slots name i) (read : one ≡ get_or slots i one) where
  room_is : rooms_of slots name ≡ Some (size_of one.1.room)
  room_is = ap (option_map (λ (s : Slot). size_of s.room)) (found slots name i one place read)

  pub no_room : (count : ℕ) → (count ≤ size_of one.1.room → ⊥) → HasNoRoom (rooms_of slots name) count
  no_room count over = rw room_is (omega (arith, over))

  pub has_room : (count : ℕ) → IfSome (slice_get slots i) (λ slot. count ≤ size_of slot.1.room) → HasNoRoom (rooms_of slots name) count → ⊥
  has_room count roomy none = go (rooms_of slots name) room_is none
    where
      fits : count ≤ size_of one.1.room
      fits = subst (λ (o : Option (List ℕ × Slot)). IfSome o (λ slot. count ≤ size_of slot.1.room)) (read_at slots name i one place read) roomy

      go : (o : Option ℕ) → o ≡ Some (size_of one.1.room) → HasNoRoom o count → ⊥
      go None is h = absurd (cc)
      go (Some n) is h = let same : n ≡ size_of one.1.room = cc in omega (arith, same, fits, h)

  -- another in its place with as much room
  module _ (slot : Slot) (sized : size_of slot.room ≡ size_of one.1.room) where
    put : IsPut (named_at slots) (named_at (set slots i (one.0, slot))) name slot
    put = put_at slots name i one slot place read

    same_room : (other : List ℕ) → rooms_of (set slots i (one.0, slot)) other ≡ rooms_of slots other
    same_room other = go (bytes_eq other name) (bytes_eq-Decides other name)
      where
        go : (b : Bool) → ((b ≡ true → other ≡ name) × (other ≡ name → b ≡ true)) → rooms_of (set slots i (one.0, slot)) other ≡ rooms_of slots other
        go true decides =
            ap (rooms_of (set slots i (one.0, slot))) (decides.0 refl) ∙ ap (option_map (λ (s : Slot). size_of s.room)) put.holds ∙ ap Some sized ∙ sym room_is
            ∙ ap (rooms_of slots) (sym (decides.0 refl))
        go false decides = ap (option_map (λ (s : Slot). size_of s.room)) (put.others other (λ same. apart (decides.1 same)))

    pub same_rooms : rooms_of (set slots i (one.0, slot)) ≡ rooms_of slots
    same_rooms = λ j other. same_room other j

    -- keeps what it holds
    pub slot_kept : (files : Files) (bytes : List ℕ) → kept_or None (Some slot) ≡ Some bytes
        → Keeps (λ n. kept_or (files n) (named_at slots n)) (λ n. kept_or (files n) (named_at (set slots i (one.0, slot)) n)) name bytes
    slot_kept files bytes holds = record {
      holds = ap (kept_or (files name)) put.holds ∙ go slot.kept holds;
      others = λ other unlike. ap (kept_or (files other)) (put.others other unlike);
    }
      where
        go : (b : Bool) → (if b then Some (bytes_in slot.room) else None) ≡ Some bytes → (if b then Some (bytes_in slot.room) else files name) ≡ Some bytes
        go true is = is
        go false is = absurd (cc)
