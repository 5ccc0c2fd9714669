-- The sheet, its list and the plain job have names of their own, so that at the end each of them holds its text.
use Rattle.std.proofs.Common.{◌≡◌, ◌≢◌, ℕ, List, [], ◌∷◌, Option, Some, None, Bool, true, false, true≢false, refl, sym, subst, ap, ◌∙◌}
use Rattle.std.specs.Prelude.{IfNone, IfSome, codes, if◌then◌else◌, ◌||◌, option_map}
use Rattle.std.specs.Str.{bytes_eq}
use Rattle.std.proofs.lemmas.List.Elements.{All-cons, All-nil}
use Rattle.std.proofs.lemmas.Option.{none-some, same_Some}
use Rattle.std.proofs.lemmas.Slice.Eq.{bytes_eq-Decides}
use Rattle.command_words.specs.Grammar.{GivenTexts, Reading, all_given, asks, for_help, for_version, reading_of, refused}
use Rattle.desk.specs.Files.{DeskState, Files}
use Rattle.part_input.specs.declared.fault.Fault.TheVariants.{WriteFault}
use Rattle.part_input.specs.declared.fault.Target.TheVariants.{Out, Summary}
use Rattle.put_texts.specs.Noting.{unless_said}
use Rattle.put_texts.specs.Order.{Way, Text, nowhere, aloud, under, HoldsText, HoldTexts, KeepsText, KeepsTexts}
use Rattle.sheet_input.specs.Faults.{sheet_faults}
use Rattle.sheet_core.specs.Writing.{Writes, WritesAsked, list_way, summary_way, texts_for, way_of}
use Rattle.sheet_input.specs.declared.fault.SheetFault.{SheetFault}
use Rattle.sheet_input.specs.declared.fault.SheetFault.TheVariants.{Common, WriteList, WritePlain}
use Rattle.sheet_words.specs.Grammar.{sheet_table}
use Rattle.sheet_input.specs.declared.take.SheetInput.{SheetInput}
use Rattle.sheet_words.specs.Names.{Asks, Goal, ListGoal, Named, TextsSaid, sheet, said, svg_file, pdf_file, list_said, list_file, asked_by, asks_of, clash, goal_of, has_empty_name, hidden_by, list_named, named, named_by, said_in, share_place, shares_place}
use Rattle.sheet_job.specs.declared.hidden.Hidden.{Hidden}

-- ---- two ways
-- no name is that of both
abbrev AreApart : Way → Way → Type 0
AreApart (under m) (under n) = m ≢ n
AreApart v w = Unit {0}

other_name : (m n : List ℕ) → bytes_eq m n ≡ false → n ≢ m
other_name m n none same = true≢false (sym ((bytes_eq-Decides m n).1 (sym same)) ∙ none)

ways_apart : (out : Goal) (list : Option ListGoal) → shares_place list out ≡ false → AreApart (way_of out) (list_way list)
ways_apart said list none = tt
ways_apart (svg_file out) None none = tt
ways_apart (svg_file out) (Some list_said) none = tt
ways_apart (svg_file out) (Some (list_file name)) none = other_name name out none
ways_apart (pdf_file out) None none = tt
ways_apart (pdf_file out) (Some list_said) none = tt
ways_apart (pdf_file out) (Some (list_file name)) none = other_name name out none

lists_apart : (list plain : Option ListGoal) → share_place list plain ≡ false → AreApart (list_way list) (list_way plain)
lists_apart None plain none = tt
lists_apart (Some list_said) plain none = tt
lists_apart (Some (list_file m)) None none = tt
lists_apart (Some (list_file m)) (Some list_said) none = tt
lists_apart (Some (list_file m)) (Some (list_file n)) none = λ same. other_name m n none (sym same)

-- no two of the three go to one place
neither : (a b : Bool) → (a || b) ≡ false → (a ≡ false) × (b ≡ false)
neither true b h = absurd (true≢false h)
neither false b h = (refl, h)

module _ (out : Goal) (list plain : Option ListGoal) (apart : clash out list plain ≡ false) where
  all_apart : (shares_place list out ≡ false) × ((shares_place plain out ≡ false) × (share_place list plain ≡ false))
  all_apart =
      let (of_out, of_both) = neither (shares_place list out || shares_place plain out) (share_place list plain) apart in
      let (of_list, of_plain) = neither (shares_place list out) (shares_place plain out) of_out in
      (of_list, (of_plain, of_both))

  list_apart : AreApart (way_of out) (list_way list)
  list_apart = let (of_list, (of_plain, of_both)) = all_apart in ways_apart out list of_list

  plain_apart : AreApart (way_of out) (list_way plain)
  plain_apart = let (of_list, (of_plain, of_both)) = all_apart in ways_apart out plain of_plain

  both_apart : AreApart (list_way list) (list_way plain)
  both_apart = let (of_list, (of_plain, of_both)) = all_apart in lists_apart list plain of_both

-- the summary has no name
apart_aloud : (v : Way) → AreApart v aloud
apart_aloud nowhere = tt
apart_aloud aloud = tt
apart_aloud (under m) = tt

apart_nowhere : (v : Way) → AreApart v nowhere
apart_nowhere nowhere = tt
apart_nowhere aloud = tt
apart_nowhere (under m) = tt

apart_unless : (v first rest : Way) → AreApart v rest → AreApart v (unless_said first rest)
apart_unless v nowhere rest apart = apart
apart_unless v aloud rest apart = apart_nowhere v
apart_unless v (under n) rest apart = apart

summary_apart : (n : Named) (v : Way) → AreApart v (summary_way n)
summary_apart n v =
    let after_list = unless_said (list_way n.plain) aloud in
    apart_unless v (way_of n.out) (unless_said (list_way n.list) after_list) (apart_unless v (list_way n.list) after_list (apart_unless v (list_way n.plain) aloud (apart_aloud v)))

-- ---- texts
-- a text that is put is held
is_held : (way : Way) (bytes : List ℕ) (old new : Files) → KeepsText way bytes old new → HoldsText way bytes new
is_held nowhere bytes old new kept = tt
is_held aloud bytes old new kept = tt
is_held (under name) bytes old new kept = kept.holds

-- and goes on being held where another one is put
goes_on : (v w : Way) (a b : List ℕ) (old new : Files) → AreApart v w → KeepsText w b old new → HoldsText v a old → HoldsText v a new
goes_on nowhere w a b old new apart kept held = tt
goes_on aloud w a b old new apart kept held = tt
goes_on (under m) nowhere a b old new apart kept held = ap (λ (files : Files). files m) kept ∙ held
goes_on (under m) aloud a b old new apart kept held = ap (λ (files : Files). files m) kept ∙ held
goes_on (under m) (under n) a b old new apart kept held = kept.others m apart ∙ held

module _ (n : Named) (page list plain summary : List ℕ) (apart : clash n.out n.list n.plain ≡ false) (old new : Files) where
  all_held : KeepsTexts sheet_faults None (texts_for n page list plain summary) old new → HoldTexts (texts_for n page list plain summary) new
  all_held (first, kept_page, (second, kept_list, (third, kept_plain, (fourth, kept_summary, last)))) =
      let v = way_of n.out in
      let w = list_way n.list in
      let x = list_way n.plain in
      let u = summary_way n in
      let page_so_far = goes_on v x page plain second third (plain_apart n.out n.list n.plain apart) kept_plain (goes_on v w page list first second (list_apart n.out n.list n.plain apart) kept_list (is_held v page old first kept_page)) in
      let list_so_far = goes_on w x list plain second third (both_apart n.out n.list n.plain apart) kept_plain (is_held w list first second kept_list) in
      let page_held = goes_on v u page summary third fourth (summary_apart n v) kept_summary page_so_far in
      let list_held = goes_on w u list summary third fourth (summary_apart n w) kept_summary list_so_far in
      let plain_held = goes_on x u plain summary third fourth (summary_apart n x) kept_summary (is_held x plain second third kept_plain) in
      let P : Text SheetFault → Type 0 = λ t. HoldsText t.way t.bytes fourth in
      let of_page : Text SheetFault = record { way = v; unwritten = Common (WriteFault Out); bytes = page } in
      let of_list : Text SheetFault = record { way = w; unwritten = WriteList; bytes = list } in
      let of_plain : Text SheetFault = record { way = x; unwritten = WritePlain; bytes = plain } in
      let of_summary : Text SheetFault = record { way = u; unwritten = Common (WriteFault Summary); bytes = summary } in
      subst (λ (files : Files). HoldTexts (texts_for n page list plain summary) files) (sym last)
      (All-cons P of_page (of_list ∷ of_plain ∷ of_summary ∷ []) page_held
      (All-cons P of_list (of_plain ∷ of_summary ∷ []) list_held
      (All-cons P of_plain (of_summary ∷ []) plain_held (All-cons P of_summary [] (is_held u summary third fourth kept_summary) (All-nil P)))))

-- ---- words
-- the words don't name one place for two texts
module _ (n : Named) where
  abbrev IsApart : Type 0
  IsApart = clash n.out n.list n.plain ≡ false

  by_places : (m : Named) (b : Bool) → clash m.out m.list m.plain ≡ b → (if b then None else Some m) ≡ Some n → IsApart
  by_places m true e is = absurd (none-some n is)
  by_places m false e is = subst (λ (k : Named). clash k.out k.list k.plain ≡ false) (same_Some m n is) e

  by_texts : (part job : Option (List ℕ)) (hidden : Option (Option Hidden)) (out : Option Goal) (list plain : Option ListGoal) (words : Option TextsSaid) → named_by part job hidden out list plain words ≡ Some n → IsApart
  by_texts (Some part) job (Some hidden) (Some out) list plain (Some words) is =
      by_places (record { part = part; job = job; out = out; list = list; plain = plain; hidden = hidden; said = words }) (clash out list plain) refl is
  by_texts (Some part) job (Some hidden) (Some out) list plain None is = absurd (none-some n is)
  by_texts (Some part) job (Some hidden) None list plain words is = absurd (none-some n is)
  by_texts (Some part) job None out list plain words is = absurd (none-some n is)
  by_texts None job hidden out list plain words is = absurd (none-some n is)

  unless_empty : (b : Bool) (o : Option Named) → (o ≡ Some n → IsApart) → (if b then None else o) ≡ Some n → IsApart
  unless_empty true o next is = absurd (none-some n is)
  unless_empty false o next is = next is

  by_given : (given : GivenTexts) → named given ≡ Some n → IsApart
  by_given given is =
      unless_empty (has_empty_name given) _
      (by_texts (given (codes "part")) (given (codes "job")) (hidden_by (given (codes "hidden"))) (goal_of (given (codes "out")))
      (option_map list_named (given (codes "list"))) (option_map list_named (given (codes "plain-job"))) (said_in given)) is

  same_sheet : (m : Named) → Some (sheet m) ≡ Some (sheet n) → m ≡ n
  same_sheet m e = cc

  by_reading : (r : Reading) → asks_of r ≡ Some (sheet n) → IsApart
  by_reading refused is = absurd (none-some (sheet n) is)
  by_reading (asks for_help) is = absurd (cc)
  by_reading (asks for_version) is = absurd (cc)
  by_reading (all_given given) is = go (named given) refl is
    where
      go : (o : Option Named) → named given ≡ o → option_map sheet o ≡ Some (sheet n) → IsApart
      go None e is = absurd (none-some (sheet n) is)
      go (Some m) e is = by_given given (e ∙ ap Some (same_sheet m is))

  asked_apart : (words : List (List ℕ)) → asked_by words ≡ Some (sheet n) → IsApart
  unfolding asked_by
  asked_apart words is = by_reading (reading_of sheet_table words) is

-- ---- a run
module _ (words : List (List ℕ)) (n : Named) (is : asked_by words ≡ Some (sheet n)) (old new : DeskState) (m : SheetInput) where
  held : (fault : Option SheetFault) (w : Writes n fault old new m) → old.tells ≡ true → IfNone fault (HoldTexts w.texts new.files)
  held (Some fault) w told = tt
  held None w told =
      subst (λ (texts : List (Text SheetFault)). HoldTexts texts new.files) (sym w.are_texts)
      (all_held n _ _ _ _ (asked_apart n words is) old.files new.files (subst (λ (texts : List (Text SheetFault)). KeepsTexts sheet_faults None texts old.files new.files) w.are_texts (w.files told)))

pub writes_held : (words : List (List ℕ)) (n : Named) → asked_by words ≡ Some (sheet n) → (fault : Option SheetFault) (old new : DeskState) (made : Option SheetInput)
    → IfSome made (Writes n fault old new) → IfSome made (WritesAsked (asked_by words) fault old new)
writes_held words n is fault old new None w = tt
writes_held words n is fault old new (Some m) w = subst (λ (asked : Option Asks). WritesAsked asked fault old new m) (sym is) (w, held words n is old new m fault w)
