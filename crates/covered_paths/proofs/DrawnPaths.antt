-- Which paths are drawn: how they are marked, and that each other one lies within one of them.
use Rattle.std.proofs.Common.{◌≡◌, ◌⊎◌, inl, inr, ℕ, zero, suc, ◌+◌, Bool, true, false, List, [], ◌∷◌, ◌++◌, length, refl, sym, ap, subst, ◌∙◌, arith}
use Rattle.std.specs.Prelude.{pos, ◌==◌, ◌||◌, ◌&&◌, cond, Some, slice_get, slice_set}
use Rattle.std.specs.List.{list_all, list_any}
use Rattle.sheet_plan.specs.declared.sheet.Mark.{Mark}
use Rattle.sheet_plan.specs.declared.sheet.Mark.TheVariants.{Solid, Dashed, Chain, Hatch}
use Rattle.stroke_paths.specs.declared.path.Path.{Path}
use Rattle.covered_paths.specs.Drawn.{AreBeneath, AreDrawn, AreLines, EachLine, IsBeneath, IsSeen, LiesWithin, SomeLine, drawn_after, is_drawn, is_left_out}
use Rattle.covered_paths.specs.Points.{EachLeg, EachPointNear}
use Rattle.covered_paths.specs.Sheets.{Sketch, is_hidden, is_line, is_on_sheet, is_outline, sketch_of, sketch_path}
use Rattle.covered_paths.specs.declared.line.Line.{Line}
use Rattle.covered_paths.specs.inner.Marks.{is_other, marked, others_of}
use Rattle.covered_paths.proofs.DrawnLines.{each_seen, same_view}
use Rattle.covered_paths.proofs.OnSheet.{line_outlined}
use Rattle.covered_paths.proofs.Sketches.{IsFrom, each_from, some_line}
use Rattle.covered_paths.proofs.Truths.{both_left, either, not_both_ways}

-- ---- marks
or_none : (v a : Bool) → a ≡ false → v ≡ (v || a)
or_none true a e = refl
or_none false a e = sym e

or_all : (v a : Bool) → a ≡ true → true ≡ (v || a)
or_all true a e = refl
or_all false a e = sym e

same_number : (m n : ℕ) → m ≡ n → (m == n) ≡ true
same_number m n e = grind arith

or_left : (a b : Bool) → a ≡ true → (a || b) ≡ true
or_left true b e = refl
or_left false b e = absurd cc

zero_other : (n : ℕ) → (0 == suc n) ≡ false
zero_other n = grind arith

other_zero : (n : ℕ) → (suc n == 0) ≡ false
other_zero n = grind arith

next_number : (m n : ℕ) → (m == n) ≡ (suc m == suc n)
next_number m n = grind arith

set_at : (xs : List Bool) (m n : ℕ) (v : Bool) → slice_get xs n ≡ Some v → slice_get (slice_set xs m true) n ≡ Some (v || (m == n))
set_at [] m n v e = absurd cc
set_at (x ∷ xs) zero zero v e = ap Some (or_all v (0 == 0) (same_number 0 0 refl))
set_at (x ∷ xs) zero (suc n) v e = e ∙ ap Some (or_none v (0 == suc n) (zero_other n))
set_at (x ∷ xs) (suc m) zero v e = e ∙ ap Some (or_none v (suc m == 0) (other_zero m))
set_at (x ∷ xs) (suc m) (suc n) v e = set_at xs m n v e ∙ ap (λ (b : Bool). Some (v || b)) (next_number m n)

associated : (a b c : Bool) → ((a || b) || c) ≡ (a || (b || c))
associated true b c = refl
associated false b c = refl

marked_at : (drawn : List Bool) (ls : List Line) (n : ℕ) (v : Bool) → slice_get drawn n ≡ Some v → slice_get (marked drawn ls) n ≡ Some (v || list_any (λ (l : Line). l.number == n) ls)
marked_at drawn [] n v e = e ∙ ap Some (or_none v false refl)
marked_at drawn (l ∷ ls) n v e =
    marked_at (slice_set drawn l.number true) ls n (v || (l.number == n)) (set_at drawn l.number n v e) ∙ ap Some (associated v (l.number == n) (list_any (λ (m : Line). m.number == n) ls))

others_at : (paths : List Path) (shown : List Bool) (n : ℕ) (p : Path) (b : Bool) → slice_get paths n ≡ Some p → slice_get shown n ≡ Some b → slice_get (others_of paths shown) n ≡ Some (is_other p b)
others_at [] shown n p b e f = absurd cc
others_at (q ∷ ps) [] n p b e f = absurd cc
others_at (q ∷ ps) (c ∷ bs) zero p b e f =
    let same : q ≡ p = cc in
    let flag : c ≡ b = cc in
    λ i. Some (is_other (same i) (flag i))
others_at (q ∷ ps) (c ∷ bs) (suc n) p b e f = others_at ps bs n p b e f

others_length : (paths : List Path) (shown : List Bool) → length shown ≡ length paths → length (others_of paths shown) ≡ length paths
others_length [] shown h = refl
others_length (p ∷ ps) [] h = h
others_length (p ∷ ps) (b ∷ bs) h = let rest = others_length ps bs (omega arith) in omega arith

set_length : (xs : List Bool) (m : ℕ) → length (slice_set xs m true) ≡ length xs
set_length [] m = refl
set_length (x ∷ xs) zero = refl
set_length (x ∷ xs) (suc m) = let rest = set_length xs m in omega arith

marked_length : (drawn : List Bool) (ls : List Line) → length (marked drawn ls) ≡ length drawn
marked_length drawn [] = refl
marked_length drawn (l ∷ ls) = marked_length (slice_set drawn l.number true) ls ∙ set_length drawn l.number

-- ---- lines of lists
record HasBoth (P Q : Line → Type 0) (ms : List Line) : Type 0 where
  line : Line
  listed : SomeLine (λ m. m ≡ line) ms
  first : P line
  second : Q line

in_both : (P Q : Line → Type 0) (ms : List Line) → EachLine P ms → SomeLine Q ms → HasBoth P Q ms
in_both P Q [] h k = absurd k
in_both P Q (m ∷ ms) h (inl k) = record { line = m; listed = inl refl; first = h.0; second = k }
in_both P Q (m ∷ ms) h (inr k) =
    let rest = in_both P Q ms h.1 k in
    record { line = rest.line; listed = inr rest.listed; first = rest.first; second = rest.second }

each_after : (P : Line → Type 0) (drawn ls : List Line) → EachLine P drawn → EachLine P ls → EachLine P (drawn_after drawn ls)
each_after P drawn [] h k = h
each_after P drawn (l ∷ ls) h k = each_after P (cond (is_left_out drawn l) drawn (drawn ++ l ∷ [])) ls (grown (is_left_out drawn l)) k.1
  where
    more : (ms : List Line) → EachLine P ms → P l → EachLine P (ms ++ l ∷ [])
    more [] h k = (k, tt)
    more (m ∷ ms) h k = (h.0, more ms h.1 k)

    grown : (b : Bool) → EachLine P (cond b drawn (drawn ++ l ∷ []))
    grown true = h
    grown false = more drawn h k.0

some_numbered : (l : Line) (n : ℕ) → l.number ≡ n → (ms : List Line) → SomeLine (λ m. m ≡ l) ms → list_any (λ (m : Line). m.number == n) ms ≡ true
some_numbered l n e [] h = absurd h
some_numbered l n e (m ∷ ms) (inl h) = or_left (m.number == n) (list_any (λ (k : Line). k.number == n) ms) (same_number m.number n (ap (λ (k : Line). k.number) h ∙ e))
some_numbered l n e (m ∷ ms) (inr h) = sym (or_all (m.number == n) (list_any (λ (k : Line). k.number == n) ms) (some_numbered l n e ms h))

numbered_some : (n : ℕ) (ms : List Line) → list_any (λ (m : Line). m.number == n) ms ≡ true → SomeLine (λ m. m.number ≡ n) ms
numbered_some n [] h = absurd cc
numbered_some n (m ∷ ms) h = by (numbered_some n ms) (either (m.number == n) (list_any (λ (k : Line). k.number == n) ms) h)
  where
    by : (list_any (λ (k : Line). k.number == n) ms ≡ true → SomeLine (λ k. k.number ≡ n) ms) → ((m.number == n) ≡ true) ⊎ (list_any (λ (k : Line). k.number == n) ms ≡ true) → SomeLine (λ k. k.number ≡ n) (m ∷ ms)
    by rest (inl e) = inl (same_view m.number n e)
    by rest (inr e) = inr (rest e)

is_dashed : (m : Mark) → is_hidden m ≡ true → m ≡ Dashed
is_dashed Solid e = absurd cc
is_dashed Dashed e = refl
is_dashed Chain e = absurd cc
is_dashed Hatch e = absurd cc

-- ---- which paths are drawn
module _ (paths : List Path) (shown : List Bool) (lines : List Line) (are : AreLines paths shown lines) where
  drawn_from : EachLine (λ l. IsFrom 0 paths shown (sketch_of l)) (drawn_after [] lines)
  drawn_from = each_after (λ l. IsFrom 0 paths shown (sketch_of l)) [] lines tt (each_from paths shown lines are)

  -- a path whose line is drawn is a line
  line_there : (n : ℕ) (p : Path) (b : Bool) → slice_get paths n ≡ Some p → slice_get shown n ≡ Some b → list_any (λ (l : Line). l.number == n) (drawn_after [] lines) ≡ true → is_line p b ≡ true
  line_there n p b e f h =
      let found = in_both (λ l. IsFrom 0 paths shown (sketch_of l)) (λ l. l.number ≡ n) (drawn_after [] lines) drawn_from (numbered_some n (drawn_after [] lines) h) in
      let from = found.first in
      let sum : 0 + from.at ≡ from.at = omega arith in
      let at : from.at ≡ n = sym sum ∙ sym (ap (λ (k : Sketch). k.number) from.same) ∙ found.second in
      let path : Some from.path ≡ Some p = sym from.listed ∙ ap (slice_get paths) at ∙ e in
      let flag : Some from.flag ≡ Some b = sym from.flagged ∙ ap (slice_get shown) at ∙ f in
      let same : from.path ≡ p = cc in
      let flags : from.flag ≡ b = cc in
      sym (λ i. is_line (same i) (flags i)) ∙ from.line

  agrees : (c b a : Bool) → (c ≡ false → a ≡ true → ⊥) → (cond c false b || a) ≡ cond c a b
  agrees true b a none = refl
  agrees false true a none = refl
  agrees false false false none = refl
  agrees false false true none = absurd (none refl refl)

  pub marked_are : length shown ≡ length paths → AreDrawn paths shown (marked (others_of paths shown) (drawn_after [] lines))
  marked_are many = record {
    lines = lines;
    are = are;
    as_many = marked_length (others_of paths shown) (drawn_after [] lines) ∙ others_length paths shown many;
    each = λ n p b e f.
        marked_at (others_of paths shown) (drawn_after [] lines) n (is_other p b) (others_at paths shown n p b e f)
        ∙ ap Some (agrees (is_line p b) b (list_any (λ (l : Line). l.number == n) (drawn_after [] lines)) (λ g h. not_both_ways (is_line p b) g (line_there n p b e f h)));
  }

-- ---- what lies within others
module _ (paths : List Path) (shown drawn : List Bool) (h : AreDrawn paths shown drawn) where
  abbrev them : List Line
  them = drawn_after [] h.lines

  them_from : EachLine (λ l. IsFrom 0 paths shown (sketch_of l)) them
  them_from = drawn_from paths shown h.lines h.are

  flag_is : (p : Path) (b : Bool) → is_line p b ≡ true → b ≡ true
  unfolding is_line
  flag_is p b e = both_left b (is_outline p.mark && list_all is_on_sheet p.points.items) e

  -- a line that is drawn is that of a path that is drawn
  beneath : (n : ℕ) (p : Path) (l m : Line) → sketch_of l ≡ sketch_path n p → LiesWithin l m → IsFrom 0 paths shown (sketch_of m) → SomeLine (λ k. k ≡ m) them → IsBeneath paths shown drawn p
  beneath n p l m e within from listed =
      let sum : 0 + from.at ≡ from.at = omega arith in
      let number : m.number ≡ from.at = ap (λ (k : Sketch). k.number) from.same ∙ sum in
      record {
        hidden = is_dashed p.mark (sym (ap (λ (k : Sketch). k.hidden) e) ∙ within.hidden);
        number = from.at;
        other = from.path;
        listed = from.listed;
        other_shown = from.flagged ∙ ap Some (flag_is from.path from.flag from.line);
        other_drawn =
            h.each from.at from.path from.flag from.listed from.flagged
            ∙ ap Some (ap (λ (b : Bool). cond b (list_any (λ (k : Line). k.number == from.at) them) from.flag) from.line ∙ some_numbered m from.at number them listed);
        view = sym (ap (λ (k : Sketch). k.view) from.same) ∙ within.view ∙ ap (λ (k : Sketch). k.view) e;
        outline = line_outlined from.path from.flag from.line;
        legs = l.legs.items;
        others = m.legs.items;
        are_legs = ap (λ (k : Sketch). k.ends) e;
        are_others = ap (λ (k : Sketch). k.ends) from.same;
        near = subst (λ (b : Bool). EachLeg (EachPointNear (cond b (pos 25) (pos 35)) m.legs.items) l.legs.items) (ap (λ (k : Sketch). k.hidden) from.same) within.near;
      }

  seen_beneath : (n : ℕ) (p : Path) (l : Line) → sketch_of l ≡ sketch_path n p → (list_any (λ (k : Line). k.number == n) them ≡ false) → IsSeen them l → IsBeneath paths shown drawn p
  seen_beneath n p l e none (inl k) = absurd (not_both_ways (list_any (λ (k : Line). k.number == n) them) none (some_numbered l n (ap (λ (k : Sketch). k.number) e) them k))
  seen_beneath n p l e none (inr k) =
      let found = in_both (λ m. IsFrom 0 paths shown (sketch_of m)) (LiesWithin l) them them_from k in
      beneath n p l found.line e found.second found.first found.listed

  undrawn : (c a : Bool) → cond c a true ≡ false → (c ≡ true) × (a ≡ false)
  undrawn true a e = (refl, e)
  undrawn false a e = absurd cc

  pub are_beneath : AreBeneath paths shown drawn
  are_beneath n p e f g =
      let flag : Some (is_drawn them n p true) ≡ Some false = sym (h.each n p true e f) ∙ g in
      let not_drawn : is_drawn them n p true ≡ false = cc in
      let why = undrawn (is_line p true) (list_any (λ (k : Line). k.number == n) them) not_drawn in
      let found = in_both (IsSeen them) (λ l. sketch_of l ≡ sketch_path n p) h.lines (each_seen [] h.lines) (some_line paths shown h.lines h.are n p true e f why.0) in
      seen_beneath n p found.line found.second why.1 found.first
