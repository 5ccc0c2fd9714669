-- Of lines in their order each is drawn, or lies within one that is drawn.
use Rattle.std.proofs.Common.{◌≡◌, inl, inr, ℕ, ◌-◌, Bool, true, false, List, [], ◌∷◌, ◌++◌, refl, arith}
use Rattle.std.specs.Prelude.{pos, ◌≤ℤ◌, ◌==◌, ◌||◌, ◌&&◌, not, nat_lt, length, cond}
use Rattle.std.proofs.lemmas.Int.{ints}
use Rattle.covered_paths.specs.Covering.{covers}
use Rattle.covered_paths.specs.Drawn.{EachLine, IsSeen, LiesWithin, SomeLine, comes_near, drawn_after, far_of, is_covered_among, is_left_out, starts_near}
use Rattle.covered_paths.specs.declared.line.Line.{Line}
use Rattle.covered_paths.proofs.LegPoints.{each_covered}
use Rattle.covered_paths.proofs.Truths.{both_left, both_right, either}

pub same_view : (a b : ℕ) → (a == b) ≡ true → a ≡ b
same_view a b e = grind arith

not_negative : (b : Bool) → pos 0 ≤ℤ cond b (pos 25) (pos 35)
not_negative true = omega (arith, ints)
not_negative false = omega (arith, ints)

-- ---- lists of lines
some_front : (P : Line → Type 0) (ms ns : List Line) → SomeLine P ms → SomeLine P (ms ++ ns)
some_front P [] ns h = absurd h
some_front P (m ∷ ms) ns (inl h) = inl h
some_front P (m ∷ ms) ns (inr h) = inr (some_front P ms ns h)

some_last : (P : Line → Type 0) (ms : List Line) (l : Line) → P l → SomeLine P (ms ++ l ∷ [])
some_last P [] l h = inl h
some_last P (m ∷ ms) l h = inr (some_last P ms l h)

-- what is drawn stays
some_kept : (P : Line → Type 0) (drawn ls : List Line) → SomeLine P drawn → SomeLine P (drawn_after drawn ls)
some_kept P drawn [] h = h
some_kept P drawn (l ∷ ls) h = some_kept P (cond (is_left_out drawn l) drawn (drawn ++ l ∷ [])) ls (grown (is_left_out drawn l))
  where
    grown : (b : Bool) → SomeLine P (cond b drawn (drawn ++ l ∷ []))
    grown true = h
    grown false = some_front P drawn (l ∷ []) h

-- ---- a line that is left out
view_of : (l m : Line) → comes_near l m ≡ true → m.view ≡ l.view
unfolding comes_near
view_of l m h = same_view m.view l.view (both_left (m.view == l.view) (starts_near (far_of m) m.legs.items l.legs.items) h)

within : (l m : Line) → l.hidden ≡ true → comes_near l m ≡ true → covers (far_of m) m.legs.items l.legs.items ≡ true → LiesWithin l m
within l m hidden near h = record {
  hidden = hidden;
  view = view_of l m near;
  near = each_covered (far_of m) (not_negative m.hidden) m.legs.items l.legs.items h;
}

among : (n : ℕ) (l : Line) (ms : List Line) → l.hidden ≡ true → is_covered_among n l ms ≡ true → SomeLine (LiesWithin l) ms
unfolding is_covered_among
among n l [] hidden h = absurd cc
among n l (m ∷ ms) hidden h = by (n == 0) (comes_near l m) refl refl (among (n - 1) l ms hidden) (among n l ms hidden) h
  where
    by : (a b : Bool) → (n == 0) ≡ a → comes_near l m ≡ b
        → (is_covered_among (n - 1) l ms ≡ true → SomeLine (LiesWithin l) ms) → (is_covered_among n l ms ≡ true → SomeLine (LiesWithin l) ms)
        → cond a false (cond b (covers (far_of m) m.legs.items l.legs.items || is_covered_among (n - 1) l ms) (is_covered_among n l ms)) ≡ true → SomeLine (LiesWithin l) (m ∷ ms)
    by true b e f fewer same k = absurd cc
    by false false e f fewer same k = inr (same k)
    by false true e f fewer same k = elim (either (covers (far_of m) m.legs.items l.legs.items) (is_covered_among (n - 1) l ms) k) [ inl p ↦ inl (within l m hidden f p) | inr p ↦ inr (fewer p) ]

out : (drawn : List Line) (l : Line) → is_left_out drawn l ≡ true → SomeLine (LiesWithin l) drawn
unfolding is_left_out
out drawn l h =
    let few = not (nat_lt 1000 (length l.legs.items)) in
    let room = not (nat_lt 20000 (length drawn)) in
    let tried = room && is_covered_among 8 l drawn in
    among 8 l drawn (both_left l.hidden (few && tried) h) (both_right room (is_covered_among 8 l drawn) (both_right few tried (both_right l.hidden (few && tried) h)))

-- ---- each line
pub each_seen : (drawn ls : List Line) → EachLine (IsSeen (drawn_after drawn ls)) ls
each_seen drawn [] = tt
each_seen drawn (l ∷ ls) = (by (is_left_out drawn l) refl, each_seen (cond (is_left_out drawn l) drawn (drawn ++ l ∷ [])) ls)
  where
    by : (b : Bool) → is_left_out drawn l ≡ b → IsSeen (drawn_after (cond b drawn (drawn ++ l ∷ [])) ls) l
    by true e = inr (some_kept (LiesWithin l) drawn ls (out drawn l e))
    by false e = inl (some_kept (λ m. m ≡ l) (drawn ++ l ∷ []) ls (some_last (λ m. m ≡ l) drawn l refl))
