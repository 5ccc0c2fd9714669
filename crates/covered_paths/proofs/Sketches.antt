-- The lines of paths: each is a path's, and each path that is a line has one.
use Rattle.std.proofs.Common.{◌≡◌, inl, inr, ℕ, zero, suc, ◌+◌, ◌≤◌, ◌<◌, Bool, true, false, List, [], ◌∷◌, map, length, All, refl, ap, subst, ◌∙◌, arith}
use Rattle.std.specs.Prelude.{cond, Some, slice_get, slice_index_or}
use Rattle.std.specs.List.{Contains}
use Rattle.std.specs.List.Sorted.{IsNonDecreasingBy}
use Rattle.std.proofs.lemmas.List.Elements.{All-append, All-cons, All-nil, Contains-append_left, Contains-append_right}
use Rattle.std.proofs.lemmas.List.Sorted.{All-permutation, Contains-permutation}
use Rattle.stroke_paths.specs.declared.path.Path.{Path}
use Rattle.covered_paths.specs.Drawn.{AreLines, EachLine, SomeLine}
use Rattle.covered_paths.specs.Places.{place_of}
use Rattle.covered_paths.specs.Sheets.{Sketch, is_line, sketch_of, sketch_path, sketches}
use Rattle.covered_paths.specs.declared.line.Line.{Line}

-- ---- the order by a line's own number is that of the definition
pub placed_order : (lines : List Line) → IsNonDecreasingBy (λ (l : Line). l.place) lines → IsNonDecreasingBy (λ (l : Line). place_of l.number l.hidden l.legs.items) lines
placed_order lines h = λ i j d p q. subst (λ (n : ℕ). n ≤ place_of (slice_index_or lines j d).number (slice_index_or lines j d).hidden (slice_index_or lines j d).legs.items) (slice_index_or lines i d).placed (subst (λ (n : ℕ). (slice_index_or lines i d).place ≤ n) (slice_index_or lines j d).placed (h i j d p q))

-- ---- each is a path's
pub record IsFrom (n : ℕ) (paths : List Path) (shown : List Bool) (k : Sketch) : Type 0 where
  pub at : ℕ
  pub path : Path
  pub flag : Bool
  pub listed : slice_get paths at ≡ Some path
  pub flagged : slice_get shown at ≡ Some flag
  pub line : is_line path flag ≡ true
  pub same : k ≡ sketch_path (n + at) path

later : (n : ℕ) (p : Path) (ps : List Path) (b : Bool) (bs : List Bool) (k : Sketch) → IsFrom (n + 1) ps bs k → IsFrom n (p ∷ ps) (b ∷ bs) k
later n p ps b bs k h = record {
  at = suc h.at;
  path = h.path;
  flag = h.flag;
  listed = h.listed;
  flagged = h.flagged;
  line = h.line;
  same = let e : n + 1 + h.at ≡ n + suc h.at = omega arith in subst (λ (m : ℕ). k ≡ sketch_path m h.path) e h.same;
}

first : (n : ℕ) (p : Path) (ps : List Path) (b : Bool) (bs : List Bool) → is_line p b ≡ true → IsFrom n (p ∷ ps) (b ∷ bs) (sketch_path n p)
first n p ps b bs h = record {
  at = zero;
  path = p;
  flag = b;
  listed = refl;
  flagged = refl;
  line = h;
  same = let e : n ≡ n + 0 = omega arith in ap (λ (m : ℕ). sketch_path m p) e;
}

one_from : (n : ℕ) (p : Path) (ps : List Path) (b : Bool) (bs : List Bool) (c : Bool) → is_line p b ≡ c → All (IsFrom n (p ∷ ps) (b ∷ bs)) (cond c (sketch_path n p ∷ []) [])
one_from n p ps b bs false e = All-nil (IsFrom n (p ∷ ps) (b ∷ bs))
one_from n p ps b bs true e = All-cons (IsFrom n (p ∷ ps) (b ∷ bs)) (sketch_path n p) [] (first n p ps b bs e) (All-nil (IsFrom n (p ∷ ps) (b ∷ bs)))

all_from : (n : ℕ) (paths : List Path) (shown : List Bool) → All (IsFrom n paths shown) (sketches n paths shown)
all_from n [] shown = All-nil (IsFrom n [] shown)
all_from n (p ∷ ps) [] = All-nil (IsFrom n (p ∷ ps) [])
all_from n (p ∷ ps) (b ∷ bs) =
    All-append (IsFrom n (p ∷ ps) (b ∷ bs)) (cond (is_line p b) (sketch_path n p ∷ []) []) (sketches (n + 1) ps bs) (one_from n p ps b bs (is_line p b) refl)
    (λ k d h. later n p ps b bs (slice_index_or (sketches (n + 1) ps bs) k d) (all_from (n + 1) ps bs k d h))

each_all : (P : Sketch → Type 0) (lines : List Line) → All P (map sketch_of lines) → EachLine (λ l. P (sketch_of l)) lines
each_all P [] h = tt
each_all P (l ∷ ls) h = (h 0 (sketch_of l) (omega arith), each_all P ls (λ k d q. h (suc k) d (omega arith)))

pub each_from : (paths : List Path) (shown : List Bool) (lines : List Line) → AreLines paths shown lines → EachLine (λ l. IsFrom 0 paths shown (sketch_of l)) lines
each_from paths shown lines h = each_all (IsFrom 0 paths shown) lines (All-permutation (IsFrom 0 paths shown) _ _ h.same (all_from 0 paths shown))

-- ---- and each path that is a line has one
only : (k : Sketch) → Contains (k ∷ []) k
only k = (0, omega arith, refl)

one_line : (n : ℕ) (p : Path) (c : Bool) → c ≡ true → Contains (cond c (sketch_path n p ∷ []) []) (sketch_path n p)
one_line n p true e = only (sketch_path n p)
one_line n p false e = absurd cc

listed_from : (n : ℕ) (paths : List Path) (shown : List Bool) (i : ℕ) (p : Path) (b : Bool) → slice_get paths i ≡ Some p → slice_get shown i ≡ Some b → is_line p b ≡ true → Contains (sketches n paths shown) (sketch_path (n + i) p)
listed_from n [] shown i p b e f h = absurd cc
listed_from n (q ∷ ps) [] i p b e f h = absurd cc
listed_from n (q ∷ ps) (c ∷ bs) zero p b e f h =
    let same : q ≡ p = cc in
    let flag : c ≡ b = cc in
    let sum : n ≡ n + 0 = omega arith in
    Contains-append_left (cond (is_line q c) (sketch_path n q ∷ []) []) (sketches (n + 1) ps bs) (sketch_path (n + 0) p)
    (subst (λ (k : Sketch). Contains (cond (is_line q c) (sketch_path n q ∷ []) []) k) (λ j. sketch_path (sum j) (same j)) (one_line n q (is_line q c) ((λ j. is_line (same j) (flag j)) ∙ h)))
listed_from n (q ∷ ps) (c ∷ bs) (suc i) p b e f h =
    let sum : n + 1 + i ≡ n + suc i = omega arith in
    Contains-append_right (cond (is_line q c) (sketch_path n q ∷ []) []) (sketches (n + 1) ps bs) (sketch_path (n + suc i) p)
    (subst (λ (m : ℕ). Contains (sketches (n + 1) ps bs) (sketch_path m p)) sum (listed_from (n + 1) ps bs i p b e f h))

some_at : (lines : List Line) (k : Sketch) (i : ℕ) → i < length (map sketch_of lines) → slice_index_or (map sketch_of lines) i k ≡ k → SomeLine (λ l. sketch_of l ≡ k) lines
some_at [] k i h e = absurd (omega arith)
some_at (l ∷ ls) k zero h e = inl e
some_at (l ∷ ls) k (suc i) h e = inr (some_at ls k i (omega arith) e)

pub some_line : (paths : List Path) (shown : List Bool) (lines : List Line) → AreLines paths shown lines → (n : ℕ) (p : Path) (b : Bool) → slice_get paths n ≡ Some p → slice_get shown n ≡ Some b → is_line p b ≡ true → SomeLine (λ l. sketch_of l ≡ sketch_path n p) lines
some_line paths shown lines h n p b e f g =
    let sum : 0 + n ≡ n = omega arith in
    let found = Contains-permutation _ _ (sketch_path n p) h.same (subst (λ (m : ℕ). Contains (sketches 0 paths shown) (sketch_path m p)) sum (listed_from 0 paths shown n p b e f g)) in
    some_at lines (sketch_path n p) found.0 found.1 found.2
