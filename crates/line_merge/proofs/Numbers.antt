-- The number of a line is its place in a table that holds each line once.
use Rattle.std.proofs.Common.{◌≡◌, ℕ, zero, ◌+◌, ◌<◌, ◌&&◌, ◌||◌, Bool, true, false, not, cond, List, [], ◌∷◌, ◌++◌, Contains, length, take, get_or, refl, sym, ap, subst, ◌∙◌, arith, if◌then◌else◌}
use Rattle.std.specs.Bool.{Decides}
use Rattle.std.specs.List.{AllZip, list_any, position_or_len}
use Rattle.std.specs.Ordering.{int_eq}
use Rattle.std.proofs.lemmas.Bool.Decides.{Decides-and, Decides-int_eq, Decides-like}
use Rattle.std.proofs.lemmas.List.Folds.{list_any-append}
use Rattle.std.proofs.lemmas.List.Sums.{passes_at_first}
use Rattle.std.proofs.lemmas.Slice.Zip.{AllZip-map}
use Rattle.std.proofs.Math.Bool.{or-true}
use Rattle.std.proofs.Math.Seq.{take-length}
use Rattle.indexmap.specs.IndexSet.{insert_key}
use Rattle.lattice.specs.declared.lines.Line.{Line}
use Rattle.lattice.specs.declared.pieces.Strip.{Strip}
use Rattle.lattice.specs.Lines.{IsSameLine}
use Rattle.line_merge.specs.declared.numbering.Numbered.{Numbered}
use Rattle.line_merge.specs.Numbers.{IsNumbering, same_line, number_in, IsIn}
use Rattle.line_merge.specs.inner.Numbering.{numbered_by, AreNumbered}
use Rattle.line_merge.proofs.Zips.{zip_more, zip_left, zip_weaker}

decides_same : (l m : Line) → Decides (same_line l m) (IsSameLine l m)
decides_same l m =
    Decides-like (same_line l m) (λ (a, (b, c)). record { a = a; b = b; c = c }) (λ same. (same.a, (same.b, same.c)))
    (Decides-and (int_eq l.a m.a) (int_eq l.b m.b && int_eq l.c m.c) (Decides-int_eq l.a m.a) (Decides-and (int_eq l.b m.b) (int_eq l.c m.c) (Decides-int_eq l.b m.b) (Decides-int_eq l.c m.c)))

-- ---- places
first_within : {A : Type 0} (test : A → Bool) (xs : List A) → list_any test xs ≡ true → position_or_len test xs < length xs
first_within test [] h = cc
first_within test (x ∷ xs) h = by (test x) h (first_within test xs)
  where
    by : (b : Bool) → (b || list_any test xs) ≡ true → (list_any test xs ≡ true → position_or_len test xs < length xs) → cond (not b) (1 + position_or_len test xs) 0 < length (x ∷ xs)
    by true g rest = omega arith
    by false g rest = omega (arith, rest g)

-- behind the first place nothing counts
first_stays : {A : Type 0} (test : A → Bool) (xs : List A) (y : A) → list_any test (xs ++ y ∷ []) ≡ true → position_or_len test (xs ++ y ∷ []) ≡ position_or_len test xs
first_stays test [] y h = by (test y) h
  where
    by : (b : Bool) → (b || false) ≡ true → cond (not b) (1 + 0) 0 ≡ zero
    by true g = refl
    by false g = cc
first_stays test (x ∷ xs) y h = by (test x) h (first_stays test xs y)
  where
    by : (b : Bool) → (b || list_any test (xs ++ y ∷ [])) ≡ true → (list_any test (xs ++ y ∷ []) ≡ true → position_or_len test (xs ++ y ∷ []) ≡ position_or_len test xs)
        → cond (not b) (1 + position_or_len test (xs ++ y ∷ [])) 0 ≡ cond (not b) (1 + position_or_len test xs) 0
    by true g rest = refl
    by false g rest = ap (λ n. 1 + n) (rest g)

-- ---- lines with one number
module _ (lines : List Line) (l m : Line) where
  pub one_number : IsSameLine l m → number_in lines l ≡ number_in lines m
  one_number same = λ i. position_or_len (λ (k : Line). int_eq (same.a i) k.a && (int_eq (same.b i) k.b && int_eq (same.c i) k.c)) lines

  one_line : IsIn lines l → IsIn lines m → number_in lines l ≡ number_in lines m → IsSameLine l m
  one_line in_l in_m e =
      let k = get_or lines (number_in lines l) l in
      let first = (decides_same l k).0 (passes_at_first (same_line l) lines l (first_within (same_line l) lines in_l)) in
      let second =
      (decides_same m k).0
      (subst (λ (n : ℕ). same_line m (get_or lines n l) ≡ true) (sym e) (passes_at_first (same_line m) lines l (first_within (same_line m) lines in_m))) in
      record { a = first.a ∙ sym second.a; b = first.b ∙ sym second.b; c = first.c ∙ sym second.c }

-- a line that is one of the table's is there
pub same_in : (lines : List Line) (l m : Line) → IsSameLine l m → IsIn lines l → IsIn lines m
same_in lines l m same there = subst (λ (b : Bool). b ≡ true) (λ i. list_any (λ (k : Line). int_eq (same.a i) k.a && (int_eq (same.b i) k.b && int_eq (same.c i) k.c)) lines) there

-- lines of the table are numbered by their places
pub numbered_in_table : (lines : List Line) (strips : List Strip) → ((x : Strip) → Contains strips x → IsIn lines x.line) → IsNumbering strips (number_in lines)
numbered_in_table lines strips listed x y there_x there_y = (one_line lines x.line y.line (listed x there_x) (listed y there_y), one_number lines x.line y.line)

-- ---- one more line
module _ (lines after : List Line) (l : Line) (inserted : after ≡ insert_key same_line lines l) where
  pub grown : (m : Line) → IsIn after m → number_in after m ≡ number_in lines m
  grown m = by (list_any (same_line l) lines) inserted
    where
      by : (b : Bool) → after ≡ (if b then lines else lines ++ l ∷ []) → IsIn after m → number_in after m ≡ number_in lines m
      by true e there = ap (λ (ls : List Line). number_in ls m) e
      by false e there = ap (λ (ls : List Line). number_in ls m) e ∙ first_stays (same_line m) lines l (sym (ap (λ (ls : List Line). list_any (same_line m) ls) e) ∙ there)

  pub stays_in : (m : Line) → IsIn lines m → IsIn after m
  stays_in m there = by (list_any (same_line l) lines) inserted
    where
      by : (b : Bool) → after ≡ (if b then lines else lines ++ l ∷ []) → IsIn after m
      by true e = ap (λ (ls : List Line). list_any (same_line m) ls) e ∙ there
      by false e = ap (λ (ls : List Line). list_any (same_line m) ls) e ∙ list_any-append (same_line m) lines (l ∷ []) ∙ ap (λ b. b || list_any (same_line m) (l ∷ [])) there

  pub is_in : IsIn after l
  is_in = by (list_any (same_line l) lines) refl inserted
    where
      by : (b : Bool) → list_any (same_line l) lines ≡ b → after ≡ (if b then lines else lines ++ l ∷ []) → IsIn after l
      by true known e = ap (λ (ls : List Line). list_any (same_line l) ls) e ∙ known
      by false known e =
          ap (λ (ls : List Line). list_any (same_line l) ls) e ∙ list_any-append (same_line l) lines (l ∷ [])
          ∙ ap (λ b. list_any (same_line l) lines || (b || false)) ((decides_same l l).1 (record { a = refl; b = refl; c = refl })) ∙ or-true (list_any (same_line l) lines)

-- ---- strips with their numbers
-- the strip's line is in the table, and has its number
pub record IsNumberedIn (lines : List Line) (x : Strip) (y : Numbered) : Type 0 where
  pub listed : IsIn lines x.line
  pub is : y ≡ numbered_by (number_in lines) x

-- each of the strips so far
abbrev pub AreNumberedIn : List Line → List Strip → List Numbered → Type 0
AreNumberedIn lines strips numbered = AllZip (IsNumberedIn lines) strips numbered

pub none_numbered : (lines : List Line) (numbered : List Numbered) → numbered ≡ [] → AreNumberedIn lines [] numbered
none_numbered lines numbered e = subst (AllZip (IsNumberedIn lines) []) (sym e) tt

module _ (lines after : List Line) (strips : List Strip) (numbered more : List Numbered) (k : ℕ) (x : Strip) (n : ℕ) (less : k < length strips) (is : x ≡ get_or strips k x)
    (so_far : AreNumberedIn lines (take k strips) numbered) (inserted : after ≡ insert_key same_line lines x.line) (at : n ≡ number_in lines x.line)
    (pushed : more ≡ numbered ++ (record { strip = x; line = n }) ∷ []) where
  still : (y : Strip) (z : Numbered) → IsNumberedIn lines y z → IsNumberedIn after y z
  still y z h =
      let there = stays_in lines after x.line inserted y.line h.listed in
      record { listed = there; is = h.is ∙ (λ i. record { strip = y; line = sym (grown lines after x.line inserted y.line there) i }) }

  here : IsNumberedIn after x (record { strip = x; line = n })
  here =
      let there = is_in lines after x.line inserted in
      record { listed = there; is = λ i. record { strip = x; line = (at ∙ sym (grown lines after x.line inserted x.line there)) i } }

  pub one_more_numbered : AreNumberedIn after (take (k + 1) strips) more
  one_more_numbered =
      subst (λ (zs : List Numbered). AreNumberedIn after (take (k + 1) strips) zs) (sym pushed)
      (zip_more (IsNumberedIn after) strips numbered k x (record { strip = x; line = n }) less is (zip_weaker (IsNumberedIn lines) (IsNumberedIn after) still (take k strips) numbered so_far) here)

pub all_numbered : (lines : List Line) (strips : List Strip) (numbered : List Numbered) (k : ℕ) → k ≡ length strips → AreNumberedIn lines (take k strips) numbered → AreNumbered strips numbered
all_numbered lines strips numbered k all so_far = by (subst (λ (xs : List Strip). AreNumberedIn lines xs numbered) (ap (λ n. take n strips) all ∙ take-length strips) so_far)
  where
    by : AreNumberedIn lines strips numbered → AreNumbered strips numbered
    by each = record {
      number = number_in lines;
      numbering = numbered_in_table lines strips listed;
      same = AllZip-map (numbered_by (number_in lines)) strips numbered (zip_weaker (IsNumberedIn lines) (λ x y. y ≡ numbered_by (number_in lines) x) (λ x y h. h.is) strips numbered each);
    }
      where
        listed : (x : Strip) → Contains strips x → IsIn lines x.line
        listed x there = let (k, y, within, at, h) = zip_left (IsNumberedIn lines) strips numbered each x there in h.listed
