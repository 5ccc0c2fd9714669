-- Rows of indices, faces and rows of faces.
use Rattle.std.proofs.Common.{◌≡◌, ℕ, zero, suc, ◌+◌, ◌-◌, ◌<◌, ◌≤◌, nat_lt, List, [], ◌∷◌, ◌++◌, length, map, filter, All, refl, sym, subst, ◌∙◌, ap, arith, Option, Some, None, Ok, Err}
use Rattle.std.proofs.lemmas.List.{append-nil, append_assoc, map-append, length-append}
use Rattle.std.proofs.lemmas.List.Elements.{All-append, All-push}
use Rattle.std.proofs.lemmas.List.Sums.{fold-append}
use Rattle.lattice.specs.declared.soup.Tri.{Tri}
use Rattle.lattice.specs.Triple.{Triple}
use Rattle.lex_lines.specs.declared.token.Token.{Token}
use Rattle.weld.specs.declared.fault.PartFault.{PartFault}
use Rattle.weld.specs.declared.fault.PartKind.TheVariants.{FaceUnseen}
use Rattle.part_text.specs.Steps.{Reading, fault_at, Times}
use Rattle.off_reader.specs.Off.{Size, Index, last_line, fan_read, Triangles, Face, Faces}
use Rattle.off_reader.specs.Fans.{corners_at, IsFan}
use Rattle.off_reader.specs.inner.Rows.{Numbers}
use Rattle.part_text.proofs.Again.{AreOne, impossible, same_reading, same_fault, one_more, rest_after, fails_within}

-- ---- indices
pub no_indices : (bytes : List ℕ) (vertices : ℕ) (start : List Token) → Numbers bytes vertices 0 start (Ok (([], 0), start))
no_indices bytes vertices start = (Ok ([], start), refl, refl)

pub index_more : (bytes : List ℕ) (vertices k : ℕ) (start mid left : List Token) (numbers : List ℕ) (line n next : ℕ) → Numbers bytes vertices k start (Ok ((numbers, line), mid)) → Index bytes vertices mid (Ok ((n, next), left)) → Numbers bytes vertices (suc k) start (Ok ((numbers ++ (n ∷ []), next), left))
index_more bytes vertices k start mid left numbers line n next (Err fault, times, e) = impossible e
index_more bytes vertices k start mid left numbers line n next (Ok (indices, end), times, e) =
    same_reading (λ made mid. Index bytes vertices mid (Ok ((n, next), left)) → Numbers bytes vertices (suc k) start (Ok ((made.0 ++ (n ∷ []), next), left))) e
    (λ h. (Ok (indices ++ ((n, next) ∷ []), left), one_more (Index bytes vertices) k start end left indices (n, next) times h, kept indices n next left))
  where
    kept : (indices : List (ℕ × ℕ)) (n next : ℕ) (left : List Token) → AreOne {X = List ℕ × ℕ} (Ok ((map (λ i. i.0) indices ++ (n ∷ []), next), left)) (Ok ((map (λ i. i.0) (indices ++ ((n, next) ∷ [])), last_line (indices ++ ((n, next) ∷ []))), left))
    kept indices n next left =
        let numbers : map {A = ℕ × ℕ} (λ i. i.0) (indices ++ ((n, next) ∷ [])) ≡ map (λ i. i.0) indices ++ (n ∷ []) = map-append (λ (i : ℕ × ℕ). i.0) indices ((n, next) ∷ []) in
        let line : last_line (indices ++ ((n, next) ∷ [])) ≡ next = fold-append (λ (before : ℕ) (i : ℕ × ℕ). i.1) 0 indices ((n, next) ∷ []) in
        rw (numbers, line) refl

pub index_pushed : (bytes : List ℕ) (vertices k : ℕ) (start mid left : List Token) (numbers after : List ℕ) (line n next : ℕ) → after ≡ numbers ++ (n ∷ []) → Numbers bytes vertices k start (Ok ((numbers, line), mid)) → Index bytes vertices mid (Ok ((n, next), left)) → Numbers bytes vertices (k + 1) start (Ok ((after, next), left))
index_pushed bytes vertices k start mid left numbers after line n next pushed h i =
    let one : k + 1 ≡ suc k = omega arith in
    rw (one, pushed) (index_more bytes vertices k start mid left numbers line n next h i)

pub length_pushed : (k n : ℕ) (numbers after : List ℕ) → after ≡ numbers ++ (n ∷ []) → length numbers ≡ k → length after ≡ k + 1
length_pushed k n numbers after pushed h = rw (pushed, length-append numbers (n ∷ []), h) refl

pub below_pushed : (vertices n : ℕ) (numbers after : List ℕ) → after ≡ numbers ++ (n ∷ []) → All (λ i. i < vertices) numbers → n < vertices → All (λ i. i < vertices) after
below_pushed vertices n numbers after pushed h less = rw pushed (All-push (λ i. i < vertices) numbers n h less)

pub index_fails : (bytes : List ℕ) (vertices k count : ℕ) (start mid : List Token) (numbers : List ℕ) (line : ℕ) (fault : PartFault) → k < count → Numbers bytes vertices k start (Ok ((numbers, line), mid)) → Index bytes vertices mid (Err fault) → Numbers bytes vertices count start (Err fault)
index_fails bytes vertices k count start mid numbers line fault less (Err other, times, e) = impossible e
index_fails bytes vertices k count start mid numbers line fault less (Ok (indices, end), times, e) =
    same_reading (λ made mid. Index bytes vertices mid (Err fault) → Numbers bytes vertices count start (Err fault)) e
    (λ h. let all : Times count (Index bytes vertices) start (Err fault) = fails_within (Index bytes vertices) k count start end indices fault less times h in (Err fault, all, refl))

-- ---- a face
pub face_read : (bytes : List ℕ) (vertices : List Triple) (number before size line : ℕ) (numbers : List ℕ) (last : ℕ) (start first mid : List Token) (r : Reading (List Tri)) → Size bytes before start (Ok ((size, line), first)) → Numbers bytes (length vertices) size first (Ok ((numbers, last), mid)) → Triangles vertices number line numbers (filter (λ t. nat_lt last t.line) mid) r → Face bytes vertices number before start r
face_read bytes vertices number before size line numbers last start first mid r sized (Err fault, times, e) = impossible e
face_read bytes vertices number before size line numbers last start first mid r sized (Ok (indices, end), times, e) =
    same_reading (λ made mid. Triangles vertices number line made.0 (filter (λ t. nat_lt made.1 t.line) mid) r → Face bytes vertices number before start r) e
    (λ h. (Ok ((size, line), first), sized, (Ok (indices, end), times, (Ok (tt, filter (λ t. nat_lt (last_line indices) t.line) end), refl, h))))

-- behind the indices the rest of the line of the last is passed over
pub face_passed : (bytes : List ℕ) (vertices : List Triple) (number before size line : ℕ) (numbers : List ℕ) (last now : ℕ) (start first mid left : List Token) (r : Reading (List Tri)) → now ≡ last → left ≡ filter (λ t. nat_lt now t.line) mid → Size bytes before start (Ok ((size, line), first)) → Numbers bytes (length vertices) size first (Ok ((numbers, last), mid)) → Triangles vertices number line numbers left r → Face bytes vertices number before start r
face_passed bytes vertices number before size line numbers last now start first mid left r same passed sized indices h =
    let rest : left ≡ filter (λ t. nat_lt last t.line) mid = passed ∙ ap (λ (n : ℕ). filter (λ t. nat_lt n t.line) mid) same in
    face_read bytes vertices number before size line numbers last start first mid r sized indices (subst (λ tokens. Triangles vertices number line numbers tokens r) rest h)

pub size_fails : (bytes : List ℕ) (vertices : List Triple) (number before : ℕ) (start : List Token) (fault : PartFault) → Size bytes before start (Err fault) → Face bytes vertices number before start (Err fault)
size_fails bytes vertices number before start fault h = (Err fault, h, refl)

pub numbers_fail : (bytes : List ℕ) (vertices : List Triple) (number before size line : ℕ) (start first : List Token) (fault : PartFault) → Size bytes before start (Ok ((size, line), first)) → Numbers bytes (length vertices) size first (Err fault) → Face bytes vertices number before start (Err fault)
numbers_fail bytes vertices number before size line start first fault sized (Err other, times, e) =
    same_fault (λ fault. Face bytes vertices number before start (Err fault)) e (Ok ((size, line), first), sized, (Err other, times, refl))
numbers_fail bytes vertices number before size line start first fault sized (Ok (indices, end), times, e) = impossible (sym e)

not_less : {P : Type 0} (n : ℕ) → n < n → P
not_less {P} n less = let no : n < n = less in absurd (omega (arith, no))

-- the triangles of more than three corners are those of their fan
pub fan_triangles : (vertices : List Triple) (number line : ℕ) (numbers : List ℕ) (left : List Token) (fan : Option (List Tri)) → 3 < length numbers → IsFan numbers (corners_at vertices numbers) fan → Triangles vertices number line numbers left (fan_read number line fan left)
fan_triangles vertices number line [] left fan many h = (fan, h, refl)
fan_triangles vertices number line (a ∷ []) left fan many h = (fan, h, refl)
fan_triangles vertices number line (a ∷ b ∷ []) left fan many h = (fan, h, refl)
fan_triangles vertices number line (a ∷ b ∷ c ∷ []) left fan many h = not_less 3 many
fan_triangles vertices number line (a ∷ b ∷ c ∷ d ∷ others) left fan many h = (fan, h, refl)

pub fan_some : (vertices : List Triple) (number line : ℕ) (numbers : List ℕ) (left : List Token) (fan : Option (List Tri)) (triangles : List Tri) → 3 < length numbers → fan ≡ Some triangles → IsFan numbers (corners_at vertices numbers) fan → Triangles vertices number line numbers left (Ok (triangles, left))
fan_some vertices number line numbers left fan triangles many e h = fan_triangles vertices number line numbers left (Some triangles) many (subst (λ f. IsFan numbers (corners_at vertices numbers) f) e h)

pub fan_none : (vertices : List Triple) (number line : ℕ) (numbers : List ℕ) (left : List Token) (fan : Option (List Tri)) → 3 < length numbers → fan ≡ None → IsFan numbers (corners_at vertices numbers) fan → Triangles vertices number line numbers left (Err (fault_at line (FaceUnseen number)))
fan_none vertices number line numbers left fan many e h = fan_triangles vertices number line numbers left None many (subst (λ f. IsFan numbers (corners_at vertices numbers) f) e h)

-- ---- faces
past_one : (a b : ℕ) → a + suc b ≡ a + 1 + b
past_one a b = omega arith

past : (a b c : ℕ) → a + (b + c) ≡ a + b + c
past a b c = omega arith

plus_none : (a : ℕ) → a + 0 ≡ a
plus_none a = omega arith

-- one face more, with the number and the triangles before it
pub face_more : (bytes : List ℕ) (vertices : List Triple) (k number before place total : ℕ) (start mid left : List Token) (done triangles : List Tri) → place ≡ number + k → total ≡ before + length done → Faces bytes vertices k number before start (Ok (done, mid)) → Face bytes vertices place total mid (Ok (triangles, left)) → Faces bytes vertices (suc k) number before start (Ok (done ++ triangles, left))
face_more bytes vertices zero number before place total start mid left done triangles here sum e =
    same_reading (λ done mid. total ≡ before + length done → Face bytes vertices place total mid (Ok (triangles, left)) → Faces bytes vertices 1 number before start (Ok (done ++ triangles, left))) e
    (λ sum h.
    let first : Face bytes vertices number before start (Ok (triangles, left)) = rw (← (here ∙ plus_none number), ← (sum ∙ plus_none before)) h in
    (Ok (triangles, left), first, (Ok ([], left), refl, rw (append-nil triangles) refl))) sum
face_more bytes vertices (suc k) number before place total start mid left done triangles here sum (Err fault, first, e) = impossible e
face_more bytes vertices (suc k) number before place total start mid left done triangles here sum (Ok (ts, next), first, (Err fault, more, e)) = impossible e
face_more bytes vertices (suc k) number before place total start mid left done triangles here sum (Ok (ts, next), first, (Ok (others, end), more, e)) =
    same_reading (λ done mid. total ≡ before + length done → Face bytes vertices place total mid (Ok (triangles, left)) → Faces bytes vertices (suc (suc k)) number before start (Ok (done ++ triangles, left))) e
    (λ sum h.
    let all : total ≡ before + length ts + length others = sum ∙ ap (λ (n : ℕ). before + n) (length-append ts others) ∙ past before (length ts) (length others) in
    let rest = face_more bytes vertices k (number + 1) (before + length ts) place total next end left others triangles (here ∙ past_one number k) all more h in
    (Ok (ts, next), first, (Ok (others ++ triangles, left), rest, rw (append_assoc ts others triangles) refl))) sum

-- where the next face fails, all that there were to be
pub face_fails : (bytes : List ℕ) (vertices : List Triple) (k more number before place total : ℕ) (start mid : List Token) (done : List Tri) (fault : PartFault) → place ≡ number + k → total ≡ before + length done → Faces bytes vertices k number before start (Ok (done, mid)) → Face bytes vertices place total mid (Err fault) → Faces bytes vertices (k + suc more) number before start (Err fault)
face_fails bytes vertices zero more number before place total start mid done fault here sum e =
    same_reading (λ done mid. total ≡ before + length done → Face bytes vertices place total mid (Err fault) → Faces bytes vertices (0 + suc more) number before start (Err fault)) e
    (λ sum h.
    let first : Face bytes vertices number before start (Err fault) = rw (← (here ∙ plus_none number), ← (sum ∙ plus_none before)) h in
    let nothing : 0 + suc more ≡ suc more = omega arith in
    rw nothing (Err fault, first, refl)) sum
face_fails bytes vertices (suc k) more number before place total start mid done fault here sum (Err other, first, e) = impossible e
face_fails bytes vertices (suc k) more number before place total start mid done fault here sum (Ok (ts, next), first, (Err other, rows, e)) = impossible e
face_fails bytes vertices (suc k) more number before place total start mid done fault here sum (Ok (ts, next), first, (Ok (others, end), rows, e)) =
    same_reading (λ done mid. total ≡ before + length done → Face bytes vertices place total mid (Err fault) → Faces bytes vertices (suc k + suc more) number before start (Err fault)) e
    (λ sum h.
    let all : total ≡ before + length ts + length others = sum ∙ ap (λ (n : ℕ). before + n) (length-append ts others) ∙ past before (length ts) (length others) in
    let rest = face_fails bytes vertices k more (number + 1) (before + length ts) place total next end others fault (here ∙ past_one number k) all rows h in
    let next_one : suc k + suc more ≡ suc (k + suc more) = omega arith in
    rw next_one (Ok (ts, next), first, (Err fault, rest, refl))) sum

from_none : (a : ℕ) → a ≡ 0 + a
from_none a = omega arith

-- from the first face on
pub faces_fail : (bytes : List ℕ) (vertices : List Triple) (k count before : ℕ) (start mid : List Token) (done : List Tri) (fault : PartFault) → k < count → before ≡ length done → Faces bytes vertices k 0 0 start (Ok (done, mid)) → Face bytes vertices k before mid (Err fault) → Faces bytes vertices count 0 0 start (Err fault)
faces_fail bytes vertices k count before start mid done fault less same h f =
    rw (← rest_after k count less) (face_fails bytes vertices k (count - k - 1) 0 0 k before start mid done fault (from_none k) (same ∙ from_none (length done)) h f)

pub faces_more : (bytes : List ℕ) (vertices : List Triple) (k before : ℕ) (start mid left : List Token) (done triangles all : List Tri) → all ≡ done ++ triangles → before ≡ length done → Faces bytes vertices k 0 0 start (Ok (done, mid)) → Face bytes vertices k before mid (Ok (triangles, left)) → Faces bytes vertices (k + 1) 0 0 start (Ok (all, left))
faces_more bytes vertices k before start mid left done triangles all joined same h f =
    let one : k + 1 ≡ suc k = omega arith in
    rw (one, joined) (face_more bytes vertices k 0 0 k before start mid left done triangles (from_none k) (same ∙ from_none (length done)) h f)

pub most_joined : (before : ℕ) (done triangles all : List Tri) → all ≡ done ++ triangles → before ≡ length done → before + length triangles ≤ 20000 → length all ≤ 20000
most_joined before done triangles all joined same most = rw (joined, length-append done triangles, ← same) most

pub below_joined : (P : Tri → Type 0) (done triangles all : List Tri) → all ≡ done ++ triangles → All P done → All P triangles → All P all
below_joined P done triangles all joined h t = rw joined (All-append P done triangles h t)
