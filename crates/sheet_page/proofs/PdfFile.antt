-- A file of objects, and where each of them begins.
use Rattle.std.proofs.Common.{◌≡◌, ℕ, ◌+◌, List, [], ◌∷◌, ◌++◌, length, drop, Result, Ok, Err, IfOk, sym, ap, subst, ◌∙◌, append_assoc, arith}
use Rattle.std.proofs.Math.Nat.{add-zero}
use Rattle.std.proofs.Math.Seq.{drop-append_seam}
use Rattle.std.proofs.lemmas.List.{append-nil, length-append}
use Rattle.std.proofs.lemmas.List.Folds.{concat-append}
use Rattle.std.specs.List.{concat, AllZip}
use Rattle.sheet_page.specs.Pdf.{object, header, offsets_from, offsets_of, before_table, table, trailer, file_of, StandsAt}

-- ---- one object after the other
pub record HasObjects (objects : List (List ℕ)) (bytes : List ℕ) (offsets : List ℕ) : Type 0 where
  pub bytes_are : bytes ≡ before_table objects
  pub offsets_are : offsets ≡ offsets_of objects

pub no_objects : (bytes offsets : List ℕ) → bytes ≡ header → offsets ≡ [] → HasObjects [] bytes offsets
no_objects bytes offsets b o = record { bytes_are = b ∙ sym (append-nil header); offsets_are = o }

offsets-append : (n : ℕ) (objects : List (List ℕ)) (last : List ℕ) → offsets_from n (objects ++ last ∷ []) ≡ offsets_from n objects ++ (n + length (concat objects)) ∷ []
offsets-append n [] last = simp add-zero
offsets-append n (x ∷ xs) last =
    let place : n + length x + length (concat xs) ≡ n + length (x ++ concat xs) = omega (arith, length-append x (concat xs)) in
    ap (λ (rest : List ℕ). n ∷ rest) (offsets-append (n + length x) xs last ∙ ap (λ (m : ℕ). offsets_from (n + length x) xs ++ m ∷ []) place)

concat-push : (objects : List (List ℕ)) (last : List ℕ) → concat (objects ++ last ∷ []) ≡ concat objects ++ last
concat-push objects last = concat-append objects (last ∷ []) ∙ ap (λ (xs : List ℕ). concat objects ++ xs) (append-nil last)

-- one more object, of a body that is another
pub one_more : (objects : List (List ℕ)) (number : ℕ) (body other bytes offsets new_bytes new_offsets : List ℕ) → HasObjects objects bytes offsets → other ≡ body → new_bytes ≡ bytes ++ object number other
    → new_offsets ≡ offsets ++ length bytes ∷ [] → HasObjects (objects ++ object number body ∷ []) new_bytes new_offsets
one_more objects number body other bytes offsets new_bytes new_offsets h same b o = record {
  bytes_are = b ∙ (λ i. h.bytes_are i ++ object number (same i)) ∙ append_assoc header (concat objects) (object number body) ∙ sym (ap (λ (xs : List ℕ). header ++ xs) (concat-push objects (object number body)));
  offsets_are = o ∙ (λ i. h.offsets_are i ++ length (h.bytes_are i) ∷ []) ∙ ap (λ (m : ℕ). offsets_of objects ++ m ∷ []) (length-append header (concat objects)) ∙ sym (offsets-append (length header) objects (object number body));
}

pub whole_file : {T E : Type 0} (written : T → List ℕ) (result : Result T E) (objects : List (List ℕ)) (bytes offsets : List ℕ) → HasObjects objects bytes offsets
    → IfOk result (λ text. written text ≡ bytes ++ table offsets ++ trailer (length bytes)) → IfOk result (λ text. written text ≡ file_of objects)
whole_file written (Ok text) objects bytes offsets h e = e ∙ (λ i. h.bytes_are i ++ table (h.offsets_are i) ++ trailer (length (h.bytes_are i)))
whole_file written (Err fault) objects bytes offsets h e = e

-- ---- objects that stand one after the other stand where the table says
stand_from : (before after : List ℕ) (objects : List (List ℕ)) → AllZip (StandsAt ((before ++ concat objects) ++ after)) (offsets_from (length before) objects) objects
stand_from before after [] = tt
stand_from before after (x ∷ xs) =
    let first : drop (length before) ((before ++ (x ++ concat xs)) ++ after) ≡ x ++ (concat xs ++ after) =
    rw (append_assoc before (x ++ concat xs) after) (drop-append_seam before ((x ++ concat xs) ++ after) ∙ append_assoc x (concat xs) after) in
    let rest : AllZip (StandsAt (((before ++ x) ++ concat xs) ++ after)) (offsets_from (length (before ++ x)) xs) xs = stand_from (before ++ x) after xs in
    ((concat xs ++ after, first), rw (append_assoc before x (concat xs), length-append before x) at rest)

all_stand : (objects : List (List ℕ)) → AllZip (StandsAt (file_of objects)) (offsets_of objects) objects
all_stand objects =
    rw (append_assoc (before_table objects) (table (offsets_of objects)) (trailer (length (before_table objects))))
    (stand_from header (table (offsets_of objects) ++ trailer (length (before_table objects))) objects)

pub written_stand : {T E : Type 0} (written : T → List ℕ) (result : Result T E) (objects : List (List ℕ)) → IfOk result (λ text. written text ≡ file_of objects)
    → IfOk result (λ text. AllZip (StandsAt (written text)) (offsets_of objects) objects)
written_stand written (Ok text) objects e =
    let P : List ℕ → Type 0 = λ file. AllZip (StandsAt file) (offsets_of objects) objects in
    subst P (sym e) (all_stand objects)
written_stand written (Err fault) objects e = e
