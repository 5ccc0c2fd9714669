-- Texts that are written part by part.
use Rattle.std.proofs.Common.{◌≡◌, ℕ, ◌+◌, ◌<◌, ◌≤◌, List, ◌++◌, length, get_or, drop, sym, ap, ◌∙◌, append_assoc}
use Rattle.std.proofs.lemmas.List.{append-nil, at_drop_more, drop_all}
use Rattle.std.specs.List.{flat_map}
use Rattle.cut_marks.specs.Notes.{notes_in, notes_from}
use Rattle.cut_marks.specs.declared.views.ViewMarks.{ViewMarks}

after : {A : Type 0} (new now all one rest whole : List A) → new ≡ now ++ one → whole ≡ one ++ rest → now ++ whole ≡ all → new ++ rest ≡ all
after new now all one rest whole step split before =
    ap (λ xs. xs ++ rest) step ∙ append_assoc now one rest ∙ sym (ap (λ xs. now ++ xs) split) ∙ before

-- what stands for one more element is written
pub one_written : {A B : Type 0} (f : A → List B) (xs : List A) (k : ℕ) (x : A) (new now all : List B) → k < length xs → new ≡ now ++ f (get_or xs k x) → now ++ flat_map f (drop k xs) ≡ all
    → new ++ flat_map f (drop (k + 1) xs) ≡ all
one_written f xs k x new now all within step before =
    after new now all (f (get_or xs k x)) (flat_map f (drop (k + 1) xs)) (flat_map f (drop k xs)) step (at_drop_more (flat_map f) xs k x within) before

-- and the lines of one more view
pub one_noted : (views : List ViewMarks) (k : ℕ) (m : ViewMarks) (new now all : List ℕ) → k < length views → get_or views k m ≡ m → new ≡ now ++ notes_in k m → now ++ notes_from k (drop k views) ≡ all
    → new ++ notes_from (k + 1) (drop (k + 1) views) ≡ all
one_noted views k m new now all within at step before =
    after new now all (notes_in k m) (notes_from (k + 1) (drop (k + 1) views)) (notes_from k (drop k views)) step
    (at_drop_more (notes_from k) views k m within ∙ ap (λ (x : ViewMarks). notes_in k x ++ notes_from (k + 1) (drop (k + 1) views)) at) before

-- after the last view no line is left
pub all_noted : (views : List ViewMarks) (k : ℕ) (text all : List ℕ) → length views ≤ k → text ++ notes_from k (drop k views) ≡ all → text ≡ all
all_noted views k text all last so_far = sym (append-nil text) ∙ sym (ap (λ xs. text ++ notes_from k xs) (drop_all k views last)) ∙ so_far
