-- The names of a drawing's files differ, so that at the end each of them holds its bytes.
use Rattle.std.proofs.Common.{◌≡◌, ◌≢◌, ◌<◌, ◌-◌, ℕ, suc, List, [], ◌∷◌, ◌++◌, All, AllPairs, length, take, drop, map, codes, Option, Some, None, Bool, true, false, true≢false, refl, sym, ap, ◌∙◌, subst, length-append, arith}
use Rattle.std.specs.Prelude.{◌&&◌, not, nat_le, IsTrue, IfSome, IsSomeAnd, if◌then◌else◌}
use Rattle.std.specs.List.{list_all}
use Rattle.std.specs.Str.{bytes_eq}
use Rattle.std.proofs.lemmas.List.{take-append-drop, append_cancel_left}
use Rattle.std.proofs.lemmas.List.Elements.{All-cons, All-head, All-map, All-nil, All-tail}
use Rattle.std.proofs.lemmas.List.Kept.{AllPairs-cons}
use Rattle.std.proofs.lemmas.Slice.Eq.{bytes_eq-Decides}
use Rattle.desk.specs.Files.{Files}
use Rattle.draw_words.specs.Names.{Named}
use Rattle.job_file.specs.Texts.{are_different, are_outputs, is_output, is_output_byte}
use Rattle.line_merge.proofs.Lists.{pairs_map}
use Rattle.part_input.specs.declared.fault.Fault.{Fault}
use Rattle.plot_rack.specs.Plotters.{Plot}
use Rattle.sheet_plan.specs.declared.sheet.Stroke.{Stroke}
use Rattle.draw_core.specs.Drawing.{plot_file, files_of, Writes, WritesNamed, Holds}
use Rattle.draw_core.specs.Outputs.{File, KeepsAll, HoldsAll, stem_of, plot_name}
use Rattle.drawing.specs.declared.drawn.Drawing.{Drawing}
use Rattle.draw_core.proofs.Unmet.{and_left, and_right, not_true, outputs_differ}

-- ---- names
-- a name made longer is another
longer : (name more : List ℕ) → 0 < length more → name ≢ name ++ more
longer name more some same = let long = length-append name more in let as_long = ap (λ (text : List ℕ). length text) same in omega (arith, some, long, as_long)

not_svg : (suffix : List ℕ) → is_output suffix ≡ true → suffix ≢ codes "svg"
not_svg suffix is same =
    let differs = not_true (bytes_eq suffix (codes "svg"))
    (and_right (nat_le 1 (length suffix) && nat_le (length suffix) 16 && list_all is_output_byte suffix) (not (bytes_eq suffix (codes "svg"))) is) in
    true≢false (sym ((bytes_eq-Decides suffix (codes "svg")).1 same) ∙ differs)

-- no plotter's file has the drawing's own name
not_drawing : (out suffix : List ℕ) → is_output suffix ≡ true → out ≢ plot_name out suffix
not_drawing out suffix is same = go (bytes_eq (drop (length out - 4) out) (codes ".svg")) refl
  where
    front : List ℕ
    front = take (length out - 4) out

    go : (b : Bool) → bytes_eq (drop (length out - 4) out) (codes ".svg") ≡ b → ⊥
    go true found =
        let end : drop (length out - 4) out ≡ codes ".svg" = (bytes_eq-Decides (drop (length out - 4) out) (codes ".svg")).0 found in
        let stem : stem_of out ≡ front = ap (λ (b : Bool). if b then front else out) found in
        let whole : out ≡ front ++ codes ".svg" = sym (take-append-drop (length out - 4) out) ∙ ap (λ (text : List ℕ). front ++ text) end in
        let both : front ++ codes ".svg" ≡ front ++ (codes "." ++ suffix) = sym whole ∙ same ∙ ap (λ (text : List ℕ). text ++ (codes "." ++ suffix)) stem in
        not_svg suffix is (sym (append_cancel_left (codes ".") (codes "svg") suffix (append_cancel_left front (codes ".svg") (codes "." ++ suffix) both)))
    go false found =
        let stem : stem_of out ≡ out = ap (λ (b : Bool). if b then front else out) found in
        let dotted = length-append (codes ".") suffix in
        longer out (codes "." ++ suffix) (omega (arith, dotted)) (same ∙ ap (λ (text : List ℕ). text ++ (codes "." ++ suffix)) stem)

-- files of plotters with two suffixes have two names
not_other : (out a b : List ℕ) → a ≢ b → plot_name out a ≢ plot_name out b
not_other out a b differ same = differ (append_cancel_left (codes ".") a b (append_cancel_left (stem_of out) (codes "." ++ a) (codes "." ++ b) same))

each_output : (texts : List (List ℕ)) → list_all is_output texts ≡ true → All (λ text. is_output text ≡ true) texts
each_output [] h = All-nil (λ text. is_output text ≡ true)
each_output (text ∷ texts) h =
    All-cons (λ text. is_output text ≡ true) text texts (and_left (is_output text) (list_all is_output texts) h) (each_output texts (and_right (is_output text) (list_all is_output texts) h))

are_each : (texts : List (List ℕ)) → IsTrue (are_outputs texts) → All (λ text. is_output text ≡ true) texts
are_each texts h =
    each_output texts (and_right (nat_le (length texts) 8) (list_all is_output texts) (and_left (nat_le (length texts) 8 && list_all is_output texts) (are_different texts) h))

-- the files of a drawing have different names
pub names_differ : (plots : List Plot) (d : Drawing) (strokes : List Stroke) (out : List ℕ) → AllPairs (λ (a b : File). a.0 ≢ b.0) (files_of plots d strokes out)
names_differ plots d strokes out =
    let outputs = d.job.outputs.items in
    let file = plot_file plots d.sheet strokes out in
    let proper = are_each outputs d.job.proper_outputs in
    AllPairs-cons (λ (a b : File). a.0 ≢ b.0) _ (map file outputs) (All-map (λ (b : File). out ≢ b.0) file outputs (λ k e within. not_drawing out _ (proper k e within)))
    (pairs_map (λ (a b : File). a.0 ≢ b.0) file outputs (λ i j e before within. not_other out _ _ (outputs_differ outputs d.job.proper_outputs i j e before within)))

-- ---- files
-- what a name holds that none of these files has stands
stands : (name : List ℕ) (files : List File) (old new : Files) → All (λ (file : File). name ≢ file.0) files → KeepsAll old new files → new name ≡ old name
stands name [] old new others same = ap (λ (f : Files). f name) same
stands name (file ∷ files) old new others (between, kept, rest) =
    stands name files between new (All-tail (λ (file : File). name ≢ file.0) file files others) rest ∙ kept.others name (All-head (λ (file : File). name ≢ file.0) file files others)

-- of files that were kept one after the other, with names that differ, each holds its bytes
held : (files : List File) (old new : Files) → AllPairs (λ (a b : File). a.0 ≢ b.0) files → KeepsAll old new files → HoldsAll new files
held [] old new differ kept = All-nil (λ (file : File). new file.0 ≡ Some file.1)
held (file ∷ files) old new differ (between, kept, rest) =
    All-cons (λ (file : File). new file.0 ≡ Some file.1) file files (stands file.0 files between new (λ k e within. differ 0 (suc k) e (omega arith) (omega (arith, within))) rest ∙ kept.holds)
    (held files between new (λ i j e before within. differ (suc i) (suc j) e (omega arith) (omega (arith, within))) rest)

-- ---- a run with no fault
holds : (plots : List Plot) (old new : Files) (out : List ℕ) (d : Drawing) → Writes plots None old new out d → Holds plots new out d
holds plots old new out d writes =
    let (strokes, _, are) = writes.are_files in
    (writes.files, writes.are_files, held writes.files old new (subst (λ (files : List File). AllPairs (λ (a b : File). a.0 ≢ b.0) files) (sym are) (names_differ plots d strokes out)) writes.leaves)

-- the files that a run leaves, and the bytes that each holds where there is no fault
pub with_held : (plots : List Plot) (named : Option Named) (fault : Option Fault) (old new : Files) (made : Option Drawing)
    → IfSome made (λ d. IsSomeAnd named (λ names. Writes plots fault old new names.out d)) → IfSome made (WritesNamed plots named fault old new)
with_held plots named fault old new None writes = tt
with_held plots None fault old new (Some d) writes = absurd (writes)
with_held plots (Some names) fault old new (Some d) writes = (writes, λ none. holds plots old new names.out d (subst (λ (f : Option Fault). Writes plots f old new names.out d) none writes))
