use Rattle.std.proofs.Common.{◌≡◌, [], ap, ◌∙◌, rules, FitsSigned}
use Rattle.std.specs.Int.{w64}
use Rattle.std.proofs.lemmas.Int.{to_z-of_z}
use Rattle.sheet_page.specs.Pdf.{sheet_entry, stream, objects_of, pdf_of}
use Rattle.sheet_page.specs.PdfContent.{content_of}
use Rattle.sheet_page.specs.PdfWords.{title_entry}
use Rattle.sheet_page.proofs.PdfFile.{no_objects, one_more, whole_file, written_stand}
use Rattle.sheet_page.proofs.pdf_text.pdf.Goals as goal

pub returns-clause-value : goal.returns-clause-value
unfolding pdf_of
returns-clause-value c =
    let page = c.args.page.now in
    let width_fits : FitsSigned w64 page.width = search rules in
    let height_fits : FitsSigned w64 page.height = search rules in
    let sheet : c.as_bytes-3.result.now ≡ sheet_entry page.width page.height = c.as_bytes-3.ensures.value ∙ (simp to_z-of_z at c.in_ok-sheet.ensures) in
    let content : c.deref.result.now ≡ stream (content_of page) = c.deref.ensures.value ∙ c.in_ok-stream.ensures in
    let title : c.deref-2.result.now ≡ title_entry page.title = c.deref-2.ensures.value ∙ c.in_ok-title_entry.ensures ∙ ap title_entry c.as_str.ensures.same in
    let none = no_objects _ _ c.in_ok-draft.ensures.bytes c.in_ok-draft.ensures.offsets in
    let one = one_more [] 1 _ _ _ _ _ _ none c.as_bytes.ensures.value c.in_ok-add.ensures.bytes c.in_ok-add.ensures.offsets in
    let two = one_more _ 2 _ _ _ _ _ _ one c.as_bytes-2.ensures.value c.in_ok-add-2.ensures.bytes c.in_ok-add-2.ensures.offsets in
    let three = one_more _ 3 _ _ _ _ _ _ two sheet c.in_ok-add-3.ensures.bytes c.in_ok-add-3.ensures.offsets in
    let four = one_more _ 4 _ _ _ _ _ _ three content c.in_ok-add-4.ensures.bytes c.in_ok-add-4.ensures.offsets in
    let five = one_more _ 5 _ _ _ _ _ _ four c.as_bytes-4.ensures.value c.in_ok-add-5.ensures.bytes c.in_ok-add-5.ensures.offsets in
    let six = one_more _ 6 _ _ _ _ _ _ five title c.in_ok-add-6.ensures.bytes c.in_ok-add-6.ensures.offsets in
    whole_file _ c.finish.result (objects_of page) _ _ six c.finish.ensures

pub returns-clause-offsets : goal.returns-clause-offsets
unfolding pdf_of
returns-clause-offsets c = written_stand _ c.finish.result (objects_of c.args.page.now) (returns-clause-value c)
