-- What is written of a drawing, made before anything is.
use Rattle.std.specs.Prelude.{◌≡◌, None, string_bytes}
use Rattle.job_file.specs.Seen.{job_seen}
use Rattle.job_writer.specs.PlainJobs.{plain_job}
use Rattle.sheet_input.specs.declared.take.SheetInput.{SheetInput}
use Rattle.sheet_core.specs.Pages.{IsPageWith}
use Rattle.sheet_summary.specs.Summary.{summary_of}
use Rattle.sheet_core.specs.Writing.{listed, page_text}
use Rattle.sheet_core.specs.declared.page.Shown.{Shown}
use Rattle.sheet_core.specs.declared.texts.Texts.{Texts}
use Rattle.sheet_core.specs.Refusals.{list_line, write_line}
use Rattle.sheet_list.specs.Lists.{list_text}
use Rattle.sheet_words.specs.Names.{Named}

-- the page of a drawing, the strokes that it shows, and what tells the cuts there
pub record AreTextsOf (named : Named) (input : SheetInput) (texts : Texts) : Type 0 where
  pub shown : Shown
  pub shows : IsPageWith input.look named.part input.drawing input.shrunk shown.page shown.strokes.items shown.marks.items shown.drawn.items shown.covered
  pub text : texts.page.items ≡ page_text named.out shown.page
  pub list : texts.list.items ≡ listed named.list (list_text input.drawing.job input.drawing.sheet shown.drawn.items shown.strokes.items)
  pub plain : texts.plain.items ≡ listed named.plain (plain_job (job_seen input.drawing.job))
  pub summary : string_bytes texts.summary ≡ summary_of input.drawing input.look.fitted input.look.in_units shown.page shown.covered shown.marks.items
  pub unwritten : string_bytes texts.unwritten ≡ write_line named.out None
  pub unlisted : string_bytes texts.unlisted ≡ list_line named.list None
  pub unplain : string_bytes texts.unplain ≡ list_line named.plain None
