-- What contracts see of words.
use Rattle.job_file.specs.Seen.{scale_seen}
use Rattle.detail_view.specs.Words.{Bounds, Check, Detail, Asked, checks, details}
use Rattle.detail_pieces.specs.declared.windows.Window.{Window}
use Rattle.detail_view.specs.declared.words.CheckWords.{CheckWords}
use Rattle.detail_view.specs.declared.words.DetailWords.{DetailWords}
use Rattle.detail_view.specs.declared.words.Words.{Words}
use Rattle.detail_view.specs.declared.words.Words.TheVariants as words

abbrev pub window_seen : Window → Bounds
window_seen o = record { u1 = o.u1; v1 = o.v1; u2 = o.u2; v2 = o.v2 }

abbrev pub check_seen : CheckWords → Check
check_seen w = record { part = w.part; job = w.job; list = w.list }

abbrev pub detail_seen : DetailWords → Detail
detail_seen w = record { part = w.part; job = w.job; view = w.view; window = window_seen w.window; scale = scale_seen w.scale; out = w.out }

abbrev pub asked_seen : Words → Asked
asked_seen (words.Check w) = checks (check_seen w)
asked_seen (words.Detail w) = details (detail_seen w)
