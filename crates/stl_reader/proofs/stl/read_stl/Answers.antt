use Rattle.std.proofs.Common.{◌≡◌, map, None, Vec, Global, rules}
use Rattle.stl_reader.specs.declared.facets.Facet.{Facet}
use Rattle.stl_reader.specs.inner.Views.{of_facet}
use Rattle.part_text.proofs.FirstZero.{no_zero}
use Rattle.stl_reader.proofs.Whole.{error_answer, facets_read}
use Rattle.stl_reader.proofs.stl.read_stl.Goals as goal

pub returns-in-Err-read_facets : goal.returns-in-Err-read_facets
returns-in-Err-read_facets c =
    let none : c.zero_line.result ≡ None = search rules in
    error_answer c.args.decimals c.args.unit c.args.bytes.now c.new-tokens.result.left (no_zero c.args.bytes.now _ c.zero_line.ensures none) c.new-tokens.ensures.tokens
    c.read_word_line.new.tokens.left c.in_default-read_word_line.ensures.step (λ (v : Vec Facet Global). map of_facet v.items) c.in-Err-read_facets.error c.read_facets.new.tokens.left c.in-Err-read_facets.ensures.step

pub returns-in-Ok-raw_of : goal.returns-in-Ok-raw_of
returns-in-Ok-raw_of c =
    let none : c.zero_line.result ≡ None = search rules in
    let same : c.deref.result.now ≡ c.in-Ok.facets.items = c.deref.ensures.value in
    facets_read c.args.decimals c.args.unit c.args.bytes.now c.new-tokens.result.left (no_zero c.args.bytes.now _ c.zero_line.ensures none) c.new-tokens.ensures.tokens
    c.read_word_line.new.tokens.left c.in_default-read_word_line.ensures.step (map of_facet c.in-Ok.facets.items) c.read_facets.new.tokens.left _
    (rw same at c.in-Ok-raw_of.ensures) c.in-Ok.ensures.step
