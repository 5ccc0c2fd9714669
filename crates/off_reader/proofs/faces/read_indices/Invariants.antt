use Rattle.std.proofs.Common.{◌≡◌, ◌<◌, length, All, Ok}
use Rattle.off_reader.specs.inner.Rows.{Numbers}
use Rattle.off_reader.proofs.faces.read_indices.Given as goal

abbrev pub invariant-loop : goal.invariant-loop
invariant-loop l = record {
  step : Numbers l.bytes l.vertices l.counter l.initial.tokens.left (Ok ((l.numbers.items, l.line), l.tokens.left));
  text : l.tokens.text ≡ l.bytes;
  line : 0 < l.counter → l.tokens.line ≡ l.line;
  count : length l.numbers.items ≡ l.counter;
  below : All (λ n. n < l.vertices) l.numbers.items;
}
