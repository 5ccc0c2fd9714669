use Rattle.std.proofs.Common.{◌≡◌, ◌∙◌, ℕ, List, Bor, sym, ap, rules, tests}
use Rattle.std.proofs.lemmas.Iterator.{YieldsList-from_slice}
use Rattle.std.proofs.lemmas.Iterator.Search.{any_from_yields_List}
use Rattle.std.specs.List.{list_any}
use Rattle.std.specs.Str.{bytes_eq}
use Rattle.job_tables.proofs.Lists.{list_any-map}
use Rattle.job_tables.proofs.keys.is_known.Goals as goal

pub returns : goal.returns
returns c =
    let keys = c.known_keys.result.now in
    let key = c.args.key.now in
    let found : c.any.result ≡ list_any (λ (k : Bor (List ℕ)). bytes_eq key k.now) keys =
    any_from_yields_List (λ (k : Bor (List ℕ)). bytes_eq key k.now) _ _ c.any.result c.any.ensures.ran (YieldsList-from_slice keys cc) (λ x b q k. search (rules, tests)) in
    found ∙ sym (list_any-map (λ (k : Bor (List ℕ)). k.now) (bytes_eq key) keys) ∙ ap (list_any (bytes_eq key)) c.known_keys.ensures
