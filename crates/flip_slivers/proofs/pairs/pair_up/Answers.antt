use Rattle.std.proofs.Common.{Some, None, refl, sym, ◌∙◌, arith}
use Rattle.std.proofs.lemmas.Option.{same_Some, none-some}
use Rattle.flip_slivers.proofs.PairLemmas.{paired, fewer_alone, none_read, some_read, same_free, same_alone, pair_at_first}
use Rattle.flip_slivers.proofs.pairs.pair_up.Goals as goal

pub partner_of-requires : goal.partner_of-requires
partner_of-requires c = record {
  for_each = omega (arith, c.deref.ensures.len, c.args.partners.now.ok.0, c.requires.partners.for_each);
  count = c.requires.count;
  listed = c.requires.listed;
  place = c.requires.place;
}

pub returns-in-Some : goal.returns-in-Some
returns-in-Some c =
    let ps = c.args.partners.now.items in
    let i = c.args.place in
    let j = c.in-Some.other in
    let free = same_free c.args.triangles.now c.deref.result.now ps i j c.deref.ensures.value c.in-Some.ensures.some in
    let alone = none_read ps i c.index.result.now (omega (arith, c.requires.partners.for_each, c.requires.place)) c.index.ensures (sym c.is_some.ensures ∙ c.if-is_some.false) in
    record {
      partners = paired c.args.triangles.now ps i j c.requires.partners alone free;
      alone = λ at. absurd (none-some j (same_Some None (Some j) (sym at ∙ pair_at_first ps i j free.different alone)));
      fewer = λ k at. fewer_alone ps i j k free.different alone free.free at;
    }

pub returns-in_default : goal.returns-in_default
returns-in_default c = record {
  partners = c.requires.partners;
  alone = λ at. same_alone c.args.triangles.now c.deref.result.now c.args.partners.now.items c.args.place c.deref.ensures.value (c.in_default.ensures.none refl);
  fewer = λ k at. at;
}

pub returns-then-is_some : goal.returns-then-is_some
returns-then-is_some c = record {
  partners = c.requires.partners;
  alone = λ at. absurd (some_read c.args.partners.now.items c.args.place c.index.result.now (omega (arith, c.requires.partners.for_each, c.requires.place)) c.index.ensures (sym c.is_some.ensures ∙ c.if-is_some.true) at);
  fewer = λ k at. at;
}
