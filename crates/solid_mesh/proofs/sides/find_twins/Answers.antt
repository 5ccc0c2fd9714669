use Rattle.std.proofs.Common.{◌≡◌, ℕ, ◌*◌, length, ap, ◌∙◌, arith, length-append}
use Rattle.geometry.specs.Parts.{part_of}
use Rattle.solid_mesh.proofs.HalfLemmas.{table_closed}
use Rattle.solid_mesh.proofs.SideLemmas.{found_back, found_alone, more_back, unpaired}
use Rattle.solid_mesh.proofs.sides.find_twins.Goals as goal

pub overflow_cast-other : goal.overflow_cast-other
overflow_cast-other c =
    let back = found_back (part_of c.args.soup.now) c.loop-half.half c.args.sides.now.keys c.side_at-from.result c.requires.sides c.side_at-from.ensures c.in-Some.other c.in-Some.ensures.index in
    omega (arith, back.within, c.requires.few)

pub loop-half-preserved : goal.loop-half-preserved
loop-half-preserved c =
    let s = part_of c.args.soup.now in
    let here = found_back s c.loop-half.half c.args.sides.now.keys c.side_at-from.result c.requires.sides c.side_at-from.ensures c.in-Some.other c.in-Some.ensures.index in
    let added = c.in_ok-push-in-Some.ensures.items in
    record {
      long = omega (arith, ap length added, length-append {A = ℕ}, c.loop-half.invariant.long);
      back = more_back s.triangles c.loop-half.half c.loop-half.twins.items c.push.new.self.items c.in-Some.other c.loop-half.invariant.long c.loop-half.invariant.back here added;
    }

pub returns-in-None-clause-refused : goal.returns-in-None-clause-refused
returns-in-None-clause-refused c =
    let s = part_of c.args.soup.now in
    let here = found_alone s c.loop-half.half c.args.sides.now.keys c.side_at-from.result c.requires.sides c.side_at-from.ensures (omega (arith, c.args.soup.now.triangles.ok.0)) c.in-None.ensures.found in
    unpaired s c.requires.none_flat c.requires.once c.loop-half.half here (λ k less. (_, c.loop-half.invariant.back k less))

pub returns-clause-twins : goal.returns-clause-twins
returns-clause-twins c =
    let all : c.loop-half.half ≡ 3 * length c.args.soup.now.triangles.items = omega (arith, c.args.soup.now.triangles.ok.0) in
    record { for_each = c.loop-half.invariant.long ∙ all; back = λ half h. c.loop-half.invariant.back half (omega (arith, c.loop-half.invariant.long)) }

pub returns-clause-closed : goal.returns-clause-closed
returns-clause-closed c = table_closed (part_of c.args.soup.now) c.loop-half.twins.items (returns-clause-twins c) c.requires.none_flat c.requires.once
