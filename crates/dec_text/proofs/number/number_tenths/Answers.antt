use Rattle.std.proofs.Common.{◌≤◌, length, ap, arith}
use Rattle.dec_text.proofs.Parts.{whole_parts, has_fraction, parts_long}
use Rattle.dec_text.proofs.Units.{reads_units}
use Rattle.dec_text.proofs.number.number_tenths.Goals as goal

pub exponent_of-exponent-requires : goal.exponent_of-exponent-requires
exponent_of-exponent-requires c =
    let n = c.requires.number in
    let w = whole_parts c.args.bytes.now c.split_sign.result.1.now c.split_digits.result.0.now c.split_digits.result.1.now c.split_sign.ensures.behind c.split_digits.ensures.whole c.split_digits.ensures.digits c.split_digits.ensures.end n in
    let f = c.split_fraction.ensures.parts n.fraction n.tail (has_fraction c.args.bytes.now c.split_digits.result.1.now n w.1) in
    (n.exponent, rw f.1 n.is_exponent)

pub count-count-requires-clause-whole : goal.count-count-requires-clause-whole
count-count-requires-clause-whole c =
    let n = c.requires.number in
    let w = whole_parts c.args.bytes.now c.split_sign.result.1.now c.split_digits.result.0.now c.split_digits.result.1.now c.split_sign.ensures.behind c.split_digits.ensures.whole c.split_digits.ensures.digits c.split_digits.ensures.end n in
    let long : length n.whole ≤ length c.args.bytes.now = (parts_long c.args.bytes.now n).0 in
    omega (arith, ap length w.0, long, c.requires.short)

pub returns : goal.returns
returns c = reads_units c.args.bytes.now c.args.decimals c.args.unit c.split_digits.result.0.now c.split_fraction.result.0.now c.count-count.result c.lead-lead.result c.tenths_in.result c.requires.short c.requires.few c.tenths_in.ensures
    (record {
      behind = c.split_sign.result.1.now;
      back = c.split_digits.result.1.now;
      tail = c.split_fraction.result.1.now;
      held = c.exponent_of-exponent.result;
      is_behind = c.split_sign.ensures.behind;
      parts = c.split_digits.ensures.whole;
      digits = c.split_digits.ensures.digits;
      end = c.split_digits.ensures.end;
      is_fraction = c.split_fraction.ensures.parts;
      is_held = c.exponent_of-exponent.ensures.value;
      is_count = c.count-count.ensures;
      is_lead = c.lead-lead.ensures;
    })
    c.tenths.result c.tenths.ensures
