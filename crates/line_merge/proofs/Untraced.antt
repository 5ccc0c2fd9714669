-- Where no strip is one of a trace, all strips are drawn ones, and nothing is left beside them.
use Rattle.std.proofs.Common.{◌≡◌, true, false, List, [], ◌∷◌, refl, ap, subst, ◌∙◌, arith}
use Rattle.std.specs.Prelude.{cond}
use Rattle.std.proofs.lemmas.Bool.{or_parts}
use Rattle.std.specs.List.{filter, list_any}
use Rattle.std.specs.declared.cmp.Ordering.{Ordering}
use Rattle.intervals.specs.declared.interval.Interval.{Interval}
use Rattle.intervals.specs.Cuts.{AreRest}
use Rattle.lattice.specs.declared.pieces.StripKind.{StripKind}
use Rattle.lattice.specs.declared.pieces.StripKind.TheVariants.{Seen, Hidden, Trace}
use Rattle.lattice.specs.Triple.{Triple}
use Rattle.line_merge.specs.declared.ends.SeenEnd.{SeenEnd}
use Rattle.line_merge.specs.declared.numbering.Numbered.{Numbered}
use Rattle.line_merge.specs.inner.Ends.{end_order, AreUnitedOf, IsLeftOfAll}
use Rattle.line_merge.specs.inner.Kinds.{is_up_to, is_trace}

-- nothing is left of intervals without themselves
pub nothing_left : {T : Type 0} (cmp : T → T → Ordering) (whole : List (Interval T)) → AreRest cmp whole whole []
nothing_left cmp whole = record {
  apart = record { inside = λ k d h. absurd (omega arith); apart = λ i j d e h. absurd (omega arith) };
  within = λ cut is. ((λ h. let (k, d, within, is, on) = h in absurd (omega (arith, within))), (λ h. absurd (h.1 h.0)));
  ends = λ k d h. absurd (omega arith);
}

drawn_kind : (k : StripKind) → is_trace k ≡ false → is_up_to Hidden k ≡ true
drawn_kind Seen e = refl
drawn_kind Hidden e = refl
drawn_kind Trace e = cc

same_filter : (given : List Numbered) → list_any (λ x. is_trace x.strip.kind) given ≡ false → filter (λ x. is_up_to Hidden x.strip.kind) given ≡ filter (λ x. is_up_to Trace x.strip.kind) given
same_filter [] none = refl
same_filter (x ∷ xs) none =
    let (here, later) = or_parts (is_trace x.strip.kind) (list_any (λ x. is_trace x.strip.kind) xs) none in
    (λ t. cond (drawn_kind x.strip.kind here t) (x ∷ filter (λ x. is_up_to Hidden x.strip.kind) xs) (filter (λ x. is_up_to Hidden x.strip.kind) xs))
    ∙ ap (λ (ys : List Numbered). x ∷ ys) (same_filter xs later)

pub none_left : (d : Triple) (given : List Numbered) (drawn : List (Interval SeenEnd)) → list_any (λ x. is_trace x.strip.kind) given ≡ false
    → AreUnitedOf d (filter (λ x. is_up_to Hidden x.strip.kind) given) drawn → IsLeftOfAll d given drawn []
none_left d given drawn none united = record {
  all = drawn;
  united = subst (λ (xs : List Numbered). AreUnitedOf d xs drawn) (same_filter given none) united;
  left = nothing_left end_order drawn;
}
