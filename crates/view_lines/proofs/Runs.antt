-- Spans over neighbours that are all hidden or all visible: how they are made, and that they tell what those tell.
use Rattle.std.proofs.Common.{◌≡◌, ◌∙◌, zero, suc, Bool, List, [], ◌∷◌, ◌++◌, All, Contains, length, refl, sym, ap, subst, arith}
use Rattle.std.specs.Prelude.{ℤ, pos, ◌<ℤ◌}
use Rattle.std.proofs.lemmas.List.{append_assoc}
use Rattle.std.proofs.lemmas.List.Elements.{All-contains, All-nil, All-push, Contains-append_left, Contains-append_right, Contains-push}
use Rattle.exact_frac.specs.declared.Frac.{Frac}
use Rattle.geometry.specs.Faces.{share_point}
use Rattle.geometry.specs.Parts.{Part, Edge}
use Rattle.geometry.specs.Places.{IsEarlier, IsSame, IsBetween, HasNoEndAt}
use Rattle.geometry.proofs.PlaceOrder.{earlier_earlier}
use Rattle.geometry.proofs.SamePlaces.{same, same_back, same_trans, same_earlier}
use Rattle.lattice.specs.Points.{Point}
use Rattle.lattice.specs.Triple.{Triple}
use Rattle.line_merge.proofs.Lists.{contains_first}
use Rattle.geometry.specs.Spans.{Follow}
use Rattle.lattice.specs.declared.spans.Span.{Span}
use Rattle.view_lines.specs.inner.Told.{IsJoined, AreJoined}
use Rattle.drawn_strips.proofs.SpanPlaces.{StaysAlong, find, weak}

-- ---- how they are made
pub run_of_one : (x : Span) → IsJoined (x ∷ []) x
run_of_one x = record {
  first = x;
  others = [];
  begins = refl;
  from = same x.from;
  before = [];
  last = x;
  ends = refl;
  to = same x.to;
  hidden = All-push (λ (z : Span). z.hidden ≡ x.hidden) [] x (All-nil (λ (z : Span). z.hidden ≡ x.hidden)) refl;
}

-- a run goes on over one more that is hidden or visible as it is
run_longer : (here : List Span) (y x z : Span) → IsJoined here y → IsSame z.from y.from → IsSame z.to x.to → z.hidden ≡ y.hidden → y.hidden ≡ x.hidden → IsJoined (here ++ x ∷ []) z
run_longer here y x z run from to is as_hidden = record {
  first = run.first;
  others = run.others ++ x ∷ [];
  begins = ap (λ (xs : List Span). xs ++ x ∷ []) run.begins;
  from = same_trans z.from y.from run.first.from from run.from;
  before = here;
  last = x;
  ends = refl;
  to = to;
  hidden = subst (λ (b : Bool). All (λ (v : Span). v.hidden ≡ b) (here ++ x ∷ [])) (sym is)
      (All-push (λ (v : Span). v.hidden ≡ y.hidden) here x run.hidden (sym as_hidden));
}

-- one more that stands alone
pub runs_more : (ys singles : List Span) (x : Span) → AreJoined singles ys → AreJoined (singles ++ x ∷ []) (ys ++ x ∷ [])
runs_more [] singles x none = (x ∷ [], [], ap (λ (xs : List Span). xs ++ x ∷ []) none, run_of_one x, refl)
runs_more (y ∷ ys) singles x (here, rest, together, run, more) =
    (here, rest ++ x ∷ [], ap (λ (xs : List Span). xs ++ x ∷ []) together ∙ append_assoc here rest (x ∷ []), run, runs_more ys rest x more)

-- one more that the last of them goes on over
pub runs_longer : (ys singles : List Span) (y x z : Span) → AreJoined singles (ys ++ y ∷ []) → IsSame z.from y.from → IsSame z.to x.to → z.hidden ≡ y.hidden → y.hidden ≡ x.hidden
    → AreJoined (singles ++ x ∷ []) (ys ++ z ∷ [])
runs_longer [] singles y x z (here, rest, together, run, none) from to is as_hidden = (
  here ++ x ∷ [],
  [],
  ap (λ (xs : List Span). xs ++ x ∷ []) together ∙ append_assoc here rest (x ∷ []) ∙ ap (λ (xs : List Span). here ++ (xs ++ x ∷ [])) none ∙ sym (append_assoc here (x ∷ []) []),
  run_longer here y x z run from to is as_hidden,
  refl,
)
runs_longer (w ∷ ys) singles y x z (here, rest, together, run, more) from to is as_hidden =
    (here, rest ++ x ∷ [], ap (λ (xs : List Span). xs ++ x ∷ []) together ∙ append_assoc here rest (x ∷ []), run, runs_longer ys rest y x z more from to is as_hidden)

-- nothing is in no runs
pub runs_of_none : (singles ys : List Span) → AreJoined singles ys → singles ≡ [] → ys ≡ []
runs_of_none singles [] runs none = refl
runs_of_none singles (y ∷ ys) (here, rest, together, run, more) none = absurd (let long = some in omega (arith, long))
  where
    some : length (run.first ∷ (run.others ++ rest)) ≡ 0
    some = ap (λ (xs : List Span). length xs) (sym (ap (λ (xs : List Span). xs ++ rest) run.begins) ∙ sym together ∙ none)

-- ---- they follow one another where those do
from_same : (a b to : Frac) (xs : List Span) → IsSame a b → Follow a xs to → Follow b xs to
from_same a b to [] is at = same_trans b a to (same_back a b is) at
from_same a b to (x ∷ xs) is (at, earlier, later) = (same_trans x.from a b at is, earlier, later)

to_same : (from a b : Frac) (xs : List Span) → IsSame a b → Follow from xs a → Follow from xs b
to_same from a b [] is at = same_trans from a b at is
to_same from a b (x ∷ xs) is (at, earlier, later) = (at, earlier, to_same x.to a b xs is later)

-- up to one of them, and from there on
split : (from to : Frac) (before : List Span) (last : Span) (rest : List Span) → Follow from ((before ++ last ∷ []) ++ rest) to → Follow from (before ++ last ∷ []) last.to × Follow last.to rest to
split from to [] last rest (at, earlier, later) = ((at, earlier, same last.to), later)
split from to (x ∷ before) last rest (at, earlier, later) = let (here, there) = split x.to to before last rest later in ((at, earlier, here), there)

forward : (from to : Frac) (x : Span) (xs : List Span) → Follow from (x ∷ xs) to → IsEarlier from to
forward from to x [] (at, earlier, end) = same_earlier x.from x.to from to at end earlier
forward from to x (y ∷ ys) (at, earlier, later) = earlier_earlier from x.to to (same_earlier x.from x.to from x.to at (same x.to) earlier) (forward x.to to y ys later)

-- the run's part of them, from its beginning to its end, and what comes after it
record IsPart (from to : Frac) (here rest : List Span) (y : Span) : Type 0 where
  pub at : IsSame y.from from
  pub within : Follow y.from here y.to
  pub earlier : IsEarlier y.from y.to
  pub later : Follow y.to rest to

part_of_run : (from to : Frac) (singles here rest : List Span) (y : Span) → singles ≡ here ++ rest → IsJoined here y → Follow from singles to → IsPart from to here rest y
part_of_run from to singles here rest y together run follow = record {
  at = at;
  within = within;
  earlier = forward y.from y.to run.first run.others (subst (λ (xs : List Span). Follow y.from xs y.to) run.begins within);
  later = from_same run.last.to y.to to rest (same_back y.to run.last.to run.to) parts.1;
}
  where
    whole : Follow from (here ++ rest) to
    whole = subst (λ (xs : List Span). Follow from xs to) together follow

    parts : Follow from (run.before ++ run.last ∷ []) run.last.to × Follow run.last.to rest to
    parts = split from to run.before run.last rest (subst (λ (xs : List Span). Follow from (xs ++ rest) to) run.ends whole)

    first_at : (xs : List Span) → xs ≡ run.first ∷ run.others → Follow from (xs ++ rest) to → IsSame run.first.from from
    first_at xs is there = (subst (λ (zs : List Span). Follow from (zs ++ rest) to) is there).0

    at : IsSame y.from from
    at = same_trans y.from run.first.from from run.from (first_at here run.begins whole)

    within : Follow y.from here y.to
    within = from_same from y.from y.to here (same_back y.from from at)
        (to_same from run.last.to y.to here (same_back y.to run.last.to run.to) (subst (λ (xs : List Span). Follow from xs run.last.to) (sym run.ends) parts.0))

pub runs_follow : (from to : Frac) (singles ys : List Span) → AreJoined singles ys → Follow from singles to → Follow from ys to
runs_follow from to singles [] none follow = subst (λ (xs : List Span). Follow from xs to) none follow
runs_follow from to singles (y ∷ ys) (here, rest, together, run, more) follow =
    let part = part_of_run from to singles here rest y together run follow in
    (part.at, part.earlier, runs_follow y.to to rest ys more part.later)

-- ---- what a run goes over
pub record HasRun (singles : List Span) (y : Span) : Type 0 where
  pub here : List Span
  pub run : IsJoined here y
  pub follow : Follow y.from here y.to
  pub listed : (x : Span) → Contains here x → Contains singles x

pub run_of : (from to : Frac) (singles ys : List Span) → AreJoined singles ys → Follow from singles to → (y : Span) → Contains ys y → HasRun singles y
run_of from to singles [] none follow y (k, within, is) = absurd (omega (arith, within))
run_of from to singles (w ∷ ys) (here, rest, together, run, more) follow y (zero, within, is) =
    let part = part_of_run from to singles here rest w together run follow in
    subst (HasRun singles) is (record {
      here = here;
      run = run;
      follow = part.within;
      listed = λ x there. subst (λ (xs : List Span). Contains xs x) (sym together) (Contains-append_left here rest x there);
    })
run_of from to singles (w ∷ ys) (here, rest, together, run, more) follow y (suc k, within, is) =
    let part = part_of_run from to singles here rest w together run follow in
    let later = run_of w.to to rest ys more part.later y (k, omega arith, is) in
    record {
      here = later.here;
      run = later.run;
      follow = later.follow;
      listed = λ x there. subst (λ (xs : List Span). Contains xs x) (sym together) (Contains-append_right here rest x (later.listed x there));
    }

-- ---- and so they tell what those tell
module _ (d : Triple) (O : Point → Type 0) (along : StaysAlong d O) {s : Part} (e : Edge s) (singles : List Span) (apart : All (λ x. HasNoEndAt O e x.from x.to) singles) where
  no_end : (x : Span) → Contains singles x → HasNoEndAt O e x.from x.to
  no_end x listed = All-contains (λ (x : Span). HasNoEndAt O e x.from x.to) singles x apart listed

  pub run_no_end : (y : Span) → HasRun singles y → HasNoEndAt O e y.from y.to
  run_no_end y has = (
    λ h. (no_end has.run.first (has.listed has.run.first (subst (λ (xs : List Span). Contains xs has.run.first) (sym has.run.begins) (contains_first has.run.others has.run.first)))).0
        (at_same y.from has.run.first.from has.run.from h),
    λ h. (no_end has.run.last (has.listed has.run.last (subst (λ (xs : List Span). Contains xs has.run.last) (sym has.run.ends) (Contains-push has.run.before has.run.last)))).1
        (at_same y.to has.run.last.to has.run.to h),
  )
    where
      at_same : (r q : Frac) → IsSame r q → O (share_point e.a e.b r.num r.den) → O (share_point e.a e.b q.num q.den)
      at_same r q is here = subst (λ (n : ℤ). O (share_point e.a e.b n q.den)) is.0 (subst (λ (m : ℤ). O (share_point e.a e.b r.num m)) is.1 here)

  -- a place of a run that is ordinary is strictly within one of those that it goes over
  pub single_within : (n m : ℤ) → pos 0 <ℤ m → O (share_point e.a e.b n m) → (y : Span) → HasRun singles y → IsBetween y.from y.to n m
      → (x : Span) × Contains singles x × IsBetween x.from x.to n m × (x.hidden ≡ y.hidden)
  single_within n m positive ordinary y has between =
      let (x, there, within) = find d O along e n m positive ordinary y.from y.to has.here has.follow (λ x listed. no_end x (has.listed x listed)) between.0 (weak _ _ between.1) in
      (x, has.listed x there, within, All-contains (λ (z : Span). z.hidden ≡ y.hidden) has.here x has.run.hidden there)
