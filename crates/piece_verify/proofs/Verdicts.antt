-- Verdicts on a view, and that a list has one verdict: a good list is right, and the first stranger is told.
use Rattle.std.proofs.Common.{◌≡◌, ℕ, ◌+◌, ◌<◌, ◌≤◌, ◌⊎◌, inl, inr, List, length, take, get_or, slice_get, Option, Some, None, refl, sym, ap, subst, ◌∙◌, arith}
use Rattle.std.specs.Prelude.{min, MatchOption, Result, Ok, Err, IfOk}
use Rattle.std.proofs.Math.Nat.{le-min}
use Rattle.std.proofs.lemmas.Bool.{cases_lt}
use Rattle.std.proofs.lemmas.List.{get_or-take, length-take}
use Rattle.std.proofs.lemmas.List.Elements.{All-push}
use Rattle.std.proofs.lemmas.List.Sums.{length-filter, count_by-le-length}
use Rattle.std.proofs.lemmas.Option.{slice_get_within, get_or_from_slice_get, slice_get-get_or}
use Rattle.std.specs.List.{AllZip}
use Rattle.integers.proofs.Lists.{some_element, front_more}
use Rattle.exact_frac.specs.declared.OutOfMemory.{OutOfMemory}
use Rattle.lattice.specs.Triple.{Triple}
use Rattle.lattice.specs.declared.pieces.Piece.{Piece}
use Rattle.job_file.specs.Seen.{direction_seen}
use Rattle.job_file.specs.declared.job.Job.{Job}
use Rattle.job_file.specs.declared.view.JobView.{JobView}
use Rattle.solid_mesh.specs.declared.solid.Solid.{Solid}
use Rattle.piece_verify.specs.Checked.{IsRightList, IsGoodIn, IsGoodList, IsViewOf, AreKnown, IsFirstStranger, DiffersAt, IsFirstDifference, IsVerdict}
use Rattle.piece_verify.specs.Stands.{StandsFor, is_piece_in, pieces_in}
use Rattle.piece_verify.specs.declared.check.Difference.{Difference}
use Rattle.piece_verify.specs.declared.check.Verdict.{Verdict}
use Rattle.piece_verify.specs.declared.check.Verdict.TheVariants.{Right, Stranger, Differs}
use Rattle.piece_verify.specs.declared.line.Entry.{Entry}
use Rattle.piece_verify.specs.inner.Comparing.{IsFirstUnlike}
use Rattle.piece_verify.proofs.Judging.{good_of, differs_of}
use Rattle.piece_verify.proofs.ViewPieces.{kept_view, one_view}

-- ---- a view
module _ (solid : Solid) (job : Job) (view : ℕ) (entries given : List Entry) (given_is : given ≡ pieces_in view entries)
    (d : Triple) (asked : JobView) (along : d ≡ direction_seen asked.spec) (pieces : List Piece) (right : IsRightList solid job asked.spec pieces) where
  pub good_view : AllZip (StandsFor d) given pieces → IsGoodIn solid job asked.spec (pieces_in view entries)
  good_view stands =
      subst (IsGoodIn solid job asked.spec) given_is
      (good_of solid job asked.spec (kept_view solid job asked.spec) (one_view solid job asked.spec) given pieces right (subst (λ (t : Triple). AllZip (StandsFor t) given pieces) along stands))

  pub differing_view : (place : ℕ) (want : Option Piece) → want ≡ slice_get pieces place → IsFirstUnlike d given pieces place → DiffersAt solid job asked.spec (pieces_in view entries) place want
  differing_view place want want_is unlike =
      subst (λ (o : Option Piece). DiffersAt solid job asked.spec (pieces_in view entries) place o) (sym want_is)
      (subst (λ (es : List Entry). DiffersAt solid job asked.spec es place (slice_get pieces place)) given_is
      (differs_of solid job asked.spec (kept_view solid job asked.spec) (one_view solid job asked.spec) given pieces right place (subst (λ (t : Triple). IsFirstUnlike t given pieces place) along unlike)))

-- what a comparison tells of the view
pub judged : (solid : Solid) (job : Job) (view : ℕ) (entries given : List Entry) → given ≡ pieces_in view entries → (d : Triple) (asked : JobView) → d ≡ direction_seen asked.spec
    → (pieces : List Piece) → IsRightList solid job asked.spec pieces → (found : Option Difference)
    → MatchOption found (AllZip (StandsFor d) given pieces) (λ x. IsFirstUnlike d given pieces x.place × (x.want ≡ slice_get pieces x.place))
    → MatchOption found (IsGoodIn solid job asked.spec (pieces_in view entries)) (λ x. DiffersAt solid job asked.spec (pieces_in view entries) x.place x.want)
judged solid job view entries given is d asked along pieces right None stands = good_view solid job view entries given is d asked along pieces right stands
judged solid job view entries given is d asked along pieces right (Some x) (unlike, want) = differing_view solid job view entries given is d asked along pieces right x.place x.want want unlike

-- a view has at most as many pieces as the list has entries
pub as_few : (view : ℕ) (entries given : List Entry) → given ≡ pieces_in view entries → length given ≤ length entries
as_few view entries given is =
    let fewer = count_by-le-length (is_piece_in view) entries in
    let same = ap length is ∙ length-filter (is_piece_in view) entries in
    omega (arith, fewer, same)

-- ---- strangers
in_front : (place n m : ℕ) → place < n → place < m → place < min n m
in_front place n m h k = let first : place + 1 ≤ n = omega (arith, h) in let second : place + 1 ≤ m = omega (arith, k) in let both : place + 1 ≤ min n m = le-min first second in omega (arith, both)

module _ (job : Job) (entries : List Entry) where
  -- among entries whose views are known
  known_at : (n place : ℕ) (e : Entry) → AreKnown job (take n entries) → place < n → slice_get entries place ≡ Some e → e.view < length job.views.items
  known_at n place e known less at =
      let within = slice_get_within entries place e at in
      subst (λ (x : Entry). x.view < length job.views.items) (get_or-take n entries place e less ∙ get_or_from_slice_get entries place e e at)
      (known place e (subst (λ (m : ℕ). place < m) (sym (length-take n entries)) (in_front place n (length entries) less within)))

  known_all : AreKnown job entries → (place : ℕ) (e : Entry) → slice_get entries place ≡ Some e → e.view < length job.views.items
  known_all known place e at =
      subst (λ (x : Entry). x.view < length job.views.items) (get_or_from_slice_get entries place e e at) (known place e (slice_get_within entries place e at))

  pub none_strange : AreKnown job entries → (place : ℕ) → IsFirstStranger job entries place → ⊥
  none_strange known place h = let less = known_all known place h.entry h.at in omega (arith, less, h.unknown)

  pub one_stranger : (place other : ℕ) → IsFirstStranger job entries place → IsFirstStranger job entries other → place ≡ other
  one_stranger place other h k = by (cases_lt place other) (cases_lt other place)
    where
      by : (place < other) ⊎ (other ≤ place) → (other < place) ⊎ (place ≤ other) → place ≡ other
      by (inl less) more = let below = known_at other place h.entry k.earlier less h.at in absurd (omega (arith, below, h.unknown))
      by (inr past) (inl less) = let below = known_at place other k.entry h.earlier less k.at in absurd (omega (arith, below, k.unknown))
      by (inr past) (inr past_too) = omega (arith, past, past_too)

  -- one more whose view is known
  pub known_more : (k : ℕ) (e : Entry) → k < length entries → e ≡ get_or entries k e → e.view < length job.views.items → AreKnown job (take k entries) → AreKnown job (take (k + 1) entries)
  known_more k e within is less known =
      subst (AreKnown job) (front_more entries k e within (sym is)) (All-push (λ (x : Entry). x.view < length job.views.items) (take k entries) e known less)

  pub stranger_at : (k : ℕ) (e : Entry) → k < length entries → e ≡ get_or entries k e → length job.views.items ≤ e.view → AreKnown job (take k entries) → IsFirstStranger job entries k
  stranger_at k e within is past known = record { entry = e; at = slice_get-get_or entries k e within ∙ ap Some (sym is); unknown = past; earlier = known }

-- ---- a list
module _ (solid : Solid) (job : Job) (entries : List Entry) where
  pub right_of_good : (v : Verdict) → IsVerdict solid job entries v → IsGoodList solid job entries → v ≡ Right
  right_of_good Right h good = refl
  right_of_good (Stranger place) h good = absurd (none_strange job entries good.known place h)
  right_of_good (Differs view place want) h good = absurd (h.differs.bad (good.good view h.asked h.is_view))

  pub good_list : AreKnown job entries → ((n : ℕ) (asked : JobView) → n < length job.views.items → IsViewOf job n asked → IsGoodIn solid job asked.spec (pieces_in n entries)) → IsGoodList solid job entries
  good_list known good = record { known = known; good = λ view asked is_view. good view asked (slice_get_within job.views.items view asked is_view) is_view }

  -- the first views, and one more
  pub one_more_view : (view : ℕ) → ((n : ℕ) (asked : JobView) → n < view → IsViewOf job n asked → IsGoodIn solid job asked.spec (pieces_in n entries))
      → ((asked : JobView) → IsViewOf job view asked → IsGoodIn solid job asked.spec (pieces_in view entries))
      → (n : ℕ) (asked : JobView) → n < view + 1 → IsViewOf job n asked → IsGoodIn solid job asked.spec (pieces_in n entries)
  one_more_view view earlier here n asked less is_view = by (cases_lt n view)
    where
      by : (n < view) ⊎ (view ≤ n) → IsGoodIn solid job asked.spec (pieces_in n entries)
      by (inl below) = earlier n asked below is_view
      by (inr past) =
          let same : view ≡ n = omega (arith, less, past) in
          subst (λ (m : ℕ). IsGoodIn solid job asked.spec (pieces_in m entries)) same (here asked (subst (λ (m : ℕ). IsViewOf job m asked) (sym same) is_view))

  pub first_difference : (view place : ℕ) (want : Option Piece) → AreKnown job entries
      → ((n : ℕ) (asked : JobView) → n < view → IsViewOf job n asked → IsGoodIn solid job asked.spec (pieces_in n entries)) → view < length job.views.items
      → ((asked : JobView) → IsViewOf job view asked → DiffersAt solid job asked.spec (pieces_in view entries) place want) → IsFirstDifference solid job entries view place want
  first_difference view place want known earlier within differs =
      let (asked, is_view) = some_element job.views.items view within in
      record { known = known; earlier = earlier; asked = asked; is_view = is_view; differs = differs asked is_view }

  -- an answer is so, or memory ran out
  pub right_answer : (r : Result Verdict OutOfMemory) → IfOk r (IsVerdict solid job entries) → IfOk r (λ v. IsGoodList solid job entries → v ≡ Right)
  right_answer (Ok v) h = right_of_good v h
  right_answer (Err e) h = h

  pub no_stranger : AreKnown job entries → (place : ℕ) (r : Result Verdict OutOfMemory) → IfOk r (λ v. IsFirstStranger job entries place → v ≡ Stranger place)
  no_stranger known place (Ok v) = λ h. absurd (none_strange job entries known place h)
  no_stranger known place (Err e) = tt
