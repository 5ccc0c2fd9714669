use Rattle.std.proofs.Common.{◌≡◌, ◌⊎◌, ℕ, ◌+◌, ◌<◌, List, [], ◌∷◌, ◌++◌, All, Contains, length, get_or, set, take, refl, sym, ap, subst, ◌∙◌, Vec, Global}
use Rattle.std.proofs.Math.ListN.{length-set}
use Rattle.std.proofs.lemmas.List.{take_more, take_all, get_or_read}
use Rattle.std.proofs.lemmas.List.Elements.{Contains-append_left, Contains-push, Contains-push_cases}
use Rattle.out_grid.specs.inner.Lists.{IsStamped, IsGrown}
use Rattle.out_grid.proofs.Stamps.{none_in, stamped_same, stamped_more, grown_one, grown_none}
use Rattle.out_grid.proofs.listing.add_new.Goals as goal
use Rattle.out_grid.proofs.listing.add_new.Goals.{then-index-stamp+in_ok-push, else-index-stamp}

-- after one outline more
module _ (stamp : ℕ) (stamps list xs old : List ℕ) (i : ℕ) (within : i < length xs) (inside : All (λ k. k < length stamps) xs) (h : IsStamped stamp stamps list) (grown : IsGrown (Contains (take i xs)) old list) where
  abbrev o : ℕ
  o = get_or xs i 0

  more : take (i + 1) xs ≡ take i xs ++ o ∷ []
  more = take_more xs i 0 within

  kept : (k : ℕ) → Contains (take i xs) k → Contains (take (i + 1) xs) k
  kept k c = subst (λ (ys : List ℕ). Contains ys k) (sym more) (Contains-append_left (take i xs) (o ∷ []) k c)

  this : Contains (take (i + 1) xs) o
  this = subst (λ (ys : List ℕ). Contains ys o) (sym more) (Contains-push (take i xs) o)

  split : (k : ℕ) → Contains (take (i + 1) xs) k → Contains (take i xs) k ⊎ (o ≡ k)
  split k c = Contains-push_cases (take i xs) o k (subst (λ (ys : List ℕ). Contains ys k) more c)

  there : o < length stamps
  there = inside i 0 within

  abbrev Taken : List ℕ → List ℕ → Type 0
  Taken now listed = (length now ≡ length stamps) × IsStamped stamp now listed × IsGrown (Contains (take (i + 1) xs)) old listed

  taken_new : (get_or stamps o 0 ≡ stamp → ⊥) → (now listed : List ℕ) → now ≡ set stamps o stamp → listed ≡ list ++ o ∷ [] → Taken now listed
  taken_new differ now listed e f = subst (λ (n : List ℕ). Taken n listed) (sym e) (subst (Taken (set stamps o stamp)) (sym f) (
    length-set stamps o stamp,
    stamped_more stamp stamps list h o there differ,
    grown_one stamp stamps list h o there differ (Contains (take i xs)) (Contains (take (i + 1) xs)) old grown kept this split,
  ))

  taken_known : get_or stamps o 0 ≡ stamp → (now listed : List ℕ) → now ≡ stamps → listed ≡ list → Taken now listed
  taken_known same now listed e f = subst (λ (n : List ℕ). Taken n listed) (sym e) (subst (Taken stamps) (sym f) (
    refl,
    h,
    stamped_same stamp stamps list h o there same (Contains (take i xs)) (Contains (take (i + 1) xs)) old grown kept split,
  ))

pub loop-outline-init : goal.loop-outline-init
loop-outline-init c = record {
  stamps_long = refl;
  stamped = c.requires.stamped;
  right = grown_none (Contains []) c.args.list.now.items none_in;
}

pub loop-outline-preserved : goal.loop-outline-preserved
loop-outline-preserved c =
    let stamps = c.loop-outline.stamps.items in
    let list = c.loop-outline.list.items in
    let xs = c.args.outlines.now in
    let i = c.loop-outline.outline-index in
    let o = get_or xs i 0 in
    let now = c.if-index-stamp.stamps.items in
    let listed = c.if-index-stamp.list.items in
    let long = c.loop-outline.invariant.stamps_long in
    let inside : All (λ k. k < length stamps) xs = subst (λ (n : ℕ). All (λ k. k < n) xs) (sym long) c.requires.in_range in
    let read : c.index.result.now ≡ get_or stamps o 0 = get_or_read stamps _ _ (inside i 0 c.loop-outline-test.true) c.index.ensures 0 in
    let invariant = c.loop-outline.invariant in
    let t : (length now ≡ length stamps) × IsStamped c.args.stamp now listed × IsGrown (Contains (take (i + 1) xs)) c.args.list.now.items listed = elim c.if-index-stamp.branch [
      | then-index-stamp+in_ok-push w ↦ taken_new c.args.stamp stamps list xs c.args.list.now.items i c.loop-outline-test.true inside invariant.stamped invariant.right
          (λ e. w.if-index-stamp.true (read ∙ e)) now listed (ap (λ (v : Vec ℕ Global). v.items) w.stamps-is) (ap (λ (v : Vec ℕ Global). v.items) w.list-is ∙ w.in_ok-push.ensures.items)
      | else-index-stamp w ↦ taken_known c.args.stamp stamps list xs c.args.list.now.items i c.loop-outline-test.true inside invariant.stamped invariant.right
          (sym read ∙ w.if-index-stamp.false) now listed (ap (λ (v : Vec ℕ Global). v.items) w.stamps-is) (ap (λ (v : Vec ℕ Global). v.items) w.list-is)
    ] in
    record { stamps_long = t.0 ∙ long; stamped = t.1; right = t.2 }

pub returns : goal.returns
returns c = record {
  stamps_long = c.loop-outline.invariant.stamps_long;
  stamped = c.loop-outline.invariant.stamped;
  right = subst (λ (ys : List ℕ). IsGrown (Contains ys) c.args.list.now.items c.loop-outline.list.items) (take_all c.loop-outline.outline-index c.args.outlines.now c.loop-outline-test.false) c.loop-outline.invariant.right;
}
