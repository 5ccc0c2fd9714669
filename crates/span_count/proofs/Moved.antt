-- What is so before some tests is so after them, and back: they change neither the part nor the direction.
use Rattle.std.proofs.Common.{◌≡◌, ℕ, ◌+◌, ◌<◌, ◌≤◌, ◌^◌, Bool, not, length, sym, subst, arith}
use Rattle.cross_find.specs.Sights.{SightState, IsSeen}
use Rattle.span_count.specs.declared.step.Sides.{Sides}
use Rattle.span_count.specs.Bounds.{IsEndCount}
use Rattle.span_count.specs.inner.Rests.{AreCountsNext, AreOwnCounts, AreRests, IsCornerCount}
use Rattle.span_count.specs.Tests.{with_tests, IsTested}
use Rattle.span_count.proofs.Walks.{tests_after_tests, tested_both}
use Rattle.span_count.proofs.Stars.{corner_count, end_count, corner_counts}

module _ (x now : SightState) (n : ℕ) (e : now ≡ with_tests n x) where
  pub seen_after : IsSeen x → IsSeen now
  seen_after h = subst IsSeen (sym e) (record { sound = h.sound; within = h.within; few_corners = h.few_corners; few_triangles = h.few_triangles; edges = h.edges; directed = h.directed })

  pub room_after : (more : ℕ) → x.tests + (n + more) < 2 ^ 64 → now.tests + more < 2 ^ 64
  room_after more room = subst (λ y. y.tests + more < 2 ^ 64) (sym e) (fits x.tests n more room)
    where
      fits : (t n m : ℕ) → t + (n + m) < 2 ^ 64 → (t + n) + m < 2 ^ 64
      fits t n m h = omega arith

  module _ (edge : ℕ) (at_b : Bool) where
    pub corner_after : (m : ℕ) → IsCornerCount x edge at_b m → IsCornerCount now edge at_b m
    corner_after m h = subst (λ y. IsCornerCount y edge at_b m) (sym e) (record { of = h.of; numbered = h.numbered; star = h.star; at_corner = h.at_corner; all = h.all })

    pub corner_before : (m : ℕ) → IsCornerCount now edge at_b m → IsCornerCount x edge at_b m
    corner_before m h =
        let g : IsCornerCount (with_tests n x) edge at_b m = subst (λ y. IsCornerCount y edge at_b m) e h in
        record { of = g.of; numbered = g.numbered; star = g.star; at_corner = g.at_corner; all = g.all }

    module _ (c : Sides) where
      pub counts_after : AreCountsNext x edge at_b c → AreCountsNext now edge at_b c
      counts_after h = subst (λ y. AreCountsNext y edge at_b c) (sym e) (record { on_left = h.on_left; on_right = h.on_right })

      pub own_before : AreOwnCounts now edge at_b c → AreOwnCounts x edge at_b c
      own_before h =
          let g : AreOwnCounts (with_tests n x) edge at_b c = subst (λ y. AreOwnCounts y edge at_b c) e h in
          record { on_left = g.on_left; on_right = g.on_right }

      pub rests_after : AreRests x edge at_b c → AreRests now edge at_b c
      rests_after h = subst (λ y. AreRests y edge at_b c) (sym e) (record { on_left = h.on_left; on_right = h.on_right })

      pub rests_before : AreRests now edge at_b c → AreRests x edge at_b c
      rests_before h =
          let g : AreRests (with_tests n x) edge at_b c = subst (λ y. AreRests y edge at_b c) e h in
          record { on_left = g.on_left; on_right = g.on_right }

-- ---- how many tests were made
pub tested_just : (x now : SightState) (n : ℕ) → now ≡ with_tests n x → IsTested n x now
tested_just x now n e = (n, omega arith, e)

pub tested_most : (x now : SightState) (m most : ℕ) → m ≤ most → IsTested m x now → IsTested most x now
tested_most x now m most h (n, within, e) = (n, omega arith, e)

pub tested_more : (x now new : SightState) (most m : ℕ) → IsTested most x now → new ≡ with_tests m now → IsTested (most + m) x new
tested_more x now new most m (n, within, e) f = (n + m, omega arith, tests_after_tests x now new n m e f)

-- ---- tests along an edge, then at its other end
module _ (x : SightState) (edge : ℕ) (at_b : Bool) (list : ℕ) where
  pub room_along : IsSeen x → edge < length x.halves → ((n : ℕ) → IsCornerCount x edge (not at_b) n → x.tests + (list + n) < 2 ^ 64) → x.tests + list < 2 ^ 64
  room_along seen within room =
      let (n, h) = corner_count x edge seen within (not at_b) in
      fits x.tests list n (room n h)
    where
      fits : (t l n : ℕ) → t + (l + n) < 2 ^ 64 → t + l < 2 ^ 64
      fits t l n h = omega arith

pub still_far : (x now : SightState) (edge : ℕ) (at_b : Bool) (list : ℕ) → IsTested list x now → ((n : ℕ) → IsCornerCount x edge (not at_b) n → x.tests + (list + n) < 2 ^ 64)
    → (n : ℕ) → IsCornerCount now edge (not at_b) n → now.tests + n < 2 ^ 64
still_far x now edge at_b list (m, few, e) room n h = room_after x now m e n (fits x.tests list m n few (room n (corner_before x now m e edge (not at_b) n h)))
  where
    fits : (t l m n : ℕ) → m ≤ l → t + (l + n) < 2 ^ 64 → t + (m + n) < 2 ^ 64
    fits t l m n f h = omega arith

pub along_far : (x now new : SightState) (edge : ℕ) (at_b : Bool) (list : ℕ) → IsTested list x now → ((n : ℕ) → IsCornerCount now edge (not at_b) n → new ≡ with_tests n now)
    → (n : ℕ) → IsCornerCount x edge (not at_b) n → IsTested (list + n) x new
along_far x now new edge at_b list (m, few, e) own n h = tested_more x now new list n (m, few, e) (own n (corner_after x now m e edge (not at_b) n h))

-- ---- tests before an edge is walked along, then at its one end, along it and at the other
module _ (x : SightState) (seen : IsSeen x) (edge : ℕ) (within : edge < length x.halves) (at_b : Bool) (before list : ℕ) where
  module _ (room : (ends : ℕ) → IsEndCount x.part x.halves edge ends → x.tests + (before + (list + ends)) < 2 ^ 64) where
    pub room_near : (m : ℕ) → IsCornerCount x edge at_b m → x.tests + (before + m) < 2 ^ 64
    room_near m h =
        let (n, g) = corner_count x edge seen within (not at_b) in
        fits x.tests before list m n (room (m + n) (end_count x edge at_b m n h g))
      where
        fits : (t b l m n : ℕ) → t + (b + (l + (m + n))) < 2 ^ 64 → t + (b + m) < 2 ^ 64
        fits t b l m n h = omega arith

    pub room_far : (now : SightState) → ((m : ℕ) → IsCornerCount x edge at_b m → IsTested (before + m) x now) → (n : ℕ) → IsCornerCount now edge (not at_b) n → now.tests + (list + n) < 2 ^ 64
    room_far now moved n g =
        let (m, h) = corner_count x edge seen within at_b in
        let (made, few, e) = moved m h in
        room_after x now made e (list + n)
        (fits x.tests made before list m n few (room (m + n) (end_count x edge at_b m n h (corner_before x now made e edge (not at_b) n g))))
      where
        fits : (t k b l m n : ℕ) → k ≤ b + m → t + (b + (l + (m + n))) < 2 ^ 64 → t + (k + (l + n)) < 2 ^ 64
        fits t k b l m n few h = omega arith

  pub tested_far : (now new : SightState) → ((m : ℕ) → IsCornerCount x edge at_b m → IsTested (before + m) x now)
      → ((n : ℕ) → IsCornerCount now edge (not at_b) n → IsTested (list + n) now new) → (ends : ℕ) → IsEndCount x.part x.halves edge ends → IsTested (before + (list + ends)) x new
  tested_far now new moved walk ends h =
      let (m, n, near, far, is) = corner_counts x edge ends h at_b in
      let (made, few, e) = moved m near in
      tested_most x new (made + (list + n)) (before + (list + ends)) (fits made before list m n ends few is)
      (tested_both x now new made (list + n) e (walk n (corner_after x now made e edge (not at_b) n far)))
    where
      fits : (k b l m n ends : ℕ) → k ≤ b + m → ends ≡ m + n → k + (l + n) ≤ b + (l + ends)
      fits k b l m n ends few e = omega arith

-- tests at a corner, after others
pub near_last : (x : SightState) (edge : ℕ) (at_b : Bool) (before : ℕ) (mid now : SightState) → mid ≡ with_tests before x → ((m : ℕ) → IsCornerCount mid edge at_b m → now ≡ with_tests m mid)
    → (m : ℕ) → IsCornerCount x edge at_b m → now ≡ with_tests (before + m) x
near_last x edge at_b before mid now e near m h = tests_after_tests x mid now before m e (near m (corner_after x mid before e edge at_b m h))

pub near_most : (x : SightState) (edge : ℕ) (at_b : Bool) (before : ℕ) (mid now : SightState) → IsTested before x mid → ((m : ℕ) → IsCornerCount mid edge at_b m → now ≡ with_tests m mid)
    → (m : ℕ) → IsCornerCount x edge at_b m → IsTested (before + m) x now
near_most x edge at_b before mid now (made, few, e) near m h = (made + m, omega arith, near_last x edge at_b made mid now e near m h)

-- just so many before an edge is walked along and at its one end, then along it and at the other
pub all_far : (x now new : SightState) (before m list n ends : ℕ) → now ≡ with_tests (before + m) x → new ≡ with_tests (list + n) now → ends ≡ m + n → new ≡ with_tests (before + (list + ends)) x
all_far x now new before m list n ends e f is = subst (λ (k : ℕ). new ≡ with_tests k x) (together before m list n ends is) (tests_after_tests x now new (before + m) (list + n) e f)
  where
    together : (b m l n ends : ℕ) → ends ≡ m + n → (b + m) + (l + n) ≡ b + (l + ends)
    together b m l n ends is = omega arith
