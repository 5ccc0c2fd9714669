-- How many tests the counts of a cut view take: a section has at most a segment for each triangle.
use Rattle.std.proofs.Common.{◌≡◌, ℕ, ◌+◌, ◌*◌, ◌<◌, ◌≤◌, ◌^◌, List, All, AllPairs, Contains, length, subst, ◌∙◌, arith, mul-le-mul}
use Rattle.std.specs.Prelude.{◌≢◌}
use Rattle.std.specs.List.{range_with_len}
use Rattle.std.proofs.lemmas.List.{length-map}
use Rattle.std.proofs.lemmas.List.Elements.{All-map, All-weaker}
use Rattle.std.proofs.lemmas.List.FromFn.{length-range_with_len, get_or-range_with_len}
use Rattle.std.proofs.lemmas.Option.{slice_get_within}
use Rattle.lattice.specs.Cuts.{Plane}
use Rattle.geometry.specs.Parts.{Part}
use Rattle.cut_plane.specs.declared.segments.Segment.{Segment}
use Rattle.cut_plane.specs.Loops.{IsSegmentOf, triangles_of, AreBorders}
use Rattle.edge_pick.proofs.Lists.{few_of}

-- different numbers below n are at most n
few_below : (xs : List ℕ) (n : ℕ) → AllPairs ◌≢◌ xs → All (λ x. x < n) xs → length xs ≤ n
few_below xs n apart below =
    subst (λ m. length xs ≤ m) (length-range_with_len 0 n)
    (few_of xs (range_with_len 0 n) apart (All-weaker (λ x. x < n) (Contains (range_with_len 0 n)) there xs below))
  where
    at : (m x : ℕ) → m ≡ n → x < n → x < m
    at m x e h = omega arith

    from_none : (x : ℕ) → 0 + x ≡ x
    from_none x = omega arith

    there : (x : ℕ) → x < n → Contains (range_with_len 0 n) x
    there x h = (x, at _ x (length-range_with_len 0 n) h, get_or-range_with_len 0 n x x h ∙ from_none x)

pub few_segments : (c : Plane) (s : Part) (segments : List Segment) (places : List ℕ) → AreBorders c s segments places → length segments ≤ length s.triangles
few_segments c s segments places borders =
    subst (λ m. m ≤ length s.triangles) (length-map segments (λ (x : Segment). x.tri))
    (few_below (triangles_of segments) (length s.triangles) borders.once
    (All-map (λ i. i < length s.triangles) (λ (x : Segment). x.tri) segments
    (All-weaker (IsSegmentOf c s) (λ x. x.tri < length s.triangles) (λ x at. subst (λ i. i < length s.triangles) at.number (slice_get_within s.triangles at.face.number at.face.tri at.face.listed)) segments borders.each)))

pub cost_small : (triangles outlines segments : ℕ) → triangles ≤ 20000 → outlines ≤ 60000 → segments ≤ triangles → triangles + outlines + 2 * segments ≤ 120000
cost_small triangles outlines segments few few_outlines few_segments = omega arith

pub bound_small : (drawn cost : ℕ) → drawn ≤ 60000 → cost ≤ 120000 → drawn * cost < 2 ^ 48
bound_small drawn cost few small = let most : drawn * cost ≤ 60000 * 120000 = mul-le-mul few small in omega arith
