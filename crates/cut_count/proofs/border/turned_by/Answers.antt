use Rattle.std.proofs.Common.{◌≡◌, ◌⊎◌, inl, inr, ℕ, zero, suc, ◌<◌, ◌≤◌, ◌^◌, true, false, length, refl, sym, subst, ◌∙◌, arith, to_z, of_z}
use Rattle.std.specs.Prelude.{◌≢◌, ℤ, pos, negsuc, ◌<ℤ◌, ◌≤ℤ◌, unsigned_abs}
use Rattle.std.specs.Int.{w8, w128}
use Rattle.std.specs.Int.Signed.{lt_z}
use Rattle.std.proofs.lemmas.Int.{ints}
use lib.Signed.{mag}
use Rattle.std.proofs.lemmas.Option.{slice_get_within}
use Rattle.integers.proofs.Worth.{known, pass}
use Rattle.lattice.specs.declared.points.Corner.{Corner}
use Rattle.lattice.specs.Triple.{Triple}
use Rattle.lattice.specs.Points.{of_spot}
use Rattle.lattice.specs.Cuts.{plane_of, toward_of}
use Rattle.geometry.specs.Faces.{facing_of}
use Rattle.geometry.specs.Parts.{Part, Face}
use Rattle.geometry.specs.Views.{sign_of, face_sign}
use Rattle.solid_mesh.specs.Solids.{solid_part}
use Rattle.cut_count_laws.specs.BorderShares.{IsFaceCorner, edge_on, on_right, on_left}
use Rattle.cut_count.proofs.BorderTurns.{turns_apart, segment_border, beyond_of_border}
use Rattle.cut_count.proofs.SegmentEnds.{small_ends}
use Rattle.cut_count.proofs.border.turned_by.Goals as goal

nothing : (r : ℤ) → mag r < 128 → of_z w8 r ≡ 0 → r ≡ pos 0
nothing r h e = omega (arith, ints)

something : (r : ℤ) → (of_z w8 r ≡ 0 → ⊥) → r ≡ pos 0 → ⊥
something r f e = f (omega (arith, ints))

no_sign : (z : ℤ) → sign_of z ≡ pos 0 → z ≡ pos 0
no_sign (pos zero) e = refl
no_sign (pos (suc n)) e = absurd (omega (arith, ints))
no_sign (negsuc n) e = absurd (omega (arith, ints))

sign_none : (z : ℤ) → z ≡ pos 0 → sign_of z ≡ pos 0
sign_none z e = λ i. sign_of (e i)

less_of_lt_z : (x y : ℤ) → lt_z x y ≡ true → x <ℤ y
less_of_lt_z x y e = omega (arith, ints)

at_most_of_lt_z : (x y : ℤ) → lt_z x y ≡ false → y ≤ℤ x
at_most_of_lt_z x y e = omega (arith, ints)

positive : (z : ℤ) → pos 0 ≤ℤ z → z ≢ pos 0 → pos 0 <ℤ z
positive z h some = by z h some
  where
    by : (z : ℤ) → pos 0 ≤ℤ z → (z ≡ pos 0 → ⊥) → pos 0 <ℤ z
    by (pos zero) h some = absurd (some refl)
    by (pos (suc n)) h some = omega (arith, ints)
    by (negsuc n) h some = omega (arith, ints)

below : (r z : ℤ) → unsigned_abs r ≤ 2 ^ 93 → r ≡ z → lt_z (to_z w128 (of_z w128 r)) (pos 0) ≡ true → z <ℤ pos 0
below r z h e t = let same = (pass w128 (known r (2 ^ 93) h) tt).is in less_of_lt_z _ _ (sym (λ i. lt_z ((same ∙ e) i) (pos 0)) ∙ t)

above : (r z : ℤ) → unsigned_abs r ≤ 2 ^ 93 → r ≡ z → lt_z (to_z w128 (of_z w128 r)) (pos 0) ≡ false → pos 0 ≤ℤ z
above r z h e t = let same = (pass w128 (known r (2 ^ 93) h) tt).is in at_most_of_lt_z _ _ (sym (λ i. lt_z ((same ∙ e) i) (pos 0)) ∙ t)

turned : {s : Part} (f : Face s) (r : ℤ) (d e : Triple) → d ≡ e → r ≡ face_sign d f → (of_z w8 r ≡ 0 → ⊥) → facing_of e f.a f.b f.c ≢ pos 0
turned f r d e same is some none = something r some (is ∙ sign_none _ (subst (λ (t : Triple). facing_of t f.a f.b f.c ≡ pos 0) (sym same) none))

corner_is : {s : Part} (f : Face s) (a b c k : Corner) → (f.a ≡ a) × (f.b ≡ b) × (f.c ≡ c) → (a ≡ k) ⊎ (b ≡ k) ⊎ (c ≡ k) → IsFaceCorner f k
corner_is f a b c k same (inl e) = inl (same.0 ∙ e)
corner_is f a b c k same (inr (inl e)) = inr (inl (same.1 ∙ e))
corner_is f a b c k same (inr (inr e)) = inr (inr (same.2 ∙ e))

pub returns-then-sign-eq0-clause-turned : goal.returns-then-sign-eq0-clause-turned
returns-then-sign-eq0-clause-turned c f number =
    edge_on (no_sign _ (subst (λ (d : Triple). face_sign d f ≡ pos 0) c.dir.ensures (sym (c.sign.ensures f number) ∙ nothing c.sign.result c.sign.type_inv c.if-sign-eq0.true)))

pub corners_of-requires : goal.corners_of-requires
corners_of-requires c =
    let f = c.requires.face in
    subst (λ (n : ℕ). n < length (solid_part c.args.solid.now).triangles) c.requires.number (slice_get_within (solid_part c.args.solid.now).triangles f.number f.tri f.listed)

pub corner_side-requires-clause-first : goal.corner_side-requires-clause-first
corner_side-requires-clause-first c = (small_ends c.args.cut.now (solid_part c.args.solid.now) c.args.x.now c.requires).0

pub corner_side-requires-clause-second : goal.corner_side-requires-clause-second
corner_side-requires-clause-second c = (small_ends c.args.cut.now (solid_part c.args.solid.now) c.args.x.now c.requires).1

pub returns-then-corner_side-lt0-clause-turned : goal.returns-then-corner_side-lt0-clause-turned
returns-then-corner_side-lt0-clause-turned c f number =
    let plane = plane_of c.args.cut.now in
    let s = solid_part c.args.solid.now in
    let x = c.args.x.now in
    let k = c.corner_beyond-k.result in
    let corners = c.corners_of.ensures f number in
    let border = segment_border plane s x c.requires f number in
    let some = turned f c.sign.result _ (toward_of plane) c.dir.ensures (c.sign.ensures f number) c.if-sign-eq0.false in
    on_right some k (corner_is f _ _ _ k corners c.corner_beyond-k.ensures.one)
    (c.corner_beyond-k.ensures.beyond (beyond_of_border plane f (of_spot x.a) (of_spot x.b) border _ _ _ corners))
    (below c.corner_side.result _ c.corner_side.ensures.size c.corner_side.ensures.value c.if-corner_side-lt0.true)

pub returns-else-corner_side-lt0-clause-turned : goal.returns-else-corner_side-lt0-clause-turned
returns-else-corner_side-lt0-clause-turned c f number =
    let plane = plane_of c.args.cut.now in
    let s = solid_part c.args.solid.now in
    let x = c.args.x.now in
    let k = c.corner_beyond-k.result in
    let corners = c.corners_of.ensures f number in
    let border = segment_border plane s x c.requires f number in
    let some = turned f c.sign.result _ (toward_of plane) c.dir.ensures (c.sign.ensures f number) c.if-sign-eq0.false in
    let corner = corner_is f _ _ _ k corners c.corner_beyond-k.ensures.one in
    let beyond = c.corner_beyond-k.ensures.beyond (beyond_of_border plane f (of_spot x.a) (of_spot x.b) border _ _ _ corners) in
    on_left some k corner beyond
    (positive _ (above c.corner_side.result _ c.corner_side.ensures.size c.corner_side.ensures.value c.if-corner_side-lt0.false)
    (turns_apart plane f (of_spot x.a) (of_spot x.b) border some k corner beyond))
