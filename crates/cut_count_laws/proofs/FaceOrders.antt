-- What holds of a face's corners in its order, from another corner on.
use Rattle.std.proofs.Common.{◌≡◌, inl, inr, sym, subst, ◌∙◌, arith}
use Rattle.std.specs.Prelude.{ℤ, ◌+ℤ◌, ◌*ℤ◌}
use Rattle.std.proofs.lemmas.Int.{ints}
use Rattle.lattice.specs.declared.points.Corner.{Corner}
use Rattle.lattice.specs.Cuts.{Plane, toward_of}
use Rattle.geometry.specs.Parts.{Part, Face, Edge}
use Rattle.hiding_laws.proofs.Screens.{Screen}
use Rattle.geometry.specs.Counts.{Side}
use Rattle.hiding_laws.specs.inner.Tallies.{IsTally}
use Rattle.hiding_laws.proofs.OneFace.{touches_rotate}
use Rattle.hiding_laws.proofs.Places.{place_of}
use Rattle.hiding_laws.proofs.Seen.{on}
use Rattle.hiding_laws.proofs.Shares.{Crosses, IsClear, IsSideOf, IsUnpierced}
use Rattle.cut_count_laws.specs.CutEnds.{part_change}
use Rattle.cut_count_laws.proofs.Rests.{AreInOrder}

-- ---- what the three sides change, from another corner on
module _ (k : Side) (c : Plane) {s : Part} (e : Edge s) (f : Face s) (n m n' m' : ℤ) where
  abbrev pub Sum : Corner → Corner → Corner → ℤ → ℤ → ℤ → ℤ
  Sum x y z xy yz zx = ((part_change k c e.a e.b x y *ℤ xy) +ℤ (part_change k c e.a e.b y z *ℤ yz)) +ℤ (part_change k c e.a e.b z x *ℤ zx)

  abbrev pub CrossTally : Corner → Corner → ℤ → Type 0
  CrossTally x y z = IsTally (Crosses (on (toward_of c) e.a) (on (toward_of c) e.b) (on (toward_of c) x) (on (toward_of c) y) n m n' m') z

  rotated : (x y z : ℤ) → (x +ℤ y) +ℤ z ≡ (z +ℤ x) +ℤ y
  rotated x y z = omega (arith, ints)

  rotated_back : (x y z : ℤ) → (x +ℤ y) +ℤ z ≡ (y +ℤ z) +ℤ x
  rotated_back x y z = omega (arith, ints)

  -- the three sides from another corner on
  pub in_order : (x y z : Corner) → AreInOrder f x y z → (ab bc ca : ℤ) → CrossTally f.a f.b ab → CrossTally f.b f.c bc → CrossTally f.c f.a ca
      → (xy : ℤ) × (yz : ℤ) × (zx : ℤ) × CrossTally x y xy × CrossTally y z yz × CrossTally z x zx × (Sum x y z xy yz zx ≡ Sum f.a f.b f.c ab bc ca)
  in_order x y z (inl (a, b, d)) ab bc ca u v w = (
    ab,
    bc,
    ca,
    subst (λ t. t) (λ r. CrossTally (a r) (b r) ab) u,
    subst (λ t. t) (λ r. CrossTally (b r) (d r) bc) v,
    subst (λ t. t) (λ r. CrossTally (d r) (a r) ca) w,
    (λ r. Sum (sym a r) (sym b r) (sym d r) ab bc ca),
  )
  in_order x y z (inr (inl (b, d, a))) ab bc ca u v w = (
    bc,
    ca,
    ab,
    subst (λ t. t) (λ r. CrossTally (b r) (d r) bc) v,
    subst (λ t. t) (λ r. CrossTally (d r) (a r) ca) w,
    subst (λ t. t) (λ r. CrossTally (a r) (b r) ab) u,
    (λ r. Sum (sym b r) (sym d r) (sym a r) bc ca ab)
        ∙ rotated (part_change k c e.a e.b f.b f.c *ℤ bc) (part_change k c e.a e.b f.c f.a *ℤ ca) (part_change k c e.a e.b f.a f.b *ℤ ab),
  )
  in_order x y z (inr (inr (d, a, b))) ab bc ca u v w = (
    ca,
    ab,
    bc,
    subst (λ t. t) (λ r. CrossTally (d r) (a r) ca) w,
    subst (λ t. t) (λ r. CrossTally (a r) (b r) ab) u,
    subst (λ t. t) (λ r. CrossTally (b r) (d r) bc) v,
    (λ r. Sum (sym d r) (sym a r) (sym b r) ca ab bc)
        ∙ rotated_back (part_change k c e.a e.b f.c f.a *ℤ ca) (part_change k c e.a e.b f.a f.b *ℤ ab) (part_change k c e.a e.b f.b f.c *ℤ bc),
  )

-- ---- the face's own order
module _ (p q : Screen) where
  pub side_round : (a b c : Screen) → IsSideOf p q a b c → IsSideOf p q b c a
  side_round a b c (inl s) = inr (inr (inl s))
  side_round a b c (inr (inl s)) = inl s
  side_round a b c (inr (inr (inl s))) = inr (inl s)
  side_round a b c (inr (inr (inr (inl s)))) = inr (inr (inr (inr (inr s))))
  side_round a b c (inr (inr (inr (inr (inl s))))) = inr (inr (inr (inl s)))
  side_round a b c (inr (inr (inr (inr (inr s))))) = inr (inr (inr (inr (inl s))))

  pub clear_round : (a b c : Screen) (n m : ℤ) → IsClear p q a b c n m → IsClear p q b c a n m
  clear_round a b c n m h = record { after = h.after; before = h.before; ab = h.bc; bc = h.ca; ca = h.ab }

  pub free_round : (a b c : Screen) → IsUnpierced p q a b c → IsUnpierced p q b c a
  free_round a b c h n m after before t = h n m after before (touches_rotate a b c (place_of p q n m) t)

  -- what holds of the face's corners in its order, and of any other first corner
  pub from_first : (T : Screen → Screen → Screen → Type 0) → ((a b c : Screen) → T a b c → T b c a) → (d : Plane) {s : Part} (f : Face s) (x y z : Corner) → AreInOrder f x y z
      → T (on (toward_of d) f.a) (on (toward_of d) f.b) (on (toward_of d) f.c) → T (on (toward_of d) x) (on (toward_of d) y) (on (toward_of d) z)
  from_first T round d f x y z (inl (a, b, c)) h = subst (λ t. t) (λ r. T (on (toward_of d) (a r)) (on (toward_of d) (b r)) (on (toward_of d) (c r))) h
  from_first T round d f x y z (inr (inl (b, c, a))) h = subst (λ t. t) (λ r. T (on (toward_of d) (b r)) (on (toward_of d) (c r)) (on (toward_of d) (a r))) (round _ _ _ h)
  from_first T round d f x y z (inr (inr (c, a, b))) h = subst (λ t. t) (λ r. T (on (toward_of d) (c r)) (on (toward_of d) (a r)) (on (toward_of d) (b r))) (round _ _ _ (round _ _ _ h))
