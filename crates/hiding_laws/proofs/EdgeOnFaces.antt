-- Over an ordinary spot that some side is over, the highest side has a face that is not edge-on.
use Rattle.std.proofs.Common.{◌≡◌, ◌⊎◌, ℕ, ◌*◌, ◌<◌, inl, inr, [], ◌∷◌, refl, sym, ap, subst, ◌∙◌, arith}
use Rattle.std.specs.Prelude.{ℤ, pos, ◌-ℤ◌, ◌≤ℤ◌, ◌<ℤ◌}
use Rattle.std.proofs.lemmas.Int.{ints, by_lt_z}
use Rattle.hiding_laws.proofs.OfSides.{of_ab}
use Rattle.hiding_laws.proofs.Screens.{Screen, area_of, Covers, SideCovers}
use Rattle.integers.proofs.Ring.{var, con, ◌⊖◌, ◌⊗◌, ring}
use Rattle.hiding_laws.proofs.Uprights.{weighed, EdgeOnLaw}
use Rattle.hiding_laws.proofs.Upright.{side_back}
use Rattle.hiding_laws.proofs.Upper.{upper}
use Rattle.hiding_laws.proofs.Highest.{highest}

zero_or : (z : ℤ) → (z ≡ pos 0) ⊎ ¬ (z ≡ pos 0)
zero_or z = by_lt_z z (pos 0) (λ h. inr (λ e. below z h e)) (λ h. by_lt_z (pos 0) z (λ k. inr (λ e. above z k e)) (λ k. inl (both z h k)))
  where
    below : (z : ℤ) → z <ℤ pos 0 → z ≡ pos 0 → ⊥
    below z h e = omega (arith, ints)

    above : (z : ℤ) → pos 0 <ℤ z → z ≡ pos 0 → ⊥
    above z h e = omega (arith, ints)

    both : (z : ℤ) → pos 0 ≤ℤ z → z ≤ℤ pos 0 → z ≡ pos 0
    both z h k = omega (arith, ints)

area_back : (a b d : Screen) → area_of b a d ≡ pos 0 → area_of a b d ≡ pos 0
area_back a b d e =
    ring' a b d ∙ ap (λ v. pos 0 -ℤ v) e
  where
    ring' : (a b d : Screen) → area_of a b d ≡ pos 0 -ℤ area_of b a d
    ring' a b d =
        ring (a.u ∷ a.v ∷ b.u ∷ b.v ∷ d.u ∷ d.v ∷ [])
        (((var 2 ⊖ var 0) ⊗ (var 5 ⊖ var 1)) ⊖ ((var 3 ⊖ var 1) ⊗ (var 4 ⊖ var 0)))
        (con (pos 0) ⊖ (((var 0 ⊖ var 2) ⊗ (var 5 ⊖ var 3)) ⊖ ((var 1 ⊖ var 3) ⊗ (var 4 ⊖ var 2)))) refl

pub edge_on_faces : EdgeOnLaw
edge_on_faces s apex next prev x is fan x_pos whole inner rises rises' free h l v =
    let r = highest (3 * s.triangles) s.from s.to x x_pos (λ h l v. (inner h l v).0) h l v in
    found r.0 r.1 r.2 r.3
  where
    found : (g : ℕ) → g < 3 * s.triangles → (v : SideCovers (s.from g) (s.to g) x) → ((f : ℕ) → f < 3 * s.triangles → ¬ SideCovers (s.from f) (s.to f) (weighed (s.from g) (s.to g) v.i v.j))
        → (g : ℕ) × (g < 3 * s.triangles) × (¬ (area_of (s.from g) (s.to g) (apex g) ≡ pos 0)) × Covers (s.from g) (s.to g) (apex g) x
    found g l v top = elim (zero_or (area_of (s.from g) (s.to g) (apex g))) [
      | inr n ↦ (g, l, n, of_ab (s.from g) (s.to g) (apex g) x v)
      | inl e ↦ elim (zero_or (area_of (s.from (s.twin g)) (s.to (s.twin g)) (apex (s.twin g)))) [
        | inr n ↦ (
          s.twin g,
          is.within g l,
          n,
          of_ab (s.from (s.twin g)) (s.to (s.twin g)) (apex (s.twin g)) x
              (subst (λ w. SideCovers w (s.to (s.twin g)) x) (sym (is.starts g l)) (subst (λ w. SideCovers (s.to g) w x) (sym (is.ends g l)) (side_back (s.from g) (s.to g) x v))),
        )
        | inl f ↦ absurd (higher e (area_back (s.from g) (s.to g) (apex (s.twin g)) ((λ t. area_of (sym (is.starts g l) t) (sym (is.ends g l) t) (apex (s.twin g))) ∙ f)))
      ]
    ]
      where
        over : (f : ℕ) → f < 3 * s.triangles → (a b : Screen) → s.from f ≡ a → s.to f ≡ b → ¬ SideCovers a b (weighed (s.from g) (s.to g) v.i v.j)
        over f k a b p q c = top f k (subst (λ w. SideCovers w (s.to f) (weighed (s.from g) (s.to g) v.i v.j)) (sym p) (subst (λ w. SideCovers a w (weighed (s.from g) (s.to g) v.i v.j)) (sym q) c))

        higher : area_of (s.from g) (s.to g) (apex g) ≡ pos 0 → area_of (s.from g) (s.to g) (apex (s.twin g)) ≡ pos 0 → ⊥
        higher e f =
            let k = is.within g l in
            let n = inner g l v in
            elim (upper (s.from g) (s.to g) (apex g) (apex (s.twin g)) v.i v.j (whole g l).0 (whole g l).1 (whole (s.twin g) k).1 n.0 n.1 n.2 e f (rises g l n.0 e) (rises' g l n.0 f) (free g l).0 (free g l).1) [
              | inl c ↦ over (prev g) (fan.prev_within g l) (apex g) (s.from g) (fan.prev_from g l) (fan.prev_to g l) (side_back (s.from g) (apex g) (weighed (s.from g) (s.to g) v.i v.j) c)
              | inr c ↦ elim c [
                | inl c ↦ over (next g) (fan.next_within g l) (s.to g) (apex g) (fan.next_from g l) (fan.next_to g l) (side_back (apex g) (s.to g) (weighed (s.from g) (s.to g) v.i v.j) c)
                | inr c ↦ elim c [
                  | inl c ↦ over (next (s.twin g)) (fan.next_within (s.twin g) k) (s.from g) (apex (s.twin g)) (fan.next_from (s.twin g) k ∙ is.ends g l) (fan.next_to (s.twin g) k) c
                  | inr c ↦ over (prev (s.twin g)) (fan.prev_within (s.twin g) k) (apex (s.twin g)) (s.to g) (fan.prev_from (s.twin g) k) (fan.prev_to (s.twin g) k ∙ is.starts g l) c
                ]
              ]
            ]
