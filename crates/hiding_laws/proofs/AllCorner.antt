-- All faces about a corner: their sides' ends cancel in pairs, but for the outlines.
use Rattle.std.proofs.Common.{◌≡◌, ◌⊎◌, ℕ, ◌+◌, ◌*◌, ◌<◌, nat_lt, inl, inr, [], ◌∷◌, refl, sym, ap, ◌∙◌, subst, arith}
use Rattle.std.specs.Prelude.{ℤ, pos, negsuc, ◌+ℤ◌, ◌-ℤ◌, ◌*ℤ◌, ◌<ℤ◌}
use Rattle.std.proofs.lemmas.Int.{ints}
use Rattle.integers.proofs.Comparisons.{positive_at}
use Rattle.hiding_laws.proofs.Screens.{lead_of, Screen, area_of, SideCovers}
use Rattle.integers.proofs.Ring.{var, con, ◌⊕◌, ◌⊖◌, ◌⊗◌, ring}
use Rattle.geometry.specs.Counts.{Side}
use Rattle.hiding_laws.specs.inner.Tallies.{IsTally}
use Rattle.hiding_laws.proofs.Shares.{CountsAt, Touches, IsSign, edge_on, front, back, Adds}
use Rattle.geometry.specs.Turns.{Way, perturbed}
use Rattle.hiding_laws.proofs.CornerLaws.{way, IsBelow, IsFine, EndPasses, Ends, Suits, HasCorner, AllCornerLaw}
use Rattle.hiding_laws.proofs.SumsBelow.{keep}
use Rattle.hiding_laws.proofs.EdgeScreenLetters.{P, A, B, C, Zero, values, lead}
use Rattle.hiding_laws.proofs.Signs.{up, clash_zero}
use Rattle.hiding_laws.proofs.Sides.{tally_of, same_tally}
use Rattle.hiding_laws.proofs.OneFace.{none_tally, touches_swap, counts_swap, turn-reverse, area-swap}
use Rattle.hiding_laws.proofs.Lone.{area-rotate}
use Rattle.hiding_laws.proofs.Upright.{side_back}
use Rattle.hiding_laws.proofs.Corner.{front_corner, side_is}
use Rattle.hiding_laws.proofs.Sums.{sum_same, sum_pairs, sum_threes, sum_less}

-- ---- a face that is turned away
pub below_back : (k x y : ℤ) → y ≡ pos 0 -ℤ x → IsBelow k x → IsBelow k y
below_back k x y e h = let a = h.least in let b = h.most in record { least = omega (arith, ints); most = omega (arith, ints) }

fine_back : (o q a b : Screen) (k : ℤ) → IsFine o q a b k → IsFine o q b a k
fine_back o q a b k f = record {
  turn = below_back k _ _ (turn-reverse q a b) f.turn;
  product = below_back k _ _ (ring (a.u ∷ a.v ∷ b.u ∷ b.v ∷ (way o q).u ∷ (way o q).v ∷ []) (((var 0 ⊖ var 2) ⊗ var 4) ⊕ ((var 1 ⊖ var 3) ⊗ var 5)) (con (pos 0) ⊖ (((var 2 ⊖ var 0) ⊗ var 4) ⊕ ((var 3 ⊖ var 1) ⊗ var 5))) refl) f.product;
}

pub lead-swap : (a b d q : Screen) → q.w ≡ pos 1 → lead_of a d b q ≡ pos 0 -ℤ lead_of a b d q
lead-swap a b d q qw =
    (λ t. lead_of a d b record { u = q.u; v = q.v; h = q.h; w = qw t })
    ∙ ring (values q q a b d) (lead A C B P) (Zero ⊖ lead A B C P) refl
    ∙ (λ t. pos 0 -ℤ lead_of a b d record { u = q.u; v = q.v; h = q.h; w = sym qw t })

suits_back : (o q a b d : Screen) (k n m : ℤ) → q.w ≡ pos 1 → Suits o q a b d k n m → Suits o q a d b k n m
suits_back o q a b d k n m qw s = record {
  ab = fine_back o q d a k s.da;
  bd = fine_back o q b d k s.bd;
  da = fine_back o q a b k s.ab;
  lead = below_back k _ _ (lead-swap a b d q qw) s.lead;
  near = s.near;
}

end_back : (o a b e : Screen) (x y : Way) {z : ℤ} → IsTally (EndPasses o a b e x y) z → IsTally (EndPasses o b a e x y) z
end_back o a b e x y = tally_of (λ v. (side_back a b o v.0, v.1, v.2)) (λ v. (side_back b a o v.0, v.1, v.2))

abbrev six : ℤ → ℤ → ℤ → ℤ → ℤ → ℤ → ℤ → ℤ
six s ab_a ab_b bd_b bd_d da_d da_a = ((s *ℤ (ab_b -ℤ ab_a)) +ℤ (s *ℤ (bd_d -ℤ bd_b))) +ℤ (s *ℤ (da_a -ℤ da_d))

-- ---- a face that has the corner has no side that is nearer over it
own_clear : (o a b d : Screen) → o.w ≡ pos 1 → pos 0 <ℤ area_of a b d → HasCorner o a b d → ¬ SideCovers a b o
own_clear o a b d ow up h s = clash_zero _ (side_is o a b d ow up s).3 (level h)
  where
    level : HasCorner o a b d → lead_of a b d o ≡ pos 0
    level (inl e) = (λ t. lead_of a b d record { u = (sym e t).u; v = (sym e t).v; h = (sym e t).h; w = ow t }) ∙ ring (values a a a b d) (lead A B C A) Zero refl
    level (inr (inl e)) = (λ t. lead_of a b d record { u = (sym e t).u; v = (sym e t).v; h = (sym e t).h; w = ow t }) ∙ ring (values a a a b d) (lead A B C B) Zero refl
    level (inr (inr e)) = (λ t. lead_of a b d record { u = (sym e t).u; v = (sym e t).v; h = (sym e t).h; w = ow t }) ∙ ring (values a a a b d) (lead A B C C) Zero refl

-- in any order and of either sign
own_quiet : (o a b d : Screen) (sign : ℤ) → o.w ≡ pos 1 → IsSign (area_of a b d) sign → ¬ (area_of a b d ≡ pos 0) → HasCorner o a b d → ¬ SideCovers a b o
own_quiet o a b d sign ow (edge_on e) some h s = some e
own_quiet o a b d sign ow (front up') some h s = own_clear o a b d ow up' h s
own_quiet o a b d sign ow (back down) some h s = own_clear o b a d ow (positive_at _ _ (flipped a b d) (up _ down)) (other h) (side_back a b o s)
  where
    other : HasCorner o a b d → HasCorner o b a d
    other (inl e) = inr (inl e)
    other (inr (inl e)) = inl e
    other (inr (inr e)) = inr (inr e)

    flipped : (a b d : Screen) → area_of b a d ≡ pos 0 -ℤ area_of a b d
    flipped a b d = area-swap b d a ∙ (λ t. pos 0 -ℤ sym (area-rotate b d a) t)

module _ (c c' : Side) (o q q' a b d : Screen) (k n m n' m' : ℤ) (ow : o.w ≡ pos 1) (qw : q.w ≡ pos 1) (qw' : q'.w ≡ pos 1)
    (apart : ¬ ((o.u ≡ q.u) × (o.v ≡ q.v))) (apart' : ¬ ((o.u ≡ q'.u) × (o.v ≡ q'.v))) where
  abbrev X : Way
  X = perturbed c k (way o q)

  abbrev Y : Way
  Y = perturbed c' k (way o q')

  scaled : (y p r s t u v : ℤ) → y ≡ ((r -ℤ p) +ℤ (t -ℤ s)) +ℤ (v -ℤ u) → y ≡ six (pos 1) p r s t u v
  scaled y p r s t u v e = omega (arith, ints)

  scaled_back : (y p r s t u v : ℤ) → y ≡ ((u -ℤ v) +ℤ (s -ℤ t)) +ℤ (p -ℤ r) → y ≡ six (negsuc 0) p r s t u v
  scaled_back y p r s t u v e = e ∙ ring (p ∷ r ∷ s ∷ t ∷ u ∷ v ∷ []) (((var 4 ⊖ var 5) ⊕ (var 2 ⊖ var 3)) ⊕ (var 0 ⊖ var 1)) (((con (negsuc 0) ⊗ (var 1 ⊖ var 0)) ⊕ (con (negsuc 0) ⊗ (var 3 ⊖ var 2))) ⊕ (con (negsuc 0) ⊗ (var 5 ⊖ var 4))) refl

  level_six : (x y p r s t u v : ℤ) → x ≡ pos 0 → y ≡ pos 0 → y -ℤ x ≡ six (pos 0) p r s t u v
  level_six x y p r s t u v e f = (λ i. f i -ℤ e i) ∙ ring (p ∷ r ∷ s ∷ t ∷ u ∷ v ∷ []) (Zero ⊖ Zero) (((Zero ⊗ (var 1 ⊖ var 0)) ⊕ (Zero ⊗ (var 3 ⊖ var 2))) ⊕ (Zero ⊗ (var 5 ⊖ var 4))) refl

  quiet_six : (g x y p r s t u v : ℤ) → x ≡ pos 0 → y ≡ pos 0 → p ≡ pos 0 → r ≡ pos 0 → s ≡ pos 0 → t ≡ pos 0 → u ≡ pos 0 → v ≡ pos 0 → y -ℤ x ≡ six g p r s t u v
  quiet_six g x y p r s t u v ex ey ep er es et eu ev =
      (λ i. ey i -ℤ ex i) ∙ ring (g ∷ []) (Zero ⊖ Zero) (((var 0 ⊗ (Zero ⊖ Zero)) ⊕ (var 0 ⊗ (Zero ⊖ Zero))) ⊕ (var 0 ⊗ (Zero ⊖ Zero))) refl
      ∙ (λ i. six g (sym ep i) (sym er i) (sym es i) (sym et i) (sym eu i) (sym ev i))

  free_change : {sign before after ab_a ab_b bd_b bd_d da_d da_a : ℤ} → IsSign (area_of a b d) sign → ¬ (area_of a b d ≡ pos 0) → ¬ Touches a b d o
      → Suits o q a b d k n m → Suits o q' a b d k n' m'
      → IsTally (CountsAt c o q a b d n m) before → IsTally (CountsAt c' o q' a b d n' m') after → Ends o a b d X Y ab_a ab_b bd_b bd_d da_d da_a
      → after -ℤ before ≡ six sign ab_a ab_b bd_b bd_d da_d da_a
  free_change (edge_on e) some free s s' t t' ends = absurd (some e)
  free_change {ab_a = p} {ab_b = r} {bd_b = u} {bd_d = v} {da_d = w} {da_a = z} (front h) some free s s' t t' ends =
      scaled _ p r u v w z (front_corner c c' o q q' a b d k n m n' m' _ _ _ _ _ _ _ _ ow qw qw' apart apart' h free s.ab s.bd s.da s.lead s.near s'.ab s'.bd s'.da s'.lead s'.near t t' ends)
  free_change {ab_a = p} {ab_b = r} {bd_b = u} {bd_d = v} {da_d = w} {da_a = z} (back h) some free s s' t t' ends =
      let f = suits_back o q a b d k n m qw s in
      let f' = suits_back o q' a b d k n' m' qw' s' in
      scaled_back _ p r u v w z
      (front_corner c c' o q q' a d b k n m n' m' _ _ _ _ _ _ _ _ ow qw qw' apart apart' (positive_at _ _ (area-swap a b d) (up _ h)) (λ x. free (touches_swap a b d o x))
      f.ab f.bd f.da f.lead f.near f'.ab f'.bd f'.da f'.lead f'.near
      (tally_of (counts_swap c o q a d b n m) (counts_swap c o q a b d n m) t) (tally_of (counts_swap c' o q' a d b n' m') (counts_swap c' o q' a b d n' m') t')
      record {
        at_ab_a = end_back o d a a X Y ends.at_da_a;
        at_ab_b = end_back o d a d X Y ends.at_da_d;
        at_bd_b = end_back o b d d X Y ends.at_bd_d;
        at_bd_d = end_back o b d b X Y ends.at_bd_b;
        at_da_d = end_back o a b b X Y ends.at_ab_b;
        at_da_a = end_back o a b a X Y ends.at_ab_a;
      })

  rotated : HasCorner o a b d → HasCorner o b d a
  rotated (inl e) = inr (inr e)
  rotated (inr (inl e)) = inl e
  rotated (inr (inr e)) = inr (inl e)

  rotated_again : HasCorner o a b d → HasCorner o d a b
  rotated_again (inl e) = inr (inl e)
  rotated_again (inr (inl e)) = inr (inr e)
  rotated_again (inr (inr e)) = inl e

  sign_at : {x y s : ℤ} → y ≡ x → IsSign x s → IsSign y s
  sign_at e (edge_on h) = edge_on (e ∙ h)
  sign_at e (front h) = front (positive_at _ _ e h)
  sign_at {x = x} {y = y} e (back h) = back (omega (arith, ints))

  clash_below : (x : ℤ) → x <ℤ pos 0 → x ≡ pos 0 → ⊥
  clash_below x h e = omega (arith, ints)

  signed : {sign before after ab_a ab_b bd_b bd_d da_d da_a : ℤ} → IsSign (area_of a b d) sign → ¬ (area_of a b d ≡ pos 0)
      → Suits o q a b d k n m × Suits o q' a b d k n' m' × ((¬ HasCorner o a b d × ¬ Touches a b d o) ⊎ HasCorner o a b d)
      → IsTally (¬ HasCorner o a b d × Adds c o q a b d n m) before → IsTally (¬ HasCorner o a b d × Adds c' o q' a b d n' m') after → Ends o a b d X Y ab_a ab_b bd_b bd_d da_d da_a
      → after -ℤ before ≡ six sign ab_a ab_b bd_b bd_d da_d da_a
  signed s some (u, u', inl f) t t' ends =
      free_change s some f.1 u u' (tally_of (λ v. v.1.1) (λ v. (f.0, (some, v))) t) (tally_of (λ v. v.1.1) (λ v. (f.0, (some, v))) t') ends
  signed {sign = sign} s some (u, u', inr own) t t' ends =
      let ab = own_quiet o a b d sign ow s some own in
      let bd = own_quiet o b d a sign ow (sign_at (sym (area-rotate b d a)) s) (λ e. some (area-rotate b d a ∙ e)) (rotated own) in
      let da = own_quiet o d a b sign ow (sign_at (area-rotate a b d) s) (λ e. some (sym (area-rotate a b d) ∙ e)) (rotated_again own) in
      quiet_six sign _ _ _ _ _ _ _ _ (none_tally (λ v. v.0 own) t) (none_tally (λ v. v.0 own) t')
      (none_tally (λ v. ab v.0) ends.at_ab_a) (none_tally (λ v. ab v.0) ends.at_ab_b) (none_tally (λ v. bd v.0) ends.at_bd_b) (none_tally (λ v. bd v.0) ends.at_bd_d)
      (none_tally (λ v. da v.0) ends.at_da_d) (none_tally (λ v. da v.0) ends.at_da_a)

  pub any_change : {sign before after ab_a ab_b bd_b bd_d da_d da_a : ℤ} → IsSign (area_of a b d) sign
      → (¬ (area_of a b d ≡ pos 0) → Suits o q a b d k n m × Suits o q' a b d k n' m' × ((¬ HasCorner o a b d × ¬ Touches a b d o) ⊎ HasCorner o a b d))
      → IsTally (¬ HasCorner o a b d × Adds c o q a b d n m) before → IsTally (¬ HasCorner o a b d × Adds c' o q' a b d n' m') after → Ends o a b d X Y ab_a ab_b bd_b bd_d da_d da_a
      → after -ℤ before ≡ six sign ab_a ab_b bd_b bd_d da_d da_a
  any_change {ab_a = p} {ab_b = r} {bd_b = u} {bd_d = v} {da_d = w} {da_a = z} (edge_on e) g t t' ends =
      level_six _ _ p r u v w z (none_tally (λ x. x.1.0 e) t) (none_tally (λ x. x.1.0 e) t')
  any_change (front h) g t t' ends = let n = λ (e : area_of a b d ≡ pos 0). clash_zero _ h e in signed (front h) n (g n) t t' ends
  any_change (back h) g t t' ends = let n = λ (e : area_of a b d ≡ pos 0). clash_below _ h e in signed (back h) n (g n) t t' ends

pub all_corner : AllCornerLaw
all_corner c c' o q q' s k n m n' m' before after starts ends ow qw qw' apart apart' is faces t t' from_ends to_ends =
    sum_less after before s.triangles
    ∙ sum_same _ _ s.triangles face
    ∙ sum_threes share s.triangles
    ∙ sum_pairs s.twin (3 * s.triangles) is.within is.back share is.apart
    ∙ sum_same _ _ (3 * s.triangles) (λ h l. ap (keep (nat_lt h (s.twin h))) (pair h l))
  where
    share : ℕ → ℤ
    share h = s.sign h *ℤ (ends h -ℤ starts h)

    in_first : (i : ℕ) → i < s.triangles → 3 * i < 3 * s.triangles
    in_first i l = omega arith

    in_second : (i : ℕ) → i < s.triangles → 3 * i + 1 < 3 * s.triangles
    in_second i l = omega arith

    in_third : (i : ℕ) → i < s.triangles → 3 * i + 2 < 3 * s.triangles
    in_third i l = omega arith

    face : (t : ℕ) → t < s.triangles → after t -ℤ before t ≡ (share (3 * t) +ℤ share (3 * t + 1)) +ℤ share (3 * t + 2)
    face i l =
        let a = s.from (3 * i) in
        let b = s.from (3 * i + 1) in
        let d = s.from (3 * i + 2) in
        let x = perturbed c k (way o q) in
        let y = perturbed c' k (way o q') in
        any_change c c' o q q' a b d k n m n' m' ow qw qw' apart apart' (is.is_sign i l) (faces i l) (t i l) (t' i l)
        record {
          at_ab_a = subst (λ w. IsTally (EndPasses o a w a x y) (starts (3 * i))) (is.first i l) (from_ends (3 * i) (in_first i l));
          at_ab_b = subst (λ w. IsTally (EndPasses o a w w x y) (ends (3 * i))) (is.first i l) (to_ends (3 * i) (in_first i l));
          at_bd_b = subst (λ w. IsTally (EndPasses o b w b x y) (starts (3 * i + 1))) (is.second i l) (from_ends (3 * i + 1) (in_second i l));
          at_bd_d = subst (λ w. IsTally (EndPasses o b w w x y) (ends (3 * i + 1))) (is.second i l) (to_ends (3 * i + 1) (in_second i l));
          at_da_d = subst (λ w. IsTally (EndPasses o d w d x y) (starts (3 * i + 2))) (is.third i l) (from_ends (3 * i + 2) (in_third i l));
          at_da_a = subst (λ w. IsTally (EndPasses o d w w x y) (ends (3 * i + 2))) (is.third i l) (to_ends (3 * i + 2) (in_third i l));
        }
        ∙ (λ t.
        ((s.sign (3 * i) *ℤ (ends (3 * i) -ℤ starts (3 * i)))
        +ℤ (sym (is.sign_second i l) t *ℤ (ends (3 * i + 1) -ℤ starts (3 * i + 1))))
        +ℤ (sym (is.sign_third i l) t *ℤ (ends (3 * i + 2) -ℤ starts (3 * i + 2))))

    pair : (h : ℕ) → h < 3 * s.triangles → share h +ℤ share (s.twin h) ≡ (s.sign h -ℤ s.sign (s.twin h)) *ℤ (ends h -ℤ starts h)
    pair h l =
        let x = perturbed c k (way o q) in
        let y = perturbed c' k (way o q') in
        let u = from_ends (s.twin h) (is.within h l) in
        let v = to_ends (s.twin h) (is.within h l) in
        let u' = subst (λ w. IsTally (EndPasses o w (s.to (s.twin h)) w x y) (starts (s.twin h))) (is.starts h l) u in
        let u'' = subst (λ w. IsTally (EndPasses o (s.to h) w (s.to h) x y) (starts (s.twin h))) (is.ends h l) u' in
        let v' = subst (λ w. IsTally (EndPasses o w (s.to (s.twin h)) (s.to (s.twin h)) x y) (ends (s.twin h))) (is.starts h l) v in
        let v'' = subst (λ w. IsTally (EndPasses o (s.to h) w w x y) (ends (s.twin h))) (is.ends h l) v' in
        let p = same_tally (end_back o (s.to h) (s.from h) (s.to h) x y u'') (to_ends h l) in
        let r = same_tally (end_back o (s.to h) (s.from h) (s.from h) x y v'') (from_ends h l) in
        (λ t. share h +ℤ (s.sign (s.twin h) *ℤ (r t -ℤ p t)))
        ∙ ring (s.sign h ∷ s.sign (s.twin h) ∷ ends h ∷ starts h ∷ []) ((var 0 ⊗ (var 2 ⊖ var 3)) ⊕ (var 1 ⊗ (var 3 ⊖ var 2))) ((var 0 ⊖ var 1) ⊗ (var 2 ⊖ var 3)) refl
