-- All faces together: their sides cancel in pairs, but for the outlines.
use Rattle.std.proofs.Common.{◌≡◌, ℕ, ◌+◌, ◌*◌, ◌<◌, nat_lt, inl, inr, [], ◌∷◌, refl, sym, ap, ◌∙◌, subst, arith}
use Rattle.std.specs.Prelude.{ℤ, pos, ◌+ℤ◌, ◌-ℤ◌, ◌*ℤ◌, ◌<ℤ◌}
use Rattle.std.proofs.lemmas.Int.{ints}
use Rattle.hiding_laws.proofs.Screens.{Screen, area_of}
use Rattle.integers.proofs.Ring.{var, con, ◌⊕◌, ◌⊖◌, ◌⊗◌, ring}
use Rattle.geometry.specs.Counts.{Side}
use Rattle.geometry.specs.Shares.{mark}
use Rattle.hiding_laws.specs.inner.Tallies.{IsTally}
use Rattle.hiding_laws.proofs.Shares.{Crosses, change_of, IsClear, IsSign, edge_on, front, back, Adds, Passes}
use Rattle.hiding_laws.proofs.SumsBelow.{keep}
use Rattle.hiding_laws.proofs.Laws.{TwinsLaw, AllFacesLaw}
use Rattle.hiding_laws.proofs.Come.{IsInner}
use Rattle.hiding_laws.proofs.Sides.{tally_of, same_tally}
use Rattle.hiding_laws.proofs.OneFace.{one_face, none_tally, reverse_tally}
use Rattle.hiding_laws.proofs.OwnFace.{uncovered, uncrossed}
use Rattle.hiding_laws.proofs.Sums.{sum_same, sum_pairs, sum_threes, sum_less}

pub twins : TwinsLaw
twins k p q a b sign sign' n m n' m' there other x y =
    ap (λ v. (change_of k sign p q a b *ℤ there) +ℤ (change_of k sign' p q b a *ℤ v)) (same_tally y (reverse_tally p q a b n m n' m' x))
    ∙ ring (sign ∷ sign' ∷ mark k (area_of p q a) ∷ mark k (area_of p q b) ∷ there ∷ [])
    (((var 0 ⊗ (var 2 ⊖ var 3)) ⊗ var 4) ⊕ ((var 1 ⊗ (var 3 ⊖ var 2)) ⊗ var 4)) (((var 0 ⊖ var 1) ⊗ (var 2 ⊖ var 3)) ⊗ var 4) refl

-- what the three sides of a face change
abbrev three : Side → ℤ → Screen → Screen → Screen → Screen → Screen → ℤ → ℤ → ℤ → ℤ
three k sign p q a b c ab bc ca = ((change_of k sign p q a b *ℤ ab) +ℤ (change_of k sign p q b c *ℤ bc)) +ℤ (change_of k sign p q c a *ℤ ca)

some_of : {z : ℤ} → pos 0 <ℤ z → ¬ (z ≡ pos 0)
some_of {z = z} h e = omega (arith, ints)

some_below : {z : ℤ} → z <ℤ pos 0 → ¬ (z ≡ pos 0)
some_below {z = z} h e = omega (arith, ints)

module _ (k : Side) (p q a b c : Screen) (n m n' m' : ℤ) (pw : p.w ≡ pos 1) (qw : q.w ≡ pos 1) (i : IsInner n m) (i' : IsInner n' m') (order : (n *ℤ m') <ℤ (n' *ℤ m)) where
  nothing : (sign x y ab bc ca : ℤ) → x ≡ pos 0 → y ≡ pos 0 → ab ≡ pos 0 → bc ≡ pos 0 → ca ≡ pos 0 → y -ℤ x ≡ three k sign p q a b c ab bc ca
  nothing sign x y ab bc ca ex ey eab ebc eca =
      (λ t. ey t -ℤ ex t)
      ∙ ring (change_of k sign p q a b ∷ change_of k sign p q b c ∷ change_of k sign p q c a ∷ []) (con (pos 0) ⊖ con (pos 0)) (((var 0 ⊗ con (pos 0)) ⊕ (var 1 ⊗ con (pos 0))) ⊕ (var 2 ⊗ con (pos 0))) refl
      ∙ (λ t. three k sign p q a b c (sym eab t) (sym ebc t) (sym eca t))

  level : (x y ab bc ca : ℤ) → x ≡ pos 0 → y ≡ pos 0 → y -ℤ x ≡ three k (pos 0) p q a b c ab bc ca
  level x y ab bc ca ex ey =
      (λ t. ey t -ℤ ex t)
      ∙ ring (mark k (area_of p q a) ∷ mark k (area_of p q b) ∷ mark k (area_of p q c) ∷ ab ∷ bc ∷ ca ∷ []) (con (pos 0) ⊖ con (pos 0))
      ((((con (pos 0) ⊗ (var 0 ⊖ var 1)) ⊗ var 3) ⊕ ((con (pos 0) ⊗ (var 1 ⊖ var 2)) ⊗ var 4)) ⊕ ((con (pos 0) ⊗ (var 2 ⊖ var 0)) ⊗ var 5)) refl

  abbrev Good : Type 0
  Good = ¬ (area_of a b c ≡ pos 0) → IsClear p q a b c n m × IsClear p q a b c n' m' × Passes p q a b c

  signed : {sign before after ab bc ca : ℤ} → IsSign (area_of a b c) sign → ¬ (area_of a b c ≡ pos 0) → IsClear p q a b c n m → IsClear p q a b c n' m' → Passes p q a b c
      → IsTally (Adds k p q a b c n m) before → IsTally (Adds k p q a b c n' m') after
      → IsTally (Crosses p q a b n m n' m') ab → IsTally (Crosses p q b c n m n' m') bc → IsTally (Crosses p q c a n m n' m') ca
      → after -ℤ before ≡ three k sign p q a b c ab bc ca
  signed {sign = sign} {before = before} {after = after} {ab = ab} {bc = bc} {ca = ca} s some clear clear' (inl free) t t' x y z =
      one_face k p q a b c sign n m n' m' before after ab bc ca pw qw s some order clear clear' free (tally_of (λ v. v.1) (λ v. (some, v)) t) (tally_of (λ v. v.1) (λ v. (some, v)) t') x y z
  signed {sign = sign} s some clear clear' (inr own) t t' x y z =
      let u = uncrossed p q n m n' m' i i' a b c own in
      nothing sign _ _ _ _ _ (none_tally (λ v. uncovered p q n m pw qw i a b c some own v.1.0) t) (none_tally (λ v. uncovered p q n' m' pw qw i' a b c some own v.1.0) t')
      (none_tally u.0 x) (none_tally u.1 y) (none_tally u.2 z)

  pub any_face : {sign before after ab bc ca : ℤ} → IsSign (area_of a b c) sign → Good
      → IsTally (Adds k p q a b c n m) before → IsTally (Adds k p q a b c n' m') after
      → IsTally (Crosses p q a b n m n' m') ab → IsTally (Crosses p q b c n m n' m') bc → IsTally (Crosses p q c a n m n' m') ca
      → after -ℤ before ≡ three k sign p q a b c ab bc ca
  any_face (edge_on e) g t t' x y z = level _ _ _ _ _ (none_tally (λ v. v.0 e) t) (none_tally (λ v. v.0 e) t')
  any_face (front h) g t t' x y z = let r = g (some_of h) in signed (front h) (some_of h) r.0 r.1 r.2 t t' x y z
  any_face (back h) g t t' x y z = let r = g (some_below h) in signed (back h) (some_below h) r.0 r.1 r.2 t t' x y z

pub all_faces : AllFacesLaw
all_faces k p q s n m n' m' before after crossing pw qw is after_start before_end after_start' before_end' order faces t t' x =
    sum_less after before s.triangles
    ∙ sum_same _ _ s.triangles face
    ∙ sum_threes share s.triangles
    ∙ sum_pairs s.twin (3 * s.triangles) is.within is.back share is.apart
    ∙ sum_same _ _ (3 * s.triangles) (λ h l. ap (keep (nat_lt h (s.twin h))) (pair h l))
  where
    share : ℕ → ℤ
    share h = change_of k (s.sign h) p q (s.from h) (s.to h) *ℤ crossing h

    in_first : (i : ℕ) → i < s.triangles → 3 * i < 3 * s.triangles
    in_first i l = omega arith

    in_second : (i : ℕ) → i < s.triangles → 3 * i + 1 < 3 * s.triangles
    in_second i l = omega arith

    in_third : (i : ℕ) → i < s.triangles → 3 * i + 2 < 3 * s.triangles
    in_third i l = omega arith

    face : (t : ℕ) → t < s.triangles → after t -ℤ before t ≡ (share (3 * t) +ℤ share (3 * t + 1)) +ℤ share (3 * t + 2)
    face i l =
        let a = s.from (3 * i) in
        let b = s.from (3 * i + 1) in
        let c = s.from (3 * i + 2) in
        any_face k p q a b c n m n' m' pw qw record { after = after_start; before = before_end } record { after = after_start'; before = before_end' } order
        (is.is_sign i l) (faces i l) (t i l) (t' i l)
        (subst (λ w. IsTally (Crosses p q a w n m n' m') (crossing (3 * i))) (is.first i l) (x (3 * i) (in_first i l)))
        (subst (λ w. IsTally (Crosses p q b w n m n' m') (crossing (3 * i + 1))) (is.second i l) (x (3 * i + 1) (in_second i l)))
        (subst (λ w. IsTally (Crosses p q c w n m n' m') (crossing (3 * i + 2))) (is.third i l) (x (3 * i + 2) (in_third i l)))
        ∙ (λ t.
        ((change_of k (s.sign (3 * i)) p q a (sym (is.first i l) t) *ℤ crossing (3 * i))
        +ℤ (change_of k (sym (is.sign_second i l) t) p q b (sym (is.second i l) t) *ℤ crossing (3 * i + 1)))
        +ℤ (change_of k (sym (is.sign_third i l) t) p q c (sym (is.third i l) t) *ℤ crossing (3 * i + 2)))

    pair : (h : ℕ) → h < 3 * s.triangles → share h +ℤ share (s.twin h) ≡ change_of k (s.sign h -ℤ s.sign (s.twin h)) p q (s.from h) (s.to h) *ℤ crossing h
    pair h l =
        let y = subst (λ w. IsTally (Crosses p q w (s.to (s.twin h)) n m n' m') (crossing (s.twin h))) (is.starts h l) (x (s.twin h) (is.within h l)) in
        let z = subst (λ w. IsTally (Crosses p q (s.to h) w n m n' m') (crossing (s.twin h))) (is.ends h l) y in
        (λ t. (change_of k (s.sign h) p q (s.from h) (s.to h) *ℤ crossing h) +ℤ (change_of k (s.sign (s.twin h)) p q (is.starts h l t) (is.ends h l t) *ℤ crossing (s.twin h)))
        ∙ twins k p q (s.from h) (s.to h) (s.sign h) (s.sign (s.twin h)) n m n' m' (crossing h) (crossing (s.twin h)) (x h l) z
