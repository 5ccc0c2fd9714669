-- An ordinary point of an edge of a sound part is hidden exactly where a face is counted on one side of the edge.
use Rattle.std.proofs.Common.{◌≡◌, ◌≢◌, ◌⊎◌, inl, inr, ℕ, zero, suc, ◌+◌, ◌*◌, ◌<◌, List, [], ◌∷◌, All, Contains, length, refl, sym, ap, subst, ◌∙◌, arith}
use Rattle.std.specs.Prelude.{ℤ, pos, ◌*ℤ◌, ◌<ℤ◌, ◌↔◌}
use Rattle.std.proofs.lemmas.Int.{ints}
use Rattle.std.proofs.lemmas.List.Elements.{All-nil, All-cons, All-contains}
use Rattle.std.proofs.lemmas.Option.{slice_get_within, get_or_from_slice_get}
use Rattle.lattice.specs.declared.points.Corner.{Corner}
use Rattle.lattice.specs.declared.soup.Tri.{Tri}
use Rattle.lattice.specs.Triangles.{IsBelow}
use Rattle.lattice.specs.Triple.{Triple, IsZero}
use Rattle.lattice.specs.Points.{Point, IsPoint, point_of}
use Rattle.geometry.specs.Cuts.{IsCount}
use Rattle.geometry.specs.Cuts.IsCount.{nothing, counted, skipped}
use Rattle.geometry.specs.Faces.{facing_of, share_point, FaceHides}
use Rattle.geometry.specs.Parts.{Part, Face, Edge}
use Rattle.geometry.specs.Sound.{IsSound}
use Rattle.geometry.specs.Views.{IsEndOn, IsHidden, IsOrdinary}
use Rattle.hiding_laws.proofs.Screens.{Screen, area_of, SideCovers}
use Rattle.hiding_laws.specs.Values.{WideSideHides}
use Rattle.hiding_laws.proofs.Decisions.{same_or}
use Rattle.hiding_laws.proofs.Hiding.{wide-side-hides}
use Rattle.hiding_laws.proofs.OnScreens.{seen, side_covers_of_hides}
use Rattle.geometry.specs.Counts.{Side, to_left, to_right, orientation_of, ReachesTo, HasCounted, AreCounted}
use Rattle.hiding_laws.proofs.InLine.{in_line}
use Rattle.hiding_laws.proofs.MeshOfPart.{count, starts_at, ends_at, corner_seen, is_mesh, first_seen, second_seen, third_seen}
use Rattle.hiding_laws.proofs.NearPlace.{sign_three}
use Rattle.hiding_laws.proofs.OrdinarySides.{IsHiddenByTurned, under_side}
use Rattle.hiding_laws.proofs.Seen.{scale, on, area_seen, facing_some}

-- ---- counts of a list
module _ {A : Type 0} {P : A → Type 0} where
  none_counted : (xs : List A) → IsCount A P xs 0 → All (λ x. ¬ P x) xs
  none_counted [] nothing = All-nil (λ x. ¬ P x)
  none_counted (x ∷ xs) (skipped _ _ _ p h) = All-cons (λ x. ¬ P x) x xs p (none_counted xs h)

  pub count_some : (xs : List A) (n : ℕ) (x : A) → IsCount A P xs n → Contains xs x → P x → n ≢ 0
  count_some xs n x h c p e = All-contains (λ x. ¬ P x) xs x (none_counted xs (subst (λ n. IsCount A P xs n) e h)) c p

  pub some_counted : (xs : List A) (n : ℕ) → IsCount A P xs (suc n) → (x : A) × P x
  some_counted [] n h = elim h [ ]
  some_counted (x ∷ xs) n (counted _ _ _ p h) = (x, p)
  some_counted (x ∷ xs) n (skipped _ _ _ p h) = some_counted xs n h

-- ---- a face that is not edge-on reaches to one side at least of an edge that is not seen end-on
module _ (d : Triple) {s : Part} (e : Edge s) (apart : ¬ IsEndOn d e) (f : Face s) (turned : ¬ (facing_of d f.a f.b f.c ≡ pos 0)) where
  pub reaches_some : ReachesTo to_left d e f ⊎ ReachesTo to_right d e f
  reaches_some = by (sign_three (orientation_of d e.a e.b f.a)) (sign_three (orientation_of d e.a e.b f.b)) (sign_three (orientation_of d e.a e.b f.c))
    where
      level : (c : Corner) → orientation_of d e.a e.b c ≡ pos 0 → area_of (on d e.a) (on d e.b) (on d c) ≡ pos 0
      level c z = area_seen d e.a e.b c ∙ ap (λ v. scale d *ℤ v) z ∙ times_zero (scale d)
        where
          times_zero : (k : ℤ) → k *ℤ pos 0 ≡ pos 0
          times_zero k = omega (arith, ints)

      by : (pos 0 <ℤ orientation_of d e.a e.b f.a) ⊎ (orientation_of d e.a e.b f.a <ℤ pos 0) ⊎ (orientation_of d e.a e.b f.a ≡ pos 0)
          → (pos 0 <ℤ orientation_of d e.a e.b f.b) ⊎ (orientation_of d e.a e.b f.b <ℤ pos 0) ⊎ (orientation_of d e.a e.b f.b ≡ pos 0)
          → (pos 0 <ℤ orientation_of d e.a e.b f.c) ⊎ (orientation_of d e.a e.b f.c <ℤ pos 0) ⊎ (orientation_of d e.a e.b f.c ≡ pos 0) → ReachesTo to_left d e f ⊎ ReachesTo to_right d e f
      by (inl l) b c = inl (inl l)
      by (inr (inl r)) b c = inr (inl r)
      by (inr (inr za)) (inl l) c = inl (inr (inl l))
      by (inr (inr za)) (inr (inl r)) c = inr (inr (inl r))
      by (inr (inr za)) (inr (inr zb)) (inl l) = inl (inr (inr l))
      by (inr (inr za)) (inr (inr zb)) (inr (inl r)) = inr (inr (inr r))
      by (inr (inr za)) (inr (inr zb)) (inr (inr zc)) =
          let same = in_line (on d e.a) (on d e.b) (on d f.a) (on d f.b) (on d f.c) (level f.a za) (level f.b zb) (level f.c zc) (facing_some d f.a f.b f.c turned) in
          absurd (apart (record { across = ap (λ v. v *ℤ pos 1) same.0; upward = ap (λ v. v *ℤ pos 1) same.1 }))

-- ---- in a sound part
module _ (d : Triple) (directed : ¬ IsZero d) (s : Part) (sound : IsSound s) (within : All (IsBelow (length s.corners)) s.triangles) where
  abbrev seen_at : ℕ → Screen
  seen_at n = corner_seen d s n

  module _ (p : Point) (point : IsPoint p) (ordinary : IsOrdinary d s p) where
    -- a side of a face that covers the point
    module _ (f : Face s) where
      number : f.number < length s.triangles
      number = slice_get_within s.triangles f.number f.tri f.listed

      under : (h : ℕ) → h < count s → (a b : Corner) → seen_at (starts_at s h) ≡ seen d (point_of a) → seen_at (ends_at s h) ≡ seen d (point_of b) → WideSideHides d a b p
          → IsHiddenByTurned d directed s sound within p point ordinary
      under h l a b start end hides =
          under_side d directed s sound within p point ordinary h l
          (subst (λ x. SideCovers x (seen_at (ends_at s h)) (seen d p)) (sym start)
          (subst (λ x. SideCovers (seen d (point_of a)) x (seen d p)) (sym end) (side_covers_of_hides d a b p hides.1)))

      under_edge_on : facing_of d f.a f.b f.c ≡ pos 0 → FaceHides d f.a f.b f.c p → IsHiddenByTurned d directed s sound within p point ordinary
      under_edge_on level hides =
          let m = is_mesh d s sound.closed within in
          let n = f.number in
          elim (wide-side-hides d f.a f.b f.c p point directed (sound.closed.none_flat f) level hides) [
            | inl q ↦ under (3 * n) (first number) f.a f.b (first_seen d s f) (m.first n number ∙ second_seen d s f) q
            | inr more ↦ elim more [
              | inl q ↦ under (3 * n + 1) (second number) f.b f.c (second_seen d s f) (m.second n number ∙ third_seen d s f) q
              | inr q ↦ under (3 * n + 2) (third number) f.c f.a (third_seen d s f) (m.third n number ∙ first_seen d s f) q
            ]
          ]
        where
          first : f.number < length s.triangles → 3 * f.number < count s
          first h = omega arith

          second : f.number < length s.triangles → 3 * f.number + 1 < count s
          second h = omega arith

          third : f.number < length s.triangles → 3 * f.number + 2 < count s
          third h = omega arith

    -- a hidden point is hidden by a face that is not edge-on
    pub hidden_by_turned : IsHidden d s p → IsHiddenByTurned d directed s sound within p point ordinary
    hidden_by_turned (f, hides) = elim (same_or (facing_of d f.a f.b f.c) (pos 0)) [
      | inr turned ↦ (f, turned, hides)
      | inl level ↦ under_edge_on f level hides
    ]

  module _ (e : Edge s) (apart : ¬ IsEndOn d e) (n m : ℤ) (after : pos 0 <ℤ n) (before : n <ℤ m) (ordinary : IsOrdinary d s (share_point e.a e.b n m)) (l r : ℕ)
      (on_left : AreCounted to_left d e (share_point e.a e.b n m) l) (on_right : AreCounted to_right d e (share_point e.a e.b n m) r) where
    point : IsPoint (share_point e.a e.b n m)
    point = positive n m after before
      where
        positive : (n m : ℤ) → pos 0 <ℤ n → n <ℤ m → pos 0 <ℤ m
        positive n m h l = omega (arith, ints)

    listed : (f : Face s) → Contains s.triangles f.tri
    listed f = (f.number, slice_get_within s.triangles f.number f.tri f.listed, get_or_from_slice_get s.triangles f.number f.tri f.tri f.listed)

    counted_of_hidden : IsHidden d s (share_point e.a e.b n m) → l + r ≢ 0
    counted_of_hidden hidden none =
        let (f, turned, hides) = hidden_by_turned (share_point e.a e.b n m) point ordinary hidden in
        elim (reaches_some d e apart f turned) [
          | inl reaches ↦ count_some s.triangles l f.tri on_left (listed f) (f, refl, record { turned = turned; hides = hides; reaches = reaches }) (left_none none)
          | inr reaches ↦ count_some s.triangles r f.tri on_right (listed f) (f, refl, record { turned = turned; hides = hides; reaches = reaches }) (right_none none)
        ]
      where
        left_none : l + r ≡ 0 → l ≡ 0
        left_none e = omega arith

        right_none : l + r ≡ 0 → r ≡ 0
        right_none e = omega arith

    hidden_of_counted : l + r ≢ 0 → IsHidden d s (share_point e.a e.b n m)
    hidden_of_counted some = by l r on_left on_right some
      where
        hidden_of : (k : Side) (t : Tri) → HasCounted k d e (share_point e.a e.b n m) t → IsHidden d s (share_point e.a e.b n m)
        hidden_of k t (f, is, c) = (f, c.hides)

        by : (l r : ℕ) → AreCounted to_left d e (share_point e.a e.b n m) l → AreCounted to_right d e (share_point e.a e.b n m) r → l + r ≢ 0 → IsHidden d s (share_point e.a e.b n m)
        by zero zero x y some = absurd (some refl)
        by (suc l) r x y some = let c = some_counted s.triangles l x in hidden_of to_left c.0 c.1
        by zero (suc r) x y some = let c = some_counted s.triangles r y in hidden_of to_right c.0 c.1

    pub hidden_counted : IsHidden d s (share_point e.a e.b n m) ↔ (l + r ≢ 0)
    hidden_counted = (counted_of_hidden, hidden_of_counted)
