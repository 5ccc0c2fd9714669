-- Where no flip may be made.
use Rattle.std.proofs.Common.{◌≡◌, ◌≢◌, ℕ, ◌<◌, ◌≤◌, ◌*◌, List, length, get_or, Some, refl, sym, ap, ◌∙◌, subst, arith, ◌⊎◌, ⊎_elim, Bool}
use Rattle.std.specs.Prelude.{slice_get, Contains, pos, ℤ, ◌+ℤ◌, ◌*ℤ◌, ◌<ℤ◌, ◌≤ℤ◌, ◌-ℤ◌}
use Rattle.std.proofs.lemmas.Int.{ints}
use Rattle.std.proofs.lemmas.List.{get_or_default}
use Rattle.std.proofs.lemmas.Option.{same_Some}
use Rattle.lattice.specs.declared.points.Corner.{Corner}
use Rattle.lattice.specs.declared.soup.Tri.{Tri}
use Rattle.flip_slivers.specs.declared.bounded.Bounded.{Bounded}
use Rattle.flip_slivers.specs.Heights.{HasHeight, IsRoundedUp, side_square}
use Rattle.flip_slivers.specs.Flips.{tri, IsRound, HasSide, IsSideOf, IsFlip, IsRise, first_of, second_of}
use Rattle.flip_slivers.specs.declared.choices.Flip.{Flip}
use Rattle.flip_slivers.specs.declared.choices.Sliver.{Sliver}
use Rattle.flip_slivers.specs.inner.Choices.{IsSliverAt, IsNewBound, IsChoice, AreSettled, IsIdleAt, IsIdleOn, IsIdleBeside, Waits}
use Rattle.flip_slivers.specs.inner.Lists.{IsListed, HasSideAt, list_number, listed_at, triangles_of}
use Rattle.flip_slivers.proofs.ListLemmas.{side_of_round, place_listed}
use Rattle.flip_slivers.proofs.OneHeight.{one_height, rounded_once, rise_back}

-- ---- the third corner beside a side is one
pub third_once : (t : Tri) (m n d e : ℕ) → m ≢ n → IsRound t (tri m n d) → IsRound t (tri m n e) → d ≡ e
third_once t m n d e differ x y = ⊎_elim
    (λ p. ⊎_elim (λ q. at_c p q) (⊎_elim (λ q. absurd (differ (one_two p q))) (λ q. absurd (differ (one_three p q)))) y)
    (⊎_elim
    (λ p. ⊎_elim (λ q. absurd (differ (one_two q p))) (⊎_elim (λ q. at_a p q) (λ q. absurd (differ (two_three p q)))) y)
    (λ p. ⊎_elim (λ q. absurd (differ (one_three q p))) (⊎_elim (λ q. absurd (differ (two_three q p))) (λ q. at_b p q)) y)) x
  where
    at_c : {u v : ℕ} → tri m n u ≡ tri t.a t.b t.c → tri m n v ≡ tri t.a t.b t.c → u ≡ v
    at_c p q = ap (λ (w : Tri). w.c) p ∙ sym (ap (λ (w : Tri). w.c) q)

    at_a : {u v : ℕ} → tri m n u ≡ tri t.b t.c t.a → tri m n v ≡ tri t.b t.c t.a → u ≡ v
    at_a p q = ap (λ (w : Tri). w.c) p ∙ sym (ap (λ (w : Tri). w.c) q)

    at_b : {u v : ℕ} → tri m n u ≡ tri t.c t.a t.b → tri m n v ≡ tri t.c t.a t.b → u ≡ v
    at_b p q = ap (λ (w : Tri). w.c) p ∙ sym (ap (λ (w : Tri). w.c) q)

    one_two : {u v : ℕ} → tri m n u ≡ tri t.a t.b t.c → tri m n v ≡ tri t.b t.c t.a → m ≡ n
    one_two p q = ap (λ (w : Tri). w.a) q ∙ sym (ap (λ (w : Tri). w.b) p)

    one_three : {u v : ℕ} → tri m n u ≡ tri t.a t.b t.c → tri m n v ≡ tri t.c t.a t.b → m ≡ n
    one_three p q = ap (λ (w : Tri). w.a) p ∙ sym (ap (λ (w : Tri). w.b) q)

    two_three : {u v : ℕ} → tri m n u ≡ tri t.b t.c t.a → tri m n v ≡ tri t.c t.a t.b → m ≡ n
    two_three p q = ap (λ (w : Tri). w.a) q ∙ sym (ap (λ (w : Tri). w.b) p)

-- ---- slivers
-- the first side's ends differ
pub ends_differ : (corners : List Corner) (surface : List Bounded) (s : Sliver) → IsSliverAt corners surface s → s.tri.b ≢ s.tri.a
ends_differ corners surface s x same =
    let p = x.height.placed in
    let e : p.b ≡ p.a = same_Some p.b p.a (sym p.at_b ∙ ap (slice_get corners) same ∙ p.at_a) in
    no_way p.a x.side (x.on_longest ∙ ap (side_square p.a) e) x.long
  where
    no_way : (k : Corner) (side : ℤ) → side ≡ side_square k k → pos 0 <ℤ side → ⊥
    no_way k side is long = flat k.x k.y k.z side is long
      where
        gone : (a : ℤ) → a -ℤ a ≡ pos 0
        gone a = omega (arith, ints)

        zeros : (x y z : ℤ) → x ≡ pos 0 → y ≡ pos 0 → z ≡ pos 0 → (x *ℤ x +ℤ y *ℤ y) +ℤ z *ℤ z ≡ pos 0
        zeros x y z e f g =
            let P : ℤ → Type 0 = λ u. (u *ℤ u +ℤ y *ℤ y) +ℤ z *ℤ z ≡ pos 0 in
            let Q : ℤ → Type 0 = λ u. (pos 0 *ℤ pos 0 +ℤ u *ℤ u) +ℤ z *ℤ z ≡ pos 0 in
            let R : ℤ → Type 0 = λ u. (pos 0 *ℤ pos 0 +ℤ pos 0 *ℤ pos 0) +ℤ u *ℤ u ≡ pos 0 in
            subst P (sym e) (subst Q (sym f) (subst R (sym g) refl))

        nothing : (side : ℤ) → side ≡ pos 0 → pos 0 <ℤ side → ⊥
        nothing side e h = omega (arith, ints)

        flat : (a b c side : ℤ) → side ≡ ((a -ℤ a) *ℤ (a -ℤ a) +ℤ (b -ℤ b) *ℤ (b -ℤ b)) +ℤ (c -ℤ c) *ℤ (c -ℤ c) → pos 0 <ℤ side → ⊥
        flat a b c side is long = nothing side (is ∙ zeros (a -ℤ a) (b -ℤ b) (c -ℤ c) (gone a) (gone b) (gone c)) long

-- a sliver's measured height is its height
pub sliver_height : (corners : List Corner) (surface : List Bounded) (s : Sliver) (t : Tri) (area side : ℕ) → HasHeight corners t (pos area) (pos side) → s.tri ≡ t → IsSliverAt corners surface s
    → (0 < side) × (area ≤ 4 * side)
sliver_height corners surface s t area side h e x =
    let P : Tri → Type 0 = λ u. HasHeight corners u x.area x.side in
    let same = one_height corners t x.area x.side (pos area) (pos side) (subst P e x.height) h in
    (long side x.side same.1 x.long, low area side x.area x.side same.0 same.1 x.low)
  where
    long : (n : ℕ) (z : ℤ) → z ≡ pos n → pos 0 <ℤ z → 0 < n
    long n z e h = omega (arith, ints)

    low : (n m : ℕ) (y z : ℤ) → y ≡ pos n → z ≡ pos m → y ≤ℤ (pos 4 *ℤ z) → n ≤ 4 * m
    low n m y z e f h = omega (arith, ints)

pub sliver_side : (corners : List Corner) (surface : List Bounded) (s : Sliver) (t : Tri) (area side first : ℕ) (a b : Corner) → HasHeight corners t (pos area) (pos side) → s.tri ≡ t → IsSliverAt corners surface s
    → slice_get corners t.a ≡ Some a → slice_get corners t.b ≡ Some b → pos first ≡ side_square a b → first ≡ side
sliver_side corners surface s t area side first a b h e x at_a at_b is =
    let P : Tri → Type 0 = λ u. HasHeight corners u x.area x.side in
    let same = one_height corners t x.area x.side (pos area) (pos side) (subst P e x.height) h in
    let p = x.height.placed in
    let there : a ≡ p.a = same_Some a p.a (sym at_a ∙ ap (λ (u : Tri). slice_get corners u.a) (sym e) ∙ p.at_a) in
    let here : b ≡ p.b = same_Some b p.b (sym at_b ∙ ap (λ (u : Tri). slice_get corners u.b) (sym e) ∙ p.at_b) in
    natural first side (is ∙ ap (λ (k : Corner). side_square k b) there ∙ ap (side_square p.a) here ∙ sym x.on_longest ∙ same.1)
  where
    natural : (m n : ℕ) → pos m ≡ pos n → m ≡ n
    natural m n e = cc

-- ---- what a choice says of its parts
pub choice_sliver : (corners : List Corner) (most : ℕ) (surface : List Bounded) (f : Flip) (x : IsChoice corners most surface f) → IsSliverAt corners surface (record { place = f.sliver; tri = tri f.a f.b f.c; rise = x.rise })
choice_sliver corners most surface f x = record {
  given = x.sliver;
  at = x.at_sliver;
  turned = x.is_sliver.turned;
  area = x.area;
  side = x.side;
  height = x.is_sliver.height;
  on_longest = x.is_sliver.on_longest;
  long = x.is_sliver.long;
  low = x.is_sliver.low;
  is_rise = x.is_rise;
}

-- the rise of the sliver
pub choice_rise : (corners : List Corner) (most : ℕ) (surface : List Bounded) (f : Flip) (s : Sliver) → tri f.a f.b f.c ≡ s.tri → (x : IsChoice corners most surface f) → IsSliverAt corners surface s → x.rise ≡ s.rise
choice_rise corners most surface f s turned x sliver =
    let P : Tri → Type 0 = λ t. HasHeight corners t x.area x.side in
    let same = one_height corners s.tri x.area x.side sliver.area sliver.side (subst P turned x.is_sliver.height) sliver.height in
    let A : ℤ → Type 0 = λ z. IsRoundedUp x.rise z x.side in
    let S : ℤ → Type 0 = λ z. IsRoundedUp x.rise sliver.area z in
    rounded_once x.rise s.rise sliver.area sliver.side (subst S same.1 (subst A same.0 x.is_rise)) sliver.is_rise

-- ---- what a choice says of the two triangles that are looked at
pub choice_bound : (corners : List Corner) (most : ℕ) (surface : List Bounded) (f : Flip) (s : Sliver) (x y : Bounded) → slice_get surface f.sliver ≡ Some x → slice_get surface f.neighbour ≡ Some y → tri f.a f.b f.c ≡ s.tri
    → IsChoice corners most surface f → IsSliverAt corners surface s → IsNewBound most x.bound y.bound s.rise f.bound
choice_bound corners most surface f s x y at_x at_y turned choice sliver =
    let first : choice.sliver ≡ x = same_Some choice.sliver x (sym choice.at_sliver ∙ at_x) in
    let second : choice.neighbour ≡ y = same_Some choice.neighbour y (sym choice.at_neighbour ∙ at_y) in
    let P : Bounded → Type 0 = λ z. IsNewBound most z.bound choice.neighbour.bound choice.rise f.bound in
    let Q : Bounded → Type 0 = λ z. IsNewBound most x.bound z.bound choice.rise f.bound in
    let R : ℕ → Type 0 = λ r. IsNewBound most x.bound y.bound r f.bound in
    subst R (choice_rise corners most surface f s turned choice sliver) (subst Q second (subst P first choice.new_bound))

-- the first side of a flip's sliver has two ends
pub choice_differ : (corners : List Corner) (most : ℕ) (surface : List Bounded) (f : Flip) → IsChoice corners most surface f → f.b ≢ f.a
choice_differ corners most surface f x = ends_differ corners surface (record { place = f.sliver; tri = tri f.a f.b f.c; rise = x.rise }) (choice_sliver corners most surface f x)

pub choice_rises : (corners : List Corner) (most : ℕ) (surface : List Bounded) (f : Flip) (x y : Bounded) → slice_get surface f.sliver ≡ Some x → slice_get surface f.neighbour ≡ Some y
    → IsChoice corners most surface f → IsRise corners x.tri y.tri (first_of f.a f.b f.c f.d) (second_of f.a f.b f.c f.d)
choice_rises corners most surface f x y at_x at_y choice =
    let first : choice.sliver ≡ x = same_Some choice.sliver x (sym choice.at_sliver ∙ at_x) in
    let second : choice.neighbour ≡ y = same_Some choice.neighbour y (sym choice.at_neighbour ∙ at_y) in
    let P : Bounded → Type 0 = λ z. IsRise corners z.tri choice.neighbour.tri (first_of f.a f.b f.c f.d) (second_of f.a f.b f.c f.d) in
    let Q : Bounded → Type 0 = λ z. IsRise corners x.tri z.tri (first_of f.a f.b f.c f.d) (second_of f.a f.b f.c f.d) in
    subst Q second (subst P first choice.rises)

-- ---- two triangles beside each other, of which either is the sliver of a flip
-- what the flip asks of the two, with `t` the first one, turned, and d the third corner of the other
pub record Allows (corners : List Corner) (surface : List Bounded) (x y : Bounded) (t : Tri) (d : ℕ) : Type 0 where
  pub no_side : ¬ IsSideOf surface t.c d
  pub no_side_back : ¬ IsSideOf surface d t.c
  pub rises : IsRise corners x.tri y.tri (first_of t.a t.b t.c d) (second_of t.a t.b t.c d)

neighbour_there : (corners : List Corner) (most : ℕ) (surface : List Bounded) (f : Flip) (y : Bounded) → slice_get surface f.neighbour ≡ Some y → IsChoice corners most surface f → IsRound y.tri (tri f.b f.a f.d)
neighbour_there corners most surface f y at x = let P : Bounded → Type 0 = λ z. IsRound z.tri (tri f.b f.a f.d) in subst P (same_Some x.neighbour y (sym x.at_neighbour ∙ at)) x.is_sliver.beside

sliver_there : (corners : List Corner) (most : ℕ) (surface : List Bounded) (f : Flip) (y : Bounded) → slice_get surface f.sliver ≡ Some y → IsChoice corners most surface f → IsRound y.tri (tri f.a f.b f.c)
sliver_there corners most surface f y at x = let P : Bounded → Type 0 = λ z. IsRound z.tri (tri f.a f.b f.c) in subst P (same_Some x.sliver y (sym x.at_sliver ∙ at)) x.is_sliver.turned

-- the other one has the side
pub side_if_sliver : (corners : List Corner) (most : ℕ) (surface : List Bounded) (f : Flip) (t : Tri) (y : Bounded) → tri f.a f.b f.c ≡ t → slice_get surface f.neighbour ≡ Some y → IsChoice corners most surface f → HasSide y.tri t.b t.a
side_if_sliver corners most surface f t y turned at x =
    let P : Tri → Type 0 = λ u. HasSide y.tri u.b u.a in
    subst P turned (side_of_round y.tri f.b f.a f.d (neighbour_there corners most surface f y at x))

pub side_if_neighbour : (corners : List Corner) (most : ℕ) (surface : List Bounded) (f : Flip) (t : Tri) (y : Bounded) → tri f.b f.a f.d ≡ t → slice_get surface f.sliver ≡ Some y → IsChoice corners most surface f → HasSide y.tri t.b t.a
side_if_neighbour corners most surface f t y turned at x =
    let P : Tri → Type 0 = λ u. HasSide y.tri u.b u.a in
    subst P turned (side_of_round y.tri f.a f.b f.c (sliver_there corners most surface f y at x))

pub allows_if_sliver : (corners : List Corner) (most : ℕ) (surface : List Bounded) (f : Flip) (t : Tri) (d : ℕ) (x y : Bounded) → tri f.a f.b f.c ≡ t → slice_get surface f.sliver ≡ Some x → slice_get surface f.neighbour ≡ Some y
    → IsRound y.tri (tri t.b t.a d) → IsChoice corners most surface f → Allows corners surface x y t d
allows_if_sliver corners most surface f t d x y turned at_x at_y beside choice =
    let P : Tri → Type 0 = λ u. IsRound y.tri (tri u.b u.a d) → Allows corners surface x y u d in
    subst P turned from beside
  where
    from : IsRound y.tri (tri f.b f.a d) → Allows corners surface x y (tri f.a f.b f.c) d
    from b =
        let third : f.d ≡ d = third_once y.tri f.b f.a f.d d (choice_differ corners most surface f choice) (neighbour_there corners most surface f y at_y choice) b in
        let Q : ℕ → Type 0 = λ k. Allows corners surface x y (tri f.a f.b f.c) k in
        subst Q third (record {
          no_side = choice.no_side;
          no_side_back = choice.no_side_back;
          rises = choice_rises corners most surface f x y at_x at_y choice;
        })

pub allows_if_neighbour : (corners : List Corner) (most : ℕ) (surface : List Bounded) (f : Flip) (t : Tri) (d : ℕ) (x y : Bounded) → tri f.b f.a f.d ≡ t → slice_get surface f.neighbour ≡ Some x → slice_get surface f.sliver ≡ Some y
    → IsRound y.tri (tri t.b t.a d) → IsChoice corners most surface f → Allows corners surface x y t d
allows_if_neighbour corners most surface f t d x y turned at_x at_y beside choice =
    let P : Tri → Type 0 = λ u. IsRound y.tri (tri u.b u.a d) → Allows corners surface x y u d in
    subst P turned from beside
  where
    from : IsRound y.tri (tri f.a f.b d) → Allows corners surface x y (tri f.b f.a f.d) d
    from b =
        let third : f.c ≡ d = third_once y.tri f.a f.b f.c d (λ e. choice_differ corners most surface f choice (sym e)) (sliver_there corners most surface f y at_y choice) b in
        let Q : ℕ → Type 0 = λ k. Allows corners surface x y (tri f.b f.a f.d) k in
        subst Q third (record {
          no_side = choice.no_side_back;
          no_side_back = choice.no_side;
          rises = rise_back corners y.tri x.tri f.a f.b f.c f.d (choice_rises corners most surface f y x at_y at_x choice);
        })

-- no flip of two triangles that one isn't allowed of
pub idle_beside : (corners : List Corner) (most : ℕ) (surface : List Bounded) (place : ℕ) (t : Tri) (other d : ℕ) (x y : Bounded) → slice_get surface place ≡ Some x → slice_get surface other ≡ Some y
    → IsRound y.tri (tri t.b t.a d) → ¬ Allows corners surface x y t d → IsIdleBeside corners most surface place t other
idle_beside corners most surface place t other d x y at_x at_y beside none = record {
  as_sliver = λ f here turned there choice.
      none (allows_if_sliver corners most surface f t d x y turned (ap (slice_get surface) here ∙ at_x) (ap (slice_get surface) there ∙ at_y) beside choice);
  as_neighbour = λ f here turned there choice.
      none (allows_if_neighbour corners most surface f t d x y turned (ap (slice_get surface) here ∙ at_x) (ap (slice_get surface) there ∙ at_y) beside choice);
}

-- nor where the other one hasn't the side
pub idle_without_side : (corners : List Corner) (most : ℕ) (surface : List Bounded) (place : ℕ) (t : Tri) (other : ℕ) (y : Bounded) → slice_get surface other ≡ Some y → ¬ HasSide y.tri t.b t.a
    → IsIdleBeside corners most surface place t other
idle_without_side corners most surface place t other y at none = record {
  as_sliver = λ f here turned there choice. none (side_if_sliver corners most surface f t y turned (ap (slice_get surface) there ∙ at) choice);
  as_neighbour = λ f here turned there choice. none (side_if_neighbour corners most surface f t y turned (ap (slice_get surface) there ∙ at) choice);
}

-- nor of one with itself
pub idle_with_itself : (corners : List Corner) (most : ℕ) (surface : List Bounded) (place : ℕ) (t : Tri) (other : ℕ) → other ≡ place → IsIdleBeside corners most surface place t other
idle_with_itself corners most surface place t other same = record {
  as_sliver = λ f here turned there choice. choice.different (here ∙ sym same ∙ sym there);
  as_neighbour = λ f here turned there choice. choice.different (there ∙ same ∙ sym here);
}

-- ---- all across a side, and all of a triangle
pub idle_on : (corners : List Corner) (most : ℕ) (surface : List Bounded) (waits : List Bool) (lists : List (List ℕ)) (places : List ℕ) (place : ℕ) (t : Tri) → IsListed (triangles_of surface) lists
    → places ≡ listed_at lists (list_number t.b t.a)
    → ((q : ℕ) → q < length places → Waits waits (get_or places q 0) ⊎ IsIdleBeside corners most surface place t (get_or places q 0)) → IsIdleOn corners most surface waits place t
idle_on corners most surface waits lists places place t listed is each = record {
  as_sliver = λ f here turned choice.
      found f.neighbour (choice.neighbour, choice.at_neighbour, side_if_sliver corners most surface f t choice.neighbour turned choice.at_neighbour choice)
      (λ idle. idle.as_sliver f here turned refl choice);
  as_neighbour = λ f here turned choice.
      found f.sliver (choice.sliver, choice.at_sliver, side_if_neighbour corners most surface f t choice.sliver turned choice.at_sliver choice)
      (λ idle. idle.as_neighbour f here turned refl choice);
}
  where
    found : (other : ℕ) → HasSideAt surface other t.b t.a → (IsIdleBeside corners most surface place t other → ⊥) → Waits waits other
    found other has none =
        let C : List ℕ → Type 0 = λ xs. Contains xs other in
        let there = subst C (sym is) (place_listed surface lists other t.b t.a listed has) in
        let e : get_or places there.0 0 ≡ other = get_or_default places there.0 0 other there.1 ∙ there.2 in
        let W : ℕ → Type 0 = λ k. Waits waits k in
        let I : ℕ → Type 0 = λ k. IsIdleBeside corners most surface place t k in
        ⊎_elim (λ w. subst W e w) (λ idle. absurd (none (subst I e idle))) (each there.0 there.1)

-- the three ways to turn a triangle
pub idle_at : (corners : List Corner) (most : ℕ) (surface : List Bounded) (waits : List Bool) (place : ℕ) (x : Bounded) → slice_get surface place ≡ Some x
    → IsIdleOn corners most surface waits place x.tri → IsIdleOn corners most surface waits place (tri x.tri.b x.tri.c x.tri.a) → IsIdleOn corners most surface waits place (tri x.tri.c x.tri.a x.tri.b)
    → IsIdleAt corners most surface waits place
idle_at corners most surface waits place x at first second third = record {
  as_sliver = λ f here choice.
      ⊎_elim (λ e. first.as_sliver f here e choice) (⊎_elim (λ e. second.as_sliver f here e choice) (λ e. third.as_sliver f here e choice))
      (sliver_there corners most surface f x (ap (slice_get surface) here ∙ at) choice);
  as_neighbour = λ f here choice.
      ⊎_elim (λ e. first.as_neighbour f here e choice) (⊎_elim (λ e. second.as_neighbour f here e choice) (λ e. third.as_neighbour f here e choice))
      (neighbour_there corners most surface f x (ap (slice_get surface) here ∙ at) choice);
}

-- ---- flips that aren't found
-- no flip of a triangle that isn't a sliver on that side
pub no_sliver_choice : (corners : List Corner) (most : ℕ) (surface : List Bounded) (place : ℕ) (t : Tri) → ((s : Sliver) → s.place ≡ place → s.tri ≡ t → IsSliverAt corners surface s → ⊥)
    → (f : Flip) → f.sliver ≡ place → tri f.a f.b f.c ≡ t → IsChoice corners most surface f → ⊥
no_sliver_choice corners most surface place t none f there turned x = none (record { place = f.sliver; tri = tri f.a f.b f.c; rise = x.rise }) there turned (choice_sliver corners most surface f x)

-- ---- no flip is left
pub flip_choice : (corners : List Corner) (most : ℕ) (old new : List Bounded) → AreSettled corners most old → IsFlip corners most old new → ⊥
flip_choice corners most old new none x = none (record { sliver = x.i; neighbour = x.j; a = x.a; b = x.b; c = x.c; d = x.d; bound = x.bound }) (record {
  different = x.different;
  sliver = x.sliver;
  neighbour = x.neighbour;
  at_sliver = x.at_sliver;
  at_neighbour = x.at_neighbour;
  area = x.area;
  side = x.side;
  is_sliver = x.is_sliver;
  no_side = x.no_side;
  no_side_back = x.no_side_back;
  rises = x.rises;
  rise = x.rise;
  is_rise = x.is_rise;
  new_bound = record { is_bound = x.is_bound; within = x.within };
})

-- neither of two triangles beside each other is the sliver of a flip of the two
pub idle_of_two : (corners : List Corner) (most : ℕ) (surface : List Bounded) (place : ℕ) (t : Tri) (other d : ℕ) → ((y : Bounded) → slice_get surface other ≡ Some y → IsRound y.tri (tri t.b t.a d))
    → ((f : Flip) → f.sliver ≡ place → tri f.a f.b f.c ≡ t → f.neighbour ≡ other → ¬ IsChoice corners most surface f)
    → ((f : Flip) → f.sliver ≡ other → tri f.a f.b f.c ≡ tri t.b t.a d → f.neighbour ≡ place → ¬ IsChoice corners most surface f) → IsIdleBeside corners most surface place t other
idle_of_two corners most surface place t other d beside first second = record {
  as_sliver = first;
  as_neighbour = λ f here turned there x. second f there (third_of_other f here turned there x) here x;
}
  where
    third_of_other : (f : Flip) → f.neighbour ≡ place → tri f.b f.a f.d ≡ t → f.sliver ≡ other → IsChoice corners most surface f → tri f.a f.b f.c ≡ tri t.b t.a d
    third_of_other f here turned there x =
        let y = x.sliver in
        let T : Tri → Type 0 = λ u. IsRound y.tri (tri u.b u.a d) in
        let round : IsRound y.tri (tri f.a f.b d) = subst T (sym turned) (beside y (sym (ap (slice_get surface) there) ∙ x.at_sliver)) in
        let third : f.c ≡ d = third_once y.tri f.a f.b f.c d (λ e. choice_differ corners most surface f x (sym e)) x.is_sliver.turned round in
        ap (λ (u : Tri). tri u.b u.a f.c) turned ∙ ap (tri t.b t.a) third
