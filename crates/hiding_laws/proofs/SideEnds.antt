-- What a side of an edge-on face hides of an edge that is seen in line with it, and that where it begins or ceases there is no ordinary point.
use Rattle.std.proofs.Common.{◌≡◌, ◌⊎◌, inl, inr, ℕ, ◌+◌, ◌*◌, ◌<◌, eqb, true, false, [], ◌∷◌, refl, sym, ap, ◌∙◌, subst, arith, mul-pos, All, length}
use Rattle.std.specs.Prelude.{◌≢◌, ℤ, pos, ◌+ℤ◌, ◌-ℤ◌, ◌*ℤ◌, ◌<ℤ◌, ◌≤ℤ◌, ◌↔◌}
use Rattle.std.proofs.lemmas.Int.{ints, by_lt_z}
use Rattle.std.proofs.lemmas.Bool.Decides.{eqb_tells}
use Rattle.geometry.proofs.FacePoints.{edge_point-turned, edge_point-at_share}
use Rattle.integers.proofs.Absolutes.{pos-sum, natural_not_negative, natural_positive}
use Rattle.integers.proofs.Comparisons.{times_zero}
use Rattle.integers.proofs.Ring.{var, con, ◌⊕◌, ◌⊖◌, ◌⊗◌, ring, by_one, less_by, same_of_gap}
use Rattle.integers.proofs.Signs.{mul_pos}
use Rattle.lattice.specs.declared.points.Corner.{Corner}
use Rattle.lattice.specs.Triangles.{IsBelow}
use Rattle.lattice.specs.Triple.{Triple, dot, cross, det, IsZero}
use Rattle.lattice.specs.Points.{Point, point_of, of_corner, scaled, difference, OnOneSight, IsNearer, AreOnePoint}
use Rattle.lattice.proofs.SightAxes.{agree_of_sight, sight_of_agreement, one_point_of_agreement, sight_of_one_point}
use Rattle.lattice.proofs.SightLines.{up_axis-level}
use Rattle.geometry.specs.Faces.{share_point, edge_sum, IsPointOfEdge}
use Rattle.geometry.specs.Parts.{Part, Face, Edge}
use Rattle.geometry.specs.Views.{IsOrdinary, IsSeenOver}
use Rattle.geometry.specs.Sound.{IsSound}
use Rattle.hiding_laws.specs.Values.{SideHides, IsSideOf, IsAhead, IsInLine, IsBehindSide, offset, side_of, value_at, past_of, short_of, behind_of}
use Rattle.hiding_laws.proofs.Values.{behind-share}
use Rattle.hiding_laws.proofs.Ordinary.{not-at-corner, not-at-crossing, not-at-meeting}
use Rattle.hiding_laws.proofs.FrontEnds.{not-at-start, not-at-finish}
use Rattle.hiding_laws.proofs.Readings.{dot-offset, dot-difference, dot-share, dot-sum, det-reads, cross-second, short-is, behind-is, past-nonneg, short-nonneg, behind-positive, weights-sum, weights-meet, weights-behind, level-meet, end-meets, level-end, level-by-meeting, behind-at-first, behind-at-second, only-at-start, only-at-finish}
use Rattle.hiding_laws.proofs.SidePoints.{natural, one-sum, scaled-one, face-of-side, side-listed, HaveCommonEnd, common-end, own-side}

-- ---- along the product of d and the edge's way an edge reads the same all along
module _ (d : Triple) (p q : Corner) where
  abbrev across : Triple
  across = cross d (difference p q)

  share-level : (n m : ℤ) → dot across (scaled (share_point p q n m)) ≡ m *ℤ dot across (of_corner p)
  share-level n m = dot-share across p q n m ∙ even (dot across (of_corner p)) (dot across (of_corner q)) n m (sym (dot-difference across p q) ∙ cross-second d (difference p q))
    where
      even : (a b n m : ℤ) → b -ℤ a ≡ pos 0 → (m -ℤ n) *ℤ a +ℤ n *ℤ b ≡ m *ℤ a
      even a b n m =
          by_one ((m -ℤ n) *ℤ a +ℤ n *ℤ b) (m *ℤ a) (b -ℤ a) (pos 0) n
          (ring (a ∷ b ∷ n ∷ m ∷ []) ((((var 3 ⊖ var 2) ⊗ var 0) ⊕ (var 2 ⊗ var 1)) ⊖ (var 3 ⊗ var 0)) (((var 1 ⊖ var 0) ⊖ con (pos 0)) ⊗ var 2) refl)

  end-level : (k : Corner) → side_of d p q (point_of k) ≡ pos 0 → dot across (of_corner k) ≡ dot across (of_corner p)
  end-level k h = equal _ _ (sym (det-reads d (difference p q) (offset p (point_of k)) ∙ dot-offset across p (point_of k)) ∙ h)
    where
      equal : (a b : ℤ) → a -ℤ pos 1 *ℤ b ≡ pos 0 → a ≡ b
      equal a b h = omega (arith, ints)

  -- and a corner that reads the same is seen on its line
  level-end-of : (k : Corner) → dot across (of_corner k) ≡ dot across (of_corner p) → side_of d p q (point_of k) ≡ pos 0
  level-end-of k h = det-reads d (difference p q) (offset p (point_of k)) ∙ dot-offset across p (point_of k) ∙ none _ _ h
    where
      none : (a b : ℤ) → a ≡ b → a -ℤ pos 1 *ℤ b ≡ pos 0
      none a b h = omega (arith, ints)

-- corners that are in line with an edge are seen at one place if they are equally far along its axis
pub one-sight : (d axis : Triple) (p q k l : Corner) → ¬ IsZero d → IsAhead d axis p q → IsInLine d p q k l → dot axis (difference k l) ≡ pos 0 → OnOneSight d (point_of k) (point_of l)
one-sight d axis p q k l somewhere ahead in_line same =
    sight_of_agreement d axis (difference p q) (point_of k) (point_of l) somewhere ahead.level ahead.forward
    (alike (dot axis (of_corner k)) (dot axis (of_corner l)) (sym (dot-difference axis k l) ∙ same)) (once (dot (across d p q) (of_corner k)) (dot (across d p q) (of_corner l)) (end-level d p q k in_line.0 ∙ sym (end-level d p q l in_line.1)))
  where
    alike : (a b : ℤ) → b -ℤ a ≡ pos 0 → a *ℤ pos 1 ≡ b *ℤ pos 1
    alike a b h = omega (arith, ints)

    once : (a b : ℤ) → a ≡ b → a *ℤ pos 1 ≡ b *ℤ pos 1
    once a b h = ap (λ (v : ℤ). v *ℤ pos 1) h

-- ---- what a side hides is under it
module _ (d axis : Triple) (k l : Corner) (p : Point) (somewhere : ¬ IsZero d) (positive : pos 0 <ℤ p.w) (level : dot axis d ≡ pos 0) (forward : pos 0 <ℤ dot axis (difference k l)) where
  -- a point of the side on the line of sight of p
  module _ (i j : ℕ) (some : 0 < i + j) (same : OnOneSight d (edge_sum k l i j) p) where
    abbrev ak : ℤ
    ak = dot axis (of_corner k)

    abbrev al : ℤ
    al = dot axis (of_corner l)

    abbrev at : ℤ
    at = dot axis (scaled p)

    whole : pos 0 <ℤ (pos i +ℤ pos j)
    whole = natural_positive (i + j) some

    ahead : pos 0 <ℤ (al -ℤ ak)
    ahead = subst (λ (v : ℤ). pos 0 <ℤ v) (dot-difference axis k l) forward

    pub sum-meets : (pos i *ℤ dot axis (of_corner k) +ℤ pos j *ℤ dot axis (of_corner l)) *ℤ p.w ≡ dot axis (scaled p) *ℤ (pos i +ℤ pos j)
    sum-meets = ap (λ (v : ℤ). v *ℤ p.w) (sym (dot-sum axis k l i j)) ∙ agree_of_sight d axis (edge_sum k l i j) p somewhere level same ∙ ap (λ (v : ℤ). at *ℤ v) (pos-sum i j)

    pub sum-past : pos 0 ≤ℤ past_of axis k p
    sum-past = subst (λ (v : ℤ). pos 0 ≤ℤ v) (sym (dot-offset axis k p)) (past-nonneg p.w ak al at (pos i) (pos j) positive whole ahead sum-meets (natural_not_negative j))

    pub sum-short : pos 0 ≤ℤ short_of axis l p
    sum-short = subst (λ (v : ℤ). pos 0 ≤ℤ v) (sym (short-is axis l p)) (short-nonneg p.w ak al at (pos i) (pos j) positive whole ahead sum-meets (natural_not_negative i))

    sum-under : IsNearer d (edge_sum k l i j) p → IsBehindSide d axis k l p
    sum-under nearer =
        let higher : (dot d (scaled p) *ℤ (pos i +ℤ pos j)) <ℤ ((pos i *ℤ dot d (of_corner k) +ℤ pos j *ℤ dot d (of_corner l)) *ℤ p.w) =
        subst (λ (v : ℤ). (dot d (scaled p) *ℤ (pos i +ℤ pos j)) <ℤ (v *ℤ p.w)) (dot-sum d k l i j)
        (subst (λ (v : ℤ). (dot d (scaled p) *ℤ v) <ℤ (dot d (scaled (edge_sum k l i j)) *ℤ p.w)) (pos-sum i j) nearer) in
        record {
          past = sum-past;
          short = sum-short;
          behind = subst (λ (v : ℤ). pos 0 <ℤ v) (sym (behind-is d axis k l p)) (behind-positive p.w ak al at (pos i) (pos j) positive whole ahead sum-meets _ _ _ higher);
        }

  under : SideHides d k l p → IsBehindSide d axis k l p
  under h =
      sum-under h.on_side.0 h.on_side.1 h.on_side.2
      (subst (λ (q : Point). OnOneSight d q p) h.on_side.3 h.same_sight) (subst (λ (q : Point). IsNearer d q p) h.on_side.3 h.nearer)

-- ---- a share of an edge and a side in line with it
module _ (d axis : Triple) (p q k l : Corner) (n m : ℤ) (somewhere : ¬ IsZero d) (positive : pos 0 <ℤ m) (ahead : IsAhead d axis p q) (in_line : IsInLine d p q k l) where
  abbrev here : Point
  here = share_point p q n m

  -- where the share is not past a corner that is in line, nor short of it, it is on the corner's line of sight
  end-sight : (c : Corner) → side_of d p q (point_of c) ≡ pos 0 → dot axis (offset c here) ≡ pos 0 → OnOneSight d (point_of c) here
  end-sight c level none =
      sight_of_agreement d axis (difference p q) (point_of c) here somewhere ahead.level ahead.forward
      (end-meets m (dot axis (of_corner c)) (dot axis (scaled here)) (sym (dot-offset axis c here) ∙ none))
      (level-end m (dot (across d p q) (of_corner c)) (dot (across d p q) (of_corner p)) (dot (across d p q) (scaled here)) (end-level d p q c level) (share-level d p q n m))

  -- the point of the side on the share's line of sight
  module _ (i j : ℕ) (is_i : pos i ≡ short_of axis l here) (is_j : pos j ≡ past_of axis k here) where
    abbrev there : Point
    there = edge_sum k l i j

    along : dot axis (scaled there) *ℤ m ≡ dot axis (scaled here) *ℤ pos (i + j)
    along =
        ap (λ (v : ℤ). v *ℤ m) (dot-sum axis k l i j)
        ∙ weights-meet m (dot axis (of_corner k)) (dot axis (of_corner l)) (dot axis (scaled here)) (pos i) (pos j) (is_i ∙ short-is axis l here) (is_j ∙ dot-offset axis k here)
        ∙ ap (λ (v : ℤ). dot axis (scaled here) *ℤ v) (sym (pos-sum i j))

    level : dot (across d p q) (scaled there) *ℤ m ≡ dot (across d p q) (scaled here) *ℤ pos (i + j)
    level =
        ap (λ (v : ℤ). v *ℤ m) (dot-sum (across d p q) k l i j)
        ∙ level-meet m (dot (across d p q) (of_corner k)) (dot (across d p q) (of_corner l)) (dot (across d p q) (of_corner p)) (dot (across d p q) (scaled here)) (pos i) (pos j)
        (end-level d p q k in_line.0) (end-level d p q l in_line.1) (share-level d p q n m)
        ∙ ap (λ (v : ℤ). dot (across d p q) (scaled here) *ℤ v) (sym (pos-sum i j))

    gap : dot d (scaled there) *ℤ m -ℤ dot d (scaled here) *ℤ pos (i + j) ≡ m *ℤ behind_of d axis k l here
    gap =
        (let up = dot-sum d k l i j in let whole = pos-sum i j in λ t. (up t *ℤ m) -ℤ (dot d (scaled here) *ℤ whole t))
        ∙ weights-behind m (dot axis (of_corner k)) (dot axis (of_corner l)) (dot axis (scaled here)) (pos i) (pos j) (is_i ∙ short-is axis l here) (is_j ∙ dot-offset axis k here)
        (dot d (of_corner k)) (dot d (of_corner l)) (dot d (scaled here))
        ∙ ap (λ (v : ℤ). m *ℤ v) (sym (behind-is d axis k l here))

    pub some-there : pos 0 <ℤ dot axis (difference k l) → 0 < i + j
    some-there forward =
        counted (i + j) (subst (λ (v : ℤ). pos 0 <ℤ v) (sym whole) (mul_pos m (dot axis (difference k l)) positive forward))
      where
        whole : pos (i + j) ≡ m *ℤ dot axis (difference k l)
        whole =
            pos-sum i j
            ∙ weights-sum m (dot axis (of_corner k)) (dot axis (of_corner l)) (dot axis (scaled here)) (pos i) (pos j) (is_i ∙ short-is axis l here) (is_j ∙ dot-offset axis k here)
            ∙ ap (λ (v : ℤ). m *ℤ v) (sym (dot-difference axis k l))

        counted : (a : ℕ) → pos 0 <ℤ pos a → 0 < a
        counted a h = omega (arith, ints)

    pub there-sight : OnOneSight d (edge_sum k l i j) (share_point p q n m)
    there-sight = sight_of_agreement d axis (difference p q) there here somewhere ahead.level ahead.forward along level

    there-hides : pos 0 <ℤ dot axis (difference k l) → pos 0 <ℤ behind_of d axis k l here → SideHides d k l here
    there-hides forward behind = record {
      point = there;
      on_side = (i, j, some-there forward, refl);
      same_sight = there-sight;
      nearer = less_by _ _ (m *ℤ behind_of d axis k l here) gap (mul_pos m (behind_of d axis k l here) positive behind);
    }

    -- edge and side meet in space
    there-is-here : behind_of d axis k l here ≡ pos 0 → AreOnePoint there here
    there-is-here none =
        one_point_of_agreement d axis (difference p q) there here somewhere ahead.level ahead.forward along level
        (same_of_gap _ _ (gap ∙ ap (λ (v : ℤ). m *ℤ v) none ∙ times_zero m))

-- a side in line with the edge, which goes forward as the edge does
pub side-hides : (d axis : Triple) (p q k l : Corner) (n m : ℤ) → ¬ IsZero d → pos 0 <ℤ m → IsAhead d axis p q → IsInLine d p q k l → pos 0 <ℤ dot axis (difference k l)
    → SideHides d k l (share_point p q n m) ↔ IsBehindSide d axis k l (share_point p q n m)
side-hides d axis p q k l n m somewhere positive ahead in_line forward = (
  under d axis k l (share_point p q n m) somewhere positive ahead.level forward,
  λ h.
      let i = natural (short_of axis l (share_point p q n m)) h.short in
      let j = natural (past_of axis k (share_point p q n m)) h.past in
      there-hides d axis p q k l n m somewhere positive ahead in_line i.0 j.0 i.1 j.1 forward h.behind,
)

-- the order of the two ends does not count
pub side-hides-turned : (d : Triple) (k l : Corner) (p : Point) → SideHides d k l p → SideHides d l k p
side-hides-turned d k l p h = record {
  point = h.point;
  on_side = edge_point-turned k l h.point h.on_side;
  same_sight = h.same_sight;
  nearer = h.nearer;
}

module _ (d axis : Triple) (somewhere : ¬ IsZero d) (s : Part) (sound : IsSound s) (in_range : All (IsBelow (length s.corners)) s.triangles) (e : Edge s) (n m : ℤ) (positive : pos 0 <ℤ m) (least : pos 0 ≤ℤ n) (most : n ≤ℤ m) (ahead : IsAhead d axis e.a e.b)
    (f : Face s) (k l : Corner) (side : IsSideOf f k l) where
  abbrev place : Point
  place = share_point e.a e.b n m

  -- the share by whole weights
  record Weights : Type 0 where
    u : ℕ
    v : ℕ
    some : 0 < u + v
    same : place ≡ edge_sum e.a e.b u v

  weights : Weights
  weights = let w = edge_point-at_share e.a e.b n m positive least most in record { u = w.0; v = w.1; some = w.2; same = w.3 }

  over : IsSeenOver d e place
  over = (place, edge_point-at_share e.a e.b n m positive least most, record { across = refl; upward = refl })

  -- a side with parallel projection that has a point on the share's line of sight is in line with the edge
  parallel-in-line : det d (difference e.a e.b) (difference k l) ≡ pos 0 → (i j : ℕ) → 0 < i + j → OnOneSight d (edge_sum k l i j) place → IsInLine d e.a e.b k l
  parallel-in-line parallel i j some same =
      let g = across d e.a e.b in
      let gk = dot g (of_corner k) in
      let gl = dot g (of_corner l) in
      let ge = dot g (of_corner e.a) in
      let alike : gl -ℤ gk ≡ pos 0 = sym (dot-difference g k l) ∙ sym (det-reads d (difference e.a e.b) (difference k l)) ∙ parallel in
      let agree = agree_of_sight d g (edge_sum k l i j) place somewhere (up_axis-level d (difference e.a e.b)) same in
      let meets : (pos i *ℤ gk +ℤ pos j *ℤ gl) *ℤ m ≡ (m *ℤ ge) *ℤ (pos i +ℤ pos j) =
      ap (λ (v : ℤ). v *ℤ m) (sym (dot-sum g k l i j)) ∙ agree ∙ (let level = share-level d e.a e.b n m in let whole = pos-sum i j in λ t. level t *ℤ whole t) in
      let first = level-by-meeting m gk gl ge (pos i) (pos j) positive (natural_positive (i + j) some) alike meets in
      (level-end-of d e.a e.b k first, level-end-of d e.a e.b l (same_of_gap gl gk alike ∙ first))

  -- at an ordinary point a side that has a point on the line of sight is in line with the edge
  pub in-line-over : IsOrdinary d s (share_point e.a e.b n m) → (q : Point) → IsPointOfEdge k l q → OnOneSight d q (share_point e.a e.b n m) → IsInLine d e.a e.b k l
  in-line-over r q on_side same =
      by_equal (det d (difference e.a e.b) (difference k l)) (pos 0)
      (λ parallel. parallel-in-line parallel on_side.0 on_side.1 on_side.2 (subst (λ (q : Point). OnOneSight d q place) on_side.3 same))
      (λ crosses. absurd (not-at-crossing d s place sound.closed in_range e over f k l side q on_side same crosses r))
    where
      by_equal : {P : Type 0} (a b : ℤ) → (a ≡ b → P) → (¬ (a ≡ b) → P) → P
      by_equal a b same other =
          by_lt_z a b (λ less. other (λ e. absurd (omega (arith, ints))))
          (λ most. by_lt_z b a (λ less. other (λ e. absurd (omega (arith, ints)))) (λ least. same (omega (arith, ints))))

  -- and so is a side that hides it
  pub in-line : IsOrdinary d s (share_point e.a e.b n m) → SideHides d k l (share_point e.a e.b n m) → IsInLine d e.a e.b k l
  in-line r h = in-line-over r h.point h.on_side h.same_sight

  -- the edge is a side of the face: the behind is 0 at the end that it shares with the side, and there alone
  not-at-own : HaveCommonEnd k l e.a e.b → behind_of d axis k l (point_of e.a) ≢ behind_of d axis k l (point_of e.b) → behind_of d axis k l place ≡ pos 0 → ¬ IsOrdinary d s place
  not-at-own shared differ none r = go shared
    where
      evenly : value_at (behind_of d axis k l (point_of e.a)) (behind_of d axis k l (point_of e.b)) n m ≡ pos 0
      evenly = sym (behind-share d e.a e.b n m axis k l) ∙ none

      start : behind_of d axis k l (point_of e.a) ≡ pos 0 → ⊥
      start at = not-at-start d s e n m positive least most (only-at-start _ _ n m differ at evenly least) r

      finish : behind_of d axis k l (point_of e.b) ≡ pos 0 → ⊥
      finish at = not-at-finish d s e n m positive least most (only-at-finish _ _ n m differ at evenly most) r

      moved : (c x : Corner) → c ≡ x → behind_of d axis k l (point_of c) ≡ pos 0 → behind_of d axis k l (point_of x) ≡ pos 0
      moved c x same at = subst (λ (y : Corner). behind_of d axis k l (point_of y) ≡ pos 0) same at

      go : HaveCommonEnd k l e.a e.b → ⊥
      go (inl h) = start (moved k e.a h (behind-at-first d axis k l))
      go (inr (inl h)) = finish (moved k e.b h (behind-at-first d axis k l))
      go (inr (inr (inl h))) = start (moved l e.a h (behind-at-second d axis k l))
      go (inr (inr (inr h))) = finish (moved l e.b h (behind-at-second d axis k l))

  -- the edge is none of the face's: it meets the face
  not-at-others : f.number ≢ e.left.number → f.number ≢ e.right.number → (i j : ℕ) → 0 < i + j → AreOnePoint (edge_sum k l i j) place → ¬ IsOrdinary d s place
  not-at-others not_left not_right i j some one r =
      let w = weights in
      let met = edge_sum e.a e.b (w.u * (i + j)) (w.v * (i + j)) in
      let same : met ≡ edge_sum k l (i * (w.u + w.v)) (j * (w.u + w.v)) =
      one-sum e.a e.b k l w.u w.v i j (subst (λ (p : Point). AreOnePoint (edge_sum k l i j) p) w.same one) in
      let sight : OnOneSight d met place =
      subst (λ (p : Point). OnOneSight d met p) (sym w.same) (sight_of_one_point d met (edge_sum e.a e.b w.u w.v) (scaled-one e.a e.b w.u w.v (i + j))) in
      not-at-meeting d s place sound.apart e f met (record {
        not_left = not_left;
        not_right = not_right;
        on_edge = (w.u * (i + j), w.v * (i + j), counted w.u w.v (i + j) w.some some, refl);
        on_face = face-of-side f k l met side (i * (w.u + w.v), j * (w.u + w.v), counted i j (w.u + w.v) some w.some, same);
      }) sight r
    where
      counted : (u v w : ℕ) → 0 < u + v → 0 < w → 0 < u * w + v * w
      counted u v w p q = let product = mul-pos p q in omega (arith, product)

  not-at-root : IsInLine d e.a e.b k l → pos 0 <ℤ dot axis (difference k l) → pos 0 ≤ℤ past_of axis k place → pos 0 ≤ℤ short_of axis l place
      → behind_of d axis k l (point_of e.a) ≢ behind_of d axis k l (point_of e.b) → behind_of d axis k l place ≡ pos 0 → ¬ IsOrdinary d s place
  not-at-root in_line forward past short differ none r = go (eqb_tells f.number e.left.number) (eqb_tells f.number e.right.number)
    where
      own : (f.number ≡ e.left.number) ⊎ (f.number ≡ e.right.number) → ⊥
      own h = not-at-own (common-end f k l e.a e.b side (own-side f e h)) differ none r

      others : f.number ≢ e.left.number → f.number ≢ e.right.number → ⊥
      others not_left not_right =
          let i = natural (short_of axis l place) short in
          let j = natural (past_of axis k place) past in
          not-at-others not_left not_right i.0 j.0
          (some-there d axis e.a e.b k l n m somewhere positive ahead in_line i.0 j.0 i.1 j.1 forward)
          (there-is-here d axis e.a e.b k l n m somewhere positive ahead in_line i.0 j.0 i.1 j.1 none) r

      go : ((eqb f.number e.left.number ≡ true) × (f.number ≡ e.left.number)) ⊎ ((eqb f.number e.left.number ≡ false) × (f.number ≢ e.left.number))
          → ((eqb f.number e.right.number ≡ true) × (f.number ≡ e.right.number)) ⊎ ((eqb f.number e.right.number ≡ false) × (f.number ≢ e.right.number)) → ⊥
      go (inl h) other = own (inl h.1)
      go (inr h) (inl other) = own (inr other.1)
      go (inr h) (inr other) = others h.1 other.1

  -- where the edge passes an end of the side
  pub not-at-ends : IsInLine d e.a e.b k l → (past_of axis k (share_point e.a e.b n m) ≡ pos 0) ⊎ (short_of axis l (share_point e.a e.b n m) ≡ pos 0) → ¬ IsOrdinary d s (share_point e.a e.b n m)
  not-at-ends in_line (inl none) r =
      not-at-corner d s place k (side-listed f k l side).0 (end-sight d axis e.a e.b k l n m somewhere positive ahead in_line k in_line.0 none) r
  not-at-ends in_line (inr none) r =
      not-at-corner d s place l (side-listed f k l side).1 (end-sight d axis e.a e.b k l n m somewhere positive ahead in_line l in_line.1 (turned _ none)) r
    where
      turned : (a : ℤ) → pos 0 -ℤ a ≡ pos 0 → a ≡ pos 0
      turned a h = omega (arith, ints)

  pub not-at-side-end : IsInLine d e.a e.b k l → pos 0 <ℤ dot axis (difference k l)
      → pos 0 ≤ℤ past_of axis k (share_point e.a e.b n m) → pos 0 ≤ℤ short_of axis l (share_point e.a e.b n m) → pos 0 ≤ℤ behind_of d axis k l (share_point e.a e.b n m)
      → (past_of axis k (share_point e.a e.b n m) ≡ pos 0) ⊎ (short_of axis l (share_point e.a e.b n m) ≡ pos 0)
      ⊎ ((behind_of d axis k l (point_of e.a) ≢ behind_of d axis k l (point_of e.b)) × (behind_of d axis k l (share_point e.a e.b n m) ≡ pos 0))
      → ¬ IsOrdinary d s (share_point e.a e.b n m)
  not-at-side-end in_line forward past short behind (inl none) r = not-at-ends in_line (inl none) r
  not-at-side-end in_line forward past short behind (inr (inl none)) r = not-at-ends in_line (inr none) r
  not-at-side-end in_line forward past short behind (inr (inr root)) r = not-at-root in_line forward past short root.0 root.1 r
