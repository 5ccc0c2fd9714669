-- Two lists of pieces that are right for one view, and in order, are alike.
use Rattle.std.proofs.Common.{◌≡◌, ◌⊎◌, inl, inr, ℕ, ◌<◌, List, [], Contains, length, get_or, refl, sym, ap, subst, ◌∙◌, arith}
use Rattle.std.specs.List.{AllZip, AllPairs}
use Rattle.std.proofs.lemmas.Bool.{cases_order}
use Rattle.std.proofs.lemmas.List.Elements.{All-contains}
use Rattle.lattice.specs.declared.points.Spot.{Spot}
use Rattle.lattice.specs.declared.pieces.Piece.{Piece}
use Rattle.lattice.specs.declared.pieces.Style.{Style}
use Rattle.lattice.specs.declared.pieces.Style.TheVariants.{Solid, Dashed, Chain}
use Rattle.lattice.specs.Triple.{Triple}
use Rattle.lattice.specs.Points.{Point, IsPoint, of_spot, OnOneSight}
use Rattle.geometry.specs.Pieces.{LiesOn, LiesOnStyle, ArePiecesParallel, ShareAnEnd, IsBefore, rank_of, PieceStandsBefore, AreInOrder}
use Rattle.geometry.specs.Scenes.{AreRightIn}
use Rattle.geometry.proofs.Sights.{sight_back, sight_on}
use Rattle.line_merge.proofs.Sights.{not_seen, before_on}
use Rattle.drawing_laws.specs.Alike.{AreAlike}
use Rattle.drawing_laws.proofs.Sparse.{ViewLine, IsOnViewLine, IsSparse}
use Rattle.drawing_laws.proofs.InOrder.{same_at, pair_at, alike_in_order}
use Rattle.drawing_laws.proofs.ViewLines.{IsProper, line_through, through_first, through_second, through_proper, on_too, parallel_on}
use Rattle.drawing_laws.proofs.ViewOrder.{IsUpTo, seen_itself, three_ways, before_up_to, up_to_before, up_to_on, not_back, seen_of_both, lies_of_up_to}
use Rattle.drawing_laws.proofs.Shrinking.{IsNear, near}

-- ---- the order of pieces
rank_apart : (s t : Style) → rank_of s < rank_of t → s ≡ t → ⊥
rank_apart s t less same = let e = ap rank_of same in omega (arith, less, e)

module _ (d : Triple) where
  turned : (l m : Piece) → AreAlike d l m → AreAlike d m l
  turned l m h = record { style = sym h.style; a = sight_back d (of_spot l.a) (of_spot m.a) h.a; b = sight_back d (of_spot l.b) (of_spot m.b) h.b }

  one_way : (l m : Piece) → PieceStandsBefore d l m → PieceStandsBefore d m l → ⊥
  one_way l m (inl h) (inl k) = omega (arith, h, k)
  one_way l m (inl h) (inr (same, k)) = rank_apart l.style m.style h (sym same)
  one_way l m (inr (same, h)) (inl k) = rank_apart m.style l.style k (sym same)
  one_way l m (inr (same, inl h)) (inr (e, inl k)) = not_back d (of_spot l.a) (of_spot m.a) l.a.positive m.a.positive h (inl k)
  one_way l m (inr (same, inl h)) (inr (e, inr (k, g))) = not_back d (of_spot l.a) (of_spot m.a) l.a.positive m.a.positive h (inr k)
  one_way l m (inr (same, inr (h, f))) (inr (e, inl k)) = not_back d (of_spot m.a) (of_spot l.a) m.a.positive l.a.positive k (inr h)
  one_way l m (inr (same, inr (h, f))) (inr (e, inr (k, g))) = not_back d (of_spot l.b) (of_spot m.b) l.b.positive m.b.positive f (inl g)

  -- l is seen where m is, and o where q is
  still_before : (l m o q : Spot) → OnOneSight d (of_spot l) (of_spot m) → OnOneSight d (of_spot o) (of_spot q) → IsBefore d (of_spot l) (of_spot o) → IsBefore d (of_spot m) (of_spot q)
  still_before l m o q h k less =
      before_up_to d (of_spot m) (of_spot o) (of_spot q) m.positive o.positive q.positive
      (up_to_before d (of_spot m) (of_spot l) (of_spot o) m.positive l.positive o.positive (inr (sight_back d (of_spot l) (of_spot m) h)) less) (inr k)

  still_seen : (l m o q : Spot) → OnOneSight d (of_spot l) (of_spot m) → OnOneSight d (of_spot o) (of_spot q) → OnOneSight d (of_spot l) (of_spot o) → OnOneSight d (of_spot m) (of_spot q)
  still_seen l m o q h k same = sight_on d (of_spot m) (of_spot l) (of_spot q) l.positive (sight_back d (of_spot l) (of_spot m) h) (sight_on d (of_spot l) (of_spot o) (of_spot q) o.positive same k)

  kept : (l m o q : Piece) → AreAlike d l m → AreAlike d o q → PieceStandsBefore d l o → PieceStandsBefore d m q
  kept l m o q h k (inl less) = inl (subst (λ s. rank_of s < rank_of q.style) h.style (subst (λ s. rank_of l.style < rank_of s) k.style less))
  kept l m o q h k (inr (same, inl less)) = inr (sym h.style ∙ same ∙ k.style, inl (still_before l.a m.a o.a q.a h.a k.a less))
  kept l m o q h k (inr (same, inr (seen, less))) = inr (sym h.style ∙ same ∙ k.style, inr (still_seen l.a m.a o.a q.a h.a k.a seen, still_before l.b m.b o.b q.b h.b k.b less))

-- m goes along the line, from s or before it to t or beyond it
record Spans (d : Triple) (line : ViewLine) (s t : Spot) (m : Piece) : Type 0 where
  on_a : IsOnViewLine d line (of_spot m.a)
  on_b : IsOnViewLine d line (of_spot m.b)
  first : IsUpTo d (of_spot m.a) (of_spot s)
  last : IsUpTo d (of_spot t) (of_spot m.b)

-- m goes along the line, from s or before it to beyond s
record GoesOn (d : Triple) (line : ViewLine) (s : Spot) (m : Piece) : Type 0 where
  on_a : IsOnViewLine d line (of_spot m.a)
  on_b : IsOnViewLine d line (of_spot m.b)
  first : IsUpTo d (of_spot m.a) (of_spot s)
  last : IsBefore d (of_spot s) (of_spot m.b)

-- m is of l's style, on l's line, and goes over all of it
record Covers (d : Triple) (m l : Piece) : Type 0 where
  style : l.style ≡ m.style
  first : IsUpTo d (of_spot m.a) (of_spot l.a)
  last : IsUpTo d (of_spot l.b) (of_spot m.b)
  along : (line : ViewLine) → IsOnViewLine d line (of_spot l.a) → IsOnViewLine d line (of_spot l.b) → IsOnViewLine d line (of_spot m.a) × IsOnViewLine d line (of_spot m.b)

module _ (d : Triple) (Drawn Hidden Traced Ordinary : Point → Type 0) (lines : List ViewLine) (sparse : IsSparse d Ordinary lines) where
  abbrev AreRightHere : List Piece → Type 0
  AreRightHere = AreRightIn d Drawn Hidden Traced Ordinary

  -- ---- on a line
  module _ (line : ViewLine) (proper : IsProper line) where
    ordinary_near : (pieces : List Piece) (s t : Spot) (p : Point) → IsBefore d (of_spot s) (of_spot t) → IsNear d line lines pieces s t p → Ordinary p
    ordinary_near pieces s t p less h = sparse (of_spot s) (of_spot t) p s.positive t.positive h.positive (not_seen d (of_spot s) (of_spot t) less) h.beside

    lies_near : (pieces : List Piece) (s t : Spot) (p : Point) (m : Piece) → Spans d line s t m → IsNear d line lines pieces s t p → LiesOn d m p
    lies_near pieces s t p m over h =
        lies_of_up_to d m.a m.b p line proper over.on_a over.on_b h.on
        (inl (up_to_before d (of_spot m.a) (of_spot s) p m.a.positive s.positive h.positive over.first h.after))
        (inl (before_up_to d p (of_spot t) (of_spot m.b) h.positive t.positive m.b.positive h.before over.last))

    -- pieces of one list that go over one stretch are at one place
    one_place : (xs : List Piece) → AreRightHere xs → (s t : Spot) → IsOnViewLine d line (of_spot s) → IsOnViewLine d line (of_spot t) → IsBefore d (of_spot s) (of_spot t)
        → (l m : Piece) → Spans d line s t l → Spans d line s t m → (i j : ℕ) → i < length xs → get_or xs i l ≡ l → j < length xs → get_or xs j m ≡ m → i ≡ j
    one_place xs right s t on_s on_t less l m over over_too i j in_i e in_j f =
        let (p, h) = near d line proper lines [] s t on_s on_t less in
        by (right.once p h.positive (ordinary_near [] s t p less h)) (lies_near [] s t p l over h) (lies_near [] s t p m over_too h) (cases_order i j)
      where
        by : {p : Point} → AllPairs (λ l m. LiesOn d l p → ¬ LiesOn d m p) xs → LiesOn d l p → LiesOn d m p → (i ≡ j) ⊎ ((i < j) ⊎ (j < i)) → i ≡ j
        by {p} once on_l on_m (inl same) = same
        by {p} once on_l on_m (inr (inl less)) = absurd (pair_at (λ l m. LiesOn d l p → ¬ LiesOn d m p) xs l m i j once less in_j e f on_l on_m)
        by {p} once on_l on_m (inr (inr more)) = absurd (pair_at (λ l m. LiesOn d l p → ¬ LiesOn d m p) xs m l j i once more in_i f e on_m on_l)

    -- a piece does not end where another of its list, line and style begins
    apart_at : (xs : List Piece) → AreRightHere xs → (l m : Piece) (i j : ℕ) → i < length xs → get_or xs i l ≡ l → j < length xs → get_or xs j m ≡ m → ¬ (i ≡ j) → l.style ≡ m.style
        → IsOnViewLine d line (of_spot l.a) → IsOnViewLine d line (of_spot l.b) → IsOnViewLine d line (of_spot m.a) → IsOnViewLine d line (of_spot m.b) → ¬ OnOneSight d (of_spot l.b) (of_spot m.a)
    apart_at xs right l m i j in_i e in_j f apart style la lb ma mb seen = by (cases_order i j)
      where
        by : (i ≡ j) ⊎ ((i < j) ⊎ (j < i)) → ⊥
        by (inl same) = apart same
        by (inr (inl less)) =
            pair_at (λ l m. l.style ≡ m.style → ArePiecesParallel d l m → ¬ ShareAnEnd d l m) xs l m i j right.whole less in_j e f style (parallel_on d line l m proper la lb ma mb) (inr (inr (inl seen)))
        by (inr (inr more)) =
            pair_at (λ l m. l.style ≡ m.style → ArePiecesParallel d l m → ¬ ShareAnEnd d l m) xs m l j i right.whole more in_i f e (sym style) (parallel_on d line m l proper ma mb la lb)
            (inr (inl (sight_back d (of_spot l.b) (of_spot m.a) seen)))

    -- where a piece ends, no other of its list and style goes on
    goes_no_further : (xs : List Piece) → AreRightHere xs → AreInOrder d xs → (l m : Piece) → Contains xs l → Contains xs m → l.style ≡ m.style
        → IsOnViewLine d line (of_spot l.a) → IsOnViewLine d line (of_spot l.b) → ¬ GoesOn d line l.b m
    goes_no_further xs right ordered l m (i, in_i, e) (j, in_j, f) style la lb on = by on.first
      where
        -- they are not at one place, as m goes on beyond l
        apart : ¬ (i ≡ j)
        apart same = not_seen d (of_spot l.b) (of_spot m.b) on.last (subst (λ (v : Piece). OnOneSight d (of_spot l.b) (of_spot v.b)) (same_at xs l m i j same in_i e f) (seen_itself d (of_spot l.b)))

        -- they share the stretch from s to the end of l
        shared : (s : Spot) → IsOnViewLine d line (of_spot s) → IsUpTo d (of_spot l.a) (of_spot s) → IsUpTo d (of_spot m.a) (of_spot s) → IsBefore d (of_spot s) (of_spot l.b) → ⊥
        shared s on_s h k less =
            apart (one_place xs right s l.b on_s lb less l m
            (record { on_a = la; on_b = lb; first = h; last = inr (seen_itself d (of_spot l.b)) }) (record { on_a = on.on_a; on_b = on.on_b; first = k; last = inl on.last }) i j in_i e in_j f)

        by : IsUpTo d (of_spot m.a) (of_spot l.b) → ⊥
        by (inr seen) = apart_at xs right l m i j in_i e in_j f apart style la lb on.on_a on.on_b (sight_back d (of_spot m.a) (of_spot l.b) seen)
        by (inl less) = later (three_ways d (of_spot l.a) (of_spot m.a))
          where
            later : IsBefore d (of_spot l.a) (of_spot m.a) ⊎ (OnOneSight d (of_spot l.a) (of_spot m.a) ⊎ IsBefore d (of_spot m.a) (of_spot l.a)) → ⊥
            later (inl h) = shared m.a on.on_a (inl h) (inr (seen_itself d (of_spot m.a))) less
            later (inr (inl h)) = shared m.a on.on_a (inr h) (inr (seen_itself d (of_spot m.a))) less
            later (inr (inr h)) = shared l.a la (inr (seen_itself d (of_spot l.a))) (inl h) (All-contains (λ l. IsBefore d (of_spot l.a) (of_spot l.b)) xs l ordered.ends (i, in_i, e))

  -- ---- of two lists
  module _ (xs ys : List Piece) (right : AreRightHere xs) (ordered : AreInOrder d xs) (right_too : AreRightHere ys) (ordered_too : AreInOrder d ys) where
    in_both : (style : Style) (p : Point) → IsPoint p → Ordinary p → LiesOnStyle d xs style p → LiesOnStyle d ys style p
    in_both Solid p is ordinary h = (right_too.visible p is ordinary).1 ((right.visible p is ordinary).0 h)
    in_both Dashed p is ordinary h = (right_too.hidden p is ordinary).1 ((right.hidden p is ordinary).0 h)
    in_both Chain p is ordinary h = (right_too.traced p is ordinary).1 ((right.traced p is ordinary).0 h)

    module _ (l : Piece) (there : Contains xs l) where
      ends : IsBefore d (of_spot l.a) (of_spot l.b)
      ends = All-contains (λ l. IsBefore d (of_spot l.a) (of_spot l.b)) xs l ordered.ends there

      abbrev line : ViewLine
      line = line_through d (of_spot l.a) (of_spot l.b)

      apart : ¬ OnOneSight d (of_spot l.a) (of_spot l.b)
      apart = not_seen d (of_spot l.a) (of_spot l.b) ends

      proper : IsProper line
      proper = through_proper d (of_spot l.a) (of_spot l.b) apart

      on_a : IsOnViewLine d line (of_spot l.a)
      on_a = through_first d (of_spot l.a) (of_spot l.b)

      on_b : IsOnViewLine d line (of_spot l.b)
      on_b = through_second d (of_spot l.a) (of_spot l.b)

      -- from each spot of l but its last there goes on a piece of the other list
      goes_on : (s : Spot) → IsOnViewLine d line (of_spot s) → IsUpTo d (of_spot l.a) (of_spot s) → IsBefore d (of_spot s) (of_spot l.b)
          → (m : Piece) × Contains ys m × (m.style ≡ l.style) × GoesOn d line s m
      goes_on s on_s first less =
          let (p, h) = near d line proper lines ys s l.b on_s on_b less in
          let over : Spans d line s l.b l = record { on_a = on_a; on_b = on_b; first = first; last = inr (seen_itself d (of_spot l.b)) } in
          let (m, in_ys, style, lies) = in_both l.style p h.positive (ordinary_near line proper ys s l.b p less h) (l, there, refl, lies_near line proper ys s l.b p l over h) in
          let on = h.over m in_ys (All-contains (λ l. IsBefore d (of_spot l.a) (of_spot l.b)) ys m ordered_too.ends in_ys) lies in (
            m,
            in_ys,
            style,
            record {
              on_a = on.on_a;
              on_b = on.on_b;
              first = on.first;
              last = before_on d (of_spot s) p (of_spot m.b) s.positive h.positive m.b.positive h.after on.last;
            },
          )

      -- and it goes on to the end of l
      cover : (m : Piece) × Contains ys m × Covers d m l
      cover =
          let (m, in_ys, style, on) = goes_on l.a on_a (inr (seen_itself d (of_spot l.a))) ends in (
            m,
            in_ys,
            record {
              style = sym style;
              first = on.first;
              last = by m in_ys style on (three_ways d (of_spot l.b) (of_spot m.b));
              along = λ n la lb. (
                on_too d line n (of_spot l.a) (of_spot l.b) (of_spot m.a) proper apart on_a on_b on.on_a la lb,
                on_too d line n (of_spot l.a) (of_spot l.b) (of_spot m.b) proper apart on_a on_b on.on_b la lb,
              );
            },
          )
        where
          by : (m : Piece) → Contains ys m → m.style ≡ l.style → GoesOn d line l.a m
              → IsBefore d (of_spot l.b) (of_spot m.b) ⊎ (OnOneSight d (of_spot l.b) (of_spot m.b) ⊎ IsBefore d (of_spot m.b) (of_spot l.b)) → IsUpTo d (of_spot l.b) (of_spot m.b)
          by m in_ys style on (inl h) = inl h
          by m in_ys style on (inr (inl h)) = inr h
          by m in_ys style on (inr (inr h)) =
              let (o, in_too, style_too, further) = goes_on m.b on.on_b (inl on.last) h in
              absurd (goes_no_further line proper ys right_too ordered_too m o in_ys in_too (style ∙ sym style_too) on.on_a on.on_b further)

  -- what covers what covers a piece is that piece
  module _ (xs ys : List Piece) (right : AreRightHere xs) (ordered : AreInOrder d xs) (right_too : AreRightHere ys) (ordered_too : AreInOrder d ys) where
    alike : (l : Piece) → Contains xs l → (m : Piece) × Contains ys m × AreAlike d l m
    alike l (i, in_i, e) =
        let (m, in_ys, over) = cover xs ys right ordered right_too ordered_too l (i, in_i, e) in
        let (o, (j, in_j, f), over_too) = cover ys xs right_too ordered_too right ordered m in_ys in
        let less : IsBefore d (of_spot l.a) (of_spot l.b) = All-contains (λ l. IsBefore d (of_spot l.a) (of_spot l.b)) xs l ordered.ends (i, in_i, e) in
        let line = line_through d (of_spot l.a) (of_spot l.b) in
        let on_a = through_first d (of_spot l.a) (of_spot l.b) in
        let on_b = through_second d (of_spot l.a) (of_spot l.b) in
        let on_m = over.along line on_a on_b in
        let on_o = over_too.along line on_m.0 on_m.1 in
        let itself : Spans d line l.a l.b l = record { on_a = on_a; on_b = on_b; first = inr (seen_itself d (of_spot l.a)); last = inr (seen_itself d (of_spot l.b)) } in
        let spans : Spans d line l.a l.b o = record {
          on_a = on_o.0;
          on_b = on_o.1;
          first = up_to_on d (of_spot o.a) (of_spot m.a) (of_spot l.a) o.a.positive m.a.positive l.a.positive over_too.first over.first;
          last = up_to_on d (of_spot l.b) (of_spot m.b) (of_spot o.b) l.b.positive m.b.positive o.b.positive over.last over_too.last;
        } in
        let place = one_place line (through_proper d (of_spot l.a) (of_spot l.b) (not_seen d (of_spot l.a) (of_spot l.b) less)) xs right l.a l.b on_a on_b less l o itself spans i j in_i e in_j f in
        let same : l ≡ o = same_at xs l o i j place in_i e f in (
          m,
          in_ys,
          record {
            style = over.style;
            a = seen_of_both d (of_spot l.a) (of_spot m.a) l.a.positive m.a.positive (subst (λ (v : Piece). IsUpTo d (of_spot v.a) (of_spot m.a)) (sym same) over_too.first) over.first;
            b = seen_of_both d (of_spot l.b) (of_spot m.b) l.b.positive m.b.positive over.last (subst (λ (v : Piece). IsUpTo d (of_spot m.b) (of_spot v.b)) (sym same) over_too.last);
          },
        )

  pub one_list : (pieces others : List Piece) → AreRightHere pieces → AreInOrder d pieces → AreRightHere others → AreInOrder d others → AllZip (AreAlike d) pieces others
  one_list pieces others right ordered right_too ordered_too =
      alike_in_order (AreAlike d) (PieceStandsBefore d) (turned d) (one_way d) (kept d) pieces others ordered.order ordered_too.order
      (alike pieces others right ordered right_too ordered_too) (alike others pieces right_too ordered_too right ordered)
