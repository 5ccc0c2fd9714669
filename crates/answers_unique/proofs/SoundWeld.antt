-- The weld of a sound part is sound: it has the same triangles, and other numbers of their corners.
use Rattle.std.proofs.Common.{◌≡◌, ◌≢◌, ℕ, zero, suc, ◌/◌, ◌%◌, ◌<◌, ◌≤◌, ◌⊎◌, inl, inr, true, false, Bool, not, ◌&&◌, filter, pos, List, [], ◌∷◌, All, AllPairs, cond, drop, length, map, get_or, slice_get, Some, None, option_map, refl, sym, ap, subst, ◌∙◌, arith}
use Rattle.std.specs.Ordering.{int_eq}
use Rattle.std.proofs.lemmas.Bool.{cases_order}
use Rattle.std.proofs.lemmas.Bool.Decides.{Decides-int_eq}
use Rattle.std.proofs.lemmas.List.{length-map}
use Rattle.std.proofs.lemmas.Option.{slice_get-map, slice_get_cases, slice_get_within, get_or_from_slice_get, same_Some}
use Rattle.integers.proofs.Lists.{some_element}
use Rattle.lattice.specs.declared.points.Corner.{Corner}
use Rattle.lattice.specs.declared.soup.Tri.{Tri}
use Rattle.lattice.specs.Points.{Point, of_corner}
use Rattle.lattice.specs.Triangles.{IsBelow}
use Rattle.lattice.specs.Triple.{Triple}
use Rattle.geometry.specs.Parts.{Part, Face, Edge, IsHalf, IsCornerOf, IsClosed, HasNoDouble, start_of, end_of}
use Rattle.geometry.specs.Sound.{IsSound, MeetsFace, IsAtSharedCorner, MeetInSharedCorners}
use Rattle.geometry.proofs.EachEdge.{flat_face}
use Rattle.geometry.proofs.Listed.{triangle_below, face_at}
use Rattle.weld.specs.Welds.{vertex_at, placed, are_different, is_one_place, proper_of, IsWeldOf}
use Rattle.answers_unique.proofs.OneCorner.{same_corner}
use Rattle.answers_unique.proofs.SoundParts.{number_once, start_is_corner, end_is_corner}

-- ---- triangles at the same corners, with other numbers
-- two numbers stand for one corner
abbrev AtOne : List Corner → List Corner → ℕ → ℕ → Type 0
AtOne corners others m n = (c : Corner) × (slice_get corners m ≡ Some c) × (slice_get others n ≡ Some c)

-- the triangle at a place of the part s has the corners of t, one by one
record IsMatched (s : Part) (others : List Corner) (i : ℕ) (t : Tri) : Type 0 where
  tri : Tri
  at : slice_get s.triangles i ≡ Some tri
  a : AtOne s.corners others tri.a t.a
  b : AtOne s.corners others tri.b t.b
  c : AtOne s.corners others tri.c t.c

-- each triangle of t is matched by the one of s at its place
abbrev AreMatched : Part → Part → Type 0
AreMatched s t = (i : ℕ) (u : Tri) → slice_get t.triangles i ≡ Some u → IsMatched s t.corners i u

-- ---- over from one part to the other
module _ (s t : Part) (matched : AreMatched s t) where
  start_over : (i : ℕ) (u : Tri) (m : IsMatched s t.corners i u) (side : ℕ) → AtOne s.corners t.corners (start_of m.tri side) (start_of u side)
  start_over i u m zero = m.a
  start_over i u m (suc zero) = m.b
  start_over i u m (suc (suc side)) = m.c

  end_over : (i : ℕ) (u : Tri) (m : IsMatched s t.corners i u) (side : ℕ) → AtOne s.corners t.corners (end_of m.tri side) (end_of u side)
  end_over i u m zero = m.b
  end_over i u m (suc zero) = m.c
  end_over i u m (suc (suc side)) = m.a

  record IsHalfOver (half m n : ℕ) : Type 0 where
    start : ℕ
    end : ℕ
    goes : IsHalf s half start end
    at_start : AtOne s.corners t.corners start m
    at_end : AtOne s.corners t.corners end n

  half_over : (half m n : ℕ) → IsHalf t half m n → IsHalfOver half m n
  half_over half m n h =
      let found = matched (half / 3) h.tri h.at in
      record {
        start = start_of found.tri (half % 3);
        end = end_of found.tri (half % 3);
        goes = record { tri = found.tri; at = found.at; start = refl; end = refl };
        at_start = subst (λ (k : ℕ). AtOne s.corners t.corners (start_of found.tri (half % 3)) k) h.start (start_over (half / 3) h.tri found (half % 3));
        at_end = subst (λ (k : ℕ). AtOne s.corners t.corners (end_of found.tri (half % 3)) k) h.end (end_over (half / 3) h.tri found (half % 3));
      }

-- a corner of one of two triangles that are matched
corner_over : (s : Part) (others : List Corner) (i : ℕ) (u : Tri) (m : IsMatched s others i u) (k : ℕ) → IsCornerOf u k → (n : ℕ) × IsCornerOf m.tri n × AtOne s.corners others n k
corner_over s others i u m k (inl e) = (m.tri.a, inl refl, subst (λ (l : ℕ). AtOne s.corners others m.tri.a l) e m.a)
corner_over s others i u m k (inr (inl e)) = (m.tri.b, inr (inl refl), subst (λ (l : ℕ). AtOne s.corners others m.tri.b l) e m.b)
corner_over s others i u m k (inr (inr e)) = (m.tri.c, inr (inr refl), subst (λ (l : ℕ). AtOne s.corners others m.tri.c l) e m.c)

corner_back : (s : Part) (others : List Corner) (i : ℕ) (u : Tri) (m : IsMatched s others i u) (n : ℕ) → IsCornerOf m.tri n → (k : ℕ) × IsCornerOf u k × AtOne s.corners others n k
corner_back s others i u m n (inl e) = (u.a, inl refl, subst (λ (l : ℕ). AtOne s.corners others l u.a) e m.a)
corner_back s others i u m n (inr (inl e)) = (u.b, inr (inl refl), subst (λ (l : ℕ). AtOne s.corners others l u.b) e m.b)
corner_back s others i u m n (inr (inr e)) = (u.c, inr (inr refl), subst (λ (l : ℕ). AtOne s.corners others l u.c) e m.c)

-- what stands at the other number
there_too : (corners others : List Corner) (m n : ℕ) (c : Corner) → AtOne corners others m n → slice_get others n ≡ Some c → slice_get corners m ≡ Some c
there_too corners others m n c (d, here, there) at = here ∙ sym there ∙ at

there_back : (corners others : List Corner) (m n : ℕ) (c : Corner) → AtOne corners others m n → slice_get corners m ≡ Some c → slice_get others n ≡ Some c
there_back corners others m n c (d, here, there) at = there ∙ sym here ∙ at

-- corners at different places have one number each
distinct_once : (corners : List Corner) → AllPairs (λ c d. of_corner c ≢ of_corner d) corners → (m n : ℕ) (c : Corner) → slice_get corners m ≡ Some c → slice_get corners n ≡ Some c → m ≡ n
distinct_once corners distinct m n c here there = by (cases_order m n)
  where
    differ : (i j : ℕ) → i < j → slice_get corners i ≡ Some c → slice_get corners j ≡ Some c → ⊥
    differ i j less first second =
        distinct i j c less (slice_get_within corners j c second) (ap of_corner (get_or_from_slice_get corners i c c first ∙ sym (get_or_from_slice_get corners j c c second)))

    by : (m ≡ n) ⊎ ((m < n) ⊎ (n < m)) → m ≡ n
    by (inl same) = same
    by (inr (inl less)) = absurd (differ m n less here there)
    by (inr (inr less)) = absurd (differ n m less there here)

-- ---- a part that is matched with a sound one
module _ (s t : Part) (in_range : All (IsBelow (length s.corners)) s.triangles) (sound : IsSound s) (distinct : AllPairs (λ c d. of_corner c ≢ of_corner d) t.corners)
    (as_many : length t.triangles ≡ length s.triangles) (over : AreMatched s t)
    (back : AreMatched t s) where
  -- numbers of s that stand for one number of t, in triangles of s
  one_below : (i j m n k : ℕ) (u v : Tri) → slice_get s.triangles i ≡ Some u → IsCornerOf u m → slice_get s.triangles j ≡ Some v → IsCornerOf v n → AtOne s.corners t.corners m k → AtOne s.corners t.corners n k → m ≡ n
  one_below i j m n k u v at_u of_u at_v of_v (c, here, there) other =
      number_once s in_range sound i j m n u v c at_u of_u at_v of_v here (there_too s.corners t.corners n k c other there)

  -- numbers of t that stand for one number of s
  one_above : (m k l : ℕ) → AtOne s.corners t.corners m k → AtOne s.corners t.corners m l → k ≡ l
  one_above m k l (c, here, there) other = distinct_once t.corners distinct k l c there (there_back s.corners t.corners m l c other here)

  turned : (m n : ℕ) → AtOne t.corners s.corners m n → AtOne s.corners t.corners n m
  turned m n (c, here, there) = (c, there, here)

  of_half_start : (half m n : ℕ) (h : IsHalf s half m n) → IsCornerOf h.tri m
  of_half_start half m n h = start_is_corner h.tri (half % 3) m h.start

  of_half_end : (half m n : ℕ) (h : IsHalf s half m n) → IsCornerOf h.tri n
  of_half_end half m n h = end_is_corner h.tri (half % 3) n h.end

  one_half : (half m n k l : ℕ) → m ≡ k → n ≡ l → IsHalf s half m n → IsHalf s half k l
  one_half half m n k l e f h = subst (λ (x : ℕ). IsHalf s half x l) e (subst (λ (x : ℕ). IsHalf s half m x) f h)

  abbrev face_over : Face t → Face s
  face_over f = record {
    number = f.number;
    tri = (over f.number f.tri f.listed).tri;
    a = f.a;
    b = f.b;
    c = f.c;
    listed = (over f.number f.tri f.listed).at;
    at_a = there_too s.corners t.corners (over f.number f.tri f.listed).tri.a f.tri.a f.a (over f.number f.tri f.listed).a f.at_a;
    at_b = there_too s.corners t.corners (over f.number f.tri f.listed).tri.b f.tri.b f.b (over f.number f.tri f.listed).b f.at_b;
    at_c = there_too s.corners t.corners (over f.number f.tri f.listed).tri.c f.tri.c f.c (over f.number f.tri f.listed).c f.at_c;
  }

  side_once : (half other m n : ℕ) → IsHalf t half m n → IsHalf t other m n → half ≡ other
  side_once half other m n h k =
      let first = half_over s t over half m n h in
      let second = half_over s t over other m n k in
      let start : second.start ≡ first.start =
      one_below (other / 3) (half / 3) second.start first.start m second.goes.tri first.goes.tri second.goes.at (of_half_start other second.start second.end second.goes)
      first.goes.at (of_half_start half first.start first.end first.goes) second.at_start first.at_start in
      let end : second.end ≡ first.end =
      one_below (other / 3) (half / 3) second.end first.end n second.goes.tri first.goes.tri second.goes.at (of_half_end other second.start second.end second.goes)
      first.goes.at (of_half_end half first.start first.end first.goes) second.at_end first.at_end in
      sound.closed.once half other first.start first.end first.goes (one_half other second.start second.end first.start first.end start end second.goes)

  goes_back : (half m n : ℕ) → IsHalf t half m n → (other : ℕ) × IsHalf t other n m
  goes_back half m n h =
      let first = half_over s t over half m n h in
      let (other, returns) = sound.closed.returns half first.start first.end first.goes in
      let second = half_over t s back other first.end first.start returns in
      let start : second.start ≡ n = one_above first.end second.start n (turned second.start first.end second.at_start) first.at_end in
      let end : second.end ≡ m = one_above first.start second.end m (turned second.end first.start second.at_end) first.at_start in
      (other, subst (λ (x : ℕ). IsHalf t other x m) start (subst (λ (x : ℕ). IsHalf t other second.start x) end second.goes))

  closed : IsClosed t
  closed = record { none_flat = λ f flat. sound.closed.none_flat (face_over f) flat; once = side_once; returns = goes_back }

  -- ---- triangles on the same corners
  same_below : (i j : ℕ) (u v : Tri) (p : IsMatched s t.corners i u) (q : IsMatched s t.corners j v) → ((n : ℕ) → IsCornerOf u n → IsCornerOf v n) → (n : ℕ) → IsCornerOf p.tri n → IsCornerOf q.tri n
  same_below i j u v p q same n has =
      let (k, of_u, at) = corner_back s t.corners i u p n has in
      let (m, of_other, at_too) = corner_over s t.corners j v q k (same k of_u) in
      subst (λ (x : ℕ). IsCornerOf q.tri x) (one_below j i m n k q.tri p.tri q.at of_other p.at has at_too at) of_other

  no_double : HasNoDouble t
  no_double i j d =
      let p = over i d.first d.at_first in
      let q = over j d.second d.at_second in
      sound.no_double i j (record {
        first = p.tri;
        second = q.tri;
        at_first = p.at;
        at_second = q.at;
        same = λ n. (same_below i j d.first d.second p q (λ k. (d.same k).0) n, same_below j i d.second d.first q p (λ k. (d.same k).1) n);
      })

  -- ---- meetings
  module _ (e : Edge t) (f : Face t) (q : Point) (meets : MeetsFace e f q) where
    along : IsHalfOver s t over e.half e.m e.n
    along = half_over s t over e.half e.m e.n e.goes

    across : IsHalfOver s t over e.other e.n e.m
    across = half_over s t over e.other e.n e.m e.returns

    returns : IsHalf s e.other along.end along.start
    returns =
        one_half e.other across.start across.end along.end along.start
        (one_below (e.other / 3) (e.half / 3) across.start along.end e.n across.goes.tri along.goes.tri across.goes.at (of_half_start e.other across.start across.end across.goes)
        along.goes.at (of_half_end e.half along.start along.end along.goes) across.at_start along.at_end)
        (one_below (e.other / 3) (e.half / 3) across.end along.start e.m across.goes.tri along.goes.tri across.goes.at (of_half_end e.other across.start across.end across.goes)
        along.goes.at (of_half_start e.half along.start along.end along.goes) across.at_end along.at_start) across.goes

    abbrev edge_over : Edge s
    edge_over = record {
      half = e.half;
      other = e.other;
      m = along.start;
      n = along.end;
      a = e.a;
      b = e.b;
      left = face_over e.left;
      right = face_over e.right;
      goes = along.goes;
      returns = returns;
      on_left = e.on_left;
      on_right = e.on_right;
      at_m = there_too s.corners t.corners along.start e.m e.a along.at_start e.at_m;
      at_n = there_too s.corners t.corners along.end e.n e.b along.at_end e.at_n;
    }

    shared : IsAtSharedCorner edge_over (face_over f) q
    shared = sound.apart edge_over (face_over f) q (record { not_left = meets.not_left; not_right = meets.not_right; on_edge = meets.on_edge; on_face = meets.on_face })

    -- the number of t's
    number_of : (below above : ℕ) (c : Corner) → below ≡ shared.number → AtOne s.corners t.corners below above → slice_get t.corners above ≡ Some c → IsCornerOf f.tri above × (slice_get t.corners above ≡ Some shared.corner)
    number_of below above c same at here =
        let (k, has, at_too) = corner_back s t.corners f.number f.tri (over f.number f.tri f.listed) shared.number shared.of_face in
        let at_number : AtOne s.corners t.corners shared.number above = subst (λ (x : ℕ). AtOne s.corners t.corners x above) same at in (
          subst (λ (x : ℕ). IsCornerOf f.tri x) (one_above shared.number k above at_too at_number) has,
          there_back s.corners t.corners shared.number above shared.corner at_number shared.at,
        )

    meeting : IsAtSharedCorner e f q
    meeting = by shared.of_edge
      where
        by : (along.start ≡ shared.number) ⊎ (along.end ≡ shared.number) → IsAtSharedCorner e f q
        by (inl same) =
            let found = number_of along.start e.m e.a same along.at_start e.at_m in
            record { number = e.m; corner = shared.corner; at = found.1; of_edge = inl refl; of_face = found.0; here = shared.here }
        by (inr same) =
            let found = number_of along.end e.n e.b same along.at_end e.at_n in
            record { number = e.n; corner = shared.corner; at = found.1; of_edge = inr refl; of_face = found.0; here = shared.here }

  apart : MeetInSharedCorners t
  apart e f q meets = meeting e f q meets

  matched_sound : IsSound t
  matched_sound = record { some = omega (arith, as_many, sound.some); closed = closed; no_double = no_double; apart = apart }

-- ---- triangles at the same places
same_at : {A B X : Type 0} (f : A → X) (g : B → X) (xs : List A) (ys : List B) → map f xs ≡ map g ys → (i : ℕ) (x : A) → slice_get xs i ≡ Some x → (y : B) × (slice_get ys i ≡ Some y) × (f x ≡ g y)
same_at f g [] ys e i x at = absurd (cc)
same_at f g (z ∷ xs) [] e i x at = let no : f z ∷ map f xs ≡ [] = e in cc
same_at f g (z ∷ xs) (y ∷ ys) e zero x at = (y, refl, ap f (sym (same_Some z x at)) ∙ ap (λ l. get_or l 0 (f z)) e)
same_at f g (z ∷ xs) (y ∷ ys) e (suc i) x at = same_at f g xs ys (ap (λ l. drop 1 l) e) i x at

vertex_is : (corners : List Corner) (i : ℕ) (c : Corner) → slice_get corners i ≡ Some c → vertex_at (map of_corner corners) i ≡ of_corner c
vertex_is corners i c at = get_or_from_slice_get (map of_corner corners) i (of_corner c) (record { x = pos 0; y = pos 0; z = pos 0 }) (slice_get-map of_corner corners i ∙ ap (option_map of_corner) at)

at_one : (corners others : List Corner) (m n : ℕ) → m < length corners → n < length others → vertex_at (map of_corner corners) m ≡ vertex_at (map of_corner others) n → AtOne corners others m n
at_one corners others m n below within same =
    let c = some_element corners m below in
    let d = some_element others n within in
    (c.0, c.1, d.1 ∙ ap Some (sym (same_corner c.0 d.0 (sym (vertex_is corners m c.0 c.1) ∙ same ∙ vertex_is others n d.0 d.1))))

matched_at : (s t : Part) → All (IsBelow (length s.corners)) s.triangles → All (IsBelow (length t.corners)) t.triangles
    → map (placed (map of_corner t.corners)) t.triangles ≡ map (placed (map of_corner s.corners)) s.triangles → AreMatched s t
matched_at s t below within same i u at =
    let found = same_at (placed (map of_corner t.corners)) (placed (map of_corner s.corners)) t.triangles s.triangles same i u at in
    let here = triangle_below s below found.0 i found.1 in
    let there = triangle_below t within u i at in
    record {
      tri = found.0;
      at = found.1;
      a = at_one s.corners t.corners found.0.a u.a here.a there.a (sym (ap (λ (p : Triple × Triple × Triple). p.0) found.2));
      b = at_one s.corners t.corners found.0.b u.b here.b there.b (sym (ap (λ (p : Triple × Triple × Triple). p.1) found.2));
      c = at_one s.corners t.corners found.0.c u.c here.c there.c (sym (ap (λ (p : Triple × Triple × Triple). p.2) found.2));
    }

-- ---- all triangles of a sound part are proper
all_true : (a b c : Bool) → (a && b && c) ≡ true → (a ≡ true) × (b ≡ true) × (c ≡ true)
all_true true true true e = (refl, refl, refl)
all_true true true false e = absurd (cc)
all_true true false c e = absurd (cc)
all_true false b c e = absurd (cc)

are_true : (a b c : Bool) → a ≡ true → b ≡ true → c ≡ true → (a && b && c) ≡ true
are_true true true true e f g = refl
are_true true true false e f g = g
are_true true false c e f g = absurd (cc)
are_true false b c e f g = absurd (cc)

not_true : (b : Bool) → (b ≡ true → ⊥) → not b ≡ true
not_true true h = absurd (h refl)
not_true false h = refl

one_place : (p q : Triple) → is_one_place p q ≡ true → p ≡ q
one_place p q h =
    let each = all_true (int_eq p.x q.x) (int_eq p.y q.y) (int_eq p.z q.z) h in
    let x = (Decides-int_eq p.x q.x).0 each.0 in
    let y = (Decides-int_eq p.y q.y).0 each.1 in
    let z = (Decides-int_eq p.z q.z).0 each.2 in
    λ i. record { x = x i; y = y i; z = z i }

filter_all : {X : Type 0} (p : X → Bool) (xs : List X) → ((i : ℕ) (x : X) → slice_get xs i ≡ Some x → p x ≡ true) → filter p xs ≡ xs
filter_all p [] all = refl
filter_all p (x ∷ xs) all = ap (λ (b : Bool). cond b (x ∷ filter p xs) (filter p xs)) (all 0 x refl) ∙ ap (λ l. x ∷ l) (filter_all p xs (λ i y at. all (suc i) y at))

module _ (s : Part) (in_range : All (IsBelow (length s.corners)) s.triangles) (sound : IsSound s) where
  -- two corners of a triangle are at two places
  two_places : (i side : ℕ) (t : Tri) → slice_get s.triangles i ≡ Some t → is_one_place (vertex_at (map of_corner s.corners) (start_of t side)) (vertex_at (map of_corner s.corners) (end_of t side)) ≡ true → ⊥
  two_places i side t at same =
      let below = triangle_below s in_range t i at in
      let (c, here, there) = at_one s.corners s.corners (start_of t side) (end_of t side) (start_below t side below) (end_below t side below)
      (one_place (vertex_at (map of_corner s.corners) (start_of t side)) (vertex_at (map of_corner s.corners) (end_of t side)) same) in
      let one : start_of t side ≡ end_of t side =
      number_once s in_range sound i i (start_of t side) (end_of t side) t t c at (start_is_corner t side (start_of t side) refl) at (end_is_corner t side (end_of t side) refl) here there in
      sound.closed.none_flat (face_at s in_range t i at) (flat_face s (face_at s in_range t i at) side one)
    where
      start_below : (t : Tri) (side : ℕ) → IsBelow (length s.corners) t → start_of t side < length s.corners
      start_below t zero h = h.a
      start_below t (suc zero) h = h.b
      start_below t (suc (suc side)) h = h.c

      end_below : (t : Tri) (side : ℕ) → IsBelow (length s.corners) t → end_of t side < length s.corners
      end_below t zero h = h.b
      end_below t (suc zero) h = h.c
      end_below t (suc (suc side)) h = h.a

  different_at : (i : ℕ) (t : Tri) → slice_get s.triangles i ≡ Some t → are_different (placed (map of_corner s.corners) t) ≡ true
  different_at i t at =
      are_true (not (is_one_place (vertex_at (map of_corner s.corners) t.a) (vertex_at (map of_corner s.corners) t.b)))
      (not (is_one_place (vertex_at (map of_corner s.corners) t.b) (vertex_at (map of_corner s.corners) t.c))) (not (is_one_place (vertex_at (map of_corner s.corners) t.c) (vertex_at (map of_corner s.corners) t.a)))
      (not_true _ (two_places i 0 t at)) (not_true _ (two_places i 1 t at)) (not_true _ (two_places i 2 t at))

  all_proper : filter are_different (map (placed (map of_corner s.corners)) s.triangles) ≡ map (placed (map of_corner s.corners)) s.triangles
  all_proper = filter_all are_different (map (placed (map of_corner s.corners)) s.triangles) (λ i p at. different_read i p at)
    where
      different_read : (i : ℕ) (p : Triple × Triple × Triple) → slice_get (map (placed (map of_corner s.corners)) s.triangles) i ≡ Some p → are_different p ≡ true
      different_read i p at = from (slice_get_cases s.triangles i).1
        where
          from : ((t : Tri) × (i < length s.triangles) × (slice_get s.triangles i ≡ Some t) × (get_or s.triangles i t ≡ t)) ⊎ ((length s.triangles ≤ i) × (slice_get s.triangles i ≡ None)) → are_different p ≡ true
          from (inl (t, within, here, _)) =
              let is : placed (map of_corner s.corners) t ≡ p =
              same_Some (placed (map of_corner s.corners) t) p (sym (slice_get-map (placed (map of_corner s.corners)) s.triangles i ∙ ap (option_map (placed (map of_corner s.corners))) here) ∙ at) in
              subst (λ (q : Triple × Triple × Triple). are_different q ≡ true) is (different_at i t here)
          from (inr (past, none)) = let no : None ≡ Some p = sym (slice_get-map (placed (map of_corner s.corners)) s.triangles i ∙ ap (option_map (placed (map of_corner s.corners))) none) ∙ at in absurd (cc)

-- so its weld has a triangle
pub all_gone : (s : Part) → All (IsBelow (length s.corners)) s.triangles → IsSound s → proper_of (record { vertices = map of_corner s.corners; triangles = s.triangles }) ≡ [] → ⊥
all_gone s in_range sound none =
    let many : length s.triangles ≡ 0 = sym (length-map s.triangles (placed (map of_corner s.corners))) ∙ ap length (sym (all_proper s in_range sound) ∙ none) in
    absurd (omega (arith, many, sound.some))

-- what a sound part is welded to is sound
pub sound_weld : (s t : Part) → All (IsBelow (length s.corners)) s.triangles → IsSound s → IsWeldOf (record { vertices = map of_corner s.corners; triangles = s.triangles }) t.corners t.triangles → IsSound t
sound_weld s t in_range sound weld =
    let same : map (placed (map of_corner t.corners)) t.triangles ≡ map (placed (map of_corner s.corners)) s.triangles = weld.proper ∙ all_proper s in_range sound in
    let as_many : length t.triangles ≡ length s.triangles =
    sym (length-map t.triangles (placed (map of_corner t.corners))) ∙ ap length same ∙ length-map s.triangles (placed (map of_corner s.corners)) in
    matched_sound s t in_range sound weld.distinct as_many (matched_at s t in_range weld.in_range same) (matched_at t s weld.in_range in_range (sym same))
