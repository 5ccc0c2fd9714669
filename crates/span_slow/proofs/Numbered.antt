-- The faces of a part one after another: their corners as they are read, and what those below a number hide.
use Rattle.std.proofs.Common.{◌≡◌, ◌⊎◌, inl, inr, ℕ, ◌+◌, ◌<◌, ◌≤◌, List, [], ◌++◌, length, slice_get, Some, sym, subst, ap, ◌∙◌, arith, get_or}
use Rattle.std.specs.Prelude.{IfOk, OnOk, Ok, Err, Result}
use Rattle.std.proofs.Math.Nat.{eq-or-lt_of_le}
use Rattle.std.proofs.lemmas.Option.{slice_get-get_or, slice_get_within}
use Rattle.lattice.specs.declared.points.Corner.{Corner}
use Rattle.lattice.specs.declared.soup.Tri.{Tri}
use Rattle.lattice.specs.Triple.{Triple}
use Rattle.lattice.specs.Points.{Point}
use Rattle.geometry.specs.Faces.{FaceHides}
use Rattle.geometry.specs.Parts.{Part, Face, Edge}
use Rattle.geometry.specs.Views.{IsHidden, IsOrdinary}
use Rattle.solid_mesh.specs.Solids.{solid_part}
use Rattle.solid_mesh.specs.declared.solid.Solid.{Solid}
use Rattle.solid_mesh.proofs.EdgeLemmas.{same_element, face_at}
use Rattle.solid_mesh.proofs.Facts.{in_range}
use Rattle.exact_frac.specs.declared.Frac.{Frac}
use Rattle.intervals.specs.declared.interval.Interval.{Interval}
use Rattle.span_slow.specs.inner.Hidden.{AreWhereAt, AreWhere, AreAddedAt, AreAdded}
use Rattle.span_slow.proofs.Fronts.{read_corners}
use Rattle.span_slow.proofs.Where.{where_alike, where_either, where_none}

-- ---- what holds if a call succeeds
pub on_ok : {T E P Q : Type 0} (r : Result T E) → (P → Q) → OnOk r P → OnOk r Q
on_ok (Ok x) f h = f h
on_ok (Err x) f h = h

pub if_ok : {T E : Type 0} {P Q : T → Type 0} (r : Result T E) → ((x : T) → P x → Q x) → IfOk r P → IfOk r Q
if_ok (Ok x) f h = f x h
if_ok (Err x) f h = h

-- ---- corners as they are read
pub read_face : (s : Part) (f : Face s) (i : ℕ) (t : Tri) (a b c : Corner) → f.number ≡ i → slice_get s.triangles i ≡ Some t
    → slice_get s.corners t.a ≡ Some a → slice_get s.corners t.b ≡ Some b → slice_get s.corners t.c ≡ Some c → (f.a ≡ a) × (f.b ≡ b) × (f.c ≡ c)
read_face s f i t a b c at listed at_a at_b at_c =
    let same : f.tri ≡ t = same_element s.triangles f.number i f.tri t at f.listed listed in (
      same_element s.corners f.tri.a t.a f.a a (ap (λ (u : Tri). u.a) same) f.at_a at_a,
      same_element s.corners f.tri.b t.b f.b b (ap (λ (u : Tri). u.b) same) f.at_b at_b,
      same_element s.corners f.tri.c t.c f.c c (ap (λ (u : Tri). u.c) same) f.at_c at_c,
    )

-- a solid has a face of each number
abbrev pub face_numbered : (s : Solid) (i : ℕ) → i < length (solid_part s).triangles → Face (solid_part s)
face_numbered s i h =
    let none : Tri = record { a = 0; b = 0; c = 0 } in
    face_at (solid_part s) (in_range s) (get_or (solid_part s).triangles i none) i (slice_get-get_or (solid_part s).triangles i none h)

-- ---- what the faces below a number hide
-- H holds of a face below the number
abbrev pub HoldsBelow : {s : Part} → (Face s → Point → Type 0) → ℕ → Point → Type 0
HoldsBelow {s = s} H k p = (f : Face s) × (f.number < k) × H f p

abbrev pub HidesBelow : Triple → Part → ℕ → Point → Type 0
HidesBelow d s k p = HoldsBelow (λ (f : Face s) q. FaceHides d f.a f.b f.c q) k p

-- the corners of a face decide whether H holds of it
abbrev pub IsByCorners : {s : Part} → (Face s → Point → Type 0) → Type 0
IsByCorners {s = s} H = (f g : Face s) (p : Point) → f.a ≡ g.a → f.b ≡ g.b → f.c ≡ g.c → H f p → H g p

module _ (O : Point → Type 0) {s : Part} (e : Edge s) (H : Face s → Point → Type 0) where
  pub holds_none : AreWhereAt O e (HoldsBelow H 0) []
  holds_none = where_none O e (HoldsBelow H 0) (λ n m hn hm ordinary (f, h, hides). omega arith)

  pub holds_next : IsByCorners H → (k : ℕ) (f : Face s) → f.number ≡ k → (old new : List (Interval Frac)) → AreWhereAt O e (HoldsBelow H k) old → AreAddedAt O e (H f) old new
      → AreWhereAt O e (HoldsBelow H (k + 1)) new
  holds_next by_corners k f at old new before more =
      subst (λ (xs : List (Interval Frac)). AreWhereAt O e (HoldsBelow H (k + 1)) xs) (sym more.all)
      (where_alike O e (λ p. HoldsBelow H k p ⊎ H f p) (HoldsBelow H (k + 1)) (old ++ more.added) (λ n m hn hm ordinary. (up _, down _))
      (where_either O e (HoldsBelow H k) (H f) old more.added before more.right))
    where
      up : (p : Point) → HoldsBelow H k p ⊎ H f p → HoldsBelow H (k + 1) p
      up p (inl (g, h, hides)) = (g, omega arith, hides)
      up p (inr hides) = (f, omega arith, hides)

      same : (g : Face s) (p : Point) → g.number ≡ k → H g p → H f p
      same g p h hides =
          let (p_a, p_b, p_c) = read_face s g f.number f.tri f.a f.b f.c (h ∙ sym at) f.listed f.at_a f.at_b f.at_c in
          by_corners g f p p_a p_b p_c hides

      down : (p : Point) → HoldsBelow H (k + 1) p → HoldsBelow H k p ⊎ H f p
      down p (g, h, hides) = let most : g.number ≤ k = omega arith in by (eq-or-lt_of_le most)
        where
          by : (g.number ≡ k) ⊎ (g.number < k) → HoldsBelow H k p ⊎ H f p
          by (inl here) = inr (same g p here hides)
          by (inr below) = inl (g, below, hides)

  pub holds_all : (k : ℕ) → length s.triangles ≤ k → (xs : List (Interval Frac)) → AreWhereAt O e (HoldsBelow H k) xs → AreWhereAt O e (λ p. (f : Face s) × H f p) xs
  holds_all k all xs h = where_alike O e (HoldsBelow H k) (λ p. (f : Face s) × H f p) xs (λ n m hn hm ordinary. (
    (λ (f, below, hides). (f, hides)),
    (λ (f, hides). let within = slice_get_within s.triangles f.number f.tri f.listed in (f, omega arith, hides)),
  )) h

module _ (d : Triple) {s : Part} (e : Edge s) where
  abbrev hides : Face s → Point → Type 0
  hides f p = FaceHides d f.a f.b f.c p

  pub below_none : AreWhere d e (HidesBelow d s 0) []
  below_none = holds_none (IsOrdinary d s) e hides

  pub below_next : (k : ℕ) (f : Face s) → f.number ≡ k → (old new : List (Interval Frac)) → AreWhere d e (HidesBelow d s k) old → AreAdded d e (FaceHides d f.a f.b f.c) old new
      → AreWhere d e (HidesBelow d s (k + 1)) new
  below_next = holds_next (IsOrdinary d s) e hides (λ f g p p_a p_b p_c. read_corners d p f.a f.b f.c g.a g.b g.c p_a p_b p_c)

  pub below_all : (k : ℕ) → length s.triangles ≤ k → (xs : List (Interval Frac)) → AreWhere d e (HidesBelow d s k) xs → AreWhere d e (IsHidden d s) xs
  below_all = holds_all (IsOrdinary d s) e hides
