-- A triangle that is seen strictly to one side of an end of an edge is not counted next to it in the view of a cut.
use Rattle.std.proofs.Common.{◌≡◌, ℕ, ◌<◌, ◌≤◌, Bool, List, Some, slice_get, sym, subst}
use Rattle.lattice.specs.Cuts.{Plane, toward_of}
use Rattle.geometry.specs.Parts.{Part, Face, Edge, IsNumbered}
use Rattle.geometry.specs.Counts.{Side}
use Rattle.geometry.specs.Covers.{HidesNext}
use Rattle.geometry.specs.Turns.{corner_at, number_at}
use Rattle.cut_count_laws.specs.CutCovers.{RestHidesNext, IsCutCoveredNext}
use Rattle.span_count.specs.Finders.{AreAllNear}
use Rattle.span_count.proofs.NearTriangles.{never_next, corner_there}

-- what is left of a face is of the face
whole_hides : (c : Plane) {s : Part} (e : Edge s) (at_b : Bool) (f : Face s) → RestHidesNext c e at_b f → HidesNext (toward_of c) e at_b f
whole_hides c e at_b f h = record {
  n = h.n;
  m = h.m;
  some = h.some;
  within = h.within;
  over = λ k l p q r. let x = h.over k l p q r in record { point = x.point; on_face = x.on_face; same_sight = x.same_sight; nearer = x.nearer };
}

-- so the triangles that are passed over are not counted
pub not_covered : (c : Plane) (s : Part) (halves : List ℕ) (edge : ℕ) (at_b : Bool) (corner : ℕ) (near : ℕ → ℕ → Type 0) → AreAllNear (toward_of c) s near
    → ((e : Edge s) → IsNumbered halves edge e → corner ≡ number_at e at_b) → (from to : ℕ) → ((i : ℕ) → from ≤ i → i < to → ¬ near corner i)
    → (i : ℕ) → from ≤ i → i < to → (k : Side) (e : Edge s) (f : Face s) → IsNumbered halves edge e → f.number ≡ i → ¬ IsCutCoveredNext k c e at_b f
not_covered c s halves edge at_b corner near all at from to none i l m k e f here is counted =
    none i l m
    (subst (near corner) is
    (all corner (corner_at e at_b) f (subst (λ (n : ℕ). slice_get s.corners n ≡ Some (corner_at e at_b)) (sym (at e here)) (corner_there e at_b))
    (never_next (toward_of c) e at_b f counted.turned (whole_hides c e at_b f counted.hides))))
