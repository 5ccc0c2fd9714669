-- A triangle that is seen strictly to one side of an end of an edge is not counted next to that end.
use Rattle.std.proofs.Common.{◌≡◌, ◌≢◌, ℕ, Some, slice_get, true, false, Bool, sym, subst}
use Rattle.std.specs.Prelude.{pos}
use Rattle.lattice.specs.Triple.{Triple}
use Rattle.geometry.specs.Faces.{facing_of}
use Rattle.geometry.specs.Parts.{Part, Face, Edge}
use Rattle.geometry.specs.Counts.{Side}
use Rattle.geometry.specs.Covers.{HidesNext, IsCountedNext}
use Rattle.geometry.specs.Turns.{corner_at, number_at}
use Rattle.cross_find.specs.Ends.{IsApart}
use Rattle.cross_find.specs.Sights.{SightState}
use Rattle.cross_find.proofs.Apart.{never_apart}
use Rattle.span_count.specs.Finders.{AreAllNear}

pub never_next : (d : Triple) {s : Part} (e : Edge s) (at_b : Bool) (f : Face s) → facing_of d f.a f.b f.c ≢ pos 0 → HidesNext d e at_b f → ¬ IsApart d f.a f.b f.c (corner_at e at_b)
never_next d e false f turned h apart = never_apart d f.a f.b f.c e.a e.b turned apart (record { n = h.n; m = h.m; some = h.some; within = h.within; over = h.over })
never_next d e true f turned h apart = never_apart d f.a f.b f.c e.b e.a turned apart (record { n = h.n; m = h.m; some = h.some; within = h.within; over = h.over })

-- the corner at an end of an edge
pub corner_there : {s : Part} (e : Edge s) (at_b : Bool) → slice_get s.corners (number_at e at_b) ≡ Some (corner_at e at_b)
corner_there e false = e.at_m
corner_there e true = e.at_n

-- so a triangle that is not near the corner there is not counted
pub not_counted : (x : SightState) (near : ℕ → ℕ → Type 0) → AreAllNear x.direction x.part near → (corner i : ℕ) → ¬ near corner i
    → (k : Side) (e : Edge x.part) (at_b : Bool) → corner ≡ number_at e at_b → (f : Face x.part) → f.number ≡ i → ¬ IsCountedNext k x.direction e at_b f
not_counted x near all corner i other k e at_b is f numbered counted =
    other (subst (near corner) numbered (all corner (corner_at e at_b) f (subst (λ (n : ℕ). slice_get x.part.corners n ≡ Some (corner_at e at_b)) (sym is) (corner_there e at_b))
    (never_next x.direction e at_b f counted.turned counted.hides)))
