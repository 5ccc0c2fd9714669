-- A side and a triangle by their numbers determine their corners.
use Rattle.std.proofs.Common.{◌≡◌, ℕ, ◌/◌, ◌%◌, ◌<◌, All, length, get_or, slice_get, Some, refl, sym, subst, ap, ◌∙◌}
use Rattle.std.proofs.lemmas.Option.{slice_get_read}
use Rattle.integers.proofs.Lists.{some_element}
use Rattle.lattice.specs.declared.points.Corner.{Corner}
use Rattle.lattice.specs.declared.soup.Tri.{Tri}
use Rattle.lattice.specs.Triangles.{IsBelow}
use Rattle.geometry.specs.Parts.{Part, Face, IsHalf, start_of, end_of}
use Rattle.geometry.proofs.Listed.{same_element, triangle_below}
use Rattle.solid_mesh.specs.Meetings.{Side}
use Rattle.solid_mesh.proofs.EdgeLemmas.{start_below, end_below}
use Rattle.solid_mesh.proofs.HalfLemmas.{start_of_half, end_of_half}

-- the corners of a side and of a triangle, with their numbers
pub record Reading : Type 0 where
  pub m : ℕ
  pub n : ℕ
  pub p : Corner
  pub q : Corner
  pub tri : Tri
  pub a : Corner
  pub b : Corner
  pub c : Corner

abbrev pub reading : {s : Part} {half : ℕ} → Side s half → Face s → Reading
reading e f = record { m = e.m; n = e.n; p = e.p; q = e.q; tri = f.tri; a = f.a; b = f.b; c = f.c }

pub same_reading : (s : Part) (half : ℕ) (e e' : Side s half) (f f' : Face s) → f.number ≡ f'.number → reading e f ≡ reading e' f'
same_reading s half e e' f f' number =
    let m : e.m ≡ e'.m = sym (start_of_half s half e.goes) ∙ start_of_half s half e'.goes in
    let n : e.n ≡ e'.n = sym (end_of_half s half e.goes) ∙ end_of_half s half e'.goes in
    let tri : f.tri ≡ f'.tri = same_element s.triangles f.number f'.number f.tri f'.tri number f.listed f'.listed in
    let p : e.p ≡ e'.p = same_element s.corners e.m e'.m e.p e'.p m e.at_m e'.at_m in
    let q : e.q ≡ e'.q = same_element s.corners e.n e'.n e.q e'.q n e.at_n e'.at_n in
    let a : f.a ≡ f'.a = same_element s.corners f.tri.a f'.tri.a f.a f'.a (ap (λ (t : Tri). t.a) tri) f.at_a f'.at_a in
    let b : f.b ≡ f'.b = same_element s.corners f.tri.b f'.tri.b f.b f'.b (ap (λ (t : Tri). t.b) tri) f.at_b f'.at_b in
    let c : f.c ≡ f'.c = same_element s.corners f.tri.c f'.tri.c f.c f'.c (ap (λ (t : Tri). t.c) tri) f.at_c f'.at_c in
    λ i. record { m = m i; n = n i; p = p i; q = q i; tri = tri i; a = a i; b = b i; c = c i }

-- a side with the corners that were read at its triangle's numbers
module _ (s : Part) (in_range : All (IsBelow (length s.corners)) s.triangles) (half : ℕ) (t : Tri) (at : slice_get s.triangles (half / 3) ≡ Some t)
    (m n : ℕ) (start : m ≡ start_of t (half % 3)) (end : n ≡ end_of t (half % 3)) where
  pub start_within : m < length s.corners
  start_within = subst (λ (k : ℕ). k < length s.corners) (sym start) (start_below (length s.corners) t (half % 3) (triangle_below s in_range t (half / 3) at))

  pub end_within : n < length s.corners
  end_within = subst (λ (k : ℕ). k < length s.corners) (sym end) (end_below (length s.corners) t (half % 3) (triangle_below s in_range t (half / 3) at))

  abbrev pub half_read : IsHalf s half m n
  half_read = record { tri = t; at = at; start = sym start; end = sym end }

  module _ (p q : Corner) (at_m : p ≡ get_or s.corners m p) (at_n : q ≡ get_or s.corners n q) where
    abbrev pub side_read : Side s half
    side_read = record {
      m = m;
      n = n;
      p = p;
      q = q;
      goes = half_read;
      at_m = slice_get_read s.corners (length s.corners) m p refl start_within at_m;
      at_n = slice_get_read s.corners (length s.corners) n q refl end_within at_n;
    }

  -- and with those that stand there
  abbrev pub side_there : Side s half
  side_there = record {
    m = m;
    n = n;
    p = (some_element s.corners m start_within).0;
    q = (some_element s.corners n end_within).0;
    goes = half_read;
    at_m = (some_element s.corners m start_within).1;
    at_n = (some_element s.corners n end_within).1;
  }
