-- From the corners that were read to the faces that are counted next to an end of an edge.
use Rattle.std.proofs.Common.{◌≡◌, ◌⊎◌, inl, inr, ℕ, Bool, true, false, refl, sym, subst, ◌∙◌}
use Rattle.std.specs.Prelude.{ℤ, pos, ◌<ℤ◌, ◌≢◌}
use Rattle.lattice.specs.declared.points.Corner.{Corner}
use Rattle.lattice.specs.Triple.{Triple}
use Rattle.geometry.specs.Faces.{facing_of}
use Rattle.geometry.specs.Parts.{Part, Edge, Face}
use Rattle.geometry.specs.Counts.{Side, to_left, to_right, orientation_of, ReachesTo}
use Rattle.geometry.specs.Covers.{HidesNext, IsCountedNext, IsOneWhere}
use Rattle.cross_find.specs.Ends.{HidesAt}

module _ (d : Triple) {s : Part} (e : Edge s) (f : Face s) where
  hides_at : (at_b : Bool) → HidesNext d e at_b f → HidesAt at_b d f.a f.b f.c e.a e.b
  hides_at false h = record { n = h.n; m = h.m; some = h.some; within = h.within; over = h.over }
  hides_at true h = record { n = h.n; m = h.m; some = h.some; within = h.within; over = h.over }

  hides_next : (at_b : Bool) → HidesAt at_b d f.a f.b f.c e.a e.b → HidesNext d e at_b f
  hides_next false h = record { n = h.n; m = h.m; some = h.some; within = h.within; over = h.over }
  hides_next true h = record { n = h.n; m = h.m; some = h.some; within = h.within; over = h.over }

  module _ (at_b : Bool) (a b x y z : Corner) (is_a : e.a ≡ a) (is_b : e.b ≡ b) (is_x : f.a ≡ x) (is_y : f.b ≡ y) (is_z : f.c ≡ z) where
    -- not edge-on, and nearer next to the end
    abbrev Hides : Type 0
    Hides = (facing_of d x y z ≢ pos 0) × HidesAt at_b d x y z a b

    same : ((facing_of d f.a f.b f.c ≢ pos 0) × HidesAt at_b d f.a f.b f.c e.a e.b) ≡ Hides
    same = λ i. (facing_of d (is_x i) (is_y i) (is_z i) ≢ pos 0) × HidesAt at_b d (is_x i) (is_y i) (is_z i) (is_a i) (is_b i)

    -- it is counted on neither side
    pub not_counted : ¬ Hides → (k : Side) → IsOneWhere (IsCountedNext k d e at_b f) 0
    not_counted none k = inr (refl, λ h. none (subst (λ (T : Type 0). T) same (h.turned, hides_at at_b h.hides)))

    -- or it is counted on the sides to which it reaches
    pub counted : Hides → (k : Side) (n : ℕ) → IsOneWhere (ReachesTo k d e f) n → IsOneWhere (IsCountedNext k d e at_b f) n
    counted h k n one = by one
      where
        here : (facing_of d f.a f.b f.c ≢ pos 0) × HidesAt at_b d f.a f.b f.c e.a e.b
        here = subst (λ (T : Type 0). T) (sym same) h

        by : IsOneWhere (ReachesTo k d e f) n → IsOneWhere (IsCountedNext k d e at_b f) n
        by (inl (is, reaches)) = inl (is, record { turned = here.0; hides = hides_next at_b here.1; reaches = reaches })
        by (inr (is, none)) = inr (is, λ c. none c.reaches)

    module _ (p q r : ℤ) (is_p : p ≡ orientation_of d a b x) (is_q : q ≡ orientation_of d a b y) (is_r : r ≡ orientation_of d a b z) where
      turn : (t : ℤ) (c k : Corner) → t ≡ orientation_of d a b k → c ≡ k → t ≡ orientation_of d e.a e.b c
      turn t c k is at = is ∙ sym (λ i. orientation_of d (is_a i) (is_b i) (at i))

      pub reaches_left : (n : ℕ) → IsOneWhere ((pos 0 <ℤ p) ⊎ (pos 0 <ℤ q) ⊎ (pos 0 <ℤ r)) n → IsOneWhere (ReachesTo to_left d e f) n
      reaches_left n one =
          subst (λ (T : Type 0). IsOneWhere T n) (λ i. (pos 0 <ℤ turn p f.a x is_p is_x i) ⊎ (pos 0 <ℤ turn q f.b y is_q is_y i) ⊎ (pos 0 <ℤ turn r f.c z is_r is_z i)) one

      pub reaches_right : (n : ℕ) → IsOneWhere ((p <ℤ pos 0) ⊎ (q <ℤ pos 0) ⊎ (r <ℤ pos 0)) n → IsOneWhere (ReachesTo to_right d e f) n
      reaches_right n one =
          subst (λ (T : Type 0). IsOneWhere T n) (λ i. (turn p f.a x is_p is_x i <ℤ pos 0) ⊎ (turn q f.b y is_q is_y i <ℤ pos 0) ⊎ (turn r f.c z is_r is_z i <ℤ pos 0)) one
