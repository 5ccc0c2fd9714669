-- From the given triangles to those that are left.
use Rattle.std.proofs.Common.{◌≡◌, ℕ, ◌<◌, ◌≤◌, ◌+◌, List, [], ◌∷◌, length, map, get_or, refl, sym, ap, ◌∙◌, subst, arith, inl, inr, ◌⊎◌, ⊎_elim, Vec, Global, Bool}
use Rattle.std.specs.Prelude.{Contains}
use Rattle.std.specs.List.{All}
use Rattle.std.proofs.lemmas.List.{length-map, get_or_default}
use Rattle.std.proofs.lemmas.Option.{slice_get_within}
use Rattle.std.proofs.lemmas.Bool.{cases_eq}
use Rattle.std.proofs.lemmas.List.Elements.{All-map, Contains-get_or}
use Rattle.lattice.specs.declared.points.Corner.{Corner}
use Rattle.lattice.specs.declared.soup.Tri.{Tri}
use Rattle.lattice.specs.Triangles.{IsBelow}
use Rattle.geometry.specs.Parts.{part_with}
use Rattle.flip_slivers.specs.declared.bounded.Bounded.{Bounded}
use Rattle.flip_slivers.specs.Near.{AreNearSurfaces}
use Rattle.flip_slivers.specs.Flips.{IsFlip, AreFlips, unmoved, IsGreatestBound}
use Rattle.flip_slivers.proofs.FlipsNear.{flips_near, flips_within, flips_count, flips_in_range}
use Rattle.flip_slivers.specs.Flipped.{IsFlipped}
use Rattle.flip_slivers.specs.declared.measures.Measure.{Measure}
use Rattle.flip_slivers.specs.inner.Lists.{IsListed, lists_of, triangles_of}
use Rattle.flip_slivers.specs.inner.Measures.{AreMeasures}
use Rattle.flip_slivers.specs.inner.Choices.{IsLaid, IsQueue, IsReady, AreSettled, Waits}
use Rattle.flip_slivers.proofs.SettledLemmas.{flip_choice}

pub unmoved_back : (triangles : List Tri) → triangles_of (map unmoved triangles) ≡ triangles
unmoved_back [] = refl
unmoved_back (t ∷ triangles) = ap (λ (ts : List Tri). t ∷ ts) (unmoved_back triangles)

pub start_laid : (corners : List Corner) (triangles : List Tri) (surface : List Bounded) (measures : List Measure) (lists : List (Vec ℕ Global)) → surface ≡ map unmoved triangles → length lists ≡ 65536
    → AreMeasures corners triangles measures → IsListed triangles (lists_of lists) → All (IsBelow (length corners)) triangles → IsLaid corners surface measures lists
start_laid corners triangles surface measures lists start count measured listed in_range =
    let same : triangles ≡ triangles_of surface = sym (ap triangles_of start ∙ unmoved_back triangles) in
    let L : List Tri → Type 0 = λ ts. IsListed ts (lists_of lists) in
    let M : List Tri → Type 0 = λ ts. AreMeasures corners ts measures in
    record {
      count = count;
      listed = subst L same listed;
      measured = subst M same measured;
      in_range = let P : List Bounded → Type 0 = λ s. All (λ (x : Bounded). IsBelow (length corners) x.tri) s in
          subst P (sym start) (All-map (λ (x : Bounded). IsBelow (length corners) x.tri) unmoved triangles in_range);
    }

-- all wait, so none is settled yet
pub start_ready : (corners : List Corner) (most : ℕ) (surface : List Bounded) (measures : List Measure) (lists : List (Vec ℕ Global)) (waits : List Bool) (places : List ℕ) (count : ℕ) → count ≡ length surface
    → IsLaid corners surface measures lists → IsQueue count waits places → ((i : ℕ) → i < count → Waits waits i) → IsReady corners most surface measures lists waits places
start_ready corners most surface measures lists waits places count same laid queue all = record {
  laid = laid;
  queue = let P : ℕ → Type 0 = λ n. IsQueue n waits places in subst P same queue;
  idle = λ f x. inl (all f.sliver (let within : f.sliver < length surface = slice_get_within surface f.sliver x.sliver x.at_sliver in omega (arith, same)));
}

-- what `flip_slivers` promises, of the last surface
pub record Settled (corners : List Corner) (most : ℕ) (given left : List Tri) (flips moved : ℕ) : Type 0 where
  pub flipped : IsFlipped corners most given left flips moved
  pub count : length left ≡ length given
  pub in_range : All (IsBelow (length corners)) left
  pub near : AreNearSurfaces moved (part_with corners given) (part_with corners left)
  pub within : moved ≤ most

abbrev pub settled_by : (corners : List Corner) (most : ℕ) (given left : List Tri) (first last : List Bounded) (flips moved : ℕ) → All (IsBelow (length corners)) given → first ≡ map unmoved given
    → AreFlips corners most flips first last → left ≡ triangles_of last → IsGreatestBound last moved → ((new : List Bounded) → ¬ IsFlip corners most last new) → Settled corners most given left flips moved
settled_by corners most given left first last flips moved in_range start by_flips bare greatest none =
    let P : List Bounded → Type 0 = λ s. AreFlips corners most flips s last in
    let from : AreFlips corners most flips (map unmoved given) last = subst P start by_flips in
    let Q : List Tri → Type 0 = λ ts. All (IsBelow (length corners)) ts in
    let N : List Tri → Type 0 = λ ts. AreNearSurfaces moved (part_with corners given) (part_with corners ts) in
    record {
      flipped = record { last = last; by_flips = from; is_triangles = bare; is_moved = greatest; settled = none };
      count = ap length bare ∙ length-map last (λ (x : Bounded). x.tri) ∙ flips_count corners most flips (map unmoved given) last from ∙ length-map given unmoved;
      in_range = subst Q (sym bare) (All-map (IsBelow (length corners)) (λ (x : Bounded). x.tri) last
          (flips_in_range corners most flips (map unmoved given) last from (All-map (λ (x : Bounded). IsBelow (length corners) x.tri) unmoved given in_range)));
      near = subst N (sym bare) (flips_near corners most flips moved given last from greatest);
      within = flips_within corners most flips moved given last from greatest;
    }

-- where no flip may be chosen there is none
abbrev pub settled : (corners : List Corner) (most : ℕ) (given left : List Tri) (first last : List Bounded) (flips moved : ℕ) → All (IsBelow (length corners)) given → first ≡ map unmoved given
    → AreFlips corners most flips first last → left ≡ triangles_of last → IsGreatestBound last moved → AreSettled corners most last → Settled corners most given left flips moved
settled corners most given left first last flips moved in_range start by_flips bare greatest none =
    settled_by corners most given left first last flips moved in_range start by_flips bare greatest (λ new. flip_choice corners most last new none)

-- ---- the greatest bound of the first triangles
pub record IsGreatestOfFirst (surface : List Bounded) (count most : ℕ) : Type 0 where
  pub none_greater : (k : ℕ) (d : Bounded) → k < count → (get_or surface k d).bound ≤ most
  pub carried : (most ≡ 0) ⊎ ((x : Bounded) × Contains surface x × (x.bound ≡ most))

pub greatest_of_all : (surface : List Bounded) (count most : ℕ) → length surface ≤ count → IsGreatestOfFirst surface count most → IsGreatestBound surface most
greatest_of_all surface count most all first = (λ x has. bounded x has, first.carried)
  where
    bounded : (x : Bounded) → Contains surface x → x.bound ≤ most
    bounded x (k, below, is) = let P : Bounded → Type 0 = λ y. y.bound ≤ most in subst P is (first.none_greater k x (omega arith))

pub more_greatest : (surface : List Bounded) (count most now : ℕ) (d : Bounded) → count < length surface → IsGreatestOfFirst surface count most
    → ((most < (get_or surface count d).bound) × (now ≡ (get_or surface count d).bound)) ⊎ (((get_or surface count d).bound ≤ most) × (now ≡ most)) → IsGreatestOfFirst surface (count + 1) now
more_greatest surface count most now d within first = ⊎_elim
    (λ (more, is). record {
      none_greater = λ k e below. elim (cases_eq k count) [
        | inl same ↦ let at : (get_or surface k e).bound ≡ (get_or surface count d).bound = ap (λ (i : ℕ). (get_or surface i e).bound) same ∙ ap (λ (x : Bounded). x.bound) (get_or_default surface count e d within) in omega arith
        | inr other ↦ let earlier : k < count = omega arith in let low : (get_or surface k e).bound ≤ most = first.none_greater k e earlier in omega arith
      ];
      carried = inr (get_or surface count d, Contains-get_or surface count d within, sym is);
    })
    (λ (low, is). record {
      none_greater = λ k e below. elim (cases_eq k count) [
        | inl same ↦ let at : (get_or surface k e).bound ≡ (get_or surface count d).bound = ap (λ (i : ℕ). (get_or surface i e).bound) same ∙ ap (λ (x : Bounded). x.bound) (get_or_default surface count e d within) in omega arith
        | inr other ↦ let earlier : k < count = omega arith in let before : (get_or surface k e).bound ≤ most = first.none_greater k e earlier in omega arith
      ];
      carried = let P : ℕ → Type 0 = λ n. (n ≡ 0) ⊎ ((x : Bounded) × Contains surface x × (x.bound ≡ n)) in subst P (sym is) first.carried;
    })
