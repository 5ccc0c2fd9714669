-- What is hidden in a cut view: by what the plane leaves of the faces, or by the section.
use Rattle.std.proofs.Common.{◌⊎◌, List, ◌++◌}
use Rattle.geometry.specs.Parts.{Part, Edge}
use Rattle.geometry.specs.Cuts.{IsInSection, IsHiddenInCut}
use Rattle.lattice.specs.Cuts.{Plane}
use Rattle.exact_frac.specs.declared.Frac.{Frac}
use Rattle.intervals.specs.declared.interval.Interval.{Interval}
use Rattle.span_slow.specs.inner.CutHidden.{IsOrdinaryBeyond, AreWhereBeyond, IsHiddenByFaces}
use Rattle.span_slow.proofs.Where.{where_alike, where_either}

-- the intervals of both together
pub hidden_in_cut : (c : Plane) {s : Part} (e : Edge s) (xs ys : List (Interval Frac)) → AreWhereBeyond c e (IsHiddenByFaces c s) xs → AreWhereBeyond c e (IsInSection c s) ys
    → AreWhereBeyond c e (IsHiddenInCut c s) (xs ++ ys)
hidden_in_cut c {s} e xs ys by_faces by_section =
    where_alike (IsOrdinaryBeyond c s) e (λ p. IsHiddenByFaces c s p ⊎ IsInSection c s p) (IsHiddenInCut c s) (xs ++ ys)
    (λ n m hn hm ordinary. ((λ h. (ordinary.1, h)), (λ h. h.1)))
    (where_either (IsOrdinaryBeyond c s) e (IsHiddenByFaces c s) (IsInSection c s) xs ys by_faces by_section)
