-- No count along an edge of a cut view changes at an ordinary point: not where an outline or a border crosses, nor at an end of what the plane leaves of the edge.
use Rattle.std.proofs.Common.{◌≡◌, ◌⊎◌, inl, inr, refl}
use Rattle.std.specs.Prelude.{ℤ, pos}
use Rattle.integers.proofs.Comparisons.{at_most_of_less, positive_of_more}
use Rattle.exact_frac.specs.declared.Frac.{Frac}
use Rattle.lattice.specs.Cuts.{Plane, toward_of, IsOnPlane}
use Rattle.geometry.specs.Cuts.{IsOrdinaryInCut}
use Rattle.geometry.specs.Faces.{share_point}
use Rattle.geometry.specs.Parts.{Part, Face, Edge}
use Rattle.geometry.specs.Places.{IsPlace, point_at}
use Rattle.geometry.proofs.FacePoints.{edge_point-at_share}
use Rattle.hiding_laws.proofs.CutPlanes.{ordinary-in-plain}
use Rattle.hiding_laws.proofs.FrontEnds.{not-at-start, not-at-finish}
use Rattle.geometry.specs.Shares.{IsCrossedAt}
use Rattle.hiding_laws.proofs.CrossingPlaces.{crossing_not_ordinary as outline_not_ordinary}
use Rattle.cut_plane.proofs.Between.{crossing_not_ordinary as border_not_ordinary}
use Rattle.cut_count_laws.specs.BorderShares.{IsBorderCrossedAt}
use Rattle.cut_count_laws.specs.CutShares.{CutChanges}
use Rattle.cut_count_laws.proofs.PartMarks.{changes_of_cut}

-- where an outline crosses
pub outline_apart : (c : Plane) {s : Part} (e o : Edge s) → CutChanges c e o → (r : Frac) → IsCrossedAt (toward_of c) e o r → ¬ IsOrdinaryInCut c s (point_at e r)
outline_apart c {s} e o changes r here ordinary = outline_not_ordinary (toward_of c) e o (changes_of_cut c e o changes) r here (ordinary-in-plain c s (point_at e r) ordinary)

-- where a border crosses
pub border_apart : (c : Plane) (s : Part) (e : Edge s) (f : Face s) (n m : ℤ) → IsBorderCrossedAt c e f n m → ¬ IsOrdinaryInCut c s (share_point e.a e.b n m)
border_apart c s e f n m h = border_not_ordinary c s e f n m (positive_of_more n m h.after h.before) (at_most_of_less _ _ h.after) (at_most_of_less _ _ h.before) h.crosses

-- an end of what the plane leaves of the edge: 0, 1, or where the edge meets the plane
pub part_end_apart : (c : Plane) (s : Part) (e : Edge s) (r : Frac) → IsPlace r → (r.num ≡ pos 0) ⊎ (r.num ≡ r.den) ⊎ IsOnPlane c (point_at e r) → ¬ IsOrdinaryInCut c s (point_at e r)
part_end_apart c s e r place (inl h) ordinary = not-at-start (toward_of c) s e r.num r.den r.positive place.least place.most h (ordinary-in-plain c s (point_at e r) ordinary)
part_end_apart c s e r place (inr (inl h)) ordinary = not-at-finish (toward_of c) s e r.num r.den r.positive place.least place.most h (ordinary-in-plain c s (point_at e r) ordinary)
part_end_apart c s e r place (inr (inr h)) ordinary =
    ordinary.off_ends e (point_at e r) (edge_point-at_share e.a e.b r.num r.den r.positive place.least place.most) h (record { across = refl; upward = refl })
