-- How a sheet shows the sections of cut views.
use Rattle.std.specs.Prelude.{◌≡◌, ℕ, suc, Bool, true, false, List, [], ◌∷◌, ◌++◌}
use Rattle.std.proofs.Common.{Vec, Global}
use Rattle.std.specs.List.{AllZip}
use Rattle.job_file.specs.declared.view.JobView.{JobView}
use Rattle.lattice.specs.Cuts.{Plane, plane_of, toward_of}
use Rattle.lattice.specs.Points.{of_spot}
use Rattle.lattice.specs.declared.pieces.ViewSpec.TheVariants.{Plain, Section}
use Rattle.lattice.specs.declared.pieces.ViewSpec.{ViewSpec}
use Rattle.geometry.specs.Parts.{Part}
use Rattle.cut_plane.specs.Loops.{AreBorders}
use Rattle.cut_plane.specs.declared.segments.Segment.{Segment}
use Rattle.hatch_fill.specs.Hatching.{IsHatching}
use Rattle.sheet_plan.specs.Sheets.{IsPlaceOf, IsShownAt}
use Rattle.sheet_plan.specs.declared.sheet.Sheet.{Sheet}
use Rattle.sheet_plan.specs.declared.sheet.Spread.{Spread}
use Rattle.stroke_paths.specs.declared.path.Point.{Point}
use Rattle.section_look.specs.Regions.{AreLoopsOf, AreRegions}
use Rattle.section_look.specs.Spacings.{IsChosen, spacing_at, spacings}
use Rattle.section_look.specs.Thin.{IsMarked}
use Rattle.section_look.specs.declared.fills.Fill.{Fill}
use Rattle.section_look.specs.declared.looks.SectionLook.{SectionLook}
use Rattle.section_look.specs.declared.regions.Region.{Region}

-- ---- fills
-- the points are those of the sheet at which the segments of the loop begin
abbrev pub IsOutline : Sheet → Spread → List Segment → List Point → Type 0
IsOutline sheet place loop points = AllZip (λ x p. IsShownAt sheet place (of_spot x.a) p.x p.y) loop points

abbrev pub AreOutlines : Sheet → Spread → List (Vec Segment Global) → List (Vec Point Global) → Type 0
AreOutlines sheet place loops outlines = AllZip (λ loop points. IsOutline sheet place loop.items points.items) loops outlines

-- what is filled is within an odd number of the region's loops
abbrev pub IsFillOf : Sheet → Spread → Region → Fill → Type 0
IsFillOf sheet place region fill = AreOutlines sheet place region.loops.items fill.loops.items

-- one fill for each of these regions that is thin, in order
abbrev pub AreFills : Sheet → Spread → List Region → List Bool → List Fill → Type 0
AreFills sheet place [] [] fills = fills ≡ []
AreFills sheet place [] (thin ∷ marks) fills = ⊥
AreFills sheet place (region ∷ regions) [] fills = ⊥
AreFills sheet place (region ∷ regions) (false ∷ marks) fills = AreFills sheet place regions marks fills
AreFills sheet place (region ∷ regions) (true ∷ marks) [] = ⊥
AreFills sheet place (region ∷ regions) (true ∷ marks) (fill ∷ fills) = IsFillOf sheet place region fill × AreFills sheet place regions marks fills

-- ---- looks
-- how the sheet shows the section of this view: its thin regions are filled, and its hatch lines are as far apart as the others need
pub record IsLook (sheet : Sheet) (s : Part) (view : ℕ) (c : Plane) (look : SectionLook) : Type 0 where
  pub number : look.view ≡ view
  pub place : Spread
  pub stands : IsPlaceOf sheet view place
  pub segments : List Segment
  pub places : List ℕ
  pub borders : AreBorders c s segments places
  pub loops : List (List Segment)
  pub are_loops : AreLoopsOf segments places loops
  pub regions : List Region
  pub are_regions : AreRegions (toward_of c) loops regions
  pub marks : List Bool
  pub marked : AllZip (IsMarked sheet place c (spacing_at sheet 30)) regions marks
  pub filled : AreFills sheet place regions marks look.fills.items
  pub chosen : IsChosen c regions marks (spacings sheet) look.spacing
  pub hatched : IsHatching c s look.spacing look.hatches.items

-- how it shows this view, if it is of a cut
abbrev pub LooksOfView : Sheet → Part → ℕ → ViewSpec → List SectionLook → Type 0
LooksOfView sheet s view (Plain d) looks = looks ≡ []
LooksOfView sheet s view (Section cut) looks = (look : SectionLook) × (looks ≡ look ∷ []) × IsLook sheet s view (plane_of cut) look

-- one look for each cut view, in order; the first of these views has this number
abbrev pub AreLooksFrom : Sheet → Part → ℕ → List JobView → List SectionLook → Type 0
AreLooksFrom sheet s view [] looks = looks ≡ []
AreLooksFrom sheet s view (x ∷ views) looks =
    (here : List SectionLook) × (rest : List SectionLook) × (looks ≡ here ++ rest) × LooksOfView sheet s view x.spec here × AreLooksFrom sheet s (suc view) views rest

abbrev pub AreLooks : Sheet → Part → List JobView → List SectionLook → Type 0
AreLooks sheet s views looks = AreLooksFrom sheet s 0 views looks
