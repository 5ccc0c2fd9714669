-- The line that a run says of its drawing.
use Rattle.std.specs.Prelude.{◌≡◌, ℕ, Bool, true, false, List, [], ◌++◌, length, codes, count_by, sum_by, Option, Some, None}
use Rattle.std.proofs.Common.{zero, suc}
use Rattle.std.specs.Fmt.{decimal}
use Rattle.desk.specs.Files.{AppendsFront, DeskState}
use Rattle.lattice.specs.declared.pieces.Style.{Style}
use Rattle.lattice.specs.declared.pieces.Style.TheVariants.{Solid, Dashed, Chain}
use Rattle.solid_mesh.specs.Solids.{solid_part}
use Rattle.svg_page.specs.Texts.{◌⊕◌}
use Rattle.drawing.specs.Numbers.{SumsViews}
use Rattle.drawing.specs.declared.drawn.Drawing.{Drawing}
use Rattle.part_input.specs.declared.fault.Fault.{Fault}
use Rattle.part_input.specs.declared.fault.Fault.TheVariants.{WriteFault}
use Rattle.part_input.specs.declared.fault.Target.TheVariants.{Summary}
use Rattle.view_lines.specs.declared.numbers.ViewNumbers.{ViewNumbers}
use Rattle.view_lines.specs.declared.view.ViewDrawing.{ViewDrawing}

-- the line with eight numbers, in two halves, and a ninth at its end where there are chain pieces
abbrev pub first_half : ℕ → ℕ → ℕ → ℕ → List ℕ
first_half triangles views edges runs =
    codes "triangles " ⊕ decimal triangles ⊕ codes " views " ⊕ decimal views ⊕ codes " edges " ⊕ decimal edges ⊕ codes " runs " ⊕ decimal runs

abbrev pub second_half : ℕ → ℕ → ℕ → ℕ → List ℕ
second_half bound solid dashed hatch =
    codes " bound " ⊕ decimal bound ⊕ codes " solid " ⊕ decimal solid ⊕ codes " dashed " ⊕ decimal dashed ⊕ codes " hatch " ⊕ decimal hatch

abbrev pub chain_part : ℕ → List ℕ
chain_part zero = []
chain_part (suc n) = codes " chain " ⊕ decimal (suc n)

abbrev pub summary_line : ℕ → ℕ → ℕ → ℕ → ℕ → ℕ → ℕ → ℕ → ℕ → List ℕ
summary_line triangles views edges runs bound solid dashed hatch chain =
    first_half triangles views edges runs ⊕ second_half bound solid dashed hatch ⊕ chain_part chain ⊕ codes "\n"

abbrev pub is_style : Style → Style → Bool
is_style Solid Solid = true
is_style Solid Dashed = false
is_style Solid Chain = false
is_style Dashed Solid = false
is_style Dashed Dashed = true
is_style Dashed Chain = false
is_style Chain Solid = false
is_style Chain Dashed = false
is_style Chain Chain = true

-- how many pieces of all views are drawn in a style, and how many hatch lines there are
abbrev pub pieces_in : Style → List ViewDrawing → ℕ
pieces_in style views = sum_by (λ view. count_by (λ piece. is_style style piece.style) view.pieces.items) views

abbrev pub hatches_in : List ViewDrawing → ℕ
hatches_in views = sum_by (λ view. length view.hatches.items) views

-- the line with the drawing's numbers
pub record IsSummaryOf (d : Drawing) (line : List ℕ) : Type 0 where
  pub sums : ViewNumbers
  pub summed : SumsViews d.solid d.job.crease d.job.views.items sums
  pub line_is : line ≡ summary_line (length (solid_part d.solid).triangles) (length d.job.views.items) sums.edges sums.runs sums.bound
      (pieces_in Solid d.views.items) (pieces_in Dashed d.views.items) (hatches_in d.views.items) (pieces_in Chain d.views.items)

-- what a run adds to what was said: the whole line with no fault, a prefix of it where it couldn't be said, and else nothing
abbrev pub Says : Option Fault → List ℕ → List ℕ → List ℕ → Type 0
Says None old new line = new ≡ old ++ line
Says (Some (WriteFault Summary)) old new line = AppendsFront old new line
Says (Some fault) old new line = new ≡ old

abbrev pub SaysSummary : Option Fault → List ℕ → List ℕ → Drawing → Type 0
SaysSummary fault old new d = (line : List ℕ) × IsSummaryOf d line × Says fault old new line

-- what a run adds to what was said: of a drawing its summary, on a desk that tells what was said, and without one nothing
abbrev pub SaysMade : Option Drawing → Option Fault → DeskState → DeskState → Type 0
SaysMade (Some d) fault old new = old.tells_said ≡ true → SaysSummary fault old.said new.said d
SaysMade None fault old new = new.said ≡ old.said
