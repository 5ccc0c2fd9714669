-- What a page's items are in PDF.
use Rattle.std.specs.Prelude.{ℕ, Bool, true, false, ◌+◌, ◌*◌, ◌/◌, ℤ, unsigned_abs, List, [], ◌∷◌, ◌++◌, Option, Some, None, codes, if◌then◌else◌, Vec}
use Rattle.std.specs.declared.alloc.Global.{Global}
use Rattle.std.specs.Fmt.{decimal, signed_decimal}
use Rattle.std.specs.List.{flat_map}
use Rattle.sheet_plan.specs.LineKinds.{Look, frame_look}
use Rattle.sheet_plan.specs.declared.sheet.Mark.{Mark}
use Rattle.sheet_plan.specs.declared.sheet.Mark.TheVariants.{Solid, Dashed, Chain, Hatch}
use Rattle.stroke_paths.specs.declared.path.Path.{Path}
use Rattle.stroke_paths.specs.declared.path.Point.{Point}
use Rattle.svg_page.specs.Texts.{◌⊕◌}
use Rattle.sheet_page.specs.Chains.{phase_between, phase_of, with_tenth}
use Rattle.sheet_page.specs.Dashes.{length_of, fitted, with_decimals}
use Rattle.sheet_page.specs.Looks.{thin_look, strong_look, mark_look}
use Rattle.sheet_page.specs.PdfWords.{words_of}
use Rattle.sheet_page.specs.Pens.{pens_of}
use Rattle.sheet_page.specs.declared.dashes.Dashes.{Dashes}
use Rattle.sheet_page.specs.declared.page.ArrowHead.{ArrowHead}
use Rattle.sheet_page.specs.declared.page.Circle.{Circle}
use Rattle.sheet_page.specs.declared.page.Fill.{Fill}
use Rattle.sheet_page.specs.declared.page.Frame.{Frame}
use Rattle.sheet_page.specs.declared.page.Item.{Item}
use Rattle.sheet_page.specs.declared.page.Item.TheVariants as item
use Rattle.sheet_page.specs.declared.page.Label.{Label}
use Rattle.sheet_page.specs.declared.page.Page.{Page}
use Rattle.sheet_page.specs.declared.page.Pen.{Pen}
use Rattle.sheet_page.specs.declared.page.Pen.TheVariants as rule
use Rattle.sheet_page.specs.declared.page.Rule.{Rule}
use Rattle.sheet_page.specs.declared.pens.Pens.{Pens}

-- a length in points, of which 72 are an inch and so 2540 hundredths of a millimetre, to the nearest ten thousandth
abbrev pub points : ℤ → List ℕ
points n = with_decimals ((72000 * unsigned_abs n + 127) / 254)

-- the pen of a line, before its dashes, and before what follows on one without dashes
abbrev pub pen_start : Look → List ℕ → List ℕ
pen_start look rest = look.width ⊕ codes " w " ⊕ (if look.round then codes "1" else codes "0") ⊕ codes " J [" ⊕ rest

abbrev pub plain_pen : Look → List ℕ → List ℕ
plain_pen look rest = pen_start look (codes "] 0 d" ⊕ rest)

-- a rectangle that is drawn
abbrev pub frame_line : Frame → List ℕ
frame_line f =
    plain_pen frame_look
    (codes " " ⊕ signed_decimal f.x ⊕ codes " " ⊕ signed_decimal f.y ⊕ codes " " ⊕ signed_decimal f.width ⊕ codes " " ⊕ signed_decimal f.height ⊕ codes " re S\n")

-- a text at a point, upright where y goes down
abbrev pub before_words : Label → List ℕ
before_words l = codes "BT /F1 " ⊕ decimal l.size ⊕ codes " Tf 1 0 0 -1 " ⊕ signed_decimal l.x ⊕ codes " " ⊕ signed_decimal l.y ⊕ codes " Tm ("

abbrev pub label_line : Label → List ℕ
label_line l = before_words l ++ words_of l.text ++ codes ") Tj ET\n"

-- a pen of a hidden path with dashes, or with none
abbrev pub dashed_pen : Pens → Option Dashes → List ℕ
dashed_pen pens (Some d) = pen_start (mark_look pens Dashed) (with_decimals d.dash ⊕ codes " " ⊕ with_decimals d.gap ⊕ codes "] 0 d\n")
dashed_pen pens None = plain_pen (mark_look pens Dashed) (codes "\n")

-- a pen for chain lines, so far into its pattern, in thousandths of a millimetre
abbrev pub chain_pen : Pens → ℕ → List ℕ
chain_pen pens n = pen_start (mark_look pens Chain) ((mark_look pens Chain).dashes ⊕ codes "] " ⊕ with_tenth n ⊕ codes " d\n")

-- the pen of a mark, where dashes are these and a chain line begins so far into its pattern
abbrev pub pen : Pens → Mark → Option Dashes → ℕ → List ℕ
pen pens Solid dashes n = plain_pen (mark_look pens Solid) (codes "\n")
pen pens Dashed dashes n = dashed_pen pens dashes
pen pens Chain dashes n = chain_pen pens n
pen pens Hatch dashes n = plain_pen (mark_look pens Hatch) (codes "\n")

-- a step to a point
abbrev pub point_line : List ℕ → Point → List ℕ
point_line how p = signed_decimal p.x ⊕ codes " " ⊕ signed_decimal p.y ⊕ how

-- a line to each point
abbrev pub lines_to : List Point → List ℕ
lines_to points = flat_map (point_line (codes " l\n")) points

-- from the first point to each other
abbrev pub route : List Point → List ℕ
route [] = []
route (p ∷ rest) = point_line (codes " m\n") p ++ lines_to rest

-- drawn, and closed before where it goes back to its first point
abbrev pub stroke : Bool → List ℕ
stroke true = codes "h S\n"
stroke false = codes "S\n"

abbrev pub path_lines : Pens → Path → List ℕ
path_lines pens path =
    pen pens path.mark (fitted pens path.closed (length_of path.closed path.points.items)) (phase_of pens path.points.items) ++ route path.points.items ++ stroke path.closed

-- a loop, which goes back to its first point
abbrev pub loop_lines : Vec Point Global → List ℕ
loop_lines points = route points.items ++ codes "h\n"

-- a black area: what is inside an odd number of its loops
abbrev pub fill_lines : Fill → List ℕ
fill_lines fill = flat_map loop_lines fill.loops.items ++ codes "f*\n"

-- the head of an arrow: black, from its tip round its base
abbrev pub arrow_head_lines : ArrowHead → List ℕ
arrow_head_lines h = (route (h.tip ∷ h.left ∷ h.right ∷ []) ++ codes "h\n") ++ codes "f*\n"

-- the pen of a rule, where a chain line begins so far into its pattern
abbrev pub rule_pen : Pens → Pen → ℕ → List ℕ
rule_pen pens rule.Thin n = plain_pen thin_look (codes "\n")
rule_pen pens rule.Strong n = plain_pen strong_look (codes "\n")
rule_pen pens rule.Visible n = plain_pen (mark_look pens Solid) (codes "\n")
rule_pen pens rule.Chain n = chain_pen pens n

-- a straight line
abbrev pub rule_lines : Pens → Rule → List ℕ
rule_lines pens r =
    rule_pen pens r.pen (phase_between pens r.from r.to) ++ point_line (codes " m\n") r.from ++ point_line (codes " l\n") r.to ++ stroke false

-- the pen of a circle, as wide as that of a strong rule, its centre as the origin, and its right end, where it begins
abbrev pub circle_start : Circle → List ℕ
circle_start c =
    strong_look.width ⊕ codes " w 0 J [] 0 d q 1 0 0 1 " ⊕ signed_decimal c.x ⊕ codes " " ⊕ signed_decimal c.y ⊕ codes " cm\n" ⊕ decimal c.radius ⊕ codes " 0 m "

-- a circle of four arcs around the origin, y going down; k is how far the points that lead an arc are beside its ends
abbrev pub lower_right : ℕ → ℕ → List ℕ
lower_right r k =
    decimal r ⊕ codes " " ⊕ decimal k ⊕ codes " " ⊕ decimal k ⊕ codes " " ⊕ decimal r ⊕ codes " 0 " ⊕ decimal r ⊕ codes " c "

abbrev pub lower_left : ℕ → ℕ → List ℕ
lower_left r k =
    codes "-" ⊕ decimal k ⊕ codes " " ⊕ decimal r ⊕ codes " -" ⊕ decimal r ⊕ codes " " ⊕ decimal k ⊕ codes " -" ⊕ decimal r ⊕ codes " 0 c\n"

abbrev pub upper_left : ℕ → ℕ → List ℕ
upper_left r k =
    codes "-" ⊕ decimal r ⊕ codes " -" ⊕ decimal k ⊕ codes " -" ⊕ decimal k ⊕ codes " -" ⊕ decimal r ⊕ codes " 0 -" ⊕ decimal r ⊕ codes " c "

abbrev pub upper_right : ℕ → ℕ → List ℕ
upper_right r k =
    decimal k ⊕ codes " -" ⊕ decimal r ⊕ codes " " ⊕ decimal r ⊕ codes " -" ⊕ decimal k ⊕ codes " " ⊕ decimal r ⊕ codes " 0 c h S Q\n"

-- for a circle k is 0.5523 of the radius
abbrev pub arc_lead : ℕ → ℕ
arc_lead r = r * 5523 / 10000

abbrev pub arcs : ℕ → ℕ → List ℕ
arcs r k = lower_right r k ++ lower_left r k ++ upper_left r k ++ upper_right r k

abbrev pub circle_lines : Circle → List ℕ
circle_lines c = circle_start c ++ arcs c.radius (arc_lead c.radius)

abbrev pub item_lines : Pens → Item → List ℕ
item_lines pens (item.Frame frame) = frame_line frame
item_lines pens (item.Rule rule) = rule_lines pens rule
item_lines pens (item.Circle circle) = circle_lines circle
item_lines pens (item.Label label) = label_line label
item_lines pens (item.Path path) = path_lines pens path
item_lines pens (item.Fill fill) = fill_lines fill
item_lines pens (item.ArrowHead arrow) = arrow_head_lines arrow

-- hundredths of a millimetre from the upper left corner, black, with round joins
abbrev pub beginning : ℤ → List ℕ
beginning height = codes "0.0283464567 0 0 -0.0283464567 0 " ⊕ points height ⊕ codes " cm\n0 G 0 g 1 j\n"

-- all items in their order
abbrev pub content_of : Page → List ℕ
content_of page = beginning page.height ++ flat_map (item_lines (pens_of page.width page.height)) page.items.items
