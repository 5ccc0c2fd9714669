-- The text of a page as SVG.
use Rattle.std.specs.Prelude.{ℕ, zero, suc, ◌==◌, if◌then◌else◌, ℤ, Bool, true, List, [], ◌∷◌, ◌++◌, Option, Some, None, codes, Vec}
use Rattle.std.specs.declared.alloc.Global.{Global}
use Rattle.std.specs.List.{concat, flat_map}
use Rattle.std.specs.Fmt.{decimal, signed_decimal}
use Rattle.sheet_page.specs.Chains.{phase_between, phase_of, with_tenth}
use Rattle.sheet_page.specs.Dashes.{own_dashes, with_decimals}
use Rattle.sheet_page.specs.Looks.{thin_look, strong_look, mark_look, rule_class}
use Rattle.sheet_page.specs.Pens.{pens_of}
use Rattle.sheet_page.specs.declared.dashes.Dashes.{Dashes}
use Rattle.sheet_page.specs.declared.page.ArrowHead.{ArrowHead}
use Rattle.sheet_page.specs.declared.page.Circle.{Circle}
use Rattle.sheet_page.specs.declared.page.Fill.{Fill}
use Rattle.sheet_page.specs.declared.page.Frame.{Frame}
use Rattle.sheet_page.specs.declared.page.Item.{Item}
use Rattle.sheet_page.specs.declared.page.Item.TheVariants as variant
use Rattle.sheet_page.specs.declared.page.Label.{Label}
use Rattle.sheet_page.specs.declared.page.Page.{Page}
use Rattle.sheet_page.specs.declared.page.Pen.{Pen}
use Rattle.sheet_page.specs.declared.page.Pen.TheVariants as pen
use Rattle.sheet_page.specs.declared.page.Rule.{Rule}
use Rattle.sheet_page.specs.declared.pens.Pens.{Pens}
use Rattle.sheet_plan.specs.LineKinds.{Look, frame_look, look_of}
use Rattle.sheet_plan.specs.declared.sheet.Mark.{Mark}
use Rattle.sheet_plan.specs.declared.sheet.Mark.TheVariants.{Solid, Dashed, Chain, Hatch}
use Rattle.stroke_paths.specs.declared.path.Path.{Path}
use Rattle.stroke_paths.specs.declared.path.Point.{Point}
use Rattle.svg_page.specs.Svg.{millimetres, opening, escaped}
use Rattle.svg_page.specs.Texts.{◌⊕◌}

-- how a class of lines is drawn, with what else its style says
abbrev pub style_of : Look → List (List ℕ) → List (List ℕ)
style_of look more =
    codes "." ∷ look.class ∷ codes "{stroke-width:" ∷ look.width ∷ (if look.round then codes ";stroke-linecap:round" else []) ∷ (more ++ codes "}\n" ∷ [])

-- the lines of a path are joined by round corners
abbrev pub round_joins : List ℕ
round_joins = codes ";stroke-linejoin:round"

-- an area is black where an odd number of its loops go round it, and has no outline
abbrev pub section_style : List ℕ
section_style = codes ".section{fill:black;fill-rule:evenodd;stroke:none}\n"

-- each class; only a trace has dashes of its class
unfoldable pub classes : Pens → List ℕ
classes pens =
    concat
    (codes "path,line,circle,.frame{fill:none;stroke:black}\n" ∷ codes "text{font-family:sans-serif}\n"
    ∷ (style_of frame_look [] ++ style_of thin_look [] ++ style_of strong_look []
    ++ style_of (mark_look pens Solid) (round_joins ∷ []) ++ style_of (mark_look pens Dashed) (round_joins ∷ [])
    ++ style_of (mark_look pens Chain) (round_joins ∷ codes ";stroke-dasharray:" ∷ (mark_look pens Chain).dashes ∷ [])
    ++ style_of (mark_look pens Hatch) [] ++ section_style ∷ codes "</style>\n" ∷ []))

-- a sheet of w by h millimetres is printed as large as it is
unfoldable pub paper : ℤ → ℤ → List ℕ
paper w h = codes "<style>\n@page{size:" ⊕ signed_decimal w ⊕ codes "mm " ⊕ signed_decimal h ⊕ codes "mm;margin:0}\n"

-- the white ground
unfoldable pub ground : ℤ → ℤ → List ℕ
ground width height = codes "<rect width=\"" ⊕ signed_decimal width ⊕ codes "\" height=\"" ⊕ signed_decimal height ⊕ codes "\" fill=\"white\"/>\n"

-- the beginning of a page
abbrev pub head : ℤ → ℤ → List ℕ
head width height =
    opening (millimetres width) (millimetres height) width height ++ paper (millimetres width) (millimetres height) ++ classes (pens_of width height) ++ ground width height

-- the line of a frame
abbrev pub frame_line : Frame → List ℕ
frame_line f =
    codes "<rect class=\"" ⊕ frame_look.class ⊕ codes "\" x=\"" ⊕ signed_decimal f.x ⊕ codes "\" y=\"" ⊕ signed_decimal f.y ⊕ codes "\" width=\""
    ⊕ signed_decimal f.width ⊕ codes "\" height=\"" ⊕ signed_decimal f.height ⊕ codes "\"/>\n"

-- how far into its pattern a chain line begins
abbrev pub dash_offset : ℕ → List ℕ
dash_offset n = codes " stroke-dashoffset=\"" ⊕ with_tenth n ⊕ codes "\""

-- a chain line's place in its pattern
abbrev pub pen_offset : Pen → ℕ → List ℕ
pen_offset pen.Thin n = []
pen_offset pen.Strong n = []
pen_offset pen.Visible n = []
pen_offset pen.Chain n = dash_offset n

abbrev pub rule_offset : Pens → Rule → List ℕ
rule_offset pens r = pen_offset r.pen (phase_between pens r.from r.to)

-- the line of a rule
abbrev pub rule_start : Rule → List ℕ
rule_start r =
    codes "<line class=\"" ⊕ rule_class r.pen ⊕ codes "\" x1=\"" ⊕ signed_decimal r.from.x ⊕ codes "\" y1=\"" ⊕ signed_decimal r.from.y
    ⊕ codes "\" x2=\"" ⊕ signed_decimal r.to.x ⊕ codes "\" y2=\"" ⊕ signed_decimal r.to.y ⊕ codes "\""

abbrev pub rule_line : Pens → Rule → List ℕ
rule_line pens r = rule_start r ++ rule_offset pens r ++ codes "/>\n"

-- the line of a circle
abbrev pub circle_line : Circle → List ℕ
circle_line c =
    codes "<circle class=\"" ⊕ strong_look.class ⊕ codes "\" cx=\"" ⊕ signed_decimal c.x ⊕ codes "\" cy=\"" ⊕ signed_decimal c.y ⊕ codes "\" r=\"" ⊕ decimal c.radius ⊕ codes "\"/>\n"

-- where a text begins, and how large its letters are
abbrev pub text_start : Label → List ℕ
text_start l =
    codes "<text x=\"" ⊕ signed_decimal l.x ⊕ codes "\" y=\"" ⊕ signed_decimal l.y ⊕ codes "\" font-size=\"" ⊕ decimal l.size ⊕ codes "\""

-- how wide a viewer is to set a text, if that is told
abbrev pub text_length : Option ℕ → List ℕ
text_length None = []
text_length (Some width) = codes " textLength=\"" ⊕ decimal width ⊕ codes "\" lengthAdjust=\"spacingAndGlyphs\""

-- the line of a text, each byte by its name if it has one in XML
abbrev pub label_line : Label → List ℕ
label_line l = text_start l ++ text_length l.width ++ codes ">" ++ flat_map escaped l.text ++ codes "</text>\n"

-- to a point, by this letter
abbrev pub to_point : List ℕ → Point → List ℕ
to_point letter p = letter ⊕ signed_decimal p.x ⊕ codes " " ⊕ signed_decimal p.y

-- back to the first point, where the path is closed
abbrev pub back : Bool → List ℕ
back closed = if closed then codes "Z" else []

-- from the first point to the others, and on a closed path back to it
abbrev pub route : Bool → List Point → List ℕ
route closed [] = []
route closed (p ∷ rest) = to_point (codes "M") p ++ flat_map (to_point (codes "L")) rest ++ back closed

-- the head of an arrow: black, from its tip round its base
abbrev pub arrow_head_line : ArrowHead → List ℕ
arrow_head_line h = codes "<path class=\"section\" d=\"" ++ route true (h.tip ∷ h.left ∷ h.right ∷ []) ++ codes "\"/>\n"

-- whatever is no path and no area: these stand in the groups of their views
abbrev pub standing : Pens → Item → List ℕ
standing pens (variant.Frame frame) = frame_line frame
standing pens (variant.Rule rule) = rule_line pens rule
standing pens (variant.Circle circle) = circle_line circle
standing pens (variant.Label label) = label_line label
standing pens (variant.Path path) = []
standing pens (variant.Fill fill) = []
standing pens (variant.ArrowHead arrow) = arrow_head_line arrow

-- dashes, in hundredths of a millimetre; of a path that is drawn whole, nothing
abbrev pub dash_array : Option Dashes → List ℕ
dash_array None = []
dash_array (Some d) = codes " stroke-dasharray=\"" ⊕ with_decimals d.dash ⊕ codes " " ⊕ with_decimals d.gap ⊕ codes "\""

-- a chain line's place in its pattern
abbrev pub own_offset : Pens → Mark → List Point → List ℕ
own_offset pens Solid points = []
own_offset pens Dashed points = []
own_offset pens Chain points = dash_offset (phase_of pens points)
own_offset pens Hatch points = []

-- a path begins with its class
unfoldable pub path_start : Mark → List ℕ
path_start mark = codes "<path class=\"" ⊕ (look_of mark).class ⊕ codes "\""

-- a path: its class, its dashes or its place in them, and its points
abbrev pub path_line : Pens → Path → List ℕ
path_line pens path =
    path_start path.mark ++ dash_array (own_dashes pens path.mark path.closed path.points.items) ++ own_offset pens path.mark path.points.items ++ codes " d=\"" ++ route path.closed path.points.items ++ codes "\"/>\n"

-- a loop, which goes back to its first point
abbrev pub loop_route : Vec Point Global → List ℕ
loop_route points = route true points.items

-- an area: its class and its loops
abbrev pub fill_line : Fill → List ℕ
fill_line fill = codes "<path class=\"section\" d=\"" ++ flat_map loop_route fill.loops.items ++ codes "\"/>\n"

-- a path or an area of this view; nothing else stands in its group
abbrev pub drawn_in : Pens → ℕ → Item → List ℕ
drawn_in pens view (variant.Frame frame) = []
drawn_in pens view (variant.Rule rule) = []
drawn_in pens view (variant.Circle circle) = []
drawn_in pens view (variant.Label label) = []
drawn_in pens view (variant.ArrowHead arrow) = []
drawn_in pens view (variant.Path path) = if path.view == view then path_line pens path else []
drawn_in pens view (variant.Fill fill) = if fill.view == view then fill_line fill else []

-- a group begins with the number of its view
unfoldable pub group_start : ℕ → List ℕ
group_start view = codes "<g id=\"view-" ⊕ decimal view ⊕ codes "\">\n"

-- the group of a view, also of an empty one
abbrev pub group : Pens → ℕ → List Item → List ℕ
group pens view items = group_start view ++ flat_map (drawn_in pens view) items ++ codes "</g>\n"

-- the groups of the first views
abbrev pub groups_below : Pens → ℕ → List Item → List ℕ
groups_below pens zero items = []
groups_below pens (suc n) items = groups_below pens n items ++ group pens n items

-- the text of a page by its pens: what is of no view in its order, and for each view a group of its paths and areas in their order
abbrev pub drawn_by : Pens → Page → List ℕ
drawn_by pens page =
    head page.width page.height ++ flat_map (standing pens) page.items.items ++ groups_below pens page.views page.items.items ++ codes "</svg>\n"

unfoldable pub svg_of : Page → List ℕ
svg_of page = drawn_by (pens_of page.width page.height) page
