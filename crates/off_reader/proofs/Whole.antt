-- The whole reading, by the step at which it ends.
use Rattle.std.proofs.Common.{◌≡◌, ℕ, true, List, None, refl, Ok, Err}
use Rattle.lattice.specs.declared.soup.Tri.{Tri}
use Rattle.lattice.specs.Triple.{Triple}
use Rattle.lex_lines.specs.declared.token.Token.{Token}
use Rattle.lex_lines.specs.Places.{AreTokens}
use Rattle.dec_text.specs.declared.number.Length.{Length}
use Rattle.weld.specs.declared.fault.PartError.{PartError}
use Rattle.weld.specs.declared.fault.PartError.TheVariants.{Part, Memory}
use Rattle.weld.specs.declared.fault.PartFault.{PartFault}
use Rattle.part_text.specs.Steps.{Reading, Times, read_value}
use Rattle.weld.specs.Raw.{Raw}
use Rattle.part_text.specs.Vertices.{Vertex}
use Rattle.part_text.proofs.Again.{AreOne}
use Rattle.part_text.proofs.FirstZero.{zero_place}
use Rattle.part_text.proofs.WholeTexts.{text_read}
use Rattle.off_reader.specs.Off.{Header, Faces, at_end, Whole, ReadsOff, AnswersOff}
use Rattle.part_text.specs.Made.{IsMade}

pub header_fails : (decimals : ℕ) (unit : Length) (bytes : List ℕ) (start : List Token) (fault : PartFault) → Header bytes start (Err fault) → Whole decimals unit bytes start (Err fault)
header_fails decimals unit bytes start fault h = (Err fault, h, refl)

pub vertices_fail : (decimals : ℕ) (unit : Length) (bytes : List ℕ) (vertices faces : ℕ) (start first : List Token) (fault : PartFault) → Header bytes start (Ok ((vertices, faces), first)) → Times vertices (Vertex decimals unit bytes) first (Err fault) → Whole decimals unit bytes start (Err fault)
vertices_fail decimals unit bytes vertices faces start first fault header h = (Ok ((vertices, faces), first), header, (Err fault, h, refl))

pub faces_fail : (decimals : ℕ) (unit : Length) (bytes : List ℕ) (vertices faces : ℕ) (start first second : List Token) (corners : List Triple) (fault : PartFault) → Header bytes start (Ok ((vertices, faces), first)) → Times vertices (Vertex decimals unit bytes) first (Ok (corners, second)) → Faces bytes corners faces 0 0 second (Err fault) → Whole decimals unit bytes start (Err fault)
faces_fail decimals unit bytes vertices faces start first second corners fault header rows h =
    (Ok ((vertices, faces), first), header, (Ok (corners, second), rows, (Err fault, h, refl)))

pub ends : (decimals : ℕ) (unit : Length) (bytes : List ℕ) (vertices faces : ℕ) (start first second third : List Token) (corners : List Triple) (triangles : List Tri) (r : Reading Raw) → Header bytes start (Ok ((vertices, faces), first)) → Times vertices (Vertex decimals unit bytes) first (Ok (corners, second)) → Faces bytes corners faces 0 0 second (Ok (triangles, third)) → AreOne r (at_end (record { vertices = corners; triangles = triangles }) third) → Whole decimals unit bytes start r
ends decimals unit bytes vertices faces start first second third corners triangles r header rows others h =
    (Ok ((vertices, faces), first), header, (Ok (corners, second), rows, (Ok (triangles, third), others, h)))

-- ---- answers
-- an error of a step is the answer of the whole
pub error_answer : {A X : Type 0} (decimals : ℕ) (unit : Length) (bytes : List ℕ) (P : Reading X → Type 0) (view : A → X) (error : PartError) (start left : List Token) → zero_place bytes ≡ None → AreTokens true bytes start → ((fault : PartFault) → P (Err fault) → Whole decimals unit bytes start (Err fault)) → IsMade view P (Err error) left → AnswersOff decimals unit bytes (Err error)
error_answer decimals unit bytes P view (Part fault) start left none tokens h p = text_read true (Whole decimals unit bytes) bytes start (Err fault) none tokens (h fault p)
error_answer decimals unit bytes P view (Memory e) start left none tokens h p = tt

-- and so is what stands behind the last face
pub end_answer : (decimals : ℕ) (unit : Length) (bytes : List ℕ) (vertices faces : ℕ) (start first second third : List Token) (corners : List Triple) (triangles : List Tri) (r : Reading Raw) → zero_place bytes ≡ None → AreTokens true bytes start → Header bytes start (Ok ((vertices, faces), first)) → Times vertices (Vertex decimals unit bytes) first (Ok (corners, second)) → Faces bytes corners faces 0 0 second (Ok (triangles, third)) → AreOne r (at_end (record { vertices = corners; triangles = triangles }) third) → ReadsOff decimals unit bytes (read_value r)
end_answer decimals unit bytes vertices faces start first second third corners triangles r none tokens header rows others h =
    text_read true (Whole decimals unit bytes) bytes start r none tokens (ends decimals unit bytes vertices faces start first second third corners triangles r header rows others h)
