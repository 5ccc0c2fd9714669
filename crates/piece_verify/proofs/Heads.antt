-- Columns of one value.
use Rattle.std.proofs.Common.{◌≡◌, ◌≢◌, ℕ, ◌<◌, ◌^◌, List, [], ◌∷◌, ◌++◌, ℤ, pos, negsuc, unsigned_abs, Option, Some, None, MatchOption, w64, to_z, of_z, to_z-of_z, FitsSigned, Bool, true, false, codes, refl, sym, ◌∙◌, ap, subst, arith, lit<}
use Rattle.std.specs.Prelude.{nat_le, if◌then◌else◌, ◌==◌}
use Rattle.std.specs.Fmt.{decimal, signed_decimal}
use Rattle.std.specs.List.{list_all}
use Rattle.std.proofs.lemmas.Bool.{and_parts, leb-true}
use Rattle.std.proofs.lemmas.Int.{ints}
use Rattle.exact_frac.specs.declared.Frac.{Frac}
use Rattle.sheet_plan.specs.declared.sheet.Mark.{Mark}
use Rattle.sheet_plan.specs.declared.sheet.Mark.TheVariants.{Solid, Dashed, Chain, Hatch}
use Rattle.sheet_plan.specs.LineKinds.{word_of}
use Rattle.plot_rack.specs.Lists.{frac_text}
use Rattle.piece_verify.specs.Columns.{IsFree, Reads, IsColumn, HasNoColumn}
use Rattle.piece_verify.specs.Values.{IsView, IsInRange, IsSmall, IsListedFrac, IsAny}
use Rattle.piece_verify.proofs.Parts.{free-append, not_free, same_parts}
use Rattle.piece_verify.proofs.Numerals.{free_natural, free_whole, same_natural, same_whole}

-- ---- a column ends at the first of its byte
pub no_end : {X : Type 0} (Holds : X → Type 0) (text_of : X → List ℕ) (end : ℕ) (text : List ℕ) → IsFree end text → HasNoColumn Holds text_of end text
no_end Holds text_of end text free x rest h e = not_free end (text_of x) rest (subst (IsFree end) e free)

pub no_value : {X : Type 0} (Holds : X → Type 0) (text_of : X → List ℕ) (end : ℕ) (text head rest : List ℕ) → ((x : X) → Holds x → IsFree end (text_of x)) → IsFree end head
    → text ≡ head ++ end ∷ rest → ((x : X) → Holds x → head ≡ text_of x → ⊥) → HasNoColumn Holds text_of end text
no_value Holds text_of end text head rest each free is none x tail h e =
    none x h (same_parts end head rest (text_of x) tail free (each x h) (sym is ∙ e)).0

pub one_value : {X : Type 0} (Holds : X → Type 0) (text_of : X → List ℕ) (end : ℕ) (text head rest : List ℕ) (x : X) → ((x : X) → Holds x → IsFree end (text_of x))
    → IsFree end head
    → text ≡ head ++ end ∷ rest → Holds x → head ≡ text_of x → IsColumn Holds text_of end text x rest
one_value Holds text_of end text head rest x each free is holds read = record {
  holds = holds;
  written = is ∙ ap (λ (t : List ℕ). t ++ end ∷ rest) read;
  alone = λ y tail h e. (let p = same_parts end head rest (text_of y) tail free (each y h) (sym is ∙ e) in (sym p.0 ∙ read, sym p.1));
}

-- ---- the byte that ends it is in no text
number_size : (z : ℤ) → IsInRange z → unsigned_abs z < 2 ^ 104
number_size (pos n) h = omega (arith, ints, h.most)
number_size (negsuc n) h = omega (arith, ints, h.least)

below_48 : (end : ℕ) → end < 45 → end < 48
below_48 end h = omega (arith, h)

not_45 : (end : ℕ) → end < 45 → 45 ≢ end
not_45 end h = λ e. omega (arith, h, e)

pub free_number : (end : ℕ) → end < 45 → (z : ℤ) → IsInRange z → IsFree end (signed_decimal z)
free_number end h z r = free_whole end z (below_48 end h) (not_45 end h) (number_size z r)

-- the text of a fraction
whole_form : (n d : ℤ) (end : ℕ) → end < 45 → unsigned_abs n < 2 ^ 104 → unsigned_abs d < 2 ^ 70 → (b : Bool)
    → IsFree end (if b then signed_decimal n else signed_decimal n ++ codes "/" ++ signed_decimal d)
whole_form n d end h num den true = free_whole end n (below_48 end h) (not_45 end h) num
whole_form n d end h num den false =
    free-append end (signed_decimal n ++ codes "/") (signed_decimal d)
    (free-append end (signed_decimal n) (codes "/") (free_whole end n (below_48 end h) (not_45 end h) num) ((λ e. omega (arith, h, e)), tt))
    (free_whole end d (below_48 end h) (not_45 end h) (omega (arith, den)))

pub free_short : (end : ℕ) → end < 45 → (f : Frac) → IsSmall f → IsFree end (frac_text f)
free_short end h f l = whole_form f.num f.den end h l.num l.den (unsigned_abs f.den == 1)

pub free_frac : (f : Frac) → IsListedFrac f → IsFree 32 (frac_text f)
free_frac f l = free_short 32 (lit< tt) f l.small

-- bytes from `-` on are none of those that end a column
from_minus : (end : ℕ) (bytes : List ℕ) → end < 45 → list_all (nat_le 45) bytes ≡ true → IsFree end bytes
from_minus end [] h k = tt
from_minus end (byte ∷ bytes) h k =
    let both = and_parts (nat_le 45 byte) (list_all (nat_le 45) bytes) k in
    ((λ e. omega (arith, h, e, leb-true 45 byte both.0)), from_minus end bytes h both.1)

pub free_word : (end : ℕ) → end < 45 → (m : Mark) → IsFree end (word_of m)
free_word end h Solid = from_minus end (codes "solid") h refl
free_word end h Dashed = from_minus end (codes "dashed") h refl
free_word end h Chain = from_minus end (codes "chain") h refl
free_word end h Hatch = from_minus end (codes "hatch") h refl

pub free_mark : (m : Mark) → IsAny m → IsFree 32 (word_of m)
free_mark m h = free_word 32 (lit< tt) m

pub free_view : (least view : ℕ) → IsView least view → IsFree 32 (decimal view)
free_view least view h = free_natural 32 view (lit< tt) (omega (arith, h.size))

-- ---- a number that is narrow enough
pub view_none : (least n : ℕ) (bytes : List ℕ) → n < 2 ^ 104 → bytes ≡ decimal n → (o : Option ℕ) → MatchOption o (IsView least n → ⊥) (λ view. (view ≡ n) × IsView least n)
    → Reads (IsView least) decimal bytes o
view_none least n bytes size is None none = λ v h e. none (subst (IsView least) (same_natural v n (omega (arith, h.size)) size (sym e ∙ is)) h)
view_none least n bytes size is (Some view) same = (subst (IsView least) (sym same.0) same.1, is ∙ ap decimal (sym same.0))

pub view_unread : (least : ℕ) (bytes : List ℕ) → ((n : ℕ) → n < 2 ^ 104 → bytes ≡ decimal n → ⊥) → (v : ℕ) → IsView least v → bytes ≡ decimal v → ⊥
view_unread least bytes none v h e = none v (omega (arith, h.size)) e

pub number_none : (z : ℤ) (bytes : List ℕ) → unsigned_abs z < 2 ^ 104 → bytes ≡ signed_decimal z → (o : Option ℤ)
    → MatchOption o (IsInRange z → ⊥) (λ narrow. (narrow ≡ z) × IsInRange z) → Reads IsInRange signed_decimal bytes o
number_none z bytes size is None none = λ y h e. none (subst IsInRange (same_whole y z (number_size y h) size (sym e ∙ is)) h)
number_none z bytes size is (Some narrow) same = (subst IsInRange (sym same.0) same.1, is ∙ ap signed_decimal (sym same.0))

pub number_unread : (bytes : List ℕ) → ((z : ℤ) → unsigned_abs z < 2 ^ 104 → bytes ≡ signed_decimal z → ⊥) → (y : ℤ) → IsInRange y → bytes ≡ signed_decimal y → ⊥
number_unread bytes none y h e = none y (number_size y h) e

-- ---- numbers that fit
fits_word : (z : ℤ) → IsInRange z → FitsSigned w64 z
fits_word (pos n) h = omega (arith, ints, h.most)
fits_word (negsuc n) h = omega (arith, ints, h.least)

pub kept_word : (z : ℤ) → IsInRange z → to_z w64 (of_z w64 z) ≡ z
kept_word z h = let f : FitsSigned w64 z = fits_word z h in rw to_z-of_z refl
