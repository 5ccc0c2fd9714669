-- Steps that are done so many times: one more at the end.
use Rattle.std.proofs.Common.{◌≡◌, ℕ, zero, suc, ◌+◌, ◌-◌, ◌<◌, List, [], ◌∷◌, ◌++◌, refl, ap, arith, Result, Ok, Err}
use Rattle.lex_lines.specs.declared.token.Token.{Token}
use Rattle.weld.specs.declared.fault.PartError.{PartError}
use Rattle.weld.specs.declared.fault.PartError.TheVariants.{Part, Memory}
use Rattle.weld.specs.declared.fault.PartFault.{PartFault}
use Rattle.part_text.specs.Made.{IsMade}
use Rattle.part_text.specs.Steps.{Reading, Step, Times}

abbrev value_or : {X : Type 0} → X → Reading X → X
value_or other (Ok (x, tokens)) = x
value_or other (Err fault) = other

abbrev tokens_or : {X : Type 0} → List Token → Reading X → List Token
tokens_or other (Ok (x, tokens)) = tokens
tokens_or other (Err fault) = other

abbrev pub AreOne : {X : Type 0} → Reading X → Reading X → Type 0
AreOne r s = r ≡ s

-- what holds of one reading's value and tokens holds of an equal one's
pub same_reading : {X : Type 0} {x y : X} {left rest : List Token} (P : X → List Token → Type 0) → AreOne (Ok (x, left)) (Ok (y, rest)) → P y rest → P x left
same_reading {X} {x} {y} {left} {rest} P e p =
    let value : x ≡ y = ap (value_or x) e in
    let tokens : left ≡ rest = ap (tokens_or left) e in
    rw (value, tokens) p

abbrev fault_or : {X : Type 0} → PartFault → Reading X → PartFault
fault_or other (Ok (x, tokens)) = other
fault_or other (Err fault) = fault

pub same_fault : {X : Type 0} {fault other : PartFault} (P : PartFault → Type 0) → AreOne {X = X} (Err fault) (Err other) → P other → P fault
same_fault {X} {fault} {other} P e p =
    let same : fault ≡ other = ap (fault_or fault) e in
    rw same p

-- no reading is both a value and a fault
pub impossible : {X P : Type 0} {x : X} {left : List Token} {fault : PartFault} → AreOne (Ok (x, left)) (Err fault) → P
impossible {X} {P} {x} {left} {fault} e = let no : AreOne {X = X} (Ok (x, left)) (Err fault) = e in cc

-- where the steps gave a value, one more
pub one_more : {X : Type 0} (one : Step X) (k : ℕ) (start mid left : List Token) (done : List X) (x : X) → Times k one start (Ok (done, mid)) → one mid (Ok (x, left)) → Times (suc k) one start (Ok (done ++ (x ∷ []), left))
one_more one zero start mid left done x e =
    same_reading (λ done mid. one mid (Ok (x, left)) → Times 1 one start (Ok (done ++ (x ∷ []), left))) e (λ h. (Ok (x, left), h, (Ok ([], left), refl, refl)))
one_more one (suc k) start mid left done x (Err fault, first, e) = impossible e
one_more one (suc k) start mid left done x (Ok (y, next), first, (Err fault, others, e)) = impossible e
one_more one (suc k) start mid left done x (Ok (y, next), first, (Ok (ys, end), others, e)) =
    same_reading (λ done mid. one mid (Ok (x, left)) → Times (suc (suc k)) one start (Ok (done ++ (x ∷ []), left))) e
    (λ h. (Ok (y, next), first, (Ok (ys ++ (x ∷ []), left), one_more one k next end left ys x others h, refl)))

-- where one more fails, all that there were to be
pub one_fails : {X : Type 0} (one : Step X) (k more : ℕ) (start mid : List Token) (done : List X) (fault : PartFault) → Times k one start (Ok (done, mid)) → one mid (Err fault) → Times (k + suc more) one start (Err fault)
one_fails one zero more start mid done fault e =
    let nothing : 0 + suc more ≡ suc more = omega arith in
    same_reading (λ done mid. one mid (Err fault) → Times (0 + suc more) one start (Err fault)) e (λ h. rw nothing (Err fault, h, refl))
one_fails one (suc k) more start mid done fault (Err other, first, e) = impossible e
one_fails one (suc k) more start mid done fault (Ok (y, next), first, (Err other, others, e)) = impossible e
one_fails one (suc k) more start mid done fault (Ok (y, next), first, (Ok (ys, end), others, e)) =
    let past : suc k + suc more ≡ suc (k + suc more) = omega arith in
    same_reading (λ done mid. one mid (Err fault) → Times (suc k + suc more) one start (Err fault)) e
    (λ h. rw past (Ok (y, next), first, (Err fault, one_fails one k more next end ys fault others h, refl)))

pub rest_after : (k count : ℕ) → k < count → k + suc (count - k - 1) ≡ count
rest_after k count h = omega (arith, h)

-- the same, by how many there were to be
pub fails_within : {X : Type 0} (one : Step X) (k count : ℕ) (start mid : List Token) (done : List X) (fault : PartFault) → k < count → Times k one start (Ok (done, mid)) → one mid (Err fault) → Times count one start (Err fault)
fails_within one k count start mid done fault less h f = rw (← rest_after k count less) (one_fails one k (count - k - 1) start mid done fault h f)

-- the tokens that are left, and what holds of the reading
pub made_so : {A X : Type 0} (P Q : Reading X → Type 0) (view : A → X) (answer : Result A PartError) (left : List Token) → ((r : Reading X) → P r → Q r) → IsMade view P answer left → IsMade view Q answer left
made_so P Q view (Ok a) left h p = h (Ok (view a, left)) p
made_so P Q view (Err (Part fault)) left h p = h (Err fault) p
made_so P Q view (Err (Memory e)) left h p = tt

-- so it is of an error
pub error_so : {A B X Y : Type 0} (P : Reading X → Type 0) (Q : Reading Y → Type 0) (view : A → X) (other : B → Y) (error : PartError) (left rest : List Token) → ((fault : PartFault) → P (Err fault) → Q (Err fault)) → IsMade view P (Err error) left → IsMade other Q (Err error) rest
error_so P Q view other (Part fault) left rest h p = h fault p
error_so P Q view other (Memory e) left rest h p = tt
