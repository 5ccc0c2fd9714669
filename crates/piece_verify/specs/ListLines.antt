-- The lines of a list: what a list may have, and what its reader finds.
use Rattle.std.specs.Prelude.{◌≡◌, ℕ, ℤ, ◌<◌, ◌≤◌, ◌^◌, List, ◌++◌}
use Rattle.exact_frac.specs.declared.Frac.{Frac}
use Rattle.sheet_plan.specs.declared.sheet.Stroke.{Stroke}
use Rattle.plot_rack.specs.Lists.{page_line, stroke_line}
use Rattle.piece_verify.specs.Values.{IsInRange, IsSmall}
use Rattle.piece_verify.specs.declared.line.Entry.{Entry}

-- a page that a list may have
abbrev pub IsListedPage : ℤ × ℤ → Type 0
IsListedPage page = IsInRange page.0 × IsInRange page.1

-- a stroke that a list may have; that its fractions are in lowest terms is in its type
pub record IsListed (s : Stroke) : Type 0 where
  pub view : s.view < 2 ^ 32
  pub u1 : IsSmall s.u1
  pub v1 : IsSmall s.v1
  pub u2 : IsSmall s.u2
  pub v2 : IsSmall s.v2
  pub x1 : IsInRange s.x1
  pub y1 : IsInRange s.y1
  pub x2 : IsInRange s.x2
  pub y2 : IsInRange s.y2

-- the same two numbers
abbrev pub IsSameFrac : Frac → Frac → Type 0
IsSameFrac f g = (f.num ≡ g.num) × (f.den ≡ g.den)

-- what is read of a stroke: its view, its mark and its fractions
pub record IsEntryOf (s : Stroke) (e : Entry) : Type 0 where
  pub view : e.view ≡ s.view
  pub mark : e.mark ≡ s.mark
  pub u1 : IsSameFrac e.u1 s.u1
  pub v1 : IsSameFrac e.v1 s.v1
  pub u2 : IsSameFrac e.u2 s.u2
  pub v2 : IsSameFrac e.v2 s.v2

-- the text begins with the line of a page, and goes on with the rest
pub record IsPageAt (text rest : List ℕ) : Type 0 where
  pub page : ℤ × ℤ
  pub listed : IsListedPage page
  pub written : text ≡ page_line page ++ rest

-- it begins with no such line
abbrev pub HasNoPage : List ℕ → Type 0
HasNoPage text = (page : ℤ × ℤ) (rest : List ℕ) → IsListedPage page → text ≡ page_line page ++ rest → ⊥

-- it begins with the line of a stroke whose view isn't below this one, and goes on with the rest
pub record IsEntryAt (least : ℕ) (text : List ℕ) (e : Entry) (rest : List ℕ) : Type 0 where
  pub stroke : Stroke
  pub listed : IsListed stroke
  pub from : least ≤ stroke.view
  pub entry : IsEntryOf stroke e
  pub written : text ≡ stroke_line stroke ++ rest

-- it begins with no such line
abbrev pub HasNoEntry : ℕ → List ℕ → Type 0
HasNoEntry least text = (s : Stroke) (rest : List ℕ) → IsListed s → least ≤ s.view → text ≡ stroke_line s ++ rest → ⊥
