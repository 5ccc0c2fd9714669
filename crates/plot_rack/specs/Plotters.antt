-- What a plotter stands for, and what its calls do to it.
use Rattle.std.specs.Prelude.{◌≡◌, ◌<◌, ◌⊎◌, ◌+◌, ℕ, ℤ, List, [], ◌∷◌, ◌++◌, length, take, drop, map, slice_get, Option, Some, option_map}
use Rattle.sheet_plan.specs.declared.sheet.Stroke.{Stroke}

-- what a plotter stands for
pub record Plot : Type 0 where
  pub suffix : List ℕ
  -- width and height of the page, where one was begun, and the strokes taken on it
  pub page : Option (ℤ × ℤ)
  pub strokes : List Stroke
  -- the bytes that it makes of a page and the strokes on it
  pub paper : ℤ × ℤ → List Stroke → List ℕ

-- it begins this page
abbrev pub begun : ℤ × ℤ → Plot → Plot
begun page p = record p { page = Some page; strokes = [] }

-- it takes one stroke more
abbrev pub with_stroke : Stroke → Plot → Plot
with_stroke stroke p = record p { strokes = p.strokes ++ stroke ∷ [] }

-- what it makes of its page and strokes, where a page was begun
abbrev pub text_of : Plot → Option (List ℕ)
text_of p = option_map (λ page. p.paper page p.strokes) p.page

-- it has begun this page and taken exactly these strokes, in order
abbrev pub drawn : ℤ × ℤ → List Stroke → Plot → Plot
drawn page strokes p = record p { page = Some page; strokes = strokes }

-- it is as it was, or it has begun this page and taken some first ones of these strokes there, perhaps none, but not all
abbrev pub IsPartlyDrawn : ℤ × ℤ → List Stroke → Plot → Plot → Type 0
IsPartlyDrawn page strokes old new = (new ≡ old) ⊎ ((n : ℕ) × (n < length strokes) × (new ≡ drawn page (take n strokes) old))

-- each of them has begun this page and taken exactly these strokes
abbrev pub AreDrawn : {B : Type 0} → (B → Plot) → ℤ × ℤ → List Stroke → List B → List B → Type 0
AreDrawn plot_of page strokes old new = map plot_of new ≡ map (λ b. drawn page strokes (plot_of b)) old

-- those before some place have, the one at that place has in part, and the later ones are as they were
pub record AreDrawnInPart {B : Type 0} (plot_of : B → Plot) (page : ℤ × ℤ) (strokes : List Stroke) (old new : List B) : Type 0 where
  pub place : ℕ
  pub within : place < length old
  pub count : length new ≡ length old
  pub before : AreDrawn plot_of page strokes (take place old) (take place new)
  pub here : (b c : B) → slice_get old place ≡ Some b → slice_get new place ≡ Some c → IsPartlyDrawn page strokes (plot_of b) (plot_of c)
  pub later : drop (place + 1) new ≡ drop (place + 1) old
