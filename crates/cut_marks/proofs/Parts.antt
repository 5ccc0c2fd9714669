-- Lists that are put together part by part.
use Rattle.std.proofs.Common.{◌≡◌, ◌++◌, List, ◌∙◌, append_assoc}

pub three_parts : {A : Type 0} (start a b all first second third : List A) → a ≡ start ++ first → b ≡ a ++ second → all ≡ b ++ third → all ≡ start ++ (first ++ second ++ third)
three_parts start a b all first second third p q r = r ∙ (λ i. (q ∙ (λ j. p j ++ second)) i ++ third) ∙ (simp append_assoc)
