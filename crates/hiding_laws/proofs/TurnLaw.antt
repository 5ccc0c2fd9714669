-- What changes in an angle by a turn.
use Rattle.std.specs.Prelude.{◌≡◌, ℤ, pos, ◌-ℤ◌}
use Rattle.geometry.specs.Turns.{Way, turn_from, Passes}
use Rattle.hiding_laws.specs.inner.Tallies.{IsTally}

-- whether a way is in the open angle from g to h changes, from u to v, by the sides g and h of the angle that the turn from u to v passes
abbrev pub TurnLaw : Type 0
TurnLaw = (u v g h : Way) (before after enters leaves : ℤ)
    → ¬ (turn_from u g ≡ pos 0) → ¬ (turn_from u h ≡ pos 0) → ¬ (turn_from g v ≡ pos 0) → ¬ (turn_from h v ≡ pos 0)
    → IsTally (Passes g u h) before → IsTally (Passes g v h) after → IsTally (Passes u g v) enters → IsTally (Passes u h v) leaves
    → after -ℤ before ≡ enters -ℤ leaves
