-- Where a line of a view meets a hatch line.
use Rattle.std.specs.Prelude.{◌≡◌, ◌≢◌, ℤ, pos, ◌+ℤ◌, ◌-ℤ◌, ◌*ℤ◌, ◌<ℤ◌}
use Rattle.lattice.specs.declared.lines.Line.{Line}
use Rattle.hatch_fill.specs.declared.places.HatchPlace.{HatchPlace}
use Rattle.hatch_fill.specs.inner.Places.{IsNear}

-- a U + b V = c, where U is n / m and U - V is this number
abbrev pub MeetsAt : Line → ℤ → ℤ → ℤ → Type 0
MeetsAt line diagonal n m = (line.a +ℤ line.b) *ℤ n ≡ (line.c +ℤ (line.b *ℤ diagonal)) *ℤ m

-- the line crosses the hatch line with this U - V there
pub record IsMeeting (line : Line) (diagonal : ℤ) (t : HatchPlace) : Type 0 where
  pub crosses : line.a +ℤ line.b ≢ pos 0
  pub at : t.diagonal ≡ diagonal
  pub on : MeetsAt line diagonal t.across.num t.across.den

-- the line crosses the hatch line with this U - V, and a spot can be there
pub record HasMeeting (line : Line) (diagonal : ℤ) : Type 0 where
  pub n : ℤ
  pub m : ℤ
  pub positive : pos 0 <ℤ m
  pub crosses : line.a +ℤ line.b ≢ pos 0
  pub on : MeetsAt line diagonal n m
  pub across : IsNear n m
  pub upward : IsNear (n -ℤ (diagonal *ℤ m)) m
