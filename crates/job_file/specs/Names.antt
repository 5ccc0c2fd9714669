-- The named views: their directions and their texts.
use Rattle.std.specs.Prelude.{ℕ, pos, negsuc, List, [], ◌∷◌, codes}
use Rattle.lattice.specs.Triple.{Triple}
use Rattle.job_file.specs.declared.view.Principal.{Principal}
use Rattle.job_file.specs.declared.view.Principal.TheVariants.{Front, Back, Left, Right, Above, Below}

-- from where the part is seen
abbrev pub direction_of : Principal → Triple
direction_of Front = record { x = pos 0; y = negsuc 0; z = pos 0 }
direction_of Back = record { x = pos 0; y = pos 1; z = pos 0 }
direction_of Left = record { x = negsuc 0; y = pos 0; z = pos 0 }
direction_of Right = record { x = pos 1; y = pos 0; z = pos 0 }
direction_of Above = record { x = pos 0; y = pos 0; z = pos 1 }
direction_of Below = record { x = pos 0; y = pos 0; z = negsuc 0 }

-- what a job calls them
abbrev pub principals : List (List ℕ × Principal)
principals =
    (codes "front", Front) ∷ (codes "back", Back) ∷ (codes "left", Left) ∷ (codes "right", Right) ∷ (codes "above", Above) ∷ (codes "below", Below) ∷ []
