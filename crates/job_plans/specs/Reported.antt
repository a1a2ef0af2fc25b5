-- The attempts of a script for which a flag is set.
use Rattle.job_model.specs.Attempts.{Declared, Who}
use Rattle.std.specs.Prelude.{Bool, List, cond, [], ◌∷◌}

-- The attempts whose flag is set, in script order.
abbrev pub those : List Declared → List Bool → List Who
those [] bs = []
those (d ∷ ds) [] = []
those (d ∷ ds) (b ∷ bs) = cond b (d.0 ∷ those ds bs) (those ds bs)
