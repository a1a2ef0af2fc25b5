-- What a job's commit keeps true of its parts.
use Rattle.job_model.specs.declared.ends.Pick.{Pick}
use Rattle.std.specs.Prelude.{List, ℕ, [], ◌+◌, ◌∷◌}

-- The chosen attempts of the tasks from `t` on.
abbrev pub picks_from : ℕ → List ℕ → List Pick
picks_from t [] = []
picks_from t (a ∷ others) = record { task = t; attempt = a } ∷ picks_from (t + 1) others

-- ---- the same for the data of a commit
