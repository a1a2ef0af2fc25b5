-- Definitions beside those of `Writing` that no public contract cites.
use Rattle.job_model.specs.Files.{File}
use Rattle.job_model.specs.declared.ends.TaskEnd.{TaskEnd}
use Rattle.std.specs.Prelude.{List, None, Option, Some, [], ◌∷◌}
use Rattle.job_model.specs.declared.ends.TaskEnd.TheVariants as ends

-- Done if there are no files, else None.
abbrev pub done_if_none : List File → Option TaskEnd
done_if_none [] = Some ends.Done
done_if_none (f ∷ fs) = None
