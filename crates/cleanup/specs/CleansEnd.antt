-- Cleans among other actors.
use Rattle.cleanup.specs.Fits.{FitsDriving}
use Rattle.cleanup.specs.Left.{clean_left}
use Rattle.cleanup.specs.SparingFits.{FitsSparingDriving, most_commits}
use Rattle.cleanup.specs.SparingLeft.{sparing_left}
use Rattle.job_protocol.specs.AtWork.{clean_told, clean_wants, sparing_told, sparing_wants}
use Rattle.job_protocol.specs.Measures.{FallsAmong}
use Rattle.std.specs.Prelude.{◌+◌}

-- A request of another actor raises the bound of a clean by at most 3.
abbrev pub CleansEnd : Type 0
CleansEnd = FallsAmong clean_wants clean_told FitsDriving clean_left 3

-- A request of another actor raises the bound of a sparing clean by at most one key or file, with all the uploads that it may name.
abbrev pub SparingsEnd : Type 0
SparingsEnd = FallsAmong sparing_wants sparing_told FitsSparingDriving sparing_left (3 + most_commits)
