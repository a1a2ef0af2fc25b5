-- A set-up among other actors.
use Rattle.job_protocol.specs.AtWork.{setup_told, setup_wants}
use Rattle.job_protocol.specs.Measures.{FallsAmong}
use Rattle.job_setup.specs.Fits.{FitsDriving}
use Rattle.job_setup.specs.Left.{setup_left}

-- A request of another actor raises the bound of a set-up by at most 2.
abbrev pub SetupsEnd : Type 0
SetupsEnd = FallsAmong setup_wants setup_told FitsDriving setup_left 2
