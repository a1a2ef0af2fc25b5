use Rattle.job_protocol.proofs.PathBounds.{given_place, placed_open}
use Rattle.job_protocol.proofs.paths.Goals as goal

pub returns : goal.returns
returns c = record { places = record { given = given_place; placed = placed_open } }
