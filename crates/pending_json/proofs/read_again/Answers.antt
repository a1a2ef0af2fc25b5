use Rattle.pending_json.proofs.RoundTrip.{pending_text, set_text, success_text}
use Rattle.pending_json.proofs.read_again.Goals as goal

pub returns-clause-uploads : goal.returns-clause-uploads
returns-clause-uploads c p f = pending_text p f

pub returns-clause-sets : goal.returns-clause-sets
returns-clause-sets c s f = set_text s f

pub returns-clause-marks : goal.returns-clause-marks
returns-clause-marks c m f = success_text m f
