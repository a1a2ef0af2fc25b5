use Rattle.store_frame.proofs.Framed.{frame}
use Rattle.store_frame.proofs.Reading.{reads_nothing}
use Rattle.store_frame.proofs.requests.Goals as goal

pub returns : goal.returns
returns c = record { keep = record { frame = frame; reads = reads_nothing } }
