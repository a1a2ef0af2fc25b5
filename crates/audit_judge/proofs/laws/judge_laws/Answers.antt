use Rattle.audit_judge.proofs.Deciding.{unsound}
use Rattle.audit_judge.proofs.Picked.{picked}
use Rattle.audit_judge.proofs.Steps.{sound_of}
use Rattle.audit_judge.proofs.laws.judge_laws.Goals as goal

pub returns : goal.returns
returns c = record { sound = sound_of; unsound = unsound; picked = picked }
