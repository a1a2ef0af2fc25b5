use Rattle.audit_laws.proofs.Alike.{first_alike, sound_alike}
use Rattle.audit_laws.proofs.Judge.{again, changed_all}
use Rattle.audit_laws.proofs.Lines.{one_more}
use Rattle.audit_laws.proofs.Seen.{marker_laws, seen_laws}
use Rattle.audit_laws.proofs.laws.audit_laws.Goals as goal

pub returns : goal.returns
returns c = record {
  one_more = one_more;
  sound = sound_alike;
  first = first_alike;
  seen = seen_laws;
  marker = marker_laws;
  again = again;
  changed = changed_all;
}
