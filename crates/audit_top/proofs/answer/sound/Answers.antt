use Rattle.std.proofs.Common.{List, subst, sym}
use Rattle.audit_text.specs.declared.sound.Pick.{Pick}
use Rattle.audit_top.proofs.Answering.{if_made, tells_sound}
use Rattle.audit_top.specs.Answer.{ArePicks}
use Rattle.audit_top.proofs.answer.sound.Goals as goal

pub returns : goal.returns
returns c = record {
  text = if_made c.sound_text.result _ _ (λ text is all t count.
      tells_sound c.args.audit.now all t c.args.lines c.changes.result c.marker.result c.as_slice.result.now _ count
      (c.changes.ensures.changes t.said t.at.tells) (c.marker.ensures.marker t.said t.at.tells)
      (subst (λ k. ArePicks k all t.said c.as_slice.result.now) (sym c.marker.ensures.same)
      (subst (λ (l : List Pick). ArePicks c.args.audit.now.bench.marker all t.said l) (sym c.as_slice.ensures.value)
      (c.in_ok-picks.ensures.picks all t))) is) c.sound_text.ensures.text;
}
