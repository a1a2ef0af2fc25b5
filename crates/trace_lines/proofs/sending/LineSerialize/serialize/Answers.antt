use Rattle.serde.proofs.Events.{WritesEach-more}
use Rattle.std.proofs.Common.{rules}
use Rattle.std.proofs.lemmas.Result.{on_ok_weaker}
use Rattle.trace_lines.proofs.Sent.{SendsMember, line_sent}
use Rattle.trace_lines.proofs.sending.LineSerialize.serialize.Goals as goal

pub loop-member-preserved : goal.loop-member-preserved
loop-member-preserved g c = WritesEach-more SendsMember _ _ _ _ _ _ (search rules) c.member-item.is c.loop-member.invariant
    (_, c.in_ok-key.ensures, c.in_ok-send_value.ensures)

pub returns : goal.returns
returns g c = on_ok_weaker c.end_map.result (line_sent c.args.self.now.members.items _ _ _ _ _ _ _
    c.as_slice-members.ensures.value (search rules) c.loop-member-test.false c.in_ok-begin_map.ensures c.loop-member.invariant)
    c.end_map.ensures
