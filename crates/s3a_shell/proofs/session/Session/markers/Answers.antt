use Rattle.fs_ops.proofs.AtPathLaws.{looks_there}
use Rattle.fs_tree.specs.MarkerTool.{Audits}
use Rattle.fs_tree.specs.declared.markers.MarkerEntry.{MarkerEntry}
use Rattle.s3a_shell.proofs.Asking.{looked}
use Rattle.s3a_shell.proofs.Few.{audit_left, few_at}
use Rattle.s3a_shell.proofs.Looking.{looked_same}
use Rattle.s3a_shell.proofs.Performing.{did_at, on_ok, sent_still}
use Rattle.s3a_shell.specs.Most.{count_below}
use Rattle.s3a_shell.specs.Texts.{marker_lines}
use Rattle.std.proofs.Common.{List, [], ◌*◌, ◌+◌}
use Rattle.marker_tool.specs.code.Tool as tool
use Rattle.s3a_shell.proofs.session.Session.markers.Goals as goal

pub returns-clause-did : goal.returns-clause-did
returns-clause-did c = did_at c.args.path.now Audits marker_lines _ _ _ c.in_ok-answer.answer c.markers_said.result c.in_ok-audit.ensures
    c.in_ok-answer.ensures.given c.markers_said.ensures

pub returns-clause-sent : goal.returns-clause-sent
returns-clause-sent c = on_ok c.markers_said.result (sent_still c.args.path.now.bucket _ _ c.in_ok-answer.ensures.sent)

pub returns-clause-looks : goal.returns-clause-looks
returns-clause-looks c = on_ok c.markers_said.result (looked_same c.args.path.now.bucket _ c.args.self.now.store.scene c.args.self.now
    c.perform_at.new.self (looks_there c.in_ok-audit.audit) c.in_ok-answer.ensures.asked)

pub returns-clause-asked : goal.returns-clause-asked
returns-clause-asked c = on_ok c.markers_said.result
    (looked c.args.path.now.bucket _ c.args.self.now.store.scene c.args.self.now c.perform_at.new.self (looks_there c.in_ok-audit.audit)
    c.in_ok-answer.ensures.asked)

pub returns-clause-few : goal.returns-clause-few
returns-clause-few c = on_ok c.markers_said.result
    (few_at (tool.left {A = List MarkerEntry} (λ q es. [])) (tool.first {A = List MarkerEntry}) (λ k m. 3 + 2 * count_below k m)
    c.args.path.now.bucket c.args.self.now.store.scene _ _ _ _
    (audit_left (List MarkerEntry) c.in_ok-audit.audit) c.in_ok-audit.ensures c.in_ok-answer.ensures.few)
