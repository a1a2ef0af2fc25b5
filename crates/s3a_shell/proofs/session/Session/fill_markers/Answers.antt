use Rattle.fs_ops.specs.Places.{look_asks}
use Rattle.fs_tree.specs.MarkerTool.{Fills, IsFilling}
use Rattle.marker_tool.specs.Markers.{missing_in}
use Rattle.marker_tool.specs.Works.{FillSends}
use Rattle.s3a_shell.proofs.Asking.{asked_of}
use Rattle.s3a_shell.proofs.Few.{few_at, tool_left}
use Rattle.s3a_shell.proofs.Performing.{did_at, on_ok, sent_of}
use Rattle.s3a_shell.specs.Most.{count_below, missing_below}
use Rattle.s3a_shell.specs.Texts.{filled_line}
use Rattle.std.proofs.Common.{ℕ, ◌*◌, ◌+◌}
use Rattle.marker_tool.specs.code.Tool as tool
use Rattle.s3a_shell.proofs.session.Session.fill_markers.Goals as goal

pub returns-clause-did : goal.returns-clause-did
returns-clause-did c = did_at c.args.path.now Fills filled_line _ _ _ c.in_ok-answer.answer c.filled_said.result c.in_ok-filling.ensures
    c.in_ok-answer.ensures.given c.filled_said.ensures

pub returns-clause-sent : goal.returns-clause-sent
returns-clause-sent c = on_ok c.filled_said.result (sent_of c.args.path.now.bucket IsFilling _ _ _ _ c.in_ok-filling.ensures
    c.in_ok-answer.ensures.sent)

pub returns-clause-asked : goal.returns-clause-asked
returns-clause-asked c = on_ok c.filled_said.result
    (asked_of c.args.path.now.bucket look_asks FillSends c.args.self.now.store.scene _ _ _ _ c.in_ok-filling.ensures
    c.in_ok-answer.ensures.asked)

pub returns-clause-few : goal.returns-clause-few
returns-clause-few c = on_ok c.filled_said.result
    (few_at (tool.left {A = ℕ} missing_in) (tool.first {A = ℕ}) (λ k m. 3 + 2 * count_below k m + missing_below k m) c.args.path.now.bucket
    c.args.self.now.store.scene _ _ _ _
    (tool_left ℕ missing_in c.in_ok-filling.filling) c.in_ok-filling.ensures c.in_ok-answer.ensures.few)
