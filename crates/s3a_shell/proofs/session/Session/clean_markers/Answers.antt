use Rattle.fs_ops.specs.Places.{look_asks}
use Rattle.fs_tree.specs.MarkerTool.{Cleans, IsCleaning}
use Rattle.marker_tool.specs.Markers.{surplus_in}
use Rattle.marker_tool.specs.Works.{CleanSends}
use Rattle.s3a_shell.proofs.Asking.{asked_of}
use Rattle.s3a_shell.proofs.Few.{few_at, tool_left}
use Rattle.s3a_shell.proofs.Performing.{did_at, on_ok, sent_of}
use Rattle.s3a_shell.specs.Most.{count_below, surplus_below}
use Rattle.s3a_shell.specs.Texts.{cleaned_line}
use Rattle.std.proofs.Common.{ℕ, ◌*◌, ◌+◌}
use Rattle.marker_tool.specs.code.Tool as tool
use Rattle.s3a_shell.proofs.session.Session.clean_markers.Goals as goal

pub returns-clause-did : goal.returns-clause-did
returns-clause-did c = did_at c.args.path.now Cleans cleaned_line _ _ _ c.in_ok-answer.answer c.cleaned_said.result c.in_ok-cleaning.ensures
    c.in_ok-answer.ensures.given c.cleaned_said.ensures

pub returns-clause-sent : goal.returns-clause-sent
returns-clause-sent c = on_ok c.cleaned_said.result (sent_of c.args.path.now.bucket IsCleaning _ _ _ _ c.in_ok-cleaning.ensures
    c.in_ok-answer.ensures.sent)

pub returns-clause-asked : goal.returns-clause-asked
returns-clause-asked c = on_ok c.cleaned_said.result
    (asked_of c.args.path.now.bucket look_asks CleanSends c.args.self.now.store.scene _ _ _ _ c.in_ok-cleaning.ensures
    c.in_ok-answer.ensures.asked)

pub returns-clause-few : goal.returns-clause-few
returns-clause-few c = on_ok c.cleaned_said.result
    (few_at (tool.left {A = ℕ} (λ q es. surplus_in es)) (tool.first {A = ℕ}) (λ k m. 3 + 2 * count_below k m + surplus_below k m)
    c.args.path.now.bucket c.args.self.now.store.scene _ _ _ _
    (tool_left ℕ (λ q es. surplus_in es) c.in_ok-cleaning.cleaning) c.in_ok-cleaning.ensures c.in_ok-answer.ensures.few)
