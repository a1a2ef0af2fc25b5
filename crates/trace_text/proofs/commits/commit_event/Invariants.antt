use Rattle.std.proofs.Common.{◌+◌, ◌≡◌, drop}
use Rattle.job_spec.specs.States.{begins_commit, event_from}
use Rattle.trace_text.proofs.commits.commit_event.Given as goal

abbrev pub invariant-loop-place : goal.invariant-loop-place
invariant-loop-place l =
    event_from begins_commit (l.place + 1) (drop l.place l.events) (drop l.place l.ends) ≡ event_from begins_commit 1 l.events l.ends
