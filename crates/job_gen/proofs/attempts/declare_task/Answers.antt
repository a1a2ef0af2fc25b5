use Rattle.job_gen.proofs.Declaring.{second_free}
use Rattle.job_gen.specs.Made.{attempt_of}
use Rattle.job_model.specs.Attempts.{declares}
use Rattle.std.proofs.Common.{ap, ◌∙◌}
use Rattle.job_gen.proofs.attempts.declare_task.Goals as goal

pub declare_with-requires-then-is_twice-clause-new :
    goal.declare_with-requires-then-is_twice-clause-new
declare_with-requires-then-is_twice-clause-new c =
    ap (λ l. declares l (attempt_of c.args.task 1)) c.in_ok-declare_with.ensures ∙ second_free c.args.attempts.now c.args.files.now
    c.args.task c.requires.second
