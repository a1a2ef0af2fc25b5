use Rattle.std.proofs.Common.{refl}
use Rattle.job_gen.specs.Made.{made_script}
use Rattle.job_gen.proofs.LegalScript.{made_legal}
use Rattle.job_gen.proofs.script.make_script.Goals as goal

pub invariant_of-result : goal.invariant_of-result
unfolding made_script
invariant_of-result c =
    rw (c.in_ok-job.ensures, c.in_ok-dest.ensures, c.new.ensures, c.in_ok-attempts.ensures, c.in_ok-events.ensures)
    (made_legal c.args.seed c.args.tasks c.args.files c.requires.few_tasks c.requires.few_files)

pub returns-clause-exact : goal.returns-clause-exact
unfolding made_script
returns-clause-exact c = rw (c.in_ok-job.ensures, c.in_ok-dest.ensures, c.new.ensures, c.in_ok-attempts.ensures, c.in_ok-events.ensures)
    refl

pub returns-clause-legal : goal.returns-clause-legal
unfolding made_script
returns-clause-legal c =
    rw (c.in_ok-job.ensures, c.in_ok-dest.ensures, c.new.ensures, c.in_ok-attempts.ensures, c.in_ok-events.ensures)
    (made_legal c.args.seed c.args.tasks c.args.files c.requires.few_tasks c.requires.few_files)
