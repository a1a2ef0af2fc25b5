use Rattle.s3a_top.specs.inner.Reads.{AreJobsIn, IsNone}
use Rattle.std.proofs.Common.{Bool, IfErr, IfOk, subst, sym}
use Rattle.s3a_top.proofs.script.jobs_in.Goals as goal

pub returns-then-both-clause-jobs : goal.returns-then-both-clause-jobs
returns-then-both-clause-jobs c = subst (λ (b : Bool). IfOk c.twins_in.result (λ jobs. AreJobsIn b c.args.bytes.now jobs))
    (sym c.if-both.true) c.twins_in.ensures.jobs

pub returns-then-both-clause-stop : goal.returns-then-both-clause-stop
returns-then-both-clause-stop c = subst (λ (b : Bool). IfErr c.twins_in.result (λ stop. IsNone stop b c.args.bytes.now))
    (sym c.if-both.true) c.twins_in.ensures.stop

pub returns-else-both-clause-jobs : goal.returns-else-both-clause-jobs
returns-else-both-clause-jobs c = subst (λ (b : Bool). IfOk c.script_in.result (λ jobs. AreJobsIn b c.args.bytes.now jobs))
    (sym c.if-both.false) c.script_in.ensures.jobs

pub returns-else-both-clause-stop : goal.returns-else-both-clause-stop
returns-else-both-clause-stop c = subst (λ (b : Bool). IfErr c.script_in.result (λ stop. IsNone stop b c.args.bytes.now))
    (sym c.if-both.false) c.script_in.ensures.stop
