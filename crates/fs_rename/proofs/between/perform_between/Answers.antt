use Rattle.operations.proofs.Few.{none_few}
use Rattle.fs_rename.proofs.Buckets.{given_one, given_other, performed_none}
use Rattle.fs_rename.proofs.between.perform_between.Goals as goal

pub returns-then-ne-clause-given : goal.returns-then-ne-clause-given
returns-then-ne-clause-given g c = given_other c.args.bucket c.args.to_bucket _ _ _ _ c.if-ne.ensures

pub returns-then-ne-clause-performed : goal.returns-then-ne-clause-performed
returns-then-ne-clause-performed g c = performed_none c.args.bucket _ _ (λ m. c.laws.ensures.phases.during _ m _ m
    (c.laws.ensures.phases.begin _ m))

pub returns-then-ne-clause-few : goal.returns-then-ne-clause-few
returns-then-ne-clause-few g c = λ part e. none_few _ part _ e

pub returns-in-Ok-clause-given : goal.returns-in-Ok-clause-given
returns-in-Ok-clause-given g c = given_one c.args.bucket c.args.to_bucket _ _ _ _ _ _ c.if-ne.ensures c.in-Ok.ensures.given
