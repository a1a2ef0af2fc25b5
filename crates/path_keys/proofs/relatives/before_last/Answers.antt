use Rattle.path_keys.proofs.Last.{cut_last, before_slash, before_none, front_is_key, no_slash}
use Rattle.path_keys.proofs.relatives.before_last.Goals as goal

pub returns-in-Some-clause-text : goal.returns-in-Some-clause-text
returns-in-Some-clause-text c =
    let cut = cut_last c.args.key.now c.in-Some.front.now c.in-Some.field-0-1.now c.in-Some.ensures.cases in
    before_slash c.args.key.now c.in-Some.front.now c.in-Some.field-0-1.now cut.0 cut.1

pub returns-in-Some-clause-key : goal.returns-in-Some-clause-key
returns-in-Some-clause-key c =
    let cut = cut_last c.args.key.now c.in-Some.front.now c.in-Some.field-0-1.now c.in-Some.ensures.cases in
    front_is_key c.args.key.now c.in-Some.front.now c.in-Some.field-0-1.now c.requires cut.0 cut.1

pub returns-in-None-clause-text : goal.returns-in-None-clause-text
returns-in-None-clause-text c = before_none c.args.key.now (no_slash c.args.key.now c.in-None.ensures.cases)
