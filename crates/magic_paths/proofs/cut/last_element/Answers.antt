use Rattle.path_keys.proofs.Last.{cut_last, no_slash}
use Rattle.magic_paths.proofs.Ends.{last_behind, last_alone}
use Rattle.magic_paths.proofs.cut.last_element.Goals as goal

pub returns-in-Some-clause-last : goal.returns-in-Some-clause-last
returns-in-Some-clause-last c =
    let cut = cut_last c.args.text.now c.in-Some.field-0-0.now c.in-Some.last.now c.in-Some.ensures.cases in
    last_behind c.args.text.now c.in-Some.field-0-0.now c.in-Some.last.now cut.0 cut.1

pub returns-in-None-clause-last : goal.returns-in-None-clause-last
returns-in-None-clause-last c = last_alone c.args.text.now (no_slash c.args.text.now c.in-None.ensures.cases)
