use Rattle.path_keys.proofs.Last.{cut_last, no_slash}
use Rattle.fs_ops.proofs.Names.{last_of_cut, last_of_none}
use Rattle.fs_ops.proofs.list.last_element.Goals as goal

pub returns-in-Some : goal.returns-in-Some
returns-in-Some c =
    let cut = cut_last c.args.key.now c.in-Some.field-0-0.now c.in-Some.back.now c.in-Some.ensures.cases in
    last_of_cut c.copied.result c.args.key.now c.in-Some.field-0-0.now c.in-Some.back.now cut.0 cut.1 c.copied.ensures

pub returns-in-None : goal.returns-in-None
returns-in-None c = last_of_none c.copied-in-None.result c.args.key.now (no_slash c.args.key.now c.in-None.ensures.cases)
    c.copied-in-None.ensures
