use Rattle.conflict.proofs.CutPaths.{dir_front, dir_none}
use Rattle.job_protocol.specs.Conflicts.{dir_of}
use Rattle.path_keys.proofs.Last.{cut_last, no_slash}
use Rattle.std.proofs.Common.{ap, sym, ◌∙◌}
use Rattle.conflict.proofs.dirs.dir_of.Goals as goal

pub returns-in-Some : goal.returns-in-Some
returns-in-Some c =
    let cut = cut_last c.args.path.now c.in-Some.dir.now _ c.in-Some.ensures.cases in
    sym (ap dir_of cut.0 ∙ dir_front c.in-Some.dir.now _ cut.1)

pub returns-in-None : goal.returns-in-None
returns-in-None c = sym (dir_none c.args.path.now (no_slash c.args.path.now c.in-None.ensures.cases))
