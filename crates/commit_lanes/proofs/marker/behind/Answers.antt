use Rattle.commit_lanes.proofs.Behind.{behind_front, relative_none}
use Rattle.std.proofs.Common.{sym, ◌∷◌}
use Rattle.commit_lanes.proofs.marker.behind.Goals as goal

pub returns-in-Some : goal.returns-in-Some
returns-in-Some c = behind_front c.args.key.now c.args.text.now c.in-Some.rest.now c.requires c.in-Some.ensures.cases
    c.strip_prefix-in-Some.result c.strip_prefix-in-Some.ensures.cases

pub returns-in-None : goal.returns-in-None
returns-in-None c = sym (relative_none c.args.key.now c.args.text.now c.requires (λ r e. c.in-None.ensures.cases (47 ∷ r) e))
