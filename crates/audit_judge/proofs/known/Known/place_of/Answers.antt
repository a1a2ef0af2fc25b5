use Rattle.std.proofs.Common.{ap}
use Rattle.audit_judge.proofs.Loops.{found_place, no_place, owned_by}
use Rattle.audit_judge.specs.Scene.{Scene}
use Rattle.audit_judge.proofs.known.Known.place_of.Goals as goal

pub returns : goal.returns
returns c =
    let same = ap (λ (s : Scene). s.claimed.listed) c.self.view_is in
    record {
      found = found_place c.in-Some.task c.in-Some-get_full.field-0-1.now c.in-Some-get_full.at c.in-Some-get_full.attempts.now
          c.held.result.now.entries c.self.inside.claims.listed c.args.self.now.claimed.listed c.in-Some-get_full.ensures.key
          c.in-Some-get_full.ensures.entry c.held.ensures.entries same;
      owner = owned_by c.args.path.now c.in-Some.task c.self.inside.claims.listed c.args.self.now.claimed.listed c.in-Some.ensures.owner
          same;
      free = tt;
    }

pub unreachable-requires : goal.unreachable-requires
unreachable-requires c = no_place c.args.path.now c.in-Some.task c.held.result.now.entries c.self.inside.claims.listed
    c.in-Some.ensures.owner
    c.held.ensures.entries c.in-None.ensures.value
