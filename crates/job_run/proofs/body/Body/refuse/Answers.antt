use Rattle.std.proofs.Common.{◌+◌, arith, refl, sym, append-nil, []}
use Rattle.job_run.proofs.Moments.{few_events_next}
use Rattle.job_run.proofs.Closing.{quiet_refused}
use Rattle.job_run.proofs.body.Body.refuse.Goals as goal

pub count-requires : goal.count-requires
count-requires g c = few_events_next _ _ _ _ _ c.requires.quiet.holds c.args.event c.requires.next

pub overflow_add-self : goal.overflow_add-self
overflow_add-self g c = let few = c.requires.turn.few in omega arith

pub returns : goal.returns
returns g c =
    let k = c.args.self.now in
    record {
      quiet = quiet_refused _ _ _ _ k (record k {
        side = record k.side { ends = c.push_reserved.new.self; states = c.count.new.self };
        shared = record k.shared { events = k.shared.events + 1 };
      }) c.args.event c.args.fault c.requires.quiet c.requires.next
          c.requires.refused c.requires.turn c.push_reserved.ensures.items (λ p. c.count.ensures.stands _ p);
      grown = record {
        stays = record { script = refl; others = refl; shares = refl; opening = refl; fates = λ n. refl };
        end = _;
        ends =
            c.push_reserved.ensures.items;
        events = refl;
        more = ([], sym (append-nil _), tt);
      };
    }
