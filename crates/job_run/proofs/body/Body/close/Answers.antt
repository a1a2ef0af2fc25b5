use Rattle.std.proofs.Common.{◌+◌, arith, refl, sym, ap, append-nil, [], ◌∷◌, ◌++◌, ◌∙◌}
use Rattle.job_run.proofs.Moments.{few_events_now}
use Rattle.job_run.proofs.Closing.{quiet_closed}
use Rattle.job_run.proofs.body.Body.close.Goals as goal

pub taken_end-end-requires : goal.taken_end-end-requires
taken_end-end-requires g c = c.requires.turns.told

pub count-requires : goal.count-requires
count-requires g c = few_events_now _ _ _ _ _ c.requires.going.holds c.args.event c.requires.now

pub overflow_add-self : goal.overflow_add-self
overflow_add-self g c = let few = (c.requires.going.holds.turn c.requires.going.during).few in omega arith

pub returns : goal.returns
returns g c =
    let k = c.args.self.now in
    let pushed = c.push_reserved.ensures.items ∙ ap (λ e. k.side.ends.items ++ e ∷ []) c.taken_end-end.ensures.end in
    record {
      quiet = quiet_closed _ _ _ _ g.W.Acts.end_of g.met.W.Acts.laws.goes_on c.laws.ensures.ends k
          (record k {
            side = record k.side {
              ends = c.push_reserved.new.self;
              states = c.count.new.self;
              finished =
                  c.taken_end-end.new.finished;
            };
            shared = record k.shared { events = k.shared.events + 1 };
          }) c.args.event c.requires.going
          c.requires.now c.requires.turns pushed c.taken_end-end.ensures.none (λ p. c.count.ensures.stands _ p);
      grown = record {
        stays = record { script = refl; others = refl; shares = refl; opening = refl; fates = λ n. refl };
        end = _;
        ends =
            c.push_reserved.ensures.items;
        events = refl;
        more = ([], sym (append-nil _), tt);
      };
    }
