use Rattle.journal_log.proofs.Standing.{last}
use Rattle.journal_log.proofs.Leaving.{all_appended, leaves_moments, on_and_on, survives}
use Rattle.journal_log.proofs.crashes.Goals as goal

pub returns : goal.returns
returns g c =
    let s = g.F.Shelf in
    let m = g.met.F.Shelf in
    record {
      leave = record {
        between = all_appended s.sight m.timed;
        leave = leaves_moments s.sight m.timed;
        last = λ c es at_end. last c es (s.sight.held at_end) (s.sight.may_leave at_end);
        on = on_and_on s.sight;
      };
      survive = record { survive = survives s.sight m.timed };
    }
