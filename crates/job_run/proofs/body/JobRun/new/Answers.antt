use Rattle.std.proofs.Common.{refl}
use Rattle.job_run.proofs.body.JobRun.new.Goals as goal

pub returns-clause-first : goal.returns-clause-first
returns-clause-first g c = record {
  legal = rw c.script.view_is at c.script.invariant;
  states = rw c.in-Ok.ensures.other at c.new.ensures;
  hands = rw c.in-Ok.ensures.one at c.first_hands.ensures;
  ends = c.new-2.ensures.items;
  event = refl;
  finished = c.new-3.ensures.items;
  picks = c.new-4.ensures;
}
