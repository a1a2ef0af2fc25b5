use Rattle.job_run.proofs.body.Body.begin.Goals as goal

pub begin_driver-requires-clause-begins : goal.begin_driver-requires-clause-begins
begin_driver-requires-clause-begins g c = rw c.in-Driver.is at c.requires.begins

pub begin_driver-requires-clause-actor : goal.begin_driver-requires-clause-actor
begin_driver-requires-clause-actor g c = rw c.in-Driver.is at c.requires.actor

pub returns-in-Driver : goal.returns-in-Driver
returns-in-Driver g c = rw c.in-Driver.is c.begin_driver.ensures
