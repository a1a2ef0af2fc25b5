use Rattle.durable_job.specs.declared.jobs.Jobs.{Jobs}
use Rattle.s3a_top.proofs.Beginning.{image_begins}
use Rattle.s3a_top.proofs.Crashing.{opens_so}
use Rattle.s3a_top.proofs.Halting.{faulty_of, held_sound, sound_of}
use Rattle.s3a_top.proofs.Showing.{not_two}
use Rattle.s3a_top.proofs.Telling.{counted_done, counted_none, counted_read, jobs_taken, played_counts, read_cause, verdict_worked}
use Rattle.s3a_top.proofs.Telling.{wanting_cause}
use Rattle.s3a_top.specs.Openings.{AreJobsOf, Opens}
use Rattle.s3a_top.specs.declared.stop.Stop.TheVariants.{Image, NoMemory}
use Rattle.std.proofs.Common.{None, refl, subst}
use Rattle.s3a_top.proofs.tracing.trace_job.Goals as goal

pub opened-requires-clause-some : goal.opened-requires-clause-some
opened-requires-clause-some g c = held_sound c.args.held c.in_default.not-Faulty

pub script_alone-requires : goal.script_alone-requires
script_alone-requires g c t is =
    let command = c.args.asked.command.now in
    let left = g.Q.Source.left c.args.input.now in
    let rest = g.Q.Source.left c.jobs_for.new.input in
    not_two command left rest t c.requires.single (subst (AreJobsOf command left rest) is c.in-Ok.ensures.jobs)

pub show_job-requires : goal.show_job-requires
show_job-requires g c = image_begins c.in-Ok-opened.service c.in-Ok-opened.ensures.image

pub returns-in-Faulty-clause-shows : goal.returns-in-Faulty-clause-shows
returns-in-Faulty-clause-shows g c told found = (faulty_of told c.args.held c.in-Faulty.number c.in-Faulty.place found c.in-Faulty.is, refl)

pub returns-in-Faulty-clause-counted : goal.returns-in-Faulty-clause-counted
returns-in-Faulty-clause-counted g c n =
    let i = g.Q.Source.faults c.args.input.now in
    counted_none (Image c.in-Faulty.number c.in-Faulty.place) i i n n (λ e. cc) (λ e. cc) refl refl

pub returns-in-Err-clause-shows : goal.returns-in-Err-clause-shows
returns-in-Err-clause-shows g c told found =
    let command = c.args.asked.command.now in
    let left = g.Q.Source.left c.args.input.now in
    let rest = g.Q.Source.left c.jobs_for.new.input in
    read_cause command told left rest (sound_of told c.args.held found (held_sound c.args.held c.in_default.not-Faulty)) c.in-Err.stop
    c.in-Err.ensures.stop

pub returns-in-Err-clause-counted : goal.returns-in-Err-clause-counted
returns-in-Err-clause-counted g c n =
    counted_read Jobs c.in-Err.stop c.args.asked.command.now (g.Q.Source.left c.args.input.now) (g.Q.Source.left c.jobs_for.new.input)
    (g.Q.Source.faults c.args.input.now) (g.Q.Source.faults c.jobs_for.new.input) n c.in-Err.ensures.stop c.in-Err.ensures.counted

pub returns-in-Err-opened-clause-shows : goal.returns-in-Err-opened-clause-shows
returns-in-Err-opened-clause-shows g c told found =
    let command = c.args.asked.command.now in
    let left = g.Q.Source.left c.args.input.now in
    let rest = g.Q.Source.left c.jobs_for.new.input in
    wanting_cause command told left rest (sound_of told c.args.held found (held_sound c.args.held c.in_default.not-Faulty))
    (jobs_taken command left rest c.in-Ok.jobs c.in-Ok.ensures.jobs)

pub returns-in-Err-opened-clause-counted : goal.returns-in-Err-opened-clause-counted
returns-in-Err-opened-clause-counted g c n =
    counted_none NoMemory (g.Q.Source.faults c.args.input.now) (g.Q.Source.faults c.jobs_for.new.input) n n (λ e. cc) (λ e. cc)
    c.in-Ok.ensures.counted refl

pub returns-in-Ok-show_job-clause-shows : goal.returns-in-Ok-show_job-clause-shows
returns-in-Ok-show_job-clause-shows g c told found =
    let command = c.args.asked.command.now in
    let left = g.Q.Source.left c.args.input.now in
    let rest = g.Q.Source.left c.jobs_for.new.input in
    let service = c.in-Ok-opened.service in
    let opens = opens_so told c.args.held c.in-Ok.jobs service found c.in-Ok-opened.ensures.opening in
    record {
      script = c.script_alone.result;
      opening = service;
      reads = subst (AreJobsOf command left rest) c.script_alone.ensures c.in-Ok.ensures.jobs;
      opens = subst (λ (j : Jobs). Opens told j service) c.script_alone.ensures opens;
      shown = c.in-Ok-show_job.ensures.shown;
    }

pub returns-in-Ok-show_job-clause-counted : goal.returns-in-Ok-show_job-clause-counted
returns-in-Ok-show_job-clause-counted g c n =
    let work = c.in-Ok-show_job.work in
    let which = c.in-Ok-show_job.ensures.which in
    counted_done work (g.Q.Source.faults c.args.input.now) (g.Q.Source.faults c.jobs_for.new.input) n n
    (verdict_worked work.answer.due which) c.in-Ok.ensures.counted (played_counts None work.answer.due n n which refl)

pub returns-in-Err-show_job-clause-shows : goal.returns-in-Err-show_job-clause-shows
returns-in-Err-show_job-clause-shows g c told found =
    let command = c.args.asked.command.now in
    let left = g.Q.Source.left c.args.input.now in
    let rest = g.Q.Source.left c.jobs_for.new.input in
    wanting_cause command told left rest (sound_of told c.args.held found (held_sound c.args.held c.in_default.not-Faulty))
    (jobs_taken command left rest c.in-Ok.jobs c.in-Ok.ensures.jobs)

pub returns-in-Err-show_job-clause-counted : goal.returns-in-Err-show_job-clause-counted
returns-in-Err-show_job-clause-counted g c n =
    counted_none NoMemory (g.Q.Source.faults c.args.input.now) (g.Q.Source.faults c.jobs_for.new.input) n n (λ e. cc) (λ e. cc)
    c.in-Ok.ensures.counted refl
