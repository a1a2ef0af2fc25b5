use Rattle.durable_job.specs.declared.jobs.Jobs.{Jobs}
use Rattle.s3a_top.proofs.Crashing.{opens_so}
use Rattle.s3a_top.proofs.Halting.{broke_at_once, faulty_of, held_sound, not_begun, sound_of}
use Rattle.s3a_top.proofs.Playing.{over_of}
use Rattle.s3a_top.proofs.Telling.{counted_done, counted_none, counted_read, counted_shelf, jobs_taken, played_counts, read_cause}
use Rattle.s3a_top.proofs.Telling.{shelf_cause, stop_worked, wanting_cause}
use Rattle.s3a_top.proofs.Verdicts.{jobs_final}
use Rattle.s3a_top.specs.inner.Plays.{IsFinal, JobBroke}
use Rattle.s3a_top.specs.inner.Stops.{of_shelf}
use Rattle.s3a_top.specs.inner.Workings.{Counted}
use Rattle.s3a_top.specs.declared.stop.Stop.{Stop}
use Rattle.s3a_top.specs.declared.stop.Stop.TheVariants.{Image, NoMemory}
use Rattle.std.proofs.Common.{Err, refl, subst, sym}
use Rattle.s3a_top.proofs.jobs.job.Goals as goal

pub opened-requires-clause-some : goal.opened-requires-clause-some
opened-requires-clause-some g c = held_sound c.args.held c.in_default.not-Faulty

pub returns-in-Faulty-clause-job : goal.returns-in-Faulty-clause-job
returns-in-Faulty-clause-job g c =
    let held = g.F.Shelf.sight.held c.args.shelf.now in
    broke_at_once g.F.Shelf.sight c.args.asked.command.now (g.Q.Source.left c.args.input.now) (g.Q.Source.left c.args.input.now)
    c.args.shelf.now (Image c.in-Faulty.number c.in-Faulty.place) g.met.F.Shelf.timed
    (faulty_of held c.args.held c.in-Faulty.number c.in-Faulty.place c.requires.found c.in-Faulty.is, refl)

pub returns-in-Faulty-clause-counted : goal.returns-in-Faulty-clause-counted
returns-in-Faulty-clause-counted g c =
    let i = g.Q.Source.faults c.args.input.now in
    let n = g.F.Shelf.faults c.args.shelf.now in
    counted_none (Image c.in-Faulty.number c.in-Faulty.place) i i n n (λ e. cc) (λ e. cc) refl refl

pub returns-in-Err-clause-job : goal.returns-in-Err-clause-job
returns-in-Err-clause-job g c =
    let held = g.F.Shelf.sight.held c.args.shelf.now in
    let command = c.args.asked.command.now in
    let left = g.Q.Source.left c.args.input.now in
    let rest = g.Q.Source.left c.jobs_for.new.input in
    broke_at_once g.F.Shelf.sight command left rest c.args.shelf.now c.in-Err.stop g.met.F.Shelf.timed
    (read_cause command held left rest (sound_of held c.args.held c.requires.found (held_sound c.args.held c.in_default.not-Faulty))
    c.in-Err.stop c.in-Err.ensures.stop)

pub returns-in-Err-clause-counted : goal.returns-in-Err-clause-counted
returns-in-Err-clause-counted g c =
    counted_read Jobs c.in-Err.stop c.args.asked.command.now (g.Q.Source.left c.args.input.now) (g.Q.Source.left c.jobs_for.new.input)
    (g.Q.Source.faults c.args.input.now) (g.Q.Source.faults c.jobs_for.new.input) (g.F.Shelf.faults c.args.shelf.now)
    c.in-Err.ensures.stop c.in-Err.ensures.counted

pub returns-in-Err-opened-clause-job : goal.returns-in-Err-opened-clause-job
returns-in-Err-opened-clause-job g c =
    let held = g.F.Shelf.sight.held c.args.shelf.now in
    let command = c.args.asked.command.now in
    let left = g.Q.Source.left c.args.input.now in
    let rest = g.Q.Source.left c.jobs_for.new.input in
    broke_at_once g.F.Shelf.sight command left rest c.args.shelf.now NoMemory g.met.F.Shelf.timed
    (wanting_cause command held left rest (sound_of held c.args.held c.requires.found (held_sound c.args.held c.in_default.not-Faulty))
    (jobs_taken command left rest c.in-Ok.jobs c.in-Ok.ensures.jobs))

pub returns-in-Err-opened-clause-counted : goal.returns-in-Err-opened-clause-counted
returns-in-Err-opened-clause-counted g c =
    let n = g.F.Shelf.faults c.args.shelf.now in
    counted_none NoMemory (g.Q.Source.faults c.args.input.now) (g.Q.Source.faults c.jobs_for.new.input) n n (λ e. cc) (λ e. cc)
    c.in-Ok.ensures.counted refl

pub answered-requires : goal.answered-requires
answered-requires g c =
    let kept = c.in-Ok-play.kept in
    subst IsFinal (sym c.in-Ok-play.ensures.played.verdict) (jobs_final c.in-Ok.jobs kept.told)

pub returns-in-Ok-play-clause-job : goal.returns-in-Ok-play-clause-job
returns-in-Ok-play-clause-job g c =
    let s = g.F.Shelf in
    let kept = c.in-Ok-play.kept in
    let jobs = c.in-Ok.jobs in
    let service = c.in-Ok-opened.service in
    over_of s.sight c.args.asked.command.now (g.Q.Source.left c.args.input.now) (g.Q.Source.left c.jobs_for.new.input) jobs service kept
    c.args.shelf.now c.play.new.shelf c.answered.result
    c.in-Ok.ensures.jobs (opens_so (s.sight.held c.args.shelf.now) c.args.held jobs service c.requires.found c.in-Ok-opened.ensures.opening)
    c.in-Ok-play.ensures.played c.in-Ok-opened.ensures.image
    c.answered.ensures.sent c.answered.ensures.told c.answered.ensures.said

pub returns-in-Ok-play-clause-counted : goal.returns-in-Ok-play-clause-counted
returns-in-Ok-play-clause-counted g c =
    let kept = c.in-Ok-play.kept in
    let b = g.F.Shelf.faults c.args.shelf.now in
    let a = g.F.Shelf.faults c.play.new.shelf in
    let due = c.answered.result.answer.due in
    counted_done c.answered.result (g.Q.Source.faults c.args.input.now) (g.Q.Source.faults c.jobs_for.new.input) b a
    (stop_worked kept.stop due c.answered.ensures.which) c.in-Ok.ensures.counted
    (played_counts kept.stop due b a c.answered.ensures.which c.in-Ok-play.ensures.counted)

pub returns-in-Err-play-clause-job : goal.returns-in-Err-play-clause-job
returns-in-Err-play-clause-job g c =
    let s = g.F.Shelf in
    let held = s.sight.held c.args.shelf.now in
    let command = c.args.asked.command.now in
    let left = g.Q.Source.left c.args.input.now in
    let rest = g.Q.Source.left c.jobs_for.new.input in
    let jobs = c.in-Ok.jobs in
    let service = c.in-Ok-opened.service in
    let sound = sound_of held c.args.held c.requires.found (held_sound c.args.held c.in_default.not-Faulty) in
    subst (λ (t : Stop). JobBroke s.sight command left rest c.args.shelf.now c.play.new.shelf t) (sym c.of_shelf.ensures)
    (not_begun s.sight command left rest c.args.shelf.now c.play.new.shelf (of_shelf c.in-Err-play.stop) jobs service
    (shelf_cause command held left rest sound c.in-Err-play.stop jobs c.in-Ok.ensures.jobs) c.in-Ok.ensures.jobs
    (opens_so held c.args.held jobs service c.requires.found c.in-Ok-opened.ensures.opening) c.in-Err-play.ensures.err)

pub returns-in-Err-play-clause-counted : goal.returns-in-Err-play-clause-counted
returns-in-Err-play-clause-counted g c =
    let i = g.Q.Source.faults c.args.input.now in
    let r = g.Q.Source.faults c.jobs_for.new.input in
    let b = g.F.Shelf.faults c.args.shelf.now in
    let a = g.F.Shelf.faults c.play.new.shelf in
    subst (λ (t : Stop). Counted (Err t) i r b a) (sym c.of_shelf.ensures) (counted_shelf c.in-Err-play.stop i r b a c.in-Ok.ensures.counted
    c.in-Err-play.ensures.faults)
