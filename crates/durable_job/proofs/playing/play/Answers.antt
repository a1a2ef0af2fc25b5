use Rattle.durable_job.specs.Played.{IsPlayed}
use Rattle.durable_job.specs.declared.jobs.Jobs.{Jobs}
use Rattle.std.proofs.Common.{IfOk, subst, sym}
use Rattle.durable_job.proofs.playing.play.Goals as goal

pub returns-in-One-clause-played : goal.returns-in-One-clause-played
returns-in-One-clause-played g c =
    subst (λ (j : Jobs). IfOk c.play_one.result (λ kept. IsPlayed g.F.Shelf.sight j c.args.service kept c.args.shelf.now
    c.play_one.new.shelf)) (sym c.in-One.is) c.play_one.ensures.played

pub returns-in-Two-clause-played : goal.returns-in-Two-clause-played
returns-in-Two-clause-played g c =
    subst (λ (j : Jobs). IfOk c.play_two.result (λ kept. IsPlayed g.F.Shelf.sight j c.args.service kept c.args.shelf.now
    c.play_two.new.shelf)) (sym c.in-Two.is) c.play_two.ensures.played
