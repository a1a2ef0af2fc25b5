-- The driver's operations do not depend on what an attempt knows.
use Rattle.job_model.specs.Known.{Known}
use Rattle.job_outcomes.specs.Alone.{GoAlone, at}
use Rattle.job_protocol.specs.Cleanups.{Clean, clean_after, clean_asks}
use Rattle.job_protocol.specs.JobCommits.{Commit, commit_asks, commit_tells}
use Rattle.job_protocol.specs.Operations.{Setting, TheClean, TheCommit, TheSetup, advance, wants}
use Rattle.job_protocol.specs.Setup.{Setup, setup_after, setup_asks}
use Rattle.retries.specs.Operation.{Follows, run}
use Rattle.retries.specs.Retries.{Retried, step, wants_of}
use Rattle.s3_types.specs.declared.journal.Entry.{Entry}
use Rattle.s3_types.specs.declared.request.Actor.{Actor}
use Rattle.std.proofs.Common.{List, refl, [], ◌∷◌, ◌≡◌}

module _ (g : Setting) (a : Actor) where
  pub setup_follows : (k : Known) (t : Retried Setup) (es : List Entry) → Follows (wants g a) (advance g a) (at (TheSetup t) k) es
      → Follows (wants_of (setup_asks g.script)) (step g.script.retries (setup_after g.script)) t es
  setup_follows k t [] f = tt
  setup_follows k t (e ∷ es) f = (
    f.0,
    setup_follows (advance g a (at (TheSetup t) k) e.outcome).known
        (step g.script.retries (setup_after g.script) t e.outcome) es f.1,
  )

  pub setup_run : (k : Known) (t : Retried Setup) (es : List Entry)
      → (run (advance g a) (at (TheSetup t) k) es).operation ≡ TheSetup (run (step g.script.retries (setup_after g.script)) t es)
  setup_run k t [] = refl
  setup_run k t (e ∷ es) = setup_run (advance g a (at (TheSetup t) k) e.outcome).known
      (step g.script.retries (setup_after g.script) t e.outcome) es

  pub clean_follows : (k : Known) (t : Retried Clean) (es : List Entry) → Follows (wants g a) (advance g a) (at (TheClean t) k) es
      → Follows (wants_of (clean_asks g.script)) (step g.script.retries (clean_after g.script)) t es
  clean_follows k t [] f = tt
  clean_follows k t (e ∷ es) f = (
    f.0,
    clean_follows (advance g a (at (TheClean t) k) e.outcome).known
        (step g.script.retries (clean_after g.script) t e.outcome) es f.1,
  )

  pub clean_run : (k : Known) (t : Retried Clean) (es : List Entry)
      → (run (advance g a) (at (TheClean t) k) es).operation ≡ TheClean (run (step g.script.retries (clean_after g.script)) t es)
  clean_run k t [] = refl
  clean_run k t (e ∷ es) = clean_run (advance g a (at (TheClean t) k) e.outcome).known
      (step g.script.retries (clean_after g.script) t e.outcome) es

  pub commit_follows : (k : Known) (c : Commit) (es : List Entry) → Follows (wants g a) (advance g a) (at (TheCommit c) k) es
      → Follows (commit_asks g.script) (commit_tells g.script) c es
  commit_follows k c [] f = tt
  commit_follows k c (e ∷ es) f = (
    f.0,
    commit_follows (advance g a (at (TheCommit c) k) e.outcome).known
        (commit_tells g.script c e.outcome) es f.1,
  )

  pub commit_run : (k : Known) (c : Commit) (es : List Entry)
      → (run (advance g a) (at (TheCommit c) k) es).operation ≡ TheCommit (run (commit_tells g.script) c es)
  commit_run k c [] = refl
  commit_run k c (e ∷ es) = commit_run (advance g a (at (TheCommit c) k) e.outcome).known (commit_tells g.script c e.outcome) es

pub go_alone : GoAlone
go_alone = record {
  setup = setup_follows;
  setup_run = setup_run;
  clean = clean_follows;
  clean_run = clean_run;
  commit = commit_follows;
  commit_run = commit_run;
}
