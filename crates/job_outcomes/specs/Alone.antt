-- The driver's operations do not depend on what attempts know: they go on alike with it and without it.
use Rattle.job_model.specs.Known.{Known}
use Rattle.job_protocol.specs.Cleanups.{Clean, clean_after, clean_asks}
use Rattle.job_protocol.specs.JobCommits.{Commit, commit_asks, commit_tells}
use Rattle.job_protocol.specs.Operations.{Operation, Running, Setting, TheClean, TheCommit, TheSetup, advance, wants}
use Rattle.job_protocol.specs.Setup.{Setup, setup_after, setup_asks}
use Rattle.retries.specs.Operation.{Follows, run}
use Rattle.retries.specs.Retries.{Retried, step, wants_of}
use Rattle.s3_types.specs.declared.journal.Entry.{Entry}
use Rattle.s3_types.specs.declared.request.Actor.{Actor}
use Rattle.std.specs.Prelude.{List, ◌≡◌}

-- An operation, together with what an attempt knows.
abbrev pub at : Operation → Known → Running
at op k = record { operation = op; known = k }

-- Each operation of the driver sends the same requests and ends the same, whatever an attempt knows.
pub record GoAlone : Type 0 where
  pub setup : (g : Setting) (a : Actor) (k : Known) (t : Retried Setup) (es : List Entry)
      → Follows (wants g a) (advance g a) (at (TheSetup t) k) es
      → Follows (wants_of (setup_asks g.script)) (step g.script.retries (setup_after g.script)) t es
  pub setup_run : (g : Setting) (a : Actor) (k : Known) (t : Retried Setup) (es : List Entry)
      → (run (advance g a) (at (TheSetup t) k) es).operation ≡ TheSetup (run (step g.script.retries (setup_after g.script)) t es)
  pub clean : (g : Setting) (a : Actor) (k : Known) (t : Retried Clean) (es : List Entry)
      → Follows (wants g a) (advance g a) (at (TheClean t) k) es
      → Follows (wants_of (clean_asks g.script)) (step g.script.retries (clean_after g.script)) t es
  pub clean_run : (g : Setting) (a : Actor) (k : Known) (t : Retried Clean) (es : List Entry)
      → (run (advance g a) (at (TheClean t) k) es).operation ≡ TheClean (run (step g.script.retries (clean_after g.script)) t es)
  pub commit : (g : Setting) (a : Actor) (k : Known) (c : Commit) (es : List Entry)
      → Follows (wants g a) (advance g a) (at (TheCommit c) k) es → Follows (commit_asks g.script) (commit_tells g.script) c es
  pub commit_run : (g : Setting) (a : Actor) (k : Known) (c : Commit) (es : List Entry)
      → (run (advance g a) (at (TheCommit c) k) es).operation ≡ TheCommit (run (commit_tells g.script) c es)
