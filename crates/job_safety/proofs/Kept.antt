-- All that is promised of a job holds of what happened in its run.
use Rattle.job_model.specs.JobScript.{Script}
use Rattle.job_protocol.specs.Operations.{Setting}
use Rattle.job_safety.proofs.Cleans.{cleans_kept}
use Rattle.job_safety.proofs.Commits.{commits_among, commits_kept}
use Rattle.job_safety.proofs.Ending.{ahead_none}
use Rattle.job_safety.proofs.Setups.{setups_among, setups_kept}
use Rattle.job_safety.proofs.Tasks.{publishes_kept, tasks_kept}
use Rattle.job_safety.specs.RunsKeep.{RunsAreKept, RunsAreKeptAmong}
use Rattle.job_spec.specs.Follows.{Plays}
use Rattle.job_spec.specs.States.{times}
use Rattle.script_steps.proofs.Played.{happenings_play}
use Rattle.script_steps.proofs.Running.{is_run}
use Rattle.protocol_runs.proofs.Changes.{runs_outside, runs_rename}
use Rattle.protocol_runs.proofs.Entries.{always}
use Rattle.std.proofs.Common.{ap, false, subst, sym, ℕ, ◌∙◌}

-- A setting with this least size of a part.
abbrev with_least : Script → ℕ → Setting
with_least w n = record { script = w; minimum = n; shared = false }

pub kept_among : RunsAreKeptAmong
kept_among g opening x j is_opening run idle ps are =
    let r = is_run g opening j is_opening x run x.ends (ahead_none x idle) in
    record {
      plays = (happenings_play g opening x j run idle).plays;
      picks = are;
      zero_rename = runs_rename g (times g.script x.ends) opening j is_opening x.journal r.stand r.runs;
      setups = setups_among g opening j is_opening x run idle;
      tasks = tasks_kept g opening j is_opening x run idle;
      publishes = publishes_kept g opening j is_opening x run idle;
      cleans = λ single. cleans_kept g single opening j x run idle;
      commits = λ single. commits_among g single opening j is_opening x run idle;
    }

pub runs_are_kept : RunsAreKept
runs_are_kept g single opening x j is_opening run idle ps are =
    let r = is_run g opening j is_opening x run x.ends (ahead_none x idle) in
    let among = kept_among g opening x j is_opening run idle ps are in
    record {
      always = always g (times g.script x.ends) opening j is_opening x.journal r.stand r.runs;
      plays =
          subst (λ s. Plays s x.ends x.journal)
          (sym (ap (with_least g.script) is_opening.least ∙ ap (λ b. record { script = g.script; minimum = g.minimum; shared = b })
          (sym single))) among.plays;
      picks = among.picks;
      zero_rename = among.zero_rename;
      outside = runs_outside g (times g.script x.ends) opening j is_opening x.journal r.stand r.runs;
      setups = setups_kept g opening j is_opening x run idle;
      tasks = λ own. among.tasks;
      publishes = λ own. among.publishes;
      cleans = among.cleans single;
      commits = commits_kept g single opening j is_opening x run idle;
    }
