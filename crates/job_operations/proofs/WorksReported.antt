-- Until the driver cleans up, each task has a last publisher while the driver's commit reads sets.
use Rattle.job_invariant.specs.Standing.{HasPublished}
use Rattle.job_invariant.specs.Told.{strange_entry}
use Rattle.job_model.specs.JobScript.{Script}
use Rattle.job_model.specs.Known.{Known}
use Rattle.job_model.specs.Legal.{IsLegal}
use Rattle.job_model.specs.declared.ends.EventEnd.{EventEnd}
use Rattle.job_model.specs.declared.events.Event.{Event}
use Rattle.job_model.specs.declared.events.Event.TheVariants.{Do, Start}
use Rattle.job_model.specs.declared.events.Op.{Op}
use Rattle.job_protocol.proofs.Begun.{after_check_so, clean_of_so}
use Rattle.job_protocol.specs.JobCommits.{Commit, Fetching, commit_start, fetching}
use Rattle.job_protocol.specs.Operations.{Operation, Setting, TheCheck, TheCommit, commit_by, commit_of, start_of, tells, who}
use Rattle.job_protocol.specs.Rechecks.{check_start}
use Rattle.job_protocol.specs.Seen.{Seen, nothing_seen, see_all}
use Rattle.job_refinement.specs.Due.{AllPublished}
use Rattle.job_spec.specs.States.{missing, reports, times}
use Rattle.script_steps.proofs.Actors.{put_here, put_other, same_or_not}
use Rattle.script_steps.proofs.Reported.{AllReported, Unclean, all_published, later, reported, unclean_before}
use Rattle.script_steps.proofs.Running.{closed_ahead, finished_ahead, not_refused, opened_ahead, refused_ahead, sent_ahead, strayed_ahead}
use Rattle.script_steps.specs.Running.{Ahead, operation_of}
use Rattle.script_steps.specs.Transitions.{Closes, Finishes, MaySend, Opens, Play, Reachable, Refuses, Sends, Strays, begun, happen}
use Rattle.script_steps.specs.Transitions.{happens}
use Rattle.script_steps.specs.Transitions.{hear, knows_now, nothing_happened, open_running}
use Rattle.protocol_runs.specs.Runs.{IsOpening}
use Rattle.retries.specs.Retries.{fresh}
use Rattle.s3_types.specs.Store.{Content}
use Rattle.s3_types.specs.declared.journal.Entry.{Entry}
use Rattle.s3_types.specs.declared.journal.Outcome.{Outcome}
use Rattle.s3_types.specs.declared.request.Actor.{Actor}
use Rattle.s3_types.specs.declared.request.Actor.TheVariants.{Driver}
use Rattle.s3_types.specs.declared.request.Mode.{Mode}
use Rattle.s3_types.specs.declared.request.Mode.TheVariants.{Fail}
use Rattle.std.proofs.Common.{Bool, List, None, Option, Some, ap, arith, inl, inr, length, refl, subst, sym, true, ℕ, [], ◌∙◌, ◌≡◌}
use Rattle.job_model.specs.declared.events.Op.TheVariants as ops

-- ---- the driver's commit

-- While the commit reads sets, each task has a last publisher.
abbrev pub AllRead : Script → Seen → Commit → Type 0
AllRead w s (Fetching sets n) = AllPublished w s
AllRead w s _ = Unit {0}

abbrev pub DriverReads : Script → Seen → Option Operation → Type 0
DriverReads w s (Some (TheCommit c)) = AllRead w s c
DriverReads w s (Some (TheCheck c)) = AllPublished w s
DriverReads w s _ = Unit {0}

module _ (w : Script) (s : Seen) where
  all_read : AllPublished w s → (c : Commit) → AllRead w s c
  all_read h c = grind arith

read_still : (w : Script) (s u : Seen) → ((t : ℕ) → HasPublished s t → HasPublished u t) → (c : Commit) → AllRead w s c → AllRead w u c
read_still w s u keeps (Fetching sets n) h = λ t l. keeps t (h t l)
read_still w s u keeps _ h = tt

driver_still : (w : Script) (s u : Seen) → ((t : ℕ) → HasPublished s t → HasPublished u t) → (d : Option Operation) → DriverReads w s d
    → DriverReads w u d
driver_still w s u keeps (Some (TheCommit c)) h = read_still w s u keeps c h
driver_still w s u keeps (Some (TheCheck c)) h = λ t l. keeps t (h t l)
driver_still w s u keeps _ h = tt

driver_tells : (g : Setting) (s : Seen) (op : Operation) (o : Outcome) → DriverReads g.script s (Some op)
    → DriverReads g.script s (Some (tells g (who Driver) op o))
driver_tells g s op o h = grind arith

-- ---- it begins

module _ (g : Setting) (reported : Actor → Bool) (s : Seen) (all : AllReported reported s) where
  commit_starts : (o : Option ℕ) → missing g.script reported ≡ o → AllRead g.script s (commit_start g.script o)
  commit_starts (Some t) e = tt
  commit_starts None e = all_read g.script s (all_published g.script reported s all e) (fetching g.script [])

  commit_begins : DriverReads g.script s (Some (commit_of g (reports g.script reported)))
  commit_begins = by g.shared g.script.mode (missing g.script reported) refl
    where
      by : (b : Bool) (m : Mode) (o : Option ℕ) → missing g.script reported ≡ o
          → DriverReads g.script s (Some (commit_by g b m (reports g.script reported) o))
      by true Fail None e =
          after_check_so g (λ op. DriverReads g.script s (Some op)) (commit_starts None e) (λ u. all_published g.script reported s all e)
          (fresh g.script.retries (check_start g.script (reports g.script reported).attempts))
      by b m o e = commit_starts o e

driver_begins : (g : Setting) (reported : Actor → Bool) (s : Seen) → AllReported reported s → (op : Op) (k : Known)
    → DriverReads g.script s (operation_of (begun (start_of g Driver op (reports g.script reported) k) k))
driver_begins g reported s all ops.Commit k = commit_begins g reported s all
driver_begins g reported s all ops.Abort k = clean_of_so g (λ op. DriverReads g.script s (Some op)) tt tt
driver_begins g reported s all ops.Clean k = clean_of_so g (λ op. DriverReads g.script s (Some op)) tt tt
driver_begins g reported s all _ k = tt

-- ---- every run

module _ (g : Setting) (opening : Content) (j : IsLegal g.script) (is_opening : IsOpening g opening) (all_ends : List EventEnd) where
  abbrev w : Script
  w = g.script

  abbrev seen_by : Play → Seen
  seen_by x = see_all w (times w all_ends) (nothing_seen opening) x.journal

  driver_opened : (y : Play) (ev : Event) → AllReported y.past.reported (seen_by y)
      → DriverReads w (seen_by y) (operation_of (y.running Driver)) → DriverReads w (seen_by y) (operation_of (open_running g y ev Driver))
  driver_opened y (Do Driver op) all old = driver_begins g y.past.reported (seen_by y) all op (knows_now g y Driver)
  driver_opened y (Start Driver op) all old = driver_begins g y.past.reported (seen_by y) all op (knows_now g y Driver)
  driver_opened y _ all old = old

  sends : (y : Play) (e : Entry) → MaySend g opening y e → DriverReads w (seen_by y) (operation_of (y.running Driver))
      → DriverReads w (seen_by (happen g y (Sends e))) (operation_of ((happen g y (Sends e)).running Driver))
  sends y e may old =
      let before = driver_still w (seen_by y) (seen_by (happen g y (Sends e))) (later g opening j is_opening all_ends y e)
      (operation_of (y.running Driver)) old in
      let then = hear g e.actor (y.running e.actor) e in
      elim (same_or_not Driver e.actor) [
        | inl s ↦
            let at : y.running Driver ≡ Some may.at = ap y.running s ∙ may.is_at in
            let heard : hear g Driver (Some may.at) e ≡ then = ap (λ a. hear g a (Some may.at) e) s ∙ ap (λ m. hear g e.actor m e)
            (sym may.is_at) in
            subst (λ r. DriverReads w (seen_by (happen g y (Sends e))) (operation_of r))
            (heard ∙ sym (put_here y.running e.actor then Driver s))
            (driver_tells g (seen_by (happen g y (Sends e))) may.at.operation e.outcome
            (subst (λ r. DriverReads w (seen_by (happen g y (Sends e))) (operation_of r)) at before))
        | inr ne ↦ subst (λ r. DriverReads w (seen_by (happen g y (Sends e))) (operation_of r))
            (sym (put_other y.running e.actor then Driver ne)) before
      ]

  -- While the driver's commit reads sets and the driver has not cleaned up, each task has a last publisher.
  pub driver_reads : (x : Play) → Reachable g opening x → Ahead x all_ends → Unclean g opening j is_opening all_ends x
      → DriverReads w (seen_by x) (operation_of (x.running Driver))
  driver_reads x (nothing_happened) ahead clean = tt
  driver_reads x (happens y (Refuses f) past may) ahead clean = driver_reads y past (refused_ahead g y f all_ends may.1.idle ahead) clean
  driver_reads x (happens y (Opens ev) past may) ahead clean =
      let before = opened_ahead g y ev all_ends may.idle ahead in
      driver_opened y ev (reported g opening j is_opening all_ends y past before clean).past (driver_reads y past before clean)
  driver_reads x (happens y (Sends e) past may) ahead clean = sends y e may (driver_reads y past (sent_ahead g y e all_ends ahead)
      (unclean_before g opening j is_opening all_ends y e clean))
  driver_reads x (happens y (Finishes v) past may) ahead clean = driver_reads y past (finished_ahead g y v all_ends ahead) clean
  driver_reads x (happens y (Closes end) past may) ahead clean = driver_reads y past
      (closed_ahead g y end all_ends (not_refused w y.past.state may.event end _ may.turns) ahead) clean
  driver_reads x (happens y (Strays r o) past may) ahead clean =
      let e = strange_entry (length y.ends) r o in
      driver_still w (seen_by y) (seen_by (happen g y (Strays r o))) (later g opening j is_opening all_ends y e)
      (operation_of (y.running Driver)) (driver_reads y past (strayed_ahead g y r o all_ends ahead)
      (unclean_before g opening j is_opening all_ends y e clean))
