-- Once the job's commit is over, its driver only aborts and cleans, and reads no set.
use Rattle.text_and_lists.proofs.Members.{false_true}
use Rattle.job_invariant.specs.Told.{strange_entry}
use Rattle.job_model.specs.JobScript.{Script}
use Rattle.job_model.specs.Legal.{IsLegal}
use Rattle.job_model.specs.declared.events.Event.{Event}
use Rattle.job_model.specs.declared.events.Event.TheVariants.{Do}
use Rattle.job_model.specs.declared.events.Op.{Op}
use Rattle.job_outcomes.specs.CommitMoments.{NoneRead}
use Rattle.job_protocol.proofs.Begun.{clean_alone}
use Rattle.job_protocol.specs.JobCommits.{Commit, CommitOver}
use Rattle.job_protocol.specs.Operations.{Operation, Running, Setting, TheClean, TheCommit, wants}
use Rattle.job_protocol.specs.Seen.{is_reading}
use Rattle.job_safety.proofs.Early.{driver_past}
use Rattle.job_safety.proofs.History.{Later, at_once, later}
use Rattle.job_spec.specs.States.{put}
use Rattle.script_steps.proofs.Actors.{put_here, put_other, same_or_not}
use Rattle.script_steps.proofs.RunningStages.{Begins, IsSettingUp, begins_so, may_commit_job, may_setup}
use Rattle.script_steps.specs.Running.{operation_of}
use Rattle.script_steps.specs.Transitions.{MayOpen, MaySend, Opens, Play, Reachable, Sends, Strays, Transition, happen, hear, open_running}
use Rattle.protocol_runs.specs.Runs.{IsOpening, is_just_set}
use Rattle.s3_types.specs.Store.{Content}
use Rattle.s3_types.specs.declared.journal.Entry.{Entry}
use Rattle.s3_types.specs.declared.request.Actor.TheVariants.{Driver}
use Rattle.s3_types.specs.declared.request.Request.{Request}
use Rattle.std.proofs.Common.{List, None, Option, Some, ap, append-nil, append_assoc, arith, false, length, refl, subst, sym, true, ℕ, []}
use Rattle.std.proofs.Common.{◌++◌, ◌∙◌, ◌∷◌, ◌≡◌}
use Rattle.job_model.specs.declared.events.Op.TheVariants as ops

-- The driver's commit is over, or it aborts or cleans.
abbrev pub IsOver : Commit → Type 0
IsOver (CommitOver end) = Unit {0}
IsOver _ = ⊥

abbrev pub IsAfter : Option Operation → Type 0
IsAfter (Some (TheCommit c)) = IsOver c
IsAfter (Some (TheClean t)) = Unit {0}
IsAfter _ = ⊥

no_setup : (d : Option Operation) → IsAfter d → IsSettingUp d → ⊥
no_setup d h g = grind arith

no_commit : (d : Option Operation) → IsAfter d → is_just_set d ≡ true → ⊥
no_commit d h g = grind arith

-- The driver reads no set then.
driver_reads : (g : Setting) (r : Request) (m : Running) → IsAfter (Some m.operation) → wants g Driver m ≡ Some r → (t : ℕ)
    → is_reading g.script t r ≡ false
driver_reads g r m h e t = grind arith

none_last : (w : Script) (es : List Entry) (e : Entry) → NoneRead w es → (e.actor ≡ Driver → (t : ℕ) → is_reading w t e.request ≡ false)
    → NoneRead w (es ++ e ∷ [])
none_last w [] e h one = (one, tt)
none_last w (x ∷ es) e h one = (h.0, none_last w es e h.1 one)

heard_after : (g : Setting) (m : Running) (e : Entry) → IsAfter (Some m.operation) → wants g Driver m ≡ Some e.request
    → IsAfter (operation_of (hear g Driver (Some m) e))
heard_after g m e h f = grind arith

module _ (g : Setting) (single : g.shared ≡ false) (opening : Content) (j : IsLegal g.script) (is_opening : IsOpening g opening) where
  begun_after : (y : Play) → Reachable g opening y → (op : Op) → IsAfter (operation_of (y.running Driver)) → y.now ≡ None
      → Begins (y.past.state Driver).stage Driver op (y.past.state Driver).life (y.past.state Driver).stage
      → IsAfter (operation_of (open_running g y (Do Driver op) Driver))
  begun_after y past ops.Setup h idle b = absurd (no_setup (operation_of (y.running Driver)) h
      (may_setup (y.past.state Driver).stage (y.past.state Driver).life (operation_of (y.running Driver))
      (driver_past g opening j is_opening y past idle) b.may_begin).1)
  begun_after y past ops.Write h idle b = absurd (false_true refl b.may_begin)
  begun_after y past ops.Commit h idle b = absurd (no_commit (operation_of (y.running Driver)) h
      (may_commit_job (y.past.state Driver).stage (y.past.state Driver).life (operation_of (y.running Driver))
      (driver_past g opening j is_opening y past idle) b.may_begin))
  begun_after y past _ h idle b = subst (λ op. IsAfter (Some op)) (sym (clean_alone g single)) tt

  opened_after : (y : Play) → Reachable g opening y → (ev : Event) → MayOpen g y ev None → IsAfter (operation_of (y.running Driver))
      → IsAfter (operation_of (open_running g y ev Driver))
  opened_after y h ev g e = grind (arith, begun_after, begins_so)

  -- One more send.
  module _ (y : Play) (e : Entry) (may : MaySend g opening y e) (h : IsAfter (operation_of (y.running Driver))) where
    by_driver : Driver ≡ e.actor → IsAfter (Some may.at.operation) × (wants g Driver may.at ≡ Some e.request)
    by_driver s = (
      subst IsAfter (ap operation_of (ap y.running s ∙ may.is_at)) h,
      subst (λ a. wants g a may.at ≡ Some e.request) (sym s)
          may.asked,
    )

    abbrev then : Option Running
    then = put y.running e.actor (hear g e.actor (y.running e.actor) e) Driver

    sent_after : IsAfter (operation_of then)
    sent_after = grind (arith, same_or_not, by_driver, put_here, heard_after, put_other)

  -- What was sent since then, without a set read by the driver.
  pub record After (y x : Play) : Type 0 where
    pub more : List Entry
    pub all : x.journal ≡ y.journal ++ more
    pub none : NoneRead g.script more
    pub at : IsAfter (operation_of (x.running Driver))

  still_after : (y z : Play) (h : Transition) → (happen g z h).journal ≡ z.journal → After y z
      → IsAfter (operation_of ((happen g z h).running Driver)) → After y (happen g z h)
  still_after y z h same old at = record { more = old.more; all = same ∙ old.all; none = old.none; at = at }

  longer_after : (y z : Play) (h : Transition) (e : Entry) → (happen g z h).journal ≡ z.journal ++ e ∷ [] → After y z
      → (e.actor ≡ Driver → (t : ℕ) → is_reading g.script t e.request ≡ false) → IsAfter (operation_of ((happen g z h).running Driver))
      → After y (happen g z h)
  longer_after y z h e longer old reads at = record {
    more = old.more ++ e ∷ [];
    all = longer ∙ ap (λ v. v ++ e ∷ []) old.all ∙ append_assoc
        y.journal old.more (e ∷ []);
    none = none_last g.script old.more e old.none reads;
    at = at;
  }

  pub after_commit : (y x : Play) → Later g opening y x → IsAfter (operation_of (y.running Driver)) → After y x
  after_commit y x (at_once) h = record { more = []; all = sym (append-nil y.journal); none = tt; at = h }
  after_commit y x (later z (Opens ev) past l may) h = let old = after_commit y z l h in still_after y z (Opens ev) refl old
      (opened_after z past ev may old.at)
  after_commit y x (later z (Sends e) past l may) h = let old = after_commit y z l h in longer_after y z (Sends e) e refl old
      (λ s. let d = by_driver z e may old.at (sym s) in driver_reads g e.request may.at d.0 d.1) (sent_after z e may old.at)
  after_commit y x (later z (Strays r o) past l may) h =
      let old = after_commit y z l h in longer_after y z (Strays r o) (strange_entry (length z.ends) r o) refl old (λ s. absurd cc) old.at
  after_commit y x (later z t past l may) h = let old = after_commit y z l h in still_after y z t refl old old.at
