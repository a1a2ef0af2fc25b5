-- The bound on the requests that a task abort has left falls.
use Rattle.job_model.specs.Attempts.{Who}
use Rattle.job_model.specs.JobScript.{Script}
use Rattle.job_model.specs.Known.{Drawn}
use Rattle.job_protocol.specs.AtWork.{task_abort_told, task_abort_wants, task_script, who_of}
use Rattle.job_protocol.specs.Measures.{FallsAmong}
use Rattle.job_protocol.specs.TaskAborts.{Dropping, Removing, Sweeping, TaskAbort, TaskAbortOver, dropped, dropping, removing, sweeping}
use Rattle.job_protocol.specs.TaskAborts.{task_abort_asks, task_abort_hears}
use Rattle.job_protocol.specs.TaskCommits.{attempt_prefix}
use Rattle.list_walk.proofs.Counting.{one_most}
use Rattle.list_walk.proofs.Falling.{sweep_laws}
use Rattle.list_walk.specs.Fitting.{FitsSweep}
use Rattle.list_walk.specs.Left.{adds_key, left_of, one_if}
use Rattle.list_walk.specs.Walks.{Sweep, all_go, sweep_asks, sweep_hears, sweep_start}
use Rattle.s3_types.specs.Answer.{answer, apply}
use Rattle.s3_types.specs.Store.{Scene}
use Rattle.s3_types.specs.declared.request.Committer.{Committer}
use Rattle.s3_types.specs.declared.request.Committer.TheVariants.{Magic}
use Rattle.s3_types.specs.declared.request.Request.{Request}
use Rattle.s3_types.specs.declared.request.Request.TheVariants.{AbortUpload}
use Rattle.std.proofs.Common.{Bool, List, None, Option, Some, ap, arith, false, length, refl, subst, true, [], ◌+◌, ◌<◌, ◌∷◌, ◌≡◌, ◌≤◌}
use Rattle.std.proofs.lemmas.Option.{same_Some}
use Rattle.task_operation.specs.Aborts.{FitsAbort, abort_fits, abort_left, abort_left_at, after_left, own_left}

-- ---- the sweep

own_keeps : (w : Script) (a : Who) (v : Sweep) (s : Scene) (r : Request) → adds_key r ≡ false
    → own_left w a v (apply s r) ≤ own_left w a v s
own_keeps w a v s r k =
    let o = sweep_laws.others w.dest.bucket (attempt_prefix w a) v s r in
    let z : one_if (adds_key r) ≡ 0 = ap one_if k in
    omega (arith, o, z)

own_rises : (w : Script) (a : Who) (v : Sweep) (s : Scene) (r : Request) → own_left w a v (apply s r) ≤ own_left w a v s + 1
own_rises w a v s r =
    let o = sweep_laws.others w.dest.bucket (attempt_prefix w a) v s r in
    let z = one_most (adds_key r) in
    omega (arith, o, z)

after_keeps : (c : Committer) (w : Script) (a : Who) (s : Scene) (r : Request) → adds_key r ≡ false
    → after_left c w a (apply s r) ≤ after_left c w a s
after_keeps Magic w a s r k = own_keeps w a sweep_start s r k
after_keeps _ w a s r k = omega arith

after_rises : (c : Committer) (w : Script) (a : Who) (s : Scene) (r : Request) → after_left c w a (apply s r) ≤ after_left c w a s + 1
after_rises Magic w a s r = own_rises w a sweep_start s r
after_rises _ w a s r = omega arith

-- ---- the bound falls

removing_left : (w : Script) (a : Who) (sent : Bool) (s : Scene) → abort_left_at w a (removing sent) s ≤ 1
removing_left w a true s = omega arith
removing_left w a false s = omega arith

dropped_left : (c : Committer) (w : Script) (a : Who) (sent : Bool) (s : Scene) → abort_left_at w a (dropped c sent) s ≤ after_left c w a s
dropped_left Magic w a sent s = omega arith
dropped_left _ w a sent s = removing_left w a sent s

dropping_left : (w : Script) (a : Who) (sent : Bool) (ds : List Drawn) (s : Scene)
    → abort_left_at w a (dropping w.committer sent ds) s ≤ length ds + after_left w.committer w a s
dropping_left w a sent [] s = let k = dropped_left w.committer w a sent s in omega (arith, k)
dropping_left w a sent (d ∷ ds) s = omega arith

dropping_falls : (w : Script) (a : Who) (d : Drawn) (ds : List Drawn) (sent : Bool) (s : Scene)
    → abort_left_at w a (dropping w.committer sent ds) (apply s (AbortUpload w.dest.bucket d.key d.upload)) < abort_left_at w a
    (Dropping d ds sent) s
dropping_falls w a d ds sent s =
    let e = dropping_left w a sent ds (apply s (AbortUpload w.dest.bucket d.key d.upload)) in
    let k = after_keeps w.committer w a s (AbortUpload w.dest.bucket d.key d.upload) refl in
    omega (arith, e, k)

sweeping_left : (w : Script) (a : Who) (o : Option Sweep) (s : Scene)
    → abort_left_at w a (sweeping o) s ≡ left_of w.dest.bucket (attempt_prefix w a) o s
sweeping_left w a (Some v) s = refl
sweeping_left w a None s = refl

sweeping_falls : (w : Script) (a : Who) (v : Sweep) (s : Scene) → FitsSweep v (answer s (sweep_asks w.dest.bucket (attempt_prefix w a) v))
    → abort_left_at w a (sweeping (sweep_hears all_go v (answer s (sweep_asks w.dest.bucket (attempt_prefix w a) v))))
    (apply s (sweep_asks w.dest.bucket (attempt_prefix w a) v)) < abort_left_at w a (Sweeping v) s
sweeping_falls w a v s h =
    let f = sweep_laws.falls w.dest.bucket (attempt_prefix w a) all_go v s h in
    let e = sweeping_left w a (sweep_hears all_go v (answer s (sweep_asks w.dest.bucket (attempt_prefix w a) v)))
    (apply s (sweep_asks w.dest.bucket (attempt_prefix w a) v)) in
    omega (arith, f, e)

pub none_some : {r : Request} → None ≡ Some r → ⊥
none_some e = cc

falls_at : (w : Script) (a : Who) (o : TaskAbort) (s : Scene) (r : Request) → task_abort_asks w a o ≡ Some r → FitsAbort o (answer s r)
    → abort_left_at w a (task_abort_hears w o (answer s r)) (apply s r) < abort_left_at w a o s
falls_at w a (Dropping d ds sent) s r e h =
    subst (λ r. abort_left_at w a (task_abort_hears w (Dropping d ds sent) (answer s r)) (apply s r) < abort_left_at w a
    (Dropping d ds sent) s) (same_Some _ _ e) (dropping_falls w a d ds sent s)
falls_at w a (Sweeping v) s r e h =
    subst (λ r. FitsAbort (Sweeping v) (answer s r)
    → abort_left_at w a (task_abort_hears w (Sweeping v) (answer s r)) (apply s r) < abort_left_at w a (Sweeping v) s) (same_Some _ _ e)
    (sweeping_falls w a v s) h
falls_at w a Removing s r e h = omega arith
falls_at w a (TaskAbortOver end) s r e h = absurd (none_some e)

some_left : (w : Script) (a : Who) (o : TaskAbort) (s : Scene) (r : Request) → task_abort_asks w a o ≡ Some r → 0 < abort_left_at w a o s
some_left w a (Sweeping v) s r e = sweep_laws.some w.dest.bucket (attempt_prefix w a) v s
some_left w a (TaskAbortOver end) s r e = absurd (none_some e)
some_left w a _ s r e = omega arith

keeps_dropping : (w : Script) (a : Who) (d : Drawn) (ds : List Drawn) (sent : Bool) (s : Scene)
    → abort_left_at w a (Dropping d ds sent) (apply s (AbortUpload w.dest.bucket d.key d.upload)) ≤ abort_left_at w a (Dropping d ds sent) s
keeps_dropping w a d ds sent s = let k = after_keeps w.committer w a s (AbortUpload w.dest.bucket d.key d.upload) refl in omega (arith, k)

no_rise_at : (w : Script) (a : Who) (o : TaskAbort) (s : Scene) (r : Request) → task_abort_asks w a o ≡ Some r
    → abort_left_at w a o (apply s r) ≤ abort_left_at w a o s
no_rise_at w a (Dropping d ds sent) s r e = subst (λ r. abort_left_at w a (Dropping d ds sent) (apply s r) ≤ abort_left_at w a
    (Dropping d ds sent) s) (same_Some _ _ e) (keeps_dropping w a d ds sent s)
no_rise_at w a (Sweeping v) s r e = subst (λ r. abort_left_at w a (Sweeping v) (apply s r) ≤ abort_left_at w a (Sweeping v) s)
    (same_Some _ _ e) (sweep_laws.no_rise w.dest.bucket (attempt_prefix w a) v s)
no_rise_at w a _ s r e = omega arith

others_at : (w : Script) (a : Who) (o : TaskAbort) (s : Scene) (r : Request) → abort_left_at w a o (apply s r) ≤ abort_left_at w a o s + 1
others_at w a (Dropping d ds sent) s r = let k = after_rises w.committer w a s r in omega (arith, k)
others_at w a (Sweeping v) s r = own_rises w a v s r
others_at w a _ s r = omega arith

pub abort_falls : FallsAmong task_abort_wants task_abort_told abort_fits abort_left 1
abort_falls = record {
  falls = λ m s r b e h. falls_at (task_script m.plan) (who_of m.plan) m.operation s r e h;
  falls_worn = λ m s r e. some_left (task_script m.plan) (who_of m.plan) m.operation s r e;
  no_rise = λ m s r e. no_rise_at (task_script m.plan) (who_of m.plan) m.operation s r e;
  others = λ m s r. others_at (task_script m.plan) (who_of m.plan) m.operation s r;
}
