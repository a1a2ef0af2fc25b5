-- The sends that a job's actor has left, among requests of the others. These never raise an attempt's bound, and raise the driver's by at
-- most `rise`.
use Rattle.job_operations.proofs.ActorsGo.{checked_plan}
use Rattle.job_operations.proofs.Beside.{attempts_stay}
use Rattle.job_operations.proofs.WorksDue.{by_attempt, fine_at}
use Rattle.job_operations.proofs.WorksGo.{asks, behind, commit_at}
use Rattle.job_operations.proofs.WorksStand.{driver_is, never_replaces, stand}
use Rattle.job_operations.specs.ActLaws.{act_laws}
use Rattle.job_operations.specs.Acts.{left_of, rise_of, wants_of}
use Rattle.job_operations.specs.Beside.{PutsNone, below}
use Rattle.job_operations.specs.Plans.{IsOf, known_now, running_of}
use Rattle.job_operations.specs.Rising.{rise}
use Rattle.job_operations.specs.declared.act.Act.{Act}
use Rattle.text_and_lists.proofs.Members.{false_true, none_some, some_is, true_or_false}
use Rattle.text_and_lists.proofs.Naturals.{no_more_times}
use Rattle.cleanup.specs.SparingFits.{most_commits}
use Rattle.commit_lanes.specs.CommitEnds.{rise_of as commit_rise_of}
use Rattle.conflict.specs.Rechecks.{PlannedCheck}
use Rattle.job_actor.specs.Works.{IsAt, rise_for}
use Rattle.job_invariant.proofs.Apart.{another}
use Rattle.job_invariant.proofs.Held.{nth_of, of_sets}
use Rattle.job_invariant.proofs.JobCommitting.{begins_through, commit_drives}
use Rattle.job_invariant.proofs.Legal.{some_dest}
use Rattle.job_invariant.proofs.Owning.{own_directory}
use Rattle.job_invariant.specs.Facts.{IsAttempt}
use Rattle.job_invariant.specs.FiledLaws.{Commits}
use Rattle.job_invariant.specs.Fits.{FitsCommit, FitsWrite}
use Rattle.job_invariant.specs.Foreign.{IsDriving}
use Rattle.job_invariant.specs.Told.{Told}
use Rattle.job_model.specs.Attempts.{Who, actor_of}
use Rattle.job_model.specs.Files.{File}
use Rattle.job_model.specs.JobScript.{Script}
use Rattle.job_model.specs.Jobs.{Job, Task}
use Rattle.job_model.specs.Known.{Known}
use Rattle.job_model.specs.Legal.{IsLegal}
use Rattle.job_protocol.specs.AtWork.{Committing, job_of, task_commit_wants, task_of, write_wants}
use Rattle.job_protocol.specs.JobCommits.{Commit, CommitOver, Completing, Fetching, Marking, Replacing, Reverting, Sets, all_commits}
use Rattle.job_protocol.specs.JobCommits.{commit_asks, commit_start, set_request}
use Rattle.job_protocol.specs.Lanes.{nth}
use Rattle.job_protocol.specs.Operations.{Setting}
use Rattle.job_protocol.specs.Records.{attempt_dir, marker_key, record_key}
use Rattle.job_protocol.specs.Seen.{Seen, is_magic}
use Rattle.job_protocol.specs.TaskCommits.{attempt_prefix}
use Rattle.job_protocol.specs.Uploading.{Uploading, upload_asks}
use Rattle.script_steps.specs.Transitions.{Play, knows_now, scene_of}
use Rattle.list_walk.specs.Left.{adds_key, one_if}
use Rattle.list_walk.specs.Walks.{Sweep}
use Rattle.machine.specs.declared.retrying.Retrying.{Retrying}
use Rattle.magic_paths.proofs.Tails.{begins_behind, below_is}
use Rattle.magic_paths.specs.Layout.{set_key}
use Rattle.pending_json.specs.Pending.{Pending}
use Rattle.s3_types.specs.Answer.{apply, bucket_of}
use Rattle.s3_types.specs.Pages.{begins}
use Rattle.s3_types.specs.Store.{Content}
use Rattle.s3_types.specs.declared.request.Actor.{Actor}
use Rattle.s3_types.specs.declared.request.Actor.TheVariants.{Driver}
use Rattle.s3_types.specs.declared.request.Committer.{Committer}
use Rattle.s3_types.specs.declared.request.Committer.TheVariants.{Magic}
use Rattle.s3_types.specs.declared.request.Request.{Request}
use Rattle.s3_types.specs.declared.request.Request.TheVariants.{PutObject}
use Rattle.std.proofs.Common.{List, None, Option, Some, ap, append-nil, append_assoc, arith, codes, false, inl, inr, length, length-append}
use Rattle.std.proofs.Common.{refl, subst, sym, true, ℕ, [], ◌*◌, ◌++◌, ◌+◌, ◌∙◌, ◌∷◌, ◌≡◌, ◌≤◌}
use Rattle.std.proofs.Math.Nat.{le_refl}
use Rattle.std.specs.Fmt.{decimal}
use Rattle.job_protocol.specs.Setup as setups
use Rattle.job_protocol.specs.Writes as writes
use Rattle.job_protocol.specs.TaskCommits as commits
use Rattle.job_protocol.specs.TaskAborts as aborts
use Rattle.job_protocol.specs.Cleanups as cleans
use Rattle.job_protocol.specs.Rechecks as checks
use Rattle.job_protocol.specs.Sparing as sparings
use Rattle.job_operations.specs.declared.act.Act.TheVariants as acts

-- ---- keys that are apart from an attempt's directory

-- A request that adds no key.
adds_none : (p : List ℕ) (r : Request) → adds_key r ≡ false → PutsNone p r
adds_none p r e adds k i = absurd (false_true e adds)

puts_apart : (p : List ℕ) (r : Request) (bucket key bytes : List ℕ) (header : Option ℕ) → PutObject bucket key bytes header ≡ r
    → begins p key ≡ false → PutsNone p r
puts_apart p r bucket key bytes header is out = subst (PutsNone p) is (λ adds k i. elim i
    [ inl e ↦ ap (begins p) e ∙ out | inr none ↦ absurd none ])

-- The key of a task's set is in no attempt's directory.
set_apart : (w : Script) (a : Who) (t : ℕ) → begins (attempt_prefix w a) (set_key w.dest.key w.job t) ≡ false
set_apart w a t =
    let rest = decimal a.task ++ (codes "_" ++ (decimal a.attempt ++ codes "/__base")) in
    let own = codes "/__magic/job-" ++ (w.job ++ (codes "/tasks/" ++ rest)) in
    let set = codes "/sets/task_" ++ (decimal t ++ codes ".pendingset") in
    ap (λ p. begins p (set_key w.dest.key w.job t)) (append_assoc w.dest.key own (codes "/"))
    ∙ begins_behind w.dest.key (own ++ codes "/") (codes "/__magic/job-" ++ (w.job ++ set))
    ∙ ap (λ p. begins (codes "/__magic/job-" ++ p) (codes "/__magic/job-" ++ (w.job ++ set)))
    (append_assoc w.job (codes "/tasks/" ++ rest) (codes "/"))
    ∙ begins_behind w.job ((codes "/tasks/" ++ rest) ++ codes "/") set

module _ {w : Script} (j : IsLegal w) (a b : Who) (d : IsAttempt w a) (e : IsAttempt w b) (ne : a ≡ b → ⊥) where
  -- the record's key begins with that of the marker
  marker_front : (f : File) → begins (marker_key w a f) (record_key w a f) ≡ true
  marker_front f =
      let some : 1 ≤ length w.dest.key = some_dest j in
      let long : 1 ≤ length (attempt_dir w a) = simp length-append (omega (arith, some)) in
      let marker : marker_key w a f ≡ attempt_dir w a ++ 47 ∷ f.0 = below_is (attempt_dir w a) f.0 long in
      let record_is : record_key w a f ≡ (attempt_dir w a ++ 47 ∷ f.0) ++ codes ".pending" = below_is (attempt_dir w a)
      (f.0 ++ codes ".pending") long ∙ sym (append_assoc (attempt_dir w a) (47 ∷ f.0) (codes ".pending")) in
      let front : begins (attempt_dir w a ++ 47 ∷ f.0) ((attempt_dir w a ++ 47 ∷ f.0) ++ codes ".pending") ≡ true =
      ap (λ p. begins p ((attempt_dir w a ++ 47 ∷ f.0) ++ codes ".pending")) (sym (append-nil (attempt_dir w a ++ 47 ∷ f.0))) ∙
      begins_behind (attempt_dir w a ++ 47 ∷ f.0) [] (codes ".pending") in
      ap (begins (marker_key w a f)) record_is ∙ ap (λ p. begins p ((attempt_dir w a ++ 47 ∷ f.0) ++ codes ".pending")) marker ∙ front

  marker_apart : (f : File) → begins (attempt_prefix w b) (marker_key w a f) ≡ false
  marker_apart f = elim (true_or_false (begins (attempt_prefix w b) (marker_key w a f))) [
    | inr out ↦ out
    | inl there ↦ absurd (false_true (another j a b d e ne f) (begins_through (attempt_prefix w b) (marker_key w a f) (record_key w a f)
        there (marker_front f)))
  ]

  -- ---- another attempt's requests

  abbrev Free : Request → Type 0
  Free r = PutsNone (attempt_prefix w b) r

  uploads_none : (k : Known) (f : File) (u : Uploading) → Free (upload_asks w k f u)
  uploads_none k f u = adds_none (attempt_prefix w b) (upload_asks w k f u) (grind arith)

  write_none : (k : Known) (t : writes.Write) (r : Request) → writes.write_asks w a k t ≡ Some r → Free r
  write_none k (writes.Uploads f fs u) r q = subst Free (some_is q) (uploads_none k f u)
  write_none k (writes.Marking f fs) r q = puts_apart (attempt_prefix w b) r _ _ _ _ (some_is q) (marker_apart f)
  write_none k (writes.Recording f fs) r q = puts_apart (attempt_prefix w b) r _ _ _ _ (some_is q) (another j a b d e ne f)
  write_none k (writes.WriteOver end) r q = absurd (none_some refl q)

  commit_none : (k : Known) (t : commits.TaskCommit) (r : Request) → commits.task_commit_asks w a k t ≡ Some r → Free r
  commit_none k (commits.Publishing cs) r q = puts_apart (attempt_prefix w b) r _ _ _ _ (some_is q) (set_apart w b a.task)
  commit_none k (commits.Uploads f fs u) r q = subst Free (some_is q) (uploads_none k f u)
  commit_none k (commits.TaskCommitOver end) r q = absurd (none_some refl q)
  commit_none k _ r q = adds_none (attempt_prefix w b) r (ap adds_key (sym (some_is q)))

module _ (w : Script) (b : Who) where
  abbrev FreeOf : Request → Type 0
  FreeOf r = PutsNone (attempt_prefix w b) r

  abort_none : (a : Who) (t : aborts.TaskAbort) (r : Request) → aborts.task_abort_asks w a t ≡ Some r → FreeOf r
  abort_none a t r q = adds_none (attempt_prefix w b) r (grind arith)

  -- ---- the driver's

  setup_none : (t : setups.Setup) (r : Request) → setups.setup_asks w t ≡ Some r → FreeOf r
  setup_none t r q = adds_none (attempt_prefix w b) r (grind arith)

  clean_none : (t : cleans.Clean) (r : Request) → cleans.clean_asks w t ≡ Some r → FreeOf r
  clean_none t r q = adds_none (attempt_prefix w b) r (grind arith)

  sparing_none : (t : sparings.Sparing) (r : Request) → sparings.sparing_asks w t ≡ Some r → FreeOf r
  sparing_none t r q = adds_none (attempt_prefix w b) r (grind arith)

  check_none : (t : checks.Check) (r : Request) → checks.check_asks w t ≡ Some r → FreeOf r
  check_none t r q = adds_none (attempt_prefix w b) r (grind arith)

  -- A key that the driver puts in its bucket is not below the job's magic directory.
  driving_none : (r : Request) → IsDriving w r → bucket_of r ≡ w.dest.bucket → FreeOf r
  driving_none r drives bucket adds k i = elim (true_or_false (begins (attempt_prefix w b) k)) [
    | inr out ↦ out
    | inl there ↦ absurd (false_true (drives.keys bucket k i) (own_directory w b k there))
  ]

  read_none : (c : Committer) (t : ℕ) → FreeOf (set_request c w t)
  read_none c t = adds_none (attempt_prefix w b) (set_request c w t) (grind arith)

  module _ (minimum : ℕ) (j : IsLegal w) (s : Seen) (m : Told) where
    job_none : (c : Commit) → Commits w minimum s m c → (r : Request) → commit_asks w c ≡ Some r → FreeOf r
    job_none (Fetching sets n) v r q = subst FreeOf (some_is q) (read_none w.committer (length sets))
    job_none (Replacing sets p ps t n) v r q = adds_none (attempt_prefix w b) r (grind arith)
    job_none (Completing sets x xs finished) v r q =
        let drives = commit_drives w minimum (record { commit = None; clean = None }) s m 0 j v.hold (Completing sets x xs finished) v.fits
        r q in
        let p = nth (all_commits sets) x.number in
        let o = of_sets j v.hold sets v.fits p (nth_of (all_commits sets) x.number (v.tabled.within x (inl refl))) in
        driving_none r drives (ap bucket_of (sym (some_is q)) ∙ ap (λ (z : Pending). z.bucket) o.1.commit.is)
    job_none (Marking sets n) v r q = driving_none r (commit_drives w minimum (record { commit = None; clean = None }) s m 0 j v.hold
        (Marking sets n) v.fits r q) (ap bucket_of (sym (some_is q)))
    job_none (Reverting z zs n) v r q = subst FreeOf (some_is q) (elim (v.decides z (inl refl)).2
        [ inl is ↦ adds_none (attempt_prefix w b) z (ap adds_key is) | inr is ↦ adds_none (attempt_prefix w b) z (ap adds_key is) ])
    job_none (CommitOver end) v r q = absurd (none_some refl q)

-- ---- requests that add a key

-- Of the attempts, only those of a magic job add keys.
write_adds : (w : Script) (minimum : ℕ) (a : Who) (k l : Known) (t : writes.Write) → FitsWrite w minimum a l t → (r : Request)
    → writes.write_asks w a k t ≡ Some r → adds_key r ≡ true → is_magic w.committer ≡ true
write_adds w minimum a k l t h r g e = grind arith

commit_adds : (w : Script) (minimum : ℕ) (a : Who) (k l : Known) (t : commits.TaskCommit) → FitsCommit w minimum a l t → (r : Request)
    → commits.task_commit_asks w a k t ≡ Some r → adds_key r ≡ true → is_magic w.committer ≡ true
commit_adds w minimum a k l t h r g e = grind arith

abort_adds : (w : Script) (a : Who) (t : aborts.TaskAbort) (r : Request) → aborts.task_abort_asks w a t ≡ Some r → adds_key r ≡ true
    → is_magic w.committer ≡ true
abort_adds w a t r q e = grind arith

is_magic_so : (c : Committer) → is_magic c ≡ true → c ≡ Magic
is_magic_so c e = grind arith

-- The commit of a magic job deletes nothing, and so nothing raises its bound.
magic_calm : (j : Job) (c : Commit) → j.committer ≡ Magic
    → ((sets : Sets) (p : List ℕ) (ps : List (List ℕ)) (t : Sweep) (n : ℕ) → c ≡ Replacing sets p ps t n → ⊥)
    → commit_rise_of most_commits j c ≡ 0
magic_calm j c h g = grind arith

-- A magic job's commit does not begin with a deletion either.
start_calm : (w : Script) → w.committer ≡ Magic → (c : Commit) → c ≡ commit_start w None
    → (sets : Sets) (p : List ℕ) (ps : List (List ℕ)) (t : Sweep) (n : ℕ) → c ≡ Replacing sets p ps t n → ⊥
start_calm w magic c is sets p ps t n e = grind arith

none_times : (a b : ℕ) → a ≡ 0 → a * b ≡ 0
none_times a b e = let none : 0 * b ≡ 0 = omega arith in subst (λ x. x * b ≡ 0) (sym e) none

times_none : (a : ℕ) → a * 0 ≡ 0
times_none a = omega arith

-- ---- any other actor's

module _ (g : Setting) (opening : Content) (x : Play) where
  abbrev At : Actor → Act → Type 0
  At a work = IsAt IsOf running_of g opening x a work

  -- An actor with an attempt's operation is an attempt of the job.
  is_attempt : (b : Who) (work : Act) → At (actor_of b) work → IsAttempt g.script b
  is_attempt b work at = (fine_at g opening x b at).0

  -- The same for a job's commit after its check.
  commit_free : (c : Who) (b : Actor) (m : Committing) → At b (acts.Commit m) → (r : Request) → wants_of (acts.Commit m) ≡ Some r
      → PutsNone (attempt_prefix g.script c) r
  commit_free c b m at r e =
      let s = stand g opening x at.legal at.opens at.happened in
      job_none g.script c g.minimum at.legal s.seen s.told m.operation (commit_at g opening x b m at).commits r
      (sym (asks g opening x b (acts.Commit m) at) ∙ e)

  checked_free : (c : Who) (b : Actor) (q : Option (Retrying PlannedCheck)) (m : Committing)
      → At b (acts.Checked (record { check = q; commit = m })) → (r : Request)
      → wants_of (acts.Checked (record { check = q; commit = m })) ≡ Some r → PutsNone (attempt_prefix g.script c) r
  checked_free c b (Some t) m at r e = check_none g.script c t.machine.operation r
      (sym (asks g opening x b (acts.Checked (record { check = Some t; commit = m })) at) ∙ e)
  checked_free c b None m at r e = commit_free c b m (behind g opening x b m at) r e

  other_none : (c : Who) → IsAttempt g.script c → (b : Actor) (other : Act) → At b other → (actor_of c ≡ b → ⊥) → (r : Request)
      → wants_of other ≡ Some r → PutsNone (attempt_prefix g.script c) r
  other_none c d b (acts.Setup t) at ne r e = setup_none g.script c t.machine.operation r (sym (asks g opening x b (acts.Setup t) at) ∙ e)
  other_none c d b (acts.Write t) at ne r e =
      let o = by_attempt g opening x b (acts.Write t) at.goes_by.actor at in
      write_none at.legal o.0 c (is_attempt o.0 (acts.Write t) o.2) d (λ s. ne (ap actor_of (sym s) ∙ sym o.1)) (known_now write_wants t)
      t.machine.operation r (sym (asks g opening x (actor_of o.0) (acts.Write t) o.2) ∙ e)
  other_none c d b (acts.CommitTask t) at ne r e =
      let o = by_attempt g opening x b (acts.CommitTask t) at.goes_by.actor at in
      commit_none at.legal o.0 c (is_attempt o.0 (acts.CommitTask t) o.2) d (λ s. ne (ap actor_of (sym s) ∙ sym o.1))
      (known_now task_commit_wants t) t.machine.operation r (sym (asks g opening x (actor_of o.0) (acts.CommitTask t) o.2) ∙ e)
  other_none c d b (acts.AbortTask t) at ne r e =
      let o = by_attempt g opening x b (acts.AbortTask t) at.goes_by.actor at in
      abort_none g.script c o.0 t.machine.operation r (sym (asks g opening x (actor_of o.0) (acts.AbortTask t) o.2) ∙ e)
  other_none c d b (acts.Commit m) at ne r e = commit_free c b m at r e
  other_none c d b (acts.Clean t) at ne r e = clean_none g.script c t.machine.operation r (sym (asks g opening x b (acts.Clean t) at) ∙ e)
  other_none c d b (acts.Sparing t) at ne r e = sparing_none g.script c t.machine.operation r
      (sym (asks g opening x b (acts.Sparing t) at) ∙ e)
  other_none c d b (acts.Checked y) at ne r e = checked_free c b y.check y.commit at r e

  -- ---- what is left

  abbrev Beside : Actor → Act → Request → Type 0
  Beside a work r = left_of work (apply (scene_of opening x) r) ≤ left_of work (scene_of opening x) + rise_for (rise g.script) a

  no_more : (m n : ℕ) → m ≤ n → m ≤ n + 0
  no_more m n l = omega (arith, l)

  -- the directory of an attempt's plan is the attempt's
  below_is_own : (c : Who) (t : Task) (k : Known) → t ≡ task_of g.script g.minimum c k → (r : Request)
      → PutsNone (attempt_prefix g.script c) r → PutsNone (below t) r
  below_is_own c t k e r h = subst (λ v. PutsNone (below v) r) (sym e) h

  -- Another actor than the driver adds a key only in a magic job.
  other_adds : (b : Actor) (other : Act) → At b other → (b ≡ Driver → ⊥) → (r : Request) → wants_of other ≡ Some r → adds_key r ≡ true
      → is_magic g.script.committer ≡ true
  other_adds b (acts.Commit c) at ne r e adds = absurd (ne at.goes_by.0)
  other_adds b (acts.Checked y) at ne r e adds = absurd (ne (checked_plan g b y.check y.commit at.goes_by).0)
  other_adds b (acts.Write t) at ne r e adds =
      let o = by_attempt g opening x b (acts.Write t) at.goes_by.actor at in
      write_adds g.script g.minimum o.0 (known_now write_wants t) _ t.machine.operation (fine_at g opening x o.0 o.2).1.1 r
      (sym (asks g opening x (actor_of o.0) (acts.Write t) o.2) ∙ e) adds
  other_adds b (acts.CommitTask t) at ne r e adds =
      let o = by_attempt g opening x b (acts.CommitTask t) at.goes_by.actor at in
      commit_adds g.script g.minimum o.0 (known_now task_commit_wants t) _ t.machine.operation (fine_at g opening x o.0 o.2).1.1 r
      (sym (asks g opening x (actor_of o.0) (acts.CommitTask t) o.2) ∙ e) adds
  other_adds b (acts.AbortTask t) at ne r e adds =
      let o = by_attempt g opening x b (acts.AbortTask t) at.goes_by.actor at in
      abort_adds g.script o.0 t.machine.operation r (sym (asks g opening x (actor_of o.0) (acts.AbortTask t) o.2) ∙ e) adds
  other_adds b _ at ne r e adds = absurd (ne at.goes_by.actor)

  -- A request of another actor does not raise the bound of a commit that deletes nothing in a magic job.
  rises_none : (b : Actor) (other : Act) → At b other → (b ≡ Driver → ⊥) → (r : Request) → wants_of other ≡ Some r → (j : Job) (c : Commit)
      → j ≡ job_of g.script
      → (g.script.committer ≡ Magic → (sets : Sets) (p : List ℕ) (ps : List (List ℕ)) (t : Sweep) (n : ℕ) → c ≡ Replacing sets p ps t n → ⊥)
      → commit_rise_of most_commits j c * one_if (adds_key r) ≡ 0
  rises_none b other bt ne r e j c is never = elim (true_or_false (adds_key r)) [
    | inr none ↦ ap (λ v. commit_rise_of most_commits j c * one_if v) none ∙ times_none (commit_rise_of most_commits j c)
    | inl adds ↦
        let magic = is_magic_so g.script.committer (other_adds b other bt ne r e adds) in
        none_times (commit_rise_of most_commits j c) (one_if (adds_key r)) (magic_calm j c (ap (λ (k : Job). k.committer) is ∙ magic)
        (never magic))
  ]

  commit_calm : (a b : Actor) (c : Committing) (other : Act) → At a (acts.Commit c) → At b other → (a ≡ b → ⊥) → (r : Request)
      → wants_of other ≡ Some r → rise_of (acts.Commit c) r ≡ 0
  commit_calm a b c other at bt ne r e =
      let d = driver_is g opening x at.legal at.opens at.happened a (running_of (knows_now g x a) (acts.Commit c)) at.goes_by.0 at.at in
      rises_none b other bt (λ s. ne (at.goes_by.0 ∙ sym s)) r e c.plan c.operation at.goes_by.1
      (never_replaces g opening x at.legal at.opens at.happened c.operation d)

  by_driver : (a : Actor) (work : Act) (r : Request) → a ≡ Driver → rise_of work r ≤ rise g.script → Beside a work r
  by_driver a work r is most =
      let k = act_laws.others work (scene_of opening x) r in
      let here : Beside Driver work r = omega (arith, k, most) in
      subst (λ c. Beside c work r) (sym is) here

-- ---- numbers

less : (k n : ℕ) → k ≤ 3 → k ≤ 3 + n
less k n h = omega (arith, h)

none_most : (n most : ℕ) → n ≡ 0 → n ≤ most
none_most n most e = omega (arith, e)

-- At most this many times the sends of one request.
fewer : (k n : ℕ) (w : Script) → k ≤ 3 + most_commits → n ≡ w.retries → k * (n + 1) ≤ rise w
fewer k n w h e = subst (λ v. k * (v + 1) ≤ rise w) (sym e) (no_more_times k (3 + most_commits) w.retries h)

with_none : (m n most : ℕ) → n ≡ 0 → m ≤ most → m + n ≤ most
with_none m n most e h = omega (arith, e, h)

checked_beside : (g : Setting) (opening : Content) (x : Play) (a b : Actor) (q : Option (Retrying PlannedCheck)) (c : Committing)
    (other : Act) → IsAt IsOf running_of g opening x a (acts.Checked (record { check = q; commit = c }))
    → IsAt IsOf running_of g opening x b other → (a ≡ b → ⊥) → (r : Request) → wants_of other ≡ Some r
    → Beside g opening x a (acts.Checked (record { check = q; commit = c })) r
checked_beside g opening x a b (Some t) c other at bt ne r e =
    by_driver g opening x a (acts.Checked (record { check = Some t; commit = c })) r at.goes_by.actor
    (with_none (1 * (t.retries + 1)) _ (rise g.script) (rises_none g opening x b other bt (λ s. ne (at.goes_by.actor ∙ sym s)) r e c.plan
    c.operation at.goes_by.commit (λ magic. start_calm g.script magic c.operation at.goes_by.begins))
    (fewer 1 t.retries g.script (less 1 most_commits (omega arith)) at.goes_by.retries))
checked_beside g opening x a b None c other at bt ne r e =
    by_driver g opening x a (acts.Checked (record { check = None; commit = c })) r at.goes_by.0
    (none_most (rise_of (acts.Commit c) r) (rise g.script) (commit_calm g opening x a b c other (behind g opening x a c at) bt ne r e))

pub beside : (g : Setting) (opening : Content) (x : Play) (a b : Actor) (work other : Act) → IsAt IsOf running_of g opening x a work
    → IsAt IsOf running_of g opening x b other → (a ≡ b → ⊥) → (r : Request) → wants_of other ≡ Some r
    → left_of work (apply (scene_of opening x) r) ≤ left_of work (scene_of opening x) + rise_for (rise g.script) a
beside g opening x a b (acts.Setup t) other at bt ne r e = by_driver g opening x a (acts.Setup t) r at.goes_by.actor
    (fewer 2 t.retries g.script (less 2 most_commits (omega arith)) at.goes_by.retries)
beside g opening x a b (acts.Commit c) other at bt ne r e = by_driver g opening x a (acts.Commit c) r at.goes_by.0
    (none_most (rise_of (acts.Commit c) r) (rise g.script) (commit_calm g opening x a b c other at bt ne r e))
beside g opening x a b (acts.Clean t) other at bt ne r e = by_driver g opening x a (acts.Clean t) r at.goes_by.actor
    (fewer 3 t.retries g.script (less 3 most_commits (omega arith)) at.goes_by.retries)
beside g opening x a b (acts.Sparing t) other at bt ne r e = by_driver g opening x a (acts.Sparing t) r at.goes_by.actor
    (fewer (3 + most_commits) t.retries g.script (le_refl (3 + most_commits)) at.goes_by.retries)
beside g opening x a b (acts.Checked y) other at bt ne r e = checked_beside g opening x a b y.check y.commit other at bt ne r e
beside g opening x a b (acts.Write t) other at bt ne r e =
    let o = by_attempt g opening x a (acts.Write t) at.goes_by.actor at in
    subst (λ c. Beside g opening x c (acts.Write t) r) (sym o.1) (no_more g opening x _ _ (attempts_stay.writes t (scene_of opening x) r))
beside g opening x a b (acts.CommitTask t) other at bt ne r e =
    let o = by_attempt g opening x a (acts.CommitTask t) at.goes_by.actor at in
    let none = other_none g opening x o.0 (is_attempt g opening x o.0 (acts.CommitTask t) o.2) b other bt (λ s. ne (o.1 ∙ s)) r e in
    subst (λ c. Beside g opening x c (acts.CommitTask t) r) (sym o.1) (no_more g opening x _ _
    (attempts_stay.commits t (scene_of opening x) r (below_is_own g opening x o.0 t.machine.plan t.machine.plan.known o.2.goes_by.plan r
    none)))
beside g opening x a b (acts.AbortTask t) other at bt ne r e =
    let o = by_attempt g opening x a (acts.AbortTask t) at.goes_by.actor at in
    let none = other_none g opening x o.0 (is_attempt g opening x o.0 (acts.AbortTask t) o.2) b other bt (λ s. ne (o.1 ∙ s)) r e in
    subst (λ c. Beside g opening x c (acts.AbortTask t) r) (sym o.1) (no_more g opening x _ _
    (attempts_stay.aborts t (scene_of opening x) r (below_is_own g opening x o.0 t.machine.plan t.machine.plan.known o.2.goes_by.plan r
    none)))
