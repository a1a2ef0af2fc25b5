-- A request that puts nothing below an attempt's directory does not raise the bound on the sends that the attempt has left.
use Rattle.job_operations.specs.Beside.{AttemptsStay, PutsNone}
use Rattle.text_and_lists.proofs.Less.{lt}
use Rattle.text_and_lists.proofs.Naturals.{no_more_times}
use Rattle.text_and_lists.proofs.Tree.{entries_empty}
use Rattle.text_and_lists.specs.Order.{text_cmp, text_total}
use Rattle.job_model.specs.Attempts.{Who}
use Rattle.job_model.specs.JobScript.{Script}
use Rattle.job_protocol.specs.AtWork.{task_script, who_of}
use Rattle.job_protocol.specs.TaskAborts.{TaskAbort}
use Rattle.job_protocol.specs.TaskCommits.{TaskCommit, attempt_prefix}
use Rattle.list_walk.proofs.Counting.{count, count_more}
use Rattle.list_walk.proofs.Growing.{grows, growth}
use Rattle.list_walk.proofs.Listing.{is_left, listed_count}
use Rattle.list_walk.specs.Left.{keys_left, one_if as one, sweep_left, thousands, walk_left}
use Rattle.list_walk.specs.Walks.{Deleting, Listing, Sweep, last_of, sweep_start}
use Rattle.s3_types.specs.Answer.{apply, completed, copied}
use Rattle.s3_types.specs.Multipart.{joined, live}
use Rattle.s3_types.specs.Pages.{begins, listed}
use Rattle.s3_types.specs.Store.{BucketContent, Objects, Scene, new_bucket}
use Rattle.s3_types.specs.declared.object.Object.{Object}
use Rattle.s3_types.specs.declared.reply.Refusal.{Refusal}
use Rattle.s3_types.specs.declared.request.Committer.{Committer}
use Rattle.s3_types.specs.declared.request.Committer.TheVariants.{Magic}
use Rattle.s3_types.specs.declared.request.Request.{Request}
use Rattle.s3_types.specs.declared.request.Request.TheVariants.{CompleteUpload, CopyObject, PutObject}
use Rattle.std.proofs.Common.{Bool, Err, List, None, Ok, Option, Result, Some, ap, arith, false, inl, length, refl, subst, sym, ℕ, [], ◌&&◌}
use Rattle.std.proofs.Common.{◌*◌, ◌+◌, ◌∙◌, ◌∷◌, ◌≡◌, ◌≤◌}
use Rattle.std.proofs.lemmas.Map.Lookups.{exact_bytes}
use Rattle.std.specs.FinMap.{entries-insert}
use Rattle.std.specs.FinMap.Entries.{put}
use Rattle.std.specs.declared.cmp.Ordering.{Ordering}
use Rattle.std.specs.declared.cmp.Ordering.TheVariants.{Equal}
use Rattle.task_operation.specs.Aborts.{abort_left, abort_left_at, after_left}
use Rattle.task_operation.specs.Commits.{commit_left, commit_left_at}
use Rattle.std.specs.FinMap as fin
use Rattle.job_protocol.specs.TaskCommits as commits

module _ {K X : Type 0} (R : K → K → Ordering) (t : K × X → Bool) where
  -- Putting a value whose key and value pass no test does not raise the count.
  count_put_other : (k : K) (v : X) → t (k, v) ≡ false → ((q : K) → R k q ≡ Equal → t (q, v) ≡ false) → (es : List (K × X))
      → count t (put R k v es) ≤ count t es
  count_put_other k v own none [] = let e : one (t (k, v)) ≡ 0 = ap one own in omega (arith, count_more t (k, v) [], e)
  count_put_other k v own none (e ∷ es) =
      let old = none e.0 in
      grind (
        arith,
        count_more t (k, v) (e ∷ es),
        count_more t (e.0, v) es,
        count_more t e es,
        count_more t e (put R k v es),
        old,
        count_put_other k v own none es,
      )

-- ---- keys below a prefix

module _ (p a : List ℕ) where
  not_left : (k : List ℕ) (x : Object) → begins p k ≡ false → is_left p a (k, x) ≡ false
  not_left k x h = ap (λ b. b && lt text_cmp a k) h

  put_elsewhere : (m : Objects) (k : List ℕ) (x : Object) → begins p k ≡ false
      → length (listed p false a (fin.insert m k x)) ≤ length (listed p false a m)
  put_elsewhere m k x h =
      let i : count (is_left p a) (fin.entries (fin.insert m k x)) ≤ count (is_left p a) (fin.entries m) =
      subst (λ l. count (is_left p a) l ≤ count (is_left p a) (fin.entries m)) (sym (entries-insert text_total m k x))
      (count_put_other text_cmp (is_left p a) k x (not_left k x h) (λ q e. not_left q x (ap (begins p) (sym (exact_bytes k q e)) ∙ h))
      (fin.entries m)) in
      omega (arith, i, listed_count p a m, listed_count p a (fin.insert m k x))

  copied_elsewhere : (m : Objects) (k : List ℕ) (o : Option Object) → begins p k ≡ false
      → length (listed p false a (copied m k o)) ≤ length (listed p false a m)
  copied_elsewhere m k (Some x) h = put_elsewhere m k x h
  copied_elsewhere m k None h = omega arith

  completed_elsewhere : (c : BucketContent) (k : List ℕ) (id : ℕ) (r : Result (List ℕ) Refusal) → begins p k ≡ false
      → length (listed p false a (completed c k id r).objects) ≤ length (listed p false a c.objects)
  completed_elsewhere c k id (Ok bytes) h = put_elsewhere c.objects k (record { bytes = bytes; header = None }) h
  completed_elsewhere c k id (Err r) h = omega arith

  none_new : length (listed p false a new_bucket.objects) ≡ 0
  none_new = listed_count p a fin.empty ∙ ap (count (is_left p a)) (entries_empty text_cmp)

  keys_stay : (b : List ℕ) (s : Scene) (r : Request) → PutsNone p r → keys_left b p a (apply s r) ≤ keys_left b p a s
  keys_stay b s (PutObject n k bytes header) h =
      let i = grows (λ c. length (listed p false a c.objects)) 0 none_new s (PutObject n k bytes header)
      (λ c i m. let e = put_elsewhere c.objects k (record { bytes = bytes; header = header }) (h refl k (inl refl)) in omega (arith, e))
      b in
      omega (arith, i)
  keys_stay b s (CopyObject n source k) h =
      let i = grows (λ c. length (listed p false a c.objects)) 0 none_new s (CopyObject n source k)
      (λ c i m. let e = copied_elsewhere c.objects k (fin.get c.objects source) (h refl k (inl refl)) in omega (arith, e)) b in
      omega (arith, i)
  keys_stay b s (CompleteUpload n k id parts) h =
      let i = grows (λ c. length (listed p false a c.objects)) 0 none_new s (CompleteUpload n k id parts)
      (λ c i m. let e = completed_elsewhere c k id (joined (live c.uploads k id) parts m) (h refl k (inl refl)) in omega (arith, e)) b
      in
      omega (arith, i)
  keys_stay b s r h = let i = growth.keys b p a s r in omega (arith, i)

-- ---- walks and sweeps

rising : (m n : ℕ) → m ≤ n → thousands m ≤ thousands n
rising m n h = omega arith

walk_stays : (b p : List ℕ) (keys : List (List ℕ)) (s : Scene) (r : Request) → PutsNone p r
    → walk_left b p keys (apply s r) ≤ walk_left b p keys s
walk_stays b p keys s r h = grind (arith, keys_stay, rising)

sweep_stays : (b p : List ℕ) (w : Sweep) (s : Scene) (r : Request) → PutsNone p r → sweep_left b p w (apply s r) ≤ sweep_left b p w s
sweep_stays b p (Listing keys) s r h =
    let i = keys_stay p (last_of keys) b s r h in
    let j = rising (length keys + 2 * keys_left b p (last_of keys) (apply s r)) (length keys + 2 * keys_left b p (last_of keys) s)
    (omega (arith, i)) in
    omega (arith, j)
sweep_stays b p (Deleting k ks) s r h = omega arith

-- ---- an attempt's operations

commit_stays : (w : Script) (minimum : ℕ) (a : Who) (c : TaskCommit) (s : Scene) (r : Request) → PutsNone (attempt_prefix w a) r
    → commit_left_at w minimum a c (apply s r) ≤ commit_left_at w minimum a c s
commit_stays w minimum a (commits.Looking keys) s r h = let i = walk_stays w.dest.bucket (attempt_prefix w a) keys s r h in omega (arith, i)
commit_stays w minimum a _ s r h = omega arith

after_stays : (c : Committer) (w : Script) (a : Who) (s : Scene) (r : Request) → PutsNone (attempt_prefix w a) r
    → after_left c w a (apply s r) ≤ after_left c w a s
after_stays Magic w a s r h = sweep_stays w.dest.bucket (attempt_prefix w a) sweep_start s r h
after_stays _ w a s r h = omega arith

abort_stays : (w : Script) (a : Who) (x : TaskAbort) (s : Scene) (r : Request) → PutsNone (attempt_prefix w a) r
    → abort_left_at w a x (apply s r) ≤ abort_left_at w a x s
abort_stays w a x s r h = grind (arith, after_stays, sweep_stays)

pub attempts_stay : AttemptsStay
attempts_stay = record {
  writes = λ t s r. omega arith;
  commits = λ t s r h. let i = no_more_times (commit_left t.machine (apply s r)) (commit_left t.machine s) t.retries
      (commit_stays (task_script t.machine.plan) t.machine.plan.minimum (who_of t.machine.plan) t.machine.operation s r h) in omega
      (arith, i);
  aborts = λ t s r h. let i = no_more_times (abort_left t.machine (apply s r)) (abort_left t.machine s) t.retries
      (abort_stays (task_script t.machine.plan) (who_of t.machine.plan) t.machine.operation s r h) in omega (arith, i);
}
