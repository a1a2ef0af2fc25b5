-- The requests of a job name only what is the job's own or nobody's.
use Rattle.text_and_lists.proofs.Members.{false_true, nat_false, nat_true, some_is}
use Rattle.text_and_lists.specs.Members.{IsIn}
use Rattle.job_invariant.proofs.Aborting.{taken_in}
use Rattle.job_invariant.proofs.Apart.{record_below}
use Rattle.job_invariant.proofs.Held.{nth_of, of_sets}
use Rattle.job_invariant.proofs.JobCommitting.{file_open}
use Rattle.job_invariant.proofs.Legal.{some_dest}
use Rattle.job_invariant.proofs.Owning.{own_directory}
use Rattle.job_invariant.proofs.Placed.{own_magic, path_below, set_magic}
use Rattle.job_invariant.proofs.Uploads.{asks_part, latest_in}
use Rattle.job_invariant.specs.Facts.{Facts, Hold, IsAttempt}
use Rattle.job_invariant.specs.Filed.{IsCommit}
use Rattle.job_invariant.specs.FiledLaws.{Commits}
use Rattle.job_invariant.specs.Fits.{Fits, FitsAbort, FitsCommit, FitsUpload, FitsWrite}
use Rattle.job_invariant.specs.Spares.{AllOwn, FitsSparing}
use Rattle.job_invariant.specs.Stores.{IsKnown}
use Rattle.job_invariant.specs.Told.{Told, known}
use Rattle.job_model.specs.Attempts.{Who}
use Rattle.job_model.specs.Files.{File}
use Rattle.job_model.specs.JobScript.{Script}
use Rattle.job_model.specs.Known.{Drawn}
use Rattle.job_model.specs.Legal.{IsLegal}
use Rattle.job_protocol.specs.JobCommits.{Commit, CommitOver, Completing, Fetching, Replacing, Reverting, all_commits, commit_asks}
use Rattle.job_protocol.specs.JobCommits.{is_no_magic, set_request}
use Rattle.job_protocol.specs.Lanes.{abort, completion, deletion, nth}
use Rattle.job_protocol.specs.Operations.{Operation, Setting, TheTaskAbort, TheTaskCommit, TheWrite, asks}
use Rattle.job_protocol.specs.Outputs.{files}
use Rattle.job_protocol.specs.Rechecks.{Check, check_asks}
use Rattle.job_protocol.specs.Records.{file_key}
use Rattle.job_protocol.specs.Seen.{Seen, is_magic, is_staging}
use Rattle.job_protocol.specs.Setup.{Heading, SetupOver}
use Rattle.job_protocol.specs.Sparing.{Aborting, Sparing, SparingOver, record_request, sparing_asks}
use Rattle.job_protocol.specs.TaskAborts.{Dropping, Removing, Sweeping, TaskAbort, TaskAbortOver, task_abort_asks}
use Rattle.job_protocol.specs.TaskCommits.{Checking, Publishing, Reading, Renaming, Storing, TaskCommit, TaskCommitOver, task_commit_asks}
use Rattle.job_protocol.specs.Uploading.{Creating, Sending, Uploading, upload_asks}
use Rattle.job_protocol.specs.Writes.{Marking, Recording, Write, WriteOver, write_asks}
use Rattle.list_walk.specs.Walks.{Deleting, Listing}
use Rattle.magic_paths.proofs.Tails.{begins_behind, below_is}
use Rattle.magic_paths.specs.Layout.{cluster_prefix, success_key}
use Rattle.magic_paths.specs.Places.{MarkerPlace, RecordPlace, StagedSetPlace, TemporaryPlace, is_open}
use Rattle.pending_json.specs.Pending.{Pending}
use Rattle.s3_types.specs.Pages.{begins}
use Rattle.s3_types.specs.Store.{Scene}
use Rattle.s3_types.specs.declared.request.Actor.{Actor}
use Rattle.s3_types.specs.declared.request.Committer.{Committer}
use Rattle.s3_types.specs.declared.request.Committer.TheVariants.{Magic}
use Rattle.s3_types.specs.declared.request.Request.{Request}
use Rattle.s3_types.specs.declared.request.Request.TheVariants.{AbortUpload, CreateUpload, UploadPart}
use Rattle.std.proofs.Common.{List, None, Option, Some, ap, append_assoc, arith, codes, false, inl, inr, length, nat_eq, not, refl, subst}
use Rattle.std.proofs.Common.{sym, take, true, ℕ, [], ◌++◌, ◌+◌, ◌<◌, ◌∙◌, ◌∷◌, ◌≡◌}
use Rattle.std.proofs.lemmas.Bool.{false≢true, not-true}
use Rattle.twin_facts.specs.Names.{IsOwnKey, NamesOwn, named_keys, named_paths, named_upload}
use Rattle.twin_facts.specs.Requests.{IsSentBy, SetsUpBy, by_attempt, by_check, by_clean, by_commit}
use Rattle.job_protocol.specs.Writes as writes
use Rattle.job_protocol.specs.TaskCommits as tasks
use Rattle.job_protocol.specs.Setup as setups
use Rattle.job_protocol.specs.JobCommits as commits
use Rattle.job_protocol.specs.Sparing as sparing

-- ---- keys outside the magic directories

begins_open : (q : List ℕ) → is_open q ≡ true → begins (codes "__magic/") q ≡ false
begins_open [] h = absurd (false≢true h)
begins_open (b ∷ q) h = rw (other b (not-true (nat_eq b 95) h)) refl
  where
    other : (b : ℕ) → nat_eq b 95 ≡ false → nat_eq 95 b ≡ false
    other b h = nat_false 95 b (λ e. false_true h (nat_true b 95 (sym e)))

-- A key after a destination's slash is in no magic directory unless its rest begins with `__magic/`.
behind_dest : (w : Script) (q : List ℕ) → is_no_magic w (w.dest.key ++ 47 ∷ q) ≡ not (begins (codes "__magic/") q)
behind_dest w q =
    ap (λ p. not (begins p (w.dest.key ++ 47 ∷ q))) (append_assoc w.dest.key (codes "/") (codes "__magic/"))
    ∙ ap not (begins_behind w.dest.key (codes "/__magic/") (47 ∷ q))

module _ {w : Script} (j : IsLegal w) where
  file_free : (a : Who) (f : File) → IsIn f (files w a) → is_no_magic w (file_key w f) ≡ true
  file_free a f i = ap (is_no_magic w) (below_is w.dest.key f.0 (some_dest j)) ∙ behind_dest w f.0 ∙ ap not
      (begins_open f.0 (file_open j a f i))

  success_free : is_no_magic w (success_key w.dest.key) ≡ true
  success_free = behind_dest w (codes "_SUCCESS")

  dest_free : is_no_magic w w.dest.key ≡ true
  dest_free = ap (λ p. not (begins p w.dest.key)) (append_assoc w.dest.key (codes "/") (codes "__magic/")) ∙ ap not (shorter w.dest.key)
    where
      shorter : (p : List ℕ) → begins (p ++ codes "/__magic/") p ≡ false
      shorter [] = refl
      shorter (x ∷ p) = rw (nat_true x x refl) (shorter p)

-- ---- requests by what they name

module _ {w : Script} {drawn : Who → List Drawn} where
  names_keys : (r : Request) (ks : List (List ℕ)) → named_keys r ≡ ks → named_upload r ≡ None → named_paths r ≡ []
      → ((k : List ℕ) → IsIn k ks → IsOwnKey w k) → NamesOwn w drawn r
  names_keys r ks h g e f = grind arith

  names_nothing : (r : Request) → named_keys r ≡ [] → named_upload r ≡ None → named_paths r ≡ [] → NamesOwn w drawn r
  names_nothing r a b c = names_keys r [] a b c (λ k i. absurd i)

  names_key : (r : Request) (q : List ℕ) → named_keys r ≡ q ∷ [] → named_upload r ≡ None → named_paths r ≡ [] → IsOwnKey w q
      → NamesOwn w drawn r
  names_key r q a b c h = names_keys r (q ∷ []) a b c (λ k i. elim i [ inl is ↦ subst (IsOwnKey w) (sym is) h | inr none ↦ absurd none ])

  names_upload : (r : Request) (q : List ℕ) (u : ℕ) → named_keys r ≡ q ∷ [] → named_upload r ≡ Some u → named_paths r ≡ []
      → is_no_magic w q ≡ true → IsKnown drawn u → NamesOwn w drawn r
  names_upload r q u h g e f p = grind arith

  names_paths : (r : Request) (ps : List (List ℕ)) → named_keys r ≡ [] → named_upload r ≡ None → named_paths r ≡ ps
      → ((p : List ℕ) → IsIn p ps → begins (cluster_prefix w.job) p ≡ true) → NamesOwn w drawn r
  names_paths r ps h g e f = grind arith

  names_path : (r : Request) (q : List ℕ) → named_keys r ≡ [] → named_upload r ≡ None → named_paths r ≡ q ∷ []
      → begins (cluster_prefix w.job) q ≡ true → NamesOwn w drawn r
  names_path r q a b c h = names_paths r (q ∷ []) a b c (λ p i. elim i
      [ inl is ↦ ap (begins (cluster_prefix w.job)) is ∙ h | inr none ↦ absurd none ])

-- ---- attempts

module _ {w : Script} (j : IsLegal w) (minimum : ℕ) (m : Told) where
  abbrev Own : Request → Type 0
  Own r = NamesOwn w m.drawn r

  module _ (a : Who) (d : IsAttempt w a) where
    abbrev asked : {r q : Request} → Some q ≡ Some r → Own q → Own r
    asked e h = subst Own (some_is e) h

    upload_own : (f : File) (fs : List File) (u : Uploading) → FitsUpload w minimum a (known m a) f fs u
        → Own (upload_asks w (known m a) f u)
    upload_own f fs Creating h = names_key (CreateUpload w.dest.bucket (file_key w f)) (file_key w f) refl refl refl
        (inl (file_free j a f (h.each f (inl refl))))
    upload_own f fs (Sending p ps) b =
        subst Own (sym (asks_part w minimum a b))
        (names_upload (UploadPart w.dest.bucket (file_key w f) b.latest.upload (length b.latest.tags + 1) p) (file_key w f) b.latest.upload
        refl refl refl (file_free j a f (b.each f (inl refl))) (a, b.latest, latest_in w minimum a b, refl))

    write_own : (t : Write) → FitsWrite w minimum a (known m a) t → (r : Request) → write_asks w a (known m a) t ≡ Some r → Own r
    write_own (writes.Uploads f fs u) h r e = asked e (upload_own f fs u h.2)
    write_own (Marking f fs) h r e = asked e (names_key _ _ refl refl refl (inr
        (own_magic j h.0 (MarkerPlace a.task a.attempt f.0) (f, h.2.each f (inl refl), refl))))
    write_own (Recording f fs) h r e = asked e (names_key _ _ refl refl refl (inr
        (own_magic j h.0 (RecordPlace a.task a.attempt f.0) (f, h.2.each f (inl refl), refl))))
    write_own (WriteOver end) h r e = absurd cc

    commit_own : (t : TaskCommit) → FitsCommit w minimum a (known m a) t → (r : Request) → task_commit_asks w a (known m a) t ≡ Some r
        → Own r
    commit_own (Reading cs f fs) h r e = asked e (names_key _ _ refl refl refl (inr (record_below j a f)))
    commit_own (Publishing cs) h r e = asked e (names_key _ _ refl refl refl (inr (set_magic j a.task d.task)))
    commit_own (tasks.Uploads f fs u) h r e = asked e (upload_own f fs u h.2)
    commit_own Storing h r e = asked e (names_path _ _ refl refl refl (path_below w (TemporaryPlace a.task a.attempt)))
    commit_own Renaming h r e = asked e (names_paths _ _ refl refl refl (λ p i. elim i [
      | inl is ↦ ap (begins (cluster_prefix w.job)) is ∙ path_below w (TemporaryPlace a.task a.attempt)
      | inr more ↦ elim more [
        | inl is ↦ ap (begins (cluster_prefix w.job)) is ∙ path_below w (StagedSetPlace a.task)
        | inr none ↦ absurd none
      ]
    ]))
    commit_own (TaskCommitOver end) h r e = absurd cc
    commit_own _ h r e = asked e (names_nothing _ refl refl refl)

    abort_own : {s : Scene} {last : ℕ → Option ℕ} → Facts w minimum s last m → (t : TaskAbort) → FitsAbort w a (known m a) t → (r : Request)
        → task_abort_asks w a t ≡ Some r → Own r
    abort_own f (Dropping x xs sent) h r e =
        let o = f.owned a x (h.1 x (inl refl)) in
        asked e (names_upload (AbortUpload w.dest.bucket x.key x.upload) x.key x.upload refl refl refl
        (ap (is_no_magic w) o.key ∙ file_free j a o.file o.mine) (a, x, h.1 x (inl refl), refl))
    abort_own f (Sweeping (Listing keys)) h r e = asked e (names_nothing _ refl refl refl)
    abort_own f (Sweeping (Deleting q qs)) h r e = asked e (names_keys _ (take 1000 (q ∷ qs)) refl refl refl
        (λ k i. inr (own_directory w a k (h.1 k (taken_in 1000 (q ∷ qs) k i)))))
    abort_own f Removing h r e = asked e (names_path _ _ refl refl refl (path_below w (TemporaryPlace a.task a.attempt)))
    abort_own f (TaskAbortOver end) h r e = absurd cc

  -- ---- the driver

  one_commit : (p : Pending) (s : Scene) → IsCommit w minimum m.publish_sent m.drawn p → (is_no_magic w p.destination ≡ true)
      × IsKnown m.drawn p.upload
  one_commit p s x = (
    ap (λ (v : Pending). is_no_magic w v.destination) x.is ∙ file_free j x.by x.file x.mine,
    (x.by, x.written.drawn, x.written.known, sym (ap (λ (v : Pending). v.upload) x.is)),
  )

  read_own : (c : Committer) (t : ℕ) → t < w.tasks → Own (set_request c w t)
  read_own Magic t low = names_key _ _ refl refl refl (inr (set_magic j t low))
  read_own _ t low = names_path _ _ refl refl refl (path_below w (StagedSetPlace t))

  job_commit_own : (s : Seen) (c : Commit) → Commits w minimum s m c → (r : Request) → commit_asks w c ≡ Some r → Own r
  job_commit_own s (Fetching sets n) h r e = subst Own (some_is e) (read_own w.committer (length sets) h.fits.0)
  job_commit_own s (Replacing sets p ps (Listing keys) n) h r e = subst Own (some_is e) (names_nothing _ refl refl refl)
  job_commit_own s (Replacing sets p ps (Deleting q qs) n) h r e =
      subst Own (some_is e) (names_keys _ (take 1000 (q ∷ qs)) refl refl refl (λ k i. inl (h.fits.2 k (taken_in 1000 (q ∷ qs) k i)).0))
  job_commit_own s (Completing sets y ys finished) h r e =
      let p = nth (all_commits sets) y.number in
      let o = one_commit p s.scene (of_sets j h.hold sets h.fits p (nth_of (all_commits sets) y.number
      (h.tabled.within y (inl refl)))).1.commit in
      subst Own (some_is e) (names_upload (completion p) p.destination p.upload refl refl refl o.0 o.1)
  job_commit_own s (commits.Marking sets n) h r e = subst Own (some_is e) (names_key _ _ refl refl refl (inl (success_free j)))
  job_commit_own s (Reverting q qs n) h r e =
      let y = h.decides q (inl refl) in
      let o = one_commit y.0 s.scene y.1 in
      subst Own (some_is e) (elim y.2 [
        | inl is ↦ subst Own (sym is) (names_upload (abort y.0) y.0.destination y.0.upload refl refl refl o.0 o.1)
        | inr is ↦ subst Own (sym is) (names_key (deletion y.0) y.0.destination refl refl refl (inl o.0))
      ])
  job_commit_own s (CommitOver end) h r e = absurd cc

  check_own : (c : Check) (r : Request) → check_asks w c ≡ Some r → Own r
  check_own c r h = grind arith

  record_own : (c : Committer) → w.committer ≡ c → (p : List ℕ) (ps : List (List ℕ)) → AllOwn w (p ∷ ps) → Own (record_request c w p)
  record_own Magic is p ps h = names_key _ _ refl refl refl (inr (h.keys (ap is_magic is) p (inl refl)))
  record_own _ is p ps h = names_path _ _ refl refl refl (h.paths (ap is_staging is) p (inl refl))

  sparing_own : {s : Scene} {last : ℕ → Option ℕ} → Facts w minimum s last m → (c : Sparing) → FitsSparing w m.drawn c → (r : Request)
      → sparing_asks w c ≡ Some r → Own r
  sparing_own f (sparing.Reading named p ps all) h r e = subst Own (some_is e) (record_own w.committer refl p ps h.1)
  sparing_own f (Aborting u us all) h r e =
      let x = h.0 u (inl refl) in
      let o = f.owned x.0 x.1 x.2 in
      subst Own (some_is e) (names_upload (AbortUpload w.dest.bucket u.key u.upload) u.key u.upload refl refl refl
      (ap (is_no_magic w) (sym x.4 ∙ o.key) ∙ file_free j x.0 o.file o.mine) (x.0, x.1, x.2, x.3))
  sparing_own f (sparing.Deleting k ks) h r e = subst Own (some_is e) (names_keys _ (take 1000 (k ∷ ks)) refl refl refl
      (λ q i. inr (h q (taken_in 1000 (k ∷ ks) q i))))
  sparing_own f (sparing.Removing p ps) h r e = subst Own (some_is e) (names_path _ _ refl refl refl (h p (inl refl)))
  sparing_own f (SparingOver end) h r e = absurd cc
  sparing_own f _ h r e = subst Own (some_is e) (names_nothing _ refl refl refl)

-- ---- all together

module _ (g : Setting) (j : IsLegal g.script) (s : Seen) (m : Told) (h : Hold g.script g.minimum s m) where
  operation_own : (a : Who) → IsAttempt g.script a → (op : Operation) → Fits g.script g.minimum a m op → (r : Request)
      → asks g a (known m a) op ≡ Some r → NamesOwn g.script m.drawn r
  operation_own a d (TheWrite t) fits r e = write_own j g.minimum m a d t.operation fits.1 r e
  operation_own a d (TheTaskCommit t) fits r e = commit_own j g.minimum m a d t.operation fits.1 r e
  operation_own a d (TheTaskAbort t) fits r e = abort_own j g.minimum m a d h t.operation fits r e
  operation_own a d _ fits r e = absurd fits

pub sends_own : (g : Setting) → IsLegal g.script → (s : Seen) (m : Told) → Hold g.script g.minimum s m → (a : Actor) (r : Request)
    → IsSentBy g s m a r → NamesOwn g.script m.drawn r
sends_own g j s m h _ _ (by_attempt a op r d fits e) = operation_own g j s m h a d op fits r e
sends_own g j s m h _ _ (by_commit c r x e) = job_commit_own j g.minimum m s c x r e
sends_own g j s m h _ _ (by_check c r e) = check_own j g.minimum m c r e
sends_own g j s m h _ _ (by_clean c r fits e) = sparing_own j g.minimum m h c fits r e

pub setup_own : (g : Setting) → IsLegal g.script → (s : Seen) (drawn : Who → List Drawn) (r : Request) → SetsUpBy g s r
    → NamesOwn g.script drawn r
setup_own g j s drawn r (Heading, h, e) = subst (NamesOwn g.script drawn) (some_is e) (names_key _ _ refl refl refl (inl (dest_free j)))
setup_own g j s drawn r (setups.Checking keys, h, e) = subst (NamesOwn g.script drawn) (some_is e) (names_nothing _ refl refl refl)
setup_own g j s drawn r (setups.Clearing, h, e) = subst (NamesOwn g.script drawn) (some_is e)
    (names_key _ _ refl refl refl (inl (success_free j)))
setup_own g j s drawn r (setups.Sweeping (Listing keys), h, e) = subst (NamesOwn g.script drawn) (some_is e)
    (names_nothing _ refl refl refl)
setup_own g j s drawn r (setups.Sweeping (Deleting q qs), h, e) =
    subst (NamesOwn g.script drawn) (some_is e) (names_keys _ (take 1000 (q ∷ qs)) refl refl refl
    (λ k i. inr (h.1 k (taken_in 1000 (q ∷ qs) k i))))
setup_own g j s drawn r (SetupOver end, h, e) = absurd cc
