-- The driver's commit keeps the facts with each of its requests, keeps the sets as it has read them, and its state fits afterwards.
use Rattle.text_and_lists.proofs.Members.{eq_nat, false_true, in_append, in_filter, in_map, nat_true, none_some, some_is, true_or_false}
use Rattle.text_and_lists.specs.Members.{IsIn}
use Rattle.job_invariant.proofs.Aborting.{dropped_in, taken_in}
use Rattle.job_invariant.proofs.Driving.{reads_drive}
use Rattle.job_invariant.proofs.Foreign.{set_reads}
use Rattle.job_invariant.proofs.Held.{Course, completing_so, fetched_so, missed, revert_so, swept_so, tells_so, worn}
use Rattle.job_invariant.proofs.Legal.{from_script, given_of, some_dest}
use Rattle.job_invariant.proofs.Replies.{set_answered}
use Rattle.job_invariant.proofs.Shapes.{more_keys, page_each, page_is}
use Rattle.job_invariant.proofs.Shows.{begins_front}
use Rattle.job_invariant.specs.Driver.{AllDriving, AllUnder, FitsJobCommit, FitsReplace, IsHeldSet, Reads}
use Rattle.job_invariant.specs.Facts.{Hold, knowing}
use Rattle.job_invariant.specs.Foreign.{IsDriving}
use Rattle.job_invariant.specs.Told.{Told}
use Rattle.job_model.specs.Attempts.{Who}
use Rattle.job_model.specs.Files.{File}
use Rattle.job_model.specs.JobScript.{Script}
use Rattle.job_model.specs.Known.{Drawn}
use Rattle.job_model.specs.Legal.{IsGiven, IsLegal}
use Rattle.job_model.specs.Placed.{path_of}
use Rattle.job_model.specs.Plans.{IsPlaced}
use Rattle.job_model.specs.declared.displaced.Displaced.{Displaced}
use Rattle.job_model.specs.declared.displaced.Displaced.TheVariants.{Everything, Nothing, Partitions}
use Rattle.job_protocol.proofs.PathBounds.{placed_open}
use Rattle.job_protocol.specs.Conflicts.{displaced, emptied, partitions}
use Rattle.job_protocol.specs.JobCommits.{Commit, CommitOver, Completing, Fetching, Marking, Replacing, Reverting, Sets, all_commits}
use Rattle.job_protocol.specs.JobCommits.{commit_asks, commit_hears, commit_tells, is_no_magic, replaced, reverting, set_read, set_request}
use Rattle.job_protocol.specs.Knowledge.{drawn_for}
use Rattle.job_protocol.specs.Lanes.{Turn, abort, again, completion, deletion, follow, nth, revert}
use Rattle.job_protocol.specs.Outputs.{Picks, files, wanted_paths}
use Rattle.job_protocol.specs.Records.{file_key, file_record}
use Rattle.job_protocol.specs.Seen.{Seen, Times}
use Rattle.job_protocol.specs.Setup.{dest_prefix}
use Rattle.job_protocol.specs.TaskCommits.{partition_prefix}
use Rattle.list_walk.specs.Walks.{Deleting, Listing, Sweep, deleting, page_after, sweep_asks, sweep_hears, walked_by}
use Rattle.magic_paths.proofs.Tails.{begins_behind, below_is as paths_below, key_magic}
use Rattle.magic_paths.specs.Layout.{magic_prefix}
use Rattle.magic_paths.specs.Places.{FilePlace, SuccessPlace, is_open}
use Rattle.path_keys.specs.Paths.{below}
use Rattle.pending_json.specs.Pending.{Pending}
use Rattle.pending_json.specs.declared.records.PendingSet.{PendingSet}
use Rattle.s3_types.specs.Answer.{answer}
use Rattle.s3_types.specs.Moment.{IsHonestOutcome}
use Rattle.s3_types.specs.Names.{is_bucket}
use Rattle.s3_types.specs.Pages.{begins}
use Rattle.s3_types.specs.Store.{Scene}
use Rattle.s3_types.specs.declared.journal.Outcome.{Outcome}
use Rattle.s3_types.specs.declared.reply.Reply.{Reply}
use Rattle.s3_types.specs.declared.request.Committer.{Committer}
use Rattle.s3_types.specs.declared.request.Mode.{Mode}
use Rattle.s3_types.specs.declared.request.Request.{Request}
use Rattle.std.proofs.Common.{Bool, List, None, Option, Some, ap, append_assoc, arith, codes, drop, false, inl, inr, length, map, nat_eq}
use Rattle.std.proofs.Common.{refl, slice_get, subst, suc, sym, true, zero, ℕ, [], ◌++◌, ◌<◌, ◌^◌, ◌∙◌, ◌∷◌, ◌≡◌, ◌≤◌, ◌⊎◌}
use Rattle.std.proofs.lemmas.Bool.{and_parts, false≢true, not-true}
use Rattle.std.specs.List.{filter}
use Rattle.store_frame.specs.Held.{HasBucket}
use Rattle.list_walk.specs.Walks as walks

-- ---- the uploads that are completed are those of files

-- If the upload is in the job's bucket, its key is not below the magic directory.
abbrev Sound : Script → Pending → Type 0
Sound w p = p.bucket ≡ w.dest.bucket → begins (magic_prefix w.dest.key w.job) p.destination ≡ false

-- The keys that a replace mode deletes, if it goes on.
abbrev FitsOption : Script → Option Sweep → Type 0
FitsOption w None = Unit {0}
FitsOption w (Some s) = FitsReplace w s

fits_deleting : (w : Script) (keys : List (List ℕ))
    → ((k : List ℕ) → IsIn k keys → (is_no_magic w k ≡ true) × (begins (dest_prefix w) k ≡ true)) → FitsOption w (deleting keys)
fits_deleting w keys h = grind arith

fits_listed : (w : Script) (more : Bool) (keys : List (List ℕ)) → AllUnder (dest_prefix w) keys
    → FitsOption w (walks.swept (is_no_magic w) (walked_by more keys))
fits_listed w true keys all = all
fits_listed w false keys all = fits_deleting w (filter (is_no_magic w) keys) (λ k i. let f = in_filter (is_no_magic w) k keys i in
    (f.1, all k f.0))

-- A text that begins with a longer text begins with the shorter one.
pub begins_through : (a b q : List ℕ) → begins a b ≡ true → begins b q ≡ true → begins a q ≡ true
begins_through [] b q h g = refl
begins_through (x ∷ a) [] q h g = absurd (false≢true h)
begins_through (x ∷ a) (y ∷ b) [] h g = absurd (false≢true g)
begins_through (x ∷ a) (y ∷ b) (z ∷ q) h g =
    let p = and_parts (nat_eq x y) (begins a b) h in
    let o = and_parts (nat_eq y z) (begins b q) g in
    rw (nat_true x z (eq_nat x y p.0 ∙ eq_nat y z o.0), begins_through a b q p.1 o.1) refl

module _ (w : Script) (s : Scene) (there : HasBucket s.content w.dest.bucket) where
  -- After an answer to a listing below a prefix of the destination, or to a batch.
  pub fits_heard : (p : List ℕ) → begins (dest_prefix w) p ≡ true → (t : Sweep) → FitsReplace w t → (x : Reply)
      → x ≡ answer s (sweep_asks w.dest.bucket p t) → FitsOption w (sweep_hears (is_no_magic w) t x)
  fits_heard p under (Listing keys) h x e =
      subst (λ y. FitsOption w (walks.swept (is_no_magic w) y)) (sym (page_is w s there p keys x e))
      (fits_listed w _ (more_keys w s there p keys) (page_each w s there p keys (λ k. begins (dest_prefix w) k ≡ true)
      (λ k b. begins_through (dest_prefix w) p k under b) h))
  fits_heard p under (Deleting q qs) h x e = fits_deleting w (drop 1000 (q ∷ qs)) (λ k i. h k (dropped_in 1000 (q ∷ qs) k i))

-- A key that is not below the destination's magic directory is not below the job's.
pub no_magic : (w : Script) (k : List ℕ) → is_no_magic w k ≡ true → begins (magic_prefix w.dest.key w.job) k ≡ false
no_magic w k h = elim (true_or_false (begins (magic_prefix w.dest.key w.job) k)) [
  | inr no_so ↦ no_so
  | inl yes_so ↦
      let whole : magic_prefix w.dest.key w.job ≡ (dest_prefix w ++ codes "__magic/") ++ (codes "job-" ++ (w.job ++ codes "/")) =
      sym (append_assoc (dest_prefix w) (codes "__magic/") (codes "job-" ++ (w.job ++ codes "/")) ∙ append_assoc w.dest.key (codes "/")
      (codes "__magic/" ++ (codes "job-" ++ (w.job ++ codes "/")))) in
      absurd (false_true (not-true (begins (dest_prefix w ++ codes "__magic/") k) h)
      (begins_front (dest_prefix w ++ codes "__magic/") (codes "job-" ++ (w.job ++ codes "/")) k
      (ap (λ p. begins p k) (sym whole) ∙ yes_so)))
]

begins_self : (p : List ℕ) → begins p p ≡ true
begins_self [] = refl
begins_self (x ∷ p) = rw (nat_true x x refl, begins_self p) refl

-- A key below the destination begins with the destination's prefix.
pub dest_below : {w : Script} → IsLegal w → (q : List ℕ) → begins (dest_prefix w) (below w.dest.key q) ≡ true
dest_below {w = w} j q = ap (begins (dest_prefix w)) (paths_below w.dest.key q (some_dest j)) ∙ begins_behind w.dest.key (codes "/")
    (47 ∷ q)

-- The prefixes that are emptied are below the destination.
prefixes_under : {w : Script} → IsLegal w → (d : Displaced) (picks : Picks)
    → AllUnder (dest_prefix w) (emptied d w.dest (partitions (wanted_paths w picks)))
prefixes_under j Nothing picks = λ q i. absurd i
prefixes_under {w = w} j Everything picks = λ q i. elim i [
  | inl is ↦ ap (begins (dest_prefix w)) is ∙ begins_self (dest_prefix w)
  | inr none
      ↦ absurd none
]
prefixes_under {w = w} j Partitions picks = λ q i. let o = in_map (partition_prefix w) q (partitions (wanted_paths w picks)) i in ap
    (begins (dest_prefix w)) o.2 ∙ dest_below j (o.0 ++ codes "/")

-- A replace mode deletes below such prefixes.
pub replaced_under : {w : Script} → IsLegal w → (c : Committer) (m : Mode) (picks : Picks) → AllUnder (dest_prefix w) (replaced c m w picks)
replaced_under j c m picks = prefixes_under j (displaced c m) picks

module _ {w : Script} (j : IsLegal w) where
  pub file_open : (a : Who) (f : File) → IsIn f (files w a) → is_open f.0 ≡ true
  file_open a f i =
      let g = from_script w a f i in
      let e : f.0 ≡ path_of w.unique w.job g.given.0 = ap (λ (x : File). x.0) g.is in
      ap is_open e ∙ placed_open w.job (path_of w.unique w.job g.given.0) (placed w.unique g.given.0 (given_of j a f i))
    where
      placed : (u : Bool) (p : List ℕ) → IsGiven p → IsPlaced w.job (path_of u w.job p)
      placed true p g = inr (p, g, refl)
      placed false p g = inl g

  nth_sound : (ps : List Pending) → ((p : Pending) → IsIn p ps → Sound w p) → (n : ℕ) → Sound w (nth ps n)
  nth_sound [] h n = λ e. absurd (false≢true (ap is_bucket e ∙ j.dest.bucket))
  nth_sound (p ∷ ps) h zero = h p (inl refl)
  nth_sound (p ∷ ps) h (suc n) = nth_sound ps (λ q i. h q (inr i)) n

  completion_drives : (p : Pending) → Sound w p → IsDriving w (completion p)
  completion_drives p h = record {
    keys = λ e k i. elim i [
      | inl is ↦ ap (begins (magic_prefix w.dest.key w.job)) is ∙ h e
      | inr none ↦
          absurd none
    ];
    uploads = λ id e. nat_true id p.upload (sym (some_is e));
    paths = λ q i. absurd i;
  }

  abort_drives : (p : Pending) → IsDriving w (abort p)
  abort_drives p = record { keys = λ e k i. absurd i; uploads = λ id e. nat_true id p.upload (sym (some_is e)); paths = λ q i. absurd i }

  deletion_drives : (p : Pending) → Sound w p → IsDriving w (deletion p)
  deletion_drives p h = record {
    keys = λ e k i. elim i [
      | inl is ↦ ap (begins (magic_prefix w.dest.key w.job)) is ∙ h e
      | inr none ↦ absurd
          none
    ];
    uploads = λ id e. absurd (none_some refl e);
    paths = λ q i. absurd i;
  }

  -- ---- the revert

  all_drive : (rs : List Request) → ((r : Request) → IsIn r rs → IsDriving w r) → AllDriving w rs
  all_drive [] h = tt
  all_drive (r ∷ rs) h = (h r (inl refl), all_drive rs (λ q i. h q (inr i)))

  revert_drives : (ps : List Pending) → ((p : Pending) → IsIn p ps → Sound w p) → (worn : ℕ) (xs : List Turn) (finished : List ℕ)
      → AllDriving w (revert ps worn xs finished)
  revert_drives ps h worn xs finished = all_drive (revert ps worn xs finished) (λ r i.
      let o = revert_so (Sound w) ps worn xs finished h (nth_sound ps h worn) (λ n k. nth_sound ps h n) r i in
      elim o.2 [
        | inl is ↦ subst (IsDriving w) (sym is) (abort_drives o.0)
        | inr is ↦ subst (IsDriving w) (sym is) (deletion_drives o.0 o.1)
      ])

  -- ---- the sets that the driver has read

  pub in_sets : (sets : Sets) (p : Pending) → IsIn p (all_commits sets) → (t : ℕ)
      × ((s : PendingSet) × (slice_get sets t ≡ Some s) × IsIn p s.commits)
  in_sets [] p i = absurd i
  in_sets (s ∷ sets) p i = elim (in_append p s.commits (all_commits sets) i) [
    | inl here ↦ (zero, (s, refl, here))
    | inr more ↦ let old = in_sets sets p more in (suc old.0, old.1)
  ]

  module _ (minimum : ℕ) (sent : Who → Bool) (drawn : Who → List Drawn) where
    all_sound : (sets : Sets) → Reads w minimum sent drawn sets → (p : Pending) → IsIn p (all_commits sets) → Sound w p
    all_sound sets h p i =
        let o = in_sets sets p i in
        let x = h o.0 o.1.0 o.1.1 in
        let at : IsIn p (map (λ f. file_record w x.by f (drawn_for (knowing (drawn x.by)) (file_key w f))) x.commits) = subst
        (λ (s : PendingSet). IsIn p s.commits) x.is o.1.2 in
        let g = in_map (λ f. file_record w x.by f (drawn_for (knowing (drawn x.by)) (file_key w f))) p x.commits at in
        let place : begins (magic_prefix w.dest.key w.job) (file_key w g.0) ≡ false = key_magic w.dest.key w.job (FilePlace g.0.0)
        (some_dest j) (file_open x.by g.0 (x.are.each g.0 g.1)) in
        λ e. ap (λ (q : Pending). begins (magic_prefix w.dest.key w.job) q.destination) g.2 ∙ place

    pub one_more_set : (sets : Sets) (s : PendingSet) → Reads w minimum sent drawn sets → IsHeldSet w minimum sent drawn (length sets) s
        → Reads w minimum sent drawn (sets ++ s ∷ [])
    one_more_set sets s h g t x e = elim (last_set sets s t x e) [
      | inl old ↦ h t x old
      | inr new ↦ subst
          (λ (y : PendingSet). IsHeldSet w minimum sent drawn t y) new.1 (subst (λ n. IsHeldSet w minimum sent drawn n s) (sym new.0) g)
    ]
      where
        last_set : (sets : Sets) (s : PendingSet) (t : ℕ) (x : PendingSet) → slice_get (sets ++ s ∷ []) t ≡ Some x
            → (slice_get sets t ≡ Some x) ⊎ ((t ≡ length sets) × (s ≡ x))
        last_set [] s zero x e = inr (refl, some_is e)
        last_set [] s (suc t) x e = absurd (none_some refl e)
        last_set (y ∷ sets) s zero x e = inl e
        last_set (y ∷ sets) s (suc t) x e = elim (last_set sets s t x e) [ inl h ↦ inl h | inr h ↦ inr (ap (λ n. suc n) h.0, h.1) ]

    -- ---- what follows

    abbrev FitsNow : Commit → Type 0
    FitsNow c = FitsJobCommit w minimum sent drawn c

    pub fits_course : Course w FitsNow (λ sets. Reads w minimum sent drawn sets)
        (λ sets ps. Reads w minimum sent drawn sets × AllUnder (dest_prefix w) ps)
    fits_course = grind (arith, replaced_under, completing_so)

    fits_reverting : (rs : List Request) → AllDriving w rs → FitsNow (reverting rs)
    fits_reverting rs h = grind arith

    -- A send without an answer.
    fits_again : (c : Commit) (lost : Bool) → FitsNow c → FitsNow (missed c lost)
    fits_again (Completing sets x xs finished) lost h = completing_so FitsNow sets (xs ++ again x lost ∷ []) finished h (λ y ys. h)
    fits_again _ lost h = h

    fits_worn : (c : Commit) → FitsNow c → FitsNow (worn c)
    fits_worn (Completing sets x xs finished) h = fits_reverting (revert (all_commits sets) x.number xs finished)
        (revert_drives (all_commits sets) (all_sound sets h) x.number xs finished)
    fits_worn (Reverting q qs n) h = fits_reverting qs h.1
    fits_worn _ h = tt

-- ---- the request, and what follows

module _ (w : Script) (minimum : ℕ) (k : Times) (s : Seen) (m : Told) (n : ℕ) (j : IsLegal w) (h : Hold w minimum s m) where
  abbrev Fits : Commit → Type 0
  Fits c = FitsJobCommit w minimum m.publish_sent m.drawn c

  sweep_drives : (p : List ℕ) (x : Sweep) → FitsReplace w x → IsDriving w (sweep_asks w.dest.bucket p x)
  sweep_drives p (Listing keys) f = reads_drive w (page_after w.dest.bucket p keys) refl
  sweep_drives p (Deleting q qs) f = record {
    keys = λ e x i. no_magic w x (f x (taken_in 1000 (q ∷ qs) x i)).0;
    uploads = λ id e. absurd
        (none_some refl e);
    paths = λ y i. absurd i;
  }

  -- Each of its requests changes uploads only by ending them, and changes nothing else of the job's own.
  pub commit_drives : (c : Commit) → Fits c → (r : Request) → commit_asks w c ≡ Some r → IsDriving w r
  commit_drives (Fetching sets x) f r e = subst (IsDriving w) (some_is e) (reads_drive w (set_request w.committer w (length sets))
      (set_reads w.committer w (length sets)))
  commit_drives (Replacing sets p ps x y) f r e = subst (IsDriving w) (some_is e) (sweep_drives p x f.2)
  commit_drives (Completing sets x xs finished) f r e = subst (IsDriving w) (some_is e)
      (completion_drives j (nth (all_commits sets) x.number) (nth_sound j (all_commits sets)
      (all_sound j minimum m.publish_sent m.drawn sets f) x.number))
  commit_drives (Marking sets x) f r e =
      subst (IsDriving w) (some_is e) (record {
        keys = λ b y i. elim i [
          | inl is ↦ ap (begins (magic_prefix w.dest.key w.job)) is ∙ key_magic
              w.dest.key w.job SuccessPlace (some_dest j) tt
          | inr none ↦ absurd none
        ];
        uploads = λ id z. absurd (none_some refl z);
        paths = λ
            y i. absurd i;
      })
  commit_drives (Reverting q qs x) f r e = subst (IsDriving w) (some_is e) f.0
  commit_drives (CommitOver end) f r e = absurd cc

  -- A set that was read.
  held_one : (sets : Sets) → length sets < w.tasks → s.scene.content.next ≤ 2 ^ 64 → (x : Reply)
      → x ≡ answer s.scene (set_request w.committer w (length sets)) → (h : PendingSet) → set_read x ≡ Some h
      → IsHeldSet w minimum m.publish_sent m.drawn (length sets) h
  held_one sets low few x e v is = elim (set_answered j h few (length sets) low) [
    | inl none ↦ elim none [
      | inl key ↦ absurd (none_some (ap set_read (e ∙ key)) is)
      | inr file ↦ absurd (none_some (ap set_read (e ∙ file)) is)
    ]
    | inr there ↦
        let o = there.set in
        record {
          by = o.by;
          task = o.task;
          number = o.number;
          has_sent = o.has_sent;
          commits = o.commits;
          are = o.are;
          is = some_is
              (sym is ∙ ap set_read e ∙ there.is_read);
        }
  ]

  fits_answered : (c : Commit) → Fits c → s.scene.content.next ≤ 2 ^ 64 → (r : Request) → commit_asks w c ≡ Some r → (x : Reply)
      → x ≡ answer s.scene r → Fits (commit_hears w c x)
  fits_answered (Fetching sets y) f few r e x honest =
      fetched_so (fits_course j minimum m.publish_sent m.drawn) sets (set_read x) f.0 f.1
      (λ v is. one_more_set j minimum m.publish_sent m.drawn sets v f.1 (held_one sets f.0 few x
      (honest ∙ ap (answer s.scene) (sym (some_is e))) v is))
  fits_answered (Replacing sets p ps y z) f few r e x honest =
      swept_so (fits_course j minimum m.publish_sent m.drawn) sets p ps (sweep_hears (is_no_magic w) y x) (f.0, λ q i. f.1 q (inr i))
      (λ t is. (
        f.0,
        f.1,
        subst (FitsOption w) is (fits_heard w s.scene h.there p (f.1 p (inl refl)) y f.2 x
            (honest ∙ ap (answer s.scene) (sym (some_is e)))),
      ))
  fits_answered (Completing sets y ys finished) f few r e x honest =
      completing_so Fits sets (ys ++ follow w.lanes (length (all_commits sets)) y.number) (y.number ∷ finished) f (λ z zs. f)
  fits_answered (Reverting q qs y) f few r e x honest = fits_reverting j minimum m.publish_sent m.drawn qs f.1
  fits_answered _ f few r e x honest = tt

  -- It keeps the sets as it has read them, and its state fits.
  pub commit_fits : (c : Commit) → Fits c → s.scene.content.next ≤ 2 ^ 64 → (r : Request) → commit_asks w c ≡ Some r → (o : Outcome)
      → IsHonestOutcome o (answer s.scene r) → Fits (commit_tells w c o)
  commit_fits c f few r e o honest =
      tells_so w Fits c o (λ x is. fits_answered c f few r e x (subst (λ v. IsHonestOutcome v (answer s.scene r)) is honest))
      (λ lost. fits_again j minimum m.publish_sent m.drawn c lost f) (fits_worn j minimum m.publish_sent m.drawn c f)
