-- The picks that the journal shows are those of the sets that the driver has read, as its commit goes on.
use Rattle.text_and_lists.proofs.Members.{false_true, in_map, map_in, true_or_false}
use Rattle.text_and_lists.specs.Members.{IsIn}
use Rattle.job_invariant.proofs.Held.{Course, completing_so, fetching_so, missed, of_sets, revert_each, swept_so, task_low, tells_so, worn}
use Rattle.job_invariant.proofs.JobCommitting.{dest_below}
use Rattle.job_invariant.proofs.Legal.{some_dest}
use Rattle.job_invariant.proofs.Wanted.{still_apart, wanted_here}
use Rattle.job_invariant.proofs.Whose.{attempt}
use Rattle.job_invariant.specs.Driver.{FitsJobCommit, Reads}
use Rattle.job_invariant.specs.Facts.{Facts}
use Rattle.job_invariant.specs.Filed.{AreDecided, Decides}
use Rattle.job_invariant.specs.Told.{Told}
use Rattle.job_model.specs.JobScript.{Script}
use Rattle.job_model.specs.Legal.{IsLegal}
use Rattle.job_model.specs.declared.displaced.Displaced.{Displaced}
use Rattle.job_model.specs.declared.displaced.Displaced.TheVariants.{Everything, Nothing, Partitions}
use Rattle.job_protocol.proofs.Shared.{shared_found}
use Rattle.job_protocol.specs.Conflicts.{displaced, emptied, is_below_any, keeps_of, partitions, stays}
use Rattle.job_protocol.specs.JobCommits.{Commit, CommitOver, Completing, Fetching, Marking, Replacing, Reverting, Sets, all_commits}
use Rattle.job_protocol.specs.JobCommits.{commit_hears, commit_start, commit_tells, fetching, is_no_magic, is_untouched, picks_of, replaced}
use Rattle.job_protocol.specs.JobCommits.{reverting}
use Rattle.job_protocol.specs.LaneTable.{Tabled}
use Rattle.job_protocol.specs.Lanes.{again, follow, revert}
use Rattle.job_protocol.specs.Outputs.{Picks, files, is_decided, picked_below, same_path, wanted_at, wanted_paths}
use Rattle.job_protocol.specs.Setup.{dest_prefix}
use Rattle.job_protocol.specs.TaskCommits.{partition_prefix}
use Rattle.list_walk.specs.Walks.{sweep_hears}
use Rattle.magic_paths.proofs.Tails.{begins_behind, below_is as paths_below}
use Rattle.path_keys.specs.Paths.{below}
use Rattle.pending_json.specs.Pending.{Pending}
use Rattle.s3_types.specs.Pages.{begins}
use Rattle.s3_types.specs.Store.{Scene}
use Rattle.s3_types.specs.declared.journal.Outcome.{Outcome}
use Rattle.s3_types.specs.declared.journal.Outcome.TheVariants.{Answered}
use Rattle.s3_types.specs.declared.reply.Reply.{Reply}
use Rattle.s3_types.specs.declared.request.Request.{Request}
use Rattle.std.proofs.Common.{Bool, List, None, Option, Some, ap, arith, codes, false, inl, inr, length, not, refl, subst, suc, sym, true}
use Rattle.std.proofs.Common.{zero, ℕ, [], ◌&&◌, ◌++◌, ◌<◌, ◌||◌, ◌∙◌, ◌∷◌, ◌≡◌, ◌≤◌}
use Rattle.std.proofs.Math.Bool.{or-true}
use Rattle.std.proofs.lemmas.Bool.{not-false}
use Rattle.std.specs.Option.{is_some}
use Rattle.store_frame.specs.Frame.{changed_keys}

-- ---- what a replace mode deletes is what it does not keep

-- The path is below some directory.
below_some : (dirs : List (List ℕ)) (q : List ℕ) → is_below_any dirs q ≡ true → (d : List ℕ) × IsIn d dirs
    × (begins (d ++ 47 ∷ []) q ≡ true)
below_some [] q h = absurd (false_true refl h)
below_some (d ∷ dirs) q h = elim (true_or_false (begins (d ++ 47 ∷ []) q)) [
  | inl e ↦ (d, inl refl, e)
  | inr e ↦ let o = below_some dirs q (sym (ap (λ b. b || is_below_any dirs q) e) ∙ h) in (o.0, inr o.1, o.2)
]

below_one : (dirs : List (List ℕ)) (q d : List ℕ) → IsIn d dirs → begins (d ++ 47 ∷ []) q ≡ true → is_below_any dirs q ≡ true
below_one [] q d i h = absurd i
below_one (e ∷ dirs) q d (inl is) h = ap (λ x. begins (x ++ 47 ∷ []) q || is_below_any dirs q) (sym is) ∙ ap (λ b. b || is_below_any dirs q)
    h
below_one (e ∷ dirs) q d (inr i) h = ap (λ b. begins (e ++ 47 ∷ []) q || b) (below_one dirs q d i h) ∙ or-true (begins (e ++ 47 ∷ []) q)

-- The keys below a partition's prefix are those of the paths below the partition.
partition_is : {w : Script} → IsLegal w → (d q : List ℕ) → begins (partition_prefix w d) (below w.dest.key q) ≡ begins (d ++ 47 ∷ []) q
partition_is {w = w} j d q =
    ap (λ p. begins p (below w.dest.key q)) (paths_below w.dest.key (d ++ codes "/") (some_dest j))
    ∙ ap (begins (w.dest.key ++ 47 ∷ (d ++ codes "/"))) (paths_below w.dest.key q (some_dest j))
    ∙ begins_behind w.dest.key (47 ∷ (d ++ codes "/")) (47 ∷ q)

module _ {w : Script} (j : IsLegal w) (picks : Picks) where
  prefix_of : (d : Displaced) (q : List ℕ) → stays d (partitions (wanted_paths w picks)) q ≡ false → (p : List ℕ)
      × IsIn p (emptied d w.dest (partitions (wanted_paths w picks))) × (begins p (below w.dest.key q) ≡ true)
  prefix_of Nothing q h = absurd (false_true h refl)
  prefix_of Everything q h = (dest_prefix w, inl refl, dest_below j q)
  prefix_of Partitions q h =
      let o = below_some (partitions (wanted_paths w picks)) q (not-false (is_below_any (partitions (wanted_paths w picks)) q) h) in
      (partition_prefix w o.0, map_in (partition_prefix w) o.0 (partitions (wanted_paths w picks)) o.1, partition_is j o.0 q ∙ o.2)

  not_kept : (d : Displaced) (q p : List ℕ) → IsIn p (emptied d w.dest (partitions (wanted_paths w picks)))
      → begins p (below w.dest.key q) ≡ true → stays d (partitions (wanted_paths w picks)) q ≡ false
  not_kept Nothing q p i h = absurd i
  not_kept Everything q p i h = refl
  not_kept Partitions q p i h =
      let o = in_map (partition_prefix w) p (partitions (wanted_paths w picks)) i in
      ap not (below_one (partitions (wanted_paths w picks)) q o.0 o.1 (sym (partition_is j o.0 q) ∙ ap (λ x. begins x (below w.dest.key q))
      (sym o.2) ∙ h))

  -- A path that the mode does not keep is below a prefix that it empties.
  pub unkept_prefix : (q : List ℕ) → keeps_of w picks q ≡ false → (p : List ℕ) × IsIn p (replaced w.committer w.mode w picks)
      × (begins p (below w.dest.key q) ≡ true)
  unkept_prefix q h = prefix_of (displaced w.committer w.mode) q h

  pub prefix_unkept : (q p : List ℕ) → IsIn p (replaced w.committer w.mode w picks) → begins p (below w.dest.key q) ≡ true
      → keeps_of w picks q ≡ false
  prefix_unkept q p i h = not_kept (displaced w.committer w.mode) q p i h

-- ---- picks that are those of sets

module _ (w : Script) (picks : Picks) where
  -- For the first n tasks.
  abbrev pub AgreeBelow : Sets → ℕ → Type 0
  AgreeBelow sets n = (t : ℕ) → t < n → picks t ≡ picks_of sets t

  read_all : (sets : Sets) (n : ℕ) → n ≤ length sets → AgreeBelow sets n → picked_below picks n ≡ true
  read_all sets zero l h = refl
  read_all sets (suc n) l h = ap (λ b. b && is_some (picks n)) (read_all sets n (omega arith) (λ t k. h t (omega arith))) ∙ ap is_some
      (h n (omega arith)) ∙ there sets n (omega arith)
    where
      there : (xs : Sets) (i : ℕ) → i < length xs → is_some (picks_of xs i) ≡ true
      there [] i l = absurd (omega arith)
      there (x ∷ xs) zero l = refl
      there (x ∷ xs) (suc i) l = there xs i (omega arith)

  -- Once all are read, each task has a pick, and no two write one path.
  pub picks_apart : (sets : Sets) → AreDecided w sets → AgreeBelow sets w.tasks → same_path w picks ≡ None
  picks_apart sets d h = still_apart w (picks_of sets) picks h d.apart

  pub decided_so : (sets : Sets) → AreDecided w sets → AgreeBelow sets w.tasks → is_decided w picks ≡ true
  decided_so sets d h = rw (read_all sets w.tasks (omega (arith, d.all)) h, ap is_some (picks_apart sets d h)) refl

  -- The request changes only keys of wanted files.
  abbrev pub OfWanted : Request → Type 0
  OfWanted r = (k : List ℕ) → IsIn k (changed_keys r) → (q : List ℕ) × (b : List ℕ) × (k ≡ below w.dest.key q)
      × (wanted_at w picks q ≡ Some b)

  abbrev pub Agrees : Commit → Type 0
  Agrees (Fetching sets n) = AgreeBelow sets (length sets)
  Agrees (Replacing sets p ps s n) = AgreeBelow sets w.tasks
  Agrees (Completing sets x xs finished) = AgreeBelow sets w.tasks
  Agrees (Marking sets n) = AgreeBelow sets w.tasks
  Agrees (Reverting r rs n) = (is_decided w picks ≡ true) × ((y : Request) → IsIn y (r ∷ rs) → OfWanted y)
  Agrees (CommitOver end) = is_untouched end ≡ false → is_decided w picks ≡ true

  agrees_course : Course w Agrees (λ sets. (length sets ≤ w.tasks) × AgreeBelow sets (length sets)) (λ sets ps. AgreeBelow sets w.tasks)
  agrees_course = grind (arith, shared_found, completing_so)

  pub agrees_fetching : (sets : Sets) → length sets ≤ w.tasks → AgreeBelow sets (length sets) → Agrees (fetching w sets)
  agrees_fetching sets l a = fetching_so agrees_course sets (l, a)

  agrees_reverting : (rs : List Request) → is_decided w picks ≡ true → ((y : Request) → IsIn y rs → OfWanted y) → Agrees (reverting rs)
  agrees_reverting [] d h = λ e. d
  agrees_reverting (r ∷ rs) d h = (d, h)

  pub agrees_start : (missing : Option ℕ) → Agrees (commit_start w missing)
  agrees_start None = agrees_fetching [] (omega arith) (λ t l. absurd (omega arith))
  agrees_start (Some t) = λ e. absurd cc

  -- The request is no read.
  module _ {minimum : ℕ} {s : Scene} {last : ℕ → Option ℕ} {m : Told} (j : IsLegal w) (f : Facts w minimum s last m) where
    -- An upload of the sets goes to a wanted file.
    pub upload_wanted : (sets : Sets) → Reads w minimum m.publish_sent m.drawn sets → AreDecided w sets → AgreeBelow sets w.tasks
        → (p : Pending) → IsIn p (all_commits sets) → (q : List ℕ) × (b : List ℕ) × (p.destination ≡ below w.dest.key q)
        × (wanted_at w picks q ≡ Some b)
    upload_wanted sets reads d a p i =
        let o = of_sets j f sets reads p i in
        let x = o.1.commit in
        let low = task_low j f (picks_of sets) o.0 p o.1 in
        let who : x.by ≡ attempt o.0 x.by.attempt = ap (λ n. attempt n x.by.attempt) o.1.task in (
          x.file.0,
          x.file.1,
          ap (λ (v : Pending). v.destination) x.is,
          wanted_here w picks j (picks_apart sets d a) o.0 x.by.attempt low (a o.0 low ∙ o.1.picked) x.file
              (subst (λ v. IsIn x.file (files w v)) who x.mine),
        )

    agrees_missed : (c : Commit) → Agrees c → (lost : Bool) → Agrees (missed c lost)
    agrees_missed (Completing sets x xs finished) a lost = completing_so Agrees sets (xs ++ again x lost ∷ []) finished a (λ y ys. a)
    agrees_missed _ a lost = a

    agrees_worn : (c : Commit) → FitsJobCommit w minimum m.publish_sent m.drawn c → Tabled w c → Decides w minimum m.publish_sent m.drawn c
        → Agrees c → Agrees (worn c)
    agrees_worn (Fetching sets n) fits t d a = λ e. absurd cc
    agrees_worn (Completing sets x xs finished) fits t d a =
        agrees_reverting (revert (all_commits sets) x.number xs finished) (decided_so sets d a) (λ y i k c.
        let o = revert_each (all_commits sets) x.number xs finished (t.within x (inl refl)) t.done_within y i in
        let u = upload_wanted sets fits d a o.0 o.1 in
        elim o.2 [
          | inl is ↦ absurd (subst (λ r. IsIn k (changed_keys r)) is c)
          | inr is ↦ elim (subst (λ r. IsIn k (changed_keys r)) is c) [ inl e ↦ (u.0, u.1, e ∙ u.2, u.3) | inr none ↦ absurd none ]
        ])
    agrees_worn (Reverting q qs n) fits t d a = agrees_reverting qs a.0 (λ y i. a.1 y (inr i))
    agrees_worn (CommitOver end) fits t d a = a
    agrees_worn (Replacing sets p ps x n) fits t d a = λ e. decided_so sets d a
    agrees_worn (Marking sets n) fits t d a = λ e. decided_so sets d a

    -- The outcome is an answer to a read.
    abbrev pub IsRead : Commit → Outcome → Type 0
    IsRead (Fetching sets n) (Answered x) = Unit {0}
    IsRead _ _ = ⊥

    agrees_heard : (c : Commit) (x : Reply) → (IsRead c (Answered x) → ⊥) → Decides w minimum m.publish_sent m.drawn c → Agrees c
        → Agrees (commit_hears w c x)
    agrees_heard (Fetching sets n) x no_read d a = absurd (no_read tt)
    agrees_heard (Replacing sets p ps y n) x no_read d a = swept_so agrees_course sets p ps (sweep_hears (is_no_magic w) y x) a (λ u e. a)
    agrees_heard (Completing sets y ys finished) x no_read d a =
        completing_so Agrees sets (ys ++ follow w.lanes (length (all_commits sets)) y.number) (y.number ∷ finished) a (λ x xs. a)
    agrees_heard (Marking sets n) x no_read d a = λ e. decided_so sets d a
    agrees_heard (Reverting q qs n) x no_read d a = agrees_reverting qs a.0 (λ y i. a.1 y (inr i))
    agrees_heard (CommitOver end) x no_read d a = a

    pub agrees_tells : (c : Commit) → FitsJobCommit w minimum m.publish_sent m.drawn c → Tabled w c
        → Decides w minimum m.publish_sent m.drawn c → Agrees c → (o : Outcome) → (IsRead c o → ⊥) → Agrees (commit_tells w c o)
    agrees_tells c fits t d a o no_read = tells_so w Agrees c o (λ x e. agrees_heard c x (subst (λ v. IsRead c v → ⊥) e no_read) d a)
        (agrees_missed c a) (agrees_worn c fits t d a)
