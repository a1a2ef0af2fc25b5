-- What is at the paths of the files of the sets, while the driver's commit completes their uploads and while it reverts.
use Rattle.text_and_lists.proofs.Members.{false_true, in_append, nat_false, nat_true, none_some, same_or_not, same_or_other, some_is}
use Rattle.text_and_lists.proofs.Members.{true_or_false}
use Rattle.text_and_lists.proofs.Naturals.{above_zero, below_is}
use Rattle.text_and_lists.specs.Members.{IsIn}
use Rattle.job_invariant.proofs.Effects.{abort_keys, completes_file, completes_nothing, deletion_is, deletion_key, deletion_other}
use Rattle.job_invariant.proofs.Effects.{other_key}
use Rattle.job_invariant.proofs.Going.{effect_so}
use Rattle.job_invariant.proofs.Held.{Course, completing_so, deletes_done, deletes_tried, destinations_uniq, either, fetched_so, from_in}
use Rattle.job_invariant.proofs.Held.{nth_of, number_of, of_sets, set_has, swept_so, task_low, tells_so, to_in, uploads_uniq}
use Rattle.job_invariant.proofs.Placed.{one_key}
use Rattle.job_invariant.proofs.Turning.{none_turned}
use Rattle.job_invariant.proofs.Wanted.{wanted_here, wanted_of}
use Rattle.job_invariant.proofs.Whose.{attempt}
use Rattle.job_invariant.specs.Driver.{FitsJobCommit, Reads}
use Rattle.job_invariant.specs.Facts.{Facts}
use Rattle.job_invariant.specs.Filed.{AreDecided, FileStands, Gone, IsBefore, IsCommit, Wants, deletes, whole_of}
use Rattle.job_invariant.specs.Stores.{at_key}
use Rattle.job_invariant.specs.Told.{Told, driver_entry, tell_driver}
use Rattle.job_invariant.specs.Turning.{NoneEnded, Turned}
use Rattle.job_model.specs.JobScript.{Script}
use Rattle.job_model.specs.Legal.{IsLegal}
use Rattle.job_protocol.proofs.Shared.{shared_found}
use Rattle.job_protocol.proofs.Tables.{all_done, table_again, table_answered, table_dealt}
use Rattle.job_protocol.specs.JobCommits.{Commit, CommitOver, Completing, Fetching, Marking, Replacing, Reverting, Sets, all_commits}
use Rattle.job_protocol.specs.JobCommits.{commit_misses, commit_tells, completing, is_no_magic, picks_of, reverting, set_read}
use Rattle.job_protocol.specs.JobCommits.{worn_completion}
use Rattle.job_protocol.specs.LaneTable.{In, Table, Tabled}
use Rattle.job_protocol.specs.Lanes.{Turn, abort, again, completion, dealt, deletion, follow, nth, revert}
use Rattle.job_protocol.specs.Outputs.{files, same_path, wanted_at}
use Rattle.list_walk.specs.Walks.{Sweep, sweep_hears}
use Rattle.path_keys.specs.Paths.{below}
use Rattle.pending_json.specs.Pending.{Pending}
use Rattle.pending_json.specs.declared.records.PendingSet.{PendingSet}
use Rattle.retries.proofs.Misses.{streak_same, worn_more, worn_now}
use Rattle.retries.proofs.SameRequest.{same_self}
use Rattle.retries.specs.Worn.{IsWorn, streak, was_answered}
use Rattle.s3_types.specs.Answer.{apply}
use Rattle.s3_types.specs.Moment.{effect, is_effective}
use Rattle.s3_types.specs.Store.{Scene}
use Rattle.s3_types.specs.declared.journal.Entry.{Entry}
use Rattle.s3_types.specs.declared.journal.Outcome.{Outcome}
use Rattle.s3_types.specs.declared.journal.Outcome.TheVariants.{Answered, ReplyLost, RequestLost, Slow}
use Rattle.s3_types.specs.declared.object.Object.{Object}
use Rattle.s3_types.specs.declared.reply.Reply.{Reply}
use Rattle.s3_types.specs.declared.request.Request.{Request}
use Rattle.s3_types.specs.declared.request.Request.TheVariants.{DeleteObject}
use Rattle.std.proofs.Common.{Bool, List, None, Option, Some, ap, arith, cond, false, inl, inr, length, nat_lt, refl, slice_get, subst, sym}
use Rattle.std.proofs.Common.{true, ℕ, [], ◌&&◌, ◌++◌, ◌+◌, ◌<◌, ◌||◌, ◌∙◌, ◌∷◌, ◌≡◌, ◌≤◌, ◌⊎◌}
use Rattle.std.proofs.Math.Bool.{and-false, or-false, or-true}
use Rattle.std.proofs.lemmas.Bool.{ltb-false}
use Rattle.store_frame.specs.Frame.{changed_upload}

-- The object from before the commit is still there, or none is.
pub before_stays : {first u v : Option Object} → (v ≡ u) ⊎ (v ≡ None) → IsBefore first u → IsBefore first v
before_stays h g = grind arith

-- The set of a task with a pick was read.
pick_read : (sets : Sets) (t n : ℕ) → picks_of sets t ≡ Some n → (h : PendingSet) × (slice_get sets t ≡ Some h) × (h.attempt ≡ n)
pick_read sets t n h = grind arith

module _ {w : Script} {minimum : ℕ} {s : Scene} {last : ℕ → Option ℕ} {m : Told} (j : IsLegal w) (f : Facts w minimum s last m)
    (q b : List ℕ) where
  abbrev key : List ℕ
  key = below w.dest.key q

  -- ---- the upload of a path that is wanted

  pub record HasUpload (sets : Sets) : Type 0 where
    pub upload : Pending
    pub one_of : IsIn upload (all_commits sets)
    pub goes_to : upload.destination ≡ key
    pub number : ℕ
    pub low : number < length (all_commits sets)
    pub is : nth (all_commits sets) number ≡ upload

  pub wanted_upload : (sets : Sets) → Reads w minimum m.publish_sent m.drawn sets → wanted_at w (picks_of sets) q ≡ Some b → HasUpload sets
  wanted_upload sets reads e =
      let x = wanted_of w (picks_of sets) q b e in
      let h = pick_read sets x.from.task x.from.number x.from.picked in
      let mine : IsIn x.file (files w (attempt x.from.task h.0.attempt)) = subst (λ n. IsIn x.file (files w (attempt x.from.task n)))
      (sym h.2) x.from.mine in
      let p = set_has j f sets reads x.from.task h.0 h.1 x.file mine in
      let n = number_of (all_commits sets) p.0 p.1 in
      record { upload = p.0; one_of = p.1; goes_to = p.2 ∙ ap (below w.dest.key) (sym x.path); number = n.0; low = n.1; is = n.2 }

  -- The bytes of an upload that goes to a wanted path are those that are wanted.
  pub wanted_bytes : (sets : Sets) → (reads : Reads w minimum m.publish_sent m.drawn sets) → same_path w (picks_of sets) ≡ None
      → wanted_at w (picks_of sets) q ≡ Some b → (p : Pending) → (i : IsIn p (all_commits sets)) → p.destination ≡ key
      → (of_sets j f sets reads p i).1.commit.file.1 ≡ b
  wanted_bytes sets reads apart e p i d =
      let o = of_sets j f sets reads p i in
      let x = o.1.commit in
      let path : x.file.0 ≡ q = one_key j x.file (q, b) (sym (ap (λ (v : Pending). v.destination) x.is) ∙ d) in
      let who : x.by ≡ attempt o.0 x.by.attempt = ap (λ n. attempt n x.by.attempt) o.1.task in
      let want = wanted_here w (picks_of sets) j apart o.0 x.by.attempt (task_low j f (picks_of sets) o.0 p o.1) o.1.picked x.file
      (subst (λ a. IsIn x.file (files w a)) who x.mine) in
      some_is (sym want ∙ ap (wanted_at w (picks_of sets)) path ∙ e)

  -- ---- while it completes

  abbrev pub Clause : Option Object → Sets → Option Object → (ℕ → Bool) → Type 0
  Clause first sets now ended = (p : Pending) → IsIn p (all_commits sets) → p.destination ≡ key
      → ((ended p.upload ≡ true → now ≡ Some (whole_of b)) × (ended p.upload ≡ false → IsBefore first now))

  module _ (first : Option Object) (es : List Entry) where
    abbrev Stands : Option Object → (ℕ → Bool) → Commit → Type 0
    Stands now ended c = FileStands w q b first es now ended c

    -- When all are done, the commit goes on to the marker, and the whole file is there.
    stands_completing : (sets : Sets) (told : Told) (now : Option Object) (xs : List Turn) (finished : List ℕ)
        → Reads w minimum m.publish_sent m.drawn sets → wanted_at w (picks_of sets) q ≡ Some b
        → Table w.lanes w.retries (length (all_commits sets)) xs finished → Turned told.ended sets xs finished
        → Clause first sets now told.ended → Stands now told.ended (completing sets xs finished)
    stands_completing sets told now [] finished reads e t turned c =
        let u = wanted_upload sets reads e in
        let done = turned.done u.number (from_in u.number finished (all_done u.number u.low t)) in
        (c u.upload u.one_of u.goes_to).0 (ap (λ (p : Pending). told.ended p.upload) (sym u.is) ∙ done)
    stands_completing sets told now (x ∷ xs) finished reads e t turned c = c

    abbrev Follows : Option Object → Told → Commit → Type 0
    Follows now told c = FitsJobCommit w minimum m.publish_sent m.drawn c → Wants w q b c → Stands now told.ended c

    -- Up to the first completion.
    pub stands_course : (told : Told) (now : Option Object) → NoneEnded told
        → Course w (Follows now told) (λ sets. now ≡ first) (λ sets ps. IsBefore first now)
    stands_course told now none = record {
      fetches = λ sets l same fits wants. same;
      clashes = λ sets end e same fits wants. let x = shared_found w (picks_of sets) end e in subst
          (λ v. Stands now told.ended (CommitOver v)) (sym x.3) same;
      decides = λ sets l e same. inl same;
      replaces = λ sets p ps before fits wants. before;
      completes = λ sets before fits wants.
          let xs = dealt w.lanes (length (all_commits sets)) in
          let reads = completing_so (λ c. FitsJobCommit w minimum m.publish_sent m.drawn c → Reads w minimum m.publish_sent m.drawn sets)
          sets xs [] (λ h. h) (λ y ys h. h) fits in
          let these = completing_so (λ c. Wants w q b c → wanted_at w (picks_of sets) q ≡ Some b) sets xs [] (λ h. h) (λ y ys h. h) wants in
          stands_completing sets told now xs [] reads these (table_dealt w.lanes w.retries (length (all_commits sets))
          (above_zero j.one_lane)) (none_turned told none sets xs)
          (λ p i e. ((λ g. absurd (false_true (none p.upload) g)), (λ g. before)));
    }

    -- ---- each stage, after an entry that leaves the old object at the key or none

    pub fetching_stands : (sets : Sets) (n : ℕ) (told : Told) (now : Option Object) → length sets < w.tasks → NoneEnded told → now ≡ first
        → (o : Outcome) → Follows now told (commit_tells w (Fetching sets n) o)
    fetching_stands sets n told now low none same o =
        tells_so w (Follows now told) (Fetching sets n) o (λ y e. fetched_so (stands_course told now none) sets (set_read y) low same
        (λ h z. same)) (λ lost fits wants. same) (λ fits wants. same)

    pub replacing_stands : (sets : Sets) (p : List ℕ) (ps : List (List ℕ)) (x : Sweep) (n : ℕ) (told : Told) (now : Option Object)
        → NoneEnded told → IsBefore first now → (o : Outcome) → Follows now told (commit_tells w (Replacing sets p ps x n) o)
    replacing_stands sets p ps x n told now none before o =
        tells_so w (Follows now told) (Replacing sets p ps x n) o (λ y e. swept_so (stands_course told now none) sets p ps
        (sweep_hears (is_no_magic w) x y) before (λ t z fits wants. before)) (λ lost fits wants. before) (λ fits wants. before)

    pub marking_stands : (sets : Sets) (n : ℕ) (now : Option Object) (ended : ℕ → Bool) → now ≡ Some (whole_of b) → (o : Outcome)
        → Stands now ended (commit_tells w (Marking sets n) o)
    marking_stands sets n now ended h o = tells_so w (Stands now ended) (Marking sets n) o (λ y e. h) (λ lost. h) h

-- ---- a completion, and the requests of a revert

module _ {w : Script} {minimum : ℕ} {s : Scene} {last : ℕ → Option ℕ} {m : Told} (j : IsLegal w) (f : Facts w minimum s last m)
    (gone : Gone w s.content m) (q b : List ℕ) (first : Option Object) (es : List Entry) (n : ℕ) where
  abbrev at : List ℕ
  at = below w.dest.key q

  abbrev now : Option Object
  now = at_key w s.content at

  abbrev after : Request → Outcome → Option Object
  after r o = at_key w (effect s r o).content at

  abbrev more : Request → Outcome → List Entry
  more r o = es ++ driver_entry n r o ∷ []

  -- If an entry leaves the key as it was.
  same_after : (r : Request) → at_key w (apply s r).content at ≡ now → (o : Outcome) → after r o ≡ now
  same_after r e o = effect_so (λ u. at_key w u.content at ≡ now) s r o refl e

  module _ (sets : Sets) (x : Turn) (xs : List Turn) (finished : List ℕ) (reads : Reads w minimum m.publish_sent m.drawn sets)
      (t : Tabled w (Completing sets x xs finished)) (turns : Turned m.ended sets (x ∷ xs) finished) (d : AreDecided w sets)
      (wants : wanted_at w (picks_of sets) q ≡ Some b) (old : Clause j f q b first sets now m.ended) where
    abbrev all : List Pending
    all = all_commits sets

    abbrev p : Pending
    p = nth all x.number

    abbrev told : Outcome → Told
    told o = tell_driver m (completion p) o

    low : x.number < length all
    low = t.within x (inl refl)

    abbrev mine : IsCommit w minimum m.publish_sent m.drawn p
    mine = (of_sets j f sets reads p (nth_of all x.number low)).1.commit

    -- This upload goes there.
    whole_now : p.destination ≡ at → at_key w (apply s (completion p)).content at ≡ Some (whole_of b)
    whole_now e = elim (true_or_false (m.ended p.upload)) [
      | inl g ↦ completes_nothing j f gone p mine g at ∙ (old p (nth_of all x.number low) e).0 g
      | inr g ↦
          ap (at_key w (apply s (completion p)).content) (sym e) ∙ completes_file j f gone p mine g
          ∙ ap (λ v. Some (whole_of v)) (wanted_bytes j f q b sets reads d.apart wants p (nth_of all x.number low) e)
    ]

    abbrev Here : Outcome → Type 0
    Here o = ((told o).ended p.upload ≡ true → after (completion p) o ≡ Some (whole_of b))
        × ((told o).ended p.upload ≡ false → IsBefore first (after (completion p) o))

    here : p.destination ≡ at → (o : Outcome) → Here o
    here e Slow = let h = old p (nth_of all x.number low) e in (
      (λ g. h.0 (sym (or-false (m.ended p.upload)) ∙ g)),
      (λ g. h.1 (sym (or-false (m.ended p.upload)) ∙ g)),
    )
    here e RequestLost = let h = old p (nth_of all x.number low) e in (
      (λ g. h.0 (sym (or-false (m.ended p.upload)) ∙ g)),
      (λ g. h.1 (sym (or-false (m.ended p.upload)) ∙ g)),
    )
    here e _ = (
      (λ g. whole_now e),
      (λ g. absurd (false_true g (ap (λ v. m.ended p.upload || v) (nat_true p.upload p.upload refl) ∙ or-true
          (m.ended p.upload)))),
    )

    -- Each other upload is as it was.
    ended_same : (o : Outcome) (u : ℕ) → (u ≡ p.upload → ⊥) → (told o).ended u ≡ m.ended u
    ended_same o u ne = ap (λ v. m.ended u || (is_effective o && v)) (nat_false u p.upload ne) ∙ ap (λ v. m.ended u || v)
        (and-false (is_effective o)) ∙ or-false (m.ended u)

    clause_after : (o : Outcome) → Clause j f q b first sets (after (completion p) o) (told o).ended
    clause_after o v i e =
        let k = number_of all v i in
        elim (same_or_not k.0 x.number) [
          | inl is ↦
              let one : p ≡ v = ap (nth all) (sym is) ∙ k.2 in
              let P : Pending → Type 0 = λ z. ((told o).ended z.upload ≡ true → after (completion p) o ≡ Some (whole_of b))
              × ((told o).ended z.upload ≡ false → IsBefore first (after (completion p) o)) in
              subst P one (here (ap (λ (z : Pending). z.destination) one ∙ e) o)
          | inr ne ↦
              let upload : v.upload ≡ p.upload → ⊥ = λ g. ne (uploads_uniq j f sets reads k.0 x.number k.1 low
              (ap (λ (z : Pending). z.upload) k.2 ∙ g)) in
              let away : at ≡ p.destination → ⊥ = λ g. ne (destinations_uniq j f sets reads d.apart k.0 x.number k.1 low
              (ap (λ (z : Pending). z.destination) k.2 ∙ e ∙ g)) in
              let same = same_after (completion p) (other_key j f gone p mine at away) o in
              let h = old v i e in (
                (λ g. same ∙ h.0 (sym (ended_same o v.upload upload) ∙ g)),
                (λ g. subst (IsBefore first) (sym same)
                    (h.1 (sym (ended_same o v.upload upload) ∙ g))),
              )
        ]

    -- What becomes of the turn.
    abbrev Now : Outcome → Commit → Type 0
    Now o c = FileStands w q b first (more (completion p) o) (after (completion p) o) (told o).ended c

    -- If it is there, its deletion is still to come.
    deletes_it : (lost : Bool) (told : Told) → Turned told.ended sets (xs ++ again x lost ∷ []) finished → (k : ℕ) → k < length all
        → told.ended (nth all k).upload ≡ true → IsIn (deletion (nth all k)) (revert all x.number xs finished)
    deletes_it lost told turned k l e = elim (turned.only k l e) [
      | inl done ↦ deletes_done all x.number xs finished low t.done_within k (to_in k finished done)
      | inr y ↦ elim (in_append y.0 xs (again x lost ∷ []) y.1) [
        | inl i ↦
            let z : In y.0 xs = to_in y.0 xs i in
            let some : y.0.missed ≡ 0 → ⊥ = λ g. false_true (t.unsent y.0 (inr z) g) y.3 in
            subst (λ v. IsIn (deletion (nth all v)) (revert all x.number xs finished)) y.2
            (deletes_tried all x.number xs finished low t.done_within y.0 z some (t.within y.0 (inr z)))
        | inr i ↦ elim i [
          | inl is ↦
              let number : x.number ≡ k = sym (ap (λ (v : Turn). v.number) is) ∙ y.2 in
              subst (λ v. IsIn (deletion (nth all v)) (revert all x.number xs finished)) number (inr (inl refl))
          | inr none ↦ absurd none
        ]
      ]
    ]

    reverts : (o : Outcome) (lost : Bool) → Turned (told o).ended sets (xs ++ again x lost ∷ []) finished
        → Now o (worn_completion sets x xs finished)
    reverts o lost turned =
        let u = wanted_upload j f q b sets reads wants in
        let c = clause_after o u.upload u.one_of u.goes_to in (
          omega arith,
          elim (true_or_false ((told o).ended u.upload.upload)) [
            | inr e ↦ inl (c.1 e)
            | inl e ↦
                let there : IsIn (deletion u.upload) (revert all x.number xs finished) =
                subst (λ (v : Pending). IsIn (deletion v) (revert all x.number xs finished)) u.is
                (deletes_it lost (told o) turned u.number u.low (ap (λ (v : Pending). (told o).ended v.upload) u.is ∙ e)) in
                let is : deletion u.upload ≡ deletes w q = deletion_is j f gone u.upload (of_sets j f sets reads u.upload u.one_of).1.commit
                ∙ ap (λ k. DeleteObject w.dest.bucket k) u.goes_to in
                inr (c.0 e, inl (subst (λ r. IsIn r (revert all x.number xs finished)) is there))
          ],
        )

    pub missed : (o : Outcome) (lost : Bool) → Turned (told o).ended sets (xs ++ again x lost ∷ []) finished
        → Now o (commit_misses w (Completing sets x xs finished) lost)
    missed o lost turned = either w (Now o) (nat_lt x.missed w.retries) (completing sets (xs ++ again x lost ∷ []) finished)
        (worn_completion sets x xs finished)
        (λ e. stands_completing j f q b first (more (completion p) o) sets (told o) (after (completion p) o) (xs ++ again x lost ∷ [])
        finished reads wants (table_again x lost (below_is x.missed w.retries e) t) turned (clause_after o))
        (λ e. reverts o lost turned)

    pub completing_stands : ((y : Reply) → Turned (told (Answered y)).ended sets (xs ++ follow w.lanes (length all) x.number)
        (x.number ∷ finished)) → ((o : Outcome) (lost : Bool) → (is_effective o ≡ true → lost ≡ true)
        → Turned (told o).ended sets (xs ++ again x lost ∷ []) finished)
        → (o : Outcome) → Now o (commit_tells w (Completing sets x xs finished) o)
    completing_stands h g (Answered y) =
        stands_completing j f q b first (more (completion p) (Answered y)) sets (told (Answered y)) (after (completion p) (Answered y))
        (xs ++ follow w.lanes (length all) x.number) (x.number ∷ finished) reads wants
        (table_answered x (above_zero j.one_lane) t) (h y) (clause_after (Answered y))
    completing_stands h g Slow = missed Slow false (g Slow false (λ e. absurd (false_true refl e)))
    completing_stands h g o = missed o true (g o true (λ e. refl))

  -- ---- a revert

  module _ (r : Request) (rs : List Request) (k : ℕ) (one : (p : Pending) × IsCommit w minimum m.publish_sent m.drawn p ×
      ((r ≡ abort p) ⊎ (r ≡ deletion p))) where
    -- The key is as it was, or there is no object; and there is none if this request deletes it.
    record Taken (v : Option Object) : Type 0 where
      pub or_gone : (v ≡ now) ⊎ (v ≡ None)
      pub deleted : deletes w q ≡ r → v ≡ None

    abbrev key_of : Request → List ℕ
    key_of (DeleteObject bucket key) = key
    key_of _ = []

    took : Taken (at_key w (apply s r).content at)
    took = elim one.2 [
      | inl e ↦
          let same = ap (λ y. at_key w (apply s y).content at) e ∙ abort_keys j f gone one.0 one.1 at in
          record { or_gone = inl same; deleted = λ g. absurd (none_some refl (ap changed_upload (g ∙ e))) }
      | inr e ↦ elim (same_or_other at one.0.destination) [
        | inl is ↦
            let none : at_key w (apply s r).content at ≡ None = ap (λ y. at_key w (apply s y).content at) e ∙ ap
            (at_key w (apply s (deletion one.0)).content) is ∙ deletion_key j f gone one.0 one.1 in
            record { or_gone = inr none; deleted = λ g. none }
        | inr ne ↦ record {
          or_gone = inl (ap (λ y. at_key w (apply s y).content at) e ∙ deletion_other j f gone one.0 one.1 at ne);
          deleted = λ g. absurd (ne (ap key_of (g ∙ e)));
        }
      ]
    ]

    abbrev Left : List Entry → Option Object → List Request → Type 0
    Left es now qs = IsBefore first now ⊎ ((now ≡ Some (whole_of b)) × (IsIn (deletes w q) qs ⊎ IsWorn w.retries (deletes w q) es))

    module _ (few : k ≤ streak r es) (left : Left es now (r ∷ rs)) where
      -- The request took effect: what it deletes is gone, and the list goes on.
      effective : (o : Outcome) → (qs : List Request) → ((y : Request) → IsIn y (r ∷ rs) → (y ≡ r) ⊎ IsIn y qs)
          → Left (more r o) (at_key w (apply s r).content at) qs
      effective o qs goes = elim left [
        | inl h ↦ inl (before_stays took.or_gone h)
        | inr h ↦ elim took.or_gone [
          | inr none ↦ inl (inr none)
          | inl same ↦ elim h.1 [
            | inl i ↦ elim (goes (deletes w q) i) [ inl is ↦ inl (inr (took.deleted is)) | inr on ↦ inr (same ∙ h.0, inl on) ]
            | inr worn ↦ inr (same ∙ h.0, inr (worn_more w.retries (deletes w q) es (driver_entry n r o ∷ []) worn))
          ]
        ]
      ]

      -- The request took no effect, and is sent again.
      in_hand : (o : Outcome) → Left (more r o) now (r ∷ rs)
      in_hand o = grind (arith, worn_more)

      -- The request ran out of retries.
      passed : (o : Outcome) → IsWorn w.retries r (more r o) → Left (more r o) now rs
      passed o h = grind (arith, worn_more)

      abbrev So : Outcome → Option Object → Commit → Type 0
      So o v c = FileStands w q b first (more r o) v (tell_driver m r o).ended c

      so_reverting : (o : Outcome) (v : Option Object) (qs : List Request) → Left (more r o) v qs → So o v (reverting qs)
      so_reverting o v qs h = grind arith

      missed_so : (o : Outcome) (lost : Bool) (v : Option Object) → was_answered o ≡ false → Left (more r o) v (r ∷ rs)
          → (IsWorn w.retries r (more r o) → Left (more r o) v rs) → So o v (commit_misses w (Reverting r rs k) lost)
      missed_so o lost v e here over =
          let more_now : streak r (more r o) ≡ streak r es + 1 = streak_same r es (driver_entry n r o) (same_self r) ∙ ap
          (λ t. cond t 0 (streak r es + 1)) e in
          either w (So o v) (nat_lt k w.retries) (Reverting r rs (k + 1)) (reverting rs) (λ g. (omega (arith, more_now, few), here))
          (λ g. let high : w.retries ≤ k = ltb-false k w.retries g in so_reverting o v rs
          (over (worn_now w.retries r (more r o) (omega (arith, more_now, few, high)))))

      pub reverting_stands : (o : Outcome) → So o (after r o) (commit_tells w (Reverting r rs k) o)
      reverting_stands (Answered y) = so_reverting (Answered y) (at_key w (apply s r).content at) rs (effective (Answered y) rs (λ y i. i))
      reverting_stands Slow = missed_so Slow false now refl (in_hand Slow) (passed Slow)
      reverting_stands RequestLost = missed_so RequestLost true now refl (in_hand RequestLost) (passed RequestLost)
      reverting_stands ReplyLost = missed_so ReplyLost true (at_key w (apply s r).content at) refl
          (effective ReplyLost (r ∷ rs) (λ y i. inr i)) (λ worn. effective ReplyLost rs (λ y i. i))
