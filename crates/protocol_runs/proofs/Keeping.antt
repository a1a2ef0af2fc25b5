-- Every step of a run keeps what holds of its state.
use Rattle.text_and_lists.proofs.Members.{false_true, true_or_false}
use Rattle.job_invariant.proofs.Agreeing.{Agrees, agrees_start}
use Rattle.job_invariant.proofs.Beside.{beside, job_commit_begins}
use Rattle.job_invariant.proofs.Deciding.{d_start}
use Rattle.job_invariant.proofs.FilingLaws.{decides_beside, files_begin}
use Rattle.job_invariant.proofs.JobCommitting.{no_magic, replaced_under}
use Rattle.job_invariant.proofs.Legal.{some_dest}
use Rattle.job_invariant.proofs.Sharing.{sparing_still}
use Rattle.job_invariant.proofs.Shows.{HidesAll, hidden_shows, shown_key}
use Rattle.job_invariant.proofs.Turning.{turns_start}
use Rattle.job_invariant.proofs.Whose.{who_other}
use Rattle.job_invariant.specs.Emptying.{EmptiesBy, OnlyThose}
use Rattle.job_invariant.specs.Facts.{Hold}
use Rattle.job_invariant.specs.Filed.{FileStands}
use Rattle.job_invariant.specs.Fits.{Fits, FitsAbort, FitsCommit, FitsWrite}
use Rattle.job_invariant.specs.Stores.{at_key}
use Rattle.job_invariant.specs.Told.{Told, entry, known, tell_attempt}
use Rattle.job_model.specs.Attempts.{Who}
use Rattle.job_model.specs.JobScript.{Script}
use Rattle.job_model.specs.Legal.{IsLegal}
use Rattle.job_protocol.proofs.LaneTables.{tabled_start}
use Rattle.job_protocol.specs.JobCommits.{Commit, CommitOver, Marking, Replacing, commit_start, is_no_magic, picks_of}
use Rattle.job_protocol.specs.Operations.{Operation, Setting, TheCheck, TheClean, TheCommit, TheSetup, TheSparing, TheTaskAbort}
use Rattle.job_protocol.specs.Operations.{TheTaskCommit, TheWrite, asks}
use Rattle.job_protocol.specs.Outputs.{Picks}
use Rattle.job_protocol.specs.Seen.{Seen, Times, see}
use Rattle.job_protocol.specs.View.{Same, is_file_path, view}
use Rattle.job_spec.specs.Headline.{Between, Kept, Whole}
use Rattle.protocol_runs.proofs.Leads.{enters}
use Rattle.protocol_runs.proofs.Plain.{one_scene}
use Rattle.protocol_runs.proofs.Replacing.{empty_enter, others_enter, start_replaces}
use Rattle.protocol_runs.proofs.Running.{At, CommitShows, Empty, Files, Idle, InCommit, MarkSays, Marks, OtherStands, Shows, Untouched}
use Rattle.protocol_runs.proofs.Running.{false_marks, first_at, now_at, wants_of}
use Rattle.protocol_runs.proofs.Steps.{hidden_same}
use Rattle.list_walk.specs.Walks.{Deleting, Listing, Sweep}
use Rattle.magic_paths.proofs.Tails.{key_magic}
use Rattle.magic_paths.specs.Layout.{magic_prefix, success_key}
use Rattle.magic_paths.specs.Places.{SuccessPlace}
use Rattle.path_keys.specs.Paths.{below}
use Rattle.s3_types.specs.Pages.{begins}
use Rattle.s3_types.specs.Store.{Content, Scene}
use Rattle.s3_types.specs.declared.journal.Entry.{Entry}
use Rattle.s3_types.specs.declared.journal.Outcome.{Outcome}
use Rattle.s3_types.specs.declared.journal.Outcome.TheVariants.{Answered, ReplyLost}
use Rattle.s3_types.specs.declared.request.Request.{Request}
use Rattle.std.proofs.Common.{Bool, List, None, Option, Some, ap, arith, false, inl, inr, refl, subst, sym, true, ℕ, [], ◌&&◌, ◌∙◌, ◌∷◌}
use Rattle.std.proofs.Common.{◌≡◌}
use Rattle.std.specs.Option.{is_some}
use Rattle.store_frame.specs.Held.{HasBucket}
use Rattle.job_model.specs.declared.ends.CommitEnd.TheVariants as commits
use Rattle.job_model.specs.declared.ends.FaultStage.TheVariants as stages

-- ---- what is quiet

-- Outside the magic directory nothing changes, and the journal shows nothing more of the commit.
pub record Quiet (w : Script) (s u : Seen) : Type 0 where
  pub keys : (k : List ℕ) → begins (magic_prefix w.dest.key w.job) k ≡ false → at_key w u.scene.content k ≡ at_key w s.scene.content k
  pub picks : u.picks ≡ s.picks
  pub mark : u.put_mark ≡ s.put_mark
  pub begun : u.begun ≡ s.begun

pub attempt_quiet : (w : Script) (k : Times) (s : Seen) (a : Who) (n : ℕ) (r : Request) → HasBucket s.scene.content w.dest.bucket
    → HidesAll w r → (o : Outcome) → Quiet w s (see w k s (entry a n r o))
attempt_quiet w k s a n r there h (Answered y) = record {
  keys = hidden_same w s.scene there r h (Answered y);
  picks = refl;
  mark = refl;
  begun = refl;
}
attempt_quiet w k s a n r there h ReplyLost = record {
  keys = hidden_same w s.scene there r h ReplyLost;
  picks = refl;
  mark = refl;
  begun =
      refl;
}
attempt_quiet w k s a n r there h _ = record { keys = λ q e. refl; picks = refl; mark = refl; begun = refl }

module _ (g : Setting) (j : IsLegal g.script) (opening : Content) (s u : Seen) (q : Quiet g.script s u) where
  abbrev w : Script
  w = g.script

  file_same : (p : List ℕ) → is_file_path p ≡ true → now_at g opening u.scene.content p ≡ now_at g opening s.scene.content p
  file_same p h = q.keys (below w.dest.key p) (shown_key j p h)

  success_same : at_key w u.scene.content (success_key w.dest.key) ≡ at_key w s.scene.content (success_key w.dest.key)
  success_same = q.keys (success_key w.dest.key) (key_magic w.dest.key w.job SuccessPlace (some_dest j) tt)

  untouched_still : Untouched g opening s.scene.content → Untouched g opening u.scene.content
  untouched_still h p e = file_same p e ∙ h p e

  says_still : (p : Picks) (put : Bool) → MarkSays g opening s.scene.content p put → MarkSays g opening u.scene.content p put
  says_still p put says e o y = says e o (sym success_same ∙ y)

  marks_still : (p : Picks) (put : Bool) (d : Commit) → Marks g opening s.scene.content p put d → Marks g opening u.scene.content p put d
  marks_still p put (Marking sets n) h = says_still p put h
  marks_still p put (CommitOver commits.Committed) h = says_still p put h
  marks_still p put (CommitOver (commits.StoreFault stages.Success)) h = says_still p put h
  marks_still p put _ h = h

  pub idle_still : (m n : Told) → ((id : ℕ) → n.ended id ≡ m.ended id) → n.cleaned ≡ m.cleaned → Idle g opening s m → Idle g opening u n
  idle_still m n h g e = grind arith

  -- What is outside the magic directory.
  only_still : (prefix : List ℕ) (keys : List (List ℕ)) → OnlyThose w prefix (is_no_magic w) s.scene.content keys
      → OnlyThose w prefix (is_no_magic w) u.scene.content keys
  only_still prefix keys h k x b go e = h k x b go (sym (q.keys k (no_magic w k go)) ∙ e)

  sweep_still : (prefix : List ℕ) (t : Sweep) → EmptiesBy w prefix (is_no_magic w) s.scene.content t
      → EmptiesBy w prefix (is_no_magic w) u.scene.content t
  sweep_still prefix (Listing keys) h = λ k x b go e. h k x b go (sym (q.keys k (no_magic w k go)) ∙ e)
  sweep_still prefix (Deleting k ks) h = only_still prefix (k ∷ ks) h

  empty_still : (d : Commit) → Empty g opening s.scene.content d → Empty g opening u.scene.content d
  empty_still (Replacing sets x xs t n) h = record {
    behind = h.behind;
    parts = h.parts;
    clear = λ k i. only_still k [] (h.clear k i);
    under = h.under;
    sweeps = sweep_still x t h.sweeps;
  }
  empty_still _ h = tt

-- What readers see stays as promised, if nothing that they see changes.
pub kept_next : (g : Setting) (opening : Content) (s u : Seen)
    → Same (view g.script.dest u.scene.content) (view g.script.dest s.scene.content)
    → at_key g.script u.scene.content (success_key g.script.dest.key) ≡ at_key g.script s.scene.content (success_key g.script.dest.key)
    → u.picks ≡ s.picks → u.put_mark ≡ s.put_mark → (s.begun ≡ true → u.begun ≡ true) → Kept g.script opening s → Kept g.script opening u
kept_next g opening s u shows success picks mark begun kept = record {
  before = λ e q. shows q ∙ kept.before (elim (true_or_false s.begun) [ inl y ↦ absurd (false_true e (begun y)) | inr y ↦ y ]) q;
  between = λ e. subst (λ p. Between g.script (view g.script.dest opening) p (view g.script.dest u.scene.content)) (sym picks)
      (elim (true_or_false s.begun) [
        | inl y ↦
            let old = kept.between y in
            record {
              untouched = λ d q. shows q ∙ old.untouched d q;
              only = λ d q b y. old.only d q b (sym (shows q) ∙ y);
              kept = λ d q b y keep
                  none. shows q ∙ old.kept d q b y keep none;
            }
        | inr y ↦
            let same : Same (view g.script.dest u.scene.content) (view g.script.dest opening) = λ q. shows q ∙ kept.before y q in
            record { untouched = λ d. same; only = λ d q b y. inl (sym (same q) ∙ y); kept = λ d q b y keep none. same q ∙ y }
      ]);
  whole = λ e.
      let old =
      kept.whole (ap (λ b. b && is_some (at_key g.script s.scene.content (success_key g.script.dest.key))) (sym mark) ∙ ap
      (λ o. u.put_mark && is_some o) (sym success) ∙ e) in
      subst (λ p. Whole g.script (view g.script.dest opening) p u.scene.content) (sym picks)
      (record { picked = old.picked; apart = old.apart; files = λ q. shows q ∙ old.files q; mark = λ o y. old.mark o (sym success ∙ y) });
}

-- ---- an attempt's entry, and the driver

module _ (g : Setting) (j : IsLegal g.script) (opening : Content) (k : Times) (s : Seen) (m : Told) (h : Hold g.script g.minimum s m)
    (a : Who) (n : ℕ) (op : Operation) (fits : Fits g.script g.minimum a m op) (r : Request) (asked : asks g a (known m a) op ≡ Some r)
    (hides : HidesAll g.script r) (o : Outcome) (es : List Entry) where
  abbrev next : Seen
  next = see g.script k s (entry a n r o)

  abbrev told : Told
  told = tell_attempt g.script m a r o

  quiet : Quiet g.script s next
  quiet = attempt_quiet g.script k s a n r h.there hides o

  commit_beside : (c : Commit) → InCommit g opening s.picks m c → InCommit g opening next.picks told c
  commit_beside c h = grind (arith, InCommit, beside, decides_beside)

  pub at_beside : (d : Option Operation) → At g opening d s m → At g opening d next told
  at_beside d h = grind (arith, idle_still, quiet, commit_beside, sparing_still)

  -- So is what readers see.
  shown_beside : (c : Commit) → CommitShows g opening s m.ended es c → CommitShows g opening next told.ended es c
  shown_beside c v = record {
    marks = subst (λ b. Marks g opening next.scene.content next.picks b c) (sym quiet.mark)
        (subst (λ p. Marks g opening next.scene.content p s.put_mark c) (sym quiet.picks)
        (marks_still g j opening s next quiet s.picks s.put_mark c v.marks));
    early = λ e. untouched_still g j opening s next quiet (v.early (sym quiet.begun ∙ e));
    empty = empty_still g j opening s next quiet c v.empty;
    files = subst (λ p. Files g opening next.scene.content p m.ended es c) (sym quiet.picks) (record {
      wanted = λ p e b h. subst (λ x. FileStands g.script p b (first_at g opening p) es x m.ended c)
          (sym (file_same g j opening s next quiet p e)) (v.files.wanted p e b h);
      others = λ p e h. subst (λ x. OtherStands g opening s.picks p x c) (sym (file_same g j opening s next quiet p e))
          (v.files.others p e h);
    });
  }

  kept_beside : Kept g.script opening s → Kept g.script opening next
  kept_beside v =
      kept_next g opening s next (λ p. ap (λ (x : Scene). view g.script.dest x.content p) (one_scene g.script k s (entry a n r o)) ∙
      hidden_shows j s.scene r o h.there hides p)
      (success_same g j opening s next quiet) quiet.picks quiet.mark (λ e. quiet.begun ∙ e) v

  pub shows_beside : (d : Option Operation) → Shows g opening d s m es → Shows g opening d next told es
  shows_beside None v = untouched_still g j opening s next quiet v
  shows_beside (Some (TheSetup t)) v = untouched_still g j opening s next quiet v
  shows_beside (Some (TheCommit c)) v = shown_beside c v
  shows_beside (Some (TheCheck t)) v = (untouched_still g j opening s next quiet v.0, v.1)
  shows_beside (Some (TheClean t)) v = kept_beside v
  shows_beside (Some (TheSparing t)) v = kept_beside v
  shows_beside (Some _) v = absurd v

  -- Other attempts know what they knew.
  pub other_known : (b : Who) → (b ≡ a → ⊥) → known told b ≡ known m b
  other_known b h = grind (arith, who_other)

  pub other_fits : (b : Who) → (b ≡ a → ⊥) → (mine : Operation) → Fits g.script g.minimum b m mine → Fits g.script g.minimum b told mine
  other_fits b ne (TheWrite t) f = (
    who_other m.undone a _ b ne ∙ f.0,
    subst (λ v. FitsWrite g.script g.minimum b v t.operation)
        (sym (other_known b ne)) f.1,
  )
  other_fits b ne (TheTaskCommit t) f = (
    who_other m.undone a _ b ne ∙ f.0,
    subst (λ v. FitsCommit g.script g.minimum b v t.operation)
        (sym (other_known b ne)) f.1,
  )
  other_fits b ne (TheTaskAbort t) f = subst (λ v. FitsAbort g.script b v t.operation) (sym (other_known b ne)) f
  other_fits b ne _ f = f

-- ---- the commit as it begins

pub commit_starts : (g : Setting) → IsLegal g.script → (opening : Content) (s : Seen) (m : Told) → Idle g opening s m → (missing : Option ℕ)
    → InCommit g opening s.picks m (commit_start g.script missing)
commit_starts g j opening s m i missing = record {
  fits = job_commit_begins g.script g.minimum j m missing;
  tabled = tabled_start g.script missing (omega (arith, j.one_lane));
  turns = turns_start g.script m i.none missing;
  decides = d_start g.script g.minimum m.publish_sent m.drawn missing;
  uncleaned = i.uncleaned;
  agrees = agrees_start g.script s.picks missing;
  replaces = start_replaces g j opening missing;
}

pub commit_shows : (g : Setting) → IsLegal g.script → (opening : Content) (s : Seen) (m : Told) → Hold g.script g.minimum s m
    → Idle g opening s m → Untouched g opening s.scene.content → (missing : Option ℕ)
    → CommitShows g opening s m.ended [] (commit_start g.script missing)
commit_shows g j opening s m h i untouched missing =
    let agrees = agrees_start g.script s.picks missing in
    record {
      marks = false_marks g opening s.scene.content s.picks s.put_mark i.unmarked (commit_start g.script missing);
      early = λ e. untouched;
      empty = elim missing as (λ t. Empty g opening s.scene.content (commit_start g.script t)) [
        | None ↦ empty_enter g j opening s.scene.content [] (replaced_under j g.script.committer g.script.mode (picks_of []))
            (enters g.script [])
        | Some t ↦ tt
      ];
      files = record {
        wanted = λ q p b e. files_begin g.script g.minimum j s m h i.none q b (first_at g opening q) (now_at g opening s.scene.content q)
            (untouched q p) missing (wants_of g opening s.picks q b e (commit_start g.script missing) agrees);
        others = λ q p e. (elim missing as (λ t. Agrees g.script s.picks (commit_start g.script t)
            → OtherStands g opening s.picks q (now_at g opening s.scene.content q) (commit_start g.script t)) [
              | None ↦ others_enter g j opening s.picks q p s.scene.content (untouched q p) [] (enters g.script [])
              | Some t ↦ λ a. untouched q p
            ]) agrees;
      };
    }
