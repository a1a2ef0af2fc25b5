-- Each step of a run keeps what holds of its state.
use Rattle.text_and_lists.proofs.Members.{false_true, in_append, in_back, none_or_some, none_some, some_is}
use Rattle.text_and_lists.specs.Members.{IsIn}
use Rattle.job_invariant.proofs.Agreeing.{AgreeBelow, Agrees, IsRead, agrees_tells, prefix_unkept, upload_wanted}
use Rattle.job_invariant.proofs.Deciding.{decides_goes}
use Rattle.job_invariant.proofs.Emptying.{EmptiedBy, still_by, swept_by}
use Rattle.job_invariant.proofs.FilingLaws.{files_go, stranger_same}
use Rattle.job_invariant.proofs.Held.{nth_of}
use Rattle.job_invariant.proofs.JobCommitting.{commit_fits, replaced_under}
use Rattle.job_invariant.proofs.Placed.{one_key}
use Rattle.job_invariant.proofs.Reading.{agrees_read}
use Rattle.job_invariant.proofs.SettingUp.{no_success}
use Rattle.job_invariant.proofs.Shapes.{puts}
use Rattle.job_invariant.proofs.Shows.{HidesAll}
use Rattle.job_invariant.proofs.Turning.{commit_turns}
use Rattle.job_invariant.proofs.Wanted.{same_mark}
use Rattle.job_invariant.specs.Driver.{AllUnder, FitsJobCommit}
use Rattle.job_invariant.specs.Emptying.{EmptiesBy, OnlyThose}
use Rattle.job_invariant.specs.Facts.{Hold}
use Rattle.job_invariant.specs.Filed.{Decides, FileStands, Gone, Wants}
use Rattle.job_invariant.specs.FiledLaws.{Commits}
use Rattle.job_invariant.specs.Stores.{at_key}
use Rattle.job_invariant.specs.Told.{Told, at_event, driver_entry, tell_driver}
use Rattle.job_model.specs.JobScript.{Script}
use Rattle.job_model.specs.Legal.{IsLegal}
use Rattle.job_protocol.proofs.LaneTables.{tabled_tells}
use Rattle.job_protocol.specs.Conflicts.{keeps_of}
use Rattle.job_protocol.specs.JobCommits.{Commit, CommitOver, Completing, Fetching, Marking, Replacing, Reverting, Sets, all_commits}
use Rattle.job_protocol.specs.JobCommits.{commit_asks, commit_tells, fetched, is_no_magic, picks_of, replaced, set_read, set_request}
use Rattle.job_protocol.specs.LaneTable.{Table, Tabled}
use Rattle.job_protocol.specs.Lanes.{nth}
use Rattle.job_protocol.specs.Operations.{Setting}
use Rattle.job_protocol.specs.Outputs.{Picks, wanted_at}
use Rattle.job_protocol.specs.Records.{mark_text}
use Rattle.job_protocol.specs.Seen.{Seen, Times, is_begun, is_marking, is_picking, picks_by, see}
use Rattle.job_protocol.specs.Setup.{dest_prefix}
use Rattle.job_protocol.specs.View.{is_file_path}
use Rattle.protocol_runs.proofs.Leads.{Leads, deals_then, empties_next, fetches, is_marked, leads, marks_then, sweeps_again, sweeps_on}
use Rattle.protocol_runs.proofs.Plain.{commit_unread, driver_begun, is_read_stage, one_scene, plain_mark, plain_picks, sweep_plain}
use Rattle.protocol_runs.proofs.Replacing.{cleared_so, empty_enter, empty_next, keeps_same, others_enter, replaces_tells, still_clear}
use Rattle.protocol_runs.proofs.Replacing.{taken_after}
use Rattle.protocol_runs.proofs.Running.{Cleared, Clearing, CommitShows, Empty, Emptying, InCommit, MarkSays, Marks, OtherStands}
use Rattle.protocol_runs.proofs.Running.{false_marks}
use Rattle.protocol_runs.proofs.Running.{first_at, now_at, wants_of}
use Rattle.list_walk.specs.Walks.{Sweep, sweep_asks, sweep_hears}
use Rattle.magic_paths.specs.Layout.{magic_prefix, success_key}
use Rattle.path_keys.specs.Paths.{below}
use Rattle.s3_types.specs.Answer.{answer, apply}
use Rattle.s3_types.specs.Moment.{IsHonestOutcome, effect}
use Rattle.s3_types.specs.Pages.{begins}
use Rattle.s3_types.specs.Store.{Content, Scene}
use Rattle.s3_types.specs.declared.journal.Entry.{Entry}
use Rattle.s3_types.specs.declared.journal.Outcome.{Outcome}
use Rattle.s3_types.specs.declared.journal.Outcome.TheVariants.{Answered}
use Rattle.s3_types.specs.declared.object.Object.{Object}
use Rattle.s3_types.specs.declared.reply.Reply.{Reply}
use Rattle.s3_types.specs.declared.request.Committer.{Committer}
use Rattle.s3_types.specs.declared.request.Request.{Request}
use Rattle.s3_types.specs.declared.request.Request.TheVariants.{PutObject}
use Rattle.std.proofs.Common.{Bool, List, None, Option, Some, ap, append_assoc, arith, false, inl, inr, length, not, refl, subst, sym, true}
use Rattle.std.proofs.Common.{ℕ, [], ◌&&◌, ◌++◌, ◌<◌, ◌^◌, ◌||◌, ◌∙◌, ◌∷◌, ◌≡◌, ◌≤◌}
use Rattle.std.proofs.Math.Bool.{or-true}
use Rattle.store_frame.specs.Frame.{changed_keys}
use Rattle.store_frame.specs.Held.{HasBucket}

-- A key outside the magic directory stays, if a request changes only keys in it.
pub hidden_same : (w : Script) (s : Scene) → HasBucket s.content w.dest.bucket → (r : Request) → HidesAll w r → (o : Outcome) → (k : List ℕ)
    → begins (magic_prefix w.dest.key w.job) k ≡ false → at_key w (effect s r o).content k ≡ at_key w s.content k
hidden_same w s there r h o k free = stranger_same w s there r o k (λ b i. false_true free (h b k i))

-- During its time a commit picks.
pub commit_picks : (k : Times) (begun : Bool) (n : ℕ) → is_begun k.commit n ≡ true → is_begun k.clean n ≡ false
    → is_picking k begun n ≡ true
commit_picks k begun n e f = ap (λ b. b && not (is_begun k.clean n)) (ap (λ b. begun || b) e ∙ or-true begun) ∙ ap not f

module _ (g : Setting) (j : IsLegal g.script) (opening : Content) (k : Times) (s : Seen) (m : Told) (n : ℕ)
    (begins_it : is_begun k.commit n ≡ true) (unclean : is_begun k.clean n ≡ false) (cleans : m.cleans_at ≡ k.clean)
    (few : s.scene.content.next ≤ 2 ^ 64) (h : Hold g.script g.minimum s m) (c : Commit)
    (i : InCommit g opening s.picks m c) (r : Request) (asked : commit_asks g.script c ≡ Some r) where
  abbrev w : Script
  w = g.script

  abbrev picking : Bool
  picking = is_picking k s.begun n

  -- ---- what the request is

  read_plain : (x : Committer) (t : ℕ) → (is_marking w (set_request x w t) ≡ false) × (changed_keys (set_request x w t) ≡ [])
  read_plain x t = grind arith

  abbrev no_keys : (y : Request) → changed_keys y ≡ [] → (q : List ℕ) → IsIn q (changed_keys y) → ⊥
  no_keys y e q x = subst (λ l. IsIn q l) e x

  -- A commit puts the marker only in its last stage.
  abbrev is_mark_stage : Commit → Bool
  is_mark_stage (Marking sets x) = true
  is_mark_stage _ = false

  no_mark_by : (d : Commit) → is_mark_stage d ≡ false → Agrees w s.picks d → Decides w g.minimum m.publish_sent m.drawn d
      → commit_asks w d ≡ Some r → is_marking w r ≡ false
  no_mark_by (Fetching sets x) z a d e = ap (is_marking w) (sym (some_is e)) ∙ (read_plain w.committer (length sets)).0
  no_mark_by (Replacing sets p ps x y) z a d e = ap (is_marking w) (sym (some_is e)) ∙ (sweep_plain w p x).0
  no_mark_by (Completing sets x xs finished) z a d e = ap (is_marking w) (sym (some_is e))
  no_mark_by (Marking sets x) z a d e = absurd (false_true z refl)
  no_mark_by (Reverting q qs x) z a d e = ap (is_marking w) (sym (some_is e)) ∙ elim (d q (inl refl)).2
      [ inl y ↦ ap (is_marking w) y | inr y ↦ ap (is_marking w) y ]
  no_mark_by (CommitOver end) z a d e = absurd cc

  -- Two paths with the same key are one path.
  same_path_so : (q v b : List ℕ) → below w.dest.key q ≡ below w.dest.key v → wanted_at w s.picks v ≡ Some b → wanted_at w s.picks q ≡ None
      → ⊥
  same_path_so q v b e wants none = none_some (ap (wanted_at w s.picks) (sym (one_key j (q, []) (v, []) e)) ∙ none) wants

  -- Except in a replace mode, the commit changes no path that is not wanted.
  abbrev is_replace_stage : Commit → Bool
  is_replace_stage (Replacing sets p ps x y) = true
  is_replace_stage _ = false

  unwanted_by : (d : Commit) → is_replace_stage d ≡ false → FitsJobCommit w g.minimum m.publish_sent m.drawn d → (v : d ≡ c)
      → Agrees w s.picks d → Decides w g.minimum m.publish_sent m.drawn d → commit_asks w d ≡ Some r → (q : List ℕ) → is_file_path q ≡ true
      → wanted_at w s.picks q ≡ None → IsIn (below w.dest.key q) (changed_keys r) → ⊥
  unwanted_by (Fetching sets x) keeps fits v a d e q p none y = no_keys r (ap changed_keys (sym (some_is e)) ∙
      (read_plain w.committer (length sets)).1) (below w.dest.key q) y
  unwanted_by (Replacing sets o os x z) keeps fits v a d e q p none y = false_true keeps refl
  unwanted_by (Completing sets x xs finished) keeps fits v a d e q p none y =
      let t : Table w.lanes w.retries (length (all_commits sets)) (x ∷ xs) finished = subst (Tabled w) (sym v) i.tabled in
      let u = upload_wanted w s.picks j h sets fits d a (nth (all_commits sets) x.number)
      (nth_of (all_commits sets) x.number (t.within x (inl refl))) in
      elim (subst (λ z. IsIn (below w.dest.key q) (changed_keys z)) (sym (some_is e)) y) [
        | inl is ↦ same_path_so q u.0 u.1 (is ∙ u.2) u.3 none
        | inr no_more ↦ no_more
      ]
  unwanted_by (Marking sets x) keeps fits v a d e q p none y = elim (subst (λ z. IsIn (below w.dest.key q) (changed_keys z))
      (sym (some_is e)) y) [ inl is ↦ no_success j q p is | inr no_more ↦ no_more ]
  unwanted_by (Reverting z zs x) keeps fits v a d e q p none y = let u = a.1 z (inl refl) (below w.dest.key q)
      (subst (λ o. IsIn (below w.dest.key q) (changed_keys o)) (sym (some_is e)) y) in same_path_so q u.0 u.1 u.2 u.3 none
  unwanted_by (CommitOver end) keeps fits v a d e q p none y = absurd cc

  -- ---- what the journal shows after it

  abbrev u : Outcome → Seen
  u o = see w k s (driver_entry n r o)

  scene_is : (o : Outcome) → (u o).scene ≡ effect s.scene r o
  scene_is o = one_scene w k s (driver_entry n r o)

  picks_same : is_read_stage c ≡ false → (o : Outcome) → (u o).picks ≡ s.picks
  picks_same z o = λ p t. plain_picks w k s n r (commit_unread w g.minimum m c z i.decides r asked) o t p

  -- ---- the picks agree with the sets

  never_read : (d : Commit) → is_read_stage d ≡ false → (o : Outcome) → IsRead w s.picks j h d o → ⊥
  never_read d h o g = grind arith

  unanswered : (o : Outcome) → (IsRead w s.picks j h c o → ⊥) → (u o).picks ≡ s.picks → Agrees w (u o).picks (commit_tells w c o)
  unanswered o none same = subst (λ p. Agrees w p (commit_tells w c o)) (sym same)
      (agrees_tells w s.picks j h c i.fits i.tabled i.decides i.agrees o none)

  agrees_at : (d : Commit) → d ≡ c → (o : Outcome) → IsHonestOutcome o (answer s.scene r) → Agrees w (u o).picks (commit_tells w d o)
  agrees_at (Fetching sets x) v (Answered y) honest =
      let is : r ≡ set_request w.committer w (length sets) = sym (some_is (ap (commit_asks w) v ∙ asked)) in
      let low : length sets < w.tasks = subst (Decides w g.minimum m.publish_sent m.drawn) (sym v) i.decides in
      let agree : AgreeBelow w s.picks sets (length sets) = subst (Agrees w s.picks) (sym v) i.agrees in
      subst (λ z. Agrees w (picks_by w picking s.last s.picks z) (fetched w sets (set_read y))) (sym is)
      (agrees_read j h few s.picks sets low agree picking (commit_picks k s.begun n begins_it unclean) y (honest ∙ ap (answer s.scene) is))
  agrees_at (Fetching sets x) v o honest = subst (λ d. Agrees w s.picks (commit_tells w d o)) (sym v)
      (unanswered o (λ y. subst (λ d. IsRead w s.picks j h d o) (sym v) y) refl)
  agrees_at d v o honest = let z : is_read_stage c ≡ false = ap is_read_stage (sym v) in subst
      (λ d. Agrees w (u o).picks (commit_tells w d o)) (sym v) (unanswered o (never_read c z o) (picks_same z o))

  -- ---- all together, as far as no stranger can change it

  pub commit_next : (o : Outcome) → IsHonestOutcome o (answer s.scene r)
      → InCommit g opening (u o).picks (at_event n (tell_driver m r o)) (commit_tells w c o)
  commit_next o honest = record {
    fits = commit_fits w g.minimum k s m n j h c i.fits few r asked o honest;
    tabled = tabled_tells w c o (omega (arith, j.one_lane)) i.tabled;
    turns = commit_turns g j s m h c i.fits i.tabled i.turns r asked o;
    decides = decides_goes j h c i.fits i.tabled i.decides o;
    uncleaned = ap (λ b. b || is_begun m.cleans_at n) i.uncleaned ∙ ap (λ c. is_begun c n) cleans ∙ unclean;
    agrees = agrees_at c refl o honest;
    replaces = replaces_tells g j opening c i.replaces o;
  }

  module _ (gone : Gone g.script s.scene.content m) (es : List Entry) (shown : CommitShows g opening s m.ended es c) where
    abbrev all : Commits w g.minimum s m c
    all = record { hold = h; gone = gone; fits = i.fits; tabled = i.tabled; turns = i.turns; decides = i.decides }

    -- ---- what readers see: the marker

    marking_marks : {sets : Sets} {v : ℕ} {o : Outcome} {d : Commit} (x : Content) (p : Picks) (put : Bool) → Leads w (Marking sets v) o d
        → MarkSays g opening x p put
        → Marks g opening x p put d
    marking_marks x p put is_marked says = says
    marking_marks x p put _ says = says

    unmarked_next : (d : Commit) → is_mark_stage c ≡ false → s.put_mark ≡ false → (o : Outcome)
        → Marks g opening (u o).scene.content (u o).picks (u o).put_mark d
    unmarked_next d z e o = false_marks g opening (u o).scene.content (u o).picks (u o).put_mark
        (plain_mark w k s n r (no_mark_by c z i.agrees i.decides asked) o ∙ e) d

    marks_at : (d : Commit) → d ≡ c → (o : Outcome) → Marks g opening (u o).scene.content (u o).picks (u o).put_mark (commit_tells w d o)
    marks_at (CommitOver end) v o = absurd (none_some refl (ap (commit_asks w) v ∙ asked))
    marks_at (Marking sets x) v o = marking_marks (u o).scene.content (u o).picks (u o).put_mark (leads w (Marking sets x) o) (says o)
      where
        same : (o : Outcome) → (u o).picks ≡ s.picks
        same = picks_same (ap is_read_stage (sym v))

        says_now : (o : Object) → at_key w (apply s.scene r).content (success_key w.dest.key) ≡ Some o → o.bytes ≡ mark_text w s.picks
        says_now o e =
            let is : r ≡ PutObject w.dest.bucket (success_key w.dest.key) (mark_text w (picks_of sets)) None = sym
            (some_is (ap (commit_asks w) v ∙ asked)) in
            let put_there =
            ap (λ y. at_key w (apply s.scene y).content (success_key w.dest.key)) is
            ∙ (puts w s.scene h.there.0 h.there.1 (success_key w.dest.key) (mark_text w (picks_of sets)) None).here in
            ap (λ (y : Object). y.bytes) (some_is (sym e ∙ put_there)) ∙ same_mark w s.picks (picks_of sets)
            (λ t l. sym ((subst (Agrees w s.picks) (sym v) i.agrees) t l))

        says : (o : Outcome) → MarkSays g opening (u o).scene.content (u o).picks (u o).put_mark
        says o = grind (arith, says_now, same, Marks)
    marks_at d v o = unmarked_next (commit_tells w d o) (ap is_mark_stage (sym v))
        (subst (Marks g opening s.scene.content s.picks s.put_mark) (sym v) shown.marks) o

    -- ---- files

    -- Before the first completion all is as it was.
    first_same : (sets : Sets) (x : ℕ) → Fetching sets x ≡ c → (q : List ℕ) → is_file_path q ≡ true
        → now_at g opening s.scene.content q ≡ first_at g opening q
    first_same sets x v q p = elim (none_or_some (wanted_at w s.picks q)) [
      | inl e ↦ subst (OtherStands g opening s.picks q (now_at g opening s.scene.content q)) (sym v) (shown.files.others q p e)
      | inr b ↦ subst (FileStands w q b.0 (first_at g opening q) es (now_at g opening s.scene.content q) m.ended) (sym v)
          (shown.files.wanted q p b.0 b.1)
    ]

    -- So the same holds with the picks after the entry.
    old_files : (d : Commit) → d ≡ c → (o : Outcome) → (q b : List ℕ) → is_file_path q ≡ true → wanted_at w (u o).picks q ≡ Some b
        → FileStands w q b (first_at g opening q) es (now_at g opening s.scene.content q) m.ended d × Wants w q b d
    old_files (Fetching sets x) v o q b p e = (first_same sets x v q p, tt)
    old_files d v o q b p e =
        let want : wanted_at w s.picks q ≡ Some b = ap (λ x. wanted_at w x q) (sym (picks_same (ap is_read_stage (sym v)) o)) ∙ e in (
          subst (FileStands w q b (first_at g opening q) es (now_at g opening s.scene.content q) m.ended) (sym v)
              (shown.files.wanted q p b want),
          wants_of g opening s.picks q b want d (subst (Agrees w s.picks) (sym v) i.agrees),
        )

    -- A path that is not wanted.
    abbrev after : Outcome → List ℕ → Option Object
    after o q = at_key w (effect s.scene r o).content (below w.dest.key q)

    abbrev Others : Outcome → List ℕ → Commit → Type 0
    Others o q d = OtherStands g opening (u o).picks q (after o q) d

    -- ---- while it replaces

    module _ (sets : Sets) (p : List ℕ) (ps : List (List ℕ)) (x : Sweep) (y : ℕ) (v : Replacing sets p ps x y ≡ c) where
      is_sweep : r ≡ sweep_asks w.dest.bucket p x
      is_sweep = sym (some_is (ap (commit_asks w) v ∙ asked))

      state : Emptying g opening s.scene.content sets p ps x
      state = subst (Empty g opening s.scene.content) (sym v) shown.empty

      under : AllUnder (dest_prefix w) (p ∷ ps)
      under = (subst (FitsJobCommit w g.minimum m.publish_sent m.drawn) (sym v) i.fits).1

      agree : AgreeBelow w s.picks sets w.tasks
      agree = subst (Agrees w s.picks) (sym v) i.agrees

      same_picks : (o : Outcome) → (u o).picks ≡ s.picks
      same_picks = picks_same (ap is_read_stage (sym v))

      clearing_next : (o : Outcome) (q : List ℕ) → is_file_path q ≡ true → wanted_at w (u o).picks q ≡ None
          → Clearing g opening (u o).picks q (after o q)
      clearing_next o q f e =
          let none : wanted_at w s.picks q ≡ None = ap (λ z. wanted_at w z q) (sym (same_picks o)) ∙ e in
          let old : Clearing g opening s.picks q (now_at g opening s.scene.content q) = subst
          (OtherStands g opening s.picks q (now_at g opening s.scene.content q)) (sym v) (shown.files.others q f none) in
          let t = taken_after g j opening s.scene h.there p x state.under o (below w.dest.key q) in
          elim t [
            | inl same ↦
                let at : after o q ≡ now_at g opening s.scene.content q = ap (λ z. at_key w (effect s.scene z o).content
                (below w.dest.key q)) is_sweep ∙ same in
                elim old [ inl z ↦ inl (at ∙ z) | inr z ↦ inr (at ∙ z.0, ap (λ k. keeps_of w k q) (same_picks o) ∙ z.1) ]
            | inr gone ↦ inr (
              ap (λ z. at_key w (effect s.scene z o).content (below w.dest.key q)) is_sweep ∙ gone.0,
              ap
                  (λ z. keeps_of w z q) (same_picks o) ∙ keeps_same g j opening s.picks sets agree q ∙ prefix_unkept j (picks_of sets) q p
                  (subst (IsIn p) state.parts (in_back p state.behind (p ∷ ps) (inl refl))) gone.1,
            )
          ]

      abbrev content_after : Outcome → Content
      content_after o = (effect s.scene r o).content

      clear_after : (o : Outcome) (d : List ℕ) → IsIn d state.behind → OnlyThose w d (is_no_magic w) (content_after o) []
      clear_after o d z =
          subst (λ k. OnlyThose w d (is_no_magic w) (effect s.scene k o).content []) (sym is_sweep)
          (still_clear g j opening s.scene h.there p x state.under o d (state.clear d z))

      -- The same prefix is still being emptied.
      emptying_again : (o : Outcome) → Emptying g opening (content_after o) sets p ps x
      emptying_again o = record {
        behind = state.behind;
        parts = state.parts;
        clear = clear_after o;
        under = state.under;
        sweeps = subst (λ k. EmptiesBy w p (is_no_magic w) (effect s.scene k o).content x) (sym is_sweep)
            (still_by w s.scene h.there p (is_no_magic w) x state.under state.sweeps o);
      }

      -- After an answer.
      emptied_now : (a : Reply) → a ≡ answer s.scene r → (t : Option Sweep) → sweep_hears (is_no_magic w) x a ≡ t
          → EmptiedBy w p (is_no_magic w) (apply s.scene r).content t
      emptied_now a due t is =
          subst (EmptiedBy w p (is_no_magic w) (apply s.scene r).content) is
          (subst (λ k. EmptiedBy w p (is_no_magic w) (apply s.scene k).content (sweep_hears (is_no_magic w) x a)) (sym is_sweep)
          (swept_by w s.scene h.there p (is_no_magic w) x state.under state.sweeps a (due ∙ ap (answer s.scene) is_sweep)))

      clear_more : (a : Reply) → a ≡ answer s.scene r → sweep_hears (is_no_magic w) x a ≡ None → (d : List ℕ)
          → IsIn d (state.behind ++ p ∷ [])
          → OnlyThose w d (is_no_magic w) (apply s.scene r).content []
      clear_more a due none d z = elim (in_append d state.behind (p ∷ []) z) [
        | inl old ↦ clear_after (Answered a) d old
        | inr new ↦ elim new [
          | inl is ↦ subst (λ k. OnlyThose w k (is_no_magic w) (apply s.scene r).content []) (sym is)
              (emptied_now a due None none)
          | inr none ↦ absurd none
        ]
      ]

      -- After the last prefix all is emptied.
      all_cleared : (a : Reply) → a ≡ answer s.scene r → sweep_hears (is_no_magic w) x a ≡ None → [] ≡ ps → (q : List ℕ)
          → is_file_path q ≡ true
          → Clearing g opening (u (Answered a)).picks q (after (Answered a) q)
          → Cleared g opening (u (Answered a)).picks q (after (Answered a) q)
      all_cleared a due none last q f z =
          let all : state.behind ++ p ∷ [] ≡ replaced w.committer w.mode w (picks_of sets) = ap (λ l. state.behind ++ (p ∷ l)) last ∙
          state.parts in
          cleared_so g j opening (u (Answered a)).picks sets (subst (λ k. AgreeBelow w k sets w.tasks) (sym (same_picks (Answered a)))
          agree) (apply s.scene r).content
          (λ d b. clear_more a due none d (subst (IsIn d) (sym all) b)) q f z

    -- ---- what is not wanted, and what is left of prefixes

    still_other : (d : Commit) → d ≡ c → (o : Outcome) (q : List ℕ) → is_file_path q ≡ true → wanted_at w (u o).picks q ≡ None
        → Others o q d
    still_other (Fetching sets x) v o q p e =
        let is : r ≡ set_request w.committer w (length sets) = sym (some_is (ap (commit_asks w) v ∙ asked)) in
        stranger_same w s.scene h.there r o (below w.dest.key q) (λ b y. no_keys r
        (ap changed_keys is ∙ (read_plain w.committer (length sets)).1) (below w.dest.key q) y) ∙ first_same sets x v q p
    still_other (Replacing sets y ys x z) v o q p e = clearing_next sets y ys x z v o q p e
    still_other d v o q p e =
        let picks = picks_same (ap is_read_stage (sym v)) o in
        let none : wanted_at w s.picks q ≡ None = ap (λ x. wanted_at w x q) (sym picks) ∙ e in
        let same : after o q ≡ now_at g opening s.scene.content q =
        stranger_same w s.scene h.there r o (below w.dest.key q) (λ b y. unwanted_by c (ap is_replace_stage (sym v)) i.fits refl i.agrees
        i.decides asked q p none y) in
        let old : OtherStands g opening s.picks q (now_at g opening s.scene.content q) d = subst
        (OtherStands g opening s.picks q (now_at g opening s.scene.content q)) (sym v) (shown.files.others q p none) in
        subst (λ x. OtherStands g opening x q (after o q) d) (sym picks) (subst (λ x. OtherStands g opening s.picks q x d) (sym same) old)

    others_leads : {b d : Commit} {o : Outcome} → Leads w b o d → b ≡ c → IsHonestOutcome o (answer s.scene r) → Agrees w (u o).picks d
        → (q : List ℕ) → is_file_path q ≡ true
        → Others o q b → Others o q d
    others_leads {o = o} (fetches {sets = sets} y e n) v honest a q p f = others_enter g j opening (u o).picks q p (apply s.scene r).content
        f (sets ++ y ∷ []) n a
    others_leads (deals_then {sets = sets} {p = x} {s = t} {n = n} {x = y} e i) v honest a q p f = all_cleared sets x [] t n v y honest e
        refl q p f
    others_leads (marks_then {sets = sets} {p = x} {s = t} {n = n} {x = y} e) v honest a q p f = all_cleared sets x [] t n v y honest e refl
        q p f
    others_leads _ v honest a q p f = f

    empty_leads : {b d : Commit} {o : Outcome} → Leads w b o d → b ≡ c → IsHonestOutcome o (answer s.scene r)
        → Empty g opening (effect s.scene r o).content d
    empty_leads (fetches {sets = sets} y e n) v honest =
        empty_enter g j opening (apply s.scene r).content (sets ++ y ∷ []) (replaced_under j w.committer w.mode (picks_of (sets ++ y ∷ [])))
        n
    empty_leads (sweeps_on {sets = sets} {p = p} {ps = ps} {s = x} {t = t} {n = n} {x = y} e) v honest =
        let now = emptied_now sets p ps x n v y honest (Some t) e in
        let st = state sets p ps x n v in
        record { behind = st.behind; parts = st.parts; clear = clear_after sets p ps x n v (Answered y); under = now.0; sweeps = now.1 }
    empty_leads (empties_next {sets = sets} {p = p} {q = q} {ps = ps} {s = x} {n = n} {x = y} e) v honest =
        let st = state sets p (q ∷ ps) x n v in
        empty_next g j opening (apply s.scene r).content sets (st.behind ++ p ∷ []) q ps
        (append_assoc st.behind (p ∷ []) (q ∷ ps) ∙ st.parts)
        (clear_more sets p (q ∷ ps) x n v y honest e) (under sets p (q ∷ ps) x n v q (inr (inl refl)))
    empty_leads {o = o} (sweeps_again {sets = sets} {p = p} {ps = ps} {s = x} {n = n}) v honest = emptying_again sets p ps x n v o
    empty_leads _ v honest = tt

    -- ---- all together

    pub commit_shown : (o : Outcome) → IsHonestOutcome o (answer s.scene r)
        → CommitShows g opening (u o) (tell_driver m r o).ended (es ++ driver_entry n r o ∷ []) (commit_tells w c o)
    commit_shown o honest =
        let agrees = agrees_at c refl o honest in
        record {
          marks = marks_at c refl o;
          early = λ e. absurd (false_true e (driver_begun w k s n r o ∙ ap (λ b. s.begun || b) begins_it ∙ or-true s.begun));
          empty = subst (λ (x : Scene). Empty g opening x.content (commit_tells w c o)) (sym (scene_is o))
              (empty_leads (leads w c o) refl honest);
          files = record {
            wanted = λ q p b e.
                let old = old_files c refl o q b p e in
                let now = files_go g j s m c all few q b (first_at g opening q) es old.1 old.0 r asked n o honest
                (wants_of g opening (u o).picks q b e (commit_tells w c o) agrees) in
                subst (λ (x : Scene). FileStands w q b (first_at g opening q) (es ++ driver_entry n r o ∷ []) (now_at g opening x.content q)
                (tell_driver m r o).ended (commit_tells w c o)) (sym (scene_is o)) now;
            others = λ q p e. subst (λ (x : Scene). OtherStands g opening (u o).picks q (now_at g opening x.content q) (commit_tells w c o))
                (sym (scene_is o)) (others_leads (leads w c o) refl honest agrees q p (still_other c refl o q p e));
          };
        }
