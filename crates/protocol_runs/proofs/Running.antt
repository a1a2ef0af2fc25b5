-- What holds of the state of a run: before its set-up is done, while its commit goes on, and while it cleans up. No stranger can change the
-- progress of the job. What readers see is said only of runs in which no stranger sends.
use Rattle.text_and_lists.proofs.Members.{false_true, none_or_some, none_some, true_or_false}
use Rattle.text_and_lists.specs.Members.{IsIn}
use Rattle.job_invariant.proofs.Agreeing.{Agrees, decided_so}
use Rattle.job_invariant.proofs.FilePaths.{file_path}
use Rattle.job_invariant.proofs.Filing.{wanted_upload}
use Rattle.job_invariant.proofs.Wanted.{same_wanted, wanted_of}
use Rattle.job_invariant.specs.Driver.{FitsClean, FitsJobCommit, SweepsUnder}
use Rattle.job_invariant.specs.Emptying.{EmptiesBy, OnlyThose, SetsUp}
use Rattle.job_invariant.specs.Facts.{Hold, IsAttempt}
use Rattle.job_invariant.specs.Filed.{Decides, FileLeft, FileStands, Gone, IsBefore, Wants, whole_of}
use Rattle.job_invariant.specs.Fits.{Fits}
use Rattle.job_invariant.specs.Spares.{FitsSparing}
use Rattle.job_invariant.specs.inner.Spares.{Filed}
use Rattle.job_invariant.specs.Stores.{at_id, at_key}
use Rattle.job_invariant.specs.Told.{Told, known, nothing_told}
use Rattle.job_invariant.specs.Turning.{NoneEnded, Turns}
use Rattle.job_model.specs.Attempts.{Who}
use Rattle.job_model.specs.JobScript.{Script}
use Rattle.job_model.specs.Legal.{IsLegal}
use Rattle.job_model.specs.declared.ends.CommitEnd.{CommitEnd}
use Rattle.job_protocol.specs.Conflicts.{keeps_of}
use Rattle.job_protocol.specs.JobCommits.{Commit, CommitOver, Completing, Fetching, Marking, Replacing, Reverting, Sets, is_no_magic}
use Rattle.job_protocol.specs.JobCommits.{is_untouched, picks_of, replaced}
use Rattle.job_protocol.specs.LaneTable.{Tabled}
use Rattle.job_protocol.specs.Operations.{Operation, Setting, TheCheck, TheClean, TheCommit, TheSetup, TheSparing}
use Rattle.job_protocol.specs.Outputs.{Picks, is_decided, wanted_at}
use Rattle.job_protocol.specs.Records.{mark_text}
use Rattle.job_protocol.specs.Scope.{NoClusterFile}
use Rattle.job_protocol.specs.Seen.{Seen, is_marked}
use Rattle.job_protocol.specs.Setup.{Setup, SetupOver}
use Rattle.job_protocol.specs.View.{Same, is_file_path, view}
use Rattle.job_spec.specs.Headline.{Kept, Whole, done, or_else}
use Rattle.job_spec.specs.OperationEnds.{NoDeletionWorn, OnlyOpening}
use Rattle.protocol_runs.specs.Runs.{Stand}
use Rattle.list_walk.specs.Walks.{Sweep}
use Rattle.magic_paths.specs.Layout.{success_key}
use Rattle.path_keys.specs.Paths.{below}
use Rattle.retries.specs.Retries.{Retried}
use Rattle.s3_types.specs.Store.{Content, Upload}
use Rattle.s3_types.specs.declared.journal.Entry.{Entry}
use Rattle.s3_types.specs.declared.object.Object.{Object}
use Rattle.std.proofs.Common.{Bool, List, None, Option, Some, ap, arith, cond, false, inl, inr, refl, sym, true, ℕ, [], ◌++◌, ◌<◌, ◌∙◌, ◌∷◌}
use Rattle.std.proofs.Common.{◌≡◌, ◌⊎◌}
use Rattle.std.proofs.lemmas.Bool.{and_parts, not-true}
use Rattle.std.specs.Option.{option_map}
use Rattle.job_model.specs.declared.ends.CommitEnd.TheVariants as commits
use Rattle.job_model.specs.declared.ends.FaultStage.TheVariants as stages
use Rattle.job_model.specs.declared.ends.SetupEnd.TheVariants as setups

module _ (g : Setting) (opening : Content) where
  abbrev pub w : Script
  w = g.script

  abbrev pub first_at : List ℕ → Option Object
  first_at q = at_key w opening (below w.dest.key q)

  abbrev pub now_at : Content → List ℕ → Option Object
  now_at c q = at_key w c (below w.dest.key q)

  -- At the paths where files are shown, the objects are those of the opening.
  abbrev pub Untouched : Content → Type 0
  Untouched c = (q : List ℕ) → is_file_path q ≡ true → now_at c q ≡ first_at q

  -- The job's own marker, if it exists, says what was wanted.
  abbrev pub MarkSays : Content → Picks → Bool → Type 0
  MarkSays c picks put = put ≡ true → (o : Object) → at_key w c (success_key w.dest.key) ≡ Some o → o.bytes ≡ mark_text w picks

  abbrev pub Marks : Content → Picks → Bool → Commit → Type 0
  Marks c picks put (Marking sets n) = MarkSays c picks put
  Marks c picks put (CommitOver commits.Committed) = MarkSays c picks put
  Marks c picks put (CommitOver (commits.StoreFault stages.Success)) = MarkSays c picks put
  Marks c picks put _ = put ≡ false

  -- If the marker was not put, the commit is in no stage that has put it.
  pub false_marks : (x : Content) (p : Picks) (put : Bool) → put ≡ false → (d : Commit) → Marks x p put d
  false_marks x p put h d = grind arith

  -- What the picks want, the commit wants.
  pub wants_of : (p : Picks) (q b : List ℕ) → wanted_at w p q ≡ Some b → (d : Commit) → Agrees w p d → Wants w q b d
  wants_of p q b h d g = grind (arith, same_wanted)

  -- The object at a path that is not wanted is that of the opening if the mode keeps it, else there is none.
  abbrev pub Cleared : Picks → List ℕ → Option Object → Type 0
  Cleared picks q now = now ≡ cond (keeps_of w picks q) (first_at q) None

  -- Until all is deleted that the mode does not keep, it may still exist.
  abbrev pub Clearing : Picks → List ℕ → Option Object → Type 0
  Clearing picks q now = (now ≡ first_at q) ⊎ ((now ≡ None) × (keeps_of w picks q ≡ false))

  abbrev pub OtherStands : Picks → List ℕ → Option Object → Commit → Type 0
  OtherStands picks q now (Fetching sets n) = now ≡ first_at q
  OtherStands picks q now (Replacing sets p ps s n) = Clearing picks q now
  OtherStands picks q now (CommitOver commits.Committed) = Cleared picks q now
  OtherStands picks q now (CommitOver (commits.StoreFault stages.Success)) = Cleared picks q now
  OtherStands picks q now (CommitOver (commits.StoreFault stages.Complete)) = Cleared picks q now
  OtherStands picks q now (CommitOver (commits.StoreFault stages.Delete)) = Clearing picks q now
  OtherStands picks q now (CommitOver _) = now ≡ first_at q
  OtherStands picks q now _ = Cleared picks q now

  -- The object at a wanted path is as the commit says, and so is the one at any other path.
  pub record Files (c : Content) (picks : Picks) (ended : ℕ → Bool) (es : List Entry) (op : Commit) : Type 0 where
    pub wanted : (q : List ℕ) → is_file_path q ≡ true → (b : List ℕ) → wanted_at w picks q ≡ Some b
        → FileStands w q b (first_at q) es (now_at c q) ended op
    pub others : (q : List ℕ) → is_file_path q ≡ true → wanted_at w picks q ≡ None → OtherStands picks q (now_at c q) op

  -- The progress of a replace mode: below the prefixes that it has emptied, nothing is left that is to go.
  pub record Emptying (c : Content) (sets : Sets) (p : List ℕ) (ps : List (List ℕ)) (t : Sweep) : Type 0 where
    pub behind : List (List ℕ)
    pub parts : behind ++ (p ∷ ps) ≡ replaced w.committer w.mode w (picks_of sets)
    pub clear : (d : List ℕ) → IsIn d behind → OnlyThose w d (is_no_magic w) c []
    pub under : SweepsUnder p t
    pub sweeps : EmptiesBy w p (is_no_magic w) c t

  abbrev pub Empty : Content → Commit → Type 0
  Empty c (Replacing sets p ps t n) = Emptying c sets p ps t
  Empty c _ = Unit {0}

  -- ---- the progress of a run, among strangers

  -- In a replace mode the prefixes that are left are the last ones of those that the sets name.
  abbrev pub Replaces : Commit → Type 0
  Replaces (Replacing sets p ps t n) = (behind : List (List ℕ)) × (behind ++ (p ∷ ps) ≡ replaced w.committer w.mode w (picks_of sets))
  Replaces _ = Unit {0}

  -- While the commit goes on, and when it is over.
  pub record InCommit (picks : Picks) (m : Told) (op : Commit) : Type 0 where
    pub fits : FitsJobCommit w g.minimum m.publish_sent m.drawn op
    pub tabled : Tabled w op
    pub turns : Turns m op
    pub decides : Decides w g.minimum m.publish_sent m.drawn op
    pub uncleaned : m.cleaned ≡ false
    pub agrees : Agrees w picks op
    pub replaces : Replaces op

  -- Before the commit begins.
  pub record Idle (s : Seen) (m : Told) : Type 0 where
    pub none : NoneEnded m
    pub uncleaned : m.cleaned ≡ false
    pub unmarked : s.put_mark ≡ false
    pub unpicked : (t : ℕ) → s.picks t ≡ None

  abbrev pub At : Option Operation → Seen → Told → Type 0
  At (Some (TheSetup t)) s m = (t.operation ≡ SetupOver setups.Done) × Idle s m
  At (Some (TheCommit op)) s m = InCommit s.picks m op
  At (Some (TheClean t)) s m = FitsClean w m.cleaned t.operation
  At (Some (TheCheck t)) s m = Idle s m
  At (Some (TheSparing t)) s m = FitsSparing w m.drawn t.operation
  At _ s m = ⊥

  -- While nobody of the job has sent anything but the driver's set-up.
  pub record Early (x : Stand) : Type 0 where
    pub told : x.told ≡ nothing_told x.told.cleans_at
    pub last : (t : ℕ) → x.seen.last t ≡ None
    pub unmarked : x.seen.put_mark ≡ false
    pub unbegun : x.seen.begun ≡ false
    pub unpicked : (t : ℕ) → x.seen.picks t ≡ None
    pub fresh : (id : ℕ) (y : Upload) → at_id w x.seen.scene.content id ≡ Some y → id < x.seen.scene.content.next
    pub least : x.seen.scene.content.minimum ≡ g.minimum
    pub none : (a : Who) → x.attempts a ≡ None
    pub files : NoClusterFile w x.seen.scene
    pub setup : (x.driver ≡ None) ⊎ ((t : Retried Setup) × (x.driver ≡ Some (TheSetup t)) × SetsUp w x.seen.scene.content t.operation)

  -- Once the set-up is done.
  pub record Late (x : Stand) : Type 0 where
    pub hold : Hold w g.minimum x.seen x.told
    -- Until the driver cleans up.
    pub gone : x.told.cleaned ≡ false → Gone w x.seen.scene.content x.told
    pub fine : (a : Who) (op : Operation) → x.attempts a ≡ Some op → IsAttempt w a × Fits w g.minimum a x.told op
    pub new : (a : Who) → x.attempts a ≡ None → (known x.told a ≡ record { drawn = []; put_sent = false; publish_sent = false })
        × (x.told.undone a ≡ false)
    pub filed : Filed w x.seen.scene
    pub driver : At x.driver x.seen x.told

  -- ---- what readers see, if no stranger sends

  pub record CommitShows (s : Seen) (ended : ℕ → Bool) (es : List Entry) (op : Commit) : Type 0 where
    pub marks : Marks s.scene.content s.picks s.put_mark op
    pub early : s.begun ≡ false → Untouched s.scene.content
    pub empty : Empty s.scene.content op
    pub files : Files s.scene.content s.picks ended es op

  abbrev pub Shows : Option Operation → Seen → Told → List Entry → Type 0
  Shows None s m es = Untouched s.scene.content
  Shows (Some (TheSetup t)) s m es = Untouched s.scene.content
  Shows (Some (TheCommit op)) s m es = CommitShows s m.ended es op
  Shows (Some (TheClean t)) s m es = Kept w opening s
  Shows (Some (TheCheck t)) s m es = Untouched s.scene.content × (es ≡ [])
  Shows (Some (TheSparing t)) s m es = Kept w opening s
  Shows (Some _) s m es = ⊥

  -- ---- what readers see

  shown_is : (c : Content) (q : List ℕ) → is_file_path q ≡ true → view w.dest c q ≡ option_map (λ (o : Object). o.bytes) (now_at c q)
  shown_is c q h = ap (λ b. cond b (option_map (λ (o : Object). o.bytes) (now_at c q)) None) h

  hidden_is : (c : Content) (q : List ℕ) → is_file_path q ≡ false → view w.dest c q ≡ None
  hidden_is c q h = ap (λ b. cond b (option_map (λ (o : Object). o.bytes) (now_at c q)) None) h

  view_same : (c d : Content) (q : List ℕ) → (is_file_path q ≡ true → now_at c q ≡ now_at d q) → view w.dest c q ≡ view w.dest d q
  view_same c d q h = elim (true_or_false (is_file_path q)) [
    | inl e ↦ shown_is c q e ∙ ap (λ x. option_map (λ (o : Object). o.bytes) x) (h e) ∙ sym (shown_is d q e)
    | inr e ↦ hidden_is c q e ∙ sym (hidden_is d q e)
  ]

  pub untouched_shows : (c : Content) → Untouched c → Same (view w.dest c) (view w.dest opening)
  untouched_shows c h q = view_same c opening q (h q)

  unmarked_not : (s : Seen) → s.put_mark ≡ false → is_marked w s ≡ true → ⊥
  unmarked_not s e h = false_true e (and_parts s.put_mark _ h).0

  pub kept_untouched : (s : Seen) → Untouched s.scene.content → s.put_mark ≡ false → Kept w opening s
  kept_untouched s u e = let same = untouched_shows s.scene.content u in record {
    before = λ b. same;
    between = λ b. record {
      untouched = λ e. same;
      only = λ e p b q. inl (sym (same p) ∙ q);
      kept = λ e p b q k n.
          same p ∙ q;
    };
    whole = λ h. absurd (unmarked_not s e h);
  }

  -- ---- the commit

  module _ (j : IsLegal w) (s : Seen) (m : Told) (h : Hold w g.minimum s m) (es : List Entry) where
    abbrev picks : Picks
    picks = s.picks

    abbrev c : Content
    c = s.scene.content

    abbrev Mixed : List ℕ → List ℕ → Type 0
    Mixed q b = IsBefore (first_at q) (now_at c q) ⊎ (now_at c q ≡ Some (whole_of b))

    mixed_left : (q b : List ℕ) (end : CommitEnd) → FileLeft w q b (first_at q) es (now_at c q) end → Mixed q b
    mixed_left q b end h = grind arith

    -- At each wanted path there is the old object, none, or the whole file.
    pub mixed : (q b : List ℕ) → wanted_at w picks q ≡ Some b → (d : Commit) → FitsJobCommit w g.minimum m.publish_sent m.drawn d
        → Agrees w picks d → FileStands w q b (first_at q) es (now_at c q) m.ended d → Mixed q b
    mixed q b e (Fetching sets n) fits a f = inl (inl f)
    mixed q b e (Replacing sets p ps x n) fits a f = inl f
    mixed q b e (Completing sets x xs finished) fits a f =
        let u = wanted_upload j h q b sets fits (wants_of picks q b e (Completing sets x xs finished) a) in
        let v = f u.upload u.one_of u.goes_to in
        elim (true_or_false (m.ended u.upload.upload)) [ inl y ↦ inr (v.0 y) | inr y ↦ inl (v.1 y) ]
    mixed q b e (Marking sets n) fits a f = inr f
    mixed q b e (Reverting r rs n) fits a (few, inl f) = inl f
    mixed q b e (Reverting r rs n) fits a (few, inr f) = inr f.0
    mixed q b e (CommitOver end) fits a f = mixed_left q b end f

    first_by : (q : List ℕ) → ((b : List ℕ) → wanted_at w picks q ≡ Some b → now_at c q ≡ first_at q)
        → (wanted_at w picks q ≡ None → now_at c q ≡ first_at q)
        → now_at c q ≡ first_at q
    first_by q wanted other = elim (none_or_some (wanted_at w picks q)) [ inl none ↦ other none | inr b ↦ wanted b.0 b.1 ]

    -- A commit that ended so before its first completion has changed nothing.
    pub left_still : (end : CommitEnd) → CommitShows s m.ended es (CommitOver end) → is_untouched end ≡ true → Untouched c
    left_still (commits.Missing t) v before q p = first_by q (v.files.wanted q p) (v.files.others q p)
    left_still (commits.SamePath x t u) v before q p = first_by q (v.files.wanted q p) (v.files.others q p)
    left_still (commits.StoreFault stages.Read) v before q p = first_by q (v.files.wanted q p) (v.files.others q p)
    left_still _ v before q p = absurd (false_true refl before)

    -- Before the first completion nothing has changed.
    still : is_decided w picks ≡ false → (d : Commit) → InCommit picks m d → CommitShows s m.ended es d → Untouched c
    still e (Fetching sets n) i v q p = first_by q (v.files.wanted q p) (v.files.others q p)
    still e (Replacing sets o os x n) i v q p = absurd (false_true e (decided_so w picks sets i.decides i.agrees))
    still e (Completing sets x xs finished) i v q p = absurd (false_true e (decided_so w picks sets i.decides i.agrees))
    still e (Marking sets n) i v q p = absurd (false_true e (decided_so w picks sets i.decides i.agrees))
    still e (Reverting r rs n) i v q p = absurd (false_true e i.agrees.0)
    still e (CommitOver end) i v q p = elim (true_or_false (is_untouched end))
        [ inl y ↦ left_still end v y q p | inr y ↦ absurd (false_true e (i.agrees y)) ]

    -- ---- and so the headline holds

    shown_path : (q b : List ℕ) → wanted_at w picks q ≡ Some b → is_file_path q ≡ true
    shown_path q b e = let x = wanted_of w picks q b e in ap is_file_path x.path ∙ file_path j _ x.file x.from.mine

    -- A path that is not wanted is as before, or it is not kept and empty.
    cleared_clearing : (q : List ℕ) → Cleared picks q (now_at c q) → Clearing picks q (now_at c q)
    cleared_clearing q f = elim (true_or_false (keeps_of w picks q)) [
      | inl keep ↦ inl (f ∙ ap (λ t. cond t (first_at q) None) keep)
      | inr drop ↦ inr (f ∙ ap (λ t. cond t (first_at q) None) drop, drop)
    ]

    other_clearing : (q : List ℕ) (d : Commit) → OtherStands picks q (now_at c q) d → Clearing picks q (now_at c q)
    other_clearing q d h = grind (arith, cleared_clearing)

    module _ (op : Commit) (i : InCommit picks m op) (shows : CommitShows s m.ended es op) where
      clearing : (q : List ℕ) → is_file_path q ≡ true → wanted_at w picks q ≡ None → Clearing picks q (now_at c q)
      clearing q p e = other_clearing q op (shows.files.others q p e)

      only_shown : (q b : List ℕ) → view w.dest c q ≡ Some b → (view w.dest opening q ≡ Some b) ⊎ (wanted_at w picks q ≡ Some b)
      only_shown q b y = elim (true_or_false (is_file_path q)) [
        | inr no_path ↦ absurd (none_some (hidden_is c q no_path) y)
        | inl p ↦
            let now : option_map (λ (o : Object). o.bytes) (now_at c q) ≡ Some b = sym (shown_is c q p) ∙ y in
            let was : now_at c q ≡ first_at q → view w.dest opening q ≡ Some b = λ same. shown_is opening q p ∙ ap
            (option_map (λ (o : Object). o.bytes)) (sym same) ∙ now in
            let gone : now_at c q ≡ None → ⊥ = λ none. none_some (ap (option_map (λ (o : Object). o.bytes)) none) now in
            elim (none_or_some (wanted_at w picks q)) [
              | inl e ↦ elim (clearing q p e) [ inl same ↦ inl (was same) | inr none ↦ absurd (gone none.0) ]
              | inr v ↦ elim (mixed q v.0 v.1 op i.fits i.agrees (shows.files.wanted q p v.0 v.1)) [
                | inl before ↦ elim before [ inl same ↦ inl (was same) | inr none ↦ absurd (gone none) ]
                | inr whole ↦ inr (v.1 ∙ sym (ap (option_map (λ (o : Object). o.bytes)) whole) ∙ now)
              ]
            ]
      ]

    -- All wanted files exist.
    abbrev AllWhole : Type 0
    AllWhole = (q b : List ℕ) → wanted_at w picks q ≡ Some b → now_at c q ≡ Some (whole_of b)

    abbrev AllCleared : Type 0
    AllCleared = (q : List ℕ) → is_file_path q ≡ true → wanted_at w picks q ≡ None → Cleared picks q (now_at c q)

    all_shown : AllCleared → AllWhole → Same (view w.dest c) (done w picks (view w.dest opening))
    all_shown clear whole q = elim (none_or_some (wanted_at w picks q)) [
      | inr b ↦ shown_is c q (shown_path q b.0 b.1) ∙ ap (option_map (λ (o : Object). o.bytes)) (whole q b.0 b.1) ∙ ap
          (λ o. or_else o (cond (keeps_of w picks q) (view w.dest opening q) None)) (sym b.1)
      | inl e ↦ elim (true_or_false (keeps_of w picks q)) [
        | inl keep ↦ view_same c opening q (λ p. clear q p e ∙ ap (λ t. cond t (first_at q) None) keep) ∙ ap
            (λ t. cond t (view w.dest opening q) None) (sym keep)
        | inr drop ↦ elim (true_or_false (is_file_path q)) [
          | inl p ↦ shown_is c q p ∙ ap (option_map (λ (o : Object). o.bytes)) (clear q p e ∙ ap (λ t. cond t (first_at q) None) drop)
          | inr no_path ↦ hidden_is c q no_path
        ] ∙ ap (λ t. cond t (view w.dest opening q) None) (sym drop)
      ] ∙ ap (λ o. or_else o (cond (keeps_of w picks q) (view w.dest opening q) None)) (sym e)
    ]

    whole_now : is_decided w picks ≡ true → MarkSays c picks s.put_mark → AllCleared → AllWhole → is_marked w s ≡ true
        → Whole w (view w.dest opening) picks c
    whole_now h g e f p = grind (arith, and_parts, not-true, all_shown)

    whole_by : (d : Commit) → InCommit picks m d → CommitShows s m.ended es d → is_marked w s ≡ true → Whole w (view w.dest opening) picks c
    whole_by (Marking sets n) i v e = whole_now (decided_so w picks sets i.decides i.agrees) v.marks v.files.others
        (λ q b y. v.files.wanted q (shown_path q b y) b y) e
    whole_by (CommitOver commits.Committed) i v e = whole_now (i.agrees refl) v.marks v.files.others
        (λ q b y. v.files.wanted q (shown_path q b y) b y) e
    whole_by (CommitOver (commits.StoreFault stages.Success)) i v e = whole_now (i.agrees refl) v.marks v.files.others
        (λ q b y. v.files.wanted q (shown_path q b y) b y) e
    whole_by (CommitOver _) i v e = absurd (unmarked_not s v.marks e)
    whole_by _ i v e = absurd (unmarked_not s v.marks e)

    pub kept_commit : (op : Commit) → InCommit picks m op → CommitShows s m.ended es op → Kept w opening s
    kept_commit op i v = record {
      before = λ e. untouched_shows c (v.early e);
      between = λ e. record {
        untouched = λ e. untouched_shows c (still e op i v);
        only = λ e q b y. only_shown op i v q b y;
        kept = λ e q b y keep none. view_same c opening q (λ p. elim (clearing op i v q p none)
            [ inl same ↦ same | inr gone ↦ absurd (false_true gone.1 keep) ]) ∙ y;
      };
      whole = whole_by op i v;
    }

    -- A revert is over, and no deletion of it ran out of retries.
    pub reverted_shows : let end = CommitOver (commits.StoreFault stages.Complete) in InCommit picks m end → CommitShows s m.ended es end
        → NoDeletionWorn w.retries es
        → OnlyOpening w opening c
    reverted_shows i v none q b y = elim (true_or_false (is_file_path q)) [
      | inr no_path ↦ absurd (none_some (hidden_is c q no_path) y)
      | inl p ↦
          let was : now_at c q ≡ first_at q → view w.dest opening q ≡ Some b =
          λ same. shown_is opening q p ∙ ap (option_map (λ (o : Object). o.bytes)) (sym same) ∙ sym (shown_is c q p) ∙ y in
          let not_gone : now_at c q ≡ None → ⊥ = λ gone. none_some (shown_is c q p ∙ ap (option_map (λ (o : Object). o.bytes)) gone) y in
          elim (none_or_some (wanted_at w picks q)) [
            | inl e ↦ elim (clearing (CommitOver (commits.StoreFault stages.Complete)) i v q p e)
                [ inl same ↦ was same | inr gone ↦ absurd (not_gone gone.0) ]
            | inr e ↦ elim (v.files.wanted q p e.0 e.1) [
              | inr worn ↦ absurd (none w.dest.bucket (below w.dest.key q) worn.1)
              | inl before ↦ elim before [ inl same ↦ was same | inr gone ↦ absurd (not_gone gone) ]
            ]
          ]
    ]
