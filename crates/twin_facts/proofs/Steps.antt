-- What one entry of a side changes: in its picks, at the paths where files are shown, and in the marker.
use Rattle.text_and_lists.proofs.Members.{false_true, none_some, some_is, text_true, true_or_false}
use Rattle.text_and_lists.specs.Members.{IsIn}
use Rattle.job_invariant.proofs.Agreeing.{AgreeBelow, Agrees, decided_so}
use Rattle.job_invariant.proofs.EndedGone.{effective_is}
use Rattle.job_invariant.proofs.FilingLaws.{files_go, stranger_same}
use Rattle.job_invariant.proofs.Owning.{operation_own}
use Rattle.job_invariant.proofs.SettingUp.{no_success}
use Rattle.job_invariant.proofs.Shapes.{puts}
use Rattle.job_invariant.proofs.Sharing.{check_plain, setup_plain}
use Rattle.job_invariant.proofs.Wanted.{same_mark, wanted_of}
use Rattle.job_invariant.specs.Filed.{Decides, FileStands, Wants, whole_of}
use Rattle.job_invariant.specs.FiledLaws.{Commits}
use Rattle.job_invariant.specs.Stores.{at_key}
use Rattle.job_invariant.specs.Told.{driver_entry}
use Rattle.job_model.specs.JobScript.{Script}
use Rattle.job_model.specs.Legal.{IsLegal}
use Rattle.job_protocol.specs.Cleanups.{Clean}
use Rattle.job_protocol.specs.Conflicts.{keeps, partitions}
use Rattle.job_protocol.specs.JobCommits.{Commit, Fetching, Marking, Sets, commit_asks, commit_tells, picks_of}
use Rattle.job_protocol.specs.Operations.{Operation, Setting, TheCheck, TheClean, TheCommit, TheSetup, TheSparing, asks, who}
use Rattle.job_protocol.specs.Outputs.{is_decided, wanted_at, wanted_paths}
use Rattle.job_protocol.specs.Records.{mark_text}
use Rattle.job_protocol.specs.Seen.{Seen, Times, is_begun, is_marking, is_picking, is_reading, see}
use Rattle.job_protocol.specs.Setup.{setup_asks}
use Rattle.job_protocol.specs.Sparing.{Sparing, sparing_asks}
use Rattle.job_protocol.specs.View.{is_file_path, object_at}
use Rattle.job_spec.specs.Ends.{is_driver}
use Rattle.protocol_runs.proofs.Entries.{late_now}
use Rattle.protocol_runs.proofs.EveryRun.{cleans_is, good}
use Rattle.protocol_runs.proofs.Folds.{commit_is}
use Rattle.protocol_runs.proofs.Keeping.{attempt_quiet}
use Rattle.protocol_runs.proofs.Running.{At, Early, InCommit, Late, wants_of}
use Rattle.protocol_runs.specs.Runs.{IsOpening, IsTimely, Runs, Stand, nothing_learnt}
use Rattle.magic_paths.specs.Layout.{success_key}
use Rattle.path_keys.specs.Paths.{Path, below}
use Rattle.retries.specs.Retries.{Retried}
use Rattle.s3_types.specs.Answer.{answer, apply}
use Rattle.s3_types.specs.Moment.{IsHonestOutcome, effect, is_effective}
use Rattle.s3_types.specs.Store.{Content, Scene}
use Rattle.s3_types.specs.declared.journal.Entry.{Entry}
use Rattle.s3_types.specs.declared.journal.Outcome.{Outcome}
use Rattle.s3_types.specs.declared.object.Object.{Object}
use Rattle.s3_types.specs.declared.request.Actor.TheVariants.{Driver}
use Rattle.s3_types.specs.declared.request.Committer.{Committer}
use Rattle.s3_types.specs.declared.request.Mode.{Mode}
use Rattle.s3_types.specs.declared.request.Request.{Request}
use Rattle.s3_types.specs.declared.request.Request.TheVariants.{PutObject}
use Rattle.std.proofs.Common.{Bool, List, None, Option, Some, ap, arith, cond, false, inl, inr, not, refl, subst, sym, true, ℕ, ◌&&◌, ◌^◌}
use Rattle.std.proofs.Common.{◌||◌, ◌∙◌, ◌≡◌, ◌≤◌, ◌⊎◌}
use Rattle.std.proofs.Math.Bool.{and-false, or-true}
use Rattle.store_frame.specs.Frame.{changed_keys}
use Rattle.twin_facts.proofs.Changes.{attempt_shows, check_shows, commit_shows_by, setup_shows, sparing_shows}
use Rattle.twin_facts.proofs.OneSide.{mark_puts, mark_stays, mark_still, never_cleans, picks_still, unread_picks}
use Rattle.twin_facts.proofs.Progress.{Committing, Unread, committing, committing_next, is_fetching, is_mark_stage, kind, mark_same}
use Rattle.twin_facts.proofs.Progress.{nothing_under, picks_same, put_before, undecided}
use Rattle.twin_facts.specs.Sides.{Sends, attempt_saw, attempt_sends, driver_saw, driver_sends}
use Rattle.twin_facts.specs.TwinLaws.{counted, is_replace}

-- The object at a path of a destination.
abbrev pub obj : Path → Content → List ℕ → Option Object
obj d c q = object_at c d.bucket (below d.key q)

abbrev pub mark_at : Path → Content → Option Object
mark_at d c = object_at c d.bucket (success_key d.key)

abbrev pub count : Setting → Stand → List ℕ → Option (List ℕ)
count g x q = counted g.script x.seen.picks q

-- The object at the path of a wanted file, while the commit goes on.
abbrev pub FileAt : Setting → Stand → List ℕ → List ℕ → Option Object → Option Object → Commit → Type 0
FileAt g x q b first now c = FileStands g.script q b first x.commit now x.told.ended c

pub record Leaves (g : Setting) (x z : Stand) (e : Entry) : Type 0 where
  -- The picks stay as they are, or were not decided.
  pub picks : (z.seen.picks ≡ x.seen.picks) ⊎ (is_decided g.script x.seen.picks ≡ false)
  pub unbegun : z.seen.begun ≡ false → (x.seen.begun ≡ false) × (z.seen.picks ≡ x.seen.picks)
  pub shows : (q : List ℕ) → is_file_path q ≡ true → let c = x.seen.scene in let d = effect c e.request e.outcome in
      (obj g.script.dest d.content q ≡ obj g.script.dest c.content q)
      ⊎ ((b : List ℕ) × (count g x q ≡ Some b)
      × ((obj g.script.dest d.content q ≡ Some (whole_of b)) ⊎ (obj g.script.dest d.content q ≡ None)))
  -- Once the marker was put.
  pub put_still : x.seen.put_mark ≡ true → (z.seen.put_mark ≡ true)
      × ((q : List ℕ) → is_file_path q ≡ true → obj g.script.dest (effect x.seen.scene e.request e.outcome).content q ≡ obj g.script.dest
      x.seen.scene.content q)
  -- If the marker is put only now, all wanted files exist.
  pub put_now : x.seen.put_mark ≡ false → z.seen.put_mark ≡ true → (sets : Sets) × (n : ℕ) × (x.driver ≡ Some (TheCommit (Marking sets n)))
      × (z.seen.picks ≡ x.seen.picks) × (is_decided g.script x.seen.picks ≡ true)
      × ((q : List ℕ) → is_file_path q ≡ true → obj g.script.dest (effect x.seen.scene e.request e.outcome).content q ≡ obj g.script.dest
      x.seen.scene.content q)
  pub files : (c : Commit) → z.driver ≡ Some (TheCommit c) → (q b : List ℕ) (first : Option Object) → is_file_path q ≡ true
      → wanted_at g.script z.seen.picks q ≡ Some b
      → (is_decided g.script x.seen.picks ≡ false → obj g.script.dest x.seen.scene.content q ≡ first)
      → ((u : Commit) → x.driver ≡ Some (TheCommit u) → wanted_at g.script x.seen.picks q ≡ Some b
      → FileAt g x q b first (obj g.script.dest x.seen.scene.content q) u)
      → FileAt g z q b first (obj g.script.dest (effect x.seen.scene e.request e.outcome).content q) c
  -- A put of the marker by the side's driver that takes effect.
  pub marks : is_driver e.actor ≡ true → is_marking g.script e.request ≡ true → is_effective e.outcome ≡ true
      → (z.seen.put_mark ≡ true) × ((o : Object) × (mark_at g.script.dest (effect x.seen.scene e.request e.outcome).content ≡ Some o)
      × (o.bytes ≡ mark_text g.script z.seen.picks))

-- ---- modes that keep what was there

keeps_all : (c : Committer) (m : Mode) (dirs : List (List ℕ)) (q : List ℕ) → is_replace m ≡ false → keeps c m dirs q ≡ true
keeps_all c m dirs q h = grind arith

driver_begun : (w : Script) (k : Times) (s : Seen) (n : ℕ) (r : Request) (o : Outcome)
    → (see w k s (driver_entry n r o)).begun ≡ (s.begun || is_begun k.commit n)
driver_begun w k s n r o = grind arith

or_first : (a b : Bool) → (a || b) ≡ false → a ≡ false
or_first a b h = grind arith

module _ (g : Setting) (j : IsLegal g.script) (shared : g.shared ≡ true) (k : Times) (opening : Content) (is_opening : IsOpening g opening)
    (keep : is_replace g.script.mode ≡ false) where
  abbrev w : Script
  w = g.script

  -- An entry of the driver that changes no object at a path where files are shown, and no pick.
  still_leaves : (x z : Stand) (n : ℕ) (r : Request) (o : Outcome) → is_marking w r ≡ false
      → (see w k x.seen (driver_entry n r o)).picks ≡ x.seen.picks
      → ((q : List ℕ) → is_file_path q ≡ true → obj w.dest (effect x.seen.scene r o).content q ≡ obj w.dest x.seen.scene.content q)
      → z.seen ≡ see w k x.seen (driver_entry n r o) → ((c : Commit) → z.driver ≡ Some (TheCommit c) → (t : ℕ) → x.seen.picks t ≡ None)
      → Leaves g x z (driver_entry n r o)
  still_leaves x z n r o unmarking unpicking same is unpicked =
      let picks = ap (λ (s : Seen). s.picks) is ∙ unpicking in
      let mark = ap (λ (s : Seen). s.put_mark) is ∙ mark_still w k x.seen n r unmarking o in
      record {
        picks = inl picks;
        unbegun = λ e. (
          or_first x.seen.begun (is_begun k.commit n) (sym (ap (λ (s : Seen). s.begun) is ∙ driver_begun w k x.seen n r o) ∙
              e),
          picks,
        );
        shows = λ q path. inl (same q path);
        put_still = λ e. (mark ∙ e, same);
        put_now = λ e f. absurd (false_true e (sym mark ∙ f));
        files = λ c at q b first path want. (let y = wanted_of w z.seen.picks q b want in absurd
            (none_some (ap (λ f. f y.from.task) picks ∙ unpicked c at y.from.task) y.from.picked));
        marks = λ a b c. absurd (false_true unmarking b);
      }

  sparing_no_mark : (c : Sparing) (r : Request) → sparing_asks w c ≡ Some r → is_marking w r ≡ false
  sparing_no_mark c r h = grind arith

  -- ---- an entry of the commit

  module _ (x : Stand) (l : Late g opening x) (c : Commit) (is : x.driver ≡ Some (TheCommit c)) (n : ℕ) (r : Request) (o : Outcome)
      (asked : commit_asks w c ≡ Some r) (begun : is_begun k.commit n ≡ true) (unclean : is_begun k.clean n ≡ false)
      (cleans : x.told.cleans_at ≡ k.clean) (few : x.seen.scene.content.next ≤ 2 ^ 64)
      (honest : IsHonestOutcome o (answer x.seen.scene r)) (i : Committing g opening x.told x.seen.picks x.seen.put_mark c) where
    abbrev s : Seen
    s = x.seen

    abbrev at : InCommit g opening x.seen.picks x.told c
    at = i.alone

    all : Commits w g.minimum s x.told c
    all = record { hold = l.hold; gone = l.gone at.uncleaned; fits = at.fits; tabled = at.tabled; turns = at.turns; decides = at.decides }

    abbrev u : Seen
    u = see w k s (driver_entry n r o)

    abbrev next : Stand
    next = driver_saw g k x (TheCommit c) n r o

    abbrev after : List ℕ → Option Object
    after q = obj w.dest (effect s.scene r o).content q

    abbrev before : List ℕ → Option Object
    before q = obj w.dest s.scene.content q

    -- Until all sets are read, nothing is decided.
    early : is_fetching w c ≡ true → is_decided w s.picks ≡ false
    early h = grind (arith, is_fetching, undecided, Unread)

    picks_now : is_fetching w c ≡ false → u.picks ≡ s.picks
    picks_now y = picks_same g opening j k s x.told n begun unclean cleans few l.hold c i r asked y o

    shows_now : (q : List ℕ) → is_file_path q ≡ true → (after q ≡ before q)
        ⊎ ((b : List ℕ) × (count g x q ≡ Some b) × ((after q ≡ Some (whole_of b)) ⊎ (after q ≡ None)))
    shows_now q path = elim (commit_shows_by g j s x.told l.hold all.gone q path c all at.agrees
        (nothing_under g opening x.told s.picks c at keep) r asked o) [
          | inl same ↦ inl same
          | inr y ↦ elim y.1 [
            | inl z ↦ inr (z.0, ap (λ t. cond t (wanted_at w s.picks q) None) y.0 ∙ z.1, z.2)
            | inr z ↦ absurd (false_true z.1 (keeps_all w.committer w.mode (partitions (wanted_paths w s.picks)) q keep))
          ]
        ]

    -- In its last stage the commit changes no file, and puts the marker.
    module _ (sets : Sets) (m : ℕ) (v : Marking sets m ≡ c) where
      is_mark : r ≡ PutObject w.dest.bucket (success_key w.dest.key) (mark_text w (picks_of sets)) None
      is_mark = sym (some_is (ap (commit_asks w) v ∙ asked))

      agree : AgreeBelow w s.picks sets w.tasks
      agree = subst (Agrees w s.picks) (sym v) at.agrees

      mark_picks : u.picks ≡ s.picks
      mark_picks = picks_now (ap (is_fetching w) (sym v))

      mark_leaves : (q : List ℕ) → is_file_path q ≡ true → after q ≡ before q
      mark_leaves q path = stranger_same w s.scene l.hold.there r o (below w.dest.key q)
          (λ b y. elim (subst (λ z. IsIn (below w.dest.key q) (changed_keys z)) is_mark y)
          [ inl same ↦ no_success j q path same | inr none ↦ none ])

      mark_put : is_effective o ≡ true → (u.put_mark ≡ true)
          × ((ob : Object) × (mark_at w.dest (effect s.scene r o).content ≡ Some ob) × (ob.bytes ≡ mark_text w u.picks))
      mark_put took = (
        mark_puts w k s n r marking o took,
        (
          record { bytes = mark_text w (picks_of sets); header = None },
          ap
              (λ (t : Scene). mark_at w.dest t.content) (effective_is s.scene r o took) ∙ there,
          text,
        ),
      )
        where
          both : is_marking w (PutObject w.dest.bucket (success_key w.dest.key) (mark_text w (picks_of sets)) None) ≡ true
          both = rw (text_true w.dest.bucket w.dest.bucket refl, text_true (success_key w.dest.key) (success_key w.dest.key) refl) refl

          marking : is_marking w r ≡ true
          marking = ap (is_marking w) is_mark ∙ both

          there : mark_at w.dest (apply s.scene r).content ≡ Some (record { bytes = mark_text w (picks_of sets); header = None })
          there = ap (λ y. at_key w (apply s.scene y).content (success_key w.dest.key)) is_mark ∙
              (puts w s.scene l.hold.there.0 l.hold.there.1 (success_key w.dest.key) (mark_text w (picks_of sets)) None).here

          text : mark_text w (picks_of sets) ≡ mark_text w u.picks
          text = same_mark w s.picks (picks_of sets) (λ t a. sym (agree t a)) ∙ ap (mark_text w) (sym mark_picks)

    -- The stage in which the marker is put.
    stage : (d : Commit) → d ≡ c → (is_mark_stage w d ≡ false) ⊎ ((sets : Sets) × (m : ℕ) × (Marking sets m ≡ c))
    stage (Marking sets m) v = inr (sets, m, v)
    stage _ v = inl refl

    -- The object at the path of a wanted file goes on as the commit does.
    module _ (q b : List ℕ) (first : Option Object) (path : is_file_path q ≡ true) (wants : wanted_at w u.picks q ≡ Some b)
        (undone : is_decided w s.picks ≡ false → before q ≡ first)
        (old : (v : Commit) → x.driver ≡ Some (TheCommit v) → wanted_at w s.picks q ≡ Some b → FileAt g x q b first (before q) v) where
      stood_later : is_fetching w c ≡ false → Wants w q b c × FileAt g x q b first (before q) c
      stood_later y = let e : wanted_at w s.picks q ≡ Some b = ap (λ v. wanted_at w v q) (sym (picks_now y)) ∙ wants in
          (wants_of g opening s.picks q b e c at.agrees, old c is e)

      stood : (d : Commit) → d ≡ c → Wants w q b c × FileAt g x q b first (before q) c
      stood (Fetching sets m) v = subst (λ y. Wants w q b y × FileAt g x q b first (before q) y) v
          (tt, undone (early (ap (is_fetching w) (sym v))))
      stood _ v = stood_later (ap (is_fetching w) (sym v))

      file_next : FileAt g next q b first (after q) (commit_tells w c o)
      file_next =
          let y = stood c refl in
          files_go g j s x.told c all few q b first x.commit y.0 y.1 r asked n o honest
          (wants_of g opening u.picks q b wants (commit_tells w c o) (committing_next g opening j k s x.told n begun unclean cleans few
          l.hold c i r asked o honest).alone.agrees)

    pub commit_leaves : Leaves g x next (driver_entry n r o)
    commit_leaves = record {
      picks = elim (true_or_false (is_fetching w c)) [ inl y ↦ inr (early y) | inr y ↦ inl (picks_now y) ];
      unbegun = λ e. absurd (false_true e (driver_begun w k s n r o ∙ ap (λ b. s.begun || b) begun ∙ or-true s.begun));
      shows = shows_now;
      put_still = λ e. elim (stage c refl) [
        | inl y ↦ absurd (false_true (put_before g opening j k s x.told n begun unclean cleans few l.hold c i r asked c y asked i.unmarked)
            e)
        | inr y ↦ (mark_stays w k s n r e o, mark_leaves y.0 y.1 y.2)
      ];
      put_now = λ e f. elim (stage c refl) [
        | inl y ↦ absurd (false_true e (sym (mark_same g opening j k s x.told n begun unclean cleans few l.hold c i r asked y o) ∙ f))
        | inr y ↦ (
          y.0,
          y.1,
          is ∙ ap (λ v. Some (TheCommit v)) (sym y.2),
          mark_picks y.0 y.1 y.2,
          decided_so w s.picks y.0
              (subst (Decides w g.minimum x.told.publish_sent x.told.drawn) (sym y.2) at.decides) (agree y.0 y.1 y.2),
          mark_leaves y.0 y.1
              y.2,
        )
      ];
      files = λ v d q b first path wants undone old. subst (FileAt g next q b first (after q)) (commit_is d)
          (file_next q b first path wants undone old);
      marks = λ a b t. elim (stage c refl) [
        | inl y ↦ absurd (false_true ((kind g opening j k s x.told n begun unclean cleans few l.hold c i r asked).0 y) b)
        | inr y ↦ mark_put y.0 y.1 y.2 t
      ];
    }

  -- ---- all entries

  driver_leaves : (x : Stand) → x.told.cleans_at ≡ k.clean → Late g opening x → (op : Operation) → x.driver ≡ Some op
      → At g opening (Some op) x.seen x.told → (n : ℕ) (r : Request) (o : Outcome) → asks g (who Driver) nothing_learnt op ≡ Some r
      → IsTimely k n op → x.seen.scene.content.next ≤ 2 ^ 64 → IsHonestOutcome o (answer x.seen.scene r)
      → ((c : Commit) → op ≡ TheCommit c → Committing g opening x.told x.seen.picks x.seen.put_mark c)
      → ((t : Retried Clean) → op ≡ TheClean t → ⊥) → Leaves g x (driver_saw g k x op n r o) (driver_entry n r o)
  driver_leaves x cleans l (TheSetup u) d y n r o asked timely few honest i never = absurd (none_some (ap (setup_asks w) y.0) asked)
  driver_leaves x cleans l (TheCommit c) d y n r o asked timely few honest i never = commit_leaves x l c d n r o asked timely.0 timely.1
      cleans few honest (i c refl)
  driver_leaves x cleans l (TheClean u) d y n r o asked timely few honest i never = absurd (never u refl)
  driver_leaves x cleans l (TheCheck u) d y n r o asked timely few honest i never =
      let p = check_plain w u.operation r asked in
      still_leaves x (driver_saw g k x (TheCheck u) n r o) n r o p.marks (unread_picks w k x.seen n r p.reads o)
      (λ q path. ap (λ (s : Scene). obj w.dest s.content q) (check_shows g j x.seen u.operation r asked o)) refl (λ c at. y.unpicked)
  driver_leaves x cleans l (TheSparing u) d y n r o asked timely few honest i never =
      let off : is_picking k x.seen.begun n ≡ false = ap (λ b. (x.seen.begun || is_begun k.commit n) && not b) timely ∙ and-false
      (x.seen.begun || is_begun k.commit n) in
      still_leaves x (driver_saw g k x (TheSparing u) n r o) n r o (sparing_no_mark u.operation r asked)
      (picks_still w k x.seen n r (λ t. ap (λ b. b && is_reading w t r) off) o)
      (λ q path. sparing_shows g j x.seen x.told l.hold u.operation y r asked o q path) refl (λ c at. absurd (no_commit at))
    where
      no_commit : {a : Retried Sparing} {b : Commit} → Some (TheSparing a) ≡ Some (TheCommit b) → ⊥
      no_commit e = absurd cc
  driver_leaves x cleans l _ d y n r o asked timely few honest i never = absurd y

  -- An entry of its set-up.
  setup_leaves : (x : Stand) → Early g opening x → (op : Operation) → x.driver ≡ Some op → (n : ℕ) (r : Request) (o : Outcome)
      → asks g (who Driver) nothing_learnt op ≡ Some r → Leaves g x (driver_saw g k x op n r o) (driver_entry n r o)
  setup_leaves x e op d n r o asked = elim e.setup [
    | inl none ↦ absurd (none_some none d)
    | inr y ↦
        let is : TheSetup y.0 ≡ op = some_is (sym y.1 ∙ d) in
        let a : setup_asks w (y.0).operation ≡ Some r = ap (asks g (who Driver) nothing_learnt) is ∙ asked in
        let p = setup_plain w (y.0).operation r a in
        subst (λ q. Leaves g x (driver_saw g k x q n r o) (driver_entry n r o)) is
        (still_leaves x (driver_saw g k x (TheSetup y.0) n r o) n r o p.marks (unread_picks w k x.seen n r p.reads o)
        (λ q path. setup_shows g j x.seen r ((y.0).operation, y.2, a) o q path) refl (λ c at. e.unpicked))
  ]

  pub sends_leaves : (es : List Entry) (x z : Stand) (e : Entry) → Sends g k x e z → Runs g k opening es x → Leaves g x z e
  sends_leaves es x _ _ (driver_sends _ op n r o d asked timely few honest) run = by (good g k opening j is_opening es x run)
    where
      by : Early g opening x ⊎ Late g opening x → Leaves g x (driver_saw g k x op n r o) (driver_entry n r o)
      by (inl e) = setup_leaves x e op d n r o asked
      by (inr l) = driver_leaves x (cleans_is g k opening j is_opening es x run) l op d
          (subst (λ q. At g opening q x.seen x.told) d l.driver) n r o asked timely few honest
          (λ c is. committing g k opening j is_opening es x run c (d ∙ ap (λ q. Some q) is))
          (λ t is. never_cleans g shared k opening es x run t (d ∙ ap (λ q. Some q) is))
  sends_leaves es x _ _ (attempt_sends _ a op n r o set at asked honest) run =
      let l = late_now g k opening j is_opening es x run set in
      let f = l.fine a op at in
      let own = operation_own g j x.told a f.0 op f.1 r asked in
      let quiet = attempt_quiet w k x.seen a n r l.hold.there (λ b q i. own.keys q i) o in
      let same : (q : List ℕ) → is_file_path q ≡ true
      → obj w.dest (effect x.seen.scene r o).content q ≡ obj w.dest x.seen.scene.content q = λ q path. attempt_shows g j x.seen x.told
      l.hold a f.0 op f.1 r asked o q path in
      record {
        picks = inl quiet.picks;
        unbegun = λ e. (sym quiet.begun ∙ e, quiet.picks);
        shows = λ q path. inl (same q path);
        put_still = λ e. (quiet.mark ∙ e, same);
        put_now = λ e y. absurd (false_true e (sym quiet.mark ∙ y));
        files = λ v is q b first path wants undone old. subst (λ t. FileAt g (attempt_saw g k x a op n r o) q b first t v)
            (sym (same q path)) (old v is (ap (λ t. wanted_at w t q) (sym quiet.picks) ∙ wants));
        marks = λ b y t. absurd (false_true refl b);
      }
