-- What is at the paths of wanted files, entry by entry: those of the driver's commit, and those of others.
use Rattle.text_and_lists.proofs.Members.{false_true, some_is}
use Rattle.text_and_lists.specs.Members.{IsIn}
use Rattle.job_invariant.proofs.Beside.{job_commit_begins, still_known, still_sent}
use Rattle.job_invariant.proofs.Effects.{deleted_or_not}
use Rattle.job_invariant.proofs.Emptying.{reads_same}
use Rattle.job_invariant.proofs.FilePaths.{file_path}
use Rattle.job_invariant.proofs.Filing.{before_stays, completing_stands, fetching_stands, marking_stands, replacing_stands}
use Rattle.job_invariant.proofs.Filing.{reverting_stands}
use Rattle.job_invariant.proofs.Filing.{stands_course}
use Rattle.job_invariant.proofs.Foreign.{reads_name, set_reads}
use Rattle.job_invariant.proofs.Going.{effect_so}
use Rattle.job_invariant.proofs.Held.{fetching_so}
use Rattle.job_invariant.proofs.JobCommitting.{commit_fits}
use Rattle.job_invariant.proofs.Legal.{some_dest}
use Rattle.job_invariant.proofs.Owning.{operation_own}
use Rattle.job_invariant.proofs.SettingUp.{no_success}
use Rattle.job_invariant.proofs.Turning.{answered_turned, missed_turned, still_none, sweep_none}
use Rattle.job_invariant.proofs.Wanted.{wanted_of}
use Rattle.job_invariant.specs.Driver.{FitsJobCommit}
use Rattle.job_invariant.specs.Facts.{Hold, IsAttempt}
use Rattle.job_invariant.specs.Filed.{Decides, FileStands, IsBefore, IsCommit, Wants, deletes, whole_of}
use Rattle.job_invariant.specs.FiledLaws.{Commits}
use Rattle.job_invariant.specs.Fits.{Fits}
use Rattle.job_invariant.specs.Stores.{at_key}
use Rattle.job_invariant.specs.Told.{Told, driver_entry, ends, known, tell_attempt, tell_driver}
use Rattle.job_invariant.specs.Turning.{NoneEnded}
use Rattle.job_model.specs.Attempts.{Who}
use Rattle.job_model.specs.JobScript.{Script}
use Rattle.job_model.specs.Legal.{IsLegal}
use Rattle.job_protocol.specs.JobCommits.{Commit, CommitOver, Completing, Fetching, Marking, Replacing, Reverting, commit_asks}
use Rattle.job_protocol.specs.JobCommits.{commit_start, commit_tells, picks_of, set_request}
use Rattle.job_protocol.specs.Operations.{Operation, Setting, asks}
use Rattle.job_protocol.specs.Records.{mark_text}
use Rattle.job_protocol.specs.Seen.{Seen}
use Rattle.job_protocol.specs.View.{is_file_path}
use Rattle.list_walk.specs.Walks.{Sweep, sweep_asks}
use Rattle.magic_paths.proofs.Tails.{key_magic}
use Rattle.magic_paths.specs.Layout.{success_key}
use Rattle.magic_paths.specs.Places.{FilePlace, is_open}
use Rattle.path_keys.specs.Paths.{below}
use Rattle.pending_json.specs.Pending.{Pending}
use Rattle.retries.specs.Worn.{IsWorn}
use Rattle.s3_types.specs.Answer.{answer, bucket_of}
use Rattle.s3_types.specs.Moment.{IsHonestOutcome, effect}
use Rattle.s3_types.specs.Requests.{only_reads}
use Rattle.s3_types.specs.Store.{Scene}
use Rattle.s3_types.specs.declared.journal.Entry.{Entry}
use Rattle.s3_types.specs.declared.journal.Outcome.{Outcome}
use Rattle.s3_types.specs.declared.object.Object.{Object}
use Rattle.s3_types.specs.declared.request.Request.{Request}
use Rattle.s3_types.specs.declared.request.Request.TheVariants.{PutObject}
use Rattle.std.proofs.Common.{List, None, Option, Some, ap, arith, inl, inr, length, refl, subst, sym, true, ℕ, [], ◌++◌, ◌^◌, ◌∙◌, ◌∷◌}
use Rattle.std.proofs.Common.{◌≡◌, ◌≤◌, ◌⊎◌}
use Rattle.store_frame.proofs.Framed.{frame}
use Rattle.store_frame.specs.Frame.{changed_keys}
use Rattle.store_frame.specs.Held.{HasBucket}

-- ---- requests of others

-- A request of an attempt leaves what a revert names.
module _ (g : Setting) (m : Told) (a : Who) (op : Operation) (fits : Fits g.script g.minimum a m op) (r : Request)
    (e : asks g a (known m a) op ≡ Some r) (o : Outcome) where
  abbrev now : Told
  now = tell_attempt g.script m a r o

  commit_still : (p : Pending) → IsCommit g.script g.minimum m.publish_sent m.drawn p
      → IsCommit g.script g.minimum now.publish_sent now.drawn p
  commit_still p x =
      let same = still_known g m a op fits r e o x.by x.has_sent in
      record {
        by = x.by;
        file = x.file;
        mine = x.mine;
        written = record {
          drawn = x.written.drawn;
          known = subst (IsIn x.written.drawn) same x.written.known;
          key = x.written.key;
          complete = x.written.complete;
        };
        has_sent = still_sent g m a op fits r e o x.by x.has_sent;
        is = x.is;
      }

  pub decides_beside : (c : Commit) → Decides g.script g.minimum m.publish_sent m.drawn c
      → Decides g.script g.minimum now.publish_sent now.drawn c
  decides_beside (Reverting q qs n) h = λ y i. let x = h y i in (x.0, commit_still x.0 x.1, x.2)
  decides_beside (CommitOver end) h = tt
  decides_beside _ h = h

-- A request that does not change a key.
pub stranger_same : (w : Script) (s : Scene) → HasBucket s.content w.dest.bucket → (r : Request) (o : Outcome) (k : List ℕ)
    → (bucket_of r ≡ w.dest.bucket → IsIn k (changed_keys r) → ⊥) → at_key w (effect s r o).content k ≡ at_key w s.content k
stranger_same w s there r o k free = effect_so (λ u. at_key w u.content k ≡ at_key w s.content k) s r o refl
    ((frame s w.dest.bucket r there).keys k free)

pub attempt_same : (g : Setting) → IsLegal g.script → (s : Seen) (m : Told) (a : Who) → Hold g.script g.minimum s m → IsAttempt g.script a
    → (op : Operation) → Fits g.script g.minimum a m op → (r : Request) → asks g a (known m a) op ≡ Some r → (o : Outcome)
    → (q : List ℕ) → is_open q ≡ true → at_key g.script (effect s.scene r o).content (below g.script.dest.key q) ≡ at_key g.script
    s.scene.content (below g.script.dest.key q)
attempt_same g j s m a h d op fits r e o q open_path =
    let own = operation_own g j m a d op fits r e in
    stranger_same g.script s.scene h.there r o (below g.script.dest.key q) (λ b i. false_true
    (key_magic g.script.dest.key g.script.job (FilePlace q) (some_dest j) open_path) (own.keys (below g.script.dest.key q) i))

-- ---- the commit begins

pub files_begin : (w : Script) (minimum : ℕ) → IsLegal w → (s : Seen) (m : Told) → Hold w minimum s m → NoneEnded m
    → (q b : List ℕ) (first now : Option Object) → now ≡ first → (missing : Option ℕ) → Wants w q b (commit_start w missing)
    → FileStands w q b first [] now m.ended (commit_start w missing)
files_begin w minimum j s m h none q b first here same None wants = fetching_so (stands_course j h q b first [] m here none) [] same
    (job_commit_begins w minimum j m None) wants
files_begin w minimum j s m h none q b first here same (Some t) wants = same

pub left_before : (w : Script) (q b : List ℕ) (first now : Option Object) (es : List Entry) → IsBefore first now
    ⊎ ((now ≡ Some (whole_of b)) × IsWorn w.retries (deletes w q) es) → (IsWorn w.retries (deletes w q) es → ⊥) → IsBefore first now
left_before w q b first now es h g = grind arith

-- ---- an entry of the commit

module _ (g : Setting) (j : IsLegal g.script) (s : Seen) (m : Told) (n : ℕ) (few : s.scene.content.next ≤ 2 ^ 64) (q b : List ℕ)
    (first : Option Object) (es : List Entry) where
  abbrev w : Script
  w = g.script

  abbrev key : List ℕ
  key = below w.dest.key q

  abbrev after : Request → Outcome → Option Object
  after r o = at_key w (effect s.scene r o).content key

  abbrev So : Commit → Request → Outcome → Commit → Type 0
  So c r o d = FileStands w q b first (es ++ driver_entry n r o ∷ []) (after r o) (tell_driver m r o).ended d

  same_after : (r : Request) → only_reads r ≡ true → (o : Outcome) → after r o ≡ at_key w s.scene.content key
  same_after r h o = ap (λ (x : Scene). at_key w x.content key) (reads_same s.scene r o h)

  swept_or_not : HasBucket s.scene.content w.dest.bucket → (p : List ℕ) (x : Sweep) (o : Outcome)
      → (after (sweep_asks w.dest.bucket p x) o ≡ at_key w s.scene.content key) ⊎ (after (sweep_asks w.dest.bucket p x) o ≡ None)
  swept_or_not h p x o = grind (arith, same_after, effect_so, deleted_or_not)

  go_by : (c : Commit) → (h : Commits w g.minimum s m c) → (r : Request) → commit_asks w c ≡ Some r → (o : Outcome)
      → FitsJobCommit w g.minimum m.publish_sent m.drawn (commit_tells w c o) → Wants w q b c → Wants w q b (commit_tells w c o)
      → FileStands w q b first es (at_key w s.scene.content key) m.ended c → So c r o (commit_tells w c o)
  go_by (Fetching sets k) h r e o fits wants then old =
      let is : r ≡ set_request w.committer w (length sets) = sym (some_is e) in
      let none : NoneEnded (tell_driver m r o) = still_none m r o (λ id. ap (λ y. ends y id) is ∙
      (reads_name (set_request w.committer w (length sets)) (set_reads w.committer w (length sets))).ends_none id) h.turns in
      let same : after r o ≡ first = ap (λ y. after y o) is ∙ same_after (set_request w.committer w (length sets))
      (set_reads w.committer w (length sets)) o ∙ old in
      fetching_stands j h.hold q b first (es ++ driver_entry n r o ∷ []) sets k (tell_driver m r o) (after r o) h.fits.0 none same o fits
      then
  go_by (Replacing sets p ps x k) h r e o fits wants then old =
      let is : r ≡ sweep_asks w.dest.bucket p x = sym (some_is e) in
      let none : NoneEnded (tell_driver m r o) = still_none m r o (λ id. ap (λ y. ends y id) is ∙ sweep_none w p x id) h.turns in
      let before : IsBefore first (after r o) = subst (λ y. IsBefore first (after y o)) (sym is)
      (before_stays (swept_or_not h.hold.there p x o) old) in
      replacing_stands j h.hold q b first (es ++ driver_entry n r o ∷ []) sets p ps x k (tell_driver m r o) (after r o) none before o fits
      then
  go_by (Completing sets x xs finished) h r e o fits wants then old =
      subst (λ y. So (Completing sets x xs finished) y o (commit_tells w (Completing sets x xs finished) o)) (some_is e)
      (completing_stands j h.hold h.gone q b first es n sets x xs finished h.fits h.tabled h.turns h.decides wants old
      (λ y. answered_turned w g.minimum s m j h.hold sets x xs finished h.fits h.tabled h.turns y)
      (λ o lost so. missed_turned w g.minimum s m j h.hold sets x xs finished h.fits h.tabled h.turns o lost so) o)
  go_by (Marking sets k) h r e o fits wants then old =
      let x = wanted_of w (picks_of sets) q b wants in
      let path : is_file_path q ≡ true = ap is_file_path x.path ∙ file_path j _ x.file x.from.mine in
      let is : r ≡ PutObject w.dest.bucket (success_key w.dest.key) (mark_text w (picks_of sets)) None = sym (some_is e) in
      let apart : after r o ≡ at_key w s.scene.content key = stranger_same w s.scene h.hold.there r o key (λ bucket i. apart_from is path i)
      in
      marking_stands j h.hold q b first (es ++ driver_entry n r o ∷ []) sets k (after r o) (tell_driver m r o).ended (apart ∙ old) o
    where
      apart_from : r ≡ PutObject w.dest.bucket (success_key w.dest.key) (mark_text w (picks_of sets)) None → is_file_path q ≡ true
          → IsIn key (changed_keys r) → ⊥
      apart_from is path i = elim (subst (λ y. IsIn key (changed_keys y)) is i) [ inl same ↦ no_success j q path same | inr none ↦ none ]
  go_by (Reverting y ys k) h r e o fits wants then old =
      subst (λ z. So (Reverting y ys k) z o (commit_tells w (Reverting y ys k) o)) (some_is e)
      (reverting_stands j h.hold h.gone q b first es n y ys k (h.decides y (inl refl)) old.0 old.1 o)
  go_by (CommitOver end) h r e o fits wants then old = absurd cc

pub files_go : (g : Setting) → IsLegal g.script → (s : Seen) (m : Told) (c : Commit) → Commits g.script g.minimum s m c
    → s.scene.content.next ≤ 2 ^ 64
    → (q b : List ℕ) (first : Option Object) (es : List Entry) → Wants g.script q b c
    → FileStands g.script q b first es (at_key g.script s.scene.content (below g.script.dest.key q)) m.ended c
    → (r : Request) → commit_asks g.script c ≡ Some r → (n : ℕ) (o : Outcome) → IsHonestOutcome o (answer s.scene r)
    → Wants g.script q b (commit_tells g.script c o)
    → FileStands g.script q b first (es ++ driver_entry n r o ∷ []) (at_key g.script (effect s.scene r o).content
    (below g.script.dest.key q)) (tell_driver m r o).ended (commit_tells g.script c o)
files_go g j s m c h few q b first es wants old r e n o honest then =
    go_by g j s m n few q b first es c h r e o (commit_fits g.script g.minimum (record { commit = None; clean = None }) s m n j h.hold c
    h.fits few r e o honest) wants then old
