-- Each kind of request of an attempt keeps the facts, whatever becomes of it.
use Rattle.text_and_lists.proofs.Members.{false_true, nat_false, nat_here, nat_true, none_some, text_false, text_left, text_true}
use Rattle.text_and_lists.specs.Members.{IsIn}
use Rattle.text_and_lists.specs.Order.{text_eq}
use Rattle.job_invariant.proofs.Foreign.{foreign_effect, reads_effect, reads_name, stood}
use Rattle.job_invariant.proofs.Going.{unlearnt}
use Rattle.job_invariant.proofs.Keep.{abort_keep, attempt_by, attempt_plain, drops_keep, last_if, learn_part_keep, learn_upload_keep}
use Rattle.job_invariant.proofs.Keep.{part_keep}
use Rattle.job_invariant.proofs.Keep.{put_keep, sends_publish, sends_put, sends_undo, told_is}
use Rattle.job_invariant.proofs.Legal.{same_file, small_task}
use Rattle.job_invariant.proofs.Placed.{not_staged, one_place, own_place, set_same}
use Rattle.job_invariant.proofs.Shapes.{abort_turns, answer_is, draws, id_before, part_turns, puts}
use Rattle.job_invariant.proofs.Staged.{remove_drops, rename_keep, stage_keep}
use Rattle.job_invariant.proofs.Undone.{deletes_drop, set_apart}
use Rattle.job_invariant.proofs.Whose.{who_here, who_of, who_same}
use Rattle.job_invariant.specs.Facts.{AreCommits, Facts, Hold, IsAttempt, IsOwnPlace, IsRecord, IsSet, IsWritten}
use Rattle.job_invariant.specs.Fits.{IsOpen}
use Rattle.job_invariant.specs.Stores.{IsKnown, at_id}
use Rattle.job_invariant.specs.inner.Stores.{Turns, part_left}
use Rattle.job_invariant.specs.Told.{Told, entry, known, put_who, tell, tell_attempt, undoes}
use Rattle.job_model.specs.Attempts.{Who}
use Rattle.job_model.specs.Files.{File}
use Rattle.job_model.specs.JobScript.{Script}
use Rattle.job_model.specs.Known.{Drawn, Known}
use Rattle.job_model.specs.Legal.{IsLegal}
use Rattle.job_protocol.specs.Knowledge.{is_set_key, is_set_path, learn, learn_part}
use Rattle.job_protocol.specs.Outputs.{files}
use Rattle.job_protocol.specs.Records.{file_key, record_key, record_text, set_text}
use Rattle.job_protocol.specs.Seen.{Seen, Times, is_magic, is_publishing, is_staging, last_by, see}
use Rattle.job_protocol.specs.TaskCommits.{attempt_prefix, temporary_path}
use Rattle.job_protocol.specs.Uploading.{file_parts}
use Rattle.magic_paths.specs.Layout.{set_key, staged_set_path}
use Rattle.magic_paths.specs.Places.{Place, RecordPlace, SetPlace, key_at}
use Rattle.s3_types.specs.Answer.{answer, apply, part_answer, renamed, with_files}
use Rattle.s3_types.specs.Moment.{IsHonestOutcome}
use Rattle.s3_types.specs.Multipart.{with_key}
use Rattle.s3_types.specs.Pages.{begins}
use Rattle.s3_types.specs.Requests.{only_reads}
use Rattle.s3_types.specs.Store.{Scene, Upload}
use Rattle.s3_types.specs.Tags.{plain_tag}
use Rattle.s3_types.specs.declared.journal.Outcome.{Outcome}
use Rattle.s3_types.specs.declared.journal.Outcome.TheVariants.{Answered}
use Rattle.s3_types.specs.declared.reply.Reply.{Reply}
use Rattle.s3_types.specs.declared.reply.Reply.TheVariants.{Part}
use Rattle.s3_types.specs.declared.request.Request.{Request}
use Rattle.s3_types.specs.declared.request.Request.TheVariants.{AbortUpload, ClusterDelete, ClusterPut, ClusterRename, CreateUpload}
use Rattle.s3_types.specs.declared.request.Request.TheVariants.{DeleteObjects, PutObject, UploadPart}
use Rattle.std.proofs.Common.{Bool, List, None, Option, Some, ap, arith, cond, false, inl, inr, is_some, length, nat_eq, refl, slice_get}
use Rattle.std.proofs.Common.{subst, suc, sym, true, ℕ, ◌&&◌, ◌+◌, ◌<◌, ◌||◌, ◌∙◌, ◌≡◌, ◌⊎◌}
use Rattle.std.proofs.Math.Bool.{and-false, or-false, or-true}
use Rattle.std.proofs.lemmas.Option.{slice_get_within}
use Rattle.store_frame.proofs.Framed.{frame}
use Rattle.std.specs.FinMap as fin

-- ---- a request that neither publishes, nor puts a temporary file, nor deletes anything

pub record IsPlain (w : Script) (s : Scene) (a : Who) (k : Known) (r : Request) : Type 0 where
  pub put : (o : Outcome) → (learn w a k r o).put_sent ≡ k.put_sent
  pub publish : (o : Outcome) → (learn w a k r o).publish_sent ≡ k.publish_sent
  pub undo : undoes r ≡ false
  pub publishing : is_publishing w s a.task r ≡ false

-- The part is there and its tag is the answer, or the answer teaches nothing.
abbrev Due : ℕ → List ℕ → Reply → Option Upload → Type 0
Due number bytes x o = ((x ≡ Part (plain_tag bytes)) × ((u : Upload) → o ≡ Some u → fin.get u.parts number ≡ Some bytes))
    ⊎ ((ds : List Drawn) (id size : ℕ) → learn_part ds id size (Answered x) ≡ ds)

part_due : (key : List ℕ) (number : ℕ) (bytes : List ℕ) (o : Option Upload)
    → Due number bytes (part_answer (with_key key o) number bytes) (part_left key number bytes o)
part_due key number bytes o = grind (arith, nat_here)

-- The key of another place of the job is not that of a task's set.
pub not_set : {w : Script} → IsLegal w → is_magic w.committer ≡ true → (t : ℕ) (p : Place) → IsOwnPlace w p → t < w.tasks
    → (p ≡ SetPlace t → ⊥) → is_set_key w t w.dest.bucket (key_at w.dest.key w.job p) ≡ false
not_set {w = w} j magic t p own small ne =
    ap (λ b. text_eq w.dest.bucket w.dest.bucket && b) (text_false _ _
    (λ e. ne (one_place j p (SetPlace t) (own_place j magic p own) (small_task j t small) e))) ∙ and-false _

pub is_set_here : (w : Script) (a : Who) → is_set_key w a.task w.dest.bucket (set_key w.dest.key w.job a.task) ≡ true
is_set_here w a = rw (
  text_true w.dest.bucket w.dest.bucket refl,
  text_true (set_key w.dest.key w.job a.task)
      (set_key w.dest.key w.job a.task) refl,
) refl

module _ (w : Script) (minimum : ℕ) (k : Times) (s : Seen) (m : Told) (a : Who) (n : ℕ) (f : Hold w minimum s m) where
  abbrev pub Keeps : Request → Type 0
  Keeps r = (o : Outcome) → IsHonestOutcome o (answer s.scene r) → Hold w minimum (see w k s (entry a n r o)) (tell w m (entry a n r o))

  -- The attempt knows these uploads.
  abbrev learning : List Drawn → Told
  learning ds = record m { drawn = put_who m.drawn a ds }

  no_news : (ds : List Drawn) → ds ≡ m.drawn a → learning ds ≡ m
  no_news ds e = λ i. record m { drawn = who_same m.drawn a ds e i }

  plain_told : (r : Request) → IsPlain w s.scene a (known m a) r → (o : Outcome)
      → tell_attempt w m a r o ≡ learning (learn w a (known m a) r o).drawn
  plain_told r p o = told_is m a _ _ refl (who_same m.put_sent a _ (p.put o)) (who_same m.publish_sent a _ (p.publish o))
      (who_same m.undone a _ (ap (λ b. m.undone a || b) p.undo ∙ or-false (m.undone a)))

  -- It is enough to show it for the effect, if the request teaches nothing about uploads.
  quiet_keeps : (r : Request) → IsPlain w s.scene a (known m a) r → ((o : Outcome) → (learn w a (known m a) r o).drawn ≡ m.drawn a)
      → Facts w minimum (apply s.scene r) s.last m → Keeps r
  quiet_keeps r p same acts o honest = attempt_plain w minimum k s m a n r p.publishing o m (plain_told r p o ∙ no_news _ (same o)) f acts

  -- It is enough to show it for the effect, and for what an answer teaches.
  plain_keeps : (r : Request) → IsPlain w s.scene a (known m a) r → Facts w minimum (apply s.scene r) s.last m
      → ((x : Reply) → x ≡ answer s.scene r → Facts w minimum (apply s.scene r) s.last
      (learning (learn w a (known m a) r (Answered x)).drawn)) → Keeps r
  plain_keeps r p acts teaches (Answered x) honest =
      subst (λ l. Facts w minimum (apply s.scene r) l (tell_attempt w m a r (Answered x)))
      (sym (last_if a.task a.attempt s.last _ p.publishing)) (subst (Facts w minimum (apply s.scene r) s.last)
      (sym (plain_told r p (Answered x))) (teaches x honest))
  plain_keeps r p acts teaches o honest = attempt_plain w minimum k s m a n r p.publishing o m
      (plain_told r p o ∙ no_news _ (unlearnt w a (known m a) r o (λ x e. absurd cc))) f acts

  pub read_keeps : (r : Request) → only_reads r ≡ true → Keeps r
  read_keeps r reads =
      let x = reads_name r reads in
      let same : (o : Outcome) → learn w a (known m a) r o ≡ known m a = x.learns w a (known m a) in
      quiet_keeps r (record {
        put = λ o. ap (λ v. v.put_sent) (same o);
        publish = λ o. ap (λ v. v.publish_sent) (same o);
        undo = x.undo;
        publishing = x.publishing w s.scene a.task;
      }) (λ o. ap (λ v. v.drawn) (same o)) (reads_effect s.scene r reads f)

  -- ---- CreateUpload, for a file of which the attempt knows no upload yet

  pub create_keeps : IsLegal w → (g : File) → IsIn g (files w a) → IsOpen (known m a)
      → ((d : Drawn) → IsIn d (m.drawn a) → d.key ≡ file_key w g → ⊥) → Keeps (CreateUpload w.dest.bucket (file_key w g))
  create_keeps j g mine free fresh =
      let r = CreateUpload w.dest.bucket (file_key w g) in
      let acts : Facts w minimum (apply s.scene r) s.last m = foreign_effect j s.scene r
      (record { keys = λ e q i. absurd i; uploads = λ e id q. absurd (none_some refl q); paths = λ p i. absurd i }) f in
      let drew = draws w s.scene f.there.0 f.there.1 (file_key w g) in
      let unknown : IsKnown m.drawn s.scene.content.next
      → ⊥ = λ y. let old : s.scene.content.next < s.scene.content.next = (stood f).below s.scene.content.next y in absurd (omega arith)
      in
      let low : s.scene.content.next < (apply s.scene r).content.next = let e : (apply s.scene r).content.next ≡ s.scene.content.next + 1 =
      drew.next in omega arith in
      let now = learn_upload_keep a g s.scene.content.next mine free.0 free.1 fresh low unknown drew.here acts in
      plain_keeps r (record { put = λ o. refl; publish = λ o. refl; undo = refl; publishing = refl }) acts
      (λ x e. subst (λ y. Facts w minimum (apply s.scene r) s.last (learning (learn w a (known m a) r (Answered y)).drawn))
      (sym (e ∙ answer_is w s.scene f.there.0 f.there.1 r refl)) now)

  -- ---- UploadPart: the next part of the file of an upload that the attempt knows

  pub part_keeps : IsLegal w → (g : File) (x : Drawn) (bytes : List ℕ) → IsIn g (files w a) → IsOpen (known m a) → IsIn x (m.drawn a)
      → x.key ≡ file_key w g → slice_get (file_parts w minimum g) (length x.tags) ≡ Some bytes
      → Keeps (UploadPart w.dest.bucket (file_key w g) x.upload (length x.tags + 1) bytes)
  part_keeps j g x bytes mine free known_one key block =
      let r = UploadPart w.dest.bucket (file_key w g) x.upload (length x.tags + 1) bytes in
      let number : length x.tags + 1 ≡ suc (length x.tags) = omega arith in
      let P : List ℕ → Type 0 = λ q. Turns w s.scene (apply s.scene r) x.upload
      (part_left q (length x.tags + 1) bytes (at_id w s.scene.content x.upload)) in
      let turned = part_turns w s.scene f.there.0 f.there.1 (file_key w g) x.upload (length x.tags + 1) bytes in
      let acts : Facts w minimum (apply s.scene r) s.last m = part_keep j a x g (length x.tags) (length x.tags + 1) bytes known_one mine key
      number block (subst P (sym key) turned) f in
      let answered : answer s.scene r ≡ part_answer (with_key (file_key w g) (at_id w s.scene.content x.upload)) (length x.tags + 1) bytes =
      answer_is w s.scene f.there.0 f.there.1 r refl ∙ ap (λ u. part_answer (with_key (file_key w g) u) (length x.tags + 1) bytes)
      (sym (id_before w s.scene f.there.0 f.there.1 x.upload)) in
      let Q : Reply → Type 0 = λ z. Facts w minimum (apply s.scene r) s.last (learning (learn w a (known m a) r (Answered z)).drawn) in
      plain_keeps r (record { put = λ o. refl; publish = λ o. refl; undo = refl; publishing = refl }) acts
      (λ y e. subst Q (sym (e ∙ answered)) (elim (part_due (file_key w g) (length x.tags + 1) bytes (at_id w s.scene.content x.upload)) [
        | inr none ↦ subst (Facts w minimum (apply s.scene r) s.last) (sym (no_news _ (none (m.drawn a) x.upload (length bytes)))) acts
        | inl told ↦ subst Q (sym told.0) (learn_part_keep j a x g bytes (plain_tag bytes) known_one mine key free.0 free.1 block
            (slice_get_within _ _ _ block) refl (λ u h. ap (fin.get u.parts) (sym number) ∙ told.1 u (sym turned.here ∙ h)) acts)
      ]))

  -- ---- puts of a marker and of a record

  pub other_put_keeps : IsLegal w → is_magic w.committer ≡ true → (p : Place) (bytes : List ℕ) (header : Option ℕ) → IsOwnPlace w p
      → a.task < w.tasks → ((t : ℕ) → SetPlace t ≡ p → ⊥)
      → ((b : Who) (g : File) → IsIn g (files w b) → RecordPlace b.task b.attempt g.0 ≡ p
      → IsRecord w minimum (m.drawn b) b g (record { bytes = bytes; header = header }))
      → Keeps (PutObject w.dest.bucket (key_at w.dest.key w.job p) bytes header)
  other_put_keeps j magic p bytes header own task no_set of_record =
      let other : is_set_key w a.task w.dest.bucket (key_at w.dest.key w.job p) ≡ false = not_set j magic a.task p own task
      (λ e. no_set a.task (sym e)) in
      quiet_keeps (PutObject w.dest.bucket (key_at w.dest.key w.job p) bytes header)
      (record {
        put = λ o. refl;
        publish = λ o. ap (λ b. m.publish_sent a || b) other ∙ or-false (m.publish_sent a);
        undo = refl;
        publishing = ap (λ b. is_magic w.committer && b) other ∙ and-false (is_magic w.committer);
      }) (λ o. refl)
      (put_keep j magic p (record { bytes = bytes; header = header }) own (puts w s.scene f.there.0 f.there.1 (key_at w.dest.key w.job p)
      bytes header) of_record (λ t h e. absurd (no_set t e)) (λ t ne. refl) f)

  -- The record of a file whose upload is complete.
  pub record_keeps : IsLegal w → IsAttempt w a → is_magic w.committer ≡ true → (g : File) → IsIn g (files w a)
      → (x : IsWritten w minimum (m.drawn a) g) → Keeps (PutObject w.dest.bucket (record_key w a g) (record_text w a g x.drawn) None)
  record_keeps j d magic g mine x = other_put_keeps j magic (RecordPlace a.task a.attempt g.0) (record_text w a g x.drawn) None
      (g, mine, refl) d.task (λ t e. absurd cc) of_record
    where
      of_record : (b : Who) (h : File) → IsIn h (files w b) → RecordPlace b.task b.attempt h.0 ≡ RecordPlace a.task a.attempt g.0
          → IsRecord w minimum (m.drawn b) b h (record { bytes = record_text w a g x.drawn; header = None })
      of_record b h i e =
          let t : b.task ≡ a.task = cc in
          let v : b.attempt ≡ a.attempt = cc in
          let who : b ≡ a = who_of b a t v in
          let path : h.0 ≡ g.0 = cc in
          let same : h ≡ g = same_file j a h g (subst (λ y. IsIn h (files w y)) who i) mine path in
          let P : Who → File → Type 0 = λ y z. IsRecord w minimum (m.drawn y) y z
          (record { bytes = record_text w a g x.drawn; header = None }) in
          subst (λ y. P y h) (sym who) (subst (P a) (sym same) (record { written = x; bytes = refl }))

  -- ---- the magic committer puts its set

  -- The attempt has sent its publishing request.
  abbrev has_sent : Told
  has_sent = record m { publish_sent = put_who m.publish_sent a true }

  pub set_keeps : IsLegal w → is_magic w.committer ≡ true → IsAttempt w a → m.undone a ≡ false → (cs : List File)
      → AreCommits w minimum (m.drawn a) a cs → Keeps (PutObject w.dest.bucket (set_key w.dest.key w.job a.task)
      (set_text w a cs (known m a)) None)
  set_keeps j magic d clean cs are o honest =
      attempt_by w minimum k s m a n set_put o has_sent
      (told_is m a _ _ (who_same m.drawn a _ refl) (who_same m.put_sent a _ refl)
      (ap (λ b. put_who m.publish_sent a b) (ap (λ b. m.publish_sent a || b) (is_set_here w a) ∙ or-true (m.publish_sent a)))
      (who_same m.undone a _ (or-false (m.undone a))))
      (sends_publish a clean f)
      (put_keep j magic (SetPlace a.task) (record { bytes = set_text w a cs (known m a); header = None }) d.task
      (puts w s.scene f.there.0 f.there.1 (set_key w.dest.key w.job a.task) (set_text w a cs (known m a)) None)
      (λ c g i e. absurd cc) of_set (λ t ne. rw (nat_false t a.task (λ e. ne (ap SetPlace e))) refl) (sends_publish a clean f))
    where
      set_put : Request
      set_put = PutObject w.dest.bucket (set_key w.dest.key w.job a.task) (set_text w a cs (known m a)) None

      of_set : (t : ℕ) → t < w.tasks → SetPlace t ≡ SetPlace a.task
          → IsSet w minimum (last_by w s.scene s.last a.task a.attempt set_put) has_sent.publish_sent m.drawn t
          (set_text w a cs (known m a))
      of_set t h e =
          let is : t ≡ a.task = cc in
          let latest : last_by w s.scene s.last a.task a.attempt set_put a.task ≡ Some a.attempt = rw
          (nat_true a.task a.task refl, magic, is_set_here w a) refl in
          record {
            by = a;
            task = sym is;
            number = d.attempt;
            latest = ap (last_by w s.scene s.last a.task a.attempt set_put) is ∙ latest;
            has_sent = who_here m.publish_sent a true a refl;
            commits = cs;
            are = are;
            text = refl;
          }

  -- ---- the staging committers put a temporary file

  pub stage_keeps : IsLegal w → is_staging w.committer ≡ true → IsAttempt w a → AreCommits w minimum (m.drawn a) a (files w a)
      → Keeps (ClusterPut (temporary_path w a) (set_text w a (files w a) (known m a)))
  stage_keeps j staging d are o honest =
      attempt_plain w minimum k s m a n (ClusterPut (temporary_path w a) (set_text w a (files w a) (known m a))) refl o
      (record m { put_sent = put_who m.put_sent a true })
      (told_is m a _ _ (who_same m.drawn a _ refl) refl (who_same m.publish_sent a _ refl) (who_same m.undone a _ (or-false (m.undone a))))
      (sends_put a f)
      (stage_keep j staging a d (set_text w a (files w a) (known m a)) (record
      { has_put = who_here m.put_sent a true a refl; are = are; text = refl }) (sends_put a f))

  -- ---- and rename it onto the task's set, if it exists

  module _ (j : IsLegal w) (staging : is_staging w.committer ≡ true) (d : IsAttempt w a) (clean : m.undone a ≡ false) where
    abbrev publishes : Bool → Bool
    publishes stands = is_staging w.committer && (is_set_path w a.task (staged_set_path w.job a.task) && stands)

    publishes_is : (b : Bool) → publishes b ≡ b
    publishes_is b = rw (staging, text_true (staged_set_path w.job a.task) (staged_set_path w.job a.task) refl) refl

    abbrev renamed_last : Bool → ℕ → Option ℕ
    renamed_last b t = cond (nat_eq t a.task && b) (Some a.attempt) (s.last t)

    rename_by : (o : Option (List ℕ)) → fin.get s.scene.files (temporary_path w a) ≡ o
        → Facts w minimum (with_files s.scene (renamed s.scene.files (temporary_path w a) (staged_set_path w.job a.task) o))
        (renamed_last (publishes (is_some o))) has_sent
    rename_by None e = subst (λ l. Facts w minimum s.scene l has_sent) (sym
        (last_if a.task a.attempt s.last (publishes false) (publishes_is false))) (sends_publish a clean f)
    rename_by (Some bytes) e =
        rename_keep j staging a d bytes (renamed_last (publishes true)) e (who_here m.publish_sent a true a refl)
        (rw (nat_true a.task a.task refl, publishes_is true) refl) (λ t ne. rw (nat_false t a.task ne) refl) (sends_publish a clean f)

    pub rename_keeps : Keeps (ClusterRename (temporary_path w a) (staged_set_path w.job a.task))
    rename_keeps o honest =
        attempt_by w minimum k s m a n (ClusterRename (temporary_path w a) (staged_set_path w.job a.task)) o has_sent
        (told_is m a _ _ (who_same m.drawn a _ refl) (who_same m.put_sent a _ refl) refl (who_same m.undone a _ (or-false (m.undone a))))
        (sends_publish a clean f) (rename_by (fin.get s.scene.files (temporary_path w a)) refl)

  -- ---- aborts and deletions, before the attempt has sent its publishing request

  abbrev takes_back : Told
  takes_back = record m { undone = put_who m.undone a true }

  -- It is enough to show it for the effect.
  undo_keeps : m.publish_sent a ≡ false → (r : Request) → undoes r ≡ true → ((o : Outcome) → learn w a (known m a) r o ≡ known m a)
      → is_publishing w s.scene a.task r ≡ false
      → (Facts w minimum s.scene s.last takes_back → Facts w minimum (apply s.scene r) s.last takes_back) → Keeps r
  undo_keeps unsent r undo learns publishing acts o honest =
      attempt_plain w minimum k s m a n r publishing o takes_back
      (told_is m a _ _ (who_same m.drawn a _ (ap (λ k. k.drawn) (learns o))) (who_same m.put_sent a _ (ap (λ k. k.put_sent) (learns o)))
      (who_same m.publish_sent a _ (ap (λ k. k.publish_sent) (learns o)))
      (ap (λ b. put_who m.undone a b) (ap (λ b. m.undone a || b) undo ∙ or-true (m.undone a)))) (sends_undo a unsent f)
      (acts (sends_undo a unsent f))

  -- An abort of an upload that it knows.
  pub abort_keeps : IsLegal w → (x : Drawn) → IsIn x (m.drawn a) → m.publish_sent a ≡ false
      → Keeps (AbortUpload w.dest.bucket x.key x.upload)
  abort_keeps j x known_one unsent =
      undo_keeps unsent (AbortUpload w.dest.bucket x.key x.upload) refl (λ o. refl) refl
      (abort_keep j a x known_one (who_here m.undone a true a refl) (abort_turns w s.scene f.there.0 f.there.1 x.key x.upload))

  -- A batch of keys of its own directory.
  pub delete_keeps : (keys : List (List ℕ)) → ((q : List ℕ) → IsIn q keys → begins (attempt_prefix w a) q ≡ true) → m.publish_sent a ≡ false
      → Keeps (DeleteObjects w.dest.bucket keys)
  delete_keeps keys own unsent =
      let r = DeleteObjects w.dest.bucket keys in
      let g = frame s.scene w.dest.bucket r f.there in
      undo_keeps unsent r refl (λ o. refl) refl
      (drops_keep (deletes_drop w s.scene keys f.there) (λ c t lt. set_same w.committer w s.scene (apply s.scene r) t
      (g.keys (key_at w.dest.key w.job (SetPlace t)) (λ b i. false_true (set_apart w a t) (own _ i))) refl))

  -- A deletion of its temporary file.
  pub remove_keeps : IsLegal w → IsAttempt w a → m.publish_sent a ≡ false → Keeps (ClusterDelete (temporary_path w a))
  remove_keeps j d unsent =
      let r = ClusterDelete (temporary_path w a) in
      undo_keeps unsent r refl (λ o. refl) refl
      (drops_keep (remove_drops w s.scene f.there (temporary_path w a)) (λ c t lt. set_same w.committer w s.scene (apply s.scene r) t refl
      (text_left s.scene.files (temporary_path w a) _ (λ e. not_staged j a t d lt (sym e)))))
