-- In every run the records of files whose uploads live exist, so each upload that a set names is named by a record too.
use Rattle.text_and_lists.proofs.Members.{false_true, none_or_some, none_some, some_is}
use Rattle.text_and_lists.specs.Members.{IsIn}
use Rattle.job_invariant.proofs.Apart.{HasKey, record_below}
use Rattle.job_invariant.proofs.Driving.{reads_drive}
use Rattle.job_invariant.proofs.JobCommitting.{commit_drives}
use Rattle.job_invariant.proofs.Legal.{some_dest}
use Rattle.job_invariant.proofs.Legible.{record_read, set_read}
use Rattle.job_invariant.proofs.Placed.{path_below, staged_set}
use Rattle.job_invariant.proofs.Sharing.{check_reads}
use Rattle.job_invariant.proofs.Spares.{set_file}
use Rattle.job_invariant.proofs.Suffix.{record_ends_so}
use Rattle.job_invariant.proofs.Whose.{put_at, same_or_another, who_here, who_other}
use Rattle.job_invariant.specs.Facts.{IsAttempt}
use Rattle.job_invariant.specs.Foreign.{IsForeign}
use Rattle.job_invariant.specs.Told.{Told, known}
use Rattle.job_model.specs.Attempts.{Who}
use Rattle.job_model.specs.Files.{File}
use Rattle.job_model.specs.JobScript.{Script}
use Rattle.job_model.specs.Known.{Drawn, Known}
use Rattle.job_model.specs.Legal.{IsLegal}
use Rattle.job_protocol.proofs.Begun.{after_check_so, clean_of_so, commit_of_so}
use Rattle.job_protocol.specs.Cleanups.{Clean}
use Rattle.job_protocol.specs.Operations.{Operation, Reports, Setting, TheCheck, TheClean, TheCommit, TheSetup, TheSparing, TheTaskAbort}
use Rattle.job_protocol.specs.Operations.{TheTaskCommit, TheWrite, asks, commit_of, tells, who}
use Rattle.job_protocol.specs.Outputs.{files}
use Rattle.job_protocol.specs.Rechecks.{check_after}
use Rattle.job_protocol.specs.Records.{file_record, record_key}
use Rattle.job_protocol.specs.Seen.{Times, is_magic, is_staging}
use Rattle.job_protocol.specs.Setup.{Setup, setup_asks}
use Rattle.job_protocol.specs.Sparing.{Sparing, record_names, ref_of, sparing_start}
use Rattle.job_protocol.specs.TaskAborts.{task_abort_start}
use Rattle.job_protocol.specs.TaskCommits.{task_commit_start}
use Rattle.job_protocol.specs.Writes.{write_start}
use Rattle.protocol_runs.proofs.Entries.{late_now}
use Rattle.protocol_runs.proofs.EveryRun.{good}
use Rattle.protocol_runs.proofs.Running.{At, Early, Late}
use Rattle.protocol_runs.specs.Runs.{BeginAbort, BeginClean, BeginCommit, BeginPublish, BeginSetup, BeginWrite, Beginning, IsOpening}
use Rattle.protocol_runs.specs.Runs.{MayBegin}
use Rattle.protocol_runs.specs.Runs.{Runs, Stand, actor_begins, attempt_sends, begin, begun_attempts, begun_driver, driver_sends, is_set}
use Rattle.protocol_runs.specs.Runs.{nothing_learnt, run_begins, strays}
use Rattle.magic_paths.specs.Layout.{magic_prefix, staged_set_path}
use Rattle.magic_paths.specs.Places.{StagedSetPlace}
use Rattle.retries.specs.Retries.{Retried, fresh, step}
use Rattle.s3_types.specs.Answer.{answer, bucket_of}
use Rattle.s3_types.specs.Moment.{IsHonestOutcome, effect}
use Rattle.s3_types.specs.Pages.{begins}
use Rattle.s3_types.specs.Store.{Content, Scene}
use Rattle.s3_types.specs.declared.journal.Entry.{Entry}
use Rattle.s3_types.specs.declared.journal.Outcome.{Outcome}
use Rattle.s3_types.specs.declared.request.Actor.TheVariants.{Driver}
use Rattle.s3_types.specs.declared.request.Committer.{Committer}
use Rattle.s3_types.specs.declared.request.Committer.TheVariants.{Magic}
use Rattle.s3_types.specs.declared.request.Request.{Request}
use Rattle.s3_types.specs.declared.request.UploadRef.{UploadRef}
use Rattle.std.proofs.Common.{List, Option, Some, ap, arith, false, inl, inr, refl, subst, sym, true, ℕ, [], ◌<◌, ◌^◌, ◌∙◌, ◌∷◌, ◌≡◌, ◌≤◌}
use Rattle.std.proofs.Common.{◌⊎◌}
use Rattle.store_frame.specs.Frame.{changed_keys}
use Rattle.twin_facts.proofs.Keyed.{Keyed, keyed_so}
use Rattle.twin_facts.proofs.Leaving.{Dead}
use Rattle.twin_facts.proofs.OneSide.{attempt_scene, driver_scene, never_cleans}
use Rattle.twin_facts.proofs.Recorded.{AreRecorded, Covers, IsRecorded, Records, WriteRecords, attempt_keys, attempt_later, covers_goes}
use Rattle.twin_facts.proofs.Recorded.{covers_later, driver_later, free_keys, own_records, records_later, sparing_left, strange_later}
use Rattle.twin_facts.specs.Sides.{attempt_saw, driver_saw}
use Rattle.twin_facts.specs.Spared.{NamedAt, NamedBySet}
use Rattle.pending_json.specs.Reading as reading

module _ (g : Setting) where
  abbrev w : Script
  w = g.script

  pub record Stands (s : Scene) (m : Told) (attempts : Who → Option Operation) (driver : Option Operation) : Type 0 where
    pub records : (a : Who) (op : Operation) → attempts a ≡ Some op → Records w s m a op
    pub covers : (u : Retried Sparing) → driver ≡ Some (TheSparing u) → (a : Who) → IsAttempt w a → (f : File) → IsIn f (files w a)
        → Covers w s m u.operation a f

  -- With the magic committer.
  abbrev pub Standing : Stand → Type 0
  Standing x = w.committer ≡ Magic → Stands x.seen.scene x.told x.attempts x.driver

  module _ (j : IsLegal w) (shared : g.shared ≡ true) (k : Times) (opening : Content) (is : IsOpening g opening) where
    -- ---- what begins

    sparing_is : {a b : Retried Sparing} → Some (TheSparing a) ≡ Some (TheSparing b) → a ≡ b
    sparing_is e = cc

    started : w.committer ≡ Magic → (s : Scene) (m : Told) (a : Who) → WriteRecords w s m a (write_start w a)
    started h s m a = grind arith

    -- All files of an attempt that has sent its publishing request are recorded.
    sent_records : (x : Stand) → Late g opening x → Stands x.seen.scene x.told x.attempts x.driver → (a : Who)
        → x.told.publish_sent a ≡ true → AreRecorded w x.seen.scene x.told a []
    sent_records x l h a sent =
        elim (none_or_some (x.attempts a)) [
          | inl e ↦ absurd (false_true (ap (λ (v : Known). v.publish_sent) (l.new a e).0) sent)
          | inr o ↦ by_op o.0 (h.records a o.0 o.1) o.1
        ]
      where
        by_op : (op : Operation) → Records w x.seen.scene x.told a op → x.attempts a ≡ Some op → AreRecorded w x.seen.scene x.told a []
        by_op (TheWrite t) y e = absurd (false_true y.0 sent)
        by_op (TheTaskCommit t) y e = y
        by_op (TheTaskAbort t) y e = y sent
        by_op _ y e = absurd (l.fine a _ e).1

    standing_begins : (x : Stand) (b : Beginning) → MayBegin g x b → (is_set x.driver ≡ true → Late g opening x) → Standing x
        → Standing (begin g x b)
    standing_begins x b may late h magic = record { records = records_by b may; covers = covers_by b may }
      where
        old : Stands x.seen.scene x.told x.attempts x.driver
        old = h magic

        records_by : (b : Beginning) → MayBegin g x b → (a : Who) (op : Operation) → begun_attempts g x b a ≡ Some op
            → Records w x.seen.scene x.told a op
        records_by (BeginWrite c) may =
            put_at (Records w x.seen.scene x.told) x.attempts c (TheWrite (fresh w.retries (write_start w c)))
            (ap (λ (v : Known). v.publish_sent) ((late may.0).new c may.2).0, started magic x.seen.scene x.told c) old.records
        records_by (BeginPublish c) may =
            put_at (Records w x.seen.scene x.told) x.attempts c (TheTaskCommit (fresh w.retries (task_commit_start w c)))
            ((old.records c _ may.1.2).1 refl) old.records
        records_by (BeginAbort c) may =
            put_at (Records w x.seen.scene x.told) x.attempts c (TheTaskAbort (fresh w.retries (task_abort_start w (known x.told c))))
            (sent_records x (late may.0) old c) old.records
        records_by _ may = old.records

        no_commit : (reports : Reports) (u : Retried Sparing) → Some (commit_of g reports) ≡ Some (TheSparing u) → ⊥
        no_commit reports u = commit_of_so g (λ op. Some op ≡ Some (TheSparing u) → ⊥) (λ missing e. absurd cc) (λ t e. absurd cc) reports

        covers_by : (b : Beginning) → MayBegin g x b → (u : Retried Sparing) → begun_driver g x b ≡ Some (TheSparing u) → (a : Who)
            → IsAttempt w a → (f : File) → IsIn f (files w a) → Covers w x.seen.scene x.told u.operation a f
        covers_by BeginSetup may u e a d f i = absurd cc
        covers_by (BeginCommit reports) may u e a d f i = absurd (no_commit reports u e)
        covers_by BeginClean may u e a d f i = clean_of_so g (λ op. Some op ≡ Some (TheSparing u) → Covers w x.seen.scene x.told u.operation
            a f) (λ e. absurd cc) (λ e. subst (λ (v : Retried Sparing). Covers w x.seen.scene x.told v.operation a f) (sparing_is e)
            (subst (λ c. Covers w x.seen.scene x.told (sparing_start c) a f) (sym magic) (λ z. absurd z))) e
        covers_by _ may u e a d f i = old.covers u e a d f i

    -- ---- what is sent

    -- An entry of the driver that changes no key below the job's magic directory.
    free_stands : (x : Stand) → Late g opening x → Stands x.seen.scene x.told x.attempts x.driver
        → (op : Operation) (n : ℕ) (r : Request) (o : Outcome)
        → (bucket_of r ≡ w.dest.bucket → (k : List ℕ) → IsIn k (changed_keys r) → begins (magic_prefix w.dest.key w.job) k ≡ false)
        → ((u : Retried Sparing) → Some (tells g (who Driver) op o) ≡ Some (TheSparing u) → ⊥)
        → let z = driver_saw g k x op n r o in Stands (effect x.seen.scene r o) z.told z.attempts z.driver
    free_stands x l old op n r o free none =
        let told = (driver_saw g k x op n r o).told in
        record {
          records = λ a mine e. records_later (driver_later j x.seen.scene l.hold.there r o x.told n a)
              (free_keys j x.seen.scene l.hold.there r o told a free) refl mine (old.records a mine e);
          covers = λ u e. absurd (none u e);
        }

    driver_stands : (x : Stand) → Late g opening x → Keyed w x.told.drawn x.seen.scene.content → w.committer ≡ Magic
        → Stands x.seen.scene x.told x.attempts x.driver → (op : Operation) → x.driver ≡ Some op → At g opening (Some op) x.seen x.told
        → (n : ℕ) (r : Request) (o : Outcome) → asks g (who Driver) nothing_learnt op ≡ Some r
        → x.seen.scene.content.next ≤ 2 ^ 64 → IsHonestOutcome o (answer x.seen.scene r) → ((t : Retried Clean) → op ≡ TheClean t → ⊥)
        → let z = driver_saw g k x op n r o in Stands (effect x.seen.scene r o) z.told z.attempts z.driver
    driver_stands x l keyed magic old (TheSetup u) d y n r o asked few honest never = absurd (none_some (ap (setup_asks w) y.0) asked)
    driver_stands x l keyed magic old (TheCommit c) d y n r o asked few honest never = free_stands x l old (TheCommit c) n r o
        (commit_drives w g.minimum k x.seen x.told n j l.hold c y.fits r asked).keys (λ u e. absurd cc)
    driver_stands x l keyed magic old (TheClean u) d y n r o asked few honest never = absurd (never u refl)
    driver_stands x l keyed magic old (TheCheck u) d y n r o asked few honest never =
        free_stands x l old (TheCheck u) n r o (reads_drive w r (check_reads g j u.operation r asked)).keys
        (λ v. after_check_so g (λ op. Some op ≡ Some (TheSparing v) → ⊥) (λ e. absurd cc) (λ t e. absurd cc)
        (step w.retries (check_after w) u o))
    driver_stands x l keyed magic old (TheSparing u) d y n r o asked few honest never =
        let told = (driver_saw g k x (TheSparing u) n r o).told in
        let left : (a : Who) → IsAttempt w a → (f : File) → IsIn f (files w a) → HasKey w x.seen.scene (record_key w a f)
        → IsRecorded w (effect x.seen.scene r o) told a f = λ a c. sparing_left j x.seen.scene x.told l.hold few keyed magic n u y r
        asked o honest a c (old.covers u d a c) in
        record {
          records = λ a mine e. records_later (driver_later j x.seen.scene l.hold.there r o x.told n a) (left a (l.fine a mine e).0) refl
              mine (old.records a mine e);
          covers = λ v e a c f i. subst (λ (q : Retried Sparing). Covers w (effect x.seen.scene r o) told q.operation a f) (sparing_is e)
              (covers_goes j x.seen.scene x.told l.hold few keyed magic n u y r asked o honest a c (left a c) f i (old.covers u d a c f i));
        }
    driver_stands x l keyed magic old _ d y n r o asked few honest never = absurd y

    attempt_stands : (x : Stand) → Late g opening x → w.committer ≡ Magic → Stands x.seen.scene x.told x.attempts x.driver
        → (b : Who) (op : Operation) → x.attempts b ≡ Some op → (n : ℕ) (r : Request) (o : Outcome) → asks g b (known x.told b) op ≡ Some r
        → let z = attempt_saw g k x b op n r o in Stands (effect x.seen.scene r o) z.told z.attempts z.driver
    attempt_stands x l magic old b op at n r o asked =
        let f = l.fine b op at in
        let told = (attempt_saw g k x b op n r o).told in
        let keys = attempt_keys g j x.seen.scene l.hold.there x.told b f.0 op f.1 r asked o in
        record {
          records = λ a mine e. elim (same_or_another a b) [
            | inl is ↦
                let one : tells g b op o ≡ mine = some_is (sym (who_here x.attempts b (Some (tells g b op o)) a is) ∙ e) in
                subst (λ c. Records w (effect x.seen.scene r o) told c mine) (sym is)
                (subst (Records w (effect x.seen.scene r o) told b) one (own_records g j x.seen.scene l.hold.there x.told b f.0 op f.1 r
                asked o (ap is_magic magic) (old.records b op at)))
            | inr ne ↦
                let before = sym (who_other x.attempts b (Some (tells g b op o)) a ne) ∙ e in
                records_later (attempt_later j x.seen.scene l.hold.there r o x.told b a) (keys a (l.fine a mine before).0)
                (who_other x.told.publish_sent b _ a ne) mine (old.records a mine before)
          ];
          covers = λ u e a c q i. covers_later (attempt_later j x.seen.scene l.hold.there r o x.told b a) (keys a c) u.operation q i
              (old.covers u e a c q i);
        }

    -- While the set-up goes on, there is nothing yet.
    setup_stands : (x : Stand) → Early g opening x → (op : Operation) → x.driver ≡ Some op → (s : Scene) (n : ℕ) (r : Request) (o : Outcome)
        → let z = driver_saw g k x op n r o in Stands s z.told z.attempts z.driver
    setup_stands x h op g s n r o = grind arith

    strange_stands : (x : Stand) → Early g opening x ⊎ Late g opening x → (n : ℕ) (r : Request) (o : Outcome) → IsForeign w x.told.drawn r
        → Stands x.seen.scene x.told x.attempts x.driver → Stands (effect x.seen.scene r o) x.told x.attempts x.driver
    strange_stands x (inl e) n r o f old = record {
      records = λ a mine y. absurd (none_some (e.none a) y);
      covers = λ u y. absurd
          (elim e.setup [ inl none ↦ none_some none y | inr v ↦ no_clean (sym v.1 ∙ y) ]);
    }
      where
        no_clean : {a : Retried Setup} {b : Retried Sparing} → Some (TheSetup a) ≡ Some (TheSparing b) → ⊥
        no_clean e = absurd cc
    strange_stands x (inr l) n r o f old =
        let there = l.hold.there in
        let keys : (a : Who) (q : File) → IsIn q (files w a) → HasKey w x.seen.scene (record_key w a q)
        → IsRecorded w (effect x.seen.scene r o) x.told a q = λ a. free_keys j x.seen.scene there r o x.told a f.keys in
        record {
          records = λ a mine y. records_later (strange_later j x.seen.scene there r o x.told a) (keys a) refl mine (old.records a mine y);
          covers = λ u y a c q i. covers_later (strange_later j x.seen.scene there r o x.told a) (keys a) u.operation q i
              (old.covers u y a c q i);
        }

    pub standing_so : (es : List Entry) (x : Stand) → Runs g k opening es x → Standing x
    standing_so es x run_begins magic = record { records = λ a op e. absurd cc; covers = λ u e. absurd cc }
    standing_so es x (actor_begins fs y b run may) magic = standing_begins y b may (late_now g k opening j is fs y run)
        (standing_so fs y run) magic
    standing_so es x (driver_sends fs y op n r o run d asked timely few honest) magic =
        let z = driver_saw g k y op n r o in
        let old = standing_so fs y run magic in
        subst (λ s. Stands s z.told z.attempts z.driver) (sym (driver_scene w k y.seen n r o)) (elim (good g k opening j is fs y run) [
          | inl e ↦ setup_stands y e op d (effect y.seen.scene r o) n r o
          | inr l ↦ driver_stands y l (keyed_so g k opening j is fs y run) magic old op d
              (subst (λ q. At g opening q y.seen y.told) d l.driver) n r o asked few honest
              (λ t e. never_cleans g shared k opening fs y run t (d ∙ ap (λ q. Some q) e))
        ])
    standing_so es x (attempt_sends fs y a op n r o run set at asked honest) magic =
        let z = attempt_saw g k y a op n r o in
        subst (λ s. Stands s z.told z.attempts z.driver) (sym (attempt_scene w k y.seen n r a o))
        (attempt_stands y (late_now g k opening j is fs y run set) magic (standing_so fs y run magic) a op at n r o asked)
    standing_so es x (strays fs y n r o run f) magic = strange_stands y (good g k opening j is fs y run) n r o f
        (standing_so fs y run magic)

    -- ---- what a set names

    -- A record names the upload too, or the upload is gone.
    pub set_named : (x : Stand) → Late g opening x → Standing x → x.seen.scene.content.next ≤ 2 ^ 64 → (c : Committer) → w.committer ≡ c
        → (u : UploadRef) → NamedBySet w x.seen.scene u → ((p : List ℕ) × NamedAt c w x.seen.scene p u) ⊎ Dead w x.seen.scene u.upload
    set_named x l h few Magic magic u (t, low, bytes, stands, named) =
        let set = l.hold.sets t bytes low stands in
        let d : IsAttempt w set.by = record { task = subst (λ n. n < w.tasks) (sym set.task) low; attempt = set.number } in
        let file = set_file j l.hold few set.by set.commits set.are bytes (ap reading.set_of set.text ∙ set_read j l.hold few set.by
        set.commits d set.are) u named in
        let same : u.upload ≡ (file.2).drawn.upload = ap (λ (q : UploadRef). q.upload) file.3 in
        elim (sent_records x l (h magic) set.by set.has_sent file.0 file.1) [
          | inl none ↦ absurd none
          | inr recorded ↦ elim recorded [
            | inl settled ↦ elim settled [
              | inl undone ↦ absurd (false_true (l.hold.kept set.by set.has_sent) undone)
              | inr y ↦ inr (subst (Dead w x.seen.scene) (ap (λ (q : Drawn). q.upload)
                  (l.hold.ids.once set.by y.0 (file.2).drawn y.1 (file.2).known (y.2 ∙ sym (file.2).key)) ∙ sym same) y.3)
            ]
            | inr y ↦
                let rec = l.hold.records (ap is_magic magic) set.by file.0 y.0 file.1 y.1 in
                let one : rec.written.drawn ≡ (file.2).drawn = l.hold.ids.once set.by rec.written.drawn (file.2).drawn rec.written.known
                (file.2).known (rec.written.key ∙ sym (file.2).key) in
                let text : record_names (reading.pending_of (y.0).bytes) ≡ ref_of (file_record w set.by file.0 rec.written.drawn) ∷ [] = ap
                record_names (ap reading.pending_of rec.bytes ∙ record_read j l.hold few set.by file.0 file.1 rec.written) in
                inl (
                  record_key w set.by file.0,
                  (
                    y.0,
                    record_below j set.by file.0,
                    record_ends_so w.dest.key w.job (set.by).task (set.by).attempt (file.0).0 (some_dest j),
                    y.1,
                    subst (λ l. IsIn u l) (sym text) (inl (file.3 ∙ ap (λ q. ref_of (file_record w set.by file.0 q)) (sym one))),
                  ),
                )
          ]
        ]
    set_named x l h few _ staging u (t, low, bytes, stands, named) =
        inl (
          staged_set_path w.job t,
          (
            bytes,
            path_below w (StagedSetPlace t),
            sym
                (staged_set w.committer w x.seen.scene t (ap is_staging staging)) ∙ stands,
            named,
          ),
        )
