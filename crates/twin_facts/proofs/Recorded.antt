-- With the magic committer, the record of a file that an attempt has written exists as long as the file's upload lives. An abort or clean
-- of the job deletes no record whose upload lives.
use Rattle.text_and_lists.proofs.Members.{false_true, filter_in, in_append, in_back, in_front, some_is}
use Rattle.text_and_lists.specs.Members.{IsIn}
use Rattle.job_invariant.proofs.Aborting.{dropped_in, taken_in}
use Rattle.job_invariant.proofs.Apart.{HasKey, abort_keys, another, commit_keys, key_left, record_below, write_keys}
use Rattle.job_invariant.proofs.EndedGone.{stays_gone}
use Rattle.job_invariant.proofs.Going.{effect_so, step_so}
use Rattle.job_invariant.proofs.Learning.{Knows, known_still}
use Rattle.job_invariant.proofs.Legal.{some_dest}
use Rattle.job_invariant.proofs.Legible.{record_read}
use Rattle.job_invariant.proofs.Sent.{not_set}
use Rattle.job_invariant.proofs.Shapes.{answer_is, key_before, puts}
use Rattle.job_invariant.proofs.Spares.{in_or_not}
use Rattle.job_invariant.proofs.Suffix.{record_ends_so}
use Rattle.job_invariant.proofs.Whose.{same_or_another, who_here, who_other}
use Rattle.job_invariant.specs.Facts.{Facts, IsAttempt}
use Rattle.job_invariant.specs.Filed.{HasItsKey}
use Rattle.job_invariant.specs.Fits.{Fits, FitsWrite}
use Rattle.job_invariant.specs.Spares.{FitsSparing}
use Rattle.job_invariant.specs.Stores.{at_key}
use Rattle.job_invariant.specs.Told.{Told, at_event, known, tell_attempt, tell_driver, undoes}
use Rattle.job_model.specs.Attempts.{Who}
use Rattle.job_model.specs.Files.{File}
use Rattle.job_model.specs.JobScript.{Script}
use Rattle.job_model.specs.Known.{Drawn}
use Rattle.job_model.specs.Legal.{IsLegal}
use Rattle.job_protocol.specs.Knowledge.{drawn_last, learn}
use Rattle.job_protocol.specs.Operations.{Operation, Setting, TheTaskAbort, TheTaskCommit, TheWrite, asks, tells}
use Rattle.job_protocol.specs.Outputs.{files}
use Rattle.job_protocol.specs.Records.{file_key, file_record, record_key, record_text}
use Rattle.job_protocol.specs.Seen.{is_magic, is_staging}
use Rattle.job_protocol.specs.Sparing.{Aborting, Naming, Reading, Removing, Sparing, SparingOver, Walking, aborting, deleting, emptying}
use Rattle.job_protocol.specs.Sparing.{names, reading_on, record_names, record_request, ref_of, removing, sparing_after, sparing_asks}
use Rattle.job_protocol.specs.Sparing.{sparing_hears, walking}
use Rattle.job_protocol.specs.TaskAborts.{TaskAbort, task_abort_asks}
use Rattle.job_protocol.specs.Uploading.{Uploaded, Uploading, upload_asks, upload_hears}
use Rattle.job_protocol.specs.Writes.{Marking, Recording, Write, WriteOver, uploaded, write_after, write_asks, write_hears, writing}
use Rattle.list_walk.specs.Walks.{Deleting, keys_on, last_of, page_after, walked, walked_by}
use Rattle.magic_paths.specs.Layout.{magic_prefix}
use Rattle.magic_paths.specs.Places.{MarkerPlace, RecordPlace, is_record}
use Rattle.retries.specs.Retries.{Retried, step}
use Rattle.s3_types.specs.Answer.{answer, apply, bucket_of, found}
use Rattle.s3_types.specs.Moment.{IsHonestOutcome, effect}
use Rattle.s3_types.specs.Pages.{begins, listed}
use Rattle.s3_types.specs.Store.{Scene}
use Rattle.s3_types.specs.declared.journal.Outcome.{Outcome}
use Rattle.s3_types.specs.declared.journal.Outcome.TheVariants.{Answered}
use Rattle.s3_types.specs.declared.reply.PageEntry.{PageEntry}
use Rattle.s3_types.specs.declared.reply.Reply.{Reply}
use Rattle.s3_types.specs.declared.reply.Reply.TheVariants.{Page}
use Rattle.s3_types.specs.declared.request.Committer.{Committer}
use Rattle.s3_types.specs.declared.request.Committer.TheVariants.{Magic}
use Rattle.s3_types.specs.declared.request.Request.{Request}
use Rattle.s3_types.specs.declared.request.Request.TheVariants.{AbortUpload, GetObject}
use Rattle.s3_types.specs.declared.request.UploadRef.{UploadRef}
use Rattle.std.proofs.Common.{Bool, List, None, Option, Some, ap, arith, drop, false, inl, inr, length, nat_lt, refl, subst, sym, take}
use Rattle.std.proofs.Common.{true, ℕ, [], ◌++◌, ◌^◌, ◌||◌, ◌∙◌, ◌∷◌, ◌≡◌, ◌≤◌, ◌⊎◌}
use Rattle.std.proofs.Math.Bool.{or-false, or-true}
use Rattle.std.specs.List.{filter}
use Rattle.store_frame.proofs.Flat.{page_begins}
use Rattle.store_frame.specs.Frame.{changed_keys}
use Rattle.store_frame.specs.Held.{HasBucket}
use Rattle.twin_facts.proofs.Keyed.{Keyed, ref}
use Rattle.twin_facts.proofs.Leaving.{Dead, abort_dead}
use Rattle.pending_json.specs.Reading as reading
use Rattle.job_model.specs.declared.ends.TaskEnd.TheVariants as ends
use Rattle.job_protocol.specs.Writes as writes
use Rattle.job_protocol.specs.Sparing as sparing

-- ---- what becomes of a file's record

-- The attempt has taken something back, or the file's upload is gone,
abbrev pub Settled : Script → Scene → Told → Who → File → Type 0
Settled w s m a f = (m.undone a ≡ true) ⊎ ((d : Drawn) × IsIn d (m.drawn a) × (d.key ≡ file_key w f) × Dead w s d.upload)

-- or the file's record exists.
abbrev pub IsRecorded : Script → Scene → Told → Who → File → Type 0
IsRecorded w s m a f = Settled w s m a f ⊎ HasKey w s (record_key w a f)

-- That holds of each file but these.
abbrev pub AreRecorded : Script → Scene → Told → Who → List File → Type 0
AreRecorded w s m a left = (f : File) → IsIn f (files w a) → IsIn f left ⊎ IsRecorded w s m a f

abbrev pub WriteRecords : Script → Scene → Told → Who → Write → Type 0
WriteRecords w s m a (writes.Uploads f fs u) = AreRecorded w s m a (f ∷ fs)
WriteRecords w s m a (Marking f fs) = AreRecorded w s m a (f ∷ fs)
WriteRecords w s m a (Recording f fs) = AreRecorded w s m a (f ∷ fs)
WriteRecords w s m a (WriteOver end) = end ≡ ends.Done → AreRecorded w s m a []

-- By the operation of the attempt.
abbrev pub Records : Script → Scene → Told → Who → Operation → Type 0
Records w s m a (TheWrite t) = (m.publish_sent a ≡ false) × WriteRecords w s m a t.operation
Records w s m a (TheTaskCommit t) = AreRecorded w s m a []
Records w s m a (TheTaskAbort t) = m.publish_sent a ≡ true → AreRecorded w s m a []
Records w s m a _ = Unit {0}

-- The file's upload is among these.
abbrev pub IsNamed : Script → Told → List UploadRef → Who → File → Type 0
IsNamed w m us a f = (d : Drawn) × IsIn d (m.drawn a) × (d.key ≡ file_key w f) × IsIn (ref d) us

-- What an abort or clean at a shared destination has to do with the records that it has listed.
abbrev pub Covers : Script → Scene → Told → Sparing → Who → File → Type 0
Covers w s m (Walking keys) a f = IsIn (record_key w a f) keys → IsRecorded w s m a f
Covers w s m (Reading named p ps all) a f = IsIn (record_key w a f) all → (IsIn (record_key w a f) (p ∷ ps) × IsRecorded w s m a f)
    ⊎ (IsNamed w m named a f ⊎ Settled w s m a f)
Covers w s m (Aborting u us all) a f = IsIn (record_key w a f) all → IsNamed w m (u ∷ us) a f ⊎ Settled w s m a f
Covers w s m (sparing.Deleting k ks) a f = IsIn (record_key w a f) (k ∷ ks) → Settled w s m a f
Covers w s m _ a f = Unit {0}

-- ---- from one state to a later one

pub record Later (w : Script) (s t : Scene) (m n : Told) (a : Who) : Type 0 where
  pub undone : m.undone a ≡ true → n.undone a ≡ true
  pub dead : (id : ℕ) → Dead w s id → Dead w t id
  pub known : (d : Drawn) → IsIn d (m.drawn a) → Knows (n.drawn a) d

module _ {w : Script} {s t : Scene} {m n : Told} {a : Who} (l : Later w s t m n a) where
  pub settled_later : (f : File) → Settled w s m a f → Settled w t n a f
  settled_later f (inl u) = inl (l.undone u)
  settled_later f (inr x) = let y = l.known x.0 x.1 in inr (y.0, y.1, y.3 ∙ x.2, subst (Dead w t) (sym y.2) (l.dead (x.0).upload x.3))

  named_later : (us : List UploadRef) (f : File) → IsNamed w m us a f → IsNamed w n us a f
  named_later us f x =
      let y = l.known x.0 x.1 in
      let same : ref x.0 ≡ ref y.0 = λ i. record { key = sym y.3 i; upload = sym y.2 i } in
      (y.0, y.1, y.3 ∙ x.2, subst (λ q. IsIn q us) same x.3)

  module _ (keys : (f : File) → IsIn f (files w a) → HasKey w s (record_key w a f) → IsRecorded w t n a f) where
    pub recorded_later : (f : File) → IsIn f (files w a) → IsRecorded w s m a f → IsRecorded w t n a f
    recorded_later f i (inl x) = inl (settled_later f x)
    recorded_later f i (inr k) = keys f i k

    pub all_later : (left : List File) → AreRecorded w s m a left → AreRecorded w t n a left
    all_later left h f i = elim (h f i) [ inl x ↦ inl x | inr x ↦ inr (recorded_later f i x) ]

    pub write_later : (x : Write) → WriteRecords w s m a x → WriteRecords w t n a x
    write_later (writes.Uploads f fs v) h = all_later (f ∷ fs) h
    write_later (Marking f fs) h = all_later (f ∷ fs) h
    write_later (Recording f fs) h = all_later (f ∷ fs) h
    write_later (WriteOver end) h = λ e. all_later [] (h e)

    pub records_later : n.publish_sent a ≡ m.publish_sent a → (op : Operation) → Records w s m a op → Records w t n a op
    records_later sent (TheWrite u) h = (sent ∙ h.0, write_later u.operation h.1)
    records_later sent (TheTaskCommit u) h = all_later [] h
    records_later sent (TheTaskAbort u) h = λ e. all_later [] (h (sym sent ∙ e))
    records_later sent _ h = tt

    pub covers_later : (c : Sparing) (f : File) → IsIn f (files w a) → Covers w s m c a f → Covers w t n c a f
    covers_later (Walking keys) f i h = λ k. recorded_later f i (h k)
    covers_later (Reading named p ps all) f i h = λ k. elim (h k) [
      | inl x ↦ inl (x.0, recorded_later f i x.1)
      | inr x ↦ inr (elim x [ inl y ↦ inl (named_later named f y) | inr y ↦ inr (settled_later f y) ])
    ]
    covers_later (Aborting u us all) f i h = λ k. elim (h k) [ inl x ↦ inl (named_later (u ∷ us) f x) | inr x ↦ inr (settled_later f x) ]
    covers_later (sparing.Deleting q qs) f i h = λ k. settled_later f (h k)
    covers_later _ f i h = tt

-- ---- what a request leaves

module _ {w : Script} (j : IsLegal w) (s : Scene) (there : HasBucket s.content w.dest.bucket) (r : Request) (o : Outcome) where
  -- A request that changes no key below the magic directory.
  pub free_keys : (n : Told) (a : Who) → (bucket_of r ≡ w.dest.bucket → (k : List ℕ) → IsIn k (changed_keys r)
      → begins (magic_prefix w.dest.key w.job) k ≡ false) → (f : File) → IsIn f (files w a) → HasKey w s (record_key w a f)
      → IsRecorded w (effect s r o) n a f
  free_keys n a free f i h =
      inr (effect_so (λ t. HasKey w t (record_key w a f)) s r o h (key_left w s there (record_key w a f) r
      (λ b x. false_true (free b (record_key w a f) x) (record_below j a f)) h))

  -- A request of the driver, or of a stranger.
  pub driver_later : (m : Told) (k : ℕ) (a : Who) → Later w s (effect s r o) m (at_event k (tell_driver m r o)) a
  driver_later m k a = record { undone = λ e. e; dead = λ id d. stays_gone w s there id r o d; known = λ d i. (d, i, refl, refl) }

  pub strange_later : (m : Told) (a : Who) → Later w s (effect s r o) m m a
  strange_later m a = record { undone = λ e. e; dead = λ id d. stays_gone w s there id r o d; known = λ d i. (d, i, refl, refl) }

  -- A request of an attempt.
  pub attempt_later : (m : Told) (b a : Who) → Later w s (effect s r o) m (tell_attempt w m b r o) a
  attempt_later m b a = record { undone = still; dead = λ id d. stays_gone w s there id r o d; known = λ d i. known_still w m b r o a d i }
    where
      still : m.undone a ≡ true → (tell_attempt w m b r o).undone a ≡ true
      still e = elim (same_or_another a b) [
        | inr ne ↦ who_other m.undone b _ a ne ∙ e
        | inl is ↦ who_here m.undone b _ a is ∙ ap (λ z. z || undoes r) (ap m.undone (sym is) ∙ e)
      ]

-- A request of an abort takes something back, or changes no key.
abort_takes : (w : Script) (b : Who) (t : TaskAbort) (r : Request) → task_abort_asks w b t ≡ Some r → (undoes r ≡ true)
    ⊎ (changed_keys r ≡ [])
abort_takes w b t r h = grind arith

module _ (g : Setting) (j : IsLegal g.script) (s : Scene) (there : HasBucket s.content g.script.dest.bucket) (m : Told) (b : Who)
    (d : IsAttempt g.script b) (op : Operation) (fits : Fits g.script g.minimum b m op) (r : Request)
    (asked : asks g b (known m b) op ≡ Some r) (o : Outcome) where
  abbrev w : Script
  w = g.script

  abbrev n : Told
  n = tell_attempt w m b r o

  abbrev t : Scene
  t = effect s r o

  -- Records of any attempt stay, unless this one takes back its own.
  pub attempt_keys : (a : Who) → IsAttempt w a → (f : File) → IsIn f (files w a) → HasKey w s (record_key w a f) → IsRecorded w t n a f
  attempt_keys a c f i h = by op fits asked
    where
      stays : (HasKey w s (record_key w a f) → HasKey w (apply s r) (record_key w a f)) → IsRecorded w t n a f
      stays acts = inr (effect_so (λ t. HasKey w t (record_key w a f)) s r o h (acts h))

      own : (a ≡ b) → (undoes r ≡ true) ⊎ (changed_keys r ≡ []) → IsRecorded w t n a f
      own is (inl u) = inl (inl (who_here m.undone b _ a is ∙ ap (λ z. m.undone b || z) u ∙ or-true (m.undone b)))
      own is (inr none) = stays (key_left w s there (record_key w a f) r (λ e x. subst (λ (l : List (List ℕ)). IsIn (record_key w a f) l)
          none x))

      by : (op : Operation) → Fits w g.minimum b m op → asks g b (known m b) op ≡ Some r → IsRecorded w t n a f
      by (TheWrite x) fits e = stays (write_keys w s there b (known m b) x.operation r e (record_key w a f))
      by (TheTaskCommit x) fits e = stays (commit_keys w s there b (known m b) x.operation r e (record_key w a f))
      by (TheTaskAbort x) fits e = elim (same_or_another a b) [
        | inl is ↦ own is (abort_takes w b x.operation r e)
        | inr ne ↦ stays (abort_keys w s there b (known m b) x.operation fits r e (record_key w a f) (another j a b c d ne f))
      ]
      by _ fits e = absurd fits

  abbrev mine : Later w s t m n b
  mine = attempt_later j s there r o m b b

  still_all : (left : List File) → AreRecorded w s m b left → AreRecorded w t n b left
  still_all = all_later mine (attempt_keys b d)

  -- ---- its own write

  abbrev Unsent : Request → Type 0
  Unsent q = (learn w b (known m b) q o).publish_sent ≡ m.publish_sent b

  upload_unsent : (f : File) (u : Uploading) → Unsent (upload_asks w (known m b) f u)
  upload_unsent f u = grind arith

  write_unsent : is_magic w.committer ≡ true → (x : Write) → FitsWrite w g.minimum b (known m b) x → write_asks w b (known m b) x ≡ Some r
      → Unsent r
  write_unsent magic (writes.Uploads f fs u) h e = subst Unsent (some_is e) (upload_unsent f u)
  write_unsent magic (Marking f fs) h e = subst Unsent (some_is e) (ap (λ z. m.publish_sent b || z)
      (not_set j magic b.task (MarkerPlace b.task b.attempt f.0) (f, h.2.each f (inl refl), refl) d.task (λ z. absurd cc)) ∙ or-false
      (m.publish_sent b))
  write_unsent magic (Recording f fs) h e = subst Unsent (some_is e) (ap (λ z. m.publish_sent b || z)
      (not_set j magic b.task (RecordPlace b.task b.attempt f.0) (f, h.2.each f (inl refl), refl) d.task (λ z. absurd cc)) ∙ or-false
      (m.publish_sent b))
  write_unsent magic (WriteOver end) h e = absurd cc

  writing_records : (fs : List File) → AreRecorded w t n b fs → WriteRecords w t n b (writing fs)
  writing_records [] h = λ e. h
  writing_records (f ∷ fs) h = h

  uploaded_records : (f : File) (fs : List File) (u : Uploaded) → AreRecorded w t n b (f ∷ fs) → WriteRecords w t n b (uploaded w f fs u)
  uploaded_records f fs u h = grind arith

  -- The record that it puts exists, if the put was answered.
  put_records : (x : Reply) → o ≡ Answered x → (f : File) (fs : List File) → write_asks w b (known m b) (Recording f fs) ≡ Some r
      → AreRecorded w t n b (f ∷ fs) → AreRecorded w t n b fs
  put_records x is f fs e h k i = elim (h k i) [
    | inr y ↦ inr y
    | inl y ↦ elim y [ inr more ↦ inl more | inl same ↦ inr (inr (subst (λ q. HasKey w t (record_key w b q)) (sym same) put)) ]
  ]
    where
      put : HasKey w t (record_key w b f)
      put = subst (λ v. HasKey w (effect s r v) (record_key w b f)) (sym is) (subst (λ q. HasKey w (apply s q) (record_key w b f))
          (some_is e) (_, (puts w s there.0 there.1 (record_key w b f) (record_text w b f (drawn_last (known m b))) None).here))

  heard_records : (y : Write) → WriteRecords w t n b y → write_asks w b (known m b) y ≡ Some r → (x : Reply) → o ≡ Answered x
      → WriteRecords w t n b (write_hears w g.minimum y x)
  heard_records (writes.Uploads f fs u) h e x is = uploaded_records f fs (upload_hears w g.minimum f u x) h
  heard_records (Marking f fs) h e x is = h
  heard_records (Recording f fs) h e x is = writing_records fs (put_records x is f fs e h)
  heard_records (WriteOver end) h e x is = absurd cc

  sent_here : n.publish_sent b ≡ (learn w b (known m b) r o).publish_sent
  sent_here = who_here m.publish_sent b _ b refl

  abort_unsent : (x : TaskAbort) → task_abort_asks w b x ≡ Some r → Unsent r
  abort_unsent x h = grind arith

  pub own_records : is_magic w.committer ≡ true → Records w s m b op → Records w t n b (tells g b op o)
  own_records magic h = by op fits asked h
    where
      by : (op : Operation) → Fits w g.minimum b m op → asks g b (known m b) op ≡ Some r → Records w s m b op
          → Records w t n b (tells g b op o)
      by (TheWrite x) fits e h = (
        sent_here ∙ write_unsent magic x.operation fits.1 e ∙ h.0,
        step_so w.retries (write_after w g.minimum) x o (WriteRecords w t n b)
            (λ y is. heard_records x.operation (write_later mine (attempt_keys b d) x.operation h.1) e y is)
            (λ none. write_later mine (attempt_keys b d) x.operation h.1) (λ none e. absurd cc),
      )
      by (TheTaskCommit x) fits e h = still_all [] h
      by (TheTaskAbort x) fits e h = λ sent. still_all [] (h (sym (abort_unsent x.operation e) ∙ sym sent_here ∙ sent))
      by _ fits e h = absurd fits

-- ---- an abort or clean goes on

module _ {w : Script} {minimum : ℕ} (j : IsLegal w) (s : Scene) {last : ℕ → Option ℕ} (m : Told) (facts : Facts w minimum s last m)
    (few : s.content.next ≤ 2 ^ 64) (keyed : Keyed w m.drawn s.content) (magic : w.committer ≡ Magic) (n : ℕ) (t : Retried Sparing)
    (fits : FitsSparing w m.drawn t.operation) (r : Request)
    (asked : sparing_asks w t.operation ≡ Some r) (o : Outcome) (honest : IsHonestOutcome o (answer s r)) (a : Who) (d : IsAttempt w a)
  where
    abbrev now : Scene
    now = effect s r o

    abbrev told : Told
    told = at_event n (tell_driver m r o)

    abbrev later : Later w s now m told a
    later = driver_later j s facts.there r o m n a

    record_none : (c : Committer) (p : List ℕ) → changed_keys (record_request c w p) ≡ []
    record_none c p = grind arith

    -- It deletes no record whose upload lives.
    pub sparing_left : ((f : File) → IsIn f (files w a) → Covers w s m t.operation a f) → (f : File) → IsIn f (files w a)
        → HasKey w s (record_key w a f) → IsRecorded w now told a f
    sparing_left cover f i h = by t.operation asked (cover f i)
      where
        free : changed_keys r ≡ [] → IsRecorded w now told a f
        free none = free_keys j s facts.there r o told a (λ b k x. absurd (subst (λ (l : List (List ℕ)). IsIn k l) none x)) f i h

        by : (c : Sparing) → sparing_asks w c ≡ Some r → Covers w s m c a f → IsRecorded w now told a f
        by (Reading named p ps all) e cover = free (ap changed_keys (sym (some_is e)) ∙ record_none w.committer p)
        by (sparing.Deleting q qs) e cover = elim (in_or_not (record_key w a f) (take 1000 (q ∷ qs))) [
          | inl x ↦ inl (settled_later later f (cover (taken_in 1000 (q ∷ qs) (record_key w a f) x)))
          | inr out ↦ inr (effect_so (λ t. HasKey w t (record_key w a f)) s r o h
              (key_left w s facts.there (record_key w a f) r (λ b x. out
              (subst (λ y. IsIn (record_key w a f) (changed_keys y)) (sym (some_is e)) x)) h))
        ]
        by (SparingOver end) e cover = absurd cc
        by _ e cover = free (ap changed_keys (sym (some_is e)))

    module _ (left : (f : File) → IsIn f (files w a) → HasKey w s (record_key w a f) → IsRecorded w now told a f) (f : File)
        (i : IsIn f (files w a)) where
      abbrev key : List ℕ
      key = record_key w a f

      abbrev After : Sparing → Type 0
      After c = Covers w now told c a f

      still : IsRecorded w s m a f → IsRecorded w now told a f
      still (inl x) = inl (settled_later later f x)
      still (inr k) = left f i k

      after_deleting : (all : List (List ℕ)) → (IsIn key all → Settled w now told a f) → After (deleting all)
      after_deleting all h = grind arith

      after_emptying : (c : Committer) (all : List (List ℕ)) → (IsIn key all → Settled w now told a f) → After (emptying c all)
      after_emptying c all h = grind arith

      after_aborting : (us : List UploadRef) (all : List (List ℕ)) → (IsIn key all → IsNamed w told us a f ⊎ Settled w now told a f)
          → After (aborting w.committer us all)
      after_aborting [] all h = after_emptying w.committer all (λ k. elim (h k) [ inl x ↦ absurd x.3 | inr x ↦ x ])
      after_aborting (u ∷ us) all h = h

      after_reading : (named : List UploadRef) (ps all : List (List ℕ))
          → (IsIn key all → (IsIn key ps × IsRecorded w now told a f) ⊎ (IsNamed w told named a f ⊎ Settled w now told a f))
          → After (reading_on w.committer named ps all)
      after_reading named [] all h = after_aborting named all (λ k. elim (h k) [ inl x ↦ absurd x.0 | inr x ↦ x ])
      after_reading named (p ∷ ps) all h = h

      after_walked : (more : Bool) (keys : List (List ℕ)) → (IsIn key keys → IsRecorded w now told a f)
          → After (walking w.committer (walked_by more keys))
      after_walked true keys h = h
      after_walked false keys h =
          after_reading [] (filter is_record keys) keys (λ k. inl
          (filter_in is_record key keys k (record_ends_so w.dest.key w.job a.task a.attempt f.0 (some_dest j)), h k))

      heard_page : (keys : List (List ℕ)) → (IsIn key keys → IsRecorded w s m a f) → (x : Reply)
          → x ≡ answer s (page_after w.dest.bucket (magic_prefix w.dest.key w.job) keys) → After (walking w.committer (walked keys x))
      heard_page keys h x e =
          let q = page_after w.dest.bucket (magic_prefix w.dest.key w.job) keys in
          let xs : List PageEntry = listed (magic_prefix w.dest.key w.job) false (last_of keys) facts.there.0.objects in
          let due : answer s q ≡ Page (take 1000 xs) (nat_lt 1000 (length xs)) = answer_is w s facts.there.0 facts.there.1 q refl in
          let all : IsIn key (keys ++ keys_on (take 1000 xs))
          → IsRecorded w now told a f = λ k. elim (in_append key keys (keys_on (take 1000 xs)) k) [
            | inl old ↦ still (h old)
            | inr new ↦ (let y = (page_begins 1000 (magic_prefix w.dest.key w.job) (last_of keys) key facts.there.0.objects new).1 in left f
                i
                (y.0, key_before w s facts.there.0 facts.there.1 key ∙ y.1))
          ] in
          subst (λ y. After (walking w.committer (walked keys y))) (sym (e ∙ due))
          (after_walked (nat_lt 1000 (length xs)) (keys ++ keys_on (take 1000 xs)) all)

      -- A record that exists names the upload.
      read_named : (p : List ℕ) → key ≡ p → (x : Reply) → x ≡ answer s (record_request w.committer w p) → HasKey w s key
          → IsNamed w told (names x) a f
      read_named p is x e h =
          let rec = facts.records (ap is_magic magic) a f h.0 i h.1 in
          let due : answer s (GetObject w.dest.bucket key) ≡ found (at_key w s.content key) = answer_is w s facts.there.0 facts.there.1
          (GetObject w.dest.bucket key) refl ∙ ap found (sym (key_before w s facts.there.0 facts.there.1 key)) in
          let asked_so : answer s (record_request w.committer w p) ≡ answer s (GetObject w.dest.bucket key) = ap
          (λ c. answer s (record_request c w p)) magic ∙ ap (λ q. answer s (GetObject w.dest.bucket q)) (sym is) in
          let text : record_names (reading.pending_of (h.0).bytes) ≡ ref_of (file_record w a f rec.written.drawn) ∷ [] = ap record_names
          (ap reading.pending_of rec.bytes ∙ record_read j facts few a f i rec.written) in
          let same : ref rec.written.drawn ≡ ref_of (file_record w a f rec.written.drawn) = λ z. record
          { key = rec.written.key z; upload = rec.written.drawn.upload } in (
            rec.written.drawn,
            rec.written.known,
            rec.written.key,
            subst (λ y. IsIn (ref rec.written.drawn) (names y))
                (sym (e ∙ asked_so ∙ due ∙ ap found h.1)) (subst (λ l. IsIn (ref rec.written.drawn) l) (sym text) (inl same)),
          )

      heard_record : (named : List UploadRef) (p : List ℕ) (ps all : List (List ℕ)) → Covers w s m (Reading named p ps all) a f
          → (x : Reply)
          → x ≡ answer s (record_request w.committer w p) → After (reading_on w.committer (named ++ names x) ps all)
      heard_record named p ps all h x e = after_reading (named ++ names x) ps all (λ k. elim (h k) [
        | inr y ↦ inr (elim y [
          | inl z ↦ (let v = named_later later named f z in inl (v.0, v.1, v.2, in_front (ref v.0) named (names x) v.3))
          | inr z ↦ inr (settled_later later f z)
        ])
        | inl y ↦ elim y.0 [
          | inr more ↦ inl (more, still y.1)
          | inl is ↦ inr (elim y.1 [
            | inl z ↦ inr (settled_later later f z)
            | inr z ↦ (let v = read_named p is x e z in inl (v.0, v.1, v.2, in_back (ref v.0) named (names x) v.3))
          ])
        ]
      ])

      heard_abort : (u : UploadRef) (us : List UploadRef) (all : List (List ℕ)) → Covers w s m (Aborting u us all) a f
          → now ≡ apply s (AbortUpload w.dest.bucket u.key u.upload) → After (aborting w.committer us all)
      heard_abort u us all h is = after_aborting us all (λ k. elim (h k) [
        | inr x ↦ inr (settled_later later f x)
        | inl x ↦ elim x.3 [
          | inr more ↦ inl (x.0, x.1, x.2, more)
          | inl same ↦
              let dead : Dead w (apply s (AbortUpload w.dest.bucket u.key u.upload)) u.upload = abort_dead w s s facts.there u
              (subst (HasItsKey w s.content) same (keyed a x.0 x.1)) in
              inr (inr (
                x.0,
                x.1,
                x.2,
                subst (λ v. Dead w v (x.0).upload) (sym is)
                    (subst (λ (q : UploadRef). Dead w (apply s (AbortUpload w.dest.bucket u.key u.upload)) q.upload) (sym same) dead),
              ))
        ]
      ])

      heard_by : (c : Sparing) → FitsSparing w m.drawn c → Covers w s m c a f → sparing_asks w c ≡ Some r → (x : Reply) → o ≡ Answered x
          → After (sparing_hears w c x)
      heard_by (Walking keys) g h e x is = heard_page keys h x (subst (λ v. IsHonestOutcome v (answer s r)) is honest ∙ ap (answer s)
          (sym (some_is e)))
      heard_by Naming g h e x is = absurd (false_true (ap is_staging magic) g)
      heard_by (Reading named p ps all) g h e x is = heard_record named p ps all h x
          (subst (λ v. IsHonestOutcome v (answer s r)) is honest ∙ ap (answer s) (sym (some_is e)))
      heard_by (Aborting u us all) g h e x is = heard_abort u us all h (ap (effect s r) is ∙ ap (apply s) (sym (some_is e)))
      heard_by (sparing.Deleting q qs) g h e x is = after_deleting (drop 1000 (q ∷ qs))
          (λ k. settled_later later f (h (dropped_in 1000 (q ∷ qs) key k)))
      heard_by (Removing p ps) g h e x is = elim ps as (λ l. After (removing l)) [ [] ↦ tt | q ∷ qs ↦ tt ]
      heard_by (SparingOver end) g h e x is = tt

      pub covers_goes : Covers w s m t.operation a f → After (step w.retries (sparing_after w) t o).operation
      covers_goes h = step_so w.retries (sparing_after w) t o After (λ x is. heard_by t.operation fits h asked x is)
          (λ none. covers_later later left t.operation f i h) (λ none. tt)
