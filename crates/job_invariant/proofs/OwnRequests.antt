-- The requests of the job's actors stay below the destination, and only those of the driver's commit change what readers see.
use Rattle.text_and_lists.proofs.Members.{false_true, same_or_not, some_is, text_is, text_other, text_true}
use Rattle.text_and_lists.specs.Members.{IsIn}
use Rattle.text_and_lists.specs.Order.{text_eq}
use Rattle.job_invariant.proofs.Aborting.{taken_in}
use Rattle.job_invariant.proofs.Cleaning.{clean_asked}
use Rattle.job_invariant.proofs.Driving.{IsClearing, aborts, batches, clearing_hides, reads, removes}
use Rattle.job_invariant.proofs.Effects.{deleted_uploads}
use Rattle.job_invariant.proofs.Ended.{completed_uploads}
use Rattle.job_invariant.proofs.Foreign.{reads_name, set_reads}
use Rattle.job_invariant.proofs.Going.{effect_so}
use Rattle.job_invariant.proofs.Held.{nth_of, of_sets}
use Rattle.job_invariant.proofs.JobCommitting.{begins_through, dest_below}
use Rattle.job_invariant.proofs.Owning.{Asked, operation_asked, operation_own, own_directory}
use Rattle.job_invariant.proofs.Placed.{own_magic, set_magic}
use Rattle.job_invariant.proofs.SettingUp.{setup_alone, view_but}
use Rattle.job_invariant.proofs.Shapes.{abort_turns, draws, part_turns, puts}
use Rattle.job_invariant.proofs.Shows.{hidden_shows}
use Rattle.job_invariant.proofs.Undone.{deletes_drop}
use Rattle.job_invariant.specs.Driver.{FitsClean}
use Rattle.job_invariant.specs.Emptying.{SetsUp}
use Rattle.job_invariant.specs.Facts.{Facts, Hold, IsAttempt}
use Rattle.job_invariant.specs.Filed.{IsCommit}
use Rattle.job_invariant.specs.FiledLaws.{Commits}
use Rattle.job_invariant.specs.Fits.{Fits}
use Rattle.job_invariant.specs.Stores.{at_id}
use Rattle.job_invariant.specs.inner.Stores.{end_left, part_left}
use Rattle.job_invariant.specs.Told.{Told, driver_entry, entry, known}
use Rattle.job_invariant.specs.inner.Within.{IsWithin}
use Rattle.job_model.specs.Attempts.{Who}
use Rattle.job_model.specs.JobScript.{Script}
use Rattle.job_model.specs.Legal.{IsLegal}
use Rattle.job_protocol.specs.Cleanups.{Clean, clean_asks}
use Rattle.job_protocol.specs.JobCommits.{Commit, CommitOver, Completing, Fetching, Replacing, Reverting, all_commits, commit_asks}
use Rattle.job_protocol.specs.JobCommits.{set_request}
use Rattle.job_protocol.specs.Lanes.{abort, nth}
use Rattle.job_protocol.specs.Operations.{Operation, Setting, asks}
use Rattle.job_protocol.specs.Scope.{IsZeroRename, SameOutside, SameOutsideUpload, is_copy, may_show, sends_data}
use Rattle.job_protocol.specs.Seen.{Seen}
use Rattle.job_protocol.specs.Setup.{Clearing, Setup, SetupOver, Sweeping, dest_prefix, setup_asks}
use Rattle.job_protocol.specs.View.{Same, view}
use Rattle.list_walk.specs.Walks.{Deleting, Listing, page_after}
use Rattle.magic_paths.proofs.Tails.{begins_behind}
use Rattle.magic_paths.specs.Layout.{magic_prefix, success_key}
use Rattle.magic_paths.specs.Places.{MarkerPlace, RecordPlace}
use Rattle.pending_json.specs.Pending.{Pending}
use Rattle.s3_types.specs.Answer.{apply, apply_at, bucket_of}
use Rattle.s3_types.specs.Moment.{effect, is_effective}
use Rattle.s3_types.specs.Multipart.{is_part_number, with_part}
use Rattle.s3_types.specs.Pages.{begins}
use Rattle.s3_types.specs.Requests.{only_reads}
use Rattle.s3_types.specs.Store.{BucketContent, Content, Scene, Upload}
use Rattle.s3_types.specs.declared.journal.Outcome.{Outcome}
use Rattle.s3_types.specs.declared.journal.Outcome.TheVariants.{ReplyLost}
use Rattle.s3_types.specs.declared.request.Actor.TheVariants.{Driver}
use Rattle.s3_types.specs.declared.request.NamedPart.{NamedPart}
use Rattle.s3_types.specs.declared.request.Request.{Request}
use Rattle.s3_types.specs.declared.request.Request.TheVariants.{AbortUpload, CompleteUpload, CopyObject, CreateUpload, DeleteObject}
use Rattle.s3_types.specs.declared.request.Request.TheVariants.{DeleteObjects, GetObject, HeadObject, ListPage, ListParts, ListUploads}
use Rattle.s3_types.specs.declared.request.Request.TheVariants.{MakeBucket, PutObject, UploadPart}
use Rattle.std.proofs.Common.{Bool, List, None, Option, Some, ap, arith, codes, cond, false, inl, inr, length, refl, subst, sym, take, true}
use Rattle.std.proofs.Common.{ℕ, [], ◌&&◌, ◌++◌, ◌<◌, ◌∙◌, ◌∷◌, ◌≡◌, ◌⊎◌}
use Rattle.store_frame.proofs.Framed.{frame}
use Rattle.store_frame.proofs.Reading.{reads_nothing}
use Rattle.store_frame.specs.Frame.{changed_keys}
use Rattle.store_frame.specs.Held.{HasBucket}
use Rattle.job_protocol.specs.JobCommits as commits
use Rattle.job_invariant.proofs.Owning as Asks
use Rattle.std.specs.FinMap as fin

-- ---- what a request below the destination leaves outside of it: uploads

same_upload : (w : Script) (o : Option Upload) → SameOutsideUpload w o o
same_upload w o = grind arith

as_before : (w : Script) (o x : Option Upload) → x ≡ o → SameOutsideUpload w o x
as_before w o x e = subst (SameOutsideUpload w o) (sym e) (same_upload w o)

-- A part goes only to an upload with its own key.
part_outside : (w : Script) (key : List ℕ) → begins (dest_prefix w) key ≡ true → (number : ℕ) (bytes : List ℕ) (o : Option Upload)
    → SameOutsideUpload w o (part_left key number bytes o)
part_outside w key b number bytes None = tt
part_outside w key b number bytes (Some u) = by (text_eq u.key key) refl (is_part_number number)
  where
    by : (t : Bool) → text_eq u.key key ≡ t → (v : Bool)
        → SameOutsideUpload w (Some u) (cond (t && v) (Some (with_part u number bytes)) (Some u))
    by true e true = λ free. absurd (false_true free (ap (begins (dest_prefix w)) (text_is u.key key e) ∙ b))
    by true e false = λ free. refl
    by false e v = λ free. refl

end_outside : (w : Script) (key : List ℕ) → begins (dest_prefix w) key ≡ true → (o : Option Upload) → SameOutsideUpload w o (end_left key o)
end_outside w key b None = tt
end_outside w key b (Some u) = by (text_eq u.key key) refl
  where
    by : (t : Bool) → text_eq u.key key ≡ t → SameOutsideUpload w (Some u) (cond t None (Some u))
    by true e = ap (begins (dest_prefix w)) (text_is u.key key e) ∙ b
    by false e = λ free. refl

-- ---- buckets

-- Another bucket.
other_bucket : (o : Option BucketContent) (c : Content) (r : Request) (n : List ℕ) → bucket_of r ≡ n → (b : List ℕ) → text_eq b n ≡ false
    → fin.get (apply_at o c r).buckets b ≡ fin.get c.buckets b
other_bucket None c r n e b ne = refl
other_bucket (Some x) c r n e b ne = text_other c.buckets (bucket_of r) b _ (λ is. false_true ne (text_true b n (is ∙ e)))

-- If nothing changes.
pub idle : (w : Script) (s : Scene) (c : Content) → c ≡ s.content → SameOutside w s.content c
idle w s c e = subst (SameOutside w s.content) (sym e) (record
    { buckets = λ b ne. refl; objects = λ k free. refl; uploads = λ id. same_upload w (at_id w s.content id) })

module _ (w : Script) (s : Scene) (there : HasBucket s.content w.dest.bucket) where
  abbrev Leaves : Request → Type 0
  Leaves r = SameOutside w s.content (apply s r).content

  -- It is enough to show it for other buckets, for the keys that the request changes, and for uploads.
  leaves_by : (r : Request) → ((b : List ℕ) → text_eq b w.dest.bucket ≡ false
      → fin.get (apply s r).content.buckets b ≡ fin.get s.content.buckets b)
      → ((k : List ℕ) → IsIn k (changed_keys r) → begins (dest_prefix w) k ≡ true)
      → ((id : ℕ) → SameOutsideUpload w (at_id w s.content id) (at_id w (apply s r).content id)) → Leaves r
  leaves_by r buckets all uploads = record {
    buckets = buckets;
    objects = λ k free. (frame s w.dest.bucket r there).keys k
        (λ b i. false_true free (all k i));
    uploads = uploads;
  }

  others_stay : (r : Request) → bucket_of r ≡ w.dest.bucket → (b : List ℕ) → text_eq b w.dest.bucket ≡ false
      → fin.get (apply_at (fin.get s.content.buckets w.dest.bucket) s.content r).buckets b ≡ fin.get s.content.buckets b
  others_stay r = other_bucket (fin.get s.content.buckets w.dest.bucket) s.content r w.dest.bucket

  one_key : (key : List ℕ) → begins (dest_prefix w) key ≡ true → (k : List ℕ) → IsIn k (key ∷ []) → begins (dest_prefix w) k ≡ true
  one_key key b k i = elim i [ inl e ↦ ap (begins (dest_prefix w)) e ∙ b | inr none ↦ absurd none ]

  put_leaves : (key bytes : List ℕ) (header : Option ℕ) → begins (dest_prefix w) key ≡ true
      → Leaves (PutObject w.dest.bucket key bytes header)
  put_leaves key bytes header b =
      let r = PutObject w.dest.bucket key bytes header in
      leaves_by r (others_stay r refl) (one_key key b) (λ id. as_before w (at_id w s.content id) _
      ((puts w s there.0 there.1 key bytes header).uploads id))

  pub delete_leaves : (key : List ℕ) → begins (dest_prefix w) key ≡ true → Leaves (DeleteObject w.dest.bucket key)
  delete_leaves key b = let r = DeleteObject w.dest.bucket key in leaves_by r (others_stay r refl) (one_key key b)
      (λ id. as_before w (at_id w s.content id) _ (deleted_uploads w s there key id))

  pub batch_leaves : (keys : List (List ℕ)) → ((k : List ℕ) → IsIn k keys → begins (dest_prefix w) k ≡ true)
      → Leaves (DeleteObjects w.dest.bucket keys)
  batch_leaves keys all = let r = DeleteObjects w.dest.bucket keys in leaves_by r (others_stay r refl) all
      (λ id. as_before w (at_id w s.content id) _ ((deletes_drop w s keys there).uploads id))

  -- A change of the upload at one id.
  turn_leaves : (r : Request) (id : ℕ) → ((u : ℕ) → (u ≡ id → ⊥) → at_id w (apply s r).content u ≡ at_id w s.content u)
      → (x : Option Upload) → at_id w (apply s r).content id ≡ x → SameOutsideUpload w (at_id w s.content id) x
      → (u : ℕ) → SameOutsideUpload w (at_id w s.content u) (at_id w (apply s r).content u)
  turn_leaves r id h x g e u = grind (arith, same_or_not, as_before)

  create_leaves : ((id : ℕ) (x : Upload) → at_id w s.content id ≡ Some x → id < s.content.next) → (key : List ℕ)
      → begins (dest_prefix w) key ≡ true → Leaves (CreateUpload w.dest.bucket key)
  create_leaves h key g = grind (arith, draws, leaves_by, others_stay, turn_leaves)

  part_leaves : (key : List ℕ) (id number : ℕ) (bytes : List ℕ) → begins (dest_prefix w) key ≡ true
      → Leaves (UploadPart w.dest.bucket key id number bytes)
  part_leaves key id number bytes b =
      let r = UploadPart w.dest.bucket key id number bytes in
      let t = part_turns w s there.0 there.1 key id number bytes in
      leaves_by r (others_stay r refl) (λ k i. absurd i) (turn_leaves r id t.others _ t.here
      (part_outside w key b number bytes (at_id w s.content id)))

  abort_leaves : (key : List ℕ) (id : ℕ) → begins (dest_prefix w) key ≡ true → Leaves (AbortUpload w.dest.bucket key id)
  abort_leaves key id b =
      let r = AbortUpload w.dest.bucket key id in
      let t = abort_turns w s there.0 there.1 key id in
      leaves_by r (others_stay r refl) (λ k i. absurd i) (turn_leaves r id t.others _ t.here (end_outside w key b (at_id w s.content id)))

  complete_leaves : (key : List ℕ) (id : ℕ) (parts : List NamedPart) → begins (dest_prefix w) key ≡ true
      → Leaves (CompleteUpload w.dest.bucket key id parts)
  complete_leaves key id parts b =
      let r = CompleteUpload w.dest.bucket key id parts in
      let t = completed_uploads w s there.0 there.1 key id parts in
      leaves_by r (others_stay r refl) (one_key key b) (turn_leaves r id t.1 _ refl (elim t.0 [
        | inl same ↦ as_before w (at_id w s.content id) _ same
        | inr left ↦ subst (SameOutsideUpload w (at_id w s.content id)) (sym left) (end_outside w key b (at_id w s.content id))
      ]))

  read_leaves : (r : Request) → only_reads r ≡ true → Leaves r
  read_leaves r h = idle w s _ (ap (λ (x : Scene). x.content) (reads_nothing s r h))

  -- Any request within the destination.
  pub within_leaves : ((id : ℕ) (x : Upload) → at_id w s.content id ≡ Some x → id < s.content.next) → (r : Request) → IsWithin w r
      → Leaves r
  within_leaves fresh (MakeBucket n) h = absurd h
  within_leaves fresh (CopyObject n source target) h = absurd h
  within_leaves fresh (PutObject n k bytes header) h = subst (λ v. Leaves (PutObject v k bytes header)) (sym h.0)
      (put_leaves k bytes header h.1)
  within_leaves fresh (DeleteObject n k) h = subst (λ v. Leaves (DeleteObject v k)) (sym h.0) (delete_leaves k h.1)
  within_leaves fresh (DeleteObjects n ks) h = subst (λ v. Leaves (DeleteObjects v ks)) (sym h.0) (batch_leaves ks h.1)
  within_leaves fresh (CreateUpload n k) h = subst (λ v. Leaves (CreateUpload v k)) (sym h.0) (create_leaves fresh k h.1)
  within_leaves fresh (UploadPart n k id number bytes) h = subst (λ v. Leaves (UploadPart v k id number bytes)) (sym h.0)
      (part_leaves k id number bytes h.1)
  within_leaves fresh (CompleteUpload n k id parts) h = subst (λ v. Leaves (CompleteUpload v k id parts)) (sym h.0)
      (complete_leaves k id parts h.1)
  within_leaves fresh (AbortUpload n k id) h = subst (λ v. Leaves (AbortUpload v k id)) (sym h.0) (abort_leaves k id h.1)
  within_leaves fresh (GetObject n k) h = read_leaves (GetObject n k) refl
  within_leaves fresh (HeadObject n k) h = read_leaves (HeadObject n k) refl
  within_leaves fresh (ListPage n p d after limit) h = read_leaves (ListPage n p d after limit) refl
  within_leaves fresh (ListParts n k id) h = read_leaves (ListParts n k id) refl
  within_leaves fresh (ListUploads n p after limit) h = read_leaves (ListUploads n p after limit) refl
  within_leaves fresh _ h = idle w s _ refl

  pub within_outside : ((id : ℕ) (x : Upload) → at_id w s.content id ≡ Some x → id < s.content.next) → (r : Request) → IsWithin w r
      → (o : Outcome) → SameOutside w s.content (effect s r o).content
  within_outside fresh r h o = effect_so (λ u. SameOutside w s.content u.content) s r o (idle w s s.content refl) (within_leaves fresh r h)

-- It is no copy.
pub within_uncopied : (w : Script) (r : Request) → IsWithin w r → is_copy r ≡ false
within_uncopied w r h = grind arith

-- ---- keys below the destination

module _ {w : Script} (j : IsLegal w) where
  pub magic_below : (k : List ℕ) → begins (magic_prefix w.dest.key w.job) k ≡ true → begins (dest_prefix w) k ≡ true
  magic_below k h = begins_through (dest_prefix w) (magic_prefix w.dest.key w.job) k
      (begins_behind w.dest.key (codes "/") (codes "/__magic/job-" ++ (w.job ++ codes "/"))) h

  success_below : begins (dest_prefix w) (success_key w.dest.key) ≡ true
  success_below = begins_behind w.dest.key (codes "/") (codes "/_SUCCESS")

-- ---- attempts

asked_within : {w : Script} {minimum : ℕ} {back : Bool} {s : Scene} {last : ℕ → Option ℕ} (j : IsLegal w) (m : Told)
    → Facts w minimum s last m → (a : Who) → IsAttempt w a → (r : Request) → Asked w minimum a m back r → IsWithin w r
asked_within {w = w} j m h a d _ (Asks.reads r only) = (reads_name r only).within w
asked_within j m h a d _ (Asks.creates f free i fresh) = (refl, dest_below j f.0)
asked_within j m h a d _ (Asks.sends f x bytes free i x_in key block) = (refl, dest_below j f.0)
asked_within j m h a d _ (Asks.marks f magic i) = (
  refl,
  magic_below j _ (own_magic j magic (MarkerPlace a.task a.attempt f.0)
      (f, i, refl)),
)
asked_within j m h a d _ (Asks.records f magic i x) = (
  refl,
  magic_below j _
      (own_magic j magic (RecordPlace a.task a.attempt f.0) (f, i, refl)),
)
asked_within j m h a d _ (Asks.publishes cs magic clean are) = (refl, magic_below j _ (set_magic j a.task d.task))
asked_within {w = w} j m h a d _ (Asks.drops x b unsent i) = let o = h.owned a x i in
    (refl, ap (begins (dest_prefix w)) o.key ∙ dest_below j o.file.0)
asked_within {w = w} j m h a d _ (Asks.sweeps keys b unsent own) = (refl, λ k i. magic_below j k (own_directory w a k (own k i)))
asked_within j m h a d _ _ = tt

-- ---- entries

pub attempt_changes : (g : Setting) → IsLegal g.script → (s : Seen) (m : Told) → Hold g.script g.minimum s m → (a : Who)
    → IsAttempt g.script a → (op : Operation) → Fits g.script g.minimum a m op → (r : Request) → asks g a (known m a) op ≡ Some r
    → (n : ℕ) (o : Outcome)
    → IsZeroRename g.script (entry a n r o) s.scene.content (effect s.scene r o).content
attempt_changes g j s m h a d op fits r e n o =
    let own = operation_own g j m a d op fits r e in
    let within = asked_within j m h a d r (operation_asked g m a op fits r e) in
    record {
      uncopied = within_uncopied g.script r within;
      no_data = λ is. absurd cc;
      shows = inl (hidden_shows j s.scene r o h.there (λ b k i. own.keys k i));
      outside = within_outside g.script s.scene h.there h.ids.fresh r within o;
    }

-- A request of the driver may show if it takes effect, or it changes no visible file.
driver_shows : (w : Script) (s : Scene) (r : Request) → (may_show r ≡ true) ⊎ Same (view w.dest (apply s r).content) (view w.dest s.content)
    → (n : ℕ) (o : Outcome)
    → Same (view w.dest (effect s r o).content) (view w.dest s.content)
    ⊎ (((driver_entry n r o).actor ≡ Driver) × (may_show r ≡ true) × (is_effective o ≡ true))
driver_shows w s r h n o = grind arith

-- ---- the set-up

module _ (w : Script) (j : IsLegal w) (s : Scene) where
  setup_plain : (t : Setup) (r : Request) → setup_asks w t ≡ Some r → (sends_data r ≡ false) × (is_copy r ≡ false)
  setup_plain t r h = grind arith

  setup_outside : (t : Setup) → SetsUp w s.content t → (r : Request) → setup_asks w t ≡ Some r → SameOutside w s.content (apply s r).content
  setup_outside Clearing h r e = subst (λ q. SameOutside w s.content (apply s q).content) (some_is e)
      (delete_leaves w s h (success_key w.dest.key) (success_below j))
  setup_outside (Sweeping (Deleting q qs)) h r e =
      subst (λ x. SameOutside w s.content (apply s x).content) (some_is e) (batch_leaves w s h.0 (take 1000 (q ∷ qs))
      (λ k i. magic_below j k (h.1 k (taken_in 1000 (q ∷ qs) k i))))
  setup_outside (SetupOver end) h r e = absurd cc
  setup_outside _ h r e = idle w s _ (ap (λ (x : Scene). x.content) (reads_nothing s r (ap only_reads (sym (some_is e)))))

pub setup_changes : (w : Script) → IsLegal w → (s : Scene) (t : Setup) → SetsUp w s.content t → (r : Request) → setup_asks w t ≡ Some r
    → (n : ℕ) (o : Outcome) → IsZeroRename w (driver_entry n r o) s.content (effect s r o).content
setup_changes w j s t h r e n o = record {
  uncopied = (setup_plain w j s t r e).1;
  no_data = λ is. (setup_plain w j s t r e).0;
  shows = inl (setup_alone w j s t h r e o).shows;
  outside = effect_so (λ u. SameOutside w s.content u.content) s r o (idle w s s.content refl) (setup_outside w j s t h r e);
}

-- ---- the abort and the clean of the job

clearing_within : {w : Script} → IsLegal w → {begun : Bool} {A B : Type 0} (r : Request) → IsClearing w begun A B r → A → B → IsWithin w r
    × (sends_data r ≡ false)
clearing_within {w = w} j _ (reads r h) a b = let x = reads_name r h in (x.within w, x.no_data)
clearing_within j r (aborts u h) a b = ((refl, h a), refl)
clearing_within j r (batches keys begun h) a b = ((refl, λ k i. magic_below j k (h b k i)), refl)
clearing_within j r (removes p begun) a b = (tt, refl)

pub clearing_changes : {w : Script} {minimum : ℕ} → IsLegal w → (s : Seen) (m : Told) → Hold w minimum s m
    → {begun : Bool} {A B : Type 0} (r : Request) → IsClearing w begun A B r → A → B → (n : ℕ) (o : Outcome)
    → IsZeroRename w (driver_entry n r o) s.scene.content (effect s.scene r o).content
clearing_changes {w = w} j s m h r x a b n o =
    let y = clearing_within j r x a b in
    record {
      uncopied = within_uncopied w r y.0;
      no_data = λ is. y.1;
      shows = inl
          (hidden_shows j s.scene r o h.there (clearing_hides r x b));
      outside = within_outside w s.scene h.there h.ids.fresh r y.0 o;
    }

pub clean_changes : (g : Setting) → IsLegal g.script → (s : Seen) (m : Told) → Hold g.script g.minimum s m → (t : Clean)
    → FitsClean g.script m.cleaned t → (r : Request) → clean_asks g.script t ≡ Some r → (n : ℕ) (o : Outcome)
    → IsZeroRename g.script (driver_entry n r o) s.scene.content (effect s.scene r o).content
clean_changes g j s m h t fits r e n o = clearing_changes j s m h r (clean_asked g.script g.minimum (record { commit = None; clean = None })
    s m n j h t fits r e) tt tt n o

-- ---- the commit

module _ (w : Script) (minimum : ℕ) (j : IsLegal w) (s : Seen) (m : Told) (there : HasBucket s.scene.content w.dest.bucket) where
  -- What a request of the commit is.
  record Kind (r : Request) : Type 0 where
    pub within : IsWithin w r
    pub no_data : sends_data r ≡ false
    pub shows : (may_show r ≡ true) ⊎ Same (view w.dest (apply s.scene r).content) (view w.dest s.scene.content)

  read_kind : (r : Request) → only_reads r ≡ true → Kind r
  read_kind r h = grind (arith, reads_name, reads_nothing)

  upload_below : (p : Pending) → IsCommit w minimum m.publish_sent m.drawn p → (p.bucket ≡ w.dest.bucket)
      × (begins (dest_prefix w) p.destination ≡ true)
  upload_below p x = (
    ap (λ (v : Pending). v.bucket) x.is,
    ap (λ (v : Pending). begins (dest_prefix w) v.destination) x.is ∙ dest_below j
        x.file.0,
  )

  mark_kind : (bytes : List ℕ) → Kind (PutObject w.dest.bucket (success_key w.dest.key) bytes None)
  mark_kind bytes =
      let r = PutObject w.dest.bucket (success_key w.dest.key) bytes None in
      record {
        within = (refl, success_below j);
        no_data = refl;
        shows = inr (view_but j s.scene.content (apply s.scene r).content (λ k ne. (frame s.scene w.dest.bucket r there).keys k
            (λ b i. elim i [ inl is ↦ ne is | inr none ↦ absurd none ])));
      }

  kind_by : (c : Commit) → Commits w minimum s m c → (r : Request) → commit_asks w c ≡ Some r → Kind r
  kind_by (Fetching sets n) h r e = subst Kind (some_is e) (read_kind (set_request w.committer w (length sets))
      (set_reads w.committer w (length sets)))
  kind_by (Replacing sets p ps (Listing keys) n) h r e = subst Kind (some_is e) (read_kind (page_after w.dest.bucket p keys) refl)
  kind_by (Replacing sets p ps (Deleting q qs) n) h r e =
      subst Kind (some_is e) (record {
        within = (refl, λ k i. (h.fits.2 k (taken_in 1000 (q ∷ qs) k i)).1);
        no_data = refl;
        shows = inl refl;
      })
  kind_by (Completing sets x xs finished) h r e =
      let p = nth (all_commits sets) x.number in
      let o = of_sets j h.hold sets h.fits p (nth_of (all_commits sets) x.number (h.tabled.within x (inl refl))) in
      subst Kind (some_is e) (record { within = upload_below p o.1.commit; no_data = refl; shows = inl refl })
  kind_by (commits.Marking sets n) h r e = subst Kind (some_is e) (mark_kind _)
  kind_by (Reverting q qs n) h r e =
      let x = h.decides q (inl refl) in
      subst Kind (some_is e) (elim x.2 [
        | inl is ↦ subst Kind (sym is) (record {
          within = upload_below x.0 x.1;
          no_data = refl;
          shows = inr
              (hidden_shows j s.scene (abort x.0) ReplyLost there (λ b k i. absurd i));
        })
        | inr is ↦ subst Kind (sym is) (record { within = upload_below x.0 x.1; no_data = refl; shows = inl refl })
      ])
  kind_by (CommitOver end) h r e = absurd cc

pub commit_changes : (g : Setting) → IsLegal g.script → (s : Seen) (m : Told) (c : Commit) → Commits g.script g.minimum s m c
    → (r : Request) → commit_asks g.script c ≡ Some r → (n : ℕ) (o : Outcome)
    → IsZeroRename g.script (driver_entry n r o) s.scene.content (effect s.scene r o).content
commit_changes g j s m c h r e n o =
    let x = kind_by g.script g.minimum j s m h.hold.there c h r e in
    record {
      uncopied = within_uncopied g.script r x.within;
      no_data = λ is. x.no_data;
      shows = driver_shows g.script s.scene r x.shows n o;
      outside = within_outside g.script s.scene h.hold.there h.hold.ids.fresh r x.within o;
    }
