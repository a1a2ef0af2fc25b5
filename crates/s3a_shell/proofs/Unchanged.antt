-- If no request is a change, the store stays as it is.
use Rattle.text_and_lists.proofs.Tree.{insert_same}
use Rattle.text_and_lists.specs.Order.{text_total}
use Rattle.journal_log.proofs.Journals.{others_leave}
use Rattle.log_format.specs.Change.{is_changing}
use Rattle.machine.specs.Counted.{AreAnswered}
use Rattle.s3_types.specs.Answer.{abort_answer, aborted, answer, answer_at, apply, apply_at, bucket_of, complete_answer, completed, copied}
use Rattle.s3_types.specs.Answer.{copy_answer, made, make_answer, part_answer, part_put, with_objects, with_uploads, without}
use Rattle.s3_types.specs.Moment.{AreHonest, IsHonestOutcome, after_all, effect, is_unanswered}
use Rattle.s3_types.specs.Multipart.{is_part_number, joined, live, with_part}
use Rattle.s3_types.specs.Names.{is_bucket}
use Rattle.s3_types.specs.Store.{BucketContent, Buckets, Content, Scene, Upload, new_bucket}
use Rattle.s3_types.specs.Tags.{plain_tag}
use Rattle.s3_types.specs.declared.journal.Entry.{Entry}
use Rattle.s3_types.specs.declared.journal.Outcome.{Outcome}
use Rattle.s3_types.specs.declared.journal.Outcome.TheVariants.{Answered}
use Rattle.s3_types.specs.declared.limits.TheConstants.{MOST_ENTRIES}
use Rattle.s3_types.specs.declared.object.Object.{Object}
use Rattle.s3_types.specs.declared.reply.Refusal.{Refusal}
use Rattle.s3_types.specs.declared.reply.Refusal.TheVariants.{BadName, BadPartNumber, TooManyKeys}
use Rattle.s3_types.specs.declared.reply.Reply.{Reply}
use Rattle.s3_types.specs.declared.reply.Reply.TheVariants.{Deleted, Made, Part, Refused}
use Rattle.s3_types.specs.declared.request.NamedPart.{NamedPart}
use Rattle.s3_types.specs.declared.request.Request.{Request}
use Rattle.s3_types.specs.declared.request.Request.TheVariants.{AbortUpload, CompleteUpload, CopyObject, CreateUpload, DeleteObject}
use Rattle.s3_types.specs.declared.request.Request.TheVariants.{DeleteObjects, MakeBucket, PutObject, UploadPart}
use Rattle.s3a_shell.specs.Sendings.{has_changed, is_change, is_refusal, is_taken}
use Rattle.std.proofs.Common.{ap, refl, subst, ◌∙◌}
use Rattle.std.proofs.lemmas.Bool.{not-false, or_parts}
use Rattle.std.proofs.lemmas.Map.Lookups.{exact_bytes}
use Rattle.std.specs.Prelude.{Bool, Err, List, None, Ok, Option, Result, Some, cond, false, length, nat_lt, not, true, ℕ, [], ◌&&◌, ◌∷◌}
use Rattle.std.specs.Prelude.{◌≡◌}
use Rattle.std.specs.FinMap as fin

-- ---- a refused request

-- Putting a bucket back as it was changes nothing.
back : (c : Content) (n : List ℕ) (b : BucketContent) → fin.get c.buckets n ≡ Some b
    → record { buckets = fin.insert c.buckets n b; next = c.next; minimum = c.minimum } ≡ c
back c n b e = ap (λ (m : Buckets). record { buckets = m; next = c.next; minimum = c.minimum })
    (insert_same text_total exact_bytes c.buckets n b e)

-- A refused request leaves the bucket as it is, and uses no id.
module _ (b : BucketContent) (n : List ℕ) where
  many_same : (ks : List (List ℕ)) (t : Bool) → is_refusal (cond t (Refused TooManyKeys) Deleted) ≡ true
      → cond t b.objects (without b.objects ks) ≡ b.objects
  many_same ks true h = refl
  many_same ks false h = absurd (cc)

  copy_same : (target : List ℕ) (o : Option Object) → is_refusal (copy_answer o) ≡ true → copied b.objects target o ≡ b.objects
  copy_same target None h = refl
  copy_same target (Some o) h = absurd (cc)

  part_same : (id number : ℕ) (bytes : List ℕ) (o : Option Upload) → is_refusal (part_answer o number bytes) ≡ true
      → part_put b.uploads id o number bytes ≡ b.uploads
  part_same id number bytes None h = refl
  part_same id number bytes (Some u) h = by (is_part_number number) h
    where
      by : (t : Bool) → is_refusal (cond t (Part (plain_tag bytes)) (Refused BadPartNumber)) ≡ true
          → cond t (fin.insert b.uploads id (with_part u number bytes)) b.uploads ≡ b.uploads
      by true h = absurd (cc)
      by false h = refl

  complete_same : (key : List ℕ) (id : ℕ) (ns : List NamedPart) (r : Result (List ℕ) Refusal) → is_refusal (complete_answer ns r) ≡ true
      → completed b key id r ≡ b
  complete_same key id ns (Ok bytes) h = absurd (cc)
  complete_same key id ns (Err r) h = refl

  abort_same : (id : ℕ) (o : Option Upload) → is_refusal (abort_answer o) ≡ true → aborted b.uploads id o ≡ b.uploads
  abort_same id None h = refl
  abort_same id (Some u) h = absurd (cc)

made_same : (c : Content) (name : List ℕ) (o : Option BucketContent) → is_refusal (make_answer name o) ≡ true → made c name o ≡ c
made_same c name (Some b) h = refl
made_same c name None h = by (is_bucket name) h
  where
    by : (t : Bool) → is_refusal (cond t Made (Refused BadName)) ≡ true
        → cond t (record { buckets = fin.insert c.buckets name new_bucket; next = c.next; minimum = c.minimum }) c ≡ c
    by true h = absurd (cc)
    by false h = refl

-- It leaves the store as it is.
module _ (c : Content) where
  put_back : (n : List ℕ) (b d : BucketContent) → fin.get c.buckets n ≡ Some b → d ≡ b
      → record { buckets = fin.insert c.buckets n d; next = c.next; minimum = c.minimum } ≡ c
  put_back n b d e same = ap (λ (x : BucketContent). record { buckets = fin.insert c.buckets n x; next = c.next; minimum = c.minimum }) same
      ∙ back c n b e

  refused_at : (o : Option BucketContent) (r : Request) → fin.get c.buckets (bucket_of r) ≡ o → is_changing r ≡ true
      → is_refusal (answer_at o c.next c.minimum r) ≡ true → apply_at o c r ≡ c
  refused_at None r e t h = refl
  refused_at (Some b) (MakeBucket name) e t h = put_back (bucket_of (MakeBucket name)) b b e refl
  refused_at (Some b) (PutObject n k bytes header) e t h = absurd (cc)
  refused_at (Some b) (DeleteObject n k) e t h = absurd (cc)
  refused_at (Some b) (DeleteObjects n ks) e t h = put_back n b (with_objects b
      (cond (nat_lt MOST_ENTRIES (length ks)) b.objects (without b.objects ks))) e
      (ap (with_objects b) (many_same b n ks (nat_lt MOST_ENTRIES (length ks)) h))
  refused_at (Some b) (CopyObject n source target) e t h = put_back n b (with_objects b
      (copied b.objects target (fin.get b.objects source))) e (ap (with_objects b) (copy_same b n target (fin.get b.objects source) h))
  refused_at (Some b) (CreateUpload n k) e t h = absurd (cc)
  refused_at (Some b) (UploadPart n k id number bytes) e t h = put_back n b (with_uploads b
      (part_put b.uploads id (live b.uploads k id) number bytes)) e (ap (with_uploads b)
      (part_same b n id number bytes (live b.uploads k id) h))
  refused_at (Some b) (CompleteUpload n k id ns) e t h = put_back n b (completed b k id (joined (live b.uploads k id) ns c.minimum)) e
      (complete_same b n k id ns (joined (live b.uploads k id) ns c.minimum) h)
  refused_at (Some b) (AbortUpload n k id) e t h = put_back n b (with_uploads b (aborted b.uploads id (live b.uploads k id))) e
      (ap (with_uploads b) (abort_same b n id (live b.uploads k id) h))
  refused_at (Some b) _ e t h = absurd (cc)

refused_leaves : (s : Scene) (r : Request) → is_changing r ≡ true → is_refusal (answer s r) ≡ true → (apply s r).content ≡ s.content
refused_leaves s (MakeBucket name) t h = made_same s.content name (fin.get s.content.buckets name) h
refused_leaves s (PutObject n k bytes header) t h = refused_at s.content (fin.get s.content.buckets n) (PutObject n k bytes header) refl t h
refused_leaves s (DeleteObject n k) t h = refused_at s.content (fin.get s.content.buckets n) (DeleteObject n k) refl t h
refused_leaves s (DeleteObjects n ks) t h = refused_at s.content (fin.get s.content.buckets n) (DeleteObjects n ks) refl t h
refused_leaves s (CopyObject n source target) t h = refused_at s.content (fin.get s.content.buckets n) (CopyObject n source target) refl t h
refused_leaves s (CreateUpload n k) t h = refused_at s.content (fin.get s.content.buckets n) (CreateUpload n k) refl t h
refused_leaves s (UploadPart n k id number bytes) t h = refused_at s.content (fin.get s.content.buckets n) (UploadPart n k id number bytes)
    refl t h
refused_leaves s (CompleteUpload n k id ns) t h = refused_at s.content (fin.get s.content.buckets n) (CompleteUpload n k id ns) refl t h
refused_leaves s (AbortUpload n k id) t h = refused_at s.content (fin.get s.content.buckets n) (AbortUpload n k id) refl t h
refused_leaves s _ t h = absurd (cc)

-- ---- a request that is no change

answered_leaves : (s : Scene) (r : Request) (t : Bool) → is_changing r ≡ t → (t && not (is_refusal (answer s r))) ≡ false
    → (apply s r).content ≡ s.content
answered_leaves s r false e h = others_leave s r e
answered_leaves s r true e h = refused_leaves s r e (not-false (is_refusal (answer s r)) h)

one_leaves : (s : Scene) (r : Request) (a : Reply) → a ≡ answer s r → (is_changing r && not (is_refusal a)) ≡ false
    → (apply s r).content ≡ s.content
one_leaves s r a e h = answered_leaves s r (is_changing r) refl (subst (λ (x : Reply). (is_changing r && not (is_refusal x)) ≡ false) e h)

outcome_leaves : (s : Scene) (r : Request) (o : Outcome) → IsHonestOutcome o (answer s r) → is_unanswered o ≡ false
    → (is_changing r && is_taken o) ≡ false → (effect s r o).content ≡ s.content
outcome_leaves s r (Answered a) honest answered h = one_leaves s r a honest h
outcome_leaves s r _ honest answered h = absurd (cc)

-- If no request is a change, the store is as it was.
pub no_change : (es : List Entry) (s : Scene) → AreHonest s es → AreAnswered es → has_changed es ≡ false
    → (after_all s es).content ≡ s.content
no_change [] s honest answered h = refl
no_change (e ∷ es) s honest answered h =
    let parts = or_parts (is_change e) (has_changed es) h in
    no_change es (effect s e.request e.outcome) honest.1 answered.1 parts.1 ∙ outcome_leaves s e.request e.outcome honest.0 answered.0
    parts.0
