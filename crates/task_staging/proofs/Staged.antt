-- The requests of a staging commit, and the commit after a reply.
use Rattle.text_and_lists.proofs.Naturals.{at_most_is, at_most_so}
use Rattle.conflict.proofs.Tells.{checks_tell}
use Rattle.conflict.specs.Checks.{check_asks, found_below, is_none, left_after}
use Rattle.conflict.specs.ChecksEnd.{commit_after_check}
use Rattle.job_model.specs.Files.{File}
use Rattle.job_model.specs.JobScript.{Script}
use Rattle.job_model.specs.Jobs.{Task}
use Rattle.job_model.specs.Known.{Drawn, Known, with_last}
use Rattle.job_model.specs.Plans.{IsTask}
use Rattle.job_model.specs.declared.ends.TaskEnd.{TaskEnd}
use Rattle.job_protocol.specs.AtWork.{Attempting, learned, task_commit_told, task_commit_wants, task_script, who_of, with_known}
use Rattle.job_protocol.specs.Knowledge.{drawn_last}
use Rattle.job_protocol.specs.Outputs.{files}
use Rattle.job_protocol.specs.Records.{file_key, file_record, set_text}
use Rattle.job_protocol.specs.TaskCommits.{Renaming, Storing, TaskCommit, TaskCommitOver, checking, renamed, storing, task_commit_start}
use Rattle.job_protocol.specs.TaskCommits.{temporary_path, to_check, uploaded}
use Rattle.job_protocol.specs.Uploading.{Creating, sending}
use Rattle.pending_json.specs.Pending.{Pending}
use Rattle.pending_json.specs.declared.records.PendingSet.{PendingSet}
use Rattle.retries.specs.Retries.{Got, WornOut}
use Rattle.s3_types.proofs.Blocks.{some_parts}
use Rattle.s3_types.specs.Tags.{Spelled, is_plain_tag}
use Rattle.s3_types.specs.declared.reply.Refusal.TheVariants.{NoSuchUpload}
use Rattle.s3_types.specs.declared.reply.Reply.{Reply}
use Rattle.s3_types.specs.declared.reply.Reply.TheVariants.{Part, Refused, Upload}
use Rattle.s3_types.specs.declared.request.Committer.TheVariants.{Magic}
use Rattle.s3_types.specs.declared.request.Request.{Request}
use Rattle.s3_types.specs.declared.request.Request.TheVariants.{ClusterPut, CreateUpload, UploadPart}
use Rattle.std.proofs.Common.{Bool, List, None, OnErr, OnOk, Option, Result, Some, ap, arith, drop, false, get_or, length, length-drop}
use Rattle.std.proofs.Common.{length-take-le, nat_le, refl, slice_get, subst, suc, sym, take, true, ℕ, [], ◌&&◌, ◌++◌, ◌+◌, ◌<◌, ◌∙◌, ◌∷◌}
use Rattle.std.proofs.Common.{◌≡◌, ◌≤◌}
use Rattle.std.proofs.lemmas.Bool.{true≢false}
use Rattle.std.proofs.lemmas.List.{drop_all, take_all}
use Rattle.task_operation.specs.Commits.{FitsCommit}
use Rattle.task_requests.proofs.Steps.{file_is, first_part, first_tags, some_drawn}
use Rattle.task_requests.proofs.Told.{front_is, has_more, learn_last, none_left, own_files, take_next}
use Rattle.task_requests.specs.Writing.{FitsCreate, FitsPart, HasSent, IsBehind, asks_behind, is_new, next_stage, one_more, part_behind}
use Rattle.task_requests.specs.Writing.{parts_in, size_of, tag_in, upload_in, with_drawn, with_tag}
use Rattle.task_requests.specs.declared.stage.WriteStage.{WriteStage}
use Rattle.task_staging.proofs.FilesApart.{all_taken, front_at}
use Rattle.task_staging.proofs.Records.{first_known, set_closed, set_drawn, set_sent}
use Rattle.task_staging.specs.Staging.{HoldsAt, HoldsSent, HoldsSet, IsOfKey, KeepsBy, opening, sending_at}
use Rattle.task_staging.specs.inner.Staging.{IsLastPart, next_asks}
use Rattle.task_staging.specs.Staging.{sending_from, set_of, staged_at, staged_by}
use Rattle.task_staging.specs.inner.Staging.{text_of, worn_known}
use Rattle.task_staging.specs.declared.staging.StagingStage.{StagingStage}
use Rattle.task_staging.specs.declared.staging.Staging.{Staging}
use Rattle.job_model.specs.declared.ends.TaskEnd.TheVariants as ends
use Rattle.job_protocol.specs.TaskCommits as commits
use Rattle.task_requests.specs.declared.stage.WriteStage.TheVariants as write_stages
use Rattle.task_staging.specs.declared.staging.StagingStage.TheVariants as stages

abbrev pub at : Task → TaskCommit → Attempting TaskCommit
at t o = record { plan = t; operation = o }

abbrev pub file_at : Task → ℕ → File
file_at t place = get_or t.files place ([], [])

-- ---- how it begins

opened : (t : Task) (ds : List (List ℕ)) → opening ds t.files ≡ checking (task_script t) (who_of t) ds
opened t [] = ap storing (sym (own_files t))
opened t (d ∷ ds) = refl

pub start_is : (t : Task) (ds : List (List ℕ)) → (t.job.committer ≡ Magic → ⊥) → ds ≡ to_check (task_script t) (who_of t)
    → opening ds t.files ≡ task_commit_start (task_script t) (who_of t)
start_is t ds h g = grind (arith, opened)

-- ---- how far the commit has come, by equations

is_empty : (ds : List (List ℕ)) → is_none ds ≡ true → ds ≡ []
is_empty ds h = grind arith

pub keeps_open : (t : Task) (h : Staging) → h.end ≡ None → HoldsSet t h.stage h.checks h.place h.set → KeepsBy t h h.end
keeps_open t h e k = subst (KeepsBy t h) (sym e) k

pub holds_open : (t : Task) (h : Staging) → h.end ≡ None → KeepsBy t h h.end → HoldsSet t h.stage h.checks h.place h.set
holds_open t h e k = subst (KeepsBy t h) e k

module _ (t : Task) (s : StagingStage) (ds : List (List ℕ)) (place : ℕ) (end : Option TaskEnd) (e : end ≡ None) where
  as_open : s ≡ stages.Opening → staged_by t s ds place end ≡ opening ds (drop place t.files)
  as_open i = ap (staged_by t s ds place) e ∙ ap (λ x. staged_by t x ds place None) i

  as_none : s ≡ stages.Opening → is_none ds ≡ true → staged_by t s ds place end ≡ storing (drop place t.files)
  as_none i n = as_open i ∙ ap (λ l. opening l (drop place t.files)) (is_empty ds n)

  as_part : (n : ℕ) → s ≡ stages.Sending n → place < length t.files
      → staged_by t s ds place end ≡ sending_from (file_at t place) (drop (place + 1) t.files) (drop n (parts_in t (file_at t place)))
  as_part n i h = (ap (staged_by t s ds place) e ∙ ap (λ x. staged_by t x ds place None) i) ∙ ap (sending_at (task_script t) t.minimum n)
      (front_at t.files place h)

  as_renaming : s ≡ stages.Renaming → staged_by t s ds place end ≡ Renaming
  as_renaming i = ap (staged_by t s ds place) e ∙ ap (λ x. staged_by t x ds place None) i

-- The newest upload has `n` parts of the file at a place, but not all.
pub record IsSent (t : Task) (place n : ℕ) : Type 0 where
  pub within : place < length t.files
  pub more : n < length (parts_in t (file_at t place))
  pub sent : HasSent t.known.drawn (take n (parts_in t (file_at t place)))
  pub key : IsOfKey (file_key (task_script t) (file_at t place)) t.known.drawn

pub is_sent : (t : Task) (s : StagingStage) (ds : List (List ℕ)) (place n : ℕ) → HoldsAt t s ds place → s ≡ stages.Sending n
    → IsSent t place n
is_sent t s ds place n h i = by (drop place t.files) refl (subst (λ x. HoldsAt t x ds place) i h).1
  where
    by : (l : List File) → drop place t.files ≡ l → HoldsSent (task_script t) t.minimum t.known n (drop place t.files) → IsSent t place n
    by [] e g = absurd (subst (HoldsSent (task_script t) t.minimum t.known n) e g)
    by (f ∷ fs) e g =
        let some : length (drop place t.files) ≡ suc (length fs) = ap length e in
        let within : place < length t.files = omega (arith, some, length-drop place t.files) in
        let k : HoldsSent (task_script t) t.minimum t.known n (file_at t place ∷ drop (place + 1) t.files) = subst
        (HoldsSent (task_script t) t.minimum t.known n) (front_at t.files place within) g in
        record { within = within; more = k.0; sent = k.1; key = k.2 }

pub none_checked : (t : Task) (s : StagingStage) (ds : List (List ℕ)) (place n : ℕ) → HoldsAt t s ds place → s ≡ stages.Sending n → ds ≡ []
none_checked t s ds place n h i = (subst (λ x. HoldsAt t x ds place) i h).0

-- The same for what a commit keeps.
pub sent_here : (t : Task) (h : Staging) (n : ℕ) → h.end ≡ None → KeepsBy t h h.end → h.stage ≡ stages.Sending n → IsSent t h.place n
sent_here t h n e k i = is_sent t h.stage h.checks h.place n (holds_open t h e k).at i

pub part_behind_is : {t : Task} {place n : ℕ} → IsSent t place n
    → IsBehind (parts_in t (file_at t place)) t.known.drawn (write_stages.Sending n)
part_behind_is {t = t} {place = place} {n = n} k = (k.more, some_drawn t.known.drawn (take n (parts_in t (file_at t place))) k.sent)

-- ---- the next request

pub asks_check : (t : Task) (s : StagingStage) (ds : List (List ℕ)) (place : ℕ) (end : Option TaskEnd) → end ≡ None → s ≡ stages.Opening
    → is_none ds ≡ false → check_asks t.job.dest ds ≡ task_commit_wants (at t (staged_by t s ds place end))
asks_check t s ds place end h g e = grind arith

next_text : (t : Task) (set : PendingSet) (place : ℕ) → set ≡ set_of t place → drop place t.files ≡ []
    → text_of set ≡ set_text (task_script t) (who_of t) (files (task_script t) (who_of t)) t.known
next_text t set place e n = ap text_of e ∙ ap (λ fs. set_text (task_script t) (who_of t) fs t.known)
    (all_taken t.files place n ∙ sym (own_files t))

pub asks_next : (t : Task) (s : StagingStage) (ds : List (List ℕ)) (place : ℕ) (end : Option TaskEnd) (set : PendingSet) → end ≡ None
    → s ≡ stages.Opening → is_none ds ≡ true → set ≡ set_of t place
    → Some (next_asks t set (drop place t.files)) ≡ task_commit_wants (at t (staged_by t s ds place end))
asks_next t s ds place end set e i n g = by (drop place t.files) refl ∙ sym (ap (λ o. task_commit_wants (at t o))
    (as_none t s ds place end e i n))
  where
    by : (l : List File) → drop place t.files ≡ l → Some (next_asks t set l) ≡ task_commit_wants (at t (storing l))
    by [] h = ap (λ x. Some (ClusterPut (temporary_path (task_script t) (who_of t)) x)) (next_text t set place g h)
    by (f ∷ fs) h = refl

from_part : (t : Task) (f : File) (fs : List File) (n : ℕ) → n < length (parts_in t f) → HasSent t.known.drawn (take n (parts_in t f))
    → Some (asks_behind t f (write_stages.Sending n)) ≡ task_commit_wants (at t (sending_from f fs (drop n (parts_in t f))))
from_part t f fs n h g =
    let within : n ≤ length (parts_in t f) = omega arith in
    let tags : length (drawn_last t.known).tags ≡ n = first_tags t.known.drawn (take n (parts_in t f)) g ∙ length-take-le n (parts_in t f)
    within in
    ap (λ m. Some (UploadPart t.job.dest.bucket (file_key (task_script t) f) (drawn_last t.known).upload (m + 1) (part_behind t f.1 n)))
    (sym tags)
    ∙ ap (λ l. task_commit_wants (at t (sending_from f fs l))) (sym (first_part t f n h))

pub asks_part : (t : Task) (s : StagingStage) (ds : List (List ℕ)) (place n : ℕ) (end : Option TaskEnd) → end ≡ None → s ≡ stages.Sending n
    → IsSent t place n
    → Some (asks_behind t (file_at t place) (write_stages.Sending n)) ≡ task_commit_wants (at t (staged_by t s ds place end))
asks_part t s ds place n end e i k =
    from_part t (file_at t place) (drop (place + 1) t.files) n k.more k.sent ∙ sym
    (ap (λ o. task_commit_wants (at t o)) (as_part t s ds place end e n i k.within))

pub asks_rename : (t : Task) (s : StagingStage) (ds : List (List ℕ)) (place : ℕ) (end : Option TaskEnd) (r : Request) → end ≡ None
    → s ≡ stages.Renaming → Some r ≡ task_commit_wants (at t Renaming) → Some r ≡ task_commit_wants (at t (staged_by t s ds place end))
asks_rename t s ds place end r e i h = h ∙ sym (ap (λ o. task_commit_wants (at t o)) (as_renaming t s ds place end e i))

pub asks_none : (t : Task) (s : StagingStage) (ds : List (List ℕ)) (place : ℕ) (end : Option TaskEnd) (x : TaskEnd) → end ≡ Some x
    → None ≡ task_commit_wants (at t (staged_by t s ds place end))
asks_none t s ds place end x e = sym (ap (λ o. task_commit_wants (at t (staged_by t s ds place o))) e)

-- ---- a partition is checked

check_told : (t : Task) (d : List ℕ) (ds : List (List ℕ)) (fs : List File) (r : Reply) (b : Bool)
    → at t (commit_after_check (task_script t) (who_of t) (found_below (d ∷ ds) r) (left_after (d ∷ ds) r)) ≡ task_commit_told
    (at t (opening (d ∷ ds) fs)) (Got r b)
check_told t d ds fs r b = ap (at t) (sym (checks_tell.goes (task_script t) t.minimum (who_of t) d ds r b))

some_partition : (t : Task) (s : StagingStage) (ds : List (List ℕ)) (place : ℕ) → s ≡ stages.Opening → is_none ds ≡ false
    → HoldsAt t s ds place
    → place ≡ 0
some_partition t s ds place h g e = grind arith

module _ (t : Task) (s : StagingStage) (ds : List (List ℕ)) (place : ℕ) (end : Option TaskEnd) (r : Reply) (b : Bool) (e : end ≡ None)
    (i : s ≡ stages.Opening) (n : is_none ds ≡ false) where
  checked_by : (found : Option (List ℕ)) (left : List (List ℕ)) → found ≡ found_below ds r → left ≡ left_after ds r
      → at t (commit_after_check (task_script t) (who_of t) found left) ≡ task_commit_told (at t (staged_by t s ds place end)) (Got r b)
  checked_by found left h g = grind arith

  pub found_told : (found : Option (List ℕ)) (left : List (List ℕ)) (d : List ℕ) → found ≡ found_below ds r → left ≡ left_after ds r
      → found ≡ Some d → at t (TaskCommitOver (ends.Conflict d)) ≡ task_commit_told (at t (staged_by t s ds place end)) (Got r b)
  found_told found left d f l g = ap (λ o. at t (commit_after_check (task_script t) (who_of t) o left)) (sym g) ∙ checked_by found left f l

  pub passed_told : (found : Option (List ℕ)) (left : List (List ℕ)) → HoldsAt t s ds place → found ≡ found_below ds r
      → left ≡ left_after ds r → found ≡ None → at t (staged_by t s left place end) ≡ task_commit_told (at t (staged_by t s ds place end))
      (Got r b)
  passed_told found left h g e f = grind (arith, some_partition, as_open, opened, checked_by)

  pub passed_holds : (left : List (List ℕ)) → HoldsAt t s ds place → HoldsAt t s left place
  passed_holds left h = grind arith

-- ---- an upload was created

reply_upload : (r : Reply) (id : ℕ) → Some id ≡ upload_in r → r ≡ Upload id
reply_upload r id h = grind arith

uploaded_from : (w : Script) (f : File) (fs : List File) (ps : List (List ℕ)) → uploaded w f fs (sending ps) ≡ sending_from f fs ps
uploaded_from w f fs ps = grind arith

module _ (t : Task) (s : StagingStage) (ds : List (List ℕ)) (place : ℕ) (end : Option TaskEnd) (e : end ≡ None) (i : s ≡ stages.Opening)
    (n : is_none ds ≡ true) (h : place < length t.files) where
  as_creating : staged_by t s ds place end ≡ commits.Uploads (file_at t place) (drop (place + 1) t.files) Creating
  as_creating = as_none t s ds place end e i n ∙ ap storing (front_at t.files place h)

  pub fits_create : (r : Reply) → FitsCommit (task_script t) (who_of t) t.known (staged_by t s ds place end) r → FitsCreate t.known.drawn r
  fits_create r f = subst (λ o. FitsCommit (task_script t) (who_of t) t.known o r) as_creating f

  module _ (id : ℕ) (t' : Task) (u : t' ≡ with_known t (with_drawn t.known (file_key (task_script t) (file_at t place)) id)) where
    abbrev begun : Task
    begun = with_known t (with_drawn t.known (file_key (task_script t) (file_at t place)) id)

    pub upload_told : (r : Reply) (b : Bool) → Some id ≡ upload_in r
        → at t' (staged_by t' (stages.Sending 0) ds place end) ≡ task_commit_told (at t (staged_by t s ds place end)) (Got r b)
    upload_told r b h = grind (arith, as_part, uploaded_from, reply_upload, as_creating)

    begun_sent : is_new id t.known.drawn ≡ true → IsSent begun place 0
    begun_sent new = record {
      within = h;
      more = some_parts (size_of t (file_at t place).1) (file_at t place).1;
      sent =
          (new, refl, refl, refl);
      key = refl;
    }

    pub upload_holds : (set : PendingSet) → IsTask t → is_new id t.known.drawn ≡ true → set ≡ set_of t place
        → HoldsSet t' (stages.Sending 0) ds place set
    upload_holds set h g e = grind (arith, begun_sent, set_drawn, is_empty, front_at)

    pub upload_next : (r : Request) → is_new id t.known.drawn ≡ true
        → r ≡ UploadPart t.job.dest.bucket (file_key (task_script t) (file_at t place)) id 1 (part_behind t (file_at t place).1 0)
        → Some r ≡ task_commit_wants (at t' (staged_by t' (stages.Sending 0) ds place end))
    upload_next r new q =
        ap Some q ∙ (asks_part begun (stages.Sending 0) ds place 0 end e refl (begun_sent new) ∙ sym
        (ap (λ x. task_commit_wants (at x (staged_by x (stages.Sending 0) ds place end))) u))

-- ---- the set is put

abbrev pub put_known : Known → Known
put_known k = record { drawn = k.drawn; put_sent = true; publish_sent = k.publish_sent }

abbrev pub published_known : Known → Known
published_known k = record { drawn = k.drawn; put_sent = k.put_sent; publish_sent = true }

module _ (t : Task) (s : StagingStage) (ds : List (List ℕ)) (place : ℕ) (end : Option TaskEnd) (t' : Task)
    (u : t' ≡ with_known t (put_known t.known)) (e : end ≡ None) where
  pub stored_told : (r : Reply) (b : Bool) → s ≡ stages.Opening → is_none ds ≡ true → length t.files ≤ place
      → at t' (staged_by t' stages.Renaming ds place end) ≡ task_commit_told (at t (staged_by t s ds place end)) (Got r b)
  stored_told r b i n h =
      let stores : staged_by t s ds place end ≡ Storing = as_none t s ds place end e i n ∙ ap storing (drop_all place t.files h) in
      ap (λ x. at x (staged_by x stages.Renaming ds place end)) u
      ∙ (ap (at (with_known t (put_known t.known))) (as_renaming (with_known t (put_known t.known)) stages.Renaming ds place end e refl)
      ∙ sym (ap (λ o. task_commit_told (at t o) (Got r b)) stores))

  pub stored_holds : (set : PendingSet) → set ≡ set_of t place → HoldsSet t' stages.Renaming ds place set
  stored_holds set g = subst (λ y. HoldsSet y stages.Renaming ds place set) (sym u) (record { set = g; at = tt })

  pub stored_next : (r : Request) → Some r ≡ task_commit_wants (at t Renaming)
      → Some r ≡ task_commit_wants (at t' (staged_by t' stages.Renaming ds place end))
  stored_next r h = grind arith

-- ---- a part was acknowledged

part_told : (t : Task) (f : File) (fs : List File) (n : ℕ) (tag : Spelled) (b : Bool) → n < length (parts_in t f)
    → HasSent t.known.drawn (take n (parts_in t f))
    → at (with_known t (with_tag t.known tag (length (part_behind t f.1 n)))) (sending_from f fs (drop (n + 1) (parts_in t f))) ≡
    task_commit_told (at t (sending_from f fs (drop n (parts_in t f)))) (Got (Part tag) b)
part_told t f fs n tag b h g = grind (arith, uploaded_from, learn_last, first_part)

module _ (t : Task) (s : StagingStage) (ds : List (List ℕ)) (place n : ℕ) (end : Option TaskEnd) (e : end ≡ None) (i : s ≡ stages.Sending n)
    (hold : HoldsAt t s ds place) (tag : Spelled) (size : ℕ) (z : size ≡ length (part_behind t (file_at t place).1 n))
    (plain : is_plain_tag tag ≡ true) (t' : Task) (u : t' ≡ with_known t (with_tag t.known tag size)) where
  here : IsSent t place n
  here = is_sent t s ds place n hold i

  abbrev after : Task
  after = with_known t (with_tag t.known tag (length (part_behind t (file_at t place).1 n)))

  after_is : t' ≡ after
  after_is = u ∙ ap (λ m. with_known t (with_tag t.known tag m)) z

  behind_told : (b : Bool) → at t' (sending_from (file_at t place) (drop (place + 1) t.files) (drop (n + 1) (parts_in t (file_at t place))))
      ≡ task_commit_told (at t (staged_by t s ds place end)) (Got (Part tag) b)
  behind_told b =
      let f = file_at t place in
      let fs = drop (place + 1) t.files in
      ap (λ x. at x (sending_from f fs (drop (n + 1) (parts_in t f)))) after_is
      ∙ (part_told t f fs n tag b here.more here.sent
      ∙ sym (ap (λ o. task_commit_told (at t o) (Got (Part tag) b)) (as_part t s ds place end e n i here.within)))

  all_sent : HasSent after.known.drawn (take (n + 1) (parts_in t (file_at t place)))
  all_sent =
      let f = file_at t place in
      subst (HasSent after.known.drawn) (sym (take_next n (parts_in t f) (part_behind t f.1 n) (drop (n + 1) (parts_in t f))
      (first_part t f n here.more)))
      (has_more t.known.drawn (take n (parts_in t f)) (part_behind t f.1 n) tag here.sent plain)

  -- ---- it is not the last one

  module _ (more : n + 1 < length (parts_in t (file_at t place))) where
    sent_more : IsSent after place (n + 1)
    sent_more =
        let key = file_key (task_script t) (file_at t place) in
        let size' = length (part_behind t (file_at t place).1 n) in
        record {
          within = here.within;
          more = more;
          sent = all_sent;
          key = (elim t.known.drawn as (λ ds. IsOfKey key ds → IsOfKey key (with_last tag size' ds)) [ [] ↦ λ h. h | d ∷ ds ↦ λ h. h ])
              here.key;
        }

    pub send_told : (b : Bool) → at t' (staged_by t' (stages.Sending (n + 1)) ds place end) ≡ task_commit_told
        (at t (staged_by t s ds place end)) (Got (Part tag) b)
    send_told b =
        ap (λ x. at x (staged_by x (stages.Sending (n + 1)) ds place end)) after_is
        ∙ (ap (at after) (as_part after (stages.Sending (n + 1)) ds place end e (n + 1) refl here.within)
        ∙ (ap (λ x. at x (sending_from (file_at t place) (drop (place + 1) t.files) (drop (n + 1) (parts_in t (file_at t place)))))
        (sym after_is) ∙ behind_told b))

    pub send_holds : (set : PendingSet) → IsTask t → set ≡ set_of t place → HoldsSet t' (stages.Sending (n + 1)) ds place set
    send_holds set k g =
        subst (λ y. HoldsSet y (stages.Sending (n + 1)) ds place set) (sym after_is) (record {
          set = g ∙ set_sent t place tag (length (part_behind t (file_at t place).1 n)) k here.within here.key;
          at = (
            none_checked t s ds place n hold i,
            subst (HoldsSent (task_script t) t.minimum after.known (n + 1))
                (sym (front_at t.files place here.within)) (sent_more.more, sent_more.sent, sent_more.key),
          );
        })

    pub send_next : (r : Request) → r ≡ asks_behind t (file_at t place) (write_stages.Sending (n + 1))
        → Some r ≡ task_commit_wants (at t' (staged_by t' (stages.Sending (n + 1)) ds place end))
    send_next r h = grind (arith, asks_part, sent_more, after_is)

    pub next_behind : IsBehind (parts_in t (file_at t place)) t.known.drawn (write_stages.Sending (n + 1))
    next_behind = (more, some_drawn t.known.drawn (take n (parts_in t (file_at t place))) here.sent)

  -- ---- it is the last one

  module _ (last : length (parts_in t (file_at t place)) ≤ n + 1) where
    pub last_sent : HasSent (with_tag t.known tag size).drawn (parts_in t (file_at t place))
    last_sent = grind (arith, take_all, all_sent)

    closing : at t' (staged_by t' stages.Opening ds (place + 1) end) ≡ at t' (sending_from (file_at t place) (drop (place + 1) t.files)
        (drop (n + 1) (parts_in t (file_at t place))))
    closing = grind (arith, as_none, none_checked, drop_all)

    pub close_told : (b : Bool) → at t' (staged_by t' stages.Opening ds (place + 1) end) ≡ task_commit_told
        (at t (staged_by t s ds place end)) (Got (Part tag) b)
    close_told b = closing ∙ behind_told b

    pub close_holds : (set : PendingSet) → set ≡ set_of (with_known t (with_tag t.known tag size)) (place + 1)
        → HoldsSet t' stages.Opening ds (place + 1) set
    close_holds set h = grind arith

    pub close_next : (set : PendingSet) (r : Request) → set ≡ set_of (with_known t (with_tag t.known tag size)) (place + 1)
        → r ≡ next_asks t set (drop (place + 1) t.files)
        → Some r ≡ task_commit_wants (at t' (staged_by t' stages.Opening ds (place + 1) end))
    close_next set r g q =
        ap Some q ∙ (asks_next (with_known t (with_tag t.known tag size)) stages.Opening ds (place + 1) end set e refl
        (ap is_none (none_checked t s ds place n hold i)) g
        ∙ sym (ap (λ x. task_commit_wants (at x (staged_by x stages.Opening ds (place + 1) end))) u))

pub fits_part : (t : Task) (s : StagingStage) (ds : List (List ℕ)) (place n : ℕ) (end : Option TaskEnd) (r : Reply) → end ≡ None
    → s ≡ stages.Sending n → IsSent t place n → FitsCommit (task_script t) (who_of t) t.known (staged_by t s ds place end) r → FitsPart r
fits_part t s ds place n end r e i k f =
    let g : FitsCommit (task_script t) (who_of t) t.known (sending_from (file_at t place) (drop (place + 1) t.files)
    (drop n (parts_in t (file_at t place)))) r =
    subst (λ o. FitsCommit (task_script t) (who_of t) t.known o r) (as_part t s ds place end e n i k.within) f in
    subst (λ l. FitsCommit (task_script t) (who_of t) t.known (sending_from (file_at t place) (drop (place + 1) t.files) l) r)
    (first_part t (file_at t place) n k.more) g

pub gone_told : (t : Task) (s : StagingStage) (ds : List (List ℕ)) (place n : ℕ) (end : Option TaskEnd) (r : Reply) (b : Bool) (x : TaskEnd)
    → end ≡ None → s ≡ stages.Sending n → IsSent t place n → r ≡ Refused NoSuchUpload
    → x ≡ ends.Gone (file_key (task_script t) (file_at t place))
    → at t (TaskCommitOver x) ≡ task_commit_told (at t (staged_by t s ds place end)) (Got r b)
gone_told t s ds place n end r b x e i k q g =
    let f = file_at t place in
    let fs = drop (place + 1) t.files in
    ap (λ y. at t (TaskCommitOver y)) g
    ∙ (ap (λ l. task_commit_told (at t (sending_from f fs l)) (Got (Refused NoSuchUpload) b)) (sym (first_part t f n k.more))
    ∙ (ap (λ y. task_commit_told (at t (sending_from f fs (drop n (parts_in t f)))) (Got y b)) (sym q)
    ∙ sym (ap (λ o. task_commit_told (at t o) (Got r b)) (as_part t s ds place end e n i k.within))))

-- ---- the rename

pub rename_told : (t : Task) (s : StagingStage) (ds : List (List ℕ)) (place : ℕ) (end : Option TaskEnd) (r : Reply) (b : Bool) (x : TaskEnd)
    (t' : Task) → t' ≡ with_known t (published_known t.known) → end ≡ None → s ≡ stages.Renaming
    → TaskCommitOver x ≡ renamed (task_script t) (who_of t) r b
    → at t' (TaskCommitOver x) ≡ task_commit_told (at t (staged_by t s ds place end)) (Got r b)
rename_told t s ds place end r b x t' h g e f = grind arith

-- ---- a request exhausted its retries

Tells : Task → TaskCommit → Type 0
Tells t o = learned (task_script t) (who_of t) t.known (task_commit_wants (at t o)) WornOut ≡ worn_known o t.known

worn_storing : (t : Task) (fs : List File) → Tells t (storing fs)
unfolding Tells
worn_storing t [] = refl
worn_storing t (f ∷ fs) = refl

worn_from : (t : Task) (f : File) (fs : List File) (ps : List (List ℕ)) → Tells t (sending_from f fs ps)
unfolding Tells
worn_from t f fs [] = worn_storing t fs
worn_from t f fs (p ∷ ps) = refl

worn_at : (t : Task) (s : StagingStage) (ds : List (List ℕ)) (fs : List File) → Tells t (staged_at (task_script t) t.minimum s ds fs)
unfolding Tells
worn_at t stages.Opening [] fs = worn_storing t fs
worn_at t stages.Opening (d ∷ ds) fs = refl
worn_at t (stages.Sending n) ds [] = refl
worn_at t (stages.Sending n) ds (f ∷ fs) = worn_from t f fs (drop n (parts_in t f))
worn_at t stages.Renaming ds fs = refl

worn_by : (t : Task) (s : StagingStage) (ds : List (List ℕ)) (place : ℕ) (end : Option TaskEnd) → Tells t (staged_by t s ds place end)
unfolding Tells
worn_by t s ds place None = worn_at t s ds (drop place t.files)
worn_by t s ds place (Some x) = refl

pub worn_told : (t t' : Task) (s : StagingStage) (ds : List (List ℕ)) (place : ℕ) (end : Option TaskEnd)
    → t' ≡ with_known t (worn_known (staged_by t s ds place end) t.known)
    → at t' (TaskCommitOver ends.StoreFault) ≡ task_commit_told (at t (staged_by t s ds place end)) WornOut
unfolding Tells
worn_told t t' s ds place end u = ap (λ x. at x (TaskCommitOver ends.StoreFault)) u ∙ ap
    (λ k. at (with_known t k) (TaskCommitOver ends.StoreFault)) (sym (worn_by t s ds place end))

-- What is known after the put of the set exhausted its retries.
module _ (t : Task) (s : StagingStage) (ds : List (List ℕ)) (place : ℕ) (end : Option TaskEnd) (e : end ≡ None) where
  pub worn_stored : s ≡ stages.Opening → (is_none ds && nat_le (length t.files) place) ≡ true
      → put_known t.known ≡ worn_known (staged_by t s ds place end) t.known
  worn_stored i h = by (is_none ds) refl h
    where
      none_behind : nat_le (length t.files) place ≡ true → drop place t.files ≡ []
      none_behind g = drop_all place t.files (at_most_is (length t.files) place g)

      by : (b : Bool) → is_none ds ≡ b → (b && nat_le (length t.files) place) ≡ true
          → put_known t.known ≡ worn_known (staged_by t s ds place end) t.known
      by true n g = sym (ap (λ o. worn_known o t.known) (as_none t s ds place end e i n ∙ ap storing (none_behind g)))
      by false n g = absurd (true≢false (sym g))

  pub worn_other : s ≡ stages.Opening → (is_none ds && nat_le (length t.files) place) ≡ false
      → t.known ≡ worn_known (staged_by t s ds place end) t.known
  worn_other i h = by ds h ∙ sym (ap (λ o. worn_known o t.known) (as_open t s ds place end e i))
    where
      files_left : (l : List File) → drop place t.files ≡ l → nat_le (length t.files) place ≡ false
          → t.known ≡ worn_known (storing l) t.known
      files_left [] q g =
          let none : length (drop place t.files) ≡ 0 = ap length q in
          absurd (true≢false (sym (at_most_so (length t.files) place (omega (arith, none, length-drop place t.files))) ∙ g))
      files_left (f ∷ fs) q g = refl

      by : (ds : List (List ℕ)) → (is_none ds && nat_le (length t.files) place) ≡ false
          → t.known ≡ worn_known (opening ds (drop place t.files)) t.known
      by [] g = files_left (drop place t.files) refl g
      by (d ∷ rest) g = refl

  pub worn_part : (n : ℕ) → s ≡ stages.Sending n → IsSent t place n → t.known ≡ worn_known (staged_by t s ds place end) t.known
  worn_part n i k =
      sym (ap (λ o. worn_known o t.known) (as_part t s ds place end e n i k.within ∙ ap
      (sending_from (file_at t place) (drop (place + 1) t.files)) (first_part t (file_at t place) n k.more)))

  pub worn_rename : s ≡ stages.Renaming → published_known t.known ≡ worn_known (staged_by t s ds place end) t.known
  worn_rename i = sym (ap (λ o. worn_known o t.known) (as_renaming t s ds place end e i))

-- The current request is not the put of the set.
pub stores_not : (ds : List (List ℕ)) (fs : List File) (place : ℕ) (b : Bool) → b ≡ is_none ds → b ≡ false
    → false ≡ (is_none ds && nat_le (length fs) place)
stores_not ds fs place b e f = sym (ap (λ x. x && nat_le (length fs) place) (sym e ∙ f))

pub stores_all : (ds : List (List ℕ)) (fs : List File) (len place : ℕ) (b : Bool) → b ≡ is_none ds → b ≡ true → len ≡ length fs
    → nat_le len place ≡ (is_none ds && nat_le (length fs) place)
stores_all ds fs len place b e f g = ap (λ n. nat_le n place) g ∙ sym (ap (λ x. x && nat_le (length fs) place) (sym e ∙ f))

pub worn_over : (t : Task) (s : StagingStage) (ds : List (List ℕ)) (place : ℕ) (end : Option TaskEnd) (x : TaskEnd) → end ≡ Some x
    → t.known ≡ worn_known (staged_by t s ds place end) t.known
worn_over t s ds place end x e = sym (ap (λ o. worn_known (staged_by t s ds place o) t.known) e)

-- ---- the file at a place, in the form that the code found it

pub asks_file : (t : Task) (set : PendingSet) (place : ℕ) (f : File) → Some f ≡ slice_get t.files place
    → CreateUpload t.job.dest.bucket (file_key (task_script t) f) ≡ next_asks t set (drop place t.files)
asks_file t set place f e = sym (ap (next_asks t set) (front_is t.files place f (sym e)))

pub asks_put : (t : Task) (set : PendingSet) (place : ℕ) → None ≡ slice_get t.files place
    → ClusterPut (temporary_path (task_script t) (who_of t)) (text_of set) ≡ next_asks t set (drop place t.files)
asks_put t set place e = sym (ap (next_asks t set) (none_left t.files place (sym e)))

-- The record of the file at a place, from the newest upload.
pub record_at : (t : Task) (place size : ℕ) (tag : Spelled) (f : File) (d : Drawn) → Some f ≡ slice_get t.files place
    → Some d ≡ slice_get t.known.drawn 0
    → file_record (task_script t) (who_of t) f (one_more tag size d) ≡ file_record (task_script t) (who_of t) (file_at t place)
    (one_more tag size (drawn_last t.known))
record_at t place size tag f d h g = grind (arith, file_is, first_known)

-- ---- the last part of a file

pub is_last : (t : Task) (s : StagingStage) (ds : List (List ℕ)) (place n : ℕ) (end : Option TaskEnd) → end ≡ None
    → (i : s ≡ stages.Sending n)
    → (hold : HoldsAt t s ds place) → (tag : Spelled) (size : ℕ) → size ≡ length (part_behind t (file_at t place).1 n)
    → is_plain_tag tag ≡ true
    → length (parts_in t (file_at t place)) ≤ n + 1 → IsLastPart t place tag size
is_last t s ds place n end e i hold tag size z plain last = record {
  within = (is_sent t s ds place n hold i).within;
  sent = last_sent t s ds place n end e i hold tag size z plain (with_known t (with_tag t.known tag size)) refl last;
}

-- The set with the record of the file.
pub closes : (t : Task) (s : StagingStage) (ds : List (List ℕ)) (place n : ℕ) → (i : s ≡ stages.Sending n) → (hold : HoldsAt t s ds place)
    → (tag : Spelled) (size : ℕ) (set : PendingSet) (p : Pending) (commits : List Pending) → IsTask t → set ≡ set_of t place
    → p ≡ file_record (task_script t) (who_of t) (file_at t place) (one_more tag size (drawn_last t.known))
    → commits ≡ set.commits ++ p ∷ [] → record { job = set.job; task = set.task; attempt = set.attempt; commits = commits } ≡ set_of
    (with_known t (with_tag t.known tag size)) (place + 1)
closes t s ds place n i hold tag size set p commits k g r e =
    let x = is_sent t s ds place n hold i in
    set_closed t place tag size k x.within x.key set _ p g r (ap
    (λ (l : List Pending). let v : PendingSet = record { job = set.job; task = set.task; attempt = set.attempt; commits = l } in v) e)

-- ---- the part to send after it

pub stage_more : (n count : ℕ) (s : WriteStage) (m : ℕ) → s ≡ next_stage n count → s ≡ write_stages.Sending m → n + 1 < count
stage_more n count s m h g = grind arith

pub stage_last : (n count : ℕ) (s : WriteStage) → s ≡ next_stage n count → ((m : ℕ) → s ≡ write_stages.Sending m → ⊥) → count ≤ n + 1
stage_last n count s h g = grind arith

-- ---- the replies that fit a stage

pub open_fits : (t : Task) (s : StagingStage) (ds : List (List ℕ)) (place n : ℕ) (end : Option TaskEnd) (r : Reply) → end ≡ None
    → s ≡ stages.Sending n → HoldsAt t s ds place → FitsCommit (task_script t) (who_of t) t.known (staged_by t s ds place end) r
    → FitsPart r
open_fits t s ds place n end r e i hold f = fits_part t s ds place n end r e i (is_sent t s ds place n hold i) f

part_reply : (r : Reply) (tag : Spelled) → Some tag ≡ tag_in r → Part tag ≡ r
part_reply r tag h = grind arith

pub at_err : {X E : Type 0} (r : Result X E) (P : Type 0) → P → OnErr r P
at_err r P h = grind arith

pub at_ok : {X E : Type 0} (r : Result X E) (P : Type 0) → P → OnOk r P
at_ok r P h = grind arith

-- A fact about a part's tag is a fact about the reply that has it.
pub told_part : {X E : Type 0} (x : Result X E) (m n : Attempting TaskCommit) (r : Reply) (tag : Spelled) → Some tag ≡ tag_in r
    → OnOk x ((b : Bool) → n ≡ task_commit_told m (Got (Part tag) b)) → OnOk x ((b : Bool) → n ≡ task_commit_told m (Got r b))
told_part x m n r tag e h = subst (λ y. OnOk x ((b : Bool) → n ≡ task_commit_told m (Got y b))) (part_reply r tag e) h

-- A list to which an item was added, if the item is known.
pub grown : {X Y E : Type 0} (r : Result Y E) (new old : List X) (x y : X) → OnOk r (new ≡ old ++ x ∷ []) → x ≡ y
    → OnOk r (new ≡ old ++ y ∷ [])
grown r new old x y h g = grind arith
