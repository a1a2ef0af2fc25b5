-- The steps of a write, by the data that its machine keeps.
use Rattle.text_and_lists.proofs.Naturals.{at_most_so, below_is, below_not, below_so}
use Rattle.job_model.specs.Files.{File}
use Rattle.job_model.specs.Jobs.{Task}
use Rattle.job_model.specs.Known.{Drawn, Known}
use Rattle.job_protocol.specs.AtWork.{Attempting, task_script, who_of, with_known, write_told, write_wants}
use Rattle.job_protocol.specs.Knowledge.{drawn_last, first_drawn}
use Rattle.job_protocol.specs.Records.{file_key, record_key, record_text}
use Rattle.job_protocol.specs.Writes.{Write}
use Rattle.path_keys.specs.Paths.{Path}
use Rattle.pending_json.specs.Pending.{are_tags, fit}
use Rattle.retries.specs.Retries.{Got}
use Rattle.s3_types.proofs.Blocks.{drop-parts, few_parts, some_parts, some_size, sum_parts}
use Rattle.s3_types.specs.Tags.{Spelled, is_plain_tag}
use Rattle.s3_types.specs.declared.reply.Refusal.TheVariants.{NoSuchUpload}
use Rattle.s3_types.specs.declared.reply.Reply.{Reply}
use Rattle.s3_types.specs.declared.reply.Reply.TheVariants.{Part, Refused, Upload}
use Rattle.s3_types.specs.declared.request.Request.{Request}
use Rattle.s3_types.specs.declared.request.Request.TheVariants.{CreateUpload, PutObject, UploadPart}
use Rattle.std.proofs.Common.{Bool, List, None, Option, Result, Some, ap, arith, cond, drop, false, get_or, length, length-drop}
use Rattle.std.proofs.Common.{length-take-le, map, nat_lt, refl, slice_get, subst, sym, take, true, ℕ, [], ◌+◌, ◌<◌, ◌==◌, ◌∙◌, ◌∷◌, ◌≡◌}
use Rattle.std.proofs.Common.{◌≤◌}
use Rattle.std.proofs.lemmas.Bool.Decides.{nat_tests}
use Rattle.std.proofs.lemmas.List.{length-map, take_all}
use Rattle.std.proofs.lemmas.Option.{get_or_from_slice_get, slice_get-get_or, slice_get_within}
use Rattle.std.specs.List.{list_all}
use Rattle.std.specs.Prelude.{IfOk, option_map}
use Rattle.task_requests.proofs.Told.{created, front_is, has_more, marked, none_left, part_gone, part_sent, recorded, seen_at, take_next}
use Rattle.task_requests.specs.Writing.{FitsCreate, FitsPart, HasSent, Holds, HoldsAt, IsBehind, IsWrite, asks_behind, at_parts, dir_of}
use Rattle.task_requests.specs.Writing.{is_new, next_stage, part_behind, parts_in, seen_write, size_of, tag_in, upload_in}
use Rattle.task_requests.specs.inner.Writing.{ended_by}
use Rattle.task_requests.specs.Writing.{with_drawn, with_tag, write_fits}
use Rattle.task_requests.specs.declared.stage.WriteStage.{WriteStage}
use Rattle.job_model.specs.declared.ends.TaskEnd.TheVariants as ends
use Rattle.task_requests.specs.declared.stage.WriteStage.TheVariants as stage

-- ---- a stage of a file, or the end

within_some : {A : Type 0} (t : Task) (s : WriteStage) (l : List File) (r : Request) → Some r ≡ write_wants (seen_at t l s)
    → (0 < length l → A) → A
within_some t s l r h g = grind arith

pub turned : (t : Task) (dir : Path) (place : ℕ) (s : WriteStage) (o : Option Request) → dir ≡ dir_of t → Holds t place s
    → o ≡ write_wants (seen_write t place s None) → IsWrite t dir place s (ended_by o) o
turned t dir place s (Some r) d h e = record {
  dir = d;
  asked = e;
  holds = h;
  within = within_some t s (drop place t.files) r e
      (λ k. omega (arith, k, length-drop place t.files));
}
turned t dir place s None d h e = record { dir = d; asked = refl; holds = h; within = tt }

-- ---- the request after a part

pub first_tags : (ds : List Drawn) (parts : List (List ℕ)) → HasSent ds parts → length (first_drawn ds).tags ≡ length parts
first_tags ds parts h = grind arith

pub first_part : (t : Task) (f : File) (n : ℕ) → n < length (parts_in t f)
    → drop n (parts_in t f) ≡ part_behind t f.1 n ∷ drop (n + 1) (parts_in t f)
first_part t f n h = drop-parts (size_of t f.1) f.1 n h

pub asks_part : (t : Task) (f : File) (fs : List File) (n : ℕ) → n < length (parts_in t f) → HasSent t.known.drawn (take n (parts_in t f))
    → Some (asks_behind t f (stage.Sending n)) ≡ write_wants (seen_at t (f ∷ fs) (stage.Sending n))
asks_part t f fs n h g =
    let within : n ≤ length (parts_in t f) = omega arith in
    let tags : length (drawn_last t.known).tags ≡ n = first_tags t.known.drawn (take n (parts_in t f)) g ∙ length-take-le n (parts_in t f)
    within in
    ap (λ m. Some (UploadPart t.job.dest.bucket (file_key (task_script t) f) (drawn_last t.known).upload (m + 1) (part_behind t f.1 n)))
    (sym tags)
    ∙ ap (λ l. write_wants (record { plan = t; operation = at_parts f fs l })) (sym (first_part t f n h))

asks_next_by : (t : Task) (f : File) (fs : List File) (n : ℕ) (b : Bool) → nat_lt (n + 1) (length (parts_in t f)) ≡ b
    → HasSent t.known.drawn (take (n + 1) (parts_in t f))
    → Some (asks_behind t f (cond b (stage.Sending (n + 1)) stage.Marking)) ≡ write_wants
    (seen_at t (f ∷ fs) (cond b (stage.Sending (n + 1)) stage.Marking))
asks_next_by t f fs n true e h = asks_part t f fs (n + 1) (below_is (n + 1) (length (parts_in t f)) e) h
asks_next_by t f fs n false e h = refl

pub asks_next : (t : Task) (f : File) (fs : List File) (n : ℕ) → HasSent t.known.drawn (take (n + 1) (parts_in t f))
    → Some (asks_behind t f (next_stage n (length (parts_in t f)))) ≡ write_wants
    (seen_at t (f ∷ fs) (next_stage n (length (parts_in t f))))
asks_next t f fs n h = asks_next_by t f fs n (nat_lt (n + 1) (length (parts_in t f))) refl h

holds_next_by : (t : Task) (f : File) (fs : List File) (n : ℕ) (b : Bool) → nat_lt (n + 1) (length (parts_in t f)) ≡ b
    → HasSent t.known.drawn (take (n + 1) (parts_in t f))
    → HoldsAt (task_script t) t.minimum t.known (cond b (stage.Sending (n + 1)) stage.Marking) (f ∷ fs)
holds_next_by t f fs n true e h = (below_is (n + 1) (length (parts_in t f)) e, h)
holds_next_by t f fs n false e h = subst (HasSent t.known.drawn) (take_all (n + 1) (parts_in t f)
    (below_not (n + 1) (length (parts_in t f)) e)) h

pub holds_next : (t : Task) (f : File) (fs : List File) (n : ℕ) → HasSent t.known.drawn (take (n + 1) (parts_in t f))
    → HoldsAt (task_script t) t.minimum t.known (next_stage n (length (parts_in t f))) (f ∷ fs)
holds_next t f fs n h = holds_next_by t f fs n (nat_lt (n + 1) (length (parts_in t f))) refl h

-- ---- the upload was created

pub begun_kept : (t : Task) (dir : Path) (place : ℕ) (f : File) (id : ℕ) → slice_get t.files place ≡ Some f → dir ≡ dir_of t
    → is_new id t.known.drawn ≡ true
    → IsWrite (with_known t (with_drawn t.known (file_key (task_script t) f) id)) dir place (stage.Sending 0) None
    (Some (UploadPart t.job.dest.bucket (file_key (task_script t) f) id 1 (part_behind t f.1 0)))
begun_kept t dir place f id e d n =
    let t' = with_known t (with_drawn t.known (file_key (task_script t) f) id) in
    let fs = drop (place + 1) t.files in
    let some : 0 < length (parts_in t f) = some_parts (size_of t f.1) f.1 in
    let sent : HasSent t'.known.drawn (take 0 (parts_in t f)) = (n, refl, refl, refl) in
    let asks : Some (asks_behind t' f (stage.Sending 0)) ≡ write_wants (seen_at t' (f ∷ fs) (stage.Sending 0)) = asks_part t' f fs 0 some
    sent in
    record {
      dir = d;
      asked = subst (λ l. Some (asks_behind t' f (stage.Sending 0)) ≡ write_wants (seen_at t' l (stage.Sending 0)))
          (sym (front_is t.files place f e)) asks;
      holds = subst (HoldsAt (task_script t') t'.minimum t'.known (stage.Sending 0)) (sym (front_is t.files place f e)) (some, sent);
      within = slice_get_within t.files place f e;
    }

-- ---- a part was acknowledged

pub holds_sending : (t : Task) (place n : ℕ) (f : File) → slice_get t.files place ≡ Some f → Holds t place (stage.Sending n)
    → (n < length (parts_in t f)) × HasSent t.known.drawn (take n (parts_in t f))
holds_sending t place n f e h = subst (HoldsAt (task_script t) t.minimum t.known (stage.Sending n)) (front_is t.files place f e) h

pub sent_told : (t : Task) (place n : ℕ) (f : File) (tag : Spelled) (b : Bool) → slice_get t.files place ≡ Some f
    → Holds t place (stage.Sending n)
    → seen_write (with_known t (with_tag t.known tag (length (part_behind t f.1 n)))) place (next_stage n (length (parts_in t f))) None ≡
    write_told (seen_write t place (stage.Sending n) None) (Got (Part tag) b)
sent_told t place n f tag b h g = grind (arith, holds_sending, seen_at, front_is, part_sent, first_part)

asks_same : (t : Task) (f : File) (tag : Spelled) (size : ℕ) (s : WriteStage)
    → asks_behind t f s ≡ asks_behind (with_known t (with_tag t.known tag size)) f s
asks_same t f tag size s = grind arith

pub sent_kept : (t : Task) (dir : Path) (place n : ℕ) (f : File) (tag : Spelled) → slice_get t.files place ≡ Some f → dir ≡ dir_of t
    → Holds t place (stage.Sending n) → is_plain_tag tag ≡ true
    → IsWrite (with_known t (with_tag t.known tag (length (part_behind t f.1 n)))) dir place (next_stage n (length (parts_in t f))) None
    (Some (asks_behind t f (next_stage n (length (parts_in t f)))))
sent_kept t dir place n f tag e d h plain =
    let k = holds_sending t place n f e h in
    let p = part_behind t f.1 n in
    let t' = with_known t (with_tag t.known tag (length p)) in
    let fs = drop (place + 1) t.files in
    let s = next_stage n (length (parts_in t f)) in
    let all : HasSent t'.known.drawn (take (n + 1) (parts_in t f)) =
    subst (HasSent t'.known.drawn) (sym (take_next n (parts_in t f) p (drop (n + 1) (parts_in t f)) (first_part t f n k.0)))
    (has_more t.known.drawn (take n (parts_in t f)) p tag k.1 plain) in
    let asks : Some (asks_behind t' f s) ≡ write_wants (seen_at t' (f ∷ fs) s) = asks_next t' f fs n all in
    record {
      dir = d;
      asked = ap (λ r. Some r) (asks_same t f tag (length p) s) ∙ subst (λ l. Some (asks_behind t' f s) ≡ write_wants (seen_at t' l s))
          (sym (front_is t.files place f e)) asks;
      holds = subst (HoldsAt (task_script t') t'.minimum t'.known s) (sym (front_is t.files place f e)) (holds_next t' f fs n all);
      within = slice_get_within t.files place f e;
    }

-- ---- the upload does not exist

-- ---- marker and record

pub marked_told : (t : Task) (place : ℕ) (f : File) (r : Reply) (b : Bool) → slice_get t.files place ≡ Some f
    → seen_write t place stage.Recording None ≡ write_told (seen_write t place stage.Marking None) (Got r b)
marked_told t place f r b e =
    subst (λ l. seen_at t l stage.Recording ≡ write_told (seen_at t l stage.Marking) (Got r b)) (sym (front_is t.files place f e))
    (sym (marked t f (drop (place + 1) t.files) r b))

pub recorded_told : (t : Task) (place : ℕ) (f : File) (r : Reply) (b : Bool) → slice_get t.files place ≡ Some f
    → seen_write t (place + 1) stage.Creating None ≡ write_told (seen_write t place stage.Recording None) (Got r b)
recorded_told t place f r b e =
    subst (λ l. seen_at t (drop (place + 1) t.files) stage.Creating ≡ write_told (seen_at t l stage.Recording) (Got r b))
    (sym (front_is t.files place f e)) (sym (recorded t f (drop (place + 1) t.files) r b))

-- ---- the stage after a part

pub goes_on : (n x count : ℕ) → x ≡ count → n + 1 < x → stage.Sending (n + 1) ≡ next_stage n count
goes_on n x count e h = ap (λ (b : Bool). cond b (stage.Sending (n + 1)) stage.Marking)
    (sym (ap (nat_lt (n + 1)) (sym e) ∙ below_so (n + 1) x h))

pub goes_by : (n x count : ℕ) → x ≡ count → x ≤ n + 1 → stage.Marking ≡ next_stage n count
goes_by n x count h g = grind arith

-- ---- the same, in the form that the code needs

pub known_of : (i t : Task) (g : Known → Known) (k : Known) → i ≡ t → k ≡ g i.known → with_known i k ≡ with_known t (g t.known)
known_of i t g k e h = ap (with_known i) h ∙ ap (λ (x : Task). with_known x (g x.known)) e

pub begun_told_by : (t t' : Task) (place : ℕ) (f : File) (key : List ℕ) (id : ℕ) (b : Bool) → t' ≡ with_known t (with_drawn t.known key id)
    → key ≡ file_key (task_script t) f → Some f ≡ slice_get t.files place
    → seen_write t' place (stage.Sending 0) None ≡ write_told (seen_write t place stage.Creating None) (Got (Upload id) b)
begun_told_by t t' place f key id b h g e = grind (arith, seen_at, front_is, created)

pub at_place : (fs : List File) (place : ℕ) → place < length fs → Some (get_or fs place ([], [])) ≡ slice_get fs place
at_place fs place h = sym (slice_get-get_or fs place ([], []) h)

-- The file at a place.
pub file_is : (t : Task) (place : ℕ) (f : File) → Some f ≡ slice_get t.files place → f ≡ get_or t.files place ([], [])
file_is t place f e = sym (get_or_from_slice_get t.files place f ([], []) (sym e))

pub begun_asked : (t : Task) (place : ℕ) (f : File) (id : ℕ) (r : Request) → Some f ≡ slice_get t.files place
    → r ≡ UploadPart t.job.dest.bucket (file_key (task_script t) f) id 1 (part_behind t f.1 0)
    → (let g = get_or t.files place ([], []) in r ≡ UploadPart t.job.dest.bucket (file_key (task_script t) g) id 1 (part_behind t g.1 0))
begun_asked t place f id r e q = q ∙ ap (λ (g : File). UploadPart t.job.dest.bucket (file_key (task_script t) g) id 1 (part_behind t g.1 0))
    (file_is t place f e)

pub begun_drawn : (t t' : Task) (place : ℕ) (f : File) (key : List ℕ) (id : ℕ) → Some f ≡ slice_get t.files place
    → t' ≡ with_known t (with_drawn t.known key id) → key ≡ file_key (task_script t) f
    → t' ≡ with_known t (with_drawn t.known (file_key (task_script t) (get_or t.files place ([], []))) id)
begun_drawn t t' place f key id e u k = u ∙ ap (λ l. with_known t (with_drawn t.known l id))
    (k ∙ ap (file_key (task_script t)) (file_is t place f e))

pub begun_kept_by : (t t' : Task) (dir : Path) (place : ℕ) (f : File) (key : List ℕ) (id : ℕ) (r : Request)
    → t' ≡ with_known t (with_drawn t.known key id) → key ≡ file_key (task_script t) f → Some f ≡ slice_get t.files place → dir ≡ dir_of t
    → is_new id t.known.drawn ≡ true
    → r ≡ UploadPart t.job.dest.bucket (file_key (task_script t) f) id 1 (part_behind t f.1 0)
    → IsWrite t' dir place (stage.Sending 0) None (Some r)
begun_kept_by t t' dir place f key id r e k s d n q =
    subst (λ (x : Task). IsWrite x dir place (stage.Sending 0) None (Some r)) (sym (e ∙ ap (λ l. with_known t (with_drawn t.known l id)) k))
    (subst (λ (x : Request). IsWrite (with_known t (with_drawn t.known (file_key (task_script t) f) id)) dir place (stage.Sending 0) None
    (Some x)) (sym q) (begun_kept t dir place f id (sym s) d n))

pub sent_told_by : (t t' : Task) (place n : ℕ) (f : File) (tag : Spelled) (size : ℕ) (s : WriteStage) (b : Bool)
    → t' ≡ with_known t (with_tag t.known tag size) → size ≡ length (part_behind t f.1 n) → s ≡ next_stage n (length (parts_in t f))
    → Some f ≡ slice_get t.files place → Holds t place (stage.Sending n)
    → seen_write t' place s None ≡ write_told (seen_write t place (stage.Sending n) None) (Got (Part tag) b)
sent_told_by t t' place n f tag size s b h g e p q = grind (arith, sent_told)

pub sent_kept_by : (t t' : Task) (dir : Path) (place n : ℕ) (f : File) (tag : Spelled) (size : ℕ) (s : WriteStage) (r : Request)
    → t' ≡ with_known t (with_tag t.known tag size) → size ≡ length (part_behind t f.1 n) → s ≡ next_stage n (length (parts_in t f))
    → Some f ≡ slice_get t.files place → dir ≡ dir_of t
    → Holds t place (stage.Sending n) → is_plain_tag tag ≡ true → r ≡ asks_behind t f s → IsWrite t' dir place s None (Some r)
sent_kept_by t t' dir place n f tag size s r e z g q d h plain a =
    subst (λ (x : Task). IsWrite x dir place s None (Some r)) (sym (e ∙ ap (λ m. with_known t (with_tag t.known tag m)) z))
    (subst (λ (x : Request). IsWrite (with_known t (with_tag t.known tag (length (part_behind t f.1 n)))) dir place s None (Some x)) (sym a)
    (subst (λ y. IsWrite (with_known t (with_tag t.known tag (length (part_behind t f.1 n)))) dir place y None (Some (asks_behind t f y)))
    (sym g)
    (sent_kept t dir place n f tag (sym q) d h plain)))

pub some_drawn : (ds : List Drawn) (parts : List (List ℕ)) → HasSent ds parts → 0 < length ds
some_drawn ds parts h = grind arith

pub sending_within : (t : Task) (place n : ℕ) (f : File) → Some f ≡ slice_get t.files place → Holds t place (stage.Sending n)
    → n < length (parts_in t f)
sending_within t place n f e h = (holds_sending t place n f (sym e) h).0

pub sending_behind : (t : Task) (place n : ℕ) (f : File) (s : WriteStage) → s ≡ stage.Sending n → Some f ≡ slice_get t.files place
    → Holds t place s → (n < length (parts_in t f)) × (0 < length t.known.drawn)
sending_behind t place n f s i e h = let k = holds_sending t place n f (sym e) (subst (Holds t place) i h) in
    (k.0, some_drawn t.known.drawn _ k.1)

behind_by : (parts : List (List ℕ)) (ds : List Drawn) (n : ℕ) (b : Bool) → nat_lt (n + 1) (length parts) ≡ b → 0 < length ds
    → IsBehind parts ds (cond b (stage.Sending (n + 1)) stage.Marking)
behind_by parts ds n b h g = grind arith

pub behind_next : (t : Task) (place n : ℕ) (f : File) (s : WriteStage) → s ≡ next_stage n (length (parts_in t f))
    → Some f ≡ slice_get t.files place → Holds t place (stage.Sending n) → IsBehind (parts_in t f) t.known.drawn s
behind_next t place n f s g e h =
    let k = holds_sending t place n f (sym e) h in
    subst (IsBehind (parts_in t f) t.known.drawn) (sym g) (behind_by (parts_in t f) t.known.drawn n (nat_lt (n + 1) (length (parts_in t f)))
    refl (some_drawn t.known.drawn _ k.1))

pub recording_sent : (t : Task) (place : ℕ) (f : File) (s : WriteStage) → s ≡ stage.Recording → Some f ≡ slice_get t.files place
    → Holds t place s → HasSent t.known.drawn (parts_in t f)
recording_sent t place f s i e h = subst (HoldsAt (task_script t) t.minimum t.known stage.Recording) (front_is t.files place f (sym e))
    (subst (Holds t place) i h)

pub gone_told_by : (t : Task) (place n : ℕ) (f : File) (name : List ℕ) (b : Bool) → name ≡ file_key (task_script t) f
    → Some f ≡ slice_get t.files place → Holds t place (stage.Sending n)
    → seen_write t place (stage.Sending n) (Some (ends.Gone name)) ≡ write_told (seen_write t place (stage.Sending n) None)
    (Got (Refused NoSuchUpload) b)
gone_told_by t place n f name b h g e = grind (arith, holds_sending, seen_at, front_is, part_gone, first_part)

-- ---- the request at a stage

asked_at : (t : Task) (place : ℕ) (f : File) (s y : WriteStage) (r : Request) → s ≡ y → Some f ≡ slice_get t.files place
    → Some r ≡ write_wants (seen_at t (f ∷ drop (place + 1) t.files) y) → Some r ≡ write_wants (seen_write t place s None)
asked_at t place f s y r i e h = subst (λ z. Some r ≡ write_wants (seen_write t place z None)) (sym i)
    (subst (λ l. Some r ≡ write_wants (seen_at t l y)) (sym (front_is t.files place f (sym e))) h)

pub creating_asked : (t : Task) (place : ℕ) (f : File) (s : WriteStage) → s ≡ stage.Creating → Some f ≡ slice_get t.files place
    → Some (CreateUpload t.job.dest.bucket (file_key (task_script t) f)) ≡ write_wants (seen_write t place s None)
creating_asked t place f s i e = asked_at t place f s stage.Creating _ i e refl

pub sending_asked : (t : Task) (place n : ℕ) (f : File) (s : WriteStage) → s ≡ stage.Sending n → Some f ≡ slice_get t.files place
    → Holds t place s → Some (asks_behind t f (stage.Sending n)) ≡ write_wants (seen_write t place s None)
sending_asked t place n f s i e h = let k = holds_sending t place n f (sym e) (subst (Holds t place) i h) in asked_at t place f s
    (stage.Sending n) _ i e (asks_part t f (drop (place + 1) t.files) n k.0 k.1)

pub marking_asked : (t : Task) (place : ℕ) (f : File) (s : WriteStage) → s ≡ stage.Marking → Some f ≡ slice_get t.files place
    → Some (asks_behind t f stage.Marking) ≡ write_wants (seen_write t place s None)
marking_asked t place f s i e = asked_at t place f s stage.Marking _ i e refl

pub recording_asked : (t : Task) (place : ℕ) (f : File) (s : WriteStage) → s ≡ stage.Recording → Some f ≡ slice_get t.files place
    → Some (PutObject t.job.dest.bucket (record_key (task_script t) (who_of t) f)
    (record_text (task_script t) (who_of t) f (drawn_last t.known)) None) ≡ write_wants (seen_write t place s None)
recording_asked t place f s i e = asked_at t place f s stage.Recording _ i e refl

pub nothing_asked : {X : Type 0} (t : Task) (place : ℕ) (s : WriteStage) (g : X → File) (o : Option X)
    → option_map g o ≡ slice_get t.files place → ((x : X) → o ≡ Some x → ⊥) → None ≡ write_wants (seen_write t place s None)
nothing_asked t place s g None e n = ap (λ l. write_wants (seen_at t l s)) (sym (none_left t.files place (sym e)))
nothing_asked t place s g (Some x) e n = absurd (n x refl)

-- ---- the record of the newest upload

pub first_is : (ds : List Drawn) (d : Drawn) → Some d ≡ slice_get ds 0 → (parts : List (List ℕ)) → HasSent ds parts → (first_drawn ds ≡ d)
    × ((length d.tags ≡ length parts) × (d.sizes ≡ map length parts) × (list_all is_plain_tag d.tags ≡ true))
first_is ds d h parts g = grind arith

pub record_tags : (t : Task) (f : File) (d : Drawn) → Some d ≡ slice_get t.known.drawn 0 → HasSent t.known.drawn (parts_in t f)
    → are_tags d.tags ≡ true
record_tags t f d h g = grind (arith, first_is, some_parts, few_parts, at_most_so)

same_number : (a b : ℕ) → a ≡ b → (a == b) ≡ true
same_number a b e = grind (arith, nat_tests)

pub record_sizes : (t : Task) (f : File) (d : Drawn) → Some d ≡ slice_get t.known.drawn 0 → HasSent t.known.drawn (parts_in t f)
    → fit d.sizes (length d.tags) (length f.1) ≡ true
record_sizes t f d h g = grind (arith, first_is, same_number, length-map, sum_parts, some_size)

pub record_last : (t : Task) (f : File) (d : Drawn) → Some d ≡ slice_get t.known.drawn 0 → HasSent t.known.drawn (parts_in t f)
    → d ≡ drawn_last t.known
record_last t f d e h = sym (first_is t.known.drawn d e (parts_in t f) h).0

-- ---- replies

pub some_file : (fs : List File) (place : ℕ) → place < length fs → (f : File) × (Some f ≡ slice_get fs place)
some_file fs place h = (get_or fs place ([], []), sym (slice_get-get_or fs place ([], []) h))

fits_creating : (t : Task) (l : List File) (r : Reply) (b : Bool) → 0 < length l → write_fits (seen_at t l stage.Creating) r b
    → FitsCreate t.known.drawn r
fits_creating t l r b h g = grind arith

fits_sending : (t : Task) (place n : ℕ) (f : File) (r : Reply) (b : Bool) → Some f ≡ slice_get t.files place
    → Holds t place (stage.Sending n) → write_fits (seen_write t place (stage.Sending n) None) r b → FitsPart r
fits_sending t place n f r b h g e = grind (arith, holds_sending, seen_at, front_is, first_part)

left_some : (fs : List File) (place : ℕ) → place < length fs → 0 < length (drop place fs)
left_some fs place h = omega (arith, length-drop place fs)

pub created_new : (ds : List Drawn) (r : Reply) (id : ℕ) → FitsCreate ds r → Some id ≡ upload_in r → is_new id ds ≡ true
created_new ds r id h g = grind arith

pub created_some : (ds : List Drawn) (r : Reply) → FitsCreate ds r → None ≡ upload_in r → ⊥
created_some ds r h g = grind arith

pub upload_new : (t : Task) (place : ℕ) (s : WriteStage) (r : Reply) (b : Bool) (id : ℕ) → s ≡ stage.Creating → place < length t.files
    → write_fits (seen_write t place s None) r b → Some id ≡ upload_in r → is_new id t.known.drawn ≡ true
upload_new t place s r b id i h f e = created_new t.known.drawn r id (fits_creating t (drop place t.files) r b (left_some t.files place h)
    (subst (λ z. write_fits (seen_write t place z None) r b) i f)) e

pub upload_some : (t : Task) (place : ℕ) (s : WriteStage) (r : Reply) (b : Bool) → s ≡ stage.Creating → place < length t.files
    → write_fits (seen_write t place s None) r b → None ≡ upload_in r → ⊥
upload_some t place s r b i h f e = created_some t.known.drawn r (fits_creating t (drop place t.files) r b (left_some t.files place h)
    (subst (λ z. write_fits (seen_write t place z None) r b) i f)) e

pub tag_plain : (r : Reply) (tag : Spelled) → FitsPart r → Some tag ≡ tag_in r → is_plain_tag tag ≡ true
tag_plain r tag h g = grind arith

pub tag_none : (r : Reply) → FitsPart r → None ≡ tag_in r → r ≡ Refused NoSuchUpload
tag_none r h g = grind arith

pub part_plain : (t : Task) (place n : ℕ) (s : WriteStage) (r : Reply) (b : Bool) (tag : Spelled) → s ≡ stage.Sending n
    → place < length t.files → Holds t place s → write_fits (seen_write t place s None) r b → Some tag ≡ tag_in r → is_plain_tag tag ≡ true
part_plain t place n s r b tag i h k f e =
    let x = some_file t.files place h in
    tag_plain r tag (fits_sending t place n x.0 r b x.1 (subst (Holds t place) i k)
    (subst (λ z. write_fits (seen_write t place z None) r b) i f)) e

pub part_none : (t : Task) (place n : ℕ) (s : WriteStage) (r : Reply) (b : Bool) → s ≡ stage.Sending n → place < length t.files
    → Holds t place s → write_fits (seen_write t place s None) r b → None ≡ tag_in r → r ≡ Refused NoSuchUpload
part_none t place n s r b i h k f e =
    let x = some_file t.files place h in
    tag_none r (fits_sending t place n x.0 r b x.1 (subst (Holds t place) i k)
    (subst (λ z. write_fits (seen_write t place z None) r b) i f)) e

-- ---- the write after a reply

pub told_as : {X E : Type 0} (r : Result X E) (g : X → Attempting Write) (m m' : Attempting Write) (a a' : Reply)
    → IfOk r (λ x. (b : Bool) → g x ≡ write_told m (Got a b)) → m ≡ m' → a ≡ a' → IfOk r (λ x. (b : Bool) → g x ≡ write_told m' (Got a' b))
told_as r g m m' a a' h e f = grind arith

turned_as : {X E : Type 0} (r : Result X E) (g : X → Attempting Write) (m m' : Attempting Write) (a : Reply) → IfOk r (λ x. g x ≡ m)
    → ((b : Bool) → m ≡ write_told m' (Got a b)) → IfOk r (λ x. (b : Bool) → g x ≡ write_told m' (Got a b))
turned_as r g m m' a h e = grind arith

pub marked_as : {X E : Type 0} (r : Result X E) (g : X → Attempting Write) (t : Task) (place : ℕ) (s : WriteStage) (a : Reply)
    → s ≡ stage.Marking → place < length t.files → IfOk r (λ x. g x ≡ seen_write t place stage.Recording None)
    → IfOk r (λ x. (b : Bool) → g x ≡ write_told (seen_write t place s None) (Got a b))
marked_as r g t place s a i h k =
    let x = some_file t.files place h in
    turned_as r g (seen_write t place stage.Recording None) (seen_write t place s None) a k
    (λ b. marked_told t place x.0 a b (sym x.1) ∙ ap (λ z. write_told (seen_write t place z None) (Got a b)) (sym i))

pub recorded_as : {X E : Type 0} (r : Result X E) (g : X → Attempting Write) (t : Task) (place next : ℕ) (s : WriteStage) (a : Reply)
    → s ≡ stage.Recording → place < length t.files → next ≡ place + 1 → IfOk r (λ x. g x ≡ seen_write t next stage.Creating None)
    → IfOk r (λ x. (b : Bool) → g x ≡ write_told (seen_write t place s None) (Got a b))
recorded_as r g t place next s a i h e k =
    let x = some_file t.files place h in
    turned_as r g (seen_write t next stage.Creating None) (seen_write t place s None) a k
    (λ b. ap (λ n. seen_write t n stage.Creating None) e ∙ (recorded_told t place x.0 a b (sym x.1) ∙ ap
    (λ z. write_told (seen_write t place z None) (Got a b)) (sym i)))

pub ok_as : {X E : Type 0} (r : Result X E) (x y : X) → IfOk r (λ v. v ≡ x) → x ≡ y → IfOk r (λ v. v ≡ y)
ok_as r x y h g = grind arith
