-- The bound on the requests that a task commit has left falls.
use Rattle.text_and_lists.specs.Members.{IsIn, RisesFrom}
use Rattle.text_and_lists.specs.Order.{text_eq}
use Rattle.job_model.specs.Attempts.{Who}
use Rattle.job_model.specs.Files.{File}
use Rattle.job_model.specs.JobScript.{Script}
use Rattle.job_model.specs.Known.{Drawn, Known}
use Rattle.job_protocol.specs.AtWork.{task_commit_told, task_commit_wants, task_script, who_of}
use Rattle.job_protocol.specs.Measures.{FallsAmong}
use Rattle.job_protocol.specs.Outputs.{files}
use Rattle.job_protocol.specs.Records.{record_key}
use Rattle.job_protocol.specs.TaskCommits.{Checking, Looking, Publishing, Reading, Renaming, Storing, TaskCommit, TaskCommitOver}
use Rattle.job_protocol.specs.TaskCommits.{attempt_prefix, checked, checking, in_order, least_missing, looked, looked_at, partition_prefix}
use Rattle.job_protocol.specs.TaskCommits.{read_record, reading, renamed, storing, task_commit_asks, task_commit_hears, uploaded}
use Rattle.job_protocol.specs.Uploading.{Creating, Sending, Uploading, created, file_parts, sending, sent_part, upload_hears}
use Rattle.list_walk.proofs.Counting.{one_most}
use Rattle.list_walk.proofs.Falling.{walk_laws}
use Rattle.list_walk.specs.Fitting.{FitsPage}
use Rattle.list_walk.specs.WalksEnd.{LessWalk}
use Rattle.list_walk.specs.Left.{adds_key, walk_left}
use Rattle.list_walk.specs.Walks.{More, Walked, Whole, page_after, walked}
use Rattle.s3_types.specs.Answer.{answer, answer_at, apply}
use Rattle.s3_types.specs.Pages.{listed}
use Rattle.s3_types.specs.Store.{BucketContent, Scene}
use Rattle.s3_types.specs.declared.reply.PageEntry.{PageEntry}
use Rattle.s3_types.specs.declared.reply.Refusal.TheVariants.{NoSuchFile, NoSuchKey, NoSuchUpload}
use Rattle.s3_types.specs.declared.reply.Reply.{Reply}
use Rattle.s3_types.specs.declared.reply.Reply.TheVariants.{Object, Page, Part, Refused, Upload}
use Rattle.s3_types.specs.declared.request.Request.{Request}
use Rattle.s3_types.specs.declared.request.Request.TheVariants.{ListPage}
use Rattle.std.proofs.Common.{Bool, List, None, Option, Some, ap, arith, cond, false, inl, inr, length, length-append, map, nat_lt, refl}
use Rattle.std.proofs.Common.{subst, sym, take, true, ℕ, [], ◌+◌, ◌<◌, ◌∙◌, ◌∷◌, ◌≡◌, ◌≤◌}
use Rattle.std.proofs.lemmas.Option.{same_Some}
use Rattle.std.specs.Cmp.Lexicographic.{bytes_decides}
use Rattle.std.specs.List.{filter, flat_map}
use Rattle.store_frame.proofs.Flat.{not_again}
use Rattle.task_operation.proofs.AbortFalls.{none_some}
use Rattle.task_operation.specs.Commits.{FitsCommit, FitsListing, commit_fits, commit_left, commit_left_at, upload_left, uploads_left}
use Rattle.task_requests.specs.Publishing.{FitsRecord}
use Rattle.task_requests.specs.Writing.{FitsCreate, FitsPart, FitsUpload}
use Rattle.std.specs.FinMap as fin
use Rattle.job_protocol.specs.TaskCommits as commits

-- ---- each file is chosen once by rising keys

count : List ℕ → List (List ℕ) → ℕ
count x [] = 0
count x (k ∷ ks) = cond (text_eq x k) 1 0 + count x ks

count_by : (x k : List ℕ) (ks : List (List ℕ)) (b : Bool) → text_eq x k ≡ b → count x (k ∷ ks) ≡ cond b 1 0 + count x ks
unfolding count
count_by x k ks b e = ap (λ c. cond c 1 0 + count x ks) e

count_none : (x : List ℕ) (ks : List (List ℕ)) → (IsIn x ks → ⊥) → count x ks ≡ 0
unfolding count
count_none x [] h = refl
count_none x (k ∷ ks) h = by (text_eq x k) (count_none x ks (λ i. h (inr i))) refl
  where
    by : (b : Bool) → count x ks ≡ 0 → text_eq x k ≡ b → count x (k ∷ ks) ≡ 0
    by true n e = absurd (h (inl ((bytes_decides x k).0 e)))
    by false n e = count_by x k ks false e ∙ omega (arith, n)

count_most : (x l : List ℕ) (ks : List (List ℕ)) → RisesFrom l ks → count x ks ≤ 1
unfolding count
count_most x l [] h = omega arith
count_most x l (k ∷ ks) h = by (text_eq x k) (count_most x k ks h.1) refl
  where
    by : (b : Bool) → count x ks ≤ 1 → text_eq x k ≡ b → count x (k ∷ ks) ≤ 1
    by true n e =
        let same : x ≡ k = (bytes_decides x k).0 e in
        let none : count x ks ≡ 0 = count_none x ks (λ i. not_again k ks h.1 (subst (λ y. IsIn y ks) same i)) in
        omega (arith, count_by x k ks true e, none)
    by false n e = omega (arith, count_by x k ks false e, n)

picked_by : (g : File → List ℕ) (k : List ℕ) (f : File) (fs : List File)
    → length (filter (λ f. text_eq (g f) k) (f ∷ fs)) ≡ cond (text_eq (g f) k) 1 0 + length (filter (λ f. text_eq (g f) k) fs)
picked_by g k f fs = by (text_eq (g f) k)
  where
    by : (b : Bool) → length (cond b (f ∷ filter (λ f. text_eq (g f) k) fs) (filter (λ f. text_eq (g f) k) fs)) ≡ cond b 1 0 + length
        (filter (λ f. text_eq (g f) k) fs)
    by true = omega arith
    by false = omega arith

picked_with : (g : File → List ℕ) (f : File) (fs : List File) (ks : List (List ℕ))
    → length (flat_map (λ k. filter (λ f. text_eq (g f) k) (f ∷ fs)) ks) ≡ count (g f) ks + length
    (flat_map (λ k. filter (λ f. text_eq (g f) k) fs) ks)
unfolding count
picked_with g f fs [] = omega arith
picked_with g f fs (k ∷ ks) =
    let one = picked_by g k f fs in
    let others = picked_with g f fs ks in
    let whole = length-append (filter (λ f. text_eq (g f) k) (f ∷ fs)) (flat_map (λ k. filter (λ f. text_eq (g f) k) (f ∷ fs)) ks) in
    let rest = length-append (filter (λ f. text_eq (g f) k) fs) (flat_map (λ k. filter (λ f. text_eq (g f) k) fs) ks) in
    omega (arith, one, others, whole, rest)

nothing_picked : (ks : List (List ℕ)) (g : File → List ℕ) → length (flat_map (λ k. filter (λ f. text_eq (g f) k) []) ks) ≡ 0
nothing_picked [] g = refl
nothing_picked (k ∷ ks) g = nothing_picked ks g

few_picked : (g : File → List ℕ) (l : List ℕ) (ks : List (List ℕ)) (fs : List File) → RisesFrom l ks
    → length (flat_map (λ k. filter (λ f. text_eq (g f) k) fs) ks) ≤ length fs
few_picked g l ks [] h = omega (arith, nothing_picked ks g)
few_picked g l ks (f ∷ fs) h = omega (arith, picked_with g f fs ks, count_most (g f) l ks h, few_picked g l ks fs h)

-- ---- the bound falls

reading_left : (w : Script) (minimum : ℕ) (a : Who) (cs fs : List File) (s : Scene)
    → commit_left_at w minimum a (reading cs fs) s ≤ 1 + length fs
reading_left w minimum a cs [] s = omega arith
reading_left w minimum a cs (f ∷ fs) s = omega arith

at_left : (w : Script) (minimum : ℕ) (a : Who) (o : Option (List ℕ)) (cs : List File) (s : Scene)
    → commit_left_at w minimum a (looked_at o cs) s ≤ 1 + length cs
at_left w minimum a (Some k) cs s = omega arith
at_left w minimum a None cs s = reading_left w minimum a cs cs s

-- A complete listing is in rising order.
WholeRises : Walked (List ℕ) → Type 0
WholeRises (More keys) = Unit {0}
WholeRises (Whole keys) = RisesFrom [] keys

whole_rises : (keys : List (List ℕ)) (r : Reply) → FitsListing keys r → WholeRises (walked keys r)
unfolding WholeRises
whole_rises keys (Page entries true) h = tt
whole_rises keys (Page entries false) h = h.1
whole_rises keys _ h = tt

fits_page : (keys : List (List ℕ)) (r : Reply) → FitsListing keys r → FitsPage r
fits_page keys (Page entries more) h = h.0
fits_page keys _ h = h

looked_left : (w : Script) (minimum : ℕ) (a : Who) (s : Scene) (n : ℕ) (x : Walked (List ℕ)) → WholeRises x
    → LessWalk w.dest.bucket (attempt_prefix w a) s n x → 1 ≤ n → commit_left_at w minimum a (looked w a x) s < n + (1 + length (files w a))
unfolding WholeRises
looked_left w minimum a s n (More keys) h l g = omega (arith, l)
looked_left w minimum a s n (Whole keys) h l g =
    let one = at_left w minimum a (least_missing keys (map (record_key w a) (files w a))) (in_order w a keys) s in
    let few = few_picked (record_key w a) [] keys (files w a) h in
    omega (arith, one, few)

looking_falls : (w : Script) (minimum : ℕ) (a : Who) (keys : List (List ℕ)) (s : Scene)
    → FitsListing keys (answer s (page_after w.dest.bucket (attempt_prefix w a) keys))
    → commit_left_at w minimum a (looked w a (walked keys (answer s (page_after w.dest.bucket (attempt_prefix w a) keys))))
    (apply s (page_after w.dest.bucket (attempt_prefix w a) keys)) < commit_left_at w minimum a (Looking keys) s
looking_falls w minimum a keys s h =
    let p = attempt_prefix w a in
    let r = answer s (page_after w.dest.bucket p keys) in
    subst (λ z. commit_left_at w minimum a (looked w a (walked keys r)) z < commit_left_at w minimum a (Looking keys) s)
    (sym (walk_laws.still w.dest.bucket p keys s))
    (looked_left w minimum a s (walk_left w.dest.bucket p keys s) (walked keys r) (whole_rises keys r h)
    (walk_laws.falls w.dest.bucket p keys s (fits_page keys r h)) (omega arith))

read_falls : (w : Script) (minimum : ℕ) (a : Who) (k : Known) (cs : List File) (f : File) (fs : List File) (r : Reply) (s : Scene)
    → FitsRecord w a k f r → commit_left_at w minimum a (read_record w a cs f fs r) s < 2 + length fs
read_falls w minimum a k cs f fs (Object bytes header) s h = omega (arith, reading_left w minimum a cs fs s)
read_falls w minimum a k cs f fs (Refused NoSuchKey) s h = omega arith
read_falls w minimum a k cs f fs _ s h = absurd h

-- ---- staging

storing_left : (w : Script) (minimum : ℕ) (a : Who) (fs : List File) (s : Scene)
    → commit_left_at w minimum a (storing fs) s ≤ uploads_left w minimum fs + 2
storing_left w minimum a [] s = omega arith
storing_left w minimum a (f ∷ fs) s = omega arith

checking_left : (w : Script) (minimum : ℕ) (a : Who) (ds : List (List ℕ)) (s : Scene)
    → commit_left_at w minimum a (checking w a ds) s ≤ length ds + (uploads_left w minimum (files w a) + 2)
checking_left w minimum a [] s = let k = storing_left w minimum a (files w a) s in omega (arith, k)
checking_left w minimum a (d ∷ ds) s = omega arith

page_falls : (w : Script) (minimum : ℕ) (a : Who) (d : List ℕ) (ds : List (List ℕ)) (entries : List PageEntry) (more : Bool) (s z : Scene)
    → commit_left_at w minimum a (checked w a d ds (Page entries more)) z < commit_left_at w minimum a (Checking d ds) s
page_falls w minimum a d ds [] more s z = let k = checking_left w minimum a ds z in omega (arith, k)
page_falls w minimum a d ds (x ∷ xs) more s z = omega arith

-- The request for one key below a partition.
abbrev one_key : Script → List ℕ → Request
one_key w d = ListPage w.dest.bucket (partition_prefix w d) false [] 1

checked_falls : (w : Script) (minimum : ℕ) (a : Who) (d : List ℕ) (ds : List (List ℕ)) (s : Scene) → FitsPage (answer s (one_key w d))
    → commit_left_at w minimum a (checked w a d ds (answer s (one_key w d))) (apply s (one_key w d)) < commit_left_at w minimum a
    (Checking d ds) s
checked_falls w minimum a d ds s h = by (fin.get s.content.buckets w.dest.bucket) h
  where
    by : (o : Option BucketContent) → FitsPage (answer_at o s.content.next s.content.minimum (one_key w d))
        → commit_left_at w minimum a (checked w a d ds (answer_at o s.content.next s.content.minimum (one_key w d))) (apply s (one_key w d))
        < commit_left_at w minimum a (Checking d ds) s
    by None f = absurd f
    by (Some c) f = let l = listed (partition_prefix w d) false [] c.objects in page_falls w minimum a d ds (take 1 l) (nat_lt 1 (length l))
        s (apply s (one_key w d))

sending_left : (w : Script) (minimum : ℕ) (a : Who) (f : File) (fs : List File) (ps : List (List ℕ)) (s : Scene)
    → commit_left_at w minimum a (uploaded w f fs (sending ps)) s ≤ length ps + (uploads_left w minimum fs + 2)
sending_left w minimum a f fs [] s = let k = storing_left w minimum a fs s in omega (arith, k)
sending_left w minimum a f fs (p ∷ ps) s = omega arith

begun_falls : (w : Script) (minimum : ℕ) (a : Who) (f : File) (fs : List File) (ds : List Drawn) (r : Reply) (s z : Scene) → FitsCreate ds r
    → commit_left_at w minimum a (uploaded w f fs (created w minimum f r)) z < commit_left_at w minimum a (commits.Uploads f fs Creating) s
begun_falls w minimum a f fs ds (Upload id) s z h = let k = sending_left w minimum a f fs (file_parts w minimum f) z in omega (arith, k)
begun_falls w minimum a f fs ds _ s z h = absurd h

part_falls : (w : Script) (minimum : ℕ) (a : Who) (f : File) (fs : List File) (p : List ℕ) (ps : List (List ℕ)) (r : Reply) (s z : Scene)
    → FitsPart r → commit_left_at w minimum a (uploaded w f fs (sent_part ps r)) z < commit_left_at w minimum a
    (commits.Uploads f fs (Sending p ps)) s
part_falls w minimum a f fs p ps (Part tag) s z h = let k = sending_left w minimum a f fs ps z in omega (arith, k)
part_falls w minimum a f fs p ps (Refused NoSuchUpload) s z h = omega arith
part_falls w minimum a f fs p ps _ s z h = absurd h

uploads_fall : (w : Script) (minimum : ℕ) (a : Who) (k : Known) (f : File) (fs : List File) (u : Uploading) (r : Reply) (s z : Scene)
    → FitsUpload k.drawn u r → commit_left_at w minimum a (uploaded w f fs (upload_hears w minimum f u r)) z < commit_left_at w minimum a
    (commits.Uploads f fs u) s
uploads_fall w minimum a k f fs Creating r s z h = begun_falls w minimum a f fs k.drawn r s z h
uploads_fall w minimum a k f fs (Sending p ps) r s z h = part_falls w minimum a f fs p ps r s z h

renamed_left : (w : Script) (minimum : ℕ) (a : Who) (r : Reply) (b : Bool) (s : Scene) → commit_left_at w minimum a (renamed w a r b) s ≡ 0
renamed_left w minimum a (Refused NoSuchFile) b s = refl
renamed_left w minimum a _ b s = refl

some_upload : (w : Script) (minimum : ℕ) (f : File) (u : Uploading) → 0 < upload_left w minimum f u
some_upload w minimum f Creating = omega arith
some_upload w minimum f (Sending p ps) = omega arith

-- ---- any commit

falls_at : (w : Script) (minimum : ℕ) (a : Who) (k : Known) (o : TaskCommit) (s : Scene) (r : Request) (b : Bool)
    → task_commit_asks w a k o ≡ Some r → FitsCommit w a k o (answer s r)
    → commit_left_at w minimum a (task_commit_hears w minimum a o (answer s r) b) (apply s r) < commit_left_at w minimum a o s
falls_at w minimum a k (Looking keys) s r b e h =
    subst (λ r. FitsListing keys (answer s r) → commit_left_at w minimum a (looked w a (walked keys (answer s r))) (apply s r) <
    commit_left_at w minimum a (Looking keys) s) (same_Some _ _ e) (looking_falls w minimum a keys s) h
falls_at w minimum a k (Reading cs f fs) s r b e h = read_falls w minimum a k cs f fs (answer s r) (apply s r) h
falls_at w minimum a k (Publishing cs) s r b e h = omega arith
falls_at w minimum a k (Checking d ds) s r b e h =
    subst (λ r. FitsPage (answer s r) → commit_left_at w minimum a (checked w a d ds (answer s r)) (apply s r) < commit_left_at w minimum a
    (Checking d ds) s) (same_Some _ _ e) (checked_falls w minimum a d ds s) h
falls_at w minimum a k (commits.Uploads f fs u) s r b e h = uploads_fall w minimum a k f fs u (answer s r) s (apply s r) h
falls_at w minimum a k Storing s r b e h = omega arith
falls_at w minimum a k Renaming s r b e h = let z = renamed_left w minimum a (answer s r) b (apply s r) in omega (arith, z)
falls_at w minimum a k (TaskCommitOver end) s r b e h = absurd (none_some e)

some_left : (w : Script) (minimum : ℕ) (a : Who) (k : Known) (o : TaskCommit) (s : Scene) (r : Request) → task_commit_asks w a k o ≡ Some r
    → 0 < commit_left_at w minimum a o s
some_left w minimum a k (commits.Uploads f fs u) s r e = let z = some_upload w minimum f u in omega (arith, z)
some_left w minimum a k (TaskCommitOver end) s r e = absurd (none_some e)
some_left w minimum a k _ s r e = omega arith

same_left : (w : Script) (minimum : ℕ) (a : Who) (o : TaskCommit) (s z : Scene) → z ≡ s
    → commit_left_at w minimum a o z ≤ commit_left_at w minimum a o s
same_left w minimum a o s z e = let i = ap (commit_left_at w minimum a o) e in omega (arith, i)

no_rise_at : (w : Script) (minimum : ℕ) (a : Who) (k : Known) (o : TaskCommit) (s : Scene) (r : Request) → task_commit_asks w a k o ≡ Some r
    → commit_left_at w minimum a o (apply s r) ≤ commit_left_at w minimum a o s
no_rise_at w minimum a k (Looking keys) s r e = same_left w minimum a (Looking keys) s (apply s r)
    (ap (apply s) (sym (same_Some _ _ e)) ∙ walk_laws.still w.dest.bucket (attempt_prefix w a) keys s)
no_rise_at w minimum a k _ s r e = omega arith

others_at : (w : Script) (minimum : ℕ) (a : Who) (o : TaskCommit) (s : Scene) (r : Request)
    → commit_left_at w minimum a o (apply s r) ≤ commit_left_at w minimum a o s + 1
others_at w minimum a (Looking keys) s r =
    let o = walk_laws.others w.dest.bucket (attempt_prefix w a) keys s r in
    let z = one_most (adds_key r) in
    omega (arith, o, z)
others_at w minimum a (Reading cs f fs) s r = omega arith
others_at w minimum a _ s r = omega arith

pub commit_falls : FallsAmong task_commit_wants task_commit_told commit_fits commit_left 1
commit_falls = record {
  falls = λ m s r b e h. falls_at (task_script m.plan) m.plan.minimum (who_of m.plan) m.plan.known m.operation s r b e h;
  falls_worn = λ m s r e. some_left (task_script m.plan) m.plan.minimum (who_of m.plan) m.plan.known m.operation s r e;
  no_rise = λ m s r e. no_rise_at (task_script m.plan) m.plan.minimum (who_of m.plan) m.plan.known m.operation s r e;
  others = λ m s r. others_at (task_script m.plan) m.plan.minimum (who_of m.plan) m.operation s r;
}
