-- A commit after a reply, by the places of the files that it commits.
use Rattle.text_and_lists.proofs.Naturals.{at_most_is, at_most_not, below_is}
use Rattle.job_model.specs.Attempts.{Who}
use Rattle.job_model.specs.Files.{File}
use Rattle.job_model.specs.JobScript.{Script}
use Rattle.job_model.specs.Jobs.{Task}
use Rattle.job_model.specs.Known.{Known}
use Rattle.job_model.specs.declared.ends.TaskEnd.{TaskEnd}
use Rattle.job_protocol.specs.AtWork.{Attempting, task_commit_told, task_script, who_of, with_known}
use Rattle.job_protocol.specs.Knowledge.{is_set_key}
use Rattle.job_protocol.specs.Outputs.{files}
use Rattle.job_protocol.specs.Records.{record_key}
use Rattle.job_protocol.specs.TaskCommits.{Publishing, TaskCommit, TaskCommitOver, in_order, least_missing, looked, looked_at, read_record}
use Rattle.job_protocol.specs.TaskCommits.{reading, task_commit_asks, task_commit_hears}
use Rattle.job_protocol.specs.Uploading.{Creating, Sending}
use Rattle.list_walk.specs.Walks.{keys_on, walked, walked_by}
use Rattle.retries.specs.Retries.{Got}
use Rattle.s3_types.specs.declared.reply.Refusal.TheVariants.{NoSuchKey}
use Rattle.s3_types.specs.declared.reply.Reply.{Reply}
use Rattle.s3_types.specs.declared.reply.Reply.TheVariants.{Object, Refused}
use Rattle.s3_types.specs.declared.request.Request.{Request}
use Rattle.s3_types.specs.declared.request.Request.TheVariants.{GetObject}
use Rattle.std.proofs.Common.{Bool, List, None, Option, Some, add-one, ap, arith, cond, drop, false, get_or, length, map, nat_le, nat_lt}
use Rattle.std.proofs.Common.{option_map, refl, slice_get, subst, suc, sym, take, true, zero, ℕ, [], ◌++◌, ◌+◌, ◌<◌, ◌||◌, ◌∙◌, ◌∷◌, ◌≡◌}
use Rattle.std.proofs.Common.{◌≤◌}
use Rattle.std.proofs.Math.Bool.{or-true}
use Rattle.std.proofs.lemmas.Bool.{and_parts}
use Rattle.std.proofs.lemmas.List.{drop_all, length-map, take_all}
use Rattle.std.proofs.lemmas.Option.{slice_get-get_or, slice_get_past, slice_get_within}
use Rattle.std.specs.Cmp.Lexicographic.{bytes_decides}
use Rattle.task_operation.specs.Commits.{FitsCommit}
use Rattle.task_magic.proofs.Listed.{missing_by}
use Rattle.task_magic.specs.Committing.{AreRecords, HoldsCommit, commit_by, commit_of}
use Rattle.task_magic.specs.inner.Committing.{is_no_key, known_if, least_unseen, publishes}
use Rattle.task_magic.specs.Committing.{record_of}
use Rattle.task_magic.specs.inner.Committing.{seen_in, with_sent}
use Rattle.task_magic.specs.declared.committing.Committing.{Committing}
use Rattle.task_requests.proofs.Told.{own_files}
use Rattle.task_requests.specs.Publishing.{AreReady, FitsRecord, IsPending, are_places, drawn_of, picked}
use Rattle.magic_paths.specs.Layout as layout
use Rattle.job_model.specs.declared.ends.TaskEnd.TheVariants as ends
use Rattle.job_protocol.specs.TaskCommits as commits

-- ---- the file at a place

pub at_file : (fs : List File) (places : List ℕ) (at p : ℕ) → Some p ≡ slice_get places at
    → drop at (picked fs places) ≡ get_or fs p ([], []) ∷ drop (at + 1) (picked fs places)
at_file fs [] at p h = absurd (omega (arith, slice_get_within [] at p (sym h)))
at_file fs (q ∷ places) zero p h = let same : p ≡ q = cc in ap (λ i. get_or fs i ([], []) ∷ picked fs places) (sym same)
at_file fs (q ∷ places) (suc at) p h = at_file fs places at p h ∙ rw (add-one, add-one) refl

none_past : {X : Type 0} (xs : List X) (i : ℕ) → None ≡ slice_get xs i → length xs ≤ i
none_past [] i h = omega arith
none_past (x ∷ xs) zero h = absurd (cc)
none_past (x ∷ xs) (suc i) h = let l = none_past xs i h in omega (arith, l)

past_picked : (fs : List File) (places : List ℕ) (at : ℕ) → None ≡ slice_get places at → length (picked fs places) ≤ at
past_picked fs places at h = omega (arith, length-map places (λ i. get_or fs i ([], [])), none_past places at h)

pub within_at : (count : ℕ) (places : List ℕ) (at p : ℕ) → are_places count places ≡ true → Some p ≡ slice_get places at → p < count
within_at count [] at p k h = absurd (omega (arith, slice_get_within [] at p (sym h)))
within_at count (q ∷ places) zero p k h = let same : p ≡ q = cc in below_is p count
    (ap (λ i. nat_lt i count) same ∙ (and_parts (nat_lt q count) (are_places count places) k).0)
within_at count (q ∷ places) (suc at) p k h = within_at count places at p (and_parts (nat_lt q count) (are_places count places) k).1 h

-- ---- the next request

asks_key : (t : Task) (cs fs : List File) (at : ℕ) (key : List ℕ) → Some key ≡ slice_get (map (record_of t) fs) at
    → Some (GetObject t.job.dest.bucket key) ≡ task_commit_asks (task_script t) (who_of t) t.known (reading cs (drop at fs))
asks_key t cs [] at key h = absurd (omega (arith, slice_get_within [] at key (sym h)))
asks_key t cs (f ∷ fs) zero key h = let same : key ≡ record_of t f = cc in ap (λ (k : List ℕ). Some (GetObject t.job.dest.bucket k)) same
asks_key t cs (f ∷ fs) (suc at) key h = asks_key t cs fs at key h

pub asks_record : (t : Task) (places : List ℕ) (keys : List (List ℕ)) (at : ℕ) (key : List ℕ) → AreRecords t keys places
    → Some key ≡ slice_get keys at
    → (let cs = picked t.files places in Some (GetObject t.job.dest.bucket key) ≡ task_commit_asks (task_script t) (who_of t) t.known
    (reading cs (drop at cs)))
asks_record t places keys at key e h = asks_key t (picked t.files places) (picked t.files places) at key
    (h ∙ ap (λ (l : List (List ℕ)). slice_get l at) e)

place_none : (t : Task) (fs : List File) (places : List ℕ) (at : ℕ) → None ≡ slice_get (map (record_of t) (picked fs places)) at
    → None ≡ slice_get places at
place_none t fs places at h =
    let past = none_past (map (record_of t) (picked fs places)) at h in
    sym (slice_get_past places at (omega (
      arith,
      length-map (picked fs places) (record_of t),
      length-map places (λ i. get_or fs i ([], [])),
      past,
    )))

-- There is no place after the last record.
pub no_place : (t : Task) (places : List ℕ) (keys : List (List ℕ)) (at : ℕ) → AreRecords t keys places → None ≡ slice_get keys at
    → None ≡ slice_get places at
no_place t places keys at e h = place_none t t.files places at (h ∙ ap (λ (l : List (List ℕ)). slice_get l at) e)

pub asks_set : (t : Task) (places : List ℕ) (at : ℕ) → None ≡ slice_get places at
    → (let cs = picked t.files places in task_commit_asks (task_script t) (who_of t) t.known (Publishing cs) ≡ task_commit_asks
    (task_script t) (who_of t) t.known (reading cs (drop at cs)))
asks_set t places at h =
    sym (ap (λ (l : List File). task_commit_asks (task_script t) (who_of t) t.known (reading (picked t.files places) l))
    (drop_all at (picked t.files places) (past_picked t.files places at h)))

-- If all records are read, all files are ready.
pub all_taken : (fs : List File) (places : List ℕ) (at : ℕ) → None ≡ slice_get places at → take at (picked fs places) ≡ picked fs places
all_taken fs places at h = take_all at (picked fs places) (past_picked fs places at h)

-- ---- a page

module _ (t : Task) (old new keys : List (List ℕ)) (r : Reply) (more : Bool) (found : Option (List ℕ)) (seen : List Bool)
    (h : walked old r ≡ walked_by more new) (b : more ≡ false) (k : keys ≡ new)
    (s : seen ≡ seen_in t keys) (f : found ≡ least_unseen seen (map (record_of t) t.files)) where
  walked_is : looked (task_script t) (who_of t) (walked old r) ≡ looked_at found (in_order (task_script t) (who_of t) new)
  walked_is =
      ap (looked (task_script t) (who_of t)) (h ∙ ap (λ c. walked_by c new) b)
      ∙ ap (λ o. looked_at o (in_order (task_script t) (who_of t) new))
      (sym (f ∙ ((ap (λ l. least_unseen l (map (record_of t) t.files)) s
      ∙ (sym (missing_by keys (record_of t) t.files) ∙ ap (λ (l : List File). least_missing keys (map (record_of t) l))
      (sym (own_files t))))
      ∙ ap (λ l. least_missing l (map (record_of t) (files (task_script t) (who_of t)))) k)))

  pub page_looked : (cs : List File) (others : List (List ℕ)) (end : Option TaskEnd) → cs ≡ in_order (task_script t) (who_of t) keys
      → end ≡ option_map (λ name. ends.Gone name) found → commit_by false others cs 0 end ≡ looked (task_script t) (who_of t) (walked old r)
  page_looked cs others end c n =
      ap (commit_by false others cs 0) n
      ∙ ((elim found as (λ o. commit_by false others cs 0 (option_map (λ name. ends.Gone name) o) ≡ looked_at o cs)
      [ Some key ↦ refl | None ↦ refl ])
      ∙ (ap (looked_at found) (c ∙ ap (in_order (task_script t) (who_of t)) k) ∙ sym walked_is))

-- ---- a record

read_by : (w : Script) (a : Who) (k : Known) (cs : List File) (f : File) (fs : List File) (r : Reply) → FitsRecord w a k f r
    → read_record w a cs f fs r ≡ cond (is_no_key r) (TaskCommitOver (ends.Gone (record_key w a f))) (reading cs fs)
read_by w a k cs f fs (Object bytes header) h = refl
read_by w a k cs f fs (Refused NoSuchKey) h = refl
read_by w a k cs f fs _ h = absurd h

fits_at : (t : Task) (keys : List (List ℕ)) (places : List ℕ) (at p : ℕ) (r : Reply) → Some p ≡ slice_get places at
    → FitsCommit (task_script t) (who_of t) t.known (commit_by false keys (picked t.files places) at None) r
    → FitsRecord (task_script t) (who_of t) t.known (get_or t.files p ([], [])) r
fits_at t keys places at p r h f = subst (λ (l : List File). FitsCommit (task_script t) (who_of t) t.known
    (reading (picked t.files places) l) r) (at_file t.files places at p h) f

hears_at : (t : Task) (keys : List (List ℕ)) (places : List ℕ) (at p : ℕ) (r : Reply) → Some p ≡ slice_get places at
    → FitsCommit (task_script t) (who_of t) t.known (commit_by false keys (picked t.files places) at None) r
    → task_commit_hears (task_script t) t.minimum (who_of t) (commit_by false keys (picked t.files places) at None) r false ≡ cond
    (is_no_key r) (TaskCommitOver (ends.Gone (record_of t (get_or t.files p ([], [])))))
    (reading (picked t.files places) (drop (at + 1) (picked t.files places)))
hears_at t keys places at p r h f =
    ap (λ (l : List File). task_commit_hears (task_script t) t.minimum (who_of t) (reading (picked t.files places) l) r false)
    (at_file t.files places at p h)
    ∙ read_by (task_script t) (who_of t) t.known (picked t.files places) (get_or t.files p ([], [])) (drop (at + 1) (picked t.files places))
    r (fits_at t keys places at p r h f)

goes_gone : (t : Task) (keys : List (List ℕ)) (places : List ℕ) (at p : ℕ) (r : Reply) (name : List ℕ) → Some p ≡ slice_get places at
    → FitsCommit (task_script t) (who_of t) t.known (commit_by false keys (picked t.files places) at None) r → is_no_key r ≡ true
    → name ≡ record_of t (get_or t.files p ([], []))
    → TaskCommitOver (ends.Gone name) ≡ task_commit_hears (task_script t) t.minimum (who_of t)
    (commit_by false keys (picked t.files places) at None) r false
goes_gone t keys places at p r name h f g e =
    ap (λ n. TaskCommitOver (ends.Gone n)) e
    ∙ sym (hears_at t keys places at p r h f ∙ ap (λ b. cond b (TaskCommitOver (ends.Gone (record_of t (get_or t.files p ([], [])))))
    (reading (picked t.files places) (drop (at + 1) (picked t.files places)))) g)

goes_read : (t : Task) (keys : List (List ℕ)) (places : List ℕ) (at p : ℕ) (r : Reply) → Some p ≡ slice_get places at
    → FitsCommit (task_script t) (who_of t) t.known (commit_by false keys (picked t.files places) at None) r → is_no_key r ≡ false
    → commit_by false keys (picked t.files places) (at + 1) None ≡ task_commit_hears (task_script t) t.minimum (who_of t)
    (commit_by false keys (picked t.files places) at None) r false
goes_read t keys places at p r h f g =
    sym (hears_at t keys places at p r h f ∙ ap (λ b. cond b (TaskCommitOver (ends.Gone (record_of t (get_or t.files p ([], [])))))
    (reading (picked t.files places) (drop (at + 1) (picked t.files places)))) g)

ready_here : (w : Script) (a : Who) (k : Known) (f : File) (r : Reply) → FitsRecord w a k f r → is_no_key r ≡ false
    → IsPending (drawn_of w k f) (length f.1)
ready_here w a k f (Object bytes header) h g = h.1
ready_here w a k f (Refused NoSuchKey) h g = absurd (cc)
ready_here w a k f _ h g = absurd h

take_file : (fs : List File) (places : List ℕ) (at p : ℕ) → Some p ≡ slice_get places at
    → take (at + 1) (picked fs places) ≡ take at (picked fs places) ++ get_or fs p ([], []) ∷ []
take_file fs [] at p h = absurd (omega (arith, slice_get_within [] at p (sym h)))
take_file fs (q ∷ places) zero p h = let same : p ≡ q = cc in ap (λ i. get_or fs i ([], []) ∷ []) (sym same)
take_file fs (q ∷ places) (suc at) p h = rw add-one (ap (λ (l : List File). get_or fs q ([], []) ∷ l)
    (sym (rw add-one refl) ∙ take_file fs places at p h))

ready_more : (t : Task) (xs : List File) (f : File) → AreReady t xs → IsPending (drawn_of (task_script t) t.known f) (length f.1)
    → AreReady t (xs ++ f ∷ [])
ready_more t [] f h g = (g, tt)
ready_more t (x ∷ xs) f h g = (h.0, ready_more t xs f h.1 g)

keeps_read : (t : Task) (keys : List (List ℕ)) (places : List ℕ) (rs : List (List ℕ)) (at p : ℕ) (r : Reply) → Some p ≡ slice_get places at
    → FitsCommit (task_script t) (who_of t) t.known (commit_by false keys (picked t.files places) at None) r → is_no_key r ≡ false
    → HoldsCommit t places rs at → HoldsCommit t places rs (at + 1)
keeps_read t keys places rs at p r h f g k = record {
  within = k.within;
  records = k.records;
  ready = subst (AreReady t) (sym (take_file t.files places at p h))
      (ready_more t (take at (picked t.files places)) (get_or t.files p ([], [])) k.ready
      (ready_here (task_script t) (who_of t) t.known (get_or t.files p ([], [])) r (fits_at t keys places at p r h f) g));
}

-- ---- after a request was sent

pub keeps_sent : (t new : Task) (p : Bool) (places : List ℕ) (keys : List (List ℕ)) (at : ℕ) → new ≡ with_sent t p
    → HoldsCommit t places keys at → HoldsCommit new places keys at
keeps_sent t new p places keys at e h = subst (λ (t : Task). HoldsCommit t places keys at) (sym e) (by p)
  where
    by : (p : Bool) → HoldsCommit (with_sent t p) places keys at
    by true = record { within = h.within; records = h.records; ready = h.ready }
    by false = record { within = h.within; records = h.records; ready = h.ready }

-- ---- the stage given by equations

as_reading : (listing : Bool) (keys : List (List ℕ)) (cs : List File) (at : ℕ) (end : Option TaskEnd) → end ≡ None → listing ≡ false
    → commit_by listing keys cs at end ≡ commit_by false keys cs at None
as_reading listing keys cs at end e l = ap (commit_by listing keys cs at) e ∙ ap (λ b. commit_by b keys cs at None) l

module _ (t : Task) (listing : Bool) (keys : List (List ℕ)) (places : List ℕ) (at p : ℕ) (end : Option TaskEnd) (r : Reply) (e : end ≡ None)
    (l : listing ≡ false) (h : Some p ≡ slice_get places at)
    (f : FitsCommit (task_script t) (who_of t) t.known (commit_by listing keys (picked t.files places) at end) r) where
  fits_as : FitsCommit (task_script t) (who_of t) t.known (commit_by false keys (picked t.files places) at None) r
  fits_as = subst (λ o. FitsCommit (task_script t) (who_of t) t.known o r) (as_reading listing keys (picked t.files places) at end e l) f

  pub goes_gone_at : (name : List ℕ) → is_no_key r ≡ true → name ≡ record_of t (get_or t.files p ([], []))
      → TaskCommitOver (ends.Gone name) ≡ task_commit_hears (task_script t) t.minimum (who_of t)
      (commit_by listing keys (picked t.files places) at end) r false
  goes_gone_at name g n =
      goes_gone t keys places at p r name h fits_as g n ∙ sym (ap (λ o. task_commit_hears (task_script t) t.minimum (who_of t) o r false)
      (as_reading listing keys (picked t.files places) at end e l))

  pub goes_read_at : is_no_key r ≡ false → commit_by listing keys (picked t.files places) (at + 1) end ≡ task_commit_hears (task_script t)
      t.minimum (who_of t) (commit_by listing keys (picked t.files places) at end) r false
  goes_read_at g =
      as_reading listing keys (picked t.files places) (at + 1) end e l
      ∙ (goes_read t keys places at p r h fits_as g ∙ sym (ap (λ o. task_commit_hears (task_script t) t.minimum (who_of t) o r false)
      (as_reading listing keys (picked t.files places) at end e l)))

  pub keeps_read_at : (rs : List (List ℕ)) → is_no_key r ≡ false → HoldsCommit t places rs at → HoldsCommit t places rs (at + 1)
  keeps_read_at rs g k = keeps_read t keys places rs at p r h fits_as g k

-- ---- what the commit learns

is_set : (w : Script) (a : Who) → is_set_key w a.task w.dest.bucket (layout.set_key w.dest.key w.job a.task) ≡ true
is_set w a = rw (
  (bytes_decides w.dest.bucket w.dest.bucket).1 refl,
  (bytes_decides (layout.set_key w.dest.key w.job a.task)
      (layout.set_key w.dest.key w.job a.task)).1 refl,
) refl

set_known : (t : Task) → (let after : Known = record {
  drawn = t.known.drawn;
  put_sent = t.known.put_sent;
  publish_sent =
      t.known.publish_sent || is_set_key (task_script t) t.task t.job.dest.bucket (layout.set_key t.job.dest.key t.job.job t.task);
} in after
    ≡ known_if true t.known)
set_known t = ap (λ (b : Bool). let k : Known = record { drawn = t.known.drawn; put_sent = t.known.put_sent; publish_sent = b } in k)
    (ap (λ b. t.known.publish_sent || b) (is_set (task_script t) (who_of t)) ∙ or-true t.known.publish_sent)

reading_got : (t : Task) (cs fs : List File) (r : Reply) (b : Bool)
    → task_commit_told (record { plan = t; operation = reading cs fs }) (Got r b) ≡ record {
      plan = with_sent t (publishes (reading cs fs));
      operation = task_commit_hears (task_script t) t.minimum (who_of t) (reading cs fs) r
          false;
    }
reading_got t cs [] r b = ap (λ (k : Known). let m : Attempting TaskCommit = record
    { plan = with_known t k; operation = TaskCommitOver ends.Done } in m) (set_known t)
reading_got t cs (f ∷ fs) r b = refl

-- A reply teaches that the request was sent, and nothing else.
pub got_by : (t : Task) (listing : Bool) (keys : List (List ℕ)) (cs : List File) (at : ℕ) (end : Option TaskEnd) (r : Reply) (b : Bool)
    → (let o = commit_by listing keys cs at end in
    task_commit_told (record { plan = t; operation = o }) (Got r b) ≡ record {
      plan = with_sent t (publishes o);
      operation =
          task_commit_hears (task_script t) t.minimum (who_of t) o r false;
    })
got_by t listing keys cs at (Some end) r b = refl
got_by t true keys cs at None r b = refl
got_by t false keys cs at None r b = reading_got t cs (drop at cs) r b

-- ---- the commit with what it learns

pub told_as : (t new : Task) (h after : Committing) (r : Reply) (p : Bool) → new ≡ with_sent t p → p ≡ publishes (commit_of t h)
    → commit_of t after ≡ task_commit_hears (task_script t) t.minimum (who_of t) (commit_of t h) r false
    → (b : Bool) → record { plan = new; operation = commit_of new after } ≡ task_commit_told
    (record { plan = t; operation = commit_of t h }) (Got r b)
told_as t new h after r p e q g b =
    ap (λ (x : Task). let m : Attempting TaskCommit = record { plan = x; operation = commit_of x after } in m) e
    ∙ (ap (λ (o : TaskCommit). let m : Attempting TaskCommit = record { plan = with_sent t p; operation = o } in m) g
    ∙ (ap (λ c. let m : Attempting TaskCommit = record {
      plan = with_sent t c;
      operation = task_commit_hears (task_script t) t.minimum
          (who_of t) (commit_of t h) r false;
    } in m) q
    ∙ sym (got_by t h.listing (keys_on h.walk) (picked t.files h.places) h.at h.end r b)))

asks_known : (w : Script) (a : Who) (k : Known) (o : TaskCommit) (b : Bool)
    → task_commit_asks w a (known_if b k) o ≡ task_commit_asks w a k o
asks_known w a k o false = refl
asks_known w a k (commits.Uploads f fs Creating) true = refl
asks_known w a k (commits.Uploads f fs (Sending p ps)) true = refl
asks_known w a k _ true = refl

pub next_as : (t new : Task) (after : Committing) (p : Bool) (x : Option Request) → new ≡ with_sent t p
    → x ≡ task_commit_asks (task_script t) (who_of t) t.known (commit_of t after)
    → x ≡ task_commit_asks (task_script new) (who_of new) new.known (commit_of new after)
next_as t new after p x e h =
    h ∙ (sym (asks_known (task_script t) (who_of t) t.known (commit_of t after) p)
    ∙ sym (ap (λ (y : Task). task_commit_asks (task_script y) (who_of y) y.known (commit_of y after)) e))

some_place : (places : List ℕ) (at : ℕ) → at < length places → (p : ℕ) × (Some p ≡ slice_get places at)
some_place places at h = (get_or places at 0, sym (slice_get-get_or places at 0 h))

-- The commit publishes after the last record.
publishes_if : (fs : List File) (keys : List (List ℕ)) (places : List ℕ) (at n : ℕ) (b : Bool) → nat_le n at ≡ b → n ≡ length places
    → b ≡ publishes (commit_by false keys (picked fs places) at None)
publishes_if fs keys places at n true t e =
    let most : n ≤ at = at_most_is n at t in
    sym (ap (λ (l : List File). publishes (reading (picked fs places) l)) (drop_all at (picked fs places)
    (omega (arith, length-map places (λ i. get_or fs i ([], [])), most))))
publishes_if fs keys places at n false t e =
    let there = some_place places at (let more : at < n = at_most_not n at t in omega (arith, more)) in
    sym (ap (λ (l : List File). publishes (reading (picked fs places) l)) (at_file fs places at there.0 there.1))

pub publishes_by : (fs : List File) (listing : Bool) (keys : List (List ℕ)) (places : List ℕ) (at n : ℕ) (end : Option TaskEnd) → end ≡ None
    → listing ≡ false → n ≡ length places → nat_le n at ≡ publishes (commit_by listing keys (picked fs places) at end)
publishes_by fs listing keys places at n end g f e =
    publishes_if fs keys places at n (nat_le n at) refl e
    ∙ (ap (λ b. publishes (commit_by b keys (picked fs places) at None)) (sym f) ∙ ap
    (λ o. publishes (commit_by listing keys (picked fs places) at o)) (sym g))
