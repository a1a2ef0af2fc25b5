-- The records of the uploaded files stay the same while the next file is uploaded, whose record then follows them.
use Rattle.text_and_lists.specs.Order.{text_eq}
use Rattle.job_model.specs.Files.{File}
use Rattle.job_model.specs.Jobs.{Task}
use Rattle.job_model.specs.Known.{Drawn, with_last}
use Rattle.job_model.specs.Plans.{IsTask}
use Rattle.job_protocol.specs.AtWork.{task_script, who_of, with_known}
use Rattle.job_protocol.specs.Knowledge.{drawn_in, drawn_last, first_drawn}
use Rattle.job_protocol.specs.Records.{file_key, file_record}
use Rattle.pending_json.specs.Pending.{Pending, are_tags, fit}
use Rattle.pending_json.specs.declared.records.PendingSet.{PendingSet}
use Rattle.s3_types.specs.Tags.{Spelled}
use Rattle.std.proofs.Common.{Bool, List, Some, ap, arith, cond, false, get_or, length, refl, slice_get, subst, sym, take, true, ℕ, []}
use Rattle.std.proofs.Common.{◌++◌, ◌+◌, ◌<◌, ◌∙◌, ◌∷◌, ◌≡◌}
use Rattle.std.proofs.lemmas.List.{map-append, take_more}
use Rattle.std.specs.Cmp.Lexicographic.{bytes_decides}
use Rattle.task_requests.proofs.Steps.{record_sizes, record_tags}
use Rattle.task_requests.specs.Publishing.{drawn_of}
use Rattle.task_requests.specs.inner.Publishing.{records_of}
use Rattle.task_requests.specs.Writing.{HasSent, one_more, parts_in, with_drawn, with_tag}
use Rattle.task_staging.proofs.FilesApart.{AreOthers, others_before}
use Rattle.task_staging.specs.Staging.{IsOfKey, set_of}
use Rattle.task_staging.specs.inner.Staging.{IsLastPart}

-- ---- an upload was created

drawn_still : (t : Task) (key : List ℕ) (id : ℕ) (fs : List File) → AreOthers (task_script t) key fs
    → records_of (with_known t (with_drawn t.known key id)) fs ≡ records_of t fs
drawn_still t key id [] o = refl
drawn_still t key id (g ∷ fs) o =
    let fresh : Drawn = record { key = key; upload = id; tags = []; sizes = [] } in
    ap (λ (b : Bool). file_record (task_script t) (who_of t) g (cond b fresh (drawn_of (task_script t) t.known g)) ∷ records_of
    (with_known t (with_drawn t.known key id)) fs) o.0
    ∙ ap (λ l. file_record (task_script t) (who_of t) g (drawn_of (task_script t) t.known g) ∷ l) (drawn_still t key id fs o.1)

abbrev with_records : Task → List Pending → PendingSet
with_records t l = record { job = t.job.job; task = t.task; attempt = t.attempt; commits = l }

pub set_drawn : (t : Task) (place id : ℕ) → IsTask t → place < length t.files
    → (let key = file_key (task_script t) (get_or t.files place ([], [])) in set_of t place ≡ set_of
    (with_known t (with_drawn t.known key id)) place)
set_drawn t place id k h =
    let key = file_key (task_script t) (get_or t.files place ([], [])) in
    sym (ap (with_records t) (drawn_still t key id (take place t.files) (others_before (task_script t) t.job.job t.files place k.files h)))

-- ---- a part was acknowledged

part_there : (tag : Spelled) (size : ℕ) (key : List ℕ) (ds : List Drawn) (other : List ℕ) → IsOfKey key ds → text_eq key other ≡ false
    → drawn_in (with_last tag size ds) other ≡ drawn_in ds other
part_there tag size key ds other h g = grind arith

part_still : (t : Task) (tag : Spelled) (size : ℕ) (key : List ℕ) (fs : List File) → IsOfKey key t.known.drawn
    → AreOthers (task_script t) key fs → records_of (with_known t (with_tag t.known tag size)) fs ≡ records_of t fs
part_still t tag size key [] i o = refl
part_still t tag size key (g ∷ fs) i o =
    ap (λ d. file_record (task_script t) (who_of t) g d ∷ records_of (with_known t (with_tag t.known tag size)) fs)
    (part_there tag size key t.known.drawn (file_key (task_script t) g) i o.0)
    ∙ ap (λ l. file_record (task_script t) (who_of t) g (drawn_of (task_script t) t.known g) ∷ l) (part_still t tag size key fs i o.1)

module _ (t : Task) (place : ℕ) (tag : Spelled) (size : ℕ) (k : IsTask t) (h : place < length t.files)
    (i : IsOfKey (file_key (task_script t) (get_or t.files place ([], []))) t.known.drawn) where
  abbrev later : Task
  later = with_known t (with_tag t.known tag size)

  still : records_of later (take place t.files) ≡ records_of t (take place t.files)
  still = part_still t tag size (file_key (task_script t) (get_or t.files place ([], []))) (take place t.files) i
      (others_before (task_script t) t.job.job t.files place k.files h)

  pub set_sent : set_of t place ≡ set_of later place
  set_sent = sym (ap (with_records t) still)

  -- ---- the last part

  own : (ds : List Drawn) (key : List ℕ) → IsOfKey key ds → drawn_in (with_last tag size ds) key ≡ one_more tag size (first_drawn ds)
  own [] key g = absurd g
  own (d ∷ ds) key g = ap (λ (b : Bool). cond b (one_more tag size d) (drawn_in ds key)) ((bytes_decides d.key key).1 g)

  pub set_closed : (old : PendingSet) (new : PendingSet) (record_of : Pending) → old ≡ set_of t place
      → (let f = get_or t.files place ([], []) in record_of ≡ file_record (task_script t) (who_of t) f
      (one_more tag size (drawn_last t.known)))
      → new ≡ record { job = old.job; task = old.task; attempt = old.attempt; commits = old.commits ++ record_of ∷ [] }
      → new ≡ set_of later (place + 1)
  set_closed old new p e r n =
      let f = get_or t.files place ([], []) in
      let w = task_script t in
      let mine : file_record w (who_of t) f (one_more tag size (drawn_last t.known)) ≡ file_record w (who_of t) f
      (drawn_of w later.known f) = ap (file_record w (who_of t) f) (sym (own t.known.drawn (file_key w f) i)) in
      let all : records_of later (take (place + 1) t.files) ≡ records_of t (take place t.files) ++ p ∷ [] =
      ap (records_of later) (take_more t.files place ([], []) h)
      ∙ (map-append (λ g. file_record w (who_of t) g (drawn_of w later.known g)) (take place t.files) (f ∷ [])
      ∙ (ap (λ l. l ++ file_record w (who_of t) f (drawn_of w later.known f) ∷ []) still
      ∙ ap (λ x. records_of t (take place t.files) ++ x ∷ []) (sym mine ∙ sym r))) in
      n ∙ (ap (λ (o : PendingSet). let s : PendingSet = record {
        job = o.job;
        task = o.task;
        attempt = o.attempt;
        commits = o.commits ++ p ∷
            [];
      } in s) e ∙ sym (ap (with_records t) all))

-- ---- the record of a file whose last part was acknowledged

first_more : (tag : Spelled) (size : ℕ) (ds : List Drawn) (d : Drawn) → Some d ≡ slice_get ds 0
    → Some (one_more tag size d) ≡ slice_get (with_last tag size ds) 0
first_more tag size ds d h = grind arith

pub first_known : (ds : List Drawn) (d : Drawn) → Some d ≡ slice_get ds 0 → d ≡ first_drawn ds
first_known ds d h = grind arith

module _ (t : Task) (place : ℕ) (tag : Spelled) (size : ℕ) (l : IsLastPart t place tag size) (f : File)
    (here : get_or t.files place ([], []) ≡ f) (d : Drawn) (e : Some d ≡ slice_get t.known.drawn 0) where
  sent : HasSent (with_tag t.known tag size).drawn (parts_in t f)
  sent = subst (λ g. HasSent (with_tag t.known tag size).drawn (parts_in t g)) here l.sent

  pub last_tags : are_tags (d.tags ++ tag ∷ []) ≡ true
  last_tags = record_tags (with_known t (with_tag t.known tag size)) f (one_more tag size d) (first_more tag size t.known.drawn d e) sent

  pub last_sizes : fit (d.sizes ++ size ∷ []) (length (d.tags ++ tag ∷ [])) (length f.1) ≡ true
  last_sizes = record_sizes (with_known t (with_tag t.known tag size)) f (one_more tag size d) (first_more tag size t.known.drawn d e) sent
