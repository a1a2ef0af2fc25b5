-- An abort or clean at a shared destination keeps the job's facts with each of its requests, and aborts only uploads that the job knows.
use Rattle.text_and_lists.proofs.Members.{false_true, in_append, in_filter, in_map, none_or_some, same_or_other, some_is}
use Rattle.text_and_lists.specs.Members.{IsIn}
use Rattle.job_invariant.proofs.Aborting.{dropped_in, taken_in}
use Rattle.job_invariant.proofs.Driving.{IsClearing, aborts, batches, clearing_effect, reads, removes}
use Rattle.job_invariant.proofs.Going.{Each, each_so, effect_so, step_by}
use Rattle.job_invariant.proofs.JobCommitting.{dest_below}
use Rattle.job_invariant.proofs.Keep.{facts_so}
use Rattle.job_invariant.proofs.Legal.{no_record, some_dest}
use Rattle.job_invariant.proofs.Legible.{drawn_is, record_read, set_read}
use Rattle.job_invariant.proofs.Placed.{not_both, staged_set}
use Rattle.job_invariant.proofs.Shapes.{answer_is, key_before, more_keys, page_each, page_is}
use Rattle.job_invariant.proofs.Suffix.{marker_no_record, set_no_record}
use Rattle.job_invariant.specs.Driver.{AllCluster, AllMagic}
use Rattle.job_invariant.specs.Facts.{AreCommits, Facts, Hold, IsAttempt, IsOwnPlace, IsWritten, knowing}
use Rattle.job_invariant.specs.Spares.{AllKnown, AllOwn, FitsSparing}
use Rattle.job_invariant.specs.inner.Spares.{Filed, IsOwnPath}
use Rattle.job_invariant.specs.Stores.{at_key}
use Rattle.job_invariant.specs.Told.{Told, at_event, tell_driver}
use Rattle.job_model.specs.Attempts.{Who}
use Rattle.job_model.specs.Files.{File}
use Rattle.job_model.specs.JobScript.{Script}
use Rattle.job_model.specs.Known.{Drawn}
use Rattle.job_model.specs.Legal.{IsLegal}
use Rattle.job_protocol.specs.Knowledge.{drawn_for}
use Rattle.job_protocol.specs.Outputs.{files}
use Rattle.job_protocol.specs.Records.{file_key, file_record, files_set}
use Rattle.job_protocol.specs.Seen.{Seen, is_begun, is_magic, is_staging}
use Rattle.job_protocol.specs.Setup.{dest_prefix}
use Rattle.job_protocol.specs.Sparing.{Aborting, Deleting, Naming, Reading, Removing, Sparing, SparingOver, Walking, aborting, deleting}
use Rattle.job_protocol.specs.Sparing.{emptying, names, naming, reading_on, record_names, record_request, ref_of, removing, set_names}
use Rattle.job_protocol.specs.Sparing.{sparing_after, sparing_asks, sparing_hears, sparing_start, walking}
use Rattle.list_walk.specs.Walks.{walked_by}
use Rattle.magic_paths.specs.Layout.{cluster_prefix, magic_prefix}
use Rattle.magic_paths.specs.Places.{FilePlace, MarkerPlace, Place, RecordPlace, SetPlace, SuccessPlace, is_record, key_at}
use Rattle.retries.specs.Retries.{Retried, step}
use Rattle.s3_types.specs.Answer.{answer, found, read_answer}
use Rattle.s3_types.specs.Moment.{IsHonestOutcome, effect}
use Rattle.s3_types.specs.Pages.{begins}
use Rattle.s3_types.specs.Requests.{only_reads}
use Rattle.s3_types.specs.Store.{Scene}
use Rattle.s3_types.specs.declared.journal.Outcome.{Outcome}
use Rattle.s3_types.specs.declared.object.Object.{Object}
use Rattle.s3_types.specs.declared.reply.Reply.{Reply}
use Rattle.s3_types.specs.declared.request.Committer.{Committer}
use Rattle.s3_types.specs.declared.request.Committer.TheVariants.{Magic}
use Rattle.s3_types.specs.declared.request.Request.{Request}
use Rattle.s3_types.specs.declared.request.Request.TheVariants.{ClusterGet, GetObject}
use Rattle.s3_types.specs.declared.request.UploadRef.{UploadRef}
use Rattle.std.proofs.Common.{Bool, List, Ok, Option, Some, ap, arith, drop, false, inl, inr, map, refl, subst, sym, take, true, ℕ, []}
use Rattle.std.proofs.Common.{◌++◌, ◌<◌, ◌^◌, ◌||◌, ◌∙◌, ◌∷◌, ◌≡◌, ◌≤◌, ◌⊎◌}
use Rattle.std.proofs.Math.Bool.{or-true}
use Rattle.std.specs.List.{filter}
use Rattle.store_frame.proofs.Framed.{frame}
use Rattle.store_frame.specs.Frame.{changed_paths}
use Rattle.store_frame.specs.Held.{HasBucket}
use Rattle.std.specs.FinMap as fin
use Rattle.pending_json.specs.Reading as reading

-- ---- the files below the job's directory in the cluster

pub in_or_not : (p : List ℕ) (l : List (List ℕ)) → IsIn p l ⊎ (IsIn p l → ⊥)
in_or_not p [] = inr (λ i. i)
in_or_not p (q ∷ l) = elim (same_or_other p q) [
  | inl is ↦ inl (inl is)
  | inr ne ↦ elim (in_or_not p l) [ inl i ↦ inl (inr i) | inr out ↦ inr (λ i. elim i [ inl is ↦ ne is | inr more ↦ out more ]) ]
]

-- If a request changes only such paths there, all files there still have such paths.
pub filed_keeps : (w : Script) (s : Scene) → HasBucket s.content w.dest.bucket → (r : Request) (o : Outcome)
    → ((p : List ℕ) → IsIn p (changed_paths r) → begins (cluster_prefix w.job) p ≡ true → IsOwnPath w p) → Filed w s
    → Filed w (effect s r o)
filed_keeps w s there r o own h = effect_so (Filed w) s r o h (λ z p bytes b e. elim (in_or_not p (changed_paths r)) [
  | inl i ↦ own p i b
  | inr out ↦ h z p bytes b (sym ((frame s w.dest.bucket r there).files p out) ∙ e)
])

-- ---- it keeps the facts

-- The driver has begun to clean up.
abbrev cleaned_so : Bool → Told → Told
cleaned_so b m = record m { cleaned = b }

abbrev cleaning : Told → Told
cleaning m = cleaned_so true m

record_only : (c : Committer) (w : Script) (p : List ℕ) → only_reads (record_request c w p) ≡ true
record_only c w p = grind arith

pub record_reads : {w : Script} {minimum : ℕ} (j : IsLegal w) (s : Seen) (m : Told) (h : Hold w minimum s m) → (c : Committer) (p : List ℕ)
    → only_reads (record_request c w p) ≡ true
record_reads {w = w} j s m h c p = record_only c w p

-- An upload that it aborts is below the destination.
abbrev pub AbortsBelow : Script → Sparing → Type 0
AbortsBelow w (Aborting u us all) = begins (dest_prefix w) u.key ≡ true
AbortsBelow w _ = Unit {0}

pub aborts_below : {w : Script} {minimum : ℕ} {s : Scene} {last : ℕ → Option ℕ} {m : Told} → IsLegal w → Facts w minimum s last m
    → (c : Sparing) → FitsSparing w m.drawn c → AbortsBelow w c
aborts_below {w = w} j h (Aborting u us all) f = let x = f.0 u (inl refl) in let own = h.owned x.0 x.1 x.2 in ap (begins (dest_prefix w))
    (sym x.4 ∙ own.key) ∙ dest_below j own.file.0
aborts_below j h _ f = tt

-- What it sends.
pub sparing_asked : (w : Script) (drawn : Who → List Drawn) (c : Sparing) (r : Request) → sparing_asks w c ≡ Some r
    → IsClearing w true (AbortsBelow w c) (FitsSparing w drawn c) r
sparing_asked w drawn (Reading named p ps all) r e = reads r (ap only_reads (sym (some_is e)) ∙ record_only w.committer w p)
sparing_asked w drawn (Aborting u us all) r e = subst (IsClearing w true _ _) (some_is e) (aborts u (λ b. b))
sparing_asked w drawn (Deleting q qs) r e = subst (IsClearing w true _ _) (some_is e)
    (batches (take 1000 (q ∷ qs)) refl (λ f k i. f k (taken_in 1000 (q ∷ qs) k i)))
sparing_asked w drawn (Removing p ps) r e = subst (IsClearing w true _ _) (some_is e) (removes p refl)
sparing_asked w drawn (SparingOver end) r e = absurd cc
sparing_asked w drawn _ r e = reads r (ap only_reads (sym (some_is e)))

module _ {w : Script} {minimum : ℕ} (j : IsLegal w) (s : Seen) (m : Told) (h : Hold w minimum s m) where
  -- It keeps the facts, with an entry of its event or of a later one.
  pub sparing_keeps : (n : ℕ) → is_begun m.cleans_at n ≡ true → (c : Sparing) → (r : Request) → sparing_asks w c ≡ Some r → (o : Outcome)
      → Facts w minimum (effect s.scene r o) s.last (at_event n (tell_driver m r o))
  sparing_keeps n timely c r e o = subst (Facts w minimum (effect s.scene r o) s.last) (sym same)
      (clearing_effect {m = cleaning m} j s.scene cleans r (sparing_asked w m.drawn c r e) o)
    where
      same : at_event n (tell_driver m r o) ≡ tell_driver (cleaning m) r o
      same = ap (λ b. cleaned_so b (tell_driver m r o)) (ap (λ b. m.cleaned || b) timely ∙ or-true m.cleaned)

      cleans : Hold w minimum s (cleaning m)
      cleans = facts_so s.scene s.scene.files h h.ids h.owned h.records h.sets (λ c. absurd (false_true c refl)) h.temporaries h.kept

-- ---- what records and sets name

module _ {w : Script} {minimum : ℕ} {s : Scene} {last : ℕ → Option ℕ} {m : Told} (j : IsLegal w) (f : Facts w minimum s last m)
    (few : s.content.next ≤ 2 ^ 64) where
  abbrev Known : List UploadRef → Type 0
  Known us = AllKnown m.drawn us

  one_known : (a : Who) (g : File) (x : IsWritten w minimum (m.drawn a) g) → Known (ref_of (file_record w a g x.drawn) ∷ [])
  one_known a g x u i = elim i [
    | inl is ↦ (
      a,
      x.drawn,
      x.known,
      ap (λ (v : UploadRef). v.upload) (sym is),
      x.key ∙ ap
          (λ (v : UploadRef). v.key) (sym is),
    )
    | inr none ↦ absurd none
  ]

  -- An upload that the set of an attempt names is that of one of its files.
  pub set_file : (a : Who) (cs : List File) → AreCommits w minimum (m.drawn a) a cs → (bytes : List ℕ)
      → reading.set_of bytes ≡ Ok (files_set w a cs (knowing (m.drawn a))) → (u : UploadRef) → IsIn u (set_names (reading.set_of bytes))
      → (g : File) × IsIn g (files w a) × (x : IsWritten w minimum (m.drawn a) g) × (u ≡ ref_of (file_record w a g x.drawn))
  set_file a cs are bytes e u i =
      let at : IsIn u (map ref_of (map (λ v. file_record w a v (drawn_for (knowing (m.drawn a)) (file_key w v))) cs)) = subst
      (λ v. IsIn u (set_names v)) e i in
      let p = in_map ref_of u (map (λ v. file_record w a v (drawn_for (knowing (m.drawn a)) (file_key w v))) cs) at in
      let g = in_map (λ v. file_record w a v (drawn_for (knowing (m.drawn a)) (file_key w v))) p.0 cs p.1 in
      let mine = are.each g.0 g.1 in
      let x = are.written g.0 mine in
      let is : drawn_for (knowing (m.drawn a)) (file_key w g.0) ≡ x.drawn = ap (λ k. drawn_for (knowing (m.drawn a)) k) (sym x.key) ∙
      drawn_is f a x.drawn x.known in
      (g.0, mine, x, p.2 ∙ ap ref_of (g.2 ∙ ap (file_record w a g.0) is))

  set_known : (a : Who) (cs : List File) → AreCommits w minimum (m.drawn a) a cs → (bytes : List ℕ)
      → reading.set_of bytes ≡ Ok (files_set w a cs (knowing (m.drawn a))) → Known (set_names (reading.set_of bytes))
  set_known a cs are bytes e u i = let x = set_file a cs are bytes e u i in one_known a x.0 x.2 u (inl x.3)

  -- The place of a record.
  record_known : is_magic w.committer ≡ true → (p : List ℕ) → is_record p ≡ true → (q : Place) → IsOwnPlace w q
      → p ≡ key_at w.dest.key w.job q → (x : Object) → at_key w s.content p ≡ Some x → Known (record_names (reading.pending_of x.bytes))
  record_known magic p h (FilePlace v) own e x there = absurd own
  record_known magic p h (MarkerPlace t a v) own e x there = absurd (marker_no_record w.dest.key w.job t a v (some_dest j)
      (ap is_record own.2 ∙ no_record j magic (record { task = t; attempt = a }) own.0 own.1) (ap is_record (sym e) ∙ h))
  record_known magic p h (RecordPlace t a v) own e x there =
      let who : Who = record { task = t; attempt = a } in
      let at : p ≡ key_at w.dest.key w.job (RecordPlace t a own.0.0) = e ∙ ap (λ y. key_at w.dest.key w.job (RecordPlace t a y)) own.2 in
      let r = f.records magic who own.0 x own.1 (ap (at_key w s.content) (sym at) ∙ there) in
      subst (λ v. Known (record_names v)) (sym (ap reading.pending_of r.bytes ∙ record_read j f few who own.0 own.1 r.written))
      (one_known who own.0 r.written)
  record_known magic p h (SetPlace t) own e x there = absurd (set_no_record w.dest.key w.job t (ap is_record (sym e) ∙ h))
  record_known magic p h SuccessPlace own e x there = absurd own

  magic_known : is_magic w.committer ≡ true → (p : List ℕ) → begins (magic_prefix w.dest.key w.job) p ≡ true → is_record p ≡ true
      → Known (names (answer s (GetObject w.dest.bucket p)))
  magic_known magic p b h =
      let due : answer s (GetObject w.dest.bucket p) ≡ found (at_key w s.content p) = answer_is w s f.there.0 f.there.1
      (GetObject w.dest.bucket p) refl ∙ ap found (sym (key_before w s f.there.0 f.there.1 p)) in
      subst (λ y. Known (names y)) (sym due) (elim (none_or_some (at_key w s.content p)) [
        | inl none ↦ subst (λ o. Known (names (found o))) (sym none) (λ u i. absurd i)
        | inr x ↦ subst (λ o. Known (names (found o))) (sym x.1) (let y = f.below magic p x.0 b x.1 in record_known magic p h y.0 y.1 y.2
            x.0 x.1)
      ])

  -- The place of a file of the job in the cluster.
  path_known : is_staging w.committer ≡ true → Filed w s → (p : List ℕ) → begins (cluster_prefix w.job) p ≡ true
      → Known (names (answer s (ClusterGet p)))
  path_known staging filed p b = elim (none_or_some (fin.get s.files p)) [
    | inl none ↦ subst (λ o. Known (names (read_answer o))) (sym none) (λ u i. absurd i)
    | inr y ↦ subst (λ o. Known (names (read_answer o))) (sym y.1) (elim (filed staging p y.0 b y.1) [
      | inl t ↦
          let x = f.temporaries staging t.0 y.0 t.1 (ap (fin.get s.files) (sym t.2) ∙ y.1) in
          set_known t.0 (files w t.0) x.are y.0 (ap reading.set_of x.text ∙ set_read j f few t.0 (files w t.0) t.1 x.are)
      | inr t ↦
          let x = f.sets t.0 y.0 t.1 (staged_set w.committer w s t.0 staging ∙ ap (fin.get s.files) (sym t.2) ∙ y.1) in
          let d : IsAttempt w x.by = record { task = subst (λ n. n < w.tasks) (sym x.task) t.1; attempt = x.number } in
          set_known x.by x.commits x.are y.0 (ap reading.set_of x.text ∙ set_read j f few x.by x.commits d x.are)
    ])
  ]

-- ---- its state afterwards

module _ (w : Script) (drawn : Who → List Drawn) where
  abbrev Fit : Sparing → Type 0
  Fit c = FitsSparing w drawn c

  fits_deleting : (all : List (List ℕ)) → AllMagic w all → Fit (deleting all)
  fits_deleting [] h = tt
  fits_deleting (k ∷ ks) h = h

  fits_removing : (all : List (List ℕ)) → AllCluster w all → Fit (removing all)
  fits_removing [] h = tt
  fits_removing (p ∷ ps) h = h

  fits_emptying : (c : Committer) → w.committer ≡ c → (all : List (List ℕ)) → AllOwn w all → Fit (emptying c all)
  fits_emptying Magic e all h = fits_deleting all (h.keys (ap is_magic e))
  fits_emptying _ e all h = fits_removing all (h.paths (ap is_staging e))

  fits_aborting : (us : List UploadRef) (all : List (List ℕ)) → AllKnown drawn us → AllOwn w all → Fit (aborting w.committer us all)
  fits_aborting [] all k h = fits_emptying w.committer refl all h
  fits_aborting (u ∷ us) all k h = (k, h)

  abbrev AreRecords : List (List ℕ) → Type 0
  AreRecords ps = is_magic w.committer ≡ true → (k : List ℕ) → IsIn k ps → is_record k ≡ true

  fits_reading : (named : List UploadRef) (ps all : List (List ℕ)) → AllKnown drawn named → AllOwn w ps → AllOwn w all → AreRecords ps
      → Fit (reading_on w.committer named ps all)
  fits_reading named [] all k own h r = fits_aborting named all k h
  fits_reading named (p ∷ ps) all k own h r = (k, own, h, r)

  own_keys : is_magic w.committer ≡ true → (ks : List (List ℕ)) → AllMagic w ks → AllOwn w ks
  own_keys magic ks h = record { keys = λ e. h; paths = λ e. absurd (not_both w.committer magic e) }

  fits_walked : is_magic w.committer ≡ true → (more : Bool) (keys : List (List ℕ)) → AllMagic w keys
      → Fit (walking w.committer (walked_by more keys))
  fits_walked magic true keys h = (magic, h)
  fits_walked magic false keys h =
      fits_reading [] (filter is_record keys) keys (λ u i. absurd i) (own_keys magic (filter is_record keys)
      (λ k i. h k (in_filter is_record k keys i).0)) (own_keys magic keys h) (λ e k i. (in_filter is_record k keys i).1)

  pub fits_start : (c : Committer) → w.committer ≡ c → Fit (sparing_start c)
  fits_start c h = grind arith

module _ {w : Script} {minimum : ℕ} (j : IsLegal w) (s : Scene) {last : ℕ → Option ℕ} (m : Told) (h : Facts w minimum s last m)
    (filed : Filed w s) (few : s.content.next ≤ 2 ^ 64) where
  abbrev Now : Sparing → Type 0
  Now c = FitsSparing w m.drawn c

  read_known : (c : Committer) → w.committer ≡ c → (p : List ℕ) (ps : List (List ℕ)) → AllOwn w (p ∷ ps) → AreRecords w m.drawn (p ∷ ps)
      → AllKnown m.drawn (names (answer s (record_request c w p)))
  read_known Magic e p ps own r = magic_known j h few (ap is_magic e) p (own.keys (ap is_magic e) p (inl refl))
      (r (ap is_magic e) p (inl refl))
  read_known _ e p ps own r = path_known j h few (ap is_staging e) filed p (own.paths (ap is_staging e) p (inl refl))

  heard_by : (c : Sparing) → Now c → Each (λ q. (x : Reply) → x ≡ answer s q → Now (sparing_hears w c x)) (sparing_asks w c)
  heard_by (Walking keys) f = λ x e.
      let p = magic_prefix w.dest.key w.job in
      subst (λ y. Now (walking w.committer y)) (sym (page_is w s h.there p keys x e))
      (fits_walked w m.drawn f.0 _ (more_keys w s h.there p keys) (page_each w s h.there p keys (λ k. begins p k ≡ true) (λ k b. b) f.1))
  heard_by Naming staging = λ x e.
      let ps = filter (begins (cluster_prefix w.job)) (fin.keys s.files) in
      let own : AllOwn w ps = record {
        keys = λ e. absurd (not_both w.committer e staging);
        paths = λ e p i.
            (in_filter (begins (cluster_prefix w.job)) p (fin.keys s.files) i).1;
      } in
      subst (λ y. Now (naming w.committer y)) (sym e) (fits_reading w m.drawn [] ps ps (λ u i. absurd i) own own
      (λ e k i. absurd (not_both w.committer e staging)))
  heard_by (Reading named p ps all) f = λ x e.
      fits_reading w m.drawn (named ++ names x) ps all (λ u i. elim (in_append u named (names x) i) [
        | inl old ↦ f.0 u old
        | inr new ↦ read_known w.committer refl p ps f.1 f.3 u (subst (λ y. IsIn u (names y)) e new)
      ]) (record { keys = λ z k i. f.1.keys z k (inr i); paths = λ z k i. f.1.paths z k (inr i) }) f.2 (λ z k i. f.3 z k (inr i))
  heard_by (Aborting u us all) f = λ x e. fits_aborting w m.drawn us all (λ v i. f.0 v (inr i)) f.1
  heard_by (Deleting k ks) f = λ x e. fits_deleting w m.drawn (drop 1000 (k ∷ ks)) (λ v i. f v (dropped_in 1000 (k ∷ ks) v i))
  heard_by (Removing p ps) f = λ x e. fits_removing w m.drawn ps (λ v i. f v (inr i))
  heard_by (SparingOver end) f = tt

  pub sparing_goes : (t : Retried Sparing) → Now t.operation → (r : Request) → sparing_asks w t.operation ≡ Some r → (o : Outcome)
      → IsHonestOutcome o (answer s r) → Now (step w.retries (sparing_after w) t o).operation
  sparing_goes t f r e o honest = step_by (λ v. Now) w.retries (sparing_after w) t (answer s r) o honest
      (each_so (λ q. (x : Reply) → x ≡ answer s q → Now (sparing_hears w t.operation x)) r e (heard_by t.operation f)) (λ none. f)
      (λ none. tt)
