-- What an abort or clean at a shared destination has still to remove, while no attempt of its side sends.
use Rattle.text_and_lists.proofs.Members.{false_true, filter_in, in_back, in_filter, in_front, map_in, none_or_some, none_some}
use Rattle.text_and_lists.proofs.Members.{same_or_other}
use Rattle.text_and_lists.proofs.Members.{some_is, text_exact, text_gone, text_left, text_true}
use Rattle.text_and_lists.specs.Members.{IsIn}
use Rattle.text_and_lists.specs.Order.{text_cmp}
use Rattle.job_invariant.proofs.Emptying.{Emptied, sweep_begins, sweep_empties, sweep_same, sweep_still}
use Rattle.job_invariant.proofs.EndedGone.{stays_gone}
use Rattle.job_invariant.proofs.Going.{effect_so, step_so}
use Rattle.job_invariant.proofs.Live.{find_in}
use Rattle.job_invariant.proofs.Shapes.{abort_turns}
use Rattle.job_invariant.specs.Clearing.{FilesIn}
use Rattle.job_invariant.specs.Driver.{AllMagic}
use Rattle.job_invariant.specs.Emptying.{Empties, OnlyThese}
use Rattle.job_invariant.specs.Filed.{HasItsKey}
use Rattle.job_invariant.specs.Spares.{AllKnown, FitsSparing}
use Rattle.job_invariant.specs.Stores.{at_id, at_key}
use Rattle.job_model.specs.Attempts.{Who}
use Rattle.job_model.specs.JobScript.{Script}
use Rattle.job_model.specs.Known.{Drawn}
use Rattle.job_protocol.specs.Seen.{is_magic, is_staging}
use Rattle.job_protocol.specs.Sparing.{Aborting, Naming, Reading, Removing, Sparing, SparingOver, Walking, aborting, deleting, emptying}
use Rattle.job_protocol.specs.Sparing.{names, naming, reading_on, record_request, removing, sparing_after, sparing_asks, sparing_hears}
use Rattle.job_protocol.specs.Sparing.{sparing_start, walking}
use Rattle.list_walk.specs.Walks.{Deleting, Listing, More, Sweep, Walked, Whole, all_go, page_after, walked}
use Rattle.magic_paths.specs.Layout.{cluster_prefix, magic_prefix}
use Rattle.magic_paths.specs.Places.{is_record}
use Rattle.retries.specs.Retries.{step}
use Rattle.s3_types.specs.Answer.{answer, apply}
use Rattle.s3_types.specs.Moment.{IsHonestOutcome, effect}
use Rattle.s3_types.specs.Pages.{begins}
use Rattle.s3_types.specs.Requests.{only_reads}
use Rattle.s3_types.specs.Store.{Scene}
use Rattle.s3_types.specs.declared.journal.Outcome.{Outcome}
use Rattle.s3_types.specs.declared.journal.Outcome.TheVariants.{ReplyLost}
use Rattle.s3_types.specs.declared.reply.Reply.{Reply}
use Rattle.s3_types.specs.declared.request.Committer.{Committer}
use Rattle.s3_types.specs.declared.request.Committer.TheVariants.{Magic}
use Rattle.s3_types.specs.declared.request.Request.{Request}
use Rattle.s3_types.specs.declared.request.Request.TheVariants.{AbortUpload, ClusterDelete, ClusterList, DeleteObjects}
use Rattle.s3_types.specs.declared.request.UploadRef.{UploadRef}
use Rattle.std.proofs.Common.{Bool, List, None, Option, Some, ap, arith, drop, inl, inr, refl, subst, sym, take, true, ℕ, [], ◌++◌, ◌<◌}
use Rattle.std.proofs.Common.{◌∙◌, ◌∷◌, ◌≡◌, ◌⊎◌}
use Rattle.std.specs.List.{filter}
use Rattle.store_frame.proofs.Framed.{frame}
use Rattle.store_frame.proofs.Reading.{reads_nothing}
use Rattle.store_frame.specs.Held.{HasBucket}
use Rattle.twin_facts.proofs.Keyed.{Keyed}
use Rattle.twin_facts.specs.Spared.{NamedAt}
use Rattle.std.specs.FinMap as fin
use Rattle.job_model.specs.declared.ends.CleanEnd.TheVariants as ends
use Rattle.list_walk.specs.Walks as walks
use Rattle.job_protocol.specs.Sparing as sparing

-- The upload is gone.
abbrev pub Dead : Script → Scene → ℕ → Type 0
Dead w s id = (id < s.content.next) × (at_id w s.content id ≡ None)

-- Nothing of the job's own has changed since the first scene.
pub record Same (w : Script) (first s : Scene) : Type 0 where
  pub keys : (k : List ℕ) → begins (magic_prefix w.dest.key w.job) k ≡ true → at_key w s.content k ≡ at_key w first.content k
  pub files : (p : List ℕ) → begins (cluster_prefix w.job) p ≡ true → fin.get s.files p ≡ fin.get first.files p

-- Each file in the job's directory is at one of these places.
pub record Rest (w : Script) (s : Scene) (all : List (List ℕ)) : Type 0 where
  pub keys : is_magic w.committer ≡ true → OnlyThese w s.content all
  pub files : is_staging w.committer ≡ true → FilesIn w s all

-- A file at this place named the upload in the first scene.
abbrev pub Named : Script → Scene → List ℕ → UploadRef → Type 0
Named w first p u = NamedAt w.committer w first p u

abbrev pub AllDead : Script → Scene → Scene → Type 0
AllDead w first s = (p : List ℕ) (u : UploadRef) → Named w first p u → Dead w s u.upload

-- The state of the abort or clean fits what has changed since the first scene.
abbrev pub Leaving : Script → Scene → Scene → Sparing → Type 0
Leaving w first s (Walking keys) = Same w first s × Empties w s.content (Listing keys)
Leaving w first s Naming = Same w first s
Leaving w first s (Reading named p ps all) = Same w first s × Rest w s all
    × ((q : List ℕ) (u : UploadRef) → Named w first q u → IsIn q (p ∷ ps) ⊎ IsIn u named)
Leaving w first s (Aborting v vs all) = Rest w s all
    × ((q : List ℕ) (u : UploadRef) → Named w first q u → IsIn u (v ∷ vs) ⊎ Dead w s u.upload)
Leaving w first s (sparing.Deleting k ks) = (w.committer ≡ Magic) × OnlyThese w s.content (k ∷ ks) × AllDead w first s
Leaving w first s (Removing p ps) = (is_staging w.committer ≡ true) × FilesIn w s (p ∷ ps) × AllDead w first s
Leaving w first s (SparingOver end) = end ≡ ends.Done → Rest w s [] × AllDead w first s

-- ---- a request that leaves the job's own alone keeps that

pub record LeftAlone (w : Script) (s t : Scene) : Type 0 where
  pub keys : (k : List ℕ) → begins (magic_prefix w.dest.key w.job) k ≡ true → at_key w t.content k ≡ at_key w s.content k
  pub files : (p : List ℕ) → begins (cluster_prefix w.job) p ≡ true → fin.get t.files p ≡ fin.get s.files p
  pub dead : (id : ℕ) → Dead w s id → Dead w t id

module _ (w : Script) (first s t : Scene) (h : LeftAlone w s t) where
  same_so : Same w first s → Same w first t
  same_so x = record { keys = λ k b. h.keys k b ∙ x.keys k b; files = λ p b. h.files p b ∙ x.files p b }

  those_so : (keys : List (List ℕ)) → OnlyThese w s.content keys → OnlyThese w t.content keys
  those_so keys x = λ k o b go e. x k o b go (sym (h.keys k b) ∙ e)

  files_so : (ps : List (List ℕ)) → FilesIn w s ps → FilesIn w t ps
  files_so ps x = λ p bytes e b. x p bytes (sym (h.files p b) ∙ e) b

  rest_so : (all : List (List ℕ)) → Rest w s all → Rest w t all
  rest_so all x = record { keys = λ m. those_so all (x.keys m); files = λ m. files_so all (x.files m) }

  dead_so : AllDead w first s → AllDead w first t
  dead_so x = λ p u n. h.dead u.upload (x p u n)

  pub leaving_alone : (c : Sparing) → Leaving w first s c → Leaving w first t c
  leaving_alone (Walking keys) x = (same_so x.0, sweep_same w s.content t.content (Listing keys) h.keys x.1)
  leaving_alone Naming x = same_so x
  leaving_alone (Reading named p ps all) x = (same_so x.0, rest_so all x.1, x.2)
  leaving_alone (Aborting v vs all) x = (rest_so all x.0, λ q u n. elim (x.1 q u n) [ inl i ↦ inl i | inr d ↦ inr (h.dead u.upload d) ])
  leaving_alone (sparing.Deleting k ks) x = (x.0, those_so (k ∷ ks) x.1, dead_so x.2)
  leaving_alone (Removing p ps) x = (x.0, files_so (p ∷ ps) x.1, dead_so x.2)
  leaving_alone (SparingOver end) x = λ e. let y = x e in (rest_so [] y.0, dead_so y.1)

-- A request that names nothing of the job's own.
pub alone_request : (w : Script) (s : Scene) → HasBucket s.content w.dest.bucket → (r : Request)
    → ((k : List ℕ) → begins (magic_prefix w.dest.key w.job) k ≡ true → at_key w (apply s r).content k ≡ at_key w s.content k)
    → ((p : List ℕ) → begins (cluster_prefix w.job) p ≡ true → fin.get (apply s r).files p ≡ fin.get s.files p) → (o : Outcome)
    → LeftAlone w s (effect s r o)
alone_request w s there r keys files o = record {
  keys = λ k b. effect_so (λ (t : Scene). at_key w t.content k ≡ at_key w s.content k) s r o refl (keys k b);
  files = λ p b. effect_so (λ (t : Scene). fin.get t.files p ≡ fin.get s.files p) s r o refl (files p b);
  dead = λ id d. stays_gone w s there id r o d;
}

-- ---- it begins

pub leaving_start : (w : Script) (s : Scene) (c : Committer) → Leaving w s s (sparing_start c)
leaving_start w s Magic = (record { keys = λ k b. refl; files = λ p b. refl }, sweep_begins w s.content)
leaving_start w s _ = record { keys = λ k b. refl; files = λ p b. refl }

-- ---- it goes on

module _ (w : Script) (first s : Scene) where
  abbrev L : Sparing → Type 0
  L c = Leaving w first s c

  left_emptying : (c : Committer) → w.committer ≡ c → (all : List (List ℕ)) → Rest w s all → AllDead w first s → L (emptying c all)
  left_emptying Magic e [] x d = λ done. (x, d)
  left_emptying Magic e (k ∷ ks) x d = (e, x.keys (ap is_magic e), d)
  left_emptying _ e [] x d = λ done. (x, d)
  left_emptying _ e (k ∷ ks) x d = (ap is_staging e, x.files (ap is_staging e), d)

  left_aborting : (vs : List UploadRef) (all : List (List ℕ)) → Rest w s all
      → ((q : List ℕ) (u : UploadRef) → Named w first q u → IsIn u vs ⊎ Dead w s u.upload) → L (aborting w.committer vs all)
  left_aborting [] all x cover = left_emptying w.committer refl all x (λ p u n. elim (cover p u n) [ inl none ↦ absurd none | inr d ↦ d ])
  left_aborting (v ∷ vs) all x cover = (x, cover)

  left_reading : (named : List UploadRef) (ps all : List (List ℕ)) → Same w first s → Rest w s all
      → ((q : List ℕ) (u : UploadRef) → Named w first q u → IsIn q ps ⊎ IsIn u named) → L (reading_on w.committer named ps all)
  left_reading named [] all same x cover = left_aborting named all x (λ q u n. elim (cover q u n)
      [ inl none ↦ absurd none | inr i ↦ inl i ])
  left_reading named (p ∷ ps) all same x cover = (same, x, cover)

  -- What was named is where the job keeps it, as long as nothing has changed.
  named_key : (c : Committer) → w.committer ≡ c → (keys : List (List ℕ)) → is_magic c ≡ true → Same w first s → OnlyThese w s.content keys
      → (q : List ℕ) (u : UploadRef) → NamedAt c w first q u → IsIn q (filter is_record keys)
  named_key Magic e keys m same only q u n = filter_in is_record q keys (only q n.0 n.1 refl (same.keys q n.1 ∙ n.3)) n.2
  named_key _ e keys m same only q u n = absurd (false_true refl m)

  named_path : (c : Committer) → w.committer ≡ c → (ps : List (List ℕ)) → is_staging c ≡ true → Same w first s → FilesIn w s ps
      → (q : List ℕ) (u : UploadRef) → NamedAt c w first q u → IsIn q ps
  named_path Magic e ps m same only q u n = absurd (false_true refl m)
  named_path _ e ps m same only q u n = only q n.0 (same.files q n.1 ∙ n.2) n.1

  magic_only : (c : Committer) → is_magic c ≡ true → is_staging c ≡ true → ⊥
  magic_only c h g = grind arith

  -- After the last page, what was listed is all.
  only_all : (l : List (List ℕ)) → Emptied w s.content (walks.deleting l) → OnlyThese w s.content l
  only_all l h = grind arith

  left_walked : is_magic w.committer ≡ true → Same w first s → (x : Walked (List ℕ)) → Emptied w s.content (walks.swept all_go x)
      → L (walking w.committer x)
  left_walked magic same (More keys) h = (same, h.1)
  left_walked magic same (Whole keys) h =
      let only : OnlyThese w s.content keys = λ k o b go e. (in_filter all_go k keys (only_all (filter all_go keys) h k o b go e)).0 in
      left_reading [] (filter is_record keys) keys same (record { keys = λ m. only; files = λ z. absurd (magic_only w.committer magic z) })
      (λ q u n. inl (named_key w.committer refl keys magic same only q u n))

  module _ (there : HasBucket s.content w.dest.bucket) where
    heard_page : is_magic w.committer ≡ true → (keys : List (List ℕ)) → AllMagic w keys → L (Walking keys) → (x : Reply)
        → x ≡ answer s (page_after w.dest.bucket (magic_prefix w.dest.key w.job) keys) → L (walking w.committer (walked keys x))
    heard_page magic keys own h x e =
        let q = page_after w.dest.bucket (magic_prefix w.dest.key w.job) keys in
        left_walked magic h.0 (walked keys x) (subst (λ (u : Scene). Emptied w u.content (walks.swept all_go (walked keys x)))
        (reads_nothing s q refl) (sweep_empties w s there (Listing keys) own h.1 x e))

    listed_name : (p bytes : List ℕ) → fin.get s.files p ≡ Some bytes → IsIn p (fin.keys s.files)
    listed_name p bytes e = map_in (λ (q : List ℕ × List ℕ). q.0) (p, bytes) (fin.entries s.files)
        (find_in text_cmp text_exact (fin.entries s.files) p bytes (sym (fin.get-entries s.files p) ∙ e))

    heard_names : is_staging w.committer ≡ true → L Naming → (x : Reply) → x ≡ answer s (ClusterList (cluster_prefix w.job))
        → L (naming w.committer x)
    heard_names staging same x e =
        let ps = filter (begins (cluster_prefix w.job)) (fin.keys s.files) in
        let all : FilesIn w s ps = λ p bytes g b. filter_in (begins (cluster_prefix w.job)) p (fin.keys s.files) (listed_name p bytes g) b
        in
        subst (λ y. L (naming w.committer y)) (sym e) (left_reading [] ps ps same
        (record { keys = λ m. absurd (magic_only w.committer m staging); files = λ z. all })
        (λ q u n. inl (named_path w.committer refl ps staging same all q u n)))

    -- A read names the uploads that the file there named.
    read_names : (c : Committer) (p : List ℕ) (u : UploadRef) → Same w first s → NamedAt c w first p u
        → IsIn u (names (answer s (record_request c w p)))
    read_names c p u h g = grind arith

    heard_record : (named : List UploadRef) (p : List ℕ) (ps all : List (List ℕ)) → L (Reading named p ps all) → (x : Reply)
        → x ≡ answer s (record_request w.committer w p) → L (reading_on w.committer (named ++ names x) ps all)
    heard_record named p ps all h x g = grind (arith, left_reading, in_front, in_back, read_names)

-- ---- what an abort, a batch and a removal leave

module _ (w : Script) (first s : Scene) (there : HasBucket s.content w.dest.bucket) where
  pub abort_dead : (q : UploadRef) → HasItsKey w s.content q → Dead w (apply s (AbortUpload w.dest.bucket q.key q.upload)) q.upload
  abort_dead q h = grind (arith, abort_turns, none_or_some, text_true)

  abort_alone : (q : UploadRef) (o : Outcome) → LeftAlone w s (effect s (AbortUpload w.dest.bucket q.key q.upload) o)
  abort_alone q = alone_request w s there (AbortUpload w.dest.bucket q.key q.upload)
      (λ k b. (frame s w.dest.bucket (AbortUpload w.dest.bucket q.key q.upload) there).keys k (λ e i. i))
      (λ p b. (frame s w.dest.bucket (AbortUpload w.dest.bucket q.key q.upload) there).files p (λ i. i))

  heard_abort : (v : UploadRef) (vs : List UploadRef) (all : List (List ℕ)) → HasItsKey w s.content v
      → Leaving w first s (Aborting v vs all) → let t = apply s (AbortUpload w.dest.bucket v.key v.upload) in Leaving w first t
      (aborting w.committer vs all)
  heard_abort v vs all key h =
      let t = apply s (AbortUpload w.dest.bucket v.key v.upload) in
      let a = leaving_alone w first s t (abort_alone v ReplyLost) (Aborting v vs all) h in
      left_aborting w first t vs all a.0 (λ q u n. elim (a.1 q u n) [
        | inr d ↦ inr d
        | inl i ↦ elim i [ inl is ↦ inr (subst (λ (y : UploadRef). Dead w t y.upload) (sym is) (abort_dead v key)) | inr more ↦ inl more ]
      ])

  batch_dead : (keys : List (List ℕ)) → AllDead w first s → AllDead w first (apply s (DeleteObjects w.dest.bucket keys))
  batch_dead keys d p u n = stays_gone w s there u.upload (DeleteObjects w.dest.bucket keys) ReplyLost (d p u n)

  swept_left : (t : Scene) → w.committer ≡ Magic → (x : Option Sweep) → (ks : List (List ℕ)) → x ≡ walks.deleting ks → Emptied w t.content x
      → AllDead w first t → Leaving w first t (deleting ks)
  swept_left t h x ks g e f = grind arith

  heard_batch : (k : List ℕ) (ks : List (List ℕ)) → AllMagic w (k ∷ ks) → Leaving w first s (sparing.Deleting k ks) → (x : Reply)
      → let r = DeleteObjects w.dest.bucket (take 1000 (k ∷ ks)) in x ≡ answer s r
      → Leaving w first (apply s r) (deleting (drop 1000 (k ∷ ks)))
  heard_batch k ks own h x e =
      swept_left (apply s (DeleteObjects w.dest.bucket (take 1000 (k ∷ ks)))) h.0 _ (drop 1000 (k ∷ ks)) refl
      (sweep_empties w s there (Deleting k ks) own h.1 x e) (batch_dead (take 1000 (k ∷ ks)) h.2)

  removed_one : (p : List ℕ) (ps : List (List ℕ)) → FilesIn w s (p ∷ ps) → FilesIn w (apply s (ClusterDelete p)) ps
  removed_one p ps h q bytes e b = elim (same_or_other q p) [
    | inl is ↦ absurd (none_some (text_gone s.files p q is) e)
    | inr ne ↦ elim (h q bytes (sym (text_left s.files p q ne) ∙ e) b) [ inl is ↦ absurd (ne is) | inr i ↦ i ]
  ]

  removed_still : (p : List ℕ) (ps : List (List ℕ)) → FilesIn w s ps → FilesIn w (apply s (ClusterDelete p)) ps
  removed_still p ps h = removed_one p ps (λ q bytes e b. inr (h q bytes e b))

  removed_dead : (p : List ℕ) → AllDead w first s → AllDead w first (apply s (ClusterDelete p))
  removed_dead p d q u n = stays_gone w s there u.upload (ClusterDelete p) ReplyLost (d q u n)

  left_removing : (t : Scene) → is_staging w.committer ≡ true → (ps : List (List ℕ)) → FilesIn w t ps → AllDead w first t
      → Leaving w first t (removing ps)
  left_removing t staging [] h d = λ done. (record { keys = λ m. absurd (magic_only w first s w.committer m staging); files = λ z. h }, d)
  left_removing t staging (p ∷ ps) h d = (staging, h, d)

-- ---- all together

module _ (w : Script) (first s : Scene) (there : HasBucket s.content w.dest.bucket) (drawn : Who → List Drawn)
    (keyed : Keyed w drawn s.content) where
  known_key : (v : UploadRef) (vs : List UploadRef) → AllKnown drawn (v ∷ vs) → HasItsKey w s.content v
  known_key v vs known_all = let x = known_all v (inl refl) in subst (HasItsKey w s.content) (λ i. record { key = x.4 i; upload = x.3 i })
      (keyed x.0 x.1 x.2)

  abbrev After : Sparing → Outcome → Request → Type 0
  After c o r = (retries spare : ℕ) (repeated : Bool) → IsHonestOutcome o (answer s r)
      → Leaving w first (effect s r o) (step retries (sparing_after w) (record { operation = c; spare = spare; repeated = repeated })
      o).operation

  goes_by : (c : Sparing) (r : Request) (o : Outcome) → ((x : Reply) → x ≡ answer s r → Leaving w first (apply s r) (sparing_hears w c x))
      → Leaving w first s c → Leaving w first (apply s r) c → After c o r
  goes_by c r o heard before still retries spare repeated honest =
      step_so retries (sparing_after w) (record { operation = c; spare = spare; repeated = repeated }) o (Leaving w first (effect s r o))
      (λ x is. subst (λ v. Leaving w first (effect s r v) (sparing_hears w c x)) (sym is)
      (heard x (subst (λ v. IsHonestOutcome v (answer s r)) is honest)))
      (λ none. effect_so (λ t. Leaving w first t c) s r o before still) (λ none d. absurd cc)

  reads_by : (c : Sparing) (r : Request) (o : Outcome) → only_reads r ≡ true
      → ((x : Reply) → x ≡ answer s r → Leaving w first s (sparing_hears w c x)) → Leaving w first s c → After c o r
  reads_by c r o reads heard before =
      let same = sym (reads_nothing s r reads) in
      goes_by c r o (λ x e. subst (λ (u : Scene). Leaving w first u (sparing_hears w c x)) same (heard x e)) before
      (subst (λ (u : Scene). Leaving w first u c) same before)

  record_only : (c : Committer) (p : List ℕ) → only_reads (record_request c w p) ≡ true
  record_only c p = grind arith

  pub leaving_goes : (c : Sparing) → FitsSparing w drawn c → Leaving w first s c → (r : Request) → sparing_asks w c ≡ Some r → (o : Outcome)
      → After c o r
  leaving_goes (Walking keys) f h r e o =
      subst (After (Walking keys) o) (some_is e)
      (reads_by (Walking keys) (page_after w.dest.bucket (magic_prefix w.dest.key w.job) keys) o refl
      (heard_page w first s there f.0 keys f.1 h) h)
  leaving_goes Naming f h r e o = subst (After Naming o) (some_is e) (reads_by Naming (ClusterList (cluster_prefix w.job)) o refl
      (heard_names w first s there f h) h)
  leaving_goes (Reading named p ps all) f h r e o =
      subst (After (Reading named p ps all) o) (some_is e)
      (reads_by (Reading named p ps all) (record_request w.committer w p) o (record_only w.committer p)
      (heard_record w first s there named p ps all h) h)
  leaving_goes (Aborting v vs all) f h r e o =
      subst (After (Aborting v vs all) o) (some_is e)
      (goes_by (Aborting v vs all) (AbortUpload w.dest.bucket v.key v.upload) o
      (λ x due. heard_abort w first s there v vs all (known_key v vs f.0) h) h
      (leaving_alone w first s (apply s (AbortUpload w.dest.bucket v.key v.upload)) (abort_alone w first s there v ReplyLost)
      (Aborting v vs all) h))
  leaving_goes (sparing.Deleting k ks) f h r e o =
      subst (After (sparing.Deleting k ks) o) (some_is e)
      (goes_by (sparing.Deleting k ks) (DeleteObjects w.dest.bucket (take 1000 (k ∷ ks))) o (heard_batch w first s there k ks f h) h
      (h.0, sweep_still w s there (Deleting k ks) f h.1 ReplyLost, batch_dead w first s there (take 1000 (k ∷ ks)) h.2))
  leaving_goes (Removing p ps) f h r e o =
      subst (After (Removing p ps) o) (some_is e)
      (goes_by (Removing p ps) (ClusterDelete p) o
      (λ x due. left_removing w first s there (apply s (ClusterDelete p)) h.0 ps (removed_one w first s there p ps h.1)
      (removed_dead w first s there p h.2)) h (h.0, removed_still w first s there p (p ∷ ps) h.1, removed_dead w first s there p h.2))
  leaving_goes (SparingOver end) f h r e o = absurd cc
