-- The driver's set-up leaves nothing in the job's magic directory, and changes nothing else but the success marker.
use Rattle.text_and_lists.proofs.Members.{false_true, none_or_some, none_some, some_is, text_left, text_other, true_or_false}
use Rattle.text_and_lists.specs.Members.{IsIn}
use Rattle.text_and_lists.specs.Order.{text_cmp}
use Rattle.job_invariant.proofs.Aborting.{taken_in}
use Rattle.job_invariant.proofs.Emptying.{Emptied, reads_same, still_there, sweep_begins, sweep_empties, sweep_still}
use Rattle.job_invariant.proofs.Going.{Each, effect_so, step_asked}
use Rattle.job_invariant.proofs.Legal.{some_dest}
use Rattle.job_invariant.proofs.Shapes.{id_after, id_before, store_is}
use Rattle.job_invariant.proofs.Shows.{hidden_shows, view_by}
use Rattle.job_invariant.proofs.Undone.{deletes_drop}
use Rattle.job_invariant.specs.Emptying.{SetsUp}
use Rattle.job_invariant.specs.Foreign.{IsForeign}
use Rattle.job_invariant.specs.FactsKeep.{IsBare}
use Rattle.job_invariant.specs.SetupLaws.{ClearsAlone}
use Rattle.job_invariant.specs.Stores.{at_id, at_key}
use Rattle.job_model.specs.Attempts.{Who}
use Rattle.job_model.specs.JobScript.{Script}
use Rattle.job_model.specs.Known.{Drawn}
use Rattle.job_model.specs.Legal.{IsLegal}
use Rattle.job_protocol.proofs.Faults.{if_bucket_so}
use Rattle.job_protocol.specs.Conflicts.{checks_all}
use Rattle.job_protocol.specs.Scope.{NoClusterFile}
use Rattle.job_protocol.specs.Seen.{is_magic, is_staging}
use Rattle.job_protocol.specs.Setup.{Checking, Clearing, Heading, Setup, SetupOver, Sweeping, checked, cleared, dest_prefix, headed}
use Rattle.job_protocol.specs.Setup.{if_bucket, setup_after, setup_asks, setup_hears, sweeping}
use Rattle.job_protocol.specs.View.{Same, is_file_path, is_folder, view}
use Rattle.list_walk.specs.Walks.{Deleting, Sweep, all_go, page_after, sweep_asks, sweep_hears}
use Rattle.magic_paths.proofs.Tails.{below_is}
use Rattle.magic_paths.specs.Layout.{cluster_prefix, magic_prefix, success_key}
use Rattle.path_keys.specs.Paths.{below}
use Rattle.retries.specs.Retries.{Retried, step}
use Rattle.s3_types.specs.Answer.{answer, answer_at, apply, head, renamed, with_objects}
use Rattle.s3_types.specs.Moment.{IsHonestOutcome, effect}
use Rattle.s3_types.specs.Pages.{begins}
use Rattle.s3_types.specs.Requests.{only_reads}
use Rattle.s3_types.specs.Store.{BucketContent, Content, Files, Scene}
use Rattle.s3_types.specs.declared.journal.Outcome.{Outcome}
use Rattle.s3_types.specs.declared.journal.Outcome.TheVariants.{ReplyLost}
use Rattle.s3_types.specs.declared.reply.Reply.{Reply}
use Rattle.s3_types.specs.declared.request.Committer.{Committer}
use Rattle.s3_types.specs.declared.request.Committer.TheVariants.{Magic}
use Rattle.s3_types.specs.declared.request.Request.{Request}
use Rattle.s3_types.specs.declared.request.Request.TheVariants.{DeleteObject, DeleteObjects, HeadObject}
use Rattle.std.proofs.Common.{Bool, List, None, Option, Some, ap, arith, codes, cond, false, inl, inr, not, refl, subst, sym, take, true, ℕ}
use Rattle.std.proofs.Common.{[], ◌&&◌, ◌∙◌, ◌∷◌, ◌≡◌}
use Rattle.std.proofs.lemmas.Bool.{and_parts, false≢true, not-true}
use Rattle.std.proofs.lemmas.List.{append_cancel_left}
use Rattle.std.specs.Prelude.{bytes_eq}
use Rattle.store_frame.proofs.Framed.{frame}
use Rattle.store_frame.proofs.Reading.{reads_nothing}
use Rattle.store_frame.specs.Frame.{changed_paths}
use Rattle.store_frame.specs.Held.{HasBucket}
use Rattle.std.specs.FinMap as fin
use Rattle.job_model.specs.declared.ends.SetupEnd.TheVariants as ends

-- ---- after its requests are answered

module _ (w : Script) (c : Content) (there : HasBucket c w.dest.bucket) where
  sets_cleared : (k : Committer) → w.committer ≡ k → SetsUp w c (cleared k)
  sets_cleared Magic is = (there, (λ q i. absurd i), sweep_begins w c)
  sets_cleared _ is = λ d. (there, λ g. absurd (false≢true (sym (ap is_magic is) ∙ g)))

  sets_sweeping : (t : Option Sweep) → Emptied w c t → SetsUp w c (sweeping t)
  sets_sweeping t h = grind arith

  sets_checked : (keys : List (List ℕ)) (x : Reply) → SetsUp w c (checked w keys x)
  sets_checked keys x = grind arith

module _ (w : Script) (s : Scene) where
  abbrev head_request : Request
  head_request = HeadObject w.dest.bucket w.dest.key

  sets_headed : (o : Option BucketContent) → fin.get s.content.buckets w.dest.bucket ≡ o
      → let x = answer_at o s.content.next s.content.minimum head_request in SetsUp w s.content (if_bucket x (headed w x))
  sets_headed None e = λ d. absurd cc
  sets_headed (Some b) e = elim (fin.get b.objects w.dest.key) as (λ x. SetsUp w s.content (if_bucket (head x) (headed w (head x)))) [
    | None ↦ elim (checks_all w.committer w.mode) as (λ c. SetsUp w s.content (cond c (Checking []) Clearing))
        [ true ↦ (b, e) | false ↦ (b, e) ]
    | Some x ↦ λ d. absurd cc
  ]

  module _ (retries : ℕ) (spare : ℕ) (repeated : Bool) where
    abbrev at : Setup → Retried Setup
    at op = record { operation = op; spare = spare; repeated = repeated }

    heard : (op : Setup) → SetsUp w s.content op → Each (λ q. (x : Reply) → x ≡ answer s q → SetsUp w (apply s q).content
        (setup_hears w op x)) (setup_asks w op)
    heard Heading h = λ x e.
        subst (λ (u : Scene). SetsUp w u.content (if_bucket x (headed w x))) (sym (reads_nothing s head_request refl))
        (subst (λ y. SetsUp w s.content (if_bucket y (headed w y))) (sym e)
        (sets_headed (fin.get s.content.buckets w.dest.bucket) refl))
    heard (Checking keys) h = λ x e.
        let q = page_after w.dest.bucket (dest_prefix w) keys in
        if_bucket_so (SetsUp w (apply s q).content) x (checked w keys x) (λ d. absurd cc)
        (sets_checked w (apply s q).content (still_there w s q ReplyLost h) keys x)
    heard Clearing h = λ x e.
        let q = DeleteObject w.dest.bucket (success_key w.dest.key) in
        if_bucket_so (SetsUp w (apply s q).content) x (cleared w.committer) (λ d. absurd cc)
        (sets_cleared w (apply s q).content (still_there w s q ReplyLost h) w.committer refl)
    heard (Sweeping t) h = λ x e.
        let q = sweep_asks w.dest.bucket (magic_prefix w.dest.key w.job) t in
        if_bucket_so (SetsUp w (apply s q).content) x (sweeping (sweep_hears all_go t x)) (λ d. absurd cc)
        (sets_sweeping w (apply s q).content (still_there w s q ReplyLost h.0) (sweep_hears all_go t x)
        (sweep_empties w s h.0 t h.1 h.2 x e))
    heard (SetupOver end) h = tt

    still : (op : Setup) → SetsUp w s.content op → (o : Outcome) → Each (λ q. SetsUp w (effect s q o).content op) (setup_asks w op)
    still (Sweeping t) h o = (
      still_there w s (sweep_asks w.dest.bucket (magic_prefix w.dest.key w.job) t) o h.0,
      h.1,
      sweep_still w s h.0 t
          h.1 h.2 o,
    )
    still (Checking keys) h o = still_there w s (page_after w.dest.bucket (dest_prefix w) keys) o h
    still Clearing h o = still_there w s (DeleteObject w.dest.bucket (success_key w.dest.key)) o h
    still _ h o = tt

    pub setup_goes : (op : Setup) → SetsUp w s.content op → (r : Request) → setup_asks w op ≡ Some r → (o : Outcome)
        → IsHonestOutcome o (answer s r)
        → SetsUp w (effect s r o).content (step retries (setup_after w) (at op) o).operation
    setup_goes op h r e o honest = step_asked (λ q v. SetsUp w (effect s q v).content) retries (setup_after w) (at op) (answer s) r e o
        honest (heard op h) (λ none. still op h o) (λ z. absurd cc)

-- ---- it changes nothing else

-- A visible file is not the success marker.
pub no_success : {w : Script} → IsLegal w → (p : List ℕ) → is_file_path p ≡ true → below w.dest.key p ≡ success_key w.dest.key → ⊥
no_success {w = w} j p h e =
    let same : 47 ∷ p ≡ codes "/_SUCCESS" = append_cancel_left w.dest.key (47 ∷ p) (codes "/_SUCCESS")
    (sym (below_is w.dest.key p (some_dest j)) ∙ e) in
    let path : p ≡ codes "_SUCCESS" = cc in
    let other = not-true (bytes_eq p (codes "_SUCCESS")) (and_parts (not (is_folder p) && not (begins (codes "__magic/") p))
    (not (bytes_eq p (codes "_SUCCESS"))) h).1 in
    false_true other (ap (λ q. bytes_eq q (codes "_SUCCESS")) path)

pub view_but : {w : Script} → IsLegal w → (c d : Content) → ((k : List ℕ) → (k ≡ success_key w.dest.key → ⊥) → at_key w d k ≡ at_key w c k)
    → Same (view w.dest d) (view w.dest c)
view_but {w = w} j c d same = view_by w c d (λ p h. same (below w.dest.key p) (no_success j p h))

alone_same : (w : Script) (s : Scene) → ClearsAlone w s s
alone_same w s = record { shows = λ p. refl; keys = λ k b ne. refl; uploads = λ id. refl; files = refl }

module _ (w : Script) (j : IsLegal w) (s : Scene) where
  abbrev marker : Request
  marker = DeleteObject w.dest.bucket (success_key w.dest.key)

  marker_alone : HasBucket s.content w.dest.bucket → ClearsAlone w s (apply s marker)
  marker_alone there =
      let f = frame s w.dest.bucket marker there in
      let other : (k : List ℕ) → (k ≡ success_key w.dest.key → ⊥)
      → at_key w (apply s marker).content k ≡ at_key w s.content k = λ k ne. f.keys k
      (λ e i. elim i [ inl is ↦ ne is | inr none ↦ none ]) in
      let left = with_objects there.0 (fin.remove there.0.objects (success_key w.dest.key)) in
      let is = store_is w s there.0 there.1 marker in
      record {
        shows = view_but j s.content (apply s marker).content other;
        keys = λ k b ne. other k ne;
        uploads = λ id. ap (λ c. at_id w c id) is ∙ id_after w s there.0 there.1 left s.content.next id ∙ sym
            (id_before w s there.0 there.1 id);
        files = refl;
      }

  batch_alone : HasBucket s.content w.dest.bucket → (keys : List (List ℕ))
      → ((k : List ℕ) → IsIn k keys → begins (magic_prefix w.dest.key w.job) k ≡ true)
      → ClearsAlone w s (apply s (DeleteObjects w.dest.bucket keys))
  batch_alone there keys all =
      let r = DeleteObjects w.dest.bucket keys in
      record {
        shows = hidden_shows j s r ReplyLost there (λ e k i. all k i);
        keys = λ k b ne. (frame s w.dest.bucket r there).keys k (λ e i. false_true b (all k i));
        uploads = (deletes_drop w s keys there).uploads;
        files = refl;
      }

  pub setup_alone : (op : Setup) → SetsUp w s.content op → (r : Request) → setup_asks w op ≡ Some r → (o : Outcome)
      → ClearsAlone w s (effect s r o)
  setup_alone Clearing h r e o = subst (λ q. ClearsAlone w s (effect s q o)) (some_is e)
      (effect_so (ClearsAlone w s) s marker o (alone_same w s) (marker_alone h))
  setup_alone (Sweeping (Deleting q qs)) h r e o =
      let ks = take 1000 (q ∷ qs) in
      subst (λ q. ClearsAlone w s (effect s q o)) (some_is e) (effect_so (ClearsAlone w s) s (DeleteObjects w.dest.bucket ks) o
      (alone_same w s) (batch_alone h.0 ks (λ k i. h.1 k (taken_in 1000 (q ∷ qs) k i))))
  setup_alone (SetupOver end) h r e o = absurd cc
  setup_alone _ h r e o = subst (ClearsAlone w s) (sym (reads_same s r o (ap only_reads (sym (some_is e))))) (alone_same w s)

-- ---- among strangers, and at its end

setup_same : (w : Script) (c d : Content) → (HasBucket c w.dest.bucket → HasBucket d w.dest.bucket)
    → (HasBucket c w.dest.bucket → (k : List ℕ) → begins (magic_prefix w.dest.key w.job) k ≡ true → at_key w d k ≡ at_key w c k)
    → (op : Setup) → SetsUp w c op → SetsUp w d op
setup_same w c d h g op e = grind arith

pub setup_beside : (w : Script) (drawn : Who → List Drawn) (s : Scene) (op : Setup) → SetsUp w s.content op → (r : Request)
    → IsForeign w drawn r → (o : Outcome) → SetsUp w (effect s r o).content op
setup_beside w drawn s op h r f o =
    effect_so (λ u. SetsUp w u.content op) s r o h
    (setup_same w s.content (apply s r).content (λ there. (frame s w.dest.bucket r there).there there.0 there.1)
    (λ there k b. (frame s w.dest.bucket r there).keys k (λ e i. false_true (f.keys e k i) b)) op h)

pub setup_done : (w : Script) (s : Scene) → SetsUp w s.content (SetupOver ends.Done) → (is_staging w.committer ≡ true → NoClusterFile w s)
    → HasBucket s.content w.dest.bucket × IsBare w s
setup_done w s h none =
    let g = h refl in (
      g.0,
      record {
        keys = λ m k b. elim (none_or_some (at_key w s.content k)) [ inl e ↦ e | inr x ↦ absurd (g.1 m k x.0 b refl x.1) ];
        paths = λ m p b. elim (none_or_some (fin.get s.files p)) [ inl e ↦ e | inr x ↦ absurd (false_true (none m p x.0 x.1) b) ];
      },
    )

-- ---- the job's files in the cluster

pub empty_none : (w : Script) (s : Scene) → s.files ≡ fin.empty → NoClusterFile w s
empty_none w s e p bytes y = absurd (none_some (ap (λ f. fin.get f p) e ∙ fin.get-empty text_cmp p) y)

pub setup_no_file : (w : Script) → IsLegal w → (s : Scene) (t : Setup) → SetsUp w s.content t → (r : Request) → setup_asks w t ≡ Some r
    → (o : Outcome) → NoClusterFile w s → NoClusterFile w (effect s r o)
setup_no_file w j s t h r e o none p bytes y = none p bytes (ap (λ f. fin.get f p) (sym (setup_alone w j s t h r e o).files) ∙ y)

-- A file stays if a request does not name its path, also if there is no bucket.
renamed_left : (m : Files) (source target : List ℕ) (o : Option (List ℕ)) (p : List ℕ) → (IsIn p (source ∷ target ∷ []) → ⊥)
    → fin.get (renamed m source target o) p ≡ fin.get m p
renamed_left m source target None p free = refl
renamed_left m source target (Some bytes) p free = text_other (fin.remove m source) target p bytes (λ e. free (inr (inl e))) ∙ text_left m
    source p (λ e. free (inl e))

files_left : (s : Scene) (r : Request) (p : List ℕ) → (IsIn p (changed_paths r) → ⊥) → fin.get (apply s r).files p ≡ fin.get s.files p
files_left s r p h = grind (arith, text_other, renamed_left, text_left)

-- A stranger changes no path of the job.
pub strange_no_file : (w : Script) (drawn : Who → List Drawn) (s : Scene) (r : Request) → IsForeign w drawn r → (o : Outcome)
    → NoClusterFile w s → NoClusterFile w (effect s r o)
strange_no_file w drawn s r f o h = effect_so (NoClusterFile w) s r o h (λ p bytes y. elim
    (true_or_false (begins (cluster_prefix w.job) p)) [
      | inr free ↦ free
      | inl own ↦ h p bytes (sym (files_left s r p (λ i. false_true (f.paths p i) own)) ∙ y)
    ])
